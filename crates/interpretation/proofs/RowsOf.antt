-- Rows of a drawn interpretation: the block that is filled with them, and one row of a block.
use mathlib.Core.Path.{◌≡◌, refl, sym, ap, ap₂, ◌∙◌}
use mathlib.Core.List.{List, ◌++◌}
use Prim.Native.Nat.{ℕ, ◌+◌, ◌*◌, ◌/◌, ◌%◌, ◌≤◌, ◌<◌}
use native.Mathlib.Omega.{arith}
use lib.ListN.{get_or, take, drop, length, length-drop, get_or-append}
use lib.Seq.{get_or-take, get_or-drop, length-take-le}
use Rattle.bitset.specs.Bits.{bit, word}
use Rattle.bitset.proofs.Laws.{word_ext}
use Rattle.semantics.specs.Projection.{role_bit}
use Rattle.drawings.specs.Entries.{entries_of, connections_of}
use Rattle.drawings.specs.Checking.{connects, is_plain, file_fault, individuals, roles_between}
use Rattle.syntax.proofs.Promised.{all_more}
use Rattle.drawings.proofs.Faultless.{Within, individuals-few, connections-within}
use Rattle.drawings.proofs.RoleBits.{role_set_eight}
use Rattle.drawing_rows.specs.Rows.{byte_at, AllNumbered, RowsFilled}
use Rattle.drawing_rows.proofs.Numbering.{all_numbered}
use Rattle.interpretation.specs.declared.drawing.Drawing.{Drawing}
use Rattle.interpretation.specs.Drawings.{view_of, drawn, count_of, RowOf, BlockOf}

-- ---- bytes of parts of words

-- words that agree on one of them
byte_same : (ws vs : List ℕ) (p q : ℕ) → q % 8 ≡ p % 8 → get_or vs (q / 8) 0 ≡ get_or ws (p / 8) 0 → byte_at vs q ≡ byte_at ws p
unfolding byte_at
byte_same ws vs p q e f =
    word_ext 8 _ _
    (λ b h.
    let i : (8 * q + b) / 64 ≡ q / 8 = omega arith in
    let j : (8 * p + b) / 64 ≡ p / 8 = omega arith in
    let k : (8 * q + b) % 64 ≡ (8 * p + b) % 64 = omega arith in
    ap₂ bit (ap (λ (n : ℕ). get_or vs n 0) i ∙ f ∙ sym (ap (λ (n : ℕ). get_or ws n 0) j)) k)

byte_front : (ws vs : List ℕ) (p : ℕ) → p / 8 < length ws → byte_at (ws ++ vs) p ≡ byte_at ws p
byte_front ws vs p h = byte_same ws (ws ++ vs) p p refl (get_or-append ws vs 0 (p / 8) h)

byte_row : (ws : List ℕ) (i y : ℕ) → y < 1024 → byte_at (take 128 (drop (i * 128) ws)) y ≡ byte_at ws (1024 * i + y)
byte_row ws i y h =
    let e : i * 128 + y / 8 ≡ (1024 * i + y) / 8 = omega arith in
    byte_same ws (take 128 (drop (i * 128) ws)) (1024 * i + y) y (omega arith)
    (get_or-take 128 (drop (i * 128) ws) (y / 8) 0 (omega arith) ∙ get_or-drop (i * 128) ws (y / 8) 0 ∙ ap (λ (n : ℕ). get_or ws n 0) e)

-- ---- what a file without a fault says

module _ (d : Drawing) where
  -- as many individuals as the code counts
  pub counted : individuals (view_of d) (drawn d) ≡ count_of d
  counted = ap (λ (l : List ℕ). length l) (sym d.read)

  -- there are at most 1,024 individuals
  pub count_few : count_of d ≤ 1024
  unfolding file_fault
  count_few = omega (arith, counted, individuals-few (is_plain (view_of d)) d.base.now.size.roles 0 (entries_of d.file.now) (omega arith) d.sound)

  pub drawn_numbered : AllNumbered (connections_of (entries_of d.file.now))
  unfolding file_fault
  drawn_numbered = all_numbered (is_plain (view_of d)) d.base.now.size.roles (entries_of d.file.now) d.base.now.few d.sound

  -- eight bits are enough for a role set
  roles_eight : (x y : ℕ) → word 8 (role_bit (connects (connections_of (entries_of d.file.now))) x y) ≡ roles_between (view_of d) (drawn d) x y
  unfolding file_fault roles_between
  roles_eight x y =
      let cs = connections_of (entries_of d.file.now) in
      let L = d.base.now.size.roles in
      role_set_eight L cs
      (all_more (Within L _) (λ c. c.role < L) (λ c w. w.0) cs (connections-within (is_plain (view_of d)) L 0 (entries_of d.file.now) d.sound))
      d.base.now.few x y

  -- the rows that are filled, before other words
  pub filled_block : (start count : ℕ) (before words rest : List ℕ) → 0 < count → count ≤ 128 → start + count ≤ count_of d
      → length before ≡ count * 128 → RowsFilled start (connections_of (entries_of d.file.now)) before words
      → BlockOf d start (words ++ rest) count
  filled_block start count before words rest s r t l f = record {
    some = s;
    room = r;
    there = t;
    bytes = λ i y h k.
        let x : start + (1024 * i + y) / 1024 ≡ start + i = omega (arith, count_few, k) in
        let z : (1024 * i + y) % 1024 ≡ y = omega (arith, count_few, k) in
        byte_front words rest (1024 * i + y) (omega (arith, f.long, l, h, k, count_few))
        ∙ f.bytes (1024 * i + y) (omega (arith, l, h, k, count_few))
        ∙ ap₂ (λ (a b : ℕ). word 8 (role_bit (connects (connections_of (entries_of d.file.now))) a b)) x z
        ∙ roles_eight (start + i) y;
  }

  -- one row of a block: n words from a on
  pub row_of_block : (start count : ℕ) (block : List ℕ) → BlockOf d start block count → length block ≡ 16384 → (i a n : ℕ) → i < count
      → a ≡ i * 128 → n ≡ 128 → RowOf d (start + i) (take n (drop a block))
  row_of_block start count block b l i a n h e f = rw (e, f) (record {
    long = length-take-le 128 (drop (i * 128) block) (omega (arith, length-drop (i * 128) block, b.room));
    bytes = λ y k. byte_row block i y (omega (arith, count_few, k)) ∙ b.bytes i y h k;
  })
