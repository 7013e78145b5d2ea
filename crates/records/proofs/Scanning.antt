-- Laws of the scan: what a record without fault gives, and the loop's invariant.
use Prim.Native.Nat.{ℕ, zero, suc, ◌+◌, ◌-◌, ◌≤◌, ◌<◌}
use mathlib.Core.Path.{◌≡◌, refl, sym, ap, ◌∙◌}
use mathlib.Core.Bool.{Bool, true, false, cond}
use mathlib.Core.List.{List, [], ◌∷◌, ◌++◌}
use lib.ListN.{length, get_or, length-append}
use lib.Dec.{leb}
use native.Mathlib.Omega.{arith}
use borrow.Author.Tests.{ne_eqb, lt-ltb, le-ltb}
use Rattle.std.specs.Prelude.{Some, Ok}
use Rattle.refusals.specs.Numbers.{number}
use Rattle.refusals.specs.declared.Reason.TheVariants.{UnknownKind, BodyCutOff, TooManyRecords}
use Rattle.refusals.specs.declared.Refusal.{Refusal}
use Rattle.records.specs.Entries.{Entry}
use Rattle.records.specs.Shapes.{Shape}
use Rattle.records.specs.Shapes.{shape_of, is_leaf_lem}
use Rattle.records.specs.Scan.{Fault, State, refused, whole, name, vacuous_of_lem, names_after_lem, roles_after_lem, body_fault, record_fault, record_after, after, body_byte_lem, scan, scan_sheet}
use Rattle.records.specs.Nodes.{node_kind, node_first, node_second, entry_of, byte_of, NodeOf}
use Rattle.records.specs.RecordTable.{state_of, Refuses, both_named, Scans}
use Rattle.records.specs.declared.Progress.{Progress}
use Rattle.records.specs.declared.nodes.Node.{Node}
use Rattle.refusals.proofs.Numbering.{number_not_zero}
use Rattle.records.proofs.Faults.{name-long, unknown-kind, cut_off, of_body}
use Rattle.records.proofs.Telling.{vacuous-same, both-vacuous}

pub both-long : (es : List Entry) (w x a b : ℕ) → length (name (name es w a) x b) ≡ length es
both-long es w x a b = name-long (name es w a) x b ∙ name-long es w a

-- a body's byte is 0 where the shape has none
byte-same : (sheet : List ℕ) (at : ℕ) (s : Shape) (i : ℕ) → byte_of s i (body_byte_lem sheet at s i) ≡ body_byte_lem sheet at s i
byte-same sheet at s i = go (leb i s.body)
  where
    go : (b : Bool) → cond b (cond b (get_or sheet (at + i) 0) 0) 0 ≡ cond b (get_or sheet (at + i) 0) 0
    go true = refl
    go false = refl

abbrev entered : ℕ → ℕ → ℕ → Bool → ℕ → Bool → Entry
entered k a b v s l = record { kind = k; first = a; second = b; named = false; vacuous = v; sort = s; leaf = l }

-- the state after a record, put together from its parts
after_is : (st : State) (k a b at names roles : ℕ) (s : Shape) (v l : Bool) (rs : List Entry) → s ≡ shape_of k → v ≡ vacuous_of_lem st.records k a b →
    l ≡ is_leaf_lem s → names ≡ names_after_lem st.names k a → roles ≡ roles_after_lem st.roles k a →
    rs ≡ name (name st.records s.first a) s.second b ++ (entered k a b v s.sort l ∷ []) → at ≡ st.at + 1 + s.body →
    ◌≡◌ {A = State} (record { at = at; records = rs; names = names; roles = roles }) (after st k a b)
unfolding after
after_is st k a b at names roles s v l rs ps pv pf pn pl pr pa = rw (pa, pr, pv, pf, pn, pl, ps)

-- the record of kind k and shape s that starts where reading has come to
module _ (sheet : List ℕ) (es : List Entry) (p : Progress) (k : ℕ) (s : Shape) (pk : k ≡ get_or sheet p.at 0) (ps : s ≡ shape_of k) where
  -- an unknown kind, or a body cut off
  pub step-unknown : (r : Refusal) → s.sort ≡ 0 → r.reason ≡ UnknownKind → r.place ≡ p.at → Refuses p.at (record_fault sheet (state_of es p)) r
  step-unknown r z n l = rw (← unknown-kind sheet (state_of es p) s (ps ∙ ap shape_of pk) z) (ap number n, omega arith)

  pub step-cut : (r : Refusal) → (s.sort ≡ 0 → ⊥) → length sheet - (p.at + 1) < s.body → r.reason ≡ BodyCutOff → r.place ≡ p.at →
      Refuses p.at (record_fault sheet (state_of es p)) r
  step-cut r z h n l = rw (← cut_off sheet (state_of es p) s (ps ∙ ap shape_of pk) z h) (ap number n, omega arith)

  -- a body a, b that is there
  module _ (z : s.sort ≡ 0 → ⊥) (h : s.body ≤ length sheet - (p.at + 1)) (a b : ℕ) (pa : a ≡ body_byte_lem sheet p.at s 1)
      (pb : b ≡ body_byte_lem sheet p.at s 2) where
    fault-is : body_fault es s a b ≡ record_fault sheet (state_of es p)
    fault-is = of_body sheet (state_of es p) s (ps ∙ ap shape_of pk) z h a b _ pa pb refl

    pub step-body : (r : Refusal) → Refuses p.at (body_fault es s a b) r → Refuses p.at (record_fault sheet (state_of es p)) r
    step-body r t = rw (← fault-is) t

    pub step-none : (body_fault es s a b).number ≡ 0 → (record_fault sheet (state_of es p)).number ≡ 0
    step-none t = rw (← fault-is) t

    -- the record of node n, with the records u that it names noted as named
    pub step-next : (n : Node) (v : Bool) (u w : List Entry) (q : Progress) → NodeOf k a b (Some n) → u ≡ both_named es s a b →
        v ≡ vacuous_of_lem u (node_kind n) (node_first n) (node_second n) → w ≡ u ++ (entry_of (record { node = n; named = false; vacuous = v }) ∷ []) →
        q.at ≡ p.at + 1 + s.body → q.names ≡ names_after_lem p.names (node_kind n) (node_first n) →
        q.roles ≡ roles_after_lem p.roles (node_kind n) (node_first n) → state_of w q ≡ record_after sheet (state_of es p)
    unfolding record_after entry_of
    step-next n v u w q pn pu pv pw at names roles =
        after_is (state_of es p) k a b q.at q.names q.roles s v (is_leaf_lem s) w ps
        (pv ∙ rw (pu, pn.0, f, g) (vacuous-same es (both_named es s a b) k a b (both-vacuous es _ _ a b)))
        refl (rw (pn.0, f) at names) (rw (pn.0, f) at roles) (pw ∙ rw (pu, pn.0, f, g, ← ps)) at
        ∙ rw (pa, pb, ps, pk)
      where
        f : node_first n ≡ a
        f = pn.1 ∙ rw (pa, ← ps) (byte-same sheet p.at s 1)

        g : node_second n ≡ b
        g = pn.2 ∙ rw (pb, ← ps) (byte-same sheet p.at s 2)

module _ (sheet : List ℕ) (st : State) where
  scan_end : (room : ℕ) → length sheet ≤ st.at → scan room sheet st ≡ whole st
  unfolding scan
  scan_end zero h = simp (le-ltb _ _ h)
  scan_end (suc room) h = simp (le-ltb _ _ h)

  scan-full : st.at < length sheet → scan 0 sheet st ≡ refused 3 st.at
  unfolding scan
  scan-full h = simp (lt-ltb _ _ h)

  scan-fault : (room : ℕ) (f : Fault) → st.at < length sheet → f ≡ record_fault sheet st → (f.number ≡ 0 → ⊥) →
      scan (suc room) sheet st ≡ refused f.number (st.at + f.offset)
  unfolding scan
  scan-fault room f h p n = simp (lt-ltb _ _ h, ← p, ne_eqb _ _ n)

  scan-next : (room : ℕ) → st.at < length sheet → 0 ≡ (record_fault sheet st).number → scan (suc room) sheet st ≡ scan room sheet (record_after sheet st)
  unfolding scan
  scan-next room h p = simp (lt-ltb _ _ h, ← p)

pub later : (sheet : List ℕ) (es us : List Entry) (p q : Progress) → state_of us q ≡ record_after sheet (state_of es p) → p.at < q.at
unfolding record_after after
later sheet es us p q e = omega (arith, ap (λ (x : State). x.at) e)

record_more : (sheet : List ℕ) (es us : List Entry) (p q : Progress) → state_of us q ≡ record_after sheet (state_of es p) → length us ≡ length es + 1
unfolding record_after after
record_more sheet es us p q e =
    ap (λ (x : State). length x.records) e ∙ length-append _ _ ∙ ap (λ (n : ℕ). n + 1) (both-long es _ _ _ _)

-- the loop's invariant: scanning on from the records and the progress gives the whole result
pub record Running (sheet : List ℕ) (es : List Entry) (p : Progress) : Type 0 where
  pub count : length es ≤ 255
  pub result : scan (255 - length es) sheet (state_of es p) ≡ scan_sheet sheet

pub running_start : (sheet : List ℕ) (es : List Entry) (p : Progress) → es ≡ [] → p.at ≡ 0 → p.names ≡ 0 → p.roles ≡ 0 → Running sheet es p
unfolding scan_sheet
running_start sheet es p e a n r = rw e (record { count = omega arith; result = rw (a, n, r) })

module _ (sheet : List ℕ) (es : List Entry) (p : Progress) (i : Running sheet es p) where
  -- room for n records more
  from : (n : ℕ) → 255 - length es ≡ n → scan n sheet (state_of es p) ≡ scan_sheet sheet
  from n e = rw e at i.result

  pub running_end : length sheet ≤ p.at → Scans sheet es (Ok p)
  running_end l = sym (scan_end sheet (state_of es p) (255 - length es) l) ∙ i.result

  pub running_full : (r : Refusal) → p.at < length sheet → length es ≡ 255 → r.reason ≡ TooManyRecords → r.place ≡ p.at →
      refused (number r.reason) r.place ≡ scan_sheet sheet
  running_full r l e n h = rw (n, h) (sym (scan-full sheet (state_of es p) l) ∙ from 0 (omega arith))

  pub running_fault : (r : Refusal) → Refuses p.at (record_fault sheet (state_of es p)) r → p.at < length sheet → (length es ≡ 255 → ⊥) →
      refused (number r.reason) r.place ≡ scan_sheet sheet
  running_fault r t l n =
      rw (t.0, t.1)
      (sym (scan-fault sheet (state_of es p) (254 - length es) _ l refl (λ z. number_not_zero r.reason (t.0 ∙ z))) ∙ from (suc (254 - length es)) (omega (arith, i.count)))

  pub running_next : (us : List Entry) (q : Progress) → (record_fault sheet (state_of es p)).number ≡ 0 →
      state_of us q ≡ record_after sheet (state_of es p) → p.at < length sheet → (length es ≡ 255 → ⊥) → Running sheet us q
  running_next us q z e l n =
      record {
        count = omega (arith, more, i.count);
        result = rw (room, e) (sym (scan-next sheet (state_of es p) (254 - length es) l (sym z)) ∙ from (suc (254 - length es)) (omega (arith, i.count)));
      }
    where
      more : length us ≡ length es + 1
      more = record_more sheet es us p q e

      room : 255 - length us ≡ 254 - length es
      room = omega (arith, more)
