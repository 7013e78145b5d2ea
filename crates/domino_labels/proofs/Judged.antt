-- What judging leaves and answers, where the words are emptied and the canonical set is put in; and where no label is good.
use mathlib.Core.Path.{◌≡◌, sym as flip, ap, subst, ◌∙◌}
use mathlib.Core.Bool.{Bool, false, ◌&&◌, false≢true}
use mathlib.Core.List.{List}
use Prim.Native.Nat.{ℕ, ◌+◌, ◌*◌, ◌%◌, ◌^◌, ◌≤◌, ◌<◌}
use native.Mathlib.Omega.{arith}
use lib.Dec.{T}
use lib.ListN.{length}
use Rattle.bitset.specs.Bits.{Set, are_words, size, words_for_lem}
use Rattle.bitset.specs.Runs.{Kept, Added, Empty}
use Rattle.bitset.proofs.Facts.{is_true, of_true, is_false}
use Rattle.bitset.proofs.AddedLaws.{added_as, added_idle}
use Rattle.bitset.proofs.RunLaws.{words-room, trim_words}
use Rattle.bitset.proofs.Sizes.{size_same, size_empty}
use Rattle.elimination.specs.Sets.{Same}
use Rattle.elimination.proofs.Settling.{settled-sub}
use Rattle.elimination.proofs.Written.{Holding, holding_words, empty_put}
use Rattle.semantics.specs.Conditions.{View, kb, ex, uni, rbox, initially, dominoes, initial, defective, canon, held}
use Rattle.semantics.specs.Dominoes.{left_of, roles_of, right_of_lem}
use Rattle.semantics.proofs.Numbers.{domino_of}
use Rattle.domino_labels.specs.Live.{GoodLabels}
use Rattle.domino_labels.specs.Judging.{JudgesSet, PutsCanon}
use Rattle.domino_labels.specs.declared.judging.Judgement.{Judgement}

-- the canonical set put into emptied words
pub judges : (v : View) (k : ℕ) (j : Judgement) (ws vs us : List ℕ) → k ≡ held v → held v ≤ length ws → T (are_words ws)
    → Kept (λ p. false) 0 (64 * k) ws vs → PutsCanon v vs us j → JudgesSet v ws us j
judges v k j ws vs us e h t empty put =
    let N = dominoes v in
    let room : N ≤ 64 * held v = words-room N in
    let holds : Holding (held v) N (canon v) ws us =
    empty_put (held v) N (canon v) ws vs us j.survivors room (subst (λ (x : ℕ). Kept (λ p. false) 0 (64 * x) ws vs) e empty) put.added in
    record {
      opening = put.opening;
      survivors =
          put.added.count ∙ ap (λ (x : ℕ). size x (λ i. canon v (0 + i))) (omega arith)
          ∙ size_same N (λ i. canon v (0 + i)) (canon v) (λ i l. ap (canon v) (omega arith));
      set = holding_words (held v) N (canon v) ws room h us holds t;
    }

-- what has the same dominoes is put in
pub puts_canon : (v : View) (o n : ℕ) (f : Set) (vs us xs : List ℕ) → o ≡ size (dominoes v) (initial v) → Same (dominoes v) f (canon v)
    → Added f 0 (dominoes v) vs us n → xs ≡ us → PutsCanon v vs xs (record { opening = o; survivors = n })
puts_canon v o n f vs us xs p same put q =
    rw q (record { opening = p; added = added_as f (canon v) 0 _ vs us n (λ m a l. same m l) put })

-- where no label is good, no domino is in the initial set, and so none in the canonical one
module _ (v : View) (live : List ℕ) (m : ℕ) (g : GoodLabels v live) (none : Empty 0 m live) (room : 2 ^ v.parts ≤ m) where
  none_initial : (n : ℕ) → n < dominoes v → initial v n ≡ false
  unfolding initial initially kb Empty
  none_initial n h =
      let A : ℕ = left_of v.parts v.roles n in
      let R : ℕ = roles_of v.parts v.roles n in
      let B : ℕ = right_of_lem v.parts n in
      let l : A < 2 ^ v.parts = (domino_of v.parts v.roles n h).left in
      ap (λ (x : Bool). x && (ex v A R B && (uni v A R B && rbox v R))) (flip (g.good A l) ∙ none A (omega arith) (omega arith))

  none_canon : (n : ℕ) → n < dominoes v → canon v n ≡ false
  unfolding canon
  none_canon n h =
      is_false (canon v n) (λ t.
      false≢true (flip (none_initial n h) ∙ is_true (initial v n) (settled-sub (dominoes v) (defective v) (initial v) n h (of_true t))))

  pub puts_none : (ws : List ℕ) → PutsCanon v ws ws (record { opening = 0; survivors = 0 })
  puts_none ws = record {
    opening = flip (size_empty (dominoes v) (initial v) none_initial);
    added = added_idle (canon v) 0 (dominoes v) ws (λ n a l. none_canon n l);
  }

-- the words of the labels hold each label
pub labels_room : (c words : ℕ) → c ≤ 12 → words ≡ words_for_lem (2 ^ c) → 2 ^ c ≤ 0 + words * 64 % 18446744073709551616
labels_room c words h e = omega (arith, e, words-room (2 ^ c), trim_words c h)
