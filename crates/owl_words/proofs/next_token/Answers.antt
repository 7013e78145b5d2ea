use Rattle.std.proofs.Common.{◌≡◌, ◌∙◌, ap, refl, ℕ, List, length, take, drop, ◌-◌, ◌≤◌, arith, length-drop}
use Rattle.std.proofs.lemmas.List.{nil_from_length}
use lib.Seq.{take-length}
use Rattle.std.specs.List.{take_while}
use Rattle.owl_words.specs.Words.{is_blank_lem, known, skip}
use Rattle.owl_words.proofs.Tokening.{skip_is, finds_ending, finds_opening, finds_closing, finds_word}
use Rattle.owl_words.proofs.next_token.Goals as goal

-- what stands after the blanks
rest-is : (text : List ℕ) (n : ℕ) → take (length text - n) (drop n text) ≡ drop n text
rest-is text n = rw (← length-drop n text) (take-length (drop n text))

after : (text : List ℕ) (n : ℕ) → n ≡ length (take_while is_blank_lem text) → take (length text - n) (drop n text) ≡ skip text
after text n e = rest-is text n ∙ ap (λ (i : ℕ). drop i text) e ∙ skip_is text

within : (text : List ℕ) (n : ℕ) → length (take (length text - n) (drop n text)) ≤ length text
within text n = rw (rest-is text n) (omega (arith, length-drop n text))

pub returns-in_default : goal.returns-in_default
returns-in_default c = finds_ending _ _ (after _ _ c.blank_len.ensures) _ refl (within _ _) (nil_from_length _ c.in_default.ensures.cases) refl refl

pub returns-in-40 : goal.returns-in-40
returns-in-40 c = finds_opening _ _ (after _ _ c.blank_len.ensures) _ refl (within _ _) _ _ c.in-Some.ensures.cases.0 c.in-40.is refl refl

pub returns-in-41 : goal.returns-in-41
returns-in-41 c = finds_closing _ _ (after _ _ c.blank_len.ensures) _ refl (within _ _) _ _ c.in-Some.ensures.cases.0 c.in-41.is refl refl

pub returns-in_default-first : goal.returns-in_default-first
returns-in_default-first c =
    let s = c.split_at.ensures in
    finds_word _ _ (after _ _ c.blank_len.ensures) _ refl (within _ _) _ _ c.in-Some.ensures.cases.0 (λ e. omega arith) (λ e. omega arith) c.word_len.result c.word_len.ensures
    (c.known_word.ensures ∙ ap known s.front) s.back
