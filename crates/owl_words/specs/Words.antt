-- The tokens of a text (02, N7: "words are parted by spaces or line feeds, and parentheses need none").
use Rattle.std.specs.Prelude.{◌≡◌, ℕ, suc, ◌+◌, ◌≤◌, Bool, true, false, cond, not, ◌&&◌, ◌||◌, eqb, ltb, List, [], ◌∷◌, ◌++◌, length}
use Rattle.output.specs.Text.{text}
use Rattle.owl_words.specs.declared.Word.{Word}
use Rattle.owl_words.specs.declared.Found.{Found}
use Rattle.owl_words.specs.declared.Word.TheVariants.{SubClassOf, IntersectionOf, UnionOf, ComplementOf, SomeValuesFrom, AllValuesFrom, InverseOf, Thing, Nothing, ClassNamed, PropertyNamed, Opening, Closing, Unknown, Ending}

-- a number below 12 in decimal digits; larger ones are in no name
unfoldable pub digits : ℕ → List ℕ
digits n = cond (ltb n 10) ((48 + n) ∷ []) (cond (ltb n 12) (49 ∷ (38 + n) ∷ []) [])

-- the bytes of a word
unfoldable pub spelling : Word → List ℕ
spelling SubClassOf = text "SubClassOf"
spelling IntersectionOf = text "ObjectIntersectionOf"
spelling UnionOf = text "ObjectUnionOf"
spelling ComplementOf = text "ObjectComplementOf"
spelling SomeValuesFrom = text "ObjectSomeValuesFrom"
spelling AllValuesFrom = text "ObjectAllValuesFrom"
spelling InverseOf = text "ObjectInverseOf"
spelling Thing = text "owl:Thing"
spelling Nothing = text "owl:Nothing"
spelling (ClassNamed n) = text ":t" ++ digits n
spelling (PropertyNamed n) = text ":k" ++ digits n
spelling Opening = text "("
spelling Closing = text ")"
spelling Unknown = []
spelling Ending = []

-- the known words; "names are `:t0` to `:t11` and `:k0` to `:k3`"
unfoldable pub known_words : List Word
known_words =
    SubClassOf ∷ IntersectionOf ∷ UnionOf ∷ ComplementOf ∷ SomeValuesFrom ∷ AllValuesFrom ∷ InverseOf ∷ Thing ∷ Nothing
    ∷ ClassNamed 0 ∷ ClassNamed 1 ∷ ClassNamed 2 ∷ ClassNamed 3 ∷ ClassNamed 4 ∷ ClassNamed 5
    ∷ ClassNamed 6 ∷ ClassNamed 7 ∷ ClassNamed 8 ∷ ClassNamed 9 ∷ ClassNamed 10 ∷ ClassNamed 11
    ∷ PropertyNamed 0 ∷ PropertyNamed 1 ∷ PropertyNamed 2 ∷ PropertyNamed 3 ∷ []

unfoldable pub same_bytes : List ℕ → List ℕ → Bool
same_bytes [] [] = true
same_bytes [] (b ∷ t) = false
same_bytes (a ∷ s) [] = false
same_bytes (a ∷ s) (b ∷ t) = eqb a b && same_bytes s t

-- the first of some words that is spelled so
unfoldable pub spelled : List Word → List ℕ → Word
spelled [] s = Unknown
spelled (w ∷ ws) s = cond (same_bytes s (spelling w)) w (spelled ws s)

unfoldable pub known : List ℕ → Word
known s = spelled known_words s

-- the same in a table of spellings and words
unfoldable pub spelled_in : List (List ℕ × Word) → List ℕ → Word
spelled_in [] s = Unknown
spelled_in (k ∷ ks) s = cond (same_bytes s k.0) k.1 (spelled_in ks s)

-- a space or a line feed; what a word is made of
abbrev pub is_blank_lem : ℕ → Bool
is_blank_lem b = eqb b 32 || eqb b 10

abbrev pub in_word : ℕ → Bool
in_word b = not (is_blank_lem b) && (not (eqb b 40) && not (eqb b 41))

unfoldable pub skip : List ℕ → List ℕ
skip [] = []
skip (b ∷ s) = cond (is_blank_lem b) (skip s) (b ∷ s)

-- the word that a text begins with, and what stands after it
unfoldable pub letters : List ℕ → List ℕ
letters [] = []
letters (b ∷ s) = cond (in_word b) (b ∷ letters s) []

unfoldable pub past : List ℕ → List ℕ
past [] = []
past (b ∷ s) = cond (in_word b) (past s) (b ∷ s)

-- a token: its word, how many bytes are left where it begins, and what stands after it
pub record Token : Type 0 where
  pub word : Word
  pub left : ℕ
  pub rest : List ℕ

abbrev pub token : Word → ℕ → List ℕ → Token
token w n s = record { word = w; left = n; rest = s }

-- the token that a text begins with, where no blank stands in front
unfoldable pub front : List ℕ → Token
front [] = token Ending 0 []
front (b ∷ s) =
    cond (eqb b 40) (token Opening (suc (length s)) s)
    (cond (eqb b 41) (token Closing (suc (length s)) s)
    (token (known (letters (b ∷ s))) (suc (length s)) (past (b ∷ s))))

abbrev pub next : List ℕ → Token
next s = front (skip s)

-- what the code finds in front of a text: the word, how many bytes are left where it begins, and what stands after it
pub record Finds (text : List ℕ) (r : Found) : Type 0 where
  pub word : r.word ≡ (next text).word
  pub left : r.left ≡ (next text).left
  pub rest : r.rest.now ≡ (next text).rest
  pub within : r.left ≤ length text
  pub shorter : length r.rest.now ≤ length text
