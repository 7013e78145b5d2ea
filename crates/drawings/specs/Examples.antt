-- Worked drawings: a sheet and a file, what a check says, and the numbers of the drawn dominoes; a sheet and the file of its canonical set
-- in three layers. Proved in proofs/Worked.antt.
use Rattle.std.specs.Prelude.{ℕ, zero, suc, List, [], ◌∷◌, ◌++◌, cond, eqb, length}
use Rattle.syntax.specs.Reading.{Reading, refusal, kb, read_kb}
use Rattle.syntax.specs.Answers.{limit}
use Rattle.syntax.specs.Examples.{s1, s5, s6}
use Rattle.semantics.specs.Conditions.{View, dominoes, canon}
use Rattle.semantics.specs.Views.{kb_view}
use Rattle.semantics.specs.Layers.{rising}
use Rattle.drawings.specs.Entries.{drawing_of}
use Rattle.drawings.specs.Checking.{breach_numbers, is_plain, file_fault, drawn_set, breach}
use Rattle.drawings.specs.Layered.{layered_file}

pub record Row : Type 0 where
  pub sheet : List ℕ
  pub file : List ℕ
  pub says : List ℕ
  pub drawn : List ℕ

abbrev row : List ℕ → List ℕ → List ℕ → List ℕ → Row
row s f m q = record { sheet = s; file = f; says = m; drawn = q }

-- a refusal with its place, the sheet's before the file's, whose place is 0; else 0, 0, the breach, and the set
abbrev view_row : View → List ℕ → List ℕ → Row
view_row v s f =
    cond (eqb (file_fault v f) 0)
    (row s f (0 ∷ 0 ∷ breach_numbers (breach v (drawing_of f))) (rising (drawn_set v (drawing_of f)) (dominoes v)))
    (row s f (file_fault v f ∷ 0 ∷ []) [])

abbrev read_row : Reading → List ℕ → List ℕ → Row
read_row (refusal n p) s f = row s f (n ∷ p ∷ []) []
read_row (kb k) s f = view_row (kb_view k) s f

-- the row, as the definitions have it
abbrev pub checked : Row → Row
checked r = read_row (read_kb limit r.sheet) r.sheet r.file

abbrev keeps : List ℕ → List ℕ → List ℕ → Row
keeps s f q = row s f (0 ∷ 0 ∷ 0 ∷ []) q

abbrev breaks_one : List ℕ → List ℕ → ℕ → List ℕ → Row
breaks_one s f x q = row s f (0 ∷ 0 ∷ 1 ∷ x ∷ []) q

abbrev breaks_two : List ℕ → List ℕ → ℕ → ℕ → List ℕ → Row
breaks_two s f x y q = row s f (0 ∷ 0 ∷ 2 ∷ x ∷ y ∷ []) q

abbrev faulty : List ℕ → List ℕ → ℕ → Row
faulty s f n = row s f (n ∷ 0 ∷ []) []

-- records: an individual with names and fresh names; a connection from, to, of a role
abbrev named : ℕ → List ℕ
named m = 0x40 ∷ m ∷ 0x00 ∷ []

abbrev joining : ℕ → ℕ → ℕ → List ℕ
joining x y k = 0x41 ∷ x ∷ 0x00 ∷ y ∷ 0x00 ∷ k ∷ []

-- n individuals without names
unfoldable pub many : ℕ → List ℕ
many zero = []
many (suc n) = named 0x00 ++ many n

-- k0 is within k1; k0 reversed is within k0
abbrev within : List ℕ
within = 0x10 ∷ 0x00 ∷ 0x10 ∷ 0x01 ∷ 0x21 ∷ 0x00 ∷ 0x01 ∷ []

abbrev reversed_within : List ℕ
reversed_within = 0x11 ∷ 0x00 ∷ 0x10 ∷ 0x00 ∷ 0x21 ∷ 0x00 ∷ 0x01 ∷ []

-- everything is t0, and k0 is within k1
abbrev named_and_within : List ℕ
named_and_within = 0x01 ∷ 0x03 ∷ 0x00 ∷ 0x20 ∷ 0x00 ∷ 0x01 ∷ 0x10 ∷ 0x00 ∷ 0x10 ∷ 0x01 ∷ 0x21 ∷ 0x03 ∷ 0x04 ∷ []

-- everything is: only k0 t0; some k0 reversed t0; some k1 t0; some k0 and not k1 t0; only k0 not t0; only k0 nothing
abbrev only_t0 : List ℕ
only_t0 = 0x01 ∷ 0x10 ∷ 0x00 ∷ 0x03 ∷ 0x00 ∷ 0x08 ∷ 0x01 ∷ 0x02 ∷ 0x20 ∷ 0x00 ∷ 0x03 ∷ []

abbrev some_reversed : List ℕ
some_reversed = 0x01 ∷ 0x11 ∷ 0x00 ∷ 0x03 ∷ 0x00 ∷ 0x07 ∷ 0x01 ∷ 0x02 ∷ 0x20 ∷ 0x00 ∷ 0x03 ∷ []

abbrev second_role : List ℕ
second_role = 0x01 ∷ 0x10 ∷ 0x01 ∷ 0x03 ∷ 0x00 ∷ 0x07 ∷ 0x01 ∷ 0x02 ∷ 0x20 ∷ 0x00 ∷ 0x03 ∷ []

abbrev first_alone : List ℕ
first_alone =
    0x01 ∷ 0x10 ∷ 0x00 ∷ 0x10 ∷ 0x01 ∷ 0x12 ∷ 0x02 ∷ 0x13 ∷ 0x01 ∷ 0x03 ∷ 0x03 ∷ 0x00 ∷ 0x07 ∷ 0x04 ∷ 0x05 ∷ 0x20 ∷ 0x00 ∷ 0x06 ∷ []

abbrev only_not : List ℕ
only_not = 0x01 ∷ 0x10 ∷ 0x00 ∷ 0x03 ∷ 0x00 ∷ 0x04 ∷ 0x02 ∷ 0x08 ∷ 0x01 ∷ 0x03 ∷ 0x20 ∷ 0x00 ∷ 0x04 ∷ []

abbrev only_nothing : List ℕ
only_nothing = 0x01 ∷ 0x10 ∷ 0x00 ∷ 0x02 ∷ 0x08 ∷ 0x01 ∷ 0x02 ∷ 0x20 ∷ 0x00 ∷ 0x03 ∷ []

-- t0 and t1, and no rule
abbrev two_names : List ℕ
two_names = 0x03 ∷ 0x00 ∷ 0x03 ∷ 0x01 ∷ []

-- "Work out the some and only claims from the connections": with a filler that is a trait, one that is a fresh trait, as drawn,
-- everything, and nothing
abbrev labels : List Row
labels =
    keeps s1 (named 0x01 ++ joining 0 0 0) (63 ∷ []) ∷
    breaks_one s1 (named 0x01) 0 (17 ∷ []) ∷
    keeps s1 (named 0x01 ++ named 0x00 ++ joining 0 0 0 ++ joining 1 0 0) (34 ∷ 39 ∷ 58 ∷ 63 ∷ []) ∷
    breaks_one s1 (named 0x01 ++ named 0x00 ++ joining 0 0 0 ++ joining 0 1 0) 1 (0 ∷ 11 ∷ 52 ∷ 63 ∷ []) ∷
    keeps only_t0 (named 0x00 ++ named 0x01 ++ named 0x00 ++ joining 0 1 0) (34 ∷ 35 ∷ 39 ∷ 50 ∷ 51 ∷ 58 ∷ []) ∷
    breaks_one only_t0 (named 0x00 ++ named 0x01 ++ joining 1 0 0) 1 (17 ∷ 22 ∷ 34 ∷ 41 ∷ []) ∷
    breaks_one only_t0 (named 0x00 ++ named 0x01 ++ joining 0 1 0 ++ joining 0 0 0) 0 (7 ∷ 12 ∷ 51 ∷ 56 ∷ []) ∷
    keeps s6 (named 0x01 ++ named 0x04 ++ joining 0 1 0) (99 ∷ 108 ∷ 132 ∷ 147 ∷ []) ∷
    breaks_one s6 (named 0x01 ++ named 0x00 ++ joining 0 1 0) 0 (0 ∷ 17 ∷ 33 ∷ 40 ∷ []) ∷
    breaks_one s6 (named 0x05 ++ named 0x04 ++ joining 0 1 0) 0 (132 ∷ 151 ∷ 231 ∷ 236 ∷ []) ∷
    keeps only_not (named 0x04 ++ joining 0 0 0) (222 ∷ []) ∷
    breaks_one only_not (named 0x00 ++ joining 0 0 0) 0 (24 ∷ []) ∷
    keeps s5 (named 0x00) (34 ∷ []) ∷
    keeps s5 (named 0x00 ++ joining 0 0 0) (46 ∷ []) ∷
    keeps only_nothing (named 0x00) (9 ∷ []) ∷
    breaks_one only_nothing (named 0x00 ++ joining 0 0 0) 0 (6 ∷ []) ∷
    []

-- roles: reversed, the second, and two with not and and
abbrev roles : List Row
roles =
    keeps some_reversed (named 0x01 ++ named 0x00 ++ joining 0 0 0 ++ joining 0 1 0) (34 ∷ 43 ∷ 54 ∷ 63 ∷ []) ∷
    breaks_one some_reversed (named 0x01 ++ named 0x00 ++ joining 0 0 0 ++ joining 1 0 0) 1 (0 ∷ 7 ∷ 56 ∷ 63 ∷ []) ∷
    keeps second_role (named 0x01 ++ joining 0 0 1) (243 ∷ []) ∷
    breaks_one second_role (named 0x01 ++ joining 0 0 0) 0 (77 ∷ []) ∷
    keeps first_alone (named 0x01 ++ joining 0 0 0) (207 ∷ []) ∷
    breaks_one first_alone (named 0x01 ++ joining 0 0 0 ++ joining 0 0 1) 0 (125 ∷ []) ∷
    []

-- "write the plant's pairings, self-pairings included, as a set"; a connection "may repeat", and stands anywhere after its individuals
abbrev sets : List Row
sets =
    keeps [] (named 0x00) (0 ∷ []) ∷
    keeps [] (named 0x00 ++ named 0x00 ++ named 0x00) (0 ∷ []) ∷
    keeps two_names (named 0x01 ++ named 0x02) (5 ∷ 6 ∷ 9 ∷ 10 ∷ []) ∷
    keeps s1 (named 0x01 ++ joining 0 0 0 ++ joining 0 0 0) (63 ∷ []) ∷
    keeps s6 (named 0x01 ++ joining 0 0 0 ++ named 0x04 ++ joining 0 1 0) (108 ∷ 123 ∷ 132 ∷ 147 ∷ []) ∷
    []

-- "the first item that breaks a rule, or else the first ordered pair of items, by from and then to, that breaks a link rule"
abbrev firsts : List Row
firsts =
    breaks_two within (named 0x00 ++ named 0x00 ++ joining 0 1 0) 0 1 (0 ∷ 1 ∷ 2 ∷ []) ∷
    breaks_two within (named 0x00 ++ named 0x00 ++ joining 1 0 0 ++ joining 0 1 0) 0 1 (0 ∷ 3 ∷ []) ∷
    breaks_two within (named 0x00 ++ named 0x00 ++ joining 1 0 0 ++ joining 0 1 0 ++ joining 0 1 1) 1 0 (0 ∷ 7 ∷ 11 ∷ []) ∷
    breaks_two within (named 0x00 ++ named 0x00 ++ named 0x00 ++ joining 1 0 0 ++ joining 0 2 0) 0 2 (0 ∷ 1 ∷ 2 ∷ []) ∷
    breaks_two within (named 0x00 ++ named 0x00 ++ named 0x00 ++ joining 0 2 0 ++ joining 0 1 0) 0 1 (0 ∷ 1 ∷ 2 ∷ []) ∷
    breaks_two within (named 0x00 ++ named 0x00 ++ joining 0 1 0 ++ joining 1 0 1) 0 1 (0 ∷ 6 ∷ 9 ∷ []) ∷
    breaks_two reversed_within (named 0x00 ++ named 0x00 ++ joining 0 1 0) 1 0 (0 ∷ 1 ∷ 2 ∷ []) ∷
    keeps reversed_within (named 0x00 ++ named 0x00 ++ joining 0 1 0 ++ joining 1 0 0) (0 ∷ 3 ∷ []) ∷
    breaks_one named_and_within (named 0x01 ++ named 0x00 ++ named 0x00 ++ joining 0 0 0) 1 (0 ∷ 1 ∷ 32 ∷ 39 ∷ []) ∷
    breaks_two named_and_within (named 0x01 ++ named 0x01 ++ joining 0 0 0) 0 0 (33 ∷ 39 ∷ []) ∷
    breaks_one named_and_within (named 0x00 ++ named 0x01) 0 (0 ∷ 1 ∷ 32 ∷ 33 ∷ []) ∷
    []

-- "22, unknown kind or cut off"; "23, a 1,025th item"; "24, a bit that is no trait or fresh mark, or an item or link that does not exist";
-- "a connection names earlier items"; "at the end 25, no items"; by record, and before all of them the sheet's
abbrev faults : List Row
faults =
    faulty s1 [] 25 ∷
    faulty s1 (0x40 ∷ 0x01 ∷ []) 22 ∷
    faulty s1 (0x40 ∷ 0x04 ∷ []) 22 ∷
    faulty s1 (0x42 ∷ []) 22 ∷
    faulty s1 (0x41 ∷ 0x00 ∷ 0x00 ∷ 0x00 ∷ 0x00 ∷ []) 22 ∷
    faulty s1 (named 0x04) 24 ∷
    faulty s1 (named 0x02) 24 ∷
    faulty s5 (named 0x02) 24 ∷
    faulty s1 (0x40 ∷ 0x00 ∷ 0x01 ∷ []) 24 ∷
    faulty s1 (0x40 ∷ 0x00 ∷ 0x80 ∷ []) 24 ∷
    faulty s1 (joining 0 0 0) 24 ∷
    faulty s1 (named 0x01 ++ joining 0 0 1) 24 ∷
    faulty s1 (named 0x01 ++ joining 0 1 0 ++ named 0x01) 24 ∷
    faulty s1 (named 0x01 ++ joining 1 0 0 ++ named 0x01) 24 ∷
    faulty s1 (named 0x01 ++ (0x41 ∷ 0x00 ∷ 0x01 ∷ 0x00 ∷ 0x00 ∷ 0x00 ∷ [])) 24 ∷
    faulty s1 (named 0x01 ++ (0x41 ∷ 0x00 ∷ 0x00 ∷ 0x00 ∷ 0x01 ∷ 0x00 ∷ [])) 24 ∷
    faulty s1 (named 0x04 ++ (0x42 ∷ [])) 24 ∷
    faulty s1 (0x42 ∷ 0x40 ∷ 0x04 ∷ 0x00 ∷ []) 22 ∷
    faulty s1 (named 0x01 ++ joining 0 0 0 ++ (0x40 ∷ [])) 22 ∷
    faulty [] (many 1025) 23 ∷
    faulty [] (many 1024 ++ (0x42 ∷ [])) 22 ∷
    faulty [] (many 1024 ++ named 0x01) 23 ∷
    row (0x04 ∷ 0x00 ∷ []) (0x42 ∷ []) (5 ∷ 1 ∷ []) [] ∷
    []

abbrev pub table : List Row
table = labels ++ roles ++ sets ++ firsts ++ faults

-- ---- drawings in three layers (02, N11)

-- a sheet, and the file of its canonical set
pub record InLayers : Type 0 where
  pub sheet : List ℕ
  pub file : List ℕ

abbrev pub in_layers : List ℕ → List ℕ → InLayers
in_layers s f = record { sheet = s; file = f }

-- the file, as the definitions have it
abbrev pub view_file : View → List ℕ
view_file v = layered_file v.parts v.roles (rising (canon v) (dominoes v)) (is_plain v)

-- what f makes of a sheet; nothing of one that is refused
abbrev of_reading : (View → List ℕ) → Reading → List ℕ
of_reading f (refusal n p) = []
of_reading f (kb k) = f (kb_view k)

abbrev pub of_sheet : (View → List ℕ) → List ℕ → List ℕ
of_sheet f s = of_reading f (read_kb limit s)

abbrev pub drawn_in_layers : InLayers → InLayers
drawn_in_layers r = in_layers r.sheet (of_sheet view_file r.sheet)

-- the individuals of a layer, three times
abbrev each_layer : List ℕ → List ℕ
each_layer l = l ++ l ++ l

-- three layers; a domino's right label; no restriction; a fresh name: everything is only k0 not t0, nothing is t0, and k0 is within not k0
abbrev individuals : List InLayers
individuals =
    in_layers [] (each_layer (named 0x00)) ∷
    in_layers (0x03 ∷ 0x00 ∷ []) (each_layer (named 0x00 ++ named 0x01 ++ named 0x00 ++ named 0x01)) ∷
    in_layers only_nothing (each_layer (named 0x00)) ∷
    in_layers
    (0x01 ∷ 0x02 ∷ 0x03 ∷ 0x00 ∷ 0x10 ∷ 0x00 ∷ 0x12 ∷ 0x03 ∷ 0x04 ∷ 0x02 ∷ 0x08 ∷ 0x03 ∷ 0x05 ∷ 0x20 ∷ 0x00 ∷ 0x06 ∷
    0x20 ∷ 0x02 ∷ 0x01 ∷ 0x21 ∷ 0x03 ∷ 0x04 ∷ [])
    (each_layer (named 0x00 ++ named 0x04 ++ named 0x00 ++ named 0x04)) ∷
    []

abbrev one_role : List ℕ
one_role = 0x10 ∷ 0x00 ∷ []

abbrev one_role_file : List ℕ
one_role_file =
    each_layer (named 0x00 ++ named 0x00 ++ named 0x00 ++ named 0x00) ++
    joining 0 5 0 ++ joining 0 7 0 ++ joining 1 5 0 ++ joining 1 7 0 ++
    joining 2 5 0 ++ joining 2 7 0 ++ joining 2 8 0 ++ joining 2 9 0 ++ joining 2 10 0 ++ joining 2 11 0 ++
    joining 3 5 0 ++ joining 3 7 0 ++ joining 3 8 0 ++ joining 3 9 0 ++ joining 3 10 0 ++ joining 3 11 0 ++
    joining 4 9 0 ++ joining 4 11 0 ++ joining 5 9 0 ++ joining 5 11 0 ++
    joining 6 0 0 ++ joining 6 1 0 ++ joining 6 2 0 ++ joining 6 3 0 ++ joining 6 9 0 ++ joining 6 11 0 ++
    joining 7 0 0 ++ joining 7 1 0 ++ joining 7 2 0 ++ joining 7 3 0 ++ joining 7 9 0 ++ joining 7 11 0 ++
    joining 8 1 0 ++ joining 8 3 0 ++ joining 9 1 0 ++ joining 9 3 0 ++
    joining 10 1 0 ++ joining 10 3 0 ++ joining 10 4 0 ++ joining 10 5 0 ++ joining 10 6 0 ++ joining 10 7 0 ++
    joining 11 1 0 ++ joining 11 3 0 ++ joining 11 4 0 ++ joining 11 5 0 ++ joining 11 6 0 ++ joining 11 7 0

-- what is t0 is only k0 nothing, what is not is some k0 t0, and everything is only k0 t0
abbrev to_t0 : List ℕ
to_t0 =
    0x01 ∷ 0x10 ∷ 0x00 ∷ 0x03 ∷ 0x00 ∷ 0x02 ∷ 0x08 ∷ 0x01 ∷ 0x03 ∷ 0x07 ∷ 0x01 ∷ 0x02 ∷ 0x20 ∷ 0x02 ∷ 0x04 ∷ 0x04 ∷ 0x02 ∷
    0x20 ∷ 0x07 ∷ 0x05 ∷ 0x08 ∷ 0x01 ∷ 0x02 ∷ 0x20 ∷ 0x00 ∷ 0x09 ∷ []

abbrev to_t0_file : List ℕ
to_t0_file =
    each_layer (named 0x01 ++ named 0x00 ++ named 0x00 ++ named 0x01 ++ named 0x00 ++ named 0x01) ++
    joining 1 11 0 ++ joining 2 11 0 ++ joining 2 12 0 ++ joining 2 15 0 ++ joining 2 17 0 ++ joining 4 11 0 ++
    joining 7 17 0 ++ joining 8 0 0 ++ joining 8 3 0 ++ joining 8 5 0 ++ joining 8 17 0 ++ joining 10 17 0 ++
    joining 13 5 0 ++ joining 14 5 0 ++ joining 14 6 0 ++ joining 14 9 0 ++ joining 14 11 0 ++ joining 16 5 0

-- k0 is within k1, k0 is within k1 reversed, and k1 is within k0
abbrev alike : List ℕ
alike = 0x10 ∷ 0x00 ∷ 0x10 ∷ 0x01 ∷ 0x11 ∷ 0x01 ∷ 0x21 ∷ 0x00 ∷ 0x01 ∷ 0x21 ∷ 0x00 ∷ 0x02 ∷ 0x21 ∷ 0x01 ∷ 0x00 ∷ []

abbrev alike_file : List ℕ
alike_file =
    each_layer (named 0x00 ++ named 0x00) ++
    joining 0 3 0 ++ joining 0 3 1 ++
    joining 1 3 0 ++ joining 1 3 1 ++ joining 1 4 0 ++ joining 1 4 1 ++ joining 1 5 0 ++ joining 1 5 1 ++
    joining 2 5 0 ++ joining 2 5 1 ++
    joining 3 0 0 ++ joining 3 0 1 ++ joining 3 1 0 ++ joining 3 1 1 ++ joining 3 5 0 ++ joining 3 5 1 ++
    joining 4 1 0 ++ joining 4 1 1 ++
    joining 5 1 0 ++ joining 5 1 1 ++ joining 5 2 0 ++ joining 5 2 1 ++ joining 5 3 0 ++ joining 5 3 1

abbrev pub layers_table : List InLayers
layers_table =
    individuals ++ (in_layers one_role one_role_file ∷ in_layers to_t0 to_t0_file ∷ in_layers alike alike_file ∷ [])

-- a sheet, and how many bytes that file has
pub record FileLength : Type 0 where
  pub sheet : List ℕ
  pub bytes : ℕ

abbrev pub long : List ℕ → ℕ → FileLength
long s n = record { sheet = s; bytes = n }

abbrev pub measured : FileLength → FileLength
measured r = long r.sheet (length (of_sheet view_file r.sheet))

abbrev pub lengths : List FileLength
lengths = long [] 9 ∷ long (0x03 ∷ 0x00 ∷ []) 36 ∷ long one_role 324 ∷ long s1 2448 ∷ long s6 25569 ∷ []
