-- Laws of the records that a table holds.
use Rattle.std.proofs.Common.{◌≡◌, ℕ, ◌<◌, ◌≤◌, arith, true, List, length, map, set, get_or}
use Rattle.std.proofs.lemmas.List.{get_or-map, map-set, length-map, length-set, take-append-le}
use Rattle.std.proofs.Math.Seq.{take_all}
use Rattle.std.specs.List.{refill}
use Rattle.records.specs.Entries.{Entry}
use Rattle.records.specs.Scan.{record_at_lem, blank, naming}
use Rattle.records.specs.Nodes.{entry_of}
use Rattle.records.specs.declared.nodes.Record.{Record}

-- a record with the note that it is named
abbrev pub marked : Record → Record
marked x = record { node = x.node; named = true; vacuous = x.vacuous }

-- record r, at the place i, is noted as named in a copy of the n records that is written back
pub entries-named : (rs copy : List Record) (es : List Entry) (i r n : ℕ) (d : Record) → map entry_of rs ≡ es → copy ≡ rs → i ≡ r → i < n → n ≡ length rs →
    map entry_of (refill (length rs) rs (set copy i (marked (get_or copy i d)))) ≡ set es r (naming (record_at_lem es r))
unfolding entry_of
entries-named rs copy es i r n d e c p h l =
    let b : r < length rs = omega arith in
    let k : length rs ≤ length (set rs r (marked (get_or rs r d))) = rw length-set (omega arith) in
    let f : length (set rs r (marked (get_or rs r d))) ≤ length rs = rw length-set (omega arith) in
    rw (c, p, ← e) (rw (take-append-le (length rs) _ _ k, take_all (length rs) _ f, map-set entry_of rs r _, get_or-map entry_of rs r d blank b))

-- past the n records there is none
pub entries-past : (rs : List Record) (es : List Entry) (i r n : ℕ) → map entry_of rs ≡ es → i ≡ r → n ≤ i → n ≡ length rs → length es ≤ r
entries-past rs es i r n e p h l = rw (← e, length-map rs entry_of) (omega arith)
