-- One more record of a set, and what the data so far become.
use Rattle.std.proofs.Common.{◌≡◌, ℕ, ◌+◌, ◌<◌, refl, sym, ap, ◌∙◌, true, false, List, [], ◌∷◌, length, drop, fold}
use Rattle.std.proofs.Common.{get_or}
use Rattle.std.specs.Prelude.{Result, Ok, Err}
use Rattle.std.specs.BTreeSet.{insert_key}
use Rattle.std.proofs.lemmas.List.{at_drop_more}
use Rattle.dns_wire.specs.declared.error.EmitError.{EmitError}
use Rattle.dns_wire.specs.Reading.{◌>>=◌}
use Rattle.dns_rdata.specs.declared.rdata.RData.{RData}
use Rattle.dns_message.specs.declared.record.Record.{Record}
use Rattle.sec_sign.specs.Ascending.{ascending, octets_cmp}
use Rattle.sec_sign.specs.Sets.{SetName, canonical, canonical_each, members, same_set, set_data, set_of_record}

-- strings put one after the other among those so far
abbrev pub put_each : List (List ℕ) → Result (List (List ℕ)) EmitError → Result (List (List ℕ)) EmitError
put_each so_far read = read >>= λ cs. Ok (fold (insert_key octets_cmp) so_far cs)

-- the data of a set are those of its records, put one after the other among none
pub from_none : (set : SetName) (records : List (Record RData))
    → put_each [] (canonical_each (members set_of_record set records)) ≡ set_data set records
unfolding ascending
from_none set records = refl

moved : (so_far : List (List ℕ)) (c : List ℕ) (read : Result (List (List ℕ)) EmitError)
    → put_each so_far (read >>= λ cs. Ok (c ∷ cs)) ≡ put_each (insert_key octets_cmp so_far c) read
moved so_far c (Ok cs) = refl
moved so_far c (Err e) = refl

module _ (set : SetName) (records : List (Record RData)) (i : ℕ) (so_far : List (List ℕ)) where
  abbrev left : List (Record RData) → Result (List (List ℕ)) EmitError
  left rs = put_each so_far (canonical_each (members set_of_record set rs))

  module _ (r : Record RData) (lt : i < length records) (is : r ≡ get_or records i r) where
    here : left (drop i records) ≡ left (r ∷ drop (i + 1) records)
    here = at_drop_more left records i r lt ∙ ap (λ x. left (x ∷ drop (i + 1) records)) (sym is)

    -- a record of another set
    pub passes_over : same_set (set_of_record r) set ≡ false → left (drop i records) ≡ left (drop (i + 1) records)
    passes_over h = here ∙ rw h refl

    -- a record of the set
    pub takes : (c : List ℕ) → same_set (set_of_record r) set ≡ true → canonical r.rdata ≡ Ok c → left (drop i records)
        ≡ put_each (insert_key octets_cmp so_far c) (canonical_each (members set_of_record set (drop (i + 1) records)))
    takes c h made = here ∙ rw (h, made) (moved so_far c (canonical_each (members set_of_record set (drop (i + 1) records))))

    -- a record of the set that can't be written
    pub stops : (e : EmitError) → same_set (set_of_record r) set ≡ true → canonical r.rdata ≡ Err e → left (drop i records) ≡ Err e
    stops e h cause = here ∙ rw (h, cause) refl
