-- One more record of a message, and what the data of a set so far become.
use Rattle.std.proofs.Common.{◌≡◌, ℕ, true, false, List, [], ◌∷◌, fold, Result, Ok, Err, refl, sym, ap, ◌∙◌}
use Rattle.std.specs.Prelude.{IsErr, is_ok}
use Rattle.std.specs.Result.{result_unwrap_or}
use Rattle.std.specs.BTreeSet.{insert_key}
use Rattle.dns_wire.specs.Reading.{◌>>=◌}
use Rattle.dns_message.specs.declared.section.Section.{Section}
use Rattle.message_walk.specs.declared.data_error.DataError.{DataError}
use Rattle.message_walk.specs.declared.record_place.RecordPlace.{RecordPlace}
use Rattle.dns_wire.specs.declared.error.DecodeError.{DecodeError}
use Rattle.dns_wire.proofs.FieldLaws.{bind_ok, is_ok_same}
use Rattle.dns_grammar.specs.Messages.{Message, message_at}
use Rattle.dns_rdata.specs.RDataTable.{rdata_table}
use Rattle.message_walk.specs.Places.{data_at, places_at}
use Rattle.sec_sign.specs.Ascending.{ascending, octets_cmp}
use Rattle.sec_sign.specs.Sets.{SetName}
use Rattle.rrsig_input.specs.declared.input_error.InputError.{InputError}
use Rattle.rrsig_input.specs.declared.input_error.InputError.TheVariants as causes
use Rattle.rrsig_input.specs.SignedSets.{is_place_of, or_too_long, set_in}
use Rattle.rrsig_input.proofs.MessageSteps.{are_read, each_stands, few_places, set_is, short_message}
use Rattle.rrsig_input.proofs.Walks.{data_of_each}

-- ---- the data of a record

pub data_is : (m : List ℕ) (p : ℕ) → is_ok (data_at m p) ≡ true → data_at m p ≡ Ok (result_unwrap_or (data_at m p) [])
data_is m p h = at (data_at m p) h
  where
    at : (given : Result (List ℕ) DataError) → is_ok given ≡ true → given ≡ Ok (result_unwrap_or given [])
    at (Ok octets) h = refl
    at (Err cause) h = absurd cc

pub no_data_stands : (m : List ℕ) (p : ℕ) → is_ok (data_at m p) ≡ false → IsErr (data_at m p)
no_data_stands m p h = at (data_at m p) h
  where
    at : (given : Result (List ℕ) DataError) → is_ok given ≡ false → IsErr given
    at (Ok octets) h = absurd cc
    at (Err cause) h = refl

pub ruleset data_steps = (data_is, no_data_stands)

-- ---- the data of a set

-- strings put one after the other among those so far
abbrev pub put_each : List (List ℕ) → Result (List (List ℕ)) InputError → Result (List (List ℕ)) InputError
put_each so_far read = read >>= λ cs. Ok (fold (insert_key octets_cmp) so_far cs)

abbrev Data : Type 0
Data = Result (List ℕ) DataError

abbrev Each : Type 0
Each = Result (List (List ℕ)) DataError

-- the data of a set are those of its records, put one after the other among none
pub from_none : (m : List ℕ) (section : Section) (set : SetName) (left : List RecordPlace)
    → places_at m ≡ Ok left
    → put_each [] (data_of_each m section set left) ≡ set_in (message_at rdata_table m) section set
unfolding ascending
from_none m section set left is =
    let read = bind_ok (message_at rdata_table m) _ left is in
    sym (ap (λ (places : List RecordPlace). put_each [] (data_of_each m section set places)) (is_ok_same _ left read.2))
    ∙ set_is m section set read.0.0 (are_read m read.0.0 read.0.1 read.1)
    ∙ sym (ap (λ (r : Result (Message × ℕ) DecodeError). set_in r section set) read.1)

moved : (so_far : List (List ℕ)) (c : List ℕ) (others : Each)
    → put_each so_far (or_too_long (others >>= λ cs. Ok (c ∷ cs)))
    ≡ put_each (insert_key octets_cmp so_far c) (or_too_long others)
moved so_far c (Ok cs) = refl
moved so_far c (Err cause) = refl

taken_first : (so_far : List (List ℕ)) (c : List ℕ) (first : Data) (others : Each) → first ≡ Ok c
    → put_each so_far (or_too_long (first >>= λ c. others >>= λ cs. Ok (c ∷ cs)))
    ≡ put_each (insert_key octets_cmp so_far c) (or_too_long others)
taken_first so_far c first others is = rw is (moved so_far c others)

stopped_first : (so_far : List (List ℕ)) (first : Data) (others : Each) → IsErr first
    → put_each so_far (or_too_long (first >>= λ c. others >>= λ cs. Ok (c ∷ cs))) ≡ Err causes.DataTooLong
stopped_first so_far (Ok c) others h = absurd cc
stopped_first so_far (Err cause) others h = refl

module _ (m : List ℕ) (section : Section) (set : SetName) (left rest : List RecordPlace) (place : RecordPlace)
    (is : left ≡ place ∷ rest) (so_far : List (List ℕ)) where
  abbrev put_those : List RecordPlace → Result (List (List ℕ)) InputError
  put_those places = put_each so_far (data_of_each m section set places)

  -- a record of another set
  pub passes_over : is_place_of m section set place ≡ false
      → put_each so_far (data_of_each m section set left) ≡ put_each so_far (data_of_each m section set rest)
  passes_over h = ap put_those is ∙ rw h refl

  -- a record of the set
  pub takes : (c : List ℕ) → is_place_of m section set place ≡ true → data_at m place.start ≡ Ok c
      → put_each so_far (data_of_each m section set left)
      ≡ put_each (insert_key octets_cmp so_far c) (data_of_each m section set rest)
  takes c h made = ap put_those is ∙ rw h (taken_first so_far c (data_at m place.start) _ made)

  -- a record of the set whose data don't fit
  pub stops : is_place_of m section set place ≡ true → IsErr (data_at m place.start)
      → put_each so_far (data_of_each m section set left) ≡ Err causes.DataTooLong
  stops h none = ap put_those is ∙ rw h (stopped_first so_far (data_at m place.start) _ none)

pub none_left : (m : List ℕ) (section : Section) (set : SetName) (left : List RecordPlace) (so_far : List (List ℕ))
    → left ≡ [] → put_each so_far (data_of_each m section set left) ≡ Ok so_far
none_left m section set left so_far is =
    ap (λ (places : List RecordPlace). put_each so_far (data_of_each m section set places)) is

pub ruleset set_steps = (from_none, passes_over, takes, stops, none_left, each_stands, few_places, short_message)
