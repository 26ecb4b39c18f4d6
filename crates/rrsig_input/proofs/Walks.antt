-- What is looked for among the records of a message, by the places where they start.
use Rattle.std.specs.Prelude.{ℕ, nat_eq, if◌then◌else◌, List, [], ◌∷◌, filter, Option, None, Result}
use Rattle.message_walk.specs.declared.record_place.RecordPlace.{RecordPlace}
use Rattle.message_walk.specs.Places.{data_at, record_from}
use Rattle.sec_sigdata.specs.declared.sig_input.SigInput.{SigInput}
use Rattle.sec_sign.specs.Sets.{SetName, for_each}
use Rattle.dns_message.specs.declared.section.Section.{Section}
use Rattle.rrsig_input.specs.declared.input_error.InputError.{InputError}
use Rattle.rrsig_input.specs.SignedSets.{input_read, is_place_of, or_too_long}

-- the fields of the RRSIG before its signature that starts at p, if one of these records does
abbrev pub input_among : List ℕ → ℕ → List RecordPlace → Option SigInput
input_among m p [] = None
input_among m p (place ∷ places) =
    if nat_eq place.start p then input_read (record_from m place.start) else input_among m p places

-- the data of each of these records that is of a set of a section
abbrev pub data_of_each : List ℕ → Section → SetName → List RecordPlace → Result (List (List ℕ)) InputError
data_of_each m section set places =
    or_too_long (for_each (λ place. data_at m place.start) (filter (is_place_of m section set) places))
