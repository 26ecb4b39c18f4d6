-- The RRSIG that is looked for, record by record.
use Rattle.std.proofs.Common.{◌≡◌, ℕ, true, false, eqb, List, [], ◌∷◌, Option, None, Result, Ok, refl, sym, ap, ◌∙◌}
use Rattle.std.specs.Option.{ok_or}
use Rattle.dns_wire.specs.declared.error.DecodeError.{DecodeError}
use Rattle.dns_wire.proofs.FieldLaws.{bind_ok, is_ok_same}
use Rattle.dns_grammar.specs.Messages.{Message, message_at}
use Rattle.dns_rdata.specs.RDataTable.{rdata_table}
use Rattle.message_walk.specs.declared.record_place.RecordPlace.{RecordPlace}
use Rattle.message_walk.specs.Places.{places_at, record_from}
use Rattle.sec_sigdata.specs.declared.sig_input.SigInput.{SigInput}
use Rattle.rrsig_input.specs.declared.input_error.InputError.TheVariants.{NoRrsig}
use Rattle.rrsig_input.specs.SignedSets.{input_in, input_read}
use Rattle.rrsig_input.proofs.MessageSteps.{are_read, each_stands, input_is}
use Rattle.rrsig_input.proofs.Walks.{input_among}

pub among_all : (m : List ℕ) (p : ℕ) (left : List RecordPlace) → places_at m ≡ Ok left
    → ok_or (input_among m p left) NoRrsig ≡ input_in (message_at rdata_table m) p
among_all m p left is =
    let read = bind_ok (message_at rdata_table m) _ left is in
    sym (ap (λ (places : List RecordPlace). ok_or (input_among m p places) NoRrsig) (is_ok_same _ left read.2))
    ∙ ap (λ (found : Option SigInput). ok_or found NoRrsig)
    (sym (input_is m p read.0.0 (are_read m read.0.0 read.0.1 read.1)))
    ∙ sym (ap (λ (r : Result (Message × ℕ) DecodeError). input_in r p) read.1)

module _ (m : List ℕ) (p : ℕ) (left rest : List RecordPlace) (place : RecordPlace) (is : left ≡ place ∷ rest) where
  pub starts_elsewhere : eqb place.start p ≡ false → input_among m p left ≡ input_among m p rest
  starts_elsewhere h = ap (input_among m p) is ∙ rw h refl

  pub starts_here : eqb place.start p ≡ true → input_among m p left ≡ input_read (record_from m place.start)
  starts_here h = ap (input_among m p) is ∙ rw h refl

pub starts_nowhere : (m : List ℕ) (p : ℕ) (left : List RecordPlace) → left ≡ [] → input_among m p left ≡ None
starts_nowhere m p left is = ap (input_among m p) is

pub ruleset walk_steps = (among_all, starts_elsewhere, starts_here, starts_nowhere, each_stands)
