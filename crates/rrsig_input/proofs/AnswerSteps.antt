-- What an RRSIG covers, by the steps in which it is found.
use Rattle.std.proofs.Common.{◌≡◌, ℕ, List, Option, Some, None, Result, Ok, Err, refl, sym, ap}
use Rattle.std.specs.Option.{ok_or}
use Rattle.dns_wire.specs.declared.error.DecodeError.{DecodeError}
use Rattle.dns_wire.specs.Reading.{◌>>=◌}
use Rattle.dns_names.specs.Names.{count}
use Rattle.dns_grammar.specs.Messages.{Message, message_at}
use Rattle.dns_rdata.specs.RDataTable.{rdata_table}
use Rattle.dns_message.specs.declared.section.Section.{Section}
use Rattle.message_walk.specs.declared.record_place.RecordPlace.{RecordPlace}
use Rattle.message_walk.specs.Places.{message_places, places_at}
use Rattle.sec_sigdata.specs.declared.sig_input.SigInput.{SigInput}
use Rattle.sec_sign.specs.declared.tbs_error.TbsError.{TbsError}
use Rattle.sec_sign.specs.declared.tbs_error.TbsError.TheVariants.{LabelsExceedOwner}
use Rattle.sec_sign.specs.Signed.{set_covered, shown_owner, signed_octets, signed_owner}
use Rattle.rrsig_input.specs.declared.input_error.InputError.{InputError}
use Rattle.rrsig_input.specs.declared.input_error.InputError.TheVariants as causes
use Rattle.rrsig_input.specs.SignedSets.{input_in, set_in, signed_input}

-- an owner that is signed is the one that is shown
shown_is : (shown : Option (List (List ℕ))) (cause : TbsError) (above : List (List ℕ)) → ok_or shown cause ≡ Ok above
    → shown ≡ Some above
shown_is (Some shown) cause above is = let same : shown ≡ above = cc in ap (λ (x : List (List ℕ)). Some x) same
shown_is None cause above is = absurd cc

none_is_shown : (shown : Option (List (List ℕ))) (cause other : TbsError) → ok_or shown cause ≡ Err other → shown ≡ None
none_is_shown (Some shown) cause other is = absurd cc
none_is_shown None cause other is = refl

module _ (m : List ℕ) (section : Section) (owner : List (List ℕ)) (k p : ℕ) where
  pub no_message : (fault : DecodeError) → places_at m ≡ Err fault
      → signed_input m section owner k p ≡ Err causes.NoMessage
  no_message fault is = at (message_at rdata_table m) refl is
    where
      at : (read : Result (Message × ℕ) DecodeError) → message_at rdata_table m ≡ read
          → ◌≡◌ {A = Result (List RecordPlace) DecodeError} (read >>= λ r. Ok (message_places m r.0)) (Err fault)
          → signed_input m section owner k p ≡ Err causes.NoMessage
      at (Ok read) e h = absurd cc
      at (Err other) e h = rw e refl

  pub no_input : (cause : InputError) → input_in (message_at rdata_table m) p ≡ Err cause
      → signed_input m section owner k p ≡ Err cause
  no_input cause found = rw found refl

  module _ (input : SigInput) (found : input_in (message_at rdata_table m) p ≡ Ok input) where
    pub more_labels : (cause : TbsError) → Err cause ≡ signed_owner owner input.num_labels
        → signed_input m section owner k p ≡ Err causes.LabelsExceedOwner
    more_labels cause above =
        let none = none_is_shown (shown_owner owner input.num_labels)
        (LabelsExceedOwner input.num_labels (count owner)) cause (sym above) in
        rw (found, none) refl

    module _ (above : List (List ℕ)) (is_shown : Ok above ≡ signed_owner owner input.num_labels) where
      shown : shown_owner owner input.num_labels ≡ Some above
      shown = shown_is (shown_owner owner input.num_labels) (LabelsExceedOwner input.num_labels (count owner)) above
          (sym is_shown)

      pub no_data : (cause : InputError)
          → set_in (message_at rdata_table m) section (set_covered owner k input) ≡ Err cause
          → signed_input m section owner k p ≡ Err cause
      no_data cause is = rw (found, shown, is) refl

      pub all_found : (cs : List (List ℕ))
          → set_in (message_at rdata_table m) section (set_covered owner k input) ≡ Ok cs
          → signed_input m section owner k p ≡ Ok (signed_octets above input k cs)
      all_found cs is = rw (found, shown, is) refl

pub ruleset endings = (no_message, no_input, more_labels, no_data, all_found)
