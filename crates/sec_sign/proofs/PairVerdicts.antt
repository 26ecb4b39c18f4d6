-- The verdict on a pair, by what is found of it.
use Rattle.std.proofs.Common.{◌≡◌, ℕ, true, false, List, Some, None, Result, refl}
use Rattle.dns_wire.specs.declared.error.EmitError.{EmitError}
use Rattle.sec_sigdata.specs.declared.rrsig.RRSIG.{RRSIG}
use Rattle.sec_sigdata.specs.Signatures.{rrsig_data}
use Rattle.dns_rdata.specs.declared.rdata.RData.{RData}
use Rattle.dns_message.specs.declared.record.Record.{Record}
use Rattle.sec_sign.specs.declared.pair.PairVerdict.TheVariants.{NotMet}
use Rattle.sec_sign.specs.Sets.{SetName}
use Rattle.sec_sign.specs.Pairs.{ZoneKey, is_authentic, meets, met_verdict, rrsig_of, set_verdict}
use Rattle.sec_sign.specs.Verifying.{Relation}

module _ (accepts : Relation) (moment : ℕ) (set : SetName) (rr : Record RData) (key : ZoneKey)
    (strings : Result (List (List ℕ)) EmitError) where
  -- a record that is no RRSIG
  pub no_signature : rrsig_of rr.rdata ≡ None → NotMet ≡ set_verdict accepts moment set rr key strings
  no_signature none = rw none refl

  -- an RRSIG that doesn't meet the set
  pub not_met : (rrsig : RRSIG) → rrsig_of rr.rdata ≡ Some rrsig
      → meets moment set rr.name rr.dns_class (rrsig_data rrsig).input key ≡ false
      → NotMet ≡ set_verdict accepts moment set rr key strings
  not_met rrsig is other = rw (is, other) refl

  -- one that meets it
  pub met : (rrsig : RRSIG) → rrsig_of rr.rdata ≡ Some rrsig
      → meets moment set rr.name rr.dns_class (rrsig_data rrsig).input key ≡ true
      → met_verdict (is_authentic accepts set (rrsig_data rrsig) key.dnskey.public_key strings)
      ≡ set_verdict accepts moment set rr key strings
  met rrsig is meets = rw (is, meets) refl
