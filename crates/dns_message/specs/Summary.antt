-- How far records are proved authentic (RFC 4035 4.3), one by one and together.
use Rattle.std.specs.Prelude.{List, [], ◌∷◌, map, not, nat_eq, Bool, true, false, ◌&&◌, if◌then◌else◌}
use Rattle.std.specs.List.{filter, list_any, list_all}
use Rattle.dns_types.specs.TypeNumbers as types
use Rattle.dns_rdata.specs.declared.rdata.RData.{RData}
use Rattle.dns_rdata.specs.RData.{rdata_type}
use Rattle.sec_codes.specs.declared.proof.Proof.{Proof}
use Rattle.sec_codes.specs.declared.proof.Proof.TheVariants as proof
use Rattle.dns_message.specs.declared.dnssec.DnssecSummary.{DnssecSummary}
use Rattle.dns_message.specs.declared.dnssec.DnssecSummary.TheVariants.{Secure, Bogus, Insecure}
use Rattle.dns_message.specs.declared.record.Record.{Record}

-- a record beside its proof
abbrev pub with_proof : Record RData → Proof × Record RData
with_proof rr = (rr.proof, rr)

abbrev pub is_bogus : Proof → Bool
is_bogus proof.Bogus = true
is_bogus _ = false

abbrev pub is_secure : Proof → Bool
is_secure proof.Secure = true
is_secure _ = false

-- the proofs of records other than RRSIG
abbrev pub shown_proofs : List (Record RData) → List Proof
shown_proofs records =
    map (λ rr. rr.proof) (filter (λ rr. not (nat_eq (rdata_type rr.rdata) types.RRSIG)) records)

-- whether there is one
abbrev pub has_one : {A : Type 0} → List A → Bool
has_one [] = false
has_one (_ ∷ _) = true

-- Bogus where one of these records is, else Secure where there is one and all are, else Insecure; RRSIG records aside
abbrev pub summary : List (Record RData) → DnssecSummary
summary records =
    let proofs = shown_proofs records in
    if list_any is_bogus proofs then Bogus
    else if has_one proofs && list_all is_secure proofs then Secure else Insecure
