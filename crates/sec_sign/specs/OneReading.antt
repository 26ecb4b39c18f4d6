-- That the octets that are signed tell what they are of.
use Rattle.std.specs.Prelude.{◌≡◌, ◌↔◌, ◌⊎◌, ℕ, ◌<◌, ◌^◌, List, [], Ok}
use Rattle.dns_names.specs.Names.{IsName, Same}
use Rattle.sec_codes.specs.Algorithms.{number}
use Rattle.sec_sigdata.specs.declared.sig_input.SigInput.{SigInput}
use Rattle.sec_sigdata.specs.Signatures.{InputFits}
use Rattle.dns_rdata.specs.declared.rdata.RData.{RData}
use Rattle.dns_message.specs.declared.record.Record.{Record}
use Rattle.sec_sign.specs.Sets.{members, set_data, set_of_record}
use Rattle.sec_sign.specs.Signed.{set_covered, signed, signed_owner}

-- the seven numbers agree, and the signers are the same name
pub record SameHeader (h g : SigInput) : Type 0 where
  pub type_covered : h.type_covered ≡ g.type_covered
  pub algorithm : number h.algorithm ≡ number g.algorithm
  pub num_labels : h.num_labels ≡ g.num_labels
  pub original_ttl : h.original_ttl ≡ g.original_ttl
  pub sig_expiration : h.sig_expiration.0 ≡ g.sig_expiration.0
  pub sig_inception : h.sig_inception.0 ≡ g.sig_inception.0
  pub key_tag : h.key_tag ≡ g.key_tag
  pub signer_name : Same h.signer_name g.signer_name

-- What is signed of two sets is equal exactly where the fields before the signature agree, the data of the sets in
-- ascending order agree, and, unless the set has no record, the owners as they are signed are the same name and the
-- classes agree.
abbrev pub OneReading : Type 0
OneReading = (input other_input : SigInput) (name other_name owner other_owner : List (List ℕ))
    (dns_class other_class : ℕ) (records other_records : List (Record RData)) (strings other_strings : List (List ℕ))
    (octets other_octets : List ℕ)
    → InputFits input → InputFits other_input → IsName name → IsName other_name
    → dns_class < 2 ^ 16 → other_class < 2 ^ 16
    → signed_owner name input.num_labels ≡ Ok owner → signed_owner other_name other_input.num_labels ≡ Ok other_owner
    → set_data (set_covered name dns_class input) records ≡ Ok strings
    → set_data (set_covered other_name other_class other_input) other_records ≡ Ok other_strings
    → signed input name dns_class records ≡ Ok octets → signed other_input other_name other_class other_records ≡ Ok other_octets
    → (octets ≡ other_octets) ↔ (SameHeader input other_input × (strings ≡ other_strings)
    × ((members set_of_record (set_covered name dns_class input) records ≡ [])
    ⊎ (Same owner other_owner × (dns_class ≡ other_class))))
