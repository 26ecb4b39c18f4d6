-- What is answered of a message that was received.
use Rattle.std.specs.Prelude.{ℕ, List, Bool, length, Option, Some, Result, Ok, Err}
use Rattle.std.specs.Int.{w16, w32}
use Rattle.dns_wire.specs.declared.error.DecodeError.{DecodeError}
use Rattle.dns_wire.specs.Reading.{◌>>=◌, number_at}
use Rattle.dns_names.specs.Places.{name_at}
use Rattle.dns_grammar.specs.Messages.{Header, Message, ResourceRecord, Signature, last_additional, message_at}
use Rattle.dns_grammar.specs.Messages.{signature_of}
use Rattle.dns_rdata.specs.RDataTable.{rdata_table}
use Rattle.sec_codes.specs.declared.proof.Proof.TheVariants.{Indeterminate}
use Rattle.sec_sigdata.specs.TsigAlgorithms.{tsig_algorithm_named}
use Rattle.sec_sigdata.specs.TsigErrors.{optional_error}
use Rattle.sec_tsig.specs.declared.verify_error.VerifyError.{VerifyError}
use Rattle.sec_tsig.specs.declared.verify_error.VerifyError.TheVariants as causes
use Rattle.sec_tsig.specs.Tsig.{received_input, TsigRecord}
use Rattle.sec_tsig.specs.Signers.{Signer}
use Rattle.sec_tsig.specs.Verdict.{checked_mac, window_start, window_end, with_tsig}

-- a MAC, the time signed, and the window: its first second, and the one after its last
pub record Checked : Type 0 where
  pub mac : List ℕ
  pub time : ℕ
  pub start : ℕ
  pub end : ℕ

-- the MAC, the time and the window of a message with this TSIG, or the first cause why its MAC is not right
abbrev pub checked_byte : Signer → Option (List ℕ) → Bool → List ℕ → Header → Signature → Result Checked VerifyError
checked_byte signer previous first m header s =
    checked_mac signer previous first m header s >>= λ mac. Ok
    (record { mac = mac; time = s.tsig.time; start = window_start s; end = window_end s })

-- the same of octets
abbrev pub checked_message : Signer → Option (List ℕ) → Bool → List ℕ → Result Checked VerifyError
checked_message signer previous first m = with_tsig (checked_byte signer previous first m) (message_at rdata_table m)

-- ---- the octets under the MAC, and the record

-- a TSIG record of this class and TTL, as it was received
abbrev pub received_record : ℕ → ℕ → Signature → TsigRecord
received_record dns_class ttl s = record {
  name = s.name;
  dns_class = dns_class;
  ttl = ttl;
  tsig =
      record {
        algorithm = tsig_algorithm_named s.tsig.algorithm;
        time = s.tsig.time;
        fudge = s.tsig.fudge;
        mac = s.tsig.mac;
        oid = s.tsig.oid;
        error = optional_error s.tsig.error;
        other = s.tsig.other;
      };
  proof = Indeterminate;
}

-- what is under the MAC of a message with this last additional record, and the record, where it is a TSIG
abbrev pub input_of_last : Option (List ℕ) → Bool → List ℕ → Header → Option ResourceRecord → Option Signature
    → Result (List ℕ × TsigRecord) VerifyError
input_of_last previous first m header (Some rr) (Some s) =
    Ok (received_input previous first m header s, received_record rr.dns_class rr.ttl s)
input_of_last previous first m header _ _ = Err causes.MissingTsig

abbrev pub input_of_read : Option (List ℕ) → Bool → List ℕ → Result (Message × ℕ) DecodeError
    → Result (List ℕ × TsigRecord) VerifyError
input_of_read previous first m (Err _) = Err causes.Decode
input_of_read previous first m (Ok x) =
    input_of_last previous first m x.0.header (last_additional x.0) (signature_of x.0)

-- what is under the MAC of octets, and their TSIG record, or the first cause why there is none
abbrev pub signed_input : Option (List ℕ) → Bool → List ℕ → Result (List ℕ × TsigRecord) VerifyError
signed_input previous first m = input_of_read previous first m (message_at rdata_table m)

-- the class and the TTL of the record at p
unfoldable pub class_and_ttl_at : List ℕ → ℕ → Result (ℕ × ℕ) DecodeError
class_and_ttl_at m p = do
  name ← name_at m p (length m)
  rtype ← number_at w16 m name.1 (length m)
  dns_class ← number_at w16 m rtype.1 (length m)
  ttl ← number_at w32 m dns_class.1 (length m)
  Ok (dns_class.0, ttl.0)
