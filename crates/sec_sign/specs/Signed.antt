-- The octets of a record set that are signed (RFC 4034 3.1.8.1, RFC 4035 5.3.2).
use Rattle.std.specs.Prelude.{ℕ, ◌-◌, nat_eq, nat_lt, if◌then◌else◌, List, ◌∷◌, ◌++◌, length, drop, codes}
use Rattle.std.specs.Prelude.{Option, Some, None, Result, Ok}
use Rattle.std.specs.Int.{to_be_bytes, w8}
use Rattle.std.specs.List.{flat_map}
use Rattle.std.specs.Option.{ok_or}
use Rattle.dns_wire.specs.declared.encoder.NameEncoding.TheVariants.{Uncompressed}
use Rattle.dns_wire.specs.declared.error.EmitError.{EmitError}
use Rattle.dns_wire.specs.Octets.{two_octets, four_octets}
use Rattle.dns_wire.specs.Reading.{◌>>=◌}
use Rattle.dns_names.specs.Names.{count, low, wire}
use Rattle.dns_grammar.specs.Messages.{ResourceRecord}
use Rattle.dns_grammar.specs.MessageWriting.{head_octets}
use Rattle.sec_codes.specs.Algorithms.{number}
use Rattle.sec_sigdata.specs.declared.sig_input.SigInput.{SigInput}
use Rattle.dns_rdata.specs.declared.rdata.RData.{RData}
use Rattle.dns_message.specs.declared.record.Record.{Record}
use Rattle.sec_sign.specs.declared.tbs_error.TbsError.{TbsError}
use Rattle.sec_sign.specs.declared.tbs_error.TbsError.TheVariants.{LabelsExceedOwner}
use Rattle.sec_sign.specs.Causes.{for_set}
use Rattle.sec_sign.specs.Sets.{SetName, set_data}

-- ---- the owner

-- The owner as it is signed, by the count of labels in the RRSIG: none where it has fewer, a `*` in front not counted;
-- itself where it has so many; and `*` before so many of its rightmost labels where it has more (RFC 4035 5.3.2).
abbrev pub shown_owner : List (List ℕ) → ℕ → Option (List (List ℕ))
shown_owner name labels =
    if nat_lt (count name) labels then None
    else if nat_eq (count name) labels then Some name
    else Some (codes "*" ∷ drop (length name - labels) name)

-- the same, or the cause
abbrev pub signed_owner : List (List ℕ) → ℕ → Result (List (List ℕ)) TbsError
signed_owner name labels = ok_or (shown_owner name labels) (LabelsExceedOwner labels (count name))

-- ---- the string

-- the set that an RRSIG with these fields covers, of an owner and a class
abbrev pub set_covered : List (List ℕ) → ℕ → SigInput → SetName
set_covered name dns_class input = record { name = name; dns_class = dns_class; rtype = input.type_covered }

-- the data of the RRSIG up to the signature: type covered, algorithm, labels, original TTL, expiration, inception, key
-- tag, and the signer's name in lower case (RFC 4034 3.1, 6.2)
unfoldable pub header_octets : SigInput → List ℕ
header_octets input =
    two_octets input.type_covered ++ to_be_bytes w8 (number input.algorithm) ++ to_be_bytes w8 input.num_labels
    ++ four_octets input.original_ttl ++ four_octets input.sig_expiration.0 ++ four_octets input.sig_inception.0
    ++ two_octets input.key_tag ++ wire (low input.signer_name)

-- what comes before the data of each record of the set: the owner in lower case, the type covered, the class, and the
-- original TTL (RFC 4034 6.2)
abbrev pub signed_head : List (List ℕ) → ℕ → SigInput → ResourceRecord
signed_head owner dns_class input = record {
  start = 0;
  name = low owner;
  rtype = input.type_covered;
  dns_class = dns_class;
  ttl = input.original_ttl;
  rdata = None;
}

-- a record with this head and these data (RFC 1035 4.1.3)
unfoldable pub record_octets : ResourceRecord → List ℕ → List ℕ
record_octets head rdata = head_octets Uncompressed head (length rdata) ++ rdata

-- a record with each of these data
abbrev pub records_octets : ResourceRecord → List (List ℕ) → List ℕ
records_octets head strings = flat_map (record_octets head) strings

-- the string that is signed for a set with these data, under the owner as it is signed (RFC 4034 3.1.8.1)
unfoldable pub signed_octets : List (List ℕ) → SigInput → ℕ → List (List ℕ) → List ℕ
signed_octets owner input dns_class strings =
    header_octets input ++ records_octets (signed_head owner dns_class input) strings

-- the same, or why the set has no data
abbrev pub signed_under : List (List ℕ) → SigInput → ℕ → Result (List (List ℕ)) EmitError → Result (List ℕ) EmitError
signed_under owner input dns_class set = do
  strings ← set
  Ok (signed_octets owner input dns_class strings)

-- the string that is signed for the set of a name and a class with these data, or why there is none
abbrev pub signed_of : SigInput → List (List ℕ) → ℕ → Result (List (List ℕ)) EmitError → Result (List ℕ) TbsError
signed_of input name dns_class set = do
  owner ← signed_owner name input.num_labels
  for_set (signed_under owner input dns_class set)

-- the string that is signed for the set of a name and a class among these records, or why there is none
abbrev pub signed : SigInput → List (List ℕ) → ℕ → List (Record RData) → Result (List ℕ) TbsError
signed input name dns_class records =
    signed_of input name dns_class (set_data (set_covered name dns_class input) records)
