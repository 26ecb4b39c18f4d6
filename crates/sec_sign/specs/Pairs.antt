-- When a key may have made a signature of a record set, and whether it did (RFC 4035 5.3.1).
use Rattle.std.specs.Prelude.{Bool, false, ◌&&◌, ℕ, ◌+◌, ◌-◌, ◌%◌, ◌^◌, nat_eq, nat_lt, if◌then◌else◌}
use Rattle.std.specs.Prelude.{List, length, drop, Option, Some, None, option_map, Result, Ok, Err}
use Rattle.dns_wire.specs.declared.error.EmitError.{EmitError}
use Rattle.dns_names.specs.Names.{count, same}
use Rattle.sec_codes.specs.Algorithms.{number}
use Rattle.sec_codes.specs.KeyForms.{Key}
use Rattle.sec_keydata.specs.DnsKeyFlags.{is_zone_key}
use Rattle.sec_keydata.specs.DnsKeys.{DnsKeyData, dnskey_data}
use Rattle.sec_keydata.specs.KeyTags.{dnskey_tag, is_tag}
use Rattle.sec_keydata.specs.WellFormedKeys.{is_well_formed}
use Rattle.sec_sigdata.specs.declared.rrsig.RRSIG.{RRSIG}
use Rattle.sec_sigdata.specs.declared.sig_input.SigInput.{SigInput}
use Rattle.sec_sigdata.specs.Signatures.{SigData, rrsig_data}
use Rattle.dns_rdata.specs.declared.dnssec_rdata.DNSSECRData.TheVariants as dnssec
use Rattle.dns_rdata.specs.declared.rdata.RData.{RData}
use Rattle.dns_rdata.specs.declared.rdata.RData.TheVariants as rdata
use Rattle.dns_message.specs.declared.record.Record.{Record}
use Rattle.sec_sign.specs.declared.pair_parts.RrsetName.{RrsetName}
use Rattle.sec_sign.specs.declared.pair_parts.ZoneKey.{ZoneKey as LentZoneKey}
use Rattle.sec_sign.specs.declared.pair.PairVerdict.{PairVerdict}
use Rattle.sec_sign.specs.declared.pair.PairVerdict.TheVariants.{NotMet, NotAccepted, Authentic}
use Rattle.sec_sign.specs.declared.tbs_error.TbsError.{TbsError}
use Rattle.sec_sign.specs.Sets.{SetName, set_data}
use Rattle.sec_sign.specs.Signed.{signed_of}
use Rattle.sec_sign.specs.Verifying.{Relation}

-- ---- times

-- how far a serial number of 32 bits is after another, which wrap (RFC 1982 3)
abbrev pub serial_distance : ℕ → ℕ → ℕ
serial_distance from to = (to + (2 ^ 32 - from)) % 2 ^ 32

-- whether a serial number is not after another: less than half of all before it, or the same (RFC 1982 3.2)
abbrev pub serial_le : ℕ → ℕ → Bool
serial_le from to = nat_lt (serial_distance from to) (2 ^ 31)

-- whether a moment is within the times of a signature (RFC 4034 3.1.5)
abbrev pub is_within_times : SigInput → ℕ → Bool
is_within_times input moment =
    serial_le input.sig_inception.0 moment && serial_le moment input.sig_expiration.0

-- ---- keys

-- a key of a zone: the owner of its record, the class, and the DNSKEY
pub record ZoneKey : Type 0 where
  pub owner : List (List ℕ)
  pub dns_class : ℕ
  pub dnskey : DnsKeyData

-- ---- the conditions

-- whether a name is that of a zone, or below it: its rightmost labels are those of the zone
abbrev pub is_under : List (List ℕ) → List (List ℕ) → Bool
is_under name zone = same (drop (length name - length zone) name) zone

-- An RRSIG with this owner and class, and with these fields, is one of the set: it has the set's owner, class and type,
-- and as many labels as the owner, a `*` in front not counted.
abbrev pub covers_set : SetName → List (List ℕ) → ℕ → SigInput → Bool
covers_set set owner dns_class input =
    nat_eq input.type_covered set.rtype
    && (nat_eq dns_class set.dns_class && (nat_eq input.num_labels (count set.name) && same owner set.name))

-- It names the key: the signer is the owner of the key, the classes agree, and so do algorithms and tags.
abbrev pub names_key : ZoneKey → ℕ → SigInput → Bool
names_key key dns_class input =
    nat_eq dns_class key.dns_class
    && (nat_eq (number input.algorithm) (number key.dnskey.public_key.algorithm)
    && (same input.signer_name key.owner && is_tag (dnskey_tag key.dnskey) input.key_tag))

-- A key may sign a set with this name: it is a well-formed key of a zone that the name is in.
abbrev pub may_sign : List (List ℕ) → DnsKeyData → List (List ℕ) → Bool
may_sign owner dnskey name =
    is_zone_key dnskey.flags && (is_under name owner && is_well_formed dnskey.public_key)

-- An RRSIG with this owner, class and fields and a key meet a set at a moment (RFC 4035 5.3.1).
abbrev pub meets : ℕ → SetName → List (List ℕ) → ℕ → SigInput → ZoneKey → Bool
meets moment set owner dns_class input key =
    covers_set set owner dns_class input
    && (is_within_times input moment && (names_key key dns_class input && may_sign key.owner key.dnskey set.name))

-- ---- as they are given to a call

-- the set that is named
abbrev pub set_named : RrsetName → SetName
set_named set = record { name = set.name.now; dns_class = set.dns_class; rtype = set.rtype }

-- the key of a zone that is lent
abbrev pub lent_key : LentZoneKey → ZoneKey
lent_key key = record { owner = key.owner.now; dns_class = key.dns_class; dnskey = dnskey_data key.dnskey.now }

-- ---- the verdict

-- the RRSIG that data are, if they are one that isn't empty
abbrev pub rrsig_of : RData → Option RRSIG
rrsig_of (rdata.DNSSEC (dnssec.RRSIG rrsig)) = Some rrsig
rrsig_of _ = None

-- whether there is a string, and it passes
abbrev pub passes : (List ℕ → Bool) → Result (List ℕ) TbsError → Bool
passes test (Ok octets) = test octets
passes test (Err _) = false

-- whether the key made the signature of the set with these data: there is a string to be signed, and the scheme accepts
-- the signature of it
abbrev pub is_authentic : Relation → SetName → SigData → Key → Result (List (List ℕ)) EmitError → Bool
is_authentic accepts set sig key strings =
    passes (λ octets. accepts key.algorithm key.octets octets sig.sig)
    (signed_of sig.input set.name set.dns_class strings)

-- a record as a signature of a set: its owner, its class, and the data of an RRSIG, where it has such that aren't empty
pub record SignatureRecord : Type 0 where
  pub owner : List (List ℕ)
  pub dns_class : ℕ
  pub rrsig : Option SigData

abbrev pub signature_record : Record RData → SignatureRecord
signature_record rr = record {
  owner = rr.name;
  dns_class = rr.dns_class;
  rrsig = option_map rrsig_data (rrsig_of rr.rdata);
}

-- the verdict on an RRSIG and a key that meet a set, the key having made the signature or not
abbrev pub met_verdict : Bool → PairVerdict
met_verdict is_right = if is_right then Authentic else NotAccepted

-- the verdict on an RRSIG with this owner and class, if there is one, and a key at a moment, for the set with these data,
-- which are none where a record of the set can't be written
abbrev pub rrsig_verdict : Relation → ℕ → SetName → ZoneKey → Result (List (List ℕ)) EmitError → List (List ℕ) → ℕ
    → Option SigData → PairVerdict
rrsig_verdict accepts moment set key octets owner dns_class None = NotMet
rrsig_verdict accepts moment set key octets owner dns_class (Some sig) =
    if meets moment set owner dns_class sig.input key then met_verdict (is_authentic accepts set sig key.dnskey.public_key octets)
    else NotMet

-- the same on a record
abbrev pub record_verdict : Relation → ℕ → SetName → ZoneKey → Result (List (List ℕ)) EmitError → SignatureRecord
    → PairVerdict
record_verdict accepts moment set key octets signature =
    rrsig_verdict accepts moment set key octets signature.owner signature.dns_class signature.rrsig

-- the same on a record in memory
abbrev pub set_verdict : Relation → ℕ → SetName → Record RData → ZoneKey → Result (List (List ℕ)) EmitError
    → PairVerdict
set_verdict accepts moment set rr key octets = record_verdict accepts moment set key octets (signature_record rr)

-- the verdict on a record and a key at a moment, for the set that is among these records
abbrev pub pair_verdict : Relation → ℕ → SetName → Record RData → ZoneKey → List (Record RData) → PairVerdict
pair_verdict accepts moment set rr key records =
    set_verdict accepts moment set rr key (set_data set records)
