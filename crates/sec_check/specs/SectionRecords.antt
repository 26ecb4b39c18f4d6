-- The records of a section by record sets, as they are held.
use Rattle.std.specs.Prelude.{◌≡◌, Bool, false, ℕ, ◌&&◌, List, map, Option, Some, None}
use Rattle.std.specs.declared.cmp.Ordering.{Ordering}
use Rattle.std.specs.Ordering.{nat_cmp, ordering_then}
use Rattle.std.specs.BTreeSet.{BTreeSet, contains}
use Rattle.std.specs.List.{filter, list_any}
use Rattle.dns_names.specs.Names.{name_cmp}
use Rattle.sec_sigdata.specs.Signatures.{SigData}
use Rattle.dns_rdata.specs.declared.rdata.RData.{RData}
use Rattle.dns_message.specs.declared.record.Record.{Record}
use Rattle.dns_message.specs.Parts.{record_view}
use Rattle.sec_sign.specs.Sets.{SetName, same_set, set_of}
use Rattle.sec_sign.specs.Pairs.{SignatureRecord, signature_record}
use Rattle.sec_check.specs.declared.rrset_key.RrsetKey.{RrsetKey}
use Rattle.sec_check.specs.RecordSets.{forms_rrset, record_sets}

-- ---- keys of sets

abbrev pub key_of : SetName → RrsetKey
key_of set = record { dns_class = set.dns_class; rtype = set.rtype; owner = set.name }

abbrev pub name_of : RrsetKey → SetName
name_of key = record { name = key.owner; dns_class = key.dns_class; rtype = key.rtype }

abbrev pub key_cmp : RrsetKey → RrsetKey → Ordering
key_cmp x y =
    ordering_then (nat_cmp x.dns_class y.dns_class)
    (ordering_then (nat_cmp x.rtype y.rtype) (name_cmp x.owner y.owner))

-- the keys are those of the sets
pub record Knows (sets : List SetName) (seen : BTreeSet RrsetKey) : Type 0 where
  pub all : (q : SetName) → contains key_cmp seen (key_of q) ≡ list_any (same_set q) sets

-- ---- records by sets

-- whether a record is of a set that it forms
abbrev pub is_record_of : SetName → Record RData → Bool
is_record_of set rr = forms_rrset (record_view rr).rtype && same_set (set_of (record_view rr)) set

-- the set that an RRSIG with this owner and class covers, if there is one (RFC 4034 3.1.1)
abbrev pub covered_by : List (List ℕ) → ℕ → Option SigData → Option SetName
covered_by owner dns_class None = None
covered_by owner dns_class (Some sig) =
    Some record { name = owner; dns_class = dns_class; rtype = sig.input.type_covered }

abbrev pub covered_set : SignatureRecord → Option SetName
covered_set signature = covered_by signature.owner signature.dns_class signature.rrsig

abbrev pub is_set : SetName → Option SetName → Bool
is_set set None = false
is_set set (Some other) = same_set other set

-- whether a record is a signature that covers a set
abbrev pub is_signature_of : SetName → Record RData → Bool
is_signature_of set rr = is_set set (covered_set (signature_record rr))

-- the sets of the records of a section, the records of each, and the signatures that cover each
pub record IsSorted (sets : List SetName) (records_at signatures_at : RrsetKey → List (Record RData))
    (records : List (Record RData)) : Type 0 where
  pub all_sets : sets ≡ record_sets (map record_view records)
  pub records_of : (set : SetName) → records_at (key_of set) ≡ filter (is_record_of set) records
  pub signatures_of : (set : SetName) → signatures_at (key_of set) ≡ filter (is_signature_of set) records
