-- How far a record set of an answer is proved authentic, by the signatures in its section and by trusted keys
-- (RFC 4035 5.3).
use Rattle.std.specs.Prelude.{Bool, true, false, ℕ, if◌then◌else◌, List, [], ◌∷◌, map}
use Rattle.std.specs.Prelude.{Result}
use Rattle.std.specs.List.{list_any}
use Rattle.dns_wire.specs.declared.error.EmitError.{EmitError}
use Rattle.dns_grammar.specs.Messages.{ResourceRecord}
use Rattle.sec_codes.specs.declared.proof.Proof.{Proof}
use Rattle.sec_codes.specs.declared.proof.Proof.TheVariants.{Indeterminate, Bogus, Secure}
use Rattle.sec_anchor.specs.Entries.{EntryData}
use Rattle.sec_sign.specs.declared.pair.PairVerdict.{PairVerdict}
use Rattle.sec_sign.specs.declared.pair.PairVerdict.TheVariants.{NotMet, NotAccepted, Authentic}
use Rattle.sec_sign.specs.MessageSignatures.{rrsig_in}
use Rattle.sec_sign.specs.Sets.{SetName, set_octets}
use Rattle.sec_sign.specs.Pairs.{SignatureRecord, ZoneKey, record_verdict}
use Rattle.sec_sign.specs.Verifying.{Relation}

-- ---- signatures, keys, sets

-- a record as a signature of a set, which it is where its type is RRSIG and its data aren't empty
abbrev pub signature_of_record : ResourceRecord → SignatureRecord
signature_of_record rr = record {
  owner = rr.name;
  dns_class = rr.dns_class;
  rrsig = rrsig_in rr;
}

-- an entry as a key of the zone that is its owner
abbrev pub zone_key : EntryData → ZoneKey
zone_key entry = record { owner = entry.name; dns_class = entry.dns_class; dnskey = entry.dnskey }

-- ---- marks

-- what is trusted: what the scheme accepts, the moment of the check, and the entries
pub record Trust : Type 0 where
  pub accepts : Relation
  pub moment : ℕ
  pub entries : List EntryData

-- the verdict on a record of the section and an entry, for a set of the section
abbrev pub pair_verdict : Trust → List ResourceRecord → SetName → ResourceRecord → EntryData → PairVerdict
pair_verdict trust records set rr entry =
    record_verdict trust.accepts trust.moment set (zone_key entry) (set_octets set records) (signature_of_record rr)

abbrev pub is_authentic : PairVerdict → Bool
is_authentic Authentic = true
is_authentic NotAccepted = false
is_authentic NotMet = false

abbrev pub has_met : PairVerdict → Bool
has_met Authentic = true
has_met NotAccepted = true
has_met NotMet = false

-- whether some pair passes
abbrev pub some_pair : {X Y : Type 0} → (X → Y → Bool) → List X → List Y → Bool
some_pair test xs ys = list_any (λ x. list_any (test x) ys) xs

-- The mark of a set among the records of a section: Secure where a record and an entry are an authentic pair, Bogus
-- where none are and some meet the set, and else Indeterminate.
unfoldable pub mark : Trust → List ResourceRecord → SetName → Proof
mark trust records set =
    if some_pair (λ rr entry. is_authentic (pair_verdict trust records set rr entry)) records trust.entries then Secure
    else if some_pair (λ rr entry. has_met (pair_verdict trust records set rr entry)) records trust.entries then Bogus
    else Indeterminate

-- ---- how a mark is found

-- the stronger of two verdicts: that a pair is authentic, that it meets the set, that it doesn't
abbrev pub stronger : PairVerdict → PairVerdict → PairVerdict
stronger Authentic _ = Authentic
stronger NotAccepted Authentic = Authentic
stronger NotAccepted NotAccepted = NotAccepted
stronger NotAccepted NotMet = NotAccepted
stronger NotMet verdict = verdict

abbrev pub strongest : List PairVerdict → PairVerdict
strongest [] = NotMet
strongest (verdict ∷ verdicts) = stronger verdict (strongest verdicts)

-- the strongest verdict on a signature and one of the entries, for a set with these data
abbrev pub strongest_on : Trust → SetName → Result (List (List ℕ)) EmitError → SignatureRecord → PairVerdict
strongest_on trust set octets signature =
    strongest
    (map (λ entry. record_verdict trust.accepts trust.moment set (zone_key entry) octets signature) trust.entries)

-- the strongest on one of these signatures and one of the entries
abbrev pub strongest_pair : Trust → SetName → Result (List (List ℕ)) EmitError → List SignatureRecord → PairVerdict
strongest_pair trust set octets signatures = strongest (map (strongest_on trust set octets) signatures)

-- the mark that the strongest verdict on its pairs gives a set
abbrev pub mark_by : PairVerdict → Proof
mark_by Authentic = Secure
mark_by NotAccepted = Bogus
mark_by NotMet = Indeterminate
