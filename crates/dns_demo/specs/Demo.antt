-- The script that `dnscheck demo` runs: who signs, a request, and as many answers to it as are asked for.
use Rattle.std.specs.Prelude.{◌≡◌, Bool, true, false, ℕ, zero, suc, ◌+◌, ◌-◌, ◌/◌, ◌%◌, ◌==◌, if◌then◌else◌, bit_xor, List, [], ◌∷◌, ◌++◌}
use Rattle.std.specs.Prelude.{length, replicate, codes, slice_index, slice_set, Some, None, Result}
use Rattle.std.specs.Fmt.{decimal}
use Rattle.std.specs.Result.{result_unwrap_or}
use Rattle.dns_wire.specs.declared.encoder.NameEncoding.TheVariants.{Uncompressed}
use Rattle.dns_wire.specs.declared.error.EmitError.{EmitError}
use Rattle.dns_types.specs.ClassNumbers as classes
use Rattle.dns_types.specs.TypeNumbers as types
use Rattle.dns_grammar.specs.Fields.{row_of}
use Rattle.dns_grammar.specs.Messages.{Query, ResourceRecord}
use Rattle.dns_grammar.specs.MessageWriting.{message_octets}
use Rattle.sec_codes.specs.declared.algorithm.Algorithm.TheVariants.{ED25519}
use Rattle.sec_codes.specs.declared.proof.Proof.TheVariants.{Indeterminate}
use Rattle.sec_digest.specs.declared.hmac.HmacHash.TheVariants.{Sha256}
use Rattle.sec_digest.specs.Hmac.{hmac}
use Rattle.sec_sigdata.specs.declared.sig_input.SigInput.{SigInput}
use Rattle.sec_sigdata.specs.Signatures.{sig_values}
use Rattle.dns_rdata.specs.declared.rdata.RData.{RData}
use Rattle.dns_rdata.specs.declared.rdata.RData.TheVariants as rdata
use Rattle.dns_rdata.specs.RData.{rdata_row, rdata_type}
use Rattle.dns_rdata.specs.RDataTable.{rdata_table}
use Rattle.dns_message.specs.declared.record.Record.{Record}
use Rattle.dns_message.specs.Parts.{Parts, record_view, whole}
use Rattle.sec_anchor.specs.Entries.{EntryData, entries_of}
use Rattle.sec_sign.specs.Signed.{signed}
use Rattle.sec_tsig.specs.Signers.{Signer, request_tsig, signing_mac, signing_record, tsig_by}
use Rattle.sec_tsig.specs.Tsig.{TsigRecord, with_record}

-- ---- who signs

-- the name of the zone: `example.`
unfoldable pub zone : List (List ℕ)
zone = codes "example" ∷ []

-- the octets of the key of the zone
unfoldable pub zone_key : List ℕ
zone_key = replicate 32 1

-- the anchor of the script, whose key has these octets
unfoldable pub anchor_text : List ℕ
anchor_text = codes "example. IN DNSKEY 256 3 15 AQEBAQEBAQEBAQEBAQEBAQEBAQEBAQEBAQEBAQEBAQE="

-- the trusted entries
unfoldable pub demo_entries : List EntryData
demo_entries = result_unwrap_or (entries_of anchor_text) []

-- who signs the request and the answers
unfoldable pub demo_signer : Signer
demo_signer = record { key = replicate 20 11; algorithm = Sha256; name = codes "k" ∷ []; fudge = 300 }

-- when the request and the answers are signed, in seconds from 1970 on; the moment of each check too
abbrev pub demo_time : ℕ
demo_time = 1000000

-- the ID of the request and of the answers
abbrev pub demo_id : ℕ
demo_id = 4660

-- ---- messages

-- the parts of a message with these questions and these answers
abbrev pub demo_parts : ℕ → List Query → List ResourceRecord → Parts
demo_parts flags queries answers = record {
  id = demo_id;
  flags = flags;
  queries = queries;
  answers = answers;
  authorities = [];
  additionals = [];
  signature = None;
}

-- what is written of it
abbrev pub demo_written : ℕ → List Query → List ResourceRecord → Result (List ℕ) EmitError
demo_written flags queries answers =
    message_octets false Uncompressed rdata_table (whole (demo_parts flags queries answers))

-- its octets
unfoldable pub demo_message : ℕ → List Query → List ResourceRecord → List ℕ
demo_message flags queries answers = result_unwrap_or (demo_written flags queries answers) []

-- the question for the address of the zone
abbrev pub demo_query : Query
demo_query = record { name = zone; query_type = types.A; query_class = classes.IN }

-- the octets of the request
unfoldable pub demo_request : List ℕ
demo_request = demo_message 0x0100 (demo_query ∷ []) []

-- ---- the records of answer k

-- the owner: `h`, the number, `.example.`
unfoldable pub owner : ℕ → List (List ℕ)
owner k = (codes "h" ++ decimal k) ∷ codes "example" ∷ []

-- the address under an owner: 10.0.(k div 256).(k mod 256)
abbrev pub address : List (List ℕ) → ℕ → Record RData
address name k = record {
  name = name;
  dns_class = classes.IN;
  ttl = 3600;
  rdata = rdata.A (10 ∷ 0 ∷ k / 256 ∷ k % 256 ∷ []);
  proof = Indeterminate;
}

-- the fields of an RRSIG before the signature
unfoldable pub signature_fields : SigInput
signature_fields = record {
  type_covered = types.A;
  algorithm = ED25519;
  num_labels = 2;
  original_ttl = 3600;
  sig_expiration = record { 0 = 2000000 };
  sig_inception = record { 0 = 500000 };
  key_tag = 5151;
  signer_name = zone;
}

-- the octets that are signed for a set under an owner
unfoldable pub signed_set : SigInput → List (List ℕ) → List (Record RData) → List ℕ
signed_set fields name records = result_unwrap_or (signed fields name classes.IN records) []

-- octets with the lowest bit of the last one turned
unfoldable pub turned : List ℕ → List ℕ
turned octets = slice_set octets (length octets - 1) (bit_xor (slice_index octets (length octets - 1)) 1)

-- octets that are turned or not
abbrev pub turned_if : Bool → List ℕ → List ℕ
turned_if turn octets = if turn then turned octets else octets

-- the signature by the scheme of keyed hashes; where k mod 4 is 2 it is a wrong one
abbrev pub signature : ℕ → List (List ℕ) → List (Record RData) → List ℕ
signature k name records = turned_if (k % 4 == 2) (hmac Sha256 zone_key (signed_set signature_fields name records))

-- the RRSIG with this signature
abbrev pub rrsig : List (List ℕ) → List ℕ → ResourceRecord
rrsig name octets = record {
  start = 0;
  name = name;
  rtype = types.RRSIG;
  dns_class = classes.IN;
  ttl = 3600;
  rdata = Some (sig_values (record { input = signature_fields; sig = octets }));
}

-- the records under an owner: the address, and its RRSIG unless k mod 4 is 3
abbrev pub records_under : List (List ℕ) → ℕ → List ResourceRecord
records_under name k =
    if k % 4 == 3 then record_view (address name k) ∷ []
    else record_view (address name k) ∷ rrsig name (signature k name (address name k ∷ [])) ∷ []

-- ---- answer k behind a MAC

-- the answer before it is signed
unfoldable pub unsigned_answer : ℕ → List ℕ
unsigned_answer k = demo_message 0x8180 [] (records_under (owner k) k)

-- its TSIG record: that of a first answer where k is 1, and else that of a later one
unfoldable pub answer_record : Signer → List ℕ → Bool → List ℕ → TsigRecord
answer_record signer mac is_first octets =
    signing_record signer (Some mac) is_first octets (tsig_by signer demo_time demo_id None [])

-- a TSIG record with its MAC turned or not
abbrev pub with_mac_turned_if : Bool → TsigRecord → TsigRecord
with_mac_turned_if turn rr = record rr { tsig = record rr.tsig { mac = turned_if turn rr.tsig.mac } }

-- a message with a TSIG record behind it
unfoldable pub followed_by_tsig : List ℕ → TsigRecord → List ℕ
followed_by_tsig octets rr = result_unwrap_or (with_record octets rr) []

-- the TSIG record of answer k
abbrev pub record_of : List ℕ → ℕ → TsigRecord
record_of mac k = answer_record demo_signer mac (k == 1) (unsigned_answer k)

-- the answer; where k mod 4 is 0 its MAC is a wrong one
unfoldable pub answer : List ℕ → ℕ → List ℕ
answer mac k = followed_by_tsig (unsigned_answer k) (with_mac_turned_if (k % 4 == 0) (record_of mac k))

-- the MAC that the next answer is behind: that of this answer, unless it is a wrong one
unfoldable pub mac_behind : List ℕ → ℕ → List ℕ
mac_behind mac k = if k % 4 == 0 then mac else (record_of mac k).tsig.mac

-- ---- the answers

-- so many answers from number k on, the first of them behind this MAC
unfoldable pub answers_from : List ℕ → ℕ → ℕ → List (List ℕ)
answers_from mac k zero = []
answers_from mac k (suc others) = answer mac k ∷ answers_from (mac_behind mac k) (k + 1) others

-- the MAC of the signed request
unfoldable pub request_mac : List ℕ
request_mac = signing_mac demo_signer None true demo_request (request_tsig demo_signer demo_time demo_request)

-- the answers 1 to n, the first of them behind the MAC of the request
unfoldable pub demo_answers : ℕ → List (List ℕ)
demo_answers n = answers_from request_mac 1 n

-- ---- what serves the proofs

-- the data of a record are of the fields that the table has for their type
abbrev pub IsOfTable : Record RData → Type 0
IsOfTable rr = rdata_row rr.rdata ≡ row_of rdata_table (rdata_type rr.rdata)
