-- Which requests can be signed, by the length of their TSIG record.
use Rattle.std.proofs.Common.{◌≡◌, ◌≢◌, ℕ, ◌+◌, ◌-◌, ◌≤◌, ◌<◌, ◌^◌, Bool, true, false, cond, nat_lt, List, ◌++◌, length}
use Rattle.std.proofs.Common.{Option, None, Result, Ok, Err, refl, sym, ap, ◌∙◌, arith, length-append}
use Rattle.std.specs.Prelude.{nat_le, option_map, is_some}
use Rattle.std.specs.Result.{result_ok}
use Rattle.std.proofs.lemmas.Bool.{le-ltb, leb-true, leb-false}
use Rattle.dns_wire.specs.declared.encoder.NameEncoding.TheVariants.{Uncompressed}
use Rattle.dns_wire.specs.declared.error.EmitError.{EmitError}
use Rattle.dns_wire.specs.declared.error.EmitError.TheVariants.{DataTooLong}
use Rattle.dns_wire.specs.Reading.{◌>>=◌}
use Rattle.dns_names.specs.Names.{wire}
use Rattle.dns_grammar.specs.RecordData.{fitting}
use Rattle.dns_grammar.specs.MessageWriting.{head_octets}
use Rattle.sec_digest.specs.declared.hmac.HmacHash.{HmacHash}
use Rattle.sec_digest.specs.declared.hmac.HmacHash.TheVariants.{Sha256, Sha384, Sha512}
use Rattle.sec_digest.specs.Hmac.{mac_len}
use Rattle.sec_sigdata.specs.TsigRecords.{fields_data}
use Rattle.sec_sigdata.proofs.TsigData.{data_octets, data_written, data_length}
use Rattle.sec_tsig.specs.Tsig.{TsigRecord, additional_count, resource_record, written_record}
use Rattle.sec_tsig.specs.Signers.{algorithm_name, Signer, request_record}
use Rattle.sec_tsig.specs.Verdict.{TsigChain, first_chain}
use Rattle.sec_tsig.specs.Requests.{is_request, request_record_len, signed_request}
use Rattle.sec_tsig.proofs.ByMessage.{HmacHasLength}
use Rattle.sec_tsig.proofs.Joins.{many, long, joined}

-- a record with these octets of data
abbrev pub with_head : TsigRecord → List ℕ → List ℕ
with_head rr rdata = head_octets Uncompressed (resource_record rr) (length rdata) ++ rdata

head_length : (rr : TsigRecord) (n : ℕ) → length (head_octets Uncompressed (resource_record rr) n)
    ≡ length (wire rr.name) + 10
head_length rr n = simp length-append (omega arith)

-- a TSIG record whose data fit
record_written : (rr : TsigRecord) → rr.tsig.time < 2 ^ 48 → length rr.tsig.mac < 2 ^ 16
    → length rr.tsig.other < 2 ^ 16 → length (data_octets (fields_data rr.tsig)) ≤ 65535
    → written_record rr ≡ Ok (with_head rr (data_octets (fields_data rr.tsig)))
record_written rr time mac other at_most =
    let fits : nat_lt 65535 (length (data_octets (fields_data rr.tsig))) ≡ false = le-ltb _ _ at_most in
    ap (λ (written : Result (List ℕ) EmitError). behind (fitting written))
    (data_written false (fields_data rr.tsig) time mac other)
    ∙ ap (λ (b : Bool). behind (cond b (Err DataTooLong) (Ok (data_octets (fields_data rr.tsig))))) fits
  where
    behind : Result (List ℕ) EmitError → Result (List ℕ) EmitError
    behind read = read >>= λ rdata. Ok (with_head rr rdata)

-- names of algorithms and MACs are short
pub short : (hash : HmacHash) → (length (wire (algorithm_name hash)) + 16 + mac_len hash ≤ 65535) × (mac_len hash ≤ 64)
short Sha256 = (omega arith, omega arith)
short Sha384 = (omega arith, omega arith)
short Sha512 = (omega arith, omega arith)

-- the record of a request, and its length
record RecordOf (signer : Signer) (time : ℕ) (octets : List ℕ) : Type 0 where
  pub behind : List ℕ
  pub written : written_record (request_record signer time octets) ≡ Ok behind
  pub size : length behind ≡ request_record_len signer

record_of : HmacHasLength → (signer : Signer) (time : ℕ) (octets : List ℕ) → time < 2 ^ 48 → RecordOf signer time octets
record_of has signer time octets below =
    let rr : TsigRecord = request_record signer time octets in
    let mac : length rr.tsig.mac ≡ mac_len signer.algorithm = has signer.algorithm signer.key _ in
    let small = short signer.algorithm in
    let long : length (data_octets (fields_data rr.tsig))
    ≡ length (wire (algorithm_name signer.algorithm)) + 16 + length rr.tsig.mac + 0 = data_length (fields_data rr.tsig) in
    let rdata : List ℕ = data_octets (fields_data rr.tsig) in
    let none : 0 < 2 ^ 16 = omega arith in
    record {
      behind = with_head rr rdata;
      written = record_written rr below (omega (arith, mac, small.1)) none (omega (arith, long, mac, small.0));
      size = length-append (head_octets Uncompressed (resource_record rr) (length rdata)) rdata
          ∙ omega (arith, head_length rr (length rdata), long, mac);
    }

-- the octets of the record of a request
unfoldable pub request_octets : Signer → ℕ → List ℕ → List ℕ
request_octets signer time octets =
    let rr : TsigRecord = request_record signer time octets in with_head rr (data_octets (fields_data rr.tsig))

-- the record is written, and is as long as it is told
pub record_is : HmacHasLength → (signer : Signer) (time : ℕ) (octets : List ℕ) → time < 2 ^ 48
    → written_record (request_record signer time octets) ≡ Ok (request_octets signer time octets)
unfolding record_of request_octets
record_is has signer time octets below = (record_of has signer time octets below).written

pub record_size : HmacHasLength → (signer : Signer) (time : ℕ) (octets : List ℕ) → time < 2 ^ 48
    → length (request_octets signer time octets) ≡ request_record_len signer
unfolding record_of request_octets
record_size has signer time octets below = (record_of has signer time octets below).size

-- ---- what octets come to

abbrev signed_if : (signer : Signer) (time : ℕ) (octets : List ℕ) → Bool → Result (List ℕ) EmitError → Bool
signed_if signer time octets request given =
    is_some {T = List ℕ × TsigChain} (cond request (option_map (λ signed. (signed, first_chain signer time octets))
    (result_ok given)) None)

pub not_request : (signer : Signer) (time : ℕ) (octets : List ℕ) → is_request octets ≡ false
    → is_some (signed_request signer time octets) ≡ false
not_request signer time octets is = rw is refl

pub counted_out : (signer : Signer) (time : ℕ) (octets : List ℕ) → additional_count octets ≡ 65535
    → is_some (signed_request signer time octets) ≡ false
counted_out signer time octets is =
    ap (signed_if signer time octets (is_request octets)) (many octets (request_record signer time octets) is)
    ∙ either (is_request octets)
  where
    either : (b : Bool) → is_some (cond b (let none : Option (List ℕ × TsigChain) = None in none) None) ≡ false
    either true = refl
    either false = refl

pub sized_out : HmacHasLength → (signer : Signer) (time : ℕ) (octets : List ℕ) → time < 2 ^ 48 → 12 ≤ length octets
    → is_request octets ≡ true → additional_count octets ≢ 65535
    → nat_le (request_record_len signer) (65535 - length octets) ≡ is_some (signed_request signer time octets)
sized_out has signer time octets below header request other =
    go (record_of has signer time octets below) (nat_le (request_record_len signer) (65535 - length octets)) refl
  where
    go : (is : RecordOf signer time octets) (b : Bool)
        → nat_le (request_record_len signer) (65535 - length octets) ≡ b
        → b ≡ is_some (signed_request signer time octets)
    go is true fits =
        let short : length octets + length is.behind ≤ 65535 = omega (arith, is.size, leb-true _ _ fits) in
        sym (rw request (ap (signed_if signer time octets true)
        (joined octets (request_record signer time octets) is.behind header other is.written short)))
    go is false fits =
        let much : 65535 < length octets + length is.behind = omega (arith, is.size, leb-false _ _ fits) in
        sym (rw request (ap (signed_if signer time octets true)
        (long octets (request_record signer time octets) is.behind header other is.written much)))

pub ruleset exits = (not_request, counted_out, sized_out)
