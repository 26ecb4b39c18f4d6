-- The answers of the demo are written, and a TSIG record is put behind each.
use Rattle.std.proofs.Common.{◌≡◌, ℕ, ◌+◌, ◌<◌, ◌≤◌, ◌^◌, ◌%◌, ◌/◌, ◌==◌, Bool, true, false, if◌then◌else◌, nat_lt, cond}
use Rattle.std.proofs.Common.{is_ok, IsOk, List, [], ◌∷◌, ◌++◌, length, Result, Ok, Err, refl, sym, ap, subst, ◌∙◌, arith, length-append}
use Rattle.std.proofs.lemmas.Bool.{le-ltb}
use Rattle.std.proofs.lemmas.Fmt.{length-decimal-le}
use Rattle.std.proofs.lemmas.List.{length-set}
use Rattle.std.specs.Fmt.{decimal}
use Rattle.std.specs.Result.{result_unwrap_or}
use Rattle.dns_wire.specs.declared.encoder.NameEncoding.TheVariants.{Uncompressed}
use Rattle.dns_wire.specs.declared.error.EmitError.{EmitError}
use Rattle.dns_wire.specs.declared.error.EmitError.TheVariants.{DataTooLong}
use Rattle.dns_wire.specs.Joining.{joined}
use Rattle.dns_wire.specs.Reading.{◌>>=◌}
use Rattle.dns_names.specs.Names.{wire}
use Rattle.dns_grammar.specs.Fields.{row_of}
use Rattle.dns_grammar.specs.Messages.{Query, ResourceRecord}
use Rattle.dns_grammar.specs.MessageWriting.{head_octets, record_octets}
use Rattle.dns_grammar.specs.RecordData.{fitting, rdata_octets}
use Rattle.dns_message.specs.Parts.{record_view}
use Rattle.dns_rdata.specs.RDataTable.{rdata_table}
use Rattle.sec_digest.specs.declared.hmac.HmacHash.TheVariants.{Sha256}
use Rattle.sec_digest.specs.Hmac.{hmac}
use Rattle.sec_sigdata.specs.TsigRecords.{fields_data}
use Rattle.sec_sigdata.proofs.TsigData.{data_octets, data_written, data_length}
use Rattle.sec_tsig.specs.Tsig.{TsigRecord, additional_count, resource_record, with_record, written_record}
use Rattle.sec_tsig.proofs.ByMessage.{HmacHasLength}
use Rattle.sec_tsig.proofs.Joins.{joined as with_joined}
use Rattle.dns_demo.specs.Demo.{address, answer, answer_record, demo_message, demo_signer, demo_written, followed_by_tsig, owner}
use Rattle.dns_demo.specs.Demo.{record_of, records_under, rrsig, signature, signature_fields, turned, turned_if, unsigned_answer}
use Rattle.dns_demo.specs.Demo.{request_mac, signed_set, with_mac_turned_if, zone, zone_key}
use Rattle.dns_demo.specs.Laws.{AnswersAreWritten, AnswersHaveTsig}

abbrev Written : Type 0
Written = Result (List ℕ) EmitError

-- something is written, of so many octets at most
record Short (written : Written) (most : ℕ) : Type 0 where
  pub octets : List ℕ
  pub is : written ≡ Ok octets
  pub short : length octets ≤ most

joined_short : (a b : Written) (m n : ℕ) → Short a m → Short b n → Short (joined a b) (m + n)
joined_short a b m n s t = record {
  octets = s.octets ++ t.octets;
  is = λ i. joined (s.is i) (t.is i);
  short = omega (arith, length-append s.octets t.octets, s.short, t.short);
}

-- a record whose data are short
record_short : (rr : ResourceRecord) (n m : ℕ) → length (wire rr.name) ≤ n → m ≤ 65535
    → Short (rdata_octets false (row_of rdata_table rr.rtype) rr.rdata) m
    → Short (record_octets false Uncompressed rdata_table rr) (n + 10 + m)
record_short rr n m name small s =
    let fits : nat_lt 65535 (length s.octets) ≡ false = le-ltb _ _ (omega (arith, s.short, small)) in
    let head : length (head_octets Uncompressed rr (length s.octets)) ≡ length (wire rr.name) + 10 =
    simp length-append (omega arith) in
    record {
      octets = head_octets Uncompressed rr (length s.octets) ++ s.octets;
      is = ap (λ (w : Written). behind (fitting w)) s.is
          ∙ ap (λ (b : Bool). behind (cond b (Err DataTooLong) (Ok s.octets))) fits;
      short = omega (
        arith,
        length-append (head_octets Uncompressed rr (length s.octets)) s.octets,
        head,
        name,
        s.short,
      );
    }
  where
    behind : Written → Written
    behind written = written >>= λ x. Ok (head_octets Uncompressed rr (length x) ++ x)

-- ---- names, MACs and signatures

owner_short : (k : ℕ) → k < 2 ^ 16 → length (wire (owner k)) ≤ 16
unfolding owner
owner_short k below =
    let digits : length (decimal k) ≤ 5 = length-decimal-le 5 k (omega arith) (omega arith) (omega arith) in
    simp length-append (omega (arith, digits))

turned_length : (turn : Bool) (octets : List ℕ) → length (turned_if turn octets) ≡ length octets
unfolding turned
turned_length true octets = length-set octets _ _
turned_length false octets = refl

-- ---- the records

address_short : (name : List (List ℕ)) (k n : ℕ) → length (wire name) ≤ n
    → Short (record_octets false Uncompressed rdata_table (record_view (address name k))) (n + 10 + 4)
address_short name k n short =
    record_short (record_view (address name k)) n 4 short (omega arith)
    (record { octets = (10 ∷ 0 ∷ k / 256 ∷ k % 256 ∷ []) ++ []; is = refl; short = omega arith })

rrsig_short : (name : List (List ℕ)) (sig : List ℕ) (n : ℕ) → length (wire name) ≤ n → length sig ≡ 32
    → Short (record_octets false Uncompressed rdata_table (rrsig name sig)) (n + 10 + 59)
unfolding signature_fields zone
rrsig_short name sig n short is =
    record_short (rrsig name sig) n 59 short (omega arith)
    (
    record {
      octets = 0 ∷ 1 ∷ 15 ∷ 2 ∷ 0 ∷ 0 ∷ 14 ∷ 16 ∷ 0 ∷ 30 ∷ 132 ∷ 128 ∷ 0 ∷ 7 ∷ 161 ∷ 32 ∷ 20 ∷ 31 ∷ 7 ∷ 101 ∷ 120 ∷ 97
          ∷ 109 ∷ 112 ∷ 108 ∷ 101 ∷ 0 ∷ (sig ++ []);
      is = refl;
      short = omega (arith, length-append sig [], is);
    }
    )

-- ---- the message

-- an answer that is written
record IsAnswer (written : Written) (most : ℕ) : Type 0 where
  pub octets : List ℕ
  pub is : written ≡ Ok octets
  pub header : 12 ≤ length octets
  pub count : additional_count octets ≡ 0
  pub short : length octets ≤ most

message_short : (alone : Bool) (first second : ResourceRecord) (m n : ℕ)
    → Short (record_octets false Uncompressed rdata_table first) m
    → Short (record_octets false Uncompressed rdata_table second) n
    → IsAnswer (demo_written 0x8180 [] (if alone then first ∷ [] else first ∷ second ∷ [])) (12 + m + n)
message_short true first second m n s t =
    record {
      octets = 18 ∷ 52 ∷ 129 ∷ 128 ∷ 0 ∷ 0 ∷ 0 ∷ 1 ∷ 0 ∷ 0 ∷ 0 ∷ 0 ∷ (s.octets ++ []);
      is = λ i. joined (Ok (18 ∷ 52 ∷ 129 ∷ 128 ∷ 0 ∷ 0 ∷ 0 ∷ 1 ∷ 0 ∷ 0 ∷ 0 ∷ 0 ∷ []))
          (joined (Ok []) (joined (s.is i) (Ok [])));
      header = omega arith;
      count = refl;
      short = omega (arith, length-append s.octets [], s.short);
    }
message_short false first second m n s t =
    record {
      octets = 18 ∷ 52 ∷ 129 ∷ 128 ∷ 0 ∷ 0 ∷ 0 ∷ 2 ∷ 0 ∷ 0 ∷ 0 ∷ 0 ∷ (s.octets ++ (t.octets ++ []));
      is = λ i. joined (Ok (18 ∷ 52 ∷ 129 ∷ 128 ∷ 0 ∷ 0 ∷ 0 ∷ 2 ∷ 0 ∷ 0 ∷ 0 ∷ 0 ∷ []))
          (joined (Ok []) (joined (s.is i) (joined (t.is i) (Ok []))));
      header = omega arith;
      count = refl;
      short = omega (
        arith,
        length-append s.octets (t.octets ++ []),
        length-append t.octets [],
        s.short,
        t.short,
      );
    }

answer_short : HmacHasLength → (k : ℕ) → k < 2 ^ 16
    → IsAnswer (demo_written 0x8180 [] (records_under (owner k) k)) (12 + (16 + 10 + 4) + (16 + 10 + 59))
answer_short has k below =
    let name : List (List ℕ) = owner k in
    let sig : List ℕ = signature k name (address name k ∷ []) in
    let long : length sig ≡ 32 =
    turned_length (k % 4 == 2) (hmac Sha256 zone_key (signed_set signature_fields name (address name k ∷ [])))
    ∙ has Sha256 zone_key (signed_set signature_fields name (address name k ∷ [])) in
    message_short (k % 4 == 3) (record_view (address name k)) (rrsig name sig) _ _
    (address_short name k 16 (owner_short k below)) (rrsig_short name sig 16 (owner_short k below) long)

unwrapped : (written : Written) (x : List ℕ) → written ≡ Ok x → x ≡ result_unwrap_or written []
unwrapped written x is = sym (ap (λ (w : Written). result_unwrap_or w []) is)

-- the answer before it is signed is what is written
written_is : (k : ℕ) (x : List ℕ) → demo_written 0x8180 [] (records_under (owner k) k) ≡ Ok x → x ≡ unsigned_answer k
unfolding unsigned_answer demo_message
written_is k x is = unwrapped (demo_written 0x8180 [] (records_under (owner k) k)) x is

pub answers_are_written : HmacHasLength → AnswersAreWritten
answers_are_written has k below =
    let a = answer_short has k below in
    a.is ∙ ap (λ (x : List ℕ). let ok : Written = Ok x in ok) (written_is k a.octets a.is)

pub can_be_answered : HmacHasLength → (k : ℕ) (name : List (List ℕ)) (queries : List Query)
    (records : List ResourceRecord) → k < 2 ^ 16 → queries ≡ [] → name ≡ owner k → records ≡ records_under name k
    → IsOk (demo_written 0x8180 queries records)
can_be_answered has k name queries records below none named is =
    let records_are : records ≡ records_under (owner k) k = is ∙ ap (λ (n : List (List ℕ)). records_under n k) named in
    ap (λ (w : Written). is_ok w)
    ((λ i. demo_written 0x8180 (none i) (records_are i)) ∙ answers_are_written has k below)

-- ---- the TSIG record

abbrev turned_record : List ℕ → ℕ → TsigRecord
turned_record mac k = with_mac_turned_if (k % 4 == 0) (record_of mac k)

tsig_short : HmacHasLength → (mac : List ℕ) (k : ℕ) → Short (written_record (turned_record mac k)) 200
unfolding answer_record demo_signer
tsig_short has mac k =
    let rr : TsigRecord = turned_record mac k in
    let long : length rr.tsig.mac ≡ 32 = turned_length (k % 4 == 0) (record_of mac k).tsig.mac ∙ has Sha256 _ _ in
    let octets : List ℕ = data_octets (fields_data rr.tsig) in
    let size : length octets ≡ 13 + 16 + length rr.tsig.mac + 0 = data_length (fields_data rr.tsig) in
    let s : Short (rdata_octets false (row_of rdata_table (resource_record rr).rtype) (resource_record rr).rdata) 61 =
    record {
      octets = octets;
      is = data_written false (fields_data rr.tsig) (omega arith) (omega (arith, long)) (omega arith);
      short = omega (arith, size, long);
    } in
    let r = record_short (resource_record rr) 3 61 (omega arith) (omega arith) s in
    record { octets = r.octets; is = r.is; short = omega (arith, r.short) }

followed_is : (mac : List ℕ) (k : ℕ) (x : List ℕ) → with_record (unsigned_answer k) (turned_record mac k) ≡ Ok x
    → x ≡ answer mac k
unfolding answer followed_by_tsig
followed_is mac k x is = unwrapped (with_record (unsigned_answer k) (turned_record mac k)) x is

pub answers_have_tsig : HmacHasLength → AnswersHaveTsig
answers_have_tsig has mac k below =
    let a = answer_short has k below in
    let t = tsig_short has mac k in
    let same : a.octets ≡ unsigned_answer k = written_is k a.octets a.is in
    let header : 12 ≤ length (unsigned_answer k) = subst (λ (x : List ℕ). 12 ≤ length x) same a.header in
    let count : additional_count (unsigned_answer k) ≡ 0 = ap additional_count (sym same) ∙ a.count in
    let size : length (unsigned_answer k) ≤ 127 = subst (λ (x : List ℕ). length x ≤ 127) same a.short in
    let is = with_joined (unsigned_answer k) (turned_record mac k) t.octets header
    (λ full. absurd (omega (arith, count, full))) t.is (omega (arith, size, t.short)) in
    is ∙ ap (λ (x : List ℕ). let ok : Written = Ok x in ok) (followed_is mac k _ is)

pub can_be_followed : HmacHasLength → (mac octets : List ℕ) (k : ℕ) (rr turned_rr : TsigRecord) → k < 2 ^ 16
    → octets ≡ unsigned_answer k → rr ≡ record_of mac k → turned_rr ≡ with_mac_turned_if (k % 4 == 0) rr
    → IsOk (with_record octets turned_rr)
can_be_followed has mac octets k rr turned_rr below is record_is turned_is =
    let turned_as : turned_rr ≡ turned_record mac k = turned_is ∙ ap (with_mac_turned_if (k % 4 == 0)) record_is in
    ap (λ (w : Written). is_ok w)
    ((λ i. with_record (is i) (turned_as i)) ∙ answers_have_tsig has mac k below)

-- ---- the MACs

chosen : (b : Bool) (x y : List ℕ) → length x < 2 ^ 16 → length y ≡ 32 → length (if b then x else y) < 2 ^ 16
chosen true x y counted is = counted
chosen false x y counted is = omega (arith, is)

record_mac : HmacHasLength → (mac : List ℕ) (k : ℕ) → length (record_of mac k).tsig.mac ≡ 32
unfolding answer_record demo_signer
record_mac has mac k = has Sha256 _ _

pub behind_counted : HmacHasLength → (mac behind : List ℕ) (k : ℕ) (rr : TsigRecord) → length mac < 2 ^ 16
    → rr ≡ record_of mac k → behind ≡ (if k % 4 == 0 then mac else rr.tsig.mac) → length behind < 2 ^ 16
behind_counted has mac behind k rr counted record_is is =
    subst (λ (x : List ℕ). length x < 2 ^ 16) (sym is)
    (chosen (k % 4 == 0) mac rr.tsig.mac counted
    (ap (λ (r : TsigRecord). length r.tsig.mac) record_is ∙ record_mac has mac k))

pub request_counted : HmacHasLength → (mac : List ℕ) → mac ≡ request_mac → length mac < 2 ^ 16
unfolding request_mac demo_signer
request_counted has mac is =
    let long : length request_mac ≡ 32 = has Sha256 _ _ in
    let size : length mac ≡ 32 = ap length is ∙ long in
    omega (arith, size)
