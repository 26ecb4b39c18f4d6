-- The TSIG record that signs a message and was put after it is read as it was made, and its MAC is right.
use Rattle.std.proofs.Common.{◌≡◌, ◌⊎◌, inl, inr, ℕ, ◌+◌, ◌^◌, ◌<◌, ◌≤◌, Bool, true, false, ◌&&◌, nat_lt, List, [], ◌∷◌, ◌++◌}
use Rattle.std.proofs.Common.{length, drop, slice_range, Option, Some, option_and_then, Ok, refl, sym, ap, subst, ◌∙◌, arith}
use Rattle.std.proofs.Common.{length-append}
use Rattle.std.specs.Int.{w16, from_be_bytes}
use Rattle.std.specs.Prelude.{codes}
use Rattle.std.proofs.lemmas.Bool.{ltb-true}
use Rattle.std.proofs.lemmas.List.{append-nil}
use Rattle.std.proofs.lemmas.Nat.{from_be_bytes-to_be_bytes_2}
use Rattle.dns_wire.specs.declared.encoder.NameEncoding.TheVariants.{Uncompressed}
use Rattle.dns_wire.specs.Octets.{AreOctets}
use Rattle.dns_wire.proofs.FieldLaws.{is_ok_same}
use Rattle.dns_names.specs.Names.{IsName}
use Rattle.dns_grammar.specs.Laws.{IsRecord}
use Rattle.dns_grammar.specs.Messages.{HasTsig, Message, MessageAt, RecordAt, ResourceRecord, Signature, last_additional}
use Rattle.dns_grammar.specs.Messages.{last_of, record_at, signature_from, tsig_values}
use Rattle.dns_grammar.specs.RecordData.{plain, tsig_type}
use Rattle.dns_grammar.proofs.HeadLaws.{record_read}
use Rattle.dns_grammar.proofs.ReadBack.{ok_octets}
use Rattle.dns_grammar.proofs.RecordBack.{GoesOn, record_goes}
use Rattle.dns_grammar.proofs.TsigLaws.{signature_is}
use Rattle.sec_digest.specs.declared.hmac.HmacHash.{HmacHash}
use Rattle.sec_digest.specs.declared.hmac.HmacHash.TheVariants.{Sha256, Sha384, Sha512}
use Rattle.sec_digest.specs.Hmac.{hmac}
use Rattle.sec_sigdata.specs.declared.tsig_error.TsigError.{TsigError}
use Rattle.sec_sigdata.specs.TsigErrors.{optional_error_number}
use Rattle.sec_sigdata.specs.TsigRecords.{TsigFields, fields_data, key_variables, error_variables, tsig_timers}
use Rattle.sec_sigdata.specs.TsigRecords.{tsig_variables}
use Rattle.sec_sigdata.proofs.TsigData.{data_octets, data_written, data_length}
use Rattle.dns_rdata.specs.RDataTable.{rdata_table}
use Rattle.dns_rdata.proofs.TableLaws.{rest_last}
use Rattle.sec_tsig.specs.Tsig.{TsigRecord, additional_count, join, mac_input, message_without_tsig, resource_record}
use Rattle.sec_tsig.specs.Signers.{Signer, algorithm_name, message_id, signing_record, tsig_by}
use Rattle.sec_tsig.specs.Verdict.{expected_mac}
use Rattle.sec_tsig.specs.Laws.{IsJoined, IsSigner, IsWhole, IsWritten, message_flags}
use Rattle.sec_tsig.proofs.ByMessage.{HmacHasLength, left_true, right_true}
use Rattle.sec_tsig.proofs.LastRecords.{last_behind}
use Rattle.sec_tsig.proofs.Pieces.{dropped, taken, two_below}
use Rattle.sec_tsig.proofs.Ranges.{InRange}
use Rattle.sec_tsig.proofs.Rejoined.{goes_on_record, joined_by, joined_count, joined_head, rejoined, same_body, same_head}
use Rattle.sec_tsig.proofs.Signable.{short}
use Rattle.sec_tsig.proofs.WrittenEnds.{written_last}
use Rattle.sec_tsig.proofs.WrittenMessages.{written_long}

-- the signature that a record is after these octets
abbrev pub signature_behind : List ℕ → TsigRecord → Signature
signature_behind octets rr = record { start = length octets; name = rr.name; tsig = fields_data rr.tsig }

-- ---- the record

-- a record whose fields fit, and which has data, can stand in a message
can_stand : (octets : List ℕ) (rr : TsigRecord) → InRange (signature_behind octets rr) → rr.dns_class < 2 ^ 16
    → rr.ttl < 2 ^ 32 → IsRecord rdata_table (resource_record rr)
can_stand octets rr r class ttl = record {
  name = r.name;
  rtype = omega arith;
  dns_class = class;
  ttl = ttl;
  rest_is_last = rest_last tsig_type;
  rdata = λ x is. (
    (r.algorithm, refl, (tt, refl, (r.fudge, refl, (tt, refl, (r.oid, refl, (r.error, refl, (tt, refl, tt))))))),
    some x is,
  );
}
  where
    some : (x : List ℕ) → plain rdata_table tsig_type (Some (tsig_values (fields_data rr.tsig))) ≡ Ok x → 0 < length x
    some x is =
        let same : data_octets (fields_data rr.tsig) ≡ x = ok_octets _ _
        (sym (data_written false (fields_data rr.tsig) r.time r.mac r.other) ∙ is) in
        omega (arith, ap (λ (l : List ℕ). length l) same, data_length (fields_data rr.tsig))

has_last : {A : Type 0} (xs : List A) → 0 < length xs → (x : A) × (last_of xs ≡ Some x)
has_last [] lt = absurd (omega arith)
has_last (x ∷ []) lt = (x, refl)
has_last (x ∷ y ∷ xs) lt = has_last (y ∷ xs) (omega arith)

-- a header stands in a message, and in what is written of one
has_header : (octets : List ℕ) → IsWhole octets ⊎ IsWritten octets → 12 ≤ length octets
has_header octets (inl w) = omega (arith, w.1.header.additionals.1.inside)
has_header octets (inr w) = written_long false Uncompressed w.0 octets w.2

-- the last record stands where the octets end
last_stands : (octets behind : List ℕ) (after : Message) (e : ℕ) (rr : ResourceRecord)
    → IsWhole octets ⊎ IsWritten octets → MessageAt rdata_table (join octets behind) after e
    → after.header.additionals ≡ additional_count octets + 1 → last_additional after ≡ Some rr
    → RecordAt rdata_table (join octets behind) (length octets) rr e
last_stands octets behind after e rr (inl w) at more last =
    let le = has_header octets (inl w) in
    let count : w.0.header.additionals ≡ additional_count octets =
    w.1.header.additionals.2 ∙ ap (from_be_bytes w16) w.1.header.additionals.1.value in
    last_behind rdata_table octets (join octets behind) w.0 after e rr w.1 at (same_head octets behind le)
    (same_body octets behind le) (omega (arith, count, more)) last
last_stands octets behind after e rr (inr w) at more last = written_last w.0 octets behind after e rr w.1 w.2 at more last

-- what is read of the signed octets
record IsBack (octets : List ℕ) (rr : TsigRecord) (signed : List ℕ) (joined : IsJoined octets rr signed) : Type 0 where
  pub has : HasTsig rdata_table signed joined.message (signature_behind octets rr) joined.end
  pub flags : joined.message.header.flags ≡ message_flags octets
  -- without the record they are the octets
  pub restored : message_without_tsig (message_id octets) joined.message.header.additionals signed (length octets)
      ≡ octets

is_back : (octets : List ℕ) (rr : TsigRecord) (signed : List ℕ) (joined : IsJoined octets rr signed)
    → InRange (signature_behind octets rr) → rr.dns_class < 2 ^ 16 → rr.ttl < 2 ^ 32 → IsBack octets rr signed joined
is_back octets rr signed joined r class ttl =
    let by = joined_by octets rr signed joined.joined in
    let end : ℕ = length octets in
    let m : List ℕ = join octets by.behind in
    let after = joined.message in
    let at : MessageAt rdata_table m after joined.end =
    subst (λ l. MessageAt rdata_table l after joined.end) by.is joined.stands in
    let h = at.header in
    let le = has_header octets joined.before in
    let few : additional_count octets < 2 ^ 16 =
    two_below (slice_range octets 10 12) (taken 2 (drop 10 octets) (dropped 10 octets joined.are_octets)) in
    let more : after.header.additionals ≡ additional_count octets + 1 =
    h.additionals.2 ∙ ap (from_be_bytes w16) (h.additionals.1.value ∙ joined_count octets by.behind le)
    ∙ from_be_bytes-to_be_bytes_2 (additional_count octets + 1) (omega (arith, few, by.few)) in
    let last = has_last after.additionals (omega (arith, at.counts.additionals, more)) in
    let stands = last_stands octets by.behind after joined.end last.0 joined.before at more last.1 in
    let goes : GoesOn m end (by.behind ++ []) = subst (λ l. GoesOn m end l) (sym (append-nil by.behind))
    (goes_on_record octets by.behind le) in
    let own : ResourceRecord = record (resource_record rr) { start = end } in
    let read : record_at rdata_table true m end ≡ Ok (own, end + length by.behind) =
    record_goes rdata_table true (resource_record rr) by.behind m end [] (can_stand octets rr r class ttl) (inl refl)
    by.written goes in
    let same : last.0 ≡ own = ap (λ (y : ResourceRecord × ℕ). y.0) (is_ok_same _ _
    (sym (record_read rdata_table true m end last.0 joined.end stands (inl refl)) ∙ read)) in
    record {
      has = record {
        stands = joined.stands;
        is_last = ap (option_and_then signature_from) (last.1 ∙ ap (λ (x : ResourceRecord). Some x) same)
            ∙ signature_is own (fields_data rr.tsig) refl refl;
      };
      flags = h.flags.2 ∙ ap (from_be_bytes w16)
          (h.flags.1.value ∙ joined_head octets by.behind 2 4 le (omega arith) (omega arith));
      restored = ap (λ (l : List ℕ). message_without_tsig (message_id octets) after.header.additionals l end) by.is
          ∙ rejoined octets by.behind (message_id octets) after.header.additionals joined.are_octets le refl more;
    }

-- ---- its fields

-- octets, by a test
abbrev all_octets : List ℕ → Bool
all_octets [] = true
all_octets (x ∷ xs) = nat_lt x 256 && all_octets xs

octets_are : (xs : List ℕ) → all_octets xs ≡ true → AreOctets xs
octets_are [] e = tt
octets_are (x ∷ xs) e = (ltb-true x 256 (left_true _ _ e), octets_are xs (right_true _ _ e))

-- a name of one label
of_one : (label : List ℕ) → 0 < length label → length label ≤ 63 → all_octets label ≡ true → IsName (label ∷ [])
of_one label some few e = record {
  each = (record { nonempty = some; at_most_63 = few; octets = octets_are label e }, tt);
  at_most_255 = omega (arith, length-append label (0 ∷ []));
}

-- names of algorithms are names
algorithm_is_name : (hash : HmacHash) → IsName (algorithm_name hash)
algorithm_is_name Sha256 = of_one (codes "hmac-sha256") (omega arith) (omega arith) refl
algorithm_is_name Sha384 = of_one (codes "hmac-sha384") (omega arith) (omega arith) refl
algorithm_is_name Sha512 = of_one (codes "hmac-sha512") (omega arith) (omega arith) refl

-- the fields of the record of a signer fit
fits : HmacHasLength → (signer : Signer) (previous : Option (List ℕ)) (first : Bool) (octets : List ℕ) (time oid : ℕ)
    (error : Option TsigError) (other : List ℕ)
    → IsSigner signer → time < 2 ^ 48 → oid < 2 ^ 16 → optional_error_number error < 2 ^ 16 → length other < 2 ^ 16
    → InRange (signature_behind octets (signing_record signer previous first octets (tsig_by signer time oid error other)))
fits length-hmac signer previous first octets time oid error other is time_fits oid_fits error_fits other_fits =
    let mac = length-hmac signer.algorithm signer.key
    (mac_input previous first octets signer.name (fields_data (tsig_by signer time oid error other))) in
    let small = (short signer.algorithm).1 in
    record {
      name = is.name;
      algorithm = algorithm_is_name signer.algorithm;
      time = time_fits;
      fudge = is.fudge;
      mac = omega (arith, mac, small);
      oid = oid_fits;
      error = error_fits;
      other = other_fits;
    }

-- ---- its MAC

-- a MAC does not cover itself
uncovered : (previous : Option (List ℕ)) (first : Bool) (m : List ℕ) (owner : List (List ℕ)) (tsig : TsigFields)
    (mac : List ℕ)
    → mac_input previous first m owner (fields_data tsig)
    ≡ mac_input previous first m owner (fields_data (record tsig { mac = mac }))
unfolding mac_input tsig_variables key_variables error_variables tsig_timers
uncovered previous first m owner tsig mac = refl

-- The record that signs octets, put after them.
pub record IsReturned (signer : Signer) (previous : Option (List ℕ)) (first : Bool) (octets : List ℕ) (rr : TsigRecord)
    (signed : List ℕ) (joined : IsJoined octets rr signed) : Type 0 where
  pub has : HasTsig rdata_table signed joined.message (signature_behind octets rr) joined.end
  pub mac : rr.tsig.mac ≡ expected_mac signer previous first signed joined.message.header (signature_behind octets rr)
  pub flags : joined.message.header.flags ≡ message_flags octets

pub is_returned : HmacHasLength → (signer : Signer) (previous : Option (List ℕ)) (first : Bool) (octets : List ℕ)
    (time oid : ℕ) (error : Option TsigError) (other signed : List ℕ)
    → IsSigner signer → time < 2 ^ 48 → optional_error_number error < 2 ^ 16 → length other < 2 ^ 16
    → message_id octets ≡ oid
    → (joined : IsJoined octets (signing_record signer previous first octets (tsig_by signer time oid error other))
    signed)
    → IsReturned signer previous first octets
    (signing_record signer previous first octets (tsig_by signer time oid error other)) signed joined
is_returned length-hmac signer previous first octets time oid error other signed is time_fits error_fits other_fits id
    joined =
    let tsig : TsigFields = tsig_by signer time oid error other in
    let rr : TsigRecord = signing_record signer previous first octets tsig in
    let oid_fits : oid < 2 ^ 16 = subst (λ k. k < 2 ^ 16) id
    (two_below (slice_range octets 0 2) (taken 2 octets joined.are_octets)) in
    let back = is_back octets rr signed joined (fits length-hmac signer previous first octets time oid error other is
    time_fits oid_fits error_fits other_fits) (omega arith) (omega arith) in
    let restored : message_without_tsig oid joined.message.header.additionals signed (length octets) ≡ octets =
    subst (λ k. message_without_tsig k joined.message.header.additionals signed (length octets) ≡ octets) id
    back.restored in
    record {
      has = back.has;
      mac = ap (hmac signer.algorithm signer.key) (
          uncovered previous first octets signer.name tsig rr.tsig.mac
          ∙ ap (λ (l : List ℕ). mac_input previous first l signer.name (fields_data rr.tsig)) (sym restored)
          );
      flags = back.flags;
    }
