-- One more record of a section, sorted by its set.
use Rattle.std.proofs.Common.{◌≡◌, refl, sym, ap, ◌∙◌, Bool, true, false, cond, List, [], ◌∷◌, ◌++◌, map, Option, if◌then◌else◌}
use Rattle.std.proofs.Common.{Some, None, is_some, append-nil}
use Rattle.std.specs.List.{filter}
use Rattle.std.specs.Ordering.{is_eq}
use Rattle.std.proofs.lemmas.List.{map-append}
use Rattle.std.proofs.lemmas.List.Elements.{filter-append}
use Rattle.dns_grammar.specs.Messages.{ResourceRecord}
use Rattle.dns_rdata.specs.declared.dnssec_rdata.DNSSECRData.{DNSSECRData}
use Rattle.dns_rdata.specs.declared.dnssec_rdata.DNSSECRData.TheVariants as dnssec
use Rattle.dns_rdata.specs.declared.rdata.RData.{RData}
use Rattle.dns_rdata.specs.declared.rdata.RData.TheVariants as rdata
use Rattle.dns_rdata.specs.RData.{rdata_type}
use Rattle.dns_message.specs.declared.record.Record.{Record}
use Rattle.dns_message.specs.Parts.{record_view}
use Rattle.sec_sign.specs.Sets.{SetName, same_set, set_of}
use Rattle.sec_sign.specs.Pairs.{rrsig_of, signature_record}
use Rattle.sec_check.specs.declared.rrset_key.RrsetKey.{RrsetKey}
use Rattle.sec_check.specs.RecordSets.{firsts, forms_rrset, listed, record_sets, with_new}
use Rattle.sec_check.specs.SectionRecords.{IsSorted, covered_set, is_record_of, is_set, is_signature_of, key_cmp, key_of}
use Rattle.sec_check.specs.SectionRecords.{name_of}
use Rattle.sec_check.proofs.Firsts.{firsts-push}
use Rattle.sec_check.proofs.KeySteps.{key_ties, same_set_equiv}

-- ---- signatures form no sets

dnssec_forms_none : (x : DNSSECRData) → is_some (rrsig_of (rdata.DNSSEC x)) ≡ true
    → forms_rrset (rdata_type (rdata.DNSSEC x)) ≡ false
dnssec_forms_none (dnssec.RRSIG rrsig) h = refl
dnssec_forms_none _ h = absurd cc

forms_none : (x : RData) → is_some (rrsig_of x) ≡ true → forms_rrset (rdata_type x) ≡ false
forms_none (rdata.DNSSEC x) h = dnssec_forms_none x h
forms_none _ h = absurd cc

covering_forms_none : (rr : Record RData) (set : SetName) → covered_set (signature_record rr) ≡ Some set
    → forms_rrset (rdata_type rr.rdata) ≡ false
covering_forms_none rr set h = at (rrsig_of rr.rdata) refl
  where
    at : (rrsig : Option _) → rrsig_of rr.rdata ≡ rrsig → forms_rrset (rdata_type rr.rdata) ≡ false
    at None is = absurd cc
    at (Some rrsig) is = forms_none rr.rdata (ap (λ o. is_some o) is)

-- ---- lists with one more at the end

filter_one : {X : Type 0} (p : X → Bool) (xs : List X) (x : X) (b : Bool) → p x ≡ b
    → filter p (xs ++ x ∷ []) ≡ cond b (filter p xs ++ x ∷ []) (filter p xs)
filter_one p xs x true is = filter-append p xs (x ∷ []) ∙ rw is refl
filter_one p xs x false is = filter-append p xs (x ∷ []) ∙ rw is (append-nil (filter p xs))

listed_one : (rrs : List ResourceRecord) (rr : ResourceRecord) (b : Bool) → forms_rrset rr.rtype ≡ b
    → listed (rrs ++ rr ∷ []) ≡ cond b (listed rrs ++ set_of rr ∷ []) (listed rrs)
listed_one rrs rr true is =
    ap (map set_of) (filter_one (λ x. forms_rrset x.rtype) rrs rr true is)
    ∙ map-append set_of (filter (λ x. forms_rrset x.rtype) rrs) (rr ∷ [])
listed_one rrs rr false is = ap (map set_of) (filter_one (λ x. forms_rrset x.rtype) rrs rr false is)

views_one : (records : List (Record RData)) (rr : Record RData)
    → map record_view (records ++ rr ∷ []) ≡ map record_view records ++ record_view rr ∷ []
views_one records rr = map-append record_view records (rr ∷ [])

-- what is put under the key of a set stands under the keys of this set
put_at : (set other : SetName) (key : RrsetKey) → key_of set ≡ key → is_eq (key_cmp key (key_of other)) ≡ same_set set other
put_at set other key is = ap (λ (k : RrsetKey). is_eq (key_cmp k (key_of other))) (sym is) ∙ key_ties set other

abbrev pub At : Type 0
At = RrsetKey → List (Record RData)

-- what a map holds, once a record is put under a key
abbrev pub IsPut : RrsetKey → Record RData → At → At → Type 0
IsPut key rr old new = (q : RrsetKey) → new q ≡ (if is_eq (key_cmp key q) then old q ++ rr ∷ [] else old q)

module _ (sets : List SetName) (records_at signatures_at : At) (records : List (Record RData)) (rr : Record RData)
    (sorted : IsSorted sets records_at signatures_at records) where
  no_record : forms_rrset (rdata_type rr.rdata) ≡ false → (set : SetName)
      → records_at (key_of set) ≡ filter (is_record_of set) (records ++ rr ∷ [])
  no_record none set = sorted.records_of set ∙ sym (filter_one (is_record_of set) records rr false (rw none refl))

  no_set : forms_rrset (rdata_type rr.rdata) ≡ false → sets ≡ record_sets (map record_view (records ++ rr ∷ []))
  no_set none =
      sorted.all_sets
      ∙ ap (firsts same_set) (sym (listed_one (map record_view records) (record_view rr) false none))
      ∙ ap record_sets (sym (views_one records rr))

  no_signature : covered_set (signature_record rr) ≡ None → (set : SetName)
      → signatures_at (key_of set) ≡ filter (is_signature_of set) (records ++ rr ∷ [])
  no_signature none set =
      sorted.signatures_of set ∙ sym (filter_one (is_signature_of set) records rr false (ap (is_set set) none))

  -- a record that neither covers a set nor forms one
  pub with_other : covered_set (signature_record rr) ≡ None → forms_rrset (rdata_type rr.rdata) ≡ false
      → IsSorted sets records_at signatures_at (records ++ rr ∷ [])
  with_other covers forms =
      record { all_sets = no_set forms; records_of = no_record forms; signatures_of = no_signature covers }

  -- a signature
  pub with_signature : (new : At) (set : SetName) (key : RrsetKey) → key_of set ≡ key
      → covered_set (signature_record rr) ≡ Some set → IsPut key rr signatures_at new
      → IsSorted sets records_at new (records ++ rr ∷ [])
  with_signature new set key is covers put =
      let none = covering_forms_none rr set covers in
      record { all_sets = no_set none; records_of = no_record none; signatures_of = λ other. at other }
    where
      at : (other : SetName) → new (key_of other) ≡ filter (is_signature_of other) (records ++ rr ∷ [])
      at other = put (key_of other) ∙ go (same_set set other) refl
        where
          go : (b : Bool) → same_set set other ≡ b
              → (if is_eq (key_cmp key (key_of other)) then signatures_at (key_of other) ++ rr ∷ []
              else signatures_at (key_of other))
              ≡ filter (is_signature_of other) (records ++ rr ∷ [])
          go true h =
              rw (put_at set other key is ∙ h) (ap (λ (l : List (Record RData)). l ++ rr ∷ []) (sorted.signatures_of other)
              ∙ sym (filter_one (is_signature_of other) records rr true (ap (is_set other) covers ∙ h)))
          go false h =
              rw (put_at set other key is ∙ h) (sorted.signatures_of other
              ∙ sym (filter_one (is_signature_of other) records rr false (ap (is_set other) covers ∙ h)))

  -- a record of a set
  pub with_record : (new_sets : List SetName) (new : At) (key : RrsetKey) → name_of key ≡ set_of (record_view rr)
      → covered_set (signature_record rr) ≡ None → forms_rrset (rdata_type rr.rdata) ≡ true
      → new_sets ≡ with_new same_set sets (name_of key) → IsPut key rr records_at new
      → IsSorted new_sets new signatures_at (records ++ rr ∷ [])
  with_record new_sets new key is covers forms more put = record {
    all_sets =
        more
        ∙ ap (λ (l : List SetName). with_new same_set l (name_of key)) sorted.all_sets
        ∙ ap (with_new same_set (record_sets (map record_view records))) is
        ∙ sym (firsts-push same_set_equiv (listed (map record_view records)) (set_of (record_view rr)))
        ∙ ap (firsts same_set) (sym (listed_one (map record_view records) (record_view rr) true forms))
        ∙ ap record_sets (sym (views_one records rr));
    records_of = λ other. at other;
    signatures_of = no_signature covers;
  }
    where
      set : SetName
      set = set_of (record_view rr)

      at : (other : SetName) → new (key_of other) ≡ filter (is_record_of other) (records ++ rr ∷ [])
      at other = put (key_of other) ∙ go (same_set set other) refl
        where
          go : (b : Bool) → same_set set other ≡ b
              → (if is_eq (key_cmp key (key_of other)) then records_at (key_of other) ++ rr ∷ []
              else records_at (key_of other))
              ≡ filter (is_record_of other) (records ++ rr ∷ [])
          go true h =
              rw (put_at set other key (ap key_of (sym is)) ∙ h)
              (ap (λ (l : List (Record RData)). l ++ rr ∷ []) (sorted.records_of other)
              ∙ sym (filter_one (is_record_of other) records rr true (rw forms h)))
          go false h =
              rw (put_at set other key (ap key_of (sym is)) ∙ h) (sorted.records_of other
              ∙ sym (filter_one (is_record_of other) records rr false (rw forms h)))
