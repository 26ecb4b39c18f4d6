-- The octets that are signed tell what they are of.
use Rattle.std.proofs.Common.{◌≡◌, ℕ, ◌<◌, ◌^◌, Bool, true, false, cond, ltb, List, [], ◌∷◌, ◌++◌}
use Rattle.std.proofs.Common.{length, refl, sym, ap, ◌∙◌, subst, inl, inr, ◌⊎◌, Result, Ok, Err, arith, length-append}
use Rattle.std.proofs.Common.{append_assoc, append-nil, None}
use Rattle.std.specs.Int.{w8, w16, w32, to_be_bytes}
use Rattle.std.specs.List.{AllByRecursion, flat_map}
use Rattle.std.proofs.lemmas.List.Concat.{flat_map-cons}
use Rattle.dns_wire.specs.declared.error.EmitError.{EmitError}
use Rattle.dns_wire.specs.declared.error.EmitError.TheVariants.{DataTooLong}
use Rattle.dns_wire.specs.Reading.{◌>>=◌}
use Rattle.dns_names.specs.Names.{IsName, Same, low, wire}
use Rattle.dns_grammar.specs.Messages.{ResourceRecord}
use Rattle.dns_grammar.specs.RecordData.{rdata_octets, fitting}
use Rattle.sec_codes.specs.Algorithms.{number}
use Rattle.sec_sigdata.specs.declared.sig_input.SigInput.{SigInput}
use Rattle.sec_sigdata.specs.Signatures.{InputFits}
use Rattle.dns_rdata.specs.declared.rdata.RData.{RData}
use Rattle.dns_rdata.specs.RData.{rdata_row, rdata_values}
use Rattle.dns_message.specs.declared.record.Record.{Record}
use Rattle.sec_sign.specs.Ascending.{ascending}
use Rattle.sec_sign.specs.declared.tbs_error.TbsError.{TbsError}
use Rattle.sec_sign.specs.Sets.{canonical, canonical_each, members, set_data, set_of_record}
use Rattle.sec_sign.specs.Signed.{header_octets, record_octets, records_octets, set_covered, signed, signed_head, signed_octets}
use Rattle.sec_sign.specs.Signed.{signed_owner}
use Rattle.sec_sign.specs.OneReading.{OneReading, SameHeader}
use Rattle.sec_sign.proofs.Ascending.{each-ascending, some-ascending, none-ascending}
use Rattle.sec_sign.proofs.Owners.{shown_name}
use Rattle.std.proofs.lemmas.Bool.Decides.{nat_tests}
use Rattle.sec_sign.proofs.Codes.{parts, one, two, four, name}

-- ---- the header

-- its octets, by its values, the signer lowered
header_of : ℕ → ℕ → ℕ → ℕ → ℕ → ℕ → ℕ → List (List ℕ) → List ℕ
header_of t a labels ttl e i tag z =
    to_be_bytes w16 t ++ (to_be_bytes w8 a ++ (to_be_bytes w8 labels ++ (to_be_bytes w32 ttl ++ (to_be_bytes w32 e
    ++ (to_be_bytes w32 i ++ (to_be_bytes w16 tag ++ (wire z ++ [])))))))

header_is : (h : SigInput) → header_octets h ≡ header_of h.type_covered (number h.algorithm) h.num_labels
    h.original_ttl h.sig_expiration.0 h.sig_inception.0 h.key_tag (low h.signer_name)
unfolding header_octets header_of
header_is h = simp (append_assoc, append-nil) refl

-- equal strings begin with headers that agree
pub record Headers (h g : SigInput) (s t : List ℕ) : Type 0 where
  pub same : SameHeader h g
  pub behind : s ≡ t

pub headers : (h g : SigInput) (s t : List ℕ) → InputFits h → InputFits g
    → header_octets h ++ s ≡ header_octets g ++ t → Headers h g s t
unfolding header_of
headers h g s t fits other same =
    let start = ap (λ (x : List ℕ). x ++ s) (sym (header_is h)) ∙ same ∙ ap (λ (x : List ℕ). x ++ t) (header_is g) in
    let flat = simp append_assoc at start in
    let rtype = two h.type_covered g.type_covered _ _ fits.type_covered other.type_covered flat in
    let algorithm = one (number h.algorithm) (number g.algorithm) _ _ fits.algorithm other.algorithm rtype.behind in
    let labels = one h.num_labels g.num_labels _ _ fits.num_labels other.num_labels algorithm.behind in
    let ttl = four h.original_ttl g.original_ttl _ _ fits.original_ttl other.original_ttl labels.behind in
    let expiration = four h.sig_expiration.0 g.sig_expiration.0 _ _ fits.sig_expiration other.sig_expiration
    ttl.behind in
    let inception = four h.sig_inception.0 g.sig_inception.0 _ _ fits.sig_inception other.sig_inception
    expiration.behind in
    let tag = two h.key_tag g.key_tag _ _ fits.key_tag other.key_tag inception.behind in
    let signer = name h.signer_name g.signer_name _ _ fits.signer_name other.signer_name tag.behind in
    record {
      same = record {
        type_covered = rtype.first;
        algorithm = algorithm.first;
        num_labels = labels.first;
        original_ttl = ttl.first;
        sig_expiration = expiration.first;
        sig_inception = inception.first;
        key_tag = tag.first;
        signer_name = signer.first;
      };
      behind = signer.behind;
    }

-- headers that agree are one
pub one_header : (h g : SigInput) → SameHeader h g → header_octets h ≡ header_octets g
one_header h g same = header_is h ∙ (λ i. header_of (same.type_covered i) (same.algorithm i) (same.num_labels i)
    (same.original_ttl i) (same.sig_expiration i) (same.sig_inception i) (same.key_tag i) (same.signer_name i))
    ∙ sym (header_is g)

-- ---- the records

-- what comes before the data of the records of a set
abbrev head_of_set : List (List ℕ) → ℕ → ℕ → ℕ → ResourceRecord
head_of_set owner t k ttl =
    record { start = 0; name = low owner; rtype = t; dns_class = k; ttl = ttl; rdata = None }

-- the data of records are shorter than their length can tell
abbrev pub AreShort : List (List ℕ) → Type 0
AreShort = AllByRecursion (λ c. length c < 2 ^ 16)

-- a record has octets
some_octets : (owner : List (List ℕ)) (t k ttl : ℕ) (c s : List ℕ)
    → 0 < length (record_octets (head_of_set owner t k ttl) c ++ s)
unfolding record_octets
some_octets owner t k ttl c s = simp length-append (omega arith)

module _ (owner other : List (List ℕ)) (t u k l ttl life : ℕ) (is : IsName owner) (is_other : IsName other)
    (t_fits : t < 2 ^ 16) (u_fits : u < 2 ^ 16) (k_fits : k < 2 ^ 16) (l_fits : l < 2 ^ 16) (ttl_fits : ttl < 2 ^ 32)
    (life_fits : life < 2 ^ 32) where
  abbrev pub front : ResourceRecord
  front = head_of_set owner t k ttl

  abbrev pub other_front : ResourceRecord
  other_front = head_of_set other u l life

  -- equal strings begin with records that agree
  pub record OneRecord (c d s v : List ℕ) : Type 0 where
    pub same_owner : Same owner other
    pub same_class : k ≡ l
    pub rdata : c ≡ d
    pub behind : s ≡ v

  one_record : (c d s v : List ℕ) → length c < 2 ^ 16 → length d < 2 ^ 16
      → record_octets front c ++ s ≡ record_octets other_front d ++ v → OneRecord c d s v
  unfolding record_octets
  one_record c d s v short brief same =
      let flat : wire (low owner) ++ (to_be_bytes w16 t ++ (to_be_bytes w16 k ++ (to_be_bytes w32 ttl
      ++ (to_be_bytes w16 (length c) ++ (c ++ s))))) ≡ wire (low other) ++ (to_be_bytes w16 u ++ (to_be_bytes w16 l
      ++ (to_be_bytes w32 life ++ (to_be_bytes w16 (length d) ++ (d ++ v))))) = simp append_assoc at same in
      let n = name owner other _ _ is is_other flat in
      let rtype = two t u _ _ t_fits u_fits n.behind in
      let class = two k l _ _ k_fits l_fits rtype.behind in
      let time = four ttl life _ _ ttl_fits life_fits class.behind in
      let long = two (length c) (length d) _ _ short brief time.behind in
      let octets = parts c d s v long.first long.behind in
      record { same_owner = n.first; same_class = class.first; rdata = octets.first; behind = octets.behind }

  record_some : (c s : List ℕ) → 0 < length (record_octets other_front c ++ s)
  record_some c s = omega (arith, some_octets other u l life c s)

  front_some : (c s : List ℕ) → 0 < length (record_octets front c ++ s)
  front_some c s = omega (arith, some_octets owner t k ttl c s)

  -- the same data; and where there are some, the same owner and class
  pub record SameRecords (cs ds : List (List ℕ)) : Type 0 where
    pub rdata : cs ≡ ds
    pub owners : 0 < length cs → Same owner other × (k ≡ l)

  pub same_records : (cs ds : List (List ℕ)) → AreShort cs → AreShort ds
      → flat_map (record_octets front) cs ≡ flat_map (record_octets other_front) ds → SameRecords cs ds
  same_records [] [] short brief same = record { rdata = refl; owners = λ some. absurd (omega arith) }
  same_records [] (d ∷ ds) short brief same =
      absurd (omega (
        arith,
        ap length (same ∙ flat_map-cons (record_octets other_front) d ds),
        record_some d (flat_map (record_octets other_front) ds),
      ))
  same_records (c ∷ cs) [] short brief same =
      absurd (omega (
        arith,
        ap length (sym (flat_map-cons (record_octets front) c cs) ∙ same),
        front_some c (flat_map (record_octets front) cs),
      ))
  same_records (c ∷ cs) (d ∷ ds) short brief same =
      let first = one_record c d (flat_map (record_octets front) cs) (flat_map (record_octets other_front) ds) short.0
      brief.0 (sym (flat_map-cons (record_octets front) c cs) ∙ same ∙ flat_map-cons (record_octets other_front) d ds) in
      let later = same_records cs ds short.1 brief.1 first.behind in
      record { rdata = λ i. first.rdata i ∷ later.rdata i; owners = λ some. (first.same_owner, first.same_class) }

-- ---- the data of a set

-- what is known of the data of a set of these records
record SetOf (records : List (Record RData)) (cs : List (List ℕ)) : Type 0 where
  pub short : AreShort cs
  pub some : (records ≡ []) ⊎ (0 < length cs)
  pub none : records ≡ [] → cs ≡ []

ok_strings : (x y : List (List ℕ)) → ◌≡◌ {A = Result (List (List ℕ)) EmitError} (Ok x) (Ok y) → x ≡ y
ok_strings x y same = cc

fitted : (written : Result (List ℕ) EmitError) (c : List ℕ) → fitting written ≡ Ok c → length c < 2 ^ 16
fitted (Ok x) c is = at (ltb 65535 (length x)) refl is
  where
    at : (b : Bool) → ltb 65535 (length x) ≡ b
        → ◌≡◌ {A = Result (List ℕ) EmitError} (cond b (Err DataTooLong) (Ok x)) (Ok c) → length c < 2 ^ 16
    at true e h = absurd cc
    at false e h = let same : x ≡ c = cc in subst (λ (s : List ℕ). length s < 2 ^ 16) same (grind (arith, nat_tests))
fitted (Err cause) c is = absurd cc

canonical_short : (rdata : RData) (c : List ℕ) → canonical rdata ≡ Ok c → length c < 2 ^ 16
unfolding canonical
canonical_short rdata c is = fitted (rdata_octets true (rdata_row rdata) (rdata_values rdata)) c is

-- so many short strings as there are records
record EachOf (records : List (Record RData)) (cs : List (List ℕ)) : Type 0 where
  pub short : AreShort cs
  pub count : length cs ≡ length records

each_of : (records : List (Record RData)) (cs : List (List ℕ)) → canonical_each records ≡ Ok cs → EachOf records cs
each_of [] cs is = subst (EachOf []) (ok_strings [] cs is) record { short = tt; count = refl }
each_of (r ∷ records) cs is = at (canonical r.rdata) refl (canonical_each records) refl (each_of records) is
  where
    at : (first : Result (List ℕ) EmitError) → canonical r.rdata ≡ first
        → (later : Result (List (List ℕ)) EmitError) → canonical_each records ≡ later
        → ((ds : List (List ℕ)) → canonical_each records ≡ Ok ds → EachOf records ds)
        → (first >>= λ c. later >>= λ ds. Ok (c ∷ ds)) ≡ Ok cs → EachOf (r ∷ records) cs
    at (Ok c) e (Ok ds) f behind h =
        let rest : EachOf records ds = behind ds f in
        let whole : EachOf (r ∷ records) (c ∷ ds) = record {
          short = (canonical_short r.rdata c e, rest.short);
          count = omega (arith, rest.count);
        } in
        subst (EachOf (r ∷ records)) (ok_strings (c ∷ ds) cs h) whole
    at (Ok c) e (Err cause) f behind h = absurd cc
    at (Err cause) e later f behind h = absurd cc

set_of : (records : List (Record RData)) (cs : List (List ℕ))
    → (canonical_each records >>= λ ds. Ok (ascending ds)) ≡ Ok cs → SetOf records cs
set_of records cs is = at (canonical_each records) refl is
  where
    kept : (records : List (Record RData)) (ds : List (List ℕ)) → length ds ≡ length records
        → (records ≡ []) ⊎ (0 < length (ascending ds))
    kept [] ds count = inl refl
    kept (r ∷ records) ds count = inr (some-ascending ds (omega (arith, count)))

    at : (each : Result (List (List ℕ)) EmitError) → canonical_each records ≡ each
        → (each >>= λ ds. Ok (ascending ds)) ≡ Ok cs → SetOf records cs
    at (Err cause) e h = absurd cc
    at (Ok ds) e h =
        let of : EachOf records ds = each_of records ds e in
        let whole : SetOf records (ascending ds) = record {
          short = each-ascending (λ c. length c < 2 ^ 16) ds of.short;
          some = kept records ds of.count;
          none = λ none. none-ascending ds (omega (arith, of.count, ap length none));
        } in
        subst (SetOf records) (ok_strings (ascending ds) cs h) whole

-- ---- the whole

ok_octets : (x y : List ℕ) → ◌≡◌ {A = Result (List ℕ) TbsError} (Ok x) (Ok y) → x ≡ y
ok_octets x y same = cc

whole : (h : SigInput) (n owner : List (List ℕ)) (k : ℕ) (records : List (Record RData)) (cs : List (List ℕ))
    (x : List ℕ) → signed_owner n h.num_labels ≡ Ok owner → set_data (set_covered n k h) records ≡ Ok cs
    → signed h n k records ≡ Ok x → header_octets h ++ records_octets (signed_head owner k h) cs ≡ x
unfolding signed_octets
whole h n owner k records cs x shown_is set_is is =
    let made : signed h n k records ≡ Ok (header_octets h ++ records_octets (signed_head owner k h) cs) = rw (shown_is, set_is) refl in
    ok_octets _ x (sym made ∙ is)

-- the data, and the owner and the class unless no record was chosen, agree
abbrev pub SameSet : (h g : SigInput) (owner other : List (List ℕ)) (k l : ℕ) (records : List (Record RData))
    (cs ds : List (List ℕ)) → Type 0
SameSet h g owner other k l records cs ds =
    SameHeader h g × (cs ≡ ds) × ((records ≡ []) ⊎ (Same owner other × (k ≡ l)))

module _ (h g : SigInput) (owner other : List (List ℕ)) (k l : ℕ) (cs ds : List (List ℕ)) where
  tells : (records : List (Record RData)) → InputFits h → InputFits g → IsName owner → IsName other → k < 2 ^ 16
      → l < 2 ^ 16 → SetOf records cs → AreShort ds
      → header_octets h ++ records_octets (signed_head owner k h) cs
      ≡ header_octets g ++ records_octets (signed_head other l g) ds
      → SameSet h g owner other k l records cs ds
  tells records fits other_fits is is_other k_fits l_fits of short same =
      let header = headers h g _ _ fits other_fits same in
      let sets = same_records owner other h.type_covered g.type_covered k l h.original_ttl g.original_ttl is is_other
      fits.type_covered other_fits.type_covered k_fits l_fits fits.original_ttl other_fits.original_ttl cs ds of.short
      short header.behind in
      (header.same, sets.rdata, unless of.some sets.owners)
    where
      unless : (records ≡ []) ⊎ (0 < length cs) → (0 < length cs → Same owner other × (k ≡ l))
          → (records ≡ []) ⊎ (Same owner other × (k ≡ l))
      unless (inl none) owners = inl none
      unless (inr some) owners = inr (owners some)

  told : (records : List (Record RData)) → SetOf records cs → SameSet h g owner other k l records cs ds
      → header_octets h ++ records_octets (signed_head owner k h) cs
      ≡ header_octets g ++ records_octets (signed_head other l g) ds
  told records of same = at same.2
    where
      at : (records ≡ []) ⊎ (Same owner other × (k ≡ l))
          → header_octets h ++ records_octets (signed_head owner k h) cs
          ≡ header_octets g ++ records_octets (signed_head other l g) ds
      at (inl none) =
          let empty : cs ≡ [] = of.none none in
          let empty_too : ds ≡ [] = sym same.1 ∙ empty in
          λ i. one_header h g same.0 i ++ (ap (records_octets (signed_head owner k h)) empty
          ∙ sym (ap (records_octets (signed_head other l g)) empty_too)) i
      at (inr owners) = λ i. one_header h g same.0 i ++ records_octets record {
        start = 0;
        name = owners.0 i;
        rtype = same.0.type_covered i;
        dns_class = owners.1 i;
        ttl = same.0.original_ttl i;
        rdata = None;
      } (same.1 i)

pub one_reading : OneReading
one_reading h g n z owner other k l records others cs ds x y fits other_fits name other_name k_fits l_fits shown_is
    shown_other set_is set_other is is_other =
    let left = whole h n owner k records cs x shown_is set_is is in
    let right = whole g z other l others ds y shown_other set_other is_other in
    let of = set_of (members set_of_record (set_covered n k h) records) cs set_is in
    let other_of = set_of (members set_of_record (set_covered z l g) others) ds set_other in (
      λ same. tells h g owner other k l cs ds (members set_of_record (set_covered n k h) records) fits other_fits
          (shown_name n h.num_labels owner name shown_is) (shown_name z g.num_labels other other_name shown_other) k_fits
          l_fits of other_of.short (left ∙ same ∙ sym right),
      λ same. sym left ∙ told h g owner other k l cs ds (members set_of_record (set_covered n k h) records) of same ∙ right,
    )
