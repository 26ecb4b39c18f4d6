-- Messages are read exactly where they stand.
use Rattle.std.proofs.Common.{◌≡◌, ◌⊎◌, inl, inr, ℕ, zero, suc, true, false, ltb, eqb, List, [], ◌∷◌, length, Ok, refl}
use Rattle.std.proofs.Common.{sym, ap, subst, ◌∙◌, arith}
use Rattle.std.specs.List.{AllByRecursion}
use Rattle.std.proofs.lemmas.Bool.{ltb-false, le-ltb, eqb-true}
use Rattle.dns_wire.specs.declared.error.DecodeError.TheVariants.{MessageTooLong}
use Rattle.dns_grammar.specs.Fields.{Table}
use Rattle.dns_grammar.specs.Messages.{Header, Query, ResourceRecord, Message, before_last, EachAt, QueryAt, RecordAt}
use Rattle.dns_grammar.specs.Messages.{NotTsig, HeaderAt, MessageAt, header_at, query_at, record_at, queries_at}
use Rattle.dns_grammar.specs.Messages.{records_at, additionals_at, body_at, sized_header_at, message_at}
use Rattle.dns_grammar.specs.Laws.{MessageIsReadWhereItStands, OneMessage}
use Rattle.dns_wire.proofs.FieldLaws.{is_ok_same, bind_ok}
use Rattle.dns_grammar.proofs.Steps.{chosen}
use Rattle.dns_grammar.proofs.HeadLaws.{header_stands, header_read, query_stands, query_read, record_stands}
use Rattle.dns_grammar.proofs.HeadLaws.{record_read}
use Rattle.dns_grammar.proofs.EachLaws.{each_stands, each_read, each_split, each_both}

-- ---- questions, and records that aren't the last additional

queries_stand : (n : ℕ) (m : List ℕ) (p : ℕ) (queries : List Query) (q : ℕ) → queries_at n m p ≡ Ok (queries, q)
    → EachAt (QueryAt m) p queries q × (length queries ≡ n)
queries_stand n m p queries q h = each_stands (query_at m) (QueryAt m) (query_stands m) n p queries q h

queries_read : (n : ℕ) (m : List ℕ) (p : ℕ) (queries : List Query) (q : ℕ) → length queries ≡ n
    → EachAt (QueryAt m) p queries q → queries_at n m p ≡ Ok (queries, q)
queries_read n m p queries q count s = ap (λ (k : ℕ). queries_at k m p) (sym count)
    ∙ each_read (query_at m) (QueryAt m) (query_read m) p queries q s

record Stand (table : Table) (m : List ℕ) (n p : ℕ) (records : List ResourceRecord) (q : ℕ) : Type 0 where
  pub each : EachAt (RecordAt table m) p records q
  pub count : length records ≡ n
  pub not_tsig : AllByRecursion NotTsig records

-- a record that isn't the last additional
abbrev OtherAt : Table → List ℕ → ℕ → ResourceRecord → ℕ → Type 0
OtherAt table m p rr q = RecordAt table m p rr q × NotTsig rr

is_other : (rr : ResourceRecord) → (false ≡ true) ⊎ NotTsig rr → NotTsig rr
is_other rr (inl no_way) = absurd cc
is_other rr (inr ne) = ne

records_stand : (table : Table) (n : ℕ) (m : List ℕ) (p : ℕ) (records : List ResourceRecord) (q : ℕ)
    → records_at table n m p ≡ Ok (records, q) → Stand table m n p records q
records_stand table n m p records q h =
    let s = each_stands (record_at table false m) (OtherAt table m)
    (λ k rr r is. let one = record_stands table false m k rr r is in (one.0, is_other rr one.1)) n p records q h in
    let both = each_split (RecordAt table m) NotTsig p records q s.0 in
    record { each = both.0; count = s.1; not_tsig = both.1 }

records_read : (table : Table) (n : ℕ) (m : List ℕ) (p : ℕ) (records : List ResourceRecord) (q : ℕ)
    → Stand table m n p records q → records_at table n m p ≡ Ok (records, q)
records_read table n m p records q s =
    ap (λ (k : ℕ). records_at table k m p) (sym s.count)
    ∙ each_read (record_at table false m) (OtherAt table m)
    (λ k rr r is. record_read table false m k rr r is.0 (inr is.1)) p records q
    (each_both (RecordAt table m) NotTsig p records q s.each s.not_tsig)

-- ---- the additional records

record AdditionalsStand (table : Table) (m : List ℕ) (n p : ℕ) (records : List ResourceRecord) (e : ℕ) : Type 0 where
  pub each : EachAt (RecordAt table m) p records e
  pub count : length records ≡ n
  pub not_tsig : AllByRecursion NotTsig (before_last records)

-- what holds of those before the last, with one more before them
before_more : {A : Type 0} (P : A → Type 0) (x : A) (xs : List A) → (length xs ≡ 0) ⊎ P x
    → AllByRecursion P (before_last xs)
    → AllByRecursion P (before_last (x ∷ xs))
before_more P x [] first all = tt
before_more P x (y ∷ ys) (inl none) all = absurd (omega (arith, none))
before_more P x (y ∷ ys) (inr first) all = (first, all)

pub before_less : {A : Type 0} (P : A → Type 0) (x : A) (xs : List A) → AllByRecursion P (before_last (x ∷ xs))
    → AllByRecursion P (before_last xs)
before_less P x [] all = tt
before_less P x (y ∷ ys) all = all.1

-- no more stand behind the last
last_or_other : (n k : ℕ) (rr : ResourceRecord) → k ≡ n → (eqb n 0 ≡ true) ⊎ NotTsig rr → (k ≡ 0) ⊎ NotTsig rr
last_or_other n k rr same (inl is) = inl (same ∙ eqb-true n 0 is)
last_or_other n k rr same (inr ne) = inr ne

additionals_stand : (table : Table) (m : List ℕ) (n p : ℕ) (records : List ResourceRecord) (e : ℕ)
    → additionals_at table n m p ≡ Ok (records, e)
    → AdditionalsStand table m n p records e
unfolding additionals_at
additionals_stand table m zero p records e h =
    subst (λ (y : List ResourceRecord × ℕ). AdditionalsStand table m 0 p y.0 y.1) (is_ok_same ([], p) (records, e) h)
    (record { each = refl; count = refl; not_tsig = tt })
additionals_stand table m (suc n) p records e h =
    let one = bind_ok (record_at table (eqb n 0) m p) _ (records, e) h in
    let rest = bind_ok (additionals_at table n m one.0.1) _ (records, e) one.2 in
    let r = record_stands table (eqb n 0) m p one.0.0 one.0.1 one.1 in
    let s = additionals_stand table m n one.0.1 rest.0.0 rest.0.1 rest.1 in
    subst (λ (y : List ResourceRecord × ℕ). AdditionalsStand table m (suc n) p y.0 y.1)
    (is_ok_same (one.0.0 ∷ rest.0.0, rest.0.1) (records, e) rest.2) (
    record {
      each = (one.0.1, r.0, s.each);
      count = ap (λ (k : ℕ). suc k) s.count;
      not_tsig = before_more NotTsig one.0.0 rest.0.0
          (last_or_other n (length rest.0.0) one.0.0 s.count r.1) s.not_tsig;
    }
    )

-- the last, or another than a transaction signature
pub its_place : (rr : ResourceRecord) (rest : List ResourceRecord) → AllByRecursion NotTsig (before_last (rr ∷ rest))
    → (eqb (length rest) 0 ≡ true) ⊎ NotTsig rr
its_place rr [] all = inl refl
its_place rr (x ∷ xs) all = inr all.0

additionals_read : (table : Table) (m : List ℕ) (p : ℕ) (records : List ResourceRecord) (e : ℕ)
    → EachAt (RecordAt table m) p records e
    → AllByRecursion NotTsig (before_last records) → additionals_at table (length records) m p ≡ Ok (records, e)
unfolding additionals_at
additionals_read table m p [] e s all = rw s refl
additionals_read table m p (rr ∷ rest) e s all =
    rw (
      record_read table (eqb (length rest) 0) m p rr s.0 s.1 (its_place rr rest all),
      additionals_read table m s.0 rest e s.2 (before_less NotTsig rr rest all),
    ) refl

-- ---- the whole

-- what stands behind a header
record BodyAt (table : Table) (m : List ℕ) (header : Header) (p : ℕ) (message : Message) (e : ℕ) : Type 0 where
  pub header_is : message.header ≡ header
  pub answers_start : ℕ
  pub authorities_start : ℕ
  pub additionals_start : ℕ
  pub queries : EachAt (QueryAt m) p message.queries answers_start
  pub questions : length message.queries ≡ header.questions
  pub answers : Stand table m header.answers answers_start message.answers authorities_start
  pub authorities : Stand table m header.authorities authorities_start message.authorities additionals_start
  pub additionals : AdditionalsStand table m header.additionals additionals_start message.additionals e

body_stands : (table : Table) (m : List ℕ) (header : Header) (p : ℕ) (message : Message) (e : ℕ)
    → body_at table m header p ≡ Ok (message, e) → BodyAt table m header p message e
unfolding body_at
body_stands table m header p message e h =
    let queries = bind_ok (queries_at header.questions m p) _ (message, e) h in
    let answers = bind_ok (records_at table header.answers m queries.0.1) _ (message, e) queries.2 in
    let authorities = bind_ok (records_at table header.authorities m answers.0.1) _ (message, e) answers.2 in
    let additionals = bind_ok (additionals_at table header.additionals m authorities.0.1) _
    (message, e) authorities.2 in
    let asked = queries_stand header.questions m p queries.0.0 queries.0.1 queries.1 in
    subst (λ (y : Message × ℕ). BodyAt table m header p y.0 y.1) (is_ok_same _ (message, e) additionals.2)
    (
    record {
      header_is = refl;
      answers_start = queries.0.1;
      authorities_start = answers.0.1;
      additionals_start = authorities.0.1;
      queries = asked.0;
      questions = asked.1;
      answers = records_stand table header.answers m queries.0.1 answers.0.0 answers.0.1 answers.1;
      authorities = records_stand table header.authorities m answers.0.1 authorities.0.0 authorities.0.1 authorities.1;
      additionals = additionals_stand table m header.additionals authorities.0.1 additionals.0.0 additionals.0.1
          additionals.1;
    }
    )

pub message_stands : (table : Table) (m : List ℕ) (message : Message) (e : ℕ) → message_at table m ≡ Ok (message, e)
    → MessageAt table m message e
unfolding message_at
message_stands table m message e h =
    let sized = bind_ok (sized_header_at m) _ (message, e) h in
    let header = chosen (ltb 65535 (length m)) MessageTooLong (header_at m) sized.0 sized.1 in
    let s = header_stands m sized.0.0 sized.0.1 header.1 in
    let b = body_stands table m sized.0.0 sized.0.1 message e sized.2 in
    let is : message.header ≡ sized.0.0 = b.header_is in
    record {
      at_most_65535 = ltb-false _ _ header.0;
      header = subst (λ (y : Header). HeaderAt m y) (sym is) s.0;
      answers_start = b.answers_start;
      authorities_start = b.authorities_start;
      additionals_start = b.additionals_start;
      queries = subst (λ k. EachAt (QueryAt m) k message.queries b.answers_start) s.1 b.queries;
      answers = b.answers.each;
      authorities = b.authorities.each;
      additionals = b.additionals.each;
      counts = record {
        questions = b.questions ∙ ap (λ (y : Header). y.questions) (sym is);
        answers = b.answers.count ∙ ap (λ (y : Header). y.answers) (sym is);
        authorities = b.authorities.count ∙ ap (λ (y : Header). y.authorities) (sym is);
        additionals = b.additionals.count ∙ ap (λ (y : Header). y.additionals) (sym is);
      };
      tsig_is_last = record {
        answers = b.answers.not_tsig;
        authorities = b.authorities.not_tsig;
        additionals =
            b.additionals.not_tsig;
      };
    }

pub message_read : (table : Table) (m : List ℕ) (message : Message) (e : ℕ) → MessageAt table m message e
    → message_at table m ≡ Ok (message, e)
unfolding message_at body_at
message_read table m message e s =
    let short : ltb 65535 (length m) ≡ false = le-ltb _ _ s.at_most_65535 in
    let answers : Stand table m message.header.answers s.answers_start message.answers s.authorities_start =
    record { each = s.answers; count = s.counts.answers; not_tsig = s.tsig_is_last.answers } in
    let authorities : Stand table m message.header.authorities s.authorities_start message.authorities
    s.additionals_start = record {
      each = s.authorities;
      count = s.counts.authorities;
      not_tsig =
          s.tsig_is_last.authorities;
    } in
    let additionals : additionals_at table message.header.additionals m s.additionals_start
    ≡ Ok (message.additionals, e) =
    ap (λ (k : ℕ). additionals_at table k m s.additionals_start) (sym s.counts.additionals)
    ∙ additionals_read table m s.additionals_start message.additionals e s.additionals s.tsig_is_last.additionals in
    rw (
      short,
      header_read m message.header s.header,
      queries_read message.header.questions m 12 message.queries s.answers_start s.counts.questions s.queries,
      records_read table message.header.answers m s.answers_start message.answers s.authorities_start answers,
      records_read table message.header.authorities m s.authorities_start message.authorities s.additionals_start
          authorities,
      additionals,
    ) refl

pub message_is_read : (table : Table) → MessageIsReadWhereItStands table
message_is_read table m message e = (message_stands table m message e, message_read table m message e)

pub one_message : (table : Table) → OneMessage table
one_message table m message other e d a b =
    let same = is_ok_same (message, e) (other, d) (sym (message_read table m message e a)
    ∙ message_read table m other d b) in
    (ap (λ (y : Message × ℕ). y.0) same, ap (λ (y : Message × ℕ). y.1) same)
