-- The records of a message, gone over one behind the other.
use Rattle.std.proofs.Common.{◌≡◌, inl, ℕ, zero, suc, ◌+◌, ◌-◌, ◌<◌, true, List, [], ◌∷◌, ◌++◌, length, map}
use Rattle.std.proofs.Common.{Option, Some, Result, Ok, Err, refl, sym, ap, subst, ◌∙◌, arith, length-append}
use Rattle.std.specs.Prelude.{IsOk, MatchOption}
use Rattle.dns_wire.specs.declared.error.DecodeError.{DecodeError}
use Rattle.dns_wire.specs.Reading.{◌>>=◌}
use Rattle.dns_wire.proofs.FieldLaws.{is_ok_same, bind_ok}
use Rattle.dns_grammar.specs.Messages.{Header, ResourceRecord, Message, EachAt, QueryAt, RecordAt}
use Rattle.dns_grammar.specs.Messages.{query_at, queries_at, message_at}
use Rattle.dns_grammar.proofs.EachLaws.{each_read}
use Rattle.dns_grammar.proofs.HeadLaws.{header_read, query_read, record_read}
use Rattle.dns_grammar.proofs.MessageLaws.{message_stands}
use Rattle.dns_message.specs.declared.section.Section.{Section}
use Rattle.dns_message.specs.declared.section.Section.TheVariants as sections
use Rattle.dns_rdata.specs.RDataTable.{rdata_table}
use Rattle.message_walk.specs.declared.record_place.RecordPlace.{RecordPlace}
use Rattle.message_walk.specs.Places.{message_places, place_of, places_at, record_end, record_from}
use Rattle.message_walk.specs.Walks.{LeftStand, RunStands, is_message, left_places, read_place, records_start, run_end, run_places}

-- ---- records that stand one behind the other

-- a record that stands at p of m
abbrev StandsAt : List ℕ → ℕ → ResourceRecord → ℕ → Type 0
StandsAt m p rr q = RecordAt rdata_table m p rr q

pub is_read : (m : List ℕ) (p : ℕ) (rr : ResourceRecord) (q : ℕ) → StandsAt m p rr q → record_from m p ≡ Ok (rr, q)
is_read m p rr q s = record_read rdata_table true m p rr q s (inl refl)

is_ok : (m : List ℕ) (p : ℕ) (rr : ResourceRecord) (q : ℕ) → StandsAt m p rr q → IsOk (record_from m p)
is_ok m p rr q s = rw (is_read m p rr q s) refl

behind : (m : List ℕ) (p : ℕ) (rr : ResourceRecord) (q : ℕ) → StandsAt m p rr q → record_end m p ≡ q
behind m p rr q s = rw (is_read m p rr q s) refl

-- its place is that of the record
same_place : (m : List ℕ) (section : Section) (p : ℕ) (rr : ResourceRecord) (q : ℕ) → StandsAt m p rr q
    → read_place section p (record_from m p) ≡ place_of m section rr
same_place m section p rr q s =
    let from : rr.start ≡ p = s.start in
    let to : record_end m rr.start ≡ q = ap (record_end m) from ∙ behind m p rr q s in
    ap (read_place section p) (is_read m p rr q s)
    ∙ sym (λ i. record { start = from i; length = to i - from i; section = section; rtype = rr.rtype })

-- what a walk over them meets
pub record Met (m : List ℕ) (section : Section) (p : ℕ) (xs : List ResourceRecord) (q : ℕ) : Type 0 where
  pub places : run_places m section (length xs) p ≡ map (place_of m section) xs
  pub end : run_end m (length xs) p ≡ q
  pub stand : RunStands m (length xs) p

pub met : (m : List ℕ) (section : Section) (p : ℕ) (xs : List ResourceRecord) (q : ℕ) → EachAt (StandsAt m) p xs q
    → Met m section p xs q
unfolding run_places run_end RunStands
met m section p [] q s = record { places = refl; end = sym s; stand = tt }
met m section p (x ∷ xs) q s =
    let rest = met m section s.0 xs q s.2 in
    let to : record_end m p ≡ s.0 = behind m p x s.0 s.1 in
    record {
      places = (λ i. same_place m section p x s.0 s.1 i ∷ run_places m section (length xs) (to i))
          ∙ ap (λ l. place_of m section x ∷ l) rest.places;
      end = ap (run_end m (length xs)) to ∙ rest.end;
      stand = (is_ok m p x s.0 s.1, subst (RunStands m (length xs)) (sym to) rest.stand);
    }

-- how many there are
run_length : (m : List ℕ) (section : Section) (n p : ℕ) → length (run_places m section n p) ≡ n
unfolding run_places
run_length m section zero p = refl
run_length m section (suc n) p = ap suc (run_length m section n (record_end m p))

pub left_length : (m : List ℕ) (p answers authorities additionals : ℕ)
    → length (left_places m p answers authorities additionals) ≡ answers + authorities + additionals
left_length m p answers authorities additionals =
    let first = run_end m answers p in
    let second = run_end m authorities first in
    let a = run_length m sections.Answer answers p in
    let b = run_length m sections.Authority authorities first in
    let c = run_length m sections.Additional additionals second in
    simp length-append (omega (arith, a, b, c))

-- three sections one behind the other
module _ (m : List ℕ) (p q r e : ℕ) (xs ys zs : List ResourceRecord) (a : Met m sections.Answer p xs q)
    (b : Met m sections.Authority q ys r) (c : Met m sections.Additional r zs e) where
  left_met : left_places m p (length xs) (length ys) (length zs)
      ≡ map (place_of m sections.Answer) xs
      ++ (map (place_of m sections.Authority) ys ++ map (place_of m sections.Additional) zs)
  left_met =
      (λ i. a.places i ++ (run_places m sections.Authority (length ys) (a.end i)
      ++ run_places m sections.Additional (length zs) (run_end m (length ys) (a.end i))))
      ∙ (λ i. map (place_of m sections.Answer) xs
      ++ (b.places i ++ run_places m sections.Additional (length zs) (b.end i)))
      ∙ (λ i. map (place_of m sections.Answer) xs ++ (map (place_of m sections.Authority) ys ++ c.places i))

  left_stand : LeftStand m p (length xs) (length ys) (length zs)
  left_stand = record {
    answers_stand = a.stand;
    authorities_stand = subst (RunStands m (length ys)) (sym a.end) b.stand;
    additionals_stand = subst (λ k. RunStands m (length zs) (run_end m (length ys) k)) (sym a.end)
        (subst (RunStands m (length zs)) (sym b.end) c.stand);
  }

-- ---- a message that is read

-- what a walk begins with
pub record Begins (m : List ℕ) (message : Message) : Type 0 where
  pub start : ℕ
  pub start_is : records_start m ≡ Ok (message.header, start)
  pub left : left_places m start message.header.answers message.header.authorities message.header.additionals
      ≡ message_places m message
  pub stand : LeftStand m start message.header.answers message.header.authorities message.header.additionals

pub begins : (m : List ℕ) (message : Message) (e : ℕ) → message_at rdata_table m ≡ Ok (message, e) → Begins m message
unfolding records_start
begins m message e h =
    let s = message_stands rdata_table m message e h in
    let queries : queries_at message.header.questions m 12 ≡ Ok (message.queries, s.answers_start) =
    ap (λ k. queries_at k m 12) (sym s.counts.questions)
    ∙ each_read (query_at m) (QueryAt m) (query_read m) 12 message.queries s.answers_start s.queries in
    let a = met m sections.Answer s.answers_start message.answers s.authorities_start s.answers in
    let b = met m sections.Authority s.authorities_start message.authorities s.additionals_start s.authorities in
    let c = met m sections.Additional s.additionals_start message.additionals e s.additionals in
    record {
      start = s.answers_start;
      start_is = rw (header_read m message.header s.header, queries) refl;
      left = sym (λ i. left_places m s.answers_start (s.counts.answers i) (s.counts.authorities i)
          (s.counts.additionals i))
          ∙ left_met m s.answers_start s.authorities_start s.additionals_start e message.answers message.authorities
          message.additionals a b c;
      stand = subst (λ k. LeftStand m s.answers_start message.header.answers message.header.authorities k)
          s.counts.additionals
          (subst (λ k. LeftStand m s.answers_start message.header.answers k (length message.additionals))
          s.counts.authorities
          (subst (λ k. LeftStand m s.answers_start k (length message.authorities) (length message.additionals))
          s.counts.answers
          (left_stand m s.answers_start s.authorities_start s.additionals_start e message.answers message.authorities
          message.additionals a b c)));
    }

-- what is known of a message whose header was read
pub record Known (m : List ℕ) (header : Header) (start : ℕ) : Type 0 where
  pub stand : LeftStand m start header.answers header.authorities header.additionals
  pub given : places_at m ≡ Ok (left_places m start header.answers header.authorities header.additionals)

pub known : (m : List ℕ) (header : Header) (start : ℕ) (u : Unit {0}) → is_message m ≡ Ok u
    → records_start m ≡ Ok (header, start) → Known m header start
known m header start u is h =
    let read = bind_ok (message_at rdata_table m) _ u is in
    let message = read.0.0 in
    let b = begins m message read.0.1 read.1 in
    let same = is_ok_same (message.header, b.start) (header, start) (sym b.start_is ∙ h) in
    let given : places_at m ≡ Ok (left_places m b.start message.header.answers message.header.authorities
    message.header.additionals) =
    ap (λ r. r >>= λ x. Ok (message_places m x.0)) read.1
    ∙ ap (λ l. let ok : Result (List RecordPlace) DecodeError = Ok l in ok) (sym b.left) in
    subst (λ (x : Header × ℕ). Known m x.0 x.1) same (record { stand = b.stand; given = given })

pub header_known : (m : List ℕ) (fault : DecodeError) (u : Unit {0}) → is_message m ≡ Ok u
    → records_start m ≡ Err fault → ⊥
header_known m fault u is h =
    let read = bind_ok (message_at rdata_table m) _ u is in
    let b = begins m read.0.0 read.0.1 read.1 in
    cc (sym b.start_is ∙ h)

-- ---- a step of a walk

-- the first answer that is left
pub next_answer : (m : List ℕ) (p n b c : ℕ) → 0 < n
    → left_places m p n b c
    ≡ read_place sections.Answer p (record_from m p) ∷ left_places m (record_end m p) (n - 1) b c
unfolding run_places run_end
next_answer m p zero b c lt = absurd (omega (arith, lt))
next_answer m p (suc n) b c lt =
    let less : suc n - 1 ≡ n = omega arith in
    rw less refl

pub next_authority : (m : List ℕ) (p a n c : ℕ) → a ≡ 0 → 0 < n
    → left_places m p a n c
    ≡ read_place sections.Authority p (record_from m p) ∷ left_places m (record_end m p) a (n - 1) c
unfolding run_places run_end
next_authority m p zero zero c none lt = absurd (omega (arith, lt))
next_authority m p zero (suc n) c none lt =
    let less : suc n - 1 ≡ n = omega arith in
    rw less refl
next_authority m p (suc a) n c none lt = absurd (omega (arith, none))

pub next_additional : (m : List ℕ) (p a b n : ℕ) → a ≡ 0 → b ≡ 0 → 0 < n
    → left_places m p a b n
    ≡ read_place sections.Additional p (record_from m p) ∷ left_places m (record_end m p) a b (n - 1)
unfolding run_places run_end
next_additional m p zero zero zero none nil lt = absurd (omega (arith, lt))
next_additional m p zero zero (suc n) none nil lt =
    let less : suc n - 1 ≡ n = omega arith in
    rw less refl
next_additional m p zero (suc b) n none nil lt = absurd (omega (arith, nil))
next_additional m p (suc a) b n none nil lt = absurd (omega (arith, none))

pub nothing_next : (m : List ℕ) (p a b c : ℕ) → a ≡ 0 → b ≡ 0 → c ≡ 0 → left_places m p a b c ≡ []
unfolding run_places run_end
nothing_next m p a b c none nil last = rw (none, nil, last) refl

-- what stands behind it
pub record StepStands (m : List ℕ) (p : ℕ) (Behind : Type 0) : Type 0 where
  pub first : IsOk (record_from m p)
  pub behind : Behind

pub answer_stands : (m : List ℕ) (p n b c : ℕ) → 0 < n → LeftStand m p n b c
    → StepStands m p (LeftStand m (record_end m p) (n - 1) b c)
unfolding run_end RunStands
answer_stands m p zero b c lt s = absurd (omega (arith, lt))
answer_stands m p (suc n) b c lt s =
    let less : suc n - 1 ≡ n = omega arith in
    record {
      first = s.answers_stand.0;
      behind = rw less (record {
        answers_stand = s.answers_stand.1;
        authorities_stand = s.authorities_stand;
        additionals_stand = s.additionals_stand;
      });
    }

pub authority_stands : (m : List ℕ) (p a n c : ℕ) → a ≡ 0 → 0 < n → LeftStand m p a n c
    → StepStands m p (LeftStand m (record_end m p) a (n - 1) c)
unfolding run_end RunStands
authority_stands m p zero zero c none lt s = absurd (omega (arith, lt))
authority_stands m p zero (suc n) c none lt s =
    let less : suc n - 1 ≡ n = omega arith in
    record {
      first = s.authorities_stand.0;
      behind = rw less (record {
        answers_stand = tt;
        authorities_stand = s.authorities_stand.1;
        additionals_stand = s.additionals_stand;
      });
    }
authority_stands m p (suc a) n c none lt s = absurd (omega (arith, none))

pub additional_stands : (m : List ℕ) (p a b n : ℕ) → a ≡ 0 → b ≡ 0 → 0 < n → LeftStand m p a b n
    → StepStands m p (LeftStand m (record_end m p) a b (n - 1))
unfolding run_end RunStands
additional_stands m p zero zero zero none nil lt s = absurd (omega (arith, lt))
additional_stands m p zero zero (suc n) none nil lt s =
    let less : suc n - 1 ≡ n = omega arith in
    record {
      first = s.additionals_stand.0;
      behind = rw less (record {
        answers_stand = tt;
        authorities_stand = tt;
        additionals_stand = s.additionals_stand.1;
      });
    }
additional_stands m p zero (suc b) n none nil lt s = absurd (omega (arith, nil))
additional_stands m p (suc a) b n none nil lt s = absurd (omega (arith, none))

-- ---- the same at a decoder

pub stand_at : (m n : List ℕ) (p k a b c : ℕ) → n ≡ m → k ≡ p → LeftStand m p a b c → LeftStand n k a b c
stand_at m n p k a b c same from s =
    subst (λ (l : List ℕ). LeftStand l k a b c) (sym same) (subst (λ q. LeftStand m q a b c) (sym from) s)

pub given_at : (m n : List ℕ) (p k a b c : ℕ) (given : Result (List RecordPlace) DecodeError) → n ≡ m → k ≡ p
    → given ≡ Ok (left_places m p a b c) → given ≡ Ok (left_places n k a b c)
given_at m n p k a b c given same from is =
    is ∙ sym (λ i. let ok : Result (List RecordPlace) DecodeError = Ok (left_places (same i) (from i) a b c) in ok)

-- the first that was left is answered, and the others are left behind it
pub stepped : (result : Option RecordPlace) (first : RecordPlace) (m n : List ℕ) (p k a b c : ℕ)
    (old : List RecordPlace)
    → result ≡ Some first → n ≡ m → k ≡ p → old ≡ first ∷ left_places m p a b c
    → MatchOption result ((old ≡ []) × (left_places n k a b c ≡ [])) (λ x. old ≡ x ∷ left_places n k a b c)
stepped result first m n p k a b c old is same from left =
    subst (λ (r : Option RecordPlace). MatchOption r ((old ≡ []) × (left_places n k a b c ≡ []))
    (λ x. old ≡ x ∷ left_places n k a b c)) (sym is)
    (left ∙ sym (λ i. first ∷ left_places (same i) (from i) a b c))
