-- What is found by the places of records is what the message says.
use Rattle.std.proofs.Common.{◌≡◌, inl, ℕ, Bool, true, false, cond, eqb, ◌&&◌, List, [], ◌∷◌, ◌++◌, map, Option, Some, None}
use Rattle.std.proofs.Common.{◌≤◌, ◌<◌, ◌+◌, ◌*◌, length, length-append, Result, Ok, Err, refl, sym, ap, subst, ◌∙◌, append-nil, arith}
use Rattle.std.specs.Prelude.{IsOk, is_ok}
use Rattle.std.specs.Result.{result_unwrap_or}
use Rattle.std.specs.List.{AllByRecursion, filter}
use Rattle.std.proofs.lemmas.List.{length-map}
use Rattle.std.proofs.lemmas.List.Elements.{filter-append}
use Rattle.dns_wire.specs.declared.error.DecodeError.{DecodeError}
use Rattle.dns_wire.specs.declared.error.EmitError.{EmitError}
use Rattle.dns_wire.specs.Reading.{◌>>=◌}
use Rattle.dns_wire.proofs.FieldLaws.{bind_ok, is_ok_same}
use Rattle.dns_names.specs.Names.{same}
use Rattle.dns_names.proofs.PlaceLaws.{labels_forward, labels_next}
use Rattle.dns_grammar.specs.Fields.{Value}
use Rattle.dns_grammar.specs.Messages.{Message, MessageAt, Query, QueryAt, ResourceRecord, EachAt, RecordAt}
use Rattle.dns_grammar.specs.Messages.{message_at, records}
use Rattle.dns_grammar.specs.Messages.{head_at, placed, record_at}
use Rattle.dns_grammar.specs.RecordData.{RDataAt, canon, rdata_at}
use Rattle.dns_grammar.proofs.HeadLaws.{record_read}
use Rattle.dns_grammar.proofs.MessageLaws.{message_stands}
use Rattle.dns_rdata.specs.RDataTable.{rdata_table}
use Rattle.dns_message.specs.declared.section.Section.{Section}
use Rattle.dns_message.specs.declared.section.Section.TheVariants as sections
use Rattle.message_walk.specs.declared.data_error.DataError.{DataError}
use Rattle.message_walk.specs.declared.record_place.RecordPlace.{RecordPlace}
use Rattle.message_walk.specs.Copies.{Fills}
use Rattle.message_walk.specs.Places.{data_at, data_of, if_short, message_places, place_of, record_from, section_records}
use Rattle.message_walk.specs.Places.{places_at, section_places}
use Rattle.sec_sign.specs.Ascending.{ascending}
use Rattle.sec_sign.specs.Sets.{SetName, for_each, same_set, set_octets, set_of}
use Rattle.rrsig_input.specs.declared.input_error.InputError.{InputError}
use Rattle.rrsig_input.specs.SignedSets.{input_at, input_read, is_head_of, is_place_of, or_too_long, same_section}
use Rattle.rrsig_input.proofs.Walks.{data_of_each, input_among}

-- ---- each record is read where it starts

pub record IsRead (m : List ℕ) (rr : ResourceRecord) : Type 0 where
  pub end : ℕ
  pub is : record_from m rr.start ≡ Ok (rr, end)
  pub inside : rr.start < length m

each_read : (m : List ℕ) (p : ℕ) (rrs : List ResourceRecord) (q : ℕ) → EachAt (RecordAt rdata_table m) p rrs q
    → AllByRecursion (IsRead m) rrs
each_read m p [] q s = tt
each_read m p (rr ∷ rrs) q s = (
  record {
    end = s.0;
    is = subst (λ k. record_from m k ≡ Ok (rr, s.0)) (sym s.1.start)
        (record_read rdata_table true m p rr s.0 s.1 (inl refl));
    inside = omega (arith, s.1.start, labels_forward s.1.name.labels, labels_next s.1.name.labels);
  },
  each_read m s.0 rrs q s.2,
)

pub record AreRead (m : List ℕ) (message : Message) : Type 0 where
  pub answers : AllByRecursion (IsRead m) message.answers
  pub authorities : AllByRecursion (IsRead m) message.authorities
  pub additionals : AllByRecursion (IsRead m) message.additionals

pub are_read : (m : List ℕ) (message : Message) (e : ℕ) → message_at rdata_table m ≡ Ok (message, e) → AreRead m message
are_read m message e h =
    let s = message_stands rdata_table m message e h in
    record {
      answers = each_read m s.answers_start message.answers s.authorities_start s.answers;
      authorities = each_read m s.authorities_start message.authorities s.additionals_start s.authorities;
      additionals = each_read m s.additionals_start message.additionals e s.additionals;
    }

-- a record stands at the place
pub record IsPlace (m : List ℕ) (place : RecordPlace) : Type 0 where
  pub stands : IsOk (record_from m place.start)
  pub inside : place.start < length m

section_stands : (m : List ℕ) (section : Section) (rrs : List ResourceRecord) (places : List RecordPlace)
    → AllByRecursion (IsRead m) rrs → AllByRecursion (IsPlace m) places
    → AllByRecursion (IsPlace m) (map (place_of m section) rrs ++ places)
section_stands m section [] places read later = later
section_stands m section (rr ∷ rrs) places read later = (
  record { stands = rw read.0.is refl; inside = read.0.inside },
  section_stands m section rrs places read.1 later,
)

places_stand : (m : List ℕ) (message : Message) → AreRead m message
    → AllByRecursion (IsPlace m) (message_places m message)
places_stand m message read =
    section_stands m sections.Answer message.answers _ read.answers
    (section_stands m sections.Authority message.authorities _ read.authorities
    (subst (AllByRecursion (IsPlace m)) (append-nil (map (place_of m sections.Additional) message.additionals))
    (section_stands m sections.Additional message.additionals [] read.additionals tt)))

-- records stand at the places of a message
pub each_stands : (m : List ℕ) (places : List RecordPlace) → places_at m ≡ Ok places
    → AllByRecursion (IsPlace m) places
each_stands m places h =
    let read = bind_ok (message_at rdata_table m) _ places h in
    subst (AllByRecursion (IsPlace m)) (is_ok_same _ places read.2)
    (places_stand m read.0.0 (are_read m read.0.0 read.0.1 read.1))

-- ---- how many there are

-- so many records stand from p to q, each of eleven octets or more
record Span (m : List ℕ) (p n q : ℕ) : Type 0 where
  pub long : p + 11 * n ≤ q
  pub inside : q ≤ length m

data_inside : (m : List ℕ) (p len rtype : ℕ) (rdata : Option (List Value)) → RDataAt rdata_table m p len rtype rdata
    → p + len ≤ length m
data_inside m p len rtype (Some values) at = at.within
data_inside m p len rtype None at = omega (arith, at.empty, at.within)

records_span : (m : List ℕ) (p : ℕ) (rrs : List ResourceRecord) (q : ℕ) → EachAt (RecordAt rdata_table m) p rrs q
    → p ≤ length m → Span m p (length rrs) q
records_span m p [] q s inside = record { long = omega (arith, s); inside = omega (arith, s) }
records_span m p (rr ∷ rrs) q s inside =
    let one = s.1 in
    let forward = labels_forward one.name.labels in
    let end = one.end in
    let within = data_inside m (one.fixed + 10) one.data_length rr.rtype rr.rdata one.rdata in
    let rest = records_span m s.0 rrs q s.2 (omega (arith, end, within)) in
    record { long = omega (arith, forward, end, rest.long); inside = rest.inside }

queries_span : (m : List ℕ) (p : ℕ) (queries : List Query) (q : ℕ) → EachAt (QueryAt m) p queries q
    → p ≤ length m → Span m p 0 q
queries_span m p [] q s inside = record { long = omega (arith, s); inside = omega (arith, s) }
queries_span m p (query ∷ queries) q s inside =
    let one = s.1 in
    let forward = labels_forward one.name.labels in
    let end = one.end in
    let within = one.query_class.1.inside in
    let rest = queries_span m s.0 queries q s.2 (omega (arith, end, within)) in
    record { long = omega (arith, forward, end, rest.long); inside = rest.inside }

few_records : (m : List ℕ) (message : Message) (e : ℕ) → MessageAt rdata_table m message e
    → length (message_places m message) ≤ 5956
few_records m message e s =
    let header = s.header.additionals.1.inside in
    let short = s.at_most_65535 in
    let first = queries_span m 12 message.queries s.answers_start s.queries header in
    let second = records_span m s.answers_start message.answers s.authorities_start s.answers first.inside in
    let third =
    records_span m s.authorities_start message.authorities s.additionals_start s.authorities second.inside in
    let last = records_span m s.additionals_start message.additionals e s.additionals third.inside in
    simp (length-append, length-map)
    (omega (arith, short, first.long, second.long, third.long, last.long, last.inside))

pub few_places : (m : List ℕ) (places : List RecordPlace) → places_at m ≡ Ok places → length places ≤ 5956
few_places m places h =
    let read = bind_ok (message_at rdata_table m) _ places h in
    let same = ap (λ (l : List RecordPlace). length l) (is_ok_same _ places read.2) in
    omega (arith, same, few_records m read.0.0 read.0.1 (message_stands rdata_table m read.0.0 read.0.1 read.1))

pub short_message : (m : List ℕ) (places : List RecordPlace) → places_at m ≡ Ok places → length m ≤ 65535
short_message m places h =
    let read = bind_ok (message_at rdata_table m) _ places h in
    (message_stands rdata_table m read.0.0 read.0.1 read.1).at_most_65535

-- ---- data

pub record_known : (m : List ℕ) (p : ℕ) → IsOk (data_at m p) → IsOk (record_from m p)
record_known m p h = at (record_from m p) h
  where
    at : (read : Result (ResourceRecord × ℕ) DecodeError) → IsOk (data_of read) → IsOk read
    at (Ok read) h = refl
    at (Err fault) h = h

-- what a buffer holds behind a call that puts data there
pub data_held : (answer : Result (Unit {0}) DataError) (held : List ℕ) (given : Result (List ℕ) DataError)
    → Fills answer held given → held ≡ result_unwrap_or given []
data_held (Ok u) held given h = sym (ap (λ (g : Result (List ℕ) DataError). result_unwrap_or g []) h)
data_held (Err cause) held given h =
    h.1 ∙ sym (ap (λ (g : Result (List ℕ) DataError). result_unwrap_or g []) h.0)

pub data_answered : (answer : Result (Unit {0}) DataError) (held : List ℕ) (given : Result (List ℕ) DataError)
    → Fills answer held given → is_ok answer ≡ is_ok given
data_answered (Ok u) held given h = sym (ap (λ (g : Result (List ℕ) DataError). is_ok g) h)
data_answered (Err cause) held given h = sym (ap (λ (g : Result (List ℕ) DataError). is_ok g) h.0)

pub ruleset data_known = (record_known, data_held, data_answered)

-- ---- the RRSIG

input_of_section : (m : List ℕ) (p : ℕ) (section : Section) (rrs behind : List ResourceRecord)
    (places : List RecordPlace)
    → AllByRecursion (IsRead m) rrs → input_at behind p ≡ input_among m p places
    → input_at (rrs ++ behind) p ≡ input_among m p (map (place_of m section) rrs ++ places)
input_of_section m p section [] behind places read later = later
input_of_section m p section (rr ∷ rrs) behind places read later =
    (λ i. cond (eqb rr.start p) (input_read (sym read.0.is i))
    (input_of_section m p section rrs behind places read.1 later i))

pub input_is : (m : List ℕ) (p : ℕ) (message : Message) → AreRead m message
    → input_at (records message) p ≡ input_among m p (message_places m message)
input_is m p message read =
    input_of_section m p sections.Answer message.answers _ _ read.answers
    (input_of_section m p sections.Authority message.authorities _ _ read.authorities
    (ap (λ (rrs : List ResourceRecord). input_at rrs p) (sym (append-nil message.additionals))
    ∙ input_of_section m p sections.Additional message.additionals [] [] read.additionals refl
    ∙ ap (input_among m p) (append-nil (map (place_of m sections.Additional) message.additionals))))

-- ---- the set

-- what is read before the data of a record that is read
head_same : (m : List ℕ) (set : SetName) (p : ℕ) (read : ResourceRecord × ℕ) → record_from m p ≡ Ok read
    → is_head_of set (head_at m p) ≡ same_set (set_of read.0) set
unfolding record_at
head_same m set p read h =
    let head = bind_ok (head_at m p) _ read h in
    let test = bind_ok (placed true head.0.0.rtype) _ read head.2 in
    let given = bind_ok (rdata_at rdata_table m head.0.1 head.0.0.data_length head.0.0.rtype) _ read test.2 in
    ap (is_head_of set) head.1
    ∙ ap (λ (x : ResourceRecord × ℕ). same_set (set_of x.0) set) (is_ok_same _ read given.2)

data_same : (m : List ℕ) (rr : ResourceRecord) → IsRead m rr
    → data_at m rr.start ≡ if_short (canon rdata_table rr.rtype rr.rdata)
data_same m rr read = ap data_of read.is

abbrev Each : Type 0 → Type 0
Each E = Result (List (List ℕ)) E

abbrev one_first : {E : Type 0} → Result (List ℕ) E → Each E → Each E
one_first first others = first >>= λ y. others >>= λ ys. Ok (y ∷ ys)

-- one more record before others, where only that a cause stands matters
short_first : (first : Result (List ℕ) EmitError) (others : Each EmitError) (same : Each DataError)
    → or_too_long same ≡ or_too_long others
    → or_too_long (one_first (if_short first) same) ≡ or_too_long (one_first first others)
short_first (Err cause) others same e = refl
short_first (Ok c) (Ok cs) (Ok ds) e = let e : ds ≡ cs = cc in ap (λ (l : List (List ℕ)). Ok (c ∷ l)) e
short_first (Ok c) (Ok cs) (Err cause) e = absurd cc
short_first (Ok c) (Err cause) (Ok ds) e = absurd cc
short_first (Ok c) (Err cause) (Err other) e = refl

-- the records of this section
these : (m : List ℕ) (section : Section) (set : SetName) (rrs : List ResourceRecord)
    → same_section section section ≡ true → AllByRecursion (IsRead m) rrs
    → data_of_each m section set (map (place_of m section) rrs)
    ≡ or_too_long (for_each (λ rr. canon rdata_table rr.rtype rr.rdata)
    (filter (λ rr. same_set (set_of rr) set) rrs))
these m section set [] is read = refl
these m section set (rr ∷ rrs) is read = at (same_set (set_of rr) set) refl (these m section set rrs is read.1)
  where
    tested : is_place_of m section set (place_of m section rr) ≡ same_set (set_of rr) set
    tested =
        ap (λ (b : Bool). b && is_head_of set (head_at m rr.start)) is
        ∙ head_same m set rr.start (rr, read.0.end) read.0.is

    left : List ResourceRecord → Each InputError
    left rrs = data_of_each m section set (map (place_of m section) rrs)

    right : List ResourceRecord → Each InputError
    right rrs = or_too_long (for_each (λ rr. canon rdata_table rr.rtype rr.rdata)
        (filter (λ rr. same_set (set_of rr) set) rrs))

    at : (b : Bool) → same_set (set_of rr) set ≡ b
        → data_of_each m section set (map (place_of m section) rrs)
        ≡ or_too_long (for_each (λ rr. canon rdata_table rr.rtype rr.rdata)
        (filter (λ rr. same_set (set_of rr) set) rrs))
        → data_of_each m section set (map (place_of m section) (rr ∷ rrs))
        ≡ or_too_long (for_each (λ rr. canon rdata_table rr.rtype rr.rdata)
        (filter (λ rr. same_set (set_of rr) set) (rr ∷ rrs)))
    at true of_set later =
        rw (tested ∙ of_set, of_set) (ap (λ (first : Result (List ℕ) DataError). or_too_long (one_first first
        (for_each (λ place. data_at m place.start) (filter (is_place_of m section set) (map (place_of m section) rrs)))))
        (data_same m rr read.0)
        ∙ short_first (canon rdata_table rr.rtype rr.rdata)
        (for_each (λ rr. canon rdata_table rr.rtype rr.rdata) (filter (λ rr. same_set (set_of rr) set) rrs))
        (for_each (λ place. data_at m place.start) (filter (is_place_of m section set) (map (place_of m section) rrs)))
        later)
    at false of_set later = rw (tested ∙ of_set, of_set) later

-- the records of another section
others : (m : List ℕ) (section other : Section) (set : SetName) (rrs : List ResourceRecord)
    → same_section other section ≡ false
    → filter (is_place_of m section set) (map (place_of m other) rrs) ≡ []
others m section other set [] is = refl
others m section other set (rr ∷ rrs) is = rw is (others m section other set rrs is)

abbrev chosen : List ℕ → Section → SetName → Section → List ResourceRecord → List RecordPlace
chosen m section set other rrs = filter (is_place_of m section set) (map (place_of m other) rrs)

all_chosen : (m : List ℕ) (section : Section) (set : SetName) (message : Message)
    → filter (is_place_of m section set) (message_places m message)
    ≡ chosen m section set sections.Answer message.answers
    ++ (chosen m section set sections.Authority message.authorities
    ++ chosen m section set sections.Additional message.additionals)
all_chosen m section set message =
    filter-append (is_place_of m section set) (section_places m message sections.Answer) _
    ∙ ap (λ (l : List RecordPlace). chosen m section set sections.Answer message.answers ++ l)
    (filter-append (is_place_of m section set) (section_places m message sections.Authority) _)

one_section : (m : List ℕ) (section : Section) (set : SetName) (message : Message)
    → filter (is_place_of m section set) (message_places m message)
    ≡ chosen m section set section (section_records section message)
one_section m sections.Answer set message =
    all_chosen m sections.Answer set message
    ∙ (λ i. chosen m sections.Answer set sections.Answer message.answers
    ++ (others m sections.Answer sections.Authority set message.authorities refl i
    ++ others m sections.Answer sections.Additional set message.additionals refl i))
    ∙ append-nil (chosen m sections.Answer set sections.Answer message.answers)
one_section m sections.Authority set message =
    all_chosen m sections.Authority set message
    ∙ (λ i. others m sections.Authority sections.Answer set message.answers refl i
    ++ (chosen m sections.Authority set sections.Authority message.authorities
    ++ others m sections.Authority sections.Additional set message.additionals refl i))
    ∙ append-nil (chosen m sections.Authority set sections.Authority message.authorities)
one_section m sections.Additional set message =
    all_chosen m sections.Additional set message
    ∙ (λ i. others m sections.Additional sections.Answer set message.answers refl i
    ++ (others m sections.Additional sections.Authority set message.authorities refl i
    ++ chosen m sections.Additional set sections.Additional message.additionals))

pub section_read : (m : List ℕ) (section : Section) (message : Message) → AreRead m message
    → AllByRecursion (IsRead m) (section_records section message)
section_read m sections.Answer message read = read.answers
section_read m sections.Authority message read = read.authorities
section_read m sections.Additional message read = read.additionals

its_own : (section : Section) → same_section section section ≡ true
its_own sections.Answer = refl
its_own sections.Authority = refl
its_own sections.Additional = refl

ascending_first : {E : Type 0} (each : Each E)
    → (or_too_long each >>= λ cs. Ok (ascending cs)) ≡ or_too_long (each >>= λ cs. Ok (ascending cs))
ascending_first (Ok cs) = refl
ascending_first (Err cause) = refl

pub set_is : (m : List ℕ) (section : Section) (set : SetName) (message : Message) → AreRead m message
    → (data_of_each m section set (message_places m message) >>= λ cs. Ok (ascending cs))
    ≡ or_too_long (set_octets set (section_records section message))
set_is m section set message read =
    ap (λ (places : List RecordPlace). or_too_long (for_each (λ place. data_at m place.start) places)
    >>= λ cs. Ok (ascending cs)) (one_section m section set message)
    ∙ ap (λ (each : Each InputError). each >>= λ cs. Ok (ascending cs))
    (these m section set (section_records section message) (its_own section) (section_read m section message read))
    ∙ ascending_first (for_each (λ rr. canon rdata_table rr.rtype rr.rdata)
    (filter (λ rr. same_set (set_of rr) set) (section_records section message)))
