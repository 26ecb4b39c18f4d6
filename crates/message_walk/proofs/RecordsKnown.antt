-- The records of a message that is read: each is read where it stands, and how many there are at most.
use Rattle.std.proofs.Common.{◌≡◌, ℕ, ◌+◌, ◌*◌, ◌≤◌, List, [], ◌∷◌, ◌++◌, length, map, Ok, sym}
use Rattle.std.proofs.Common.{ap, subst, ◌∙◌, arith, length-append}
use Rattle.std.proofs.lemmas.List.{length-map}
use Rattle.std.specs.List.{AllByRecursion}
use Rattle.dns_names.proofs.PlaceLaws.{labels_forward}
use Rattle.dns_grammar.specs.Messages.{Query, ResourceRecord, Message, EachAt, QueryAt, RecordAt, message_at, records}
use Rattle.dns_grammar.proofs.MessageLaws.{message_stands}
use Rattle.dns_message.specs.declared.section.Section.TheVariants as sections
use Rattle.dns_rdata.specs.RDataTable.{rdata_table}
use Rattle.message_walk.specs.Places.{message_places, place_of, record_from}
use Rattle.message_walk.proofs.RecordSteps.{rdata_within}
use Rattle.message_walk.proofs.WalkSteps.{is_read}

-- ---- each record is read

-- a record is read where it starts, whatever its section
abbrev pub IsRead : List ℕ → ResourceRecord → Type 0
IsRead m rr = (e : ℕ) × (record_from m rr.start ≡ Ok (rr, e))

each_is_read : (m : List ℕ) (p : ℕ) (xs : List ResourceRecord) (q : ℕ) → EachAt (RecordAt rdata_table m) p xs q
    → AllByRecursion (IsRead m) xs
each_is_read m p [] q s = tt
each_is_read m p (x ∷ xs) q s =
    let from : x.start ≡ p = s.1.start in
    ((s.0, ap (record_from m) from ∙ is_read m p x s.0 s.1), each_is_read m s.0 xs q s.2)

all_append : {A : Type 0} (P : A → Type 0) (xs ys : List A) → AllByRecursion P xs → AllByRecursion P ys
    → AllByRecursion P (xs ++ ys)
all_append P [] ys a b = b
all_append P (x ∷ xs) ys a b = (a.0, all_append P xs ys a.1 b)

-- each record of a message that is read stands where it starts
pub records_are_read : (m : List ℕ) (message : Message) (e : ℕ) → message_at rdata_table m ≡ Ok (message, e)
    → AllByRecursion (IsRead m) (records message)
records_are_read m message e h =
    let s = message_stands rdata_table m message e h in
    all_append (IsRead m) message.answers (message.authorities ++ message.additionals)
    (each_is_read m s.answers_start message.answers s.authorities_start s.answers)
    (all_append (IsRead m) message.authorities message.additionals
    (each_is_read m s.authorities_start message.authorities s.additionals_start s.authorities)
    (each_is_read m s.additionals_start message.additionals e s.additionals))

-- ---- how many there are

-- a record has 11 octets at least: an owner of one octet and ten more
record_room : (m : List ℕ) (p : ℕ) (rr : ResourceRecord) (q : ℕ) → RecordAt rdata_table m p rr q → p + 11 ≤ q
record_room m p rr q s = let forward = labels_forward s.name.labels in omega (arith, forward, s.end)

each_room : (m : List ℕ) (p : ℕ) (xs : List ResourceRecord) (q : ℕ) → EachAt (RecordAt rdata_table m) p xs q
    → p + 11 * length xs ≤ q
each_room m p [] q s = omega (arith, s)
each_room m p (x ∷ xs) q s =
    let first = record_room m p x s.0 s.1 in
    let rest = each_room m s.0 xs q s.2 in
    omega (arith, first, rest)

-- and they end within the octets
each_within : (m : List ℕ) (p : ℕ) (xs : List ResourceRecord) (q : ℕ) → p ≤ length m
    → EachAt (RecordAt rdata_table m) p xs q → q ≤ length m
each_within m p [] q le s = subst (λ k. k ≤ length m) (sym s) le
each_within m p (x ∷ xs) q le s =
    let one = s.1 in
    let inside = rdata_within m (one.fixed + 10) one.data_length x.rtype x.rdata one.rdata in
    each_within m s.0 xs q (omega (arith, inside, one.end)) s.2

-- questions stand behind each other too
queries_room : (m : List ℕ) (p : ℕ) (xs : List Query) (q : ℕ) → p ≤ length m → EachAt (QueryAt m) p xs q
    → (p ≤ q) × (q ≤ length m)
queries_room m p [] q le s = (omega (arith, s), omega (arith, s, le))
queries_room m p (x ∷ xs) q le s =
    let one = s.1 in
    let forward = labels_forward one.name.labels in
    let rest = queries_room m s.0 xs q (omega (arith, one.end, one.query_class.1.inside)) s.2 in
    (omega (arith, rest.0, forward, one.end), rest.1)

-- A message has at most 5,956 records: 65,535 octets less 12 of the header, and 11 or more for each.
pub records_are_few : (m : List ℕ) (message : Message) (e : ℕ) → message_at rdata_table m ≡ Ok (message, e)
    → length (message_places m message) ≤ 5956
records_are_few m message e h =
    let s = message_stands rdata_table m message e h in
    let begin = queries_room m 12 message.queries s.answers_start s.header.additionals.1.inside s.queries in
    let a = each_room m s.answers_start message.answers s.authorities_start s.answers in
    let b = each_room m s.authorities_start message.authorities s.additionals_start s.authorities in
    let c = each_room m s.additionals_start message.additionals e s.additionals in
    let a_in = each_within m s.answers_start message.answers s.authorities_start begin.1 s.answers in
    let b_in = each_within m s.authorities_start message.authorities s.additionals_start a_in s.authorities in
    let c_in = each_within m s.additionals_start message.additionals e b_in s.additionals in
    let few : length message.answers + (length message.authorities + length message.additionals) ≤ 5956 =
    omega (arith, begin.0, a, b, c, c_in, s.at_most_65535) in
    let counted : length (message_places m message)
    ≡ length message.answers + (length message.authorities + length message.additionals) =
    length-append (map (place_of m sections.Answer) message.answers) _
    ∙ (λ i. length-map message.answers (place_of m sections.Answer) i
    + (length-append (map (place_of m sections.Authority) message.authorities)
    (map (place_of m sections.Additional) message.additionals)
    ∙ (λ j. length-map message.authorities (place_of m sections.Authority) j
    + length-map message.additionals (place_of m sections.Additional) j)) i) in
    subst (λ k. k ≤ 5956) (sym counted) few
