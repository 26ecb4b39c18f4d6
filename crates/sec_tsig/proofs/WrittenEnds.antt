-- Where the parts of a message end that was written, in octets in which a message stands.
use Rattle.std.proofs.Common.{◌≡◌, ℕ, ◌+◌, ◌^◌, ◌<◌, ◌≤◌, Bool, true, false, cond, nat_lt, List, [], ◌∷◌, ◌++◌, length, drop, map}
use Rattle.std.proofs.Common.{Option, Some, None, option_map, Result, Ok, Err, refl, sym, ap, subst, ◌∙◌, append_assoc, arith}
use Rattle.std.proofs.Common.{length-append}
use Rattle.std.specs.Int.{w16, from_be_bytes, byte_len}
use Rattle.std.specs.List.{AllByRecursion}
use Rattle.std.proofs.lemmas.Bool.{ltb-false}
use Rattle.std.proofs.lemmas.List.{append-nil, drop_at, length-map, take_rest}
use Rattle.dns_wire.specs.declared.encoder.NameEncoding.TheVariants.{Uncompressed}
use Rattle.dns_wire.specs.declared.error.EmitError.{EmitError}
use Rattle.dns_wire.specs.declared.error.EmitError.TheVariants.{DataTooLong}
use Rattle.dns_wire.specs.Octets.{two_octets, four_octets}
use Rattle.dns_wire.specs.Reading.{◌>>=◌, number_at, NumberAt}
use Rattle.dns_wire.proofs.FieldLaws.{is_ok_same, number_read, number_stands}
use Rattle.dns_names.specs.Names.{IsName, wire}
use Rattle.dns_names.specs.Places.{NameAt}
use Rattle.dns_names.proofs.PlaceLaws.{name_at_complete}
use Rattle.dns_wire.specs.Joining.{each_octets, joined}
use Rattle.dns_grammar.specs.Fields.{Two}
use Rattle.dns_grammar.specs.Messages as grammar
use Rattle.dns_grammar.specs.Messages.{Query, ResourceRecord, EachAt, MessageAt, QueryAt, RecordAt, before_last}
use Rattle.dns_grammar.specs.Messages.{last_additional}
use Rattle.dns_grammar.specs.MessageWriting.{head_octets, header_octets, query_octets}
use Rattle.dns_grammar.specs.RecordData.{rdata_octets}
use Rattle.dns_grammar.proofs.EachLaws.{each_last, length-before_last}
use Rattle.dns_grammar.proofs.ExtentLaws.{narrowed, number_same}
use Rattle.dns_grammar.proofs.ReadBack.{Joins, joins, ok_octets}
use Rattle.dns_grammar.proofs.RecordBack.{GoesOn, behind, name_here, number_here}
use Rattle.sec_sigdata.specs.declared.tsig.TSIG.{TSIG}
use Rattle.dns_rdata.specs.declared.rdata.RData.{RData}
use Rattle.dns_rdata.specs.RData.{rdata_row, rdata_values}
use Rattle.dns_rdata.specs.RDataTable.{rdata_table}
use Rattle.dns_message.specs.declared.message.Message.{Message}
use Rattle.dns_message.specs.declared.query.Query.{Query as HeldQuery}
use Rattle.dns_message.specs.declared.record.Record.{Record}
use Rattle.dns_wire.specs.Joining.{option_octets}
use Rattle.dns_message.specs.MessageWriting.{with_rdata, written_message, written_record}
use Rattle.dns_message.specs.MessageWriting.{written_tsig_record}
use Rattle.dns_message.specs.Parts.{and_last, message_parts, record_view, tsig_record_view, whole}
use Rattle.dns_message.specs.Views.{query_view}
use Rattle.sec_tsig.specs.Tsig.{additional_count, join}
use Rattle.sec_tsig.specs.Laws.{IsUnsigned}
use Rattle.sec_tsig.proofs.Rejoined.{body_part, goes_on_body, same_head}
use Rattle.sec_tsig.proofs.WrittenMessages.{both_lengths, header_length, joined_four, numbers, written_header}
use Rattle.sec_tsig.proofs.WrittenMessages.{written_long}

-- ---- names

-- a name that stands where one was written ends with it
name_end : (n : List (List ℕ)) (m : List ℕ) (p : ℕ) (rest : List ℕ) (other : List (List ℕ)) (q : ℕ) → IsName n
    → GoesOn m p (wire n ++ rest) → NameAt m p (length m) other q → q ≡ p + length (wire n)
name_end n m p rest other q name goes at =
    ap (λ (y : List (List ℕ) × ℕ). y.1) (is_ok_same _ _
    (sym (name_at_complete m p (length m) other q at) ∙ name_here n m p rest name goes))

-- ---- questions

query_end : (query : HeldQuery) (y m : List ℕ) (p : ℕ) (rest : List ℕ) (other : Query) (q : ℕ) → IsName query.name
    → query_octets Uncompressed (query_view query) ≡ Ok y → GoesOn m p (y ++ rest) → QueryAt m p other q
    → q ≡ p + length y
query_end query y m p rest other q name is goes at =
    let a : List ℕ = two_octets query.query_type in
    let b : List ℕ = two_octets query.query_class in
    let whole : wire query.name ++ (a ++ b) ≡ y = ok_octets _ y is in
    let named = name_end query.name m p ((a ++ b) ++ rest) other.name at.fixed name
    (subst (λ l. GoesOn m p l) (ap (λ l. l ++ rest) (sym whole) ∙ append_assoc (wire query.name) (a ++ b) rest) goes)
    at.name in
    omega (arith, at.end, named, ap (λ (l : List ℕ). length l) whole, length-append (wire query.name) (a ++ b))

-- ---- records

-- what is written of a record
record Headed (rr : ResourceRecord) (y : List ℕ) : Type 0 where
  pub rdata : List ℕ
  pub at_most : length rdata ≤ 65535
  pub whole : head_octets Uncompressed rr (length rdata) ++ rdata ≡ y

headed : (rr : ResourceRecord) (written : Result (List ℕ) EmitError) (y : List ℕ)
    → with_rdata Uncompressed rr written ≡ Ok y → Headed rr y
headed rr (Err e) y is = absurd cc
headed rr (Ok x) y is = go (nat_lt 65535 (length x)) refl is
  where
    go : (b : Bool) → nat_lt 65535 (length x) ≡ b
        → (cond b (Err DataTooLong) (let ok : Result (List ℕ) EmitError = Ok x in ok) >>= λ rdata. Ok
        (head_octets Uncompressed rr (length rdata) ++ rdata)) ≡ Ok y
        → Headed rr y
    go true long is = absurd cc
    go false long is = record { rdata = x; at_most = ltb-false _ _ long; whole = ok_octets _ y is }

pieces : (a b c d l x rest : List ℕ) → ((a ++ (b ++ (c ++ (d ++ l)))) ++ x) ++ rest
    ≡ a ++ (b ++ (c ++ (d ++ (l ++ (x ++ rest)))))
pieces a b c d l x rest = simp append_assoc

pieces_length : (a b c d l x : List ℕ) → length ((a ++ (b ++ (c ++ (d ++ l)))) ++ x)
    ≡ length a + (length b + (length c + (length d + length l))) + length x
pieces_length a b c d l x = simp length-append

record_end : (rr : ResourceRecord) (written : Result (List ℕ) EmitError) (y m : List ℕ) (p : ℕ) (rest : List ℕ)
    (other : ResourceRecord) (q : ℕ) → IsName rr.name → with_rdata Uncompressed rr written ≡ Ok y
    → GoesOn m p (y ++ rest) → RecordAt rdata_table m p other q → q ≡ p + length y
record_end rr written y m p rest other q name is goes at =
    let h = headed rr written y is in
    let len : List ℕ = two_octets (length h.rdata) in
    let n : ℕ = p + length (wire rr.name) in
    let a = subst (λ l. GoesOn m p l) (ap (λ l. l ++ rest) (sym h.whole)
    ∙ pieces (wire rr.name) (two_octets rr.rtype) (two_octets rr.dns_class) (four_octets rr.ttl) len h.rdata rest) goes in
    let named = name_end rr.name m p _ other.name at.fixed name a at.name in
    let b = behind m p (wire rr.name) _ a in
    let c = behind m n (two_octets rr.rtype) _ b in
    let d = behind m (n + 2) (two_octets rr.dns_class) _ c in
    let e = behind m (n + 2 + 2) (four_octets rr.ttl) _ d in
    let there : number_at w16 m (n + 2 + 2 + 4) (length m) ≡ Ok (length h.rdata, n + 2 + 2 + 4 + 2) =
    number_here Two (length h.rdata) m (n + 2 + 2 + 4) _ (omega (arith, h.at_most)) e in
    let place : n + 2 + 2 + 4 ≡ at.fixed + 8 = omega (arith, named) in
    let long : length h.rdata ≡ at.data_length = ap (λ (y : ℕ × ℕ). y.0) (is_ok_same _ _ (sym there
    ∙ ap (λ k. number_at w16 m k (length m)) place
    ∙ number_read w16 m (at.fixed + 8) (length m) at.data_length (at.fixed + 10) at.rdlength)) in
    omega (
      arith,
      at.end,
      named,
      long,
      ap (λ (l : List ℕ). length l) h.whole,
      pieces_length (wire rr.name) (two_octets rr.rtype) (two_octets rr.dns_class) (four_octets rr.ttl) len h.rdata,
    )

held_end : (rr : Record RData) (y m : List ℕ) (p : ℕ) (rest : List ℕ) (other : ResourceRecord) (q : ℕ)
    → IsName rr.name → written_record false Uncompressed rr ≡ Ok y → GoesOn m p (y ++ rest)
    → RecordAt rdata_table m p other q → q ≡ p + length y
held_end rr y m p rest other q name is =
    record_end (record_view rr) (rdata_octets false (rdata_row rr.rdata) (rdata_values rr.rdata)) y m p rest other q name is

-- ---- several, one after the other

-- octets that begin with what was joined first
opened : {a b : Result (List ℕ) EmitError} {y : List ℕ} (w : Joins a b y) (m : List ℕ) (p : ℕ) (rest : List ℕ)
    → GoesOn m p (y ++ rest) → GoesOn m p (w.first ++ (w.second ++ rest))
opened w m p rest goes =
    subst (λ l. GoesOn m p l) (ap (λ l. l ++ rest) (sym w.whole) ∙ append_assoc w.first w.second rest) goes

each_end : {A B : Type 0} (at : ℕ → B → ℕ → Type 0) (written : A → Result (List ℕ) EmitError) (P : A → Type 0)
    (m : List ℕ)
    → ((x : A) (y : List ℕ) (p : ℕ) (rest : List ℕ) (other : B) (q : ℕ) → P x → written x ≡ Ok y
    → GoesOn m p (y ++ rest) → at p other q → q ≡ p + length y)
    → (xs : List A) (y : List ℕ) (p : ℕ) (rest : List ℕ) (others : List B) (q : ℕ) → AllByRecursion P xs
    → each_octets written xs ≡ Ok y → GoesOn m p (y ++ rest) → length others ≡ length xs → EachAt at p others q
    → q ≡ p + length y
each_end at written P m one [] y p rest [] q all is goes count s =
    omega (arith, s, ap (λ (l : List ℕ). length l) (ok_octets [] y is))
each_end at written P m one (x ∷ xs) y p rest (other ∷ others) q all is goes count s =
    let w = joins (written x) (each_octets written xs) y is in
    let goes1 = opened w m p rest goes in
    let here : s.0 ≡ p + length w.first = one x w.first p (w.second ++ rest) other s.0 all.0 w.first_is goes1 s.1 in
    let more = each_end at written P m one xs w.second (p + length w.first) rest others q all.1 w.second_is
    (behind m p w.first (w.second ++ rest) goes1) (omega (arith, count))
    (subst (λ k. EachAt at k others q) here s.2) in
    omega (arith, more, both_lengths w)
each_end at written P m one [] y p rest (other ∷ others) q all is goes count s = absurd (omega (arith, count))
each_end at written P m one (x ∷ xs) y p rest [] q all is goes count s = absurd (omega (arith, count))

records_end : (m : List ℕ) (rrs : List (Record RData)) (y : List ℕ) (p : ℕ) (rest : List ℕ) (others : List ResourceRecord)
    (q : ℕ) → AllByRecursion (λ rr. IsName rr.name) rrs → each_octets (written_record false Uncompressed) rrs ≡ Ok y
    → GoesOn m p (y ++ rest) → length others ≡ length rrs → EachAt (RecordAt rdata_table m) p others q
    → q ≡ p + length y
records_end m = each_end (RecordAt rdata_table m) (written_record false Uncompressed) (λ rr. IsName rr.name) m
    (λ x y p rest other q. held_end x y m p rest other q)

-- ---- counts

-- the four counts of a message that is written
record Counts (message : grammar.Message) (octets : List ℕ) : Type 0 where
  pub questions : NumberAt w16 octets 4 (length octets) (length message.queries) 6
  pub answers : NumberAt w16 octets 6 (length octets) (length message.answers) 8
  pub authorities : NumberAt w16 octets 8 (length octets) (length message.authorities) 10
  pub additionals : NumberAt w16 octets 10 (length octets) (length message.additionals) 12

-- a number that was written stands there
number_there : (n : ℕ) (m : List ℕ) (p : ℕ) (rest : List ℕ) → n < 2 ^ 16 → GoesOn m p (two_octets n ++ rest)
    → NumberAt w16 m p (length m) n (p + 2)
number_there n m p rest lt goes = number_stands w16 m p (length m) n (p + 2) (omega arith) (number_here Two n m p rest lt goes)

counts : (message : grammar.Message) (x rest : List ℕ) → header_octets message ≡ Ok x → Counts message (x ++ rest)
counts message x rest is =
    let h = written_header message x is in
    let m : List ℕ = x ++ rest in
    let head : List ℕ = two_octets message.header.id ++ two_octets message.header.flags in
    let q : List ℕ = two_octets (length message.queries) in
    let r : List ℕ = two_octets (length message.answers) in
    let n : List ℕ = two_octets (length message.authorities) in
    let k : List ℕ = two_octets (length message.additionals) in
    let same : m ≡ numbers message ++ rest = ap (λ (l : List ℕ). l ++ rest) h.is in
    let g : GoesOn m 4 (q ++ (r ++ (n ++ (k ++ rest)))) = record { front = head; is = same; long = refl } in
    let g1 : GoesOn m 6 (r ++ (n ++ (k ++ rest))) = record { front = head ++ q; is = same; long = refl } in
    let g2 : GoesOn m 8 (n ++ (k ++ rest)) = record { front = head ++ q ++ r; is = same; long = refl } in
    let g3 : GoesOn m 10 (k ++ rest) = record { front = head ++ q ++ r ++ n; is = same; long = refl } in
    record {
      questions = number_there (length message.queries) m 4 (r ++ (n ++ (k ++ rest))) h.queries g;
      answers = number_there (length message.answers) m 6 (n ++ (k ++ rest)) h.answers g1;
      authorities = number_there (length message.authorities) m 8 (k ++ rest) h.authorities g2;
      additionals = number_there (length message.additionals) m 10 rest h.additionals g3;
    }

-- ---- the parts of what is written

abbrev of_query : HeldQuery → Result (List ℕ) EmitError
of_query query = query_octets Uncompressed (query_view query)

abbrev of_record : Record RData → Result (List ℕ) EmitError
of_record = written_record false Uncompressed

abbrev of_signature : Option (Record TSIG) → Result (List ℕ) EmitError
of_signature = option_octets (written_tsig_record false Uncompressed)

-- what is written of a message without a signature
record WrittenParts (message : Message) (octets : List ℕ) : Type 0 where
  pub header : List ℕ
  pub queries : List ℕ
  pub answers : List ℕ
  pub authorities : List ℕ
  pub additionals : List ℕ
  pub header_is : header_octets (whole (message_parts message)) ≡ Ok header
  pub queries_is : each_octets of_query message.queries.items ≡ Ok queries
  pub answers_is : each_octets of_record message.answers.items ≡ Ok answers
  pub authorities_is : each_octets of_record message.authorities.items ≡ Ok authorities
  pub additionals_is : each_octets of_record message.additionals.items ≡ Ok additionals
  pub all : octets ≡ header ++ (queries ++ (answers ++ (authorities ++ additionals)))

-- what is joined with nothing after it
none_behind : (a b c x y : List ℕ) → a ++ x ≡ y → b ++ c ≡ x → [] ≡ c → a ++ b ≡ y
none_behind a b c x y p q r = ap (λ l. a ++ l) (sym (append-nil b) ∙ ap (λ l. b ++ l) r ∙ q) ∙ p

-- a signature that isn't there has no octets
no_signature : (signature : Option (Record TSIG)) (x : List ℕ) → signature ≡ None → of_signature signature ≡ Ok x
    → [] ≡ x
no_signature signature x none is = ok_octets [] x (ap of_signature (sym none) ∙ is)

written_parts : (message : Message) (octets : List ℕ) → message.signature ≡ None
    → written_message false Uncompressed message ≡ Ok octets → WrittenParts message octets
written_parts message octets unsigned is =
    let fifth = joined (each_octets of_record message.additionals.items) (of_signature message.signature) in
    let fourth = joined (each_octets of_record message.authorities.items) fifth in
    let third = joined (each_octets of_record message.answers.items) fourth in
    let second = joined (each_octets of_query message.queries.items) third in
    let w : Joins (header_octets (whole (message_parts message))) second octets =
    joins (header_octets (whole (message_parts message))) second octets is in
    let w1 : Joins (each_octets of_query message.queries.items) third w.second =
    joins (each_octets of_query message.queries.items) third w.second w.second_is in
    let w2 : Joins (each_octets of_record message.answers.items) fourth w1.second =
    joins (each_octets of_record message.answers.items) fourth w1.second w1.second_is in
    let w3 : Joins (each_octets of_record message.authorities.items) fifth w2.second =
    joins (each_octets of_record message.authorities.items) fifth w2.second w2.second_is in
    let w4 : Joins (each_octets of_record message.additionals.items) (of_signature message.signature) w3.second =
    joins (each_octets of_record message.additionals.items) (of_signature message.signature) w3.second w3.second_is in
    let none = no_signature message.signature w4.second unsigned w4.second_is in
    record {
      header = w.first;
      queries = w1.first;
      answers = w2.first;
      authorities = w3.first;
      additionals = w4.first;
      header_is = w.first_is;
      queries_is = w1.first_is;
      answers_is = w2.first_is;
      authorities_is = w3.first_is;
      additionals_is = w4.first_is;
      all = joined_four octets w.first w.second w1.first w1.second w2.first w2.second w3.first w4.first w.whole w1.whole
          w2.whole (none_behind w3.first w4.first w4.second w3.second w2.second w3.whole w4.whole none);
    }

-- the body of what is written
written_body : (octets header rest : List ℕ) → length header ≡ 12 → octets ≡ header ++ rest → body_part octets ≡ rest
written_body octets header rest long all =
    take_rest octets 12 ∙ ap (λ (l : List ℕ). drop 12 l) all ∙ drop_at header rest 12 long

body_regrouped : (a b c d back : List ℕ)
    → (a ++ (b ++ (c ++ d))) ++ back ≡ a ++ (b ++ (c ++ (d ++ back)))
body_regrouped a b c d back = simp append_assoc

written_length : (h a b c d : List ℕ) → length (h ++ (a ++ (b ++ (c ++ d))))
    ≡ length h + (length a + (length b + (length c + length d)))
written_length h a b c d = simp length-append

-- The record that was put after a message that was written stands where that ends.
pub written_last : (message : Message) (octets back : List ℕ) (after : grammar.Message) (e : ℕ) (rr : ResourceRecord)
    → IsUnsigned message → written_message false Uncompressed message ≡ Ok octets
    → MessageAt rdata_table (join octets back) after e
    → after.header.additionals ≡ additional_count octets + 1 → last_additional after ≡ Some rr
    → RecordAt rdata_table (join octets back) (length octets) rr e
written_last message octets back after e rr held is at more last =
    let m : List ℕ = join octets back in
    let le : 12 ≤ length octets = written_long false Uncompressed message octets is in
    let head = same_head octets back le in
    let h = at.header in
    let parts : grammar.Message = whole (message_parts message) in
    let w = written_parts message octets held.unsigned is in
    let behind_header : List ℕ = w.queries ++ (w.answers ++ (w.authorities ++ w.additionals)) in
    let long = header_length parts w.header w.header_is in
    -- the counts
    let c : Counts parts octets = subst (λ l. Counts parts l) (sym w.all)
    (counts parts w.header behind_header w.header_is) in
    let qs : length parts.queries ≡ after.header.questions = number_same w16 octets m 4 _ _ 6 6 c.questions h.questions
    (narrowed octets m 2 10 4 (4 + byte_len w16) (omega arith) (omega arith) head) in
    let rs : length parts.answers ≡ after.header.answers = number_same w16 octets m 6 _ _ 8 8 c.answers h.answers
    (narrowed octets m 2 10 6 (6 + byte_len w16) (omega arith) (omega arith) head) in
    let ns : length parts.authorities ≡ after.header.authorities = number_same w16 octets m 8 _ _ 10 10 c.authorities
    h.authorities (narrowed octets m 2 10 8 (8 + byte_len w16) (omega arith) (omega arith) head) in
    let unsigned : length parts.additionals ≡ length (map record_view message.additionals.items) =
    ap (λ (s : Option (Record TSIG)). length (and_last (map record_view message.additionals.items)
    (option_map tsig_record_view s))) held.unsigned in
    let count : length parts.additionals ≡ additional_count octets =
    c.additionals.2 ∙ ap (from_be_bytes w16) c.additionals.1.value in
    -- where the parts stand
    let g : GoesOn m 12 (w.queries ++ (w.answers ++ (w.authorities ++ (w.additionals ++ back)))) =
    subst (λ l. GoesOn m 12 l) (ap (λ l. l ++ back) (written_body octets w.header behind_header long w.all)
    ∙ body_regrouped w.queries w.answers w.authorities w.additionals back) (goes_on_body octets back le) in
    let p1 : ℕ = 12 + length w.queries in
    let g1 = behind m 12 w.queries (w.answers ++ (w.authorities ++ (w.additionals ++ back))) g in
    let p2 : ℕ = p1 + length w.answers in
    let g2 = behind m p1 w.answers (w.authorities ++ (w.additionals ++ back)) g1 in
    let p3 : ℕ = p2 + length w.authorities in
    let g3 = behind m p2 w.authorities (w.additionals ++ back) g2 in
    -- where they end
    let e1 : at.answers_start ≡ p1 = each_end (QueryAt m) of_query (λ query. IsName query.name) m
    (λ x y p rest other q. query_end x y m p rest other q) message.queries.items w.queries 12 _ after.queries
    at.answers_start held.queries w.queries_is g
    (omega (arith, at.counts.questions, qs, length-map message.queries.items query_view)) at.queries in
    let e2 : at.authorities_start ≡ p2 = records_end m message.answers.items w.answers p1 _ after.answers
    at.authorities_start held.answers w.answers_is g1
    (omega (arith, at.counts.answers, rs, length-map message.answers.items record_view))
    (subst (λ k. EachAt (RecordAt rdata_table m) k after.answers at.authorities_start) e1 at.answers) in
    let e3 : at.additionals_start ≡ p3 = records_end m message.authorities.items w.authorities p2 _ after.authorities
    at.additionals_start held.authorities w.authorities_is g2
    (omega (arith, at.counts.authorities, ns, length-map message.authorities.items record_view))
    (subst (λ k. EachAt (RecordAt rdata_table m) k after.authorities at.additionals_start) e2 at.authorities) in
    let ends = each_last (RecordAt rdata_table m) at.additionals_start after.additionals rr e last at.additionals in
    let e4 : ends.0 ≡ p3 + length w.additionals = records_end m message.additionals.items w.additionals p3 _
    (before_last after.additionals) ends.0 held.additionals w.additionals_is g3
    (omega (
      arith,
      at.counts.additionals,
      more,
      count,
      unsigned,
      length-map message.additionals.items record_view,
      length-before_last after.additionals,
    ))
    (subst (λ k. EachAt (RecordAt rdata_table m) k (before_last after.additionals) ends.0) e3 ends.1) in
    let end : ends.0 ≡ length octets =
    omega (
      arith,
      e4,
      long,
      ap (λ (l : List ℕ). length l) w.all,
      written_length w.header w.queries w.answers w.authorities w.additionals,
    ) in
    subst (λ k. RecordAt rdata_table m k rr e) end ends.2
