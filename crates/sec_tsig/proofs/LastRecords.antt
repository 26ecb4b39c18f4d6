-- Where the record stands that was put after a message.
use Rattle.std.proofs.Common.{◌≡◌, ℕ, ◌+◌, min, List, length, Some, sym, subst, ◌∙◌, arith}
use Rattle.std.specs.Int.{w16, byte_len}
use Rattle.dns_grammar.specs.Fields.{Table}
use Rattle.dns_grammar.specs.Messages.{ResourceRecord, Message, MessageAt, RecordAt, EachAt, before_last, last_additional}
use Rattle.dns_grammar.specs.Extents.{SameOctets}
use Rattle.dns_grammar.proofs.EachLaws.{each_last, length-before_last}
use Rattle.dns_grammar.proofs.ExtentLaws.{narrowed, number_same, queries_forward, queries_same, records_forward}
use Rattle.dns_grammar.proofs.ExtentLaws.{records_same}

-- A message m that agrees with the message in octets but for its ID and its additional count, which is one more, has its
-- last record where the octets end.
pub last_behind : (table : Table) (octets m : List ℕ) (message other : Message) (e : ℕ) (rr : ResourceRecord)
    → MessageAt table octets message (length octets) → MessageAt table m other e
    → SameOctets octets m 2 10 → SameOctets octets m 12 (length octets)
    → other.header.additionals ≡ message.header.additionals + 1
    → last_additional other ≡ Some rr
    → RecordAt table m (length octets) rr e
last_behind table octets m message other e rr at at1 head same more last =
    let end = length octets in
    let h = at.header in
    let h1 = at1.header in
    let qs : message.header.questions ≡ other.header.questions = number_same w16 octets m 4 _ _ 6 6 h.questions
    h1.questions (narrowed octets m 2 10 4 (4 + byte_len w16) (omega arith) (omega arith) head) in
    let rs : message.header.answers ≡ other.header.answers = number_same w16 octets m 6 _ _ 8 8 h.answers h1.answers
    (narrowed octets m 2 10 6 (6 + byte_len w16) (omega arith) (omega arith) head) in
    let ns : message.header.authorities ≡ other.header.authorities = number_same w16 octets m 8 _ _ 10 10 h.authorities
    h1.authorities (narrowed octets m 2 10 8 (8 + byte_len w16) (omega arith) (omega arith) head) in
    let f1 = queries_forward octets 12 message.queries at.answers_start at.queries in
    let f2 = records_forward table octets at.answers_start message.answers at.authorities_start at.answers in
    let f3 = records_forward table octets at.authorities_start message.authorities at.additionals_start at.authorities in
    let f4 = records_forward table octets at.additionals_start message.additionals end at.additionals in
    let parts = each_last (RecordAt table m) at1.additionals_start other.additionals rr e last at1.additionals in
    let e1 : at.answers_start ≡ at1.answers_start = queries_same octets m 12 message.queries other.queries
    at.answers_start at1.answers_start (at.counts.questions ∙ qs ∙ sym at1.counts.questions) at.queries at1.queries
    (narrowed octets m 12 end 12 (min at.answers_start at1.answers_start) (omega arith) (omega arith) same) in
    let e2 : at.authorities_start ≡ at1.authorities_start = records_same table octets m at.answers_start message.answers
    other.answers at.authorities_start at1.authorities_start (at.counts.answers ∙ rs ∙ sym at1.counts.answers) at.answers
    (subst (λ k. EachAt (RecordAt table m) k other.answers at1.authorities_start) (sym e1) at1.answers)
    (narrowed octets m 12 end at.answers_start (min at.authorities_start at1.authorities_start) f1 (omega arith) same) in
    let e3 : at.additionals_start ≡ at1.additionals_start = records_same table octets m at.authorities_start
    message.authorities other.authorities at.additionals_start at1.additionals_start
    (at.counts.authorities ∙ ns ∙ sym at1.counts.authorities) at.authorities
    (subst (λ k. EachAt (RecordAt table m) k other.authorities at1.additionals_start) (sym e2) at1.authorities)
    (narrowed octets m 12 end at.authorities_start (min at.additionals_start at1.additionals_start) (omega arith)
    (omega arith) same) in
    let count : length message.additionals ≡ length (before_last other.additionals) =
    omega (arith, at.counts.additionals, at1.counts.additionals, more, length-before_last other.additionals) in
    let e4 : end ≡ parts.0 = records_same table octets m at.additionals_start message.additionals
    (before_last other.additionals) end parts.0 count at.additionals
    (subst (λ k. EachAt (RecordAt table m) k (before_last other.additionals) parts.0) (sym e3) parts.1)
    (narrowed octets m 12 end at.additionals_start (min end parts.0) (omega arith) (omega arith) same) in
    subst (λ k. RecordAt table m k rr e) (sym e4) parts.2
