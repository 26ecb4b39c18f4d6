-- Where the transaction signature of a message starts.
use Rattle.std.proofs.Common.{◌≡◌, inl, inr, ℕ, ◌+◌, ◌-◌, ◌≤◌, ◌<◌, min, Bool, true, false, cond, eqb, List, [], ◌∷◌}
use Rattle.std.proofs.Common.{◌++◌, length, drop, get_or, slice_range, Option, Some, None, option_map, option_and_then}
use Rattle.std.proofs.Common.{refl, sym, ap, subst, ◌∙◌, arith, length-append}
use Rattle.std.specs.Int.{w16, byte_len}
use Rattle.std.proofs.lemmas.List.{length-take, length-drop, get_or_append_left, get_or-take, get_or-drop}
use Rattle.dns_names.proofs.PlaceLaws.{labels_forward, labels_next}
use Rattle.dns_grammar.specs.Fields.{Table}
use Rattle.dns_grammar.specs.RecordData.{tsig_type}
use Rattle.dns_grammar.specs.Messages.{ResourceRecord, Message, last_of, before_last, EachAt, QueryAt, RecordAt}
use Rattle.dns_grammar.specs.Messages.{MessageAt, TsigData, tsig_from_values, Signature, signature_with, signature_from}
use Rattle.dns_grammar.specs.Messages.{HasTsig}
use Rattle.dns_grammar.specs.Extents.{SameOctets, IsPrefix, SignatureStartsInside, OneStart}
use Rattle.dns_grammar.proofs.EachLaws.{each_last, length-before_last}
use Rattle.dns_grammar.proofs.ExtentLaws.{narrowed, number_same, queries_forward, queries_same, records_forward}
use Rattle.dns_grammar.proofs.ExtentLaws.{records_same}

-- ---- the record of the signature

-- the last of these records starts where the signature does
record IsLast (rrs : List ResourceRecord) (s : Signature) : Type 0 where
  pub rr : ResourceRecord
  pub is : last_of rrs ≡ Some rr
  pub start : s.start ≡ rr.start

some_same : (a b : Signature) → ◌≡◌ {A = Option Signature} (Some a) (Some b) → a ≡ b
some_same a b e = cc

from_start : (rr : ResourceRecord) (tsig : Option TsigData) (s : Signature)
    → option_map (signature_with rr) tsig ≡ Some s → s.start ≡ rr.start
from_start rr None s e = absurd cc
from_start rr (Some tsig) s e = sym (ap (λ (x : Signature). x.start) (some_same _ s e))

chosen_some : (b : Bool) (x : Option Signature) (s : Signature) → cond b x None ≡ Some s → x ≡ Some s
chosen_some true x s e = e
chosen_some false x s e = absurd cc

last_is : (rrs : List ResourceRecord) (s : Signature) → option_and_then signature_from (last_of rrs) ≡ Some s
    → IsLast rrs s
last_is rrs s e = go (last_of rrs) refl e
  where
    go : (last : Option ResourceRecord) → last_of rrs ≡ last → option_and_then signature_from last ≡ Some s
        → IsLast rrs s
    go None is e = absurd cc
    go (Some rr) is e = record {
      rr = rr;
      is = is;
      start = from_start rr (tsig_from_values rr.rdata) s
          (chosen_some (eqb rr.rtype tsig_type) _ s e);
    }

-- the parts of a message up to the signature
record IsScan (table : Table) (m : List ℕ) (message : Message) (start : ℕ) : Type 0 where
  pub answers_start : ℕ
  pub authorities_start : ℕ
  pub additionals_start : ℕ
  pub queries : EachAt (QueryAt m) 12 message.queries answers_start
  pub answers : EachAt (RecordAt table m) answers_start message.answers authorities_start
  pub authorities : EachAt (RecordAt table m) authorities_start message.authorities additionals_start
  pub others : EachAt (RecordAt table m) additionals_start (before_last message.additionals) start
  pub count : length (before_last message.additionals) ≡ message.header.additionals - 1
  pub counted : 0 < message.header.additionals
  pub inside : start < length m

scan_of : (table : Table) (m : List ℕ) (message : Message) (s : Signature) (e : ℕ) → HasTsig table m message s e
    → IsScan table m message s.start
scan_of table m message s e has =
    let last = last_is message.additionals s has.is_last in
    let at = has.stands in
    let count : length (before_last message.additionals)
    ≡ message.header.additionals - 1 = length-before_last message.additionals
    ∙ ap (λ (k : ℕ). k - 1) at.counts.additionals in
    let parts = each_last (RecordAt table m) at.additionals_start message.additionals last.rr e last.is at.additionals
    in
    let rr = parts.2 in
    let start : parts.0 ≡ s.start = sym rr.start ∙ sym last.start in
    record {
      answers_start = at.answers_start;
      authorities_start = at.authorities_start;
      additionals_start = at.additionals_start;
      queries = at.queries;
      answers = at.answers;
      authorities = at.authorities;
      others = subst (λ k. EachAt (RecordAt table m) at.additionals_start (before_last message.additionals) k) start
          parts.1;
      count = count;
      counted = omega (arith, at.counts.additionals, some_last message.additionals last.rr last.is);
      inside = omega (arith, start, labels_forward rr.name.labels, labels_next rr.name.labels);
    }
  where
    some_last : (xs : List ResourceRecord) (x : ResourceRecord) → last_of xs ≡ Some x → 0 < length xs
    some_last [] x is = absurd cc
    some_last (y ∷ ys) x is = omega arith

scan_ahead : (table : Table) (m : List ℕ) (message : Message) (start : ℕ) → IsScan table m message start → 12 ≤ start
scan_ahead table m message start a =
    omega (
      arith,
      queries_forward m 12 message.queries a.answers_start a.queries,
      records_forward table m a.answers_start message.answers a.authorities_start a.answers,
      records_forward table m a.authorities_start message.authorities a.additionals_start a.authorities,
      records_forward table m a.additionals_start (before_last message.additionals) start a.others,
    )

pub starts_inside : (table : Table) → SignatureStartsInside table
starts_inside table m message s e has = let a = scan_of table m message s e has in
    record { ahead = scan_ahead table m message s.start a; inside = a.inside; counted = a.counted }

-- ---- two messages

-- scans of strings that agree up to the nearer start have one start
scans_same : (table : Table) (m n : List ℕ) (message other : Message) (s t d e : ℕ) → MessageAt table m message d
    → MessageAt table n other e → IsScan table m message s → IsScan table n other t
    → SameOctets m n 2 10 → message.header.additionals - 1 ≡ other.header.additionals - 1 → SameOctets m n 12 (min s t)
    → s ≡ t
scans_same table m n message other s t d e at at1 a b head counts same =
    let h = at.header in
    let h1 = at1.header in
    let qs : message.header.questions ≡ other.header.questions = number_same w16 m n 4 _ _ 6 6 h.questions h1.questions
    (narrowed m n 2 10 4 (4 + byte_len w16) (omega arith) (omega arith) head) in
    let rs : message.header.answers ≡ other.header.answers = number_same w16 m n 6 _ _ 8 8 h.answers h1.answers
    (narrowed m n 2 10 6 (6 + byte_len w16) (omega arith) (omega arith) head) in
    let ns : message.header.authorities ≡ other.header.authorities = number_same w16 m n 8 _ _ 10 10 h.authorities
    h1.authorities (narrowed m n 2 10 8 (8 + byte_len w16) (omega arith) (omega arith) head) in
    let f1 = queries_forward m 12 message.queries a.answers_start a.queries in
    let f2 = records_forward table m a.answers_start message.answers a.authorities_start a.answers in
    let f3 = records_forward table m a.authorities_start message.authorities a.additionals_start a.authorities in
    let f4 = records_forward table m a.additionals_start (before_last message.additionals) s a.others in
    let g1 = queries_forward n 12 other.queries b.answers_start b.queries in
    let g2 = records_forward table n b.answers_start other.answers b.authorities_start b.answers in
    let g3 = records_forward table n b.authorities_start other.authorities b.additionals_start b.authorities in
    let g4 = records_forward table n b.additionals_start (before_last other.additionals) t b.others in
    let e1 : a.answers_start ≡ b.answers_start = queries_same m n 12 message.queries other.queries a.answers_start
    b.answers_start (at.counts.questions ∙ qs ∙ sym at1.counts.questions) a.queries b.queries
    (narrowed m n 12 (min s t) 12 (min a.answers_start b.answers_start) (omega arith) (omega arith) same) in
    let e2 : a.authorities_start ≡ b.authorities_start = records_same table m n a.answers_start message.answers
    other.answers a.authorities_start b.authorities_start (at.counts.answers ∙ rs
    ∙ sym at1.counts.answers) a.answers
    (subst (λ k. EachAt (RecordAt table n) k other.answers b.authorities_start) (sym e1) b.answers)
    (narrowed m n 12 (min s t) a.answers_start (min a.authorities_start b.authorities_start) f1 (omega arith) same) in
    let e3 : a.additionals_start ≡ b.additionals_start = records_same table m n a.authorities_start message.authorities
    other.authorities a.additionals_start b.additionals_start (at.counts.authorities ∙ ns
    ∙ sym at1.counts.authorities) a.authorities
    (subst (λ k. EachAt (RecordAt table n) k other.authorities b.additionals_start) (sym e2) b.authorities)
    (narrowed m n 12 (min s t) a.authorities_start (min a.additionals_start b.additionals_start) (omega arith)
    (omega arith) same) in
    records_same table m n a.additionals_start (before_last message.additionals) (before_last other.additionals) s t
    (a.count ∙ counts ∙ sym b.count) a.others
    (subst (λ k. EachAt (RecordAt table n) k (before_last other.additionals) t) (sym e3) b.others)
    (narrowed m n 12 (min s t) a.additionals_start (min s t) (omega arith) (omega arith) same)

-- ---- octets behind the messages

-- an octet of a part with more behind it
part_octet : (m v : List ℕ) (s k : ℕ) → s ≤ length m → 12 ≤ k → k < s
    → get_or (slice_range m 12 s ++ v) (k - 12) 0 ≡ get_or m k 0
part_octet m v s k le ak ks =
    let len : length (slice_range m 12 s) ≡ s - 12 = simp (length-take, length-drop) (omega arith) in
    let left : k - 12 < length (slice_range m 12 s) = omega arith in
    let lt : k - 12 < s - 12 = omega arith in
    let at : 12 + (k - 12) ≡ k = omega arith in
    get_or_append_left (slice_range m 12 s) v 0 (k - 12) left ∙ get_or-take (s - 12) (drop 12 m) (k - 12) 0 lt
    ∙ get_or-drop 12 m (k - 12) 0 ∙ ap (λ j. get_or m j 0) at

prefix_same : (m n v w : List ℕ) (s t : ℕ) → s ≤ length m → t ≤ length n
    → IsPrefix (slice_range m 12 s ++ v) (slice_range n 12 t ++ w) → SameOctets m n 12 (min s t)
prefix_same m n v w s t le le1 b k ak kb =
    let len : length (slice_range m 12 s) ≡ s - 12 = simp (length-take, length-drop) (omega arith) in
    let inner : k - 12 < length (slice_range m 12 s ++ v) = simp length-append (omega arith) in
    sym (part_octet m v s k le ak (omega arith)) ∙ sym
    (get_or_append_left (slice_range m 12 s ++ v) b.0 0 (k - 12) inner) ∙ ap (λ xs. get_or xs (k - 12) 0) b.1
    ∙ part_octet n w t k le1 ak (omega arith)

swapped : (m n : List ℕ) (a b c : ℕ) → b ≡ c → SameOctets n m a b → SameOctets m n a c
swapped m n a b c is h k ak kb = sym (h k ak (omega (arith, is)))

pub one_start : (table : Table) → OneStart table
one_start table m n message other s t d e v w has has1 head counts prefix =
    let a = scan_of table m message s d has in
    let b = scan_of table n other t e has1 in
    let le : s.start ≤ length m = omega (arith, a.inside) in
    let le1 : t.start ≤ length n = omega (arith, b.inside) in
    let same : SameOctets m n 12 (min s.start t.start) =
    elim prefix [
      | inl x ↦ prefix_same m n v w s.start t.start le le1 x
      | inr x ↦ swapped m n 12 (min t.start s.start) (min s.start t.start) (omega arith)
          (prefix_same n m w v t.start s.start le1 le x)
    ] in
    scans_same table m n message other s.start t.start d e has.stands has1.stands a b head counts same
