-- What is written of a message is read as the same message.
use Rattle.std.proofs.Common.{◌≡◌, inr, ℕ, ◌+◌, ◌^◌, ◌≤◌, ◌<◌, Bool, true, false, cond, eqb, ltb, List, [], ◌∷◌, ◌++◌}
use Rattle.std.proofs.Common.{length, map, Result, Ok, Err}
use Rattle.std.proofs.Common.{refl, sym, ap, subst, ◌∙◌, arith, length-append, append_assoc}
use Rattle.std.proofs.lemmas.Bool.{ltb-false, le-ltb}
use Rattle.std.proofs.lemmas.List.{append-nil}
use Rattle.std.specs.List.{AllByRecursion}
use Rattle.dns_wire.specs.declared.error.DecodeError.{DecodeError}
use Rattle.dns_wire.specs.declared.error.EmitError.{EmitError}
use Rattle.dns_wire.specs.declared.error.EmitError.TheVariants.{CountTooLarge}
use Rattle.dns_wire.specs.declared.encoder.NameEncoding.TheVariants.{Uncompressed}
use Rattle.dns_wire.specs.Octets.{two_octets}
use Rattle.dns_wire.specs.Reading.{◌>>=◌, each_at}
use Rattle.dns_names.specs.Names.{wire}
use Rattle.dns_wire.specs.Joining.{joined, each_octets}
use Rattle.dns_grammar.specs.Fields.{Two, Table}
use Rattle.dns_grammar.specs.Messages.{Header, Query, ResourceRecord, Message, records, before_last, NotTsig, IsCounted}
use Rattle.dns_grammar.specs.Messages.{header_at, query_at, record_at, queries_at, records_at, additionals_at, body_at}
use Rattle.dns_grammar.specs.Messages.{message_at}
use Rattle.dns_grammar.specs.MessageWriting.{count_octets, header_octets, query_octets, record_octets}
use Rattle.dns_grammar.specs.Laws.{IsQuery, IsRecord, IsMessage, unplaced_record, unplaced, read_unplaced}
use Rattle.dns_grammar.specs.Laws.{WrittenMessageIsRead}
use Rattle.dns_wire.proofs.PutLaws.{joined_nil, joined_more}
use Rattle.dns_grammar.proofs.ReadBack.{ok_octets, joins}
use Rattle.dns_grammar.proofs.RecordBack.{GoesOn, behind, number_here, name_here, record_goes}
use Rattle.dns_grammar.proofs.MessageLaws.{its_place, before_less}

-- the octets y and then the others
split_here : (m : List ℕ) (p : ℕ) (x y z back : List ℕ) → x ++ y ≡ z → GoesOn m p (z ++ back)
    → GoesOn m p (x ++ (y ++ back))
split_here m p x y z back whole h =
    record {
      front = h.front;
      is = h.is ∙ ap (λ (t : List ℕ). h.front ++ t) (ap (λ (t : List ℕ). t ++ back) (sym whole)
          ∙ append_assoc x y back);
      long = h.long;
    }

-- ---- questions

query_goes : (query : Query) (m : List ℕ) (p : ℕ) (y back : List ℕ) → IsQuery query
    → query_octets Uncompressed query ≡ Ok y → GoesOn m p (y ++ back)
    → query_at m p ≡ Ok (query, p + length y)
unfolding query_at
query_goes query m p y back can is h =
    let name : List ℕ = wire query.name in
    let whole : name ++ (two_octets query.query_type ++ two_octets query.query_class) ≡ y = ok_octets _ y is in
    let a = split_here m p name (two_octets query.query_type ++ two_octets query.query_class) y back whole h in
    let b = split_here m (p + length name) (two_octets query.query_type) (two_octets query.query_class) _ back refl
    (behind m p name _ a) in
    let c = behind m (p + length name) (two_octets query.query_type) _ b in
    let long : length y ≡ length name + 2 + 2 =
    ap length (sym whole) ∙ omega (
      arith,
      length-append name
          (two_octets query.query_type ++ two_octets query.query_class),
    ) in
    let end : p + length name + 2 + 2 ≡ p + length y = omega (arith, long) in
    rw (
      name_here query.name m p _ can.name a,
      number_here Two query.query_type m (p + length name) _ can.query_type b,
      number_here Two query.query_class m (p + length name + 2) _ can.query_class c,
    ) (ap (λ (k : ℕ). let ok : Result (Query × ℕ) DecodeError = Ok (query, k) in ok) end)

queries_go : (queries : List Query) (m : List ℕ) (p : ℕ) (y back : List ℕ) → AllByRecursion IsQuery queries
    → each_octets (query_octets Uncompressed) queries ≡ Ok y
    → GoesOn m p (y ++ back) → queries_at (length queries) m p ≡ Ok (queries, p + length y)
unfolding each_at
queries_go [] m p y back all is h =
    let none : length y ≡ 0 = ap length (sym (ok_octets [] y is)) in
    ap (λ (k : ℕ). let ok : Result (List Query × ℕ) DecodeError = Ok ([], k) in ok) (omega (arith, none))
queries_go (x ∷ xs) m p y back all is h =
    let j = joins (query_octets Uncompressed x) (each_octets (query_octets Uncompressed) xs) y is in
    let a = split_here m p j.first j.second y back j.whole h in
    let long : length y ≡ length j.first + length j.second = ap length (sym j.whole) ∙ length-append j.first j.second in
    let end : p + length j.first + length j.second ≡ p + length y = omega (arith, long) in
    rw (
      query_goes x m p j.first (j.second ++ back) all.0 j.first_is a,
      queries_go xs m (p + length j.first) j.second back all.1 j.second_is (behind m p j.first _ a),
    ) (ap (λ (k : ℕ). let ok : Result (List Query × ℕ) DecodeError = Ok (x ∷ xs, k) in ok) end)

-- ---- records

-- these records are read, the places where they start aside, up to q
record ReadsThem (read : Result (List ResourceRecord × ℕ) DecodeError) (rrs : List ResourceRecord)
    (q : ℕ) : Type 0 where
  pub found : List ResourceRecord
  pub is : read ≡ Ok (found, q)
  pub same : map unplaced_record found ≡ map unplaced_record rrs

abbrev octets_of : Table → List ResourceRecord → Result (List ℕ) EmitError
octets_of table = each_octets (record_octets false Uncompressed table)

reads_none : (p : ℕ) (y : List ℕ) → octets_of [] [] ≡ Ok y → ReadsThem (Ok ([], p)) [] (p + length y)
reads_none p y is =
    let none : length y ≡ 0 = ap length (sym (ok_octets [] y is)) in
    record {
      found = [];
      is = ap (λ (k : ℕ). let ok : Result (List ResourceRecord × ℕ) DecodeError = Ok ([], k) in ok)
          (omega (arith, none));
      same = refl;
    }

-- one record, and those behind it
abbrev one_and_rest : Result (ResourceRecord × ℕ) DecodeError → (ℕ → Result (List ResourceRecord × ℕ) DecodeError)
    → Result (List ResourceRecord × ℕ) DecodeError
one_and_rest first rest = do
  rr ← first
  rrs ← rest rr.1
  Ok (rr.0 ∷ rrs.0, rrs.1)

reads_more : (first : Result (ResourceRecord × ℕ) DecodeError) (rest : ℕ
    → Result (List ResourceRecord × ℕ) DecodeError) (rr : ResourceRecord) (rrs : List ResourceRecord) (p q e e1 : ℕ)
    → first ≡ Ok (record rr { start = p }, q) → ReadsThem (rest q) rrs e → e ≡ e1
    → ReadsThem (one_and_rest first rest) (rr ∷ rrs) e1
reads_more first rest rr rrs p q e e1 one behind same = record {
  found = record rr { start = p } ∷ behind.found;
  is = rw (one, behind.is) (ap (λ (k : ℕ). let ok : Result (List ResourceRecord × ℕ) DecodeError = Ok
      (record rr { start = p } ∷ behind.found, k) in ok) same);
  same = ap (λ l. unplaced_record rr ∷ l) behind.same;
}

records_go : (table : Table) (rrs : List ResourceRecord) (m : List ℕ) (p : ℕ) (y back : List ℕ)
    → AllByRecursion (IsRecord table) rrs → AllByRecursion NotTsig rrs
    → octets_of table rrs ≡ Ok y → GoesOn m p (y ++ back)
    → ReadsThem (records_at table (length rrs) m p) rrs (p + length y)
unfolding each_at
records_go table [] m p y back all others is h = reads_none p y is
records_go table (x ∷ xs) m p y back all others is h =
    let j = joins (record_octets false Uncompressed table x) (octets_of table xs) y is in
    let a = split_here m p j.first j.second y back j.whole h in
    let long : length y ≡ length j.first + length j.second = ap length (sym j.whole) ∙ length-append j.first j.second in
    let one = record_goes table false x j.first m p (j.second ++ back) all.0 (inr others.0) j.first_is a in
    let rest = records_go table xs m (p + length j.first) j.second back all.1 others.1 j.second_is
    (behind m p j.first _ a) in
    reads_more (record_at table false m p) (λ q. records_at table (length xs) m q) x xs p (p + length j.first)
    (p + length j.first + length j.second) (p + length y)
    one rest (omega (arith, long))

additionals_go : (table : Table) (rrs : List ResourceRecord) (m : List ℕ) (p : ℕ) (y back : List ℕ)
    → AllByRecursion (IsRecord table) rrs
    → AllByRecursion NotTsig (before_last rrs) → octets_of table rrs ≡ Ok y → GoesOn m p (y ++ back)
    → ReadsThem (additionals_at table (length rrs) m p) rrs (p + length y)
unfolding additionals_at
additionals_go table [] m p y back all others is h = reads_none p y is
additionals_go table (x ∷ xs) m p y back all others is h =
    let j = joins (record_octets false Uncompressed table x) (octets_of table xs) y is in
    let a = split_here m p j.first j.second y back j.whole h in
    let long : length y ≡ length j.first + length j.second = ap length (sym j.whole) ∙ length-append j.first j.second in
    let is_last : Bool = eqb (length xs) 0 in
    let one = record_goes table is_last x j.first m p (j.second ++ back) all.0 (its_place x xs others) j.first_is a in
    let rest = additionals_go table xs m (p + length j.first) j.second back all.1
    (before_less NotTsig x xs others) j.second_is (behind m p j.first _ a) in
    reads_more (record_at table is_last m p) (λ q. additionals_at table (length xs) m q) x xs p (p + length j.first)
    (p + length j.first + length j.second) (p + length y)
    one rest (omega (arith, long))

-- ---- the header

record Counts {A : Type 0} (xs : List A) (y : List ℕ) : Type 0 where
  pub below : length xs ≤ 65535
  pub is : two_octets (length xs) ≡ y

counts : {A : Type 0} (xs : List A) (y : List ℕ) → count_octets xs ≡ Ok y → Counts xs y
counts xs y is = go (ltb 65535 (length xs)) refl is
  where
    go : (b : Bool) → ltb 65535 (length xs) ≡ b → cond b (Err CountTooLarge) (Ok (two_octets (length xs))) ≡ Ok y
        → Counts xs y
    go true test h = absurd cc
    go false test h = record { below = ltb-false _ _ test; is = ok_octets _ y h }

-- the pieces of a header
abbrev header_pieces : Message → List ℕ
header_pieces message =
    two_octets message.header.id
    ++ (two_octets message.header.flags
    ++ (two_octets (length message.queries)
    ++ (two_octets (length message.answers)
    ++ (two_octets (length message.authorities) ++ two_octets (length message.additionals)))))

record IsHeader (message : Message) (y : List ℕ) : Type 0 where
  pub queries : length message.queries ≤ 65535
  pub answers : length message.answers ≤ 65535
  pub authorities : length message.authorities ≤ 65535
  pub additionals : length message.additionals ≤ 65535
  pub is : header_pieces message ≡ y

is_header : (message : Message) (y : List ℕ) → header_octets message ≡ Ok y → IsHeader message y
is_header message y h =
    let id : List ℕ = two_octets message.header.id in
    let flags : List ℕ = two_octets message.header.flags in
    let a = joins (Ok (id ++ flags)) _ y h in
    let b = joins (count_octets message.queries) _ a.second a.second_is in
    let c = joins (count_octets message.answers) _ b.second b.second_is in
    let d = joins (count_octets message.authorities) (count_octets message.additionals) c.second c.second_is in
    let qs = counts message.queries b.first b.first_is in
    let rs = counts message.answers c.first c.first_is in
    let ns = counts message.authorities d.first d.first_is in
    let ds = counts message.additionals d.second d.second_is in
    let q : List ℕ = two_octets (length message.queries) in
    let r : List ℕ = two_octets (length message.answers) in
    let n : List ℕ = two_octets (length message.authorities) in
    let e : List ℕ = two_octets (length message.additionals) in
    let ne : n ++ e ≡ c.second = (λ i. ns.is i ++ ds.is i) ∙ d.whole in
    let rne : r ++ (n ++ e) ≡ b.second = (λ i. rs.is i ++ ne i) ∙ c.whole in
    let qrne : q ++ (r ++ (n ++ e)) ≡ a.second = (λ i. qs.is i ++ rne i) ∙ b.whole in
    let first : id ++ flags ≡ a.first = ok_octets _ _ a.first_is in
    record {
      queries = qs.below;
      answers = rs.below;
      authorities = ns.below;
      additionals = ds.below;
      is = sym (append_assoc id flags (q ++ (r ++ (n ++ e)))) ∙ (λ i. first i ++ qrne i) ∙ a.whole;
    }

-- the header that counts the lists of a message
abbrev counted : Message → Header
counted message = record {
  id = message.header.id;
  flags = message.header.flags;
  questions = length message.queries;
  answers = length message.answers;
  authorities = length message.authorities;
  additionals = length message.additionals;
}

header_goes : (message : Message) (m y back : List ℕ) → message.header.id < 2 ^ 16 → message.header.flags < 2 ^ 16
    → IsHeader message y → GoesOn m 0 (y ++ back)
    → header_at m ≡ Ok (counted message, 12)
unfolding header_at
header_goes message m y back id flags is h =
    let a : GoesOn m 0 (header_pieces message ++ back) =
    record { front = h.front; is = h.is ∙ ap (λ (t : List ℕ). h.front ++ (t ++ back)) (sym is.is); long = h.long } in
    let id_octets : List ℕ = two_octets message.header.id in
    let flags_octets : List ℕ = two_octets message.header.flags in
    let q : List ℕ = two_octets (length message.queries) in
    let r : List ℕ = two_octets (length message.answers) in
    let n : List ℕ = two_octets (length message.authorities) in
    let e : List ℕ = two_octets (length message.additionals) in
    let b = split_here m 0 id_octets (flags_octets ++ (q ++ (r ++ (n ++ e)))) (header_pieces message) back refl a in
    let c = split_here m 2 flags_octets (q ++ (r ++ (n ++ e))) (flags_octets ++ (q ++ (r ++ (n ++ e)))) back refl
    (behind m 0 id_octets _ b) in
    let d = split_here m 4 q (r ++ (n ++ e)) (q ++ (r ++ (n ++ e))) back refl (behind m 2 flags_octets _ c) in
    let f = split_here m 6 r (n ++ e) (r ++ (n ++ e)) back refl (behind m 4 q _ d) in
    let g = split_here m 8 n e (n ++ e) back refl (behind m 6 r _ f) in
    let k = behind m 8 n _ g in
    rw (
      number_here Two message.header.id m 0 _ id b,
      number_here Two message.header.flags m 2 _ flags c,
      number_here Two (length message.queries) m 4 _ (omega (arith, is.queries)) d,
      number_here Two (length message.answers) m 6 _ (omega (arith, is.answers)) f,
      number_here Two (length message.authorities) m 8 _ (omega (arith, is.authorities)) g,
      number_here Two (length message.additionals) m 10 _ (omega (arith, is.additionals)) k,
    ) refl

-- ---- the whole

-- what holds of each of two lists
both_all : {A : Type 0} (P : A → Type 0) (xs ys : List A) → AllByRecursion P (xs ++ ys)
    → AllByRecursion P xs × AllByRecursion P ys
both_all P [] ys h = (tt, h)
both_all P (x ∷ xs) ys h = let rest = both_all P xs ys h.1 in ((h.0, rest.0), rest.1)

octets-append : (table : Table) (xs ys : List ResourceRecord)
    → octets_of table (xs ++ ys) ≡ joined (octets_of table xs) (octets_of table ys)
octets-append table [] ys = sym (joined_nil (octets_of table ys))
octets-append table (x ∷ xs) ys =
    ap (joined (record_octets false Uncompressed table x)) (octets-append table xs ys)
    ∙ joined_more (record_octets false Uncompressed table x) (octets_of table xs) (octets_of table ys)

-- the header counts the lists
counted_is : (message : Message) → IsCounted message → counted message ≡ message.header
counted_is message counts = λ i.
    record {
      id = message.header.id;
      flags = message.header.flags;
      questions = counts.questions i;
      answers = counts.answers i;
      authorities = counts.authorities i;
      additionals = counts.additionals i;
    }

abbrev message_and : Message → ℕ → Result (Message × ℕ) DecodeError
message_and message q = Ok (message, q)

-- the parts that are read of a message's octets
record Pieces (table : Table) (message : Message) (m : List ℕ) (e : ℕ) : Type 0 where
  pub questions : List ℕ
  pub answers : List ℕ
  pub authorities : List ℕ
  pub additionals : List ℕ
  pub questions_are : each_octets (query_octets Uncompressed) message.queries ≡ Ok questions
  pub answers_are : octets_of table message.answers ≡ Ok answers
  pub authorities_are : octets_of table message.authorities ≡ Ok authorities
  pub additionals_are : octets_of table message.additionals ≡ Ok additionals
  pub goes : GoesOn m 12 (questions ++ (answers ++ (authorities ++ additionals)))
  pub end : 12 + length questions + length answers + length authorities + length additionals ≡ e

body_goes : (table : Table) (message : Message) (m : List ℕ) (e : ℕ) → IsMessage table message
    → Pieces table message m e
    → read_unplaced (body_at table m (counted message) 12) ≡ Ok (unplaced message, e)
unfolding body_at
body_goes table message m e can is =
    let answers_all = both_all (IsRecord table) message.answers _ can.each_record in
    let others_all = both_all (IsRecord table) message.authorities message.additionals answers_all.1 in
    let q : ℕ = 12 + length is.questions in
    let a : ℕ = q + length is.answers in
    let n : ℕ = a + length is.authorities in
    let from_answers = behind m 12 is.questions _ is.goes in
    let from_authorities = behind m q is.answers _ from_answers in
    let from_additionals = behind m a is.authorities _ from_authorities in
    let queries = queries_go message.queries m 12 is.questions _ can.each_query is.questions_are is.goes in
    let answers = records_go table message.answers m q is.answers _ answers_all.0 can.tsig_is_last.answers
    is.answers_are from_answers in
    let authorities = records_go table message.authorities m a is.authorities _ others_all.0
    can.tsig_is_last.authorities is.authorities_are from_authorities in
    let last : GoesOn m n (is.additionals ++ []) = subst (λ t. GoesOn m n t)
    (sym (append-nil is.additionals)) from_additionals in
    let additionals = additionals_go table message.additionals m n is.additionals [] others_all.1
    can.tsig_is_last.additionals is.additionals_are last in
    rw (queries, answers.is, authorities.is, additionals.is) (λ i.
    message_and (
    record {
      header = counted_is message can.counts i;
      queries = message.queries;
      answers = answers.same i;
      authorities = authorities.same i;
      additionals = additionals.same i;
    }
    ) (is.end i))

pub written_message : (table : Table) → WrittenMessageIsRead table
unfolding message_at
written_message table message x can is at_most =
    let h = joins (header_octets message) _ x is in
    let q = joins (each_octets (query_octets Uncompressed) message.queries)
    (octets_of table (records message)) h.second h.second_is in
    let records_are = sym (octets-append table message.answers (message.authorities ++ message.additionals))
    ∙ q.second_is in
    let a = joins (octets_of table message.answers)
    (octets_of table (message.authorities ++ message.additionals)) q.second records_are in
    let others_are = sym (octets-append table message.authorities message.additionals) ∙ a.second_is in
    let n = joins (octets_of table message.authorities) (octets_of table message.additionals) a.second others_are in
    let header = is_header message h.first h.first_is in
    let goes : GoesOn x 0 (h.first ++ h.second) = record { front = []; is = sym h.whole; long = refl } in
    let twelve : 0 + length h.first ≡ 12 = ap (λ (t : List ℕ). 0 + length t) (sym header.is) in
    let behind_header : h.second ≡ q.first ++ (a.first ++ (n.first ++ n.second)) =
    sym (ap (λ (t : List ℕ). q.first ++ t) (ap (λ (t : List ℕ). a.first ++ t) n.whole ∙ a.whole) ∙ q.whole) in
    let pieces : Pieces table message x (length x) =
    record {
      questions = q.first;
      answers = a.first;
      authorities = n.first;
      additionals = n.second;
      questions_are = q.first_is;
      answers_are = a.first_is;
      authorities_are = n.first_is;
      additionals_are = n.second_is;
      goes = subst (λ t. GoesOn x 12 t) behind_header
          (subst (λ k. GoesOn x k h.second) twelve (behind x 0 h.first h.second goes));
      end = omega (
        arith,
        twelve,
        ap length h.whole,
        length-append h.first h.second,
        ap length behind_header,
        length-append q.first (a.first ++ (n.first ++ n.second)),
        length-append a.first (n.first ++ n.second),
        length-append n.first n.second,
      );
    } in
    let short : ltb 65535 (length x) ≡ false = le-ltb _ _ at_most in
    rw (short, header_goes message x h.first h.second can.id can.flags header goes)
    (body_goes table message x (length x) can pieces)
