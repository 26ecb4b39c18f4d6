-- A message that was read can be read again, once it is written.
use Rattle.std.proofs.Common.{◌≡◌, ℕ, ◌+◌, false, List, [], ◌∷◌, ◌++◌, length, map, Option, Some, None, option_map}
use Rattle.std.proofs.Common.{Result, Ok, Err, refl, sym, ap, ◌∙◌, append-nil}
use Rattle.std.proofs.lemmas.List.{length-map, map-append}
use Rattle.std.specs.Prelude.{nat_lt, if◌then◌else◌}
use Rattle.std.specs.List.{AllByRecursion}
use Rattle.dns_wire.specs.declared.encoder.NameEncoding.TheVariants.{Uncompressed}
use Rattle.dns_wire.specs.declared.error.DecodeError.{DecodeError}
use Rattle.dns_wire.specs.declared.error.EmitError.{EmitError}
use Rattle.dns_wire.specs.declared.error.EmitError.TheVariants.{CountTooLarge}
use Rattle.dns_wire.specs.Octets.{AreOctets, two_octets}
use Rattle.dns_wire.specs.Reading.{◌>>=◌}
use Rattle.dns_wire.proofs.FieldLaws.{is_ok_same}
use Rattle.dns_names.proofs.PlaceLaws.{name_of_octets}
use Rattle.dns_wire.specs.Joining.{joined, each_octets}
use Rattle.dns_grammar.specs.Fields.{Two, Four, Field}
use Rattle.dns_grammar.specs.RecordData.{rdata_octets}
use Rattle.dns_grammar.specs.Laws.{IsQuery, IsRecord, IsMessage, unplaced_record, unplaced, read_unplaced}
use Rattle.dns_grammar.specs.Messages.{Query, ResourceRecord, EachAt, QueryAt, RecordAt, MessageAt, records, message_at}
use Rattle.dns_grammar.specs.Messages as grammar
use Rattle.dns_grammar.specs.MessageWriting.{count_octets, header_octets, query_octets, record_octets, message_octets}
use Rattle.dns_wire.proofs.PutLaws.{joined_nil, joined_more}
use Rattle.dns_grammar.proofs.MessageBack.{written_message}
use Rattle.dns_grammar.proofs.ReadAgain.{number_fits}
use Rattle.dns_rdata.specs.declared.rdata.RData.{RData}
use Rattle.dns_rdata.specs.RData.{rdata_values}
use Rattle.dns_rdata.specs.RDataTable.{rdata_table}
use Rattle.dns_rdata.proofs.TableLaws.{rest_last, row_of_type}
use Rattle.sec_sigdata.specs.declared.tsig.TSIG.{TSIG}
use Rattle.dns_message.specs.declared.message.Message.{Message}
use Rattle.dns_message.specs.declared.record.Record.{Record}
use Rattle.dns_message.specs.Laws.{MessageIsReadAgain}
use Rattle.dns_message.specs.MessageWriting as own
use Rattle.dns_wire.specs.Joining.{option_octets}
use Rattle.dns_message.specs.MessageWriting.{written_record, written_tsig_record}
use Rattle.dns_message.specs.OwnedMessages.{IsReadRecord, IsReadMessage}
use Rattle.dns_message.specs.Parts.{Parts, record_view, tsig_record_view, message_parts, parts_of, and_last, whole}
use Rattle.dns_message.specs.Views.{query_view}
use Rattle.dns_message.proofs.HeldValues.{holds_data}
use Rattle.dns_message.proofs.PartLaws.{parts_unplaced, whole_of_parts}

-- ---- what stands in octets can be written

is_query : (m : List ℕ) (p : ℕ) (query : Query) (q : ℕ) → AreOctets m → QueryAt m p query q → IsQuery query
is_query m p query q octets s = record {
  name = name_of_octets m p (length m) query.name s.fixed octets s.name;
  query_type = number_fits Two m _ _ _ _ octets s.query_type;
  query_class = number_fits Two m _ _ _ _ octets s.query_class;
}

is_record : (m : List ℕ) (p : ℕ) (rr : ResourceRecord) (q : ℕ) → AreOctets m → RecordAt rdata_table m p rr q
    → IsRecord rdata_table rr
is_record m p rr q octets s = record {
  name = name_of_octets m p (length m) rr.name s.fixed octets s.name;
  rtype = number_fits Two m _ _ _ _ octets s.rtype;
  dns_class = number_fits Two m _ _ _ _ octets s.dns_class;
  ttl = number_fits Four m _ _ _ _ octets s.ttl;
  rest_is_last = rest_last rr.rtype;
  rdata = λ x is. holds_data m (s.fixed + 10) s.data_length rr.rtype rr.rdata x octets s.rdata is;
}

each_is : {A : Type 0} (at : ℕ → A → ℕ → Type 0) (P : A → Type 0) → ((p : ℕ) (x : A) (q : ℕ) → at p x q → P x)
    → (p : ℕ) (xs : List A) (q : ℕ) → EachAt at p xs q → AllByRecursion P xs
each_is at P one p [] q s = tt
each_is at P one p (x ∷ xs) q s = (one p x s.0 s.1, each_is at P one s.0 xs q s.2)

all_both : {A : Type 0} (P : A → Type 0) (xs ys : List A) → AllByRecursion P xs → AllByRecursion P ys
    → AllByRecursion P (xs ++ ys)
all_both P [] ys h k = k
all_both P (x ∷ xs) ys h k = (h.0, all_both P xs ys h.1 k)

is_message : (m : List ℕ) (message : grammar.Message) (e : ℕ) → AreOctets m → MessageAt rdata_table m message e
    → IsMessage rdata_table message
is_message m message e octets s = record {
  id = number_fits Two m _ _ _ _ octets s.header.id;
  flags = number_fits Two m _ _ _ _ octets s.header.flags;
  counts = s.counts;
  each_query = each_is (QueryAt m) IsQuery (λ p x q h. is_query m p x q octets h) _ message.queries _ s.queries;
  each_record = all_both (IsRecord rdata_table) message.answers (message.authorities ++ message.additionals)
      (each_is (RecordAt rdata_table m) (IsRecord rdata_table) (λ p x q h. is_record m p x q octets h) _
      message.answers _ s.answers)
      (all_both (IsRecord rdata_table) message.authorities message.additionals
      (each_is (RecordAt rdata_table m) (IsRecord rdata_table) (λ p x q h. is_record m p x q octets h) _
      message.authorities _ s.authorities)
      (each_is (RecordAt rdata_table m) (IsRecord rdata_table) (λ p x q h. is_record m p x q octets h) _
      message.additionals _ s.additionals));
  tsig_is_last = s.tsig_is_last;
}

-- ---- octets of lists

joined_none : (a : Result (List ℕ) EmitError) → joined a (Ok []) ≡ a
joined_none (Ok x) = ap (λ (l : List ℕ). let ok : Result (List ℕ) EmitError = Ok l in ok) (append-nil x)
joined_none (Err e) = refl

each-append : {A : Type 0} (written : A → Result (List ℕ) EmitError) (xs ys : List A)
    → each_octets written (xs ++ ys) ≡ joined (each_octets written xs) (each_octets written ys)
each-append written [] ys = sym (joined_nil (each_octets written ys))
each-append written (x ∷ xs) ys =
    ap (joined (written x)) (each-append written xs ys)
    ∙ joined_more (written x) (each_octets written xs) (each_octets written ys)

each-map : {A B : Type 0} (written : B → Result (List ℕ) EmitError) (f : A → B) (xs : List A)
    → each_octets written (map f xs) ≡ each_octets (λ x. written (f x)) xs
each-map written f [] = refl
each-map written f (x ∷ xs) = ap (joined (written (f x))) (each-map written f xs)

-- ---- records that were read, by the table

abbrev by_table : ResourceRecord → Result (List ℕ) EmitError
by_table = record_octets false Uncompressed rdata_table

abbrev own_octets : Record RData → Result (List ℕ) EmitError
own_octets = written_record false Uncompressed

one_by_table : (rr : Record RData) → IsReadRecord rr → own_octets rr ≡ by_table (record_view rr)
one_by_table rr h =
    ap (λ (row : List Field). own.with_rdata Uncompressed (record_view rr)
    (rdata_octets false row (rdata_values rr.rdata))) (row_of_type rr.rdata h.by_number.by_number)

each_by_table : (rrs : List (Record RData)) → AllByRecursion IsReadRecord rrs
    → each_octets own_octets rrs ≡ each_octets by_table (map record_view rrs)
each_by_table [] h = refl
each_by_table (rr ∷ rrs) h = λ i. joined (one_by_table rr h.0 i) (each_by_table rrs h.1 i)

last_by_table : (rrs : List (Record RData)) (signature : Option (Record TSIG)) → AllByRecursion IsReadRecord rrs
    → joined (each_octets own_octets rrs) (option_octets (written_tsig_record false Uncompressed) signature)
    ≡ each_octets by_table (and_last (map record_view rrs) (option_map tsig_record_view signature))
last_by_table rrs None h = joined_none (each_octets own_octets rrs) ∙ each_by_table rrs h
last_by_table rrs (Some rr) h =
    (λ i. joined (each_by_table rrs h i) (sym (joined_none (written_tsig_record false Uncompressed rr)) i))
    ∙ sym (each-append by_table (map record_view rrs) (tsig_record_view rr ∷ []))

-- the octets of a message are those of its parts
message_by_table : (message : Message) → IsReadMessage message
    → own.written_message false Uncompressed message
    ≡ message_octets false Uncompressed rdata_table (whole (message_parts message))
message_by_table message h =
    ap (joined (header_octets (whole (message_parts message))))
    (λ i. joined (sym (each-map (query_octets Uncompressed) query_view message.queries.items) i) (all i))
  where
    adds : List ResourceRecord
    adds = and_last (map record_view message.additionals.items) (option_map tsig_record_view message.signature)

    others : joined (each_octets own_octets message.authorities.items)
        (joined (each_octets own_octets message.additionals.items)
        (option_octets (written_tsig_record false Uncompressed) message.signature))
        ≡ each_octets by_table (map record_view message.authorities.items ++ adds)
    others = (λ i. joined (each_by_table message.authorities.items h.authorities i)
        (last_by_table message.additionals.items message.signature h.additionals i))
        ∙ sym (each-append by_table (map record_view message.authorities.items) adds)

    all : joined (each_octets own_octets message.answers.items)
        (joined (each_octets own_octets message.authorities.items)
        (joined (each_octets own_octets message.additionals.items)
        (option_octets (written_tsig_record false Uncompressed) message.signature)))
        ≡ each_octets by_table (map record_view message.answers.items ++ (map record_view message.authorities.items
        ++ adds))
    all = (λ i. joined (each_by_table message.answers.items h.answers i) (others i))
        ∙ sym (each-append by_table (map record_view message.answers.items)
        (map record_view message.authorities.items ++ adds))

-- ---- the places where records start are not written

count_unplaced : (xs : List ResourceRecord) → count_octets (map unplaced_record xs) ≡ count_octets xs
count_unplaced xs = ap count_of (length-map xs unplaced_record)
  where
    count_of : ℕ → Result (List ℕ) EmitError
    count_of n = if nat_lt 65535 n then Err CountTooLarge else Ok (two_octets n)

records_unplaced : (message : grammar.Message) → records (unplaced message) ≡ map unplaced_record (records message)
records_unplaced message =
    ap (λ l. map unplaced_record message.answers ++ l)
    (sym (map-append unplaced_record message.authorities message.additionals))
    ∙ sym (map-append unplaced_record message.answers (message.authorities ++ message.additionals))

octets_unplaced : (message : grammar.Message)
    → message_octets false Uncompressed rdata_table (unplaced message)
    ≡ message_octets false Uncompressed rdata_table message
octets_unplaced message = λ i. joined (header i)
    (joined (each_octets (query_octets Uncompressed) message.queries) (rest i))
  where
    header : header_octets (unplaced message) ≡ header_octets message
    header = λ i.
        joined (Ok (two_octets message.header.id ++ two_octets message.header.flags))
        (joined (count_octets message.queries)
        (joined (count_unplaced message.answers i)
        (joined (count_unplaced message.authorities i) (count_unplaced message.additionals i))))

    rest : each_octets by_table (records (unplaced message)) ≡ each_octets by_table (records message)
    rest = ap (each_octets by_table) (records_unplaced message) ∙ each-map by_table unplaced_record (records message)

-- ---- the whole

-- the message that stands in the octets
record Stands (m : List ℕ) (parts : Parts) : Type 0 where
  pub message : grammar.Message
  pub end : ℕ
  pub at : MessageAt rdata_table m message end
  pub same : parts_of message ≡ parts

abbrev parts_and : Parts → ℕ → Result (Parts × ℕ) DecodeError
parts_and parts e = Ok (parts, e)

-- what is read of octets, seen as parts
parts_read : (message : grammar.Message) (e : ℕ) (read : Result (grammar.Message × ℕ) DecodeError)
    → read_unplaced read ≡ Ok (unplaced message, e)
    → (read >>= λ x. parts_and (parts_of x.0) x.1) ≡ Ok (parts_of message, e)
parts_read message e (Ok x) h =
    let both = is_ok_same (unplaced x.0, x.1) (unplaced message, e) h in
    let same : unplaced x.0 ≡ unplaced message = ap (λ (y : grammar.Message × ℕ). y.0) both in
    let end : x.1 ≡ e = ap (λ (y : grammar.Message × ℕ). y.1) both in
    let parts : parts_of x.0 ≡ parts_of message =
    sym (parts_unplaced x.0) ∙ ap parts_of same ∙ parts_unplaced message in
    (λ i. parts_and (parts i) (end i))
parts_read message e (Err fault) h = absurd cc

pub message_again : MessageIsReadAgain
message_again m message x octets read as_read written at_most =
    let found = read.found in
    let gm : grammar.Message = found.0 in
    let at : MessageAt rdata_table m gm found.1 = found.2 in
    let same : message_parts message ≡ parts_of gm = found.3 in
    let is : message_octets false Uncompressed rdata_table gm ≡ Ok x =
    sym (octets_unplaced gm)
    ∙ ap (message_octets false Uncompressed rdata_table) (sym (whole_of_parts gm at.counts) ∙ ap whole (sym same))
    ∙ sym (message_by_table message as_read) ∙ written in
    parts_read gm (length x) (message_at rdata_table x)
    (written_message rdata_table gm x (is_message m gm found.1 octets at) is at_most)
    ∙ ap (λ (parts : Parts). parts_and parts (length x)) (sym same)
