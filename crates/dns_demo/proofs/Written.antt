-- Messages with questions and answers alone.
use Rattle.std.proofs.Common.{◌≡◌, ℕ, ◌≤◌, false, List, [], ◌∷◌, length, map, Option, None, Result, Ok, Err}
use Rattle.std.proofs.Common.{refl, sym, ap, ◌∙◌, option_map, is_ok, IsOk}
use Rattle.std.proofs.lemmas.List.{append-nil}
use Rattle.std.specs.List.{AllByRecursion}
use Rattle.std.specs.Result.{result_unwrap_or}
use Rattle.dns_wire.specs.declared.encoder.NameEncoding.TheVariants.{Uncompressed}
use Rattle.dns_wire.specs.declared.error.EmitError.{EmitError}
use Rattle.dns_wire.specs.Joining.{each_octets, joined}
use Rattle.dns_grammar.specs.Fields.{Field}
use Rattle.dns_grammar.specs.RecordData.{rdata_octets}
use Rattle.dns_grammar.specs.Messages.{ResourceRecord}
use Rattle.dns_grammar.specs.MessageWriting.{header_octets, message_octets, query_octets, record_octets}
use Rattle.dns_rdata.specs.declared.rdata.RData.{RData}
use Rattle.dns_rdata.specs.RData.{rdata_values}
use Rattle.dns_rdata.specs.RDataTable.{rdata_table}
use Rattle.sec_sigdata.specs.declared.tsig.TSIG.{TSIG}
use Rattle.dns_message.specs.declared.message.Message.{Message}
use Rattle.dns_message.specs.declared.query.Query.{Query as HeldQuery}
use Rattle.dns_message.specs.declared.record.Record.{Record}
use Rattle.dns_message.specs.MessageWriting as own
use Rattle.dns_wire.specs.Joining.{option_octets}
use Rattle.dns_message.specs.MessageWriting.{written_message, written_record, written_tsig_record}
use Rattle.dns_message.specs.Parts.{Parts, record_view, tsig_record_view, whole}
use Rattle.dns_message.specs.Views.{query_view}
use Rattle.sec_tsig.proofs.WrittenMessages.{written_long}
use Rattle.dns_demo.specs.Demo.{demo_message, demo_written, IsOfTable}

abbrev Written : Type 0
Written = Result (List ℕ) EmitError

joined_none : (a : Written) → joined a (Ok []) ≡ a
joined_none (Ok x) = ap (λ (l : List ℕ). let ok : Written = Ok l in ok) (append-nil x)
joined_none (Err e) = refl

abbrev by_table : ResourceRecord → Written
by_table = record_octets false Uncompressed rdata_table

abbrev own_octets : Record RData → Written
own_octets = written_record false Uncompressed

abbrev own_tsig : Option (Record TSIG) → Written
own_tsig = option_octets (written_tsig_record false Uncompressed)

abbrev own_query : HeldQuery → Written
own_query query = query_octets Uncompressed (query_view query)

each_query : (queries : List HeldQuery)
    → each_octets own_query queries ≡ each_octets (query_octets Uncompressed) (map query_view queries)
each_query [] = refl
each_query (query ∷ queries) = ap (joined (own_query query)) (each_query queries)

one_by_table : (rr : Record RData) → IsOfTable rr → own_octets rr ≡ by_table (record_view rr)
one_by_table rr is =
    ap (λ (row : List Field). own.with_rdata Uncompressed (record_view rr)
    (rdata_octets false row (rdata_values rr.rdata))) is

each_by_table : (rrs : List (Record RData)) → AllByRecursion IsOfTable rrs
    → each_octets own_octets rrs ≡ each_octets by_table (map record_view rrs)
each_by_table [] h = refl
each_by_table (rr ∷ rrs) h = λ i. joined (one_by_table rr h.0 i) (each_by_table rrs h.1 i)

-- the parts of a message, whatever its other lists
abbrev parts_with : ℕ → ℕ → List HeldQuery → List (Record RData) → List (Record RData) → List (Record RData)
    → Option (Record TSIG) → Parts
parts_with id flags queries answers authorities additionals signature = record {
  id = id;
  flags = flags;
  queries = map query_view queries;
  answers = map record_view answers;
  authorities = map record_view authorities;
  additionals = map record_view additionals;
  signature = option_map tsig_record_view signature;
}

-- its octets
abbrev octets_with : ℕ → ℕ → List HeldQuery → List (Record RData) → List (Record RData) → List (Record RData)
    → Option (Record TSIG) → Written
octets_with id flags queries answers authorities additionals signature =
    joined (header_octets (whole (parts_with id flags queries answers authorities additionals signature)))
    (joined (each_octets own_query queries)
    (joined (each_octets own_octets answers)
    (joined (each_octets own_octets authorities)
    (joined (each_octets own_octets additionals) (own_tsig signature)))))

plain : (id flags : ℕ) (queries : List HeldQuery) (answers : List (Record RData)) → AllByRecursion IsOfTable answers
    → octets_with id flags queries answers [] [] None
    ≡ message_octets false Uncompressed rdata_table (whole (parts_with id flags queries answers [] [] None))
plain id flags queries answers h =
    ap (joined (header_octets (whole (parts_with id flags queries answers [] [] None))))
    (λ i. joined (each_query queries i)
    ((joined_none (each_octets own_octets answers) ∙ each_by_table answers h
    ∙ ap (each_octets by_table) (sym (append-nil (map record_view answers)))) i))

-- a message without other records is written as its questions and answers are
same_written : (message : Message) → AllByRecursion IsOfTable message.answers.items
    → message.id ≡ 4660 → message.authorities.items ≡ [] → message.additionals.items ≡ [] → message.signature ≡ None
    → written_message false Uncompressed message
    ≡ demo_written message.flags (map query_view message.queries.items) (map record_view message.answers.items)
same_written message h id authorities additionals signature =
    (λ i. octets_with (id i) message.flags message.queries.items message.answers.items (authorities i) (additionals i)
    (signature i)) ∙ plain 4660 message.flags message.queries.items message.answers.items h

-- what is written of it
pub written_plain : (message : Message) (x : List ℕ) → AllByRecursion IsOfTable message.answers.items
    → message.id ≡ 4660 → message.authorities.items ≡ [] → message.additionals.items ≡ [] → message.signature ≡ None
    → written_message false Uncompressed message ≡ Ok x
    → x ≡ demo_message message.flags (map query_view message.queries.items) (map record_view message.answers.items)
unfolding demo_message
written_plain message x h id authorities additionals signature is =
    ap (λ (r : Written). result_unwrap_or r []) (sym is ∙ same_written message h id authorities additionals signature)

-- it can be written
pub can_be_written : (message : Message) → AllByRecursion IsOfTable message.answers.items
    → message.id ≡ 4660 → message.authorities.items ≡ [] → message.additionals.items ≡ [] → message.signature ≡ None
    → IsOk (demo_written message.flags (map query_view message.queries.items) (map record_view message.answers.items))
    → IsOk (written_message false Uncompressed message)
can_be_written message h id authorities additionals signature can =
    ap (λ (r : Written). is_ok r) (same_written message h id authorities additionals signature) ∙ can

pub written_header : (message : Message) (x : List ℕ) → written_message false Uncompressed message ≡ Ok x
    → 12 ≤ length x
written_header message x is = written_long false Uncompressed message x is

pub ruleset exits = (written_plain, written_header)
