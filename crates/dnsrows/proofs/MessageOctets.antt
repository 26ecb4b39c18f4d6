-- The octets of a message that was read, by its parts.
use Rattle.std.proofs.Common.{◌≡◌, ℕ, ◌++◌, false, List, [], ◌∷◌, map, Option, Some, None, option_map}
use Rattle.std.proofs.Common.{Result, Ok, Err, refl, sym, ap, ◌∙◌, append-nil}
use Rattle.std.specs.List.{AllByRecursion}
use Rattle.dns_wire.specs.declared.encoder.NameEncoding.TheVariants.{Uncompressed}
use Rattle.dns_wire.specs.declared.error.EmitError.{EmitError}
use Rattle.dns_wire.specs.Joining.{joined, each_octets}
use Rattle.dns_grammar.specs.Fields.{Field}
use Rattle.dns_grammar.specs.RecordData.{rdata_octets}
use Rattle.dns_grammar.specs.Messages.{ResourceRecord}
use Rattle.dns_grammar.specs.MessageWriting.{header_octets, query_octets, record_octets, message_octets}
use Rattle.dns_wire.proofs.PutLaws.{joined_nil, joined_more}
use Rattle.dns_rdata.specs.declared.rdata.RData.{RData}
use Rattle.dns_rdata.specs.RData.{rdata_values}
use Rattle.dns_rdata.specs.RDataTable.{rdata_table}
use Rattle.dns_rdata.proofs.TableLaws.{row_of_type}
use Rattle.sec_sigdata.specs.declared.tsig.TSIG.{TSIG}
use Rattle.dns_message.specs.declared.message.Message.{Message}
use Rattle.dns_message.specs.declared.record.Record.{Record}
use Rattle.dns_message.specs.MessageWriting as own
use Rattle.dns_wire.specs.Joining.{option_octets}
use Rattle.dns_message.specs.MessageWriting.{written_record, written_tsig_record}
use Rattle.dns_message.specs.OwnedMessages.{IsReadRecord, IsReadMessage}
use Rattle.dns_message.specs.Parts.{record_view, tsig_record_view, message_parts, and_last, whole}
use Rattle.dns_message.specs.Views.{query_view}

-- ---- octets of lists

joined_none : (a : Result (List ℕ) EmitError) → joined a (Ok []) ≡ a
joined_none (Ok x) = ap (λ (l : List ℕ). let ok : Result (List ℕ) EmitError = Ok l in ok) (append-nil x)
joined_none (Err e) = refl

each-append : {A : Type 0} (written : A → Result (List ℕ) EmitError) (xs ys : List A)
    → each_octets written (xs ++ ys) ≡ joined (each_octets written xs) (each_octets written ys)
each-append written [] ys = sym (joined_nil (each_octets written ys))
each-append written (x ∷ xs) ys =
    ap (joined (written x)) (each-append written xs ys)
    ∙ joined_more (written x) (each_octets written xs) (each_octets written ys)

each-map : {A B : Type 0} (written : B → Result (List ℕ) EmitError) (f : A → B) (xs : List A)
    → each_octets written (map f xs) ≡ each_octets (λ x. written (f x)) xs
each-map written f [] = refl
each-map written f (x ∷ xs) = ap (joined (written (f x))) (each-map written f xs)

-- ---- records that were read, by the table

abbrev by_table : ResourceRecord → Result (List ℕ) EmitError
by_table = record_octets false Uncompressed rdata_table

abbrev own_octets : Record RData → Result (List ℕ) EmitError
own_octets = written_record false Uncompressed

one_by_table : (rr : Record RData) → IsReadRecord rr → own_octets rr ≡ by_table (record_view rr)
one_by_table rr h =
    ap (λ (row : List Field). own.with_rdata Uncompressed (record_view rr)
    (rdata_octets false row (rdata_values rr.rdata))) (row_of_type rr.rdata h.by_number.by_number)

each_by_table : (rrs : List (Record RData)) → AllByRecursion IsReadRecord rrs
    → each_octets own_octets rrs ≡ each_octets by_table (map record_view rrs)
each_by_table [] h = refl
each_by_table (rr ∷ rrs) h = λ i. joined (one_by_table rr h.0 i) (each_by_table rrs h.1 i)

last_by_table : (rrs : List (Record RData)) (signature : Option (Record TSIG)) → AllByRecursion IsReadRecord rrs
    → joined (each_octets own_octets rrs) (option_octets (written_tsig_record false Uncompressed) signature)
    ≡ each_octets by_table (and_last (map record_view rrs) (option_map tsig_record_view signature))
last_by_table rrs None h = joined_none (each_octets own_octets rrs) ∙ each_by_table rrs h
last_by_table rrs (Some rr) h =
    (λ i. joined (each_by_table rrs h i) (sym (joined_none (written_tsig_record false Uncompressed rr)) i))
    ∙ sym (each-append by_table (map record_view rrs) (tsig_record_view rr ∷ []))

-- the octets of a message are those of its parts
pub message_by_table : (message : Message) → IsReadMessage message
    → own.written_message false Uncompressed message
    ≡ message_octets false Uncompressed rdata_table (whole (message_parts message))
message_by_table message h =
    ap (joined (header_octets (whole (message_parts message))))
    (λ i. joined (sym (each-map (query_octets Uncompressed) query_view message.queries.items) i) (all i))
  where
    adds : List ResourceRecord
    adds = and_last (map record_view message.additionals.items) (option_map tsig_record_view message.signature)

    others : joined (each_octets own_octets message.authorities.items)
        (joined (each_octets own_octets message.additionals.items)
        (option_octets (written_tsig_record false Uncompressed) message.signature))
        ≡ each_octets by_table (map record_view message.authorities.items ++ adds)
    others = (λ i. joined (each_by_table message.authorities.items h.authorities i)
        (last_by_table message.additionals.items message.signature h.additionals i))
        ∙ sym (each-append by_table (map record_view message.authorities.items) adds)

    all : joined (each_octets own_octets message.answers.items)
        (joined (each_octets own_octets message.authorities.items)
        (joined (each_octets own_octets message.additionals.items)
        (option_octets (written_tsig_record false Uncompressed) message.signature)))
        ≡ each_octets by_table (map record_view message.answers.items ++ (map record_view message.authorities.items
        ++ adds))
    all = (λ i. joined (each_by_table message.answers.items h.answers i) (others i))
        ∙ sym (each-append by_table (map record_view message.answers.items)
        (map record_view message.authorities.items ++ adds))
