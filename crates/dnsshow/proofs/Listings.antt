-- That what prints of a message that was read is the listing of the message.
use Rattle.std.proofs.Common.{◌≡◌, ℕ, ◌-◌, List, [], ◌∷◌, ◌++◌}
use Rattle.std.proofs.Common.{codes, length, map, Option, Some, None, option_map, Result}
use Rattle.std.proofs.Common.{Ok, Err, refl, sym, ap, ◌∙◌, append_assoc, append-nil}
use Rattle.std.specs.Fmt.{decimal}
use Rattle.std.specs.List.{AllByRecursion}
use Rattle.std.specs.Option.{ForSome}
use Rattle.std.specs.Result.{result_unwrap_or}
use Rattle.dns_wire.specs.declared.error.DecodeError.{DecodeError}
use Rattle.dns_wire.specs.Reading.{◌>>=◌}
use Rattle.dns_names.specs.NameText.{name_text}
use Rattle.dns_types.specs.Codes.{type_text, class_text}
use Rattle.dns_grammar.specs.Laws.{unplaced_record}
use Rattle.dns_grammar.specs.Messages as grammar
use Rattle.dns_grammar.specs.Messages.{ResourceRecord, IsCounted}
use Rattle.dns_grammar.specs.RecordData.{tsig_type}
use Rattle.sec_sigdata.specs.declared.tsig.TSIG.{TSIG}
use Rattle.dns_rdata.specs.declared.rdata.RData.{RData}
use Rattle.dns_rdata.specs.declared.rdata.RData.TheVariants as rdata
use Rattle.dns_rdata.specs.RData.{rdata_type}
use Rattle.dns_rdata.proofs.DataText.{text_of_data}
use Rattle.dns_message.specs.declared.message.Message.{Message}
use Rattle.dns_message.specs.declared.message.Places.{Places}
use Rattle.dns_message.specs.declared.query.Query.{Query}
use Rattle.dns_message.specs.declared.record.Record.{Record}
use Rattle.dns_message.specs.OwnedMessages.{IsReadRecord, IsReadTsig, IsReadMessage, Placed, held, standing}
use Rattle.dns_message.specs.Parts.{record_view, tsig_record_view, message_parts, parts_of, and_last, whole}
use Rattle.dns_message.specs.Views.{query_view}
use Rattle.dns_message.proofs.PartLaws.{whole_of_parts}
use Rattle.dns_rows.specs.declared.refusal.Refusal.{Refusal}
use Rattle.dns_rows.specs.Refusals.{decode_refusal, with_refusal}
use Rattle.dnsshow.specs.MessageCalls.{header_text, query_text, record_text, lines_text, section_text, message_text}
use Rattle.dnsshow.specs.MessageCalls.{after_text}
use Rattle.dnsshow.specs.ShownMessages.{record_shown, signature_shown, query_lines_shown, record_lines_shown}
use Rattle.dnsshow.specs.ShownMessages.{queries_shown, records_shown, additionals_shown, message_shown}

-- ---- records and lines

-- five texts with spaces between them, put together from the right and from the left
pub five : (a b c d e : List ℕ) → a ++ 32 ∷ (b ++ 32 ∷ (c ++ 32 ∷ (d ++ 32 ∷ e)))
    ≡ a ++ codes " " ++ b ++ codes " " ++ c ++ codes " " ++ d ++ codes " " ++ e
five a b c d e = simp append_assoc

record_is : (rr : Record RData) → IsReadRecord rr → record_shown rr ≡ record_text (record_view rr)
unfolding record_shown
record_is rr h =
    ap (λ (t : List ℕ). name_text rr.name ++ codes " " ++ decimal rr.ttl ++ codes " " ++ class_text rr.dns_class
    ++ codes " " ++ type_text (rdata_type rr.rdata) ++ codes " " ++ t) (text_of_data rr.rdata h.by_number.by_number)

signature_is : (rr : Record TSIG) → IsReadTsig rr → signature_shown rr ≡ record_text (tsig_record_view rr)
unfolding signature_shown
signature_is rr h =
    ap (λ (t : List ℕ). name_text rr.name ++ codes " " ++ decimal rr.ttl ++ codes " " ++ class_text rr.dns_class
    ++ codes " " ++ type_text tsig_type ++ codes " " ++ t) (text_of_data (rdata.TSIG rr.rdata) (h.by_number, h.fits))

query_lines : (queries : List Query)
    → query_lines_shown queries ≡ lines_text (map query_text (map query_view queries))
query_lines [] = refl
query_lines (query ∷ queries) =
    ap (λ (t : List ℕ). (codes "\n" ++ query_text (query_view query)) ++ t) (query_lines queries)

record_lines : (records : List (Record RData)) → AllByRecursion IsReadRecord records
    → record_lines_shown records ≡ lines_text (map record_text (map record_view records))
record_lines [] h = refl
record_lines (rr ∷ records) h = λ i. (codes "\n" ++ record_is rr h.0 i) ++ record_lines records h.1 i

-- ---- sections

queries_are : (queries : List Query)
    → queries_shown queries ≡ section_text (codes "QUESTION") (map query_text (map query_view queries))
unfolding queries_shown
queries_are [] = refl
queries_are (query ∷ queries) = ap (λ (t : List ℕ). codes "\n;; QUESTION" ++ t) (query_lines (query ∷ queries))

records_are : (title : List ℕ) (records : List (Record RData)) → AllByRecursion IsReadRecord records
    → records_shown title records ≡ section_text title (map record_text (map record_view records))
unfolding records_shown
records_are title [] h = refl
records_are title (rr ∷ records) h =
    ap (λ (t : List ℕ). codes "\n;; " ++ title ++ t) (record_lines (rr ∷ records) h)

regroup : (a b c d : List ℕ) → a ++ (b ++ c ++ d) ≡ a ++ b ++ c ++ d
regroup a b c d = simp append_assoc

-- one line more
lines_more : (rrs : List ResourceRecord) (rr : ResourceRecord)
    → lines_text (map record_text (rrs ++ rr ∷ []))
    ≡ lines_text (map record_text rrs) ++ codes "\n" ++ record_text rr
lines_more [] rr = append-nil (codes "\n" ++ record_text rr)
lines_more (first ∷ rrs) rr =
    ap (λ (t : List ℕ). (codes "\n" ++ record_text first) ++ t) (lines_more rrs rr)
    ∙ regroup (codes "\n" ++ record_text first) (lines_text (map record_text rrs)) (codes "\n") (record_text rr)

section_of : (title : List ℕ) (rrs : List ResourceRecord) (rr : ResourceRecord)
    → section_text title (map record_text (rrs ++ rr ∷ []))
    ≡ codes "\n;; " ++ title ++ lines_text (map record_text (rrs ++ rr ∷ []))
section_of title [] rr = refl
section_of title (first ∷ rrs) rr = refl

additionals_are : (records : List (Record RData)) (signature : Option (Record TSIG))
    → AllByRecursion IsReadRecord records → ForSome signature IsReadTsig
    → additionals_shown records signature ≡ section_text (codes "ADDITIONAL")
    (map record_text (and_last (map record_view records) (option_map tsig_record_view signature)))
unfolding additionals_shown
additionals_are records None h s = records_are (codes "ADDITIONAL") records h
additionals_are records (Some rr) h s =
    let title : List ℕ = codes "\n;; ADDITIONAL" in
    let rrs : List ResourceRecord = map record_view records in
    let last : ResourceRecord = tsig_record_view rr in
    (λ i. title ++ record_lines records h i ++ codes "\n" ++ signature_is rr (s rr refl) i)
    ∙ sym (regroup title (lines_text (map record_text rrs)) (codes "\n") (record_text last))
    ∙ ap (λ (t : List ℕ). title ++ t) (sym (lines_more rrs last))
    ∙ sym (section_of (codes "ADDITIONAL") rrs last)

-- ---- messages

message_is : (message : Message) → IsReadMessage message
    → message_shown message ≡ message_text (whole (message_parts message))
unfolding message_shown
message_is message h i =
    header_text message.id message.flags ++ queries_are message.queries.items i
    ++ records_are (codes "ANSWER") message.answers.items h.answers i
    ++ records_are (codes "AUTHORITY") message.authorities.items h.authorities i
    ++ additionals_are message.additionals.items message.signature h.additionals h.signature i

places_aside : (rrs : List ResourceRecord) → map record_text (map unplaced_record rrs) ≡ map record_text rrs
places_aside [] = refl
places_aside (rr ∷ rrs) = ap (λ (l : List (List ℕ)). record_text rr ∷ l) (places_aside rrs)

-- a message whose header counts its lists
abbrev counted : grammar.Message → grammar.Message
counted message = record {
  header =
      record {
        id = message.header.id;
        flags = message.header.flags;
        questions = length message.queries;
        answers = length message.answers;
        authorities = length message.authorities;
        additionals = length message.additionals;
      };
  queries = message.queries;
  answers = message.answers;
  authorities = message.authorities;
  additionals = message.additionals;
}

is_counted : (message : grammar.Message) → IsCounted (counted message)
is_counted message = record { questions = refl; answers = refl; authorities = refl; additionals = refl }

parts_show : (message : grammar.Message) → message_text (whole (parts_of message)) ≡ message_text message
parts_show message =
    ap message_text (whole_of_parts (counted message) (is_counted message))
    ∙ (λ i. header_text message.header.id message.header.flags
    ++ section_text (codes "QUESTION") (map query_text message.queries)
    ++ section_text (codes "ANSWER") (places_aside message.answers i)
    ++ section_text (codes "AUTHORITY") (places_aside message.authorities i)
    ++ section_text (codes "ADDITIONAL") (places_aside message.additionals i))

-- the listing of what was read, so many octets long
abbrev listing_of : ℕ → Result (grammar.Message × ℕ) DecodeError → Result (List ℕ) Refusal
listing_of len read =
    with_refusal decode_refusal read >>= λ found. Ok (message_text found.0 ++ after_text (len - found.1))

pub listed : (len : ℕ) (read : Result (grammar.Message × ℕ) DecodeError) (message : Message) (places : Places)
    → (read >>= λ x. Ok (standing x)) ≡ Ok (held (message, places)) → IsReadMessage message
    → listing_of len read ≡ Ok (message_shown message ++ after_text (len - places.end))
listed len (Ok x) message places e h =
    let both : standing x ≡ held (message, places) =
    ap (λ (r : Result Placed DecodeError). result_unwrap_or r (standing x)) e in
    let text : message_text x.0 ≡ message_shown message =
    sym (parts_show x.0) ∙ ap (λ (p : Placed). message_text (whole p.0)) both ∙ sym (message_is message h) in
    λ i. Ok (text i ++ after_text (len - (both i).1.1))
listed len (Err fault) message places e h = absurd cc

pub not_listed : (len : ℕ) (read : Result (grammar.Message × ℕ) DecodeError) (fault : DecodeError)
    → (read >>= λ x. Ok (standing x)) ≡ Err fault → listing_of len read ≡ Err (decode_refusal fault)
not_listed len (Ok x) fault e = absurd cc
not_listed len (Err other) fault e =
    let same : other ≡ fault = cc in ap (λ (f : DecodeError). Err (decode_refusal f)) same
