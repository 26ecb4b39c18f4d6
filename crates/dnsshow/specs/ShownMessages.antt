-- What prints of a message that is held in memory. For a message that was read it is the text of `MessageCalls`.
use Rattle.std.specs.Prelude.{ℕ, List, [], ◌∷◌, ◌++◌, codes, Option, Some, None}
use Rattle.std.specs.Fmt.{decimal}
use Rattle.std.specs.List.{flat_map}
use Rattle.dns_names.specs.NameText.{name_text}
use Rattle.dns_types.specs.Codes.{type_text, class_text}
use Rattle.dns_grammar.specs.RecordData.{tsig_type}
use Rattle.sec_sigdata.specs.declared.tsig.TSIG.{TSIG}
use Rattle.sec_sigdata.specs.TsigRecords.{tsig_fields, tsig_text}
use Rattle.dns_rdata.specs.declared.rdata.RData.{RData}
use Rattle.dns_rdata.specs.RData.{rdata_type, rdata_text}
use Rattle.dns_message.specs.declared.message.Message.{Message}
use Rattle.dns_message.specs.declared.query.Query.{Query}
use Rattle.dns_message.specs.declared.record.Record.{Record}
use Rattle.dns_message.specs.Views.{query_view}
use Rattle.dnsshow.specs.MessageCalls.{header_text, query_text}

abbrev pub header_shown : Message → List ℕ
header_shown message = header_text message.id message.flags

unfoldable pub record_shown : Record RData → List ℕ
record_shown rr =
    name_text rr.name ++ codes " " ++ decimal rr.ttl ++ codes " " ++ class_text rr.dns_class ++ codes " "
    ++ type_text (rdata_type rr.rdata) ++ codes " " ++ rdata_text rr.rdata

unfoldable pub signature_shown : Record TSIG → List ℕ
signature_shown rr =
    name_text rr.name ++ codes " " ++ decimal rr.ttl ++ codes " " ++ class_text rr.dns_class ++ codes " "
    ++ type_text tsig_type ++ codes " " ++ tsig_text (tsig_fields rr.rdata)

abbrev pub query_lines_shown : List Query → List ℕ
query_lines_shown queries = flat_map (λ query. codes "\n" ++ query_text (query_view query)) queries

abbrev pub record_lines_shown : List (Record RData) → List ℕ
record_lines_shown records = flat_map (λ rr. codes "\n" ++ record_shown rr) records

unfoldable pub queries_shown : List Query → List ℕ
queries_shown [] = []
queries_shown (query ∷ queries) = codes "\n;; QUESTION" ++ query_lines_shown (query ∷ queries)

unfoldable pub records_shown : List ℕ → List (Record RData) → List ℕ
records_shown title [] = []
records_shown title (rr ∷ records) = codes "\n;; " ++ title ++ record_lines_shown (rr ∷ records)

unfoldable pub additionals_shown : List (Record RData) → Option (Record TSIG) → List ℕ
additionals_shown records None = records_shown (codes "ADDITIONAL") records
additionals_shown records (Some rr) =
    codes "\n;; ADDITIONAL" ++ record_lines_shown records ++ codes "\n" ++ signature_shown rr

unfoldable pub message_shown : Message → List ℕ
message_shown message =
    header_shown message ++ queries_shown message.queries.items ++ records_shown (codes "ANSWER") message.answers.items
    ++ records_shown (codes "AUTHORITY") message.authorities.items
    ++ additionals_shown message.additionals.items message.signature
