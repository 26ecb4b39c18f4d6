-- What a checker reports of the answers to a signed request, one behind the other.
use Rattle.std.specs.Prelude.{◌≡◌, ◌⊎◌, Bool, ℕ, List, [], ◌++◌, map, Option, None, Result, Ok, Err}
use Rattle.dns_wire.specs.declared.error.DecodeError.{DecodeError}
use Rattle.dns_wire.specs.Reading.{◌>>=◌}
use Rattle.dns_grammar.specs.Messages.{Message, ResourceRecord, message_at}
use Rattle.dns_message.specs.Parts.{Parts, parts_of}
use Rattle.dns_rdata.specs.RDataTable.{rdata_table}
use Rattle.sec_anchor.specs.Entries.{EntryData}
use Rattle.sec_sign.specs.Sets.{SetName}
use Rattle.sec_sign.specs.Verifying.{Relation}
use Rattle.sec_tsig.specs.declared.verify_error.VerifyError.{VerifyError}
use Rattle.sec_tsig.specs.declared.verify_error.VerifyError.TheVariants as causes
use Rattle.sec_tsig.specs.Notices.{notice_by}
use Rattle.sec_tsig.specs.Verdict.{TsigChain, verdict}
use Rattle.dns_message.specs.declared.section.Section.{Section}
use Rattle.dns_message.specs.declared.section.Section.TheVariants as sections
use Rattle.sec_check.specs.declared.set_proof.SetProof.{SetProof}
use Rattle.sec_check.specs.Marks.{Trust, mark}
use Rattle.sec_check.specs.RecordSets.{record_sets}

-- ---- the record sets

-- a set of a section's records with its mark
abbrev pub set_proof : Trust → Section → List ResourceRecord → SetName → SetProof
set_proof trust section records set = record {
  section = section;
  owner = set.name;
  dns_class = set.dns_class;
  rtype = set.rtype;
  proof = mark trust records set;
}

-- the sets of a section's records, in order of first record
abbrev pub section_proofs : Trust → Section → List ResourceRecord → List SetProof
section_proofs trust section records = map (set_proof trust section records) (record_sets records)

-- the sets of the three sections of a message in turn
unfoldable pub set_proofs : Trust → Parts → List SetProof
set_proofs trust parts =
    section_proofs trust sections.Answer parts.answers
    ++ section_proofs trust sections.Authority parts.authorities
    ++ section_proofs trust sections.Additional parts.additionals

-- ---- the report

-- what a contract sees of a report: the record sets, the number of the TSIG error, the server's time
pub record ReportData : Type 0 where
  pub sets : List SetProof
  pub tsig_error : ℕ
  pub server_time : Option ℕ

-- the report of a message, which may be the first answer
abbrev pub report_of : Trust → Bool → Message → ReportData
report_of trust first message = record {
  sets = set_proofs trust (parts_of message);
  tsig_error = (notice_by first message).tsig_error;
  server_time = (notice_by first message).server_time;
}

-- the report of octets, by what reading them gives; a report of nothing where no message stands in them
abbrev pub report_read : Trust → Bool → Result (Message × ℕ) DecodeError → ReportData
report_read trust first (Ok read) = report_of trust first read.0
report_read trust first (Err _) = record { sets = []; tsig_error = 0; server_time = None }

-- an answer that is accepted: its report, and the chain with which the answers after it are checked
pub record Accepted : Type 0 where
  pub report : ReportData
  pub next : TsigChain

-- what an answer comes to: it is accepted, or refused for a cause
abbrev pub Answered : Type 0
Answered = Result Accepted VerifyError

-- What octets come to for a chain, as the verdict on them says (RFC 8945 5.2 to 5.4).
abbrev pub answered : Trust → TsigChain → List ℕ → Answered
answered trust chain octets =
    verdict chain octets
    >>= λ next. Ok record { report = report_read trust chain.first (message_at rdata_table octets); next = next }

-- The report of an answer that is accepted is that of a message, which stands in its octets.
abbrev pub ReportsAreOfMessages : Type 0
ReportsAreOfMessages = (trust : Trust) (chain : TsigChain) (octets : List ℕ) (found : Accepted)
    → answered trust chain octets ≡ Ok found
    → (message : Message) × (e : ℕ) × (message_at rdata_table octets ≡ Ok (message, e))
    × (found.report ≡ report_of trust chain.first message)

-- ---- the checker

-- what a contract sees of a checker: the chain of the answers accepted so far, and the trusted entries
pub record CheckerData : Type 0 where
  pub chain : TsigChain
  pub entries : List EntryData

-- what a checker trusts under a scheme at a moment
abbrev pub trust_of : CheckerData → Relation → ℕ → Trust
trust_of checker accepts moment = record { accepts = accepts; moment = moment; entries = checker.entries }

-- The call answered what the answer comes to: a report, and the chain moved; or its cause, or out of memory, and the
-- checker stayed as it was. The entries stay.
abbrev pub AnswersAs : {X : Type 0} → (X → ReportData) → Result X VerifyError → CheckerData → CheckerData → Answered
    → Type 0
AnswersAs view (Ok report) old new given =
    (given ≡ Ok record { report = view report; next = new.chain }) × (new.entries ≡ old.entries)
AnswersAs view (Err cause) old new given = ((cause ≡ causes.OutOfMemory) ⊎ (given ≡ Err cause)) × (new ≡ old)
