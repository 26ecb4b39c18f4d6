-- What is reported of an answer that is accepted.
use Rattle.std.proofs.Common.{◌≡◌, refl, sym, ap, ◌∙◌, ℕ, List, [], None, Bool, Result, Ok, Err, IsOk}
use Rattle.dns_wire.specs.declared.error.DecodeError.{DecodeError}
use Rattle.dns_wire.specs.Reading.{◌>>=◌}
use Rattle.dns_grammar.specs.Messages.{Message, message_at}
use Rattle.dns_message.specs.Parts.{parts_of}
use Rattle.dns_rdata.specs.RDataTable.{rdata_table}
use Rattle.sec_tsig.specs.declared.verify_error.VerifyError.{VerifyError}
use Rattle.sec_tsig.specs.declared.verify_error.VerifyError.TheVariants as causes
use Rattle.sec_tsig.specs.Notices.{TsigNotice, notice_by}
use Rattle.sec_tsig.specs.Verdict.{TsigChain, with_tsig, signature_verdict, verdict}
use Rattle.sec_check.specs.declared.set_proof.SetProof.{SetProof}
use Rattle.sec_check.specs.Marks.{Trust}
use Rattle.sec_check.specs.Reports.{Accepted, Answered, ReportData, ReportsAreOfMessages, answered, report_of, report_read, set_proofs}

-- a report by its parts
pub reported : (trust : Trust) (first : Bool) (message : Message) (report : ReportData) (sets : List SetProof)
    (told : TsigNotice)
    → report ≡ record { sets = sets; tsig_error = told.tsig_error; server_time = told.server_time }
    → sets ≡ set_proofs trust (parts_of message) → told ≡ notice_by first message
    → report ≡ report_of trust first message
reported trust first message report sets told is sets_are told_is =
    is
    ∙ (λ i. record { sets = sets_are i; tsig_error = (told_is i).tsig_error; server_time = (told_is i).server_time })

-- where a message stands, there is no cause not to read it
pub read_refuses_nothing : {Y : Type 0} (of : Message × ℕ → Y) (read : Result (Message × ℕ) DecodeError)
    (cause : DecodeError) → IsOk read → (read >>= λ x. Ok (of x)) ≡ Err cause → ⊥
read_refuses_nothing of (Ok x) cause stands refused = absurd cc
read_refuses_nothing of (Err other) cause stands refused = absurd cc

-- what a verdict accepts is a message
by_reading : (chain next : TsigChain) (octets : List ℕ) (read : Result (Message × ℕ) DecodeError)
    → with_tsig (signature_verdict chain octets) read ≡ Ok next → IsOk read
by_reading chain next octets (Ok x) accepted = refl
by_reading chain next octets (Err cause) accepted = absurd cc

pub accepted_stands : (chain next : TsigChain) (octets : List ℕ) → verdict chain octets ≡ Ok next
    → IsOk (message_at rdata_table octets)
accepted_stands chain next octets accepted = by_reading chain next octets (message_at rdata_table octets) accepted

refused : (found : Result TsigChain VerifyError) (next : TsigChain) → found ≡ Ok next → found ≡ Err causes.Decode → ⊥
refused (Ok chain) next accepted decode = absurd cc
refused (Err cause) next accepted decode = absurd cc

-- Where the verdict accepts octets, a message stands in them, and its report is what the answer comes to.
pub accepted_report : (trust : Trust) (chain next : TsigChain) (octets : List ℕ) (report : ReportData)
    → verdict chain octets ≡ Ok next
    → ((message : Message) (e : ℕ) → message_at rdata_table octets ≡ Ok (message, e)
    → report ≡ report_of trust chain.first message)
    → answered trust chain octets ≡ Ok record { report = report; next = next }
accepted_report trust chain next octets report accepted reports = at (message_at rdata_table octets) refl
  where
    with_report : ReportData → Answered
    with_report found = Ok record { report = found; next = next }

    read : Result (Message × ℕ) DecodeError
    read = message_at rdata_table octets

    at : (found : Result (Message × ℕ) DecodeError) → message_at rdata_table octets ≡ found
        → answered trust chain octets ≡ Ok record { report = report; next = next }
    at (Ok x) is =
        ap (λ (v : Result TsigChain VerifyError). v
        >>= λ n. Ok record { report = report_read trust chain.first (message_at rdata_table octets); next = n })
        accepted
        ∙ ap (λ (r : Result (Message × ℕ) DecodeError). with_report (report_read trust chain.first r)) is
        ∙ ap with_report (sym (reports x.0 x.1 is))
    at (Err cause) is =
        absurd (refused (verdict chain octets) next accepted (ap (with_tsig (signature_verdict chain octets)) is))

-- ---- no report is of nothing

abbrev report_in : Answered → ReportData
report_in (Ok found) = found.report
report_in (Err cause) = record { sets = []; tsig_error = 0; server_time = None }

module _ (trust : Trust) (chain : TsigChain) (octets : List ℕ) (found : Accepted) where
  -- what an answer comes to by its verdict and by what is read of it
  abbrev comes_to : Result TsigChain VerifyError → Result (Message × ℕ) DecodeError → Answered
  comes_to given read = given >>= λ next. Ok record { report = report_read trust chain.first read; next = next }

  by_verdict : (read : Result (Message × ℕ) DecodeError) (given : Result TsigChain VerifyError)
      → given ≡ with_tsig (signature_verdict chain octets) read → comes_to given read ≡ Ok found
      → (message : Message) × (e : ℕ) × (read ≡ Ok (message, e)) × (found.report ≡ report_of trust chain.first message)
  by_verdict (Ok x) (Ok next) verdict_is is = (x.0, x.1, refl, sym (ap report_in is))
  by_verdict (Ok x) (Err cause) verdict_is is = absurd cc
  by_verdict (Err cause) (Ok next) verdict_is is = absurd cc
  by_verdict (Err cause) (Err other) verdict_is is = absurd cc

pub reports_are_of_messages : ReportsAreOfMessages
reports_are_of_messages trust chain octets found is =
    by_verdict trust chain octets found (message_at rdata_table octets) (verdict chain octets) refl is
