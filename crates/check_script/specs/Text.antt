-- The lines of the text, each with its line feed.
use Rattle.std.specs.Prelude.{ℕ, nat_eq, if◌then◌else◌, List, [], ◌++◌, length, codes, Option, Some, None}
use Rattle.std.specs.Fmt.{decimal}
use Rattle.std.specs.List.{flat_map}
use Rattle.dns_text.specs.HexText.{lower_hex}
use Rattle.dns_names.specs.NameText.{name_text}
use Rattle.dns_types.specs.Codes.{type_text, class_text}
use Rattle.sec_codes.specs.Proofs.{proof_text}
use Rattle.dns_message.specs.declared.section.Section.{Section}
use Rattle.dns_message.specs.declared.section.Section.TheVariants as sections
use Rattle.sec_check.specs.declared.set_proof.SetProof.{SetProof}
use Rattle.sec_check.specs.Reports.{ReportData}
use Rattle.sec_tsig.specs.declared.verify_error.VerifyError.{VerifyError}
use Rattle.sec_tsig.specs.declared.verify_error.VerifyError.TheVariants as causes

-- the signed request, in lower case
abbrev pub request_text : List ℕ → List ℕ
request_text octets = codes "request " ++ lower_hex octets ++ codes "\n"

-- an answer that is accepted, and how many sets it has
abbrev pub accepted_text : ℕ → ℕ → List ℕ
accepted_text number sets = codes "answer " ++ decimal number ++ codes " ok " ++ decimal sets ++ codes "\n"

-- the time of the server that an answer tells (RFC 8945 5.2.3)
abbrev pub time_text : Option ℕ → List ℕ
time_text (Some time) = codes " " ++ decimal time
time_text None = []

-- the number of the error that the transaction signature of an accepted answer tells (RFC 8945 3); 0 is none
abbrev pub tsig_text : ℕ → Option ℕ → List ℕ
tsig_text error time = if nat_eq error 0 then [] else codes "tsig " ++ decimal error ++ time_text time ++ codes "\n"

-- why an answer is refused (want of memory is no cause, and is never printed)
abbrev pub cause_word : VerifyError → List ℕ
cause_word causes.Decode = codes "Decode"
cause_word causes.MissingTsig = codes "MissingTsig"
cause_word causes.TsigWrongKey = codes "TsigWrongKey"
cause_word causes.TruncatedMac = codes "TruncatedMac"
cause_word causes.HmacInvalid = codes "HmacInvalid"
cause_word causes.Outdated = codes "Outdated"
cause_word causes.NotAResponse = codes "NotAResponse"
cause_word causes.OutOfMemory = codes "OutOfMemory"

abbrev pub refused_text : ℕ → VerifyError → List ℕ
refused_text number cause = codes "answer " ++ decimal number ++ codes " " ++ cause_word cause ++ codes "\n"

-- the section of the message that a set stands in: answers, authorities, additionals
abbrev pub section_word : Section → List ℕ
section_word sections.Answer = codes "an"
section_word sections.Authority = codes "ns"
section_word sections.Additional = codes "ar"

-- a set of an answer: section, owner, class, type and mark
abbrev pub set_text : SetProof → List ℕ
set_text set = section_word set.section ++ codes " " ++ name_text set.owner ++ codes " " ++ class_text set.dns_class
    ++ codes " " ++ type_text set.rtype ++ codes " " ++ proof_text set.proof ++ codes "\n"

-- an answer that is accepted: a line for it, one for the error of its transaction signature where it tells one, and one
-- for each of its sets
abbrev pub report_text : ℕ → ReportData → List ℕ
report_text number report = accepted_text number (length report.sets) ++ tsig_text report.tsig_error report.server_time
    ++ flat_map set_text report.sets
