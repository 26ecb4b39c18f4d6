-- What `demo` makes, and what it comes to.
use Rattle.std.specs.Prelude.{◌≡◌, ℕ, List, ◌++◌, codes, map, Option}
use Rattle.std.specs.Fmt.{decimal}
use Rattle.std.specs.Io.KnownBytes.{Appends}
use Rattle.dns_io.specs.declared.status.Status.{Status}
use Rattle.dns_io.specs.declared.status.Status.TheVariants.{Usage, ReadFault, TooLong, OutOfMemory, WriteFault}
use Rattle.dns_io.specs.declared.status.Status.TheVariants.{ScriptFault, Refused, Accepted}
use Rattle.dns_io.specs.Transfer.{AppendsPrefix}
use Rattle.sec_sign.specs.Verifying.{Relation}
use Rattle.sec_tsig.specs.Signers.{request_record}
use Rattle.sec_tsig.specs.Verdict.{first_chain}
use Rattle.signer_lines.specs.Requests.{SignedRequest}
use Rattle.dns_demo.specs.Demo.{demo_answers, demo_entries, demo_request, demo_signer, demo_time, followed_by_tsig}
use Rattle.check_script.specs.Script.{Answer, Script}
use Rattle.check_script.specs.Answers.{found}
use Rattle.check_script.specs.Session.{script_status}
use Rattle.dnscheck.specs.declared.counts.Counts.{Counts}
use Rattle.dnscheck.specs.Counts.{counted}

-- ---- its script

-- the request, signed at the time of the demo
unfoldable pub demo_signed : SignedRequest
demo_signed = record {
  octets = followed_by_tsig demo_request (request_record demo_signer demo_time demo_request);
  chain = first_chain demo_signer demo_time demo_request;
}

-- an answer that is checked at the moment of the demo
abbrev pub demo_answer : List ℕ → Answer
demo_answer octets = record { moment = demo_time; octets = octets }

-- the script of so many answers
unfoldable pub demo_script : ℕ → Script
demo_script count = record {
  entries = demo_entries;
  request = demo_signed;
  answers = map demo_answer (demo_answers count);
}

-- ---- its text and its status

-- how many answers there are, and how many of them are accepted and refused
abbrev pub answer_counts_text : ℕ → Counts → List ℕ
answer_counts_text count counts =
    codes "demo " ++ decimal count ++ codes " ok " ++ decimal counts.accepted ++ codes " refused " ++ decimal counts.refused

-- how many record sets have each mark
abbrev pub set_counts_text : Counts → List ℕ
set_counts_text counts =
    codes " secure " ++ decimal counts.secure ++ codes " bogus " ++ decimal counts.bogus ++ codes " indeterminate "
    ++ decimal counts.indeterminate ++ codes "\n"

-- the line of a demo of so many answers that come to these counts
abbrev pub counts_text : ℕ → Counts → List ℕ
counts_text count counts = answer_counts_text count counts ++ set_counts_text counts

-- the text of a demo, where a scheme accepts these signatures: what the answers of its script come to, counted
unfoldable pub demo_text : Relation → ℕ → List ℕ
demo_text accepts count = counts_text count (counted (found accepts (demo_script count)))

-- the status that it comes to: that of its script
unfoldable pub demo_status : Relation → ℕ → Status
demo_status accepts count = script_status accepts (demo_script count)

-- What a run of a demo comes to, and what the sink holds before and after it: its status and its text, but for failed
-- writes, after which a prefix of the text is appended, and but for out of memory.
abbrev pub DemoComesTo : Relation → ℕ → Status → Option (List ℕ) → Option (List ℕ) → Type 0
DemoComesTo accepts count Usage before after = ⊥
DemoComesTo accepts count ReadFault before after = ⊥
DemoComesTo accepts count TooLong before after = ⊥
DemoComesTo accepts count OutOfMemory before after = Unit {0}
DemoComesTo accepts count WriteFault before after = AppendsPrefix before after (demo_text accepts count)
DemoComesTo accepts count ScriptFault before after = ⊥
DemoComesTo accepts count Refused before after = (demo_status accepts count ≡ Refused)
    × Appends before after (demo_text accepts count)
DemoComesTo accepts count Accepted before after = (demo_status accepts count ≡ Accepted)
    × Appends before after (demo_text accepts count)
