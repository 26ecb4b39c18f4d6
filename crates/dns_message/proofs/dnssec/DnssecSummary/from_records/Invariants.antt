use Rattle.std.proofs.Common.{◌≡◌, drop}
use Rattle.dns_message.specs.Summary.{shown_proofs, summary}
use Rattle.dns_message.proofs.SummarySteps.{judged}
use Rattle.dns_message.proofs.dnssec.DnssecSummary.from_records.Given as goal

-- what is known so far, and the records that are left, give the word
abbrev pub invariant-loop-rr : goal.invariant-loop-rr
invariant-loop-rr l = judged l.some l.all_secure (shown_proofs (drop l.rr-index l.records)) ≡ summary l.records
