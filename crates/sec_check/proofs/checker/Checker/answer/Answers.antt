use Rattle.std.proofs.Common.{rules, ◌≡◌, ◌∙◌, sym, ap, subst, ℕ, Bool, List, Result, Ok}
use Rattle.dns_grammar.specs.Messages.{Message, message_at}
use Rattle.dns_rdata.specs.RDataTable.{rdata_table}
use Rattle.sec_anchor.specs.Entries.{EntryData}
use Rattle.sec_tsig.specs.declared.verify_error.VerifyError.{VerifyError}
use Rattle.sec_tsig.specs.Notices.{step_notice, notice_by}
use Rattle.sec_tsig.specs.Verdict.{TsigChain, verdict}
use Rattle.sec_tsig.specs.Views.{stepped}
use Rattle.sec_check.specs.Marks.{Trust}
use Rattle.sec_check.specs.Reports.{CheckerData, answered, report_of, trust_of}
use Rattle.sec_check.proofs.Reported.{accepted_report}
use Rattle.sec_check.proofs.checker.Checker.answer.Goals as goal

pub returns-in-Ok : goal.returns-in-Ok
returns-in-Ok g c =
    let accepts = g.S.SignatureScheme.accepts c.args.scheme.now in
    let moment = c.args.moment in
    let chain = c.self.inside.verifier in
    let octets = c.args.octets.now in
    let trust : Trust = record { accepts = accepts; moment = moment; entries = c.self.inside.trusted.entries } in
    let accepted : verdict chain octets ≡ Ok (stepped chain c.in_ok-step.step) = search rules in
    let advanced : verdict chain octets ≡ Ok c.advance.new.self =
    accepted ∙ ap (λ (next : TsigChain). let ok : Result TsigChain VerifyError = Ok next in ok) (sym c.advance.ensures) in
    let told : (m : Message) (e : ℕ) → message_at rdata_table octets ≡ Ok (m, e)
    → step_notice c.in_ok-step.step ≡ notice_by chain.first m = search rules in
    let reports : (first : Bool) (m : Message) (e : ℕ) → message_at rdata_table octets ≡ Ok (m, e)
    → step_notice c.in_ok-step.step ≡ notice_by first m
    → c.in-Ok.report
    ≡ report_of record { accepts = accepts; moment = moment; entries = c.keys-keys.result } first m = search rules in
    let entries : c.keys-keys.result ≡ c.self.inside.trusted.entries = c.keys-keys.ensures ∙ c.index.ensures.entries in (
      subst (λ (checker : CheckerData). answered (trust_of checker accepts moment) checker.chain octets
          ≡ Ok record { report = c.in-Ok.report; next = c.advance.new.self }) c.self.view_is
          (accepted_report trust chain c.advance.new.self octets c.in-Ok.report advanced
          (λ m e read. reports chain.first m e read (told m e read)
          ∙ ap (λ (entries : List EntryData). report_of
          record { accepts = accepts; moment = moment; entries = entries } chain.first m) entries)),
      c.index.ensures.entries ∙ ap (λ (checker : CheckerData). checker.entries) c.self.view_is,
    )
