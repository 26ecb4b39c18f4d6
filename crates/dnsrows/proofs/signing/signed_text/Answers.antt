use Rattle.std.proofs.Common.{rules, ◌≡◌, ℕ, List, Some, Ok, Result, sym, ap, subst, ◌∙◌}
use Rattle.std.specs.Prelude.{slice_get}
use Rattle.std.specs.String.{string_bytes}
use Rattle.dns_rdata.specs.RData.{rdata_type}
use Rattle.dns_wire.specs.Reading.{GivesUnless}
use Rattle.dns_rows.specs.declared.refusal.Refusal.{Refusal}
use Rattle.dns_rows.specs.declared.refusal.Refusal.TheVariants.{OutOfMemory as no_memory}
use Rattle.sec_keydata.specs.DnsKeys.{dnskey_data}
use Rattle.sec_sigdata.specs.Signatures.{rrsig_data, sig_text}
use Rattle.sec_sign.specs.Signers.{SignerData}
use Rattle.dnsrows.specs.Signing.{hash_signer, signed_set}
use Rattle.dnsrows.proofs.SigningSteps.{same_set, shown_text, signed_first}
use Rattle.dnsrows.proofs.signing.signed_text.Goals as goal

pub returns-in_err-rrsig : goal.returns-in_err-rrsig
returns-in_err-rrsig c =
    let signer : SignerData = hash_signer (dnskey_data c.args.dnskey) c.args.signer_name c.args.duration in
    let here : Some c.in-Some.first.now ≡ slice_get c.args.records.items 0 = search rules in
    let is : c.in_ok-set.set ≡ same_set c.in-Some.first.now.name (rdata_type c.in-Some.first.now.rdata)
    c.in-Some.first.now.ttl c.args.records.items = search rules in
    let made : GivesUnless no_memory (λ text. string_bytes text) c.from_residual-in_err-rrsig.result
    (shown_text (signed_set signer c.in_ok-set.set c.in-Some.first.now.dns_class c.args.inception)) = search rules in
    subst (GivesUnless no_memory (λ text. string_bytes text) c.from_residual-in_err-rrsig.result)
    (sym (signed_first signer c.args.inception c.args.records.items c.in-Some.first.now c.in_ok-set.set here c.requires is))
    made

pub returns : goal.returns
returns c =
    let signer : SignerData = hash_signer (dnskey_data c.args.dnskey) c.args.signer_name c.args.duration in
    let here : Some c.in-Some.first.now ≡ slice_get c.args.records.items 0 = search rules in
    let is : c.in_ok-set.set ≡ same_set c.in-Some.first.now.name (rdata_type c.in-Some.first.now.rdata)
    c.in-Some.first.now.ttl c.args.records.items = search rules in
    let made : signed_set signer c.in_ok-set.set c.in-Some.first.now.dns_class c.args.inception
    ≡ Ok (rrsig_data c.in_ok-rrsig.rrsig) = search rules in
    let text : sig_text (rrsig_data c.in_ok-rrsig.rrsig) ≡ string_bytes c.in_ok-to_string.field-0 = search rules in
    signed_first signer c.args.inception c.args.records.items c.in-Some.first.now c.in_ok-set.set here c.requires is
    ∙ ap shown_text made
    ∙ ap (λ (t : List ℕ). let signed_owner : Result (List ℕ) Refusal = Ok t in signed_owner) text
