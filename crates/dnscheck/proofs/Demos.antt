-- The script of a demo, and what it comes to.
use Rattle.std.proofs.Common.{◌≡◌, ◌≢◌, ℕ, List, [], ◌∷◌, ◌++◌, map, Bool, true, false, cond, if◌then◌else◌}
use Rattle.std.proofs.Common.{Option, Some, None, IsSome, option_map, Result, Ok, Err, is_ok, refl, sym, ap, subst, ◌∙◌}
use Rattle.std.proofs.lemmas.List.{map-append}
use Rattle.std.specs.Io.KnownBytes.{Appends}
use Rattle.std.specs.List.{list_all}
use Rattle.std.specs.Result.{result_ok, result_unwrap_or}
use Rattle.dns_io.specs.declared.status.Status.{Status}
use Rattle.dns_io.specs.declared.status.Status.TheVariants.{Accepted, Refused}
use Rattle.dns_script.specs.declared.error.LineError.TheVariants.{Fault}
use Rattle.dns_script.specs.declared.reason.Reason.{Reason}
use Rattle.dns_script.specs.Sessions.{WritesNothing, write_faults_after}
use Rattle.dns_wire.specs.declared.error.EmitError.{EmitError}
use Rattle.sec_sign.specs.Verifying.{Relation}
use Rattle.sec_tsig.specs.Requests.{is_request, signed_request}
use Rattle.sec_tsig.specs.Signers.{request_record}
use Rattle.sec_tsig.specs.Tsig.{with_record}
use Rattle.sec_tsig.specs.Verdict.{TsigChain, first_chain}
use Rattle.signer_lines.specs.Requests.{SignedRequest, or_faulty}
use Rattle.dns_demo.specs.Demo.{demo_request, demo_signer, demo_time, followed_by_tsig}
use Rattle.check_script.specs.Script.{Script}
use Rattle.check_script.specs.Answers.{found}
use Rattle.check_script.specs.Taking.{with_answers}
use Rattle.dnscheck.specs.declared.counts.Counts.{Counts}
use Rattle.dnscheck.specs.Counts.{counted, counting, no_counts}
use Rattle.dnscheck.specs.Demos.{counts_text, demo_answer, demo_script, demo_signed, demo_status, demo_text}
use Rattle.dnscheck.specs.Demos.{DemoComesTo}
use Rattle.dnscheck.proofs.Counting.{all_counted}

-- one more answer at the moment of a demo
pub one_more_answer : {A : Type 0} (octets_of : A → List ℕ) (before : List A) (x : A)
    → map demo_answer (map octets_of (before ++ x ∷ []))
    ≡ map demo_answer (map octets_of before) ++ demo_answer (octets_of x) ∷ []
one_more_answer octets_of before x =
    ap (map demo_answer) (map-append octets_of before (x ∷ []))
    ∙ map-append demo_answer (map octets_of before) (octets_of x ∷ [])

-- the text of a demo whose answers come to these counts
pub text_is : (accepts : Relation) (count : ℕ) (script : Script) (counts : Counts) (old new : List ℕ)
    → script ≡ demo_script count → counts ≡ with_answers counting no_counts 1 (found accepts script) → old ≡ []
    → new ≡ old ++ counts_text count counts → new ≡ demo_text accepts count
unfolding demo_text
text_is accepts count script counts old new made taken none pushed =
    pushed ∙ ap (λ (t : List ℕ). t ++ counts_text count counts) none
    ∙ ap (counts_text count) (taken ∙ all_counted (found accepts script)
    ∙ ap (λ (s : Script). counted (found accepts s)) made)

-- the signed request, as the demo's
pub signed_is : (request : SignedRequest) → or_faulty (signed_request demo_signer demo_time demo_request) ≡ Ok request
    → request ≡ demo_signed
unfolding demo_signed followed_by_tsig
signed_is request is =
    go (is_request demo_request) (with_record demo_request (request_record demo_signer demo_time demo_request)) is
  where
    go : (request_is : Bool) (written : Result (List ℕ) EmitError)
        → or_faulty (cond request_is (option_map (λ signed. (signed, first_chain demo_signer demo_time demo_request))
        (result_ok written)) None) ≡ Ok request
        → request ≡ record {
          octets = result_unwrap_or written [];
          chain = first_chain demo_signer demo_time demo_request;
        }
    go true (Ok octets) e = cc
    go true (Err cause) e = cc
    go false written e = cc

-- a request that is signed has no fault
pub never_faulty : (request : Option (List ℕ × TsigChain)) → IsSome request → (reason : Reason)
    → or_faulty request ≢ Err (Fault reason)
never_faulty (Some signed) is reason e = absurd cc
never_faulty None is reason e = absurd cc

-- ---- the status

module _ (accepts : Relation) (count : ℕ) (status : Status) (is : status ≡ demo_status accepts count) where
  as_script : status ≡ (if list_all is_ok (found accepts (demo_script count)) then Accepted else Refused)
  unfolding demo_status
  as_script = is

  -- it is one of two
  either_way : (Has : Status → Type 0) → Has Accepted → Has Refused → Has status
  either_way Has accepted refused = go (list_all is_ok (found accepts (demo_script count))) as_script
    where
      go : (b : Bool) → status ≡ (if b then Accepted else Refused) → Has status
      go true e = subst Has (sym e) accepted
      go false e = subst Has (sym e) refused

  pub writes_text : WritesNothing status → ⊥
  writes_text = either_way (λ s. WritesNothing s → ⊥) (λ nothing. nothing) (λ nothing. nothing)

  pub no_write_fault : (before : ℕ) → write_faults_after before status ≡ before
  no_write_fault before = either_way (λ s. write_faults_after before s ≡ before) refl refl

  pub comes_to : (before after : Option (List ℕ)) → Appends before after (demo_text accepts count)
      → DemoComesTo accepts count status before after
  comes_to before after appended =
      either_way (λ s. status ≡ s → DemoComesTo accepts count s before after) (λ e. (sym is ∙ e, appended))
      (λ e. (sym is ∙ e, appended)) refl

pub ruleset shown_steps = (writes_text, no_write_fault, comes_to)
