-- Accepted octets are a response.
use Rattle.std.proofs.Common.{◌≡◌, ◌⊎◌, inl, inr, List, ℕ, Result, Ok, Err, ap}
use Rattle.std.proofs.lemmas.Bool.{le-leb}
use Rattle.std.specs.Prelude.{IsOkAnd}
use Rattle.dns_message.specs.declared.response.DnsResponse.{DnsResponse}
use Rattle.dns_message.specs.declared.response.ResponseError.{ResponseError}
use Rattle.dns_message.specs.declared.response.ResponseError.TheVariants as response_errors
use Rattle.dns_message.specs.Responses.{ReadsResponse, response_parts}
use Rattle.dns_message.specs.Parts.{parts_of}
use Rattle.sec_tsig.specs.declared.verify_error.VerifyError.TheVariants as causes
use Rattle.sec_tsig.specs.ResponseCauses.{response_cause}
use Rattle.sec_tsig.specs.Verdict.{TsigChain, verdict}
use Rattle.sec_tsig.proofs.ByMessage.{accepted_is_valid}

abbrev pub refused : ResponseError → Result DnsResponse ResponseError
refused error = Err error

-- so reading them as one refuses them for out of memory alone
pub wants_memory : (chain next : TsigChain) (m : List ℕ) (error : ResponseError) → verdict chain m ≡ Ok next
    → ReadsResponse m (refused error) → response_cause error ≡ causes.OutOfMemory
wants_memory chain next m error accepted reads =
    let valid = (accepted_is_valid chain next m accepted).1 in
    go (λ response. response_parts response ≡ parts_of valid.message)
    (reads.only valid.message valid.end valid.has.stands (le-leb _ _ valid.response))
  where
    same : refused error ≡ refused response_errors.OutOfMemory → error ≡ response_errors.OutOfMemory
    same e = cc

    go : (P : DnsResponse → Type 0) → (refused error ≡ refused response_errors.OutOfMemory) ⊎ IsOkAnd (refused error) P
        → response_cause error ≡ causes.OutOfMemory
    go P (inl is) = ap response_cause (same is)
    go P (inr none) = absurd none

pub ruleset exits = (wants_memory)
