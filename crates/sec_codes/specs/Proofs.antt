-- How far records are proved authentic (RFC 4035 4.3), and sets of such answers.
use Rattle.std.specs.Prelude.{Bool, ◌==◌, ℕ, ◌^◌, List, codes}
use Rattle.std.specs.Int.RustNames.{bit_and}
use Rattle.sec_codes.specs.declared.proof_flags.ProofFlags.{ProofFlags}
use Rattle.sec_codes.specs.declared.proof.Proof.{Proof}
use Rattle.sec_codes.specs.declared.proof.Proof.TheVariants.{Indeterminate, Bogus, Insecure, Secure}

-- the number of a proof, which is its place in their order
abbrev pub proof_number : Proof → ℕ
proof_number Indeterminate = 0
proof_number Bogus = 1
proof_number Insecure = 2
proof_number Secure = 3

-- the name of a proof
abbrev pub proof_text : Proof → List ℕ
proof_text Indeterminate = codes "Indeterminate"
proof_text Bogus = codes "Bogus"
proof_text Insecure = codes "Insecure"
proof_text Secure = codes "Secure"

-- the flag of a proof
abbrev pub flag : Proof → ℕ
flag proof = 2 ^ proof_number proof

-- the number whose bits are the flags
abbrev pub bits : ProofFlags → ℕ
bits flags = flags.0

-- whether a proof's flag is among some flags
abbrev pub among : ProofFlags → Proof → Bool
among flags proof = bit_and (bits flags) (flag proof) == flag proof
