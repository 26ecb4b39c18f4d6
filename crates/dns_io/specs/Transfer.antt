-- What reading all and writing all come to.
use Rattle.std.specs.Prelude.{◌≡◌, ◌<◌, ◌≤◌, ℕ, List, ◌++◌, length, Result, Ok, Err, Vec, IfSome}
use Rattle.std.specs.declared.alloc.Global.{Global}
use Rattle.std.specs.declared.option.Option.{Option}
use Rattle.std.specs.Io.KnownBytes.{Appends, Consumes}
use Rattle.dns_io.specs.Counts.{raised}
use Rattle.dns_io.specs.declared.transfer.TheConstants.{INPUT_LIMIT}
use Rattle.dns_io.specs.declared.transfer.ReadError.{ReadError}
use Rattle.dns_io.specs.declared.transfer.ReadError.TheVariants.{Fault, TooLong, OutOfMemory}

-- What is read is all that the source told of, and it is too long exactly where that passes `INPUT_LIMIT`.
abbrev pub ReadsAll : Result (Vec ℕ Global) ReadError → Option (List ℕ) → Type 0
ReadsAll (Ok content) left = IfSome left (λ octets. content.items ≡ octets) × (length content.items ≤ INPUT_LIMIT)
ReadsAll (Err TooLong) left = IfSome left (λ octets. INPUT_LIMIT < length octets)
ReadsAll (Err Fault) left = Unit {0}
ReadsAll (Err OutOfMemory) left = Unit {0}

-- reading all raises the count of faults by one where a read failed, and else leaves it
abbrev pub CountsReadFault : {T : Type 0} → ℕ → ℕ → Result T ReadError → Type 0
CountsReadFault before now (Ok content) = now ≡ before
CountsReadFault before now (Err Fault) = now ≡ raised before 1
CountsReadFault before now (Err TooLong) = now ≡ before
CountsReadFault before now (Err OutOfMemory) = now ≡ before

-- a prefix of the text is appended
abbrev pub AppendsPrefix : Option (List ℕ) → Option (List ℕ) → List ℕ → Type 0
AppendsPrefix old new text = (prefix rest : List ℕ) × (text ≡ prefix ++ rest) × Appends old new prefix

-- the first n octets left go to the end of the content
pub record Moves (old new : Option (List ℕ)) (before after : List ℕ) (n : ℕ) : Type 0 where
  pub octets : List ℕ
  pub count : length octets ≡ n
  pub consumed : Consumes old new octets
  pub appended : after ≡ before ++ octets
