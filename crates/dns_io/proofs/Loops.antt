-- What the loops of reading and writing keep.
use Rattle.std.proofs.Common.{◌≡◌, ℕ, ◌+◌, ◌≤◌, List, ◌++◌, length, take, drop, Option, sym, ap, ◌∙◌}
use Rattle.std.proofs.Common.{append_assoc, take-append-drop}
use Rattle.std.proofs.KnownBytes.{Appends-trans}
use Rattle.std.specs.Io.KnownBytes.{Appends, Consumes}
use Rattle.dns_io.specs.Counts.{raised}
use Rattle.dns_io.specs.declared.transfer.TheConstants.{INPUT_LIMIT}

-- what has been read is what the source has lost, and is counted
pub record HasRead (left now : Option (List ℕ)) (taken takes faults fails : ℕ) (content : List ℕ) : Type 0 where
  pub within : length content ≤ INPUT_LIMIT + 1
  pub consumed : Consumes left now content
  pub counted : takes ≡ raised taken (length content)
  pub unfailed : fails ≡ faults

-- what has been written and what is left to write are the text
pub record HasWritten (held now : Option (List ℕ)) (faults fails : ℕ) (text rest : List ℕ) : Type 0 where
  pub prefix : List ℕ
  pub whole : text ≡ prefix ++ rest
  pub appended : Appends held now prefix
  pub unfailed : fails ≡ faults

-- a call of write goes on
pub written_on : (held mid now : Option (List ℕ)) (faults fails more n : ℕ) (text rest part : List ℕ)
    → HasWritten held mid faults fails text rest → Appends mid now (take n rest) → more ≡ fails → part ≡ drop n rest
    → HasWritten held now faults more text part
written_on held mid now faults fails more n text rest part so_far wrote same is = record {
  prefix = so_far.prefix ++ take n rest;
  whole = so_far.whole ∙ ap (λ (l : List ℕ). so_far.prefix ++ l)
      (sym (take-append-drop n rest) ∙ ap (λ (l : List ℕ). take n rest ++ l) (sym is))
      ∙ sym (append_assoc so_far.prefix (take n rest) part);
  appended = Appends-trans held mid now so_far.prefix (take n rest) so_far.appended wrote;
  unfailed = same ∙ so_far.unfailed;
}
