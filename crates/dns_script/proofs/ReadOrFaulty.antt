-- Octets are a script, or have a faulty line: no definition answers out of memory, where none does for a line.
use Rattle.std.proofs.Common.{◌≢◌, ◌≡◌, ℕ, ◌+◌, Bool, true, false, cond, List, [], ◌∷◌, length, Option, Some, None}
use Rattle.std.proofs.Common.{Result, Ok, Err, subst}
use Rattle.std.specs.List.{list_all}
use Rattle.std.specs.Option.{ok_or}
use Rattle.dns_text.specs.Words.{is_skipped, is_text, lines, words, behind_word, without_return}
use Rattle.dns_wire.specs.Reading.{◌>>=◌}
use Rattle.dns_script.specs.declared.error.LineError.{LineError}
use Rattle.dns_script.specs.declared.error.LineError.TheVariants.{Fault, OutOfMemory}
use Rattle.dns_script.specs.declared.error.ScriptError.{ScriptError}
use Rattle.dns_script.specs.declared.error.ScriptError.TheVariants as errors
use Rattle.dns_script.specs.declared.reason.Reason.{Reason}
use Rattle.dns_script.specs.declared.reason.Reason.TheVariants as reasons
use Rattle.dns_script.specs.LineErrors.{at_line}
use Rattle.dns_script.specs.Scripts.{ScriptKind, add_words, add_line, add_lines, finished, script_of}

-- what a line says, or its fault
abbrev pub IsSaidOrFault : {X : Type 0} → Result X LineError → Type 0
IsSaidOrFault (Ok _) = Unit {0}
IsSaidOrFault (Err (Fault _)) = Unit {0}
IsSaidOrFault (Err OutOfMemory) = ⊥

-- what lines say, or the fault of one
abbrev IsReadOrFault : {X : Type 0} → Result X ScriptError → Type 0
IsReadOrFault (Ok _) = Unit {0}
IsReadOrFault (Err (errors.Fault _ _)) = Unit {0}
IsReadOrFault (Err errors.OutOfMemory) = ⊥

-- ---- definitions by cases

pub needed : {X : Type 0} (o : Option X) (reason : Reason) → IsSaidOrFault (ok_or o (Fault reason))
needed (Some x) reason = tt
needed None reason = tt

pub next : {X Y : Type 0} (read : Result X LineError) (f : X → Result Y LineError) → IsSaidOrFault read
    → ((x : X) → IsSaidOrFault (f x)) → IsSaidOrFault (read >>= f)
next (Ok x) f first later = later x
next (Err (Fault reason)) f first later = tt
next (Err OutOfMemory) f first later = absurd first

pub either : {X : Type 0} (b : Bool) (x y : Result X LineError) → IsSaidOrFault x → IsSaidOrFault y
    → IsSaidOrFault (cond b x y)
either true x y left right = left
either false x y left right = right

-- ---- scripts

module _ {Said Script : Type 0} (kind : ScriptKind Said Script)
    (added : (said : Said) (word text : List ℕ) → IsSaidOrFault (kind.add said word text)) where
  words_added : (said : Said) (found : List (List ℕ)) (text : List ℕ) → IsSaidOrFault (add_words kind said found text)
  words_added said [] text = tt
  words_added said (word ∷ _) text = added said word text

  line_added : (said : Said) (line : List ℕ) → IsSaidOrFault (add_line kind said line)
  line_added said line =
      let found = add_words kind said (words line) (behind_word line) in
      either (is_skipped line) (Ok said) (cond (list_all is_text line) found (Err (Fault reasons.Text))) tt
      (either (list_all is_text line) found (Err (Fault reasons.Text)) (words_added said (words line) (behind_word line)) tt)

  lines_added : (number : ℕ) (said : Said) (rest : List (List ℕ)) → IsReadOrFault (add_lines kind number said rest)
  unfolding add_lines
  lines_added number said [] = tt
  lines_added number said (line ∷ rest) =
      go (add_line kind said (without_return line)) (line_added said (without_return line))
      (λ more. lines_added (number + 1) more rest)
    where
      go : (line_said : Result Said LineError) → IsSaidOrFault line_said
          → ((more : Said) → IsReadOrFault (add_lines kind (number + 1) more rest))
          → IsReadOrFault (at_line number line_said >>= λ more. add_lines kind (number + 1) more rest)
      go (Ok more) is later = later more
      go (Err (Fault reason)) is later = tt
      go (Err OutOfMemory) is later = absurd is

  ended : (number : ℕ) (said : Said) → IsReadOrFault (finished kind number said)
  ended number said = go (kind.whole said)
    where
      go : (whole : Option Script) → IsReadOrFault (ok_or whole (errors.Fault number reasons.End))
      go (Some script) = tt
      go None = tt

  all_read : (octets : List ℕ) → IsReadOrFault (script_of kind octets)
  unfolding script_of
  all_read octets =
      go (add_lines kind 1 kind.nothing_said (lines octets)) (lines_added 1 kind.nothing_said (lines octets))
      (length (lines octets) + 1)
    where
      go : (found : Result Said ScriptError) → IsReadOrFault found → (number : ℕ)
          → IsReadOrFault (found >>= finished kind number)
      go (Ok said) is number = ended number said
      go (Err (errors.Fault line reason)) is number = tt
      go (Err errors.OutOfMemory) is number = absurd is

  pub never_out_of_memory : (octets : List ℕ) → script_of kind octets ≢ Err errors.OutOfMemory
  never_out_of_memory octets is = subst (λ (found : Result Script ScriptError). IsReadOrFault found) is (all_read octets)
