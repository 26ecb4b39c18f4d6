-- What comes of the octets of a source: a status, and what is written to a sink.
use Rattle.std.specs.Prelude.{◌≡◌, ℕ, ◌<◌, ◌≤◌, List, length, Option}
use Rattle.std.specs.Io.KnownBytes.{Appends, Consumes, IsAtEnd}
use Rattle.dns_io.specs.declared.status.Status.{Status}
use Rattle.dns_io.specs.declared.status.Status.TheVariants.{Usage, ReadFault, TooLong, OutOfMemory, WriteFault}
use Rattle.dns_io.specs.declared.status.Status.TheVariants.{ScriptFault, Refused, Accepted}
use Rattle.dns_io.specs.declared.transfer.TheConstants.{INPUT_LIMIT}
use Rattle.dns_io.specs.Counts.{raised}
use Rattle.dns_io.specs.Transfer.{AppendsPrefix}

-- ---- what may come of octets

-- A session: which text may come of an X, and with which status. Where a command signs, more than one text may.
abbrev pub Session : Type 0 → Type 1
Session X = X → List ℕ → Status → Type 0

-- this text alone, with this status
abbrev pub only : {X : Type 0} → (X → List ℕ) → (X → Status) → Session X
only text status x written told = (written ≡ text x) × (told ≡ status x)

-- the statuses that a session comes to
abbrev pub IsOutcome : Status → Type 0
IsOutcome Usage = ⊥
IsOutcome ReadFault = ⊥
IsOutcome TooLong = ⊥
IsOutcome OutOfMemory = ⊥
IsOutcome WriteFault = ⊥
IsOutcome ScriptFault = Unit {0}
IsOutcome Refused = Unit {0}
IsOutcome Accepted = Unit {0}

-- ---- what is written

-- the text that comes with this status is appended
abbrev pub Writes : Session (List ℕ) → List ℕ → Status → Option (List ℕ) → Option (List ℕ) → Type 0
Writes session octets status before after =
    (text : List ℕ) × session octets text status × Appends before after text

-- the same, but that a write failed: the status is not told, and a prefix of the text is appended
abbrev pub WritesPart : Session (List ℕ) → List ℕ → Option (List ℕ) → Option (List ℕ) → Type 0
WritesPart session octets before after =
    (text : List ℕ) × (status : Status) × session octets text status × AppendsPrefix before after text

-- What a run comes to that reads these octets, and what the sink holds before and after it. A failed read and want of
-- memory may come at any octets.
abbrev pub ComesTo : Session (List ℕ) → List ℕ → Status → Option (List ℕ) → Option (List ℕ) → Type 0
ComesTo session octets Usage before after = ⊥
ComesTo session octets ReadFault before after = Unit {0}
ComesTo session octets TooLong before after = INPUT_LIMIT < length octets
ComesTo session octets OutOfMemory before after = Unit {0}
ComesTo session octets WriteFault before after = (length octets ≤ INPUT_LIMIT) × WritesPart session octets before after
ComesTo session octets ScriptFault before after = (length octets ≤ INPUT_LIMIT)
    × Writes session octets ScriptFault before after
ComesTo session octets Refused before after = (length octets ≤ INPUT_LIMIT) × Writes session octets Refused before after
ComesTo session octets Accepted before after = (length octets ≤ INPUT_LIMIT)
    × Writes session octets Accepted before after

-- the count of failed reads after a run: one more where it comes to ReadFault, and else the same
abbrev pub read_faults_after : ℕ → Status → ℕ
read_faults_after before ReadFault = raised before 1
read_faults_after before _ = before

-- the count of failed writes after a run: one more where it comes to WriteFault, and else the same
abbrev pub write_faults_after : ℕ → Status → ℕ
write_faults_after before WriteFault = raised before 1
write_faults_after before _ = before

-- the statuses under which nothing is written
abbrev pub WritesNothing : Status → Type 0
WritesNothing Usage = Unit {0}
WritesNothing ReadFault = Unit {0}
WritesNothing TooLong = Unit {0}
WritesNothing OutOfMemory = Unit {0}
WritesNothing WriteFault = ⊥
WritesNothing ScriptFault = ⊥
WritesNothing Refused = ⊥
WritesNothing Accepted = ⊥

-- the statuses under which a text is written, whole or in part
abbrev pub WritesText : Status → Type 0
WritesText Usage = ⊥
WritesText ReadFault = ⊥
WritesText TooLong = ⊥
WritesText OutOfMemory = ⊥
WritesText WriteFault = Unit {0}
WritesText ScriptFault = Unit {0}
WritesText Refused = Unit {0}
WritesText Accepted = Unit {0}

-- Octets were consumed, to the end, and all of them are counted; and the run comes to what they come to.
pub record SessionWritten (session : Session (List ℕ)) (status : Status) (left_before left_after : Option (List ℕ))
    (taken_before taken_after : ℕ) (held_before held_after : Option (List ℕ)) : Type 0 where
  pub octets : List ℕ
  pub consumed : Consumes left_before left_after octets
  pub at_end : IsAtEnd left_after
  pub counted : taken_after ≡ raised taken_before (length octets)
  pub comes_to : ComesTo session octets status held_before held_after
