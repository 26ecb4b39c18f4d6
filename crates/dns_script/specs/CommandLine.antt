-- How a run ends whose words could not be had: there was no memory, or a word is no text.
use Rattle.std.specs.Prelude.{◌≡◌, ◌⊎◌}
use Rattle.std.specs.declared.io.ErrorKind.{ErrorKind}
use Rattle.std.specs.declared.io.ErrorKind.TheVariants as kinds
use Rattle.dns_io.specs.declared.status.Status.{Status}
use Rattle.dns_io.specs.declared.status.Status.TheVariants.{Usage, OutOfMemory}

abbrev pub status_without_words : ErrorKind → Status
status_without_words kinds.OutOfMemory = OutOfMemory
status_without_words _ = Usage

-- the statuses of such a run
abbrev pub IsWithoutWords : Status → Type 0
IsWithoutWords status = (status ≡ OutOfMemory) ⊎ (status ≡ Usage)
