-- The numbers of the statuses.
use Rattle.std.specs.Prelude.{ℕ}
use Rattle.dns_io.specs.declared.status.Status.{Status}
use Rattle.dns_io.specs.declared.status.Status.TheVariants.{Usage, ReadFault, TooLong, OutOfMemory, WriteFault}
use Rattle.dns_io.specs.declared.status.Status.TheVariants.{ScriptFault, Refused, Accepted}

-- the number that a program ends with
abbrev pub status_number : Status → ℕ
status_number Usage = 64
status_number ReadFault = 3
status_number TooLong = 6
status_number OutOfMemory = 5
status_number WriteFault = 4
status_number ScriptFault = 2
status_number Refused = 1
status_number Accepted = 0
