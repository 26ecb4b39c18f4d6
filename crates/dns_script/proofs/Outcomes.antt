-- A session comes to no fault of the outside.
use Rattle.std.proofs.Common.{◌≡◌, ℕ, refl}
use Rattle.dns_io.specs.declared.status.Status.{Status}
use Rattle.dns_io.specs.declared.status.Status.TheVariants.{Usage, ReadFault, TooLong, OutOfMemory, WriteFault}
use Rattle.dns_io.specs.declared.status.Status.TheVariants.{ScriptFault, Refused, Accepted}
use Rattle.dns_script.specs.Sessions.{IsOutcome, read_faults_after, write_faults_after}

pub no_read_fault : (status : Status) (before : ℕ) → IsOutcome status → read_faults_after before status ≡ before
no_read_fault Usage before is = absurd is
no_read_fault ReadFault before is = absurd is
no_read_fault TooLong before is = absurd is
no_read_fault OutOfMemory before is = absurd is
no_read_fault WriteFault before is = absurd is
no_read_fault ScriptFault before is = refl
no_read_fault Refused before is = refl
no_read_fault Accepted before is = refl

pub no_write_fault : (status : Status) (before : ℕ) → IsOutcome status → write_faults_after before status ≡ before
no_write_fault Usage before is = absurd is
no_write_fault ReadFault before is = absurd is
no_write_fault TooLong before is = absurd is
no_write_fault OutOfMemory before is = absurd is
no_write_fault WriteFault before is = absurd is
no_write_fault ScriptFault before is = refl
no_write_fault Refused before is = refl
no_write_fault Accepted before is = refl
