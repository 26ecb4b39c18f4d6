-- Why there are no octets to sign.
use Rattle.std.specs.Prelude.{Result, Ok, Err}
use Rattle.dns_wire.specs.declared.error.EmitError.{EmitError}
use Rattle.dns_wire.specs.declared.error.EmitError.TheVariants as emit
use Rattle.sec_sign.specs.declared.tbs_error.TbsError.{TbsError}
use Rattle.sec_sign.specs.declared.tbs_error.TbsError.TheVariants.{Emit, OutOfMemory}

-- why a record can't be written, as a cause of the set; out of memory stays such
abbrev pub tbs_cause : EmitError → TbsError
tbs_cause emit.OutOfMemory = OutOfMemory
tbs_cause cause = Emit cause

-- the same of what is written
abbrev pub for_set : {A : Type 0} → Result A EmitError → Result A TbsError
for_set (Ok x) = Ok x
for_set (Err cause) = Err (tbs_cause cause)
