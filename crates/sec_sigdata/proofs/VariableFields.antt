-- The TSIG variables, written field by field.
use Rattle.std.proofs.Common.{◌≡◌, ℕ, ◌^◌, Bool, true, false, List, length, refl, append_assoc}
use Rattle.std.specs.Prelude.{nat_lt}
use Rattle.std.proofs.lemmas.List.{append-nil}
use Rattle.dns_names.specs.Names.{low}
use Rattle.dns_grammar.specs.Fields.{fields_octets}
use Rattle.dns_grammar.specs.Messages.{TsigData}
use Rattle.sec_sigdata.specs.TsigRecords.{error_variables, key_variables, tsig_timers, tsig_variables, variables_row}
use Rattle.sec_sigdata.specs.TsigRecords.{variables_values, written_variables}

at_bits : (canonical : Bool) (owner : List (List ℕ)) (tsig : TsigData) (time other : Bool)
    → nat_lt tsig.time (2 ^ 48) ≡ time → nat_lt (length tsig.other) (2 ^ 16) ≡ other
    → fields_octets canonical variables_row (variables_values (low owner) (low tsig.algorithm) tsig)
    ≡ written_variables owner tsig
unfolding tsig_variables key_variables tsig_timers error_variables
at_bits canonical owner tsig false other e f = rw e refl
at_bits canonical owner tsig true false e f = rw (e, f) refl
at_bits canonical owner tsig true true e f = rw (e, f) (simp (append_assoc, append-nil))

pub variables_written : (canonical : Bool) (owner : List (List ℕ)) (tsig : TsigData)
    → fields_octets canonical variables_row (variables_values (low owner) (low tsig.algorithm) tsig)
    ≡ written_variables owner tsig
variables_written canonical owner tsig = at_bits canonical owner tsig (nat_lt tsig.time (2 ^ 48))
    (nat_lt (length tsig.other) (2 ^ 16)) refl refl
