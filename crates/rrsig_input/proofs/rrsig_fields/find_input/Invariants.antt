use Rattle.std.proofs.Common.{◌≡◌, length}
use Rattle.std.specs.List.{AllByRecursion}
use Rattle.dns_names.specs.PointerCache.{IsPointerCache}
use Rattle.std.specs.Option.{ok_or}
use Rattle.dns_grammar.specs.Messages.{message_at}
use Rattle.dns_rdata.specs.RDataTable.{rdata_table}
use Rattle.rrsig_input.specs.declared.input_error.InputError.TheVariants.{NoRrsig}
use Rattle.rrsig_input.specs.SignedSets.{input_in}
use Rattle.rrsig_input.proofs.Walks.{input_among}
use Rattle.rrsig_input.proofs.MessageSteps.{IsPlace}
use Rattle.rrsig_input.proofs.rrsig_fields.find_input.Given as goal

abbrev pub invariant-records : goal.invariant-records
invariant-records l = record {
  found : ok_or (input_among l.message l.start l.walk.left) NoRrsig ≡ input_in (message_at rdata_table l.message) l.start;
  same : l.walk.message ≡ l.message;
  cache : IsPointerCache l.message l.cache;
  stand : AllByRecursion (IsPlace l.message) l.walk.left;
}

abbrev pub decreases-records : goal.decreases-records
decreases-records l = length l.walk.left
