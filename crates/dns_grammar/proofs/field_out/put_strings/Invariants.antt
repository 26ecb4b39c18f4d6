use Rattle.dns_wire.specs.declared.error.EmitError.TheVariants.{StringTooLong}
use Rattle.dns_wire.proofs.PutLaws.{HasPut}
use Rattle.dns_grammar.specs.Fields.{One, counted_octets}
use Rattle.dns_grammar.proofs.field_out.put_strings.Given as goal

abbrev pub invariant-loop-string : goal.invariant-loop-string
invariant-loop-string g l =
    HasPut g.S.OctetSink.has_taken (counted_octets One StringTooLong) l.strings l.string-index l.fn.sink l.sink
