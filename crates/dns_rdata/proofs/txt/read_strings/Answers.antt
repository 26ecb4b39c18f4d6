use Rattle.std.proofs.Common.{arith}
use Rattle.dns_wire.specs.Reading.{octets, place}
use Rattle.dns_grammar.proofs.CheckLaws.{counted_on}
use Rattle.dns_rdata.proofs.txt.read_strings.Goals as goal

pub strings-smaller : goal.strings-smaller
strings-smaller c =
    let read = c.in_ok-read_counted8_within.ensures.exact in
    let on = counted_on (octets c.strings.reader) (place c.strings.reader) c.args.end _ _ c.strings.invariant.end read.0
    in
    omega (arith, on, c.strings-test.true, c.index.ensures.place, c.in_ok-read_counted8_within.ensures.inside)
