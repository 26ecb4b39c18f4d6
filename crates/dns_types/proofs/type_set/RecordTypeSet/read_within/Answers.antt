use Rattle.dns_wire.specs.Reading.{octets, place}
use Rattle.dns_types.specs.TypeSets.{TypesAt}
use Rattle.dns_types.proofs.TypeReaderLaws.{types_are_read}
use Rattle.dns_types.proofs.ReaderLaws.{found_by, only_by}
use Rattle.dns_types.proofs.type_set.RecordTypeSet.read_within.Goals as goal

pub returns-clause-found : goal.returns-clause-found
returns-clause-found c =
    let m = octets c.args.decoder.now in
    let p = place c.args.decoder.now in
    found_by (TypesAt m p c.args.end) (λ set. set) _ _ _ _ (types_are_read m p c.args.end) c.read_up_to.ensures.exact

pub returns-clause-only : goal.returns-clause-only
returns-clause-only c =
    let m = octets c.args.decoder.now in
    let p = place c.args.decoder.now in
    only_by (TypesAt m p c.args.end) (λ set. set) _ _ _ _ (types_are_read m p c.args.end) c.read_up_to.ensures.exact
