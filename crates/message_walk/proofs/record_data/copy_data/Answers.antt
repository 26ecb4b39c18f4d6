use Rattle.std.proofs.Common.{◌∙◌}
use Rattle.dns_wire.specs.Reading.{octets, place}
use Rattle.message_walk.proofs.RecordSteps.{copied_behind, head_stands_there}
use Rattle.message_walk.proofs.record_data.copy_data.Goals as goal

pub returns-in-Ok-clause-exact : goal.returns-in-Ok-clause-exact
returns-in-Ok-clause-exact c =
    copied_behind c.args.message.now (octets c.set_index.new.self) c.args.start _ _ _
    (place c.set_index.new.self) _ _ c.requires.stands c.in-Ok.ensures.exact
    (c.set_index.ensures.octets ∙ c.new-reader.ensures.octets) c.set_index.ensures.place c.copy_behind.ensures.exact

pub returns-in-Err-clause-exact : goal.returns-in-Err-clause-exact
returns-in-Err-clause-exact c =
    absurd (head_stands_there c.args.message.now c.args.start _ c.requires.stands c.in-Err.ensures.exact)
