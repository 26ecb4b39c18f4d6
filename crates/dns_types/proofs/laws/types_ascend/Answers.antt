use Rattle.dns_types.proofs.TypeLaws.{bitmap_stands, types_rise, types_are_had}
use Rattle.dns_types.proofs.laws.types_ascend.Goals as goal

pub returns : goal.returns
returns c = record { ascend = types_rise; members = λ x t h small. types_are_had x t ((bitmap_stands x).1 h) small }
