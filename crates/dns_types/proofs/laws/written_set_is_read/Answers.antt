use Rattle.dns_types.proofs.TypeLaws.{bitmap_stands, set_back, data_back}
use Rattle.dns_types.proofs.laws.written_set_is_read.Goals as goal

pub returns : goal.returns
returns c = record {
  within = λ x front rest h. set_back front x rest ((bitmap_stands x).1 h);
  data_of_a_record = λ x front rest h. data_back front x rest ((bitmap_stands x).1 h);
}
