use Rattle.dns_types.proofs.TypeLaws.{bitmap_stands, one_list, type_stands}
use Rattle.dns_types.proofs.TypeReaderLaws.{types_are_read}
use Rattle.dns_types.proofs.laws.bitmap_is_read_where_it_stands.Goals as goal

pub returns : goal.returns
returns c = record {
  bitmap = bitmap_stands;
  one = one_list;
  member = λ x t h. type_stands x t ((bitmap_stands x).1 h);
  set = types_are_read;
}
