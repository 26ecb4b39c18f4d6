use Rattle.dns_c.proofs.WireNames.{wire_names}
use Rattle.dns_c.proofs.laws.name_is_taken_from_its_wire_form.Goals as goal

pub returns : goal.returns
returns c = wire_names c.name_is_read_where_it_stands.ensures c.standing_name_is_name.ensures
    c.written_name_stands.ensures
