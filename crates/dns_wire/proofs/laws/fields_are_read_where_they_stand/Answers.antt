use Rattle.dns_wire.proofs.FieldLaws.{octets_stand, octets_read, number_stands, number_read, time_stands, time_read}
use Rattle.dns_wire.proofs.FieldLaws.{counted_stands, counted_read}
use Rattle.dns_wire.proofs.laws.fields_are_read_where_they_stand.Goals as goal

pub returns-clause-octets : goal.returns-clause-octets
returns-clause-octets c n m p e x q within = (octets_stand n m p e x q within, octets_read n m p e x q)

pub returns-clause-number : goal.returns-clause-number
returns-clause-number c w m p e n q within = (number_stands w m p e n q within, number_read w m p e n q)

pub returns-clause-time : goal.returns-clause-time
returns-clause-time c m p e n q within = (time_stands m p e n q within, time_read m p e n q)

pub returns-clause-counted : goal.returns-clause-counted
returns-clause-counted c w m p e x q within = (counted_stands w m p e x q within, counted_read w m p e x q)
