-- A field whose values are tested.
use Rattle.std.specs.Prelude.{Option, Some, None, nat_eq, if◌then◌else◌}
use Rattle.dns_wire.specs.declared.error.DecodeError.{DecodeError}
use Rattle.dns_wire.specs.declared.error.DecodeError.TheVariants.{DnsKeyProtocolNot3}
use Rattle.dns_grammar.specs.Fields.{One, Number, Value, Num, Field}

-- the protocol of a DNSKEY is 3 (RFC 4034 2.1.2)
abbrev pub protocol_fault : Value → Option DecodeError
protocol_fault (Num n) = if nat_eq n 3 then None else Some (DnsKeyProtocolNot3 n)
protocol_fault _ = None

abbrev pub protocol_field : Field
protocol_field = record { kind = Number One; fault = protocol_fault }
