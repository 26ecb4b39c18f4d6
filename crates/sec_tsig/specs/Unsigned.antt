-- The octets of a message without the TSIG record with which it was received.
use Rattle.std.specs.Prelude.{ℕ, List, ◌++◌}
use Rattle.dns_wire.specs.Octets.{two_octets}
use Rattle.sec_tsig.specs.declared.unsigned_message.UnsignedMessage.{UnsignedMessage}

abbrev pub unsigned_octets : UnsignedMessage → List ℕ
unsigned_octets message =
    two_octets message.id ++ message.flags_and_counts.now ++ two_octets message.additionals ++ message.sections.now
