-- The fields of the records of keys: DNSKEY and DS (RFC 4034 2.1, 5.1), CDNSKEY and CDS (RFC 7344 3.1, 3.2), KEY (RFC
-- 2535 3.1, RFC 3445 4).
use Rattle.std.specs.Prelude.{List, [], ◌∷◌, Option, Some, None, nat_eq, if◌then◌else◌}
use Rattle.std.specs.Int.Bits.{bit_and}
use Rattle.dns_wire.specs.declared.error.DecodeError.{DecodeError}
use Rattle.dns_wire.specs.declared.error.DecodeError.TheVariants.{DnsKeyProtocolNot3, KeyFlagsReserved}
use Rattle.dns_wire.specs.declared.error.DecodeError.TheVariants.{ExtendedKeyFlagsUnsupported}
use Rattle.dns_grammar.specs.Fields.{One, Two, Number, Rest, Value, Num, Field, any}

-- the protocol of a DNSKEY is 3 (RFC 4034 2.1.2)
abbrev pub protocol_fault : Value → Option DecodeError
protocol_fault (Num n) = if nat_eq n 3 then None else Some (DnsKeyProtocolNot3 n)
protocol_fault _ = None

-- The flags of a KEY have no reserved bit, and don't say that more flags follow (RFC 2535 3.1.2).
abbrev pub key_flags_fault : Value → Option DecodeError
key_flags_fault (Num n) =
    if nat_eq (bit_and n 0x2cf0) 0 then
    (if nat_eq (bit_and n 0x1000) 0 then None else Some (ExtendedKeyFlagsUnsupported n))
    else Some (KeyFlagsReserved n)
key_flags_fault _ = None

-- a public key (RFC 4034 2.1, and RFC 7344 3.2 for CDNSKEY): flags, protocol, algorithm, key
abbrev pub dnskey_row : List Field
dnskey_row = any (Number Two) ∷ record { kind = Number One; fault = protocol_fault } ∷ any (Number One) ∷ any Rest ∷ []

-- the digest of a public key (RFC 4034 5.1, and RFC 7344 3.1 for CDS): key tag, algorithm, digest type, digest
abbrev pub ds_row : List Field
ds_row = any (Number Two) ∷ any (Number One) ∷ any (Number One) ∷ any Rest ∷ []

-- a key of other uses (RFC 2535 3.1, RFC 3445 4): flags, protocol, algorithm, key
abbrev pub key_row : List Field
key_row = record { kind = Number Two; fault = key_flags_fault } ∷ any (Number One) ∷ any (Number One) ∷ any Rest ∷ []
