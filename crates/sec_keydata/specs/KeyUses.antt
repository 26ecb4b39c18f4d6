-- The flags and the protocol of a KEY record (RFC 2535 3.1.2, 3.1.3; RFC 2137 3.1.1).
use Rattle.std.specs.Prelude.{ℕ, ◌+◌, ◌*◌, ◌^◌, List, [], ◌∷◌, map, unwrap_or}
use Rattle.dns_wire.specs.Lookup.{lookup}
use Rattle.sec_keydata.specs.declared.key_uses.KeyTrust.{KeyTrust}
use Rattle.sec_keydata.specs.declared.key_uses.KeyTrust.TheVariants as trusts
use Rattle.sec_keydata.specs.declared.key_uses.KeyUsage.{KeyUsage}
use Rattle.sec_keydata.specs.declared.key_uses.KeyUsage.TheVariants as usages
use Rattle.sec_keydata.specs.declared.key_uses.UpdateScope.{UpdateScope}
use Rattle.sec_keydata.specs.declared.protocol.Protocol.{Protocol}
use Rattle.sec_keydata.specs.declared.protocol.Protocol.TheVariants as protocols
use Rattle.sec_keydata.specs.Flags.{flag_if}

-- the number in the two highest bits of the flags
abbrev pub trust_code : KeyTrust → ℕ
trust_code trusts.AuthOrPrivate = 0
trust_code trusts.NotPrivate = 1
trust_code trusts.NotAuth = 2
trust_code trusts.DoNotTrust = 3

-- the number in bits 6 and 7 of the flags, the highest bit being bit 0
abbrev pub usage_code : KeyUsage → ℕ
usage_code usages.Host = 0
usage_code usages.Zone = 1
usage_code usages.Entity = 2
usage_code usages.Reserved = 3

-- the number in the four lowest bits of the flags
abbrev pub scope_bits : UpdateScope → ℕ
scope_bits scope = flag_if 8 scope.zone + flag_if 4 scope.strong + flag_if 2 scope.unique + flag_if 1 scope.general

-- the flags that say these three, and no more
abbrev pub all_flags : KeyTrust → KeyUsage → UpdateScope → ℕ
all_flags trust usage scope = trust_code trust * 2 ^ 14 + usage_code usage * 2 ^ 8 + scope_bits scope

-- the number of a protocol
abbrev pub protocol_number : Protocol → ℕ
protocol_number protocols.Reserved = 0
protocol_number protocols.TLS = 1
protocol_number protocols.Email = 2
protocol_number protocols.DNSSEC = 3
protocol_number protocols.IPSec = 4
protocol_number protocols.All = 255
protocol_number (protocols.Other n) = n

-- the protocols that have a name of their own
abbrev pub known_protocols : List Protocol
known_protocols =
    protocols.Reserved ∷ protocols.TLS ∷ protocols.Email ∷ protocols.DNSSEC ∷ protocols.IPSec ∷ protocols.All ∷ []

-- the protocol of a number, which is another one where none of these has it
abbrev pub protocol_numbered : ℕ → Protocol
protocol_numbered n =
    unwrap_or (lookup (map (λ protocol. (protocol_number protocol, protocol)) known_protocols) n) (protocols.Other n)
