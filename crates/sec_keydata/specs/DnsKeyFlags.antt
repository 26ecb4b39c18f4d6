-- The flags of DNSKEY and CDNSKEY records (RFC 4034 2.1.1, RFC 5011 7).
use Rattle.std.specs.Prelude.{Bool, ◌&&◌, not, ℕ, ◌+◌}
use Rattle.sec_keydata.specs.Flags.{has_flag, flag_if}

-- the flag of a key of a zone
abbrev pub zone_flag : ℕ
zone_flag = 0x0100

-- the flag of a revoked key
abbrev pub revoke_flag : ℕ
revoke_flag = 0x0080

-- the flag of a secure entry point
abbrev pub entry_flag : ℕ
entry_flag = 0x0001

abbrev pub is_zone_key : ℕ → Bool
is_zone_key = has_flag zone_flag

abbrev pub is_secure_entry_point : ℕ → Bool
is_secure_entry_point = has_flag entry_flag

abbrev pub is_revoked : ℕ → Bool
is_revoked = has_flag revoke_flag

-- whether the key is one of a zone and a secure entry point, and not revoked
abbrev pub is_key_signing_key : ℕ → Bool
is_key_signing_key flags = is_zone_key flags && is_secure_entry_point flags && not (is_revoked flags)

-- the flags of these alone: a key of a zone, a secure entry point, a revoked key
abbrev pub flags_of : Bool → Bool → Bool → ℕ
flags_of zone_key secure_entry_point revoke =
    flag_if zone_flag zone_key + flag_if revoke_flag revoke + flag_if entry_flag secure_entry_point
