-- What a contract sees of a key that is held in memory.
use Rattle.sec_codes.specs.declared.public_key_buf.PublicKeyBuf.{PublicKeyBuf}
use Rattle.sec_codes.specs.KeyForms.{Key}

-- the octets and the algorithm
abbrev pub kept_key : PublicKeyBuf → Key
kept_key key = record { octets = key.key_buf.items; algorithm = key.algorithm }
