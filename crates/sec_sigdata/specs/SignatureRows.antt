-- The fields of the records of signatures and of denial: SIG and RRSIG (RFC 2535 4.1, RFC 4034 3.1), NSEC (RFC 4034
-- 4.1), NSEC3 and NSEC3PARAM (RFC 5155 3.2, 4.2).
use Rattle.std.specs.Prelude.{List, [], ◌∷◌, Option, Some, None, nat_eq, nat_le, if◌then◌else◌}
use Rattle.dns_wire.specs.declared.error.DecodeError.{DecodeError}
use Rattle.dns_wire.specs.declared.error.DecodeError.TheVariants.{BitmapMalformed, UnknownNsec3HashAlgorithm}
use Rattle.dns_wire.specs.declared.error.DecodeError.TheVariants.{UnrecognizedNsec3Flags}
use Rattle.dns_wire.specs.declared.error.EmitError.TheVariants.{SaltTooLong, HashTooLong}
use Rattle.dns_types.specs.TypeSets.{is_bitmap}
use Rattle.dns_grammar.specs.Fields.{One, Two, Four, Number, Counted, Rest, LoweredName, KeptName, Value, Num, Str, Field, any}

-- a set of types is a bitmap (RFC 4034 4.1.2)
abbrev pub bitmap_fault : Value → Option DecodeError
bitmap_fault (Str x) = if is_bitmap x then None else Some BitmapMalformed
bitmap_fault _ = None

-- the types of records, in the octets that are left
abbrev pub type_set : Field
type_set = record { kind = Rest; fault = bitmap_fault }

-- the hash algorithm is 1, which is SHA-1 (RFC 5155 11)
abbrev pub hash_algorithm_fault : Value → Option DecodeError
hash_algorithm_fault (Num n) = if nat_eq n 1 then None else Some (UnknownNsec3HashAlgorithm n)
hash_algorithm_fault _ = None

abbrev pub hash_algorithm : Field
hash_algorithm = record { kind = Number One; fault = hash_algorithm_fault }

-- no flag is set but the lowest, Opt-Out (RFC 5155 3.1.2)
abbrev pub nsec3_flags_fault : Value → Option DecodeError
nsec3_flags_fault (Num n) = if nat_le n 1 then None else Some (UnrecognizedNsec3Flags n)
nsec3_flags_fault _ = None

abbrev pub nsec3_flags : Field
nsec3_flags = record { kind = Number One; fault = nsec3_flags_fault }

-- a signature of a record set (RFC 4034 3.1), and of a message in the same fields (RFC 2931 2.2): type covered,
-- algorithm, labels, original TTL, expiration, inception, key tag, signer's name, signature
abbrev pub sig_row : List Field
sig_row =
    any (Number Two) ∷ any (Number One) ∷ any (Number One) ∷ any (Number Four) ∷ any (Number Four) ∷ any (Number Four)
    ∷ any (Number Two) ∷ any LoweredName ∷ any Rest ∷ []

-- the next name, and the types at this one (RFC 4034 4.1). The name keeps its letters in canonical form (RFC 6840 5.1).
abbrev pub nsec_row : List Field
nsec_row = any KeptName ∷ type_set ∷ []

-- hash algorithm, flags, iterations, salt, the hash of the next name, and the types at the name that was hashed (RFC
-- 5155 3.2)
abbrev pub nsec3_row : List Field
nsec3_row =
    hash_algorithm ∷ nsec3_flags ∷ any (Number Two) ∷ any (Counted One SaltTooLong) ∷ any (Counted One HashTooLong)
    ∷ type_set ∷ []

-- hash algorithm, flags, iterations, salt (RFC 5155 4.2)
abbrev pub nsec3param_row : List Field
nsec3param_row = hash_algorithm ∷ nsec3_flags ∷ any (Number Two) ∷ any (Counted One SaltTooLong) ∷ []
