-- What a contract sees of a decoded key.
use Rattle.sec_codes.specs.declared.decoded_key.DecodedKey.{DecodedKey}
use Rattle.sec_codes.specs.declared.decoded_key.DecodedKey.TheVariants as forms
use Rattle.sec_codes.specs.declared.key_error.KeyKind.{KeyKind}
use Rattle.sec_codes.specs.declared.key_error.KeyKind.TheVariants.{Ec, Ed, Rsa}
use Rattle.sec_codes.specs.declared.algorithm.Algorithm.TheVariants.{ED25519}
use Rattle.sec_codes.specs.KeyForms.{Key}

-- the key, with its octets and its algorithm
abbrev pub key_of : DecodedKey → Key
key_of (forms.Ec key) = key
key_of (forms.Ed octets) = record { octets = octets; algorithm = ED25519 }
key_of (forms.Rsa key) = key

-- the form that it has
abbrev pub kind_of : DecodedKey → KeyKind
kind_of (forms.Ec _) = Ec
kind_of (forms.Ed _) = Ed
kind_of (forms.Rsa _) = Rsa
