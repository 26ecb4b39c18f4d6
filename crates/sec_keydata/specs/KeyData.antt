-- The data of KEY records (RFC 2535 3.1, 7.1).
use Rattle.std.specs.Prelude.{◌≡◌, ℕ, List, [], ◌∷◌, ◌++◌, codes}
use Rattle.std.specs.Fmt.{decimal}
use Rattle.base64.specs.Engines.{standard}
use Rattle.base64.specs.GeneralPurpose.{encode_of}
use Rattle.dns_wire.specs.Reading.{octets}
use Rattle.dns_grammar.specs.Fields.{Value, Num, Str}
use Rattle.sec_codes.specs.declared.algorithm.Algorithm.{Algorithm}
use Rattle.sec_codes.specs.Algorithms.{number, text, algorithm_numbered}
use Rattle.sec_keydata.specs.declared.key.KEY.{KEY}
use Rattle.sec_keydata.specs.declared.protocol.Protocol.{Protocol}
use Rattle.sec_keydata.specs.KeyUses.{protocol_number, protocol_numbered}

-- what a KEY record holds
pub record KeyData : Type 0 where
  pub flags : ℕ
  pub protocol : Protocol
  pub algorithm : Algorithm
  pub public_key : List ℕ

abbrev pub key_data : KEY → KeyData
key_data key = record {
  flags = key.flags;
  protocol = key.protocol;
  algorithm = key.algorithm;
  public_key = key.public_key;
}

-- the fields of the data
abbrev pub key_row_values : ℕ → ℕ → ℕ → List ℕ → List Value
key_row_values flags protocol algorithm octets = Num flags ∷ Num protocol ∷ Num algorithm ∷ Str octets ∷ []

abbrev pub key_values : KeyData → List Value
key_values key = key_row_values key.flags (protocol_number key.protocol) (number key.algorithm) key.public_key

-- flags, protocol number, name of the algorithm, key in base64
abbrev pub key_text : KeyData → List ℕ
key_text key =
    decimal key.flags ++ codes " " ++ decimal (protocol_number key.protocol) ++ codes " " ++ text key.algorithm
    ++ codes " " ++ encode_of standard key.public_key

-- the protocol and the algorithm are those of their numbers: none with a name of its own is called other or unknown
pub record KeyIsByNumber (key : KeyData) : Type 0 where
  pub protocol : key.protocol ≡ protocol_numbered (protocol_number key.protocol)
  pub algorithm : key.algorithm ≡ algorithm_numbered (number key.algorithm)
