-- Which keys signatures are tried with.
use Rattle.std.specs.Prelude.{Bool, ◌&&◌, nat_le, is_ok, length}
use Rattle.sec_codes.specs.Algorithms.{supported}
use Rattle.sec_codes.specs.KeyForms.{Key, key_form}
use Rattle.sec_keydata.specs.KeyTags.{longest_key}

-- whether a key's algorithm is supported, the key has the form of the algorithm's keys (RFC 3110 2, RFC 6605 4,
-- RFC 8080 3), and its data fit a record (RFC 1035 3.2.1)
abbrev pub is_well_formed : Key → Bool
is_well_formed key =
    supported key.algorithm
    && (is_ok (key_form key.algorithm key.octets) && nat_le (length key.octets) longest_key)
