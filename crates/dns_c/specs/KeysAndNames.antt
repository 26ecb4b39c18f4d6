-- What the calls on keys and names answer.
use Rattle.std.specs.Prelude.{ℕ, List, ◌++◌, if◌then◌else◌, Result, Ok, Err}
use Rattle.std.specs.Option.{ok_or}
use Rattle.std.specs.Result.{result_ok, result_map_both}
use Rattle.std.specs.Str.{is_utf8}
use Rattle.sha1.specs.Sha1.{sha1}
use Rattle.dns_wire.specs.declared.error.NameError.{NameError}
use Rattle.dns_wire.specs.declared.error.NameError.TheVariants as faults
use Rattle.dns_wire.specs.Reading.{◌>>=◌}
use Rattle.dns_names.specs.Names.{wire, low}
use Rattle.dns_names.specs.NameText.{name_text, name_from_text}
use Rattle.sec_digest.specs.Digests.{digest, digest_type, iterated_hash}
use Rattle.sec_digest.specs.Hmac.{hmac}
use Rattle.sec_keydata.specs.KeyTags.{key_tag}
use Rattle.dns_c.specs.declared.status.Status.{Status}
use Rattle.dns_c.specs.declared.status.Status.TheVariants as status
use Rattle.dns_c.specs.Arguments.{wire_name, hash_of_number, held_data, held_salt}

-- the tag of the DNSKEY with these data (RFC 4034 appendix B)
abbrev pub tag_of_data : List ℕ → Result ℕ Status
tag_of_data octets = do
  held ← held_data octets
  Ok (key_tag held)

-- The digest of the DNSKEY with these data (RFC 4034 5.1.4): that of its owner's wire form in lower case, and the data.
abbrev pub digest_of_data : List ℕ → List ℕ → ℕ → Result (List ℕ) Status
digest_of_data owner octets kind = do
  name ← wire_name owner
  held ← held_data octets
  ok_or (result_ok (digest (digest_type kind) (wire (low name) ++ held))) status.UnknownDigestType

-- HMAC of a message under a key (RFC 2104)
abbrev pub mac_of_message : ℕ → List ℕ → List ℕ → Result (List ℕ) Status
mac_of_message number key message = do
  hash ← hash_of_number number
  Ok (hmac hash key message)

-- the status of a text that spells no name
abbrev pub text_fault : NameError → Status
text_fault faults.EmptyLabel = status.EmptyLabel
text_fault faults.LabelTooLong = status.LabelTooLong
text_fault faults.NameTooLong = status.NameTooLong
text_fault faults.BadEscape = status.BadEscape
text_fault faults.BadCharacter = status.BadCharacter

-- the wire form of the name that a text spells (RFC 1035 5.1)
abbrev pub wire_of_text : List ℕ → Result (List ℕ) Status
wire_of_text text = if is_utf8 text then result_map_both wire text_fault (name_from_text text) else Err status.NotUtf8

-- the text of the name whose wire form the octets are
abbrev pub text_of_wire : List ℕ → Result (List ℕ) Status
text_of_wire octets = do
  name ← wire_name octets
  Ok (name_text name)

-- the hash of a name by SHA-1, with so many rounds behind the first (RFC 5155 5)
abbrev pub hash_of_name : List ℕ → List ℕ → ℕ → Result (List ℕ) Status
hash_of_name octets salt iterations = do
  name ← wire_name octets
  held ← held_salt salt
  Ok (iterated_hash sha1 held (wire (low name)) iterations)
