-- What the arguments of calls say.
use Rattle.std.specs.Prelude.{ℕ, List, length, nat_eq, nat_lt, if◌then◌else◌, Result, Ok, Err}
use Rattle.dns_names.specs.Places.{LabelsRead, name_at}
use Rattle.sec_digest.specs.declared.hmac.HmacHash.{HmacHash}
use Rattle.sec_digest.specs.declared.hmac.HmacHash.TheVariants as hashes
use Rattle.dns_c.specs.declared.status.Status.{Status}
use Rattle.dns_c.specs.declared.status.Status.TheVariants as status

-- the labels that were read, where their wire form ends at this place
abbrev pub labels_up_to : ℕ → LabelsRead → Result (List (List ℕ)) Status
labels_up_to end (Ok x) = if nat_eq x.1 end then Ok x.0 else Err status.BadName
labels_up_to end (Err fault) = Err status.BadName

-- The name whose wire form the octets are (RFC 1035 3.1). No pointer is one, since it would lead before the first octet.
abbrev pub wire_name : List ℕ → Result (List (List ℕ)) Status
wire_name octets = labels_up_to (length octets) (name_at octets 0 (length octets))

-- the hash function of a number, as it stands in the header for C
abbrev pub hash_of_number : ℕ → Result HmacHash Status
hash_of_number number =
    if nat_eq number 256 then Ok hashes.Sha256
    else if nat_eq number 384 then Ok hashes.Sha384
    else if nat_eq number 512 then Ok hashes.Sha512
    else Err status.UnknownHash

-- record data of at most 65,535 octets (RFC 1035 3.2.1)
abbrev pub held_data : List ℕ → Result (List ℕ) Status
held_data octets = if nat_lt 65535 (length octets) then Err status.DataTooLong else Ok octets

-- a salt of at most 255 octets (RFC 5155 3.1.4)
abbrev pub held_salt : List ℕ → Result (List ℕ) Status
held_salt octets = if nat_lt 255 (length octets) then Err status.SaltTooLong else Ok octets
