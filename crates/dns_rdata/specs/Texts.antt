-- Record data as text (RFC 1035 5.1, RFC 3597 5). Fields are separated by one space.
use Rattle.std.specs.Prelude.{ℕ, ◌/◌, ◌%◌, Bool, ◌||◌, List, [], ◌∷◌, ◌++◌, length, nat_eq, if◌then◌else◌, codes}
use Rattle.std.specs.List.{flat_map}
use Rattle.std.specs.Fmt.{decimal}
use Rattle.std.specs.Char.{is_ascii_graphic}
use Rattle.dns_text.specs.HexText.{upper_hex}
use Rattle.dns_names.specs.NameText.{backslash, name_text}
use Rattle.dns_rdata.specs.declared.naptr.NAPTR.{NAPTR}
use Rattle.dns_rdata.specs.declared.soa.SOA.{SOA}
use Rattle.dns_rdata.specs.declared.srv.SRV.{SRV}

-- ---- strings

-- the code of `"`, between two of which a string stands
abbrev pub quote : ℕ
quote = 34

-- whether an octet of a string stands for itself: visible ones do, and a space
abbrev pub is_plain : ℕ → Bool
is_plain octet = is_ascii_graphic octet || nat_eq octet 32

-- An octet of a string: `"` and `\` behind a backslash, other visible ones and a space as themselves, and any other as
-- a backslash and three decimal digits.
abbrev pub quoted_octet : ℕ → List ℕ
quoted_octet octet =
    if nat_eq octet quote || nat_eq octet backslash then backslash ∷ octet ∷ []
    else if is_plain octet then octet ∷ []
    else backslash ∷ (decimal (octet / 100) ++ decimal (octet / 10 % 10) ++ decimal (octet % 10))

-- a string in quotes
abbrev pub quoted_text : List ℕ → List ℕ
quoted_text string = codes "\"" ++ flat_map quoted_octet string ++ codes "\""

-- strings, each in quotes
abbrev pub strings_text : List (List ℕ) → List ℕ
strings_text [] = []
strings_text (string ∷ strings) = quoted_text string ++ flat_map (λ next. codes " " ++ quoted_text next) strings

-- ---- octets that nothing is known of (RFC 3597 5)

-- a space and the octets in hexadecimal, and nothing where there are none
unfoldable pub behind_length : List ℕ → List ℕ
behind_length [] = []
behind_length (octet ∷ octets) = codes " " ++ upper_hex (octet ∷ octets)

-- `\#`, how many octets there are, and these
abbrev pub unknown_text : List ℕ → List ℕ
unknown_text octets = codes "\\# " ++ decimal (length octets) ++ behind_length octets

-- ---- names and numbers

abbrev pub number_name_text : ℕ → List (List ℕ) → List ℕ
number_name_text number n = decimal number ++ codes " " ++ name_text n

abbrev pub two_names_text : List (List ℕ) → List (List ℕ) → List ℕ
two_names_text n z = name_text n ++ codes " " ++ name_text z

abbrev pub number_two_names_text : ℕ → List (List ℕ) → List (List ℕ) → List ℕ
number_two_names_text number n z = decimal number ++ codes " " ++ name_text n ++ codes " " ++ name_text z

-- refresh, retry, expire, minimum
unfoldable pub soa_times_text : SOA → List ℕ
soa_times_text soa =
    decimal soa.refresh ++ codes " " ++ decimal soa.retry ++ codes " " ++ decimal soa.expire ++ codes " "
    ++ decimal soa.minimum

abbrev pub soa_text : SOA → List ℕ
soa_text soa =
    name_text soa.mname ++ codes " " ++ name_text soa.rname ++ codes " " ++ decimal soa.serial ++ codes " "
    ++ soa_times_text soa

abbrev pub srv_text : SRV → List ℕ
srv_text srv =
    decimal srv.priority ++ codes " " ++ decimal srv.weight ++ codes " " ++ decimal srv.port ++ codes " "
    ++ name_text srv.target

-- flags, services, regular expression
unfoldable pub naptr_strings_text : NAPTR → List ℕ
naptr_strings_text naptr =
    quoted_text naptr.flags ++ codes " " ++ quoted_text naptr.services ++ codes " " ++ quoted_text naptr.regexp

abbrev pub naptr_text : NAPTR → List ℕ
naptr_text naptr =
    decimal naptr.order ++ codes " " ++ decimal naptr.preference ++ codes " " ++ naptr_strings_text naptr
    ++ codes " " ++ name_text naptr.replacement
