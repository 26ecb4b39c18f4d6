-- Numbers of types and classes as text: their mnemonics (IANA, Domain Name System Parameters), and a word with the
-- number for all others (RFC 3597 5).
use Rattle.std.specs.Prelude.{Bool, ℕ, ◌^◌, List, [], ◌∷◌, ◌++◌, length, take, drop, if◌then◌else◌, codes}
use Rattle.std.specs.Prelude.{Option, Some, None}
use Rattle.std.specs.Fmt.{decimal}
use Rattle.std.specs.Option.{option_or}
use Rattle.std.specs.Str.{bytes_eq}
use Rattle.dns_text.specs.Words.{number_below}
use Rattle.dns_wire.specs.Lookup.{lookup}
use Rattle.dns_wire.specs.Octets.{lowered}
use Rattle.dns_types.specs.TypeNumbers as types
use Rattle.dns_types.specs.ClassNumbers as classes

-- the types that have a mnemonic here, with it
abbrev pub type_mnemonics : List (ℕ × List ℕ)
type_mnemonics =
    (types.A, codes "A") ∷ (types.NS, codes "NS") ∷ (types.MD, codes "MD") ∷ (types.MF, codes "MF") ∷
    (types.CNAME, codes "CNAME") ∷ (types.SOA, codes "SOA") ∷ (types.MB, codes "MB") ∷ (types.MG, codes "MG") ∷
    (types.MR, codes "MR") ∷ (types.NULL, codes "NULL") ∷ (types.PTR, codes "PTR") ∷ (types.MINFO, codes "MINFO") ∷
    (types.MX, codes "MX") ∷ (types.TXT, codes "TXT") ∷ (types.RP, codes "RP") ∷ (types.AFSDB, codes "AFSDB") ∷
    (types.RT, codes "RT") ∷ (types.SIG, codes "SIG") ∷ (types.KEY, codes "KEY") ∷ (types.PX, codes "PX") ∷
    (types.AAAA, codes "AAAA") ∷ (types.SRV, codes "SRV") ∷ (types.NAPTR, codes "NAPTR") ∷ (types.KX, codes "KX") ∷
    (types.DNAME, codes "DNAME") ∷ (types.OPT, codes "OPT") ∷ (types.DS, codes "DS") ∷ (types.RRSIG, codes "RRSIG") ∷
    (types.NSEC, codes "NSEC") ∷ (types.DNSKEY, codes "DNSKEY") ∷ (types.NSEC3, codes "NSEC3") ∷
    (types.NSEC3PARAM, codes "NSEC3PARAM") ∷ (types.CDS, codes "CDS") ∷ (types.CDNSKEY, codes "CDNSKEY") ∷
    (types.TSIG, codes "TSIG") ∷ (types.IXFR, codes "IXFR") ∷ (types.AXFR, codes "AXFR") ∷ (types.ANY, codes "ANY") ∷ []

-- the classes that have a mnemonic here, with it
abbrev pub class_mnemonics : List (ℕ × List ℕ)
class_mnemonics =
    (classes.IN, codes "IN") ∷ (classes.CH, codes "CH") ∷ (classes.HS, codes "HS") ∷ (classes.NONE, codes "NONE") ∷
    (classes.ANY, codes "ANY") ∷ []

-- a mnemonic where there is one, and else a word and the number in decimal digits
abbrev pub code_text : List ℕ → ℕ → Option (List ℕ) → List ℕ
code_text word n (Some mnemonic) = mnemonic
code_text word n None = word ++ decimal n

abbrev pub type_text : ℕ → List ℕ
type_text n = code_text (codes "TYPE") n (lookup type_mnemonics n)

abbrev pub class_text : ℕ → List ℕ
class_text n = code_text (codes "CLASS") n (lookup class_mnemonics n)

-- ---- text in

-- whether two texts are equal, the case of letters aside
abbrev pub same_text : List ℕ → List ℕ → Bool
same_text x y = bytes_eq (lowered x) (lowered y)

-- the number beside a mnemonic in a table; the mnemonic may be in any case
abbrev pub number_named : List (ℕ × List ℕ) → List ℕ → Option ℕ
number_named [] text = None
number_named (entry ∷ table) text = if same_text entry.1 text then Some entry.0 else number_named table text

-- the number up to 65,535 that stands in decimal digits behind a word, which may be in any case
abbrev pub number_behind : List ℕ → List ℕ → Option ℕ
number_behind word text =
    if same_text (take (length word) text) word then number_below (2 ^ 16) (drop (length word) text) else None

-- the type that a text names: by its mnemonic, or by `TYPE` and its number
abbrev pub type_of : List ℕ → Option ℕ
type_of text = option_or (number_named type_mnemonics text) (number_behind (codes "TYPE") text)

-- the class that a text names: by its mnemonic, or by `CLASS` and its number
abbrev pub class_of : List ℕ → Option ℕ
class_of text = option_or (number_named class_mnemonics text) (number_behind (codes "CLASS") text)
