-- The values of the data that hold names, numbers and strings (RFC 1035 3.3 and others).
use Rattle.std.specs.Prelude.{ℕ, List, [], ◌∷◌}
use Rattle.dns_grammar.specs.Fields.{Value, Num, Str, Strs, Named}
use Rattle.dns_rdata.specs.declared.hosts.MX.{MX}
use Rattle.dns_rdata.specs.declared.hosts.AFSDB.{AFSDB}
use Rattle.dns_rdata.specs.declared.hosts.RT.{RT}
use Rattle.dns_rdata.specs.declared.hosts.KX.{KX}
use Rattle.dns_rdata.specs.declared.hosts.PX.{PX}
use Rattle.dns_rdata.specs.declared.mailboxes.MINFO.{MINFO}
use Rattle.dns_rdata.specs.declared.mailboxes.RP.{RP}
use Rattle.dns_rdata.specs.declared.naptr.NAPTR.{NAPTR}
use Rattle.dns_rdata.specs.declared.null.NULL.{NULL}
use Rattle.dns_rdata.specs.declared.soa.SOA.{SOA}
use Rattle.dns_rdata.specs.declared.srv.SRV.{SRV}
use Rattle.dns_rdata.specs.declared.txt.TXT.{TXT}

-- ---- the values of rows that several types share

abbrev pub name_values : List (List ℕ) → List Value
name_values n = Named n ∷ []

abbrev pub number_name_values : ℕ → List (List ℕ) → List Value
number_name_values number n = Num number ∷ Named n ∷ []

abbrev pub two_names_values : List (List ℕ) → List (List ℕ) → List Value
two_names_values n z = Named n ∷ Named z ∷ []

abbrev pub number_two_names_values : ℕ → List (List ℕ) → List (List ℕ) → List Value
number_two_names_values number n z = Num number ∷ Named n ∷ Named z ∷ []

-- ---- the values of each type

abbrev pub mx_values : MX → List Value
mx_values mx = number_name_values mx.preference mx.exchange

abbrev pub afsdb_values : AFSDB → List Value
afsdb_values afsdb = number_name_values afsdb.subtype afsdb.hostname

abbrev pub rt_values : RT → List Value
rt_values rt = number_name_values rt.preference rt.intermediate

abbrev pub kx_values : KX → List Value
kx_values kx = number_name_values kx.preference kx.exchanger

abbrev pub px_values : PX → List Value
px_values px = number_two_names_values px.preference px.map822 px.mapx400

abbrev pub minfo_values : MINFO → List Value
minfo_values minfo = two_names_values minfo.rmailbx minfo.emailbx

abbrev pub rp_values : RP → List Value
rp_values rp = two_names_values rp.mbox rp.txt

abbrev pub soa_values : SOA → List Value
soa_values soa =
    Named soa.mname ∷ Named soa.rname ∷ Num soa.serial ∷ Num soa.refresh ∷ Num soa.retry ∷ Num soa.expire
    ∷ Num soa.minimum ∷ []

abbrev pub srv_values : SRV → List Value
srv_values srv = Num srv.priority ∷ Num srv.weight ∷ Num srv.port ∷ Named srv.target ∷ []

abbrev pub naptr_values : NAPTR → List Value
naptr_values naptr =
    Num naptr.order ∷ Num naptr.preference ∷ Str naptr.flags ∷ Str naptr.services ∷ Str naptr.regexp
    ∷ Named naptr.replacement ∷ []

-- the strings of a TXT
abbrev pub txt_strings : TXT → List (List ℕ)
txt_strings txt = txt.strings.items

abbrev pub txt_values : TXT → List Value
txt_values txt = Strs (txt_strings txt) ∷ []

-- the octets of data that nothing is known of
abbrev pub null_octets : NULL → List ℕ
null_octets null = null.anything

abbrev pub null_values : NULL → List Value
null_values null = Str (null_octets null) ∷ []
