-- The data of NSEC records (RFC 4034 4).
use Rattle.std.specs.Prelude.{ℕ, List, [], ◌∷◌, ◌++◌}
use Rattle.dns_names.specs.NameText.{name_text}
use Rattle.dns_grammar.specs.Fields.{Value, Str, Named}
use Rattle.sec_sigdata.specs.declared.nsec.NSEC.{NSEC}
use Rattle.sec_sigdata.specs.TypeLists.{types_text}

-- what a contract sees of an NSEC: the next name of the zone, and the bitmap of the types at its own name
pub record NsecData : Type 0 where
  pub next_domain_name : List (List ℕ)
  pub types : List ℕ

abbrev pub nsec_data : NSEC → NsecData
nsec_data nsec = record { next_domain_name = nsec.next_domain_name; types = nsec.types }

-- the fields of the data
abbrev pub nsec_values : NsecData → List Value
nsec_values nsec = Named nsec.next_domain_name ∷ Str nsec.types ∷ []

-- the next name, and the types (RFC 4034 4.2)
abbrev pub nsec_text : NsecData → List ℕ
nsec_text nsec = name_text nsec.next_domain_name ++ types_text nsec.types
