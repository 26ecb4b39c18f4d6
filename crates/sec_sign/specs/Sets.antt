-- Record sets (RFC 2181 5), and their data in canonical form and order (RFC 4034 6.2, 6.3).
use Rattle.std.specs.Prelude.{Bool, true, ℕ, ◌&&◌, nat_eq, List, [], ◌∷◌, filter, Result, Ok}
use Rattle.dns_wire.specs.declared.error.EmitError.{EmitError}
use Rattle.dns_wire.specs.Reading.{◌>>=◌}
use Rattle.dns_names.specs.Names.{same}
use Rattle.dns_grammar.specs.Messages.{ResourceRecord}
use Rattle.dns_grammar.specs.RecordData.{canon, rdata_octets, fitting}
use Rattle.dns_rdata.specs.declared.rdata.RData.{RData}
use Rattle.dns_rdata.specs.RData.{rdata_row, rdata_type, rdata_values}
use Rattle.dns_rdata.specs.RDataTable.{rdata_table}
use Rattle.dns_message.specs.declared.record.Record.{Record}
use Rattle.sec_sign.specs.Ascending.{ascending}

-- ---- sets

-- what names a record set: a name, a class and a type (RFC 2181 5)
pub record SetName : Type 0 where
  pub name : List (List ℕ)
  pub dns_class : ℕ
  pub rtype : ℕ

-- the same name, and equal class and type
abbrev pub same_set : SetName → SetName → Bool
same_set x y = same x.name y.name && (nat_eq x.dns_class y.dns_class && nat_eq x.rtype y.rtype)

-- the set that a record is of as it is read of a message
abbrev pub set_of : ResourceRecord → SetName
set_of rr = record { name = rr.name; dns_class = rr.dns_class; rtype = rr.rtype }

-- the set that a record in memory is of
abbrev pub set_of_record : Record RData → SetName
set_of_record rr = record { name = rr.name; dns_class = rr.dns_class; rtype = rdata_type rr.rdata }

-- ---- their data

-- those of these records that are of a set, each record being of the set that `set_of` says
abbrev pub members : {R : Type 0} → (R → SetName) → SetName → List R → List R
members set_of set records = filter (λ rr. same_set (set_of rr) set) records

-- what each of a list gives, or why the first that gives nothing gives nothing
abbrev pub for_each : {A B E : Type 0} → (A → Result B E) → List A → Result (List B) E
for_each f [] = Ok []
for_each f (x ∷ xs) = do
  y ← f x
  ys ← for_each f xs
  Ok (y ∷ ys)

-- the data of each of these records, as `data_of` gives them, in ascending order and each once (RFC 4034 6.3); or why the
-- first that has none has none
abbrev pub ordered_data : {R E : Type 0} → (R → Result (List ℕ) E) → List R → Result (List (List ℕ)) E
ordered_data data_of records = do
  strings ← for_each data_of records
  Ok (ascending strings)

-- the data of a record in memory in canonical form (RFC 4034 6.2), or why there are none
unfoldable pub canonical : RData → Result (List ℕ) EmitError
canonical rdata = fitting (rdata_octets true (rdata_row rdata) (rdata_values rdata))

-- the data of each of these records
abbrev pub canonical_each : List (Record RData) → Result (List (List ℕ)) EmitError
canonical_each = for_each (λ rr. canonical rr.rdata)

-- the data of a set among records in memory
abbrev pub set_data : SetName → List (Record RData) → Result (List (List ℕ)) EmitError
set_data set records = ordered_data (λ rr. canonical rr.rdata) (members set_of_record set records)

-- the data of a set among records as they are read of a message
abbrev pub set_octets : SetName → List ResourceRecord → Result (List (List ℕ)) EmitError
set_octets set records = ordered_data (λ rr. canon rdata_table rr.rtype rr.rdata) (members set_of set records)
