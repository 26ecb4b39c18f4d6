-- What stands in octets is in its range.
use Rattle.std.proofs.Common.{◌≡◌, ℕ, ◌+◌, ◌<◌, List, [], ◌∷◌, length, Option, None}
use Rattle.std.proofs.Common.{Some, Ok, refl, sym, subst, ◌∙◌}
use Rattle.dns_wire.specs.Octets.{AreOctets}
use Rattle.dns_grammar.specs.Fields.{Value, Field, row_of, FieldsAt}
use Rattle.dns_grammar.specs.Laws.{HoldsAll, HoldsData}
use Rattle.dns_grammar.specs.RecordData.{RDataAt, plain}
use Rattle.dns_grammar.proofs.DataLaws.{rdata_stands, rdata_read}
use Rattle.dns_grammar.proofs.ReadAgain.{can_write}
use Rattle.dns_rdata.specs.RDataTable.{rdata_table}
use Rattle.dns_rdata.proofs.TableLaws.{read_again}

holds_all : (fields : List Field) (m : List ℕ) (p e : ℕ) (values : List Value) (q : ℕ) → AreOctets m
    → FieldsAt fields m p e values q → HoldsAll fields values
holds_all [] m p e [] q octets s = tt
holds_all (f ∷ fs) m p e (v ∷ vs) q octets s =
    ((can_write f.kind m p e v s.0 octets s.1).holds, s.2, holds_all fs m s.0 e vs q octets s.3)
holds_all [] m p e (v ∷ vs) q octets s = absurd s
holds_all (f ∷ fs) m p e [] q octets s = absurd s

-- data that stand can be held by a record, and are written in some octets unless they are empty
pub holds_data : (m : List ℕ) (p len rtype : ℕ) (rdata : Option (List Value)) (x : List ℕ) → AreOctets m
    → RDataAt rdata_table m p len rtype rdata → plain rdata_table rtype rdata ≡ Ok x
    → HoldsData rdata_table rtype rdata x
holds_data m p len rtype None x octets s is = s.not_tsig
holds_data m p len rtype (Some values) x octets s is =
    let again = read_again m p len rtype (Some values) (p + len) octets
    (rdata_read rdata_table m p len rtype (Some values) (p + len) (s, refl)) in
    let same : again.0 ≡ x = cc (sym again.1 ∙ is) in
    let stands = rdata_stands rdata_table _ _ _ rtype (Some values) _ (again.2 [] []) in (
      holds_all (row_of rdata_table rtype) m p (p + len) values (p + len) octets s.filled,
      subst (λ (y : List ℕ). 0 < length y) same stands.0.nonempty,
    )
