-- What canonical form shows of values that stand are values that their fields may hold, tests aside.
use Rattle.std.proofs.Common.{ℕ, List, [], ◌∷◌, refl}
use Rattle.dns_wire.specs.Octets.{AreOctets}
use Rattle.dns_names.specs.NameLaws.{low_name}
use Rattle.dns_grammar.specs.Fields.{Kind, LoweredName, Value, Named, Field, any, FieldsAt}
use Rattle.dns_grammar.specs.Laws.{Holds, HoldsAll, shown_value, shown_values}
use Rattle.dns_grammar.proofs.ReadAgain.{can_write}

shown_holds : (kind : Kind) (v : Value) → Holds kind v → Holds kind (shown_value kind v)
shown_holds LoweredName (Named n) holds = low_name n holds
shown_holds _ v holds = holds

-- fields of the same kinds that allow every value, so lowered names too
abbrev pub without_tests : List Field → List Field
without_tests [] = []
without_tests (field ∷ fields) = any field.kind ∷ without_tests fields

pub shown_hold : (fields : List Field) (m : List ℕ) (p e : ℕ) (values : List Value) (q : ℕ) → AreOctets m
    → FieldsAt fields m p e values q → HoldsAll (without_tests fields) (shown_values fields values)
shown_hold [] m p e [] q octets s = tt
shown_hold (f ∷ fs) m p e (v ∷ vs) q octets s =
    let first = (can_write f.kind m p e v s.0 octets s.1).holds in
    (shown_holds f.kind v first, refl, shown_hold fs m s.0 e vs q octets s.3)
shown_hold [] m p e (v ∷ vs) q octets s = absurd s
shown_hold (f ∷ fs) m p e [] q octets s = absurd s
