-- Canonical form writes what it shows.
use Rattle.std.proofs.Common.{◌≡◌, ℕ, true, false, List, [], ◌∷◌, Some, None, refl, sym, ap, ◌∙◌}
use Rattle.dns_wire.specs.Joining.{joined}
use Rattle.dns_grammar.specs.Fields.{Kind, LoweredName, Value, Named, Field, Table, row_of, value_octets}
use Rattle.dns_grammar.specs.Fields.{fields_octets, SameValue, SameValues}
use Rattle.dns_grammar.specs.RecordData.{fitting}
use Rattle.dns_grammar.specs.Laws.{shown_value, shown_values, CanonicalIsPlain, AgreeingHaveOneForm}

value_canonical : (kind : Kind) (v : Value) → value_octets true kind v ≡ value_octets false kind (shown_value kind v)
value_canonical LoweredName (Named n) = refl
value_canonical _ _ = refl

pub fields_canonical : (fields : List Field) → CanonicalIsPlain fields
fields_canonical [] vs = refl
fields_canonical (f ∷ fs) [] = refl
fields_canonical (f ∷ fs) (v ∷ vs) = λ i. joined (value_canonical f.kind v i) (fields_canonical fs vs i)

-- the same value to canonical form
same_shown : (kind : Kind) (v w : Value) → SameValue kind v w → shown_value kind v ≡ shown_value kind w
same_shown LoweredName (Named n) (Named z) same = ap (λ (y : List (List ℕ)). Named y) same
same_shown kind v w same = ap (shown_value kind) same

values_shown : (fields : List Field) (vs ws : List Value) → SameValues fields vs ws
    → shown_values fields vs ≡ shown_values fields ws
values_shown [] [] [] same = refl
values_shown (f ∷ fs) (v ∷ vs) (w ∷ ws) same = λ i. same_shown f.kind v w same.0 i ∷ values_shown fs vs ws same.1 i
values_shown _ _ _ same = absurd same

values_agree : (fields : List Field) (vs ws : List Value) → SameValues fields vs ws
    → fields_octets true fields vs ≡ fields_octets true fields ws
values_agree fields vs ws same = fields_canonical fields vs
    ∙ ap (fields_octets false fields) (values_shown fields vs ws same) ∙ sym (fields_canonical fields ws)

pub agreeing_have_one_form : (table : Table) → AgreeingHaveOneForm table
agreeing_have_one_form table rtype None None same = refl
agreeing_have_one_form table rtype (Some vs) (Some ws) same = ap fitting (values_agree (row_of table rtype) vs ws same)
agreeing_have_one_form table rtype None (Some ws) same = absurd same
agreeing_have_one_form table rtype (Some vs) None same = absurd same
