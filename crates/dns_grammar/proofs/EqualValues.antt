-- What equal lists of values have at a place: equal numbers, octets and names.
use Rattle.std.proofs.Common.{◌≡◌, ℕ, List, [], get_or, ap}
use Rattle.dns_grammar.specs.Fields.{Value, Num, Str, Named}

-- the number, the octets and the labels of a name that a value is
abbrev number_in : Value → ℕ
number_in (Num n) = n
number_in _ = 0

abbrev octets_in : Value → List ℕ
octets_in (Str x) = x
octets_in _ = []

abbrev name_in : Value → List (List ℕ)
name_in (Named n) = n
name_in _ = []

-- the value at a place of the fields
abbrev value_in : List Value → ℕ → Value
value_in values i = get_or values i (Num 0)

pub same_number : {xs ys : List Value} → xs ≡ ys → (i : ℕ) → number_in (value_in xs i) ≡ number_in (value_in ys i)
same_number same i = ap (λ values. number_in (value_in values i)) same

pub same_octets : {xs ys : List Value} → xs ≡ ys → (i : ℕ) → octets_in (value_in xs i) ≡ octets_in (value_in ys i)
same_octets same i = ap (λ values. octets_in (value_in values i)) same

pub same_name : {xs ys : List Value} → xs ≡ ys → (i : ℕ) → name_in (value_in xs i) ≡ name_in (value_in ys i)
same_name same i = ap (λ values. name_in (value_in values i)) same
