-- The sets of a section, one after the other.
use Rattle.std.proofs.Common.{◌≡◌, refl, sym, ap, subst, ◌∙◌, Bool, true, false, ℕ, zero, suc, ◌+◌, ◌<◌, List, [], ◌∷◌, ◌++◌}
use Rattle.std.proofs.Common.{map, drop, length, get_or, arith, append_assoc}
use Rattle.std.specs.List.{AllByRecursion, filter}
use Rattle.std.proofs.lemmas.List.{drop_more}
use Rattle.dns_grammar.specs.Messages.{ResourceRecord}
use Rattle.sec_sign.specs.Sets.{SetName, same_set}
use Rattle.sec_check.specs.declared.rrset_key.RrsetKey.{RrsetKey}
use Rattle.sec_check.specs.declared.set_proof.SetProof.{SetProof}
use Rattle.sec_check.specs.RecordSets.{firsts, forms_rrset, listed, record_sets}
use Rattle.sec_check.specs.SectionRecords.{name_of}

-- ---- each of them is formed by records of its type

abbrev Forms : SetName → Type 0
Forms set = forms_rrset set.rtype ≡ true

all_filter : {X : Type 0} (P : X → Type 0) (p : X → Bool) (xs : List X) → AllByRecursion P xs
    → AllByRecursion P (filter p xs)
all_filter P p [] all = tt
all_filter P p (x ∷ xs) all = at (p x) refl (all_filter P p xs all.1)
  where
    at : (b : Bool) → p x ≡ b → AllByRecursion P (filter p xs) → AllByRecursion P (filter p (x ∷ xs))
    at true h later = rw h (all.0, later)
    at false h later = rw h later

all_firsts : {X : Type 0} (P : X → Type 0) (alike : X → X → Bool) (xs : List X) → AllByRecursion P xs
    → AllByRecursion P (firsts alike xs)
all_firsts P alike [] all = tt
all_firsts P alike (x ∷ xs) all = (all.0, all_filter P _ (firsts alike xs) (all_firsts P alike xs all.1))

listed_form : (rrs : List ResourceRecord) → AllByRecursion Forms (listed rrs)
listed_form [] = tt
listed_form (rr ∷ rrs) = at (forms_rrset rr.rtype) refl (listed_form rrs)
  where
    at : (b : Bool) → forms_rrset rr.rtype ≡ b → AllByRecursion Forms (listed rrs)
        → AllByRecursion Forms (listed (rr ∷ rrs))
    at true h later = rw h (h, later)
    at false h later = rw h later

named_at : (keys : List RrsetKey) (i : ℕ) (key : RrsetKey) → i < length keys → AllByRecursion Forms (map name_of keys)
    → Forms (name_of (get_or keys i key))
named_at [] i key within all = absurd (omega (arith, within))
named_at (k ∷ keys) zero key within all = all.0
named_at (k ∷ keys) (suc i) key within all = named_at keys i key (omega (arith, within)) all.1

pub forms_at : (rrs : List ResourceRecord) (keys : List RrsetKey) (i : ℕ) (key : RrsetKey) → i < length keys
    → map name_of keys ≡ record_sets rrs → key ≡ get_or keys i key → forms_rrset key.rtype ≡ true
forms_at rrs keys i key within are is =
    ap (λ (k : RrsetKey). forms_rrset k.rtype) is
    ∙ named_at keys i key within
    (subst (AllByRecursion Forms) (sym are) (all_firsts Forms same_set (listed rrs) (listed_form rrs)))

-- ---- one more

pub one_more_set : (proof_of : SetName → SetProof) (keys : List RrsetKey) (i : ℕ) (key : RrsetKey)
    (so_far new all : List SetProof) (proof : SetProof) → i < length keys → key ≡ get_or keys i key
    → proof ≡ proof_of (name_of key) → new ≡ so_far ++ proof ∷ []
    → so_far ++ map proof_of (map name_of (drop i keys)) ≡ all
    → new ++ map proof_of (map name_of (drop (i + 1) keys)) ≡ all
one_more_set proof_of keys i key so_far new all proof within is_key is put before =
    let rest = map proof_of (map name_of (drop (i + 1) keys)) in
    ap (λ (l : List SetProof). l ++ rest) put
    ∙ append_assoc so_far (proof ∷ []) rest
    ∙ ap (λ (p : SetProof). so_far ++ (p ∷ rest)) (is ∙ ap (λ (k : RrsetKey). proof_of (name_of k)) is_key)
    ∙ ap (λ (l : List RrsetKey). so_far ++ map proof_of (map name_of l)) (sym (drop_more keys i key within))
    ∙ before
