-- The keys of sets: two are equal in their order where they name one set.
use Rattle.std.proofs.Common.{◌≡◌, refl, sym, ap, ◌∙◌, Bool, true, false, cond, eqb, not, ◌&&◌, ◌||◌, List, [], ◌∷◌, ◌++◌}
use Rattle.std.specs.List.{list_any}
use Rattle.std.specs.BTreeSet.{BTreeSet, contains}
use Rattle.std.specs.Ordering.{is_eq}
use Rattle.std.specs.Cmp.{IsEquivalence, on_equiv, and_equiv, unsigned_ties}
use Rattle.std.proofs.lemmas.Cmp.{nat_eq_equiv}
use Rattle.std.proofs.lemmas.List.Folds.{list_any-append}
use Rattle.dns_names.specs.Names.{same}
use Rattle.dns_names.specs.NameLaws.{same_ties}
use Rattle.sec_sign.specs.Sets.{SetName, same_set}
use Rattle.sec_check.specs.declared.rrset_key.RrsetKey.{RrsetKey}
use Rattle.sec_check.specs.RecordSets.{with_new}
use Rattle.sec_check.proofs.Orders.{and_same, both_equal, same_equiv}
use Rattle.sec_check.specs.SectionRecords.{Knows, key_cmp, key_of}

turned : (c t s : Bool) → (c && (t && s)) ≡ (s && (c && t))
turned true true true = refl
turned true true false = refl
turned true false true = refl
turned true false false = refl
turned false true true = refl
turned false true false = refl
turned false false true = refl
turned false false false = refl

pub key_ties : (x y : SetName) → is_eq (key_cmp (key_of x) (key_of y)) ≡ same_set x y
key_ties x y =
    both_equal _ _
    ∙ and_same _ _ _ _ (sym (unsigned_ties x.dns_class y.dns_class))
    (both_equal _ _
    ∙ and_same _ _ _ _ (sym (unsigned_ties x.rtype y.rtype)) (sym (same_ties x.name y.name)))
    ∙ turned (eqb x.dns_class y.dns_class) (eqb x.rtype y.rtype) (same x.name y.name)

pub same_set_equiv : IsEquivalence same_set
same_set_equiv =
    and_equiv (on_equiv (λ (x : SetName). x.name) same_equiv)
    (and_equiv (on_equiv (λ (x : SetName). x.dns_class) nat_eq_equiv) (on_equiv (λ (x : SetName). x.rtype) nat_eq_equiv))

-- what a test's negation says of the test
not_back : (b c : Bool) → not b ≡ c → b ≡ not c
not_back true c h = ap not h
not_back false c h = ap not h

or_true : (b : Bool) → (b || true) ≡ true
or_true true = refl
or_true false = refl

or_false : (b : Bool) → (b || false) ≡ b
or_false true = refl
or_false false = refl

-- what is known before and after the key of k is put in
module _ (k : SetName) (key : RrsetKey) (is_key : key ≡ key_of k) (sets : List SetName) (old new : BTreeSet RrsetKey)
    (added : Bool) (is_new : added ≡ not (contains key_cmp old key))
    (puts : (q : RrsetKey) → contains key_cmp new q ≡ cond (is_eq (key_cmp key q)) true (contains key_cmp old q))
    (knows : Knows sets old) where
  has : (q : SetName) → contains key_cmp new (key_of q) ≡ cond (same_set k q) true (list_any (same_set q) sets)
  has q =
      puts (key_of q)
      ∙ ap (λ (j : RrsetKey). cond (is_eq (key_cmp j (key_of q))) true (contains key_cmp old (key_of q))) is_key
      ∙ ap (λ (b : Bool). cond b true (contains key_cmp old (key_of q))) (key_ties k q)
      ∙ ap (λ (b : Bool). cond (same_set k q) true b) (knows.all q)

  -- whether the set was there
  pub was_there : (b : Bool) → added ≡ b → list_any (same_set k) sets ≡ not b
  was_there b h = sym (knows.all k) ∙ not_back (contains key_cmp old (key_of k)) b
      (ap (λ (j : RrsetKey). not (contains key_cmp old j)) (sym is_key) ∙ sym is_new ∙ h)

  any_push : (q : SetName) (b : Bool) → same_set q k ≡ b
      → list_any (same_set q) (sets ++ k ∷ []) ≡ (list_any (same_set q) sets || b)
  any_push q b e = list_any-append (same_set q) sets (k ∷ [])
      ∙ ap (λ (b : Bool). list_any (same_set q) sets || b) (or_false (same_set q k) ∙ e)

  pub knows_new : Knows (sets ++ k ∷ []) new
  knows_new = record { all = λ q. has q ∙ at_end q (same_set k q) refl }
    where
      at_end : (q : SetName) (b : Bool) → same_set k q ≡ b
          → cond (same_set k q) true (list_any (same_set q) sets) ≡ list_any (same_set q) (sets ++ k ∷ [])
      at_end q true h = rw h (sym (any_push q true (same_set_equiv.symm q k ∙ h)
          ∙ or_true (list_any (same_set q) sets)))
      at_end q false h = rw h (sym (any_push q false (same_set_equiv.symm q k ∙ h)
          ∙ or_false (list_any (same_set q) sets)))

-- ---- the list with one more set

pub listed_known : (k : SetName) (sets : List SetName) → list_any (same_set k) sets ≡ true
    → sets ≡ with_new same_set sets k
listed_known k sets known = rw known refl

pub listed_new : (k : SetName) (sets : List SetName) → list_any (same_set k) sets ≡ false
    → sets ++ k ∷ [] ≡ with_new same_set sets k
listed_new k sets new = rw new refl
