use Rattle.std.proofs.Common.{◌≡◌, ◌^◌, ◌<◌, ◌↔◌, ◌∙◌, sym, subst, IsTrue, Contains, List, ℕ, None}
use Rattle.dns_types.specs.TypeSets.{HasType, is_bitmap, is_one_of, form_of}
use Rattle.dns_types.specs.TypeWalks.{HoldsTypes}
use Rattle.dns_types.proofs.FormLaws.{form_is_bitmap, form_ascends}
use Rattle.dns_types.proofs.TypeLaws.{listed_are_had}
use Rattle.dns_types.proofs.type_set.RecordTypeSet.new.Goals as goal

made : (c : goal.After-from_vec) → c.from_vec.result ≡ form_of (is_one_of c.args.types.now)
made c = c.from_vec.ensures ∙ c.in_ok-octets.ensures

pub invariant_of-result : goal.invariant_of-result
invariant_of-result c =
    let P : List ℕ → Type 0 = λ x. HoldsTypes x None in
    subst P (sym (made c)) (record {
      bitmap = form_is_bitmap (is_one_of c.args.types.now);
      ascends = form_ascends (is_one_of c.args.types.now);
    })

pub returns-clause-members : goal.returns-clause-members
returns-clause-members c =
    let P : List ℕ → Type 0 = λ x. (t : ℕ) → t < 2 ^ 16 → HasType x t ↔ Contains c.args.types.now t in
    subst P (sym (made c)) (listed_are_had c.args.types.now)

pub returns-clause-bitmap : goal.returns-clause-bitmap
returns-clause-bitmap c =
    let P : List ℕ → Type 0 = λ x. IsTrue (is_bitmap x) in
    subst P (sym (made c)) (form_is_bitmap (is_one_of c.args.types.now))
