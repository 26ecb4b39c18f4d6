use Rattle.std.proofs.Common.{◌≡◌, ◌∙◌, ℕ, suc, ◌+◌, List, ◌∷◌, drop, sym, ap, subst, arith}
use Rattle.std.specs.Prelude.{slice_set}
use Rattle.dns_names.specs.PointerCache.{IsPointerCache}
use Rattle.dns_c.specs.declared.records.PspRecord.{PspRecord}
use Rattle.dns_c.proofs.PlacesPut.{all_put, first_put, left_behind, one_more}
use Rattle.dns_c.proofs.records.put_places.Goals as goal

pub records-preserved : goal.records-preserved
records-preserved c =
    let all = c.args.walk.left in
    let before = c.args.out.now in
    let count = c.records.count in
    let left = c.next.new.self.left in
    let met : drop count all ≡ c.in-Some.place ∷ left = sym c.records.invariant.left ∙ c.in-Some.ensures.next in
    let behind = left_behind all count c.in-Some.place left met in
    let more : suc count ≡ count + 1 = omega arith in
    record {
      left = behind.1 ∙ ap (λ (n : ℕ). drop n all) more;
      written =
          ap (λ (out : List PspRecord). slice_set out count c.of.result) c.records.invariant.written
          ∙ ap (λ (x : PspRecord). slice_set (first_put before all count) count x) c.of.ensures
          ∙ one_more before all count c.in-Some.place left met c.requires.room
          ∙ ap (first_put before all) more;
      few = omega (arith, behind.0);
      same = c.in-Some.ensures.message ∙ c.records.invariant.same;
      cache = subst (λ (m : List ℕ). IsPointerCache m c.next.new.cache) (sym c.in-Some.ensures.message) c.in-Some.ensures.cache;
    }

pub returns : goal.returns
returns c =
    let all = c.args.walk.left in
    c.records.invariant.written
    ∙ all_put c.args.out.now all c.records.count (sym c.records.invariant.left ∙ c.in_default.ensures.next.0)
    c.records.invariant.few c.requires.room
