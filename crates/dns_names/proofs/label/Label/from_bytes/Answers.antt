use Rattle.std.proofs.Common.{◌<◌, ◌++◌, ap, drop, replicate, length, arith}
use Rattle.std.proofs.lemmas.Bool.Decides.{nat_tests}
use Rattle.dns_names.specs.Names.{IsLabel}
use Rattle.dns_names.specs.NameLaws.{holds_label, octets_by_index}
use Rattle.dns_names.proofs.label.Label.from_bytes.Goals as goal

is_label : (c : goal.After-held-2-1) → IsLabel c.args.octets.now
is_label c =
    let some : 0 < length c.args.octets.now = grind (arith, nat_tests, c.is_empty.ensures, c.if-is_empty.false) in
    record {
      nonempty = some;
      at_most_63 = c.if-octets-gt-MAX_LABEL.false;
      octets = octets_by_index c.args.octets.now
          (λ k. omega (arith, c.type_inv.octets k));
    }

pub invariant_of-result : goal.invariant_of-result
invariant_of-result c = (holds_label c.args.octets.now _ (is_label c)
    (ap (λ t. t ++ drop (length c.args.octets.now) (replicate 63 0)) c.copy_from_slice.ensures.after)).0

pub returns-clause-ok : goal.returns-clause-ok
returns-clause-ok c =
    let e = (holds_label c.args.octets.now _ (is_label c)
    (ap (λ t. t ++ drop (length c.args.octets.now) (replicate 63 0)) c.copy_from_slice.ensures.after)).1 in
    (e, rw e (is_label c))
