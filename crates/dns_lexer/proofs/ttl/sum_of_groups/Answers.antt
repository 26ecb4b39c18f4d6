use Rattle.std.proofs.Common.{◌≡◌, ◌∙◌, ◌^◌, ◌<◌, length, arith}
use Rattle.std.proofs.lemmas.Bool.Decides.{nat_tests}
use Rattle.dns_lexer.proofs.Groups.{groups_fail, groups_large, groups_more, groups_end}
use Rattle.dns_lexer.proofs.ttl.sum_of_groups.Goals as goal

pub returns-in_err-seconds-clause-value : goal.returns-in_err-seconds-clause-value
returns-in_err-seconds-clause-value c =
    let some : 0 < length c.groups.rest.now = grind (arith, nat_tests) in
    c.from_residual.ensures
    ∙ groups_fail (2 ^ 32) c.groups.sum _ c.groups.rest.now c.groups.invariant.0 some c.in_err-seconds.ensures.value

pub returns-then-sum-ge-LIMIT-clause-value : goal.returns-then-sum-ge-LIMIT-clause-value
returns-then-sum-ge-LIMIT-clause-value c =
    let some : 0 < length c.groups.rest.now = grind (arith, nat_tests) in
    groups_large (2 ^ 32) c.groups.sum _ c.groups.rest.now c.groups.invariant.0 c.in_ok-seconds.seconds some
    c.in_ok-seconds.ensures.value (omega arith)

pub groups-preserved : goal.groups-preserved
groups-preserved c =
    let some : 0 < length c.groups.rest.now = grind (arith, nat_tests) in (
      groups_more (2 ^ 32) c.groups.sum _ c.groups.rest.now c.groups.invariant.0 c.in_ok-seconds.seconds
          c.behind_group-rest.result.now some c.in_ok-seconds.ensures.value c.behind_group-rest.ensures,
      omega arith,
    )

pub returns-clause-value : goal.returns-clause-value
returns-clause-value c =
    let none : length c.groups.rest.now ≡ 0 = grind (arith, nat_tests) in
    groups_end (2 ^ 32) c.groups.sum _ c.groups.rest.now c.groups.invariant.0 none c.groups.invariant.1
