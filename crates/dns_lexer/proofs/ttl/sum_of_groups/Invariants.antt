use Rattle.std.proofs.Common.{◌≡◌, ◌+◌, ◌^◌, ◌<◌, length}
use Rattle.std.specs.Option.{option_map}
use Rattle.dns_lexer.specs.Ttls.{group_sum}
use Rattle.dns_lexer.proofs.ttl.sum_of_groups.Given as goal

abbrev pub invariant-groups : goal.invariant-groups
invariant-groups l = (option_map (λ n. l.sum + n) (group_sum 0 l.rest) ≡ group_sum 0 l.fn.text) × (l.sum < 2 ^ 32)

abbrev pub decreases-groups : goal.decreases-groups
decreases-groups l = length l.rest
