use Rattle.std.proofs.Common.{length, map, ◌<◌, ◌^◌}
use Rattle.dns_demo.proofs.Walks.{SoFar}
use Rattle.dns_demo.proofs.answering.answers_behind.Given as goal

abbrev pub invariant-answers : goal.invariant-answers
invariant-answers l =
    SoFar l.fn.mac.items l.fn.count (map (λ octets. octets.items) l.answers.items) l.mac.items l.before
    × (length l.mac.items < 2 ^ 16)
