use Rattle.std.proofs.Common.{◌≡◌, map}
use Rattle.dnscheck.specs.Demos.{demo_answer}
use Rattle.dnscheck.proofs.demo.at_moment.Given as goal

abbrev pub invariant-answers : goal.invariant-answers
invariant-answers l = l.answers.items ≡ map demo_answer (map (λ octets. octets.items) l.yielded)
