use Rattle.std.proofs.Common.{arith, ap, ◌∙◌, sym, length}
use Rattle.dns_names.specs.NameLaws.{takes_label}
use Rattle.dns_names.proofs.name.LabelIterIterator.next.Goals as goal

pub invariant_of-self : goal.invariant_of-self
invariant_of-self c = (takes_label c.self.inside.rest.now c.self.invariant c.if-len-eq0.false).rest

pub returns-clause-steps : goal.returns-clause-steps
returns-clause-steps c = sym c.self.view_is ∙ (takes_label c.self.inside.rest.now c.self.invariant
    c.if-len-eq0.false).labels

pub returns-clause-goes : goal.returns-clause-goes
returns-clause-goes c =
    let shorter = ap length (returns-clause-steps c) in
    record { on = λ _. (tt, tt, omega (arith, shorter)); keeps = tt; rests = λ _. tt }
