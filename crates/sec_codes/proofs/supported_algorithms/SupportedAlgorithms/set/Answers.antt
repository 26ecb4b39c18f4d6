use Rattle.std.proofs.Common.{sym}
use Rattle.sec_codes.proofs.Added.{set_small, set_adds}
use Rattle.sec_codes.proofs.supported_algorithms.SupportedAlgorithms.set.Goals as goal

pub invariant_of-self : goal.invariant_of-self
invariant_of-self c = set_small c.self.inside.bit_map c.self.invariant c.args.algorithm c.in-Some.place
    (sym c.in-Some.ensures)

pub returns-in-Some : goal.returns-in-Some
returns-in-Some c = rw (← c.self.view_is)
    (set_adds c.self.inside.bit_map c.in-Some.place c.args.algorithm (sym c.in-Some.ensures))
