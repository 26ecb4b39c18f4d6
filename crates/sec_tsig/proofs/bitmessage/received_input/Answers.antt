use Rattle.std.proofs.Common.{[], ◌++◌, refl, ◌∙◌}
use Rattle.std.specs.Option.{option_copied}
use Rattle.sec_tsig.specs.Tsig.{mac_input}
use Rattle.sec_tsig.proofs.bitmessage.received_input.Goals as goal

pub returns-in-Ok-clause-input : goal.returns-in-Ok-clause-input
returns-in-Ok-clause-input c =
    let variables = c.variables_of-variables.ensures in
    c.in-Ok.ensures _ _ (c.put_input.ensures _ refl _ [] c.new-grower.ensures)
    ∙ (λ i. c.new.ensures.items i ++ mac_input (option_copied c.args.previous) c.args.first (c.of.ensures i) (variables.owner i)
    (variables.value i))
