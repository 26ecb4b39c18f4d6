use Rattle.dns_rows.proofs.TextSteps.{is_text_in, no_text_in}
use Rattle.dns_rows.proofs.call_words.text_in.Goals as goal

pub returns-in-Ok : goal.returns-in-Ok
returns-in-Ok c = is_text_in c.args.octets.now _ c.in-Ok.ensures.cases.0 c.in-Ok.ensures.cases.1

pub returns-in-Err : goal.returns-in-Err
returns-in-Err c = no_text_in c.args.octets.now c.in-Err.ensures.cases.0
