use Rattle.std.proofs.Common.{sym, ◌∙◌}
use Rattle.sec_sigdata.proofs.TsigNames.{other_name}
use Rattle.sec_tsig.proofs.mac_check.uses_hash.Goals as goal

pub returns-in-None : goal.returns-in-None
returns-in-None c = other_name c.args.algorithm.now c.args.hash c.requires (sym c.hmac_hash.ensures ∙ c.in-None.is)
