use Rattle.std.proofs.Common.{subst}
use Rattle.dns_wire.specs.Sinks.{Puts}
use Rattle.sec_sigdata.specs.TsigRecords.{borrowed_data}
use Rattle.sec_sigdata.proofs.VariableFields.{variables_written}
use Rattle.sec_sigdata.proofs.tsig_variables.TsigVariablesPutting.put.Goals as goal

pub returns : goal.returns
returns g c =
    let written = rw (c.to_lowercase.ensures.value, c.to_lowercase-algorithm.ensures.value, c.to_name.ensures) at
    c.put_variables.ensures in
    subst (Puts g.S.OctetSink.has_taken c.put_variables.result _ c.put_variables.new.sink)
    (variables_written c.args.form.canonical_form c.args.self.now.key_name.now (borrowed_data c.args.self.now.tsig))
    written
