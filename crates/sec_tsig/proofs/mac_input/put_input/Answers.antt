use Rattle.std.proofs.Common.{ℕ, List, Result, ap, ◌∙◌}
use Rattle.std.specs.Option.{option_copied}
use Rattle.dns_wire.specs.declared.error.EmitError.{EmitError}
use Rattle.sec_sigdata.specs.TsigRecords.{borrowed_data}
use Rattle.sec_tsig.specs.Tsig.{written_input}
use Rattle.sec_tsig.proofs.Inputs.{input_fits, octets_written, put_is_ok, put_takes}
use Rattle.sec_tsig.proofs.mac_input.put_input.Goals as goal

pub unwrap-requires : goal.unwrap-requires
unwrap-requires g c =
    let input = c.args.input.now in
    let previous = option_copied input.previous in
    let owner = input.variables.now.key_name.now in
    let data_of = borrowed_data input.variables.now.tsig in
    let message = octets_written _ c.requires.message in
    put_is_ok g.S.OctetSink.has_taken _ _ _ _ _
    (ap (λ (m : Result (List ℕ) EmitError). written_input previous m input.is_first owner data_of) message.1
    ∙ input_fits previous input.is_first message.0 owner data_of c.requires.previous c.requires.time c.requires.other)
    c.put.ensures

pub returns : goal.returns
returns g c octets is =
    let input = c.args.input.now in
    let previous = option_copied input.previous in
    let owner = input.variables.now.key_name.now in
    let data_of = borrowed_data input.variables.now.tsig in
    put_takes g.S.OctetSink.has_taken _ _ _ _ _ _ c.unwrap.ensures
    (ap (λ (m : Result (List ℕ) EmitError). written_input previous m input.is_first owner data_of) is
    ∙ input_fits previous input.is_first octets owner data_of c.requires.previous c.requires.time c.requires.other)
    c.put.ensures
