use Rattle.std.proofs.Common.{◌-◌, ◌*◌, ap, arith, length, length-take, drop}
use Rattle.std.specs.Prelude.{slice_range}
use Rattle.dns_types.proofs.FormLaws.{length-trimmed}
use Rattle.dns_types.proofs.type_form.TypeBits.form.Goals as goal

pub push_block-requires : goal.push_block-requires
push_block-requires c =
    let bits = c.as_slice-bits.result.now in
    let start = 32 * c.loop-window.window in
    omega (
      arith,
      ap length c.trimmed.ensures,
      length-trimmed (slice_range bits start c.min-end.result),
      length-take
          (c.min-end.result - start) (drop start bits),
      c.min-end.ensures,
    )
