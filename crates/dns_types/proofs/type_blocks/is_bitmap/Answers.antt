use Rattle.std.proofs.Common.{sym, ◌∙◌}
use Rattle.dns_types.proofs.TypeBlocks.{bitmap_none}
use Rattle.dns_types.proofs.type_blocks.is_bitmap.Goals as goal

pub returns : goal.returns
returns c = c.is_empty.ensures ∙ bitmap_none _ (sym c.first.ensures ∙ c.in_default.is) ∙ c.loop-block.invariant
