use Rattle.std.proofs.Common.{length, sym, ◌∙◌}
use Rattle.d3d_memory.proofs.Puts.{filled_nothing}
use Rattle.d3d_memory.proofs.regions.zero.Goals as goal

pub returns : goal.returns
returns c = c.fill.ensures.after (λ y h. h) ∙ sym (filled_nothing (length c.args.bytes.now))
