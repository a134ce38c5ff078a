use Rattle.std.proofs.Common.{sym, ◌∙◌}
use Rattle.d3d_memory.proofs.Puts.{own_is_put, own_passes}
use Rattle.d3d_memory.proofs.regions.put_own.Goals as goal

pub returns-then-fits : goal.returns-then-fits
returns-then-fits c =
    own_is_put c.args.bytes.now c.copy_within.new.self c.args.to c.args.from c.args.len c.min-start.result c.min-len.result c.min-start.ensures c.min-len.ensures (sym c.fits.ensures ∙ c.if-fits.true) c.copy_within.ensures.after

pub returns-else-fits : goal.returns-else-fits
returns-else-fits c =
    own_passes c.args.bytes.now c.args.to c.args.from c.args.len c.min-start.result c.min-len.result c.min-start.ensures c.min-len.ensures (sym c.fits.ensures ∙ c.if-fits.false)
