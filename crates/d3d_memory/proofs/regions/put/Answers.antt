use Rattle.std.proofs.Common.{sym, ◌∙◌, arith}
use Rattle.d3d_memory.proofs.Puts.{put_is_mid, put_passes}
use Rattle.d3d_memory.proofs.regions.put.Goals as goal

pub returns-then-fits : goal.returns-then-fits
returns-then-fits c = put_is_mid c.args.bytes.now _ c.args.piece.now c.args.from _ (sym c.fits.ensures ∙ c.if-fits.true) c.copy_from_slice.ensures.after (omega arith)

pub returns-else-fits : goal.returns-else-fits
returns-else-fits c = sym (put_passes c.args.bytes.now c.args.from c.args.piece.now (sym c.fits.ensures ∙ c.if-fits.false))
