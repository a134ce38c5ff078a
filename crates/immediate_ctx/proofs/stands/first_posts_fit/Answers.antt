use Rattle.immediate_ctx.proofs.Fitting.{post_fits}
use Rattle.immediate_ctx.proofs.stands.first_posts_fit.Goals as goal

pub returns : goal.returns
returns c = post_fits
