use Rattle.immediate_ctx.proofs.Growing.{handed_listed, listed, post_listed}
use Rattle.immediate_ctx.proofs.stands.listing_stands_as_it_grows.Goals as goal

pub returns-clause-op : goal.returns-clause-op
returns-clause-op c = listed

pub returns-clause-handed : goal.returns-clause-handed
returns-clause-handed c = handed_listed

pub returns-clause-post : goal.returns-clause-post
returns-clause-post c = post_listed
