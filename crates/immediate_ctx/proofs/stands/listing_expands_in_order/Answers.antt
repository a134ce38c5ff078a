use Rattle.immediate_ctx.proofs.StandingFlight.{expand-op, expand-handed, expand-whole}
use Rattle.immediate_ctx.proofs.stands.listing_expands_in_order.Goals as goal

pub returns-clause-op : goal.returns-clause-op
returns-clause-op c = expand-op

pub returns-clause-handed : goal.returns-clause-handed
returns-clause-handed c = expand-handed

pub returns-clause-whole : goal.returns-clause-whole
returns-clause-whole c = expand-whole
