use Rattle.immediate_ctx.proofs.StandingFlight.{taken_stands, last_call_stands}
use Rattle.immediate_ctx.proofs.stands.flight_stands_after_posts.Goals as goal

pub returns-clause-taken : goal.returns-clause-taken
returns-clause-taken c = taken_stands

pub returns-clause-last : goal.returns-clause-last
returns-clause-last c = last_call_stands
