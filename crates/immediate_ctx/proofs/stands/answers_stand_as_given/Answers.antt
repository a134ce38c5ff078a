use Rattle.immediate_ctx.proofs.Ending.{call_waits, end_waits, ended_stands, still_stands}
use Rattle.immediate_ctx.proofs.stands.answers_stand_as_given.Goals as goal

pub returns-clause-ended : goal.returns-clause-ended
returns-clause-ended c = ended_stands

pub returns-clause-end_waits : goal.returns-clause-end_waits
returns-clause-end_waits c = end_waits

pub returns-clause-still : goal.returns-clause-still
returns-clause-still c = still_stands

pub returns-clause-waits : goal.returns-clause-waits
returns-clause-waits c = call_waits
