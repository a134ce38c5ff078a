use Rattle.immediate_ctx.proofs.Asking.{is_ready, is_pending, is_waiting}
use Rattle.immediate_ctx.proofs.readback.readbacks_as_in_the_model.Goals as goal

pub returns-clause-ready : goal.returns-clause-ready
returns-clause-ready c = is_ready

pub returns-clause-still : goal.returns-clause-still
returns-clause-still c = is_pending

pub returns-clause-waits : goal.returns-clause-waits
returns-clause-waits c = is_waiting
