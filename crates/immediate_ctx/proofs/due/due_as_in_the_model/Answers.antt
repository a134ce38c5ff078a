use Rattle.immediate_ctx.proofs.Counting.{counts_of-item, counts_of-other}
use Rattle.immediate_ctx.proofs.due.due_as_in_the_model.Goals as goal

pub returns-clause-item : goal.returns-clause-item
returns-clause-item c = counts_of-item

pub returns-clause-other : goal.returns-clause-other
returns-clause-other c = counts_of-other
