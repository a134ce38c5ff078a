use Rattle.immediate_ctx.proofs.Recording.{passed_stands, due_stands, handed_stands, handed_is, may_be_handed}
use Rattle.immediate_ctx.proofs.stands.chunks_stand_as_handed_over.Goals as goal

pub returns-clause-passed : goal.returns-clause-passed
returns-clause-passed c = passed_stands

pub returns-clause-due : goal.returns-clause-due
returns-clause-due c = due_stands

pub returns-clause-handed : goal.returns-clause-handed
returns-clause-handed c = handed_stands

pub returns-clause-chunk : goal.returns-clause-chunk
returns-clause-chunk c = handed_is

pub returns-clause-free : goal.returns-clause-free
returns-clause-free c = may_be_handed
