use Rattle.std.proofs.Common.{ap, ◌∙◌}
use Rattle.d3d_lists.specs.Calls.{calls_in}
use Rattle.d3d_lists.proofs.Begun.{begun_none}
use Rattle.d3d_lists.proofs.Tables.{calls_in-nil}
use Rattle.d3d_lists.proofs.opened.OpenList.new.Goals as goal

pub invariant_of-result : goal.invariant_of-result
invariant_of-result c = record { begun_is = begun_none c.new-2.result (calls_in c.new.result.items) c.new-2.ensures (ap calls_in c.new.ensures.items ∙ calls_in-nil) }

pub returns : goal.returns
returns c = ap calls_in c.new.ensures.items ∙ calls_in-nil
