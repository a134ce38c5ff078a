use Rattle.std.proofs.Common.{ap, ◌∙◌}
use Rattle.d3d_lists.specs.Lists.{lists_in}
use Rattle.d3d_lists.proofs.Counted.{counts_none}
use Rattle.d3d_lists.proofs.Tables.{lists_in-nil}
use Rattle.d3d_lists.proofs.recorder.Recorder.new.Goals as goal

pub invariant_of-result : goal.invariant_of-result
invariant_of-result c = record {
  all = c.in_ok-opened.ensures.count;
  counted = counts_none c.new-2.result _ _ 17 c.new-2.ensures c.in_ok-opened.ensures.empty (ap lists_in c.new.ensures.empty ∙ lists_in-nil);
}

pub returns-clause-lists : goal.returns-clause-lists
returns-clause-lists c = ap lists_in c.new.ensures.empty ∙ lists_in-nil
