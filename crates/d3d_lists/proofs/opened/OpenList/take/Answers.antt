use Rattle.std.proofs.Common.{ap, ◌∙◌}
use Rattle.std.specs.Global.{Vec}
use Rattle.d3d_lists.specs.declared.numbered.Numbered as code
use Rattle.d3d_lists.specs.Calls.{calls_in}
use Rattle.d3d_lists.proofs.Begun.{begun_none}
use Rattle.d3d_lists.proofs.Tables.{calls_in-nil}
use Rattle.d3d_lists.proofs.opened.OpenList.take.Goals as goal

pub invariant_of-self : goal.invariant_of-self
invariant_of-self c = record {
  begun_is = begun_none c.new.result (calls_in c.replace.new.dest.items) c.new.ensures
      (ap (λ (v : Vec code.Numbered). calls_in v.items) c.replace.ensures.after ∙ ap calls_in c.new-2.ensures.items ∙ calls_in-nil);
}

pub returns-clause-left : goal.returns-clause-left
returns-clause-left c = ap (λ (v : Vec code.Numbered). calls_in v.items) c.replace.ensures.after ∙ ap calls_in c.new-2.ensures.items ∙ calls_in-nil
