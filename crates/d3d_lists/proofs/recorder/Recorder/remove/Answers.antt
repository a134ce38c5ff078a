use Rattle.std.proofs.Common.{◌-◌, List, sym, ap, ◌∙◌}
use Rattle.std.specs.Option.{option_map}
use Rattle.d3d_lists.specs.declared.numbered.Numbered as code
use Rattle.d3d_lists.specs.Calls.{calls_in}
use Rattle.d3d_lists.specs.Named.{count_of}
use Rattle.d3d_lists.specs.Names.{times_in}
use Rattle.d3d_lists.specs.Recorded.{lists_of, recorded_by}
use Rattle.d3d_lists.proofs.Counted.{after_removing}
use Rattle.d3d_lists.proofs.Tables.{get-lists_in, list_of, lists_in-remove}
use Rattle.d3d_lists.proofs.recorder.Recorder.remove.Goals as goal

pub invariant_of-self : goal.invariant_of-self
invariant_of-self c =
    let self = c.args.self.now in
    let es = self.lists.entries in
    let id = c.args.list in
    let live = get-lists_in es id ∙ ap (option_map list_of) (sym c.remove.ensures.value ∙ c.in-Some.is) in
    record {
      all = self.all;
      counted = after_removing self.named c.uncount.new.named (recorded_by self) (lists_of self) _ id (calls_in c.in-Some.calls.items) live self.counted
          (λ k. c.uncount.ensures k ∙ ap (λ (cs : List code.Numbered). count_of self.named k - times_in k (calls_in cs)) c.deref.ensures.value)
          (lists_in-remove es c.remove.new.self.entries id c.remove.ensures.updates.0);
    }

pub returns-in-Some-clause-lists : goal.returns-in-Some-clause-lists
returns-in-Some-clause-lists c = lists_in-remove c.args.self.now.lists.entries c.remove.new.self.entries c.args.list c.remove.ensures.updates.0

pub returns-in_default-clause-lists : goal.returns-in_default-clause-lists
returns-in_default-clause-lists c = lists_in-remove c.args.self.now.lists.entries c.remove.new.self.entries c.args.list c.remove.ensures.updates.0
