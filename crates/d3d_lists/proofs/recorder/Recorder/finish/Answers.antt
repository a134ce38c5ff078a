use Rattle.std.proofs.Common.{◌≡◌, [], List, length, ap, ◌∙◌, arith}
use Rattle.std.specs.Prelude.{slice_set}
use Rattle.std.proofs.lemmas.List.{with_items_is}
use Rattle.base_lemmas.specs.IdMap.{insert}
use Rattle.d3d_model.specs.D3dState.{Numbered}
use Rattle.d3d_lists.specs.declared.opened.OpenList.{OpenList}
use Rattle.d3d_lists.specs.Calls.{calls_in}
use Rattle.d3d_lists.specs.Lists.{Lists}
use Rattle.d3d_lists.specs.Opened.{recorded_at, recorded_in}
use Rattle.d3d_lists.specs.Recorded.{lists_of, recorded_by}
use Rattle.d3d_lists.proofs.Counted.{after_finishing}
use Rattle.d3d_lists.proofs.Tables.{had_room, insert_again, length-recorded_in, lists_in-insert, put_there}
use Rattle.d3d_lists.proofs.recorder.Recorder.finish.Goals as goal

pub invariant_of-self-2 : goal.invariant_of-self-2
invariant_of-self-2 c =
    let self = c.args.self.now in
    let es = self.lists.entries in
    let x = c.args.context in
    let id = c.args.list in
    let long : length c.take_at-calls.new.opened ≡ self.opened.len = c.take_at-calls.auto.opened ∙ c.deref_mut.ensures.len in
    let same = with_items_is self.opened c.take_at-calls.new.opened long in
    let there = put_there es c.insert.new.self.entries id c.new.result c.in_ok-insert.ensures.updates.0 in
    let updates = had_room c.insert-2.result _ c.new.result c.insert-2.ensures.updates c.insert-2.ensures.absent there in
    let first = lists_in-insert es c.insert.new.self.entries id c.new.result c.in_ok-insert.ensures.updates.0 in
    let second = lists_in-insert c.insert.new.self.entries c.insert-2.new.self.entries id c.take_at-calls.result updates.0 in
    let calls = calls_in c.take_at-calls.result.items in
    let taken = c.take_at-calls.ensures.taken ∙ ap (λ (l : List OpenList). recorded_at l x) c.deref_mut.ensures.value in
    record {
      all = omega (arith, ap (λ (l : List OpenList). length l) same, long, self.opened.ok.0, self.all);
      counted = after_finishing self.named (recorded_by self) _ (lists_of self) _ x id (omega (arith, c.requires.context, self.all, length-recorded_in self.opened.items)) c.requires.free self.counted
          (ap recorded_in same ∙ c.take_at-calls.ensures.left ∙ ap (λ (l : List OpenList). slice_set (recorded_in l) x []) c.deref_mut.ensures.value)
          (second ∙ ap (λ (l : Lists). insert l id calls) first ∙ insert_again (lists_of self) id calls (calls_in c.new.result.items) ∙ ap (λ (cs : List Numbered). insert (lists_of self) id cs) taken);
    }

pub returns-clause-lists : goal.returns-clause-lists
returns-clause-lists c =
    let self = c.args.self.now in
    let es = self.lists.entries in
    let id = c.args.list in
    let there = put_there es c.insert.new.self.entries id c.new.result c.in_ok-insert.ensures.updates.0 in
    let updates = had_room c.insert-2.result _ c.new.result c.insert-2.ensures.updates c.insert-2.ensures.absent there in
    let first = lists_in-insert es c.insert.new.self.entries id c.new.result c.in_ok-insert.ensures.updates.0 in
    let second = lists_in-insert c.insert.new.self.entries c.insert-2.new.self.entries id c.take_at-calls.result updates.0 in
    let calls = calls_in c.take_at-calls.result.items in
    let taken = c.take_at-calls.ensures.taken ∙ ap (λ (l : List OpenList). recorded_at l c.args.context) c.deref_mut.ensures.value in
    second ∙ ap (λ (l : Lists). insert l id calls) first ∙ insert_again (lists_of self) id calls (calls_in c.new.result.items) ∙ ap (λ (cs : List Numbered). insert (lists_of self) id cs) taken
