use Rattle.std.proofs.Common.{◌≡◌, ◌++◌, ◌∷◌, [], List, length, ap, ◌∙◌, arith}
use Rattle.std.specs.Prelude.{slice_set}
use Rattle.std.proofs.lemmas.List.{with_items_is}
use Rattle.call_log.specs.View.{call_view}
use Rattle.d3d_model.specs.Stream.{names}
use Rattle.d3d_lists.specs.declared.opened.OpenList.{OpenList}
use Rattle.d3d_lists.specs.Calls.{numbered}
use Rattle.d3d_lists.specs.Opened.{recorded_at, recorded_in}
use Rattle.d3d_lists.specs.Recorded.{lists_of, recorded_by}
use Rattle.d3d_lists.proofs.Counted.{after_recording}
use Rattle.d3d_lists.proofs.Tables.{length-recorded_in}
use Rattle.d3d_lists.proofs.Times.{times_named}
use Rattle.d3d_lists.proofs.recorder.Recorder.record.Goals as goal

pub invariant_of-self-2 : goal.invariant_of-self-2
invariant_of-self-2 c =
    let self = c.args.self.now in
    let x = c.args.context in
    let d = numbered c.args.call in
    let long : length c.push_at.new.opened ≡ self.opened.len = c.push_at.auto.opened ∙ c.deref_mut.ensures.len in
    let same = with_items_is self.opened c.push_at.new.opened long in
    record {
      all = omega (arith, ap (λ (l : List OpenList). length l) same, long, self.opened.ok.0, self.all);
      counted = after_recording self.named c.raise-2.new.self (recorded_by self) _ (lists_of self) x d (omega (arith, c.requires, self.all, length-recorded_in self.opened.items)) self.counted
          (λ k. omega (
            arith,
            c.raise-2.ensures.counts k,
            c.raise.ensures.counts k,
            c.make_room-2.ensures.same k,
            c.make_room.ensures.same k,
            times_named k c.names_of-one.result.0 c.names_of-one.result.1 (names (call_view c.args.call.call)) c.names_of-one.ensures,
          ))
          (ap recorded_in same ∙ c.in_ok-push_at.ensures.pushed
          ∙ ap (λ (l : List OpenList). slice_set (recorded_in l) x (recorded_at l x ++ d ∷ [])) c.deref_mut.ensures.value);
    }
