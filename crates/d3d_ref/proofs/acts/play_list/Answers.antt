use Rattle.std.proofs.Common.{◌≡◌, ℕ, ◌+◌, ◌-◌, ◌≤◌, ◌<◌, List, length, take, suc, refl, sym, ap, subst, ◌∙◌, arith}
use Rattle.std.proofs.lemmas.List.{take_all}
use Rattle.call_log.specs.View.{call_view}
use Rattle.d3d_model.specs.Binding.{Bindings, default_bindings}
use Rattle.d3d_model.specs.D3dState.{Memory, Numbered, calls_of_list}
use Rattle.d3d_model.specs.Memory.{run}
use Rattle.d3d_model.specs.Stream.{set_by}
use Rattle.d3d_state.specs.Meaning.{objects_of}
use Rattle.d3d_effects.specs.Listed.{bindings_after}
use Rattle.d3d_memory.specs.Commands.{seen}
use Rattle.d3d_memory.specs.Limits.{HasRoom}
use Rattle.d3d_memory.proofs.Bounded.{in_room, room_after}
use Rattle.d3d_plan.proofs.Moves.{all_contexts}
use Rattle.d3d_ref.specs.Runs.{runs_from}
use Rattle.d3d_ref.proofs.Runs.{fits_at, runs_list, runs_more, sets_more}
use Rattle.d3d_ref.proofs.acts.play_list.Goals as goal

pub calls-init : goal.calls-init
unfolding runs_from bindings_after
calls-init c =
    let m = c.args.memory.now in
    let many = length (calls_of_list (objects_of c.args.objects.now) c.args.list) in
    record {
      set = c.new-bindings.ensures;
      ran = refl;
      room = subst (λ (k : ℕ). HasRoom m k) (let z : many ≡ many - 0 = omega arith in z) c.requires.room;
    }

pub call_in-call-requires : goal.call_in-call-requires
call_in-call-requires c = omega (arith, c.calls-test.true, c.count_of-i-end.ensures)

pub run-requires : goal.run-requires
run-requires c = in_room c.calls.memory (length (calls_of_list (objects_of c.args.objects.now) c.args.list) - c.calls.i) c.calls.invariant.room

pub set_by-requires : goal.set_by-requires
set_by-requires c = fits_at (calls_of_list (objects_of c.args.objects.now) c.args.list) c.calls.i (call_view c.call_in-call.result) c.requires.fit c.call_in-call.ensures

pub calls-preserved : goal.calls-preserved
calls-preserved c =
    let o = objects_of c.args.objects.now in
    let cs = calls_of_list o c.args.list in
    let i = c.calls.i in
    let call = call_view c.call_in-call.result in
    let below : i < length cs = omega (arith, c.calls-test.true, c.count_of-i-end.ensures) in
    let left : length cs - i ≡ suc (length cs - (i + 1)) = omega (arith, below) in
    let ran : c.run.new.memory ≡ run (seen o c.calls.bindings) c.calls.memory call = c.in_ok-run.ensures.ok in
    record {
      set = c.set_by.ensures ∙ ap (λ (b : Bindings). set_by o b call) c.calls.invariant.set ∙ sets_more o cs default_bindings i call c.call_in-call.ensures;
      ran =
          ran ∙ ap (λ (b : Bindings). run (seen o b) c.calls.memory call) c.calls.invariant.set
          ∙ ap (λ (m : Memory). run (seen o (bindings_after o default_bindings (take i cs))) m call) c.calls.invariant.ran
          ∙ runs_more o cs default_bindings c.args.memory.now i call c.call_in-call.ensures;
      room = subst (λ (m : Memory). HasRoom m (length cs - (i + 1))) (sym ran)
          (room_after (seen o c.calls.bindings) c.calls.memory call (length cs - (i + 1)) (subst (λ (k : ℕ). HasRoom c.calls.memory k) left c.calls.invariant.room));
    }

pub returns : goal.returns
returns c = λ n.
    let o = objects_of c.args.objects.now in
    let cs = calls_of_list o c.args.list in
    let all : length cs ≤ c.calls.i = omega (arith, c.count_of-i-end.ensures, c.calls-test.false) in
    c.calls.invariant.ran ∙ ap (λ (l : List Numbered). runs_from o default_bindings c.args.memory.now l) (take_all c.calls.i cs all) ∙ runs_list n o c.args.memory.now cs (all_contexts c.args.objects.now)
