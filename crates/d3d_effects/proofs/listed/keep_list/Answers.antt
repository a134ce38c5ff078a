use Rattle.std.proofs.Common.{◌≤◌, List, [], length, take, subst, ap, ◌∙◌, arith}
use Rattle.std.specs.Prelude.{slice_index_or}
use Rattle.std.proofs.lemmas.List.{take_all}
use Rattle.dx_types.specs.declared.range.ResRange.{ResRange}
use Rattle.call_log.specs.View.{call_view}
use Rattle.d3d_model.specs.Binding.{default_bindings}
use Rattle.d3d_model.specs.D3dState.{Numbered, calls_of_list}
use Rattle.d3d_model.specs.Past.{then_done}
use Rattle.d3d_model.specs.Stream.{deeds_of_list}
use Rattle.d3d_state.specs.Meaning.{objects_of}
use Rattle.d3d_uses.specs.Summary.{Records}
use Rattle.d3d_effects.specs.Listed.{bindings_after}
use Rattle.d3d_effects.proofs.Parts.{keeps_next, part_is}
use Rattle.d3d_effects.proofs.listed.keep_list.Goals as goal

pub calls-init : goal.calls-init
unfolding then_done
calls-init c = λ cut past res h. h

pub call_in-call-requires : goal.call_in-call-requires
call_in-call-requires c = omega (arith, c.calls-test.true, c.count_of-i-end.ensures)

pub calls-preserved : goal.calls-preserved
calls-preserved c = λ cut.
    let o = objects_of c.args.objects.now in
    let calls = calls_of_list o c.args.list in
    let call = call_view c.call_in-call.result in
    keeps_next o calls c.calls.i c.args.n call c.args.uses.now c.calls.uses c.keep_listed.new.uses c.call_in-call.ensures (c.calls.invariant cut)
    (c.in_ok-keep_listed.ensures o (bindings_after o default_bindings (take c.calls.i calls))
    (c.part.ensures ∙ ap (λ (ps : List (List ResRange)). slice_index_or ps c.calls.i []) cut ∙ part_is o default_bindings calls c.calls.i call c.call_in-call.ensures))

pub returns : goal.returns
returns c = λ cut.
    let o = objects_of c.args.objects.now in
    let calls = calls_of_list o c.args.list in
    let all : length calls ≤ c.calls.i = omega (arith, c.count_of-i-end.ensures, c.calls-test.false) in
    subst (λ (cs : List Numbered). Records c.args.uses.now c.args.n (deeds_of_list o cs) c.calls.uses) (take_all c.calls.i calls all) (c.calls.invariant cut)
