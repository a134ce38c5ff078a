use Rattle.std.proofs.Common.{[], Option, sym, ap, ◌∙◌}
use Rattle.base_lemmas.specs.IdMap as ids
use Rattle.d3d_model.specs.D3dState.{Shader, words_if}
use Rattle.d3d_model.specs.Shader.{declared_by, declared_if}
use Rattle.d3d_state.specs.Meaning.{objects_of}
use Rattle.d3d_state.proofs.Spelled.{declared_spelled, none_spelled}
use Rattle.log_script.specs.Plays.{creator}
use Rattle.item_work.proofs.Moves.{dispatch_moves}
use Rattle.item_work.proofs.works.dispatch.Goals as goal

pub returns-in_ok-slots-in-Some : goal.returns-in_ok-slots-in-Some
returns-in_ok-slots-in-Some c = λ past of counts names on.
    let o = objects_of c.args.objects.now in
    let live = c.in-Some.ensures ∙ ap (ids.get o.shaders) c.shader.ensures in
    c.dispatch_of.ensures
    ∙ dispatch_moves past c.args.blocks.now of names o c.args.set.now c.declared.result.now c.call.result counts c.args.groups
    c.in_ok-slots-in-Some.slots.items (c.call.ensures ∙ ap creator live)
    (c.declared.ensures
    ∙ sym (ap (λ (s : Option Shader). declared_by (words_if s)) (sym live) ∙ declared_spelled c.in-Some.shader.now.words ∙ ap declared_if c.tree.ensures))
    on c.in_ok-slots-in-Some.ensures

pub returns-in_ok-slots-in-None : goal.returns-in_ok-slots-in-None
returns-in_ok-slots-in-None c = λ past of counts names on.
    let o = objects_of c.args.objects.now in
    let none = c.in-None.ensures ∙ ap (ids.get o.shaders) c.shader.ensures in
    c.dispatch_of-in-None.ensures
    ∙ dispatch_moves past c.args.blocks.now of names o c.args.set.now [] 0 counts c.args.groups
    c.in_ok-slots-in-None.slots.items (ap creator none)
    (sym (ap (λ (s : Option Shader). declared_by (words_if s)) (sym none) ∙ declared_spelled [] ∙ ap declared_if none_spelled))
    on c.in_ok-slots-in-None.ensures
