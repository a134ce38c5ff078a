use Rattle.std.proofs.Common.{ap, sym, ◌∙◌}
use Rattle.call_log.specs.View.{call_view}
use Rattle.call_log.specs.declared.call.Call.{Call}
use Rattle.d3d_checks.specs.Created.{spells_shader}
use Rattle.d3d_state.specs.Meaning.{objects_of}
use Rattle.d3d_resources.proofs.CheckOrder.{whole_order}
use Rattle.d3d_checks.proofs.refusals.call_refusal.Goals as goal

pub returns-in-Destroy : goal.returns-in-Destroy
returns-in-Destroy c = λ past tells. rw c.in-Destroy.is (c.destroy_refusal.ensures past)

pub returns-in-View : goal.returns-in-View
returns-in-View c = λ past tells. rw c.in-View.is (c.view_refusal.ensures past)

pub returns-in-Buffer : goal.returns-in-Buffer
returns-in-Buffer c = λ past tells.
    let w = c.in-Buffer in
    let e = rw c.shape_from-shape.ensures at c.buffer_refusal.ensures in
    rw w.is (e ∙ sym (whole_order (objects_of c.args.objects.now) w.id w.size w.usage w.bind w.misc w.stride w.bytes.now))

pub returns-in-CreateShader : goal.returns-in-CreateShader
returns-in-CreateShader c = λ past tells.
    let w = c.in-CreateShader in
    rw w.is (c.creation_refusal.ensures past w.words.now (c.requires.spells ∙ ap (λ (call : Call). spells_shader (call_view call)) w.is))
