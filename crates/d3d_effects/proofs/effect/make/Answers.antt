use Rattle.std.proofs.Common.{◌≡◌, Some, refl, ap, subst, ◌∙◌}
use Rattle.d3d_checks.specs.Created.{shader_made}
use Rattle.call_log.specs.View.{call_view}
use Rattle.call_log.specs.declared.call.Call.{Call}
use Rattle.d3d_state.specs.Meaning.{objects_of}
use Rattle.d3d_checks.specs.Accepted.{Accepted}
use Rattle.d3d_effects.proofs.NoEffect.{makes_none}
use Rattle.d3d_effects.proofs.Passes.{made_some, table_passes}
use Rattle.d3d_effects.proofs.effect.make.Goals as goal

pub create_buffer-requires : goal.create_buffer-requires
create_buffer-requires c =
    let o = objects_of c.args.objects.now in
    let b = c.in-Buffer in
    rw c.shape_from-shape.ensures
    (table_passes o b.id b.size b.usage b.bind b.misc b.stride b.bytes.now (subst (λ (call : Call). Accepted o 0 (call_view call)) b.is c.requires.accepted))

pub create_shader-requires : goal.create_shader-requires
create_shader-requires c =
    let o = objects_of c.args.objects.now in
    let w = c.in-CreateShader in
    let accepted = subst (λ (call : Call). Accepted o 0 (call_view call)) w.is c.requires.accepted in
    rw (made_some o c.args.n w.id w.words.now c.args.shader accepted (c.requires.shader ∙ ap (λ (call : Call). shader_made c.args.n (call_view call)) w.is)) refl

pub returns-in-CreateShader-clause-applied : goal.returns-in-CreateShader-clause-applied
returns-in-CreateShader-clause-applied c =
    let o = objects_of c.args.objects.now in
    let w = c.in-CreateShader in
    let accepted = subst (λ (call : Call). Accepted o 0 (call_view call)) w.is c.requires.accepted in
    let some : c.args.shader ≡ Some (record { call = c.args.n; words = w.words.now }) =
    made_some o c.args.n w.id w.words.now c.args.shader accepted (c.requires.shader ∙ ap (λ (call : Call). shader_made c.args.n (call_view call)) w.is) in
    rw w.is (rw some at c.create_shader.ensures.applied)

pub destroy-requires : goal.destroy-requires
destroy-requires c =
    let o = objects_of c.args.objects.now in
    subst (λ (call : Call). Accepted o 0 (call_view call)) c.in-Destroy.is c.requires.accepted

pub returns-in_default-clause-applied : goal.returns-in_default-clause-applied
returns-in_default-clause-applied c =
    let d = c.in_default in
    makes_none c.args.n (objects_of c.args.objects.now) c.args.call.now
    (record { buffer = d.not-Buffer; view = d.not-View; shader = d.not-CreateShader; query = d.not-Query; destroy = d.not-Destroy })
