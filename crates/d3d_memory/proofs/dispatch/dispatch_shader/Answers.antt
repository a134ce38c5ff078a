use Rattle.std.proofs.Common.{List, ℕ, map, ap, ◌∙◌, arith}
use Rattle.shader_model.specs.declared.tree.Declared.{Declared}
use Rattle.shader_model.specs.Dispatch.{dispatched}
use Rattle.shader_model.specs.Shader.{program_of}
use Rattle.shader_slots.specs.Bound.{words_bound}
use Rattle.d3d_model.specs.D3dState.{Memory}
use Rattle.d3d_model.specs.Memory.{counted, slots_seen, stored, uavs_shown}
use Rattle.d3d_state.specs.Meaning.{objects_of}
use Rattle.d3d_memory.proofs.Bounded.{ran_stored}
use Rattle.d3d_memory.proofs.dispatch.dispatch_shader.Goals as goal

pub count_ran-requires : goal.count_ran-requires
count_ran-requires c =
    let b = c.args.bindings.now in
    omega (
      arith,
      c.requires.ran,
      c.in_ok-ran.ensures.limit,
      ap (λ (m : Memory). m.ran) c.store.ensures,
      ran_stored c.args.memory.now (uavs_shown b c.declared.result.now) (map words_bound c.in_ok-ran.ran.parts),
    )

pub returns-clause-ok : goal.returns-clause-ok
returns-clause-ok c =
    let o = objects_of c.args.objects.now in
    let b = c.args.bindings.now in
    let m = c.args.memory.now in
    let ds = c.args.shader.now.declared in
    let left = (dispatched (program_of c.args.shader.now) c.args.groups (slots_seen o m b ds)).writes in
    c.count_ran.ensures
    ∙ ap (λ (n : Memory). counted n c.in_ok-ran.ran.count)
    (c.store.ensures
    ∙ ap (λ (l : List Declared). stored m (uavs_shown b l) (map words_bound c.in_ok-ran.ran.parts)) c.declared.ensures
    ∙ ap (λ (l : List (List ℕ)). stored m (uavs_shown b ds) l) c.in_ok-ran.ensures.words)
    ∙ ap (λ (k : ℕ). counted (stored m (uavs_shown b ds) left) k) c.in_ok-ran.ensures.count
