use Rattle.std.proofs.Common.{arith}
use Rattle.std.specs.Prelude.{slice_index}
use Rattle.shader_eval.proofs.Limits.{place_below}
use Rattle.shader_eval.proofs.thread.Thread.flattened.Goals as goal

pub overflow_mul-result-2 : goal.overflow_mul-result-2
overflow_mul-result-2 c =
    let i = c.self.inside.ids in
    let v = c.self.invariant in
    omega (arith, place_below (slice_index i.size 0) (slice_index i.size 1) (slice_index i.thread 1) (slice_index i.thread 2) (v.size 0 (omega arith)) (v.size 1 (omega arith)) (v.thread 1 (omega arith)) (v.thread 2 (omega arith)))

pub overflow_add-result-2 : goal.overflow_add-result-2
overflow_add-result-2 c =
    let i = c.self.inside.ids in
    let v = c.self.invariant in
    let x = v.thread 0 (omega arith) in
    omega (arith, x, place_below (slice_index i.size 0) (slice_index i.size 1) (slice_index i.thread 1) (slice_index i.thread 2) (v.size 0 (omega arith)) (v.size 1 (omega arith)) (v.thread 1 (omega arith)) (v.thread 2 (omega arith)))
