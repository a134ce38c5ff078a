use Rattle.std.proofs.Common.{ℕ, List}
use Rattle.std.specs.Prelude.{slice_index}
use Rattle.shader_model.specs.Invocation.{stored}
use Rattle.shader_eval.proofs.Writing.{all_four, none_stored}
use Rattle.shader_eval.proofs.access.store_lanes.Goals as goal

pub returns : goal.returns
returns c =
    let v = c.args.view.now in
    let value : ℕ → ℕ = λ k. slice_index c.args.values k in
    let put : ℕ → List ℕ → List ℕ = stored v.declared c.args.extra c.args.a c.args.o value in
    let none = none_stored v.declared c.args.extra c.args.a c.args.o value in
    all_four v.name.slot (put 0) (put 1) (put 2) (put 3) c.args.slots.now c.store_one.new.slots c.store_one-2.new.slots c.store_one-3.new.slots c.store_one-4.new.slots (none 0) (none 1) (none 2)
    c.store_one.ensures c.store_one-2.ensures c.store_one-3.ensures c.store_one-4.ensures
