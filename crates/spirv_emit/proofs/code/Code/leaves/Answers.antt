use Rattle.std.proofs.Common.{rules, ◌≡◌, length}
use Rattle.spirv_emit.specs.declared.piece.Leaf.TheVariants.{Number}
use Rattle.spirv_emit.specs.Emits.{layout_of}
use Rattle.spirv_emit.proofs.Words.ListedCode.{five_leaves}
use Rattle.spirv_emit.proofs.Words.CalculationsAndAccesses.{leaves_five}
use Rattle.spirv_emit.proofs.code.Code.leaves.Goals as goal

pub returns-clause-appends : goal.returns-clause-appends
returns-clause-appends c =
    let at = layout_of c.args.plan.now in
    let e : length c.args.leaves ≡ 5 = search rules in
    five_leaves c.args.self.now c.leaf-5.new.self at c.args.leaves (Number 0) e
    (leaves_five at _ _ _ _ _ c.in_ok-a.ensures.appends c.in_ok-b.ensures.appends c.in_ok-c.ensures.appends c.in_ok-d.ensures.appends c.in_ok-e.ensures.appends)
