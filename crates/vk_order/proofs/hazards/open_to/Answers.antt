use Rattle.std.proofs.Common.{◌≡◌, Some, sym, ap, ◌∙◌, slice_get, arith}
use Rattle.std.proofs.lemmas.Option.{slice_get-get_or}
use Rattle.vk_order.proofs.Open.{backward, others_closed}
use Rattle.vk_order.proofs.hazards.open_to.Goals as goal

pub returns-then-x-bound : goal.returns-then-x-bound
returns-then-x-bound c = record {
  within = omega arith;
  none = λ y l. backward c.args.ops.now c.args.x y (omega (arith, l));
  here = λ l. absurd (omega (arith, l));
}

pub returns-in_default : goal.returns-in_default
returns-in_default c =
    let ops = c.args.ops.now in let o = c.index-ops-x.result in
    let there : slice_get ops c.args.x ≡ Some o = slice_get-get_or ops c.args.x o c.requires.there ∙ ap Some (sym c.index-ops-x.is) in
    record {
      within = omega arith;
      none = λ y l. others_closed ops c.args.x y o there c.in_default.not-Command;
      here = λ l. absurd (omega (arith, l));
    }
