use Rattle.std.proofs.Common.{◌≡◌, Some, true, sym, ap, ◌∙◌, slice_get, arith, below_more}
use Rattle.std.proofs.lemmas.Option.{slice_get-get_or}
use Rattle.vk_order.specs.Asks.{is_command}
use Rattle.vk_order.proofs.hazards.open_far.Goals as goal
use Rattle.vk_order.proofs.hazards.open_far.Goals.{else-not-is_command-via-then-not-is_command+else-is_open, else-not-is_command-via-else-not-is_command}

pub loop-y-preserved : goal.loop-y-preserved
loop-y-preserved c =
    let ops = c.args.ops.now in let y = c.loop-y.y in
    below_more _ _ c.loop-y.invariant
    (elim c.else-not-is_command.branch [
      | else-not-is_command-via-then-not-is_command+else-is_open w ↦ sym w.is_open.ensures ∙ w.if-is_open.false
      | else-not-is_command-via-else-not-is_command w ↦
          let is : c.is_command.result ≡ true = grind arith in
          let there : slice_get ops y ≡ Some c.index-ops-y.result = slice_get-get_or ops y c.index-ops-y.result (omega arith) ∙ ap Some (sym c.index-ops-y.is) in
          c.requires.served y (omega arith) (omega arith) (ap is_command there ∙ sym c.is_command.ensures ∙ is)
    ])
