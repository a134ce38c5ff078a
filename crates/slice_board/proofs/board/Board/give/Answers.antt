use Rattle.std.proofs.Common.{refl, ◌∙◌}
use Rattle.slice_board.proofs.Turns.{full_more}
use Rattle.slice_board.proofs.board.Board.give.Goals as goal

pub tries-preserved : goal.tries-preserved
tries-preserved c = (c.give_at.ensures.board, c.in-Err.ensures.given.0 ∙ c.tries.invariant.1, full_more _ _ _ _ _ _ c.tries.invariant.2 refl c.in-Err.ensures.given.1)
