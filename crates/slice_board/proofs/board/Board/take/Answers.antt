use Rattle.std.proofs.Common.{refl}
use Rattle.slice_board.proofs.Turns.{none_more}
use Rattle.slice_board.proofs.board.Board.take.Goals as goal

pub looks-preserved : goal.looks-preserved
looks-preserved c = (c.take_at.ensures.board, none_more _ _ _ _ _ _ c.looks.invariant.1 refl c.in_default.ensures.taken)
