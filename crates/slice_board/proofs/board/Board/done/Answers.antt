use Rattle.std.proofs.Common.{◌∙◌, sym, ap, arith}
use Rattle.slice_board.proofs.Moves.{reads}
use Rattle.slice_board.proofs.board.Board.done.Goals as goal

pub load-requires : goal.load-requires
load-requires c = (ap (λ x. x.board) c.seat.view_is ∙ (c.requires ∙ sym c.self.view_is), omega (arith, c.self.invariant.0), reads _ _ _)
