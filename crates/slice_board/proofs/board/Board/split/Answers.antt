use Rattle.std.proofs.Common.{◌∙◌, sym, ap, arith}
use Rattle.slice_board.proofs.Moves.{forks}
use Rattle.slice_board.proofs.board.Board.split.Goals as goal

pub split_seat-requires : goal.split_seat-requires
split_seat-requires c = (ap (λ x. x.board) c.seat.view_is ∙ (c.requires ∙ sym c.self.view_is), omega (arith, c.self.invariant.0), forks _ _)
