use Rattle.std.proofs.Common.{◌∙◌, sym, ap, arith}
use Rattle.slice_board.proofs.Moves.{raises_to}
use Rattle.slice_board.proofs.board.Board.raise_done.Goals as goal

pub fetch_max-requires : goal.fetch_max-requires
fetch_max-requires c = (ap (λ x. x.board) c.seat.view_is ∙ (c.requires.board ∙ sym c.self.view_is), omega (arith, c.self.invariant.0), raises_to _ _ _ _ c.requires.small)
