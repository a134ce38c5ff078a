use Rattle.std.proofs.Common.{◌∙◌, sym, ap, arith}
use Rattle.slice_board.proofs.Moves.{merges}
use Rattle.slice_board.proofs.board.Board.join.Goals as goal

pub join_seat-requires : goal.join_seat-requires
join_seat-requires c =
    (ap (λ x. x.board) c.seat.view_is ∙ (c.requires.first ∙ sym c.self.view_is), ap (λ x. x.board) c.other.view_is ∙ (c.requires.second ∙ sym c.self.view_is), c.other.invariant.0, omega (arith, c.self.invariant.0), merges _ _ _ _ c.other.invariant.1)
