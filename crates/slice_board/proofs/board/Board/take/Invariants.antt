use Rattle.std.proofs.Common.{◌≡◌}
use Rattle.slice_board.specs.Calls.{FoundNone}
use Rattle.slice_board.proofs.board.Board.take.Given as goal

abbrev pub invariant-looks : goal.invariant-looks
invariant-looks l = (l.seat.board ≡ l.self) × FoundNone l.first l.p l.fn.seat.hand l.seat.hand
