use Rattle.std.proofs.Common.{◌≡◌}
use Rattle.slice_board.specs.Calls.{FoundFull}
use Rattle.slice_board.proofs.board.Board.give.Given as goal

abbrev pub invariant-tries : goal.invariant-tries
invariant-tries l = (l.seat.board ≡ l.self) × (l.kept ≡ l.fn.block) × FoundFull l.first l.p l.fn.seat.hand l.seat.hand
