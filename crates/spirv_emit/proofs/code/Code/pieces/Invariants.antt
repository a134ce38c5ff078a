use Rattle.std.proofs.Common.{◌≡◌, ◌++◌, drop}
use Rattle.spirv_emit.specs.Code.{pieces_ops, pieces_end}
use Rattle.spirv_emit.specs.Emits.{layout_of, written, PiecesAreSmall}
use Rattle.spirv_emit.proofs.code.Code.pieces.Given as goal

abbrev pub invariant-loop-piece : goal.invariant-loop-piece
invariant-loop-piece l =
    let at = layout_of l.plan in
    (l.initial.self.words ++ written (pieces_ops at l.initial.self.next l.pieces) ≡ l.self.words ++ written (pieces_ops at l.self.next (drop l.piece-index l.pieces)))
    × (pieces_end l.initial.self.next l.pieces ≡ pieces_end l.self.next (drop l.piece-index l.pieces))
    × PiecesAreSmall (drop l.piece-index l.pieces)
