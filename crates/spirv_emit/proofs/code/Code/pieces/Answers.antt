use Rattle.std.proofs.Common.{◌+◌, [], drop, get_or, ap, refl, sym, ◌∙◌, arith}
use Rattle.std.proofs.lemmas.List.{drop_all}
use Rattle.spirv_emit.specs.Emits.{layout_of}
use Rattle.spirv_emit.specs.Code.{pieces_ops, pieces_end}
use Rattle.spirv_emit.specs.declared.formula.Formula.TheVariants.{Same}
use Rattle.spirv_emit.specs.declared.piece.Piece.{Piece}
use Rattle.spirv_emit.specs.declared.piece.Piece.TheVariants.{Assign}
use Rattle.spirv_emit.specs.Code.{piece_end}
use Rattle.spirv_emit.proofs.Words.LabelRanges as shape
use Rattle.spirv_emit.proofs.Words.ListedCode.{moved, finished, pieces_front, pieces_end_front}
use Rattle.spirv_emit.proofs.Words.CalculationsAndAccesses.{pieces_small_next}
use Rattle.spirv_emit.proofs.code.Code.pieces.Goals as goal

pub loop-piece-preserved : goal.loop-piece-preserved
loop-piece-preserved c =
    let at = layout_of c.args.plan.now in
    let h = c.loop-piece.invariant in
    let s = c.in_ok-piece.ensures in
    let lt = c.loop-piece-test.true in (
      moved _ _ _ _ _ _ h.0 (pieces_front at _ _ c.args.pieces.now c.loop-piece.piece-index _ lt s.next_is) s.words_are,
      h.1 ∙ pieces_end_front _ _ c.args.pieces.now c.loop-piece.piece-index _ lt s.next_is,
      pieces_small_next c.args.pieces.now c.loop-piece.piece-index (Assign 0 (record { leaves = []; formula = Same })) lt h.2,
    )

pub returns : goal.returns
returns c =
    let at = layout_of c.args.plan.now in
    let h = c.loop-piece.invariant in
    let n = c.loop-piece.self.next in
    let e = drop_all c.loop-piece.piece-index c.args.pieces.now c.loop-piece-test.false in record {
      words_are = finished _ _ _ _ h.0 (ap (pieces_ops at n) e);
      next_is = sym (h.1 ∙ ap (pieces_end n) e);
    }

pub piece-requires-clause-room : goal.piece-requires-clause-room
piece-requires-clause-room c =
    let at = layout_of c.args.plan.now in
    let h = c.loop-piece.invariant in
    let lt = c.loop-piece-test.true in
    let d : Piece = Assign 0 (record { leaves = []; formula = Same }) in
    let n = piece_end c.loop-piece.self.next (get_or c.args.pieces.now c.loop-piece.piece-index d) in
    let front = pieces_end_front c.loop-piece.self.next n c.args.pieces.now c.loop-piece.piece-index d lt refl in
    let grows = shape.pieces_grow at (drop (c.loop-piece.piece-index + 1) c.args.pieces.now) n in
    omega (arith, h.1, front, grows, c.requires.room)
