use Rattle.std.proofs.Common.{sym, ◌∙◌}
use Rattle.text_words.proofs.Cutting.{none_left}
use Rattle.log_text.proofs.Written.{pieces_step, pieces_end}
use Rattle.log_text.proofs.write.push_hex.Goals as goal

pub pieces-preserved : goal.pieces-preserved
pieces-preserved c = pieces_step _ _ _ _ _ _ _ c.pieces.invariant c.in_ok-push_piece.ensures c.split_at.ensures.front c.split_at.ensures.back

pub returns : goal.returns
returns c = pieces_end _ c.pieces.rest.now _ (none_left _ (sym c.is_empty.ensures ∙ c.pieces-test.false)) c.pieces.invariant
