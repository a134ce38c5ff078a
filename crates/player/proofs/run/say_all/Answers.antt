use Rattle.std.proofs.Common.{arith}
use Rattle.d3d_model.specs.ReplyText.{lines}
use Rattle.player.proofs.Writing.{said_front, unsaid_tells}
use Rattle.player.proofs.run.say_all.Goals as goal

pub returns-in-Err-clause-tells : goal.returns-in-Err-clause-tells
returns-in-Err-clause-tells g c =
    unsaid_tells _ _ (lines c.args.replies.now) _ _ c.status_of.ensures
    (said_front _ _ _ c.args.replies.now c.replies.reply-index c.reply-item.result c.reply-item.result (omega (arith, c.replies-test.true, c.replies.auto.reply-index-end)) c.reply-item.is c.replies.invariant.held c.in-Err.ensures.front)
