use Rattle.std.proofs.Common.{ap}
use Rattle.d3d_model.specs.ReplyText.{lines}
use Rattle.log_script.proofs.Promised.PendingMaps.{pending_gets}
use Rattle.log_script.proofs.Promised.RunReplies.{chain_replies, chain_front, run_replies}
use Rattle.log_script.proofs.text.every_run_writes_the_text.Goals as goal

pub returns : goal.returns
returns c = record {
  replies = run_replies;
  pending = λ log schedule core r. pending_gets core.replies;
  text = λ log schedule core r. ap lines (run_replies log schedule core r);
  chains = chain_replies;
  so_far = chain_front;
}
