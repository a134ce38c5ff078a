use Rattle.std.proofs.Common.{◌≡◌}
use Rattle.call_log.specs.Grammar.{calls_of}
use Rattle.d3d_model.specs.InOrder.{after_calls}
use Rattle.d3d_model.specs.ReplyText.{none_pending, reply_at}
use Rattle.d3d_state.specs.Meaning.{objects_of}
use Rattle.d3d_ref.specs.Stands.{Stands}
use Rattle.player.proofs.generate.last_reply.Given as goal

abbrev pub invariant-calls : goal.invariant-calls
invariant-calls l = record {
  stands : Stands (objects_of l.machine.objects) l.machine.memory (after_calls (calls_of l.log.frames) l.i);
  said : l.last ≡ reply_at (calls_of l.log.frames) none_pending l.i;
}
