use Rattle.std.proofs.Common.{◌≤◌, take}
use Rattle.dx_io.specs.Told.{Appends}
use Rattle.d3d_model.specs.ReplyText.{lines}
use Rattle.player.proofs.run.say_all.Given as goal

-- the lines of the replies so far were written
abbrev pub invariant-replies : goal.invariant-replies
invariant-replies g l =
    record {
      later : g.K.Sink.faults l.fn.out ≤ g.K.Sink.faults l.out;
      held : Appends (g.K.Sink.held l.fn.out) (lines (take l.reply-index l.replies)) (g.K.Sink.held l.out);
    }
