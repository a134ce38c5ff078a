use Rattle.std.proofs.Common.{◌≡◌, ◌≤◌}
use Rattle.dx_io.specs.Told.{Appends}
use Rattle.call_log.specs.Grammar.{calls_of}
use Rattle.core_machine.specs.Machine.{given, left_of}
use Rattle.d3d_model.specs.ReplyText.{lines}
use Rattle.player.proofs.run.play.Given as goal

-- the lines of the replies that the machine gave were written
abbrev pub invariant-events : goal.invariant-events
invariant-events g l =
    record {
      later : g.K.Sink.faults l.fn.out ≤ g.K.Sink.faults l.out;
      log : l.core.log ≡ calls_of l.fn.log.frames;
      held : Appends (g.K.Sink.held l.fn.out) (lines (given l.core)) (g.K.Sink.held l.out);
    }

abbrev pub decreases-events : goal.decreases-events
decreases-events g l = left_of l.core
