use Rattle.d3d_model.specs.InOrder.{after_calls}
use Rattle.log_script.specs.LogScript.{meaning_of, script_of}
use Rattle.log_script.proofs.Owed.BufferMakers.{all_made, one_maker}
use Rattle.log_script.proofs.Owed.LiveBuffers.{are_live}
use Rattle.log_script.proofs.buffers.buffers_are_named_by_their_calls.Goals as goal

pub returns : goal.returns
returns c = record {
  made = λ log n id s e. let m = all_made log n id s e in (m.first, m.last, m.shape);
  apart = λ log n id other e f same. one_maker log n (after_calls log n).objects.buffers (after_calls log n).past
      (all_made log n) id other e f same;
  live = λ log n within b.
      let r = are_live (meaning_of log) (script_of log) log n in
      (λ e. let f = r.found b e in (f.id, f.lives, f.made), λ id e m. r.shown b id e m);
}
