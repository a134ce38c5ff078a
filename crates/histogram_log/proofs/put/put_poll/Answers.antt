use Rattle.std.proofs.Common.{◌%◌}
use Rattle.std.specs.Prelude.{[], ◌∷◌, ◌==◌}
use Rattle.std.proofs.lemmas.Bool.{ne_eqb}
use Rattle.call_log.specs.Call.{Copy, MapRead}
use Rattle.histogram_log.proofs.Spelled.{put_skipped}
use Rattle.histogram_log.proofs.put.put_poll.Goals as goal

pub returns-then-i-ne0 : goal.returns-then-i-ne0
returns-then-i-ne0 c =
    put_skipped c.args.log.now.items (c.args.i % 10 == 0) (Copy 3 1 ∷ MapRead 3 1 0 1024 ∷ [])
    (ne_eqb (c.args.i % 10) 0 c.if-i-ne0.true)
