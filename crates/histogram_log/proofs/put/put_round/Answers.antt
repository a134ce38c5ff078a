use Rattle.std.specs.Prelude.{[], ◌∷◌}
use Rattle.call_log.specs.Call.{Dispatch}
use Rattle.histogram_log.specs.Histogram.{discard, update, poll}
use Rattle.histogram_log.proofs.Spelled.{put_four, on_ok}
use Rattle.histogram_log.proofs.put.put_round.Goals as goal

pub returns : goal.returns
returns c =
    let i = c.args.i in
    on_ok c.put_poll.result
    (put_four c.args.log.now.items _ _ _ c.put_poll.new.log.items (discard i) (update i) (Dispatch 1 1 1 ∷ []) (poll i)
    c.in_ok-put_discard.ensures c.in_ok-put_update.ensures c.in_ok-put_calls.ensures)
    c.put_poll.ensures
