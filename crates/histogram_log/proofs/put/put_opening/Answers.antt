use Rattle.histogram_log.specs.Histogram.{resources, program}
use Rattle.histogram_log.proofs.Spelled.{put_more, on_ok}
use Rattle.histogram_log.proofs.put.put_opening.Goals as goal

pub returns : goal.returns
returns c =
    on_ok c.put_bindings.result
    (put_more c.args.log.now.items _ c.put_bindings.new.log.items resources program c.in_ok-put_resources.ensures)
    c.put_bindings.ensures
