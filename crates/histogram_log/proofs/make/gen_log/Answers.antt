use Rattle.histogram_log.proofs.Spelled.{put_whole}
use Rattle.histogram_log.proofs.make.gen_log.Goals as goal

pub returns : goal.returns
returns c =
    put_whole c.args.rounds _ _ _ _ _ c.put_end.new.buf.items
    c.new-log.ensures.items c.in_ok-put_header.ensures.appended c.in_ok-put_opening.ensures c.in_ok-put_rounds.ensures
    c.in_ok-put_closing.ensures c.in_ok-put_end.ensures.appended
