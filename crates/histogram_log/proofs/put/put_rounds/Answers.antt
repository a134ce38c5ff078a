use Rattle.histogram_log.proofs.Spelled.{no_rounds, put_round_more}
use Rattle.histogram_log.proofs.put.put_rounds.Goals as goal

pub rounds-init : goal.rounds-init
rounds-init c = no_rounds c.args.log.now.items

pub rounds-preserved : goal.rounds-preserved
rounds-preserved c =
    put_round_more c.rounds.i c.args.log.now.items c.rounds.log.items _ c.rounds.invariant c.in_ok-put_round.ensures
