use Rattle.player.proofs.Complete.{words_end}
use Rattle.player.proofs.top.replay.Goals as goal

pub returns-clause-complete : goal.returns-clause-complete
returns-clause-complete g c = λ task words good read written.
    words_end _ task c.run_words.result _ _ _ words good c.run_words.ensures.outcome
    (λ e. read (c.run_words.ensures.read_fault e))
    (λ e. written (c.run_words.ensures.write_fault e))
