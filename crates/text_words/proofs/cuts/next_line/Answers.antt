use Rattle.text_words.proofs.Cutting.{no_cut}
use Rattle.text_words.proofs.cuts.next_line.Goals as goal

pub returns-in-None : goal.returns-in-None
returns-in-None c = no_cut 10 c.args.text.now _ _ c.cut.ensures c.in-None.ensures
