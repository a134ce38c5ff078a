use Rattle.std.proofs.Common.{ap, ◌∙◌, refl}
use Rattle.d3d_model.specs.Regions.{words_of}
use Rattle.d3d_memory.proofs.Shows as shows
use Rattle.d3d_memory.proofs.shown.whole_words.Goals as goal

pub returns-clause-words : goal.returns-clause-words
returns-clause-words c = shows.whole_words c.within-part.result.now _ refl ∙ ap words_of c.within-part.ensures
