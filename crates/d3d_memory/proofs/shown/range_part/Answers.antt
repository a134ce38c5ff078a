use Rattle.std.proofs.Common.{ap, ◌∙◌, ℕ, List}
use Rattle.d3d_model.specs.Regions.{slice, words_of}
use Rattle.d3d_memory.proofs.Shows.{to_end}
use Rattle.d3d_memory.proofs.shown.range_part.Goals as goal

pub returns-clause-words : goal.returns-clause-words
returns-clause-words c =
    let r = c.args.range.now in
    c.whole_words.ensures.words
    ∙ ap words_of (to_end c.bytes.result.now r.from r.to _ c.saturating_sub-len.ensures ∙ ap (λ (b : List ℕ). slice b r.from r.to) c.bytes.ensures)
