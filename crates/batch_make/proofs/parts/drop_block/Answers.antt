use Rattle.std.proofs.Common.{rules, not, ◌==◌, ◌∙◌, tests}
use Rattle.std.proofs.lemmas.Fn.{filter_same}
use Rattle.dx_types.specs.declared.range.Range.{Range}
use Rattle.batch_make.proofs.Listed.{kept_ranges}
use Rattle.batch_make.proofs.parts.drop_block.Goals as goal

pub returns : goal.returns
returns c =
    filter_same _ (λ (r : Range). not (r.block == c.args.block)) _ (λ x b f' k. search (rules, tests)) _ _ c.retain.ensures.filtered
    ∙ kept_ranges c.args.block c.args.ranges.now.items
