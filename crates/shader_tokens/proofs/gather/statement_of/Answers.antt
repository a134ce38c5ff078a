use Rattle.std.proofs.Common.{◌∙◌, ap}
use Rattle.base_lemmas.specs.ByteWords.{words_of}
use Rattle.shader_tokens.specs.Decoding.{item_of, nothing, parts_at, gathered}
use Rattle.shader_tokens.proofs.Gathering.{statement-is}
use Rattle.shader_tokens.proofs.gather.statement_of.Goals as goal

pub returns : goal.returns
returns c =
    statement-is (item_of c.args.item.now) c.args.row.now c.gather-operands.result c.statement.result c.requires.is_row c.requires.fits
    (c.gather-operands.ensures ∙ ap (λ ks. gathered nothing (parts_at 0 ks (words_of c.args.item.now.more.now))) c.kinds.ensures) c.statement.ensures
