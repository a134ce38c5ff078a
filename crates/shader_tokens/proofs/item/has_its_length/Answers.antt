use Rattle.std.proofs.Common.{◌∙◌, ap, sym, ◌-◌}
use Rattle.shader_model.specs.Opcodes.{row_of}
use Rattle.shader_model.specs.Items.{declares}
use Rattle.shader_tokens.specs.Decoding.{item_of, walks}
use Rattle.shader_tokens.proofs.Walking.{fits-row, all-there}
use Rattle.shader_tokens.proofs.item.has_its_length.Goals as goal

pub returns-in-Some-find_row : goal.returns-in-Some-find_row
returns-in-Some-find_row c =
    let item = item_of c.args.item.now in
    let r = c.in-Some-find_row.row in
    c.fits.ensures ∙ ap (λ ks. walks ks item.more) c.kinds.ensures
    ∙ fits-row item r
    (all-there item (λ e. c.if-count-eq0.false (c.count-count.ensures ∙ e)) (sym c.len.ensures ∙ c.if-len-count.false ∙ ap (λ n. n - 1) c.count-count.ensures))
    (sym (c.declares.ensures ∙ ap declares c.opcode-opcode.ensures) ∙ c.in-None.is)
    (sym (c.find_row.ensures ∙ ap row_of c.opcode-opcode.ensures) ∙ c.in-Some-find_row.is)
