use Rattle.std.proofs.Common.{◌≡◌, true, ap, sym, ◌∙◌}
use Rattle.shader_model.specs.Opcodes.{row_of}
use Rattle.shader_model.specs.Fields.{statement_of}
use Rattle.shader_model.specs.Faults.{placed}
use Rattle.shader_tokens.specs.Decoding.{item_of, said, and_blocks}
use Rattle.shader_tokens.proofs.Judging.{whole-fits, operands-fault}
use Rattle.shader_tokens.proofs.reader.Reader.instruction.Goals as goal

pub statement_of-requires-clause-fits : goal.statement_of-requires-clause-fits
statement_of-requires-clause-fits c =
    whole-fits (item_of c.args.item.now) c.in-Some.row c.requires.whole c.requires.no_declaration (sym (c.find_row.ensures ∙ ap row_of c.opcode.ensures) ∙ c.in-Some.is)

pub operands_fault-requires-clause-fits : goal.operands_fault-requires-clause-fits
operands_fault-requires-clause-fits c =
    whole-fits (item_of c.args.item.now) c.in-Some.row c.requires.whole c.requires.no_declaration (sym (c.find_row.ensures ∙ ap row_of c.opcode.ensures) ∙ c.in-Some.is)

pub returns-in-Some-operands_fault-clause-bad : goal.returns-in-Some-operands_fault-clause-bad
returns-in-Some-operands_fault-clause-bad c =
    let s = said c.args.self.now in
    let item = item_of c.args.item.now in
    let row = sym (c.find_row.ensures ∙ ap row_of c.opcode.ensures) ∙ c.in-Some.is in
    let place : placed (statement_of item) s.blocks ≡ true = ap (λ z. placed z s.blocks) (sym c.statement_of.ensures) ∙ c.in_ok-place.ensures.good in
    let says : said c.place.new.self ≡ record s { blocks = and_blocks (statement_of item) s.blocks } = c.in_ok-place.ensures.says ∙ ap (λ z. record s { blocks = and_blocks z s.blocks }) c.statement_of.ensures in
    operands-fault s (said c.place.new.self) item c.in-Some.row c.operands_fault.result row
    (whole-fits item c.in-Some.row c.requires.whole c.requires.no_declaration row) place says c.operands_fault.ensures ∙ c.in-Some-operands_fault.is

pub returns-clause-good : goal.returns-clause-good
returns-clause-good c =
    let s = said c.args.self.now in
    let item = item_of c.args.item.now in
    let row = sym (c.find_row.ensures ∙ ap row_of c.opcode.ensures) ∙ c.in-Some.is in
    let place : placed (statement_of item) s.blocks ≡ true = ap (λ z. placed z s.blocks) (sym c.statement_of.ensures) ∙ c.in_ok-place.ensures.good in
    let says : said c.place.new.self ≡ record s { blocks = and_blocks (statement_of item) s.blocks } = c.in_ok-place.ensures.says ∙ ap (λ z. record s { blocks = and_blocks z s.blocks }) c.statement_of.ensures in
    operands-fault s (said c.place.new.self) item c.in-Some.row c.operands_fault.result row
    (whole-fits item c.in-Some.row c.requires.whole c.requires.no_declaration row) place says c.operands_fault.ensures ∙ c.in_default-operands_fault.is
