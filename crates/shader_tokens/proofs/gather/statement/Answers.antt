use Rattle.std.proofs.Common.{Some, ap, sym, ◌∙◌}
use Rattle.shader_model.specs.declared.statement.Statement.TheVariants as word
use Rattle.shader_model.specs.Fields.{statement_by}
use Rattle.shader_tokens.specs.Decoding.{item_of}
use Rattle.shader_tokens.proofs.Gathering.{if-some, if-none, source-is}
use Rattle.shader_tokens.proofs.gather.statement.Goals as goal

pub returns-in-Some : goal.returns-in-Some
returns-in-Some c = λ ps e. if-some c.args.role c.in-If.nonzero (item_of c.args.item.now) c.args.operands.now ps c.in-Some.value c.in-If.is e c.in-Some.is

pub returns-in-None : goal.returns-in-None
returns-in-None c = λ ps e. if-none c.args.role c.in-If.nonzero (item_of c.args.item.now) c.args.operands.now ps c.in-If.is e c.in-None.is

pub returns-in-Break : goal.returns-in-Break
returns-in-Break c = λ ps e.
    ap (λ z. Some (word.Break z)) (c.tested.ensures ps (source-is c.args.operands.now ps e))
    ∙ sym (ap (λ z. statement_by z (item_of c.args.item.now) ps) c.in-Break.is)

pub returns-in-Continue : goal.returns-in-Continue
returns-in-Continue c = λ ps e.
    ap (λ z. Some (word.Continue z)) (c.tested-in-Continue.ensures ps (source-is c.args.operands.now ps e))
    ∙ sym (ap (λ z. statement_by z (item_of c.args.item.now) ps) c.in-Continue.is)

pub returns-in-Return : goal.returns-in-Return
returns-in-Return c = λ ps e.
    ap (λ z. Some (word.Return z)) (c.tested-in-Return.ensures ps (source-is c.args.operands.now ps e))
    ∙ sym (ap (λ z. statement_by z (item_of c.args.item.now) ps) c.in-Return.is)
