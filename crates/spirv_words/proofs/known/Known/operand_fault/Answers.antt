use Rattle.std.proofs.Common.{sym, ap}
use Rattle.spirv_model.specs.declared.op.Op.{Op as View}
use Rattle.spirv_model.specs.View.{shown}
use Rattle.spirv_words.specs.Rules.{operand_fault}
use Rattle.spirv_words.proofs.known.Known.operand_fault.Goals as goal

pub returns-in-FunctionEnd : goal.returns-in-FunctionEnd
unfolding operand_fault
returns-in-FunctionEnd c = sym (ap (λ (v : View). operand_fault c.args.self.now c.args.at (shown v)) c.in-FunctionEnd.is)

pub returns-in-Return : goal.returns-in-Return
unfolding operand_fault
returns-in-Return c = sym (ap (λ (v : View). operand_fault c.args.self.now c.args.at (shown v)) c.in-Return.is)
