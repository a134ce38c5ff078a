use Rattle.std.proofs.Common.{◌≡◌, List, get_or, ap, ◌∙◌, arith}
use Rattle.std.specs.Prelude.{nat_lt}
use Rattle.spirv_model.specs.Op.{Op}
use Rattle.spirv_model.specs.History.{maker}
use Rattle.spirv_model.specs.Values.{block_of, member_count}
use Rattle.spirv_model.specs.Operands.{constant}
use Rattle.spirv_words.specs.Known.{history}
use Rattle.spirv_words.specs.Rules.{rule_of, operand_fault}
use Rattle.spirv_words.proofs.Chains.{chain_faults}
use Rattle.spirv_words.proofs.known.Known.access_chain_fault.Goals as goal

pub returns-in-len1-up : goal.returns-in-len1-up
unfolding operand_fault rule_of
returns-in-len1-up c =
    let h : List Op = history c.args.self.now in
    let members : c.member_count-count.result ≡ member_count (block_of h (maker c.args.base h)) = c.member_count-count.ensures ∙ ap member_count (c.block_of.ensures ∙ ap (block_of h) c.maker.ensures) in
    c.listed.ensures
    ∙ chain_faults c.args.self.now.bound h c.args.at c.args.result_type c.args.id c.args.base c.args.indexes.now _ _ _ _ c.in-len1-up.len_at_least
    c.chain_type-chain_type.ensures c.result-result.ensures c.base-based.ensures
    (c.constant_below.ensures ∙ ap (λ k. constant c.args.self.now.bound h (λ v. nat_lt v k) (get_or c.args.indexes.now 0 0)) members)
