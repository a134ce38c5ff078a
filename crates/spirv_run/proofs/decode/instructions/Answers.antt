use Rattle.std.proofs.Common.{◌≡◌, ◌-◌, length, map, ap, ◌∙◌, arith}
use Rattle.spirv_model.specs.FirstBad.{reading}
use Rattle.spirv_model.specs.View.{shown}
use Rattle.spirv_run.proofs.Decoded.{read_whole, empty_read, bad_count_read, bad_opcode_read, more_read, no_words_left}
use Rattle.spirv_run.proofs.decode.instructions.Goals as goal

pub returns-in_default : goal.returns-in_default
returns-in_default c =
    let k = length c.args.words.now - c.words._i in
    read_whole _ (map shown c.words.ops.items) k c.words.rest.now c.words.invariant (empty_read k c.words.rest.now c.in_default.len_below)

pub returns-in-BadCount : goal.returns-in-BadCount
returns-in-BadCount c =
    let n = length c.args.words.now in
    read_whole _ (map shown c.words.ops.items) (n - c.words._i) c.words.rest.now c.words.invariant (bad_count_read n c.words._i c.words.rest.now c.words-test.true c.in-len1-up.len_at_least c.in-BadCount.ensures)

pub returns-in-BadOpcode : goal.returns-in-BadOpcode
returns-in-BadOpcode c =
    let n = length c.args.words.now in
    read_whole _ (map shown c.words.ops.items) (n - c.words._i) c.words.rest.now c.words.invariant (bad_opcode_read n c.words._i c.words.rest.now c.words-test.true c.in-len1-up.len_at_least c.in-BadOpcode.ensures)

pub words-preserved : goal.words-preserved
words-preserved c =
    let n = length c.args.words.now in
    more_read shown _ c.words.ops.items c.push.new.self.items c.in-Instruction.op n c.words._i c.words.rest.now c.in-Instruction.later.now c.words-test.true c.in-len1-up.len_at_least c.in-Instruction.ensures c.in_ok-push-in-Instruction.ensures.items c.words.invariant

pub returns : goal.returns
returns c =
    let n = length c.args.words.now in
    let none : n - c.words._i ≡ 0 = omega arith in
    read_whole _ (map shown c.words.ops.items) (n - c.words._i) c.words.rest.now c.words.invariant (ap (λ k. (reading k c.words.rest.now).ops) none ∙ no_words_left c.words.rest.now)
