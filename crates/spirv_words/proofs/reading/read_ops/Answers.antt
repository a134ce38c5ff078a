use Rattle.std.proofs.Common.{◌≡◌, ℕ, ◌+◌, List, ◌∷◌, length, None, Some, subst, sym, ap, ◌∙◌, arith}
use Rattle.spirv_model.specs.Op.{Op}
use Rattle.spirv_model.specs.View.{shown}
use Rattle.spirv_model.specs.FirstBad.{Reading, word_count, total_words}
use Rattle.spirv_words.specs.Known.{history}
use Rattle.spirv_words.specs.Reading.{reading_of, read_fault, instruction_fault}
use Rattle.spirv_words.proofs.Walking.{Left, left_next, left_refused, left_count, left_opcode, left_done, left_all, split_first, no_words, words_left, fault_follows}
use Rattle.spirv_words.proofs.reading.read_ops.Goals as goal

pub returns-in-BadCount-clause-refused : goal.returns-in-BadCount-clause-refused
returns-in-BadCount-clause-refused c =
    let all = reading_of c.args.body.now in
    let h = history c.words.known in
    let left = subst (λ (ws : List ℕ). Left c.args.bound all h c.words.at (reading_of ws)) (split_first c.words.rest.now c.in-len1-up.len_at_least) c.words.invariant.left in
    left_count c.args.bound all h c.words.at _ _ (sym c.in-BadCount.ensures) left

pub returns-in-BadOpcode-clause-refused : goal.returns-in-BadOpcode-clause-refused
returns-in-BadOpcode-clause-refused c =
    let all = reading_of c.args.body.now in
    let h = history c.words.known in
    let left = subst (λ (ws : List ℕ). Left c.args.bound all h c.words.at (reading_of ws)) (split_first c.words.rest.now c.in-len1-up.len_at_least) c.words.invariant.left in
    left_opcode c.args.bound all h c.words.at _ _ (sym c.in-BadOpcode.ensures) left

pub step-requires : goal.step-requires
step-requires c =
    let n : word_count (shown c.in-Instruction.op) + length c.in-Instruction.behind.now ≡ length c.words.rest.now = words_left _ _ _ _ _ (sym c.in-Instruction.ensures) (split_first c.words.rest.now c.in-len1-up.len_at_least) in
    omega arith

pub returns-in-Err-clause-refused : goal.returns-in-Err-clause-refused
returns-in-Err-clause-refused c =
    let all = reading_of c.args.body.now in
    let h = history c.words.known in
    let left = subst (λ (ws : List ℕ). Left c.args.bound all h c.words.at (reading_of ws)) (split_first c.words.rest.now c.in-len1-up.len_at_least) c.words.invariant.left in
    fault_follows c.in-Err.end
    (λ f. instruction_fault c.words.known.bound h c.words.at (shown c.in-Instruction.op) ≡ Some f)
    (λ f. read_fault c.args.bound all ≡ Some f)
    (λ f bad. left_refused c.args.bound all h c.words.at _ _ (shown c.in-Instruction.op) c.in-Instruction.behind.now f (sym c.in-Instruction.ensures) left
    (ap (λ b. instruction_fault b h c.words.at (shown c.in-Instruction.op)) (sym c.words.invariant.same_bound) ∙ bad))
    c.in-Err.ensures.refused

pub overflow_cast-at : goal.overflow_cast-at
overflow_cast-at c =
    let n : word_count (shown c.in-Instruction.op) + length c.in-Instruction.behind.now ≡ length c.words.rest.now = words_left _ _ _ _ _ (sym c.in-Instruction.ensures) (split_first c.words.rest.now c.in-len1-up.len_at_least) in
    omega arith

pub overflow_add-at : goal.overflow_add-at
overflow_add-at c =
    let n : word_count (shown c.in-Instruction.op) + length c.in-Instruction.behind.now ≡ length c.words.rest.now = words_left _ _ _ _ _ (sym c.in-Instruction.ensures) (split_first c.words.rest.now c.in-len1-up.len_at_least) in
    omega arith

pub words-smaller : goal.words-smaller
words-smaller c =
    let n : word_count (shown c.in-Instruction.op) + length c.in-Instruction.behind.now ≡ length c.words.rest.now = words_left _ _ _ _ _ (sym c.in-Instruction.ensures) (split_first c.words.rest.now c.in-len1-up.len_at_least) in
    omega arith

pub words-preserved : goal.words-preserved
words-preserved c =
    let all : Reading = reading_of c.args.body.now in
    let h : List Op = history c.words.known in
    let o : Op = shown c.in-Instruction.op in
    let behind : List ℕ = c.in-Instruction.behind.now in
    let n : word_count o + length behind ≡ length c.words.rest.now = words_left _ _ _ _ _ (sym c.in-Instruction.ensures) (split_first c.words.rest.now c.in-len1-up.len_at_least) in
    let left = subst (λ (ws : List ℕ). Left c.args.bound all h c.words.at (reading_of ws)) (split_first c.words.rest.now c.in-len1-up.len_at_least) c.words.invariant.left in
    let passes : instruction_fault c.args.bound h c.words.at o ≡ None = ap (λ b. instruction_fault b h c.words.at o) (sym c.words.invariant.same_bound) ∙ c.in-Ok.ensures.passes in
    let next : Left c.args.bound all (o ∷ h) (c.words.at + word_count o) (reading_of behind) = left_next c.args.bound all h c.words.at _ _ o behind (sym c.in-Instruction.ensures) left passes in
    let placed : Left c.args.bound all (o ∷ h) (c.words.at + c.word_count.result) (reading_of behind) = subst (λ (k : ℕ). Left c.args.bound all (o ∷ h) (c.words.at + k) (reading_of behind)) (sym c.word_count.ensures) next in
    record {
      left = subst (λ (l : List Op). Left c.args.bound all l (c.words.at + c.word_count.result) (reading_of behind)) (sym c.in-Ok.ensures.extends.instructions) placed;
      place = omega arith;
      same_bound = c.in-Ok.ensures.extends.bound ∙ c.words.invariant.same_bound;
    }

pub returns-clause-read : goal.returns-clause-read
returns-clause-read c =
    let all : Reading = reading_of c.args.body.now in
    let h : List Op = history c.words.known in
    let done = left_done c.args.bound all h c.words.at (subst (λ (ws : List ℕ). Left c.args.bound all h c.words.at (reading_of ws)) (no_words c.words.rest.now c.in_default.len_below) c.words.invariant.left) in
    let total : total_words all.ops + 5 ≡ c.words.at = done.2 in
    record {
      passes = done.0;
      to_the_end = done.1;
      words = omega arith;
      instructions = done.3;
    }
