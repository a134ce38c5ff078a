use Rattle.std.proofs.Common.{◌≡◌, ◌+◌, ◌≤◌, true, false, is_some, ap, ◌∙◌, arith}
use Rattle.base_lemmas.specs.ByteWords.{words_of}
use Rattle.shader_model.specs.Faults.{first_broken}
use Rattle.shader_tokens.specs.Decoding.{said, rules_of, parts_at}
use Rattle.shader_tokens.proofs.Judging.{left-room, left-next, left-found}
use Rattle.shader_tokens.proofs.reader.Reader.operands_fault.Goals as goal

pub returns-then-is_some : goal.returns-then-is_some
returns-then-is_some c =
    let s = said c.args.self.now in
    let a = c.args.row.now.access in
    let item = c.args.item.now in
    let some : is_some c.operand_fault-fault.result ≡ true = cc in
    left-found s a c.loop-kind.at c.kinds-kind-items.result.now c.loop-kind.kind-index _ (words_of c.loop-kind.rest.now) c.operand_fault-fault.result
    (first_broken (rules_of s a (parts_at (item.at + 1) c.kinds-kind-items.result.now (words_of item.more.now)))) c.loop-kind-test.true c.operand_fault-fault.ensures some c.loop-kind.invariant
    ∙ ap (λ ks. first_broken (rules_of s a (parts_at (item.at + 1) ks (words_of item.more.now)))) c.kinds-kind-items.ensures

pub overflow_add-at-in-loop-kind-2 : goal.overflow_add-at-in-loop-kind-2
overflow_add-at-in-loop-kind-2 c =
    let room : c.loop-kind.at + 1 + c.operand_more-more.result ≤ 65536 = left-room (said c.args.self.now) c.args.row.now.access c.loop-kind.at c.kinds-kind-items.result.now c.loop-kind.kind-index _ (words_of c.loop-kind.rest.now) c.word.result c.operand_more-more.result _
    c.loop-kind-test.true c.word.ensures c.operand_more-more.ensures c.loop-kind.invariant in
    omega arith

pub loop-kind-preserved : goal.loop-kind-preserved
loop-kind-preserved c =
    let none : is_some c.operand_fault-fault.result ≡ false = cc in
    left-next (said c.args.self.now) c.args.row.now.access c.loop-kind.at c.kinds-kind-items.result.now c.loop-kind.kind-index _ (words_of c.loop-kind.rest.now) (words_of c.behind.result.now) (words_of c.behind-rest.result.now)
    c.word.result c.operand_more-more.result c.operand_fault-fault.result _ c.loop-kind-test.true c.operand_fault-fault.ensures none c.word.ensures c.operand_more-more.ensures c.behind.ensures c.behind-rest.ensures c.loop-kind.invariant
