use Rattle.std.proofs.Common.{◌∙◌, ap, sym, drop, length, ◌<◌, ◌≤◌, arith}
use Rattle.base_lemmas.specs.ByteWords.{words_of}
use Rattle.shader_tokens.specs.Decoding.{walks}
use Rattle.shader_tokens.proofs.Bytes.{words-none}
use Rattle.base_lemmas.proofs.ByteWords.{words_length}
use Rattle.shader_tokens.proofs.Gathering.{fits-next}
use Rattle.shader_tokens.proofs.Walking.{walks-none}
use Rattle.shader_tokens.proofs.item.fits.Goals as goal

pub returns-then-rest-lt4 : goal.returns-then-rest-lt4
returns-then-rest-lt4 c =
    sym (c.loop-kind.invariant ∙ ap (walks (drop c.loop-kind.kind-index c.args.kinds.now)) (words-none c.loop-kind.rest.now c.if-rest-lt4.true)
    ∙ walks-none c.args.kinds.now c.loop-kind.kind-index c.loop-kind-test.true)

pub loop-kind-preserved : goal.loop-kind-preserved
loop-kind-preserved c =
    let ws = words_of c.loop-kind.rest.now in
    let some : 0 < length ws = omega (arith, words_length c.loop-kind.rest.now, c.if-rest-lt4.false) in
    let room : c.operand_more-more.result ≤ length (words_of c.behind-next.result.now) = omega (arith, c.len.ensures, c.if-more-len.false) in
    fits-next c.args.kinds.now c.loop-kind.kind-index _ (words_of c.args.words.now) ws (words_of c.behind-next.result.now) (words_of c.behind-rest.result.now) c.word.result c.operand_more-more.result
    c.loop-kind-test.true some c.word.ensures c.operand_more-more.ensures c.behind-next.ensures room c.behind-rest.ensures c.loop-kind.invariant
