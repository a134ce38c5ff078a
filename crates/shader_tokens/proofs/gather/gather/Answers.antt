use Rattle.base_lemmas.specs.ByteWords.{words_of}
use Rattle.shader_tokens.specs.Decoding.{nothing, parts_at, gathered}
use Rattle.shader_tokens.proofs.Gathering.{gathers-next}
use Rattle.shader_tokens.proofs.gather.gather.Goals as goal

pub loop-kind-preserved : goal.loop-kind-preserved
loop-kind-preserved c =
    gathers-next c.args.kinds.now c.loop-kind.kind-index _ (words_of c.loop-kind.rest.now) (words_of c.behind.result.now) (words_of c.behind-rest.result.now) c.add-more.result c.loop-kind.gathered c.add-more.new.self
    (gathered nothing (parts_at 0 c.args.kinds.now (words_of c.args.words.now))) c.loop-kind-test.true c.add-more.ensures.more c.behind.ensures c.behind-rest.ensures c.add-more.ensures.added c.loop-kind.invariant
