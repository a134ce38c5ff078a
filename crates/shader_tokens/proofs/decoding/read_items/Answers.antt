use Rattle.std.proofs.Common.{◌≡◌, ◌+◌, ◌<◌, ◌-◌, ◌≤◌, ◌∷◌, [], Some, ℕ, List, length, take, drop, refl, ap, sym, ◌∙◌, arith}
use Rattle.shader_model.specs.Words.{count_in}
use Rattle.base_lemmas.specs.ByteWords.{words_of}
use Rattle.shader_model.specs.Items.{items_from}
use Rattle.shader_model.specs.Faults.{items_fault}
use Rattle.shader_tokens.proofs.Judging.{end-bad}
use Rattle.base_lemmas.proofs.ByteWords.{words_length}
use Rattle.shader_tokens.proofs.Sofar.{none-read, one-more, bad-here, words-here, fewer}
use Rattle.shader_tokens.proofs.decoding.read_items.Goals as goal

some-left : (b : List ℕ) → 4 ≤ length b → 0 < length (words_of b)
some-left b h = omega (arith, words_length b, h)

more-is : (w k n : ℕ) (more next : List ℕ) → more ≡ take n next → n ≡ k - 1 → k ≡ count_in w → more ≡ take (count_in w - 1) next
more-is w k n more next em en ek = em ∙ ap (λ z. take z next) (en ∙ ap (λ z. z - 1) ek)

pub item-requires : goal.item-requires
item-requires c =
    let ws = words_of c.loop-rest.rest.now in
    let next = words_of c.behind-next.result.now in
    let more = words_of c.front-more.result.now in
    let here : ws ≡ c.word-first.result ∷ next = words-here ws next c.word-first.result (some-left c.loop-rest.rest.now c.loop-rest-test.true) c.word-first.ensures c.behind-next.ensures in
    let near = c.loop-rest.invariant.0 in
    omega (arith, fewer ws next more _ c.word-first.result c.saturating_sub.result (length more) here c.front-more.ensures refl refl, near)

pub loop-rest-init : goal.loop-rest-init
loop-rest-init c = (omega arith, none-read (words_of c.args.words.now) c.new-reader.result c.new-reader.ensures.says c.new-reader.ensures.seen)

pub loop-rest-smaller : goal.loop-rest-smaller
loop-rest-smaller c =
    let ws = words_of c.loop-rest.rest.now in
    let next = words_of c.behind-next.result.now in
    let more = words_of c.front-more.result.now in
    let rest = words_of c.behind-rest.result.now in
    let here : ws ≡ c.word-first.result ∷ next = words-here ws next c.word-first.result (some-left c.loop-rest.rest.now c.loop-rest-test.true) c.word-first.ensures c.behind-next.ensures in
    let total : 1 + c.len-in-loop-rest.result + length rest ≡ length ws = fewer ws next more rest c.word-first.result c.saturating_sub.result c.len-in-loop-rest.result here c.front-more.ensures c.len-in-loop-rest.ensures c.behind-rest.ensures in
    let less : length rest < length ws = omega arith in
    less

pub loop-rest-preserved : goal.loop-rest-preserved
loop-rest-preserved c =
    let ws = words_of c.loop-rest.rest.now in
    let next = words_of c.behind-next.result.now in
    let more = words_of c.front-more.result.now in
    let rest = words_of c.behind-rest.result.now in
    let here : ws ≡ c.word-first.result ∷ next = words-here ws next c.word-first.result (some-left c.loop-rest.rest.now c.loop-rest-test.true) c.word-first.ensures c.behind-next.ensures in
    let same : c.len.result ≡ c.len-in-loop-rest.result = c.len.ensures ∙ sym c.len-in-loop-rest.ensures in
    let total : 1 + c.len-in-loop-rest.result + length rest ≡ length ws = fewer ws next more rest c.word-first.result c.saturating_sub.result c.len-in-loop-rest.result here c.front-more.ensures c.len-in-loop-rest.ensures c.behind-rest.ensures in
    let near = c.loop-rest.invariant.0 in (
      omega (arith, same, total, near),
      one-more (items_from 2 0 (words_of c.args.words.now)) c.loop-rest.at c.word-first.result ws next more rest c.loop-rest.reader c.item.new.self c.len.result c.loop-rest.invariant.1 here
          (more-is c.word-first.result c.count.result c.saturating_sub.result more next c.front-more.ensures c.saturating_sub.ensures c.count.ensures) c.len.ensures
          (c.behind-rest.ensures ∙ ap (λ z. drop z next) (sym same)) c.in_default.ensures.good c.in_default.ensures.says c.in_default.ensures.spells,
    )

pub returns-in-Err-clause-bad : goal.returns-in-Err-clause-bad
returns-in-Err-clause-bad c =
    let ws = words_of c.loop-rest.rest.now in
    let next = words_of c.behind-next.result.now in
    let more = words_of c.front-more.result.now in
    let all = items_from 2 0 (words_of c.args.words.now) in
    let here : ws ≡ c.word-first.result ∷ next = words-here ws next c.word-first.result (some-left c.loop-rest.rest.now c.loop-rest-test.true) c.word-first.ensures c.behind-next.ensures in
    end-bad c.in-Err.end _ (λ f. items_fault [] all ≡ Some f)
    (λ f e. bad-here all c.loop-rest.at c.word-first.result ws next more c.loop-rest.reader f c.loop-rest.invariant.1 here
    (more-is c.word-first.result c.count.result c.saturating_sub.result more next c.front-more.ensures c.saturating_sub.ensures c.count.ensures) e) c.in-Err.ensures.bad
