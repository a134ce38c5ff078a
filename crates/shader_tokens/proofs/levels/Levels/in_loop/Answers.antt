use Rattle.std.proofs.Common.{◌≡◌, ◌<◌, ◌≤◌, List, get_or, length, ap, sym, subst, ◌∙◌, add-one, ℕ}
use Rattle.std.proofs.lemmas.List.{take_all}
use Rattle.shader_model.specs.Nesting.{in_loop, is_loop}
use Rattle.shader_tokens.specs.declared.levels.Level.{Level}
use Rattle.shader_tokens.specs.declared.levels.Open.{Open}
use Rattle.shader_tokens.specs.Levels.{kind}
use Rattle.shader_tokens.proofs.Around.{kinds, loop_reversed, loop_found, loop_passed, no_loop}
use Rattle.shader_tokens.proofs.levels.Levels.in_loop.Goals as goal

here : (xs ls : List Level) (i : ℕ) (d : Level) → xs ≡ ls → d ≡ get_or xs i d → get_or ls i d ≡ d
here xs ls i d e is = sym (is ∙ ap (λ z. get_or z i d) e)

within : (xs ls : List Level) (i : ℕ) → xs ≡ ls → i < length xs → i < length ls
within xs ls i e h = subst (λ (z : List Level). i < length z) e h

pub returns-in-Loop : goal.returns-in-Loop
returns-in-Loop c =
    let ls = c.args.self.now.levels.items in
    let xs = c.deref-level-items.result.now in
    let i = c.loop-level.level-index in
    let d = c.level-item.result in
    let e = c.deref-level-items.ensures.value in
    sym (loop_reversed (kinds ls) ∙ loop_found ls i d (within xs ls i e c.loop-level-test.true) (ap (λ (z : Level). is_loop (kind z.block)) (here xs ls i d e c.level-item.is) ∙ ap (λ (b : Open). is_loop (kind b)) c.in-Loop.is))

pub loop-level-preserved : goal.loop-level-preserved
loop-level-preserved c =
    let ls = c.args.self.now.levels.items in
    let xs = c.deref-level-items.result.now in
    let i = c.loop-level.level-index in
    let d = c.level-item.result in
    let e = c.deref-level-items.ensures.value in
    rw add-one (loop_passed ls i d (within xs ls i e c.loop-level-test.true) c.loop-level.invariant (ap (λ (z : Level). is_loop (kind z.block)) (here xs ls i d e c.level-item.is) ∙ no_loop d.block c.in_default.not-Loop))

pub returns : goal.returns
returns c =
    let ls = c.args.self.now.levels.items in
    let n = c.loop-level.level-index in
    let all : length ls ≤ n = subst (λ (z : List Level). length z ≤ n) c.deref-level-items.ensures.value c.loop-level-test.false in
    sym (loop_reversed (kinds ls) ∙ ap (λ z. in_loop (kinds z)) (sym (take_all n ls all)) ∙ c.loop-level.invariant)
