use Rattle.std.proofs.Common.{◌≡◌, ℕ, suc, ◌-◌, ◌<◌, length, None, Some, slice_get, refl, sym, ap, subst, ◌∙◌, arith}
use Rattle.std.proofs.lemmas.Option.{slice_get-get_or}
use Rattle.vk_types.specs.declared.op.VkOp.{VkOp}
use Rattle.vk_order.specs.Finish.{FinishesHold}
use Rattle.vk_order.proofs.Finishing.{finishes_none, finishes_next}
use Rattle.vk_order.proofs.finish.finish_places.Goals as goal

pub backward-init : goal.backward-init
backward-init c =
    let len : length c.in_ok-vec.field-0.items ≡ length c.args.ops.now = let l = c.in_ok-vec.ensures.len in let k = c.in_ok-vec.field-0.ok.0 in omega (arith, l, k) in
    finishes_none c.args.ops.now (record { places = c.in_ok-vec.field-0; fences = c.new.result; submitted = None }) refl c.new.ensures.items len

pub backward-preserved : goal.backward-preserved
backward-preserved c =
    let ops = c.args.ops.now in let at = c.backward.at - 1 in let o = c.index-ops-at.result in let test = c.backward-test.true in let most = c.backward.auto.at in
    let below : at < length ops = omega (arith, test, most) in
    let next : c.backward.at ≡ suc at = omega (arith, test) in
    let there : slice_get ops at ≡ Some o = slice_get-get_or ops at o below ∙ ap (λ (p : VkOp). Some p) (sym c.index-ops-at.is) in
    finishes_next ops at o c.backward.finishes c.note.new.self there (subst (λ (n : ℕ). FinishesHold ops n c.backward.finishes) next c.backward.invariant) c.in_ok-note.ensures

pub returns : goal.returns
returns c = record { len = c.backward.invariant.len; each = λ x d e. c.backward.invariant.places x d (omega (arith, c.backward-test.false)) e }
