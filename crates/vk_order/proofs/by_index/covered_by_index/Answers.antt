use Rattle.std.proofs.Common.{◌≡◌, ℕ, ◌+◌, Some, slice_get, slice_index, refl, sym, ap, subst, ◌∙◌, below_more, arith}
use Rattle.std.proofs.lemmas.Option.{slice_get-get_or}
use Rattle.vk_types.specs.declared.op.VkOp.{VkOp}
use Rattle.std.proofs.lemmas.Grind.{get_or_default_zero}
use Rattle.vk_order.specs.Index.{IsNoted}
use Rattle.vk_order.proofs.Open.{all_seconds}
use Rattle.vk_order.proofs.Noting.{holds_next}
use Rattle.vk_order.proofs.by_index.covered_by_index.Goals as goal

pub index-requires : goal.index-requires
index-requires c =
    let l = c.seconds-test.true in let n = c.in_ok-places.ensures.len in let ok = c.in_ok-places.places.ok.0 in
    omega (arith, l, n, ok)

pub seconds-preserved : goal.seconds-preserved
seconds-preserved c =
    let ops = c.args.ops.now in let y = c.seconds.second in let o = c.index-ops-second.result in let test = c.seconds-test.true in
    let there : slice_get ops y ≡ Some o = slice_get-get_or ops y o test ∙ ap (λ (p : VkOp). Some p) (sym c.index-ops-second.is) in
    let places = c.in_ok-places.places.items in let len = c.in_ok-places.ensures.len in
    let finish : c.index.result.now ≡ slice_index places y = c.index.ensures ∙ get_or_default_zero places y c.index.result.now (omega (arith, test, len)) in
    record {
      none = λ x z l. below_more _ _ (λ k b. c.seconds.invariant.none x k b) (c.in_default.ensures x) z l;
      holds = holds_next ops c.in_ok-places.places.items y c.seconds.index c.note.new.self o there c.in_ok-note.ensures.sound
          (subst (λ (f : ℕ). IsNoted c.seconds.index c.note.new.self o (y + 1) f) finish c.in_ok-note.ensures.noted) c.seconds.invariant.holds;
    }

pub returns-clause-ok : goal.returns-clause-ok
returns-clause-ok c = (λ _. all_seconds c.args.ops.now c.seconds.second c.seconds-test.false c.seconds.invariant.none, λ _. refl)
