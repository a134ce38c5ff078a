use Rattle.std.proofs.Common.{◌≡◌, ℕ, zero, suc, ◌<◌, ◌≤◌, true, List, [], ◌∷◌, length, take, refl, ap, subst, arith, take_all}
use Rattle.vk_types.specs.declared.op.VkOp.{VkOp}
use Rattle.base_lemmas.specs.Lists.{IsReordering}
use Rattle.vk_types.specs.Listing.{acts}
use Rattle.vk_order.specs.Order.{is_new_at}
use Rattle.vk_order.proofs.Acts.{AreNew, new_from, few_new, all_new, few_places, odd_place, too_short}
use Rattle.vk_order.proofs.order_by_index.not_all.Goals as goal
use Rattle.vk_order.proofs.order_by_index.not_all.Goals.{then-at-order-via-then-at-order, then-at-order-via-else-at-order+then-at-act_count}

-- the first odd place is no greater than the listing is long
few : (ops : List VkOp) (order : List ℕ) (at : ℕ) → at ≤ length order → ((i : ℕ) → i < at → is_new_at ops order i ≡ true) → at ≤ length ops
few ops order at le new =
    let n = few_new ops (take at order) (new_from ops [] order at le new) in
    let m = few_places ops 0 in
    let l = length_take at order le in
    omega (arith, n, m, l)
  where
    length_take : (n : ℕ) (xs : List ℕ) → n ≤ length xs → length (take n xs) ≡ n
    length_take zero xs h = refl
    length_take (suc n) [] h = absurd (omega (arith, h))
    length_take (suc n) (x ∷ xs) h = ap suc (length_take n xs (omega (arith, h)))

pub overflow_cast-result : goal.overflow_cast-result
overflow_cast-result c =
    let n = few c.args.ops.now c.args.order.now c.args.at c.requires.odd.within c.requires.odd.new in
    let m = c.requires.few in
    omega (arith, n, m)

pub returns-then-at-order : goal.returns-then-at-order
returns-then-at-order c = (c.requires.odd.new, c.requires.odd.odd, refuted)
  where
    refuted : IsReordering (acts c.args.ops.now) c.args.order.now → ⊥
    refuted r =
        elim c.then-at-order.branch [
          | then-at-order-via-then-at-order w ↦ odd_place c.args.ops.now c.args.order.now c.args.at c.requires.odd.odd w.if-at-order.true r
          | then-at-order-via-else-at-order+then-at-act_count w ↦
              let e = c.requires.odd.within in
              let f = w.if-at-order.false in
              let g = w.if-at-act_count.true in
              let h = w.act_count.ensures in
              too_short c.args.ops.now c.args.order.now (omega (arith, e, f, g, h)) r
        ]

pub returns : goal.returns
returns c =
    let ops = c.args.ops.now in let order = c.args.order.now in let at = c.args.at in
    let within = c.requires.odd.within in
    let f = c.if-at-order.false in
    let same : at ≡ length order = omega (arith, within, f) in
    let new : AreNew ops [] (take at order) = new_from ops [] order at within c.requires.odd.new in
    let whole : take at order ≡ order = take_all at order (omega (arith, same)) in
    let g = c.if-at-act_count.false in
    let h = c.act_count.ensures in
    all_new ops order (subst (AreNew ops []) whole new) (omega (arith, same, g, h))
