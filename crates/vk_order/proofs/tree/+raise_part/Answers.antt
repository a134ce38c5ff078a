use Rattle.std.proofs.Common.{◌≡◌, ℕ, ◌<◌, ◌*◌, ◌+◌, length, get_or, sym, ap, subst, ◌∙◌, inl, inr, rules, arith}
use Rattle.std.proofs.Math.ListN.{set}
use Rattle.std.proofs.lemmas.List.{get_or-set_same, length-set}
use Rattle.vk_order.specs.declared.tree.Part.{Part}
use Rattle.vk_order.specs.Tree.{Grew, IsNode, marked_here}
use Rattle.vk_order.proofs.Trees.{grew_more, grew_same, grew_set, halves_noted, node_left, node_right, tops_best, tops_mark, under_grew, under_set}
use Rattle.vk_order.proofs.tree.+raise_part.Goals as goal

pub returns-then-is_within-clause-tops : goal.returns-then-is_within-clause-tops
returns-then-is_within-clause-tops t c =
    let marks = c.args.marks.now in let bests = c.args.bests.now in let node = c.args.part.node in let best = c.max.result in
    let there : node < length bests = let n = c.requires.node.to in let s = c.requires.same in omega (arith, n, s) in
    let tops = tops_best marks bests node c.args.number best c.requires.tops c.requires.under there c.max.ensures in
    let here : get_or (set bests node best) node 0 ≡ best = get_or-set_same bests node best 0 there in
    let mark = c.requires.tops.mark node in
    let a = c.max.ensures in
    let b = c.max-then-is_within.ensures in
    tops_mark marks (set bests node best) node c.max-then-is_within.result tops c.requires.node.to (omega (arith, here, mark, a, b))

pub returns-then-is_within-clause-noted : goal.returns-then-is_within-clause-noted
returns-then-is_within-clause-noted t c = λ i from to low high.
    let marks = c.args.marks.now in let node = c.args.part.node in let mark = c.max-then-is_within.result in
    let here : get_or (set marks node mark) node 0 ≡ mark = get_or-set_same marks node mark 0 c.requires.node.to in
    let b = c.max-then-is_within.ensures in
    marked_here (omega (arith, here, b))

pub raise_part-requires : goal.raise_part-requires
raise_part-requires t c =
    let marks = c.args.marks.now in let bests = c.args.bests.now in let node = c.args.part.node in let best = c.max.result in
    let there : node < length bests = let n = c.requires.node.to in let s = c.requires.same in omega (arith, n, s) in
    let m = c.max.ensures in
    let is : c.left-left.result.node ≡ 2 * node = ap (λ (p : Part). p.node) c.left-left.ensures in (
      search rules,
      (
        length-set bests node best ∙ c.requires.same,
        (
          node_left (length marks) c.args.part c.left-left.result c.left-left.ensures c.requires.node c.if-part-marks.false,
          (
            tops_best marks bests node c.args.number best c.requires.tops c.requires.under there m,
            under_set bests node c.args.number best c.left-left.result.node there (omega (arith, m)) (inl is),
          ),
        ),
      ),
    )

pub raise_part-requires-then-is_apart-3 : goal.raise_part-requires-then-is_apart-3
raise_part-requires-then-is_apart-3 t c =
    let marks = c.args.marks.now in let bests = c.args.bests.now in let node = c.args.part.node in let best = c.max.result in
    let there : node < length bests = let n = c.requires.node.to in let s = c.requires.same in omega (arith, n, s) in
    let m = c.max.ensures in
    let is : c.right-right.result.node ≡ 2 * node + 1 = ap (λ (p : Part). p.node) c.right-right.ensures in (
      search rules,
      (
        length-set bests node best ∙ c.requires.same,
        (
          node_right (length marks) c.args.part c.right-right.result c.right-right.ensures c.requires.node c.if-part-marks.false,
          (
            tops_best marks bests node c.args.number best c.requires.tops c.requires.under there m,
            under_set bests node c.args.number best c.right-right.result.node there (omega (arith, m)) (inr is),
          ),
        ),
      ),
    )

pub raise_part-requires-2 : goal.raise_part-requires-2
raise_part-requires-2 t c =
    let marks = c.args.marks.now in let bests = c.args.bests.now in let node = c.args.part.node in let best = c.max.result in
    let there : node < length bests = let n = c.requires.node.to in let s = c.requires.same in omega (arith, n, s) in
    let m = c.max.ensures in
    let is : c.left-left.result.node ≡ 2 * node = ap (λ (p : Part). p.node) c.left-left.ensures in (
      search rules,
      (
        length-set bests node best ∙ c.requires.same,
        (
          node_left (length marks) c.args.part c.left-left.result c.left-left.ensures c.requires.node c.if-part-marks.false,
          (
            tops_best marks bests node c.args.number best c.requires.tops c.requires.under there m,
            under_set bests node c.args.number best c.left-left.result.node there (omega (arith, m)) (inl is),
          ),
        ),
      ),
    )

pub raise_part-requires-3 : goal.raise_part-requires-3
raise_part-requires-3 t c =
    let marks = c.args.marks.now in let bests = c.args.bests.now in let node = c.args.part.node in let best = c.max.result in
    let there : node < length bests = let n = c.requires.node.to in let s = c.requires.same in omega (arith, n, s) in
    let m = c.max.ensures in
    let more = c.raise_part-2.new.marks in
    let len : length more ≡ length marks = c.raise_part-2.ensures.marks.len in
    let is : c.right-right.result.node ≡ 2 * node + 1 = ap (λ (p : Part). p.node) c.right-right.ensures in (
      search rules,
      (
        c.raise_part-2.ensures.bests.len ∙ (length-set bests node best ∙ (c.requires.same ∙ sym len)),
        (
          subst (λ (n : ℕ). IsNode n c.right-right.result) (sym len) (node_right (length marks) c.args.part c.right-right.result c.right-right.ensures c.requires.node c.if-part-marks.false),
          (
            c.raise_part-2.ensures.tops,
            under_grew (set bests node best) c.raise_part-2.new.bests c.right-right.result.node c.args.number c.raise_part-2.ensures.bests
                (under_set bests node c.args.number best c.right-right.result.node there (omega (arith, m)) (inr is)),
          ),
        ),
      ),
    )

pub returns-then-is_apart-2-clause-bests : goal.returns-then-is_apart-2-clause-bests
returns-then-is_apart-2-clause-bests t c =
    let bests = c.args.bests.now in let node = c.args.part.node in let best = c.max.result in
    let there : node < length bests = let n = c.requires.node.to in let s = c.requires.same in omega (arith, n, s) in
    let m = c.max.ensures in
    grew_more bests (set bests node best) c.raise_part.new.bests (grew_set bests node best there (omega (arith, m))) c.raise_part.ensures.bests

pub returns-then-is_apart-2-clause-noted : goal.returns-then-is_apart-2-clause-noted
returns-then-is_apart-2-clause-noted t c =
    let new = c.raise_part.new.marks in
    halves_noted new new c.args.part c.left-left.result c.right-right.result c.args.reach c.args.number c.left-left.ensures c.right-right.ensures
    (grew_same new)
    c.raise_part.ensures.noted
    (λ i from to low high. absurd (c.is_apart-2.ensures c.if-is_apart-2.true i from to low high))

pub returns-then-is_apart-3-clause-bests : goal.returns-then-is_apart-3-clause-bests
returns-then-is_apart-3-clause-bests t c =
    let bests = c.args.bests.now in let node = c.args.part.node in let best = c.max.result in
    let there : node < length bests = let n = c.requires.node.to in let s = c.requires.same in omega (arith, n, s) in
    let m = c.max.ensures in
    grew_more bests (set bests node best) c.raise_part-then-is_apart-3.new.bests (grew_set bests node best there (omega (arith, m))) c.raise_part-then-is_apart-3.ensures.bests

pub returns-then-is_apart-3-clause-noted : goal.returns-then-is_apart-3-clause-noted
returns-then-is_apart-3-clause-noted t c =
    let new = c.raise_part-then-is_apart-3.new.marks in
    halves_noted new new c.args.part c.left-left.result c.right-right.result c.args.reach c.args.number c.left-left.ensures c.right-right.ensures
    (grew_same new)
    (λ i from to low high. absurd (c.is_apart-3.ensures c.if-is_apart-3.true i from to low high))
    c.raise_part-then-is_apart-3.ensures.noted

pub returns-clause-bests : goal.returns-clause-bests
returns-clause-bests t c =
    let bests = c.args.bests.now in let node = c.args.part.node in let best = c.max.result in
    let there : node < length bests = let n = c.requires.node.to in let s = c.requires.same in omega (arith, n, s) in
    let m = c.max.ensures in
    let first : Grew bests (set bests node best) = grew_set bests node best there (omega (arith, m)) in
    grew_more bests c.raise_part-2.new.bests c.raise_part-3.new.bests (grew_more bests (set bests node best) c.raise_part-2.new.bests first c.raise_part-2.ensures.bests) c.raise_part-3.ensures.bests

pub returns-clause-noted : goal.returns-clause-noted
returns-clause-noted t c =
    halves_noted c.raise_part-2.new.marks c.raise_part-3.new.marks c.args.part c.left-left.result c.right-right.result c.args.reach c.args.number c.left-left.ensures c.right-right.ensures
    c.raise_part-3.ensures.marks c.raise_part-2.ensures.noted c.raise_part-3.ensures.noted
