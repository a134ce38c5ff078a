use Rattle.std.proofs.Common.{rules, ◌≡◌, ◌+◌, ◌<◌, ◌^◌, ◌++◌, drop, refl, sym, ap, ◌∙◌, subst, arith}
use Rattle.std.specs.Prelude.{not}
use Rattle.std.proofs.lemmas.List.{drop_all}
use Rattle.spirv_model.specs.Op as op
use Rattle.shader_model.specs.declared.tree.Node.TheViews.{the_lemmas}
use Rattle.shader_model.specs.Body.{Plain, If, Loop, Break, Continue, Return, End, body_of, node_before}
use Rattle.shader_model.proofs.Trees.{before_plain, before_if, before_loop, before_break, before_continue, before_return, of_none}
use Rattle.spirv_emit.specs.Lower.{instr_pieces, test_pieces, test_calculation}
use Rattle.spirv_emit.specs.Code.{calculation_size, pieces_ops, pieces_end, choose_by, test_start, test_end, behind_test, loop_ops, inner_start, body_ops, body_end}
use Rattle.spirv_emit.specs.Emits.{layout_of, written, BodyIsSmall}
use Rattle.spirv_emit.proofs.Words.Nodes.{two_sided, maybe_room, if_small, small_here, joins_by, joins_left, stops_left, of_here, loop_made, node_end}
use Rattle.spirv_emit.proofs.Words.LabelRanges as shape
use Rattle.spirv_emit.proofs.nodes.+nodes.Goals as goal

-- ids of 32 bits

pub emit_node-instr-requires : goal.emit_node-instr-requires
emit_node-instr-requires t c =
    let is = ap (λ z. node_before z End) c.in-Plain.is ∙ before_plain c.in-Plain.instr End in
    let e = ap (λ z. body_end c.args.declared.now z c.args.code.now.next) is in
    let s : BodyIsSmall c.args.declared.now (Plain c.in-Plain.instr End) = subst (BodyIsSmall c.args.declared.now) is c.requires.small in
    (s.0, omega (arith, e, c.requires.room))

pub emit_node-fetch_test-requires : goal.emit_node-fetch_test-requires
emit_node-fetch_test-requires t c =
    let ds = c.args.declared.now in
    let n = c.args.code.now.next in
    let first = body_of c.in-If.yes in
    let second = body_of c.in-If.no in
    let u = c.in-If.test in
    let e = ap (λ z. body_end ds (node_before z End) n) c.in-If.is ∙ ap (λ z. body_end ds z n) (before_if u c.in-If.yes c.in-If.no End) in
    let g1 = shape.body_grows (layout_of c.args.plan.now) ds first (test_end ds n u) in
    let g2 = shape.body_grows (layout_of c.args.plan.now) ds second (body_end ds first (test_end ds n u)) in
    let k : pieces_end n (test_pieces u) + 16 < 2 ^ 32 = omega (arith, e, g1, g2, c.requires.room) in
    ((if_small c.args.declared.now c.args.node.now u c.in-If.yes c.in-If.no c.in-If.is c.requires.small).0.0, k)

pub emit_node-calculation-requires-clause-small : goal.emit_node-calculation-requires-clause-small
emit_node-calculation-requires-clause-small t c =
    let s = (if_small c.args.declared.now c.args.node.now c.in-If.test c.in-If.yes c.in-If.no c.in-If.is c.requires.small).0.1 in
    rw c.test_calculation.ensures (s, (tt, (tt, (tt, (tt, tt)))))

pub emit_node-calculation-requires-clause-room : goal.emit_node-calculation-requires-clause-room
emit_node-calculation-requires-clause-room t c =
    let ds = c.args.declared.now in
    let n = c.args.code.now.next in
    let first = body_of c.in-If.yes in
    let second = body_of c.in-If.no in
    let u = c.in-If.test in
    let e = ap (λ z. body_end ds (node_before z End) n) c.in-If.is ∙ ap (λ z. body_end ds z n) (before_if u c.in-If.yes c.in-If.no End) in
    let g1 = shape.body_grows (layout_of c.args.plan.now) ds first (test_end ds n u) in
    let g2 = shape.body_grows (layout_of c.args.plan.now) ds second (body_end ds first (test_end ds n u)) in
    let n0 : c.fetch_test.new.self.next ≡ pieces_end n (test_pieces u) = c.in_ok-fetch_test-in-If.ensures.next_is in
    let s = ap calculation_size c.test_calculation.ensures in
    omega (arith, e, g1, g2, n0, s, c.requires.room)

pub emit_node-open_choice-requires : goal.emit_node-open_choice-requires
emit_node-open_choice-requires t c =
    let ds = c.args.declared.now in
    let n = c.args.code.now.next in
    let first = body_of c.in-If.yes in
    let second = body_of c.in-If.no in
    let u = c.in-If.test in
    let e = ap (λ z. body_end ds (node_before z End) n) c.in-If.is ∙ ap (λ z. body_end ds z n) (before_if u c.in-If.yes c.in-If.no End) in
    let g1 = shape.body_grows (layout_of c.args.plan.now) ds first (test_end ds n u) in
    let g2 = shape.body_grows (layout_of c.args.plan.now) ds second (body_end ds first (test_end ds n u)) in
    let n0 : c.fetch_test.new.self.next ≡ pieces_end n (test_pieces u) = c.in_ok-fetch_test-in-If.ensures.next_is in
    let s = ap calculation_size c.test_calculation.ensures in
    let n1 = c.in_ok-condition-in-If.ensures.appends.next_is in
    omega (arith, e, g1, g2, n0, n1, s, c.requires.room)

pub emit_node-emit_nodes-requires : goal.emit_node-emit_nodes-requires
emit_node-emit_nodes-requires t c =
    let ds = c.args.declared.now in
    let n = c.args.code.now.next in
    let first = body_of c.in-If.yes in
    let second = body_of c.in-If.no in
    let u = c.in-If.test in
    let e = ap (λ z. body_end ds (node_before z End) n) c.in-If.is ∙ ap (λ z. body_end ds z n) (before_if u c.in-If.yes c.in-If.no End) in
    let g2 = shape.body_grows (layout_of c.args.plan.now) ds second (body_end ds first (test_end ds n u)) in
    let n0 : c.fetch_test.new.self.next ≡ pieces_end n (test_pieces u) = c.in_ok-fetch_test-in-If.ensures.next_is in
    let s = ap calculation_size c.test_calculation.ensures in
    let n1 = c.in_ok-condition-in-If.ensures.appends.next_is in
    let n2 = c.in_ok-choice-in-If.ensures.appends.next_is in
    let m : c.open_choice.new.self.next ≡ test_end ds n u = omega (arith, n0, n1, n2, s) in
    let same : body_of c.as_slice.result.now ≡ first = ap body_of c.as_slice.ensures in
    let k = ap (λ z. body_end ds z c.open_choice.new.self.next) same ∙ ap (body_end ds first) m in
    let small = (if_small c.args.declared.now c.args.node.now c.in-If.test c.in-If.yes c.in-If.no c.in-If.is c.requires.small).1 in
    (search (rules, the_lemmas), record { small = subst (BodyIsSmall ds) (sym same) small; room = omega (arith, e, g2, k, c.requires.room) })

pub emit_node-emit_nodes-requires-in-If : goal.emit_node-emit_nodes-requires-in-If
emit_node-emit_nodes-requires-in-If t c =
    let ds = c.args.declared.now in
    let n = c.args.code.now.next in
    let first = body_of c.in-If.yes in
    let second = body_of c.in-If.no in
    let u = c.in-If.test in
    let e = ap (λ z. body_end ds (node_before z End) n) c.in-If.is ∙ ap (λ z. body_end ds z n) (before_if u c.in-If.yes c.in-If.no End) in
    let n0 : c.fetch_test.new.self.next ≡ pieces_end n (test_pieces u) = c.in_ok-fetch_test-in-If.ensures.next_is in
    let s = ap calculation_size c.test_calculation.ensures in
    let n1 = c.in_ok-condition-in-If.ensures.appends.next_is in
    let n2 = c.in_ok-choice-in-If.ensures.appends.next_is in
    let m : c.open_choice.new.self.next ≡ test_end ds n u = omega (arith, n0, n1, n2, s) in
    let same : body_of c.as_slice.result.now ≡ first = ap body_of c.as_slice.ensures in
    let k = c.in_ok-label-in-If.ensures.next_is ∙ c.in_ok-emit_nodes-in-If.ensures.next_is ∙ ap (λ z. body_end ds z c.open_choice.new.self.next) same ∙ ap (body_end ds first) m in
    let same2 : body_of c.as_slice-in-If.result.now ≡ second = ap body_of c.as_slice-in-If.ensures in
    let k2 = ap (λ z. body_end ds z c.label.new.self.next) same2 ∙ ap (body_end ds second) k in
    let small = (if_small c.args.declared.now c.args.node.now c.in-If.test c.in-If.yes c.in-If.no c.in-If.is c.requires.small).2 in
    (search (rules, the_lemmas), record { small = subst (BodyIsSmall ds) (sym same2) small; room = omega (arith, e, k2, c.requires.room) })

pub emit_node-open_loop-requires : goal.emit_node-open_loop-requires
emit_node-open_loop-requires t c =
    let ds = c.args.declared.now in
    let n = c.args.code.now.next in
    let e = ap (λ z. body_end ds (node_before z End) n) c.in-Loop.is ∙ ap (λ z. body_end ds z n) (before_loop c.in-Loop.body End) in
    let g = shape.body_grows (layout_of c.args.plan.now) ds (body_of c.in-Loop.body) (inner_start n) in
    omega (arith, e, g, c.requires.room)

pub emit_node-emit_nodes-requires-in-Loop : goal.emit_node-emit_nodes-requires-in-Loop
emit_node-emit_nodes-requires-in-Loop t c =
    let ds = c.args.declared.now in
    let n = c.args.code.now.next in
    let e = ap (λ z. body_end ds (node_before z End) n) c.in-Loop.is ∙ ap (λ z. body_end ds z n) (before_loop c.in-Loop.body End) in
    let same : body_of c.as_slice-in-Loop.result.now ≡ body_of c.in-Loop.body = ap body_of c.as_slice-in-Loop.ensures in
    let k = ap (λ z. body_end ds z c.open_loop.new.self.next) same ∙ ap (body_end ds (body_of c.in-Loop.body)) c.in_ok-turn-in-Loop.ensures.appends.next_is in
    let z : BodyIsSmall ds (Loop (body_of c.in-Loop.body) End) = subst (BodyIsSmall ds) (ap (λ z. node_before z End) c.in-Loop.is ∙ before_loop c.in-Loop.body End) c.requires.small in
    (search (rules, the_lemmas), record { small = subst (BodyIsSmall ds) (sym same) z.0; room = omega (arith, e, k, c.requires.room) })

pub emit_node-leave_maybe-requires : goal.emit_node-leave_maybe-requires
emit_node-leave_maybe-requires t c =
    maybe_room c.args.declared.now (λ u. Break u End) c.in-Break.test c.args.code.now.next (λ u. refl)
    (let is = ap (λ z. node_before z End) c.in-Break.is ∙ before_break c.in-Break.test End in
    let e = ap (λ z. body_end c.args.declared.now z c.args.code.now.next) is in
    subst (λ z. z + 16 < 2 ^ 32) e c.requires.room)
    (let is = ap (λ z. node_before z End) c.in-Break.is ∙ before_break c.in-Break.test End in
    let s : BodyIsSmall c.args.declared.now (Break c.in-Break.test End) = subst (BodyIsSmall c.args.declared.now) is c.requires.small in s.0)

pub emit_node-leave_maybe-requires-in-Continue : goal.emit_node-leave_maybe-requires-in-Continue
emit_node-leave_maybe-requires-in-Continue t c =
    maybe_room c.args.declared.now (λ u. Continue u End) c.in-Continue.test c.args.code.now.next (λ u. refl)
    (let is = ap (λ z. node_before z End) c.in-Continue.is ∙ before_continue c.in-Continue.test End in
    let e = ap (λ z. body_end c.args.declared.now z c.args.code.now.next) is in
    subst (λ z. z + 16 < 2 ^ 32) e c.requires.room)
    (let is = ap (λ z. node_before z End) c.in-Continue.is ∙ before_continue c.in-Continue.test End in
    let s : BodyIsSmall c.args.declared.now (Continue c.in-Continue.test End) = subst (BodyIsSmall c.args.declared.now) is c.requires.small in s.0)

pub emit_node-leave_maybe-requires-in-Return : goal.emit_node-leave_maybe-requires-in-Return
emit_node-leave_maybe-requires-in-Return t c =
    maybe_room c.args.declared.now (λ u. Return u End) c.in-Return.test c.args.code.now.next (λ u. refl)
    (let is = ap (λ z. node_before z End) c.in-Return.is ∙ before_return c.in-Return.test End in
    let e = ap (λ z. body_end c.args.declared.now z c.args.code.now.next) is in
    subst (λ z. z + 16 < 2 ^ 32) e c.requires.room)
    (let is = ap (λ z. node_before z End) c.in-Return.is ∙ before_return c.in-Return.test End in
    let s : BodyIsSmall c.args.declared.now (Return c.in-Return.test End) = subst (BodyIsSmall c.args.declared.now) is c.requires.small in s.0)

pub emit_nodes-emit_node-requires : goal.emit_nodes-emit_node-requires
emit_nodes-emit_node-requires t c =
    let ds = c.args.declared.now in
    let xs = c.args.nodes.now in
    let i = c.loop-node.node-index in
    let n = c.loop-node.code.next in
    let e = of_here xs i c.node-item.result c.loop-node-test.true ∙ ap (λ z. node_before z (body_of (drop (i + 1) xs))) (sym c.node-item.is) in
    let whole = c.loop-node.invariant.1 ∙ ap (λ z. body_end ds z n) e in
    let h = node_end (layout_of c.args.plan.now) ds c.node-item.result (body_of (drop (i + 1) xs)) n in
    let s = small_here ds c.node-item.result (body_of (drop (i + 1) xs)) (subst (BodyIsSmall ds) e c.loop-node.invariant.2) in
    (search (rules, the_lemmas), record { small = s.0; room = omega (arith, whole, h, c.requires.room) })

-- the nodes' code

pub emit_node-returns-in_ok-instr-in-Plain-clause-joins : goal.emit_node-returns-in_ok-instr-in-Plain-clause-joins
emit_node-returns-in_ok-instr-in-Plain-clause-joins t c = λ _.
    let at = layout_of c.args.plan.now in
    let ds = c.args.declared.now in
    let c0 = c.args.code.now in
    let ps = instr_pieces ds c.in-Plain.instr in
    joins_by ds at c0 _ c.args.node.now _ _ _ (λ rest. Plain c.in-Plain.instr rest) (pieces_ops at c0.next ps) (pieces_end c0.next ps)
    (λ rest. ap (λ z. node_before z rest) c.in-Plain.is ∙ before_plain c.in-Plain.instr rest) (λ rest. refl) (λ rest. refl) c.in_ok-instr-in-Plain.ensures

pub emit_nodes-loop-node-preserved : goal.emit_nodes-loop-node-preserved
emit_nodes-loop-node-preserved t c =
    let xs = c.args.nodes.now in
    let ds = c.args.declared.now in
    let i = c.loop-node.node-index in
    let at = layout_of c.args.plan.now in
    let x = c.args.exits in
    let e = of_here xs i c.node-item.result c.loop-node-test.true ∙ ap (λ z. node_before z (body_of (drop (i + 1) xs))) (sym c.node-item.is) in
    let j = c.in_ok-on.ensures.joins c.if-not-on.false in (
      c.loop-node.invariant.0 ∙ ap (λ z. c.loop-node.code.words ++ written (body_ops ds at z c.loop-node.code.next x.end x.brk x.cont)) e ∙ j.words_are (body_of (drop (i + 1) xs)),
      c.loop-node.invariant.1 ∙ ap (λ z. body_end ds z c.loop-node.code.next) e ∙ j.end_is (body_of (drop (i + 1) xs)),
      (small_here ds c.node-item.result (body_of (drop (i + 1) xs)) (subst (BodyIsSmall ds) e c.loop-node.invariant.2)).1,
    )

pub emit_nodes-returns-then-not-on : goal.emit_nodes-returns-then-not-on
emit_nodes-returns-then-not-on t c =
    let xs = c.args.nodes.now in
    let ds = c.args.declared.now in
    let i = c.loop-node.node-index in
    let at = layout_of c.args.plan.now in
    let x = c.args.exits in
    let e = of_here xs i c.node-item.result c.loop-node-test.true ∙ ap (λ z. node_before z (body_of (drop (i + 1) xs))) (sym c.node-item.is) in
    let s = (c.in_ok-on.ensures.stops (ap not c.if-not-on.true)).appends (body_of (drop (i + 1) xs)) in
    let whole = c.loop-node.invariant.0 ∙ ap (λ z. c.loop-node.code.words ++ written (body_ops ds at z c.loop-node.code.next x.end x.brk x.cont)) e in
    let ends = c.loop-node.invariant.1 ∙ ap (λ z. body_end ds z c.loop-node.code.next) e in
    record { words_are = s.words_are ∙ sym whole; next_is = s.next_is ∙ sym ends }

pub emit_nodes-returns : goal.emit_nodes-returns
emit_nodes-returns t c =
    let xs = c.args.nodes.now in
    let ds = c.args.declared.now in
    let at = layout_of c.args.plan.now in
    let x = c.args.exits in
    let i = c.loop-node.node-index in
    let e : body_of (drop i xs) ≡ End = ap body_of (drop_all i xs c.loop-node-test.false) ∙ of_none in
    let h = c.in_ok-branch.ensures in
    let whole = c.loop-node.invariant.0 ∙ ap (λ z. c.loop-node.code.words ++ written (body_ops ds at z c.loop-node.code.next x.end x.brk x.cont)) e in
    let ends = c.loop-node.invariant.1 ∙ ap (λ z. body_end ds z c.loop-node.code.next) e in
    record { words_are = h.words_are ∙ sym whole; next_is = h.next_is ∙ sym ends }

pub emit_node-returns-in_ok-on-in-Break-clause-joins : goal.emit_node-returns-in_ok-on-in-Break-clause-joins
emit_node-returns-in_ok-on-in-Break-clause-joins t c = λ h.
    joins_left c.args.declared.now (layout_of c.args.plan.now) c.args.code.now _ c.args.node.now _ _ _ (λ u rest. Break u rest) (op.Branch c.args.exits.brk) c.in-Break.test
    (λ rest. ap (λ z. node_before z rest) c.in-Break.is ∙ before_break c.in-Break.test rest) _ (λ u rest. refl) (λ u rest. refl) c.in_ok-on-in-Break.ensures h

pub emit_node-returns-in_ok-on-in-Break-clause-stops : goal.emit_node-returns-in_ok-on-in-Break-clause-stops
emit_node-returns-in_ok-on-in-Break-clause-stops t c = λ h.
    stops_left c.args.declared.now (layout_of c.args.plan.now) c.args.code.now _ c.args.node.now _ _ _ (λ u rest. Break u rest) (op.Branch c.args.exits.brk) c.in-Break.test
    (λ rest. ap (λ z. node_before z rest) c.in-Break.is ∙ before_break c.in-Break.test rest) _ (λ rest. refl) (λ rest. refl) c.in_ok-on-in-Break.ensures h

pub emit_node-returns-in_ok-on-in-Continue-clause-joins : goal.emit_node-returns-in_ok-on-in-Continue-clause-joins
emit_node-returns-in_ok-on-in-Continue-clause-joins t c = λ h.
    joins_left c.args.declared.now (layout_of c.args.plan.now) c.args.code.now _ c.args.node.now _ _ _ (λ u rest. Continue u rest) (op.Branch c.args.exits.cont) c.in-Continue.test
    (λ rest. ap (λ z. node_before z rest) c.in-Continue.is ∙ before_continue c.in-Continue.test rest) _ (λ u rest. refl) (λ u rest. refl) c.in_ok-on-in-Continue.ensures h

pub emit_node-returns-in_ok-on-in-Continue-clause-stops : goal.emit_node-returns-in_ok-on-in-Continue-clause-stops
emit_node-returns-in_ok-on-in-Continue-clause-stops t c = λ h.
    stops_left c.args.declared.now (layout_of c.args.plan.now) c.args.code.now _ c.args.node.now _ _ _ (λ u rest. Continue u rest) (op.Branch c.args.exits.cont) c.in-Continue.test
    (λ rest. ap (λ z. node_before z rest) c.in-Continue.is ∙ before_continue c.in-Continue.test rest) _ (λ rest. refl) (λ rest. refl) c.in_ok-on-in-Continue.ensures h

pub emit_node-returns-in_ok-on-in-Return-clause-joins : goal.emit_node-returns-in_ok-on-in-Return-clause-joins
emit_node-returns-in_ok-on-in-Return-clause-joins t c = λ h.
    joins_left c.args.declared.now (layout_of c.args.plan.now) c.args.code.now _ c.args.node.now _ _ _ (λ u rest. Return u rest) op.Return c.in-Return.test
    (λ rest. ap (λ z. node_before z rest) c.in-Return.is ∙ before_return c.in-Return.test rest) _ (λ u rest. refl) (λ u rest. refl) c.in_ok-on-in-Return.ensures h

pub emit_node-returns-in_ok-on-in-Return-clause-stops : goal.emit_node-returns-in_ok-on-in-Return-clause-stops
emit_node-returns-in_ok-on-in-Return-clause-stops t c = λ h.
    stops_left c.args.declared.now (layout_of c.args.plan.now) c.args.code.now _ c.args.node.now _ _ _ (λ u rest. Return u rest) op.Return c.in-Return.test
    (λ rest. ap (λ z. node_before z rest) c.in-Return.is ∙ before_return c.in-Return.test rest) _ (λ rest. refl) (λ rest. refl) c.in_ok-on-in-Return.ensures h

pub emit_node-returns-in_ok-label-in-If-2-clause-joins : goal.emit_node-returns-in_ok-label-in-If-2-clause-joins
emit_node-returns-in_ok-label-in-If-2-clause-joins t c = λ _.
    let ds = c.args.declared.now in
    let at = layout_of c.args.plan.now in
    let c0 = c.args.code.now in
    let n = c0.next in
    let u = c.in-If.test in
    let x = c.args.exits in
    let first = body_of c.in-If.yes in
    let second = body_of c.in-If.no in
    let s = test_start ds n u in
    let k = test_calculation u in
    let l = behind_test ds at n u in
    let n1 = test_end ds n u in
    let m = body_end ds first n1 in
    let n0 : c.fetch_test.new.self.next ≡ s = c.in_ok-fetch_test-in-If.ensures.next_is in
    let value = c.test_calculation.ensures in
    let pc = c.in_ok-condition-in-If.ensures.appends in
    let po = c.in_ok-choice-in-If.ensures.appends in
    let labels = c.in_ok-choice-in-If.ensures.labels in
    let size = ap calculation_size value in
    let e1 = pc.next_is in
    let e2 = po.next_is in
    let start : c.open_choice.new.self.next ≡ n1 = omega (arith, n0, e1, e2, size) in
    let lab = labels.1 in
    let behind : c.in_ok-choice-in-If.choice.behind ≡ l = omega (arith, n0, e1, size, lab) in
    let pa = c.in_ok-emit_nodes-in-If.ensures in
    let pb = c.in_ok-emit_nodes-in-If-2.ensures in
    let same_a : body_of c.as_slice.result.now ≡ first = ap body_of c.as_slice.ensures in
    let same_b : body_of c.as_slice-in-If.result.now ≡ second = ap body_of c.as_slice-in-If.ensures in
    let b = c.in_ok-choice-in-If.choice.behind in
    let ea = ap (λ z. body_ops ds at z c.open_choice.new.self.next b x.brk x.cont) same_a ∙ ap (λ j. body_ops ds at first j b x.brk x.cont) start ∙ ap (λ j. body_ops ds at first n1 j x.brk x.cont) behind in
    let na : c.emit_nodes.new.code.next ≡ m = pa.next_is ∙ ap (λ z. body_end ds z c.open_choice.new.self.next) same_a ∙ ap (body_end ds first) start in
    let nb = c.in_ok-label-in-If.ensures.next_is ∙ na in
    let eb = ap (λ z. body_ops ds at z c.label.new.self.next b x.brk x.cont) same_b ∙ ap (λ j. body_ops ds at second j b x.brk x.cont) nb ∙ ap (λ j. body_ops ds at second m j x.brk x.cont) behind in
    let end : body_end ds (body_of c.as_slice-in-If.result.now) c.label.new.self.next ≡ body_end ds second m = ap (λ z. body_end ds z c.label.new.self.next) same_b ∙ ap (body_end ds second) nb in
    let all = two_sided at (test_calculation u) c.test_calculation.result (test_pieces u) _ (body_ops ds at first n1 l x.brk x.cont) _ (body_ops ds at second m l x.brk x.cont) _ _ _ _ (body_end ds second m) c.in_ok-fetch_test-in-If.ensures value pc c.in_ok-condition-in-If.ensures.id po labels.0 labels.1 pa c.in_ok-label-in-If.ensures pb c.in_ok-label-in-If-2.ensures ea eb end in
    joins_by ds at c0 _ c.args.node.now x.end x.brk x.cont (λ rest. If u first second rest) (choose_by ds at n u (body_ops ds at first n1 l x.brk x.cont) (body_ops ds at second m l x.brk x.cont)) (body_end ds second m)
    (λ rest. ap (λ z. node_before z rest) c.in-If.is ∙ before_if u c.in-If.yes c.in-If.no rest) (λ rest. refl) (λ rest. refl) all

pub emit_node-returns-in_ok-close_loop-in-Loop-clause-joins : goal.emit_node-returns-in_ok-close_loop-in-Loop-clause-joins
emit_node-returns-in_ok-close_loop-in-Loop-clause-joins t c = λ _.
    let ds = c.args.declared.now in
    let at = layout_of c.args.plan.now in
    let c0 = c.args.code.now in
    let x = c.args.exits in
    let n = c0.next in
    let inner = body_of c.in-Loop.body in
    let opened = c.in_ok-turn-in-Loop.ensures.appends in
    let labels = c.in_ok-turn-in-Loop.ensures.labels in
    let l = c.in_ok-turn-in-Loop.turn in
    let same : body_of c.as_slice-in-Loop.result.now ≡ inner = ap body_of c.as_slice-in-Loop.ensures in
    let start = opened.next_is in
    let ei = ap (λ z. body_ops ds at z c.open_loop.new.self.next l.again l.behind l.again) same ∙ ap (λ m. body_ops ds at inner m l.again l.behind l.again) start
    ∙ ap (λ k. body_ops ds at inner (inner_start n) k l.behind k) labels.2 ∙ ap (λ k. body_ops ds at inner (inner_start n) (n + 2) k (n + 2)) labels.1 in
    let ee = ap (λ z. body_end ds z c.open_loop.new.self.next) same ∙ ap (body_end ds inner) start in
    let all = loop_made at _ (body_ops ds at inner (inner_start n) (n + 2) (n + 1) (n + 2)) _ _ _ _ (body_end ds inner (inner_start n)) opened c.in_ok-emit_nodes-in-Loop.ensures c.in_ok-close_loop-in-Loop.ensures labels.0 labels.1 labels.2 ei ee in
    joins_by ds at c0 _ c.args.node.now x.end x.brk x.cont (λ rest. Loop inner rest) (loop_ops at n (body_ops ds at inner (inner_start n) (n + 2) (n + 1) (n + 2))) (body_end ds inner (inner_start n))
    (λ rest. ap (λ z. node_before z rest) c.in-Loop.is ∙ before_loop c.in-Loop.body rest) (λ rest. refl) (λ rest. refl) all
