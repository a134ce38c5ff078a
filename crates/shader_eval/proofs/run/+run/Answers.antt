use Rattle.std.proofs.Common.{◌≡◌, ◌≤◌, ◌+◌, ◌-◌, suc, Bool, if◌then◌else◌, drop, refl, sym, ap, ◌∙◌, arith}
use Rattle.std.proofs.lemmas.List.{drop_all}
use Rattle.shader_model.specs.Body.{body_of, node_before}
use Rattle.shader_model.specs.Invocation.{Falls, Breaks, Continues, Ends, then_do, meaning}
use Rattle.shader_model.proofs.Trees.{before_plain, before_if, before_loop, before_break, before_continue, before_return, of_none}
use Rattle.shader_eval.specs.Frames.{seen}
use Rattle.shader_eval.proofs.Joining.{of_here}
use Rattle.shader_eval.proofs.Turns.{turn_falls, turn_continues, turn_breaks, turn_ends, no_turn, fewer_left}
use Rattle.shader_eval.proofs.run.+run.Goals as goal

-- one node

pub run_node-returns-in-Plain-clause-flow : goal.run_node-returns-in-Plain-clause-flow
run_node-returns-in-Plain-clause-flow t c = λ rest.
    let m = meaning c.args.declared.now c.args.thread.now in
    ap (λ z. m z (seen c.args.frame.now c.args.slots.now.words)) (ap (λ z. node_before z rest) c.in-Plain.is ∙ before_plain c.in-Plain.instr rest) ∙ ap (m rest) (sym c.act.ensures.state)

pub run_node-returns-then-holds-clause-flow : goal.run_node-returns-then-holds-clause-flow
run_node-returns-then-holds-clause-flow t c = λ rest.
    let m = meaning c.args.declared.now c.args.thread.now in
    let s = seen c.args.frame.now c.args.slots.now.words in
    let v = c.in-If in
    ap (λ z. m z s) (ap (λ z. node_before z rest) v.is ∙ before_if v.test v.yes v.no rest)
    ∙ ap (λ (b : Bool). then_do (if b then m (body_of v.yes) s else m (body_of v.no) s) (m rest)) (sym c.holds-holds.ensures ∙ c.if-holds.true)
    ∙ ap (λ z. then_do z (m rest)) (sym (c.run_nodes.ensures.flow ∙ ap (λ z. m (body_of z) s) c.as_slice.ensures))

pub run_node-returns-else-holds-clause-flow : goal.run_node-returns-else-holds-clause-flow
run_node-returns-else-holds-clause-flow t c = λ rest.
    let m = meaning c.args.declared.now c.args.thread.now in
    let s = seen c.args.frame.now c.args.slots.now.words in
    let v = c.in-If in
    ap (λ z. m z s) (ap (λ z. node_before z rest) v.is ∙ before_if v.test v.yes v.no rest)
    ∙ ap (λ (b : Bool). then_do (if b then m (body_of v.yes) s else m (body_of v.no) s) (m rest)) (sym c.holds-holds.ensures ∙ c.if-holds.false)
    ∙ ap (λ z. then_do z (m rest)) (sym (c.run_nodes-else-holds.ensures.flow ∙ ap (λ z. m (body_of z) s) c.as_slice-else-holds.ensures))

pub run_node-returns-then-holds-2-clause-flow : goal.run_node-returns-then-holds-2-clause-flow
run_node-returns-then-holds-2-clause-flow t c = λ rest.
    let m = meaning c.args.declared.now c.args.thread.now in
    let s = seen c.args.frame.now c.args.slots.now.words in
    ap (λ z. m z s) (ap (λ z. node_before z rest) c.in-Break.is ∙ before_break c.in-Break.test rest)
    ∙ ap (λ (b : Bool). if b then Breaks s else m rest s) (sym c.holds_maybe-holds.ensures ∙ c.if-holds-2.true)

pub run_node-returns-else-holds-2-clause-flow : goal.run_node-returns-else-holds-2-clause-flow
run_node-returns-else-holds-2-clause-flow t c = λ rest.
    let m = meaning c.args.declared.now c.args.thread.now in
    let s = seen c.args.frame.now c.args.slots.now.words in
    ap (λ z. m z s) (ap (λ z. node_before z rest) c.in-Break.is ∙ before_break c.in-Break.test rest)
    ∙ ap (λ (b : Bool). if b then Breaks s else m rest s) (sym c.holds_maybe-holds.ensures ∙ c.if-holds-2.false)

pub run_node-returns-then-holds-3-clause-flow : goal.run_node-returns-then-holds-3-clause-flow
run_node-returns-then-holds-3-clause-flow t c = λ rest.
    let m = meaning c.args.declared.now c.args.thread.now in
    let s = seen c.args.frame.now c.args.slots.now.words in
    ap (λ z. m z s) (ap (λ z. node_before z rest) c.in-Continue.is ∙ before_continue c.in-Continue.test rest)
    ∙ ap (λ (b : Bool). if b then Continues s else m rest s) (sym c.holds_maybe-holds-in-Continue.ensures ∙ c.if-holds-3.true)

pub run_node-returns-else-holds-3-clause-flow : goal.run_node-returns-else-holds-3-clause-flow
run_node-returns-else-holds-3-clause-flow t c = λ rest.
    let m = meaning c.args.declared.now c.args.thread.now in
    let s = seen c.args.frame.now c.args.slots.now.words in
    ap (λ z. m z s) (ap (λ z. node_before z rest) c.in-Continue.is ∙ before_continue c.in-Continue.test rest)
    ∙ ap (λ (b : Bool). if b then Continues s else m rest s) (sym c.holds_maybe-holds-in-Continue.ensures ∙ c.if-holds-3.false)

pub run_node-returns-then-holds-4-clause-flow : goal.run_node-returns-then-holds-4-clause-flow
run_node-returns-then-holds-4-clause-flow t c = λ rest.
    let m = meaning c.args.declared.now c.args.thread.now in
    let s = seen c.args.frame.now c.args.slots.now.words in
    ap (λ z. m z s) (ap (λ z. node_before z rest) c.in-Return.is ∙ before_return c.in-Return.test rest)
    ∙ ap (λ (b : Bool). if b then Ends s else m rest s) (sym c.holds_maybe-holds-in-Return.ensures ∙ c.if-holds-4.true)

pub run_node-returns-else-holds-4-clause-flow : goal.run_node-returns-else-holds-4-clause-flow
run_node-returns-else-holds-4-clause-flow t c = λ rest.
    let m = meaning c.args.declared.now c.args.thread.now in
    let s = seen c.args.frame.now c.args.slots.now.words in
    ap (λ z. m z s) (ap (λ z. node_before z rest) c.in-Return.is ∙ before_return c.in-Return.test rest)
    ∙ ap (λ (b : Bool). if b then Ends s else m rest s) (sym c.holds_maybe-holds-in-Return.ensures ∙ c.if-holds-4.false)

-- the turns of a loop

pub run_node-turns-preserved-in-Falls : goal.run_node-turns-preserved-in-Falls
run_node-turns-preserved-in-Falls t c =
    let ds = c.args.declared.now in
    let ids = c.args.thread.now in
    let b = body_of c.in-Loop.body in
    let s = seen c.turns.frame c.turns.slots.words in
    let r = c.run_nodes-in-turns in
    let u = seen r.new.frame r.new.slots.words in
    let k = c.turns.frame.turns - 1 in
    let e : c.turns.frame.turns ≡ suc k = omega (arith, c.turns-test.true) in
    let body = ap (λ z. meaning ds ids (body_of z) (record s { turns = k })) c.as_slice-in-turns.ensures in
    let arm = c.in-Falls.ensures in
    record {
      left = c.turns.invariant.left ∙ turn_falls ds ids b k s u e (sym (arm.flow ∙ body));
      around = arm.around ∙ c.turns.invariant.around;
    }

pub run_node-turns-smaller-in-Falls : goal.run_node-turns-smaller-in-Falls
run_node-turns-smaller-in-Falls t c =
    let ds = c.args.declared.now in
    let ids = c.args.thread.now in
    let b = body_of c.in-Loop.body in
    let s = seen c.turns.frame c.turns.slots.words in
    let r = c.run_nodes-in-turns in
    let u = seen r.new.frame r.new.slots.words in
    let k = c.turns.frame.turns - 1 in
    let e : c.turns.frame.turns ≡ suc k = omega (arith, c.turns-test.true) in
    let body = ap (λ z. meaning ds ids (body_of z) (record s { turns = k })) c.as_slice-in-turns.ensures in
    let arm = c.in-Falls.ensures in
    let less : u.turns ≤ k = fewer_left ds ids b k s u Falls (sym (arm.flow ∙ body)) refl in
    omega (arith, less, e)

pub run_node-turns-preserved : goal.run_node-turns-preserved
run_node-turns-preserved t c =
    let ds = c.args.declared.now in
    let ids = c.args.thread.now in
    let b = body_of c.in-Loop.body in
    let s = seen c.turns.frame c.turns.slots.words in
    let r = c.run_nodes-in-turns in
    let u = seen r.new.frame r.new.slots.words in
    let k = c.turns.frame.turns - 1 in
    let e : c.turns.frame.turns ≡ suc k = omega (arith, c.turns-test.true) in
    let body = ap (λ z. meaning ds ids (body_of z) (record s { turns = k })) c.as_slice-in-turns.ensures in
    let arm = c.in-Continues.ensures in
    record {
      left = c.turns.invariant.left ∙ turn_continues ds ids b k s u e (sym (arm.flow ∙ body));
      around = arm.around ∙ c.turns.invariant.around;
    }

pub run_node-turns-smaller : goal.run_node-turns-smaller
run_node-turns-smaller t c =
    let ds = c.args.declared.now in
    let ids = c.args.thread.now in
    let b = body_of c.in-Loop.body in
    let s = seen c.turns.frame c.turns.slots.words in
    let r = c.run_nodes-in-turns in
    let u = seen r.new.frame r.new.slots.words in
    let k = c.turns.frame.turns - 1 in
    let e : c.turns.frame.turns ≡ suc k = omega (arith, c.turns-test.true) in
    let body = ap (λ z. meaning ds ids (body_of z) (record s { turns = k })) c.as_slice-in-turns.ensures in
    let arm = c.in-Continues.ensures in
    let less : u.turns ≤ k = fewer_left ds ids b k s u Continues (sym (arm.flow ∙ body)) refl in
    omega (arith, less, e)

pub run_node-returns-in-Breaks-clause-flow : goal.run_node-returns-in-Breaks-clause-flow
run_node-returns-in-Breaks-clause-flow t c = λ rest.
    let ds = c.args.declared.now in
    let ids = c.args.thread.now in
    let b = body_of c.in-Loop.body in
    let s = seen c.turns.frame c.turns.slots.words in
    let r = c.run_nodes-in-turns in
    let u = seen r.new.frame r.new.slots.words in
    let k = c.turns.frame.turns - 1 in
    let e : c.turns.frame.turns ≡ suc k = omega (arith, c.turns-test.true) in
    let body = ap (λ z. meaning ds ids (body_of z) (record s { turns = k })) c.as_slice-in-turns.ensures in
    let arm = c.in-Breaks.ensures in
    ap (λ z. meaning ds ids z (seen c.args.frame.now c.args.slots.now.words)) (ap (λ z. node_before z rest) c.in-Loop.is ∙ before_loop c.in-Loop.body rest)
    ∙ ap (λ z. then_do z (meaning ds ids rest)) (c.turns.invariant.left ∙ turn_breaks ds ids b k s u e (sym (arm.flow ∙ body)))

pub run_node-returns-in-Ends-clause-flow : goal.run_node-returns-in-Ends-clause-flow
run_node-returns-in-Ends-clause-flow t c = λ rest.
    let ds = c.args.declared.now in
    let ids = c.args.thread.now in
    let b = body_of c.in-Loop.body in
    let s = seen c.turns.frame c.turns.slots.words in
    let r = c.run_nodes-in-turns in
    let u = seen r.new.frame r.new.slots.words in
    let k = c.turns.frame.turns - 1 in
    let e : c.turns.frame.turns ≡ suc k = omega (arith, c.turns-test.true) in
    let body = ap (λ z. meaning ds ids (body_of z) (record s { turns = k })) c.as_slice-in-turns.ensures in
    let arm = c.in-Ends.ensures in
    ap (λ z. meaning ds ids z (seen c.args.frame.now c.args.slots.now.words)) (ap (λ z. node_before z rest) c.in-Loop.is ∙ before_loop c.in-Loop.body rest)
    ∙ ap (λ z. then_do z (meaning ds ids rest)) (c.turns.invariant.left ∙ turn_ends ds ids b k s u e (sym (arm.flow ∙ body)))

pub run_node-returns-after-turns-clause-flow : goal.run_node-returns-after-turns-clause-flow
run_node-returns-after-turns-clause-flow t c = λ rest.
    let ds = c.args.declared.now in
    let ids = c.args.thread.now in
    let s = seen c.turns.frame c.turns.slots.words in
    ap (λ z. meaning ds ids z (seen c.args.frame.now c.args.slots.now.words)) (ap (λ z. node_before z rest) c.in-Loop.is ∙ before_loop c.in-Loop.body rest)
    ∙ ap (λ z. then_do z (meaning ds ids rest)) (c.turns.invariant.left ∙ no_turn ds ids (body_of c.in-Loop.body) s (omega (arith, c.turns-test.false)))

-- the nodes of a block

pub run_nodes-loop-node-preserved : goal.run_nodes-loop-node-preserved
run_nodes-loop-node-preserved t c =
    let m = meaning c.args.declared.now c.args.thread.now in
    let xs = c.args.nodes.now in
    let i = c.loop-node.node-index in
    let s = seen c.loop-node.frame c.loop-node.slots.words in
    let e = of_here xs i c.node-item.result c.loop-node-test.true ∙ ap (λ z. node_before z (body_of (drop (i + 1) xs))) (sym c.node-item.is) in
    let arm = c.in-Falls.ensures in
    record {
      rest = c.loop-node.invariant.rest ∙ ap (λ z. m z s) e ∙ arm.flow (body_of (drop (i + 1) xs));
      around = arm.around ∙ c.loop-node.invariant.around;
    }

pub run_nodes-returns-in-Breaks-clause-flow : goal.run_nodes-returns-in-Breaks-clause-flow
run_nodes-returns-in-Breaks-clause-flow t c =
    let m = meaning c.args.declared.now c.args.thread.now in
    let xs = c.args.nodes.now in
    let i = c.loop-node.node-index in
    let s = seen c.loop-node.frame c.loop-node.slots.words in
    let e = of_here xs i c.node-item.result c.loop-node-test.true ∙ ap (λ z. node_before z (body_of (drop (i + 1) xs))) (sym c.node-item.is) in
    sym (c.loop-node.invariant.rest ∙ ap (λ z. m z s) e ∙ c.in-Breaks.ensures.flow (body_of (drop (i + 1) xs)))

pub run_nodes-returns-in-Continues-clause-flow : goal.run_nodes-returns-in-Continues-clause-flow
run_nodes-returns-in-Continues-clause-flow t c =
    let m = meaning c.args.declared.now c.args.thread.now in
    let xs = c.args.nodes.now in
    let i = c.loop-node.node-index in
    let s = seen c.loop-node.frame c.loop-node.slots.words in
    let e = of_here xs i c.node-item.result c.loop-node-test.true ∙ ap (λ z. node_before z (body_of (drop (i + 1) xs))) (sym c.node-item.is) in
    sym (c.loop-node.invariant.rest ∙ ap (λ z. m z s) e ∙ c.in-Continues.ensures.flow (body_of (drop (i + 1) xs)))

pub run_nodes-returns-in-Ends-clause-flow : goal.run_nodes-returns-in-Ends-clause-flow
run_nodes-returns-in-Ends-clause-flow t c =
    let m = meaning c.args.declared.now c.args.thread.now in
    let xs = c.args.nodes.now in
    let i = c.loop-node.node-index in
    let s = seen c.loop-node.frame c.loop-node.slots.words in
    let e = of_here xs i c.node-item.result c.loop-node-test.true ∙ ap (λ z. node_before z (body_of (drop (i + 1) xs))) (sym c.node-item.is) in
    sym (c.loop-node.invariant.rest ∙ ap (λ z. m z s) e ∙ c.in-Ends.ensures.flow (body_of (drop (i + 1) xs)))

pub run_nodes-returns-clause-flow : goal.run_nodes-returns-clause-flow
run_nodes-returns-clause-flow t c =
    let m = meaning c.args.declared.now c.args.thread.now in
    let xs = c.args.nodes.now in
    let i = c.loop-node.node-index in
    sym (c.loop-node.invariant.rest ∙ ap (λ z. m z (seen c.loop-node.frame c.loop-node.slots.words)) (ap body_of (drop_all i xs c.loop-node-test.false) ∙ of_none))
