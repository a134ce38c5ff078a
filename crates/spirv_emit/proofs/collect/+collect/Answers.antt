use Rattle.std.proofs.Common.{◌≡◌, ◌+◌, ◌++◌, drop, refl, sym, ap, ◌∙◌, Some, append_assoc}
use Rattle.std.proofs.lemmas.List.{drop_all}
use Rattle.shader_model.specs.Body.{Plain, If, Loop, Break, Continue, Return, body_of, node_before}
use Rattle.shader_model.proofs.Trees.{before_plain, before_if, before_loop, before_break, before_continue, before_return, of_none}
use Rattle.spirv_emit.specs.Numbers.{with_numbers, instr_numbers, test_numbers, body_numbers}
use Rattle.spirv_emit.proofs.Words.Nodes.{of_here, with_append, numbered_by}
use Rattle.spirv_emit.proofs.collect.+collect.Goals as goal

pub add_nodes-loop-node-preserved : goal.add_nodes-loop-node-preserved
add_nodes-loop-node-preserved t c =
    let xs = c.args.nodes.now in
    let i = c.loop-node.node-index in
    let e = of_here xs i c.node-item.result c.loop-node-test.true ∙ ap (λ z. node_before z (body_of (drop (i + 1) xs))) (sym c.node-item.is) in
    c.loop-node.invariant ∙ ap (λ z. with_numbers c.loop-node.numbers (body_numbers z)) e ∙ c.in_ok-add_node.ensures.are (body_of (drop (i + 1) xs))

pub add_nodes-returns : goal.add_nodes-returns
add_nodes-returns t c =
    let e = ap body_of (drop_all c.loop-node.node-index c.args.nodes.now c.loop-node-test.false) ∙ of_none in
    sym (c.loop-node.invariant ∙ ap (λ z. with_numbers c.loop-node.numbers (body_numbers z)) e)

pub add_node-returns-in_ok-add_instr-in-Plain : goal.add_node-returns-in_ok-add_instr-in-Plain
add_node-returns-in_ok-add_instr-in-Plain t c =
    numbered_by c.args.node.now (λ rest. Plain c.in-Plain.instr rest) (instr_numbers c.in-Plain.instr) (λ rest. ap (λ z. node_before z rest) c.in-Plain.is ∙ before_plain c.in-Plain.instr rest) (λ rest. refl) c.in_ok-add_instr-in-Plain.ensures

pub add_node-returns-in_ok-add_test-in-Break : goal.add_node-returns-in_ok-add_test-in-Break
add_node-returns-in_ok-add_test-in-Break t c =
    numbered_by c.args.node.now (λ rest. Break c.in-Break.test rest) (test_numbers c.in-Break.test) (λ rest. ap (λ z. node_before z rest) c.in-Break.is ∙ before_break c.in-Break.test rest) (λ rest. refl) c.in_ok-add_test-in-Break.ensures

pub add_node-returns-in_ok-add_test-in-Continue : goal.add_node-returns-in_ok-add_test-in-Continue
add_node-returns-in_ok-add_test-in-Continue t c =
    numbered_by c.args.node.now (λ rest. Continue c.in-Continue.test rest) (test_numbers c.in-Continue.test) (λ rest. ap (λ z. node_before z rest) c.in-Continue.is ∙ before_continue c.in-Continue.test rest) (λ rest. refl) c.in_ok-add_test-in-Continue.ensures

pub add_node-returns-in_ok-add_test-in-Return : goal.add_node-returns-in_ok-add_test-in-Return
add_node-returns-in_ok-add_test-in-Return t c =
    numbered_by c.args.node.now (λ rest. Return c.in-Return.test rest) (test_numbers c.in-Return.test) (λ rest. ap (λ z. node_before z rest) c.in-Return.is ∙ before_return c.in-Return.test rest) (λ rest. refl) c.in_ok-add_test-in-Return.ensures

pub add_node-returns-in_ok-add_nodes-in-Loop : goal.add_node-returns-in_ok-add_nodes-in-Loop
add_node-returns-in_ok-add_nodes-in-Loop t c =
    let b = body_of c.in-Loop.body in
    numbered_by c.args.node.now (λ rest. Loop b rest) (body_numbers b) (λ rest. ap (λ z. node_before z rest) c.in-Loop.is ∙ before_loop c.in-Loop.body rest) (λ rest. refl)
    (c.in_ok-add_nodes-in-Loop.ensures ∙ ap (λ z. with_numbers c.args.numbers.now (body_numbers (body_of z))) c.as_slice-in-Loop.ensures)

pub add_node-returns-in_ok-add_nodes-in-If-2 : goal.add_node-returns-in_ok-add_nodes-in-If-2
add_node-returns-in_ok-add_nodes-in-If-2 t c =
    let first = body_of c.in-If.yes in
    let second = body_of c.in-If.no in
    let ws = test_numbers (Some c.in-If.test) in
    let old = c.args.numbers.now in
    let h1 = c.in_ok-add_all-in-If.ensures in
    let h2 = c.in_ok-add_nodes-in-If.ensures ∙ ap (λ z. with_numbers c.add_all.new.numbers (body_numbers (body_of z))) c.as_slice.ensures ∙ ap (λ z. with_numbers z (body_numbers first)) h1 in
    let h3 = c.in_ok-add_nodes-in-If-2.ensures ∙ ap (λ z. with_numbers c.add_nodes.new.numbers (body_numbers (body_of z))) c.as_slice-in-If.ensures ∙ ap (λ z. with_numbers z (body_numbers second)) h2 in
    let all = h3 ∙ sym (with_append ws (body_numbers first ++ body_numbers second) old ∙ with_append (body_numbers first) (body_numbers second) (with_numbers old ws)) in
    numbered_by c.args.node.now (λ rest. If c.in-If.test first second rest) (ws ++ (body_numbers first ++ body_numbers second)) (λ rest. ap (λ z. node_before z rest) c.in-If.is ∙ before_if c.in-If.test c.in-If.yes c.in-If.no rest)
    (λ rest. let z : ws ++ (body_numbers first ++ (body_numbers second ++ body_numbers rest)) ≡ (ws ++ (body_numbers first ++ body_numbers second)) ++ body_numbers rest = sym (append_assoc ws (body_numbers first ++ body_numbers second) (body_numbers rest) ∙ ap (λ x. ws ++ x) (append_assoc (body_numbers first) (body_numbers second) (body_numbers rest))) in z)
    all
