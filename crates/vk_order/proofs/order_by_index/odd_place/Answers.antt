use Rattle.std.proofs.Common.{◌≡◌, ◌+◌, Bool, true, false, not, ◌&&◌, List, length, take, get_or, Some, slice_get, sym, ap, subst, ◌∙◌, below_more, arith}
use Rattle.std.proofs.Math.ListN.{set}
use Rattle.std.specs.Vec.{with_items}
use Rattle.std.proofs.lemmas.List.{length-set, with_items_is}
use Rattle.std.proofs.lemmas.Option.{slice_get-get_or, slice_get_past}
use Rattle.vk_order.specs.Order.{is_act_in, is_new_at, is_new_in}
use Rattle.vk_order.proofs.Marks.{AreMarks, marks_more, new_at}
use Rattle.vk_order.proofs.order_by_index.odd_place.Goals as goal

pub loop-at-preserved : goal.loop-at-preserved
loop-at-preserved c =
    let ops = c.args.ops.now in let order = c.args.order.now in let at = c.loop-at.at in let old = c.loop-at.marks in let new = c.mark.new.marks in let inv = c.loop-at.invariant in
    let place = get_or order at 0 in
    let there : slice_get order at ≡ Some place = slice_get-get_or order at 0 c.loop-at-test.true in
    let act : is_act_in (slice_get ops place) ≡ true = sym c.is_act_at.ensures ∙ c.if-not-is_act_at.false in
    let plain : get_or old.items place false ≡ false = ap (λ (ms : List Bool). get_or ms place false) (sym c.deref.ensures.value) ∙ (sym c.is_marked.ensures ∙ c.if-is_marked.false) in
    let here : is_new_at ops order at ≡ true =
    new_at ops order old.items at place inv.marks there ∙ (ap (λ b. b && not (get_or old.items place false)) act ∙ ap not plain) in
    let marked : new ≡ set old.items place true = c.mark.ensures ∙ ap (λ (ms : List Bool). set ms place true) c.deref_mut.ensures.value in
    let len : length new ≡ length old.items = ap length marked ∙ length-set old.items place true in
    let is : (with_items old new).items ≡ new = with_items_is old new (len ∙ sym old.ok.0) in
    record {
      marks = subst (λ (ms : List Bool). AreMarks ops (take (at + 1) order) ms) (sym (is ∙ marked)) (marks_more ops order old.items at place inv.marks there);
      new = below_more _ _ inv.new here;
    }

pub returns : goal.returns
returns c =
    let ops = c.args.ops.now in let order = c.args.order.now in let test = c.loop-at-test.false in
    record {
      within = omega arith;
      new = λ i l. c.loop-at.invariant.new i (omega (arith, l, test));
      odd = ap (is_new_in ops (take (length order) order)) (slice_get_past order (length order) (omega arith));
    }
