use Rattle.std.proofs.Common.{◌≡◌, ◌≤◌, List, slice_get, sym, ap, subst, ◌∙◌}
use Rattle.std.specs.Vec.{with_items}
use Rattle.std.proofs.lemmas.List.{with_items_is}
use Rattle.vk_order.specs.declared.turns.Row.{Row}
use Rattle.vk_order.specs.Turns.{IsReadied, RowsGrew}
use Rattle.vk_order.proofs.Rows.{ready_less}
use Rattle.vk_order.proofs.turns.Turns.note_barrier.Goals as goal

pub returns-clause-rows : goal.returns-clause-rows
returns-clause-rows c =
    let old = c.args.self.now in let new = c.make_ready.new.rows in
    let is : (with_items old.rows new).items ≡ new = with_items_is old.rows new (c.make_ready.ensures.grew.len ∙ c.deref_mut.ensures.len) in
    subst (λ (rs : List Row). RowsGrew old.rows.items rs) (sym is) (subst (λ (rs : List Row). RowsGrew rs new) c.deref_mut.ensures.value c.make_ready.ensures.grew)

pub returns-clause-ready : goal.returns-clause-ready
returns-clause-ready c = λ i row e named.
    let old = c.args.self.now in let new = c.make_ready.new.rows in let b = c.args.b.now in
    let is : (with_items old.rows new).items ≡ new = with_items_is old.rows new (c.make_ready.ensures.grew.len ∙ c.deref_mut.ensures.len) in
    let le : row.latest ≤ c.named_rank-named.result = c.named_rank-named.ensures i row (ap (λ ls. slice_get ls i) c.deref.ensures.value ∙ e) named in
    subst (λ (rs : List Row). IsReadied rs b row.latest) (sym is) (ready_less new b c.named_rank-named.result row.latest le c.make_ready.ensures.ready)
