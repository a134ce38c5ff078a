use Rattle.std.proofs.Common.{◌≡◌, ℕ, zero, suc, ◌<◌, eqb, false, subst, sym, ◌∙◌, arith}
use Rattle.std.proofs.lemmas.Bool.{eqb-true}
use Rattle.vk_trace.proofs.Orders.{no_name, no_place, no_places, places_all}
use Rattle.vk_trace.proofs.order.read_order.Goals as goal

pub returns-in_default-clause-bad : goal.returns-in_default-clause-bad
returns-in_default-clause-bad c = no_name c.args.text.now c.new-words.result c.new-words.ensures c.in_default.ensures

pub returns-in_default-small-clause-bad : goal.returns-in_default-small-clause-bad
returns-in_default-small-clause-bad c = no_place c.args.text.now c.places.words c.places.places.items c.places.invariant c.in-None.ensures c.in_default-small.ensures

pub returns-then-is_empty-clause-bad : goal.returns-then-is_empty-clause-bad
returns-then-is_empty-clause-bad c =
    let none = eqb-true c.places.places.len 0 (sym c.is_empty.ensures ∙ c.if-is_empty.true) in
    no_places c.args.text.now c.places.words c.places.places.items c.places.invariant c.in_default-end.ensures (sym c.places.places.ok.0 ∙ none)

not_zero : (n : ℕ) → eqb n 0 ≡ false → 0 < n
not_zero zero e = absurd (cc e)
not_zero (suc n) e = omega arith

pub returns-clause-found : goal.returns-clause-found
returns-clause-found c =
    let some = not_zero c.places.places.len (sym c.is_empty.ensures ∙ c.if-is_empty.false) in
    places_all c.args.text.now c.places.words c.places.places.items c.places.invariant c.in_default-end.ensures (subst (λ n. 0 < n) c.places.places.ok.0 some)
