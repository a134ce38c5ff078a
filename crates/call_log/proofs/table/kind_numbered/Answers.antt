use Rattle.std.proofs.Common.{ℕ, ◌≡◌, ◌-◌, Option, slice_get, ap, sym, ◌∙◌}
use Rattle.call_log.specs.Kinds.{Kind, kind_view, kinds, before}
use Rattle.call_log.proofs.KindTable.{found_none, found_other, found_there}
use Rattle.call_log.proofs.table.kind_numbered.Goals as goal

-- the place that was looked at
looked : (n b p : ℕ) (o : Option Kind) → b ≡ before n → p ≡ n - b → o ≡ slice_get kinds p → slice_get kinds (n - before n) ≡ o
looked n b p o is at e = ap (λ (m : ℕ). slice_get kinds (n - m)) (sym is) ∙ ap (slice_get kinds) (sym at) ∙ sym e

pub returns-in_default : goal.returns-in_default
returns-in_default c = sym (found_none c.args.number (looked c.args.number _ _ _ c.before-2.ensures c.saturating_sub-place.ensures c.in_default.ensures))

pub returns-then-kind-number : goal.returns-then-kind-number
returns-then-kind-number c = sym (found_other c.args.number (kind_view c.in-Some.kind) (looked c.args.number _ _ _ c.before-2.ensures c.saturating_sub-place.ensures c.in-Some.ensures) c.if-kind-number.true)

pub returns : goal.returns
returns c = sym (found_there c.args.number (kind_view c.in-Some.kind) (looked c.args.number _ _ _ c.before-2.ensures c.saturating_sub-place.ensures c.in-Some.ensures) c.if-kind-number.false)
