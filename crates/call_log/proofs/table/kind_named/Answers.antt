use Rattle.std.proofs.Common.{ℕ, ◌≡◌, ◌∙◌, List, length, ap, sym, subst, arith}
use Rattle.call_log.specs.Kinds.{Kind, kind_view, kind_numbered, numbers_of_length}
use Rattle.call_log.proofs.KindTable.{IsListed, has_number, listed}
use Rattle.call_log.proofs.table.kind_named.Goals as goal

pub returns : goal.returns
returns c =
    λ number (k : Kind) is e.
    let numbers : List ℕ = c.numbers_of_length-number-items.result.now in
    let same : numbers_of_length (length k.name) ≡ numbers = ap (λ (l : List ℕ). numbers_of_length (length l)) e ∙ sym c.numbers_of_length-number-items.ensures in
    let at : IsListed number numbers = subst (IsListed number) same (listed number k is) in
    c.numbers.invariant at.place k (omega (arith, at.inside)) (ap kind_numbered at.is ∙ is) e

pub returns-in-Some : goal.returns-in-Some
returns-in-Some c =
    let there = c.in-Some.ensures in
    (ap kind_numbered (has_number _ (kind_view c.in-Some.kind) there.0) ∙ there.0, there.1)
