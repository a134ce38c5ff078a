use Rattle.std.proofs.Common.{◌≡◌, ℕ, ◌+◌, List, ap, subst, sym, ◌∙◌, arith}
use Rattle.query_pool.specs.declared.sums.Sum.{Sum}
use Rattle.query_pool.specs.Asked.{Asked, counted_more, invocations_between, invocations_of, part_between}
use Rattle.query_pool.specs.Running.{AllFit, Climbs, below, counts_from, placed, raised_from}
use Rattle.query_pool.proofs.Counting.{all_more, between_more}
use Rattle.query_pool.proofs.Placing.{count_climbs, count_is, keys_rise, placed_fits}
use Rattle.query_pool.proofs.queries.Queries.count.Goals as goal

pub raise_from-requires : goal.raise_from-requires
raise_from-requires c =
    let k = c.args.command in let n = c.args.invocations in let xs = c.self.inside.sums.items in
    let same = ap (λ (a : Asked). invocations_of a.counts) c.self.view_is in
    let room = c.requires in
    subst (AllFit n) (sym c.in_ok-place.ensures.ok) (placed_fits 0 0 k n xs c.self.invariant.1 (omega (arith, same, room)))

pub invariant_of-self-2 : goal.invariant_of-self-2
invariant_of-self-2 c =
    let k = c.args.command in let n = c.args.invocations in let xs = c.self.inside.sums.items in
    let at : c.below-at.result ≡ below k xs = c.below-at.ensures ∙ ap (λ (l : List Sum). below k l) c.deref.ensures.value in
    let all : c.raise_from.new.sums.items ≡ raised_from n (below k xs) (placed k 0 xs) =
    c.raise_from.ensures ∙ ap (λ (i : ℕ). raised_from n i c.place.new.sums.items) at ∙ ap (λ (l : List Sum). raised_from n (below k xs) l) c.in_ok-place.ensures.ok in
    let counts : counts_from 0 c.raise_from.new.sums.items ≡ counted_more (counts_from 0 xs) k n = ap (λ (l : List Sum). counts_from 0 l) all ∙ count_is 0 0 k n xs c.self.invariant.1 in
    let total = ap (λ (l : List (ℕ × ℕ)). invocations_of l) counts ∙ all_more (counts_from 0 xs) k n (keys_rise 0 0 xs c.self.invariant.1) in
    let same = ap (λ (a : Asked). invocations_of a.counts) c.self.view_is in
    let room = c.requires in let was = c.self.invariant.3 in
    (c.self.invariant.0, subst (λ (l : List Sum). Climbs 0 0 l) (sym all) (count_climbs 0 0 k n xs (omega arith) c.self.invariant.1), omega (arith, total, same, room), omega (arith, total, was))

pub returns-clause-ok : goal.returns-clause-ok
returns-clause-ok c =
    let k = c.args.command in let n = c.args.invocations in let xs = c.self.inside.sums.items in
    let at : c.below-at.result ≡ below k xs = c.below-at.ensures ∙ ap (λ (l : List Sum). below k l) c.deref.ensures.value in
    let all : c.raise_from.new.sums.items ≡ raised_from n (below k xs) (placed k 0 xs) =
    c.raise_from.ensures ∙ ap (λ (i : ℕ). raised_from n i c.place.new.sums.items) at ∙ ap (λ (l : List Sum). raised_from n (below k xs) l) c.in_ok-place.ensures.ok in
    let counts : counts_from 0 c.raise_from.new.sums.items ≡ counted_more (counts_from 0 xs) k n = ap (λ (l : List Sum). counts_from 0 l) all ∙ count_is 0 0 k n xs c.self.invariant.1 in
    let asked : List (ℕ × ℕ) → Asked = λ cs. record { begun = c.self.inside.begun.entries; ended = c.self.inside.ended.items; counts = cs } in
    ap asked counts ∙ ap (λ (a : Asked). record a { counts = counted_more a.counts k n }) c.self.view_is

pub returns-clause-between : goal.returns-clause-between
returns-clause-between c =
    let k = c.args.command in let n = c.args.invocations in let xs = c.self.inside.sums.items in
    let at : c.below-at.result ≡ below k xs = c.below-at.ensures ∙ ap (λ (l : List Sum). below k l) c.deref.ensures.value in
    let all : c.raise_from.new.sums.items ≡ raised_from n (below k xs) (placed k 0 xs) =
    c.raise_from.ensures ∙ ap (λ (i : ℕ). raised_from n i c.place.new.sums.items) at ∙ ap (λ (l : List Sum). raised_from n (below k xs) l) c.in_ok-place.ensures.ok in
    let counts : counts_from 0 c.raise_from.new.sums.items ≡ counted_more (counts_from 0 xs) k n = ap (λ (l : List Sum). counts_from 0 l) all ∙ count_is 0 0 k n xs c.self.invariant.1 in
    λ from to.
    ap (λ (l : List (ℕ × ℕ)). invocations_between from to l) counts ∙ between_more (counts_from 0 xs) k n (keys_rise 0 0 xs c.self.invariant.1) from to
    ∙ ap (λ (a : Asked). invocations_between from to a.counts + part_between from to (k, n)) c.self.view_is

pub returns-clause-all : goal.returns-clause-all
returns-clause-all c =
    let k = c.args.command in let n = c.args.invocations in let xs = c.self.inside.sums.items in
    let at : c.below-at.result ≡ below k xs = c.below-at.ensures ∙ ap (λ (l : List Sum). below k l) c.deref.ensures.value in
    let all : c.raise_from.new.sums.items ≡ raised_from n (below k xs) (placed k 0 xs) =
    c.raise_from.ensures ∙ ap (λ (i : ℕ). raised_from n i c.place.new.sums.items) at ∙ ap (λ (l : List Sum). raised_from n (below k xs) l) c.in_ok-place.ensures.ok in
    let counts : counts_from 0 c.raise_from.new.sums.items ≡ counted_more (counts_from 0 xs) k n = ap (λ (l : List Sum). counts_from 0 l) all ∙ count_is 0 0 k n xs c.self.invariant.1 in
    ap (λ (l : List (ℕ × ℕ)). invocations_of l) counts ∙ all_more (counts_from 0 xs) k n (keys_rise 0 0 xs c.self.invariant.1)
    ∙ ap (λ (a : Asked). invocations_of a.counts + n) c.self.view_is
