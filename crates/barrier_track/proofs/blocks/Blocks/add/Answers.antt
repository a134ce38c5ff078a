use Rattle.std.proofs.Common.{ℕ, true, refl, sym, ap, subst, ◌∙◌}
use Rattle.std.specs.Prelude.{IsSome, OnErr}
use Rattle.std.specs.BTreeMap.{BTreeMap}
use Rattle.std.proofs.lemmas.Result.{on_ok_weaker, on_err_weaker}
use Rattle.barrier_track.specs.Bytes.{Ranges, Blocks, ranges_if, AddsIf, KeepsBytes}
use Rattle.barrier_track.proofs.PerBlock.{adds_range, keeps_range}
use Rattle.barrier_track.proofs.blocks.Blocks.add.Goals as goal

pub returns-in-Some-clause-added : goal.returns-in-Some-clause-added
returns-in-Some-clause-added c = on_ok_weaker c.add.result (λ adds.
    let es = c.self.inside.ranges.entries in
    let new = c.add.new.self in
    let fs = (c.get_mut.follows.lender new).entries in
    let found = c.in-Some.ensures.value in
    let puts = (c.get_mut.follows.holds new).3 (subst IsSome found refl) in
    subst (λ (bs : Blocks). AddsIf true bs c.args.range.now fs) c.self.view_is
    (adds_range es fs c.args.range.now c.in-Some.ranges.now new (sym (ap ranges_if found)) adds puts.0)
    ) c.add.ensures.added

pub returns-in-Some-clause-same : goal.returns-in-Some-clause-same
returns-in-Some-clause-same c = on_err_weaker c.add.result (λ same.
    let es = c.self.inside.ranges.entries in
    let new = c.add.new.self in
    let fs = (c.get_mut.follows.lender new).entries in
    let found = c.in-Some.ensures.value in
    let puts = (c.get_mut.follows.holds new).3 (subst IsSome found refl) in
    subst (λ (bs : Blocks). KeepsBytes bs fs) c.self.view_is
    (keeps_range es fs c.args.range.now.block c.in-Some.ranges.now new (sym (ap ranges_if found)) same puts.0)
    ) c.add.ensures.same

pub returns-in-None-clause-same : goal.returns-in-None-clause-same
returns-in-None-clause-same c =
    let before = ap (λ (m : BTreeMap ℕ Ranges). m.entries) c.get_mut.follows.holds-at-none ∙ c.self.view_is in
    subst (λ (bs : Blocks). OnErr c.add_first.result (KeepsBytes bs c.add_first.new.self)) before
    c.add_first.ensures.same
