use Rattle.std.proofs.Common.{◌≡◌, ℕ, ◌+◌, ◌-◌, ◌≤◌, List, length, ap, subst, ◌∙◌, arith}
use Rattle.std.proofs.lemmas.List.{take_all}
use Rattle.call_log.specs.Grammar.{calls_of}
use Rattle.d3d_plan.specs.Planned.{Planned}
use Rattle.d3d_plan.proofs.Entries.{length-plan_of}
use Rattle.pipe_cache.specs.Created.{AreTables, created}
use Rattle.pipe_cache.proofs.Tables.{no_tables}
use Rattle.pipe_cache.proofs.cache.Cache.new.Goals as goal

pub each_call-init : goal.each_call-init
each_call-init c = no_tables _ _ _ c.new-calls.ensures.items c.new-cells.ensures.items

pub add_created-requires-clause-before : goal.add_created-requires-clause-before
add_created-requires-clause-before c =
    let back : c.each_call.i ≡ c.each_call.i + 1 - 1 = omega arith in
    subst (λ (k : ℕ). AreTables c.args.plan.now k c.each_call.calls.items c.each_call.cells.items) back c.each_call.invariant

pub returns : goal.returns
returns c =
    let long : length c.args.plan.now ≡ length c.args.log.now.frames = ap (λ (p : List Planned). length p) c.requires ∙ length-plan_of (calls_of c.args.log.now.frames) (length c.args.log.now.frames) in
    let all : length c.args.plan.now ≤ c.each_call.i = omega (arith, long, c.count-i-end.ensures.count, c.each_call-test.false) in
    c.each_call.invariant.made ∙ ap (λ (p : List Planned). created p) (take_all c.each_call.i c.args.plan.now all)
