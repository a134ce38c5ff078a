use Rattle.std.proofs.Common.{◌≡◌}
use Rattle.call_log.specs.Grammar.{calls_of, start_behind}
use Rattle.d3d_model.specs.InOrder.{after_calls}
use Rattle.d3d_plan.specs.Planned.{place_behind, plan_of}
use Rattle.d3d_plan.specs.Shown.{Shows}
use Rattle.d3d_plan.specs.Stands.{Stands}
use Rattle.d3d_plan.proofs.make.plan_calls.Given as goal

abbrev pub invariant-calls : goal.invariant-calls
invariant-calls l = record {
  stands : Stands (after_calls (calls_of l.log.frames) l.i) l.planner.objects l.planner.kept;
  shows : Shows l.planner.entries.items l.planner.kept.tables (plan_of (calls_of l.log.frames) l.i);
  place : place_behind (calls_of l.log.frames) l.i ≡ start_behind l.log.frames l.i;
}
