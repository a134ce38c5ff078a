use Rattle.std.proofs.Common.{◌≡◌, ◌+◌, ◌-◌, drop, refl, sym, ap, ◌∙◌, arith}
use Rattle.spirv_model.specs.Meaning.ModuleMeaning.{runs}
use Rattle.spirv_run.specs.Held.{memory_of}
use Rattle.spirv_run.specs.Steps.{continued}
use Rattle.spirv_run.specs.Decoding.{ops_of}
use Rattle.spirv_run.proofs.Stepping.{round_step, round_stuck, for_kept, fits}
use Rattle.spirv_run.proofs.run.run_round.Goals as goal

pub act-requires-clause-results : goal.act-requires-clause-results
act-requires-clause-results c = fits c.args.table.now c.steps.place c.in-Some.step _ (sym c.in-Some.ensures.step) c.steps.invariant.room.results

pub act-requires-clause-variables : goal.act-requires-clause-variables
act-requires-clause-variables c = fits c.args.table.now c.steps.place c.in-Some.step _ (sym c.in-Some.ensures.step) c.steps.invariant.room.variables

pub steps-init : goal.steps-init
steps-init c = record {
  outcome = λ n.
      let same : c.args.most + n ≡ c.args.most - 0 + n = omega arith in
      ap (λ k. runs c.args.thread.now (ops_of c.args.table.now) k (drop c.args.start (ops_of c.args.table.now)) (memory_of c.args.frame.now c.args.slots.now.words)) same;
  around = refl;
  room = c.requires.room;
}

pub steps-preserved : goal.steps-preserved
steps-preserved c = record {
  outcome = λ n.
      c.steps.invariant.outcome n
      ∙ round_step c.args.table.now c.args.thread.now c.args.most c.steps._i n c.steps.place c.in-Some.step (memory_of c.steps.frame c.steps.slots.words) c.steps-test.true (sym c.in-Some.ensures.step)
      ∙ ap (continued (ops_of c.args.table.now) (runs c.args.thread.now (ops_of c.args.table.now) (c.args.most - (c.steps._i + 1) + n))) (sym c.in-On.ensures.outcome);
  around = c.in-On.ensures.around ∙ c.steps.invariant.around;
  room = for_kept c.steps.frame c.act.new.self c.args.table.now c.in-On.ensures.begins c.steps.invariant.room;
}

pub returns-in-Done : goal.returns-in-Done
returns-in-Done c = record {
  outcome = λ n.
      c.steps.invariant.outcome n
      ∙ round_step c.args.table.now c.args.thread.now c.args.most c.steps._i n c.steps.place c.in-Some.step (memory_of c.steps.frame c.steps.slots.words) c.steps-test.true (sym c.in-Some.ensures.step)
      ∙ ap (continued (ops_of c.args.table.now) (runs c.args.thread.now (ops_of c.args.table.now) (c.args.most - (c.steps._i + 1) + n))) (sym c.in-Done.ensures.outcome);
  around = c.in-Done.ensures.around ∙ c.steps.invariant.around;
  room = for_kept c.steps.frame c.act.new.self c.args.table.now c.in-Done.ensures.begins c.steps.invariant.room;
}

pub returns-in-Stuck : goal.returns-in-Stuck
returns-in-Stuck c = record {
  outcome = λ n.
      c.steps.invariant.outcome n
      ∙ round_step c.args.table.now c.args.thread.now c.args.most c.steps._i n c.steps.place c.in-Some.step (memory_of c.steps.frame c.steps.slots.words) c.steps-test.true (sym c.in-Some.ensures.step)
      ∙ ap (continued (ops_of c.args.table.now) (runs c.args.thread.now (ops_of c.args.table.now) (c.args.most - (c.steps._i + 1) + n))) (sym c.in-Stuck.ensures.outcome);
  around = c.in-Stuck.ensures.around ∙ c.steps.invariant.around;
  room = for_kept c.steps.frame c.act.new.self c.args.table.now c.in-Stuck.ensures.begins c.steps.invariant.room;
}

pub returns-in-None-clause-outcome : goal.returns-in-None-clause-outcome
returns-in-None-clause-outcome c =
    λ n. c.steps.invariant.outcome n
    ∙ round_stuck c.args.table.now c.args.thread.now (c.args.most - c.steps._i + n) c.steps.place (memory_of c.steps.frame c.steps.slots.words) (sym c.in-None.ensures.step)

pub returns-clause-outcome : goal.returns-clause-outcome
returns-clause-outcome c =
    λ n.
    let same : c.args.most - c.steps._i + n ≡ n = omega arith in
    c.steps.invariant.outcome n ∙ ap (λ k. runs c.args.thread.now (ops_of c.args.table.now) k (drop c.steps.place (ops_of c.args.table.now)) (memory_of c.steps.frame c.steps.slots.words)) same
