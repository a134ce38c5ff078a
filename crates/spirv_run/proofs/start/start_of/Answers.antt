use Rattle.std.proofs.Common.{sym, ap, ◌∙◌, refl, arith}
use Rattle.std.specs.Prelude.{slice_get}
use Rattle.spirv_run.specs.declared.step.Step.TheVariants as step
use Rattle.spirv_run.specs.Frames.{at_start}
use Rattle.spirv_run.proofs.Stepping.{left_none, left_more, step_there, step_below}
use Rattle.spirv_run.proofs.start.start_of.Goals as goal

pub keep-requires : goal.keep-requires
keep-requires c =
    let room = c.requires.room in
    let same = c.steps.invariant.results in
    let below = step_below c.args.steps.now c.steps.at step.Nothing (omega arith) in
    omega arith

pub steps-init : goal.steps-init
steps-init c = record {
  leave = λ words e. left_none words (at_start c.args.frame.now.begins) c.requires.begun;
  results = refl;
  variables = refl;
}

pub steps-preserved : goal.steps-preserved
steps-preserved c = record {
  leave = λ words e.
      left_more words c.steps.at _ (at_start c.steps.frame.begins) (at_start c.keep.new.frame.begins)
      (ap (λ z. slice_get z c.steps.at) (sym e) ∙ step_there c.args.steps.now c.steps.at _ (omega arith))
      (c.steps.invariant.leave words e) (c.keep.ensures.done c.if-not-keep.false);
  results = c.keep.ensures.results ∙ c.steps.invariant.results;
  variables = c.keep.ensures.variables ∙ c.steps.invariant.variables;
}
