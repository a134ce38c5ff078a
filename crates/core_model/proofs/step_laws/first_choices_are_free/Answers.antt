use Rattle.core_model.proofs.Runs.Choices.{step_free, core_free, run_free, any_length}
use Rattle.core_model.proofs.step_laws.first_choices_are_free.Goals as goal

pub returns : goal.returns
returns c = record { step = step_free; core_step = core_free; run = run_free; pages = any_length }
