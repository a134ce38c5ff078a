use Rattle.d3d_model.specs.Binding.{default_bindings}
use Rattle.d3d_model.specs.D3dState.{context_of}
use Rattle.d3d_model.specs.InOrder.{after_calls}
use Rattle.log_script.proofs.Owed.FittingCalls.{default_fits}
use Rattle.log_script.proofs.Owed.FittingStates.{context_fits}
use Rattle.log_script.proofs.Owed.FittingLogs.{state_fits, list_fits, bound_fits_in}
use Rattle.log_script.specs.Fitting.{ViewsApart}
use Rattle.log_script.proofs.Owed.ContextsHave.{of_context}
use Rattle.log_script.proofs.Owed.ViewsApart.{default_apart, set_apart, all_apart}
use Rattle.log_script.proofs.fitting.bound_bytes_live_and_fit.Goals as goal

pub returns : goal.returns
returns c = record {
  bound = bound_fits_in;
  set = λ log n x. (context_fits (after_calls log n).objects x (state_fits log n)).set;
  open_lists = λ log n x.
      let o = (after_calls log n).objects in
      list_fits o default_bindings (context_of o x).recorded (state_fits log n) (default_fits o)
      (context_fits o x (state_fits log n)).calls;
  live_lists = λ log n id cs e.
      let o = (after_calls log n).objects in
      list_fits o default_bindings cs (state_fits log n) (default_fits o) ((state_fits log n).lists id cs e);
  views = λ log n id v e. ((state_fits log n).views id v e).fits;
  apart = λ log n x. of_context ViewsApart default_apart set_apart (after_calls log n).objects x (all_apart log n);
  buffers = λ log n id s e. ((state_fits log n).buffers id s e).byte;
}
