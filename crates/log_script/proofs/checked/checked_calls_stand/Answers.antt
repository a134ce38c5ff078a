use Rattle.d3d_model.specs.InOrder.{before_call}
use Rattle.log_script.proofs.Owed.StandingCalls.{accepted_stands, lists_stand}
use Rattle.log_script.proofs.Owed.WholeViews.{whole_views}
use Rattle.log_script.proofs.checked.checked_calls_stand.Goals as goal

pub returns : goal.returns
returns c = record {
  accepted = λ log n i at e. accepted_stands (before_call log n) i e;
  open_lists = λ log n x. (lists_stand log n).opened x;
  live_lists = λ log n id cs e. (lists_stand log n).listed id cs e;
  views = λ log n id v e. whole_views log n id v e;
}
