use Rattle.std.proofs.Common.{◌∙◌}
use Rattle.d3d_model.specs.Verdict.{query_is}
use Rattle.d3d_state.specs.Meaning.{objects_of}
use Rattle.d3d_lists.proofs.Begun.{any_begun}
use Rattle.d3d_checks.proofs.lists.begin_begun.Goals as goal

pub returns : goal.returns
returns c = c.any_begins.ensures ∙ any_begun (λ q. query_is (objects_of c.args.objects.now) q (λ s. s.begun)) c.args.calls.now
