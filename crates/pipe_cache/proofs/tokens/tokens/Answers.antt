use Rattle.std.proofs.Common.{sym, ap, ◌∙◌}
use Rattle.call_log.specs.View.{call_view, frame_view}
use Rattle.d3d_model.proofs.Calls.{call_none, call_some}
use Rattle.pipe_cache.specs.Created.{tokens_by}
use Rattle.pipe_cache.proofs.tokens.tokens.Goals as goal

pub returns-in-Some : goal.returns-in-Some
returns-in-Some c =
    c.tokens_of.ensures
    ∙ ap tokens_by (sym (call_some c.args.log.now.frames c.args.n (frame_view c.in-Some.item) (call_view c.call.result) c.in-Some.ensures.record c.call.ensures))

pub returns-in-None : goal.returns-in-None
returns-in-None c = ap tokens_by (sym (call_none c.args.log.now.frames c.args.n c.in-None.ensures.record))
