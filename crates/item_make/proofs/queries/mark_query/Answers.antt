use Rattle.std.proofs.Common.{sym, ◌∙◌}
use Rattle.std.proofs.lemmas.Result.{on_ok_weaker}
use Rattle.base_lemmas.specs.IdMap as ids
use Rattle.core_model.specs.Script.{Mark_query, Set_state}
use Rattle.d3d_state.specs.Meaning.{objects_of}
use Rattle.log_script.specs.Plays.{counts_invocations}
use Rattle.item_make.proofs.Played.{if_play, else_play}
use Rattle.item_make.proofs.queries.mark_query.Goals as goal

pub returns-then-counts_invocations : goal.returns-then-counts_invocations
returns-then-counts_invocations c =
    on_ok_weaker c.mark_query.result
    (λ made. λ part script p m h.
    if_play part script c.args.call p _ _ m (counts_invocations (ids.get (objects_of c.args.objects.now).queries c.args.query))
    (Mark_query c.args.query c.args.begins) Set_state (sym c.counts_invocations.ensures ∙ c.if-counts_invocations.true)
    (h.0, made part m h.0 h.1))
    c.mark_query.ensures

pub returns : goal.returns
returns c = λ part script p m h.
    else_play part script c.args.call p _ _ m (counts_invocations (ids.get (objects_of c.args.objects.now).queries c.args.query))
    (Mark_query c.args.query c.args.begins) Set_state (sym c.counts_invocations.ensures ∙ c.if-counts_invocations.false) h
