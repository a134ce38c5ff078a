use Rattle.std.proofs.Common.{List, [], ◌∷◌, ◌++◌, sym, ap, ◌∙◌}
use Rattle.std.proofs.lemmas.List.{set-get_or}
use Rattle.std.proofs.lemmas.Result.{on_err_weaker, on_ok_weaker}
use Rattle.d3d_model.specs.D3dState.{Numbered}
use Rattle.d3d_lists.specs.Calls.{numbered}
use Rattle.d3d_lists.specs.Opened.{recorded_at, recorded_in}
use Rattle.d3d_lists.proofs.Tables.{recorded_at-get, recorded_in-set}
use Rattle.d3d_lists.proofs.lists.push_at.Goals as goal

pub returns-clause-pushed : goal.returns-clause-pushed
returns-clause-pushed c =
    let opened = c.args.opened.now in
    let x = c.args.context in
    on_ok_weaker c.push.result
    (λ e. recorded_in-set opened x c.push.new.self (recorded_at opened x ++ numbered c.args.call ∷ [])
    (e ∙ ap (λ (cs : List Numbered). cs ++ numbered c.args.call ∷ []) (sym (recorded_at-get opened x c.index-opened-context.result c.requires))))
    c.push.ensures.pushed

pub returns-clause-unchanged : goal.returns-clause-unchanged
returns-clause-unchanged c =
    let opened = c.args.opened.now in
    let x = c.args.context in
    on_err_weaker c.push.result
    (λ e. recorded_in-set opened x c.push.new.self (recorded_at opened x) (e ∙ sym (recorded_at-get opened x c.index-opened-context.result c.requires))
    ∙ set-get_or (recorded_in opened) x [])
    c.push.ensures.unchanged
