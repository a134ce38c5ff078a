use Rattle.std.proofs.Common.{◌≡◌, ◌+◌, refl, sym, ap, ◌∙◌, ℕ, length}
use Rattle.std.proofs.lemmas.Result.{on_ok_weaker}
use Rattle.vk_types.specs.Memory.{range}
use Rattle.log_script.specs.Makers.{maker, of_maker, bytes_from}
use Rattle.log_script.specs.Plays.{staged}
use Rattle.item_make.proofs.Calls.{stages_range}
use Rattle.item_make.proofs.Played.{plays_as}
use Rattle.item_make.proofs.plays.update.Goals as goal

pub returns : goal.returns
returns c =
    on_ok_weaker c.stage.result
    (λ made. λ part script past o after m bytes spells long places names h.
    let place = c.args.place.now in
    let predicate = c.args.set.now.predicate in
    let target = bytes_from past c.args.res c.args.offset (length bytes) in
    let to : of_maker past c.target_of-target.result ≡ target =
    ap (of_maker past) c.target_of-target.ensures
    ∙ ap (λ (n : ℕ). range (maker past c.args.res) c.args.offset (c.args.offset + n)) (sym long) in
    plays_as part script place.call place _ _ m (staged past predicate bytes (of_maker past c.target_of-target.result))
    (staged past predicate bytes target) (ap (staged past predicate bytes) to)
    (made part script past place m bytes predicate spells long refl
    (stages_range script past predicate bytes target place m.blocks after places)
    c.skips.ensures (c.condition-cond.ensures past m.blocks names) names h))
    c.stage.ensures
