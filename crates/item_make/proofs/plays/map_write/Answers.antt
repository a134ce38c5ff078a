use Rattle.std.proofs.Common.{◌≡◌, ◌+◌, refl, sym, ap, ◌∙◌, subst, ℕ, length}
use Rattle.std.proofs.lemmas.Result.{on_ok_weaker}
use Rattle.vk_types.specs.Memory.{range}
use Rattle.core_model.specs.Script.{Play, Discard, No_overwrite}
use Rattle.core_model.specs.Succession.{PlacesPlay}
use Rattle.d3d_model.specs.Binding as binding
use Rattle.log_script.specs.Makers.{maker, of_maker, bytes_from}
use Rattle.log_script.specs.Plays.{maps, staged}
use Rattle.item_make.proofs.Calls.{map_discards, map_keeps, map_stages, stages_range}
use Rattle.item_make.proofs.Played.{plays_as}
use Rattle.item_make.proofs.plays.map_write.Goals as goal

pub returns-then-mode-eq-MAP_DISCARD-clause-made : goal.returns-then-mode-eq-MAP_DISCARD-clause-made
returns-then-mode-eq-MAP_DISCARD-clause-made c =
    on_ok_weaker c.discard.result
    (λ made. λ part script past after m bytes spells long alone places names h.
    let place = c.args.place.now in
    let zero = c.if-mode-eq-MAP_DISCARD.true in
    plays_as part script place.call place _ _ m (Discard (maker past c.args.res) c.from.result bytes)
    (maps past c.args.res c.args.mode c.args.offset bytes)
    (ap (λ (n : ℕ). Discard (maker past c.args.res) n bytes) c.from.ensures
    ∙ sym (map_discards past c.args.res c.args.mode c.args.offset bytes zero))
    (made part script place.call (maker past c.args.res) bytes place m c.in-Some.is (alone zero).0 spells long h))
    c.discard.ensures.made

pub returns-then-mode-eq-MAP_NO_OVERWRITE-clause-made : goal.returns-then-mode-eq-MAP_NO_OVERWRITE-clause-made
returns-then-mode-eq-MAP_NO_OVERWRITE-clause-made c =
    on_ok_weaker c.overwrite_none.result
    (λ made. λ part script past after m bytes spells long alone places names h.
    let place = c.args.place.now in
    plays_as part script place.call place _ _ m
    (No_overwrite (maker past c.args.res) c.from-then-mode-eq-MAP_NO_OVERWRITE.result bytes)
    (maps past c.args.res c.args.mode c.args.offset bytes)
    (ap (λ (n : ℕ). No_overwrite (maker past c.args.res) n bytes) c.from-then-mode-eq-MAP_NO_OVERWRITE.ensures
    ∙ sym (map_keeps past c.args.res c.args.mode c.args.offset bytes c.if-mode-eq-MAP_NO_OVERWRITE.true))
    (made part script past place.call bytes place m _ spells long names h))
    c.overwrite_none.ensures

pub returns-clause-made : goal.returns-clause-made
returns-clause-made c =
    on_ok_weaker c.stage.result
    (λ made. λ part script past after m bytes spells long alone places names h.
    let place = c.args.place.now in
    let target = bytes_from past c.args.res c.args.offset (length bytes) in
    let to : of_maker past c.target_of-target.result ≡ target =
    ap (of_maker past) c.target_of-target.ensures
    ∙ ap (λ (n : ℕ). range (maker past c.args.res) c.args.offset (c.args.offset + n)) (sym long) in
    let is = map_stages past c.args.res c.args.mode c.args.offset bytes c.if-mode-eq-MAP_DISCARD.false
    c.if-mode-eq-MAP_NO_OVERWRITE.false in
    let moved = subst (λ (x : Play). PlacesPlay script x place m.blocks after) is places in
    plays_as part script place.call place _ _ m (staged past binding.Never bytes (of_maker past c.target_of-target.result))
    (maps past c.args.res c.args.mode c.args.offset bytes) (ap (staged past binding.Never bytes) to ∙ sym is)
    (made part script past place m bytes binding.Never spells long refl
    (stages_range script past binding.Never bytes target place m.blocks after moved) refl refl names h))
    c.stage.ensures
