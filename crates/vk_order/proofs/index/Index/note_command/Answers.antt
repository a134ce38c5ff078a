use Rattle.std.proofs.Common.{◌≡◌, ℕ, ◌+◌, ◌<◌, Some, slice_get, sym, subst, ◌∙◌, arith}
use Rattle.std.proofs.lemmas.Option.{slice_get_within}
use Rattle.vk_types.specs.declared.touch.Touch.{Touch}
use Rattle.vk_types.specs.Hazards.{touches}
use Rattle.vk_order.specs.declared.classes.Stages.{Stages}
use Rattle.vk_order.specs.declared.index.Index.{Index}
use Rattle.vk_order.specs.Index.{HasTouch, IndexGrew, IsSound}
use Rattle.vk_order.proofs.Noting.{index_more, index_same, touches_more, touches_end}
use Rattle.vk_order.proofs.index.Index.note_command.Goals as goal
use Rattle.vk_order.proofs.index.Index.note_command.Goals.{in-Some+in_ok-note_touch, in_default}

pub loop-i-init : goal.loop-i-init
loop-i-init c = record { sound = c.requires; grew = index_same c.args.self.now; noted = λ j t l. absurd (omega (arith, l)) }

pub loop-i-preserved : goal.loop-i-preserved
loop-i-preserved c =
    let old = c.loop-i.self in let new = c.match-touch_at.self in let s = c.stages_of-stages.result in let ts = touches c.args.c.now in let i = c.loop-i.i in let inv = c.loop-i.invariant in
    elim c.match-touch_at.branch [
      | in-Some+in_ok-note_touch w ↦
          let k = w.in_ok-note_touch.ensures in
          subst (λ (index : Index). record {
            sound : IsSound index;
            grew : IndexGrew c.args.self.now index;
            noted : (j : ℕ) (t : Touch) → j < i + 1 → slice_get ts j ≡ Some t → HasTouch index s t c.args.past c.args.finish;
          }) (sym w.self-is) (record {
            sound = k.sound;
            grew = index_more c.args.self.now old w.note_touch.new.self inv.grew k.grew;
            noted = touches_more old w.note_touch.new.self s ts i c.args.past c.args.finish w.in-Some.t (sym c.touch_at.ensures ∙ w.in-Some.is) k.grew k.noted inv.noted;
          })
      | in_default w ↦
          subst (λ (index : Index). record {
            sound : IsSound index;
            grew : IndexGrew c.args.self.now index;
            noted : (j : ℕ) (t : Touch) → j < i + 1 → slice_get ts j ≡ Some t → HasTouch index s t c.args.past c.args.finish;
          }) (sym w.self-is) (record {
            sound = inv.sound;
            grew = inv.grew;
            noted = touches_end old s ts i c.args.past c.args.finish (λ t e. w.in_default.not-Some t (c.touch_at.ensures ∙ e)) inv.noted;
          })
    ]

pub returns-clause-noted : goal.returns-clause-noted
returns-clause-noted c = λ j t e.
    let w = slice_get_within (touches c.args.c.now) j t e in let end = c.loop-i-test.false in let len = c.touch_count-i-end.ensures in
    subst (λ (s : Stages). HasTouch c.loop-i.self s t c.args.past c.args.finish) c.stages_of-stages.ensures (c.loop-i.invariant.noted j t (omega (arith, w, end, len)) e)
