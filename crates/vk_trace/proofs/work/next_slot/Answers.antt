use Rattle.std.proofs.Common.{◌∷◌, List, ℕ, ap, ◌∙◌}
use Rattle.vk_trace.proofs.Works.{first_slot, next_is, none_next, slot_may_stand, next_read}
use Rattle.vk_trace.proofs.work.next_slot.Goals as goal

pub returns-in_err-range : goal.returns-in_err-range
returns-in_err-range c =
    none_next c.args.least _ _ _ c.from_residual.ensures
    (λ ss more good none e.
    let seen = c.in-Some.ensures.1 ∙ ap (λ (w : List ℕ). w ∷ c.in-Some.ensures.0) c.in-Some-slot_name.ensures.1 in
    let is = next_is (λ w. w.now) c.next.result _ _ _ _ c.next.ensures seen in
    let p = first_slot c.args.least c.in-Some-slot_name.slot _ _ more ss c.in-Some-slot_name.ensures.0 is good none e in
    c.in_err-range.ensures p.first.range _ p.range p.spelled)

pub returns-then-not-may_stand : goal.returns-then-not-may_stand
returns-then-not-may_stand c =
    λ ss more good none e.
    let seen = c.in-Some.ensures.1 ∙ ap (λ (w : List ℕ). w ∷ c.in-Some.ensures.0) c.in-Some-slot_name.ensures.1 in
    let is = next_is (λ w. w.now) c.next.result _ _ _ _ c.next.ensures seen in
    c.if-not-may_stand.ensures (slot_may_stand c.args.least _ _ _ more _ ss c.in-Some-slot_name.ensures.0 is c.in_ok-range.ensures.0 c.in_ok-range.ensures.1 good none e)

pub returns : goal.returns
returns c =
    let seen = c.in-Some.ensures.1 ∙ ap (λ (w : List ℕ). w ∷ c.in-Some.ensures.0) c.in-Some-slot_name.ensures.1 in
    let is = next_is (λ w. w.now) c.next.result _ _ _ _ c.next.ensures seen in
    next_read c.args.least _ _ _ _ c.in-Some-slot_name.ensures.0 is c.in_ok-range.ensures.0 c.in_ok-range.ensures.1 c.if-not-may_stand.ensures
