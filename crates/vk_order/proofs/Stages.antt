-- The stages of a command: those of its work, and that of a condition.
use Rattle.std.proofs.Common.{◌≡◌, ℕ, Bool, true, false, not, ◌&&◌, ◌||◌, List, [], ◌∷◌, ◌++◌, map, Option, Some, None, refl, sym, ap, ◌∙◌}
use Rattle.std.specs.Prelude.{is_some}
use Rattle.std.specs.List.{list_any}
use Rattle.std.proofs.lemmas.List.Folds.{list_any-append}
use Rattle.vk_types.specs.declared.access.Stage.{Stage}
use Rattle.vk_types.specs.declared.access.Stage.TheVariants as stage
use Rattle.vk_types.specs.declared.touch.Touch.{Touch}
use Rattle.vk_types.specs.declared.command.Cond.{Cond}
use Rattle.vk_types.specs.declared.command.Command.{Command}
use Rattle.vk_types.specs.declared.command.Groups.{Groups}
use Rattle.vk_types.specs.declared.command.Groups.TheVariants as groups
use Rattle.vk_types.specs.declared.command.SlotRange.{SlotRange}
use Rattle.vk_types.specs.declared.command.Work.{Work}
use Rattle.vk_types.specs.declared.command.Work.TheVariants as work
use Rattle.vk_types.specs.Hazards.{cond_touches, groups_touches, has_stage, is_dispatch, same_stage, slot_touch, work_touches}
use Rattle.vk_order.specs.declared.classes.Stages.{Stages}
use Rattle.vk_order.specs.Classes.{is_computed, is_counted, is_indirect, stages_of}

-- a touch is at this stage
abbrev is_at : Stage → Touch → Bool
is_at s t = same_stage t.stage s

-- slots are touched as a shader runs, at no other stage
slots_elsewhere : (s : Stage) (slots : List SlotRange) → same_stage stage.Compute s ≡ false → list_any (is_at s) (map slot_touch slots) ≡ false
slots_elsewhere s [] e = refl
slots_elsewhere s (r ∷ slots) e = ap (λ b. b || list_any (is_at s) (map slot_touch slots)) e ∙ slots_elsewhere s slots e

slots_behind : (s : Stage) (g : Groups) (slots : List SlotRange) → same_stage stage.Compute s ≡ false
    → list_any (is_at s) (groups_touches g ++ map slot_touch slots) ≡ list_any (is_at s) (groups_touches g)
slots_behind s (groups.Direct x y z) slots e = slots_elsewhere s slots e
slots_behind s (groups.Indirect at) slots e = ap (λ b. same_stage stage.Indirect s || b) (slots_elsewhere s slots e)

or_true : (a : Bool) → (a || true) ≡ true
or_true true = refl
or_true false = refl

or_false : (a : Bool) → (a || false) ≡ a
or_false true = refl
or_false false = refl

turn : (a b d : Bool) → ((a || b) || d) ≡ ((a || d) || b)
turn true b d = refl
turn false true true = refl
turn false true false = refl
turn false false true = refl
turn false false false = refl

-- ---- a work

-- the work has the stage, whatever decides whether it is done
abbrev works_at : Work → Stage → Bool
works_at w s = list_any (is_at s) (work_touches w) || (is_dispatch w && same_stage stage.Compute s)

at_no_counts : (s : Stage) (g : Groups) → same_stage stage.Indirect s ≡ false → list_any (is_at s) (groups_touches g) ≡ false
at_no_counts s (groups.Direct x y z) e = refl
at_no_counts s (groups.Indirect at) e = ap (λ b. b || false) e

dispatch_elsewhere : (s : Stage) (shader : ℕ) (g : Groups) (slots : List SlotRange) → same_stage stage.Compute s ≡ false → same_stage stage.Indirect s ≡ false
    → works_at (work.Dispatch shader g slots) s ≡ false
dispatch_elsewhere s shader g slots e i =
    ap (λ b. list_any (is_at s) (groups_touches g ++ map slot_touch slots) || b) e
    ∙ (or_false (list_any (is_at s) (groups_touches g ++ map slot_touch slots)) ∙ (slots_behind s g slots e ∙ at_no_counts s g i))

counted : (g : Groups) → list_any (is_at stage.Indirect) (groups_touches g) ≡ is_counted g
counted (groups.Direct x y z) = refl
counted (groups.Indirect at) = refl

computed : (w : Work) → works_at w stage.Compute ≡ is_computed w
computed (work.Copy source target) = refl
computed (work.Fill target word) = refl
computed (work.Clear target words unit) = refl
computed (work.Dispatch shader g slots) = or_true (list_any (is_at stage.Compute) (groups_touches g ++ map slot_touch slots))

transferred : (w : Work) → works_at w stage.Transfer ≡ not (is_computed w)
transferred (work.Copy source target) = refl
transferred (work.Fill target word) = refl
transferred (work.Clear target words unit) = refl
transferred (work.Dispatch shader g slots) = dispatch_elsewhere stage.Transfer shader g slots refl refl

not_of_host : (w : Work) → works_at w stage.Host ≡ false
not_of_host (work.Copy source target) = refl
not_of_host (work.Fill target word) = refl
not_of_host (work.Clear target words unit) = refl
not_of_host (work.Dispatch shader g slots) = dispatch_elsewhere stage.Host shader g slots refl refl

indirect : (w : Work) → works_at w stage.Indirect ≡ is_indirect w
indirect (work.Copy source target) = refl
indirect (work.Fill target word) = refl
indirect (work.Clear target words unit) = refl
indirect (work.Dispatch shader g slots) =
    or_false (list_any (is_at stage.Indirect) (groups_touches g ++ map slot_touch slots)) ∙ (slots_behind stage.Indirect g slots refl ∙ counted g)

-- ---- a command

cond_indirect : (o : Option Cond) → list_any (is_at stage.Indirect) (cond_touches o) ≡ is_some o
cond_indirect None = refl
cond_indirect (Some c) = refl

cond_elsewhere : (s : Stage) (o : Option Cond) → same_stage stage.Indirect s ≡ false → list_any (is_at s) (cond_touches o) ≡ false
cond_elsewhere s None e = refl
cond_elsewhere s (Some c) e = ap (λ b. b || false) e

by_parts : (c : Command) (s : Stage) → has_stage c s ≡ (works_at c.work s || list_any (is_at s) (cond_touches c.cond))
by_parts c s =
    ap (λ b. b || (is_dispatch c.work && same_stage stage.Compute s)) (list_any-append (is_at s) (work_touches c.work) (cond_touches c.cond))
    ∙ turn (list_any (is_at s) (work_touches c.work)) (list_any (is_at s) (cond_touches c.cond)) (is_dispatch c.work && same_stage stage.Compute s)

other_is : (c : Command) (s : Stage) → same_stage stage.Indirect s ≡ false → has_stage c s ≡ works_at c.work s
other_is c s e = by_parts c s ∙ (ap (λ b. works_at c.work s || b) (cond_elsewhere s c.cond e) ∙ or_false (works_at c.work s))

pub same_stages : (c : Command) (first compute : Bool) → first ≡ (is_indirect c.work || is_some c.cond) → compute ≡ is_computed c.work
    → ◌≡◌ {A = Stages} (record { indirect = first; compute = compute; transfer = not compute; host = false }) (stages_of c)
same_stages c first compute f k =
    let a : first ≡ has_stage c stage.Indirect = f ∙ sym (by_parts c stage.Indirect
    ∙ (ap (λ b. b || list_any (is_at stage.Indirect) (cond_touches c.cond)) (indirect c.work) ∙ ap (λ b. is_indirect c.work || b) (cond_indirect c.cond))) in
    let b : compute ≡ has_stage c stage.Compute = k ∙ sym (other_is c stage.Compute refl ∙ computed c.work) in
    let t : not compute ≡ has_stage c stage.Transfer = ap not k ∙ sym (other_is c stage.Transfer refl ∙ transferred c.work) in
    let h : false ≡ has_stage c stage.Host = sym (other_is c stage.Host refl ∙ not_of_host c.work) in
    λ j. record { indirect = a j; compute = b j; transfer = t j; host = h j }
