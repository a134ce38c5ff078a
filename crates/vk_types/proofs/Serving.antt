-- What a barrier that serves a command gives: it orders the command before each command behind it, and shows what it wrote.
use Rattle.std.proofs.Common.{◌≡◌, ℕ, zero, suc, Bool, true, false, not, ◌&&◌, ◌||◌, List, [], ◌∷◌, ◌++◌, map, slice_get, Option, Some, None, refl, sym, ap, ◌∙◌, subst, ◌⊎◌, inl, inr}
use Rattle.std.specs.List.{list_any}
use Rattle.std.proofs.lemmas.Bool.{cases_Bool}
use Rattle.vk_types.specs.declared.access.Stage.{Stage}
use Rattle.vk_types.specs.declared.access.Stage.TheVariants as stage
use Rattle.vk_types.specs.declared.touch.Touch.{Touch}
use Rattle.vk_types.specs.declared.command.Command.{Command}
use Rattle.vk_types.specs.declared.command.Cond.{Cond}
use Rattle.vk_types.specs.declared.command.Groups.{Groups}
use Rattle.vk_types.specs.declared.command.Groups.TheVariants as groups
use Rattle.vk_types.specs.declared.command.SlotName.TheVariants as slot
use Rattle.vk_types.specs.declared.command.SlotName.{SlotName}
use Rattle.vk_types.specs.declared.command.SlotRange.{SlotRange}
use Rattle.vk_types.specs.declared.command.Work.{Work}
use Rattle.vk_types.specs.declared.command.Work.TheVariants as work
use Rattle.vk_types.specs.declared.op.Barrier.{Barrier}
use Rattle.vk_types.specs.declared.op.VkOp.{VkOp}
use Rattle.vk_types.specs.declared.op.VkOp.TheVariants as op
use Rattle.base_lemmas.specs.Lists.{all_pass}
use Rattle.vk_types.specs.Hazards.{touches, touch, read_access, write_access, read_write_access, work_touches, groups_touches, cond_touches, slot_touch, same_stage, has_write, touches_conflict}
use Rattle.vk_types.specs.Before.{access_at, names_stages_of, barrier_orders, op_orders}
use Rattle.vk_types.specs.Covered.{allowed_by, makes_visible, op_barrier, commands_visible, each_pair}
use Rattle.vk_types.specs.BarrierCauses.{writes_at, all_device}
use Rattle.vk_types.specs.Serving.{Serves, ServesOp}
use Rattle.vk_types.proofs.Order.{device_names}
use Rattle.base_lemmas.proofs.Scan.{scan_hit}

-- one of the operations is a barrier that serves the command
abbrev pub HasServing : Command → List VkOp → Type 0
HasServing c [] = ⊥
HasServing c (o ∷ os) = ServesOp c o ⊎ HasServing c os

-- one of these serves
pub serving_there : (c : Command) (mid : List VkOp) (i : ℕ) (o : VkOp) → slice_get mid i ≡ Some o → ServesOp c o → HasServing c mid
serving_there c [] i o e s = absurd (cc e)
serving_there c (p ∷ mid) zero o e s = let is : p ≡ o = cc e in inl (subst (ServesOp c) (sym is) s)
serving_there c (p ∷ mid) (suc i) o e s = inr (serving_there c mid i o e s)

or_true : (x : Bool) → (x || true) ≡ true
or_true true = refl
or_true false = refl

serving_orders : (c d : Command) (b : Barrier) → Serves c b → barrier_orders c d b ≡ true
serving_orders c d b g = ap (λ v. v && names_stages_of b.dest d) g.source ∙ ap (λ m. names_stages_of m d) g.dest ∙ device_names d

pub mid_orders : (c d : Command) (mid : List VkOp) → HasServing c mid → list_any (op_orders c d) mid ≡ true
mid_orders c d [] g = absurd g
mid_orders c d (o ∷ os) (inl g) = here o g
  where
    here : (o : VkOp) → ServesOp c o → list_any (op_orders c d) (o ∷ os) ≡ true
    here (op.HostWrite r call) g = absurd g
    here (op.Pipeline shader) g = absurd g
    here (op.Barrier b) g = ap (λ v. v || list_any (op_orders c d) os) (serving_orders c d b g)
    here (op.Command command) g = absurd g
    here (op.Submit k) g = absurd g
    here (op.Fence k) g = absurd g
    here (op.HostRead r call) g = absurd g
mid_orders c d (o ∷ os) (inr g) = ap (λ v. op_orders c d o || v) (mid_orders c d os g) ∙ or_true (op_orders c d o)

abbrev shows_both : Command → Command → Touch → Touch → Barrier → Bool
shows_both c d t u b = barrier_orders c d b && makes_visible t u b

mid_shows : (c d : Command) (t u : Touch) → writes_at t.stage c ≡ true → allowed_by (access_at (all_device read_write_access) u.stage) u.access ≡ true
    → (mid : List VkOp) → HasServing c mid → list_any (op_barrier (shows_both c d t u)) mid ≡ true
mid_shows c d t u wt al [] g = absurd g
mid_shows c d t u wt al (o ∷ os) (inl g) = here o g
  where
    here : (o : VkOp) → ServesOp c o → list_any (op_barrier (shows_both c d t u)) (o ∷ os) ≡ true
    here (op.HostWrite r call) g = absurd g
    here (op.Pipeline shader) g = absurd g
    here (op.Barrier b) g =
        ap (λ v. (v && makes_visible t u b) || list_any (op_barrier (shows_both c d t u)) os) (serving_orders c d b g)
        ∙ (ap (λ v. (v && allowed_by (access_at b.dest u.stage) u.access) || list_any (op_barrier (shows_both c d t u)) os) (g.shows t.stage wt)
        ∙ ap (λ v. v || list_any (op_barrier (shows_both c d t u)) os) (ap (λ m. allowed_by (access_at m u.stage) u.access) g.dest ∙ al))
    here (op.Command command) g = absurd g
    here (op.Submit k) g = absurd g
    here (op.Fence k) g = absurd g
    here (op.HostRead r call) g = absurd g
mid_shows c d t u wt al (o ∷ os) (inr g) = ap (λ v. op_barrier (shows_both c d t u) o || v) (mid_shows c d t u wt al os g) ∙ or_true (op_barrier (shows_both c d t u) o)

-- each touch that there is passes
pass_in : (p : Touch → Bool) (ts : List Touch) → ((t : Touch) (i : ℕ) → slice_get ts i ≡ Some t → p t ≡ true) → all_pass p ts ≡ true
pass_in p [] h = refl
pass_in p (t ∷ ts) h = ap (λ v. v && all_pass p ts) (h t zero refl) ∙ pass_in p ts (λ u i e. h u (suc i) e)

abbrev Shown : Touch → Type 0
Shown u = allowed_by (access_at (all_device read_write_access) u.stage) u.access ≡ true

shown_slots : (ss : List SlotRange) (u : Touch) (i : ℕ) → slice_get (map slot_touch ss) i ≡ Some u → Shown u
shown_slots [] u i e = absurd (cc e)
shown_slots (s ∷ ss) u zero e = let is : slot_touch s ≡ u = cc e in subst Shown is (one s.slot)
  where
    one : (n : SlotName) → let t : SlotRange = record { slot = n; range = s.range } in Shown (slot_touch t)
    one (slot.Constant i) = refl
    one (slot.Srv i) = refl
    one (slot.Uav i) = refl
shown_slots (s ∷ ss) u (suc i) e = shown_slots ss u i e

shown_cond : (k : Option Cond) (u : Touch) (i : ℕ) → slice_get (cond_touches k) i ≡ Some u → Shown u
shown_cond None u i e = absurd (cc e)
shown_cond (Some k) u zero e = let is : touch stage.Indirect read_access k.at ≡ u = cc e in subst Shown is refl
shown_cond (Some k) u (suc i) e = absurd (cc e)

shown_touch : (w : Work) (k : Option Cond) (u : Touch) (i : ℕ) → slice_get (work_touches w ++ cond_touches k) i ≡ Some u → Shown u
shown_touch (work.Copy source target) k u zero e = let is : touch stage.Transfer read_access source ≡ u = cc e in subst Shown is refl
shown_touch (work.Copy source target) k u (suc zero) e = let is : touch stage.Transfer write_access target ≡ u = cc e in subst Shown is refl
shown_touch (work.Copy source target) k u (suc (suc i)) e = shown_cond k u i e
shown_touch (work.Fill target word) k u zero e = let is : touch stage.Transfer write_access target ≡ u = cc e in subst Shown is refl
shown_touch (work.Fill target word) k u (suc i) e = shown_cond k u i e
shown_touch (work.Clear target words unit) k u zero e = let is : touch stage.Compute write_access target ≡ u = cc e in subst Shown is refl
shown_touch (work.Clear target words unit) k u (suc i) e = shown_cond k u i e
shown_touch (work.Dispatch shader counts slots) k u i e = by_groups counts i e
  where
    by_slots : (ss : List SlotRange) (i : ℕ) → slice_get (map slot_touch ss ++ cond_touches k) i ≡ Some u → Shown u
    by_slots [] i f = shown_cond k u i f
    by_slots (s ∷ ss) zero f = shown_slots (s ∷ []) u zero f
    by_slots (s ∷ ss) (suc i) f = by_slots ss i f

    by_groups : (g : Groups) (i : ℕ) → slice_get ((groups_touches g ++ map slot_touch slots) ++ cond_touches k) i ≡ Some u → Shown u
    by_groups (groups.Direct x y z) i f = by_slots slots i f
    by_groups (groups.Indirect at) zero f = let is : touch stage.Indirect read_access at ≡ u = cc f in subst Shown is refl
    by_groups (groups.Indirect at) (suc i) f = by_slots slots i f

pub all_visible : (c d : Command) (mid : List VkOp) → HasServing c mid → each_pair (commands_visible mid c d) (touches c) (touches d) ≡ true
all_visible c d mid g =
    pass_in (λ t. all_pass (commands_visible mid c d t) (touches d)) (touches c) (λ t i e.
    pass_in (commands_visible mid c d t) (touches d) (λ u j f. one t i e u j f))
  where
    one : (t : Touch) (i : ℕ) → slice_get (touches c) i ≡ Some t → (u : Touch) (j : ℕ) → slice_get (touches d) j ≡ Some u → commands_visible mid c d t u ≡ true
    one t i e u j f =
        elim (cases_Bool (has_write t.access)) [
          | inr n ↦ ap (λ v. not (v && touches_conflict t u) || list_any (op_barrier (shows_both c d t u)) mid) n
          | inl w ↦
              let there : writes_at t.stage c ≡ true = scan_hit (λ x. same_stage x.stage t.stage && has_write x.access) (touches c) i t e (ap (λ v. v && has_write t.access) (stage_self t.stage) ∙ w) in
              ap (λ v. not (has_write t.access && touches_conflict t u) || v) (mid_shows c d t u there (shown_touch d.work d.cond u j f) mid g)
              ∙ or_true (not (has_write t.access && touches_conflict t u))
        ]
      where
        stage_self : (s : Stage) → same_stage s s ≡ true
        stage_self stage.Indirect = refl
        stage_self stage.Compute = refl
        stage_self stage.Transfer = refl
        stage_self stage.Host = refl
