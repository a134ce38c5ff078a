-- The flags as a step passes, by what its operation is; and one set of stages more.
use Rattle.std.proofs.Common.{◌≡◌, ℕ, zero, suc, ◌+◌, ◌-◌, ◌<◌, ◌≤◌, Bool, true, false, cond, not, ◌&&◌, ◌||◌, List, [], ◌∷◌, ◌++◌, length, get_or, set, replicate, Some, None, refl, sym, ap, subst, ◌∙◌, inl, inr, arith}
use Rattle.std.specs.Prelude.{◌==◌, nat_lt}
use Rattle.std.specs.List.{list_any}
use Rattle.std.proofs.lemmas.Bool.{cases_eq, cases_lt, eq-eqb, ne_eqb, lt-ltb, le-ltb, or_parts}
use Rattle.std.proofs.lemmas.List.{get_or-set_same, get_or-set_other, get_or-replicate, length-replicate, length-set}
use Rattle.base_lemmas.specs.Lists.{numbers_from}
use Rattle.vk_types.specs.declared.access.Mask.{Mask}
use Rattle.vk_types.specs.declared.command.Command as c
use Rattle.vk_types.specs.declared.op.Barrier.{Barrier}
use Rattle.vk_types.specs.declared.op.VkOp.{VkOp}
use Rattle.vk_types.specs.declared.op.VkOp.TheVariants as op
use Rattle.command_queue.specs.declared.queue.Listed.{Listed}
use Rattle.command_queue.specs.Readiness.{barrier_of, command_of, is_command, is_held_back, is_left, is_ready, is_ready_op, left_command}
use Rattle.command_queue.specs.StageSets.{stage_set, names_set, is_left_set_op, waits, op_orders_sets, op_holds_set, holds_set, some_waits, Stands}
use Rattle.command_queue.proofs.Sets.{set_small, held_is, not_ready_op}
use Rattle.command_queue.proofs.Flags.{no_set, stands_other, stands_command, stands_barrier}

-- One set more, of those that a mask names or holds back ------------------------------------------------------------------------

pub named_more : (p : ℕ → Bool) (set : ℕ) → set < 16 → list_any p (numbers_from set (16 - set)) ≡ (p set || list_any p (numbers_from (set + 1) (16 - (set + 1))))
named_more p set lt =
    let e : 16 - set ≡ suc (16 - (set + 1)) = omega (arith, lt) in
    let f : suc set ≡ set + 1 = omega arith in
    ap (λ n. list_any p (numbers_from set n)) e ∙ ap (λ n. p set || list_any p (numbers_from n (16 - (set + 1)))) f

-- of the sets before one the flags are as they end, of the others as they were
pub record HoldsBelow (m : Mask) (old : List Bool) (below : ℕ) (hs : List Bool) : Type 0 where
  pub wide : length hs ≡ 16
  pub flags : (k : ℕ) → k < 16 → get_or hs k false ≡ cond (nat_lt k below) (get_or old k false || names_set m k) (get_or old k false)

pub holds_begin : (m : Mask) (old : List Bool) → length old ≡ 16 → HoldsBelow m old 0 old
holds_begin m old wide = record {
  wide = wide;
  flags = λ k lt. sym (ap (λ v. cond v (get_or old k false || names_set m k) (get_or old k false)) (le-ltb k 0 (omega arith)));
}

pub holds_more : (m : Mask) (old : List Bool) (at : ℕ) (hs new : List Bool) → at < 16 → new ≡ set hs at (get_or hs at false || names_set m at)
    → HoldsBelow m old at hs → HoldsBelow m old (at + 1) new
holds_more m old at hs new lt is h = record {
  wide = ap length is ∙ length-set hs at (get_or hs at false || names_set m at) ∙ h.wide;
  flags = λ k small. elim (cases_eq k at) [
    | inl e ↦
        ap (λ l. get_or l k false) is ∙ ap (λ n. get_or (set hs at (get_or hs at false || names_set m at)) n false) e
        ∙ get_or-set_same hs at (get_or hs at false || names_set m at) false (let wide = h.wide in omega (arith, wide, lt))
        ∙ ap (λ v. v || names_set m at) (h.flags at lt ∙ ap (λ v. cond v (get_or old at false || names_set m at) (get_or old at false)) (le-ltb at at (omega arith)))
        ∙ ap (λ n. get_or old n false || names_set m n) (sym e)
        ∙ sym (ap (λ v. cond v (get_or old k false || names_set m k) (get_or old k false)) (lt-ltb k (at + 1) (omega (arith, e))))
    | inr ne ↦
        ap (λ l. get_or l k false) is ∙ get_or-set_other hs at k (get_or hs at false || names_set m at) false ne
        ∙ h.flags k small ∙ ap (λ v. cond v (get_or old k false || names_set m k) (get_or old k false)) (same k ne)
  ];
}
  where
    same : (k : ℕ) → (k ≡ at → ⊥) → nat_lt k at ≡ nat_lt k (at + 1)
    same k ne = elim (cases_lt k at) [
      | inl l ↦ lt-ltb k at l ∙ sym (lt-ltb k (at + 1) (omega (arith, l)))
      | inr g ↦ le-ltb k at g ∙ sym (le-ltb k (at + 1) (above k ne g))
    ]
      where
        above : (k : ℕ) → (k ≡ at → ⊥) → at ≤ k → at + 1 ≤ k
        above k ne g = elim (cases_lt at k) [ inl l ↦ omega (arith, l) | inr ge ↦ absurd (ne (omega (arith, g, ge))) ]

pub holds_all : (m : Mask) (old : List Bool) (at : ℕ) (hs : List Bool) → 16 ≤ at → HoldsBelow m old at hs
    → (k : ℕ) → k < 16 → get_or hs k false ≡ (get_or old k false || names_set m k)
holds_all m old at hs le h k lt =
    h.flags k lt ∙ ap (λ v. cond v (get_or old k false || names_set m k) (get_or old k false)) (lt-ltb k at (omega (arith, le, lt)))

-- By what an operation is --------------------------------------------------------------------------------------------------------

op_left : (o : VkOp) (ran : Bool) (d : c.Command) → cond ran None (command_of o) ≡ Some d → (o ≡ op.Command d) × (ran ≡ false)
op_left o true d e = absurd (cc e)
op_left (op.HostWrite r call) false d e = absurd (cc e)
op_left (op.Pipeline shader) false d e = absurd (cc e)
op_left (op.Barrier barrier) false d e = absurd (cc e)
op_left (op.Command command) false d e = (ap (λ x. op.Command x) (let same : command ≡ d = cc e in same), refl)
op_left (op.Submit k) false d e = absurd (cc e)
op_left (op.Fence k) false d e = absurd (cc e)
op_left (op.HostRead r call) false d e = absurd (cc e)

op_not_left : (o : VkOp) (ran : Bool) → cond ran None (command_of o) ≡ None → (is_command o && not ran) ≡ false
op_not_left (op.HostWrite r call) ran e = refl
op_not_left (op.Pipeline shader) ran e = refl
op_not_left (op.Barrier barrier) ran e = refl
op_not_left (op.Command command) true e = refl
op_not_left (op.Command command) false e = absurd (cc e)
op_not_left (op.Submit k) ran e = refl
op_not_left (op.Fence k) ran e = refl
op_not_left (op.HostRead r call) ran e = refl

op_barrier : (o : VkOp) (b : Barrier) → barrier_of o ≡ Some b → o ≡ op.Barrier b
op_barrier (op.HostWrite r call) b e = absurd (cc e)
op_barrier (op.Pipeline shader) b e = absurd (cc e)
op_barrier (op.Barrier barrier) b e = ap (λ x. op.Barrier x) (let same : barrier ≡ b = cc e in same)
op_barrier (op.Command command) b e = absurd (cc e)
op_barrier (op.Submit k) b e = absurd (cc e)
op_barrier (op.Fence k) b e = absurd (cc e)
op_barrier (op.HostRead r call) b e = absurd (cc e)

op_no_barrier : (o : VkOp) → barrier_of o ≡ None → (first set : ℕ) → op_orders_sets first set o ≡ false
op_no_barrier (op.HostWrite r call) e first set = refl
op_no_barrier (op.Pipeline shader) e first set = refl
op_no_barrier (op.Barrier barrier) e first set = absurd (cc e)
op_no_barrier (op.Command command) e first set = refl
op_no_barrier (op.Submit k) e first set = refl
op_no_barrier (op.Fence k) e first set = refl
op_no_barrier (op.HostRead r call) e first set = refl

pub command_ready : (front : List Listed) (s : Listed) (d : c.Command) (ws hs : List Bool) → left_command s ≡ Some d → Stands front ws hs
    → not (get_or hs (stage_set d) false) ≡ is_ready front s
command_ready front s d ws hs is h =
    let p = op_left s.op s.ran d is in
    ap not (h.held (stage_set d) (set_small d) ∙ held_is front d)
    ∙ sym (ap (λ o. is_ready_op front o s.ran) p.0 ∙ ap (λ r. not r && not (is_held_back front d)) p.1)

pub command_stands : (front : List Listed) (s : Listed) (d : c.Command) (ws hs vs gs : List Bool) → left_command s ≡ Some d → vs ≡ set ws (stage_set d) true → gs ≡ hs
    → Stands front ws hs → Stands (front ++ s ∷ []) vs gs
command_stands front s d ws hs vs gs is waits_now held_now h =
    let p = op_left s.op s.ran d is in
    subst (λ l. Stands (front ++ s ∷ []) l gs) (sym waits_now)
    (subst (λ l. Stands (front ++ s ∷ []) (set ws (stage_set d) true) l) (sym held_now) (stands_command front s d ws hs p.0 p.1 h))

pub barrier_stands : (front : List Listed) (s : Listed) (b : Barrier) (ws hs vs gs : List Bool) → barrier_of s.op ≡ Some b → vs ≡ ws → length gs ≡ 16
    → ((k : ℕ) → k < 16 → get_or gs k false ≡ (get_or hs k false || (some_waits ws b.source && names_set b.dest k)))
    → Stands front ws hs → Stands (front ++ s ∷ []) vs gs
barrier_stands front s b ws hs vs gs is waits_now wide now h =
    subst (λ l. Stands (front ++ s ∷ []) l gs) (sym waits_now) (stands_barrier front s b ws hs gs (op_barrier s.op b is) wide now h)

pub other_stands : (front : List Listed) (s : Listed) (ws hs : List Bool) → left_command s ≡ None → barrier_of s.op ≡ None → Stands front ws hs → Stands (front ++ s ∷ []) ws hs
other_stands front s ws hs no_command no_barrier h =
    stands_other front s ws hs (λ set. no_set s.op s.ran set (op_not_left s.op s.ran no_command)) (op_no_barrier s.op no_barrier) h

pub other_ready : (front : List Listed) (s : Listed) → left_command s ≡ None → false ≡ is_ready front s
other_ready front s no_command = sym (not_ready_op front s.op s.ran (op_not_left s.op s.ran no_command))

pub barrier_ready : (front : List Listed) (s : Listed) (b : Barrier) → barrier_of s.op ≡ Some b → false ≡ is_ready front s
barrier_ready front s b is = sym (ap (λ o. is_ready_op front o s.ran) (op_barrier s.op b is))
