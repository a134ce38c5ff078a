-- The sets of stages say of two commands and a barrier between them what their stages say.
use Rattle.std.proofs.Common.{◌≡◌, ◌<◌, ◌≤◌, Bool, true, false, not, ◌&&◌, ◌||◌, List, [], ◌∷◌, refl, sym, ap, ◌∙◌, arith}
use Rattle.std.specs.List.{list_any}
use Rattle.vk_types.specs.declared.access.Mask.{Mask}
use Rattle.vk_types.specs.declared.access.Stage.TheVariants as stage
use Rattle.vk_types.specs.declared.command.Command as c
use Rattle.vk_types.specs.declared.op.VkOp.{VkOp}
use Rattle.vk_types.specs.declared.op.VkOp.TheVariants as op
use Rattle.vk_types.specs.Before.{names_stage, names_stages_of, op_orders}
use Rattle.vk_types.specs.Hazards.{has_stage}
use Rattle.command_queue.specs.declared.queue.Listed.{Listed}
use Rattle.command_queue.specs.Readiness.{is_command, is_ready_op, op_ordered, is_held_back}
use Rattle.command_queue.specs.StageSets.{digit, set_of, stage_set, is_named, names_set, op_orders_sets, op_holds_set, holds_set}

digit_small : (b : Bool) → digit b ≤ 1
digit_small true = omega arith
digit_small false = omega arith

pub set_small : (d : c.Command) → stage_set d < 16
set_small d =
    omega (arith, digit_small (has_stage d stage.Indirect), digit_small (has_stage d stage.Compute), digit_small (has_stage d stage.Transfer), digit_small (has_stage d stage.Host))

-- a stage is in the set by its place
four : (a b c d x y z w : Bool)
    → (((not a || x) && (not b || y)) && ((not c || z) && (not d || w)))
    ≡ ((is_named (set_of a b c d) 1 x && is_named (set_of a b c d) 2 y) && (is_named (set_of a b c d) 4 z && is_named (set_of a b c d) 8 w))
four true true true true x y z w = refl
four true true true false x y z w = refl
four true true false true x y z w = refl
four true true false false x y z w = refl
four true false true true x y z w = refl
four true false true false x y z w = refl
four true false false true x y z w = refl
four true false false false x y z w = refl
four false true true true x y z w = refl
four false true true false x y z w = refl
four false true false true x y z w = refl
four false true false false x y z w = refl
four false false true true x y z w = refl
four false false true false x y z w = refl
four false false false true x y z w = refl
four false false false false x y z w = refl

names_is : (m : Mask) (d : c.Command) → names_stages_of m d ≡ names_set m (stage_set d)
names_is m d =
    four (has_stage d stage.Indirect) (has_stage d stage.Compute) (has_stage d stage.Transfer) (has_stage d stage.Host)
    (names_stage m stage.Indirect) (names_stage m stage.Compute) (names_stage m stage.Transfer) (names_stage m stage.Host)

orders_is : (d e : c.Command) (o : VkOp) → op_orders_sets (stage_set d) (stage_set e) o ≡ op_orders d e o
orders_is d e (op.HostWrite r call) = refl
orders_is d e (op.Pipeline shader) = refl
orders_is d e (op.Barrier barrier) =
    ap (λ v. v && names_set barrier.dest (stage_set e)) (sym (names_is barrier.source d)) ∙ ap (λ v. names_stages_of barrier.source d && v) (sym (names_is barrier.dest e))
orders_is d e (op.Command command) = refl
orders_is d e (op.Submit k) = refl
orders_is d e (op.Fence k) = refl
orders_is d e (op.HostRead r call) = refl

pub any_same : {A : Type 0} (p q : A → Bool) → ((x : A) → p x ≡ q x) → (xs : List A) → list_any p xs ≡ list_any q xs
any_same p q same [] = refl
any_same p q same (x ∷ xs) = ap (λ v. v || list_any p xs) (same x) ∙ ap (λ v. q x || v) (any_same p q same xs)

ordered_is : (o : VkOp) (between : List Listed) (e : c.Command) → op_holds_set o between (stage_set e) ≡ op_ordered o between e
ordered_is (op.HostWrite r call) between e = refl
ordered_is (op.Pipeline shader) between e = refl
ordered_is (op.Barrier barrier) between e = refl
ordered_is (op.Command command) between e =
    any_same (λ (s : Listed). op_orders_sets (stage_set command) (stage_set e) s.op) (λ (s : Listed). op_orders command e s.op) (λ s. orders_is command e s.op) between
ordered_is (op.Submit k) between e = refl
ordered_is (op.Fence k) between e = refl
ordered_is (op.HostRead r call) between e = refl

-- a command is held back where its set of stages is
pub held_is : (steps : List Listed) (e : c.Command) → holds_set steps (stage_set e) ≡ is_held_back steps e
held_is [] e = refl
held_is (s ∷ ss) e =
    ap (λ v. (not s.ran && v) || holds_set ss (stage_set e)) (ordered_is s.op ss e) ∙ ap (λ v. (not s.ran && op_ordered s.op ss e) || v) (held_is ss e)

-- what is not left is not ready
pub not_ready_op : (front : List Listed) (o : VkOp) (ran : Bool) → (is_command o && not ran) ≡ false → is_ready_op front o ran ≡ false
not_ready_op front (op.HostWrite r call) ran e = refl
not_ready_op front (op.Pipeline shader) ran e = refl
not_ready_op front (op.Barrier barrier) ran e = refl
not_ready_op front (op.Command command) true e = refl
not_ready_op front (op.Command command) false e = absurd (cc e)
not_ready_op front (op.Submit k) ran e = refl
not_ready_op front (op.Fence k) ran e = refl
not_ready_op front (op.HostRead r call) ran e = refl
