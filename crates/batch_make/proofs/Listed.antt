-- The commands among operations, the least that writes a block, and ranges without a block's.
use Rattle.std.proofs.Common.{◌≡◌, ℕ, Bool, true, false, cond, not, ◌==◌, min, List, [], ◌∷◌, ◌++◌, Option, Some, None}
use Rattle.std.proofs.Common.{refl, ap, ◌∙◌, arith}
use Rattle.std.specs.List.{filter}
use Rattle.dx_types.specs.declared.range.Range.{Range}
use Rattle.vk_types.specs.declared.command.Command.{Command}
use Rattle.vk_types.specs.declared.op.Barrier.{Barrier}
use Rattle.vk_types.specs.declared.op.VkOp.{VkOp}
use Rattle.vk_types.specs.declared.op.VkOp.TheVariants as op
use Rattle.vk_types.specs.BarrierCauses.{lesser, least_writer, writes_block, maybe_barrier}
use Rattle.core_model.specs.Adding.{without_block}
use Rattle.batch_make.specs.Making.{commands_in}

pub commands_append : (xs ys : List VkOp) → commands_in (xs ++ ys) ≡ commands_in xs ++ commands_in ys
commands_append [] ys = refl
commands_append (op.HostWrite r call ∷ xs) ys = commands_append xs ys
commands_append (op.Pipeline shader ∷ xs) ys = commands_append xs ys
commands_append (op.Barrier barrier ∷ xs) ys = commands_append xs ys
commands_append (op.Command command ∷ xs) ys = ap (λ l. command ∷ l) (commands_append xs ys)
commands_append (op.Submit k ∷ xs) ys = commands_append xs ys
commands_append (op.Fence k ∷ xs) ys = commands_append xs ys
commands_append (op.HostRead r call ∷ xs) ys = commands_append xs ys

one_command : (b : Option Barrier) (d : Command) → commands_in (maybe_barrier b ++ op.Command d ∷ []) ≡ d ∷ []
one_command None d = refl
one_command (Some b) d = refl

-- one more command, behind its barrier
pub listed_more : (ops : List VkOp) (listed : List Command) (b : Option Barrier) (d : Command)
    → commands_in ops ≡ listed → commands_in (ops ++ (maybe_barrier b ++ op.Command d ∷ [])) ≡ listed ++ d ∷ []
listed_more ops listed b d e =
    commands_append ops (maybe_barrier b ++ op.Command d ∷ []) ∙ ap (λ l. commands_in ops ++ l) (one_command b d)
    ∙ ap (λ l. l ++ d ∷ []) e

lesser_none : (o : Option ℕ) → lesser o None ≡ o
lesser_none None = refl
lesser_none (Some n) = refl

lesser_assoc : (a b c : Option ℕ) → lesser (lesser a b) c ≡ lesser a (lesser b c)
lesser_assoc None b c = refl
lesser_assoc (Some a) None c = refl
lesser_assoc (Some a) (Some b) None = refl
lesser_assoc (Some a) (Some b) (Some c) = let e : min (min a b) c ≡ min a (min b c) = omega arith in ap Some e

abbrev writer_in : (ℕ → Bool) → List VkOp → Option ℕ
writer_in blocks ops = least_writer blocks (commands_in ops)

-- one more operation is looked at
pub least_step : (blocks : ℕ → Bool) (least : Option ℕ) (o : VkOp) (ops : List VkOp)
    → lesser (lesser least (writer_in blocks (o ∷ []))) (writer_in blocks ops)
    ≡ lesser least (writer_in blocks (o ∷ ops))
least_step blocks least (op.HostWrite r call) ops = ap (λ l. lesser l (writer_in blocks ops)) (lesser_none least)
least_step blocks least (op.Pipeline shader) ops = ap (λ l. lesser l (writer_in blocks ops)) (lesser_none least)
least_step blocks least (op.Barrier barrier) ops = ap (λ l. lesser l (writer_in blocks ops)) (lesser_none least)
least_step blocks least (op.Command command) ops =
    let here = cond (writes_block blocks command) (Some command.number) None in
    ap (λ o. lesser (lesser least o) (writer_in blocks ops)) (lesser_none here)
    ∙ lesser_assoc least here (writer_in blocks ops)
least_step blocks least (op.Submit k) ops = ap (λ l. lesser l (writer_in blocks ops)) (lesser_none least)
least_step blocks least (op.Fence k) ops = ap (λ l. lesser l (writer_in blocks ops)) (lesser_none least)
least_step blocks least (op.HostRead r call) ops = ap (λ l. lesser l (writer_in blocks ops)) (lesser_none least)

pub kept_ranges : (block : ℕ) (rs : List Range) → filter (λ r. not (r.block == block)) rs ≡ without_block (Some block) rs
kept_ranges block [] = refl
kept_ranges block (r ∷ rs) = one (r.block == block) ∙ ap (λ l. cond (r.block == block) l (r ∷ l)) (kept_ranges block rs)
  where
    one : (b : Bool) → cond (not b) (r ∷ filter (λ r. not (r.block == block)) rs) (filter (λ r. not (r.block == block)) rs)
        ≡ cond b (filter (λ r. not (r.block == block)) rs) (r ∷ filter (λ r. not (r.block == block)) rs)
    one true = refl
    one false = refl
