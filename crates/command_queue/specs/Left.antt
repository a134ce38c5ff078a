-- The commands that are left to run, and what they do to memory one after another.
use Rattle.std.specs.Prelude.{◌≡◌, ℕ, zero, suc, Bool, true, false, List, [], ◌∷◌, ◌++◌}
use Rattle.std.specs.List.{AllByRecursion, list_any}
use Rattle.dx_types.specs.declared.range.Range.{Range}
use Rattle.vk_types.specs.declared.command.Command as c
use Rattle.vk_types.specs.declared.op.VkOp.{VkOp}
use Rattle.vk_types.specs.declared.op.VkOp.TheVariants as op
use Rattle.vk_types.specs.Memory.{Memory, number_at, put}
use Rattle.vk_types.specs.Effects.{Meaning, effect}
use Rattle.vk_types.specs.Before.{op_orders}
use Rattle.vk_types.specs.Hazards.{conflict, lists_conflict, touches, host_write_touch}
use Rattle.command_queue.specs.declared.queue.Listed.{Listed}

-- a command that was not run
abbrev pub left_op : VkOp → Bool → List c.Command
left_op (op.HostWrite r call) ran = []
left_op (op.Pipeline shader) ran = []
left_op (op.Barrier barrier) ran = []
left_op (op.Command command) true = []
left_op (op.Command command) false = command ∷ []
left_op (op.Submit k) ran = []
left_op (op.Fence k) ran = []
left_op (op.HostRead r call) ran = []

-- the commands that were not run, in order
abbrev pub left : List Listed → List c.Command
left [] = []
left (s ∷ ss) = left_op s.op s.ran ++ left ss

-- the commands run one after another
abbrev pub run_commands : Meaning → List c.Command → Memory → Memory
run_commands meaning [] m = m
run_commands meaning (d ∷ ds) m = run_commands meaning ds (effect meaning d m)

-- the host writes bytes to ranges, one after another
abbrev pub put_all : List (Range × List ℕ) → Memory → Memory
put_all [] m = m
put_all (w ∷ ws) m = put_all ws (put w.0 (number_at w.1) m)

-- if both are commands that are left, and conflict, a barrier that stands between them orders them
abbrev pub Guarded : Listed → List Listed → Listed → Type 0
Guarded s between t = (d e : c.Command) → s.op ≡ op.Command d → s.ran ≡ false → t.op ≡ op.Command e → t.ran ≡ false
    → conflict d e ≡ true → list_any (λ b. op_orders d e b.op) between ≡ true

abbrev pub GuardsFrom : Listed → List Listed → List Listed → Type 0
GuardsFrom s between [] = Unit {0}
GuardsFrom s between (t ∷ ts) = Guarded s between t × GuardsFrom s (between ++ t ∷ []) ts

-- each two conflicting commands that are left are ordered by a barrier that stands between them
abbrev pub HazardsHold : List Listed → Type 0
HazardsHold [] = Unit {0}
HazardsHold (s ∷ ss) = GuardsFrom s [] ss × HazardsHold ss

-- no command touches a byte that the host writes
abbrev pub LeftApart : List c.Command → List (Range × List ℕ) → Type 0
LeftApart ds ws = AllByRecursion (λ d. AllByRecursion (λ w. lists_conflict (touches d) (host_write_touch w.0 ∷ []) ≡ false) ws) ds

-- the step at a place was run
abbrev pub ran_one : Listed → Listed
ran_one s = record s { ran = true }

abbrev pub marked : ℕ → List Listed → List Listed
marked place [] = []
marked zero (s ∷ ss) = ran_one s ∷ ss
marked (suc place) (s ∷ ss) = s ∷ marked place ss
