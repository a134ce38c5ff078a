-- A small log with a query that counts, and what its run gives.
use Rattle.std.specs.Prelude.{◌≡◌, ℕ, ◌*◌, true, false, List, [], ◌∷◌, Some, None}
use Rattle.vk_types.specs.declared.command.Groups.TheVariants as groups
use Rattle.vk_types.specs.declared.command.Work.{Work}
use Rattle.vk_types.specs.declared.command.Work.TheVariants as work
use Rattle.vk_types.specs.declared.op.VkOp.{VkOp}
use Rattle.vk_types.specs.declared.op.VkOp.TheVariants as op
use Rattle.vk_types.specs.Memory.{number_at}
use Rattle.vk_types.specs.Effects.{Meaning}
use Rattle.core_model.specs.Script.{Command, Create_shader, Mark_query, Set_state, Count, Asked, Item, Script}
use Rattle.core_model.specs.CoreState.{Core, Value_said, End_said}
use Rattle.core_model.specs.Runs.{IsRun}
use Rattle.core_model.specs.WorkedLogs.{command, run_order}

-- each group of a dispatch has one invocation, which writes nothing
abbrev pub count_groups : Meaning
count_groups = record {
  words = λ shader groups slots u. [];
  count =
      λ shader counts. number_at counts 0 * (number_at counts 1 * number_at counts 2);
}

-- so many groups of the shader that call 1 creates
abbrev pub dispatched : ℕ → Work
dispatched x = work.Dispatch 1 (groups.Direct x 1 1) []

-- a shader and a query are created; one dispatch stands between the query's Begin and its End, and another behind them
abbrev pub one_query : Script
one_query = record {
  turns =
      Item 1 1 true Create_shader []
      ∷ Item 2 2 true Set_state []
      ∷ Item 3 3 true (Mark_query 2 true) []
      ∷ Item 4 4 true (Command (dispatched 2) None) []
      ∷ Item 5 5 true (Mark_query 2 false) []
      ∷ Item 6 6 true (Command (dispatched 3) None) []
      ∷ Asked 7 (Count 2) (Some 5) false
      ∷ [];
  calls = 7;
  size = λ r. 0;
  class = λ r. None;
  is_staging = λ r. false;
}

abbrev pub one_query_ops : List VkOp
one_query_ops =
    op.Pipeline 1
    ∷ command 1 4 (dispatched 2)
    ∷ command 2 6 (dispatched 3)
    ∷ op.Submit 1
    ∷ op.Fence 1
    ∷ []

-- App plays all calls and hands the chunk over, which goes to the device; the second dispatch is run before the first
abbrev pub one_query_steps : List ℕ
one_query_steps = 0 ∷ 0 ∷ 0 ∷ 0 ∷ 0 ∷ 0 ∷ 0 ∷ 1 ∷ 2 ∷ 3 ∷ 4 ∷ 22 ∷ 16 ∷ 10 ∷ 5 ∷ 0 ∷ 0 ∷ []

-- its run by that schedule gives the invocations of the first dispatch alone
abbrev pub PlaysOneQuery : Type 0
PlaysOneQuery =
    (core : Core) × IsRun count_groups one_query one_query_steps core
    × (core.replies ≡ Value_said 7 2 ∷ End_said ∷ []) × (core.listing ≡ one_query_ops) × (run_order core ≡ 2 ∷ 1 ∷ [])
