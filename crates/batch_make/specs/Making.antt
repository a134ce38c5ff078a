-- What the code keeps of what a chunk's items made, and of what runs on over chunks.
use Rattle.std.specs.Prelude.{◌≡◌, ℕ, suc, Bool, cond, List, [], ◌∷◌, ◌++◌, map}
use Rattle.std.specs.Ordering.{nat_cmp}
use Rattle.std.specs.BTreeSet.{contains}
use Rattle.dx_types.specs.declared.range.Range.{Range}
use Rattle.dx_types.specs.declared.range.Span.{Span}
use Rattle.vk_types.specs.declared.command.Command.{Command}
use Rattle.vk_types.specs.declared.message.QueryMark.{QueryMark}
use Rattle.vk_types.specs.declared.op.VkOp.{VkOp}
use Rattle.vk_types.specs.declared.op.VkOp.TheVariants as op
use Rattle.vk_types.specs.Memory.{range}
use Rattle.barrier_track.specs.Since.{IsSince}
use Rattle.core_model.specs.Adding.{has_block}
use Rattle.core_model.specs.Batching.{Written, Made}
use Rattle.core_model.specs.Succession.{writes_as}
use Rattle.batch_make.specs.declared.stream.Stream.{Stream}
use Rattle.batch_make.specs.declared.parts.Parts.{Parts}

-- the commands among operations, in order
abbrev pub commands_in : List VkOp → List Command
commands_in [] = []
commands_in (op.HostWrite r call ∷ ops) = commands_in ops
commands_in (op.Pipeline shader ∷ ops) = commands_in ops
commands_in (op.Barrier barrier ∷ ops) = commands_in ops
commands_in (op.Command command ∷ ops) = command ∷ commands_in ops
commands_in (op.Submit k ∷ ops) = commands_in ops
commands_in (op.Fence k ∷ ops) = commands_in ops
commands_in (op.HostRead r call ∷ ops) = commands_in ops

-- so many commands were listed, these since the last barrier, and these are the blocks of staging buffers
pub record ContinuesFrom (commands : ℕ) (recent : List Command) (is_staging : ℕ → Bool) (s : Stream) : Type 0 where
  pub count : s.commands ≡ commands
  pub since : IsSince s.tracker recent
  pub blocks : (block : ℕ) → contains nat_cmp s.staging block ≡ is_staging block

-- the stream goes on behind what was made
abbrev pub Continues : Made → Stream → Type 0
Continues m s = ContinuesFrom m.commands m.recent m.is_staging s

-- these host writes, operations with these commands, staging ranges and query marks. A span of the log stands for its
-- bytes
pub record HasParts (part : Span → List ℕ) (writes : List Written) (ops : List VkOp) (listed : List Command)
    (staging : List Range) (queries : List QueryMark) (p : Parts) : Type 0 where
  pub written : map (writes_as part) p.writes.items ≡ writes
  pub operations : p.ops.items ≡ ops
  pub commands : commands_in ops ≡ listed
  pub ranges : p.staging.items ≡ staging
  pub marks : p.queries.items ≡ queries

-- the parts are what was made of the chunk
abbrev pub Has : (Span → List ℕ) → Made → Parts → Type 0
Has part m p = HasParts part m.writes m.ops m.listed m.staging m.queries p

-- the whole of a staging buffer's block stands once in the list
abbrev pub with_whole : ℕ → ℕ → List Range → List Range
with_whole block size staging = cond (has_block block staging) staging (staging ++ range block 0 size ∷ [])

-- a Begin or an End of a query stands before the next command
abbrev pub with_mark : ℕ → ℕ → Bool → Made → Made
with_mark call query begins m =
    record m {
      queries = m.queries ++ record {
        call = call;
        query = query;
        begins = begins;
        before = suc m.commands;
      } ∷ [];
    }
