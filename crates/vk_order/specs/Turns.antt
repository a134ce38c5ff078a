-- Ranks of acts in an order, and what is known of them up to a place of the listing.
use Rattle.std.specs.Prelude.{◌≡◌, ℕ, ◌+◌, ◌<◌, ◌≤◌, ⊤, true, false, List, length, Some, slice_get, slice_index}
use Rattle.vk_types.specs.declared.command.Command.{Command}
use Rattle.vk_types.specs.declared.op.Barrier.{Barrier}
use Rattle.vk_types.specs.declared.op.VkOp.{VkOp}
use Rattle.vk_types.specs.declared.op.VkOp.TheVariants as op
use Rattle.vk_types.specs.Before.{On_host, side, side_at}
use Rattle.vk_order.specs.declared.classes.Stages.{Stages}
use Rattle.vk_order.specs.declared.turns.Row.{Row}
use Rattle.vk_order.specs.declared.turns.Turns.{Turns}
use Rattle.vk_order.specs.Classes.{stages_of, names}
use Rattle.vk_order.specs.Order.{is_new_at}

-- the rank of a place is one more than where it stands in the order
abbrev pub AreRanks : List ℕ → List ℕ → Type 0
AreRanks order ranks = (i p : ℕ) → slice_get order i ≡ Some p → slice_index ranks p ≡ i + 1

-- the row of these stages has at least this rank
pub record HasRow (rows : List Row) (stages : Stages) (rank : ℕ) : Type 0 where
  pub number : ℕ
  pub row : Row
  pub there : slice_get rows number ≡ Some row
  pub same : row.stages ≡ stages
  pub latest : rank ≤ row.latest

-- the row was there, with the same stages and no greater ranks
pub record RowGrew (old : List Row) (i : ℕ) (row : Row) : Type 0 where
  pub before : Row
  pub there : slice_get old i ≡ Some before
  pub same : row.stages ≡ before.stages
  pub latest : before.latest ≤ row.latest
  pub ready : before.ready ≤ row.ready

pub record RowsGrew (old new : List Row) : Type 0 where
  pub len : length new ≡ length old
  pub each : (i : ℕ) (row : Row) → slice_get new i ≡ Some row → RowGrew old i row

-- each row whose stages the destination names is ready at this rank
abbrev pub IsReadied : List Row → Barrier → ℕ → Type 0
IsReadied rows b rank = (i : ℕ) (row : Row) → slice_get rows i ≡ Some row → names b.dest row.stages ≡ true → rank ≤ row.ready

-- the row of these stages is ready at this rank
pub record IsReadyBy (rows : List Row) (stages : Stages) (rank : ℕ) : Type 0 where
  pub number : ℕ
  pub row : Row
  pub there : slice_get rows number ≡ Some row
  pub same : row.stages ≡ stages
  pub ready : row.ready ≤ rank

-- a barrier makes the rows that its destination names ready at the ranks of those that its source names
abbrev pub AreReadied : List Row → Barrier → List Row → Type 0
AreReadied old b new = (i : ℕ) (row : Row) → slice_get old i ≡ Some row → names b.source row.stages ≡ true → IsReadied new b row.latest

-- all but the rows is the same
pub record IsSame (old new : Turns) : Type 0 where
  pub all : new.all ≡ old.all
  pub host : new.host ≡ old.host
  pub fenced : new.fenced ≡ old.fenced

-- no act so far that is ordered before this one has a greater rank
abbrev pub IsKept : Turns → ℕ → VkOp → Type 0
IsKept turns rank (op.HostWrite r call) = (turns.host ≤ rank) × (turns.fenced ≤ rank)
IsKept turns rank (op.Pipeline shader) = ⊤
IsKept turns rank (op.Barrier barrier) = ⊤
IsKept turns rank (op.Command d) = (turns.host ≤ rank) × (turns.lost ≡ false) × IsReadyBy turns.rows.items (stages_of d) rank
IsKept turns rank (op.Submit k) = ⊤
IsKept turns rank (op.Fence k) = ⊤
IsKept turns rank (op.HostRead r call) = (turns.host ≤ rank) × (turns.fenced ≤ rank)

-- an operation of this rank is noted
pub record IsNotedTurn (old new : Turns) (rank : ℕ) (o : VkOp) : Type 0 where
  pub all : old.all ≤ new.all
  pub this : rank ≤ new.all
  pub host : old.host ≤ new.host
  pub by_host : side o ≡ On_host → rank ≤ new.host
  pub fenced : old.fenced ≤ new.fenced
  pub by_fence : (k : ℕ) → o ≡ op.Fence k → old.all ≤ new.fenced
  pub rows : RowsGrew old.rows.items new.rows.items
  pub lost : new.lost ≡ false → old.lost ≡ false
  pub by_command : (c : Command) → o ≡ op.Command c → new.lost ≡ false → HasRow new.rows.items (stages_of c) rank
  pub by_barrier : (b : Barrier) → o ≡ op.Barrier b → AreReadied old.rows.items b new.rows.items

-- what is known of the acts before a place
pub record TurnsHold (ops : List VkOp) (ranks : List ℕ) (turns : Turns) (y : ℕ) : Type 0 where
  pub all : (x : ℕ) → x < y → slice_index ranks x ≤ turns.all
  pub host : (x : ℕ) → x < y → side_at ops x ≡ On_host → slice_index ranks x ≤ turns.host
  pub fenced : (x p k : ℕ) → x < p → p < y → slice_get ops p ≡ Some (op.Fence k) → slice_index ranks x ≤ turns.fenced
  pub latest : turns.lost ≡ false → (x : ℕ) (c : Command) → x < y → slice_get ops x ≡ Some (op.Command c) → HasRow turns.rows.items (stages_of c) (slice_index ranks x)
  pub ready : turns.lost ≡ false → (x p : ℕ) (c : Command) (b : Barrier) → x < p → p < y → slice_get ops x ≡ Some (op.Command c) → slice_get ops p ≡ Some (op.Barrier b)
      → names b.source (stages_of c) ≡ true → IsReadied turns.rows.items b (slice_index ranks x)

-- the order's first place that is no act's or repeats, or its length
pub record IsOddPlace (ops : List VkOp) (order : List ℕ) (at : ℕ) : Type 0 where
  pub within : at ≤ length order
  pub new : (i : ℕ) → i < at → is_new_at ops order i ≡ true
  pub odd : is_new_at ops order at ≡ false
