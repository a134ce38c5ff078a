-- What a seat of the board knows, and what changes it.
use Rattle.std.specs.Prelude.{ℕ, max, List, [], ◌∷◌, ◌++◌, replicate, Option, Some, None, slice_index_or, slice_set}
use Rattle.std.specs.Option.{option_map}
use Rattle.buffer_blocks.specs.declared.block.Block.{Block}
use Rattle.slice_board.specs.declared.rule.Pool.{Pool}
use Rattle.slice_board.specs.declared.rule.Hand.{Hand}

-- the block at home at this place
abbrev pub home_of : Pool → ℕ → Option Block
home_of p k = slice_index_or p.homes k None

-- the pool with this at home there
abbrev pub pool_set : Pool → ℕ → Option Block → Pool
pool_set p k b = record p { homes = slice_set p.homes k b }

unfoldable pub empty_pool : Pool
empty_pool = record { done = 0; homes = replicate 512 None }

-- a seat that has done nothing
abbrev pub newcomer : Option Pool → Hand
newcomer p = record { held = None; looks = []; read = 0; most = 0; pool = p }

-- the word w was found at the place k
abbrev pub looked : Hand → ℕ → ℕ → Hand
looked v k w = record v { looks = v.looks ++ (k, w) ∷ [] }

-- these words were found at these places, one after the other
abbrev pub passed : Hand → List (ℕ × ℕ) → Hand
passed v looks = record v { looks = v.looks ++ looks }

abbrev pub holding : Hand → ℕ → Hand
holding v k = record v { held = Some k }

abbrev pub holding_taken : Hand → ℕ → ℕ → Hand
holding_taken v k r = record v { held = Some k; most = max v.most r }

-- the held place k is given up, with this at home
abbrev pub released : Hand → ℕ → Option Block → Hand
released v k b = record v { held = None; pool = option_map (λ p. pool_set p k b) v.pool }

abbrev pub with_read : Hand → ℕ → Hand
with_read v n = record v { read = n }

-- n is the greatest number that was raised or read
abbrev pub with_done : Hand → ℕ → Hand
with_done v n = record v { read = n; pool = option_map (λ (p : Pool). record p { done = n }) v.pool }

-- a block with this `retired` was taken from the place k, and then d was read
abbrev pub having_taken : Hand → ℕ → ℕ → ℕ → Hand
having_taken v k r d = with_read (released (holding_taken v k r) k None) d

-- the block went home to the place k
abbrev pub having_given : Hand → ℕ → Block → Hand
having_given v k b = released (holding v k) k (Some b)
