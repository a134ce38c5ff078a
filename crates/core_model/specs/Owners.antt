-- What happens to the owner of a block.
use Rattle.std.specs.Prelude.{ℕ, Bool, false, cond, ◌||◌, ◌==◌, List, Option, Some, None}
use Rattle.std.specs.List.{list_any}
use Rattle.dx_types.specs.declared.range.Range.{Range}
use Rattle.vk_types.specs.Memory.{covers}
use Rattle.core_model.specs.CoreState.{Owner, Unmade, Home, Returning, Spare, Live, Retired, Paged, Dropped, has_class}

abbrev pub nothing_bound : ℕ → Bool
nothing_bound i = false

abbrev pub in_ranges : List Range → ℕ → ℕ → Bool
in_ranges rs block i = list_any (λ r. covers r block i) rs

abbrev pub bind_owner : List Range → ℕ → Owner → Owner
bind_owner rs block (Live buffer since bound) = Live buffer since (λ i. bound i || in_ranges rs block i)
bind_owner rs block (Retired chunk since bound) = Retired chunk since (λ i. bound i || in_ranges rs block i)
bind_owner rs block (Paged chunk since bound) = Paged chunk since (λ i. bound i || in_ranges rs block i)
bind_owner rs block Unmade = Unmade
bind_owner rs block (Home k) = Home k
bind_owner rs block (Returning k) = Returning k
bind_owner rs block Spare = Spare
bind_owner rs block Dropped = Dropped

-- a live block is retired by a chunk
abbrev pub retire_owner : ℕ → Owner → Owner
retire_owner chunk (Live buffer since bound) = Retired chunk since bound
retire_owner chunk (Retired k since bound) = Retired k since bound
retire_owner chunk (Paged k since bound) = Paged k since bound
retire_owner chunk Unmade = Unmade
retire_owner chunk (Home k) = Home k
retire_owner chunk (Returning k) = Returning k
retire_owner chunk Spare = Spare
retire_owner chunk Dropped = Dropped

abbrev pub is_block : Option ℕ → ℕ → Bool
is_block None block = false
is_block (Some b) block = block == b

abbrev pub retired : Option ℕ → ℕ → (ℕ → Owner) → ℕ → Owner
retired old chunk owner = λ b. cond (is_block old b) (retire_owner chunk (owner b)) (owner b)

-- as a chunk's post is made, the blocks that it retired are on their way home; those of no class are dropped
abbrev pub finish_owner : ℕ → ℕ → Owner → Owner
finish_owner chunk block (Retired k since bound) = cond (k == chunk) (cond (has_class block) (Returning k) Dropped)
    (Retired k since bound)
finish_owner chunk block (Live buffer since bound) = Live buffer since bound
finish_owner chunk block (Paged k since bound) = Paged k since bound
finish_owner chunk block Unmade = Unmade
finish_owner chunk block (Home k) = Home k
finish_owner chunk block (Returning k) = Returning k
finish_owner chunk block Spare = Spare
finish_owner chunk block Dropped = Dropped

-- as a chunk's post is taken, its pages come back
abbrev pub return_owner : ℕ → Owner → Owner
return_owner chunk (Paged k since bound) = cond (k == chunk) Spare (Paged k since bound)
return_owner chunk (Retired k since bound) = Retired k since bound
return_owner chunk (Live buffer since bound) = Live buffer since bound
return_owner chunk Unmade = Unmade
return_owner chunk (Home k) = Home k
return_owner chunk (Returning k) = Returning k
return_owner chunk Spare = Spare
return_owner chunk Dropped = Dropped
