-- Blocks that a chunk gave up, and the marks of its message.
use Rattle.std.specs.Prelude.{◌≡◌, ℕ, suc, false, List, [], ◌∷◌, ◌++◌, length, map, Some}
use Rattle.vk_types.specs.declared.message.Placed.{Placed}
use Rattle.core_model.specs.CoreState.{Owner, Unmade, Home, Returning, Spare, Live, Retired, Paged, Dropped, Core}
use Rattle.core_model.specs.Invariant.{handed}
use Rattle.core_model.specs.Succession.{takes, all_places}

-- this chunk gave it up last
abbrev pub IsOff : ℕ → Owner → Type 0
IsOff n Unmade = ⊥
IsOff n (Home k) = k ≡ n
IsOff n (Returning k) = k ≡ n
IsOff n Spare = ⊥
IsOff n (Live buffer since bound) = ⊥
IsOff n (Retired k since bound) = k ≡ n
IsOff n (Paged k since bound) = ⊥
IsOff n Dropped = ⊥

-- the places of all messages, the open one last
abbrev pub all_messages : Core → List (List Placed)
all_messages core = map (λ s. s.placed) (handed core) ++ core.open_chunk.placed ∷ []

-- message n marked the block, and no item took it since
pub record IsMarkedBy (pss : List (List Placed)) (b n : ℕ) : Type 0 where
  pub front : List (List Placed)
  pub here : List Placed
  pub back : List (List Placed)
  pub split : pss ≡ front ++ here ∷ back
  pub number : suc (length front) ≡ n
  pub before : List Placed
  pub place : Placed
  pub after : List Placed
  pub placed : here ≡ before ++ place ∷ after
  pub marked : place.mark ≡ Some b
  pub since : takes b (after ++ all_places back) ≡ false

-- it is on its way home, retired by this chunk
abbrev pub IsReturning : ℕ → Owner → Type 0
IsReturning n Unmade = ⊥
IsReturning n (Home k) = ⊥
IsReturning n (Returning k) = k ≡ n
IsReturning n Spare = ⊥
IsReturning n (Live buffer since bound) = ⊥
IsReturning n (Retired k since bound) = ⊥
IsReturning n (Paged k since bound) = ⊥
IsReturning n Dropped = ⊥
