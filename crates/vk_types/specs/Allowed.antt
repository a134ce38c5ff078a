-- Orders in which the acts of a listing may happen, and what they give.
use Rattle.std.specs.Prelude.{◌≡◌, ℕ, Bool, false, cond, ◌==◌, List, [], ◌∷◌, Option, Some, None}
use Rattle.dx_types.specs.declared.range.Range.{Range}
use Rattle.vk_types.specs.declared.op.VkOp.{VkOp}
use Rattle.base_lemmas.specs.Lists.{Pairwise, IsReordering}
use Rattle.vk_types.specs.Memory.{Memory, zeros, byte_of}
use Rattle.vk_types.specs.Effects.{Meaning, Act, act_effect, host_source}
use Rattle.vk_types.specs.Listing.{acts, act_at}
use Rattle.vk_types.specs.Before.{before}

-- no place stands after one that it is before
abbrev pub Keeps : (ℕ → ℕ → Bool) → List ℕ → Type 0
Keeps before places = Pairwise (λ p q. before q p ≡ false) places

-- the order has each act once, and keeps each pair that the listing orders
abbrev pub IsAllowed : List VkOp → List ℕ → Type 0
IsAllowed ops order = IsReordering (acts ops) order × Keeps (before ops) order

-- memory, and byte k of what the host read at each place
pub record World : Type 0 where
  pub memory : ℕ → ℕ → ℕ
  pub answers : ℕ → ℕ → ℕ

-- the answers, with what the act at this place hands to the host
abbrev pub answered : ℕ → Option Range → Memory → (ℕ → ℕ → ℕ) → ℕ → ℕ → ℕ
answered place None memory answers = answers
answered place (Some source) memory answers = λ p. cond (p == place) (byte_of memory source) (answers p)

-- an act happens, at its place in the listing
abbrev pub happens : Meaning → ℕ → Option Act → World → World
happens meaning place None w = w
happens meaning place (Some a) w = record {
  memory = act_effect meaning a w.memory;
  answers = answered place (host_source a) w.memory w.answers;
}

-- the acts of these places happen, one after another
abbrev pub run_places : Meaning → (ℕ → Option Act) → List ℕ → World → World
run_places meaning act [] w = w
run_places meaning act (p ∷ ps) w = run_places meaning act ps (happens meaning p (act p) w)

-- memory of zeros, and nothing read
abbrev pub empty_world : World
empty_world = record { memory = zeros; answers = zeros }

-- what the acts give when they run in this order on memory of zeros
abbrev pub outcome : Meaning → List (List ℕ) → List VkOp → List ℕ → World
outcome meaning contents ops order = run_places meaning (act_at contents ops) order empty_world
