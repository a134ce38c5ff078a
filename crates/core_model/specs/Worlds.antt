-- What entries leave when they happen one after another: memory, and the invocations that each command ran.
use Rattle.std.specs.Prelude.{ℕ, List, [], ◌∷◌}
use Rattle.vk_types.specs.Memory.{zeros}
use Rattle.vk_types.specs.Effects.{Meaning, act_effect}
use Rattle.vk_types.specs.Entries.{Entry}
use Rattle.core_model.specs.OtherParts.{counted}

-- what the device leaves: memory, and the invocations that each command ran
pub record World : Type 0 where
  pub memory : ℕ → ℕ → ℕ
  pub counts : ℕ → ℕ

abbrev pub empty : World
empty = record { memory = zeros; counts = λ n. 0 }

abbrev pub world_step : Meaning → Entry → World → World
world_step meaning x w = record {
  memory = act_effect meaning x.act w.memory;
  counts =
      counted meaning x.act w.memory w.counts;
}

abbrev pub run_world : Meaning → List Entry → World → World
run_world meaning [] w = w
run_world meaning (x ∷ xs) w = run_world meaning xs (world_step meaning x w)
