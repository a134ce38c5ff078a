-- Numbers kept by ids, 0 where there is none.
use Rattle.std.specs.Prelude.{ℕ, ◌+◌, ◌<◌, ◌^◌, Option, None, Some, IsSome, unwrap_or}
use Rattle.std.specs.Coded.{Coded, coded_ℕ}
use Rattle.base_lemmas.specs.IdMap as ids
use Rattle.base_lemmas.specs.IdMap.{IdMap}

abbrev pub Counts : Type 0
Counts = IdMap ℕ

abbrev pub counts_code : Coded Counts
counts_code = ids.code coded_ℕ

-- the number of an id
abbrev pub count_at : Counts → ℕ → ℕ
count_at m id = unwrap_or (ids.get m id) 0

-- an id has a number that may rise so many times
abbrev pub HasRoom : Counts → ℕ → ℕ → Type 0
HasRoom m id times = IsSome (ids.get m id) × (count_at m id + times < 2 ^ 64)

-- another number at an id that has one
abbrev pub set_if : Option ℕ → Counts → ℕ → ℕ → Counts
set_if None m id n = m
set_if (Some old) m id n = ids.insert m id n
