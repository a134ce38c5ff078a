-- What calls do to the memory, by parts of it.
use Rattle.std.specs.Prelude.{ℕ, refl, List}
use Rattle.std.specs.Coded.{Coded, code_by, coded×, coded_ℕ}
use Rattle.base_lemmas.specs.IdMap as ids
use Rattle.base_lemmas.specs.IdMap.{IdMap}
use Rattle.d3d_model.specs.Regions.{filled}
use Rattle.d3d_model.specs.D3dState.{Memory}
use Rattle.d3d_memory.specs.Contents.{Contents, contents_code}

-- the memory is stored as its four parts
abbrev pub memory_code : Coded Memory
memory_code = code_by (Contents × (ℕ × (IdMap ℕ × IdMap ℕ))) (coded× contents_code (coded× coded_ℕ (coded× (ids.code coded_ℕ) (ids.code coded_ℕ))))
    (λ m. (m.bytes, (m.ran, (m.begun_at, m.counts))))
    (λ p. record { bytes = p.0; ran = p.1.0; begun_at = p.1.1.0; counts = p.1.1.1 })
    (λ m. refl)

abbrev pub with_bytes : Memory → Contents → Memory
with_bytes m bytes = record m { bytes = bytes }

-- a buffer more: these bytes, and zeros up to its size
abbrev pub created : Memory → ℕ → ℕ → List ℕ → Memory
created m id size bytes = with_bytes m (ids.insert m.bytes id (filled size bytes))

-- a buffer less
abbrev pub destroyed : Memory → ℕ → Memory
destroyed m id = with_bytes m (ids.remove m.bytes id)
