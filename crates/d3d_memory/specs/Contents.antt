-- The bytes of the live buffers, by their ids.
use Rattle.std.specs.Prelude.{ℕ, ◌+◌, ◌≤◌, List, [], length, Option, None, Some}
use Rattle.std.specs.Coded.{Coded, coded_ℕ, coded_list}
use Rattle.dx_types.specs.declared.limits.TheConstants.{MAX_BUFFER_SIZE}
use Rattle.base_lemmas.specs.IdMap as ids
use Rattle.base_lemmas.specs.IdMap.{IdMap}
use Rattle.d3d_model.specs.Regions.{put, filled, slice}
use Rattle.d3d_model.specs.D3dState.{bytes_if}

abbrev pub Contents : Type 0
Contents = IdMap (List ℕ)

abbrev pub contents_code : Coded Contents
contents_code = ids.code (coded_list coded_ℕ)

-- the bytes of a buffer, none where it isn't live
abbrev pub bytes_at : Contents → ℕ → List ℕ
bytes_at m id = bytes_if (ids.get m id)

-- no buffer has more than 16,777,216 bytes
abbrev pub AreShort : Contents → Type 0
AreShort m = (id : ℕ) → length (bytes_at m id) ≤ MAX_BUFFER_SIZE

abbrev pub changed_if : Option (List ℕ) → (List ℕ → List ℕ) → Contents → ℕ → Contents
changed_if None f m id = m
changed_if (Some old) f m id = ids.insert m id (f old)

-- a live buffer with other bytes
unfoldable pub changed : (List ℕ → List ℕ) → Contents → ℕ → Contents
changed f m id = changed_if (ids.get m id) f m id

-- these bytes in a live buffer, from a place on
abbrev pub write : Contents → ℕ → ℕ → List ℕ → Contents
write m id from piece = changed (λ old. put old from piece) m id

-- a live buffer as it was made without data
abbrev pub zeroed : Contents → ℕ → Contents
zeroed m id = changed (λ old. filled (length old) []) m id

-- a range of one buffer into another from a place on, read before the write
abbrev pub copied : Contents → ℕ → ℕ → ℕ → ℕ → ℕ → Contents
copied m target to source from len = write m target to (slice (bytes_at m source) from (from + len))
