-- Buffers that keep their sizes keep the length of their bytes.
use Rattle.std.proofs.Common.{◌≡◌, ℕ, List, length, Option, Some, None, refl, sym, ap, ◌∙◌}
use Rattle.std.specs.Prelude.{unwrap_or}
use Rattle.std.specs.Option.{option_map}
use Rattle.base_lemmas.specs.IdMap.{get}
use Rattle.d3d_model.specs.D3dState.{Memory, bytes_if, bytes_of}
use Rattle.d3d_model.proofs.Sized.{SameSizes}

length_by : (o : Option (List ℕ)) → length (bytes_if o) ≡ unwrap_or (option_map (λ (bytes : List ℕ). length bytes) o) 0
length_by None = refl
length_by (Some bytes) = refl

pub same_length : (m m' : Memory) (id : ℕ) → SameSizes m m' → length (bytes_of m' id) ≡ length (bytes_of m id)
same_length m m' id same = length_by (get m'.bytes id) ∙ ap (λ (o : Option ℕ). unwrap_or o 0) (same id) ∙ sym (length_by (get m.bytes id))
