-- Bytes of the log and the host writes that they make: where an item has fewer bytes than its host write, zeros stand
-- around them.
use Rattle.std.specs.Prelude.{◌≡◌, ◌-◌, ◌≤◌, List, [], ◌∷◌, ◌⊎◌}
use Rattle.std.specs.List.{AllByRecursion}
use Rattle.vk_types.specs.Effects.{Act, Host_write, Device, Host_read}
use Rattle.vk_types.specs.Entries.{Entry}
use Rattle.core_model.specs.Script.{padded}
use Rattle.core_model.specs.Batching.{Written}

-- the host writes zeros alone
abbrev pub WritesZeros : Act → Type 0
WritesZeros (Host_write r bytes) = AllByRecursion (λ b. b ≡ 0) bytes
WritesZeros (Device d) = ⊥
WritesZeros (Host_read r) = ⊥

-- the host writes these bytes where they belong, and zeros in the rest of its range
abbrev pub Fills : Written → Act → Type 0
Fills w (Host_write r bytes) =
    (w.range.block ≡ r.block) × (r.from ≤ w.range.from) × (w.range.to ≤ r.to)
    × (bytes ≡ padded (w.range.from - r.from) w.bytes (r.to - r.from))
Fills w (Device d) = ⊥
Fills w (Host_read r) = ⊥

-- each host write has the bytes of the next part, or zeros alone, and no part is left
abbrev pub AreFilled : List Written → List Entry → Type 0
AreFilled ws [] = ws ≡ []
AreFilled ws (x ∷ xs) = (WritesZeros x.act × AreFilled ws xs)
    ⊎ ((w : Written) × (others : List Written) × (ws ≡ w ∷ others) × Fills w x.act × AreFilled others xs)
