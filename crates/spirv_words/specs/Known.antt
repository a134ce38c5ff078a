-- What the clauses see of the instructions before a place.
use Rattle.std.specs.Prelude.{◌≡◌, ℕ, if◌then◌else◌, nat_lt, List, ◌∷◌, Option, None}
use Rattle.spirv_words.specs.declared.known.Known.{Known}
use Rattle.spirv_model.specs.Op.{Op}
use Rattle.spirv_model.specs.History.{maker}
use Rattle.spirv_words.specs.Kept.{so_far}

-- the instructions, the latest first
unfoldable pub history : Known → List Op
history known = so_far known.ops.items

-- the instruction that makes an id below the bound
abbrev pub found : Known → ℕ → Option Op
found known x = if nat_lt x known.bound then maker x (history known) else None

-- one instruction more stands before the place
pub record Extends (old new : Known) (o : Op) : Type 0 where
  pub bound : new.bound ≡ old.bound
  pub instructions : history new ≡ o ∷ history old
