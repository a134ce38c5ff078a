-- How long the blocks of each class are.
use Rattle.std.specs.Prelude.{ℕ, ◌*◌, ◌^◌}
use Rattle.dx_types.specs.declared.limits.TheConstants.{LEAST_BLOCK}

abbrev pub class_length : ℕ → ℕ
class_length class = LEAST_BLOCK * 4 ^ class
