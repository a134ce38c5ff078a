-- The storage classes of pointers and variables (SPIR-V 1.6, section 3.7).
use Rattle.std.specs.Prelude.{ℕ, ◌==◌, Bool, ◌||◌}
use Rattle.spirv_model.specs.declared.storage_classes.TheConstants.{INPUT, FUNCTION, PUSH_CONSTANT, STORAGE_BUFFER}

abbrev pub is_class : ℕ → Bool
is_class c = (c == INPUT) || (c == FUNCTION) || (c == PUSH_CONSTANT) || (c == STORAGE_BUFFER)
