-- The decorations, and the values that they take (SPIR-V 1.6, section 3.20).
use Rattle.std.specs.Prelude.{ℕ, ◌*◌, ◌==◌, if◌then◌else◌, Bool, true, ◌&&◌, ◌||◌, nat_lt, nat_le, Option, Some, None}
use Rattle.dx_types.specs.declared.limits.TheConstants.{MODULE_BINDINGS}
use Rattle.spirv_model.specs.declared.built_ins.TheConstants.{WORKGROUP_ID, LOCAL_INVOCATION_INDEX}
use Rattle.spirv_model.specs.declared.decorations.TheConstants.{BLOCK, ARRAY_STRIDE, BUILT_IN, BINDING, DESCRIPTOR_SET, OFFSET}
use Rattle.spirv_model.specs.declared.settings.TheConstants.{WORD_BYTES, ONLY_SET}

-- what an id of a module may be decorated with
abbrev pub is_decoration : ℕ → Bool
is_decoration d = (d == BLOCK) || (d == ARRAY_STRIDE) || (d == BUILT_IN) || (d == BINDING) || (d == DESCRIPTOR_SET)

-- how many values a decoration has; one that the profile lacks may have any number
abbrev pub values_of : ℕ → Option ℕ
values_of d = if d == BLOCK then Some 0 else if is_decoration d || (d == OFFSET) then Some 1 else None

-- WorkgroupId, LocalInvocationId, GlobalInvocationId, LocalInvocationIndex
abbrev pub is_built_in : ℕ → Bool
is_built_in v = nat_le WORKGROUP_ID v && nat_le v LOCAL_INVOCATION_INDEX

-- a decoration takes this value: arrays are of words, and all buffers stand in one descriptor set
abbrev pub takes_value : (decoration value : ℕ) → Bool
takes_value d v =
    if d == ARRAY_STRIDE then v == WORD_BYTES
    else if d == BUILT_IN then is_built_in v
    else if d == BINDING then nat_lt v MODULE_BINDINGS
    else if d == DESCRIPTOR_SET then v == ONLY_SET
    else true

-- each member of a block is a word, or its only one an array of words: it stands at four times its number
abbrev pub is_offset_of : (member value : ℕ) → Bool
is_offset_of m v = v == WORD_BYTES * m
