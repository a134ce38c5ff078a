-- How large a dispatch may be.
use Rattle.std.specs.Prelude.{ℕ, ◌*◌, nat_le, Bool, ◌&&◌, List, slice_index}
use Rattle.dx_types.specs.declared.limits.TheConstants.{MAX_GROUPS, MAX_INVOCATIONS}
use Rattle.shader_model.specs.Dispatch.{volume}
use Rattle.d3d_model.specs.D3dState.{Objects, bindings_of, words_set}
use Rattle.d3d_model.specs.Shader.{group_of}

-- each count of groups is at most 65,535, and there are at most 16,777,216 invocations of so many threads a group
abbrev pub allows : List ℕ → ℕ → Bool
allows groups threads =
    nat_le (slice_index groups 0) MAX_GROUPS && nat_le (slice_index groups 1) MAX_GROUPS && nat_le (slice_index groups 2) MAX_GROUPS
    && nat_le (volume groups * threads) MAX_INVOCATIONS

-- the threads of a group of the shader that is set on a context
abbrev pub threads_of : Objects → ℕ → ℕ
threads_of o x = volume (group_of (words_set o (bindings_of o x)))
