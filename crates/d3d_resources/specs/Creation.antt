-- Why a buffer is not created: the checks on its id, its shape and what is live beside it.
use Rattle.std.specs.Prelude.{ℕ, ◌+◌, ◌==◌, nat_le, nat_lt, Bool, not, ◌&&◌, ◌||◌, List, [], ◌∷◌, is_some}
use Rattle.dx_types.specs.declared.refusal.Refusal.TheVariants.{IdInUse, BadUsage, BadBind, BadSize, OutOfRange, TooMuchMemory, TooManyDynamic}
use Rattle.dx_types.specs.declared.shape.Shape.{Shape}
use Rattle.dx_types.specs.declared.limits.TheConstants.{KNOWN_BITS, MAX_DYNAMIC_OF_CLASS, MAX_LIVE_BYTES, UNORDERED_ACCESS}
use Rattle.d3d_model.specs.Check.{Check, has, is_id}
use Rattle.base_lemmas.specs.IdMap as ids
use Rattle.d3d_model.specs.Resource.{Buffers, usage_from, is_immutable, is_dynamic, is_staging, class_of, live_bytes, live_dynamic}
use Rattle.d3d_model.specs.Verdict.{is_wrong_usage, is_wrong_data, is_wrong_length, is_wrong_constant, is_wrong_stride, is_wrong_beside, has_both_forms, lacks_views}

abbrev pub has_bad_size : Shape → Bool
has_bad_size s =
    is_wrong_length s.size (is_dynamic s.usage) || is_wrong_constant s.bind s.size || is_wrong_stride s.misc s.size s.stride

-- bits that are unknown, or that don't go together
abbrev pub has_bad_bits : Shape → Bool
has_bad_bits s =
    nat_lt KNOWN_BITS s.bind || nat_lt KNOWN_BITS s.misc
    || is_wrong_beside s.bind
    || has_both_forms s.misc
    || lacks_views s.bind s.misc

-- the usage excludes these bind bits: nothing is bound to a staging buffer, a dynamic one is bound for reads alone, and an
-- immutable one is never written
abbrev pub has_bad_usage : Shape → Bool
has_bad_usage s =
    (is_staging s.usage && not (s.bind == 0))
    || (is_dynamic s.usage && ((s.bind == 0) || has s.bind UNORDERED_ACCESS))
    || (is_immutable s.usage && has s.bind UNORDERED_ACCESS)

-- the checks on a new buffer's shape, and on what would be live with it
abbrev pub shape_checks : Buffers → Shape → List Check
shape_checks buffers s =
    (has_bad_size s, BadSize)
    ∷ (has_bad_bits s || has_bad_usage s, BadBind)
    ∷ (nat_lt MAX_LIVE_BYTES (live_bytes buffers + s.size), TooMuchMemory)
    ∷ (is_dynamic s.usage && nat_le MAX_DYNAMIC_OF_CLASS (live_dynamic buffers (class_of s.size)), TooManyDynamic)
    ∷ []

-- the checks on a new buffer beside those that are live, in order
abbrev pub table_checks : Buffers → ℕ → Shape → List Check
table_checks buffers id s = (not (is_id id), OutOfRange) ∷ (is_some (ids.get buffers id), IdInUse) ∷ shape_checks buffers s

-- ---- the whole creation, with its data

-- the shape that a creation describes
abbrev pub shape_of : ℕ → ℕ → ℕ → ℕ → ℕ → Shape
shape_of size usage bind misc stride = record { size = size; usage = usage_from usage; bind = bind; misc = misc; stride = stride }

-- the checks of a creation: those that need its usage's number or its data stand before those of the table
abbrev pub creation_checks : Buffers → ℕ → ℕ → ℕ → ℕ → ℕ → ℕ → List ℕ → List Check
creation_checks buffers id size usage bind misc stride bytes =
    (not (is_id id), OutOfRange)
    ∷ (is_some (ids.get buffers id), IdInUse)
    ∷ (is_wrong_usage usage bytes, BadUsage)
    ∷ (is_wrong_data size bytes, BadSize)
    ∷ table_checks buffers id (shape_of size usage bind misc stride)
