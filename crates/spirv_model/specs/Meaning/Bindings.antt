-- How the bindings of a module name the slots of a dispatch: 0 to 13 the constant buffers, 14 to 29 the resources, 30 to
-- 37 the unordered access views.
use Rattle.std.specs.Prelude.{ℕ, ◌-◌, ◌<◌, ◌≤◌, if◌then◌else◌, nat_lt, nat_le, Bool, ◌&&◌, List, [], length, slice_set, All}
use Rattle.dx_types.specs.declared.limits.TheConstants.{FIRST_SRV_BINDING, FIRST_UAV_BINDING, MAX_BUFFER_WORDS, MODULE_BINDINGS}
use Rattle.shader_model.specs.Invocation.{Slots, words_in}

abbrev pub first_read : ℕ
first_read = FIRST_SRV_BINDING

abbrev pub first_write : ℕ
first_write = FIRST_UAV_BINDING

abbrev pub end_of_bindings : ℕ
end_of_bindings = MODULE_BINDINGS

-- the words of a binding's slot; there are none where nothing fits there
abbrev pub words_at : Slots → (binding : ℕ) → List ℕ
words_at slots b =
    if nat_lt b first_read then words_in slots.constants b
    else if nat_lt b first_write then words_in slots.reads (b - first_read)
    else if nat_lt b end_of_bindings then words_in slots.writes (b - first_write)
    else []

-- only an unordered access view can be written
abbrev pub is_writable : (binding : ℕ) → Bool
is_writable b = nat_le first_write b && nat_lt b end_of_bindings

-- the slots with another word in the unordered access view of a binding
abbrev pub with_word : (binding place v : ℕ) → Slots → Slots
with_word b i v slots = record slots { writes = slice_set slots.writes (b - first_write) (slice_set (words_at slots b) i v) }

-- no slot has more words than a buffer of 16,777,216 bytes, and each is a word of 32 bits
pub record SlotsFit (slots : Slots) : Type 0 where
  pub lengths : (b : ℕ) → length (words_at slots b) ≤ MAX_BUFFER_WORDS
  pub words : (b : ℕ) → All (λ w. w < 4294967296) (words_at slots b)
