-- An atomic instruction on a word that can be written.
use Rattle.std.proofs.Common.{◌≡◌, ℕ, Bool, true, if◌then◌else◌, Some, None, ap, ◌∙◌}
use Rattle.std.specs.Prelude.{slice_index}
use Rattle.shader_model.specs.Invocation.{Slots}
use Rattle.spirv_model.specs.Meaning.Values.{Word}
use Rattle.spirv_model.specs.Meaning.Bindings.{words_at, is_writable, with_word}
use Rattle.spirv_model.specs.Meaning.Memory.{Memory, with_result, exchanged}
use Rattle.spirv_run.specs.Frames.{Frame}
use Rattle.spirv_run.specs.Held.{memory_of}
use Rattle.spirv_run.specs.Steps.{Reaches, left_in}

pub exchange_done : (f g : Frame) (s t : Slots) (r b i old v next : ℕ) → true ≡ is_writable b → old ≡ slice_index (words_at s b) i
    → memory_of g t ≡ with_result r (Word old) (memory_of f t) → t ≡ with_word b i v s
    → Reaches next (memory_of g t) ≡ left_in (exchanged r b i (slice_index (words_at s b) i) (Some v) (memory_of f s)) next
exchange_done f g s t r b i old v next hw ho hm ht =
    let m : ℕ → Memory = λ n. with_result r (Word n) (memory_of f (with_word b i v s)) in
    ap (Reaches next) (hm ∙ ap (λ z. with_result r (Word old) (memory_of f z)) ht ∙ ap m ho)
    ∙ ap (λ (w : Bool). left_in (if w then Some (m (slice_index (words_at s b) i)) else None) next) hw
