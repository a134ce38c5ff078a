-- Bytes are a log, or have a first fault.
use Rattle.std.proofs.Common.{◌≡◌, ℕ, zero, suc, ◌+◌, ◌-◌, ◌<◌, ◌≤◌, ◌⊎◌, List, [], ◌∷◌, ◌++◌, length, get_or, drop, Option, Some, None, refl, arith, inl, inr}
use Rattle.std.proofs.lemmas.List.{length-drop, get_or_past}
use Rattle.call_log.specs.declared.fault.LogFault.{LogFault}
use Rattle.call_log.specs.declared.fault.Head.{Head}
use Rattle.call_log.specs.declared.fault.Head.TheVariants.{Whole, End, Broken}
use Rattle.call_log.specs.Grammar.{Frame, IsLog, IsFault, AreBytes, IsWhole, header_fault, head_at, frames_at, length_of}
use Rattle.call_log.proofs.Frames.{IsBytes, whole_of, end_of}
use Rattle.call_log.proofs.Index.{ReadsTo, reads_fault, reads_end, reads_more}
use Rattle.call_log.proofs.Header.{reads_none}

abbrev pub SomeReading : List ℕ → Type 0
SomeReading bytes = ((fs : List Frame) × IsLog bytes fs) ⊎ ((fault : LogFault) × IsFault bytes fault)

by_head : (h : Head) (X : Type 0) → (h ≡ Whole → X) → (h ≡ End → X) → ((d : LogFault) → h ≡ Broken d → X) → X
by_head Whole X whole end broken = whole refl
by_head End X whole end broken = end refl
by_head (Broken d) X whole end broken = broken d refl

from_place : (n : ℕ) (bytes starts : List ℕ) (at : ℕ) → IsBytes bytes → ReadsTo bytes starts at → length bytes - at < n → SomeReading bytes
from_place zero bytes starts at fits r lt = absurd (omega arith)
from_place (suc n) bytes starts at fits r lt =
    by_head (head_at at (drop at bytes)) (SomeReading bytes)
    (λ e.
    let w : IsWhole (drop at bytes) = whole_of at (drop at bytes) e in
    from_place n bytes (starts ++ at ∷ []) (at + (8 + length_of (drop at bytes))) fits (reads_more bytes starts at fits r w) (omega (arith, lt, w.long, length-drop at bytes)))
    (λ e. inl (frames_at bytes starts, reads_end bytes starts at r (end_of at (drop at bytes) e)))
    (λ d e. inr (d, reads_fault bytes starts at d r e))

by_option : (o : Option LogFault) (X : Type 0) → (o ≡ None → X) → ((d : LogFault) → o ≡ Some d → X) → X
by_option None X none some = none refl
by_option (Some d) X none some = some d refl

from_start : (bytes : List ℕ) → IsBytes bytes → SomeReading bytes
from_start bytes fits =
    by_option (header_fault bytes) (SomeReading bytes)
    (λ e. from_place (suc (length bytes)) bytes [] 8 fits (reads_none bytes [] refl fits e) (omega arith))
    (λ d e. inr (d, inl e))

inside_or_past : (bytes : List ℕ) (i : ℕ) → AreBytes bytes → (i < length bytes) ⊎ (length bytes ≤ i) → get_or bytes i 0 < 256
inside_or_past bytes i are (inl lt) = are i 0 lt
inside_or_past bytes i are (inr le) = omega (arith, get_or_past bytes i 0 le)

either : (i n : ℕ) → (i < n) ⊎ (n ≤ i)
either i n = grind arith

pub all_bytes : (bytes : List ℕ) → AreBytes bytes → IsBytes bytes
all_bytes bytes are i = inside_or_past bytes i are (either i (length bytes))

pub some_reading : (bytes : List ℕ) → AreBytes bytes → SomeReading bytes
some_reading bytes are = from_start bytes (all_bytes bytes are)
