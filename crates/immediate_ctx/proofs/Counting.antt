-- The counts of turns with one more turn behind them.
use Rattle.std.proofs.Common.{◌≡◌, ℕ, ◌+◌, Bool, true, false, cond, List, [], ◌∷◌, ◌++◌, refl, arith}
use Rattle.dx_types.specs.declared.range.Range.{Range}
use Rattle.core_model.specs.Script.{Play, Turn, Refused, Passed, Flushed, Asked, Item, Script}
use Rattle.core_model.specs.Chunking.{is_entry, entry_count, mark_count, staged_count, marks_of, staged_of}
use Rattle.core_model.specs.Chunking.{play_retires, play_stages}
use Rattle.immediate_ctx.specs.Due.{counts_of, counted}

entries_last : (ts : List Turn) (t : Turn) → entry_count (ts ++ t ∷ []) ≡ entry_count ts + cond (is_entry t) 1 0
entries_last [] t = omega arith
entries_last (x ∷ ts) t = let r = entries_last ts t in omega (arith, r)

marks_last : (script : Script) (ts : List Turn) (t : Turn)
    → mark_count script (ts ++ t ∷ []) ≡ mark_count script ts + marks_of script t
marks_last script [] t = omega arith
marks_last script (x ∷ ts) t = let r = marks_last script ts t in omega (arith, r)

staged_last : (ts : List Turn) (t : Turn) → staged_count (ts ++ t ∷ []) ≡ staged_count ts + staged_of t
staged_last [] t = omega arith
staged_last (x ∷ ts) t = let r = staged_last ts t in omega (arith, r)

pub counts_of-item : (script : Script) (ts : List Turn) (call item : ℕ) (ends : Bool) (play : Play)
    (bound : List Range)
    → counts_of script (ts ++ Item call item ends play bound ∷ [])
    ≡ counted (play_retires script play) (play_stages play) (counts_of script ts)
counts_of-item script ts call item ends play bound = λ i. record {
  entries = entries_last ts (Item call item ends play bound) i;
  marks = marks_last script ts (Item call item ends play bound) i;
  staged = staged_last ts (Item call item ends play bound) i;
}

no_entry : (b : Bool) → b ≡ false → ◌≡◌ {A = ℕ} (cond b 1 0) 0
no_entry true e = absurd (cc e)
no_entry false e = refl

-- a turn that is no entry adds nothing
abbrev AddsNothing : Script → List Turn → Turn → Type 0
AddsNothing script ts t = counts_of script (ts ++ t ∷ []) ≡ counts_of script ts

nothing : (script : Script) (ts : List Turn) (t : Turn) → is_entry t ≡ false → marks_of script t ≡ 0
    → staged_of t ≡ 0 → AddsNothing script ts t
nothing script ts t e m s =
    let none : ◌≡◌ {A = ℕ} (cond (is_entry t) 1 0) 0 = no_entry (is_entry t) e in
    let entries : entry_count (ts ++ t ∷ []) ≡ entry_count ts = omega (arith, entries_last ts t, none) in
    let marks : mark_count script (ts ++ t ∷ []) ≡ mark_count script ts = omega (arith, marks_last script ts t, m) in
    let staged : staged_count (ts ++ t ∷ []) ≡ staged_count ts = omega (arith, staged_last ts t, s) in
    λ i. record { entries = entries i; marks = marks i; staged = staged i }

pub counts_of-other : (script : Script) (ts : List Turn) (t : Turn) → is_entry t ≡ false
    → counts_of script (ts ++ t ∷ []) ≡ counts_of script ts
counts_of-other script ts (Refused call) e = nothing script ts (Refused call) refl refl refl
counts_of-other script ts (Passed call) e = nothing script ts (Passed call) refl refl refl
counts_of-other script ts (Flushed call) e = nothing script ts (Flushed call) refl refl refl
counts_of-other script ts (Asked call ask used may_pend) e =
    nothing script ts (Asked call ask used may_pend) refl refl refl
counts_of-other script ts (Item call item ends play bound) e = absurd (cc e)
