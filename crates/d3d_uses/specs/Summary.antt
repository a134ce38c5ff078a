-- What is kept in place of the past: of each buffer the last call that binds some of it, the bytes that are bound, and
-- whether it was discarded.
use Rattle.std.specs.Prelude.{◌≡◌, ◌≢◌, ℕ, Bool, false, List, [], ◌∷◌, Option, None, Some, refl}
use Rattle.std.specs.List.{list_any}
use Rattle.std.specs.Coded.{Coded, code_by, coded×, coded_ℕ, coded_bool, coded_list, coded_option}
use Rattle.dx_types.specs.declared.range.ResRange.{ResRange}
use Rattle.base_lemmas.specs.IdMap as ids
use Rattle.base_lemmas.specs.IdMap.{IdMap}
use Rattle.d3d_model.specs.Past.{Past, Deed, Makes, then_done, makes, is_bound, last_binding, was_discarded}
use Rattle.d3d_uses.specs.Ranges.{Ranges, Adds, meet_any}
use Rattle.d3d_uses.specs.declared.held.Held.{Held}

-- what is kept of each buffer of which something is kept
abbrev pub Uses : Type 0
Uses = IdMap Held

abbrev pub held_code : Coded Held
held_code = code_by (Option ℕ × (Bool × Ranges)) (coded× (coded_option coded_ℕ) (coded× coded_bool (coded_list (coded× coded_ℕ coded_ℕ))))
    (λ h. (h.last, (h.discarded, h.bound))) (λ p. record { last = p.0; discarded = p.1.0; bound = p.1.1 }) (λ _. refl)

abbrev pub uses_code : Coded Uses
uses_code = ids.code held_code

-- no call binds the buffer, and none discards it
abbrev pub untouched : Held
untouched = record { last = None; discarded = false; bound = [] }

abbrev pub held_if : Option Held → Held
held_if None = untouched
held_if (Some h) = h

-- what is kept of a buffer; of one of which nothing is kept, that no call touches it
abbrev pub held_at : Uses → ℕ → Held
held_at uses res = held_if (ids.get uses res)

-- a buffer was made
abbrev pub was_made : Past → ℕ → Bool
was_made past res = list_any (λ d. makes res d.deed) past

-- What is kept of a buffer answers what is asked of the past: its last use, whether a byte of a range is bound, and,
-- where the past doesn't make it, as that of a list doesn't, whether it was discarded.
pub record Stands (past : Past) (res : ℕ) (h : Held) : Type 0 where
  pub last : h.last ≡ last_binding past res
  pub bound : (from to : ℕ) → meet_any h.bound from to ≡ is_bound past (record { res = res; from = from; to = to })
  pub discarded : was_made past res ≡ false → h.discarded ≡ was_discarded past res

-- it does so for this buffer
abbrev pub Summarises : Past → Uses → ℕ → Type 0
Summarises past uses res = Stands past res (held_at uses res)

-- what is kept of a buffer, after a call binds its bytes from one place to another
pub record BindsMore (old : Held) (call from to : ℕ) (new : Held) : Type 0 where
  pub last : new.last ≡ Some call
  pub discarded : new.discarded ≡ old.discarded
  pub bound : Adds old.bound from to new.bound

-- after a call binds a range: of its buffer more, of each other the same
abbrev pub BindsAt : Uses → ℕ → ResRange → Uses → Type 0
BindsAt old call range new = (h : Held) × (new ≡ ids.insert old range.res h) × BindsMore (held_at old range.res) call range.from range.to h

-- What summarised a past still does so of it and a call's deeds.
abbrev pub Records : Uses → ℕ → List Deed → Uses → Type 0
Records old call deeds new = (past : Past) (res : ℕ) → Summarises past old res → Summarises (then_done call past deeds) new res

-- What summarised a past of all buffers but one still does so of it and the making of that one.
abbrev pub RecordsMaking : Uses → ℕ → Uses → Type 0
RecordsMaking old id new = (call : ℕ) (past : Past) (res : ℕ) → (res ≢ id → Summarises past old res) → Summarises (then_done call past (Makes id ∷ [])) new res

-- What summarised a past still does so of all buffers but one.
abbrev pub Forgets : Uses → ℕ → Uses → Type 0
Forgets old id new = (past : Past) (res : ℕ) → res ≢ id → Summarises past old res → Summarises past new res
