-- Why bytes are not written over those that are not in use, by what is kept of the past that a context asks.
use Rattle.std.proofs.Common.{◌≡◌, ℕ, ◌+◌, Bool, true, false, not, ◌&&◌, ◌||◌, List, [], ◌∷◌, length, Option, Some, refl, ap, subst, ◌∙◌}
use Rattle.std.specs.Prelude.{◌==◌, nat_lt, is_some, IsSome, if◌then◌else◌}
use Rattle.std.specs.List.{list_any}
use Rattle.std.proofs.lemmas.Bool.{eq-eqb, ne_eqb}
use Rattle.dx_types.specs.declared.refusal.Refusal.{Refusal}
use Rattle.dx_types.specs.declared.refusal.Refusal.TheVariants.{FirstMapNotDiscard, InUse, NotMappable, OutOfRange, UnknownId, WrongContext}
use Rattle.dx_types.specs.declared.shape.Shape.{Shape}
use Rattle.d3d_model.specs.Binding.{default_bindings}
use Rattle.d3d_model.specs.Check.{Check, first_failed}
use Rattle.d3d_model.specs.D3dState.{Objects, buffer_of, context_of}
use Rattle.d3d_model.specs.Resource.{is_dynamic, is_one, is_staging, size_of}
use Rattle.d3d_model.specs.Past.{Deed, Past, makes, then_done, was_discarded}
use Rattle.d3d_model.specs.Stream.{deeds_of_list, past_of_list}
use Rattle.d3d_model.specs.Verdict.{in_use, map_write_checks, no_overwrite_checks}
use Rattle.d3d_model.proofs.Pasts.{list_makes_none}
use Rattle.d3d_uses.specs.Summary.{Summarises, Uses, was_made}
use Rattle.d3d_checks.specs.Asked.{asked_past, passes, write_checks}
use Rattle.d3d_checks.specs.Accepted.{Tells}

or_none : (a b : Bool) → a || b ≡ false → (a ≡ false) × (b ≡ false)
or_none true b e = absurd cc
or_none false b e = (refl, e)

none_more : (a b : Bool) → a ≡ false → b ≡ false → a || b ≡ false
none_more true b e f = absurd cc
none_more false b e f = f

made_then : (n : ℕ) (past : Past) (ds : List Deed) (res : ℕ) → was_made past res ≡ false → list_any (makes res) ds ≡ false → was_made (then_done n past ds) res ≡ false
unfolding then_done
made_then n past [] res e f = e
made_then n past (d ∷ ds) res e f =
    let h = or_none (makes res d) (list_any (makes res) ds) f in
    made_then n (record { call = n; deed = d } ∷ past) ds res (none_more (makes res d) (was_made past res) h.0 e) h.1

-- the calls of an open list make no buffer
pub list_made_none : (o : Objects) (x res : ℕ) → was_made (past_of_list o (context_of o x).recorded) res ≡ false
list_made_none o x res = made_then 0 [] (deeds_of_list o (context_of o x).recorded) res refl (list_makes_none res o default_bindings (context_of o x).recorded)

-- what a context asks is the past so far, or that of its open list
pub asked_here : (past : Past) (o : Objects) (x : ℕ) → x ≡ 0 → asked_past past o x ≡ past
asked_here past o x e = ap (λ b. if b then past else past_of_list o (context_of o x).recorded) (eq-eqb x 0 e)

pub asked_there : (past : Past) (o : Objects) (x : ℕ) → (x ≡ 0 → ⊥) → asked_past past o x ≡ past_of_list o (context_of o x).recorded
asked_there past o x e = ap (λ b. if b then past else past_of_list o (context_of o x).recorded) (ne_eqb x 0 e)

pub checks_here : (o : Objects) (past : Past) (x res offset : ℕ) (bytes : List ℕ) (r : Option Refusal) → x ≡ 0 → r ≡ first_failed ((in_use past res offset bytes, InUse) ∷ [])
    → r ≡ first_failed (no_overwrite_checks o past x res offset bytes)
checks_here o past x res offset bytes r e is =
    let own = past_of_list o (context_of o x).recorded in
    is ∙ rw (eq-eqb x 0 e) refl

pub checks_discarded : (o : Objects) (past : Past) (x res offset : ℕ) (bytes : List ℕ) (r : Option Refusal) → (x ≡ 0 → ⊥) → was_discarded (past_of_list o (context_of o x).recorded) res ≡ true
    → r ≡ first_failed ((in_use (past_of_list o (context_of o x).recorded) res offset bytes, InUse) ∷ [])
    → r ≡ first_failed (no_overwrite_checks o past x res offset bytes)
checks_discarded o past x res offset bytes r e discarded is = is ∙ rw (ne_eqb x 0 e, discarded) refl

pub checks_first : (o : Objects) (past : Past) (x res offset : ℕ) (bytes : List ℕ) → (x ≡ 0 → ⊥) → was_discarded (past_of_list o (context_of o x).recorded) res ≡ false
    → Some FirstMapNotDiscard ≡ first_failed (no_overwrite_checks o past x res offset bytes)
checks_first o past x res offset bytes e discarded = rw (ne_eqb x 0 e, discarded) refl

-- a check that passes changes no answer
pub behind : (b : Bool) (why : Refusal) (rest : List Check) (r : Option Refusal) → b ≡ false → r ≡ first_failed rest → r ≡ first_failed ((b, why) ∷ rest)
behind true why rest r e is = absurd cc
behind false why rest r e is = is

abbrev not_mappable_in : Shape → ℕ → Bool
not_mappable_in s mode = nat_lt 2 mode || (nat_lt mode 2 && not (is_dynamic s.usage)) || ((mode == 2) && not (is_staging s.usage))

-- where the checks of the mode, the context and the range pass, what is in use decides
pub write_passes : (s : Shape) (o : Objects) (past : Past) (x res mode offset : ℕ) (bytes : List ℕ) (r : Option Refusal) → not_mappable_in s mode ≡ false → (mode == 2) && not (x == 0) ≡ false
    → passes s offset (length bytes) ≡ false → r ≡ first_failed (if mode == 1 then no_overwrite_checks o past x res offset bytes else [])
    → r ≡ first_failed (write_checks s o past x res mode offset bytes)
write_passes s o past x res mode offset bytes r a b c is =
    let rest : List Check = if mode == 1 then no_overwrite_checks o past x res offset bytes else [] in
    behind (not_mappable_in s mode) NotMappable (((mode == 2) && not (x == 0), WrongContext) ∷ (passes s offset (length bytes), OutOfRange) ∷ rest) r a
    (behind ((mode == 2) && not (x == 0)) WrongContext ((passes s offset (length bytes), OutOfRange) ∷ rest) r b
    (behind (passes s offset (length bytes)) OutOfRange rest r c is))

pub write_known : (o : Objects) (past : Past) (x res mode offset : ℕ) (bytes : List ℕ) (s : Shape) (r : Option Refusal) → Some s ≡ buffer_of o res
    → r ≡ first_failed (write_checks s o past x res mode offset bytes) → r ≡ first_failed (map_write_checks o past x res mode offset bytes)
write_known o past x res mode offset bytes s r live is =
    is
    ∙ ap (λ (b : Option Shape).
    first_failed
    ((not (is_some b), UnknownId)
    ∷ (nat_lt 2 mode || (nat_lt mode 2 && not (is_one b (λ t. is_dynamic t.usage))) || ((mode == 2) && not (is_one b (λ t. is_staging t.usage))), NotMappable)
    ∷ ((mode == 2) && not (x == 0), WrongContext)
    ∷ (nat_lt (size_of b) (offset + length bytes), OutOfRange)
    ∷ (if mode == 1 then no_overwrite_checks o past x res offset bytes else [])))
    live

-- what is kept of a live buffer's past
pub summary_of : (o : Objects) (res : ℕ) (s : Shape) (past : Past) (uses : Uses) → Some s ≡ buffer_of o res → Tells past o uses → Summarises past uses res
summary_of o res s past uses live tells = tells res (subst (λ (b : Option Shape). IsSome b) live refl)
