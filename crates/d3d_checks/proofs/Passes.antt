-- A call's own checks and its verdict, and which creations have a shader.
use Rattle.std.proofs.Common.{◌≡◌, ℕ, ◌<◌, Bool, true, false, not, ◌&&◌, ◌||◌, List, [], ◌∷◌, ◌++◌, Option, Some, None, refl, sym, ap, ◌∙◌, arith}
use Rattle.std.specs.Prelude.{◌==◌, nat_lt, is_some, if◌then◌else◌}
use Rattle.std.proofs.lemmas.Bool.{eqb-true, ltb-false}
use Rattle.std.specs.Option.{option_and_then, option_map_or}
use Rattle.dx_types.specs.declared.refusal.Refusal.{Refusal}
use Rattle.dx_types.specs.declared.refusal.Refusal.TheVariants.{TooMuchMemory, WrongContext}
use Rattle.call_log.specs.Call.{Call, Issued}
use Rattle.d3d_model.specs.Check.{Check, first_failed}
use Rattle.d3d_model.specs.D3dState.{Objects, Shader, context_of}
use Rattle.d3d_model.specs.Stream.{past_of_list}
use Rattle.d3d_model.specs.Shader.{decodes}
use Rattle.d3d_model.specs.Verdict.{Place, OnDevice, OnImmediate, OnEach, OnDeferred, call_checks, is_too_long, is_wrong_at, place_of, verdict}
use Rattle.d3d_model.specs.Past.{Past}
use Rattle.d3d_checks.specs.Asked.{asked_past, refusal_on}
use Rattle.d3d_checks.specs.Accepted.{Tells, is_recorded}
use Rattle.d3d_uses.specs.Summary.{Uses}
use Rattle.d3d_checks.specs.Created.{shader_made, spells_shader, token_words}
use Rattle.d3d_state.specs.Shaders.{shader_from}

right_none : (a b : Bool) → a || b ≡ false → b ≡ false
right_none true b e = absurd cc
right_none false b e = e

not_false : (b : Bool) → not b ≡ false → b ≡ true
not_false true e = refl
not_false false e = absurd cc

none_but : (x : ℕ) → not (x == 0) ≡ false → x ≡ 0
none_but x e = eqb-true x 0 (not_false (x == 0) e)

-- a last check that passes changes no answer
pub unended : (cs : List Check) (why : Refusal) → first_failed (cs ++ (false, why) ∷ []) ≡ first_failed cs
unended [] why = refl
unended ((true, own) ∷ cs) why = refl
unended ((false, own) ∷ cs) why = unended cs why

-- a check that fails before the last one decides
pub ends_before : (cs : List Check) (why : Refusal) (last : Check) → first_failed cs ≡ Some why → first_failed (cs ++ last ∷ []) ≡ Some why
ends_before [] why last e = absurd cc
ends_before ((true, own) ∷ cs) why last e = e
ends_before ((false, own) ∷ cs) why last e = ends_before cs why last e

-- where none fails before it, the last one decides
pub ends_at : (cs : List Check) (b : Bool) (why : Refusal) → first_failed cs ≡ None → first_failed (cs ++ (b, why) ∷ []) ≡ (if b then Some why else None)
ends_at [] b why e = refl
ends_at ((true, own) ∷ cs) b why e = absurd cc
ends_at ((false, own) ∷ cs) b why e = ends_at cs b why e

-- ---- a verdict, from the checks of the context, of the call and of the open list's length

pub verdict_wrong : (o : Objects) (past : Past) (x : ℕ) (c : Call) → is_wrong_at (place_of c) x ≡ true → Some WrongContext ≡ verdict o past (record { context = x; call = c })
verdict_wrong o past x c wrong = rw wrong refl

pub verdict_own : (o : Objects) (past : Past) (x : ℕ) (c : Call) (why : Refusal) → is_wrong_at (place_of c) x ≡ false → Some why ≡ refusal_on o past x c
    → Some why ≡ verdict o past (record { context = x; call = c })
verdict_own o past x c why wrong own = rw wrong (sym (ends_before (call_checks o past x c) why (is_too_long o x (place_of c), TooMuchMemory) (sym own)))

pub verdict_last : (o : Objects) (past : Past) (x : ℕ) (c : Call) (long : Bool) → is_wrong_at (place_of c) x ≡ false → None ≡ refusal_on o past x c → long ≡ is_too_long o x (place_of c)
    → (if long then Some TooMuchMemory else None) ≡ verdict o past (record { context = x; call = c })
verdict_last o past x c long wrong own is =
    rw wrong (ap (λ b. if b then Some TooMuchMemory else None) is ∙ sym (ends_at (call_checks o past x c) (is_too_long o x (place_of c)) TooMuchMemory (sym own)))

-- a context on which a call may stand is one of those that there are
pub stands_on : (p : Place) (x : ℕ) → is_wrong_at p x ≡ false → x < 17
stands_on OnDevice x e = omega (arith, none_but x e)
stands_on OnImmediate x e = omega (arith, none_but x e)
stands_on OnEach x e = omega (arith, ltb-false 16 x e)
stands_on OnDeferred x e = omega (arith, ltb-false 16 x (right_none (x == 0) (nat_lt 16 x) e))

immediate : (a b : Bool) → not a && not b ≡ false → b ≡ false → a ≡ true
immediate true b e h = refl
immediate false true e h = absurd cc
immediate false false e h = absurd cc

-- a call that no deferred context records stands on the immediate one, if it may stand where it does
pub stands_here : (i : Issued) → is_recorded i ≡ false → is_wrong_at (place_of i.call) i.context ≡ false → i.context == 0 ≡ true
stands_here i built e = immediate (i.context == 0) (is_wrong_at (place_of i.call) i.context) built e

refuses_wrong : (wrong : Bool) (rest : List Check) → None ≡ first_failed ((wrong, WrongContext) ∷ rest) → wrong ≡ false
refuses_wrong true rest e = absurd cc
refuses_wrong false rest e = refl

-- such a call is on the immediate context where it is accepted
pub on_immediate : (o : Objects) (past : Past) (i : Issued) → is_recorded i ≡ false → None ≡ verdict o past i → i.context ≡ 0
on_immediate o past i built v =
    eqb-true i.context 0 (stands_here i built
    (refuses_wrong (is_wrong_at (place_of i.call) i.context) (call_checks o past i.context i.call ++ (is_too_long o i.context (place_of i.call), TooMuchMemory) ∷ []) v))

tells_if : (b : Bool) (past own : Past) (o : Objects) (uses : Uses) → b ≡ true → Tells past o uses → Tells (if b then past else own) o uses
tells_if true past own o uses e h = h
tells_if false past own o uses e h = absurd cc

-- what it asks of the past is asked of all calls so far
pub tells_here : (o : Objects) (past : Past) (uses : Uses) (i : Issued) → is_recorded i ≡ false → Tells past o uses → is_wrong_at (place_of i.call) i.context ≡ false → Tells (asked_past past o i.context) o uses
tells_here o past uses i built h e = tells_if (i.context == 0) past (past_of_list o (context_of o i.context).recorded) o uses (stands_here i built e) h

spelled_if : (s : Shader) (b : Bool) → is_some (if b then Some s else None) ≡ b
spelled_if s true = refl
spelled_if s false = refl

spells_option : (n : ℕ) (words : Option (List ℕ)) → is_some (option_and_then (shader_from n) words) ≡ option_map_or decodes words false
spells_option n None = refl
spells_option n (Some words) = spelled_if (record { call = n; words = words }) (decodes words)

-- whether there is a shader tells whether the call creates one whose token bytes spell one
pub is_spelled : (n : ℕ) (c : Call) (shader : Option Shader) → shader ≡ shader_made n c → is_some shader ≡ spells_shader c
is_spelled n c shader e = ap is_some e ∙ spells_option n (token_words c)
