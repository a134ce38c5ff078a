-- What is known of a call that is accepted.
use Rattle.std.proofs.Common.{◌≡◌, ℕ, ◌≤◌, ◌<◌, Bool, true, false, not, ◌||◌, List, [], ◌∷◌, ◌++◌, Option, Some, None, refl, sym, subst, ◌∙◌, arith}
use Rattle.std.proofs.lemmas.Bool.{eqb-true, leb-false}
use Rattle.std.specs.Prelude.{◌==◌, nat_lt, is_some, if◌then◌else◌}
use Rattle.std.proofs.lemmas.Bool.Decides.{nat_tests}
use Rattle.dx_types.specs.declared.refusal.Refusal.TheVariants.{IdInUse, BadUsage, BadSize, OutOfRange, TooMuchMemory, WrongContext}
use Rattle.dx_types.specs.declared.shape.Shape.{Shape}
use Rattle.call_log.specs.Call as calls
use Rattle.call_log.specs.Call.{Call}
use Rattle.d3d_model.specs.Check.{Check, first_failed, is_id}
use Rattle.d3d_model.specs.D3dState.{Objects, Shader, buffer_of}
use Rattle.d3d_model.specs.Effect.{list_of}
use Rattle.base_lemmas.specs.IdMap.{get}
use Rattle.d3d_model.specs.Resource.{is_one}
use Rattle.d3d_model.specs.Shader.{decodes}
use Rattle.d3d_model.specs.Verdict.{Place, OnDevice, OnImmediate, OnEach, OnDeferred, buffer_checks, call_checks, is_too_long, is_wrong_at, is_wrong_data, is_wrong_usage, place_of, unused_buffer, unused_view, unused_shader, unused_query, known_list}
use Rattle.d3d_model.specs.View.{view_end}
use Rattle.d3d_model.proofs.Checked.{Passed, all_passed, free_id}
use Rattle.d3d_model.proofs.Listed.{own_checks}
use Rattle.d3d_model.specs.Past.{Past}
use Rattle.d3d_checks.proofs.Passes.{stands_on, unended}
use Rattle.d3d_resources.specs.Creation.{table_checks, shape_of}
use Rattle.d3d_resources.proofs.CheckOrder.{whole_order}
use Rattle.d3d_views.proofs.Spans.{ends_inside}
use Rattle.d3d_checks.specs.Accepted.{Accepted}
use Rattle.d3d_checks.specs.Created.{shader_made}
use Rattle.d3d_checks.specs.NewViews.{view_call, described_by}
use Rattle.d3d_checks.specs.declared.new_view.NewView.{NewView}
use Rattle.d3d_effects.specs.Played.{SlotFits}

-- the checks behind one that passed
behind : (c : Check) (cs : List Check) → first_failed (c ∷ cs) ≡ None → first_failed cs ≡ None
behind (true, why) cs e = absurd cc
behind (false, why) cs e = e

behind_four : (a b c d : Check) (cs : List Check) → first_failed (a ∷ b ∷ c ∷ d ∷ cs) ≡ None → first_failed cs ≡ None
behind_four a b c d cs e = behind d cs (behind c (d ∷ cs) (behind b (c ∷ d ∷ cs) (behind a (b ∷ c ∷ d ∷ cs) e)))

-- the checks of a call of the immediate context, all of them
abbrev all_checks : Objects → Past → Call → List Check
all_checks o past c = (is_wrong_at (place_of c) 0, WrongContext) ∷ (call_checks o past 0 c ++ (is_too_long o 0 (place_of c), TooMuchMemory) ∷ [])

pub differs : (a b : ℕ) → (a ≡ b → ⊥) → a == b ≡ false
differs a b apart = grind (arith, nat_tests)

-- an accepted creation of a buffer passes the checks of the table
pub table_passes : (o : Objects) (id size usage bind misc stride : ℕ) (bytes : List ℕ) → Accepted o 0 (calls.Buffer id size usage bind misc stride bytes)
    → first_failed (table_checks o.buffers id (shape_of size usage bind misc stride)) ≡ None
table_passes o id size usage bind misc stride bytes a =
    behind_four (not (is_id id), OutOfRange) (is_some (get o.buffers id), IdInUse) (is_wrong_usage usage bytes, BadUsage) (is_wrong_data size bytes, BadSize)
    (table_checks o.buffers id (shape_of size usage bind misc stride))
    (sym (whole_order o id size usage bind misc stride bytes) ∙ sym (unended (buffer_checks o id size usage bind misc stride bytes) TooMuchMemory) ∙ a.passes)

outside_not : (o : Option Shape) (s : Shape) (test : Shape → Bool) → o ≡ Some s → is_one o test ≡ false → test s ≡ false
outside_not None s test e p = absurd cc
outside_not (Some t) s test e p = let same : t ≡ s = cc in rw (← same) p

-- an accepted view ends in its buffer
pub view_inside : (o : Objects) (s : Shape) (v : NewView) → buffer_of o v.res ≡ Some s → Accepted o 0 (view_call v) → view_end (described_by s v) ≤ s.size
view_inside o s v live a =
    let passed = rw live at (all_passed (all_checks o a.past (view_call v)) a.passes) in
    ends_inside v.first v.count (described_by s v).unit s.size passed.1.1.1.1.1.1.0

not_false : (b : Bool) → not b ≡ false → b ≡ true
not_false true e = refl
not_false false e = absurd cc

-- the token bytes of an accepted creation spell a shader
pub spells : (o : Objects) (id : ℕ) (words : List ℕ) → Accepted o 0 (calls.CreateShader id words) → decodes words ≡ true
spells o id words a =
    let passed = all_passed (all_checks o a.past (calls.CreateShader id words)) a.passes in
    not_false (decodes words) passed.1.1.1.0

made : (b : Bool) (s : Shader) → b ≡ true → (if b then Some s else None) ≡ Some s
made b s e = rw e refl

-- so there is a shader
pub made_some : (o : Objects) (n id : ℕ) (words : List ℕ) (shader : Option Shader) → Accepted o 0 (calls.CreateShader id words) → shader ≡ shader_made n (calls.CreateShader id words)
    → shader ≡ Some (record { call = n; words = words })
made_some o n id words shader a e = e ∙ made (decodes words) (record { call = n; words = words }) (spells o id words a)

-- a destruction that passes is of one of the five classes
class_known : (one two three four five : Bool) (a b c d l : List Check) (rest : List Check) → one ≡ false → two ≡ false → three ≡ false → four ≡ false → five ≡ false
    → first_failed ((if one then a else if two then b else if three then c else if four then d else if five then l else (true, BadUsage) ∷ []) ++ rest) ≡ None → ⊥
class_known true two three four five a b c d l rest e1 e2 e3 e4 e5 e = absurd cc
class_known false true three four five a b c d l rest e1 e2 e3 e4 e5 e = absurd cc
class_known false false true four five a b c d l rest e1 e2 e3 e4 e5 e = absurd cc
class_known false false false true five a b c d l rest e1 e2 e3 e4 e5 e = absurd cc
class_known false false false false true a b c d l rest e1 e2 e3 e4 e5 e = absurd cc
class_known false false false false false a b c d l rest e1 e2 e3 e4 e5 e = absurd cc

known_not : (class k : ℕ) → true ≡ (nat_lt class 1 || nat_lt 5 class) → 1 ≤ k → k ≤ 5 → class ≡ k → ⊥
known_not class k h least most e = absurd (grind (arith, nat_tests))

-- nothing is destroyed of a class that there is not
pub destroys_known : (o : Objects) (class id : ℕ) → Accepted o 0 (calls.Destroy class id)
    → true ≡ (nat_lt class 1 || nat_lt 5 class) → ⊥
destroys_known o class id a unknown =
    class_known (class == 1) (class == 2) (class == 3) (class == 4) (class == 5)
    (unused_buffer o id) (unused_view o id) (unused_shader o id) (unused_query o id) (known_list o id) ((false, TooMuchMemory) ∷ [])
    (differs class 1 (known_not class 1 unknown (omega arith) (omega arith))) (differs class 2 (known_not class 2 unknown (omega arith) (omega arith)))
    (differs class 3 (known_not class 3 unknown (omega arith) (omega arith))) (differs class 4 (known_not class 4 unknown (omega arith) (omega arith)))
    (differs class 5 (known_not class 5 unknown (omega arith) (omega arith))) a.passes

-- ---- where an accepted call stands

is_right : (o : Objects) (x : ℕ) (c : Call) → Accepted o x c → is_wrong_at (place_of c) x ≡ false
is_right o x c a =
    (all_passed ((is_wrong_at (place_of c) x, WrongContext) ∷ (call_checks o a.past x c ++ (is_too_long o x (place_of c), TooMuchMemory) ∷ [])) a.passes).0

-- it stands on one of the contexts
pub within : (o : Objects) (x : ℕ) (c : Call) → Accepted o x c → x < 17
within o x c a = stands_on (place_of c) x (is_right o x c a)

zero_on : (p : Place) (x : ℕ) → p ≡ OnDevice → is_wrong_at p x ≡ false → x ≡ 0
zero_on OnDevice x is e = eqb-true x 0 (not_false (x == 0) e)
zero_on OnImmediate x is e = absurd cc
zero_on OnEach x is e = absurd cc
zero_on OnDeferred x is e = absurd cc

-- a call of the device is of the immediate context
pub of_device : (o : Objects) (x : ℕ) (c : Call) → Accepted o x c → place_of c ≡ OnDevice → Accepted o 0 c
of_device o x c a is = subst (λ (y : ℕ). Accepted o y c) (zero_on (place_of c) x is (is_right o x c a)) a

-- ---- what it sets, and which list it finishes

pub slot_by : (o : Objects) (past : Past) (x : ℕ) (c : Call) → Passed (call_checks o past x c) → SlotFits c
slot_by o past x (calls.SetConstant slot res) p = omega (arith, leb-false 14 slot p.0)
slot_by o past x (calls.SetSrv slot view) p = omega (arith, leb-false 16 slot p.0)
slot_by o past x (calls.SetUav slot view) p = omega (arith, leb-false 8 slot p.0)
slot_by o past x _ p = tt

-- its slot is one of those that there are
pub slot_fits : (o : Objects) (x : ℕ) (c : Call) → Accepted o x c → SlotFits c
slot_fits o x c a = slot_by o a.past x c (own_checks o a.past x c a.passes)

free_by : (o : Objects) (past : Past) (x : ℕ) (c : Call) → place_of c ≡ OnDeferred → Passed (call_checks o past x c) → get o.lists (list_of c) ≡ None
free_by o past x (calls.FinishList list) is p = free_id (get o.lists list) p.1.0
free_by o past x _ is p = absurd cc

-- the list that it finishes is not live
pub list_free : (o : Objects) (x : ℕ) (c : Call) → Accepted o x c → place_of c ≡ OnDeferred → get o.lists (list_of c) ≡ None
list_free o x c a is = free_by o a.past x c is (own_checks o a.past x c a.passes)
