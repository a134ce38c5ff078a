-- Each live shader was created by an item that stands among the turns of the calls so far.
use Rattle.std.proofs.Common.{◌≡◌, ℕ, zero, suc, ◌==◌, Bool, true, false, ◌||◌, List, [], ◌∷◌, ◌++◌, Option, Some}
use Rattle.std.proofs.Common.{None, refl, sym, ap, ◌∙◌, subst, inl, inr, append_assoc}
use Rattle.std.specs.Prelude.{slice_get, if◌then◌else◌}
use Rattle.std.proofs.lemmas.Bool.{eq-eqb}
use Rattle.std.proofs.lemmas.List.Folds.{list_any-append}
use Rattle.dx_types.specs.declared.refusal.Refusal.{Refusal}
use Rattle.call_log.specs.Call as calls
use Rattle.call_log.specs.Call.{Call, Issued}
use Rattle.base_lemmas.specs.IdMap.{IdMap, get, remove, empty}
use Rattle.d3d_model.specs.D3dState.{Objects, Shader, Numbered, calls_of_list}
use Rattle.d3d_model.specs.Verdict.{Place, OnDevice, OnImmediate, OnEach, OnDeferred, place_of}
use Rattle.d3d_model.specs.Effect.{made_by, played, played_all, list_start, recorded_on, immediate_effect, effect_at}
use Rattle.d3d_model.specs.InOrder.{State, unless_refused, verdict_in, after_call, after_calls}
use Rattle.base_lemmas.proofs.Maps.{get-empty}
use Rattle.core_model.specs.Script.{Turn}
use Rattle.core_model.specs.OtherParts.{created_by, created, is_among}
use Rattle.log_script.specs.Turns.{turns_by_place, turns_unless, turns_in}
use Rattle.log_script.specs.LogScript.{turns_upto}
use Rattle.log_script.proofs.Owed.BufferMakers.{one_removed}
use Rattle.log_script.proofs.Owed.FittingLogs.{found_none}
use Rattle.log_script.proofs.Owed.FittingStates.{inserted}

created-append : (xs ys : List Turn) → created (xs ++ ys) ≡ created xs ++ created ys
created-append [] ys = refl
created-append (x ∷ xs) ys = ap (λ l. created_by x ++ l) (created-append xs ys)
    ∙ sym (append_assoc (created_by x) (created xs) (created ys))

either_left : (a b : Bool) → a ≡ true → a || b ≡ true
either_left true b e = refl
either_left false b e = absurd cc

either_right : (a b : Bool) → b ≡ true → a || b ≡ true
either_right true b e = refl
either_right false b e = e

-- what was created among some turns is among them with others behind
pub still_created : (k : ℕ) (xs ys : List Turn) → is_among k (created xs) ≡ true
    → is_among k (created (xs ++ ys)) ≡ true
still_created k xs ys h =
    ap (is_among k) (created-append xs ys) ∙ list_any-append (λ m. m == k) (created xs) (created ys)
    ∙ either_left (is_among k (created xs)) (is_among k (created ys)) h

then_created : (k : ℕ) (xs ys : List Turn) → is_among k (created ys) ≡ true → is_among k (created (xs ++ ys)) ≡ true
then_created k xs ys h =
    ap (is_among k) (created-append xs ys) ∙ list_any-append (λ m. m == k) (created xs) (created ys)
    ∙ either_right (is_among k (created xs)) (is_among k (created ys)) h

abbrev pub ShadersCreated : List Turn → IdMap Shader → Type 0
ShadersCreated ts shaders = (id : ℕ) (s : Shader) → get shaders id ≡ Some s → is_among s.call (created ts) ≡ true

module _ (front : List Turn) (n : ℕ) where
  more : (ts : List Turn) (shaders : IdMap Shader) → ShadersCreated front shaders → ShadersCreated (front ++ ts) shaders
  more ts shaders h id s e = still_created s.call front ts (h id s e)

  removed : (t1 t2 t3 t4 : Bool) (ts : List Turn) (o : Objects) (id : ℕ) → ShadersCreated ts o.shaders
      → ShadersCreated ts (if t1 then record o { buffers = remove o.buffers id } else if t2 then record o {
        views =
            remove o.views id;
      } else if t3 then record o { shaders = remove o.shaders id } else if t4 then record o
      { queries = remove o.queries id } else record o { lists = remove o.lists id }).shaders
  removed true t2 t3 t4 ts o id h = h
  removed false true t3 t4 ts o id h = h
  removed false false true t4 ts o id h = λ q s e. h q s (one_removed o.shaders id q s e)
  removed false false false true ts o id h = h
  removed false false false false ts o id h = h

  same_shaders : (o : Objects) (cs : List Numbered) → (played_all n o cs).shaders ≡ o.shaders
  same_shaders o [] = refl
  same_shaders o (c ∷ cs) = same_shaders (played n o c.call) cs

  making : (s : State) (x : ℕ) (c : Call) → ShadersCreated front s.objects.shaders
      → ShadersCreated (front ++ turns_by_place OnDevice n s x c) (made_by n s.objects c).shaders
  making s x (calls.CreateShader id words) h = λ q w e. elim
      (inserted s.objects.shaders id (record { call = n; words = words }) q w e) [
        | inl same ↦
            let ts = turns_by_place OnDevice n s x (calls.CreateShader id words) in
            then_created w.call front ts (ap (λ (v : Shader). (n == v.call) || false) (sym same)
            ∙ ap (λ b. b || false) (eq-eqb n n refl))
        | inr old ↦ still_created w.call front _ (h q w old)
      ]
  making s x (calls.Buffer id size usage bind misc stride bytes) h = more _ s.objects.shaders h
  making s x (calls.View view res kind form components first count) h = more _ s.objects.shaders h
  making s x (calls.Query id sort) h = more _ s.objects.shaders h
  making s x (calls.Destroy class id) h =
      let ts = turns_by_place OnDevice n s x (calls.Destroy class id) in
      removed (class == 1) (class == 2) (class == 3) (class == 4) (front ++ ts) s.objects id
      (more ts s.objects.shaders h)
  making s x c h = more (turns_by_place OnDevice n s x c) s.objects.shaders h

  immediately : (ts : List Turn) (o : Objects) (c : Call) → ShadersCreated front o.shaders
      → ShadersCreated (front ++ ts) (immediate_effect n o c).shaders
  immediately ts o (calls.ExecuteList list flag) h = more ts
      (played_all n (list_start o) (calls_of_list o list)).shaders
      (subst (ShadersCreated front) (sym (same_shaders (list_start o) (calls_of_list o list))) h)
  immediately ts o _ h = more ts o.shaders h

  placed : (p : Place) (s : State) (x : ℕ) (c : Call) → ShadersCreated front s.objects.shaders
      → ShadersCreated (front ++ turns_by_place p n s x c) (effect_at p n s.objects x c).shaders
  placed OnDevice s x c h = making s x c h
  placed OnImmediate s x c h = immediately (turns_by_place OnImmediate n s x c) s.objects c h
  placed OnEach s x c h =
      let ts = turns_by_place OnEach n s x c in
      elim (x == 0) as
      (λ b. ShadersCreated (front ++ ts) (if b then played n s.objects c else recorded_on n s.objects x
      c).shaders) [ true ↦ more ts s.objects.shaders h | false ↦ more ts s.objects.shaders h ]
  placed OnDeferred s x c h = more (turns_by_place OnDeferred n s x c) s.objects.shaders h

  unless : (s : State) (i : Issued) (v : Option Refusal) → ShadersCreated front s.objects.shaders
      → ShadersCreated (front ++ turns_unless n s i v) (unless_refused n s i v).objects.shaders
  unless s i (Some why) h = more _ s.objects.shaders h
  unless s i None h = placed (place_of i.call) s i.context i.call h

  one_call : (s : State) (o : Option Issued) → ShadersCreated front s.objects.shaders
      → ShadersCreated (front ++ turns_in n s o) (after_call n s o).objects.shaders
  one_call s None h = more [] s.objects.shaders h
  one_call s (Some i) h = unless s i (verdict_in s i) h

pub all_created : (log : List Issued) (n : ℕ) → ShadersCreated (turns_upto log n) (after_calls log n).objects.shaders
unfolding after_calls turns_upto
all_created log zero = λ id s e. found_none (get (empty {X = Shader}) id) s (get-empty Shader id) e
all_created log (suc n) = one_call (turns_upto log n) (suc n) (after_calls log n) (slice_get log n) (all_created log n)
