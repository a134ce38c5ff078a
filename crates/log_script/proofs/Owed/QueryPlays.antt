-- Turns that mark no query: all that are no Begin and no End of one that counts.
use Rattle.std.proofs.Common.{◌≡◌, ℕ, ◌+◌, Bool, true, false, cond, List, [], ◌∷◌, ◌++◌, length, Option, Some, None}
use Rattle.std.proofs.Common.{refl, ap, ◌∙◌, append-nil}
use Rattle.std.specs.Prelude.{◌==◌, if◌then◌else◌}
use Rattle.dx_types.specs.declared.range.Range.{Range}
use Rattle.vk_types.specs.declared.message.QueryMark.{QueryMark}
use Rattle.vk_types.specs.declared.command.Work.{Work}
use Rattle.call_log.specs.Call as calls
use Rattle.call_log.specs.Call.{Call}
use Rattle.d3d_model.specs.Binding.{Bindings, BoundView, Predicate, Never}
use Rattle.d3d_model.specs.D3dState.{Objects, bound_view}
use Rattle.d3d_model.specs.Past.{Past}
use Rattle.core_model.specs.Script.{Play, Create, Discard, No_overwrite, Stage, Command, Destroy, Create_shader}
use Rattle.core_model.specs.Script.{Mark_query, Set_state, Ask, Turn, Refused, Passed, Flushed, Asked, Item}
use Rattle.core_model.specs.Chunking.{call_of}
use Rattle.core_model.specs.Lawful.{ends_query, last_end, is_begun}
use Rattle.core_model.specs.Queries.{commands_in, turn_marks, marks_from}
use Rattle.core_model.proofs.Queries.QueryMarks.{marks_append}
use Rattle.log_script.specs.Makers.{bytes_from}
use Rattle.log_script.specs.Plays.{skips, predicated, staged, clear, clears, maps, play_of, making_of}

-- the play marks no query
abbrev pub is_quiet : Play → Bool
is_quiet (Create buffer bytes) = true
is_quiet (Discard buffer from bytes) = true
is_quiet (No_overwrite buffer from bytes) = true
is_quiet (Stage bytes target skip) = true
is_quiet (Command w skip) = true
is_quiet (Destroy buffer) = true
is_quiet Create_shader = true
is_quiet (Mark_query query begins) = false
is_quiet Set_state = true

-- nor does the turn
pub record Quiet (t : Turn) : Type 0 where
  pub marks : (n : ℕ) → turn_marks n t ≡ []
  pub ends : (q : ℕ) → ends_query q t ≡ false

pub quiet_item : (call item : ℕ) (ends : Bool) (play : Play) (bound : List Range) → is_quiet play ≡ true
    → Quiet (Item call item ends play bound)
quiet_item call item ends (Create buffer bytes) bound e = record { marks = λ n. refl; ends = λ q. refl }
quiet_item call item ends (Discard buffer from bytes) bound e = record { marks = λ n. refl; ends = λ q. refl }
quiet_item call item ends (No_overwrite buffer from bytes) bound e = record { marks = λ n. refl; ends = λ q. refl }
quiet_item call item ends (Stage bytes target skip) bound e = record { marks = λ n. refl; ends = λ q. refl }
quiet_item call item ends (Command w skip) bound e = record { marks = λ n. refl; ends = λ q. refl }
quiet_item call item ends (Destroy buffer) bound e = record { marks = λ n. refl; ends = λ q. refl }
quiet_item call item ends Create_shader bound e = record { marks = λ n. refl; ends = λ q. refl }
quiet_item call item ends (Mark_query query begins) bound e = absurd cc
quiet_item call item ends Set_state bound e = record { marks = λ n. refl; ends = λ q. refl }

pub quiet_refused : (n : ℕ) → Quiet (Refused n)
quiet_refused n = record { marks = λ n. refl; ends = λ q. refl }

pub quiet_passed : (n : ℕ) → Quiet (Passed n)
quiet_passed n = record { marks = λ n. refl; ends = λ q. refl }

pub quiet_flushed : (n : ℕ) → Quiet (Flushed n)
quiet_flushed n = record { marks = λ n. refl; ends = λ q. refl }

pub quiet_asked : (n : ℕ) (ask : Ask) (used : Option ℕ) (may_pend : Bool) → Quiet (Asked n ask used may_pend)
quiet_asked n ask used may_pend = record { marks = λ n. refl; ends = λ q. refl }

-- ---- plays of calls

if_quiet : (b : Bool) (x y : Play) → is_quiet x ≡ true → is_quiet y ≡ true → is_quiet (if b then x else y) ≡ true
if_quiet true x y e f = e
if_quiet false x y e f = f

predicated_quiet : (past : Past) (p : Predicate) (w : Work) → is_quiet (predicated past p w) ≡ true
predicated_quiet past p w = if_quiet (skips p) Set_state _ refl refl

staged_quiet : (past : Past) (p : Predicate) (bytes : List ℕ) (target : Range)
    → is_quiet (staged past p bytes target) ≡ true
staged_quiet past p [] target = refl
staged_quiet past p (b ∷ bs) target = if_quiet (skips p) _ _ refl refl

clears_quiet : (past : Past) (p : Predicate) (v : Option BoundView) (v0 v1 v2 v3 : ℕ)
    → is_quiet (clears past p v v0 v1 v2 v3) ≡ true
clears_quiet past p None v0 v1 v2 v3 = refl
clears_quiet past p (Some v) v0 v1 v2 v3 = predicated_quiet past p (clear past v.shape v0 v1 v2 v3)

maps_quiet : (past : Past) (res mode offset : ℕ) (bytes : List ℕ) → is_quiet (maps past res mode offset bytes) ≡ true
maps_quiet past res mode offset bytes = if_quiet (mode == 0) _ _ refl
    (if_quiet (mode == 1) _ _ refl (staged_quiet past Never bytes (bytes_from past res offset (length bytes))))

-- of all calls that may stand in a list, but for a Begin and an End
abbrev pub PlayQuiet : Past → Objects → Bindings → Call → Type 0
PlayQuiet past o b (calls.Begin query) = Unit {0}
PlayQuiet past o b (calls.EndQuery query) = Unit {0}
PlayQuiet past o b c = is_quiet (play_of past o b c) ≡ true

pub play_quiet : (past : Past) (o : Objects) (b : Bindings) (c : Call) → PlayQuiet past o b c
play_quiet past o b (calls.Dispatch x y z) = predicated_quiet past b.predicate _
play_quiet past o b (calls.DispatchIndirect res offset) = predicated_quiet past b.predicate _
play_quiet past o b (calls.CopyRegion target target_offset source source_offset len) =
    if_quiet (len == 0) _ _ refl (predicated_quiet past b.predicate _)
play_quiet past o b (calls.Copy target source) = predicated_quiet past b.predicate _
play_quiet past o b (calls.Update res offset bytes) = staged_quiet past b.predicate bytes _
play_quiet past o b (calls.ClearUav view v0 v1 v2 v3) = clears_quiet past b.predicate (bound_view o view) v0 v1 v2 v3
play_quiet past o b (calls.Begin query) = tt
play_quiet past o b (calls.EndQuery query) = tt
play_quiet past o b (calls.MapWrite res mode offset bytes) = maps_quiet past res mode offset bytes
play_quiet past o b _ = refl

-- of all calls of the device
pub making_quiet : (n : ℕ) (past : Past) (c : Call) → is_quiet (making_of n past c) ≡ true
making_quiet n past (calls.Buffer id size usage bind misc stride bytes) = refl
making_quiet n past (calls.CreateShader id words) = refl
making_quiet n past (calls.Destroy class id) = if_quiet (class == 1) _ _ refl refl
making_quiet n past _ = refl

-- ---- one turn more

begun_append : (q : ℕ) (xs ys : List QueryMark) (was : Bool)
    → is_begun q (xs ++ ys) was ≡ is_begun q ys (is_begun q xs was)
begun_append q [] ys was = refl
begun_append q (x ∷ xs) ys was = begun_append q xs ys (cond (x.query == q) x.begins was)

pub begun_last : (q : ℕ) (front : List Turn) (t : Turn) → is_begun q (marks_from 0 (front ++ t ∷ [])) false
    ≡ is_begun q (turn_marks (0 + commands_in front) t) (is_begun q (marks_from 0 front) false)
begun_last q front t =
    ap (λ ms. is_begun q ms false) (marks_append 0 front (t ∷ []))
    ∙ begun_append q (marks_from 0 front) (turn_marks (0 + commands_in front) t ++ []) false
    ∙ ap (λ ms. is_begun q ms (is_begun q (marks_from 0 front) false))
    (append-nil (turn_marks (0 + commands_in front) t))

pub end_last : (q : ℕ) (front : List Turn) (t : Turn) (found : Option ℕ)
    → last_end q (front ++ t ∷ []) found ≡ cond (ends_query q t) (Some (call_of t)) (last_end q front found)
end_last q [] t found = refl
end_last q (f ∷ front) t found = end_last q front t (cond (ends_query q f) (Some (call_of f)) found)

pub begun_quiet : (q : ℕ) (front : List Turn) (t : Turn) → Quiet t
    → is_begun q (marks_from 0 (front ++ t ∷ [])) false ≡ is_begun q (marks_from 0 front) false
begun_quiet q front t h = begun_last q front t ∙ ap (λ ms. is_begun q ms (is_begun q (marks_from 0 front) false))
    (h.marks (0 + commands_in front))

pub end_quiet : (q : ℕ) (front : List Turn) (t : Turn) → Quiet t
    → last_end q (front ++ t ∷ []) None ≡ last_end q front None
end_quiet q front t h = end_last q front t None ∙ ap (λ b. cond b (Some (call_of t)) (last_end q front None)) (h.ends q)
