-- Plays that neither write memory at once nor make or destroy anything: what each call plays but a map for writing.
use Rattle.std.proofs.Common.{◌≡◌, ℕ, Bool, true, false, List, [], ◌∷◌, length, Option, Some, None, refl}
use Rattle.std.specs.Prelude.{◌==◌, if◌then◌else◌}
use Rattle.dx_types.specs.declared.range.Range.{Range}
use Rattle.vk_types.specs.declared.command.Groups.TheVariants as groups
use Rattle.vk_types.specs.declared.command.Work.{Work}
use Rattle.vk_types.specs.declared.command.Work.TheVariants as work
use Rattle.call_log.specs.Call as calls
use Rattle.call_log.specs.Call.{Call}
use Rattle.base_lemmas.specs.IdMap.{get}
use Rattle.d3d_model.specs.Binding.{Bindings, BoundView, Predicate}
use Rattle.d3d_model.specs.D3dState.{Objects, bound_view}
use Rattle.d3d_model.specs.Past.{Past}
use Rattle.core_model.specs.Script.{Play, Create, Discard, No_overwrite, Stage, Command, Destroy, Create_shader}
use Rattle.core_model.specs.Script.{Mark_query, Set_state}
use Rattle.log_script.specs.Makers.{bytes_from}
use Rattle.log_script.specs.Plays.{skips, condition, predicated, staged, dispatch, clear, clears, copies, whole}
use Rattle.log_script.specs.Plays.{counts_invocations, marks, play_of}

abbrev pub is_quiet : Play → Bool
is_quiet (Create buffer bytes) = false
is_quiet (Discard buffer from bytes) = false
is_quiet (No_overwrite buffer from bytes) = false
is_quiet (Stage bytes target skip) = true
is_quiet (Command w skip) = true
is_quiet (Destroy buffer) = false
is_quiet Create_shader = false
is_quiet (Mark_query query begins) = true
is_quiet Set_state = true

predicated_quiet : (past : Past) (p : Predicate) (w : Work) → is_quiet (predicated past p w) ≡ true
predicated_quiet past p w = elim (skips p) as (λ b. is_quiet (if b then Set_state else Command w (condition past p))
    ≡ true) [ true ↦ refl | false ↦ refl ]

pub staged_quiet : (past : Past) (p : Predicate) (bytes : List ℕ) (target : Range)
    → is_quiet (staged past p bytes target) ≡ true
staged_quiet past p [] target = refl
staged_quiet past p (b ∷ bs) target =
    elim (skips p) as
    (λ t. is_quiet (if t then Stage (b ∷ bs) None None else Stage (b ∷ bs) (Some target) (condition past p))
    ≡ true) [ true ↦ refl | false ↦ refl ]

clears_quiet : (past : Past) (p : Predicate) (v : Option BoundView) (v0 v1 v2 v3 : ℕ)
    → is_quiet (clears past p v v0 v1 v2 v3) ≡ true
clears_quiet past p None v0 v1 v2 v3 = refl
clears_quiet past p (Some v) v0 v1 v2 v3 = predicated_quiet past p (clear past v.shape v0 v1 v2 v3)

copies_quiet : (past : Past) (p : Predicate) (target target_offset source source_offset len : ℕ)
    → is_quiet (copies past p target target_offset source source_offset len) ≡ true
copies_quiet past p target target_offset source source_offset len =
    let copy : Work = work.Copy (bytes_from past source source_offset len) (bytes_from past target target_offset len) in
    elim (len == 0) as (λ b. is_quiet (if b then Set_state else predicated past p copy) ≡ true)
    [ true ↦ refl | false ↦ predicated_quiet past p copy ]

marks_quiet : (o : Objects) (query : ℕ) (begins : Bool) → is_quiet (marks o query begins) ≡ true
marks_quiet o query begins = elim (counts_invocations (get o.queries query)) as
    (λ b. is_quiet (if b then Mark_query query begins else Set_state) ≡ true) [ true ↦ refl | false ↦ refl ]

-- a map for writing: what it plays depends on its mode
abbrev pub is_map : Call → Bool
is_map (calls.MapWrite res mode offset bytes) = true
is_map _ = false

pub play_quiet : (past : Past) (o : Objects) (b : Bindings) (c : Call) → is_map c ≡ false
    → is_quiet (play_of past o b c) ≡ true
play_quiet past o b (calls.Dispatch x y z) e = predicated_quiet past b.predicate
    (dispatch past o b (groups.Direct x y z))
play_quiet past o b (calls.DispatchIndirect res offset) e = predicated_quiet past b.predicate
    (dispatch past o b (groups.Indirect (bytes_from past res offset 12)))
play_quiet past o b (calls.CopyRegion target target_offset source source_offset len) e =
    copies_quiet past b.predicate target target_offset source source_offset len
play_quiet past o b (calls.Copy target source) e = predicated_quiet past b.predicate
    (work.Copy (whole past o source) (whole past o target))
play_quiet past o b (calls.Update res offset bytes) e = staged_quiet past b.predicate bytes
    (bytes_from past res offset (length bytes))
play_quiet past o b (calls.ClearUav view v0 v1 v2 v3) e = clears_quiet past b.predicate (bound_view o view) v0 v1 v2 v3
play_quiet past o b (calls.Begin query) e = marks_quiet o query true
play_quiet past o b (calls.EndQuery query) e = marks_quiet o query false
play_quiet past o b (calls.MapWrite res mode offset bytes) e = absurd cc
play_quiet past o b _ e = refl
