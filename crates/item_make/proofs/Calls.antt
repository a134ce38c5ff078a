-- What a call plays, kind by kind.
use Rattle.std.proofs.Common.{◌≡◌, ℕ, Bool, true, false, ◌==◌, List, [], ◌∷◌, length, Option, Some, None}
use Rattle.std.proofs.Common.{refl, ap, ◌∙◌}
use Rattle.std.specs.Prelude.{if◌then◌else◌}
use Rattle.std.proofs.lemmas.Bool.{ne_eqb}
use Rattle.std.specs.Borrow.{Bor}
use Rattle.call_log.specs.Call as calls
use Rattle.call_log.specs.Call.{Call}
use Rattle.call_log.specs.View.{call_view}
use Rattle.call_log.specs.declared.call.Call as code
use Rattle.call_log.specs.declared.call.Call.TheVariants as codes
use Rattle.dx_types.specs.declared.range.Range.{Range}
use Rattle.vk_types.specs.declared.command.Work.{Work}
use Rattle.vk_types.specs.declared.command.Cond.{Cond}
use Rattle.vk_types.specs.declared.message.Placed.{Placed}
use Rattle.base_lemmas.specs.IdMap as ids
use Rattle.core_model.specs.Batching.{Made, make_play, make_write}
use Rattle.core_model.specs.Script.{Script, Play, Discard, No_overwrite, Stage, Command, Mark_query, Set_state}
use Rattle.core_model.specs.Succession.{IsStagedRange, PlacesPlay}
use Rattle.core_model.specs.Renaming.{BlockMap}
use Rattle.d3d_model.specs.Binding as binding
use Rattle.d3d_model.specs.Binding.{Bindings, BoundView, Predicate}
use Rattle.d3d_model.specs.D3dState.{Objects, bound_view}
use Rattle.d3d_model.specs.Past.{Past}
use Rattle.log_script.specs.Makers.{maker, bytes_from}
use Rattle.log_script.specs.Plays.{condition, skips, predicated, staged, copies, clears, clear, marks, maps, play_of}
use Rattle.log_script.specs.Plays.{counts_invocations}
use Rattle.item_make.specs.Calls.{is_map}

-- a map's modes
pub map_discards : (past : Past) (res mode offset : ℕ) (bytes : List ℕ) → mode ≡ 0
    → maps past res mode offset bytes ≡ Discard (maker past res) offset bytes
map_discards past res mode offset bytes e =
    ap (λ (n : ℕ). maps past res n offset bytes) e

pub map_keeps : (past : Past) (res mode offset : ℕ) (bytes : List ℕ) → mode ≡ 1
    → maps past res mode offset bytes ≡ No_overwrite (maker past res) offset bytes
map_keeps past res mode offset bytes e = ap (λ (n : ℕ). maps past res n offset bytes) e

pub map_stages : (past : Past) (res mode offset : ℕ) (bytes : List ℕ) → (mode ≡ 0 → ⊥) → (mode ≡ 1 → ⊥)
    → maps past res mode offset bytes ≡ staged past binding.Never bytes (bytes_from past res offset (length bytes))
map_stages past res mode offset bytes first second =
    ap (λ (t : Bool). if t then Discard (maker past res) offset bytes else if mode == 1
    then No_overwrite (maker past res) offset bytes else rest) (ne_eqb mode 0 first)
    ∙ ap (λ (t : Bool). if t then No_overwrite (maker past res) offset bytes else rest) (ne_eqb mode 1 second)
  where
    rest : Play
    rest = staged past binding.Never bytes (bytes_from past res offset (length bytes))

-- the staged range of bytes that are staged has their length
pub stages_range : (script : Script) (past : Past) (predicate : Predicate) (bytes : List ℕ) (target : Range) (p : Placed)
    (old new : BlockMap) → PlacesPlay script (staged past predicate bytes target) p old new → IsStagedRange bytes p.staged
stages_range script past predicate [] target p old new h = h.0.2
stages_range script past predicate (b ∷ bs) target p old new h = either (skips predicate) h
  where
    either : (t : Bool) → PlacesPlay script
        (if t then Stage (b ∷ bs) None None else Stage (b ∷ bs) (Some target) (condition past predicate)) p old new
        → IsStagedRange (b ∷ bs) p.staged
    either true k = k.2
    either false k = k.2

-- Calls that are no maps leave each buffer in its block ----------------------------------------------------------------

module _ (script : Script) (call : ℕ) (p : Placed) (m : Made) where
  abbrev Keeps : Play → Type 0
  Keeps play = (make_play script call play [] p m).blocks ≡ m.blocks

  either_keeps : (t : Bool) (x y : Play) → Keeps x → Keeps y → Keeps (if t then x else y)
  either_keeps true x y h k = h
  either_keeps false x y h k = k

  written_keeps : (r : Range) (bytes : List ℕ) → (make_write r bytes m).blocks ≡ m.blocks
  written_keeps r [] = refl
  written_keeps r (b ∷ bs) = refl

  command_keeps : (w : Work) (skip : Option Cond) → Keeps (Command w skip)
  command_keeps w skip = refl

  stage_keeps : (bytes : List ℕ) (target : Option Range) (skip : Option Cond) → Keeps (Stage bytes target skip)
  stage_keeps bytes target skip = placed p.staged refl
    where
      placed : (at : Option Range) → p.staged ≡ at → Keeps (Stage bytes target skip)
      placed None e = rw e refl
      placed (Some source) e = rw e (to target source)
        where
          to : (t : Option Range) (source : Range) → (make_play script call (Stage bytes t skip) []
              (record p { staged = Some source }) m).blocks ≡ m.blocks
          to None source = written_keeps source bytes
          to (Some t) source = written_keeps source bytes

  predicated_keeps : (past : Past) (predicate : Predicate) (w : Work) → Keeps (predicated past predicate w)
  predicated_keeps past predicate w =
      either_keeps (skips predicate) Set_state (Command w (condition past predicate)) refl
      (command_keeps w (condition past predicate))

  staged_keeps : (past : Past) (predicate : Predicate) (bytes : List ℕ) (target : Range)
      → Keeps (staged past predicate bytes target)
  staged_keeps past predicate [] target = refl
  staged_keeps past predicate (b ∷ bs) target =
      either_keeps (skips predicate) (Stage (b ∷ bs) None None) (Stage (b ∷ bs) (Some target) (condition past predicate))
      (stage_keeps (b ∷ bs) None None) (stage_keeps (b ∷ bs) (Some target) (condition past predicate))

  clears_keeps : (past : Past) (predicate : Predicate) (v : Option BoundView) (v0 v1 v2 v3 : ℕ)
      → Keeps (clears past predicate v v0 v1 v2 v3)
  clears_keeps past predicate None v0 v1 v2 v3 = refl
  clears_keeps past predicate (Some v) v0 v1 v2 v3 = predicated_keeps past predicate (clear past v.shape v0 v1 v2 v3)

  marks_keeps : (o : Objects) (query : ℕ) (begins : Bool) → Keeps (marks o query begins)
  marks_keeps o query begins =
      either_keeps (counts_invocations (ids.get o.queries query)) (Mark_query query begins) Set_state refl refl

  copies_keeps : (past : Past) (predicate : Predicate) (target target_offset source source_offset len : ℕ)
      → Keeps (copies past predicate target target_offset source source_offset len)
  copies_keeps past predicate target target_offset source source_offset len =
      either_keeps (len == 0) Set_state _ refl (predicated_keeps past predicate _)

  pub call_keeps : (past : Past) (o : Objects) (b : Bindings) (c : Call) → is_map c ≡ false → Keeps (play_of past o b c)
  call_keeps past o b (calls.Buffer id size usage bind misc stride bytes) e = refl
  call_keeps past o b (calls.View view res kind form components first count) e = refl
  call_keeps past o b (calls.CreateShader id words) e = refl
  call_keeps past o b (calls.Query id sort) e = refl
  call_keeps past o b (calls.Destroy class id) e = refl
  call_keeps past o b (calls.SetShader id) e = refl
  call_keeps past o b (calls.SetConstant slot res) e = refl
  call_keeps past o b (calls.SetSrv slot view) e = refl
  call_keeps past o b (calls.SetUav slot view) e = refl
  call_keeps past o b calls.ClearState e = refl
  call_keeps past o b (calls.Dispatch x y z) e = predicated_keeps past b.predicate _
  call_keeps past o b (calls.DispatchIndirect res offset) e = predicated_keeps past b.predicate _
  call_keeps past o b (calls.CopyRegion target target_offset source source_offset len) e =
      copies_keeps past b.predicate target target_offset source source_offset len
  call_keeps past o b (calls.Copy target source) e = predicated_keeps past b.predicate _
  call_keeps past o b (calls.Update res offset bytes) e = staged_keeps past b.predicate bytes _
  call_keeps past o b (calls.ClearUav view v0 v1 v2 v3) e = clears_keeps past b.predicate (bound_view o view) v0 v1 v2 v3
  call_keeps past o b (calls.SetPredication kind id offset value) e = refl
  call_keeps past o b (calls.Begin query) e = marks_keeps o query true
  call_keeps past o b (calls.EndQuery query) e = marks_keeps o query false
  call_keeps past o b (calls.MapWrite res mode offset bytes) e = absurd cc
  call_keeps past o b (calls.MapRead res flag offset len) e = refl
  call_keeps past o b (calls.GetData query flag) e = refl
  call_keeps past o b calls.Flush e = refl
  call_keeps past o b (calls.FinishList list) e = refl
  call_keeps past o b (calls.ExecuteList list flag) e = refl
  call_keeps past o b (calls.Draw kind body) e = refl

pub no_map : (c : code.Call)
    → ((res mode offset : ℕ) (bytes : Bor (List ℕ)) → c ≡ codes.MapWrite res mode offset bytes → ⊥)
    → is_map (call_view c) ≡ false
no_map (codes.Buffer id size usage bind misc stride bytes) never = refl
no_map (codes.View view res kind form components first count) never = refl
no_map (codes.CreateShader id words) never = refl
no_map (codes.Query id sort) never = refl
no_map (codes.Destroy class id) never = refl
no_map (codes.SetShader id) never = refl
no_map (codes.SetConstant slot res) never = refl
no_map (codes.SetSrv slot view) never = refl
no_map (codes.SetUav slot view) never = refl
no_map codes.ClearState never = refl
no_map (codes.Dispatch x y z) never = refl
no_map (codes.DispatchIndirect res offset) never = refl
no_map (codes.CopyRegion target target_offset source source_offset len) never = refl
no_map (codes.Copy target source) never = refl
no_map (codes.Update res offset bytes) never = refl
no_map (codes.ClearUav view v0 v1 v2 v3) never = refl
no_map (codes.SetPredication kind id offset value) never = refl
no_map (codes.Begin query) never = refl
no_map (codes.EndQuery query) never = refl
no_map (codes.MapWrite res mode offset bytes) never = absurd (never res mode offset bytes refl)
no_map (codes.MapRead res flag offset len) never = refl
no_map (codes.GetData query flag) never = refl
no_map codes.Flush never = refl
no_map (codes.FinishList list) never = refl
no_map (codes.ExecuteList list flag) never = refl
no_map (codes.Draw kind body) never = refl
