-- What a call has the core do is formed, and a dispatch runs a live shader.
use Rattle.std.proofs.Common.{◌≡◌, ℕ, ◌+◌, ◌-◌, ◌*◌, Bool, true, false, ◌||◌, List, [], ◌∷◌, length, Option, Some}
use Rattle.std.proofs.Common.{None, refl, sym, ap, ◌∙◌, inl, inr, ◌⊎◌, arith, eqb-true}
use Rattle.std.specs.Prelude.{◌==◌, ◌/◌, ◌%◌, is_some, if◌then◌else◌}
use Rattle.std.specs.List.{AllByRecursion}
use Rattle.dx_types.specs.declared.range.Range.{Range}
use Rattle.dx_types.specs.declared.shape.ViewShape.{ViewShape}
use Rattle.dx_types.specs.declared.shape.Form.{Form}
use Rattle.dx_types.specs.declared.shape.Form.TheVariants.{Raw, Structured, Typed}
use Rattle.vk_types.specs.declared.command.Groups.{Groups}
use Rattle.vk_types.specs.declared.command.Groups.TheVariants as groups
use Rattle.vk_types.specs.declared.command.Work.{Work}
use Rattle.vk_types.specs.declared.command.Work.TheVariants as work
use Rattle.call_log.specs.Call as calls
use Rattle.call_log.specs.Call.{Call}
use Rattle.base_lemmas.specs.IdMap.{IdMap, get}
use Rattle.d3d_model.specs.Check.{is_named}
use Rattle.d3d_model.specs.Resource.{size_of}
use Rattle.d3d_model.specs.View.{view_range}
use Rattle.d3d_model.specs.Binding as binding
use Rattle.d3d_model.specs.Binding.{Bindings, BoundView, Predicate}
use Rattle.d3d_model.specs.D3dState.{Objects, Shader, buffer_of, bound_if, bound_view}
use Rattle.d3d_model.specs.Verdict.{is_live_shader}
use Rattle.d3d_model.specs.Past.{Past}
use Rattle.core_model.specs.Script.{Discard, No_overwrite, Stage, Command, Destroy, Mark_query, Set_state}
use Rattle.core_model.specs.OtherParts.{shaders_of_work}
use Rattle.core_model.specs.Lawful.{play_shaders}
use Rattle.core_model.specs.Formed.{GroupsAreFormed, WorkIsFormed, CondIsFormed, PlayIsFormed}
use Rattle.log_script.specs.Makers.{maker, bytes_from, of_maker}
use Rattle.log_script.specs.Plays.{skips, condition, predicated, staged, creator, dispatch, clear_words, clear}
use Rattle.log_script.specs.Plays.{clears, copies, whole, counts_invocations, marks, maps, play_of, making_of}
use Rattle.log_script.specs.Standing.{WholeUnit, ViewWhole, CallStands}
use Rattle.log_script.specs.FittingTurns.{RunsLive}
use Rattle.log_script.specs.Fitting.{ShaderLives, SetFits, ViewsApart}
use Rattle.log_script.proofs.Owed.FittingCalls.{BuffersFit, ViewsFit}
use Rattle.log_script.proofs.Owed.FormedSlots.{view_size, unit_words, dispatch_formed}
use Rattle.log_script.proofs.Owed.SetShaders.{HasShader}
use Rattle.log_script.proofs.Meant.AgreeingDispatch.{AllSlots}

-- ---- what a predicate may skip

word_formed : (past : Past) (p : Predicate) → CondIsFormed (condition past p)
word_formed past binding.Never = tt
word_formed past (binding.Query id value) = tt
word_formed past (binding.Word res offset value) = omega arith

command_formed : (past : Past) (p : Predicate) (w : Work) → WorkIsFormed w → PlayIsFormed (predicated past p w)
command_formed past p w h =
    elim (skips p) as (λ b. PlayIsFormed (if b then Set_state else Command w (condition past p)))
    [ true ↦ tt | false ↦ (h, word_formed past p) ]

staged_formed : (past : Past) (p : Predicate) (bytes : List ℕ) (target : Range)
    → PlayIsFormed (staged past p bytes target)
staged_formed past p [] target = tt
staged_formed past p (x ∷ xs) target =
    elim (skips p) as
    (λ b. PlayIsFormed (if b then Stage (x ∷ xs) None None else Stage (x ∷ xs) (Some target)
    (condition past p))) [ true ↦ tt | false ↦ word_formed past p ]

-- ---- copies, clears, queries, maps

copies_formed : (past : Past) (p : Predicate) (target target_offset source source_offset len : ℕ)
    → PlayIsFormed (copies past p target target_offset source source_offset len)
copies_formed past p target target_offset source source_offset len =
    let w : Work = work.Copy (bytes_from past source source_offset len) (bytes_from past target target_offset len) in
    elim (len == 0) as (λ b. PlayIsFormed (if b then Set_state else predicated past p w)) [
      | true ↦ tt
      | false ↦ command_formed past p w (omega arith)
    ]

-- a clear of elements of one word is a fill, of two or four another clear
clear_formed : (past : Past) (v : ViewShape) (v0 v1 v2 v3 : ℕ) → ViewWhole v → WorkIsFormed (clear past v v0 v1 v2 v3)
clear_formed past v v0 v1 v2 v3 h =
    elim (clear_words v.form v.unit == 1) as (λ b. (clear_words v.form v.unit == 1) ≡ b
    → WorkIsFormed (if b then work.Fill (of_maker past (view_range v)) v0 else work.Clear
    (of_maker past (view_range v)) (v0 ∷ v1 ∷ v2 ∷ v3 ∷ []) (clear_words v.form v.unit))) [
      | true ↦ λ e. view_size v 4 (unit_words v.form v.unit h.words)
      | false ↦ λ e. several v.form v.unit h.words refl e
    ] refl
  where
    -- of two words or four
    several : (form : Form) (unit : ℕ) → WholeUnit form unit → v.unit ≡ unit → (clear_words form unit == 1) ≡ false
        → ((clear_words form unit ≡ 2) ⊎ (clear_words form unit ≡ 4))
        × (((v.first + v.count) * v.unit - v.first * v.unit) % (4 * clear_words form unit) ≡ 0)
    several Raw unit w is e = absurd (cc e)
    several Structured unit w is e = absurd (cc e)
    several Typed unit (inl w) is e = absurd (let z : true ≡ false = sym (ap (λ u. u / 4 == 1) w) ∙ e in cc z)
    several Typed unit (inr (inl w)) is e = (
      inl (ap (λ u. u / 4) w),
      ap (λ u. ((v.first + v.count) * v.unit - v.first * v.unit) % (4 * (u / 4))) w
          ∙ view_size v 8 (ap (λ u. u % 8) (is ∙ w)),
    )
    several Typed unit (inr (inr w)) is e = (
      inr (ap (λ u. u / 4) w),
      ap (λ u. ((v.first + v.count) * v.unit - v.first * v.unit) % (4 * (u / 4))) w
          ∙ view_size v 16 (ap (λ u. u % 16) (is ∙ w)),
    )

-- the view that a call names is whole, if there is one
abbrev SlotWhole : Option BoundView → Type 0
SlotWhole None = Unit {0}
SlotWhole (Some v) = ViewWhole v.shape

clears_formed : (past : Past) (p : Predicate) (slot : Option BoundView) (v0 v1 v2 v3 : ℕ) → SlotWhole slot
    → PlayIsFormed (clears past p slot v0 v1 v2 v3)
clears_formed past p None v0 v1 v2 v3 h = tt
clears_formed past p (Some v) v0 v1 v2 v3 h = command_formed past p (clear past v.shape v0 v1 v2 v3)
    (clear_formed past v.shape v0 v1 v2 v3 h)

slot_whole : (o : Objects) (view : ℕ) → ((id : ℕ) (v : ViewShape) → get o.views id ≡ Some v → ViewWhole v)
    → SlotWhole (bound_view o view)
slot_whole o view whole = elim (view == 0) as (λ b. SlotWhole (if b then None else bound_if view (get o.views view))) [
  | true ↦ tt
  | false ↦ by_view (get o.views view) refl
]
  where
    by_view : (v : Option ViewShape) → get o.views view ≡ v → SlotWhole (bound_if view v)
    by_view None e = tt
    by_view (Some v) e = whole view v e

marks_formed : (o : Objects) (query : ℕ) (begins : Bool) → PlayIsFormed (marks o query begins)
marks_formed o query begins = elim (counts_invocations (get o.queries query)) as
    (λ b. PlayIsFormed (if b then Mark_query query begins else Set_state)) [ true ↦ tt | false ↦ tt ]

maps_formed : (past : Past) (res mode offset : ℕ) (bytes : List ℕ) → PlayIsFormed (maps past res mode offset bytes)
maps_formed past res mode offset bytes =
    let target : Range = bytes_from past res offset (length bytes) in
    elim (mode == 0) as
    (λ b. PlayIsFormed (if b then Discard (maker past res) offset bytes else if mode == 1 then No_overwrite
    (maker past res) offset bytes else staged past binding.Never bytes target)) [
      | true ↦ tt
      | false ↦ elim (mode == 1) as
          (λ b. PlayIsFormed (if b then No_overwrite (maker past res) offset bytes else staged past binding.Never
          bytes target)) [ true ↦ tt | false ↦ staged_formed past binding.Never bytes target ]
    ]

-- ---- all kinds

-- what the objects and the bindings have that a call meets
pub record Meets (past : Past) (o : Objects) (b : Bindings) : Type 0 where
  pub own : (id other : ℕ) → is_some (buffer_of o id) ≡ true → is_some (buffer_of o other) ≡ true
      → maker past id ≡ maker past other → id ≡ other
  pub buffers : BuffersFit o
  pub views : ViewsFit o
  pub whole : (id : ℕ) (v : ViewShape) → get o.views id ≡ Some v → ViewWhole v
  pub set : SetFits o b
  pub slots : AllSlots b
  pub apart : ViewsApart b

module _ (past : Past) (o : Objects) (b : Bindings) (m : Meets past o b) where
  formed_by : (counts : Groups) → GroupsAreFormed counts → PlayIsFormed
      (predicated past b.predicate (dispatch past o b counts))
  formed_by counts g = command_formed past b.predicate (dispatch past o b counts)
      (dispatch_formed past o m.own m.buffers m.views m.whole b m.set m.slots m.apart counts g)

  pub play_formed : (c : Call) → CallStands o c → PlayIsFormed (play_of past o b c)
  play_formed (calls.Dispatch x y z) s = formed_by (groups.Direct x y z) tt
  play_formed (calls.DispatchIndirect res offset) s = formed_by (groups.Indirect (bytes_from past res offset 12))
      (omega arith)
  play_formed (calls.CopyRegion target target_offset source source_offset len) s =
      copies_formed past b.predicate target target_offset source source_offset len
  play_formed (calls.Copy target source) s =
      let same = s.same_size in
      let t : size_of (buffer_of o target) ≡ s.both.into.size = ap size_of s.both.target_lives in
      let f : size_of (buffer_of o source) ≡ s.both.from.size = ap size_of s.both.source_lives in
      command_formed past b.predicate (work.Copy (whole past o source) (whole past o target))
      (omega (arith, same, t, f))
  play_formed (calls.Update res offset bytes) s = staged_formed past b.predicate bytes
      (bytes_from past res offset (length bytes))
  play_formed (calls.ClearUav view v0 v1 v2 v3) s = clears_formed past b.predicate (bound_view o view) v0 v1 v2 v3
      (slot_whole o view m.whole)
  play_formed (calls.Begin query) s = marks_formed o query true
  play_formed (calls.EndQuery query) s = marks_formed o query false
  play_formed (calls.MapWrite res mode offset bytes) s = maps_formed past res mode offset bytes
  play_formed _ s = tt

  -- the shader that is set is a live one
  set_lives : HasShader b.shader (calls.Dispatch 0 0 0) → RunsLive o.shaders (creator (get o.shaders b.shader))
  set_lives has = by_some (get o.shaders b.shader) refl (live m.set.shader)
    where
      live : ShaderLives o b.shader → is_live_shader o b.shader ≡ true
      live h = by (b.shader == 0) refl h
        where
          by : (z : Bool) → (b.shader == 0) ≡ z → z || is_live_shader o b.shader ≡ true
              → is_live_shader o b.shader ≡ true
          by true e k = let p = eqb-true b.shader 0 e in absurd (let z : true ≡ false = sym (has refl)
              ∙ ap is_named p in cc z)
          by false e k = k

      by_some : (s : Option Shader) → get o.shaders b.shader ≡ s → is_some s ≡ true → RunsLive o.shaders (creator s)
      by_some None e k = absurd (cc k)
      by_some (Some s) e k = record { id = b.shader; shader = s; lives = e; call = refl }

  skipped_runs : (p : Predicate) (w : Work) → AllByRecursion (RunsLive o.shaders) (shaders_of_work w)
      → AllByRecursion (RunsLive o.shaders) (play_shaders (predicated past p w))
  skipped_runs p w h =
      elim (skips p) as (λ b. AllByRecursion (RunsLive o.shaders)
      (play_shaders (if b then Set_state else Command w (condition past p)))) [ true ↦ tt | false ↦ h ]

  staged_runs : (p : Predicate) (bytes : List ℕ) (target : Range)
      → AllByRecursion (RunsLive o.shaders) (play_shaders (staged past p bytes target))
  staged_runs p [] target = tt
  staged_runs p (x ∷ xs) target =
      elim (skips p) as (λ b. AllByRecursion (RunsLive o.shaders)
      (play_shaders (if b then Stage (x ∷ xs) None None else Stage (x ∷ xs) (Some target) (condition past p))))
      [ true ↦ tt | false ↦ tt ]

  copies_run : (p : Predicate) (target target_offset source source_offset len : ℕ)
      → AllByRecursion (RunsLive o.shaders)
      (play_shaders (copies past p target target_offset source source_offset len))
  copies_run p target target_offset source source_offset len =
      let w : Work = work.Copy (bytes_from past source source_offset len) (bytes_from past target target_offset len) in
      elim (len == 0) as (λ b. AllByRecursion (RunsLive o.shaders)
      (play_shaders (if b then Set_state else predicated past p w))) [ true ↦ tt | false ↦ skipped_runs p w tt ]

  clears_run : (p : Predicate) (v : Option BoundView) (v0 v1 v2 v3 : ℕ)
      → AllByRecursion (RunsLive o.shaders) (play_shaders (clears past p v v0 v1 v2 v3))
  clears_run p None v0 v1 v2 v3 = tt
  clears_run p (Some v) v0 v1 v2 v3 =
      skipped_runs p (clear past v.shape v0 v1 v2 v3)
      (elim (clear_words v.shape.form v.shape.unit == 1) as (λ b. AllByRecursion (RunsLive o.shaders)
      (shaders_of_work (if b then work.Fill (of_maker past (view_range v.shape)) v0 else work.Clear
      (of_maker past (view_range v.shape)) (v0 ∷ v1 ∷ v2 ∷ v3 ∷ []) (clear_words v.shape.form v.shape.unit))))
      [ true ↦ tt | false ↦ tt ])

  marks_run : (query : ℕ) (begins : Bool) → AllByRecursion (RunsLive o.shaders) (play_shaders (marks o query begins))
  marks_run query begins = elim (counts_invocations (get o.queries query)) as
      (λ b. AllByRecursion (RunsLive o.shaders) (play_shaders (if b then Mark_query query begins else Set_state)))
      [ true ↦ tt | false ↦ tt ]

  maps_run : (res mode offset : ℕ) (bytes : List ℕ) → AllByRecursion (RunsLive o.shaders)
      (play_shaders (maps past res mode offset bytes))
  maps_run res mode offset bytes =
      let target : Range = bytes_from past res offset (length bytes) in
      elim (mode == 0) as (λ b. AllByRecursion (RunsLive o.shaders)
      (play_shaders (if b then Discard (maker past res) offset bytes else if mode == 1 then No_overwrite
      (maker past res) offset bytes else staged past binding.Never bytes target))) [
        | true ↦ tt
        | false ↦ elim (mode == 1) as (λ b. AllByRecursion (RunsLive o.shaders)
            (play_shaders (if b then No_overwrite (maker past res) offset bytes else staged past binding.Never bytes
            target))) [ true ↦ tt | false ↦ staged_runs binding.Never bytes target ]
      ]

  -- what a dispatch runs is live
  pub play_runs : (c : Call) → HasShader b.shader c → AllByRecursion (RunsLive o.shaders)
      (play_shaders (play_of past o b c))
  play_runs (calls.Dispatch x y z) has = skipped_runs b.predicate (dispatch past o b (groups.Direct x y z))
      (set_lives (λ e. has refl), tt)
  play_runs (calls.DispatchIndirect res offset) has = skipped_runs b.predicate
      (dispatch past o b (groups.Indirect (bytes_from past res offset 12))) (set_lives (λ e. has refl), tt)
  play_runs (calls.CopyRegion target target_offset source source_offset len) has =
      copies_run b.predicate target target_offset source source_offset len
  play_runs (calls.Copy target source) has = skipped_runs b.predicate
      (work.Copy (whole past o source) (whole past o target)) tt
  play_runs (calls.Update res offset bytes) has = staged_runs b.predicate bytes
      (bytes_from past res offset (length bytes))
  play_runs (calls.ClearUav view v0 v1 v2 v3) has = clears_run b.predicate (bound_view o view) v0 v1 v2 v3
  play_runs (calls.Begin query) has = marks_run query true
  play_runs (calls.EndQuery query) has = marks_run query false
  play_runs (calls.MapWrite res mode offset bytes) has = maps_run res mode offset bytes
  play_runs _ has = tt

pub making_formed : (n : ℕ) (past : Past) (c : Call) → PlayIsFormed (making_of n past c)
making_formed n past (calls.Buffer id size usage bind misc stride bytes) = tt
making_formed n past (calls.CreateShader id words) = tt
making_formed n past (calls.Destroy class id) = elim (class == 1) as
    (λ b. PlayIsFormed (if b then Destroy (maker past id) else Set_state)) [ true ↦ tt | false ↦ tt ]
making_formed n past _ = tt

pub making_runs : (shaders : IdMap Shader) (n : ℕ) (past : Past) (c : Call)
    → AllByRecursion (RunsLive shaders) (play_shaders (making_of n past c))
making_runs shaders n past (calls.Buffer id size usage bind misc stride bytes) = tt
making_runs shaders n past (calls.CreateShader id words) = tt
making_runs shaders n past (calls.Destroy class id) = elim (class == 1) as
    (λ b. AllByRecursion (RunsLive shaders) (play_shaders (if b then Destroy (maker past id) else Set_state)))
    [ true ↦ tt | false ↦ tt ]
making_runs shaders n past _ = tt
