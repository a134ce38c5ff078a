-- Each range that a play touches has a byte.
use Rattle.std.proofs.Common.{◌≡◌, ℕ, suc, ◌+◌, ◌<◌, Bool, true, false, List, [], ◌∷◌, ◌++◌, length, map, Option}
use Rattle.std.proofs.Common.{Some, None, refl, ap, arith}
use Rattle.std.specs.Prelude.{◌==◌, ⊤, if◌then◌else◌}
use Rattle.std.specs.List.{find, AllByRecursion}
use Rattle.dx_types.specs.declared.range.Range.{Range}
use Rattle.dx_types.specs.declared.range.ResRange.{ResRange}
use Rattle.shader_model.specs.declared.tree.Declared.{Declared}
use Rattle.vk_types.specs.declared.touch.Touch.{Touch}
use Rattle.vk_types.specs.declared.command.SlotName.{SlotName}
use Rattle.vk_types.specs.declared.command.SlotName.TheVariants as slot
use Rattle.vk_types.specs.declared.command.SlotRange.{SlotRange}
use Rattle.vk_types.specs.declared.command.Groups.{Groups}
use Rattle.vk_types.specs.declared.command.Groups.TheVariants as groups
use Rattle.vk_types.specs.declared.command.Work.{Work}
use Rattle.vk_types.specs.declared.command.Work.TheVariants as work
use Rattle.vk_types.specs.Hazards.{groups_touches, slot_touch, work_touches, cond_touches}
use Rattle.call_log.specs.Call as calls
use Rattle.call_log.specs.Call.{Call}
use Rattle.base_lemmas.specs.IdMap.{get}
use Rattle.d3d_model.specs.Resource.{size_of}
use Rattle.d3d_model.specs.View.{view_range}
use Rattle.d3d_model.specs.Binding as binding
use Rattle.d3d_model.specs.Binding.{Bindings, BoundView, Predicate}
use Rattle.d3d_model.specs.Shader.{declared_by, fits_slot}
use Rattle.d3d_model.specs.D3dState.{Objects, buffer_of, words_set, bound_view}
use Rattle.d3d_model.specs.Memory.{is_declared, constant_shown, view_shown, shown_from, constants_shown, srvs_shown}
use Rattle.d3d_model.specs.Memory.{uavs_shown}
use Rattle.d3d_model.specs.Past.{Past}
use Rattle.core_model.specs.Script.{Play, Discard, No_overwrite, Stage, Command, Destroy, Mark_query, Set_state}
use Rattle.core_model.specs.Lawful.{play_touches}
use Rattle.log_script.specs.Makers.{maker, bytes_from, of_maker}
use Rattle.log_script.specs.Plays.{skips, condition, predicated, staged, slots_from, slots_listed, dispatch}
use Rattle.log_script.specs.Plays.{clear_words, clear, clears, copies, whole, counts_invocations, marks, maps}
use Rattle.log_script.specs.Plays.{play_of, making_of}
use Rattle.log_script.specs.Fitting.{ConstantFits, ViewFits, SetFits}
use Rattle.log_script.proofs.Owed.StayingFit.{all_append, BufferLives, OwnFits}
use Rattle.log_script.proofs.Owed.FittingCalls.{BuffersFit, positive, bound_fits, cut_fits}
use Rattle.log_script.proofs.Owed.FittingStates.{StateFits}

abbrev Filled : Touch → Type 0
Filled t = t.range.from < t.range.to

abbrev TouchesFilled : Play → Type 0
TouchesFilled play = AllByRecursion Filled (play_touches play)

-- ---- what a predicate may skip

word_filled : (past : Past) (p : Predicate) → AllByRecursion Filled (cond_touches (condition past p))
word_filled past binding.Never = tt
word_filled past (binding.Query id value) = tt
word_filled past (binding.Word res offset value) = (omega arith, tt)

command_filled : (past : Past) (p : Predicate) (w : Work) → AllByRecursion Filled (work_touches w)
    → TouchesFilled (predicated past p w)
command_filled past p w h =
    elim (skips p) as (λ b. TouchesFilled (if b then Set_state else Command w (condition past p))) [
      | true ↦ tt
      | false ↦ all_append Filled (work_touches w) (cond_touches (condition past p)) h (word_filled past p)
    ]

staged_filled : (past : Past) (p : Predicate) (bytes : List ℕ) (target : Range)
    → target.to ≡ target.from + length bytes → TouchesFilled (staged past p bytes target)
staged_filled past p [] target e = tt
staged_filled past p (x ∷ xs) target e =
    elim (skips p) as
    (λ b. TouchesFilled (if b then Stage (x ∷ xs) None None else Stage (x ∷ xs) (Some target) (condition past p))) [
      | true ↦ tt
      | false ↦ (omega (arith, e), word_filled past p)
    ]

-- ---- dispatches

abbrev ShowsByte : Option ResRange → Type 0
ShowsByte None = ⊤
ShowsByte (Some r) = r.from < r.to

abbrev SlotFilled : SlotRange → Type 0
SlotFilled s = s.range.from < s.range.to

constant_shows : (o : Objects) (d : Option Declared) (slot : Option ResRange) → ConstantFits o slot
    → ShowsByte (constant_shown o d slot)
constant_shows o None slot h = tt
constant_shows o (Some d) None h = tt
constant_shows o (Some d) (Some r) h = (cut_fits o r h).has_byte

view_shows : (o : Objects) (d : Option Declared) (slot : Option BoundView) → ViewFits o slot
    → ShowsByte (view_shown d slot)
view_shows o None slot h = tt
view_shows o (Some d) None h = tt
view_shows o (Some d) (Some v) h = elim (fits_slot d v.shape) as
    (λ b. ShowsByte (if b then Some (view_range v.shape) else None)) [ true ↦ h.fits.has_byte | false ↦ tt ]

all_show : {X : Type 0} (P : X → Type 0) (show : Option Declared → X → Option ResRange)
    → ((d : Option Declared) (x : X) → P x → ShowsByte (show d x))
    → (ds : List Declared) (opcode i : ℕ) (xs : List X) → AllByRecursion P xs
    → AllByRecursion ShowsByte (shown_from show ds opcode i xs)
all_show P show f ds opcode i [] h = tt
all_show P show f ds opcode i (x ∷ xs) h = (
  f (find (is_declared opcode i) ds) x h.0,
  all_show P show f ds opcode (suc i) xs h.1,
)

slots_filled : (past : Past) (name : ℕ → SlotName) (i : ℕ) (shown : List (Option ResRange))
    → AllByRecursion ShowsByte shown → AllByRecursion SlotFilled (slots_from past name i shown)
slots_filled past name i [] h = tt
slots_filled past name i (None ∷ shown) h = slots_filled past name (suc i) shown h.1
slots_filled past name i (Some r ∷ shown) h = (h.0, slots_filled past name (suc i) shown h.1)

listed_filled : (past : Past) (o : Objects) (b : Bindings) → SetFits o b
    → AllByRecursion SlotFilled (slots_listed past o b)
listed_filled past o b h =
    let ds = declared_by (words_set o b) in
    let constants : List SlotRange = slots_from past slot.Constant 0 (constants_shown o b ds) in
    let srvs : List SlotRange = slots_from past slot.Srv 0 (srvs_shown b ds) in
    let uavs : List SlotRange = slots_from past slot.Uav 0 (uavs_shown b ds) in
    all_append SlotFilled constants (srvs ++ uavs)
    (slots_filled past slot.Constant 0 (constants_shown o b ds)
    (all_show (ConstantFits o) (constant_shown o) (constant_shows o) ds 3 0 b.constants h.constants))
    (all_append SlotFilled srvs uavs
    (slots_filled past slot.Srv 0 (srvs_shown b ds) (all_show (ViewFits o) view_shown (view_shows o) ds 4 0 b.srvs
    h.srvs))
    (slots_filled past slot.Uav 0 (uavs_shown b ds) (all_show (ViewFits o) view_shown (view_shows o) ds 5 0 b.uavs
    h.uavs)))

all_touch : (slots : List SlotRange) → AllByRecursion SlotFilled slots → AllByRecursion Filled (map slot_touch slots)
all_touch [] h = tt
all_touch (s ∷ slots) h = (h.0, all_touch slots h.1)

dispatch_filled : (past : Past) (o : Objects) (b : Bindings) (counts : Groups) → SetFits o b
    → AllByRecursion Filled (groups_touches counts) → AllByRecursion Filled (work_touches (dispatch past o b counts))
dispatch_filled past o b counts h g = all_append Filled (groups_touches counts)
    (map slot_touch (slots_listed past o b)) g (all_touch (slots_listed past o b) (listed_filled past o b h))

-- ---- copies, clears, queries, maps

copies_filled : (past : Past) (p : Predicate) (target target_offset source source_offset len : ℕ)
    → TouchesFilled (copies past p target target_offset source source_offset len)
copies_filled past p target target_offset source source_offset len =
    let w : Work = work.Copy (bytes_from past source source_offset len) (bytes_from past target target_offset len) in
    elim (len == 0) as (λ b. (len == 0) ≡ b → TouchesFilled (if b then Set_state else predicated past p w)) [
      | true ↦ λ e. tt
      | false ↦ λ e. command_filled past p w (omega (arith, positive len e), (omega (arith, positive len e), tt))
    ] refl

whole_filled : (o : Objects) (res : ℕ) → BuffersFit o → BufferLives o res → 0 < 0 + size_of (buffer_of o res)
whole_filled o res live h = omega (arith, (live res h.shape h.lives).byte, ap size_of h.lives)

clears_filled : (past : Past) (o : Objects) (p : Predicate) (slot : Option BoundView) (v0 v1 v2 v3 : ℕ)
    → ViewFits o slot → TouchesFilled (clears past p slot v0 v1 v2 v3)
clears_filled past o p None v0 v1 v2 v3 h = tt
clears_filled past o p (Some v) v0 v1 v2 v3 h = command_filled past p (clear past v.shape v0 v1 v2 v3)
    (elim (clear_words v.shape.form v.shape.unit == 1) as (λ b. AllByRecursion Filled
    (work_touches (if b then work.Fill (of_maker past (view_range v.shape)) v0 else work.Clear
    (of_maker past (view_range v.shape)) (v0 ∷ v1 ∷ v2 ∷ v3 ∷ []) (clear_words v.shape.form v.shape.unit)))) [
      | true ↦ (h.fits.has_byte, tt)
      | false ↦ (h.fits.has_byte, tt)
    ])

marks_filled : (o : Objects) (query : ℕ) (begins : Bool) → TouchesFilled (marks o query begins)
marks_filled o query begins = elim (counts_invocations (get o.queries query)) as
    (λ b. TouchesFilled (if b then Mark_query query begins else Set_state)) [ true ↦ tt | false ↦ tt ]

maps_filled : (past : Past) (res mode offset : ℕ) (bytes : List ℕ) → TouchesFilled (maps past res mode offset bytes)
maps_filled past res mode offset bytes =
    let target : Range = bytes_from past res offset (length bytes) in
    elim (mode == 0) as
    (λ b. TouchesFilled (if b then Discard (maker past res) offset bytes else if mode == 1 then No_overwrite
    (maker past res) offset bytes else staged past binding.Never bytes target)) [
      | true ↦ tt
      | false ↦ elim (mode == 1) as
          (λ b. TouchesFilled (if b then No_overwrite (maker past res) offset bytes else staged past binding.Never
          bytes target)) [ true ↦ tt | false ↦ staged_filled past binding.Never bytes target refl ]
    ]

-- ---- all kinds

pub play_filled : (past : Past) (o : Objects) (b : Bindings) (c : Call) → StateFits o → OwnFits o c → SetFits o b
    → TouchesFilled (play_of past o b c)
play_filled past o b (calls.Dispatch x y z) h own set = command_filled past b.predicate
    (dispatch past o b (groups.Direct x y z)) (dispatch_filled past o b (groups.Direct x y z) set tt)
play_filled past o b (calls.DispatchIndirect res offset) h own set =
    let counts : Groups = groups.Indirect (bytes_from past res offset 12) in
    command_filled past b.predicate (dispatch past o b counts) (dispatch_filled past o b counts set (omega arith, tt))
play_filled past o b (calls.CopyRegion target target_offset source source_offset len) h own set =
    copies_filled past b.predicate target target_offset source source_offset len
play_filled past o b (calls.Copy target source) h own set =
    command_filled past b.predicate (work.Copy (whole past o source) (whole past o target))
    (whole_filled o source h.buffers own.0, (whole_filled o target h.buffers own.1, tt))
play_filled past o b (calls.Update res offset bytes) h own set =
    staged_filled past b.predicate bytes (bytes_from past res offset (length bytes)) refl
play_filled past o b (calls.ClearUav view v0 v1 v2 v3) h own set =
    clears_filled past o b.predicate (bound_view o view) v0 v1 v2 v3 (bound_fits o view h.views)
play_filled past o b (calls.Begin query) h own set = marks_filled o query true
play_filled past o b (calls.EndQuery query) h own set = marks_filled o query false
play_filled past o b (calls.MapWrite res mode offset bytes) h own set = maps_filled past res mode offset bytes
play_filled past o b _ h own set = tt

pub making_filled : (n : ℕ) (past : Past) (c : Call) → TouchesFilled (making_of n past c)
making_filled n past (calls.Buffer id size usage bind misc stride bytes) = tt
making_filled n past (calls.CreateShader id words) = tt
making_filled n past (calls.Destroy class id) = elim (class == 1) as
    (λ b. TouchesFilled (if b then Destroy (maker past id) else Set_state)) [ true ↦ tt | false ↦ tt ]
making_filled n past _ = tt
