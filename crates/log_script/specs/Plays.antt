-- What an accepted call has the core do: a play, whose ranges are of buffers by the calls that created them.
use Rattle.std.specs.Prelude.{ℕ, suc, ◌/◌, ◌==◌, Bool, true, false, List, [], ◌∷◌, ◌++◌, length, Option, None, Some}
use Rattle.std.specs.Prelude.{if◌then◌else◌}
use Rattle.dx_types.specs.declared.range.Range.{Range}
use Rattle.dx_types.specs.declared.range.ResRange.{ResRange}
use Rattle.dx_types.specs.declared.shape.ViewShape.{ViewShape}
use Rattle.dx_types.specs.declared.shape.Form.{Form}
use Rattle.dx_types.specs.declared.shape.Form.TheVariants.{Raw, Structured, Typed}
use Rattle.vk_types.specs.declared.command.SlotName.{SlotName}
use Rattle.vk_types.specs.declared.command.SlotName.TheVariants as slot
use Rattle.vk_types.specs.declared.command.SlotRange.{SlotRange}
use Rattle.vk_types.specs.declared.command.Groups.{Groups}
use Rattle.vk_types.specs.declared.command.Groups.TheVariants as groups
use Rattle.vk_types.specs.declared.command.Work.{Work}
use Rattle.vk_types.specs.declared.command.Work.TheVariants as work
use Rattle.vk_types.specs.declared.command.Cond.{Cond}
use Rattle.call_log.specs.Call as calls
use Rattle.call_log.specs.Call.{Call}
use Rattle.base_lemmas.specs.IdMap as ids
use Rattle.d3d_model.specs.Resource.{size_of}
use Rattle.d3d_model.specs.View.{view_range}
use Rattle.d3d_model.specs.Binding as binding
use Rattle.d3d_model.specs.Binding.{Bindings, BoundView, Predicate}
use Rattle.d3d_model.specs.Shader.{declared_by}
use Rattle.d3d_model.specs.D3dState.{Objects, Shader, Query, buffer_of, words_set, bound_view}
use Rattle.d3d_model.specs.Memory.{constants_shown, srvs_shown, uavs_shown}
use Rattle.d3d_model.specs.Past.{Past}
use Rattle.core_model.specs.Script.{Play, Create, Discard, No_overwrite, Stage, Command, Destroy, Create_shader}
use Rattle.core_model.specs.Script.{Mark_query, Set_state}
use Rattle.log_script.specs.Makers.{maker, bytes_from, of_maker}

-- ---- predication

-- a predicate of a query has the result 0 without draws, so that it is known as the call is recorded whether it skips
abbrev pub skips : Predicate → Bool
skips binding.Never = false
skips (binding.Query id value) = 0 == value
skips (binding.Word res offset value) = false

-- a predicate's word is read as the command runs
abbrev pub condition : Past → Predicate → Option Cond
condition past binding.Never = None
condition past (binding.Query id value) = None
condition past (binding.Word res offset value) = Some (record { at = bytes_from past res offset 4; value = value })

-- a predicated command: what a query skips makes none
abbrev pub predicated : Past → Predicate → Work → Play
predicated past p w = if skips p then Set_state else Command w (condition past p)

-- bytes that are staged. Where a query skips the call they are staged all the same; no bytes are not staged at all
abbrev pub staged : Past → Predicate → List ℕ → Range → Play
staged past p [] target = Set_state
staged past p (b ∷ bs) target = if skips p then Stage (b ∷ bs) None None else Stage (b ∷ bs) (Some target)
    (condition past p)

-- ---- dispatches

-- the slots from one on that show something
abbrev pub slots_from : Past → (ℕ → SlotName) → ℕ → List (Option ResRange) → List SlotRange
slots_from past name i [] = []
slots_from past name i (None ∷ shown) = slots_from past name (suc i) shown
slots_from past name i (Some r ∷ shown) = record { slot = name i; range = of_maker past r } ∷ slots_from past name
    (suc i) shown

-- the slots of a dispatch that the shader declares and that fit: constants, shader resources, unordered access views
abbrev pub slots_listed : Past → Objects → Bindings → List SlotRange
slots_listed past o b =
    let ds = declared_by (words_set o b) in
    slots_from past slot.Constant 0 (constants_shown o b ds)
    ++ (slots_from past slot.Srv 0 (srvs_shown b ds) ++ slots_from past slot.Uav 0 (uavs_shown b ds))

-- the call that created a shader
abbrev pub creator : Option Shader → ℕ
creator None = 0
creator (Some s) = s.call

-- a dispatch of the shader that is set
abbrev pub dispatch : Past → Objects → Bindings → Groups → Work
dispatch past o b counts = work.Dispatch (creator (ids.get o.shaders b.shader)) counts (slots_listed past o b)

-- ---- clears

-- how many words of the four one element takes: of a typed view as many as it has components, else one
abbrev pub clear_words : Form → ℕ → ℕ
clear_words Raw unit = 1
clear_words Structured unit = 1
clear_words Typed unit = unit / 4

-- elements of one word are filled with the first
abbrev pub clear : Past → ViewShape → (v0 v1 v2 v3 : ℕ) → Work
clear past v v0 v1 v2 v3 =
    if clear_words v.form v.unit == 1
    then work.Fill (of_maker past (view_range v)) v0
    else work.Clear (of_maker past (view_range v)) (v0 ∷ v1 ∷ v2 ∷ v3 ∷ []) (clear_words v.form v.unit)

abbrev pub clears : Past → Predicate → Option BoundView → (v0 v1 v2 v3 : ℕ) → Play
clears past p None v0 v1 v2 v3 = Set_state
clears past p (Some v) v0 v1 v2 v3 = predicated past p (clear past v.shape v0 v1 v2 v3)

-- ---- copies

-- a copy of so many bytes. Of none it is no command
abbrev pub copies : Past → Predicate → (target target_offset source source_offset len : ℕ) → Play
copies past p target target_offset source source_offset len =
    if len == 0 then Set_state else predicated past p (work.Copy (bytes_from past source source_offset len)
    (bytes_from past target target_offset len))

abbrev pub whole : Past → Objects → ℕ → Range
whole past o res = bytes_from past res 0 (size_of (buffer_of o res))

-- ---- queries

-- queries of pipeline statistics count invocations; those of other sorts count nothing
abbrev pub counts_invocations : Option Query → Bool
counts_invocations None = false
counts_invocations (Some q) = q.sort == 2

abbrev pub marks : Objects → ℕ → Bool → Play
marks o query begins = if counts_invocations (ids.get o.queries query) then Mark_query query begins else Set_state

-- ---- all kinds

-- a map for writing, by its mode: a discard, a no-overwrite, or one of a staging buffer, which is not predicated
abbrev pub maps : Past → (res mode offset : ℕ) → List ℕ → Play
maps past res mode offset bytes =
    if mode == 0 then Discard (maker past res) offset bytes
    else if mode == 1 then No_overwrite (maker past res) offset bytes
    else staged past binding.Never bytes (bytes_from past res offset (length bytes))

-- a call that may stand in a list, where these bindings are set
abbrev pub play_of : Past → Objects → Bindings → Call → Play
play_of past o b (calls.Dispatch x y z) = predicated past b.predicate (dispatch past o b (groups.Direct x y z))
play_of past o b (calls.DispatchIndirect res offset) = predicated past b.predicate
    (dispatch past o b (groups.Indirect (bytes_from past res offset 12)))
play_of past o b (calls.CopyRegion target target_offset source source_offset len) =
    copies past b.predicate target target_offset source source_offset len
play_of past o b (calls.Copy target source) = predicated past b.predicate
    (work.Copy (whole past o source) (whole past o target))
play_of past o b (calls.Update res offset bytes) = staged past b.predicate bytes
    (bytes_from past res offset (length bytes))
play_of past o b (calls.ClearUav view v0 v1 v2 v3) = clears past b.predicate (bound_view o view) v0 v1 v2 v3
play_of past o b (calls.Begin query) = marks o query true
play_of past o b (calls.EndQuery query) = marks o query false
play_of past o b (calls.MapWrite res mode offset bytes) = maps past res mode offset bytes
play_of past o b _ = Set_state

-- a call of the device, which is call n
abbrev pub making_of : ℕ → Past → Call → Play
making_of n past (calls.Buffer id size usage bind misc stride bytes) = Create n bytes
making_of n past (calls.CreateShader id words) = Create_shader
making_of n past (calls.Destroy class id) = if class == 1 then Destroy (maker past id) else Set_state
making_of n past _ = Set_state
