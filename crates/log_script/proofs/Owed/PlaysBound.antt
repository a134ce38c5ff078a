-- What the play of a call touches, the call binds.
use Rattle.std.proofs.Common.{◌≡◌, ℕ, zero, suc, ◌+◌, ◌<◌, ◌≤◌, Bool, true, false, List, [], ◌∷◌, ◌++◌, map, length}
use Rattle.std.proofs.Common.{Option, Some, None, refl, sym, ap, subst, arith}
use Rattle.std.specs.Prelude.{◌==◌, if◌then◌else◌}
use Rattle.std.proofs.lemmas.Bool.{eqb-true}
use Rattle.dx_types.specs.declared.range.Range.{Range}
use Rattle.dx_types.specs.declared.range.ResRange.{ResRange}
use Rattle.vk_types.specs.declared.touch.Touch.{Touch}
use Rattle.vk_types.specs.declared.command.Groups.{Groups}
use Rattle.vk_types.specs.declared.command.Groups.TheVariants as groups
use Rattle.vk_types.specs.declared.command.Work.{Work}
use Rattle.vk_types.specs.declared.command.Work.TheVariants as work
use Rattle.vk_types.specs.Hazards.{is_touched, work_touches, cond_touches, groups_touches, slot_touch}
use Rattle.call_log.specs.Call as calls
use Rattle.call_log.specs.Call.{Call}
use Rattle.base_lemmas.specs.IdMap as ids
use Rattle.d3d_model.specs.Resource.{Buffers, size_of}
use Rattle.d3d_model.specs.View.{view_range}
use Rattle.d3d_model.specs.Binding as binding
use Rattle.d3d_model.specs.Binding.{Bindings, BoundView, Predicate, predicate_range, bound_range}
use Rattle.d3d_model.specs.D3dState.{Objects, buffer_of, bound_view}
use Rattle.d3d_model.specs.Past.{Past}
use Rattle.d3d_model.specs.Stream as stream
use Rattle.d3d_model.specs.Stream.{binds, range_of, dispatch_ranges}
use Rattle.std.specs.Option.{option_to_list}
use Rattle.core_model.specs.Script.{Play, Stage, Command, Mark_query, Set_state}
use Rattle.core_model.specs.Owners.{in_ranges}
use Rattle.core_model.specs.Lawful.{play_touches, may_bind}
use Rattle.log_script.specs.Makers.{bytes_from, of_maker, of_makers}
use Rattle.log_script.specs.Plays.{skips, condition, predicated, staged, slots_listed, dispatch, clear_words, clear}
use Rattle.log_script.specs.Plays.{clears, copies, counts_invocations, marks, maps, play_of}
use Rattle.log_script.proofs.Owed.Within.{Within, within_both, within_front, within_back}
use Rattle.log_script.proofs.Owed.DispatchBound.{slots_within, word_within}

-- a play that binds these ranges: none where it may bind none, and all that it touches
pub record Bound (play : Play) (bound : List Range) : Type 0 where
  pub quiet : may_bind play ≡ false → bound ≡ []
  pub touched : (b i : ℕ) → is_touched (play_touches play) b i ≡ true → in_ranges bound b i ≡ true

-- what an accepted call has that may stand in a list: a copy's buffers have bytes, and a map's mode is one of three
abbrev pub Fit : Buffers → Call → Type 0
Fit buffers (calls.Copy target source) = (0 < size_of (ids.get buffers target)) × (0 < size_of (ids.get buffers source))
Fit buffers (calls.MapWrite res mode offset bytes) = mode ≤ 2
Fit buffers _ = Unit {0}

-- ---- commands

word_bound : (past : Past) (p : Predicate) → Within (cond_touches (condition past p))
    (of_makers past (predicate_range p))
word_bound past binding.Never = λ b i e. e
word_bound past (binding.Query id value) = λ b i e. e
word_bound past (binding.Word res offset value) = λ b i e. e

-- a play that sets state
pub set_bound : (bound : List Range) → Bound Set_state bound
set_bound bound = record { quiet = λ e. absurd cc; touched = λ b i e. absurd cc }

command_bound : (past : Past) (p : Predicate) (w : Work) (bound : List Range) → Within (work_touches w) bound
    → Within (cond_touches (condition past p)) bound
    → Bound (predicated past p w) bound
command_bound past p w bound h k =
    elim (skips p) as (λ t. Bound (if t then Set_state else Command w (condition past p)) bound) [
      | true ↦ set_bound bound
      | false ↦ record {
        quiet = λ e. absurd cc;
        touched = within_both (work_touches w)
            (cond_touches (condition past p)) bound h k;
      }
    ]

-- with the predicate's word behind the other ranges
with_word : (past : Past) (p : Predicate) (w : Work) (rs : List ResRange) → Within (work_touches w) (of_makers past rs)
    → Bound (predicated past p w) (of_makers past (rs ++ predicate_range p))
with_word past p w rs h =
    command_bound past p w (of_makers past (rs ++ predicate_range p))
    (within_front past (work_touches w) rs (predicate_range p) h)
    (within_back past (cond_touches (condition past p)) rs (predicate_range p) (word_bound past p))

-- ---- kinds

dispatch_bound : (past : Past) (o : Objects) (b : Bindings) (counts : Groups) (before : List ResRange)
    → Within (groups_touches counts) (of_makers past before)
    → Bound (predicated past b.predicate (dispatch past o b counts)) (of_makers past (before ++ dispatch_ranges o b))
dispatch_bound past o b counts before h =
    let all : List Range = of_makers past (before ++ dispatch_ranges o b) in
    let word : List Touch = cond_touches (condition past b.predicate) in
    let slots : List Touch = map slot_touch (slots_listed past o b) in
    command_bound past b.predicate (dispatch past o b counts) all
    (within_both (groups_touches counts) slots all
    (within_front past (groups_touches counts) before (dispatch_ranges o b) h)
    (within_back past slots before (dispatch_ranges o b) (slots_within past o b)))
    (within_back past word before (dispatch_ranges o b) (word_within past o b word (word_bound past b.predicate)))

region_bound : (past : Past) (b : Bindings) (target target_offset source source_offset len : ℕ)
    → Bound (copies past b.predicate target target_offset source source_offset len)
    (of_makers past
    (stream.predicated b (range_of source source_offset len ++ range_of target target_offset len)))
region_bound past b target target_offset source source_offset len =
    let from : ResRange = record { res = source; from = source_offset; to = source_offset + len } in
    let to : ResRange = record { res = target; from = target_offset; to = target_offset + len } in
    let w = work.Copy (bytes_from past source source_offset len) (bytes_from past target target_offset len) in
    elim (len == 0) as (λ t. Bound (if t then Set_state else predicated past b.predicate w)
    (of_makers past (stream.predicated b ((if t then [] else from ∷ []) ++ (if t then [] else to ∷ []))))) [
      | true ↦ set_bound []
      | false ↦ with_word past b.predicate w (from ∷ to ∷ []) (λ b i e. e)
    ]

not_zero : (n : ℕ) (t : Bool) → 0 < n → (n == 0) ≡ t → t ≡ false
not_zero n true less e = absurd (omega (arith, less, eqb-true n 0 e))
not_zero n false less e = refl

-- a range of some bytes is one range
range_some : (res from len : ℕ) → 0 < len → range_of res from len
    ≡ record { res = res; from = from; to = from + len } ∷ []
range_some res from len some = ap (λ t. if t then [] else record { res = res; from = from; to = from + len } ∷ [])
    (not_zero len (len == 0) some refl)

copy_bound : (past : Past) (b : Bindings) (target source m n : ℕ) → 0 < m → 0 < n
    → Bound (predicated past b.predicate (work.Copy (bytes_from past source 0 n) (bytes_from past target 0 m)))
    (of_makers past (stream.predicated b (range_of source 0 n ++ range_of target 0 m)))
copy_bound past b target source m n some others =
    let from : ResRange = record { res = source; from = 0; to = 0 + n } in
    let to : ResRange = record { res = target; from = 0; to = 0 + m } in
    let w = work.Copy (bytes_from past source 0 n) (bytes_from past target 0 m) in
    subst (λ rs. Bound (predicated past b.predicate w) (of_makers past
    (stream.predicated b (rs ++ range_of target 0 m)))) (sym (range_some source 0 n others))
    (subst (λ rs. Bound (predicated past b.predicate w) (of_makers past (stream.predicated b (from ∷ rs))))
    (sym (range_some target 0 m some))
    (with_word past b.predicate w (from ∷ to ∷ []) (λ b i e. e)))

update_bound : (past : Past) (b : Bindings) (res offset : ℕ) (bytes : List ℕ)
    → Bound (staged past b.predicate bytes (bytes_from past res offset (length bytes)))
    (of_makers past (stream.predicated b (range_of res offset (length bytes))))
update_bound past b res offset [] = set_bound []
update_bound past b res offset (x ∷ xs) =
    let r : ResRange = record { res = res; from = offset; to = offset + length (x ∷ xs) } in
    let bound : List Range = of_makers past (r ∷ predicate_range b.predicate) in
    let word : List Touch = cond_touches (condition past b.predicate) in
    subst (λ rs. Bound (staged past b.predicate (x ∷ xs) (of_maker past r))
    (of_makers past (stream.predicated b rs))) (sym (range_some res offset (length (x ∷ xs)) (omega arith)))
    (elim (skips b.predicate) as
    (λ t. Bound (if t then Stage (x ∷ xs) None None else Stage (x ∷ xs) (Some (of_maker past r))
    (condition past b.predicate)) bound) [
      | true ↦ record { quiet = λ e. absurd cc; touched = λ b i e. absurd cc }
      | false ↦ record {
        quiet = λ e. absurd cc;
        touched = within_both (play_touches (Stage (x ∷ xs) (Some (of_maker past r)) None)) word bound
            (within_front past (play_touches (Stage (x ∷ xs) (Some (of_maker past r)) None)) (r ∷ [])
            (predicate_range b.predicate) (λ b i e. e))
            (within_back past word (r ∷ []) (predicate_range b.predicate) (word_bound past b.predicate));
      }
    ])

clear_bound : (past : Past) (b : Bindings) (view : Option BoundView) (v0 v1 v2 v3 : ℕ)
    → Bound (clears past b.predicate view v0 v1 v2 v3) (of_makers past
    (stream.predicated b (option_to_list (bound_range view))))
clear_bound past b None v0 v1 v2 v3 = set_bound []
clear_bound past b (Some v) v0 v1 v2 v3 =
    let r : Range = of_maker past (view_range v.shape) in
    let n = clear_words v.shape.form v.shape.unit in
    with_word past b.predicate (clear past v.shape v0 v1 v2 v3) (view_range v.shape ∷ [])
    (elim (n == 1) as
    (λ t. Within (work_touches (if t then work.Fill r v0 else work.Clear r (v0 ∷ v1 ∷ v2 ∷ v3 ∷ []) n))
    (r ∷ [])) [ true ↦ λ b i e. e | false ↦ λ b i e. e ])

mark_bound : (o : Objects) (query : ℕ) (begins : Bool) → Bound (marks o query begins) []
mark_bound o query begins = elim (counts_invocations (ids.get o.queries query)) as
    (λ t. Bound (if t then Mark_query query begins else Set_state) []) [
      | true ↦ record { quiet = λ e. refl; touched = λ b i e. absurd cc }
      | false ↦ set_bound []
    ]

map_bound : (past : Past) (res mode offset : ℕ) (bytes : List ℕ) → mode ≤ 2
    → Bound (maps past res mode offset bytes) (of_makers past
    (if mode == 2 then range_of res offset (length bytes) else []))
map_bound past res zero offset bytes le = record { quiet = λ e. refl; touched = λ b i e. absurd cc }
map_bound past res (suc zero) offset bytes le = record { quiet = λ e. refl; touched = λ b i e. absurd cc }
map_bound past res (suc (suc zero)) offset [] le = set_bound []
map_bound past res (suc (suc zero)) offset (x ∷ xs) le =
    subst (λ rs. Bound (maps past res 2 offset (x ∷ xs)) (of_makers past rs))
    (sym (range_some res offset (length (x ∷ xs)) (omega arith)))
    (record { quiet = λ e. absurd cc; touched = λ b i e. e })
map_bound past res (suc (suc (suc k))) offset bytes le = absurd (omega (arith, le))

-- ---- all kinds

pub item_bound : (past : Past) (o : Objects) (b : Bindings) (c : Call) → Fit o.buffers c
    → Bound (play_of past o b c) (of_makers past (binds o b c))
item_bound past o b (calls.Dispatch x y z) fit = dispatch_bound past o b (groups.Direct x y z) [] (λ b i e. e)
item_bound past o b (calls.DispatchIndirect res offset) fit =
    dispatch_bound past o b (groups.Indirect (bytes_from past res offset 12))
    (record { res = res; from = offset; to = offset + 12 } ∷ []) (λ b i e. e)
item_bound past o b (calls.CopyRegion target target_offset source source_offset len) fit =
    region_bound past b target target_offset source source_offset len
item_bound past o b (calls.Copy target source) fit = copy_bound past b target source (size_of (buffer_of o target))
    (size_of (buffer_of o source)) fit.0 fit.1
item_bound past o b (calls.Update res offset bytes) fit = update_bound past b res offset bytes
item_bound past o b (calls.ClearUav view v0 v1 v2 v3) fit = clear_bound past b (bound_view o view) v0 v1 v2 v3
item_bound past o b (calls.Begin query) fit = mark_bound o query true
item_bound past o b (calls.EndQuery query) fit = mark_bound o query false
item_bound past o b (calls.MapWrite res mode offset bytes) fit = map_bound past res mode offset bytes fit
item_bound past o b _ fit = set_bound []
