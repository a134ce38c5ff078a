-- A dispatch: its command leaves in order what Direct3D stores, and runs as many invocations.
use Rattle.std.proofs.Common.{◌≡◌, ℕ, suc, ◌+◌, ◌*◌, ◌/◌, true, false, List, [], ◌∷◌, length, map, Option, Some, None}
use Rattle.std.proofs.Common.{refl, sym, ap, ◌∙◌, subst, arith}
use Rattle.std.specs.Prelude.{if◌then◌else◌}
use Rattle.std.specs.List.{find, AllByRecursion}
use Rattle.dx_types.specs.declared.shape.ViewShape.{ViewShape}
use Rattle.dx_types.specs.declared.range.ResRange.{ResRange}
use Rattle.vk_types.specs.declared.command.SlotName.TheVariants as slot
use Rattle.vk_types.specs.declared.command.Groups.{Groups}
use Rattle.vk_types.specs.Memory.{Memory as Bytes}
use Rattle.vk_types.specs.Effects.{work_effect, work_count, group_counts, slots_words, put_slots}
use Rattle.shader_model.specs.declared.tree.Declared.{Declared}
use Rattle.shader_model.specs.Shader.{Program, shader_of}
use Rattle.shader_model.specs.Invocation.{Slots, words_in}
use Rattle.shader_model.proofs.Lengths.{dispatched_keeps}
use Rattle.call_log.specs.Call.{Issued}
use Rattle.base_lemmas.specs.IdMap.{IdMap, get}
use Rattle.d3d_model.specs.Resource.{size_of}
use Rattle.d3d_model.specs.View.{view_range}
use Rattle.d3d_model.specs.Binding.{Bindings, BoundView}
use Rattle.d3d_model.specs.Shader.{Ran, ran_if, declared_by, ran_dispatch, fits_slot}
use Rattle.d3d_model.specs.D3dState.{Objects, Memory, Query, buffer_of, words_set}
use Rattle.d3d_model.specs.Past.{Past}
use Rattle.d3d_model.specs.InOrder.{call_at}
use Rattle.d3d_model.specs.Memory.{is_declared, constant_shown, view_shown, shown_from, constants_shown, srvs_shown}
use Rattle.d3d_model.specs.Memory.{uavs_shown, slots_seen, stored, dispatched}
use Rattle.d3d_model.proofs.Sized.{Sized}
use Rattle.core_model.specs.Script.{Script, InOrder}
use Rattle.log_script.specs.Plays.{slots_from, slots_listed, creator, dispatch}
use Rattle.log_script.specs.LogScript.{words_by, all_slots, no_slots, meaning_of}
use Rattle.log_script.specs.Fitting.{ConstantFits, ViewFits, SetFits}
use Rattle.log_script.proofs.Meant.AgreeingWrites.{AllShown, Settled, Alike, alike_with}
use Rattle.log_script.proofs.Meant.AgreeingClears.{WholeWords}
use Rattle.log_script.proofs.Meant.AgreeingSlots.{ShownFits, ShownWhole, slots_given, put_writes, words_fit}
use Rattle.log_script.proofs.Meant.AgreeingSlots.{stored_counts, stored_shown}

-- ---- shaders

map_none : (groups : List ℕ) (p : Option Program) (s : Slots)
    → map (λ (w : List ℕ). length w) (ran_if p groups s).slots.writes ≡ map (λ (w : List ℕ). length w) s.writes
map_none groups None s = refl
map_none groups (Some p) s = (dispatched_keeps p groups s).writes

-- a dispatch keeps the lengths of what it may write
ran_keeps : (words groups : List ℕ) (s : Slots) → map (λ (w : List ℕ). length w)
    (ran_dispatch words groups s).slots.writes ≡ map (λ (w : List ℕ). length w) s.writes
unfolding ran_dispatch
ran_keeps words groups s = map_none groups (shader_of words) s

count_none : (groups : List ℕ) (p : Option Program) (s t : Slots)
    → (ran_if p groups s).count ≡ (ran_if p groups t).count
count_none groups None s t = refl
count_none groups (Some p) s t = refl

-- as many invocations run, whatever the slots have
count_same : (words groups : List ℕ) (s t : Slots) → (ran_dispatch words groups s).count
    ≡ (ran_dispatch words groups t).count
unfolding ran_dispatch
count_same words groups s t = count_none groups (shader_of words) s t

-- ---- what slots show

length-shown : {X : Type 0} (show : Option Declared → X → Option ResRange) (ds : List Declared) (opcode i : ℕ)
    (xs : List X) → length (shown_from show ds opcode i xs) ≡ length xs
length-shown show ds opcode i [] = refl
length-shown show ds opcode i (x ∷ xs) = ap suc (length-shown show ds opcode (suc i) xs)

shown_each : {X : Type 0} (P : X → Type 0) (Q : Option ResRange → Type 0) (show : Option Declared → X
    → Option ResRange) → ((d : Option Declared) (x : X) → P x → Q (show d x))
    → (ds : List Declared) (opcode i : ℕ) (xs : List X) → AllByRecursion P xs
    → AllByRecursion Q (shown_from show ds opcode i xs)
shown_each P Q show one ds opcode i [] h = tt
shown_each P Q show one ds opcode i (x ∷ xs) h = (
  one (find (is_declared opcode i) ds) x h.0,
  shown_each P Q show one ds opcode (suc i) xs h.1,
)

constant_fits : (o : Objects) (d : Option Declared) (c : Option ResRange) → ConstantFits o c
    → ShownFits o (constant_shown o d c)
constant_fits o None c h = tt
constant_fits o (Some d) None h = tt
constant_fits o (Some d) (Some r) h =
    let size : size_of (buffer_of o r.res) ≡ h.shape.size = ap size_of h.lives in
    record {
      has_byte = omega (arith, h.starts, h.ends, h.has_byte, size);
      shape = h.shape;
      lives = h.lives;
      fits =
          omega (arith, size);
    }

view_fits : (o : Objects) (d : Option Declared) (v : Option BoundView) → ViewFits o v → ShownFits o (view_shown d v)
view_fits o None v h = tt
view_fits o (Some d) None h = tt
view_fits o (Some d) (Some v) h = elim (fits_slot d v.shape) as
    (λ b. ShownFits o (if b then Some (view_range v.shape) else None)) [ true ↦ h.fits | false ↦ tt ]

view_whole : (o : Objects) → ((id : ℕ) (v : ViewShape) → get o.views id ≡ Some v → WholeWords v)
    → (d : Option Declared) (v : Option BoundView) → ViewFits o v → ShownWhole (view_shown d v)
view_whole o whole None v h = tt
view_whole o whole (Some d) None h = tt
view_whole o whole (Some d) (Some v) h =
    let words : v.shape.unit ≡ 4 * (v.shape.unit / 4) = (whole v.view v.shape h.lives).words in
    elim (fits_slot d v.shape) as (λ b. ShownWhole (if b then Some (view_range v.shape) else None)) [
      | true ↦ (
        v.shape.count * (v.shape.unit / 4),
        spread v.shape.first v.shape.count v.shape.unit
            (v.shape.unit / 4) words,
      )
      | false ↦ tt
    ]
  where
    spread : (first count unit words : ℕ) → unit ≡ 4 * words
        → (first + count) * unit ≡ first * unit + 4 * (count * words)
    spread first count unit words e = omega arith ∙ ap (λ (u : ℕ). first * unit + count * u) e ∙ omega arith

-- ---- a dispatch

-- as many slots as a context has
pub record AllSlots (b : Bindings) : Type 0 where
  pub constants : length b.constants ≡ 14
  pub srvs : length b.srvs ≡ 16
  pub uavs : length b.uavs ≡ 8

module _ (log : List Issued) (script : Script) (past : Past) (o : Objects) (queries : IdMap Query) (m : Memory)
    (w : InOrder) (settled : Settled script past o)
    (sized : Sized o m) (alike : Alike past queries m w) (b : Bindings) (slots : AllSlots b) (set : SetFits o b)
    (whole : (id : ℕ) (v : ViewShape) → get o.views id ≡ Some v
    → WholeWords v) (own : words_by (call_at log (creator (get o.shaders b.shader))) ≡ words_set o b) where
  abbrev declared : List Declared
  declared = declared_by (words_set o b)

  cs_fit : AllByRecursion (ShownFits o) (constants_shown o b declared)
  cs_fit = shown_each (ConstantFits o) (ShownFits o) (constant_shown o) (constant_fits o) declared 3 0 b.constants
      set.constants

  ss_fit : AllByRecursion (ShownFits o) (srvs_shown b declared)
  ss_fit = shown_each (ViewFits o) (ShownFits o) view_shown (view_fits o) declared 4 0 b.srvs set.srvs

  us_fit : AllByRecursion (ShownFits o) (uavs_shown b declared)
  us_fit = shown_each (ViewFits o) (ShownFits o) view_shown (view_fits o) declared 5 0 b.uavs set.uavs

  us_whole : AllByRecursion ShownWhole (uavs_shown b declared)
  us_whole = shown_each (ViewFits o) ShownWhole view_shown (view_whole o whole) declared 5 0 b.uavs set.uavs

  given : all_slots (slots_words w.bytes (slots_listed past o b)) ≡ slots_seen o m b declared
  given = slots_given past o m w.bytes sized alike.shown (constants_shown o b declared) (srvs_shown b declared)
      (uavs_shown b declared)
      (length-shown (constant_shown o) declared 3 0 b.constants
      ∙ slots.constants) (length-shown view_shown declared 4 0 b.srvs
      ∙ slots.srvs) (length-shown view_shown declared 5 0 b.uavs ∙ slots.uavs)
      cs_fit ss_fit us_fit

  pub dispatched_alike : (counts : Groups) (groups : List ℕ) → group_counts w.bytes counts ≡ groups
      → Alike past queries (dispatched o b groups m)
      (record w {
        bytes = work_effect (meaning_of log) (dispatch past o b counts) w.bytes;
        total =
            w.total + work_count (meaning_of log) (dispatch past o b counts) w.bytes;
      })
  dispatched_alike counts groups same =
      let ran : Ran = ran_dispatch (words_set o b) groups (slots_seen o m b declared) in
      let us : List (Option ResRange) = uavs_shown b declared in
      let words : ℕ → List ℕ = (meaning_of log).words (creator (get o.shaders b.shader))
      (group_counts w.bytes counts) (slots_words w.bytes (slots_listed past o b)) in
      let left : (u : ℕ) → words u ≡ words_in ran.slots.writes u =
      λ u p. words_in (ran_dispatch (own p) (same p) (given p)).slots.writes u in
      let fit = words_fit o m sized us ran.slots.writes (ran_keeps (words_set o b) groups
      (slots_seen o m b declared)) us_fit us_whole in
      let kept = stored_counts m us ran.slots.writes in
      let bytes : AllShown past (stored m us ran.slots.writes).bytes
      (put_slots words (slots_from past slot.Uav 0 us) w.bytes) =
      stored_shown script past o settled words 0 us ran.slots.writes m w.bytes sized alike.shown us_fit fit
      (λ k. ap words (omega arith) ∙ left k) in
      let count : (ran_dispatch (words_by (call_at log (creator (get o.shaders b.shader))))
      (group_counts w.bytes counts) no_slots).count ≡ ran.count =
      (λ p. (ran_dispatch (own p) (same p) no_slots).count) ∙ count_same (words_set o b) groups no_slots
      (slots_seen o m b declared) in
      alike_with past queries m (dispatched o b groups m) w (work_effect (meaning_of log) (dispatch past o b counts)
      w.bytes) (w.total + work_count (meaning_of log) (dispatch past o b counts) w.bytes) alike
      (subst (λ (mem : Bytes). AllShown past (stored m us ran.slots.writes).bytes mem)
      (sym (put_writes past words (constants_shown o b declared) (srvs_shown b declared) us w.bytes)) bytes)
      (λ p. total p + count p) kept.begun kept.counts
    where
      total : w.total
          ≡ (stored m (uavs_shown b declared) (ran_dispatch (words_set o b) groups
          (slots_seen o m b declared)).slots.writes).ran
      total = alike.ran
          ∙ sym (stored_counts m (uavs_shown b declared) (ran_dispatch (words_set o b) groups
          (slots_seen o m b declared)).slots.writes).ran
