-- What is moved from buffers by their ids to blocks is what is moved from buffers by their makers.
use Rattle.std.proofs.Common.{◌≡◌, ℕ, suc, ◌+◌, Bool, true, false, cond, ◌==◌, List, [], ◌∷◌, ◌++◌, map, Option, Some, None}
use Rattle.std.proofs.Common.{refl, sym, ap, ◌∙◌}
use Rattle.std.specs.Option.{option_map, option_to_list}
use Rattle.std.proofs.lemmas.List.{map-append}
use Rattle.dx_types.specs.declared.range.Range.{Range}
use Rattle.dx_types.specs.declared.range.ResRange.{ResRange}
use Rattle.dx_types.specs.declared.shape.ViewShape.{ViewShape}
use Rattle.shader_model.specs.declared.tree.Declared.{Declared}
use Rattle.base_lemmas.specs.IdMap as ids
use Rattle.vk_types.specs.declared.command.SlotName.{SlotName}
use Rattle.vk_types.specs.declared.command.SlotName.TheVariants as slot
use Rattle.vk_types.specs.declared.command.SlotRange.{SlotRange}
use Rattle.vk_types.specs.declared.command.Groups.{Groups}
use Rattle.vk_types.specs.declared.command.Work.{Work}
use Rattle.vk_types.specs.declared.command.Work.TheVariants as work
use Rattle.vk_types.specs.Memory.{range, or_zero}
use Rattle.d3d_model.specs.Past.{Past}
use Rattle.d3d_model.specs.View.{view_range}
use Rattle.d3d_model.specs.Binding.{Bindings, Predicate, Word, predicate_range}
use Rattle.d3d_model.specs.D3dState.{Objects, words_set}
use Rattle.d3d_model.specs.Shader.{declared_by}
use Rattle.d3d_model.specs.Memory.{constants_shown, srvs_shown, uavs_shown}
use Rattle.core_model.specs.Renaming.{BlockMap, range_on, slot_on, groups_on, work_on, cond_on}
use Rattle.log_script.specs.Makers.{of_maker}
use Rattle.log_script.specs.Plays.{condition, slots_from, slots_listed, creator, clear, clear_words, dispatch}
use Rattle.item_work.specs.Placed.{IdBlocks, NamesBlocks, range_at}
use Rattle.item_work.specs.Slots.{slots_on, slots_seen}

module _ (past : Past) (named : IdBlocks) (of : BlockMap) (names : NamesBlocks past named of) where
  pub range_moves : (r : ResRange) → range_at named r ≡ range_on of (of_maker past r)
  range_moves r = ap (λ (b : Option ℕ). range (or_zero b) r.from r.to) (names r.res)

  pub word_moves : (res offset value : ℕ) (p : Predicate) (word : Option ResRange) → p ≡ Word res offset value
      → option_to_list word ≡ predicate_range p
      → option_map (λ (r : ResRange). record { at = range_at named r; value = value }) word ≡ cond_on of (condition past p)
  word_moves res offset value p None is e =
      let none : ◌≡◌ {A = List ResRange} [] (record { res = res; from = offset; to = offset + 4 } ∷ []) = e ∙ ap predicate_range is in absurd cc
  word_moves res offset value p (Some r) is e =
      let one : ◌≡◌ {A = List ResRange} (r ∷ []) (record { res = res; from = offset; to = offset + 4 } ∷ []) = e ∙ ap predicate_range is in
      let same : r ≡ record { res = res; from = offset; to = offset + 4 } = cc in
      ap (λ (a : Range). Some (record { at = a; value = value })) (range_moves r ∙ ap (λ (q : ResRange). range_on of (of_maker past q)) same)
      ∙ sym (ap (λ (q : Predicate). cond_on of (condition past q)) is)

  slot_moves : (name : SlotName) (r : ResRange)
      → ◌≡◌ {A = SlotRange} (record { slot = name; range = range_at named r }) (slot_on of (record { slot = name; range = of_maker past r }))
  slot_moves name r = ap (λ (a : Range). record { slot = name; range = a }) (range_moves r)

  slots_move : (name : ℕ → SlotName) (i : ℕ) (shown : List (Option ResRange))
      → slots_on named name i shown ≡ map (slot_on of) (slots_from past name i shown)
  slots_move name i [] = refl
  slots_move name i (None ∷ shown) = slots_move name (suc i) shown
  slots_move name i (Some r ∷ shown) =
      ap (λ (s : SlotRange). s ∷ slots_on named name (suc i) shown) (slot_moves (name i) r)
      ∙ ap (λ (l : List SlotRange). slot_on of (record { slot = name i; range = of_maker past r }) ∷ l) (slots_move name (suc i) shown)

  all_slots_move : (o : Objects) (b : Bindings) (ds : List Declared) → ds ≡ declared_by (words_set o b)
      → slots_seen named o b ds ≡ map (slot_on of) (slots_listed past o b)
  all_slots_move o b ds is =
      let words = declared_by (words_set o b) in
      let cs = slots_from past slot.Constant 0 (constants_shown o b words) in
      let rs = slots_from past slot.Srv 0 (srvs_shown b words) in
      let us = slots_from past slot.Uav 0 (uavs_shown b words) in
      ap (slots_seen named o b) is
      ∙ ap (λ (l : List SlotRange). l ++ (slots_on named slot.Srv 0 (srvs_shown b words) ++ slots_on named slot.Uav 0 (uavs_shown b words))) (slots_move slot.Constant 0 (constants_shown o b words))
      ∙ ap (λ (l : List SlotRange). map (slot_on of) cs ++ (l ++ slots_on named slot.Uav 0 (uavs_shown b words))) (slots_move slot.Srv 0 (srvs_shown b words))
      ∙ ap (λ (l : List SlotRange). map (slot_on of) cs ++ (map (slot_on of) rs ++ l)) (slots_move slot.Uav 0 (uavs_shown b words))
      ∙ ap (λ (l : List SlotRange). map (slot_on of) cs ++ l) (sym (map-append (slot_on of) rs us))
      ∙ sym (map-append (slot_on of) cs (rs ++ us))

  pub dispatch_moves : (o : Objects) (b : Bindings) (ds : List Declared) (shader : ℕ) (counts : Groups) (groups : Groups) (slots : List SlotRange)
      → shader ≡ creator (ids.get o.shaders b.shader) → ds ≡ declared_by (words_set o b) → groups ≡ groups_on of counts
      → slots ≡ slots_seen named o b ds → work.Dispatch shader groups slots ≡ work_on of (dispatch past o b counts)
  dispatch_moves o b ds shader counts groups slots by declares on has =
      ap (λ (n : ℕ). work.Dispatch n groups slots) by
      ∙ ap (λ (g : Groups). work.Dispatch (creator (ids.get o.shaders b.shader)) g slots) on
      ∙ ap (λ (l : List SlotRange). work.Dispatch (creator (ids.get o.shaders b.shader)) (groups_on of counts) l) (has ∙ all_slots_move o b ds declares)

  if_moves : (b : Bool) (x y : Work) → b ≡ true → work_on of x ≡ work_on of (cond b x y)
  if_moves b x y e = sym (ap (λ (t : Bool). work_on of (cond t x y)) e)

  else_moves : (b : Bool) (x y : Work) → b ≡ false → work_on of y ≡ work_on of (cond b x y)
  else_moves b x y e = sym (ap (λ (t : Bool). work_on of (cond t x y)) e)

  pub fill_moves : (v : ViewShape) (v0 v1 v2 v3 : ℕ) (target : Range) → target ≡ range_on of (of_maker past (view_range v))
      → (clear_words v.form v.unit == 1) ≡ true → work.Fill target v0 ≡ work_on of (clear past v v0 v1 v2 v3)
  fill_moves v v0 v1 v2 v3 target is one =
      ap (λ (t : Range). work.Fill t v0) is
      ∙ if_moves (clear_words v.form v.unit == 1) (work.Fill (of_maker past (view_range v)) v0)
      (work.Clear (of_maker past (view_range v)) (v0 ∷ v1 ∷ v2 ∷ v3 ∷ []) (clear_words v.form v.unit)) one

  pub clear_moves : (v : ViewShape) (v0 v1 v2 v3 unit : ℕ) (target : Range) → target ≡ range_on of (of_maker past (view_range v))
      → unit ≡ clear_words v.form v.unit → (clear_words v.form v.unit == 1) ≡ false
      → work.Clear target (v0 ∷ v1 ∷ v2 ∷ v3 ∷ []) unit ≡ work_on of (clear past v v0 v1 v2 v3)
  clear_moves v v0 v1 v2 v3 unit target is words more =
      ap (λ (t : Range). work.Clear t (v0 ∷ v1 ∷ v2 ∷ v3 ∷ []) unit) is
      ∙ ap (λ (n : ℕ). work.Clear (range_on of (of_maker past (view_range v))) (v0 ∷ v1 ∷ v2 ∷ v3 ∷ []) n) words
      ∙ else_moves (clear_words v.form v.unit == 1) (work.Fill (of_maker past (view_range v)) v0)
      (work.Clear (of_maker past (view_range v)) (v0 ∷ v1 ∷ v2 ∷ v3 ∷ []) (clear_words v.form v.unit)) more
