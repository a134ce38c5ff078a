-- The scripts that no log has are not lawful.
use Rattle.std.proofs.Common.{◌≡◌, ℕ, [], ◌∷◌, true, false, refl, sym, subst, Some, None}
use Rattle.std.specs.List.{list_any}
use Rattle.vk_types.specs.declared.command.Groups.TheVariants as groups
use Rattle.vk_types.specs.declared.command.SlotName.TheVariants as slot
use Rattle.vk_types.specs.declared.command.Work.TheVariants as work
use Rattle.vk_types.specs.Memory.{range}
use Rattle.vk_types.specs.Effects.{Meaning}
use Rattle.core_model.specs.Script.{Command, Create_shader, Set_state, Constant, Flushed, Item}
use Rattle.core_model.specs.Lawful.{is_item_of, IsLawful}
use Rattle.core_model.specs.WorkedLogs.{all_of, buffer}
use Rattle.core_model.specs.Gaps.{cut_list, no_shader, odd_use, odd_copy, odd_slots}

pub cut_list_is_not : (meaning : Meaning) → IsLawful meaning cut_list → ⊥
cut_list_is_not meaning h =
    let z : false ≡ true =
    h.ends (buffer 1 [] ∷ []) (Item 2 3 false (Command (work.Fill (all_of 1) 5) None) (all_of 1 ∷ [])) refl in
    cc z

pub no_shader_is_not : (meaning : Meaning) → IsLawful meaning no_shader → ⊥
no_shader_is_not meaning h =
    let z : false ≡ true =
    (h.shaders [] 1 1 true (Command (work.Dispatch 9 (groups.Direct 1 1 1) []) None) [] [] refl).0 in cc z

pub odd_use_is_not : (meaning : Meaning) → IsLawful meaning odd_use → ⊥
odd_use_is_not meaning h =
    let front = Item 1 1 true Set_state [] ∷ Flushed 2 ∷ [] in
    let u = h.uses front 3 (Constant 1) (Some 2) false [] refl in
    none u.0 u.1 u.3
  where
    none : (n : ℕ) → Some 2 ≡ Some n → list_any (is_item_of n) (Item 1 1 true Set_state [] ∷ Flushed 2 ∷ []) ≡ true → ⊥
    none n e k = let s : 2 ≡ n = cc e in let z : false ≡ true =
        subst (λ n. list_any (is_item_of n) (Item 1 1 true Set_state [] ∷ Flushed 2 ∷ []) ≡ true) (sym s) k in cc z

pub odd_copy_is_not : (meaning : Meaning) → IsLawful meaning odd_copy → ⊥
odd_copy_is_not meaning h =
    let z : 16 ≡ 4 =
    (h.formed (buffer 1 [] ∷ buffer 2 [] ∷ []) 3 3 true (Command (work.Copy (all_of 1) (range 2 0 4)) None)
    (all_of 1 ∷ range 2 0 4 ∷ []) [] refl).0 in cc z

pub odd_slots_is_not : (meaning : Meaning) → IsLawful meaning odd_slots → ⊥
odd_slots_is_not meaning h =
    (h.formed (buffer 1 [] ∷ Item 2 2 true Create_shader [] ∷ []) 3 3 true
    (Command (work.Dispatch 2 (groups.Direct 1 1 1) (record { slot = slot.Uav 0; range = all_of 1 } ∷ record
    { slot = slot.Uav 1; range = range 1 0 8 } ∷ [])) None) (all_of 1 ∷ range 1 0 8 ∷ []) [] refl).0.apart.0.0
    refl refl
