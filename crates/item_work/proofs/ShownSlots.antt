-- What the slots of a dispatch show, slot by slot.
use Rattle.std.proofs.Common.{◌≡◌, ℕ, zero, suc, ◌+◌, ◌≤◌, ◌<◌, List, [], ◌∷◌, ◌++◌, length, take, get_or, Option, None}
use Rattle.std.proofs.Common.{refl, sym, ap, ◌∙◌, append_assoc, append-nil, arith}
use Rattle.std.specs.List.{find}
use Rattle.std.proofs.lemmas.List.{take_all, take_more, length-take}
use Rattle.dx_types.specs.declared.range.ResRange.{ResRange}
use Rattle.shader_model.specs.declared.tree.Declared.{Declared}
use Rattle.vk_types.specs.declared.command.SlotName.{SlotName}
use Rattle.vk_types.specs.declared.command.SlotRange.{SlotRange}
use Rattle.d3d_model.specs.Memory.{is_declared, shown_from}
use Rattle.item_work.specs.Placed.{IdBlocks}
use Rattle.item_work.specs.Slots.{slot_if, slots_on}

module _ {X : Type 0} (show : Option Declared → X → Option ResRange) (ds : List Declared) (opcode : ℕ) where
  pub length-shown : (j : ℕ) (slots : List X) → length (shown_from show ds opcode j slots) ≡ length slots
  length-shown j [] = refl
  length-shown j (s ∷ slots) = ap (λ n. suc n) (length-shown (suc j) slots)

  shown_at : (j : ℕ) (slots : List X) (i : ℕ) (d : X) → i < length slots
      → get_or (shown_from show ds opcode j slots) i None ≡ show (find (is_declared opcode (j + i)) ds) (get_or slots i d)
  shown_at j [] i d h = absurd (omega arith)
  shown_at j (s ∷ slots) zero d h = ap (λ (k : ℕ). show (find (is_declared opcode k) ds) s) (let e : j ≡ j + 0 = omega arith in e)
  shown_at j (s ∷ slots) (suc i) d h =
      shown_at (suc j) slots i d (omega arith)
      ∙ ap (λ (k : ℕ). show (find (is_declared opcode k) ds) (get_or slots i d)) (let e : suc j + i ≡ j + suc i = omega arith in e)

  pub shown_first : (slots : List X) (i : ℕ) (d : X) → i < length slots
      → get_or (shown_from show ds opcode 0 slots) i None ≡ show (find (is_declared opcode i) ds) (get_or slots i d)
  shown_first slots i d h =
      shown_at 0 slots i d h ∙ ap (λ (k : ℕ). show (find (is_declared opcode k) ds) (get_or slots i d)) (let e : 0 + i ≡ i = omega arith in e)

module _ (named : IdBlocks) (name : ℕ → SlotName) where
  one_behind : (j : ℕ) (xs : List (Option ResRange)) (x : Option ResRange)
      → slots_on named name j (xs ++ x ∷ []) ≡ slots_on named name j xs ++ slot_if named (name (j + length xs)) x
  one_behind j [] x =
      append-nil (slot_if named (name j) x) ∙ ap (λ (k : ℕ). slot_if named (name k) x) (let e : j ≡ j + 0 = omega arith in e)
  one_behind j (y ∷ xs) x =
      ap (λ (l : List SlotRange). slot_if named (name j) y ++ l) (one_behind (suc j) xs x)
      ∙ sym (append_assoc (slot_if named (name j) y) (slots_on named name (suc j) xs) (slot_if named (name (suc j + length xs)) x))
      ∙ ap (λ (k : ℕ). (slot_if named (name j) y ++ slots_on named name (suc j) xs) ++ slot_if named (name k) x)
      (let e : suc j + length xs ≡ j + suc (length xs) = omega arith in e)

  -- one more slot is appended
  pub slot_more : (shown : List (Option ResRange)) (i : ℕ) (before items after : List SlotRange) (x : Option ResRange)
      → i < length shown → x ≡ get_or shown i None → items ≡ before ++ slots_on named name 0 (take i shown)
      → after ≡ items ++ slot_if named (name i) x → after ≡ before ++ slots_on named name 0 (take (i + 1) shown)
  slot_more shown i before items after x below is so_far pushes =
      let place : 0 + length (take i shown) ≡ i = omega (arith, length-take i shown) in
      pushes ∙ ap (λ (l : List SlotRange). l ++ slot_if named (name i) x) so_far
      ∙ append_assoc before (slots_on named name 0 (take i shown)) (slot_if named (name i) x)
      ∙ ap (λ (l : List SlotRange). before ++ l)
      (ap (λ (k : ℕ). slots_on named name 0 (take i shown) ++ slot_if named (name k) x) (sym place)
      ∙ sym (one_behind 0 (take i shown) x)
      ∙ ap (λ (y : Option ResRange). slots_on named name 0 (take i shown ++ y ∷ [])) is
      ∙ ap (slots_on named name 0) (sym (take_more shown i None below)))

  -- all slots are
  pub slots_all : (shown : List (Option ResRange)) (n : ℕ) (before after : List SlotRange) → length shown ≤ n
      → after ≡ before ++ slots_on named name 0 (take n shown) → after ≡ before ++ slots_on named name 0 shown
  slots_all shown n before after long e = e ∙ ap (λ (l : List (Option ResRange)). before ++ slots_on named name 0 l) (take_all n shown long)
