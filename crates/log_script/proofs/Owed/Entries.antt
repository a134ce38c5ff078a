-- What holds of each entry of a map.
use Rattle.std.proofs.Common.{◌≡◌, ℕ, Option, Some, None, sym, ap, ◌∙◌, subst, inl, inr}
use Rattle.std.specs.Prelude.{unwrap_or}
use Rattle.std.proofs.lemmas.Bool.{cases_eq}
use Rattle.base_lemmas.specs.IdMap.{IdMap, empty, get, insert}
use Rattle.base_lemmas.proofs.Maps.{get-empty, get_same, get_other}

abbrev pub AllIn : {X : Type 0} → (ℕ → X → Type 0) → IdMap X → Type 0
AllIn {X} P m = (id : ℕ) (x : X) → get m id ≡ Some x → P id x

pub all_empty : {X : Type 0} (P : ℕ → X → Type 0) → AllIn P empty
all_empty {X} P id x e = absurd (none (get (empty {X = X}) id) (get-empty X id) e)
  where
    none : (o : Option X) → o ≡ None → o ≡ Some x → ⊥
    none o e f = cc

pub all_insert : {X : Type 0} (P : ℕ → X → Type 0) (m : IdMap X) (k : ℕ) (v : X) → P k v → AllIn P m
    → AllIn P (insert m k v)
all_insert {X} P m k v pk h q x e = elim (cases_eq q k) [
  | inl p ↦
      let same : Some v ≡ Some x = sym (get_same m k v) ∙ (ap (λ (j : ℕ). get (insert m k v) j) (sym p) ∙ e) in
      subst (λ (j : ℕ). P j x) (sym p) (subst (λ (w : X). P k w) (ap (λ o. unwrap_or o v) same) pk)
  | inr apart ↦ h q x (sym (get_other m k v q apart) ∙ e)
]
