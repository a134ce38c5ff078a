-- Where a label stands.
use Rattle.std.proofs.Common.{◌≡◌, ℕ, ◌<◌, ◌≤◌, Bool, true, false, if◌then◌else◌, ◌⊎◌, inl, inr, ⊎_elim, List, [], ◌∷◌, ◌++◌, Some, None, refl, sym, ap, ◌∙◌, subst, arith, append_assoc}
use Rattle.std.specs.Prelude.{◌==◌}
use Rattle.std.proofs.lemmas.Bool.{eq-eqb, ne_eqb}
use Rattle.spirv_model.specs.Op.{Op}
use Rattle.spirv_model.specs.Op as op
use Rattle.spirv_model.specs.Meaning.ModuleMeaning.{after_label}

label_step : (t : Bool) (l : ℕ) (a b : List Op) → (if t then Some a else after_label l a) ≡ None → (after_label l a ≡ None → after_label l (a ++ b) ≡ after_label l b) → (if t then Some (a ++ b) else after_label l (a ++ b)) ≡ after_label l b
label_step true l a b h rec = cc
label_step false l a b h rec = rec h

pub after_append : (l : ℕ) (a b : List Op) → after_label l a ≡ None → after_label l (a ++ b) ≡ after_label l b
after_append l [] b h = refl
after_append l (op.Label x ∷ a) b h = label_step (x == l) l a b h (after_append l a b)
after_append l (_ ∷ a) b h = after_append l a b h

pub after_here : (l : ℕ) (rest : List Op) → after_label l (op.Label l ∷ rest) ≡ Some rest
after_here l rest = ap (λ t. if t then Some rest else after_label l rest) (eq-eqb l l refl)

pub after_other : (l x : ℕ) (rest : List Op) → (x ≡ l → ⊥) → after_label l (op.Label x ∷ rest) ≡ after_label l rest
after_other l x rest ne = ap (λ t. if t then Some rest else after_label l rest) (ne_eqb x l ne)

-- the labels are from lo on and below hi
pub record Within (lo hi : ℕ) (code : List Op) : Type 0 where
  pub out : (l : ℕ) → (l < lo) ⊎ (hi ≤ l) → after_label l code ≡ None

pub within_none : (lo hi : ℕ) → Within lo hi []
within_none lo hi = record { out = λ l h. refl }

pub within_append : (lo hi : ℕ) (a b : List Op) → Within lo hi a → Within lo hi b → Within lo hi (a ++ b)
within_append lo hi a b wa wb = record { out = λ l h. after_append l a b (wa.out l h) ∙ wb.out l h }

pub within_more : (lo hi lo' hi' : ℕ) (a : List Op) → lo' ≤ lo → hi ≤ hi' → Within lo hi a → Within lo' hi' a
within_more lo hi lo' hi' a p q w =
    record { out = λ l h. w.out l (⊎_elim (λ (x : l < lo'). inl (omega arith)) (λ (x : hi' ≤ l). inr (omega arith)) h) }

pub within_op : (lo hi : ℕ) (o : Op) (code : List Op) → ((l : ℕ) → after_label l (o ∷ code) ≡ after_label l code) → Within lo hi code → Within lo hi (o ∷ code)
within_op lo hi o code e w = record { out = λ l h. e l ∙ w.out l h }

pub within_label : (lo hi x : ℕ) (code : List Op) → lo ≤ x → x < hi → Within lo hi code → Within lo hi (op.Label x ∷ code)
within_label lo hi x code p q w =
    record { out = λ l h. after_other l x code (⊎_elim (λ (y : l < lo). λ (e : x ≡ l). absurd (omega arith)) (λ (y : hi ≤ l). λ (e : x ≡ l). absurd (omega arith)) h) ∙ w.out l h }

module _ (all : List Op) where
  -- the code stands in the whole, behind labels below n
  pub record At (n : ℕ) (code : List Op) : Type 0 where
    pub pre : List Op
    pub is : all ≡ pre ++ code
    pub below : (l : ℕ) → n ≤ l → after_label l pre ≡ None

  pub at_after : (n lo n' : ℕ) (a rest : List Op) → n ≤ n' → Within lo n' a → At n (a ++ rest) → At n' rest
  at_after n lo n' a rest le w h = record {
    pre = h.pre ++ a;
    is = h.is ∙ sym (append_assoc h.pre a rest);
    below = λ l k. after_append l h.pre a (h.below l (omega arith)) ∙ w.out l (inr k);
  }

  pub found : (n l : ℕ) (a rest : List Op) → n ≤ l → after_label l a ≡ None → At n (a ++ (op.Label l ∷ rest)) → after_label l all ≡ Some rest
  found n l a rest le e h =
      ap (after_label l) h.is
      ∙ after_append l h.pre (a ++ (op.Label l ∷ rest)) (h.below l le)
      ∙ after_append l a (op.Label l ∷ rest) e
      ∙ after_here l rest

  pub at_behind : (n x n' : ℕ) (front rest : List Op) → n ≤ n' → x < n' → ((k : ℕ) → n' ≤ k → after_label k front ≡ None) → At n (front ++ (op.Label x ∷ rest)) → At n' rest
  at_behind n x n' front rest le lt free h = record {
    pre = h.pre ++ (front ++ op.Label x ∷ []);
    is = h.is ∙ ap (λ c. h.pre ++ c) (sym (append_assoc front (op.Label x ∷ []) rest)) ∙ sym (append_assoc h.pre (front ++ op.Label x ∷ []) rest);
    below = λ k w. after_append k h.pre _ (h.below k (omega arith)) ∙ after_append k front _ (free k w) ∙ after_other k x [] (λ e. absurd (omega arith));
  }

  pub at_same : (n : ℕ) (a b : List Op) → a ≡ b → At n a → At n b
  at_same n a b e h = subst (λ c. At n c) e h
