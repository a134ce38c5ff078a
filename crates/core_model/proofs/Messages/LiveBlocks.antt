-- Live buffers are those that have a block.
use Rattle.std.proofs.Common.{◌≡◌, ℕ, Bool, true, false, cond, ◌==◌}
use Rattle.std.proofs.Common.{sym, ap, ◌∙◌, inl, inr, Some, None}
use Rattle.std.proofs.lemmas.Bool.{cases_Bool, eqb-true}
use Rattle.core_model.specs.Script.{updated}
use Rattle.core_model.specs.Renaming.{BlockMap}

-- Live buffers are those that have a block --------------------------------------------------------------------------

pub record Lives (live : ℕ → Bool) (blocks : BlockMap) : Type 0 where
  pub has_block : (r : ℕ) → live r ≡ true → (b : ℕ) × (blocks r ≡ Some b)
  pub is_live : (r b : ℕ) → blocks r ≡ Some b → live r ≡ true

module _ (live : ℕ → Bool) (blocks : BlockMap) (h : Lives live blocks) (buffer : ℕ) where
  pub created_lives : (b : ℕ) → Lives (updated buffer true live) (updated buffer (Some b) blocks)
  created_lives b = record {
    has_block = λ r l. elim (cases_Bool (r == buffer)) [
      | inl t ↦ (b, ap (λ c. cond c (Some b) (blocks r)) t)
      | inr f ↦
          let x = h.has_block r (sym (ap (λ c. cond c true (live r)) f) ∙ l) in
          (x.0, ap (λ c. cond c (Some b) (blocks r)) f ∙ x.1)
    ];
    is_live = λ r q e. elim (cases_Bool (r == buffer)) [
      | inl t ↦ ap (λ c. cond c true (live r)) t
      | inr f ↦ ap (λ c. cond c true (live r)) f ∙ h.is_live r q (sym (ap (λ c. cond c (Some b) (blocks r)) f) ∙ e)
    ];
  }

  pub renamed_lives : (b : ℕ) → live buffer ≡ true → Lives live (updated buffer (Some b) blocks)
  renamed_lives b lives = record {
    has_block = λ r l. elim (cases_Bool (r == buffer)) [
      | inl t ↦ (b, ap (λ c. cond c (Some b) (blocks r)) t)
      | inr f ↦ let x = h.has_block r l in (x.0, ap (λ c. cond c (Some b) (blocks r)) f ∙ x.1)
    ];
    is_live = λ r q e. elim (cases_Bool (r == buffer)) [
      | inl t ↦ ap live (eqb-true r buffer t) ∙ lives
      | inr f ↦ h.is_live r q (sym (ap (λ c. cond c (Some b) (blocks r)) f) ∙ e)
    ];
  }

  pub destroyed_lives : Lives (updated buffer false live) (updated buffer None blocks)
  destroyed_lives = record {
    has_block = λ r l. elim (cases_Bool (r == buffer)) [
      | inl t ↦ absurd (let z : false ≡ true = sym (ap (λ c. cond c false (live r)) t) ∙ l in cc z)
      | inr f ↦
          let x = h.has_block r (sym (ap (λ c. cond c false (live r)) f) ∙ l) in
          (x.0, ap (λ c. cond c None (blocks r)) f ∙ x.1)
    ];
    is_live = λ r q e. elim (cases_Bool (r == buffer)) [
      | inl t ↦ absurd (let z : None ≡ Some q = sym (ap (λ c. cond c None (blocks r)) t) ∙ e in cc z)
      | inr f ↦ ap (λ c. cond c false (live r)) f ∙ h.is_live r q (sym (ap (λ c. cond c None (blocks r)) f) ∙ e)
    ];
  }
