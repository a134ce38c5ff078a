-- What an opcode does, by the table of instructions.
use Rattle.std.proofs.Common.{◌≡◌, ◌≤◌, ℕ, Bool, true, false, List, [], ◌∷◌, Some, None, if◌then◌else◌, ◌⊎◌, inl, inr, refl, arith}
use Rattle.std.proofs.lemmas.Bool.{eqb-true}
use Rattle.std.specs.Prelude.{◌==◌}
use Rattle.shader_model.specs.declared.opcode.Row.{Row}
use Rattle.shader_model.specs.Opcodes.{rows, row_among, row_of}
use Rattle.shader_eval.specs.Actions.{action_in, action_by, action_at}

-- a row is another opcode's, or does nothing here
abbrev Passes : ℕ → List Row → Type 0
Passes n [] = Unit {0}
Passes n (r ∷ rs) = ((r.number ≡ n → ⊥) ⊎ (action_by r.name ≡ None)) × Passes n rs

by_test : (n : ℕ) (r : Row) (rs : List Row) (b : Bool) → (r.number == n) ≡ b → (r.number ≡ n → ⊥) ⊎ (action_by r.name ≡ None) → action_in (row_among n rs) ≡ None → action_in (if b then Some r else row_among n rs) ≡ None
by_test n r rs true e (inl ne) h = absurd (ne (eqb-true r.number n e))
by_test n r rs true e (inr none) h = none
by_test n r rs false e one h = h

none_among : (n : ℕ) (rs : List Row) → Passes n rs → action_in (row_among n rs) ≡ None
none_among n [] h = refl
none_among n (r ∷ rs) h = by_test n r rs (r.number == n) refl h.0 (none_among n rs h.1)

-- an opcode that is no plain instruction's does nothing here
pub none_at : (n : ℕ) → (16 ≤ n → n ≤ 45 → ⊥) → (48 ≤ n → n ≤ 53 → ⊥) → (56 ≤ n → n ≤ 65 → ⊥) → action_at n ≡ None
unfolding row_of
none_at n a b c = none_among n rows (inl (λ e. a (omega arith) (omega arith)), (inl (λ e. a (omega arith) (omega arith)), (inl (λ e. a (omega arith) (omega arith)), (inl (λ e. a (omega arith) (omega arith)), (inl (λ e. a (omega arith) (omega arith)), (inl (λ e. a (omega arith) (omega arith)), (inl (λ e. a (omega arith) (omega arith)), (inl (λ e. a (omega arith) (omega arith)), (inl (λ e. a (omega arith) (omega arith)), (inl (λ e. a (omega arith) (omega arith)), (inl (λ e. a (omega arith) (omega arith)), (inl (λ e. a (omega arith) (omega arith)), (inl (λ e. a (omega arith) (omega arith)), (inl (λ e. a (omega arith) (omega arith)), (inl (λ e. a (omega arith) (omega arith)), (inl (λ e. a (omega arith) (omega arith)), (inl (λ e. a (omega arith) (omega arith)), (inl (λ e. a (omega arith) (omega arith)), (inl (λ e. a (omega arith) (omega arith)), (inl (λ e. a (omega arith) (omega arith)), (inl (λ e. a (omega arith) (omega arith)), (inl (λ e. a (omega arith) (omega arith)), (inl (λ e. a (omega arith) (omega arith)), (inl (λ e. a (omega arith) (omega arith)), (inl (λ e. a (omega arith) (omega arith)), (inl (λ e. a (omega arith) (omega arith)), (inl (λ e. a (omega arith) (omega arith)), (inl (λ e. a (omega arith) (omega arith)), (inl (λ e. a (omega arith) (omega arith)), (inl (λ e. a (omega arith) (omega arith)), (inl (λ e. b (omega arith) (omega arith)), (inl (λ e. b (omega arith) (omega arith)), (inl (λ e. b (omega arith) (omega arith)), (inl (λ e. b (omega arith) (omega arith)), (inl (λ e. b (omega arith) (omega arith)), (inl (λ e. b (omega arith) (omega arith)), (inl (λ e. c (omega arith) (omega arith)), (inl (λ e. c (omega arith) (omega arith)), (inl (λ e. c (omega arith) (omega arith)), (inl (λ e. c (omega arith) (omega arith)), (inl (λ e. c (omega arith) (omega arith)), (inl (λ e. c (omega arith) (omega arith)), (inl (λ e. c (omega arith) (omega arith)), (inl (λ e. c (omega arith) (omega arith)), (inl (λ e. c (omega arith) (omega arith)), (inl (λ e. c (omega arith) (omega arith)), (inr refl, (inr refl, (inr refl, (inr refl, (inr refl, (inr refl, (inr refl, (inr refl, (inr refl, (inr refl, (inr refl, (inr refl, (inr refl, (inr refl, (inr refl, tt)))))))))))))))))))))))))))))))))))))))))))))))))))))))))))))
