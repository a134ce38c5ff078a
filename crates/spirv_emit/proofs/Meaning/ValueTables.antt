-- Tables of values, and what straight-line code keeps of a memory.
use Rattle.std.proofs.Common.{◌≡◌, ℕ, ◌<◌, ◌≤◌, if◌then◌else◌, Some, refl, ap, ◌∙◌, arith}
use Rattle.std.proofs.lemmas.Bool.{eq-eqb, ne_eqb}
use Rattle.spirv_model.specs.Meaning.Values.{Value}
use Rattle.spirv_model.specs.Meaning.Memory.{Table, Memory, with_value, with_result}

pub with_same : (t : Table) (x : ℕ) (v : Value) → with_value x v t x ≡ Some v
with_same t x v = ap (λ b. if b then Some v else t x) (eq-eqb x x refl)

pub with_other : (t : Table) (x y : ℕ) (v : Value) → (y ≡ x → ⊥) → with_value x v t y ≡ t y
with_other t x y v ne = ap (λ b. if b then Some v else t y) (ne_eqb y x ne)

-- the slots, the variables, and the results below n
pub record Same (n : ℕ) (m m' : Memory) : Type 0 where
  pub slots : m'.slots ≡ m.slots
  pub variables : m'.variables ≡ m.variables
  pub results : (x : ℕ) → x < n → m'.results x ≡ m.results x

pub same_self : (n : ℕ) (m : Memory) → Same n m m
same_self n m = record { slots = refl; variables = refl; results = λ x h. refl }

pub same_then : (n n' : ℕ) (a b c : Memory) → n ≤ n' → Same n a b → Same n' b c → Same n a c
same_then n n' a b c le p q = record {
  slots = q.slots ∙ p.slots;
  variables = q.variables ∙ p.variables;
  results = λ x h. q.results x (omega arith) ∙ p.results x h;
}

pub same_put : (n r : ℕ) (v : Value) (m : Memory) → n ≤ r → Same n m (with_result r v m)
same_put n r v m le = record {
  slots = refl;
  variables = refl;
  results = λ x h. with_other m.results r x v (λ (e : x ≡ r). absurd (omega arith));
}
