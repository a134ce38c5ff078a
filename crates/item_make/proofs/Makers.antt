-- The makers of buffers, whether these live or not: they are earlier calls, and two buffers have two.
use Rattle.std.proofs.Common.{◌≡◌, ℕ, zero, suc, ◌≤◌, Bool, true, ◌==◌, ◌⊎◌, List, Option, refl, sym, ap, ◌∙◌, inl, inr, arith}
use Rattle.std.specs.Prelude.{is_some, if◌then◌else◌}
use Rattle.std.proofs.lemmas.Bool.{cases_eq, eq-eqb, ne_eqb}
use Rattle.dx_types.specs.declared.shape.Shape.{Shape}
use Rattle.call_log.specs.Call.{Issued}
use Rattle.d3d_model.specs.D3dState.{buffer_of}
use Rattle.d3d_model.specs.InOrder.{after_calls}
use Rattle.d3d_model.specs.Past.{Past}
use Rattle.d3d_model.specs.Resource.{Buffers}
use Rattle.core_model.specs.Script.{Turn}
use Rattle.log_script.specs.LogScript.{shape_made}
use Rattle.log_script.specs.Makers.{maker}
use Rattle.log_script.proofs.Owed.BufferMakers.{all_made, some_of}
use Rattle.log_script.proofs.Owed.BufferSteps.{id_made, Step, step_at}
use Rattle.item_make.specs.Making.{NeverMade, MakesAlone}

record Apart (n : ℕ) (past : Past) : Type 0 where
  below : (id : ℕ) → maker past id ≤ n
  apart : (id other : ℕ) → maker past other ≡ maker past id → (other ≡ id) ⊎ (maker past id ≡ 0)

-- where the makers stay
steady : (n : ℕ) (past past' : Past) → ((id : ℕ) → maker past' id ≡ maker past id) → Apart n past → Apart (suc n) past'
steady n past past' makers a = record {
  below = λ id. omega (arith, makers id, a.below id);
  apart = λ id other e. elim (a.apart id other (sym (makers other) ∙ e ∙ makers id)) [
    | inl p ↦ inl p
    | inr none ↦ inr (makers id ∙ none)
  ];
}

-- where a call makes a buffer
made : (n made_id : ℕ) (past past' : Past) → ((id : ℕ) → maker past' id ≡ (if made_id == id then suc n else maker past id))
    → Apart n past → Apart (suc n) past'
made n made_id past past' makers a = record { below = bounded; apart = distinct }
  where
    here : (id : ℕ) → id ≡ made_id → maker past' id ≡ suc n
    here id p = makers id ∙ ap (λ (t : Bool). if t then suc n else maker past id) (eq-eqb made_id id (sym p))

    there : (id : ℕ) → (id ≡ made_id → ⊥) → maker past' id ≡ maker past id
    there id p = makers id ∙ ap (λ (t : Bool). if t then suc n else maker past id) (ne_eqb made_id id (λ q. p (sym q)))

    bounded : (id : ℕ) → maker past' id ≤ suc n
    bounded id = elim (cases_eq id made_id) [
      | inl p ↦ omega (arith, here id p)
      | inr p ↦ omega (arith, there id p, a.below id)
    ]

    distinct : (id other : ℕ) → maker past' other ≡ maker past' id → (other ≡ id) ⊎ (maker past' id ≡ 0)
    distinct id other e = elim (cases_eq id made_id) [
      | inl p ↦ elim (cases_eq other made_id) [
        | inl q ↦ inl (q ∙ sym p)
        | inr q ↦ absurd (omega (arith, e, here id p, there other q, a.below other))
      ]
      | inr p ↦ elim (cases_eq other made_id) [
        | inl q ↦ absurd (omega (arith, e, here other q, there id p, a.below id))
        | inr q ↦ elim (a.apart id other (sym (there other q) ∙ e ∙ there id p)) [
          | inl same ↦ inl same
          | inr none ↦ inr (there id p ∙ none)
        ]
      ]
    ]

one_step : (n : ℕ) (shape : Option Shape) (own : ℕ) (b : Buffers) (past : Past) (b' : Buffers) (past' : Past) (ts : List Turn)
    → Step (suc n) shape own b past b' past' ts → Apart n past → Apart (suc n) past'
one_step n shape own b past b' past' ts (inl h) a = steady n past past' h.makers a
one_step n shape own b past b' past' ts (inr (inl h)) a = made n h.id past past' h.makers a
one_step n shape own b past b' past' ts (inr (inr h)) a = steady n past past' h.makers a

none_made : (log : List Issued) → Apart zero (after_calls log zero).past
unfolding after_calls maker
none_made log = record { below = λ id. omega arith; apart = λ id other e. inr refl }

all_apart : (log : List Issued) (n : ℕ) → Apart n (after_calls log n).past
all_apart log zero = none_made log
all_apart log (suc n) =
    one_step n (shape_made log (suc n)) (id_made log (suc n)) (after_calls log n).objects.buffers (after_calls log n).past
    (after_calls log (suc n)).objects.buffers (after_calls log (suc n)).past _ (step_at log n) (all_apart log n)

pub next_call : (log : List Issued) (n : ℕ) → NeverMade (after_calls log n).past (suc n)
next_call log n id e = omega (arith, e, (all_apart log n).below id)

pub one_buffer : (log : List Issued) (n id : ℕ) → is_some (buffer_of (after_calls log n).objects id) ≡ true
    → MakesAlone (after_calls log n).past id
one_buffer log n id live other e =
    let found = some_of (buffer_of (after_calls log n).objects id) live in
    let first = (all_made log n id found.0 found.1).first in
    elim ((all_apart log n).apart id other e) [ inl same ↦ same | inr none ↦ absurd (omega (arith, first, none)) ]
