-- The maker of a live buffer is an earlier call that created a buffer of this id and shape, so two live buffers have
-- two.
use Rattle.std.proofs.Common.{◌≡◌, ℕ, zero, suc, ◌≤◌, Bool, true, false, cond, List, Option, Some, None, refl, sym}
use Rattle.std.proofs.Common.{ap, ◌∙◌, inl, inr, arith}
use Rattle.std.specs.Prelude.{is_some, if◌then◌else◌}
use Rattle.std.specs.Ordering.{nat_cmp, eq_by_cmp}
use Rattle.std.proofs.lemmas.Bool.{cases_eq, eq-eqb, ne_eqb}
use Rattle.dx_types.specs.declared.shape.Shape.{Shape}
use Rattle.call_log.specs.Call.{Issued}
use Rattle.base_lemmas.specs.IdMap.{IdMap, get, insert, remove}
use Rattle.d3d_model.specs.Resource.{Buffers}
use Rattle.d3d_model.specs.Past.{Past}
use Rattle.d3d_model.specs.InOrder.{after_calls}
use Rattle.base_lemmas.proofs.Maps.{get-empty, get-remove, get_same, get_other}
use Rattle.core_model.specs.Script.{Turn}
use Rattle.log_script.specs.Makers.{maker}
use Rattle.log_script.specs.LogScript.{shape_made}
use Rattle.log_script.proofs.Owed.BufferSteps.{id_made, Step, step_at}

-- of a live buffer behind the first n calls
pub record Made (log : List Issued) (n : ℕ) (past : Past) (id : ℕ) (is : Shape) : Type 0 where
  pub first : 1 ≤ maker past id
  pub last : maker past id ≤ n
  pub shape : shape_made log (maker past id) ≡ Some is
  pub own : id_made log (maker past id) ≡ id

abbrev pub AllMade : List Issued → ℕ → Buffers → Past → Type 0
AllMade log n b past = (id : ℕ) (is : Shape) → get b id ≡ Some is → Made log n past id is

pub none_some : {X : Type 0} (o : Option X) (x : X) → o ≡ None → o ≡ Some x → ⊥
none_some o x e f = cc

pub some_of : {X : Type 0} (o : Option X) → is_some o ≡ true → (x : X) × (o ≡ Some x)
some_of None e = absurd cc
some_of (Some x) e = (x, refl)

pub one_removed : {X : Type 0} (m : IdMap X) (k q : ℕ) (v : X) → get (remove m k) q ≡ Some v → get m q ≡ Some v
one_removed m k q v e = by_test (eq_by_cmp nat_cmp q k) (get m q) (sym (get-remove m k q) ∙ e)
  where
    by_test : (b : Bool) (o : Option _) → cond b None o ≡ Some v → o ≡ Some v
    by_test true o f = absurd cc
    by_test false o f = f

-- the same maker, one call later
moved : (log : List Issued) (n : ℕ) (past past' : Past) (id : ℕ) (is : Shape) → maker past' id ≡ maker past id
    → Made log n past id is → Made log (suc n) past' id is
moved log n past past' id is e m = record {
  first = omega (arith, e, m.first);
  last = omega (arith, e, m.last);
  shape = ap (λ (k : ℕ). shape_made log k) e ∙ m.shape;
  own = ap (λ (k : ℕ). id_made log k) e ∙ m.own;
}

made_step : (log : List Issued) (n : ℕ) (b : Buffers) (past : Past) (b' : Buffers) (past' : Past) (ts : List Turn)
    → Step (suc n) (shape_made log (suc n)) (id_made log (suc n)) b past b' past' ts → AllMade log n b past
    → AllMade log (suc n) b' past'
made_step log n b past b' past' ts (inl h) all = λ id is e. moved log n past past' id is (h.makers id)
    (all id is (sym (ap (λ (m : Buffers). get m id) h.buffers) ∙ e))
made_step log n b past b' past' ts (inr (inl h)) all = λ id is e.
    let found : get (insert b h.id h.shape) id ≡ Some is = sym (ap (λ (m : Buffers). get m id) h.buffers) ∙ e in
    elim (cases_eq id h.id) [
      | inl p ↦
          let here : maker past' id ≡ suc n = h.makers id ∙ ap (λ (t : Bool). if t then suc n else maker past id)
          (eq-eqb h.id id (sym p)) in
          let same : Some h.shape ≡ Some is = sym (get_same b h.id h.shape)
          ∙ ap (λ (k : ℕ). get (insert b h.id h.shape) k) (sym p) ∙ found in
          record {
            first = omega (arith, here);
            last = omega (arith, here);
            shape = ap (λ (k : ℕ). shape_made log k) here ∙ h.made_here ∙ same;
            own = ap (λ (k : ℕ). id_made log k) here ∙ h.own_here ∙ sym p;
          }
      | inr apart ↦
          let other : maker past' id ≡ maker past id = h.makers id
          ∙ ap (λ (t : Bool). if t then suc n else maker past id) (ne_eqb h.id id (λ q. apart (sym q))) in
          moved log n past past' id is other (all id is (sym (get_other b h.id h.shape id apart) ∙ found))
    ]
made_step log n b past b' past' ts (inr (inr h)) all = λ id is e.
    moved log n past past' id is (h.makers id)
    (all id is (one_removed b h.id id is (sym (ap (λ (m : Buffers). get m id) h.buffers) ∙ e)))

made_none : (log : List Issued) → AllMade log zero (after_calls log zero).objects.buffers (after_calls log zero).past
unfolding after_calls
made_none log = λ id is e. absurd (none_some _ is (get-empty Shape id) e)

pub all_made : (log : List Issued) (n : ℕ) → AllMade log n (after_calls log n).objects.buffers (after_calls log n).past
all_made log zero = made_none log
all_made log (suc n) =
    made_step log n (after_calls log n).objects.buffers (after_calls log n).past
    (after_calls log (suc n)).objects.buffers (after_calls log (suc n)).past _ (step_at log n) (all_made log n)

-- live buffers of one maker are one
pub one_maker : (log : List Issued) (n : ℕ) (b : Buffers) (past : Past) → AllMade log n b past → (id other : ℕ)
    → is_some (get b id) ≡ true → is_some (get b other) ≡ true → maker past id ≡ maker past other → id ≡ other
one_maker log n b past all id other e f same =
    let x = some_of (get b id) e in
    let y = some_of (get b other) f in
    sym (all id x.0 x.1).own ∙ ap (λ (k : ℕ). id_made log k) same ∙ (all other y.0 y.1).own
