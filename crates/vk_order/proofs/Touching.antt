-- One touch more in an index.
use Rattle.std.proofs.Common.{◌≡◌, ℕ, zero, suc, ◌+◌, ◌<◌, ◌≤◌, List, [], ◌∷◌, ◌++◌, Some, slice_get, slice_index, refl, sym, ap, subst, ◌∙◌, ◌⊎◌, inl, inr, arith}
use Rattle.std.proofs.Math.ListN.{set}
use Rattle.std.proofs.lemmas.Bool.{cases_eq}
use Rattle.std.proofs.lemmas.Option.{slice_get_within}
use Rattle.vk_order.specs.declared.classes.First.{First}
use Rattle.vk_order.specs.declared.classes.Second.{Second}
use Rattle.vk_types.specs.declared.op.Barrier.{Barrier}
use Rattle.vk_order.specs.declared.layers.Layer.{Layer}
use Rattle.vk_order.specs.declared.tree.Reach.{Reach}
use Rattle.vk_order.specs.declared.tree.MaxTree.{MaxTree}
use Rattle.vk_order.specs.declared.cuts.Cut.{Cut}
use Rattle.vk_order.specs.Tree.{IsTree, MarksGrew}
use Rattle.vk_order.specs.Layers.{AreRaisedAt, ArePassed, HasFirst, IsPassed, PushedFresh, WasPassed}
use Rattle.vk_order.specs.Index.{HasNoLasts, IsNotedOver, IsOver, IsStillThere, WasThere, width_of}
use Rattle.vk_order.proofs.Places.{get_set_other, get_set_same}
use Rattle.vk_order.proofs.Trees.{tree_same}

-- Each layer's tree is over the cuts -----------------------------------------------------------------------------------

abbrev pub AllOver : List Cut → List Layer → Type 0
AllOver cuts layers = (n : ℕ) (l : Layer) → slice_get layers n ≡ Some l → IsOver cuts l.marks

get_front : {X : Type 0} (xs : List X) (y : X) (n : ℕ) (x : X) → slice_get xs n ≡ Some x → slice_get (xs ++ y ∷ []) n ≡ Some x
get_front [] y zero x e = absurd (cc e)
get_front [] y (suc n) x e = absurd (cc e)
get_front (z ∷ xs) y zero x e = e
get_front (z ∷ xs) y (suc n) x e = get_front xs y n x e

get_either : {X : Type 0} (xs : List X) (y : X) (n : ℕ) (x : X) → slice_get (xs ++ y ∷ []) n ≡ Some x → (slice_get xs n ≡ Some x) ⊎ (x ≡ y)
get_either [] y zero x e = inr (let h : y ≡ x = cc e in sym h)
get_either [] y (suc n) x e = absurd (none n e)
  where
    none : {X : Type 0} {x : X} (n : ℕ) → slice_get [] n ≡ Some x → ⊥
    none zero e = cc e
    none (suc n) e = cc e
get_either (z ∷ xs) y zero x e = inl e
get_either (z ∷ xs) y (suc n) x e = get_either xs y n x e

pub over_pushed : (cuts : List Cut) (first : First) (old new : List Layer) → PushedFresh first (width_of cuts) old new → AllOver cuts old → AllOver cuts new
over_pushed cuts first old new (inl same) h n l e = h n l (ap (λ ls. slice_get ls n) (sym same) ∙ e)
over_pushed cuts first old new (inr pushed) h n l e = by (get_either old pushed.0 n l (ap (λ ls. slice_get ls n) (sym pushed.2) ∙ e))
  where
    by : (slice_get old n ≡ Some l) ⊎ (l ≡ pushed.0) → IsOver cuts l.marks
    by (inl there) = h n l there
    by (inr same) = subst (λ (m : Layer). IsOver cuts m.marks) (sym same) (record { tree = pushed.1.tree; width = pushed.1.width_is })

at_raised : (n k : ℕ) (reach : Reach) (number : ℕ) (old new : List Layer) (l : Layer) (r : AreRaisedAt n reach number old new) → slice_get new k ≡ Some l
    → ((k ≡ n) × (l ≡ r.after)) ⊎ (slice_get old k ≡ Some l)
at_raised n k reach number old new l r e =
    elim (cases_eq k n) [
      | inl same ↦
          let h : Some l ≡ Some r.after = sym e ∙ (ap (slice_get new) same ∙ r.there) in
          let is : l ≡ r.after = cc h in
          inl (same, is)
      | inr ne ↦ inr (sym (r.others k ne) ∙ e)
    ]

pub over_raised : (cuts : List Cut) (n : ℕ) (reach : Reach) (number : ℕ) (old new : List Layer) → AreRaisedAt n reach number old new → AllOver cuts old → AllOver cuts new
over_raised cuts n reach number old new r h k l e = by (at_raised n k reach number old new l r e)
  where
    by : ((k ≡ n) × (l ≡ r.after)) ⊎ (slice_get old k ≡ Some l) → IsOver cuts l.marks
    by (inr there) = h k l there
    by (inl here) =
        let b = h n r.before r.was in
        subst (λ (m : Layer). IsOver cuts m.marks) (sym here.1) (record { tree = r.raised.tree; width = r.raised.grew.width ∙ b.width })

pub over_passed : (cuts : List Cut) (seconds : List Second) (b : Barrier) (past : ℕ) (old new : List Layer) → ArePassed seconds b past old new → AllOver cuts old → AllOver cuts new
over_passed cuts seconds b past old new p h n l e =
    let was = p n l e in
    subst (λ (t : MaxTree). IsOver cuts t) (sym was.passed.marks) (h n was.before was.was)

pub over_grew : (cuts : List Cut) (old new : MaxTree) → IsTree new → MarksGrew old new → IsOver cuts old → IsOver cuts new
over_grew cuts old new tree g o = record { tree = tree; width = g.width ∙ o.width }

-- One layer more passes a barrier
pub pass_next : (seconds : List Second) (b : Barrier) (past : ℕ) (initial layers : List Layer) (n : ℕ) (before after : Layer) → slice_get layers n ≡ Some before → IsPassed seconds b past before after
    → ((k : ℕ) → n ≤ k → slice_get layers k ≡ slice_get initial k) → ((k : ℕ) (m : Layer) → k < n → slice_get layers k ≡ Some m → WasPassed seconds b past initial k m)
    → (k : ℕ) (m : Layer) → k < n + 1 → slice_get (set layers n after) k ≡ Some m → WasPassed seconds b past initial k m
pass_next seconds b past initial layers n before after there p rest h k m lt e =
    elim (cases_eq k n) [
      | inr ne ↦ h k m (omega (arith, ne, lt)) (sym (get_set_other layers n k after ne) ∙ e)
      | inl same ↦
          let set_here = get_set_same layers n after (slice_get_within layers n before there) in
          let both : Some m ≡ Some after = sym e ∙ (ap (slice_get (set layers n after)) same ∙ set_here) in
          let is : m ≡ after = cc both in
          let was : slice_get initial k ≡ Some before = ap (slice_get initial) same ∙ (sym (rest n (omega arith)) ∙ there) in
          subst (λ (q : Layer). WasPassed seconds b past initial k q) (sym is) (record { before = before; was = was; passed = p })
    ]

-- Each layer is still there ----------------------------------------------------------------------------------------------

there_pushed : (first : First) (width : ℕ) (old new : List Layer) → PushedFresh first width old new → (n : ℕ) (l : Layer) → slice_get old n ≡ Some l → slice_get new n ≡ Some l
there_pushed first width old new (inl same) n l e = ap (λ ls. slice_get ls n) same ∙ e
there_pushed first width old new (inr pushed) n l e = ap (λ ls. slice_get ls n) pushed.2 ∙ get_front old pushed.0 n l e

there_raised : (n k : ℕ) (reach : Reach) (number : ℕ) (old new : List Layer) (l : Layer) → AreRaisedAt n reach number old new → slice_get old k ≡ Some l → IsStillThere new k l
there_raised n k reach number old new l r e =
    elim (cases_eq k n) [
      | inr ne ↦ record { layer = l; there = r.others k ne ∙ e; first = refl; grew = tree_same l.marks }
      | inl same ↦
          let h : Some l ≡ Some r.before = sym e ∙ (ap (slice_get old) same ∙ r.was) in
          let is : l ≡ r.before = cc h in
          record {
            layer = r.after;
            there = ap (slice_get new) same ∙ r.there;
            first = r.raised.first ∙ ap (λ (m : Layer). m.first) (sym is);
            grew = subst (λ (t : MaxTree). MarksGrew t r.after.marks) (ap (λ (m : Layer). m.marks) (sym is)) r.raised.grew;
          }
    ]

pub still_there : (first : First) (width n : ℕ) (reach : Reach) (number : ℕ) (old mid new : List Layer) → PushedFresh first width old mid → AreRaisedAt n reach number mid new
    → (k : ℕ) (l : Layer) → slice_get old k ≡ Some l → IsStillThere new k l
still_there first width n reach number old mid new p r k l e = there_raised n k reach number mid new l r (there_pushed first width old mid p k l e)

was_pushed : (first : First) (width : ℕ) (old new : List Layer) → PushedFresh first width old new → (n : ℕ) (l : Layer) → slice_get new n ≡ Some l → HasNoLasts l ⊎ WasThere old n l
was_pushed first width old new (inl same) n l e =
    inr (record { layer = l; there = ap (λ ls. slice_get ls n) (sym same) ∙ e; first = refl; lasts = refl; host = refl })
was_pushed first width old new (inr pushed) n l e = by (get_either old pushed.0 n l (ap (λ ls. slice_get ls n) (sym pushed.2) ∙ e))
  where
    by : (slice_get old n ≡ Some l) ⊎ (l ≡ pushed.0) → HasNoLasts l ⊎ WasThere old n l
    by (inl there) = inr (record { layer = l; there = there; first = refl; lasts = refl; host = refl })
    by (inr same) = inl (subst HasNoLasts (sym same) (pushed.1.lasts, pushed.1.host))

pub was_there : (first : First) (width n : ℕ) (reach : Reach) (number : ℕ) (old mid new : List Layer) → PushedFresh first width old mid → AreRaisedAt n reach number mid new
    → (k : ℕ) (l : Layer) → slice_get new k ≡ Some l → HasNoLasts l ⊎ WasThere old k l
was_there first width n reach number old mid new p r k l e = by (at_raised n k reach number mid new l r e)
  where
    from : HasNoLasts r.before ⊎ WasThere old n r.before → k ≡ n → l ≡ r.after → HasNoLasts l ⊎ WasThere old k l
    from (inl none) same is =
        inl (subst HasNoLasts (sym is) ((λ j. ap (λ v. slice_index v.items j) r.raised.lasts ∙ none.0 j), r.raised.host ∙ none.1))
    from (inr w) same is =
        inr (subst (λ (m : Layer). WasThere old k m) (sym is) (record {
          layer = w.layer;
          there = ap (slice_get old) same ∙ w.there;
          first = r.raised.first ∙ w.first;
          lasts = r.raised.lasts ∙ w.lasts;
          host = r.raised.host ∙ w.host;
        }))

    by : ((k ≡ n) × (l ≡ r.after)) ⊎ (slice_get mid k ≡ Some l) → HasNoLasts l ⊎ WasThere old k l
    by (inr there) = was_pushed first width old mid p k l there
    by (inl here) = from (was_pushed first width old mid p n r.before r.was) here.0 here.1

-- The layer of the touch ---------------------------------------------------------------------------------------------------

-- of this class, with the number over the reach
pub record HasLayer (layers : List Layer) (n : ℕ) (first : First) (reach : Reach) (number : ℕ) : Type 0 where
  pub layer : Layer
  pub there : slice_get layers n ≡ Some layer
  pub first_is : layer.first ≡ first
  pub noted : IsNotedOver layer.marks reach number

pub layer_raised : (first : First) (n : ℕ) (reach : Reach) (number : ℕ) (old new : List Layer) → HasFirst old first n → AreRaisedAt n reach number old new → HasLayer new n first reach number
layer_raised first n reach number old new h r =
    let k : Some h.layer ≡ Some r.before = sym h.there ∙ r.was in
    let is : h.layer ≡ r.before = cc k in
    let w = r.raised.grew.width in
    record {
      layer = r.after;
      there = r.there;
      first_is = r.raised.first ∙ (ap (λ (m : Layer). m.first) (sym is) ∙ h.first_is);
      noted = λ i from to within. r.raised.noted i from to (omega (arith, within, w));
    }
