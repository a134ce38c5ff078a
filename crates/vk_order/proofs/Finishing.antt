-- The fences that finish commands, found from a listing's end.
use Rattle.std.proofs.Common.{◌≡◌, ℕ, zero, suc, ◌≤◌, List, [], ◌∷◌, ◌++◌, length, take, drop, Option, Some, None, slice_get, slice_index, refl, sym, ap, subst, ◌∙◌, ◌⊎◌, inl, inr, arith}
use Rattle.std.proofs.lemmas.Bool.{cases_eq}
use Rattle.std.proofs.lemmas.List.{drop_all}
use Rattle.std.proofs.lemmas.Option.{slice_get_within}
use Rattle.vk_types.specs.declared.command.Command.{Command}
use Rattle.vk_types.specs.declared.op.VkOp.{VkOp}
use Rattle.vk_types.specs.declared.op.VkOp.TheVariants as op
use Rattle.vk_types.specs.Listing.{first_submit, submission_of}
use Rattle.vk_order.specs.declared.finish.FenceAt.{FenceAt}
use Rattle.vk_order.specs.declared.finish.Finishes.{Finishes}
use Rattle.vk_order.specs.Finish.{FinishesHold, HasFence, IsFinishIf, IsFinishStep, IsFinishedBy, submitted_after}

-- an element of the front and one more
pub among_taken : {A : Type 0} (xs : List A) (n i : ℕ) (x y : A) → slice_get (take n xs ++ x ∷ []) i ≡ Some y → (y ≡ x) ⊎ ((j : ℕ) × (slice_get xs j ≡ Some y))
among_taken xs zero zero x y e = inl (let h : x ≡ y = cc e in sym h)
among_taken xs zero (suc i) x y e = absurd (none i e)
  where
    none : {A : Type 0} {y : A} (i : ℕ) → slice_get [] i ≡ Some y → ⊥
    none zero e = cc e
    none (suc i) e = cc e
among_taken [] (suc n) zero x y e = inl (let h : x ≡ y = cc e in sym h)
among_taken [] (suc n) (suc i) x y e = absurd (none i e)
  where
    none : {A : Type 0} {y : A} (i : ℕ) → slice_get [] i ≡ Some y → ⊥
    none zero e = cc e
    none (suc i) e = cc e
among_taken (z ∷ xs) (suc n) zero x y e = inr (0, e)
among_taken (z ∷ xs) (suc n) (suc i) x y e =
    elim (among_taken xs n i x y e) [
      | inl here ↦ inl here
      | inr later ↦ inr (suc later.0, later.1)
    ]

-- the first submission from a place on is that behind the operation there, or its own
submit_here : (ops : List VkOp) (at : ℕ) (o : VkOp) → slice_get ops at ≡ Some o → first_submit (drop at ops) ≡ submitted_after (first_submit (drop (suc at) ops)) o
submit_here [] zero o e = absurd (cc e)
submit_here [] (suc at) o e = absurd (cc e)
submit_here (p ∷ ops) zero o e = let h : p ≡ o = cc e in ap (λ q. first_submit (q ∷ ops)) h ∙ by o
  where
    by : (o : VkOp) → first_submit (o ∷ ops) ≡ submitted_after (first_submit ops) o
    by (op.HostWrite r call) = refl
    by (op.Pipeline shader) = refl
    by (op.Barrier barrier) = refl
    by (op.Command command) = refl
    by (op.Submit k) = refl
    by (op.Fence k) = refl
    by (op.HostRead r call) = refl
submit_here (p ∷ ops) (suc at) o e = submit_here ops at o e

-- a command's fence is one of those behind it
finished_here : (ops : List VkOp) (at place : ℕ) (f : Finishes) → FinishesHold ops (suc at) f → IsFinishIf f.fences.items f.submitted place → IsFinishedBy ops at place
finished_here ops at place f h e = by (first_submit (drop (suc at) ops)) refl (subst (λ s. IsFinishIf f.fences.items s place) h.submitted e)
  where
    with_fence : (k : ℕ) → submission_of ops at ≡ Some k → HasFence f.fences.items k place → IsFinishedBy ops at place
    with_fence k s w =
        let b = h.fences w.index w.fence w.there in
        let i = w.place_is in
        let l = b.0 in
        inr (record {
          submission = k;
          number = w.fence.number;
          submitted = s;
          behind = omega (arith, i, l);
          fence = ap (slice_get ops) i ∙ b.1;
          enough = w.enough;
        })

    by : (s : Option ℕ) → first_submit (drop (suc at) ops) ≡ s → IsFinishIf f.fences.items s place → IsFinishedBy ops at place
    by None is never = inl never
    by (Some k) is (inl never) = inl never
    by (Some k) is (inr w) = with_fence k is w

-- behind the last operation
pub finishes_none : (ops : List VkOp) (f : Finishes) → f.submitted ≡ None → f.fences.items ≡ [] → length f.places.items ≡ length ops → FinishesHold ops (length ops) f
finishes_none ops f submitted fences len = record {
  submitted = submitted ∙ sym (ap first_submit (drop_all (length ops) ops (omega arith)));
  fences = λ i g e. absurd (none i (ap (λ fs. slice_get fs i) (sym fences) ∙ e));
  len = len;
  places = λ x c le e. let w = slice_get_within ops x (op.Command c) e in absurd (omega (arith, w, le));
}
  where
    none : {g : FenceAt} (i : ℕ) → slice_get [] i ≡ Some g → ⊥
    none zero e = cc e
    none (suc i) e = cc e

-- one operation more, before the others
pub finishes_next : (ops : List VkOp) (at : ℕ) (o : VkOp) (old new : Finishes) → slice_get ops at ≡ Some o → FinishesHold ops (suc at) old → IsFinishStep old new at o → FinishesHold ops at new
finishes_next ops at o old new there h s = record {
  submitted = s.submitted ∙ (ap (λ t. submitted_after t o) h.submitted ∙ sym (submit_here ops at o there));
  fences = λ i g e. fence g (s.fences i g e);
  len = s.len ∙ h.len;
  places = λ x c le e. place x c e (cases_eq x at) le;
}
  where
    fence : (g : FenceAt) → ((o ≡ op.Fence g.number) × (g.place ≡ at)) ⊎ ((j : ℕ) × (slice_get old.fences.items j ≡ Some g)) → (at ≤ g.place) × (slice_get ops g.place ≡ Some (op.Fence g.number))
    fence g (inl here) = let p = here.1 in (omega (arith, p), ap (slice_get ops) p ∙ (there ∙ ap (λ (q : VkOp). Some q) here.0))
    fence g (inr was) = let b = h.fences was.0 g was.1 in let l = b.0 in (omega (arith, l), b.1)

    place : (x : ℕ) (c : Command) → slice_get ops x ≡ Some (op.Command c) → (x ≡ at) ⊎ (x ≡ at → ⊥) → at ≤ x → IsFinishedBy ops x (slice_index new.places.items x)
    place x c e (inl same) le =
        let k : Some o ≡ Some (op.Command c) = sym there ∙ (ap (slice_get ops) (sym same) ∙ e) in
        let is : o ≡ op.Command c = cc k in
        let w = slice_get_within ops at o there in
        let n = h.len in
        let f = s.here c is (omega (arith, w, n)) in
        subst (λ (z : ℕ). IsFinishedBy ops z (slice_index new.places.items z)) (sym same) (finished_here ops at (slice_index new.places.items at) old h f)
    place x c e (inr n) le =
        let f = h.places x c (omega (arith, n, le)) e in
        subst (λ (p : ℕ). IsFinishedBy ops x p) (sym (s.others x n)) f
