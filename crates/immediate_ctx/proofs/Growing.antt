-- What is kept of the listing stands for the state's, operation by operation, chunk by chunk, Post by Post.
use Rattle.std.proofs.Common.{◌≡◌, ℕ, suc, ◌+◌, ◌<◌, ◌≤◌, Bool, true, cond, List, [], ◌∷◌, ◌++◌, length, take, refl, sym}
use Rattle.std.proofs.Common.{ap, ◌∙◌, subst, Option, Some, slice_get, zero}
use Rattle.std.proofs.lemmas.List.{take-append-le}
use Rattle.vk_types.specs.declared.op.VkOp.{VkOp}
use Rattle.core_model.specs.CoreState.{Core, Message, taken_count}
use Rattle.core_model.specs.TakingPosts.{with_post}
use Rattle.immediate_ctx.specs.declared.listing.Own.{Own}
use Rattle.immediate_ctx.specs.declared.listing.Own.TheVariants.{Op, Handed}
use Rattle.immediate_ctx.specs.Listing.{Kept, expand, with_batch, with_own}
use Rattle.immediate_ctx.specs.Stands.{ListingStands, handed_in}
use Rattle.immediate_ctx.proofs.StandingFlight.{expand-op, expand-handed}

handed_in-op : (own : List Own) (o : VkOp) → handed_in (own ++ Op o ∷ []) ≡ handed_in own
handed_in-op [] o = refl
handed_in-op (Op x ∷ own) o = handed_in-op own o
handed_in-op (Handed ∷ own) o = ap suc (handed_in-op own o)

handed_in-handed : (own : List Own) → handed_in (own ++ Handed ∷ []) ≡ suc (handed_in own)
handed_in-handed [] = refl
handed_in-handed (Op x ∷ own) = handed_in-handed own
handed_in-handed (Handed ∷ own) = ap suc (handed_in-handed own)

one_longer : {X : Type 0} (xs : List X) (x : X) → length (xs ++ x ∷ []) ≡ suc (length xs)
one_longer [] x = refl
one_longer (y ∷ ys) x = ap suc (one_longer ys x)

own_is : (x : Own) (k : Kept) → k.traced ≡ true → with_own x k ≡ record k { own = k.own ++ x ∷ [] }
own_is x k e = ap (λ (b : Bool). cond b (record k { own = k.own ++ x ∷ [] }) k) e

pub listed : (ops : List (List VkOp)) (core next : Core) (k : Kept) (o : VkOp) → ListingStands ops core k
    → next.listing ≡ core.listing ++ o ∷ [] → taken_count next ≡ taken_count core
    → ListingStands ops next (with_own (Op o) k)
listed ops core next k o st grown same =
    let P : Kept → Type 0 = λ x. ListingStands ops next x in
    let stands : ListingStands ops next (record k { own = k.own ++ Op o ∷ [] }) = record {
      traced = st.traced;
      each = st.each ∙ sym (handed_in-op k.own o);
      listing = expand-op ops k.own o ∙ ap (λ (l : List VkOp). l ++ o ∷ []) st.listing ∙ sym grown;
      brought = st.brought ∙ ap (λ (n : ℕ). take n ops) (sym same);
    } in
    subst P (sym (own_is (Op o) k st.traced)) stands

pub handed_listed : (ops : List (List VkOp)) (core next : Core) (k : Kept) (here : List VkOp)
    → ListingStands ops core k → taken_count core ≤ length ops → next.listing ≡ core.listing ++ here
    → taken_count next ≡ taken_count core
    → ListingStands (ops ++ here ∷ []) next (with_own Handed k)
handed_listed ops core next k here st within grown same =
    let P : Kept → Type 0 = λ x. ListingStands (ops ++ here ∷ []) next x in
    let stands : ListingStands (ops ++ here ∷ []) next (record k { own = k.own ++ Handed ∷ [] }) = record {
      traced = st.traced;
      each = one_longer ops here ∙ ap suc st.each ∙ sym (handed_in-handed k.own);
      listing = expand-handed ops k.own here st.each ∙ ap (λ (l : List VkOp). l ++ here) st.listing ∙ sym grown;
      brought = st.brought ∙ sym (take-append-le (taken_count core) ops (here ∷ []) within)
          ∙ ap (λ (n : ℕ). take n (ops ++ here ∷ [])) (sym same);
    } in
    subst P (sym (own_is Handed k st.traced)) stands

take_one_more : {X : Type 0} (xs : List X) (n : ℕ) (x : X) → slice_get xs n ≡ Some x
    → take (suc n) xs ≡ take n xs ++ x ∷ []
take_one_more [] n x e = absurd (cc e)
take_one_more (y ∷ ys) zero x e = let s : y ≡ x = cc e in ap (λ z. z ∷ []) s
take_one_more (y ∷ ys) (suc n) x e = ap (λ l. y ∷ l) (take_one_more ys n x e)

pub post_listed : (ops : List (List VkOp)) (core : Core) (k : Kept) (m : Message) (ms : List Message)
    (brought : List VkOp) → ListingStands ops core k → slice_get ops (taken_count core) ≡ Some brought
    → ListingStands ops (with_post m ms core) (with_batch brought k)
post_listed ops core k m ms brought st next =
    let P : Kept → Type 0 = λ x. ListingStands ops (with_post m ms core) x in
    let stands : ListingStands ops (with_post m ms core) (record k { batches = k.batches ++ brought ∷ [] }) = record {
      traced = st.traced;
      each = st.each;
      listing = st.listing;
      brought = ap (λ (l : List (List VkOp)). l ++ brought ∷ []) st.brought
          ∙ sym (take_one_more ops (taken_count core) brought next)
          ∙ ap (λ (n : ℕ). take n ops) (sym (one_longer core.taken m.segment));
    } in
    subst P (sym (ap (λ (b : Bool). cond b (record k { batches = k.batches ++ brought ∷ [] }) k) st.traced)) stands
