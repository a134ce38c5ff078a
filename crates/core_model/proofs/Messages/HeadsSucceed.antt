-- The heads of the chunks that were handed over succeed each other, in every state that steps reach.
use Rattle.std.proofs.Common.{◌≡◌, List, [], ◌∷◌, ◌++◌, refl, sym, ap, ◌∙◌, append_assoc, append-nil}
use Rattle.core_model.specs.CoreState.{Segment, Core}
use Rattle.core_model.specs.Invariant.{handed}
use Rattle.core_model.specs.Kept.{Kept}
use Rattle.core_model.specs.Messages.{head_behind, heads_behind, heads}
use Rattle.core_model.specs.Readings.{Reading}
use Rattle.core_model.specs.Spine.{Succeeds}
use Rattle.core_model.specs.Succession.{Head, Log}
use Rattle.core_model.proofs.Messages.Messaging.{Facts, follows}

-- a head among those of chunks is that of a chunk
heads_split : (pre ss : List Segment) (f : List Head) (y : Head) (g : List Head) → heads_behind pre ss ≡ f ++ y ∷ g
    → (front : List Segment) × (s : Segment) × (back : List Segment) × (ss ≡ front ++ s ∷ back)
    × (f ≡ heads_behind pre front) × (y ≡ head_behind (pre ++ front) s)
heads_split pre [] [] y g e = absurd (cc e)
heads_split pre [] (z ∷ f) y g e = absurd (cc e)
heads_split pre (x ∷ ss) [] y g e =
    let first : head_behind pre x ≡ y = cc e in
    ([], x, ss, refl, refl, sym first ∙ ap (λ l. head_behind l x) (sym (append-nil pre)))
heads_split pre (x ∷ ss) (z ∷ f) y g e =
    let first : head_behind pre x ≡ z = cc e in
    let rest : heads_behind (pre ++ x ∷ []) ss ≡ f ++ y ∷ g = cc e in
    let r = heads_split (pre ++ x ∷ []) ss f y g rest in
    let same : z ∷ f ≡ head_behind pre x ∷ heads_behind (pre ++ x ∷ []) r.0 = λ i. sym first i ∷ r.4 i in
    (x ∷ r.0, r.1, r.2, ap (λ l. x ∷ l) r.3, same, r.5 ∙ ap (λ l. head_behind l r.1) (append_assoc pre (x ∷ []) r.0))

pub heads_succeed : (log : Log) (reading : Reading) (core : Core) → Kept log.meaning reading log.script core
    → Facts log.meaning log.script core → Succeeds log (heads (handed core))
heads_succeed log reading core k known f y g e =
    let r = heads_split [] (handed core) f y g e in
    follows log reading core k known r.0 r.1 r.2 r.3 f y r.4 r.5
