-- What host reads and replies have to do with one another, under every order that the listing allows.
use Rattle.std.proofs.Common.{◌≡◌, ℕ, zero, suc, ◌-◌, ◌<◌, true, false, List, [], ◌∷◌, ◌++◌, map, length, refl, sym}
use Rattle.std.proofs.Common.{ap, ◌∙◌, subst, ◌⊎◌, inl, inr, Option, Some, None, slice_get, arith, append_assoc}
use Rattle.std.specs.List.{AllByRecursion}
use Rattle.dx_types.specs.declared.range.Range.{Range}
use Rattle.vk_types.specs.declared.op.VkOp.{VkOp}
use Rattle.vk_types.specs.declared.op.VkOp.TheVariants as op
use Rattle.base_lemmas.specs.Lists.{numbers_from}
use Rattle.vk_types.specs.Memory.{range}
use Rattle.vk_types.specs.Effects.{Meaning}
use Rattle.vk_types.specs.Listing.{acts}
use Rattle.vk_types.specs.Allowed.{outcome}
use Rattle.base_lemmas.proofs.Lists.{all_back, all_map}
use Rattle.vk_types.proofs.Law.{law_of_covered}
use Rattle.core_model.specs.Script.{Ask, Bytes, Turn, Asked, Script}
use Rattle.core_model.specs.CoreState.{Core, start, Bytes_said}
use Rattle.core_model.specs.Readings.{Reading}
use Rattle.core_model.specs.CoreStep.{Event, Chain}
use Rattle.core_model.specs.Listed.{is_of_device}
use Rattle.core_model.specs.HostReads.{whole_listing, bytes_in_order, GivesBytes, HasRead, RepliesAreReads}
use Rattle.core_model.specs.HostReads.{ReadsAreReplies}
use Rattle.core_model.specs.Lawful.{IsLawful}
use Rattle.core_model.specs.Invariant.{IsAsked}
use Rattle.core_model.specs.Kept.{Kept}
use Rattle.core_model.proofs.Steps.Segments.{get_middle}
use Rattle.core_model.proofs.Steps.OtherParts.{listing_is_covered}
use Rattle.core_model.proofs.Runs.LastUses.{after_last}
use Rattle.core_model.proofs.Listing.ReadOutcomes.{read_outcome}
use Rattle.core_model.proofs.Runs.HostReading.{is_read, of_device_unread}
use Rattle.core_model.proofs.Runs.ReadAnswers.{Leaves, ReadOf, SaidRight, Answered, read_within, step_answered}
use Rattle.core_model.proofs.Runs.ReadAnswers.{start_answered}
use Rattle.core_model.proofs.Runs.Chains.{reached}

-- A call is asked once ----------------------------------------------------------------------------------------------

-- two places of a list are one, or one is behind the other
abbrev Beside : List Turn → Turn → List Turn → Turn → Type 0
Beside xs x us u = ((xs ≡ us) × (x ≡ u)) ⊎ (((mid : List Turn) × (us ≡ xs ++ x ∷ mid))
    ⊎ ((mid : List Turn) × (xs ≡ us ++ u ∷ mid)))

two_places : (xs : List Turn) (x : Turn) (ys us : List Turn) (u : Turn) (vs : List Turn)
    → xs ++ x ∷ ys ≡ us ++ u ∷ vs → Beside xs x us u
two_places [] x ys [] u vs e = inl (refl, (cc e))
two_places [] x ys (v ∷ us) u vs e = let s : x ≡ v = cc e in inr (inl (us, ap (λ t. t ∷ us) (sym s)))
two_places (y ∷ xs) x ys [] u vs e = let s : y ≡ u = cc e in inr (inr (xs, ap (λ t. t ∷ xs) s))
two_places (y ∷ xs) x ys (v ∷ us) u vs e =
    let s : y ≡ v = cc e in
    let t : xs ++ x ∷ ys ≡ us ++ u ∷ vs = cc e in
    elim (two_places xs x ys us u vs t) [
      | inl w ↦ inl (ap (λ l. y ∷ l) w.0 ∙ ap (λ t. t ∷ us) s, w.1)
      | inr w ↦ elim w [
        | inl m ↦ inr (inl (m.0, ap (λ t. t ∷ us) (sym s) ∙ ap (λ l. y ∷ l) m.1))
        | inr m ↦ inr (inr (m.0, ap (λ t. t ∷ xs) s ∙ ap (λ l. v ∷ l) m.1))
      ]
    ]

module _ (meaning : Meaning) (script : Script) (lawful : IsLawful meaning script) where
  later_call : (front mid : List Turn) (call other : ℕ) (a b : Ask) (used used' : Option ℕ) (p q : _) (rest : List Turn)
      → script.turns ≡ (front ++ Asked call a used p ∷ mid) ++ Asked other b used' q ∷ rest → call < other
  later_call front mid call other a b used used' p q rest e =
      after_last meaning script lawful mid front (Asked call a used p) (Asked other b used' q) rest (e
      ∙ append_assoc front (Asked call a used p ∷ mid) (Asked other b used' q ∷ rest))

  pub asked_once : (call : ℕ) (a b : Ask) (used used' : Option ℕ) (x : IsAsked script call a used)
      (y : IsAsked script call b used') → (x.front ≡ y.front) × (a ≡ b) × (used ≡ used')
  asked_once call a b used used' x y =
      elim (two_places x.front (Asked call a used x.may_pend) x.back y.front (Asked call b used' y.may_pend) y.back
      (sym x.here ∙ y.here)) [
        | inl w ↦ let s = w.1 in (w.0, (cc s), (cc s))
        | inr w ↦ elim w [
          | inl m ↦
              let less = later_call x.front m.0 call call a b used used' x.may_pend y.may_pend y.back (y.here
              ∙ ap (λ l. l ++ Asked call b used' y.may_pend ∷ y.back) m.1) in
              absurd (let z : ⊥ = omega (arith, less) in z)
          | inr m ↦
              let less = later_call y.front m.0 call call b a used' used y.may_pend x.may_pend x.back (x.here
              ∙ ap (λ l. l ++ Asked call a used x.may_pend ∷ x.back) m.1) in
              absurd (let z : ⊥ = omega (arith, less) in z)
        ]
      ]

-- Outcomes ----------------------------------------------------------------------------------------------------------

split_at : (ops : List VkOp) (n : ℕ) (o : VkOp) → slice_get ops n ≡ Some o → (front : List VkOp)
    × (back : List VkOp) × (ops ≡ front ++ o ∷ back) × (length front ≡ n)
split_at [] n o e = absurd (cc e)
split_at (p ∷ ops) zero o e = let s : p ≡ o = cc e in ([], ops, ap (λ q. q ∷ ops) s, refl)
split_at (p ∷ ops) (suc n) o e = let w = split_at ops n o e in (p ∷ w.0, w.1, ap (λ l. p ∷ l) w.2, ap suc w.3)

module _ (meaning : Meaning) (reading : Reading) (script : Script) (lawful : IsLawful meaning script) (core : Core)
    (k : Kept meaning reading script core) (h : Answered meaning script core) where
  -- what the entries before a host read leave, each allowed order gives
  gives_there : (call : ℕ) (r : Range) (bytes : List ℕ) (front back : List VkOp)
      → core.listing ≡ front ++ op.HostRead r call ∷ back → Leaves meaning core.contents front r bytes
      → GivesBytes meaning core call r bytes (length front)
  gives_there call r bytes front back e l =
      let ops = whole_listing core in
      let rest = back ++ core.open_chunk.ops in
      let all : ops ≡ front ++ op.HostRead r call ∷ rest = ap (λ l. l ++ core.open_chunk.ops) e
      ∙ append_assoc front (op.HostRead r call ∷ back) core.open_chunk.ops in
      record {
        here = ap (λ l. slice_get l (length front)) all ∙ get_middle front (op.HostRead r call) rest;
        gives = λ order allowed.
            ap (λ w. map (w.answers (length front)) (numbers_from 0 (r.to - r.from)))
            (law_of_covered meaning core.contents ops (listing_is_covered meaning reading script core k.good)
            order allowed)
            ∙ ap (λ l. map ((outcome meaning core.contents l (acts l)).answers (length front))
            (numbers_from 0 (r.to - r.from))) all
            ∙ read_outcome meaning core.contents front r call rest l.filled ∙ l.left;
      }

  has_read : (call : ℕ) (source : Range) (used : Option ℕ) (bytes : List ℕ)
      → ReadOf meaning core.listing core.contents call source bytes used → HasRead meaning core call source used bytes
  has_read call source None bytes x = tt
  has_read call source (Some used) bytes x = (
    x.0,
    length x.1,
    gives_there call (range x.0 source.from source.to) bytes x.1 x.2 x.3 x.4,
  )

  pub replies_are_reads : RepliesAreReads meaning script core
  replies_are_reads call bytes said source used at =
      let S = SaidRight meaning script core.listing core.contents in
      let all : AllByRecursion S (Bytes_said call bytes ∷ said.1) =
      all_back S said.0 (Bytes_said call bytes ∷ said.1) (subst (AllByRecursion S) said.2 h.said) in
      let x = all.0 in
      let once = asked_once meaning script lawful call (Bytes x.0) (Bytes source) x.1 used x.2 at in
      let same : x.0 ≡ source = let s = once.1 in cc s in (
        x.3 ∙ ap (λ f. bytes_in_order meaning script f x.0) once.0 ∙ ap (bytes_in_order meaning script at.front) same,
        subst (λ u. HasRead meaning core call source u bytes) once.2
            (subst (λ s. HasRead meaning core call s x.1 bytes) same (has_read call x.0 x.1 bytes x.4)),
      )

  pub reads_are_replies : ReadsAreReplies meaning script core
  reads_are_replies call r place e =
      let w = split_at (whole_listing core) place (op.HostRead r call) e in
      let unread = all_map (λ o. is_of_device o ≡ true) (λ o. is_read o ≡ false) of_device_unread
      core.open_chunk.ops k.good.sound.grows.of_device in
      let v = read_within core.listing core.open_chunk.ops w.0 r call w.1 unread w.2 in
      let x = h.reads w.0 r call v.0 v.1 in
      let g = gives_there call r (bytes_in_order meaning script x.at.front x.source) w.0 v.0 v.1 x.leaves in (
        x.source,
        x.used,
        x.at,
        x.is,
        (x.before, x.after, x.said),
        subst (GivesBytes meaning core call r (bytes_in_order meaning script x.at.front x.source)) w.3 g,
      )

-- in every state that steps reach
pub reached_answered : (meaning : Meaning) (reading : Reading) (script : Script) → IsLawful meaning script
    → (events : List Event) (core : Core)
    → Chain meaning reading script (start script) events core → Answered meaning script core
reached_answered meaning reading script lawful events core h =
    reached meaning reading script lawful (Answered meaning script)
    (λ old e new p k a. step_answered meaning reading script lawful old e new p k a)
    (start_answered meaning reading script lawful) events core h
