-- What a Finish sends home is what its message marks, of the blocks with a class.
use Rattle.std.proofs.Common.{◌≡◌, ℕ, suc, Bool, true, false, cond, ◌||◌, ◌==◌, List, [], ◌∷◌, ◌++◌, length, map}
use Rattle.std.proofs.Common.{refl, sym, ap, ◌∙◌, subst, inl, inr, Option, Some, None, slice_get, arith, append_assoc}
use Rattle.std.proofs.Common.{length-append}
use Rattle.std.proofs.lemmas.Bool.{or_cases, eqb-true, eq-eqb}
use Rattle.std.proofs.lemmas.List.Folds.{list_any-append}
use Rattle.vk_types.specs.declared.message.Placed.{Placed}
use Rattle.vk_types.specs.Effects.{Meaning}
use Rattle.core_model.specs.Script.{Script}
use Rattle.core_model.specs.CoreState.{Segment, Message, Owner, Unmade, Home, Returning, Spare, Live, Retired, Paged}
use Rattle.core_model.specs.CoreState.{Dropped, has_class, Core, somes, marks, of_messages, of_running}
use Rattle.core_model.specs.CoreState.{finished_count}
use Rattle.core_model.specs.Readings.{Reading}
use Rattle.core_model.specs.Owners.{is_block, finish_owner}
use Rattle.core_model.specs.OtherParts.{is_among}
use Rattle.core_model.specs.CoreStep.{Finish, Step}
use Rattle.core_model.specs.Invariant.{IsSince, handed}
use Rattle.core_model.specs.Kept.{Kept}
use Rattle.core_model.specs.Marked.{IsOff, all_messages, IsMarkedBy, IsReturning}
use Rattle.core_model.specs.Succession.{only_class}
use Rattle.core_model.proofs.Steps.Binding.{or_left, or_right}
use Rattle.core_model.proofs.Steps.Segments.{messages_length, get_middle}
use Rattle.core_model.proofs.Messages.Placements.{places_of, length_places, places_of_append}
use Rattle.core_model.proofs.Blocks.MarkedBlocks.{Sorts}
use Rattle.core_model.proofs.Blocks.HeldMarks.{IsGivenUp, marks_in, HasMark, Held}

-- Marks of a list of places -----------------------------------------------------------------------------------------

-- a block with a class among the marks is among those that have a class
among_class : (b : ℕ) (ps : List Placed) → has_class b ≡ true → marks_in b ps ≡ true
    → is_among b (only_class (somes (map (λ p. p.mark) ps))) ≡ true
among_class b [] c h = absurd (cc h)
among_class b (p ∷ ps) c h = by p.mark (λ k. among_class b ps c k) h
  where
    by : (o : Option ℕ) → (marks_in b ps ≡ true → is_among b (only_class (somes (map (λ p. p.mark) ps))) ≡ true)
        → (is_block o b || marks_in b ps) ≡ true
        → is_among b (only_class (somes (o ∷ map (λ p. p.mark) ps))) ≡ true
    by None rec h = rec h
    by (Some m) rec h =
        elim (or_cases (b == m) (marks_in b ps) h) [
          | inl t ↦
              let same : b ≡ m = eqb-true b m t in
              ap (λ c. is_among b (cond c (m ∷ only_class (somes (map (λ p. p.mark) ps)))
              (only_class (somes (map (λ p. p.mark) ps))))) (ap has_class (sym same) ∙ c)
              ∙ or_left (m == b) (is_among b (only_class (somes (map (λ p. p.mark) ps)))) (eq-eqb m b (sym same))
          | inr t ↦ more (has_class m) (rec t)
        ]
      where
        more : (c : Bool) → is_among b (only_class (somes (map (λ p. p.mark) ps))) ≡ true
            → is_among b (cond c (m ∷ only_class (somes (map (λ p. p.mark) ps)))
            (only_class (somes (map (λ p. p.mark) ps)))) ≡ true
        more true r = or_right (m == b) (is_among b (only_class (somes (map (λ p. p.mark) ps)))) r
        more false r = r

class_among : (b : ℕ) (ps : List Placed) → is_among b (only_class (somes (map (λ p. p.mark) ps))) ≡ true
    → (has_class b ≡ true) × (marks_in b ps ≡ true)
class_among b [] h = absurd (cc h)
class_among b (p ∷ ps) h = by p.mark (λ k. class_among b ps k) h
  where
    by : (o : Option ℕ) → (is_among b (only_class (somes (map (λ p. p.mark) ps))) ≡ true → (has_class b ≡ true)
        × (marks_in b ps ≡ true))
        → is_among b (only_class (somes (o ∷ map (λ p. p.mark) ps))) ≡ true → (has_class b ≡ true)
        × ((is_block o b || marks_in b ps) ≡ true)
    by None rec h = rec h
    by (Some m) rec h = split (has_class m) refl h
      where
        later : (has_class b ≡ true) × (marks_in b ps ≡ true) → (has_class b ≡ true)
            × (((b == m) || marks_in b ps) ≡ true)
        later x = (x.0, or_right (b == m) (marks_in b ps) x.1)

        split : (c : Bool) → has_class m ≡ c
            → is_among b (cond c (m ∷ only_class (somes (map (λ p. p.mark) ps)))
            (only_class (somes (map (λ p. p.mark) ps)))) ≡ true
            → (has_class b ≡ true) × (((b == m) || marks_in b ps) ≡ true)
        split false e h = later (rec h)
        split true e h =
            elim (or_cases (m == b) (is_among b (only_class (somes (map (λ p. p.mark) ps)))) h) [
              | inl t ↦ let same : m ≡ b = eqb-true m b t in
                  (ap has_class (sym same) ∙ e, or_left (b == m) (marks_in b ps) (eq-eqb b m (sym same)))
              | inr t ↦ later (rec t)
            ]

-- The message that is finished --------------------------------------------------------------------------------------

module _ (meaning : Meaning) (reading : Reading) (script : Script) (old : Core) (m : Message) (ms : List Message)
    (e : old.completions ≡ m ∷ ms) where
  abbrev n : ℕ
  n = suc (finished_count old)

  abbrev before : List Segment
  before = old.taken ++ of_messages old.posts

  abbrev behind : List Segment
  behind = of_messages ms ++ (of_running old.accepted ++ (old.submissions ++ (old.batches ++ old.chunks)))

  -- it is the next in the line
  line : all_messages old ≡ places_of before ++ m.segment.placed ∷ (places_of behind ++ old.open_chunk.placed ∷ [])
  line =
      let rest = of_running old.accepted ++ (old.submissions ++ (old.batches ++ old.chunks)) in
      let handed_is : handed old ≡ before ++ m.segment ∷ behind =
      ap (λ l. old.taken ++ (of_messages old.posts ++ (of_messages l ++ rest))) e
      ∙ sym (append_assoc old.taken (of_messages old.posts) (m.segment ∷ behind)) in
      ap (λ l. places_of l ++ old.open_chunk.placed ∷ []) handed_is
      ∙ ap (λ l. l ++ old.open_chunk.placed ∷ []) (places_of_append before (m.segment ∷ behind))
      ∙ append_assoc (places_of before) (m.segment.placed ∷ places_of behind) (old.open_chunk.placed ∷ [])

  number : suc (length (places_of before)) ≡ n
  number =
      let a = length_places before in
      let b = length-append old.taken (of_messages old.posts) in
      let c = messages_length old.posts in
      omega (arith, a, b, c)

  -- a mark of message n is one of its places
  marked_here : (b : ℕ) → IsMarkedBy (all_messages old) b n → marks_in b m.segment.placed ≡ true
  marked_here b k =
      let long : length k.front ≡ length (places_of before) = let a = number in let c = k.number in
      omega (arith, a, c) in
      let one : slice_get (all_messages old) (length k.front) ≡ Some k.here =
      ap (λ l. slice_get l (length k.front)) k.split ∙ get_middle k.front k.here k.back in
      let two : slice_get (all_messages old) (length k.front) ≡ Some m.segment.placed =
      ap (λ l. slice_get l (length k.front)) line
      ∙ ap (slice_get (places_of before ++ m.segment.placed ∷ (places_of behind ++ old.open_chunk.placed ∷ [])))
      long
      ∙ get_middle (places_of before) m.segment.placed (places_of behind ++ old.open_chunk.placed ∷ []) in
      let both : Some k.here ≡ Some m.segment.placed = sym one ∙ two in
      let same : k.here ≡ m.segment.placed = cc both in
      ap (marks_in b) (sym same ∙ k.placed) ∙ list_any-append (λ p. is_block p.mark b) k.before (k.place ∷ k.after)
      ∙ or_right (marks_in b k.before) (marks_in b (k.place ∷ k.after))
      (or_left (is_block k.place.mark b) (marks_in b k.after) (ap (λ o. is_block o b) k.marked ∙ eq-eqb b b refl))

  has_mark : (b : ℕ) → marks_in b m.segment.placed ≡ true → HasMark (all_messages old) b n
  has_mark b h = (places_of before, m.segment.placed, places_of behind ++ old.open_chunk.placed ∷ [], line, number, h)

  -- what goes home was given up by this chunk
  going : (b : ℕ) (o : Owner) → IsSince (finished_count old) o → IsReturning n (finish_owner n b o)
      → (has_class b ≡ true) × IsOff n o
  going b Unmade s h = absurd h
  going b (Home k) s h = absurd h
  going b (Returning k) s h = absurd (let z : ⊥ = omega (arith, s, h) in z)
  going b Spare s h = absurd h
  going b (Live buffer since bound) s h = absurd h
  going b (Paged k since bound) s h = absurd h
  going b Dropped s h = absurd h
  going b (Retired k since bound) s h = by (k == n) refl (has_class b) refl h
    where
      by : (c : Bool) → (k == n) ≡ c → (d : Bool) → has_class b ≡ d
          → IsReturning n (cond c (cond d (Returning k) Dropped) (Retired k since bound)) → (has_class b ≡ true)
          × (k ≡ n)
      by true e true f h = (f, h)
      by true e false f h = absurd h
      by false e d f h = absurd h

  goes : (b : ℕ) (o : Owner) → IsGivenUp n o → has_class b ≡ true → IsReturning n (finish_owner n b o)
  goes b Unmade g c = absurd g
  goes b (Home k) g c = absurd g
  goes b (Returning k) g c = absurd g
  goes b Spare g c = absurd g
  goes b (Live buffer since bound) g c = absurd g
  goes b (Paged k since bound) g c = absurd g
  goes b Dropped g c = absurd g
  goes b (Retired k since bound) g c =
      subst (IsReturning n)
      (sym (ap (λ x. cond x (cond (has_class b) (Returning k) Dropped) (Retired k since bound)) (eq-eqb k n g)
      ∙ ap (λ x. cond x (Returning k) Dropped) c)) g

  pub homes : (new : Core) → Step meaning reading script old Finish new → Kept meaning reading script old
      → Sorts old → Held old → (b : ℕ)
      → (IsReturning n (new.owner b) → is_among b (only_class (marks m.segment)) ≡ true)
      × (is_among b (only_class (marks m.segment)) ≡ true → IsReturning n (new.owner b))
  homes new p k s h b = (
    (λ r.
        let g = going b (old.owner b) (k.good.sound.since b) (subst (λ c. IsReturning n (c.owner b)) p.4 r) in
        among_class b m.segment.placed g.0 (marked_here b (s.marked b n g.1))),
    (λ a.
        let c = class_among b m.segment.placed a in
        subst (λ c. IsReturning n (c.owner b)) (sym p.4) (goes b (old.owner b)
        (h b n (has_mark b c.1) (omega arith)) c.0)),
  )
