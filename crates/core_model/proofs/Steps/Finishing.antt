-- A chunk's post is made, and the blocks that it retired are on their way; a block comes home.
use Rattle.std.proofs.Common.{◌≡◌, ℕ, suc, ◌+◌, ◌≤◌, Bool, true, false, cond, ◌==◌, [], ◌∷◌, ◌++◌, length, refl, sym}
use Rattle.std.proofs.Common.{ap, ◌∙◌, subst, inl, inr, arith, append_assoc}
use Rattle.std.proofs.lemmas.Bool.{cases_Bool, eqb-true}
use Rattle.base_lemmas.specs.Lists.{IsReordering}
use Rattle.vk_types.specs.Effects.{Meaning}
use Rattle.core_model.specs.Script.{Script, updated}
use Rattle.core_model.specs.CoreState.{flat, Owner, Unmade, Home, Returning, Spare, Live, Retired, Paged, Dropped}
use Rattle.core_model.specs.CoreState.{has_class, Core, of_messages, of_running, rests, finished_count}
use Rattle.core_model.specs.Readings.{Reading}
use Rattle.core_model.specs.Owners.{finish_owner}
use Rattle.core_model.specs.CoreStep.{Step, Finish, Come_home}
use Rattle.core_model.specs.Worlds.{empty, run_world}
use Rattle.core_model.specs.Invariant.{Allows, IsSince, IsLive, SnapsRight, commands_of, Good}
use Rattle.core_model.proofs.Listing.Worlds.{of_messages-append}
use Rattle.core_model.proofs.Steps.ChunkMoves.{moved_good}
use Rattle.core_model.proofs.Steps.QueueHeads.{place_of, one_more}

-- Owners as a chunk is finished -------------------------------------------------------------------------------------

-- a block that the finished chunk retired may be handed out, or is dropped; each other owner stays
finish_allows : (t f b i chunk : ℕ) (o : Owner) → Allows t f o i chunk
    → Allows t (suc f) (finish_owner (suc f) b o) i chunk
finish_allows t f b i chunk Unmade a = a
finish_allows t f b i chunk (Home k) a = a
finish_allows t f b i chunk (Returning k) a = a
finish_allows t f b i chunk Spare a = a
finish_allows t f b i chunk (Live buffer since bound) a = a
finish_allows t f b i chunk (Paged k since bound) a = a
finish_allows t f b i chunk Dropped a = omega (arith, a)
finish_allows t f b i chunk (Retired k since bound) a =
    elim (cases_Bool (k == suc f)) [
      | inl e ↦ subst
          (λ c. Allows t (suc f) (cond c (cond (has_class b) (Returning k) Dropped) (Retired k since bound)) i
          chunk) (sym e) (by_class (has_class b) (eqb-true k (suc f) e))
      | inr n ↦ subst
          (λ c. Allows t (suc f) (cond c (cond (has_class b) (Returning k) Dropped) (Retired k since bound)) i
          chunk) (sym n) a
    ]
  where
    by_class : (c : Bool) → k ≡ suc f → Allows t (suc f) (cond c (Returning k) Dropped) i chunk
    by_class true e = a.0
    by_class false e = let l = a.0 in omega (arith, l, e)

finish_since : (f b : ℕ) (o : Owner) → IsSince f o → IsSince (suc f) (finish_owner (suc f) b o)
finish_since f b Unmade s = tt
finish_since f b (Home k) s = omega (arith, s)
finish_since f b (Returning k) s = omega (arith, s)
finish_since f b Spare s = tt
finish_since f b (Live buffer since bound) s = omega (arith, s)
finish_since f b (Paged k since bound) s = omega (arith, s)
finish_since f b Dropped s = tt
finish_since f b (Retired k since bound) s =
    elim (cases_Bool (k == suc f)) [
      | inl e ↦ subst
          (λ c. IsSince (suc f) (cond c (cond (has_class b) (Returning k) Dropped) (Retired k since bound))) (sym e)
          (by_class (has_class b) (eqb-true k (suc f) e))
      | inr n ↦ subst
          (λ c. IsSince (suc f) (cond c (cond (has_class b) (Returning k) Dropped) (Retired k since bound))) (sym n)
          (let z : since ≤ suc f = omega (arith, s) in z)
    ]
  where
    by_class : (c : Bool) → k ≡ suc f → IsSince (suc f) (cond c (Returning k) Dropped)
    by_class true e = omega (arith, e)
    by_class false e = tt

finish_live : (n b r : ℕ) (o : Owner) → IsLive r o → IsLive r (finish_owner n b o)
finish_live n b r Unmade l = absurd l
finish_live n b r (Home k) l = absurd l
finish_live n b r (Returning k) l = absurd l
finish_live n b r Spare l = absurd l
finish_live n b r (Live buffer since bound) l = l
finish_live n b r (Retired k since bound) l = absurd l
finish_live n b r (Paged k since bound) l = absurd l
finish_live n b r Dropped l = absurd l

-- The steps ---------------------------------------------------------------------------------------------------------

pub finish_good : (meaning : Meaning) (reading : Reading) (script : Script) (old new : Core)
    → Step meaning reading script old Finish new → Good meaning reading script old → Good meaning reading script new
finish_good meaning reading script old new p g =
    let s = g.sound in
    let m = p.0 in
    let ms = p.1 in
    let e = p.2 in
    let n = finished_count old in
    let posts = old.posts ++ m ∷ [] in
    let more : length posts ≡ suc (length old.posts) = one_more old.posts m in
    let count : length old.taken + length posts ≡ suc n = omega (arith, more) in
    let line : of_messages posts ++ of_messages ms ≡ of_messages old.posts ++ of_messages old.completions =
    sym (of_messages-append posts ms) ∙ ap of_messages (append_assoc old.posts (m ∷ []) ms
    ∙ ap (λ l. old.posts ++ l) (sym e)) ∙ of_messages-append old.posts old.completions in
    let rest = of_running old.accepted ++ (old.submissions ++ (old.batches ++ old.chunks)) in
    let same : of_messages posts ++ (of_messages ms ++ rest)
    ≡ of_messages old.posts ++ (of_messages old.completions ++ rest) =
    sym (append_assoc (of_messages posts) (of_messages ms) rest) ∙ ap (λ l. l ++ rest) line
    ∙ append_assoc (of_messages old.posts) (of_messages old.completions) rest in
    let device : old.taken ++ (of_messages posts ++ (of_messages ms ++ of_running old.accepted))
    ≡ old.taken ++ (of_messages old.posts ++ (of_messages old.completions ++ of_running old.accepted)) =
    ap (λ l. old.taken ++ l)
    (sym (append_assoc (of_messages posts) (of_messages ms) (of_running old.accepted))
    ∙ ap (λ l. l ++ of_running old.accepted) line
    ∙ append_assoc (of_messages old.posts) (of_messages old.completions) (of_running old.accepted)) in
    let owner : ℕ → Owner = λ b. finish_owner (suc n) b (old.owner b) in
    subst (Good meaning reading script) (sym p.4)
    (moved_good meaning reading script old (record old { posts = posts; completions = ms; owner = owner }) same g
    (record {
      sizes = λ four.
          let z = s.sizes four in
          let l = place_of reading (length old.posts) four p.3 in
          let was : length old.completions ≡ suc (length ms) = ap length e in
          let c = z.1 in
          (omega (arith, more, l), omega (arith, was, c), z.2, z.3, z.4, z.5);
      finished = omega (arith, count);
      since = λ b. subst (λ f. IsSince f (owner b)) (sym count) (finish_since n b (old.owner b) (s.since b));
      allows = λ b i chunk a. subst (λ f. Allows (length old.taken) f (owner b) i chunk) (sym count)
          (finish_allows (length old.taken) n b i chunk (old.owner b) a);
      live = λ r b l. finish_live (suc n) b r (old.owner b) l;
      within = s.within;
      device = s.device ∙ ap (λ l. run_world meaning (flat l) empty) (sym device);
      whole = subst (λ l. IsReordering (commands_of l) (old.ran ++ rests old.accepted)) (sym device) s.whole;
      order = s.order;
      snaps = subst (λ l. SnapsRight meaning (flat old.taken) l (of_running old.accepted))
          (ap (λ l. old.posts ++ l) e ∙ sym (append_assoc old.posts (m ∷ []) ms)) s.snaps;
    }))

-- a block on its way and one at home allow the same
home_allows : (t f b k i chunk : ℕ) (own : ℕ → Owner) → own b ≡ Returning k → (block : ℕ)
    → Allows t f (own block) i chunk → Allows t f (updated b (Home k) own block) i chunk
home_allows t f b k i chunk own e block a =
    elim (cases_Bool (block == b)) [
      | inl h ↦
          let same : own block ≡ Returning k = ap own (eqb-true block b h) ∙ e in
          subst (λ c. Allows t f (cond c (Home k) (own block)) i chunk) (sym h) (let z : chunk ≤ k =
          subst (λ o. Allows t f o i chunk) same a in z)
      | inr h ↦ subst (λ c. Allows t f (cond c (Home k) (own block)) i chunk) (sym h) a
    ]

home_since : (f b k : ℕ) (own : ℕ → Owner) → own b ≡ Returning k → (block : ℕ) → IsSince f (own block)
    → IsSince f (updated b (Home k) own block)
home_since f b k own e block s =
    elim (cases_Bool (block == b)) [
      | inl h ↦
          let same : own block ≡ Returning k = ap own (eqb-true block b h) ∙ e in
          subst (λ c. IsSince f (cond c (Home k) (own block))) (sym h) (let z : k ≤ f = subst (IsSince f) same s in z)
      | inr h ↦ subst (λ c. IsSince f (cond c (Home k) (own block))) (sym h) s
    ]

home_live : (b k r : ℕ) (own : ℕ → Owner) → own b ≡ Returning k → (block : ℕ) → IsLive r (own block)
    → IsLive r (updated b (Home k) own block)
home_live b k r own e block l =
    elim (cases_Bool (block == b)) [
      | inl h ↦ absurd (let z : ⊥ = subst (IsLive r) (ap own (eqb-true block b h) ∙ e) l in z)
      | inr h ↦ subst (λ c. IsLive r (cond c (Home k) (own block))) (sym h) l
    ]

pub come_home_good : (meaning : Meaning) (reading : Reading) (script : Script) (old : Core) (block place : ℕ)
    (new : Core)
    → Step meaning reading script old (Come_home block place) new → Good meaning reading script old
    → Good meaning reading script new
come_home_good meaning reading script old block place new p g =
    let s = g.sound in
    let k = p.1 in
    let e = p.2 in
    subst (Good meaning reading script) (sym p.6)
    (moved_good meaning reading script old (record old { owner = updated block (Home k) old.owner; board = _ }) refl
    g (record {
      sizes = s.sizes;
      finished = omega arith;
      since = λ b. home_since (finished_count old) block k old.owner e b (s.since b);
      allows = λ b i chunk a. home_allows (length old.taken) (finished_count old) block k i chunk old.owner e b a;
      live = λ r b l. home_live block k r old.owner e b l;
      within = s.within;
      device = s.device;
      whole = s.whole;
      order = s.order;
      snaps = s.snaps;
    }))
