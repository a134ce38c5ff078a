-- Each step of a relay keeps its rule.
use Rattle.std.proofs.Common.{◌≡◌, ◌≢◌, ℕ, zero, suc, true, false, true≢false, List, [], ◌∷◌, ◌++◌, length, set, sym, refl, ap, ◌∙◌, subst, ⊎_elim, append_assoc, append-nil}
use mathlib.Core.Option.{some, some-ne-none}
use lib.ListN.{get_elem?}
use Rattle.crossbeam_queue.specs.Fifo.{Pushes, Pops, Forks, Learns}
use Rattle.crossbeam_queue.proofs.Lists.{at_set, at_snoc}
use Rattle.relay_queue.specs.declared.rule.Track.{Track}
use Rattle.relay_queue.specs.Succession.{track, IsNext, Continues, FitsEnd, InSuccession, MayHold}

at_end : {A : Type 0} → (l : List A) (a b : A) (j : ℕ) → get_elem? l j ≢ some b → get_elem? (l ++ a ∷ []) j ≡ some b → j ≡ length l
at_end [] a b zero n e = refl
at_end [] a b (suc j) n e = absurd (some-ne-none b (sym e))
at_end (x ∷ xs) a b zero n e = absurd (n e)
at_end (x ∷ xs) a b (suc j) n e = ap suc (at_end xs a b j n e)

abbrev All : {A : Type 0} → (ℕ → A → Type 0) → List A → Type 0
All {A} F views = (port : ℕ) (v : A) → get_elem? views port ≡ some v → F port v

all_set : {A : Type 0} → (F : ℕ → A → Type 0) (views : List A) (port : ℕ) (w : A) → F port w → ((j : ℕ) (u : A) → j ≢ port → get_elem? views j ≡ some u → F j u) → All F (set views port w)
all_set {A} F views port w mine others j u e = ⊎_elim (λ (x : (j ≡ port) × (w ≡ u)). subst (λ (y : ℕ × A). F y.0 y.1) (λ i. (sym x.0 i, x.1 i)) mine)
    (λ (x : (j ≢ port) × (get_elem? views j ≡ some u)). others j u x.0 x.1) (at_set views port j w u e)

module _ {M : Type 0} (log : List ℕ) (number : M → ℕ) (first : List ℕ → M → Type 0) (follows : List ℕ → List M → M → Type 0) where
  abbrev Next : List M → M → Type 0
  Next before m = IsNext log number first follows before m

  abbrev Runs : List M → List M → Type 0
  Runs before ms = Continues log number first follows before ms

  -- one more message at the end
  pub runs_snoc : (before ms : List M) (m : M) → Runs before ms → Next (before ++ ms) m → Runs before (ms ++ m ∷ [])
  runs_snoc before [] m c n = (subst (λ (l : List M). Next l m) (append-nil before) n, tt)
  runs_snoc before (x ∷ xs) m c n = (c.0, runs_snoc (before ++ x ∷ []) xs m c.1 (subst (λ (l : List M). Next l m) (sym (append_assoc before (x ∷ []) xs)) n))

  -- a message that stands in a succession follows those before it
  pub next_at : (before ms : List M) (m : M) (rest : List M) → Runs before (ms ++ m ∷ rest) → Next (before ++ ms) m
  next_at before [] m rest c = subst (λ (l : List M). Next l m) (sym (append-nil before)) c.0
  next_at before (x ∷ xs) m rest c = subst (λ (l : List M). Next l m) (append_assoc before (x ∷ []) xs) (next_at (before ++ x ∷ []) xs m rest c.1)

  abbrev Rule : List M → List (Track M) → Type 0
  Rule items views = InSuccession log number first follows items views

  abbrev Fits : ℕ → ℕ → List M → List M → ℕ → Track M → Type 0
  Fits a b sent taken port v = FitsEnd log number first follows a b sent taken port v

  pub begins : Rule [] (track true true [] [] ∷ [])
  begins = (0, 0, [], [], refl, tt, all_set (Fits 0 0 [] []) (track true true [] [] ∷ []) 0 (track true true [] []) ((λ _. (refl, refl)), λ _. (refl, refl)) (λ j u other e. absurd (other (at_end [] _ u j (λ x. some-ne-none u (sym x)) e))))

  pub sends : (n port : ℕ) (v : Track M) (x : M) → v.sends ≡ true → Next v.sent x → Pushes Rule n port v x (λ w. w ≡ track v.sends v.takes (v.sent ++ x ∷ []) v.taken)
  sends n port v x may next items views _ h at = let w : Track M = track v.sends v.takes (v.sent ++ x ∷ []) v.taken in let mine = h.6 port v at in let sent = h.2 ++ x ∷ [] in (
    w,
    (
      h.0,
      h.1,
      sent,
      h.3,
      ap (λ l. l ++ x ∷ []) h.4 ∙ append_assoc h.3 items (x ∷ []),
      runs_snoc [] h.2 x h.5 (subst (λ (l : List M). Next l x) (mine.0 may).1 next),
      all_set (Fits h.0 h.1 sent h.3) views port w ((λ _. ((mine.0 may).0, ap (λ l. l ++ x ∷ []) (mine.0 may).1)), mine.1)
          (λ j u other e. ((λ p. absurd (other (((h.6 j u e).0 p).0 ∙ sym (mine.0 may).0))), (h.6 j u e).1)),
    ),
    refl,
  )

  pub takes : (port : ℕ) (v : Track M) → v.takes ≡ true → Pops Rule port v (λ x w. (w ≡ track v.sends v.takes v.sent (v.taken ++ x ∷ [])) × Next v.taken x)
  takes port v may x items views h at = let w : Track M = track v.sends v.takes v.sent (v.taken ++ x ∷ []) in let mine = h.6 port v at in let got = h.3 ++ x ∷ [] in (
    w,
    (
      h.0,
      h.1,
      h.2,
      got,
      h.4 ∙ sym (append_assoc h.3 (x ∷ []) items),
      h.5,
      all_set (Fits h.0 h.1 h.2 got) views port w (mine.0, λ _. ((mine.1 may).0, ap (λ l. l ++ x ∷ []) (mine.1 may).1))
          (λ j u other e. ((h.6 j u e).0, λ p. absurd (other (((h.6 j u e).1 p).0 ∙ sym (mine.1 may).0)))),
    ),
    (refl, subst (λ (l : List M). Next l x) (sym (mine.1 may).1) (next_at [] h.3 x items (subst (λ (l : List M). Runs [] l) h.4 h.5))),
  )

  pub forks : (port : ℕ) (v : Track M) → v.sends ≡ true → v.takes ≡ true → Forks Rule port v (track true false v.sent []) (track false true [] v.taken)
  forks port v a b items views h at = let l : Track M = track true false v.sent [] in let r : Track M = track false true [] v.taken in let mine = h.6 port v at in let vs : List (Track M) = set views port l in
      let Old : ℕ → Track M → Type 0 = λ j u. (u.sends ≡ true → (j ≡ h.0) × (u.sent ≡ h.2)) × (u.takes ≢ true) in
      let old : All Old vs = all_set Old views port l ((λ _. mine.0 a), λ p. true≢false (sym p)) (λ j u other e. ((h.6 j u e).0, λ p. other (((h.6 j u e).1 p).0 ∙ sym (mine.1 b).0))) in (
        h.0,
        length vs,
        h.2,
        h.3,
        h.4,
        h.5,
        λ j u e. ⊎_elim (λ x. ((old j u x).0, λ p. absurd ((old j u x).1 p)))
            (λ (is : r ≡ u). ((λ p. absurd (true≢false (sym (ap (λ (y : Track M). y.sends) is ∙ p)))), λ p. (at_end vs r u j (λ x. (old j u x).1 p) e, ap (λ (y : Track M). y.taken) (sym is) ∙ (mine.1 b).1))) (at_snoc vs r u j e),
      )

  -- what a look at the queue tells: it may hold these
  pub looks : (port : ℕ) (v : Track M) → Learns Rule port v (λ items. MayHold log number first follows v items)
  looks port v items views h at = (port, views, h, at)
