-- What an event of the core that is stepped leaves is determined by the state.
use Rattle.std.proofs.Common.{◌≡◌, ℕ, suc, ◌+◌, ◌*◌, ◌<◌, ◌≤◌, Bool, true, false, cond, List, [], ◌∷◌, ◌++◌, length}
use Rattle.std.proofs.Common.{refl, sym, ap, ◌∙◌, subst, inl, inr, Some, slice_set, arith, length-append}
use Rattle.std.proofs.Common.{append_assoc, append-nil}
use Rattle.std.specs.List.{list_any, AllByRecursion}
use Rattle.vk_types.specs.Effects.{Meaning, act_effect}
use Rattle.vk_types.specs.Entries.{Entry, entry_before, run_entries}
use Rattle.core_model.specs.Script.{Script, updated}
use Rattle.core_model.specs.CoreState.{Segment, Running, Message, rests, Core, of_messages, marks, Home, Returning}
use Rattle.core_model.specs.CoreState.{finished_count}
use Rattle.core_model.specs.Readings.{First_choices}
use Rattle.core_model.specs.Owners.{finish_owner}
use Rattle.core_model.specs.AppActs.{Acts}
use Rattle.core_model.specs.TakingPosts.{with_fence}
use Rattle.core_model.specs.OtherParts.{created, ready_among, snaps_of, values_of, counted}
use Rattle.core_model.specs.CoreStep.{Event, App, Cs, Pipe, Submit, Accept, Run, Complete, Finish, Come_home, Step}
use Rattle.core_model.specs.CoreStep.{AppSteps, first_vacant, AllComeHome, CoreStep}
use Rattle.core_model.proofs.Ends.AppDecides.{posts_unique}
use Rattle.core_model.proofs.Ends.Deciding.{false_any, IsReadyAt}
use Rattle.core_model.proofs.Ends.OneAct.{two, split_once, acts_once}

-- Ready commands ----------------------------------------------------------------------------------------------------

ready_parts : (acc xs ys : List Entry) → ready_among acc (xs ++ ys) ≡ ready_among acc xs ++ ready_among (acc ++ xs) ys
ready_parts acc [] ys = ap (λ l. ready_among l ys) (sym (append-nil acc))
ready_parts acc (x ∷ xs) ys = by (list_any (λ y. entry_before y x) acc) (ready_parts (acc ++ x ∷ []) xs ys
    ∙ ap (λ l. ready_among (acc ++ x ∷ []) xs ++ ready_among l ys) (append_assoc acc (x ∷ []) xs))
  where
    by : (c : Bool) → ready_among (acc ++ x ∷ []) (xs ++ ys)
        ≡ ready_among (acc ++ x ∷ []) xs ++ ready_among (acc ++ x ∷ xs) ys
        → cond c (ready_among (acc ++ x ∷ []) (xs ++ ys)) (x ∷ ready_among (acc ++ x ∷ []) (xs ++ ys))
        ≡ cond c (ready_among (acc ++ x ∷ []) xs) (x ∷ ready_among (acc ++ x ∷ []) xs) ++ ready_among (acc ++ x ∷ xs) ys
    by true e = e
    by false e = ap (λ l. x ∷ l) e

-- one more is ready behind a ready one
ready_more : (earlier more : List Entry) (x : Entry) → AllByRecursion (λ y. entry_before y x ≡ false) earlier
    → length (ready_among [] earlier) < length (ready_among [] (earlier ++ x ∷ more))
ready_more earlier more x h =
    let e = ap length (ready_parts [] earlier (x ∷ more)) in
    let l = length-append (ready_among [] earlier) (ready_among earlier (x ∷ more)) in
    let head : ready_among earlier (x ∷ more) ≡ x ∷ ready_among (earlier ++ x ∷ []) more =
    ap (λ c. cond c (ready_among (earlier ++ x ∷ []) more) (x ∷ ready_among (earlier ++ x ∷ []) more))
    (false_any (λ y. entry_before y x) earlier h) in
    let n = ap length head in
    omega (arith, e, l, n)

not_later : (earlier more : List Entry) (x : Entry) (j : ℕ) → IsReadyAt earlier x j
    → length (ready_among [] (earlier ++ x ∷ more)) ≡ j → ⊥
not_later earlier more x j r e = let l = ready_more earlier more x r.0 in let s = r.1 in omega (arith, l, s, e)

-- in a list the ready command of that number stands at one place
place_once : (earlier p q : List Entry) (x y : Entry) (ss ts : List Entry) (j : ℕ) → p ++ x ∷ ss ≡ q ++ y ∷ ts
    → IsReadyAt (earlier ++ p) x j → IsReadyAt (earlier ++ q) y j → (p ≡ q) × (x ≡ y) × (ss ≡ ts)
place_once earlier [] [] x y ss ts j e r s = (refl, cc e, cc e)
place_once earlier [] (v ∷ q) x y ss ts j e r s =
    let same : v ≡ x = sym (cc e) in
    absurd (not_later earlier q x j (subst (λ l. IsReadyAt l x j) (append-nil earlier) r)
    (subst (λ v. length (ready_among [] (earlier ++ v ∷ q)) ≡ j) same s.1))
place_once earlier (u ∷ p) [] x y ss ts j e r s =
    let same : u ≡ y = cc e in
    absurd (not_later earlier p y j (subst (λ l. IsReadyAt l y j) (append-nil earlier) s)
    (subst (λ v. length (ready_among [] (earlier ++ v ∷ p)) ≡ j) same r.1))
place_once earlier (u ∷ p) (v ∷ q) x y ss ts j e r s =
    let head : u ≡ v = cc e in
    let rest : p ++ x ∷ ss ≡ q ++ y ∷ ts = cc e in
    let z = place_once (earlier ++ u ∷ []) p q x y ss ts j rest
    (subst (λ l. IsReadyAt l x j) (sym (append_assoc earlier (u ∷ []) p)) r)
    (subst (λ l. IsReadyAt l y j) (sym (append_assoc earlier (u ∷ []) q))
    (subst (λ w. IsReadyAt (earlier ++ w ∷ q) y j) (sym head) s)) in
    (two (λ a b. a ∷ b) u v p q head z.0, z.1, z.2)

-- and in one batch
batch_once : (earlier : List Entry) (f g : List Running) (r s : Running) (b d : List Running) (p q : List Entry)
    (x y : Entry) (ss ts : List Entry) (j : ℕ)
    → f ++ r ∷ b ≡ g ++ s ∷ d → r.rest ≡ p ++ x ∷ ss → s.rest ≡ q ++ y ∷ ts
    → IsReadyAt (earlier ++ (rests f ++ p)) x j → IsReadyAt (earlier ++ (rests g ++ q)) y j → length f ≡ length g
batch_once earlier [] [] r s b d p q x y ss ts j e h k m n = refl
batch_once earlier [] (v ∷ g) r s b d p q x y ss ts j e h k m n =
    let same : v ≡ r = sym (cc e) in
    let line : earlier ++ ((v.rest ++ rests g) ++ q) ≡ (earlier ++ p) ++ x ∷ (ss ++ (rests g ++ q)) =
    ap (λ l. earlier ++ ((l ++ rests g) ++ q)) (ap (λ w. w.rest) same ∙ h)
    ∙ ap (λ l. earlier ++ l) (append_assoc (p ++ x ∷ ss) (rests g) q ∙ append_assoc p (x ∷ ss) (rests g ++ q))
    ∙ sym (append_assoc earlier p (x ∷ (ss ++ (rests g ++ q)))) in
    absurd (not_later (earlier ++ p) (ss ++ (rests g ++ q)) x j m (ap (λ l. length (ready_among [] l)) (sym line)
    ∙ n.1))
batch_once earlier (u ∷ f) [] r s b d p q x y ss ts j e h k m n =
    let same : u ≡ s = cc e in
    let line : earlier ++ ((u.rest ++ rests f) ++ p) ≡ (earlier ++ q) ++ y ∷ (ts ++ (rests f ++ p)) =
    ap (λ l. earlier ++ ((l ++ rests f) ++ p)) (ap (λ w. w.rest) same ∙ k)
    ∙ ap (λ l. earlier ++ l) (append_assoc (q ++ y ∷ ts) (rests f) p ∙ append_assoc q (y ∷ ts) (rests f ++ p))
    ∙ sym (append_assoc earlier q (y ∷ (ts ++ (rests f ++ p)))) in
    absurd (not_later (earlier ++ q) (ts ++ (rests f ++ p)) y j n (ap (λ l. length (ready_among [] l)) (sym line)
    ∙ m.1))
batch_once earlier (u ∷ f) (v ∷ g) r s b d p q x y ss ts j e h k m n =
    let head : u ≡ v = cc e in
    let rest : f ++ r ∷ b ≡ g ++ s ∷ d = cc e in
    let left : earlier ++ ((u.rest ++ rests f) ++ p) ≡ (earlier ++ u.rest) ++ (rests f ++ p) =
    ap (λ l. earlier ++ l) (append_assoc u.rest (rests f) p) ∙ sym (append_assoc earlier u.rest (rests f ++ p)) in
    let right : earlier ++ ((v.rest ++ rests g) ++ q) ≡ (earlier ++ u.rest) ++ (rests g ++ q) =
    ap (λ w. earlier ++ ((w.rest ++ rests g) ++ q)) (sym head)
    ∙ ap (λ l. earlier ++ l) (append_assoc u.rest (rests g) q)
    ∙ sym (append_assoc earlier u.rest (rests g ++ q)) in
    ap suc (batch_once (earlier ++ u.rest) f g r s b d p q x y ss ts j rest h k
    (subst (λ l. IsReadyAt l x j) left m) (subst (λ l. IsReadyAt l y j) right n))

module _ (meaning : Meaning) (script : Script) (old : Core) where
  abbrev after_run : List Running → Segment → List Running → List Entry → Entry → Core
  after_run front segment back rest x = record old {
    accepted = front ++ record { segment = segment; rest = rest } ∷ back;
    memory = act_effect meaning x.act old.memory;
    counts = counted meaning x.act old.memory old.counts;
    ran = old.ran ++ x ∷ [];
  }

  run_once : (j : ℕ) (a b : Core) → Step meaning First_choices script old (Run j) a
      → Step meaning First_choices script old (Run j) b → a ≡ b
  run_once j a b s t =
      let long = batch_once [] s.0 t.0 s.1 t.1 s.2 t.2 s.4 t.4 s.5 t.5 s.6 t.6 j (sym s.3
      ∙ t.3) s.7 t.7 (s.8, s.9) (t.8, t.9) in
      let z = split_once s.0 t.0 s.1 t.1 s.2 t.2 long (sym s.3 ∙ t.3) in
      let ready : IsReadyAt (rests s.0 ++ t.4) t.5 j = subst (λ f. IsReadyAt (rests f ++ t.4) t.5 j) (sym z.0)
      (t.8, t.9) in
      let w = place_once (rests s.0) s.4 t.4 s.5 t.5 s.6 t.6 j (sym s.7 ∙ ap (λ r. r.rest) z.1
      ∙ t.7) (s.8, s.9) ready in
      s.10
      ∙ two (λ f r. after_run f r.segment s.2 (s.4 ++ s.6) s.5) s.0 t.0 s.1 t.1 z.0 z.1
      ∙ two (λ back rest. after_run t.0 t.1.segment back rest s.5) s.2 t.2 (s.4 ++ s.6) (t.4 ++ t.6) z.2
      (two (λ a b. a ++ b) s.4 t.4 s.6 t.6 w.0 w.2)
      ∙ ap (λ x. after_run t.0 t.1.segment t.2 (t.4 ++ t.6) x) w.1 ∙ sym t.10

  -- The other parts -------------------------------------------------------------------------------------------------

  cs_once : (a b : Core) → Step meaning First_choices script old Cs a → Step meaning First_choices script old Cs b
      → a ≡ b
  cs_once a b p q =
      let e : p.0 ∷ p.1 ≡ q.0 ∷ q.1 = sym p.2 ∙ q.2 in
      p.4 ∙ two (λ s ss. record old {
        chunks = ss;
        batches = old.batches ++ s ∷ [];
        requested =
            old.requested ++ created s.turns;
      }) p.0 q.0 p.1 q.1 (cc e) (cc e) ∙ sym q.4

  pipe_once : (j : ℕ) (a b : Core) → Step meaning First_choices script old (Pipe j) a
      → Step meaning First_choices script old (Pipe j) b → a ≡ b
  pipe_once j a b p q =
      let e : Some p.0 ≡ Some q.0 = sym p.1 ∙ q.1 in
      let same : p.0 ≡ q.0 = cc e in
      p.2 ∙ ap (λ s. record old { modules = old.modules ++ s ∷ [] }) same ∙ sym q.2

  submit_once : (a b : Core) → Step meaning First_choices script old Submit a
      → Step meaning First_choices script old Submit b → a ≡ b
  submit_once a b p q =
      let e : p.0 ∷ p.1 ≡ q.0 ∷ q.1 = sym p.2 ∙ q.2 in
      p.5 ∙ two (λ s ss. record old { batches = ss; submissions = old.submissions ++ s ∷ [] }) p.0 q.0 p.1 q.1
      (cc e) (cc e) ∙ sym q.5

  accept_once : (a b : Core) → Step meaning First_choices script old Accept a
      → Step meaning First_choices script old Accept b → a ≡ b
  accept_once a b p q =
      let e : p.0 ∷ p.1 ≡ q.0 ∷ q.1 = sym p.2 ∙ q.2 in
      let F : Segment → List Segment → Core = λ s ss. record old {
        submissions = ss;
        accepted = old.accepted ++ record { segment = s; rest = s.commands } ∷ [];
        memory = run_entries meaning s.writes old.memory;
      } in
      p.4 ∙ two F p.0 q.0 p.1 q.1 (cc e) (cc e) ∙ sym q.4

  complete_once : (a b : Core) → Step meaning First_choices script old Complete a
      → Step meaning First_choices script old Complete b → a ≡ b
  complete_once a b p q =
      let e : p.0 ∷ p.1 ≡ q.0 ∷ q.1 = sym p.2 ∙ q.2 in
      let F : Running → List Running → Core = λ r rs. record old {
        accepted = rs;
        completions = old.completions
            ++ record {
              segment = r.segment;
              snaps = snaps_of r.segment rs old.memory;
              values = values_of old.counts (old.taken ++ (of_messages old.posts ++ of_messages old.completions))
                  r.segment;
            }
            ∷ [];
      } in
      p.5 ∙ two F p.0 q.0 p.1 q.1 (cc e) (cc e) ∙ sym q.5

  finish_once : (a b : Core) → Step meaning First_choices script old Finish a
      → Step meaning First_choices script old Finish b → a ≡ b
  finish_once a b p q =
      let e : p.0 ∷ p.1 ≡ q.0 ∷ q.1 = sym p.2 ∙ q.2 in
      let F : Message → List Message → Core = λ m ms. record old {
        completions = ms;
        posts =
            old.posts ++ m ∷ [];
        owner = λ b. finish_owner (suc (finished_count old)) b (old.owner b);
      } in
      p.4 ∙ two F p.0 q.0 p.1 q.1 (cc e) (cc e) ∙ sym q.4

  app_once : (n : ℕ) (a b : Core) → AppSteps First_choices script n old a → AppSteps First_choices script n old b
      → a ≡ b
  app_once n a b p q =
      let same : q.2 ≡ p.2 = posts_unique n old q.2 p.2 q.3 p.3 in
      elim p.4 [
        | inl x ↦ elim q.4 [
          | inl y ↦ acts_once script (with_fence n p.2) a b x
              (subst (λ m. Acts First_choices script (with_fence n m) b) same y)
          | inr y ↦ absurd (y.1 a (subst (λ m. Acts First_choices script (with_fence n m) a) (sym same) x))
        ]
        | inr x ↦ elim q.4 [
          | inl y ↦ absurd (x.1 b (subst (λ m. Acts First_choices script (with_fence n m) b) same y))
          | inr y ↦ x.2 ∙ ap (λ m. with_fence n m) (sym same) ∙ sym y.2
        ]
      ]

one_class : (b c d : ℕ) → c * 64 ≤ b → b < c * 64 + 64 → d * 64 ≤ b → b < d * 64 + 64 → c ≡ d
one_class b c d h k m n = omega (arith, h, k, m, n)

home_once : (meaning : Meaning) (script : Script) (bs : List ℕ) (old a b : Core)
    → AllComeHome meaning script bs old a → AllComeHome meaning script bs old b → a ≡ b
home_once meaning script [] old a b p q = p ∙ sym q
home_once meaning script (c ∷ bs) old a b (inl p) (inl q) = home_once meaning script bs old a b p.1 q.1
home_once meaning script (c ∷ bs) old a b (inl p) (inr q) = let z : true ≡ false = sym q.0 ∙ p.0 in absurd (cc z)
home_once meaning script (c ∷ bs) old a b (inr p) (inl q) = let z : true ≡ false = sym p.0 ∙ q.0 in absurd (cc z)
home_once meaning script (c ∷ bs) old a b (inr p) (inr q) =
    let ps = p.7 in
    let qs = q.7 in
    let class : p.1 ≡ q.1 = one_class c p.1 q.1 p.3 p.4 q.3 q.4 in
    let z : Some p.2 ≡ Some q.2 = sym p.5 ∙ ap (λ k. first_vacant 0 (old.board.places k)) class ∙ q.5 in
    let place : p.2 ≡ q.2 = cc z in
    let w : Returning ps.1 ≡ Returning qs.1 = sym ps.2 ∙ qs.2 in
    let chunk : ps.1 ≡ qs.1 = cc w in
    let inner : ps.0 ≡ qs.0 = one_class c ps.0 qs.0 ps.3 ps.4 qs.3 qs.4 in
    let F : ℕ → ℕ → ℕ → Core = λ class place k. record old {
      owner = updated c (Home k) old.owner;
      board = record old.board {
        places = updated class (slice_set (old.board.places class) place (Some c))
            old.board.places;
      };
    } in
    let mid : p.6 ≡ q.6 = ps.6 ∙ two (λ x y. F x y ps.1) ps.0 qs.0 p.2 q.2 inner place
    ∙ ap (λ k. F qs.0 q.2 k) chunk ∙ sym qs.6 in
    home_once meaning script bs p.6 a b p.8 (subst (λ m. AllComeHome meaning script bs m b) (sym mid) q.8)

pub step_once : (meaning : Meaning) (script : Script) (old : Core) (e : Event) (a b : Core)
    → CoreStep meaning script old e a → CoreStep meaning script old e b → a ≡ b
step_once meaning script old (App n) a b p q = app_once meaning script old n a b p.1 q.1
step_once meaning script old Cs a b p q = cs_once meaning script old a b p.1 q.1
step_once meaning script old (Pipe j) a b p q = pipe_once meaning script old j a b p.1 q.1
step_once meaning script old Submit a b p q = submit_once meaning script old a b p.1 q.1
step_once meaning script old Accept a b p q = accept_once meaning script old a b p.1 q.1
step_once meaning script old (Run j) a b p q = run_once meaning script old j a b p.1 q.1
step_once meaning script old Complete a b p q = complete_once meaning script old a b p.1 q.1
step_once meaning script old Finish a b p q =
    let s = p.1 in
    let t = q.1 in
    let e : s.2 ∷ s.3 ≡ t.2 ∷ t.3 = sym s.4 ∙ t.4 in
    let m : t.2 ≡ s.2 = sym (cc e) in
    let mid : t.0 ≡ s.0 = finish_once meaning script old t.0 s.0 t.1 s.1 in
    home_once meaning script (marks s.2.segment) s.0 a b s.5
    (subst (λ m. AllComeHome meaning script (marks m.segment) s.0 b) m
    (subst (λ c. AllComeHome meaning script (marks t.2.segment) c b) mid t.5))
step_once meaning script old (Come_home block place) a b p q = absurd p.1
