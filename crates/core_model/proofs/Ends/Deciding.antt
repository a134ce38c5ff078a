-- For each part but App it is decided whether it is enabled, and then what it leaves.
use Rattle.std.proofs.Common.{◌≡◌, ℕ, Bool, true, false, ◌||◌, ◌==◌, List, [], ◌∷◌, ◌++◌, length, refl, sym, ap, ◌∙◌}
use Rattle.std.proofs.Common.{subst, inl, inr, ◌⊎◌, Option, Some, None, slice_get, append_assoc}
use Rattle.std.specs.List.{list_any, AllByRecursion}
use Rattle.std.proofs.lemmas.Bool.{cases_Bool, or_cases, eqb-true, eq-eqb}
use Rattle.vk_types.specs.Effects.{Meaning}
use Rattle.vk_types.specs.Entries.{Entry, entry_before}
use Rattle.core_model.specs.Script.{Script}
use Rattle.core_model.specs.CoreState.{Running, Core, rests}
use Rattle.core_model.specs.Readings.{First_choices, has_place}
use Rattle.core_model.specs.OtherParts.{needed, is_among, unmade, ready_among}
use Rattle.core_model.specs.AppActs.{device_commands}
use Rattle.core_model.specs.Lawful.{IsLawful}
use Rattle.core_model.specs.Runs.{Actor, Cs_acts, Pipe_acts, Submit_acts, Device_accepts, Device_completes}
use Rattle.core_model.specs.Runs.{Device_runs, Finish_acts, IsEnabled}
use Rattle.core_model.proofs.Ends.CoreReached.{Based}
use Rattle.core_model.proofs.Ends.FinishGoes.{finish_goes}
use Rattle.core_model.proofs.Ends.Progress.{HasHead}

-- what is decided of an actor
abbrev pub Decided : Meaning → Script → Core → Actor → Type 0
Decided meaning script core a = IsEnabled meaning script core a ⊎ (IsEnabled meaning script core a → ⊥)

pub head_or : {A : Type 0} (xs : List A) → (xs ≡ []) ⊎ HasHead xs
head_or [] = inl refl
head_or (x ∷ xs) = inr (x, xs, refl)

no_head : {A : Type 0} (xs : List A) → xs ≡ [] → HasHead xs → ⊥
no_head xs e h = let z : h.0 ∷ h.1 ≡ [] = sym h.2 ∙ e in cc z

same_head : {A : Type 0} (xs : List A) (x y : A) (ss ts : List A) → xs ≡ x ∷ ss → xs ≡ y ∷ ts → x ≡ y
same_head xs x y ss ts e f = let z : x ∷ ss ≡ y ∷ ts = sym e ∙ f in cc z

-- each of these is among those, or one is not
pub all_or_one : (modules ns : List ℕ) → AllByRecursion (λ n. is_among n modules ≡ true) ns
    ⊎ ((n : ℕ) × (is_among n ns ≡ true) × (is_among n modules ≡ false))
all_or_one modules [] = inl tt
all_or_one modules (n ∷ ns) = elim (cases_Bool (is_among n modules)) [
  | inr f ↦ inr (n, ap (λ c. c || is_among n ns) (eq-eqb n n refl), f)
  | inl t ↦ elim (all_or_one modules ns) [
    | inl x ↦ inl (t, x)
    | inr x ↦ inr (x.0, or_second (n == x.0) (is_among x.0 ns) x.1, x.2)
  ]
]
  where
    or_second : (a b : Bool) → b ≡ true → (a || b) ≡ true
    or_second true b e = refl
    or_second false b e = e

not_all : (modules ns : List ℕ) (n : ℕ) → is_among n ns ≡ true → is_among n modules ≡ false
    → AllByRecursion (λ n. is_among n modules ≡ true) ns → ⊥
not_all modules [] n a f h = cc a
not_all modules (m ∷ ns) n a f h = elim (or_cases (m == n) (is_among n ns) a) [
  | inl t ↦ let z : true ≡ false = sym (subst (λ k. is_among k modules ≡ true) (eqb-true m n t) h.0) ∙ f in cc z
  | inr t ↦ not_all modules ns n t f h.1
]

-- Ready commands ----------------------------------------------------------------------------------------------------

-- a command is ready behind these, and stands behind so many ready ones
abbrev pub IsReadyAt : List Entry → Entry → ℕ → Type 0
IsReadyAt earlier x j = AllByRecursion (λ y. entry_before y x ≡ false) earlier × (length (ready_among [] earlier) ≡ j)

any_false : (p : Entry → Bool) (xs : List Entry) → list_any p xs ≡ false → AllByRecursion (λ y. p y ≡ false) xs
any_false p [] e = tt
any_false p (x ∷ xs) e = (first (p x) (list_any p xs) e, any_false p xs (second (p x) (list_any p xs) e))
  where
    first : (a b : Bool) → (a || b) ≡ false → a ≡ false
    first true b h = absurd (cc h)
    first false b h = refl

    second : (a b : Bool) → (a || b) ≡ false → b ≡ false
    second true b h = absurd (cc h)
    second false b h = h

pub false_any : (p : Entry → Bool) (xs : List Entry) → AllByRecursion (λ y. p y ≡ false) xs → list_any p xs ≡ false
false_any p [] h = refl
false_any p (x ∷ xs) h = ap (λ c. c || list_any p xs) h.0 ∙ false_any p xs h.1

ready_or_not : (earlier : List Entry) (x : Entry) (j : ℕ) → IsReadyAt earlier x j ⊎ (IsReadyAt earlier x j → ⊥)
ready_or_not earlier x j = elim (cases_Bool (list_any (λ y. entry_before y x) earlier)) [
  | inl t ↦ inr (λ h. let z : true ≡ false = sym t ∙ false_any (λ y. entry_before y x) earlier h.0 in cc z)
  | inr f ↦ elim (cases_Bool (length (ready_among [] earlier) == j)) [
    | inl t ↦ inl (any_false (λ y. entry_before y x) earlier f, eqb-true (length (ready_among [] earlier)) j t)
    | inr g ↦ inr (λ h. let z : true ≡ false = sym (eq-eqb (length (ready_among [] earlier)) j h.1) ∙ g in cc z)
  ]
]

-- one of these commands, behind others
abbrev FoundIn : List Entry → List Entry → ℕ → Type 0
FoundIn earlier xs j = (passed : List Entry) × (x : Entry) × (others : List Entry) × (xs ≡ passed ++ x ∷ others)
    × IsReadyAt (earlier ++ passed) x j

search_in : (xs earlier : List Entry) (j : ℕ) → FoundIn earlier xs j ⊎ (FoundIn earlier xs j → ⊥)
search_in [] earlier j = inr (λ f. none f.0 f.1 f.2 f.3)
  where
    none : (passed : List Entry) (x : Entry) (others : List Entry) → [] ≡ passed ++ x ∷ others → ⊥
    none [] x others e = cc e
    none (p ∷ passed) x others e = cc e
search_in (x ∷ xs) earlier j = elim (ready_or_not (earlier ++ []) x j) [
  | inl r ↦ inl ([], x, xs, refl, r)
  | inr n ↦ elim (search_in xs (earlier ++ x ∷ []) j) [
    | inl f ↦ inl (
      x ∷ f.0,
      f.1,
      f.2,
      ap (λ l. x ∷ l) f.3,
      subst (λ l. IsReadyAt l f.1 j)
          (append_assoc earlier (x ∷ []) f.0) f.4,
    )
    | inr g ↦ inr (λ f. none n g f.0 f.1 f.2 f.3 f.4)
  ]
]
  where
    none : (IsReadyAt (earlier ++ []) x j → ⊥) → (FoundIn (earlier ++ x ∷ []) xs j → ⊥)
        → (passed : List Entry) (y : Entry) (others : List Entry) → x ∷ xs ≡ passed ++ y ∷ others
        → IsReadyAt (earlier ++ passed) y j → ⊥
    none n g [] y others e r = let s : x ≡ y = cc e in n (subst (λ y. IsReadyAt (earlier ++ []) y j) (sym s) r)
    none n g (p ∷ passed) y others e r =
        let s : x ≡ p = cc e in
        let t : xs ≡ passed ++ y ∷ others = cc e in
        g (
          passed,
          y,
          others,
          t,
          subst (λ l. IsReadyAt l y j) (sym (append_assoc earlier (x ∷ []) passed))
              (subst (λ q. IsReadyAt (earlier ++ q ∷ passed) y j) (sym s) r),
        )

-- one of the commands of these batches, behind other batches
abbrev FoundOn : List Running → List Running → ℕ → Type 0
FoundOn front rs j = (mid : List Running) × (r : Running) × (back : List Running) × (rs ≡ mid ++ r ∷ back)
    × FoundIn (rests (front ++ mid)) r.rest j

search_on : (rs front : List Running) (j : ℕ) → FoundOn front rs j ⊎ (FoundOn front rs j → ⊥)
search_on [] front j = inr (λ f. none f.0 f.1 f.2 f.3)
  where
    none : (mid : List Running) (r : Running) (back : List Running) → [] ≡ mid ++ r ∷ back → ⊥
    none [] r back e = cc e
    none (m ∷ mid) r back e = cc e
search_on (r ∷ rs) front j = elim (search_in r.rest (rests (front ++ [])) j) [
  | inl f ↦ inl ([], r, rs, refl, f)
  | inr n ↦ elim (search_on rs (front ++ r ∷ []) j) [
    | inl f ↦ inl (
      r ∷ f.0,
      f.1,
      f.2,
      ap (λ l. r ∷ l) f.3,
      subst (λ l. FoundIn (rests l) f.1.rest j)
          (append_assoc front (r ∷ []) f.0) f.4,
    )
    | inr g ↦ inr (λ f. none n g f.0 f.1 f.2 f.3 f.4)
  ]
]
  where
    none : (FoundIn (rests (front ++ [])) r.rest j → ⊥) → (FoundOn (front ++ r ∷ []) rs j → ⊥)
        → (mid : List Running) (s : Running) (back : List Running) → r ∷ rs ≡ mid ++ s ∷ back
        → FoundIn (rests (front ++ mid)) s.rest j → ⊥
    none n g [] s back e f = let q : r ≡ s = cc e in n (subst (λ s. FoundIn (rests (front ++ [])) s.rest j) (sym q) f)
    none n g (m ∷ mid) s back e f =
        let q : r ≡ m = cc e in
        let t : rs ≡ mid ++ s ∷ back = cc e in
        g (
          mid,
          s,
          back,
          t,
          subst (λ l. FoundIn (rests l) s.rest j) (sym (append_assoc front (r ∷ []) mid))
              (subst (λ m. FoundIn (rests (front ++ m ∷ mid)) s.rest j) (sym q) f),
        )

rests_append : (xs ys : List Running) → rests (xs ++ ys) ≡ rests xs ++ rests ys
rests_append [] ys = refl
rests_append (x ∷ xs) ys = ap (λ l. x.rest ++ l) (rests_append xs ys) ∙ sym (append_assoc x.rest (rests xs) (rests ys))

-- Each part ---------------------------------------------------------------------------------------------------------

module _ (meaning : Meaning) (script : Script) (lawful : IsLawful meaning script) (old : Core)
    (base : Based meaning script lawful old) (goes_on : old.ended ≡ false) where
  pub decide_finish : Decided meaning script old Finish_acts
  decide_finish = elim (head_or old.completions) [
    | inl e ↦ inr (λ p. no_head old.completions e (p.1.1.1.0, p.1.1.1.1, p.1.1.1.2))
    | inr h ↦ elim (cases_Bool (has_place First_choices (length old.posts))) [
      | inl t ↦ inl (finish_goes meaning script lawful old base goes_on h.0 h.1 h.2 t)
      | inr f ↦ inr (λ p. let z : true ≡ false = sym p.1.1.1.3 ∙ f in cc z)
    ]
  ]

  pub decide_complete : Decided meaning script old Device_completes
  decide_complete = elim (head_or old.accepted) [
    | inl e ↦ inr (λ p. no_head old.accepted e (p.1.1.0, p.1.1.1, p.1.1.2))
    | inr h ↦ elim (head_or h.0.rest) [
      | inr l ↦ inr
          (λ p. no_head h.0.rest (ap (λ r. r.rest) (same_head old.accepted h.0 p.1.1.0 h.1 p.1.1.1 h.2 p.1.1.2)
          ∙ p.1.1.3) l)
      | inl out ↦ elim (cases_Bool (has_place First_choices (length old.completions))) [
        | inl t ↦ inl (_, (goes_on, (h.0, h.1, h.2, out, t, refl)))
        | inr f ↦ inr (λ p. let z : true ≡ false = sym p.1.1.4 ∙ f in cc z)
      ]
    ]
  ]

  pub decide_run : (j : ℕ) → Decided meaning script old (Device_runs j)
  decide_run j = elim (search_on old.accepted [] j) [
    | inl f ↦
        let g = f.4 in
        inl (_, (goes_on, (f.0, f.1, f.2, f.3, g.0, g.1, g.2, g.3, g.4.0, g.4.1, refl)))
    | inr n ↦ inr (λ p. let s = p.1.1 in n (s.0, s.1, s.2, s.3, (s.4, s.5, s.6, s.7, (s.8, s.9))))
  ]

  pub decide_accept : Decided meaning script old Device_accepts
  decide_accept = elim (head_or old.submissions) [
    | inl e ↦ inr (λ p. no_head old.submissions e (p.1.1.0, p.1.1.1, p.1.1.2))
    | inr h ↦ elim (cases_Bool (has_place First_choices (length old.accepted))) [
      | inl t ↦ inl (_, (goes_on, (h.0, h.1, h.2, t, refl)))
      | inr f ↦ inr (λ p. let z : true ≡ false = sym p.1.1.3 ∙ f in cc z)
    ]
  ]

  pub decide_submit : Decided meaning script old Submit_acts
  decide_submit = elim (head_or old.batches) [
    | inl e ↦ inr (λ p. no_head old.batches e (p.1.1.0, p.1.1.1, p.1.1.2))
    | inr h ↦ elim (cases_Bool (has_place First_choices (length old.submissions))) [
      | inr f ↦ inr (λ p. let z : true ≡ false = sym p.1.1.3 ∙ f in cc z)
      | inl t ↦ elim (all_or_one old.modules (needed (device_commands h.0.commands))) [
        | inl a ↦ inl (_, (goes_on, (h.0, h.1, h.2, t, a, refl)))
        | inr m ↦ inr (λ p.
            let same = same_head old.batches h.0 p.1.1.0 h.1 p.1.1.1 h.2 p.1.1.2 in
            not_all old.modules (needed (device_commands h.0.commands)) m.0 m.1 m.2
            (subst (λ s. AllByRecursion (λ shader. is_among shader old.modules ≡ true)
            (needed (device_commands s.commands))) (sym same) p.1.1.4))
      ]
    ]
  ]

  pub decide_pipe : (j : ℕ) → Decided meaning script old (Pipe_acts j)
  decide_pipe j = by (slice_get (unmade old.modules old.requested) j) refl
    where
      by : (o : Option ℕ) → slice_get (unmade old.modules old.requested) j ≡ o
          → Decided meaning script old (Pipe_acts j)
      by None e = inr (λ p. let z : None ≡ Some p.1.1.0 = sym e ∙ p.1.1.1 in cc z)
      by (Some s) e = inl (record old { modules = old.modules ++ s ∷ [] }, (goes_on, (s, e, refl)))

  pub decide_cs : Decided meaning script old Cs_acts
  decide_cs = elim (head_or old.chunks) [
    | inl e ↦ inr (λ p. no_head old.chunks e (p.1.1.0, p.1.1.1, p.1.1.2))
    | inr h ↦ elim (cases_Bool (has_place First_choices (length old.batches))) [
      | inl t ↦ inl (_, (goes_on, (h.0, h.1, h.2, t, refl)))
      | inr f ↦ inr (λ p. let z : true ≡ false = sym p.1.1.3 ∙ f in cc z)
    ]
  ]
