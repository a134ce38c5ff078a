-- The last use of a buffer that is finished, as App knows it, was in a chunk whose post it took.
use Rattle.std.proofs.Common.{◌≡◌, ℕ, zero, suc, ◌-◌, ◌<◌, ◌≤◌, Bool, true, false, cond, not, ◌&&◌, ◌||◌, nat_le}
use Rattle.std.proofs.Common.{List, [], ◌∷◌, ◌++◌, refl, sym, ap, ◌∙◌, subst, inl, inr, Option, Some, None, arith}
use Rattle.std.proofs.Common.{append_assoc, append-nil}
use Rattle.std.specs.List.{AllByRecursion}
use Rattle.std.proofs.lemmas.Bool.{cases_Bool, or_cases, leb-true, le-leb}
use Rattle.std.proofs.lemmas.List.Folds.{list_any-append}
use Rattle.vk_types.specs.Effects.{Meaning}
use Rattle.base_lemmas.proofs.Lists.{all_back, all_append}
use Rattle.core_model.specs.Script.{Ask, Turn, Asked, Script}
use Rattle.core_model.specs.Chunking.{call_of, ends_call, entry_count, in_list, is_full, is_due, last_call, joined}
use Rattle.core_model.specs.CoreState.{Segment, Core, later, last_finished, done}
use Rattle.core_model.specs.Readings.{Reading}
use Rattle.core_model.specs.Adding.{has_block}
use Rattle.core_model.specs.AppActs.{is_finished}
use Rattle.core_model.specs.OtherParts.{used_in}
use Rattle.core_model.specs.Lawful.{bound_by, binds_buffer, last_binding, IsLawful}
use Rattle.core_model.specs.Invariant.{turns_of}
use Rattle.core_model.specs.Kept.{uses_buffer, IsUsed, Kept}
use Rattle.core_model.proofs.Steps.Binding.{or_right}
use Rattle.core_model.proofs.Runs.Tracing.{joined_last, uses_front}

-- Calls rise --------------------------------------------------------------------------------------------------------

module _ (meaning : Meaning) (script : Script) (lawful : IsLawful meaning script) where
  next_le : (front : List Turn) (x t : Turn) (back : List Turn) → script.turns ≡ front ++ x ∷ t ∷ back
      → call_of x ≤ call_of t
  next_le front x t back e =
      let n = lawful.calls front x t back e in
      elim (cases_Bool (ends_call x)) [
        | inl h ↦ let l = n.0 h in omega (arith, l)
        | inr h ↦ let s = (n.1 h).1 in
            omega (arith, s)
      ]

  move : (front : List Turn) (x : Turn) (rest : List Turn) → script.turns ≡ front ++ x ∷ rest
      → script.turns ≡ (front ++ x ∷ []) ++ rest
  move front x rest e = e ∙ sym (append_assoc front (x ∷ []) rest)

  rises : (mid front : List Turn) (x t : Turn) (back : List Turn) → script.turns ≡ front ++ x ∷ (mid ++ t ∷ back)
      → call_of x ≤ call_of t
  rises [] front x t back e = next_le front x t back e
  rises (m ∷ mid) front x t back e =
      let a = next_le front x m (mid ++ t ∷ back) e in
      let b = rises mid (front ++ x ∷ []) m t back (move front x (m ∷ (mid ++ t ∷ back)) e) in
      omega (arith, a, b)

  next_last : (front : List Turn) (x t : Turn) (back : List Turn) → script.turns ≡ front ++ x ∷ t ∷ back
      → last_call (x ∷ []) < call_of t
  next_last front x t back e =
      let n = lawful.calls front x t back e in
      let z = lawful.numbers front x (t ∷ back) e in
      elim (cases_Bool (ends_call x)) [
        | inl h ↦ subst (λ c. cond c (call_of x) (call_of x - 1) < call_of t) (sym h) (n.0 h)
        | inr h ↦ subst (λ c. cond c (call_of x) (call_of x - 1) < call_of t) (sym h) (let s = (n.1 h).1 in
            omega (arith, s, z))
      ]

  pub after_last : (mid front : List Turn) (x t : Turn) (back : List Turn)
      → script.turns ≡ front ++ x ∷ (mid ++ t ∷ back) → last_call (x ∷ []) < call_of t
  after_last [] front x t back e = next_last front x t back e
  after_last (m ∷ mid) front x t back e =
      let a = next_last front x m (mid ++ t ∷ back) e in
      let b = rises mid (front ++ x ∷ []) m t back (move front x (m ∷ (mid ++ t ∷ back)) e) in
      omega (arith, a, b)

  after_turns : (ts front mid : List Turn) (t : Turn) (back : List Turn)
      → script.turns ≡ front ++ (ts ++ (mid ++ t ∷ back)) → last_call ts < call_of t
  after_turns [] front mid t back e = lawful.numbers (front ++ mid) t back (e ∙ sym (append_assoc front mid (t ∷ back)))
  after_turns (x ∷ []) front mid t back e = after_last mid front x t back e
  after_turns (x ∷ y ∷ ts) front mid t back e = after_turns (y ∷ ts) (front ++ x ∷ []) mid t back
      (move front x (y ∷ (ts ++ (mid ++ t ∷ back))) e)

  pub after_segments : (ss : List Segment) (front mid : List Turn) (t : Turn) (back : List Turn)
      → script.turns ≡ front ++ (joined (turns_of ss) ++ (mid ++ t ∷ back)) → last_finished ss < call_of t
  after_segments [] front mid t back e = lawful.numbers (front ++ mid) t back (e
      ∙ sym (append_assoc front mid (t ∷ back)))
  after_segments (s ∷ []) front mid t back e = after_turns s.turns front mid t back (e
      ∙ ap (λ l. front ++ (l ++ (mid ++ t ∷ back))) (append-nil s.turns))
  after_segments (s ∷ u ∷ ss) front mid t back e =
      after_segments (u ∷ ss) (front ++ s.turns) mid t back
      (e ∙ ap (λ l. front ++ l) (append_assoc s.turns (joined (turns_of (u ∷ ss))) (mid ++ t ∷ back))
      ∙ sym (append_assoc front s.turns (joined (turns_of (u ∷ ss)) ++ (mid ++ t ∷ back))))

  pub all_later : (ts front : List Turn) (x : Turn) (mid back : List Turn)
      → script.turns ≡ front ++ x ∷ (mid ++ (ts ++ back)) → AllByRecursion (λ t. call_of x ≤ call_of t) ts
  all_later [] front x mid back e = tt
  all_later (t ∷ ts) front x mid back e = (
    rises mid front x t (ts ++ back) e,
    all_later ts front x (mid ++ t ∷ []) back (e ∙ ap (λ l. front ++ x ∷ l)
        (sym (append_assoc mid (t ∷ []) (ts ++ back)))),
  )

-- The last use ------------------------------------------------------------------------------------------------------

last_after : (r : ℕ) (ts : List Turn) (n m : ℕ) → n ≤ m → AllByRecursion (λ t. n ≤ call_of t) ts → (u : ℕ)
    × (last_binding r ts (Some m) ≡ Some u) × (n ≤ u)
last_after r [] n m l h = (m, refl, l)
last_after r (t ∷ ts) n m l h =
    elim (cases_Bool (binds_buffer r (bound_by t))) [
      | inl b ↦ let x = last_after r ts n (call_of t) h.0 h.1 in
          (x.0, ap (λ c. last_binding r ts (cond c (Some (call_of t)) (Some m))) b ∙ x.1, x.2)
      | inr b ↦ let x = last_after r ts n m l h.1 in
          (x.0, ap (λ c. last_binding r ts (cond c (Some (call_of t)) (Some m))) b ∙ x.1, x.2)
    ]

last_has : (r : ℕ) (f : List Turn) (t : Turn) (g : List Turn) (was : Option ℕ) → binds_buffer r (bound_by t) ≡ true
    → AllByRecursion (λ u. call_of t ≤ call_of u) g
    → (u : ℕ) × (last_binding r (f ++ t ∷ g) was ≡ Some u) × (call_of t ≤ u)
last_has r [] t g was b h = let x = last_after r g (call_of t) (call_of t) (omega arith) h in
    (x.0, ap (λ c. last_binding r g (cond c (Some (call_of t)) was)) b ∙ x.1, x.2)
last_has r (y ∷ f) t g was b h = last_has r f t g (cond (binds_buffer r (bound_by y)) (Some (call_of y)) was) b h

split_use : (r : ℕ) (ts : List Turn) → uses_buffer r ts ≡ true → (f : List Turn) × (t : Turn) × (g : List Turn)
    × (ts ≡ f ++ t ∷ g) × (binds_buffer r (bound_by t) ≡ true)
split_use r [] h = absurd (cc h)
split_use r (t ∷ ts) h =
    elim (or_cases (binds_buffer r (bound_by t)) (uses_buffer r ts) h) [
      | inl b ↦ ([], t, ts, refl, b)
      | inr b ↦ let x = split_use r ts b in (t ∷ x.0, x.1, x.2, ap (λ l. t ∷ l) x.3, x.4)
    ]

-- where chunks use a block, their turns use the buffer
turns_use : (script : Script) (blocks : ℕ → Option ℕ) (r b : ℕ) → script.is_staging r ≡ true → blocks r ≡ Some b
    → (ss : List Segment) → AllByRecursion (λ s. IsUsed script blocks s.turns s.bound) ss
    → used_in ss b ≡ true → uses_buffer r (joined (turns_of ss)) ≡ true
turns_use script blocks r b st is [] h u = absurd (cc u)
turns_use script blocks r b st is (s ∷ ss) h u =
    elim (or_cases (has_block b s.bound) (used_in ss b) u) [
      | inl x ↦ uses_front r s.turns (joined (turns_of ss)) (h.0 r b st is x)
      | inr x ↦
          list_any-append (λ t. binds_buffer r (bound_by t)) s.turns (joined (turns_of ss))
          ∙ or_right (uses_buffer r s.turns) (uses_buffer r (joined (turns_of ss)))
          (turns_use script blocks r b st is ss h.1 x)
    ]

pub joined_append : (xs ys : List Segment) → joined (turns_of (xs ++ ys)) ≡ joined (turns_of xs) ++ joined (turns_of ys)
joined_append [] ys = refl
joined_append (x ∷ xs) ys = ap (λ l. x.turns ++ l) (joined_append xs ys)
    ∙ sym (append_assoc x.turns (joined (turns_of xs)) (joined (turns_of ys)))

module _ (meaning : Meaning) (reading : Reading) (script : Script) (lawful : IsLawful meaning script) (old : Core)
    (k : Kept meaning reading script old) where
  abbrev behind : List Turn
  behind = joined (turns_of (later old)) ++ old.open_chunk.turns

  past_is : old.past ≡ joined (turns_of old.taken) ++ behind
  past_is = k.traced.past ∙ ap (λ l. l ++ old.open_chunk.turns) (joined_append old.taken (later old))
      ∙ append_assoc (joined (turns_of old.taken)) (joined (turns_of (later old))) old.open_chunk.turns

  -- a staging buffer whose last use is finished is used by no chunk whose post was not taken
  pub is_unused : (r b : ℕ) (used : Option ℕ) → script.is_staging r ≡ true → old.blocks r ≡ Some b
      → used ≡ last_binding r old.past None → is_finished used (done old) ≡ true
      → used_in (later old ++ old.open_chunk ∷ []) b ≡ false
  is_unused r b used st is last fin =
      elim (cases_Bool (used_in (later old ++ old.open_chunk ∷ []) b)) [
        | inr f ↦ f
        | inl t ↦
            let P : Segment → Type 0 = λ s. IsUsed script old.blocks s.turns s.bound in
            let uses = turns_use script old.blocks r b st is (later old ++ old.open_chunk ∷ [])
            (all_append P (later old) (old.open_chunk ∷ []) (all_back P old.taken (later old) k.traced.used)
            (k.traced.used_open, tt)) t in
            let x = split_use r behind (ap (uses_buffer r) (sym (joined_last (later old) old.open_chunk)) ∙ uses) in
            let jt = joined (turns_of old.taken) in
            let all : script.turns ≡ jt ++ (x.0 ++ x.1 ∷ (x.2 ++ old.future)) =
            sym k.good.sound.position ∙ ap (λ l. l ++ old.future) (past_is ∙ ap (λ l. jt ++ l) x.3)
            ∙ append_assoc jt (x.0 ++ x.1 ∷ x.2) old.future
            ∙ ap (λ l. jt ++ l) (append_assoc x.0 (x.1 ∷ x.2) old.future) in
            let less = after_segments meaning script lawful old.taken [] x.0 x.1 (x.2 ++ old.future) all in
            let u = last_has r (jt ++ x.0) x.1 x.2 None x.4
            (all_later meaning script lawful x.2 (jt ++ x.0) x.1 [] old.future (all
            ∙ sym (append_assoc jt x.0 (x.1 ∷ (x.2 ++ old.future))))) in
            let here : used ≡ Some u.0 = last ∙ ap (λ l. last_binding r l None) (past_is ∙ ap (λ l. jt ++ l) x.3
            ∙ sym (append_assoc jt x.0 (x.1 ∷ x.2))) ∙ u.1 in
            let low : u.0 ≤ done old = leb-true u.0 (done old) (sym (ap (λ o. is_finished o (done old)) here) ∙ fin) in
            let high = u.2 in
            absurd (let z : ⊥ = omega (arith, less, low, high) in z)
      ]

  -- The open chunk, before a call that asks -------------------------------------------------------------------------

  list_last : (ts : List Turn) → in_list ts ≡ true → (f : List Turn) × (x : Turn) × (ts ≡ f ++ x ∷ [])
      × (ends_call x ≡ false)
  list_last [] h = absurd (cc h)
  list_last (t ∷ []) h = ([], t, refl, is_false (ends_call t) h)
    where
      is_false : (c : Bool) → not c ≡ true → c ≡ false
      is_false true h = absurd (cc h)
      is_false false h = refl
  list_last (t ∷ u ∷ ts) h = let x = list_last (u ∷ ts) h in (t ∷ x.0, x.1, ap (λ l. t ∷ l) x.2, x.3)

  second : (a b : Bool) → (a || b) ≡ false → b ≡ false
  second true b h = absurd (cc h)
  second false b h = h

  both_false : (a b : Bool) → a ≡ true → (a && (not b && true)) ≡ false → b ≡ true
  both_false a true h k = refl
  both_false a false h k = absurd (let z : true ≡ false = sym (ap (λ a. a && true) h) ∙ k in cc z)

  -- it has no entry
  pub is_bare : (call : ℕ) (ask : Ask) (used : Option ℕ) (may_pend : Bool) (turns : List Turn)
      → old.future ≡ Asked call ask used may_pend ∷ turns → is_due script old.open_chunk.turns old.future ≡ false
      → entry_count old.open_chunk.turns ≡ 0
  is_bare call ask used may_pend turns e due =
      let n = entry_count old.open_chunk.turns in
      let h = second (is_full script old.open_chunk.turns) (nat_le 1 n
      && (not (in_list old.open_chunk.turns) && true)) (subst
      (λ l. is_due script old.open_chunk.turns l ≡ false) e due) in
      elim (cases_Bool (nat_le 1 n)) [
        | inr f ↦ none n f
        | inl t ↦
            let x = list_last old.open_chunk.turns (both_false (nat_le 1 n) (in_list old.open_chunk.turns) t h) in
            let js = joined (turns_of (old.taken ++ later old)) in
            let all : script.turns ≡ (js ++ x.0) ++ x.1 ∷ Asked call ask used may_pend ∷ turns =
            sym k.good.sound.position ∙ ap (λ l. l ++ old.future) (k.traced.past ∙ ap (λ l. js ++ l) x.2
            ∙ sym (append_assoc js x.0 (x.1 ∷ []))) ∙ append_assoc (js ++ x.0) (x.1 ∷ []) old.future
            ∙ ap (λ l. (js ++ x.0) ++ x.1 ∷ l) e in
            absurd (let c = lawful.calls (js ++ x.0) x.1 (Asked call ask used may_pend) turns all in let z =
            (c.1 x.3).0 in cc z)
      ]
    where
      none : (n : ℕ) → nat_le 1 n ≡ false → n ≡ 0
      none zero h = refl
      none (suc n) h = absurd (let z : true ≡ false = sym (le-leb 1 (suc n) (omega arith)) ∙ h in cc z)
