-- Where the open chunk has no entry and none comes next, the last turn of the chunks that were handed over ends its
-- call, so that the calls of all items are finished with those chunks.
use Rattle.std.proofs.Common.{◌≡◌, ℕ, ◌+◌, ◌-◌, ◌≤◌, Bool, true, false, cond, List, [], ◌∷◌, ◌++◌, refl, sym, ap, ◌∙◌}
use Rattle.std.proofs.Common.{subst, inl, inr, ◌⊎◌, Option, Some, arith, append_assoc}
use Rattle.std.specs.List.{list_any, AllByRecursion}
use Rattle.std.proofs.lemmas.Bool.{cases_Bool, or_cases, eqb-true}
use Rattle.base_lemmas.specs.Lists.{Pairwise}
use Rattle.vk_types.specs.Effects.{Meaning}
use Rattle.base_lemmas.proofs.Lists.{all_front, all_back, all_append, all_map}
use Rattle.core_model.specs.Script.{Turn, Refused, Passed, Flushed, Asked, Item, Script}
use Rattle.core_model.specs.Chunking.{call_of, ends_call, is_entry, entry_count, last_call, joined, cut}
use Rattle.core_model.specs.CoreState.{Segment, Core, later, last_finished}
use Rattle.core_model.specs.Readings.{Reading}
use Rattle.core_model.specs.Lawful.{bound_by, binds_buffer, last_binding, ends_query, last_end, is_item_of, IsLawful}
use Rattle.core_model.specs.Invariant.{turns_of, handed}
use Rattle.core_model.specs.Kept.{Kept}
use Rattle.core_model.proofs.Runs.LastUses.{after_segments, joined_append}
use Rattle.core_model.proofs.Runs.Tracing.{joined_last}
use Rattle.core_model.proofs.Queries.QueryCalls.{calls_rise, cut_filled, finished_last}
use Rattle.core_model.proofs.Steps.Segments.{turns_of-append}

-- Lists from behind -------------------------------------------------------------------------------------------------

pub from_behind : {A : Type 0} (xs : List A) → (xs ≡ []) ⊎ ((f : List A) × (x : A) × (xs ≡ f ++ x ∷ []))
from_behind [] = inl refl
from_behind (x ∷ xs) = elim (from_behind xs) [
  | inl e ↦ inr ([], x, ap (λ l. x ∷ l) e)
  | inr r ↦ inr (x ∷ r.0, r.1, ap (λ l. x ∷ l) r.2)
]

before_last : (R : Turn → Turn → Type 0) (f : List Turn) (x : Turn) → Pairwise R (f ++ x ∷ [])
    → AllByRecursion (λ t. R t x) f
before_last R [] x h = tt
before_last R (t ∷ f) x h = ((all_back (R t) f (x ∷ []) h.0).0, before_last R f x h.1)

pub last_call_behind : (f : List Turn) (x : Turn) → last_call (f ++ x ∷ []) ≡ last_call (x ∷ [])
last_call_behind [] x = refl
last_call_behind (t ∷ []) x = refl
last_call_behind (t ∷ u ∷ f) x = last_call_behind (u ∷ f) x

-- turns without an entry
none_enter : (ts : List Turn) → entry_count ts ≡ 0 → AllByRecursion (λ t. is_entry t ≡ false) ts
none_enter [] e = tt
none_enter (t ∷ ts) e = (first (is_entry t) e, none_enter ts (second (is_entry t) e))
  where
    first : (b : Bool) → cond b 1 0 + entry_count ts ≡ 0 → b ≡ false
    first true e = absurd (let z : 1 + entry_count ts ≡ 0 = e in omega (arith, z))
    first false e = refl

    second : (b : Bool) → cond b 1 0 + entry_count ts ≡ 0 → entry_count ts ≡ 0
    second true e = absurd (let z : 1 + entry_count ts ≡ 0 = e in omega (arith, z))
    second false e = let z : 0 + entry_count ts ≡ 0 = e in omega (arith, z)

module _ (meaning : Meaning) (reading : Reading) (script : Script) (lawful : IsLawful meaning script) (core : Core)
    (k : Kept meaning reading script core)
    (bare : entry_count core.open_chunk.turns ≡ 0) (next : (t : Turn) (ts : List Turn) → core.future ≡ t ∷ ts
    → is_entry t ≡ false) where
  abbrev o : List Turn
  o = core.open_chunk.turns

  record HandedLast : Type 0 where
    pub front : List Turn
    pub last : Turn
    pub turns : joined (turns_of (handed core)) ≡ front ++ last ∷ []
    pub ends : ends_call last ≡ true
    pub finished : last_finished (handed core) ≡ call_of last

  place : script.turns ≡ joined (turns_of (handed core)) ++ (o ++ core.future)
  place = sym k.good.sound.position ∙ ap (λ l. l ++ core.future) k.traced.past
      ∙ append_assoc (joined (turns_of (handed core))) o core.future

  filled : AllByRecursion (λ l. l ≡ [] → ⊥) (turns_of (handed core))
  filled = all_front (λ l. l ≡ [] → ⊥) (turns_of (handed core)) (cut script core.open_chunk.turns core.future)
      (subst (AllByRecursion (λ l. l ≡ [] → ⊥)) k.good.sound.cut (cut_filled script script.turns []))

  -- no entry follows a turn, so it ends its call
  ends_there : (front : List Turn) (x : Turn) → script.turns ≡ front ++ x ∷ (o ++ core.future) → ends_call x ≡ true
  ends_there front x e = by o core.future (none_enter o bare) next e
    where
      by_next : (y : Turn) (rest : List Turn) → is_entry y ≡ false → script.turns ≡ front ++ x ∷ y ∷ rest
          → ends_call x ≡ true
      by_next y rest plain e = elim (cases_Bool (ends_call x)) [
        | inl t ↦ t
        | inr f ↦ absurd (let z : true ≡ false = sym ((lawful.calls front x y rest e).1 f).0 ∙ plain in cc z)
      ]

      by : (o future : List Turn) → AllByRecursion (λ t. is_entry t ≡ false) o
          → ((t : Turn) (ts : List Turn) → future ≡ t ∷ ts → is_entry t ≡ false)
          → script.turns ≡ front ++ x ∷ (o ++ future) → ends_call x ≡ true
      by (y ∷ o) future h n e = by_next y (o ++ future) h.0 e
      by [] (y ∷ future) h n e = by_next y future (n y future refl) e
      by [] [] h n e = lawful.ends front x e

  last_at : (ss : List Segment) (s : Segment) → handed core ≡ ss ++ s ∷ [] → HandedLast
  last_at ss s e =
      let some : AllByRecursion (λ l. l ≡ [] → ⊥) (turns_of ss ++ s.turns ∷ []) =
      subst (AllByRecursion (λ l. l ≡ [] → ⊥)) (ap turns_of e ∙ turns_of-append ss (s ∷ [])) filled in
      let here = (all_back (λ l. l ≡ [] → ⊥) (turns_of ss) (s.turns ∷ []) some).0 in
      elim (from_behind s.turns) [
        | inl none ↦ absurd (here none)
        | inr r ↦
            let x = r.1 in
            let front = joined (turns_of ss) ++ r.0 in
            let line : joined (turns_of (handed core)) ≡ front ++ x ∷ [] = ap (λ l. joined (turns_of l)) e
            ∙ joined_last ss s ∙ ap (λ l. joined (turns_of ss) ++ l) r.2
            ∙ sym (append_assoc (joined (turns_of ss)) r.0 (x ∷ [])) in
            let all : script.turns ≡ front ++ x ∷ (o ++ core.future) = place
            ∙ ap (λ l. l ++ (o ++ core.future)) line ∙ append_assoc front (x ∷ []) (o ++ core.future) in
            let ends = ends_there front x all in
            record {
              front = front;
              last = x;
              turns = line;
              ends = ends;
              finished = ap last_finished e ∙ finished_last ss s ∙ ap last_call r.2 ∙ last_call_behind r.0 x
                  ∙ ap (λ c. cond c (call_of x) (call_of x - 1)) ends;
            }
      ]

  -- the calls of the items so far are finished with the chunks that were handed over
  pub items_finished : AllByRecursion (λ t. is_entry t ≡ true → call_of t ≤ last_finished (handed core)) core.past
  items_finished =
      let P : Turn → Type 0 = λ t. is_entry t ≡ true → call_of t ≤ last_finished (handed core) in
      let open_part : AllByRecursion P o = all_map (λ t. is_entry t ≡ false) P
      (λ t f h. absurd (let z : true ≡ false = sym h ∙ f in cc z)) o (none_enter o bare) in
      let front_part : AllByRecursion P (joined (turns_of (handed core))) = elim (from_behind (handed core)) [
        | inl none ↦ subst (λ l. AllByRecursion P (joined (turns_of l))) (sym none) tt
        | inr r ↦
            let last = last_at r.0 r.1 r.2 in
            let x = last.last in
            let rise = calls_rise meaning script lawful (last.front ++ x ∷ []) [] (o ++ core.future) (place
            ∙ ap (λ l. l ++ (o ++ core.future)) last.turns) in
            let less = before_last (λ t u. call_of t ≤ call_of u) last.front x rise in
            let f = last.finished in
            subst (AllByRecursion P) (sym last.turns)
            (all_append P last.front (x ∷ []) (all_map (λ t. call_of t ≤ call_of x) P (λ t l h. omega (arith, l, f))
            last.front less) ((λ h. omega (arith, f)), tt))
      ] in
      subst (AllByRecursion P) (sym k.traced.past) (all_append P (joined (turns_of (handed core))) o front_part
      open_part)

  -- where the chunks taken finish as much as all, they are all
  pub all_taken : last_finished (handed core) ≤ last_finished core.taken → later core ≡ []
  all_taken low = elim (from_behind (later core)) [
    | inl none ↦ none
    | inr r ↦
        let ss = core.taken ++ r.0 in
        let e : handed core ≡ ss ++ r.1 ∷ [] = ap (λ l. core.taken ++ l) r.2
        ∙ sym (append_assoc core.taken r.0 (r.1 ∷ [])) in
        let some : AllByRecursion (λ l. l ≡ [] → ⊥) (turns_of ss ++ r.1.turns ∷ []) =
        subst (AllByRecursion (λ l. l ≡ [] → ⊥)) (ap turns_of e ∙ turns_of-append ss (r.1 ∷ [])) filled in
        let here = (all_back (λ l. l ≡ [] → ⊥) (turns_of ss) (r.1.turns ∷ []) some).0 in
        let last = last_at ss r.1 e in
        elim (from_behind r.1.turns) [
          | inl none ↦ absurd (here none)
          | inr w ↦
              let jt = joined (turns_of core.taken) in
              let mid = joined (turns_of r.0) ++ w.0 in
              let x = w.1 in
              let line : joined (turns_of (handed core)) ≡ jt ++ (mid ++ x ∷ []) =
              ap (λ l. joined (turns_of l)) e ∙ joined_last ss r.1
              ∙ ap (λ l. l ++ r.1.turns) (joined_append core.taken r.0)
              ∙ append_assoc jt (joined (turns_of r.0)) r.1.turns
              ∙ ap (λ l. jt ++ (joined (turns_of r.0) ++ l)) w.2
              ∙ ap (λ l. jt ++ l) (sym (append_assoc (joined (turns_of r.0)) w.0 (x ∷ []))) in
              let all : script.turns ≡ jt ++ (mid ++ x ∷ (o ++ core.future)) =
              place ∙ ap (λ l. l ++ (o ++ core.future)) line ∙ append_assoc jt (mid ++ x ∷ []) (o ++ core.future)
              ∙ ap (λ l. jt ++ l) (append_assoc mid (x ∷ []) (o ++ core.future)) in
              let less = after_segments meaning script lawful core.taken [] mid x (o ++ core.future) all in
              let ends = ends_there (jt ++ mid) x (all ∙ sym (append_assoc jt mid (x ∷ (o ++ core.future)))) in
              let f : last_finished (handed core) ≡ call_of x =
              ap last_finished e ∙ finished_last ss r.1 ∙ ap last_call w.2 ∙ last_call_behind w.0 x
              ∙ ap (λ c. cond c (call_of x) (call_of x - 1)) ends in
              absurd (omega (arith, less, f, low))
        ]
  ]

-- Uses --------------------------------------------------------------------------------------------------------------

binds_entry : (r : ℕ) (t : Turn) → binds_buffer r (bound_by t) ≡ true → is_entry t ≡ true
binds_entry r (Refused call) h = absurd (cc h)
binds_entry r (Passed call) h = absurd (cc h)
binds_entry r (Flushed call) h = absurd (cc h)
binds_entry r (Asked call ask used may_pend) h = absurd (cc h)
binds_entry r (Item call item ends play bound) h = refl

ends_entry : (q : ℕ) (t : Turn) → ends_query q t ≡ true → is_entry t ≡ true
ends_entry q (Refused call) h = absurd (cc h)
ends_entry q (Passed call) h = absurd (cc h)
ends_entry q (Flushed call) h = absurd (cc h)
ends_entry q (Asked call ask used may_pend) h = absurd (cc h)
ends_entry q (Item call item ends play bound) h = refl

-- a call that some of the turns has as its last use is below what all their items are
abbrev Below : ℕ → Turn → Type 0
Below d t = is_entry t ≡ true → call_of t ≤ d

pub binding_below : (d r : ℕ) (ts : List Turn) (found : Option ℕ) → AllByRecursion (Below d) ts
    → ((u : ℕ) → found ≡ Some u → u ≤ d) → (u : ℕ) → last_binding r ts found ≡ Some u → u ≤ d
binding_below d r [] found h f u e = f u e
binding_below d r (t ∷ ts) found h f u e = by (binds_buffer r (bound_by t)) refl e
    (λ g n e. binding_below d r ts g h.1 n u e)
  where
    by : (c : Bool) → binds_buffer r (bound_by t) ≡ c → last_binding r ts (cond c (Some (call_of t)) found) ≡ Some u
        → ((g : Option ℕ) → ((u : ℕ) → g ≡ Some u → u ≤ d) → last_binding r ts g ≡ Some u → u ≤ d) → u ≤ d
    by true b e rec = rec (Some (call_of t)) (λ v s. let l = h.0 (binds_entry r t b) in let z : call_of t ≡ v =
        cc s in omega (arith, l, z)) e
    by false b e rec = rec found f e

pub end_below : (d q : ℕ) (ts : List Turn) (found : Option ℕ) → AllByRecursion (Below d) ts
    → ((u : ℕ) → found ≡ Some u → u ≤ d) → (u : ℕ) → last_end q ts found ≡ Some u → u ≤ d
end_below d q [] found h f u e = f u e
end_below d q (t ∷ ts) found h f u e = by (ends_query q t) refl e (λ g n e. end_below d q ts g h.1 n u e)
  where
    by : (c : Bool) → ends_query q t ≡ c → last_end q ts (cond c (Some (call_of t)) found) ≡ Some u
        → ((g : Option ℕ) → ((u : ℕ) → g ≡ Some u → u ≤ d) → last_end q ts g ≡ Some u → u ≤ d) → u ≤ d
    by true b e rec = rec (Some (call_of t)) (λ v s. let l = h.0 (ends_entry q t b) in let z : call_of t ≡ v =
        cc s in omega (arith, l, z)) e
    by false b e rec = rec found f e

pub item_below : (d n : ℕ) (ts : List Turn) → AllByRecursion (Below d) ts → list_any (is_item_of n) ts ≡ true → n ≤ d
item_below d n [] h a = absurd (cc a)
item_below d n (t ∷ ts) h a = elim (or_cases (is_item_of n t) (list_any (is_item_of n) ts) a) [
  | inl x ↦ one t h.0 x
  | inr x ↦ item_below d n ts h.1 x
]
  where
    one : (t : Turn) → Below d t → is_item_of n t ≡ true → n ≤ d
    one (Refused call) h x = absurd (cc x)
    one (Passed call) h x = absurd (cc x)
    one (Flushed call) h x = absurd (cc x)
    one (Asked call ask used may_pend) h x = absurd (cc x)
    one (Item call item ends play bound) h x = let l = h refl in let e = eqb-true call n x in omega (arith, l, e)
