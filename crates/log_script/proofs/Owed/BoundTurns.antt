-- Behind the turns of the first calls, the last use of each live buffer and its bound bytes are those of the past.
use Rattle.std.proofs.Common.{◌≡◌, ℕ, zero, suc, ◌<◌, Bool, true, false, ◌||◌, cond, List, [], ◌∷◌, ◌++◌, Option}
use Rattle.std.proofs.Common.{Some, None, refl, sym, ap, ◌∙◌, subst, inl, inr, arith}
use Rattle.std.specs.Prelude.{◌==◌, is_some, if◌then◌else◌}
use Rattle.std.specs.List.{list_any}
use Rattle.std.proofs.lemmas.Bool.{cases_eq, eq-eqb, ne_eqb}
use Rattle.dx_types.specs.declared.shape.Shape.{Shape}
use Rattle.call_log.specs.Call.{Issued}
use Rattle.base_lemmas.specs.IdMap.{get}
use Rattle.d3d_model.specs.Resource.{Buffers}
use Rattle.d3d_model.specs.Past.{Past, Makes, binds_some_of, is_bound, last_binding}
use Rattle.d3d_model.specs.InOrder.{after_calls}
use Rattle.base_lemmas.proofs.Maps.{get-empty}
use Rattle.d3d_model.proofs.Pasts.{last_binding_then}
use Rattle.core_model.specs.Script.{Create, Turn, Item}
use Rattle.core_model.specs.Chunking.{call_of}
use Rattle.core_model.specs.Owners.{in_ranges}
use Rattle.core_model.specs.Lawful as lawful
use Rattle.core_model.specs.Lawful.{resets, bound_by, binds_buffer}
use Rattle.log_script.specs.Makers.{maker}
use Rattle.log_script.specs.Turns.{turns_of}
use Rattle.log_script.specs.LogScript.{turns_upto}
use Rattle.log_script.proofs.Owed.BufferSteps.{maker_then}
use Rattle.log_script.proofs.Owed.BufferMakers.{all_made, some_of, one_maker}
use Rattle.log_script.proofs.Owed.LiveBuffers.{no_turns, next_turns}
use Rattle.log_script.proofs.Owed.BoundDeeds.{TellApart, MadeBy, byte, turns_last, turns_bytes, turns_later}
use Rattle.log_script.proofs.Owed.BoundSteps.{Acts, Comes, Next, next_at}

-- what is known behind the turns of the first n calls. None of them binds a buffer that is made later
pub record Known (n : ℕ) (b : Buffers) (past : Past) (ts : List Turn) : Type 0 where
  pub last : (id : ℕ) → is_some (get b id) ≡ true → lawful.last_binding (maker past id) ts None ≡ last_binding past id
  pub bytes : (id : ℕ) → is_some (get b id) ≡ true → (i : ℕ)
      → lawful.is_bound (maker past id) ts false i ≡ is_bound past (byte id i)
  pub later : (name : ℕ) → n < name → lawful.last_binding name ts None ≡ None

last_append : (name : ℕ) (ts us : List Turn) (found : Option ℕ)
    → lawful.last_binding name (ts ++ us) found ≡ lawful.last_binding name us (lawful.last_binding name ts found)
last_append name [] us found = refl
last_append name (t ∷ ts) us found =
    last_append name ts us (cond (binds_buffer name (bound_by t)) (Some (call_of t)) found)

pub bytes_append : (name : ℕ) (ts us : List Turn) (found : Bool) (i : ℕ)
    → lawful.is_bound name (ts ++ us) found i ≡ lawful.is_bound name us (lawful.is_bound name ts found i) i
bytes_append name [] us found i = refl
bytes_append name (t ∷ ts) us found i = bytes_append name ts us
    (cond (resets name t) false (found || in_ranges (bound_by t) name i)) i

or_false : (a : Bool) → a || false ≡ a
or_false true = refl
or_false false = refl

-- ---- deeds are done

known_acting : (n : ℕ) (b : Buffers) (past : Past) (b' : Buffers) (past' : Past) (ts us : List Turn)
    → TellApart b past → MadeBy n b past
    → Acts (suc n) b past b' past' us → Known n b past ts → Known (suc n) b' past' (ts ++ us)
known_acting n b past b' past' ts us apart made h k = record {
  last = λ id e.
      let lives = h.older id e in
      ap (λ (m : ℕ). lawful.last_binding m (ts ++ us) None) (same id)
      ∙ last_append (maker past id) ts us None
      ∙ turns_last (suc n) b past apart id lives us h.done h.does (lawful.last_binding (maker past id) ts None)
      ∙ ap (λ (o : Option ℕ). if list_any (binds_some_of id) h.done then Some (suc n) else o) (k.last id lives)
      ∙ sym (last_binding_then (suc n) past h.done id (h.makes_none id))
      ∙ ap (λ (p : Past). last_binding p id) (sym h.now);
  bytes = λ id e i.
      let lives = h.older id e in
      ap (λ (m : ℕ). lawful.is_bound m (ts ++ us) false i) (same id)
      ∙ bytes_append (maker past id) ts us false i
      ∙ turns_bytes (suc n) b past apart id lives i us h.done h.does past
      (lawful.is_bound (maker past id) ts false i) (k.bytes id lives i)
      ∙ ap (λ (p : Past). is_bound p (byte id i)) (sym h.now);
  later = λ name l.
      last_append name ts us None
      ∙ turns_later (suc n) n b past made name (omega (arith, l)) us h.done h.does (lawful.last_binding name ts None)
      ∙ k.later name (omega (arith, l));
}
  where
    same : (id : ℕ) → maker past' id ≡ maker past id
    same id = ap (λ (p : Past). maker p id) h.now ∙ maker_then (suc n) past h.done id (h.makes_none id)

-- ---- a buffer comes

maker_next : (n : ℕ) (past : Past) (own id : ℕ) → maker (record { call = n; deed = Makes own } ∷ past) id
    ≡ (if own == id then n else maker past id)
unfolding maker
maker_next n past own id = refl

last_next : (n : ℕ) (past : Past) (own id : ℕ) → last_binding (record { call = n; deed = Makes own } ∷ past) id
    ≡ (if own == id then None else last_binding past id)
unfolding last_binding
last_next n past own id = refl

bytes_next : (n : ℕ) (past : Past) (own id i : ℕ) → is_bound (record { call = n; deed = Makes own } ∷ past)
    (byte id i) ≡ (if own == id then false else is_bound past (byte id i))
unfolding is_bound
bytes_next n past own id i = by_test (own == id)
  where
    by_test : (t : Bool) → (if t || false then false else false || is_bound past (byte id i))
        ≡ (if t then false else is_bound past (byte id i))
    by_test true = refl
    by_test false = refl

known_coming : (n : ℕ) (b : Buffers) (past : Past) (b' : Buffers) (past' : Past) (ts us : List Turn) → MadeBy n b past
    → Comes (suc n) b past b' past' us → Known n b past ts → Known (suc n) b' past' (ts ++ us)
known_coming n b past b' past' ts us made h k = record {
  last = λ id e. elim (cases_eq h.id id) [
    | inl p ↦
        let new = eq-eqb h.id id p in
        last_of (maker past' id) ∙ ap (λ (m : ℕ). lawful.last_binding m ts None) (is_made id
        ∙ ap (λ t. if t then suc n else maker past id) new) ∙ k.later (suc n) (omega arith)
        ∙ sym (ap (λ (q : Past). last_binding q id) h.now ∙ last_next (suc n) past h.id id
        ∙ ap (λ t. if t then None else last_binding past id) new)
    | inr apart ↦
        let old = ne_eqb h.id id apart in
        let lives = h.older id (λ q. apart (sym q)) e in
        last_of (maker past' id) ∙ ap (λ (m : ℕ). lawful.last_binding m ts None) (is_made id
        ∙ ap (λ t. if t then suc n else maker past id) old) ∙ k.last id lives
        ∙ sym (ap (λ (q : Past). last_binding q id) h.now ∙ last_next (suc n) past h.id id
        ∙ ap (λ t. if t then None else last_binding past id) old)
  ];
  bytes = λ id e i. elim (cases_eq h.id id) [
    | inl p ↦
        let new = eq-eqb h.id id p in
        let here : maker past' id ≡ suc n = is_made id ∙ ap (λ t. if t then suc n else maker past id) new in
        bytes_of (maker past' id) i
        ∙ ap (λ t. cond t false (lawful.is_bound (maker past' id) ts false i || false))
        (eq-eqb (suc n) (maker past' id) (sym here))
        ∙ sym (ap (λ (q : Past). is_bound q (byte id i)) h.now ∙ bytes_next (suc n) past h.id id i
        ∙ ap (λ t. if t then false else is_bound past (byte id i)) new)
    | inr apart ↦
        let old = ne_eqb h.id id apart in
        let lives = h.older id (λ q. apart (sym q)) e in
        let here : maker past' id ≡ maker past id = is_made id ∙ ap (λ t. if t then suc n else maker past id) old in
        bytes_of (maker past' id) i
        ∙ ap (λ t. cond t false (lawful.is_bound (maker past' id) ts false i || false))
        (ne_eqb (suc n) (maker past' id) (λ q. absurd (omega (arith, q, here, made id lives))))
        ∙ or_false (lawful.is_bound (maker past' id) ts false i)
        ∙ ap (λ (m : ℕ). lawful.is_bound m ts false i) here
        ∙ k.bytes id lives i
        ∙ sym (ap (λ (q : Past). is_bound q (byte id i)) h.now ∙ bytes_next (suc n) past h.id id i
        ∙ ap (λ t. if t then false else is_bound past (byte id i)) old)
  ];
  later = λ name l. last_of name ∙ k.later name (omega (arith, l));
}
  where
    is_made : (id : ℕ) → maker past' id ≡ (if h.id == id then suc n else maker past id)
    is_made id = ap (λ (q : Past). maker q id) h.now ∙ maker_next (suc n) past h.id id

    -- its turn binds nothing
    last_of : (name : ℕ) → lawful.last_binding name (ts ++ us) None ≡ lawful.last_binding name ts None
    last_of name = ap (λ (l : List Turn). lawful.last_binding name (ts ++ l) None) h.turns
        ∙ last_append name ts (Item (suc n) (suc n) true (Create (suc n) h.bytes) [] ∷ []) None

    bytes_of : (name i : ℕ) → lawful.is_bound name (ts ++ us) false i
        ≡ cond (suc n == name) false (lawful.is_bound name ts false i || false)
    bytes_of name i = ap (λ (l : List Turn). lawful.is_bound name (ts ++ l) false i) h.turns
        ∙ bytes_append name ts (Item (suc n) (suc n) true (Create (suc n) h.bytes) [] ∷ []) false i

-- ---- all calls

pub tell_apart : (log : List Issued) (n : ℕ) → TellApart (after_calls log n).objects.buffers (after_calls log n).past
tell_apart log n res id e f =
    let b : Buffers = (after_calls log n).objects.buffers in
    let past : Past = (after_calls log n).past in
    elim (cases_eq res id) [
      | inl p ↦ eq-eqb (maker past res) (maker past id) (ap (λ (k : ℕ). maker past k) p) ∙ sym (eq-eqb res id p)
      | inr apart ↦ ne_eqb (maker past res) (maker past id) (λ q. apart
          (one_maker log n b past (all_made log n) res id e f q)) ∙ sym (ne_eqb res id apart)
    ]

made_by : (log : List Issued) (n : ℕ) → MadeBy n (after_calls log n).objects.buffers (after_calls log n).past
made_by log n id e = let s = some_of (get (after_calls log n).objects.buffers id) e in (all_made log n id s.0 s.1).last

known_next : (n : ℕ) (b : Buffers) (past : Past) (b' : Buffers) (past' : Past) (ts us : List Turn)
    → TellApart b past → MadeBy n b past
    → Next (suc n) b past b' past' us → Known n b past ts → Known (suc n) b' past' (ts ++ us)
known_next n b past b' past' ts us apart made (inl h) k = known_acting n b past b' past' ts us apart made h k
known_next n b past b' past' ts us apart made (inr h) k = known_coming n b past b' past' ts us made h k

none_lives : {A : Type 0} (o : Option Shape) → o ≡ None → is_some o ≡ true → A
none_lives None e f = absurd cc
none_lives (Some s) e f = absurd cc

known_start : (log : List Issued) → Known zero (after_calls log zero).objects.buffers (after_calls log zero).past []
unfolding after_calls
known_start log = record {
  last = λ id e. none_lives _ (get-empty Shape id) e;
  bytes = λ id e i. none_lives _ (get-empty Shape id) e;
  later = λ name l. refl;
}

pub known_at : (log : List Issued) (n : ℕ) → Known n (after_calls log n).objects.buffers (after_calls log n).past
    (turns_upto log n)
known_at log zero =
    subst (λ (l : List Turn). Known zero (after_calls log zero).objects.buffers (after_calls log zero).past l)
    (sym (no_turns log)) (known_start log)
known_at log (suc n) =
    subst (λ (l : List Turn). Known (suc n) (after_calls log (suc n)).objects.buffers (after_calls log (suc n)).past
    l) (sym (next_turns log n))
    (known_next n (after_calls log n).objects.buffers (after_calls log n).past
    (after_calls log (suc n)).objects.buffers (after_calls log (suc n)).past (turns_upto log n)
    (turns_of log (suc n))
    (tell_apart log n) (made_by log n) (next_at log n) (known_at log n))
