-- The places of ready commands, and the steps at them.
use Rattle.std.proofs.Common.{◌≡◌, ℕ, zero, suc, ◌+◌, ◌-◌, ◌<◌, ◌≤◌, Bool, true, false, cond, ◌&&◌, ◌||◌, List, [], ◌∷◌, ◌++◌, length, take, drop, get_or, set, Some, None, refl, sym, ap, subst, ◌∙◌, inl, inr, append_assoc, append-nil, arith}
use Rattle.std.specs.Prelude.{slice_get, nat_lt}
use Rattle.std.specs.List.{list_any}
use Rattle.std.proofs.lemmas.Bool.{cases_Bool, cases_lt, or_parts, lt-ltb, le-ltb}
use Rattle.std.proofs.lemmas.List.{drop_more, take_more, take-append-drop, length-take-le, drop_all}
use Rattle.vk_types.specs.declared.op.VkOp.TheVariants as op
use Rattle.command_queue.specs.declared.queue.Listed.{Listed}
use Rattle.command_queue.specs.Readiness.{is_command, is_left, is_ready, ready_behind, ready_places}
use Rattle.command_queue.specs.Left.{ran_one, marked}
use Rattle.command_queue.proofs.Sets.{not_ready_op}

abbrev pub no_step : Listed
no_step = record { op = op.Submit 0; ran = false }

-- What is not left is not ready ---------------------------------------------------------------------------------------------

pub ready_none : (front xs ys : List Listed) → list_any is_left xs ≡ false → ready_behind front (xs ++ ys) ≡ ready_behind (front ++ xs) ys
ready_none front [] ys e = ap (λ l. ready_behind l ys) (sym (append-nil front))
ready_none front (x ∷ xs) ys e =
    let p = or_parts (is_left x) (list_any is_left xs) e in
    ap (λ b. cond b (length front ∷ ready_behind (front ++ x ∷ []) (xs ++ ys)) (ready_behind (front ++ x ∷ []) (xs ++ ys))) (not_ready_op front x.op x.ran p.0)
    ∙ ready_none (front ++ x ∷ []) xs ys p.1 ∙ ap (λ l. ready_behind l ys) (append_assoc front (x ∷ []) xs)

-- The pass -------------------------------------------------------------------------------------------------------------------

-- what is still to come of the pass decides the answer
pub record Passes (steps : List Listed) (j at behind : ℕ) : Type 0 where
  pub same : slice_get (ready_places steps) j ≡ slice_get (ready_behind (take at steps) (drop at steps)) behind

pub passes_first : (steps : List Listed) (j first : ℕ) → list_any is_left (take first steps) ≡ false → Passes steps j first j
passes_first steps j first e = record {
  same = ap (λ l. slice_get (ready_behind [] l) j) (sym (take-append-drop first steps)) ∙ ap (λ l. slice_get l j) (ready_none [] (take first steps) (drop first steps) e);
}

module _ (steps : List Listed) (j at behind : ℕ) (d : Listed) (lt : at < length steps) (h : Passes steps j at behind) where
  abbrev here : Listed
  here = get_or steps at d

  abbrev rest : List ℕ
  rest = ready_behind (take (at + 1) steps) (drop (at + 1) steps)

  open_up : slice_get (ready_places steps) j ≡ slice_get (cond (is_ready (take at steps) here) (length (take at steps) ∷ rest) rest) behind
  open_up =
      h.same ∙ ap (λ l. slice_get (ready_behind (take at steps) l) behind) (drop_more steps at d lt)
      ∙ ap (λ l. slice_get (cond (is_ready (take at steps) here) (length (take at steps) ∷ ready_behind l (drop (at + 1) steps)) (ready_behind l (drop (at + 1) steps))) behind) (sym (take_more steps at d lt))

  taken_length : length (take at steps) ≡ at
  taken_length = length-take-le at steps (omega (arith, lt))

  pub pass_found : is_ready (take at steps) here ≡ true → behind ≡ 0 → slice_get (ready_places steps) j ≡ Some at
  pass_found r z =
      open_up ∙ ap (λ b. slice_get (cond b (length (take at steps) ∷ rest) rest) behind) r ∙ ap (λ n. slice_get (length (take at steps) ∷ rest) n) z ∙ ap Some taken_length

  pub pass_ready : is_ready (take at steps) here ≡ true → (behind ≡ 0 → ⊥) → Passes steps j (at + 1) (behind - 1)
  pass_ready r some = record { same = open_up ∙ ap (λ b. slice_get (cond b (length (take at steps) ∷ rest) rest) behind) r ∙ less behind some }
    where
      less : (n : ℕ) → (n ≡ 0 → ⊥) → slice_get (length (take at steps) ∷ rest) n ≡ slice_get rest (n - 1)
      less zero ne = absurd (ne refl)
      less (suc n) ne = ap (slice_get rest) (let e : n ≡ suc n - 1 = omega arith in e)

  pub pass_other : is_ready (take at steps) here ≡ false → Passes steps j (at + 1) behind
  pass_other r = record { same = open_up ∙ ap (λ b. slice_get (cond b (length (take at steps) ∷ rest) rest) behind) r }

pub pass_end : (steps : List Listed) (j at behind : ℕ) → length steps ≤ at → Passes steps j at behind → slice_get (ready_places steps) j ≡ None
pass_end steps j at behind le h = h.same ∙ ap (λ l. slice_get (ready_behind (take at steps) l) behind) (drop_all at steps le)

-- The step at a ready place ---------------------------------------------------------------------------------------------------

pub record ReadyAt (steps : List Listed) (at : ℕ) : Type 0 where
  pub front : List Listed
  pub step : Listed
  pub back : List Listed
  pub split : steps ≡ front ++ step ∷ back
  pub place : at ≡ length front
  pub ready : is_ready front step ≡ true

found : (front : List Listed) (x : Listed) (xs : List Listed) (place j : ℕ) → is_ready front x ≡ true
    → slice_get (length front ∷ ready_behind (front ++ x ∷ []) xs) j ≡ Some place
    → ((k : ℕ) → slice_get (ready_behind (front ++ x ∷ []) xs) k ≡ Some place → ReadyAt (front ++ x ∷ xs) place) → ReadyAt (front ++ x ∷ xs) place
found front x xs place zero r e later = record { front = front; step = x; back = xs; split = refl; place = (let z : place ≡ length front = cc e in z); ready = r }
found front x xs place (suc j) r e later = later j e

abbrev no_places : List ℕ
no_places = []

none_there : (place j : ℕ) → slice_get no_places j ≡ Some place → ⊥
none_there place zero e = cc e
none_there place (suc j) e = cc e

ready_split : (front xs : List Listed) (j place : ℕ) → slice_get (ready_behind front xs) j ≡ Some place → ReadyAt (front ++ xs) place
ready_split front [] j place e = absurd (none_there place j e)
ready_split front (x ∷ xs) j place e =
    let later : (k : ℕ) → slice_get (ready_behind (front ++ x ∷ []) xs) k ≡ Some place → ReadyAt (front ++ x ∷ xs) place =
    λ k f. subst (λ l. ReadyAt l place) (append_assoc front (x ∷ []) xs) (ready_split (front ++ x ∷ []) xs k place f) in
    elim (cases_Bool (is_ready front x)) [
      | inl r ↦ found front x xs place j r (sym (ap (λ b. slice_get (cond b (length front ∷ ready_behind (front ++ x ∷ []) xs) (ready_behind (front ++ x ∷ []) xs)) j) r) ∙ e) later
      | inr f ↦ later j (sym (ap (λ b. slice_get (cond b (length front ∷ ready_behind (front ++ x ∷ []) xs) (ready_behind (front ++ x ∷ []) xs)) j) f) ∙ e)
    ]

pub ready_at : (steps : List Listed) (j place : ℕ) → slice_get (ready_places steps) j ≡ Some place → ReadyAt steps place
ready_at steps j place e = ready_split [] steps j place e

pub get_at : (front : List Listed) (s : Listed) (back : List Listed) → slice_get (front ++ s ∷ back) (length front) ≡ Some s
get_at [] s back = refl
get_at (f ∷ fs) s back = get_at fs s back

pub marked_at : (front : List Listed) (s : Listed) (back : List Listed) → marked (length front) (front ++ s ∷ back) ≡ front ++ ran_one s ∷ back
marked_at [] s back = refl
marked_at (f ∷ fs) s back = ap (λ l. f ∷ l) (marked_at fs s back)

-- a write in place
pub marked_set : (steps : List Listed) (place : ℕ) (d : Listed) → place < length steps → set steps place (ran_one (get_or steps place d)) ≡ marked place steps
marked_set [] place d lt = absurd (omega (arith, lt))
marked_set (s ∷ ss) zero d lt = refl
marked_set (s ∷ ss) (suc place) d lt = ap (λ l. s ∷ l) (marked_set ss place d (omega (arith, lt)))

pub length-marked : (place : ℕ) (steps : List Listed) → length (marked place steps) ≡ length steps
length-marked place [] = refl
length-marked zero (s ∷ ss) = refl
length-marked (suc place) (s ∷ ss) = ap suc (length-marked place ss)

-- marking leaves nothing more
pub marked_left : (place n : ℕ) (steps : List Listed) → list_any is_left (take n steps) ≡ false → list_any is_left (take n (marked place steps)) ≡ false
marked_left place zero steps e = refl
marked_left place (suc n) [] e = e
marked_left zero (suc n) (s ∷ ss) e =
    let p = or_parts (is_left s) (list_any is_left (take n ss)) e in
    ap (λ v. v || list_any is_left (take n ss)) (ran (is_command s.op)) ∙ p.1
  where
    ran : (b : Bool) → (b && false) ≡ false
    ran true = refl
    ran false = refl
marked_left (suc place) (suc n) (s ∷ ss) e =
    let p = or_parts (is_left s) (list_any is_left (take n ss)) e in
    ap (λ v. v || list_any is_left (take n (marked place ss))) p.0 ∙ marked_left place n ss p.1

-- The first that is left ----------------------------------------------------------------------------------------------------------

pub any_more : (xs : List Listed) (n : ℕ) (d : Listed) → n < length xs → is_left (get_or xs n d) ≡ false → list_any is_left (take n xs) ≡ false
    → list_any is_left (take (n + 1) xs) ≡ false
any_more xs n d lt here before =
    ap (list_any is_left) (take_more xs n d lt) ∙ push (take n xs) before
  where
    push : (ys : List Listed) → list_any is_left ys ≡ false → list_any is_left (ys ++ get_or xs n d ∷ []) ≡ false
    push [] e = ap (λ v. v || false) here
    push (y ∷ ys) e =
        let p = or_parts (is_left y) (list_any is_left ys) e in
        ap (λ v. v || list_any is_left (ys ++ get_or xs n d ∷ [])) p.0 ∙ push ys p.1

-- one is left among so many exactly where the first that is left comes before
pub any_upto : (xs : List Listed) (first count : ℕ) → list_any is_left (take first xs) ≡ false
    → ((d : Listed) → first < length xs → is_left (get_or xs first d) ≡ true)
    → (nat_lt first count && nat_lt first (length xs)) ≡ list_any is_left (take count xs)
any_upto [] first zero none left = ap (λ v. v && nat_lt first 0) (le-ltb first 0 (omega arith))
any_upto [] first (suc count) none left = ap (λ v. nat_lt first (suc count) && v) (le-ltb first 0 (omega arith)) ∙ all_false (nat_lt first (suc count))
  where
    all_false : (b : Bool) → (b && false) ≡ false
    all_false true = refl
    all_false false = refl
any_upto (x ∷ xs) first zero none left = ap (λ v. v && nat_lt first (length (x ∷ xs))) (le-ltb first 0 (omega arith))
any_upto (x ∷ xs) zero (suc count) none left =
    ap (λ v. v && nat_lt 0 (length (x ∷ xs))) (lt-ltb 0 (suc count) (omega arith)) ∙ lt-ltb 0 (length (x ∷ xs)) (omega arith)
    ∙ sym (ap (λ v. v || list_any is_left (take count xs)) (left x (omega arith)))
any_upto (x ∷ xs) (suc first) (suc count) none left =
    let p = or_parts (is_left x) (list_any is_left (take first xs)) none in
    ap (λ v. v && nat_lt (suc first) (length (x ∷ xs))) (less first count) ∙ ap (λ v. nat_lt first count && v) (less first (length xs))
    ∙ any_upto xs first count p.1 (λ d lt. left d (omega (arith, lt))) ∙ sym (ap (λ v. v || list_any is_left (take count xs)) p.0)
  where
    less : (a b : ℕ) → nat_lt (suc a) (suc b) ≡ nat_lt a b
    less a b = elim (cases_lt a b) [
      | inl l ↦ lt-ltb (suc a) (suc b) (omega (arith, l)) ∙ sym (lt-ltb a b l)
      | inr g ↦ le-ltb (suc a) (suc b) (omega (arith, g)) ∙ sym (le-ltb a b g)
    ]

-- the oldest goes
pub left_popped : (xs : List Listed) (first : ℕ) → first ≤ length xs → list_any is_left (take first xs) ≡ false
    → (first - 1 ≤ length (drop 1 xs)) × (list_any is_left (take (first - 1) (drop 1 xs)) ≡ false)
left_popped [] first le none = (omega (arith, le), nothing (first - 1))
  where
    nothing : (n : ℕ) → list_any is_left (take n []) ≡ false
    nothing zero = refl
    nothing (suc n) = refl
left_popped (x ∷ xs) zero le none = (omega arith, refl)
left_popped (x ∷ xs) (suc first) le none =
    let p = or_parts (is_left x) (list_any is_left (take first xs)) none in
    (omega (arith, le), ap (λ n. list_any is_left (take n xs)) (let e : suc first - 1 ≡ first = omega arith in e) ∙ p.1)
