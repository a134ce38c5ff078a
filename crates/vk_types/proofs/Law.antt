-- All orders that a covered listing allows end alike.
use Rattle.std.proofs.Common.{◌≡◌, ℕ, suc, ◌+◌, ◌<◌, ◌≤◌, Bool, true, false, cond, not, ◌&&◌, ◌||◌, ◌==◌, nat_lt, List, [], ◌∷◌, refl, sym, ap, ◌∙◌, subst, inl, inr, Option, Some, None, arith, slice_get, length, take}
use mathlib.Core.Path.{fun_ext}
use Rattle.std.specs.List.{AllByRecursion}
use Rattle.std.proofs.lemmas.Bool.{and_from, both_ways, cases_Bool, eqb-true, ltb-true, lt-ltb}
use Rattle.dx_types.specs.declared.range.Range.{Range}
use Rattle.vk_types.specs.declared.touch.Touch.{Touch}
use Rattle.vk_types.specs.declared.op.VkOp.{VkOp}
use Rattle.vk_types.specs.declared.op.VkOp.TheVariants as op
use Rattle.base_lemmas.specs.Lists.{Pairwise, IsReordering}
use Rattle.vk_types.specs.Memory.{Memory, byte_of}
use Rattle.vk_types.specs.Hazards.{is_touched, lists_conflict}
use Rattle.vk_types.specs.Effects.{Meaning, Act, Host_write, Device, Host_read, act_touches, act_effect, host_source}
use Rattle.vk_types.specs.Listing.{is_act, act_places, acts, op_touches, touches_if, touches_at, op_act, act_of, act_at, written_ranges}
use Rattle.vk_types.specs.Before.{before}
use Rattle.vk_types.specs.Covered.{visible_at, is_hazard, Covered, OrdersHazards}
use Rattle.vk_types.specs.Allowed.{World, answered, happens, run_places, empty_world, outcome, IsAllowed, Keeps}
use Rattle.vk_types.proofs.Local.{covered, not_written, not_written_back}
use Rattle.vk_types.proofs.Acts.{act_local, acts_exchange}
use Rattle.base_lemmas.proofs.Lists.{all_map}
use Rattle.vk_types.proofs.Reorder.{run_steps, orders_agree, Commute}

-- What the host reads -----------------------------------------------------------------------------------------------------

-- the bytes of a range that the first list touches, an act that doesn't conflict leaves
read_kept : (meaning : Meaning) (ts : List Touch) (r : Range) → ((i : ℕ) → r.from ≤ i → i < r.to → is_touched ts r.block i ≡ true)
    → (b : Act) → ((block i : ℕ) → is_touched ts block i ≡ true → (m : Memory) → act_effect meaning b m block i ≡ m block i)
    → (m : Memory) → byte_of (act_effect meaning b m) r ≡ byte_of m r
read_kept meaning ts r inside b kept m = fun_ext (λ k.
    elim (cases_Bool (nat_lt (r.from + k) r.to)) [
      | inl t ↦ ap (λ v. cond (nat_lt (r.from + k) r.to) v 0) (kept r.block (r.from + k) (inside (r.from + k) (omega arith) (ltb-true (r.from + k) r.to t)) m)
      | inr f ↦ ap (λ c. cond c (act_effect meaning b m r.block (r.from + k)) 0) f ∙ sym (ap (λ c. cond c (m r.block (r.from + k)) 0) f)
    ])

source_inside : (a : Act) (r : Range) → host_source a ≡ Some r → (i : ℕ) → r.from ≤ i → i < r.to → is_touched (act_touches a) r.block i ≡ true
source_inside (Host_write target bytes) r e i l h = absurd (cc e)
source_inside (Device command) r e i l h = absurd (cc e)
source_inside (Host_read source) r e i l h =
    let s : source ≡ r = cc e in
    subst (λ s. is_touched (act_touches (Host_read s)) r.block i ≡ true) (sym s) (ap (λ v. v || false) (covered r r.block i refl l h))

source_kept : (meaning : Meaning) (a b : Act) (r : Range) → host_source a ≡ Some r → lists_conflict (act_touches a) (act_touches b) ≡ false → (m : Memory)
    → byte_of (act_effect meaning b m) r ≡ byte_of m r
source_kept meaning a b r e free m =
    read_kept meaning (act_touches a) r (source_inside a r e) b
    (λ block i t m. (act_local meaning b).keeps m block i (not_written (act_touches a) (act_touches b) free block i t)) m

source_kept_back : (meaning : Meaning) (a b : Act) (r : Range) → host_source b ≡ Some r → lists_conflict (act_touches a) (act_touches b) ≡ false → (m : Memory)
    → byte_of (act_effect meaning a m) r ≡ byte_of m r
source_kept_back meaning a b r e free m =
    read_kept meaning (act_touches b) r (source_inside b r e) a
    (λ block i t m. (act_local meaning a).keeps m block i (not_written_back (act_touches a) (act_touches b) free block i t)) m

-- the answers at two places may be given in either order
answered_either : (p q : ℕ) → (p ≡ q → ⊥) → (x y : ℕ → ℕ) (answers : ℕ → ℕ → ℕ) (k : ℕ)
    → cond (k == p) x (cond (k == q) y (answers k)) ≡ cond (k == q) y (cond (k == p) x (answers k))
answered_either p q ne x y answers k =
    elim (cases_Bool (k == p)) [
      | inl kp ↦ elim (cases_Bool (k == q)) [
        | inl kq ↦ absurd (ne (sym (eqb-true k p kp) ∙ eqb-true k q kq))
        | inr kq ↦ ap (λ c. cond c x (cond (k == q) y (answers k))) kp ∙ sym (ap (λ c. cond c y (cond (k == p) x (answers k))) kq ∙ ap (λ c. cond c x (answers k)) kp)
      ]
      | inr kp ↦ ap (λ c. cond c x (cond (k == q) y (answers k))) kp ∙ ap (λ v. cond (k == q) y v) (sym (ap (λ c. cond c x (answers k)) kp))
    ]

answers_either : (meaning : Meaning) (p q : ℕ) → (p ≡ q → ⊥) → (a b : Act) → lists_conflict (act_touches a) (act_touches b) ≡ false → (m : Memory) (answers : ℕ → ℕ → ℕ)
    → (o o' : Option Range) → host_source a ≡ o → host_source b ≡ o'
    → answered p o (act_effect meaning b m) (answered q o' m answers) ≡ answered q o' (act_effect meaning a m) (answered p o m answers)
answers_either meaning p q ne a b free m answers None None e e' = refl
answers_either meaning p q ne a b free m answers None (Some s) e e' = ap (λ v. λ k. cond (k == q) v (answers k)) (sym (source_kept_back meaning a b s e' free m))
answers_either meaning p q ne a b free m answers (Some r) None e e' = ap (λ v. λ k. cond (k == p) v (answers k)) (source_kept meaning a b r e free m)
answers_either meaning p q ne a b free m answers (Some r) (Some s) e e' =
    ap (λ v. λ k. cond (k == p) v (cond (k == q) (byte_of m s) (answers k))) (source_kept meaning a b r e free m)
    ∙ fun_ext (λ k. answered_either p q ne (byte_of m r) (byte_of m s) answers k)
    ∙ ap (λ v. λ k. cond (k == q) v (cond (k == p) (byte_of m r) (answers k))) (sym (source_kept_back meaning a b s e' free m))

world_path : (m n : Memory) (x y : ℕ → ℕ → ℕ) → m ≡ n → x ≡ y → let v : World = record { memory = m; answers = x } in let w : World = record { memory = n; answers = y } in v ≡ w
world_path m n x y e f = λ i. record { memory = e i; answers = f i }

-- Places ----------------------------------------------------------------------------------------------------------------------

abbrev touches_of : Option Act → List Touch
touches_of None = []
touches_of (Some a) = act_touches a

places_either : (meaning : Meaning) (p q : ℕ) → (p ≡ q → ⊥) → (o o' : Option Act) → lists_conflict (touches_of o) (touches_of o') ≡ false → (w : World)
    → happens meaning p o (happens meaning q o' w) ≡ happens meaning q o' (happens meaning p o w)
places_either meaning p q ne None o' free w = refl
places_either meaning p q ne (Some a) None free w = refl
places_either meaning p q ne (Some a) (Some b) free w =
    world_path _ _ _ _ (acts_exchange meaning a b free w.memory) (answers_either meaning p q ne a b free w.memory w.answers (host_source a) (host_source b) refl refl)

touches_same : (contents : List (List ℕ)) (n : ℕ) (o : VkOp) → touches_of (op_act contents n o) ≡ op_touches o
touches_same contents n (op.HostWrite r call) = refl
touches_same contents n (op.Pipeline shader) = refl
touches_same contents n (op.Barrier barrier) = refl
touches_same contents n (op.Command command) = refl
touches_same contents n (op.Submit k) = refl
touches_same contents n (op.Fence k) = refl
touches_same contents n (op.HostRead r call) = refl

touches_there : (contents : List (List ℕ)) (n : ℕ) (o : Option VkOp) → touches_of (act_of contents n o) ≡ touches_if o
touches_there contents n None = refl
touches_there contents n (Some o) = touches_same contents n o

-- the places of acts rise
places_from : (at : ℕ) (ops : List VkOp) → AllByRecursion (λ q. at ≤ q) (act_places at ops)
places_from at [] = tt
places_from at (o ∷ ops) =
    let later : AllByRecursion (λ q. at ≤ q) (act_places (suc at) ops) =
    all_map (λ q. suc at ≤ q) (λ q. at ≤ q) (λ q l. omega (arith, l)) (act_places (suc at) ops) (places_from (suc at) ops) in
    elim (cases_Bool (is_act o)) [
      | inl t ↦ subst (λ c. AllByRecursion (λ q. at ≤ q) (cond c (at ∷ act_places (suc at) ops) (act_places (suc at) ops))) (sym t) ((let z : at ≤ at = omega arith in z), later)
      | inr f ↦ subst (λ c. AllByRecursion (λ q. at ≤ q) (cond c (at ∷ act_places (suc at) ops) (act_places (suc at) ops))) (sym f) later
    ]

places_rise : (at : ℕ) (ops : List VkOp) → Pairwise (λ p q. p < q) (act_places at ops)
places_rise at [] = tt
places_rise at (o ∷ ops) =
    let later = places_rise (suc at) ops in
    let above : AllByRecursion (λ q. at < q) (act_places (suc at) ops) =
    all_map (λ q. suc at ≤ q) (λ q. at < q) (λ q l. omega (arith, l)) (act_places (suc at) ops) (places_from (suc at) ops) in
    elim (cases_Bool (is_act o)) [
      | inl t ↦ subst (λ c. Pairwise (λ p q. p < q) (cond c (at ∷ act_places (suc at) ops) (act_places (suc at) ops))) (sym t) (above, later)
      | inr f ↦ subst (λ c. Pairwise (λ p q. p < q) (cond c (at ∷ act_places (suc at) ops) (act_places (suc at) ops))) (sym f) later
    ]

module _ (meaning : Meaning) (contents : List (List ℕ)) (ops : List VkOp) (ordered : ℕ → ℕ → Bool) (all : OrdersHazards ordered ops) where
  abbrev step : ℕ → World → World
  step p w = happens meaning p (act_at contents ops p) w

  unordered : (p q : ℕ) → p < q → ordered p q ≡ false → Commute step p q
  unordered p q lt n w =
      elim (cases_Bool (lists_conflict (touches_at ops p) (touches_at ops q))) [
        | inl c ↦ absurd (both_ways (ordered p q) n (all p q (and_from (nat_lt p q) (lists_conflict (touches_at ops p) (touches_at ops q)) (lt-ltb p q lt) c)))
        | inr free ↦ places_either meaning p q (λ e. let z : ⊥ = omega (arith, e, lt) in z) (act_at contents ops p) (act_at contents ops q)
            (ap (λ ts. lists_conflict ts (touches_of (act_at contents ops q))) (touches_there contents (length (written_ranges (take p ops))) (slice_get ops p))
            ∙ ap (λ ts. lists_conflict (touches_at ops p) ts) (touches_there contents (length (written_ranges (take q ops))) (slice_get ops q))
            ∙ free)
            w
      ]

  all_unordered : (p : ℕ) (qs : List ℕ) → AllByRecursion (λ q. p < q) qs → AllByRecursion (λ q. ordered p q ≡ false → Commute step p q) qs
  all_unordered p [] h = tt
  all_unordered p (q ∷ qs) h = (unordered p q h.0, all_unordered p qs h.1)

  pairs_unordered : (ps : List ℕ) → Pairwise (λ p q. p < q) ps → Pairwise (λ p q. ordered p q ≡ false → Commute step p q) ps
  pairs_unordered [] h = tt
  pairs_unordered (p ∷ ps) h = (all_unordered p ps h.0, pairs_unordered ps h.1)

  run_is : (ps : List ℕ) (w : World) → run_places meaning (act_at contents ops) ps w ≡ run_steps step ps w
  run_is [] w = refl
  run_is (p ∷ ps) w = run_is ps (step p w)

  -- each order that keeps a relation by which hazards are ordered leaves the memory, and gives the host the bytes, that
  -- the listing's own order does
  pub law_of_orders : (order : List ℕ) → IsReordering (acts ops) order → Keeps ordered order
      → outcome meaning contents ops order ≡ outcome meaning contents ops (acts ops)
  law_of_orders order same keeps =
      run_is order empty_world
      ∙ orders_agree step ordered (acts ops) order (pairs_unordered (acts ops) (places_rise 0 ops)) same keeps empty_world
      ∙ sym (run_is (acts ops) empty_world)

-- a covered listing orders its hazards
pub covered_orders : (ops : List VkOp) → Covered ops → OrdersHazards (before ops) ops
covered_orders ops all x y h = first_of (before ops x y) (visible_at ops x y) (second_of (is_hazard ops x y) (before ops x y && visible_at ops x y) h (all x y))
  where
    second_of : (a b : Bool) → a ≡ true → (a && not b) ≡ false → b ≡ true
    second_of true true e h = refl
    second_of true false e h = absurd (cc h)
    second_of false b e h = absurd (cc e)

    first_of : (a b : Bool) → (a && b) ≡ true → a ≡ true
    first_of true b e = refl
    first_of false b e = absurd (cc e)

pub law_of_covered : (meaning : Meaning) (contents : List (List ℕ)) (ops : List VkOp) → Covered ops → (order : List ℕ) → IsAllowed ops order
    → outcome meaning contents ops order ≡ outcome meaning contents ops (acts ops)
law_of_covered meaning contents ops all order h = law_of_orders meaning contents ops (before ops) (covered_orders ops all) order h.0 h.1

-- an order that keeps a relation by which hazards are ordered keeps each hazard
pub hazards_kept : (ops : List VkOp) (ordered : ℕ → ℕ → Bool) → OrdersHazards ordered ops → (order : List ℕ) → Keeps ordered order → Keeps (is_hazard ops) order
hazards_kept ops ordered all order keeps = pairs order keeps
  where
    one : (x y : ℕ) → ordered y x ≡ false → is_hazard ops y x ≡ false
    one x y n = elim (cases_Bool (is_hazard ops y x)) [ inl h ↦ absurd (both_ways (ordered y x) n (all y x h)) | inr f ↦ f ]

    pairs : (ps : List ℕ) → Keeps ordered ps → Keeps (is_hazard ops) ps
    pairs [] k = tt
    pairs (p ∷ ps) k = (all_map (λ q. ordered q p ≡ false) (λ q. is_hazard ops q p ≡ false) (λ q. one p q) ps k.0, pairs ps k.1)
