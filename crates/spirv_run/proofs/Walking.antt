-- The invocations of a dispatch, one after another.
use Rattle.std.proofs.Common.{◌≡◌, ℕ, zero, suc, ◌+◌, ◌*◌, ◌<◌, ◌≤◌, Some, None, Option, List, [], ◌∷◌, ◌++◌, length, refl, sym, ap, ◌∙◌, map, arith}
use Rattle.std.specs.Prelude.{flat_map, slice_index, All, Bool, true, false, if◌then◌else◌, nat_lt, ◌-◌, IsSome}
use Rattle.std.proofs.Math.Nat.{mul-le-mul, le-mul_of_pos_right, mul_comm, mul_assoc}
use Rattle.std.proofs.lemmas.Nat.{mul-add-lt}
use Rattle.std.proofs.lemmas.List.Elements.{All-from_get_or}
use Rattle.shader_model.specs.declared.ids.Ids.{Ids}
use Rattle.shader_model.specs.Invocation.{Slots, words_in}
use Rattle.shader_model.specs.Dispatch.{in_group, group_invocations, volume}
use Rattle.shader_model.specs.PlacesLeft.{IsBelow}
use Rattle.shader_slots.specs.Bound.{WithinLimit}
use Rattle.spirv_model.specs.Meaning.Bindings.{SlotsFit, first_read, first_write, end_of_bindings}
use Rattle.spirv_model.specs.Meaning.ModuleMeaning.{module_meaning}
use Rattle.spirv_model.specs.Meaning.ModuleDispatch.{InRange, run_all, then_run, module_dispatched, group_of}
use Rattle.spirv_run.specs.Threads.{IsPlaced, IsAllowed}

-- ## In order

run_first : (w : List ℕ) (xs ys : List Ids) (r : Option Slots) → ((t : Slots) → run_all w (xs ++ ys) t ≡ then_run (run_all w xs t) (run_all w ys))
    → then_run r (run_all w (xs ++ ys)) ≡ then_run (then_run r (run_all w xs)) (run_all w ys)
run_first w xs ys None h = refl
run_first w xs ys (Some t) h = h t

run_both : (w : List ℕ) (xs ys : List Ids) (s : Slots) → run_all w (xs ++ ys) s ≡ then_run (run_all w xs s) (run_all w ys)
run_both w [] ys s = refl
run_both w (x ∷ xs) ys s = run_first w xs ys (module_meaning w x s) (λ t. run_both w xs ys t)

-- a thread more of a group
pub one_thread : (w size group t : List ℕ) (before ts : List (List ℕ)) (now after : Slots) → before ≡ t ∷ ts → Some after ≡ module_meaning w (in_group size group t) now
    → run_all w (map (in_group size group) ts) after ≡ run_all w (map (in_group size group) before) now
one_thread w size group t before ts now after e h =
    ap (λ r. then_run r (run_all w (map (in_group size group) ts))) h ∙ ap (λ l. run_all w (map (in_group size group) l) now) (sym e)

-- no thread more
pub no_thread : (w size group : List ℕ) (before : List (List ℕ)) (now : Slots) → before ≡ [] → Some now ≡ run_all w (map (in_group size group) before) now
no_thread w size group before now e = ap (λ l. run_all w (map (in_group size group) l) now) (sym e)

-- a group more
pub one_group : (w size g : List ℕ) (before gs : List (List ℕ)) (now after : Slots) → before ≡ g ∷ gs → Some after ≡ run_all w (group_invocations size g) now
    → run_all w (flat_map (group_invocations size) gs) after ≡ run_all w (flat_map (group_invocations size) before) now
one_group w size g before gs now after e h =
    ap (λ r. then_run r (run_all w (flat_map (group_invocations size) gs))) h
    ∙ sym (run_both w (group_invocations size g) (flat_map (group_invocations size) gs) now)
    ∙ ap (λ l. run_all w (flat_map (group_invocations size) l) now) (sym e)

-- no group more
pub no_group : (w size : List ℕ) (before : List (List ℕ)) (now : Slots) → before ≡ [] → Some now ≡ run_all w (flat_map (group_invocations size) before) now
no_group w size before now e = ap (λ l. run_all w (flat_map (group_invocations size) l) now) (sym e)

-- an invocation that has an outcome came to its end
pub has_outcome : (b : Bool) (r : Option Slots) (t : Slots) → IsSome r → r ≡ (if b then Some t else None) → Some t ≡ r
has_outcome true r t some e = sym e
has_outcome false None t some e = let no : false ≡ true = some in absurd (cc)
has_outcome false (Some x) t some e = absurd (cc)

-- ## Numbers

-- a factor is at most the product of three
module _ (a b c : ℕ) (ha : 0 < a) (hb : 0 < b) (hc : 0 < c) where
  two : a * b ≤ a * b * c
  two = le-mul_of_pos_right (a * b) hc

  pub first_within : a ≤ a * b * c
  first_within = let h = le-mul_of_pos_right a hb in let k = two in omega arith

  pub second_within : b ≤ a * b * c
  second_within = let h = le-mul_of_pos_right b ha in let e = mul_comm b a in let k = two in omega arith

  pub third_within : c ≤ a * b * c
  third_within =
      let h = le-mul_of_pos_right a hb in
      let k = le-mul_of_pos_right c (let p : 0 < a * b = omega arith in p) in
      let e = mul_comm c (a * b) in omega arith

-- the place of a thread of a group that is below a number of groups
placed_within : (g s t n all : ℕ) → g < n → t < s → n * s ≤ all → g * s + t < all
placed_within g s t n all gn ts h =
    let k : g * s + t < s * n = mul-add-lt g s t n gn ts in
    let e = mul_comm s n in omega arith

product_within : (n s a b limit : ℕ) → n ≤ a → s ≤ b → a * b ≤ limit → n * s ≤ limit
product_within n s a b limit na sb h = let k : n * s ≤ a * b = mul-le-mul na sb in omega arith

each_within : (l : List ℕ) → ((c : ℕ) → c < 3 → 0 < slice_index l c) → (c : ℕ) → c < 3 → slice_index l c ≤ volume l
each_within l h zero lt = first_within (slice_index l 0) (slice_index l 1) (slice_index l 2) (h 0 (omega arith)) (h 1 (omega arith)) (h 2 (omega arith))
each_within l h (suc zero) lt = second_within (slice_index l 0) (slice_index l 1) (slice_index l 2) (h 0 (omega arith)) (h 1 (omega arith)) (h 2 (omega arith))
each_within l h (suc (suc zero)) lt = third_within (slice_index l 0) (slice_index l 1) (slice_index l 2) (h 0 (omega arith)) (h 1 (omega arith)) (h 2 (omega arith))
each_within l h (suc (suc (suc c))) lt = absurd (omega arith)

-- a plane of sizes is at most their product
plane_within : (a b c : ℕ) → 0 < a → b * c ≤ a * b * c
plane_within a b c ha =
    let h = le-mul_of_pos_right (b * c) ha in
    let e = mul_comm (b * c) a in
    let k = mul_assoc a b c in omega arith

module _ (groups size group thread : List ℕ) (allowed : IsAllowed groups size) (g : IsBelow group groups) (t : IsBelow thread size) where
  some_groups : (c : ℕ) → c < 3 → 0 < slice_index groups c
  some_groups c lt = let h = g c lt in omega arith

  some_threads : (c : ℕ) → c < 3 → 0 < slice_index size c
  some_threads c lt = let h = t c lt in omega arith

  few_threads : volume size ≤ 16777216
  few_threads =
      let h = each_within groups some_groups 0 (omega arith) in
      let p = some_groups 0 (omega arith) in
      let one : 1 ≤ volume groups = omega arith in
      let k = product_within 1 (volume size) (volume groups) (volume size) 16777216 one (omega arith) allowed.count in
      omega arith

  row : (c : ℕ) → c < 3 → slice_index group c * slice_index size c + slice_index thread c < 4294967296
  row c lt =
      let k = product_within (slice_index groups c) (slice_index size c) (volume groups) (volume size) 16777216 (each_within groups some_groups c lt) (each_within size some_threads c lt) allowed.count in
      placed_within (slice_index group c) (slice_index size c) (slice_index thread c) (slice_index groups c) 4294967296 (g c lt) (t c lt) (omega arith)

  plane_below : slice_index thread 2 * slice_index size 1 + slice_index thread 1 < slice_index size 2 * slice_index size 1
  plane_below = placed_within (slice_index thread 2) (slice_index size 1) (slice_index thread 1) (slice_index size 2) (slice_index size 2 * slice_index size 1) (t 2 (omega arith)) (t 1 (omega arith)) (omega arith)

  plane_small : slice_index thread 1 + slice_index size 1 * slice_index thread 2 < slice_index size 1 * slice_index size 2
  plane_small =
      let h = plane_below in
      let e = mul_comm (slice_index thread 2) (slice_index size 1) in
      let k = mul_comm (slice_index size 2) (slice_index size 1) in omega arith

  plane_fits : slice_index thread 1 + slice_index size 1 * slice_index thread 2 < 4294967296
  plane_fits =
      let h = plane_small in
      let k = plane_within (slice_index size 0) (slice_index size 1) (slice_index size 2) (some_threads 0 (omega arith)) in
      let f = few_threads in omega arith

  all_fit : slice_index thread 0 + slice_index size 0 * (slice_index thread 1 + slice_index size 1 * slice_index thread 2) < 4294967296
  all_fit =
      let y : ℕ = slice_index thread 1 + slice_index size 1 * slice_index thread 2 in
      let p : ℕ = slice_index size 1 * slice_index size 2 in
      let x : ℕ = slice_index size 0 in
      let e = mul_comm p x in
      let k = mul_assoc x (slice_index size 1) (slice_index size 2) in
      let f = few_threads in
      let h = placed_within y x (slice_index thread 0) p 4294967296 plane_small (t 0 (omega arith)) (omega arith) in
      let c = mul_comm y x in omega arith

  pub is_placed : IsPlaced (record { group = group; thread = thread; size = size })
  is_placed = record { global = row; plane = plane_fits; flattened = all_fit }

  -- the ids of a thread are in range
  pub in_range : length group ≡ 3 → length thread ≡ 3 → InRange size (record { group = group; thread = thread; size = size })
  in_range three_groups three_threads =
      let few : (c : ℕ) → c < 3 → slice_index group c < 65535 = λ c lt. omega (arith, g c lt, allowed.each c lt) in
      record {
        size_is = refl;
        three_threads = three_threads;
        three_groups = three_groups;
        thread_x = t 0 (omega arith);
        thread_y = t 1 (omega arith);
        thread_z = t 2 (omega arith);
        group_x = few 0 (omega arith);
        group_y = few 1 (omega arith);
        group_z = few 2 (omega arith);
      }

-- ## Slots

chosen : (P : List ℕ → Type 0) (a b c : Bool) (x y z : List ℕ) → P x → P y → P z → P [] → P (if a then x else if b then y else if c then z else [])
chosen P true b c x y z hx hy hz h = hx
chosen P false true c x y z hx hy hz h = hy
chosen P false false true x y z hx hy hz h = hz
chosen P false false false x y z hx hy hz h = h

abbrev AreWords : List ℕ → Type 0
AreWords w = All (λ n. n < 4294967296) w

each : (w : List ℕ) → ((i : ℕ) → slice_index w i < 4294967296) → AreWords w
each w h = All-from_get_or (λ n. n < 4294967296) w 0 (λ i lt. h i)

-- slots within the limit fit
pub slots_fit : (s : Slots) → WithinLimit s → SlotsFit s
slots_fit s h = record {
  lengths = λ b. chosen (λ w. length w ≤ 4194304) (nat_lt b first_read) (nat_lt b first_write) (nat_lt b end_of_bindings)
      (words_in s.constants b) (words_in s.reads (b - first_read)) (words_in s.writes (b - first_write))
      (h.constants b) (h.reads (b - first_read)) (h.writes (b - first_write)) (omega arith);
  words = λ b. chosen AreWords (nat_lt b first_read) (nat_lt b first_write) (nat_lt b end_of_bindings)
      (words_in s.constants b) (words_in s.reads (b - first_read)) (words_in s.writes (b - first_write))
      (each (words_in s.constants b) (h.constant_words b)) (each (words_in s.reads (b - first_read)) (h.read_words (b - first_read)))
      (each (words_in s.writes (b - first_write)) (h.write_words (b - first_write))) (each [] (λ i. omega arith));
}
