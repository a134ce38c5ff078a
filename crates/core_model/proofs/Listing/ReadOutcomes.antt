-- What a listing's own order gives at a host read: the bytes that the entries listed before it leave.
use Rattle.std.proofs.Common.{◌≡◌, ℕ, zero, suc, ◌+◌, ◌-◌, ◌<◌, ◌≤◌, Bool, true, false, cond, ◌==◌, List, [], ◌∷◌}
use Rattle.std.proofs.Common.{◌++◌, map, length, take, drop, refl, sym, ap, ◌∙◌, inl, inr, Option, Some, None}
use Rattle.std.proofs.Common.{slice_get, arith}
use Rattle.std.proofs.lemmas.Bool.{cases_Bool, eqb-true, lt-ltb, eq-eqb}
use Rattle.dx_types.specs.declared.range.Range.{Range}
use Rattle.vk_types.specs.declared.op.VkOp.{VkOp}
use Rattle.vk_types.specs.declared.op.VkOp.TheVariants as op
use Rattle.base_lemmas.specs.Lists.{numbers_from}
use Rattle.vk_types.specs.Memory.{zeros, byte_of}
use Rattle.vk_types.specs.Effects.{Meaning, Act, Host_write, Device, Host_read, act_effect}
use Rattle.vk_types.specs.Entries.{run_entries, Counts, next, after_host, after_barrier, after_submit, after_fence}
use Rattle.vk_types.specs.Entries.{first_of, rest_of, start_counts}
use Rattle.vk_types.specs.Listing.{is_act, act_places, acts, op_act, or_empty, act_of, act_at, written_ranges}
use Rattle.vk_types.specs.Allowed.{World, happens, run_places, empty_world, outcome}
use Rattle.core_model.specs.Listed.{plain_entries}
use Rattle.core_model.proofs.Steps.Segments.{get_middle}

-- Places ------------------------------------------------------------------------------------------------------------

places_append : (at : ℕ) (xs ys : List VkOp) → act_places at (xs ++ ys)
    ≡ act_places at xs ++ act_places (at + length xs) ys
places_append at [] ys = let e : at ≡ at + 0 = omega arith in ap (λ n. act_places n ys) e
places_append at (x ∷ xs) ys =
    let e : suc at + length xs ≡ at + suc (length xs) = omega arith in
    let rec : act_places (suc at) (xs ++ ys) ≡ act_places (suc at) xs ++ act_places (at + suc (length xs)) ys =
    places_append (suc at) xs ys ∙ ap (λ n. act_places (suc at) xs ++ act_places n ys) e in
    by (is_act x) rec
  where
    by : (b : Bool) → act_places (suc at) (xs ++ ys) ≡ act_places (suc at) xs ++ act_places (at + suc (length xs)) ys
        → cond b (at ∷ act_places (suc at) (xs ++ ys)) (act_places (suc at) (xs ++ ys))
        ≡ cond b (at ∷ act_places (suc at) xs) (act_places (suc at) xs) ++ act_places (at + suc (length xs)) ys
    by true r = ap (λ l. at ∷ l) r
    by false r = r

run_places_append : (meaning : Meaning) (act : ℕ → Option Act) (ps qs : List ℕ) (w : World)
    → run_places meaning act (ps ++ qs) w ≡ run_places meaning act qs (run_places meaning act ps w)
run_places_append meaning act [] qs w = refl
run_places_append meaning act (p ∷ ps) qs w = run_places_append meaning act ps qs (happens meaning p (act p) w)

-- what stands at a later place does not change the answer at this one
other_answer : (meaning : Meaning) (p q : ℕ) (a : Option Act) (w : World) → p < q
    → (happens meaning q a w).answers p ≡ w.answers p
other_answer meaning p q None w l = refl
other_answer meaning p q (Some (Host_write target bytes)) w l = refl
other_answer meaning p q (Some (Device d)) w l = refl
other_answer meaning p q (Some (Host_read source)) w l =
    elim (cases_Bool (p == q)) [
      | inl t ↦ absurd (let e = eqb-true p q t in let z : ⊥ = omega (arith, e, l) in z)
      | inr f ↦ ap (λ c. cond c (byte_of w.memory source) (w.answers p)) f
    ]

later_answers : (meaning : Meaning) (act : ℕ → Option Act) (p at : ℕ) (ops : List VkOp) (w : World) → p < at
    → (run_places meaning act (act_places at ops) w).answers p ≡ w.answers p
later_answers meaning act p at [] w l = refl
later_answers meaning act p at (o ∷ ops) w l =
    by (is_act o) (later_answers meaning act p (suc at) ops (happens meaning at (act at) w) (omega (arith, l))
    ∙ other_answer meaning p at (act at) w l) (later_answers meaning act p (suc at) ops w (omega (arith, l)))
  where
    by : (b : Bool) → (run_places meaning act (at ∷ act_places (suc at) ops) w).answers p ≡ w.answers p
        → (run_places meaning act (act_places (suc at) ops) w).answers p ≡ w.answers p
        → (run_places meaning act (cond b (at ∷ act_places (suc at) ops) (act_places (suc at) ops)) w).answers p
        ≡ w.answers p
    by true h k = h
    by false h k = k

-- Memory ------------------------------------------------------------------------------------------------------------

-- the acts from this place on are those of the operations, and the bytes that the host writes those from this number on
abbrev ActsFrom : (ℕ → Option Act) → List (List ℕ) → ℕ → ℕ → List VkOp → Type 0
ActsFrom act contents at n ops = (k : ℕ) (o : VkOp) → slice_get ops k ≡ Some o
    → act (at + k) ≡ op_act contents (n + length (written_ranges (take k ops))) o

drop_first : (n : ℕ) (contents : List (List ℕ)) → first_of (drop n contents) ≡ or_empty (slice_get contents n)
drop_first zero [] = refl
drop_first zero (b ∷ bs) = refl
drop_first (suc n) [] = refl
drop_first (suc n) (b ∷ bs) = drop_first n bs

drop_rest : (n : ℕ) (contents : List (List ℕ)) → rest_of (drop n contents) ≡ drop (suc n) contents
drop_rest zero [] = refl
drop_rest zero (b ∷ bs) = refl
drop_rest (suc n) [] = refl
drop_rest (suc n) (b ∷ bs) = drop_rest n bs

-- behind one operation more
later_acts : (act : ℕ → Option Act) (contents : List (List ℕ)) (at n m : ℕ) (x : VkOp) (ops : List VkOp)
    → ((k : ℕ) → n + length (written_ranges (take (suc k) (x ∷ ops))) ≡ m + length (written_ranges (take k ops)))
    → ActsFrom act contents at n (x ∷ ops) → ActsFrom act contents (suc at) m ops
later_acts act contents at n m x ops same h k o e =
    let place : suc at + k ≡ at + suc k = omega arith in
    ap act place ∙ h (suc k) o e ∙ ap (λ j. op_act contents j o) (same k)

here_act : (act : ℕ → Option Act) (contents : List (List ℕ)) (at n : ℕ) (x : VkOp) (ops : List VkOp)
    → ActsFrom act contents at n (x ∷ ops) → act at ≡ op_act contents n x
here_act act contents at n x ops h =
    let place : at ≡ at + 0 = omega arith in
    let number : n + 0 ≡ n = omega arith in
    ap act place ∙ h 0 x refl ∙ ap (λ j. op_act contents j x) number

abbrev memory_after : Meaning → (ℕ → Option Act) → ℕ → List VkOp → World → ℕ → ℕ → ℕ
memory_after meaning act at ops w = (run_places meaning act (act_places at ops) w).memory

module _ (meaning : Meaning) (act : ℕ → Option Act) (contents : List (List ℕ)) where
  abbrev happened : ℕ → World → World
  happened at w = happens meaning at (act at) w

  run_memory : (ops : List VkOp) (at n : ℕ) (c : Counts) (w : World) → ActsFrom act contents at n ops
      → memory_after meaning act at ops w ≡ run_entries meaning (plain_entries c (drop n contents) ops) w.memory
  run_memory [] at n c w h = refl
  run_memory (op.HostWrite r call ∷ ops) at n c w h =
      let first : happened at w ≡ happens meaning at (Some (Host_write r (or_empty (slice_get contents n)))) w =
      ap (λ a. happens meaning at a w) (here_act act contents at n (op.HostWrite r call) ops h) in
      run_memory ops (suc at) (suc n) (after_host c) (happened at w)
      (later_acts act contents at n (suc n) (op.HostWrite r call) ops (λ k. omega arith) h)
      ∙ ap (λ l. run_entries meaning (plain_entries (after_host c) l ops) (happened at w).memory)
      (sym (drop_rest n contents))
      ∙ ap (λ v. run_entries meaning (plain_entries (after_host c) (rest_of (drop n contents)) ops) v.memory) first
      ∙ ap (λ bs. run_entries meaning (plain_entries (after_host c) (rest_of (drop n contents)) ops)
      (act_effect meaning (Host_write r bs) w.memory)) (sym (drop_first n contents))
  run_memory (op.Pipeline shader ∷ ops) at n c w h = run_memory ops (suc at) n (next c) w
      (later_acts act contents at n n (op.Pipeline shader) ops (λ k. refl) h)
  run_memory (op.Barrier barrier ∷ ops) at n c w h = run_memory ops (suc at) n (after_barrier c barrier) w
      (later_acts act contents at n n (op.Barrier barrier) ops (λ k. refl) h)
  run_memory (op.Command d ∷ ops) at n c w h =
      let first : happened at w ≡ happens meaning at (Some (Device d)) w =
      ap (λ a. happens meaning at a w) (here_act act contents at n (op.Command d) ops h) in
      run_memory ops (suc at) n (next c) (happened at w) (later_acts act contents at n n (op.Command d) ops
      (λ k. refl) h)
      ∙ ap (λ v. run_entries meaning (plain_entries (next c) (drop n contents) ops) v.memory) first
  run_memory (op.Submit k ∷ ops) at n c w h = run_memory ops (suc at) n (after_submit c k) w
      (later_acts act contents at n n (op.Submit k) ops (λ k. refl) h)
  run_memory (op.Fence k ∷ ops) at n c w h = run_memory ops (suc at) n (after_fence c k) w
      (later_acts act contents at n n (op.Fence k) ops (λ k. refl) h)
  run_memory (op.HostRead r call ∷ ops) at n c w h =
      let first : happened at w ≡ happens meaning at (Some (Host_read r)) w =
      ap (λ a. happens meaning at a w) (here_act act contents at n (op.HostRead r call) ops h) in
      run_memory ops (suc at) n (after_host c) (happened at w)
      (later_acts act contents at n n (op.HostRead r call) ops (λ k. refl) h)
      ∙ ap (λ v. run_entries meaning (plain_entries (after_host c) (drop n contents) ops) v.memory) first

-- A place within the first of two lists
get_front : (xs ys : List VkOp) (k : ℕ) (o : VkOp) → slice_get xs k ≡ Some o → slice_get (xs ++ ys) k ≡ Some o
get_front [] ys k o e = absurd (cc e)
get_front (x ∷ xs) ys zero o e = e
get_front (x ∷ xs) ys (suc k) o e = get_front xs ys k o e

take_front : (xs ys : List VkOp) (k : ℕ) (o : VkOp) → slice_get xs k ≡ Some o → take k (xs ++ ys) ≡ take k xs
take_front [] ys k o e = absurd (cc e)
take_front (x ∷ xs) ys zero o e = refl
take_front (x ∷ xs) ys (suc k) o e = ap (λ l. x ∷ l) (take_front xs ys k o e)

-- the acts of the front
front_acts : (contents : List (List ℕ)) (front back : List VkOp)
    → ActsFrom (act_at contents (front ++ back)) contents 0 0 front
front_acts contents front back k o e =
    let zero_more : (m : ℕ) → 0 + m ≡ m = λ m. omega arith in
    ap (act_at contents (front ++ back)) (zero_more k)
    ∙ ap (λ l. act_of contents (length (written_ranges l)) (slice_get (front ++ back) k)) (take_front front back k o e)
    ∙ ap (act_of contents (length (written_ranges (take k front)))) (get_front front back k o e)
    ∙ ap (λ j. op_act contents j o) (sym (zero_more (length (written_ranges (take k front)))))

bytes_from : (memory : ℕ → ℕ → ℕ) (r : Range) (first n at : ℕ) → r.from + first ≡ at → at + n ≤ r.to
    → map (byte_of memory r) (numbers_from first n) ≡ map (memory r.block) (numbers_from at n)
bytes_from memory r first zero at e l = refl
bytes_from memory r first (suc n) at e l =
    let less : r.from + first < r.to = omega (arith, e, l) in
    let next : r.from + suc first ≡ suc at = omega (arith, e) in
    let here : byte_of memory r first ≡ memory r.block at = ap (λ c. cond c (memory r.block (r.from + first)) 0)
    (lt-ltb (r.from + first) r.to less) ∙ ap (memory r.block) e in
    ap (λ b. b ∷ map (byte_of memory r) (numbers_from (suc first) n)) here
    ∙ ap (λ l. memory r.block at ∷ l) (bytes_from memory r (suc first) n (suc at) next (omega (arith, l)))

-- the listing's own order gives at a host read what the entries before it leave
pub read_outcome : (meaning : Meaning) (contents : List (List ℕ)) (front : List VkOp) (r : Range) (call : ℕ)
    (back : List VkOp) → r.from < r.to
    → (let ops = front ++ op.HostRead r call ∷ back in
    map ((outcome meaning contents ops (acts ops)).answers (length front)) (numbers_from 0 (r.to - r.from))
    ≡ map (run_entries meaning (plain_entries start_counts contents front) zeros r.block)
    (numbers_from r.from (r.to - r.from)))
read_outcome meaning contents front r call back filled =
    let o = op.HostRead r call in
    let ops = front ++ o ∷ back in
    let act = act_at contents ops in
    let p = length front in
    let before = run_places meaning act (act_places 0 front) empty_world in
    let memory : before.memory ≡ run_entries meaning (plain_entries start_counts contents front) zeros =
    run_memory meaning act contents front 0 0 start_counts empty_world (front_acts contents front (o ∷ back)) in
    let from_zero : 0 + p ≡ p = omega arith in
    let split : acts ops ≡ act_places 0 front ++ p ∷ act_places (suc p) back = places_append 0 front (o ∷ back)
    ∙ ap (λ n. act_places 0 front ++ act_places n (o ∷ back)) from_zero in
    let here : act p ≡ Some (Host_read r) = ap (act_of contents (length (written_ranges (take p ops))))
    (get_middle front o back) in
    let given : (outcome meaning contents ops (acts ops)).answers p ≡ byte_of before.memory r =
    ap (λ ps. (run_places meaning act ps empty_world).answers p) split
    ∙ ap (λ w. w.answers p) (run_places_append meaning act (act_places 0 front) (p ∷ act_places (suc p) back)
    empty_world)
    ∙ later_answers meaning act p (suc p) back (happens meaning p (act p) before) (omega arith)
    ∙ ap (λ a. (happens meaning p a before).answers p) here
    ∙ ap (λ c. cond c (byte_of before.memory r) (before.answers p)) (eq-eqb p p refl) in
    let ends : r.from + (r.to - r.from) ≤ r.to = omega (arith, filled) in
    ap (λ f. map f (numbers_from 0 (r.to - r.from))) given ∙ bytes_from before.memory r 0 (r.to - r.from) r.from
    (omega arith) ends ∙ ap (λ m. map (m r.block) (numbers_from r.from (r.to - r.from))) memory
