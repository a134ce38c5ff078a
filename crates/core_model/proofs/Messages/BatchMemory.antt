-- Memory as a batch's acts leave it: zeros, then parts, then commands; and where a part may be written later.
use Rattle.std.proofs.Common.{◌≡◌, ℕ, zero, suc, ◌+◌, ◌-◌, ◌<◌, ◌≤◌, true, false, cond, List, [], ◌∷◌}
use Rattle.std.proofs.Common.{◌++◌, length, replicate, refl, sym, ap, ◌∙◌, subst, inl, inr, arith}
use Rattle.std.specs.List.{AllByRecursion}
use Rattle.std.proofs.lemmas.Bool.{cases_Bool, cases_lt, both_ways, or_cases}
use Rattle.dx_types.specs.declared.range.Range.{Range}
use Rattle.vk_types.specs.declared.command.Command.{Command}
use Rattle.vk_types.specs.declared.touch.Touch.{Touch}
use Rattle.vk_types.specs.Memory.{Memory, range, covers, put, number_at}
use Rattle.vk_types.specs.Hazards.{touches, host_write_touch, is_touched, is_written, lists_conflict}
use Rattle.vk_types.specs.Effects.{Meaning, Act, Host_write, Device, act_effect, effect}
use Rattle.vk_types.proofs.Local.{covered, covered_block, covered_from, common, written_touched, exchange}
use Rattle.vk_types.proofs.Acts.{effect_local, act_local}
use Rattle.core_model.specs.Batching.{Written, Made, make_write}
use Rattle.core_model.specs.BatchActs.{zeroed, part_acts, command_acts, run_acts}
use Rattle.core_model.proofs.Steps.Padding.{zeros_at, past_end}
use Rattle.core_model.proofs.Steps.Overwriting.{empty_put}

-- Bytes in zeros ----------------------------------------------------------------------------------------------------

before_zero : (from : ℕ) (bytes : List ℕ) (i : ℕ) → i < from → number_at (replicate from 0 ++ bytes) i ≡ 0
before_zero zero bytes i l = absurd (let z : ⊥ = omega (arith, l) in z)
before_zero (suc from) bytes zero l = refl
before_zero (suc from) bytes (suc i) l = before_zero from bytes i (omega (arith, l))

shifted : (from : ℕ) (bytes : List ℕ) (i : ℕ) → from ≤ i → number_at (replicate from 0 ++ bytes) i
    ≡ number_at bytes (i - from)
shifted zero bytes i l = ap (number_at bytes) (let z : i ≡ i - 0 = omega arith in z)
shifted (suc from) bytes zero l = absurd (let z : ⊥ = omega (arith, l) in z)
shifted (suc from) bytes (suc i) l =
    shifted from bytes i (omega (arith, l)) ∙ ap (number_at bytes) (let z : i - from ≡ suc i - suc from =
    omega arith in z)

pub put_elsewhere : (r : Range) (piece : ℕ → ℕ) (m : Memory) (b i : ℕ) → (r.block ≡ b → ⊥) → put r piece m b i ≡ m b i
put_elsewhere r piece m b i h =
    elim (cases_Bool (covers r b i)) [
      | inl t ↦ absurd (h (covered_block r b i t))
      | inr f ↦ ap (λ c. cond c (piece (i - r.from)) (m b i)) f
    ]

-- where a byte was 0, bytes that are put in zeros stand
pub fresh_put : (b from : ℕ) (bytes : List ℕ) (m : Memory) (i : ℕ) → m b i ≡ 0
    → put (range b from (from + length bytes)) (number_at bytes) m b i ≡ number_at (replicate from 0 ++ bytes) i
fresh_put b from bytes m i h =
    let r = range b from (from + length bytes) in
    elim (cases_Bool (covers r b i)) [
      | inl t ↦
          ap (λ c. cond c (number_at bytes (i - from)) (m b i)) t ∙ sym (shifted from bytes i (covered_from r b i t))
      | inr f ↦ ap (λ c. cond c (number_at bytes (i - from)) (m b i)) f ∙ h ∙ sym (elim (cases_lt i from) [
        | inl l ↦ before_zero from bytes i l
        | inr l ↦ elim (cases_lt i (from + length bytes)) [
          | inl k ↦ absurd (both_ways (covers r b i) f (covered r b i refl l k))
          | inr k ↦ shifted from bytes i l ∙ past_end bytes (i - from) (omega (arith, k))
        ]
      ])
    ]

-- Touches -----------------------------------------------------------------------------------------------------------

pub touched_own : (U : ℕ → Type 0) (ts : List Touch) (b i : ℕ) → AllByRecursion (λ t. U t.range.block) ts
    → is_touched ts b i ≡ true → U b
touched_own U [] b i h k = absurd (cc k)
touched_own U (t ∷ ts) b i h k =
    elim (or_cases (covers t.range b i) (is_touched ts b i) k) [
      | inl here ↦ subst U (covered_block t.range b i here) h.0
      | inr later ↦ touched_own U ts b i h.1 later
    ]

pub not_touched : (U : ℕ → Type 0) (ts : List Touch) (b i : ℕ) → AllByRecursion (λ t. U t.range.block) ts
    → (U b → ⊥) → is_touched ts b i ≡ false
not_touched U ts b i h n =
    elim (cases_Bool (is_touched ts b i)) [ inl t ↦ absurd (n (touched_own U ts b i h t)) | inr f ↦ f ]

-- the command and a write of the range don't conflict
abbrev pub Spares : Range → Command → Type 0
Spares r d = lists_conflict (touches d) (host_write_touch r ∷ []) ≡ false

pub spared : (r : Range) (d : Command) → ((b i : ℕ) → is_touched (touches d) b i ≡ true → covers r b i ≡ true → ⊥)
    → Spares r d
spared r d h =
    elim (cases_Bool (lists_conflict (touches d) (host_write_touch r ∷ []))) [
      | inl t ↦
          let x = common (touches d) (host_write_touch r ∷ []) t in
          elim (or_cases (covers r x.0 x.1) false x.3) [
            | inl c ↦ absurd (h x.0 x.1 x.2 c)
            | inr n ↦ absurd (cc n)
          ]
      | inr f ↦ f
    ]

not_written_then : (ts : List Touch) (b i : ℕ) → is_touched ts b i ≡ false → is_written ts b i ≡ false
not_written_then ts b i h =
    elim (cases_Bool (is_written ts b i)) [
      | inl w ↦ absurd (both_ways (is_touched ts b i) h (written_touched ts b i w))
      | inr f ↦ f
    ]

module _ (meaning : Meaning) where
  -- Acts one behind another -----------------------------------------------------------------------------------------

  pub run_append : (xs ys : List Act) (m : Memory) → run_acts meaning (xs ++ ys) m
      ≡ run_acts meaning ys (run_acts meaning xs m)
  run_append [] ys m = refl
  run_append (x ∷ xs) ys m = run_append xs ys (act_effect meaning x m)

  parts_append : (xs ys : List Written) → part_acts (xs ++ ys) ≡ part_acts xs ++ part_acts ys
  parts_append [] ys = refl
  parts_append (x ∷ xs) ys = ap (λ l. Host_write x.range x.bytes ∷ l) (parts_append xs ys)

  commands_append : (xs ys : List Command) → command_acts (xs ++ ys) ≡ command_acts xs ++ command_acts ys
  commands_append [] ys = refl
  commands_append (x ∷ xs) ys = ap (λ l. Device x ∷ l) (commands_append xs ys)

  commuted : (r : Range) (bytes : List ℕ) (ds : List Command) (m : Memory) → AllByRecursion (Spares r) ds
      → run_acts meaning (command_acts ds) (put r (number_at bytes) m)
      ≡ put r (number_at bytes) (run_acts meaning (command_acts ds) m)
  commuted r bytes [] m h = refl
  commuted r bytes (d ∷ ds) m h =
      ap (run_acts meaning (command_acts ds))
      (exchange (touches d) (host_write_touch r ∷ []) (effect meaning d) (act_effect meaning (Host_write r bytes))
      (effect_local meaning d) (act_local meaning (Host_write r bytes)) h.0 m)
      ∙ commuted r bytes ds (effect meaning d m) h.1

  untouched : (b i : ℕ) (ds : List Command) (m : Memory) → AllByRecursion (λ d. is_touched (touches d) b i ≡ false) ds
      → run_acts meaning (command_acts ds) m b i ≡ m b i
  untouched b i [] m h = refl
  untouched b i (d ∷ ds) m h =
      untouched b i ds (effect meaning d m) h.1 ∙ (effect_local meaning d).keeps m b i
      (not_written_then (touches d) b i h.0)

  unwritten : (b i : ℕ) (ws : List Written) (m : Memory) → AllByRecursion (λ w. w.range.block ≡ b → ⊥) ws
      → run_acts meaning (part_acts ws) m b i ≡ m b i
  unwritten b i [] m h = refl
  unwritten b i (w ∷ ws) m h =
      unwritten b i ws (put w.range (number_at w.bytes) m) h.1 ∙ put_elsewhere w.range (number_at w.bytes) m b i h.0

  -- Zeros -----------------------------------------------------------------------------------------------------------

  -- the blocks have zeros, in these lengths
  abbrev pub AllZero : Memory → List ℕ → List ℕ → Type 0
  AllZero m [] ns = Unit {0}
  AllZero m (b ∷ bs) [] = Unit {0}
  AllZero m (b ∷ bs) (n ∷ ns) = ((i : ℕ) → i < n → m b i ≡ 0) × AllZero m bs ns

  zero_stays : (bs ns : List ℕ) (m : Memory) (b i : ℕ) → m b i ≡ 0 → run_acts meaning (zeroed bs ns) m b i ≡ 0
  zero_stays [] ns m b i h = h
  zero_stays (c ∷ bs) [] m b i h = h
  zero_stays (c ∷ bs) (n ∷ ns) m b i h =
      zero_stays bs ns (put (range c 0 n) (number_at (replicate n 0)) m) b i
      (elim (cases_Bool (covers (range c 0 n) b i)) [
        | inl t ↦ ap (λ x. cond x (number_at (replicate n 0) (i - 0)) (m b i)) t ∙ zeros_at n (i - 0)
        | inr f ↦ ap (λ x. cond x (number_at (replicate n 0) (i - 0)) (m b i)) f ∙ h
      ])

  pub all_zero : (bs ns : List ℕ) (m : Memory) → AllZero (run_acts meaning (zeroed bs ns) m) bs ns
  all_zero [] ns m = tt
  all_zero (b ∷ bs) [] m = tt
  all_zero (b ∷ bs) (n ∷ ns) m = (
    λ i l. zero_stays bs ns (put (range b 0 n) (number_at (replicate n 0)) m) b i
        (ap (λ x. cond x (number_at (replicate n 0) (i - 0)) (m b i))
        (covered (range b 0 n) b i refl (omega arith) l) ∙ zeros_at n (i - 0)),
    all_zero bs ns (put (range b 0 n) (number_at (replicate n 0)) m),
  )

  pub others_stay : (bs ns : List ℕ) (m : Memory) (b i : ℕ) → AllByRecursion (λ c. c ≡ b → ⊥) bs
      → run_acts meaning (zeroed bs ns) m b i ≡ m b i
  others_stay [] ns m b i h = refl
  others_stay (c ∷ bs) [] m b i h = refl
  others_stay (c ∷ bs) (n ∷ ns) m b i h =
      others_stay bs ns (put (range c 0 n) (number_at (replicate n 0)) m) b i h.1
      ∙ put_elsewhere (range c 0 n) (number_at (replicate n 0)) m b i h.0

  -- The memory behind what was made ---------------------------------------------------------------------------------

  module _ (base : Memory) where
    abbrev pub left_in : Made → Memory
    left_in m = run_acts meaning (command_acts m.listed) (run_acts meaning (part_acts m.writes) base)

    pub wrote : (r : Range) (bytes : List ℕ) (m : Made) → r.to ≡ r.from + length bytes
        → AllByRecursion (Spares r) m.listed
        → left_in (make_write r bytes m) ≡ put r (number_at bytes) (left_in m)
    wrote r [] m e free = sym (empty_put r (number_at []) (left_in m) (omega (arith, e)))
    wrote r (b ∷ bs) m e free =
        let w : Written = record { range = r; bytes = b ∷ bs } in
        ap (run_acts meaning (command_acts m.listed))
        (ap (λ l. run_acts meaning l base) (parts_append m.writes (w ∷ []))
        ∙ run_append (part_acts m.writes) (part_acts (w ∷ [])) base)
        ∙ commuted r (b ∷ bs) m.listed (run_acts meaning (part_acts m.writes) base) free

    pub commanded : (ds : List Command) (d : Command) (m : Memory)
        → run_acts meaning (command_acts (ds ++ d ∷ [])) m ≡ effect meaning d (run_acts meaning (command_acts ds) m)
    commanded ds d m =
        ap (λ l. run_acts meaning l m) (commands_append ds (d ∷ []))
        ∙ run_append (command_acts ds) (command_acts (d ∷ [])) m

    -- a block that nothing touched yet
    pub still_there : (U : ℕ → Type 0) (m : Made) (b i : ℕ) → AllByRecursion
        (λ d. AllByRecursion (λ t. U t.range.block) (touches d)) m.listed
        → AllByRecursion (λ w. U w.range.block) m.writes → (U b → ⊥) → left_in m b i ≡ base b i
    still_there U m b i listed writes n =
        untouched b i m.listed (run_acts meaning (part_acts m.writes) base) (all_not m.listed listed)
        ∙ unwritten b i m.writes base (all_other m.writes writes)
      where
        all_not : (ds : List Command) → AllByRecursion (λ d. AllByRecursion (λ t. U t.range.block) (touches d)) ds
            → AllByRecursion (λ d. is_touched (touches d) b i ≡ false) ds
        all_not [] h = tt
        all_not (d ∷ ds) h = (not_touched U (touches d) b i h.0 n, all_not ds h.1)

        all_other : (ws : List Written) → AllByRecursion (λ w. U w.range.block) ws
            → AllByRecursion (λ w. w.range.block ≡ b → ⊥) ws
        all_other [] h = tt
        all_other (w ∷ ws) h = (λ e. n (subst U e h.0), all_other ws h.1)
