-- Of a class's 64 blocks at most 32 are buffers', and the open chunk retired fewer than 16. So App may take one of
-- the others, or it is on its way home, or of a chunk that was handed over.
use Rattle.std.proofs.Common.{◌≡◌, ℕ, zero, suc, ◌+◌, ◌*◌, ◌<◌, ◌≤◌, Bool, true, false, cond, ◌||◌, ◌&&◌, ◌==◌, not}
use Rattle.std.proofs.Common.{nat_le, List, [], ◌∷◌, ◌++◌, length, refl, sym, ap, ◌∙◌, subst, ◌⊎◌, inl, inr, Option}
use Rattle.std.proofs.Common.{Some, None, arith, length-append}
use Rattle.std.specs.List.{AllByRecursion}
use Rattle.std.proofs.lemmas.Bool.{both_ways, or_cases, eqb-true, cases_lt, le-leb}
use Rattle.base_lemmas.specs.Lists.{Pairwise}
use Rattle.vk_types.specs.Effects.{Meaning}
use Rattle.base_lemmas.proofs.Lists.{all_map}
use Rattle.core_model.specs.Script.{Script, at_start, in_order}
use Rattle.core_model.specs.Chunking.{entry_count, mark_count, staged_count, in_list, stops_next, is_due}
use Rattle.core_model.specs.CoreState.{has_class, Core, marks, open_number}
use Rattle.core_model.specs.Readings.{Reading}
use Rattle.core_model.specs.OtherParts.{is_among}
use Rattle.core_model.specs.Succession.{only_class}
use Rattle.core_model.specs.Lawful.{IsLawful}
use Rattle.core_model.specs.Kept.{Kept}
use Rattle.core_model.specs.ClassBlocks.{Stand, Apart, At_home, On_way, Held, Gone, stand, IsFor, ClassesRight}
use Rattle.core_model.specs.ClassBlocks.{HasBlockFor}
use Rattle.core_model.proofs.Steps.Binding.{or_left, or_right}
use Rattle.core_model.proofs.Blocks.ClassMoves.{one_class, of_class}

-- Lists without repeats ---------------------------------------------------------------------------------------------

abbrev Differs : ℕ → ℕ → Type 0
Differs r s = r ≡ s → ⊥

found_at : (x : ℕ) (ms : List ℕ) → is_among x ms ≡ true → (f : List ℕ) × (g : List ℕ) × (ms ≡ f ++ x ∷ g)
found_at x [] h = absurd (cc h)
found_at x (m ∷ ms) h = elim (or_cases (m == x) (is_among x ms) h) [
  | inl t ↦ ([], ms, ap (λ m. m ∷ ms) (eqb-true m x t))
  | inr t ↦ let r = found_at x ms t in (m ∷ r.0, r.1, ap (λ l. m ∷ l) r.2)
]

-- of two lists the other elements
among_rest : (x y : ℕ) (f g : List ℕ) → (x ≡ y → ⊥) → is_among y (f ++ x ∷ g) ≡ true → is_among y (f ++ g) ≡ true
among_rest x y [] g n h = elim (or_cases (x == y) (is_among y g) h) [ inl t ↦ absurd (n (eqb-true x y t)) | inr t ↦ t ]
among_rest x y (z ∷ f) g n h = elim (or_cases (z == y) (is_among y (f ++ x ∷ g)) h) [
  | inl t ↦ or_left (z == y) (is_among y (f ++ g)) t
  | inr t ↦ or_right (z == y) (is_among y (f ++ g)) (among_rest x y f g n t)
]

all_rest : (x : ℕ) (f g ys : List ℕ) → AllByRecursion (Differs x) ys
    → AllByRecursion (λ y. is_among y (f ++ x ∷ g) ≡ true) ys → AllByRecursion (λ y. is_among y (f ++ g) ≡ true) ys
all_rest x f g [] d h = tt
all_rest x f g (y ∷ ys) d h = (among_rest x y f g d.0 h.0, all_rest x f g ys d.1 h.1)

-- a list without repeats is no longer than one that has its elements
pub no_longer : (xs ms : List ℕ) → Pairwise Differs xs → AllByRecursion (λ x. is_among x ms ≡ true) xs
    → length xs ≤ length ms
no_longer [] ms d h = omega arith
no_longer (x ∷ xs) ms d h =
    let at = found_at x ms h.0 in
    let rest = no_longer xs (at.0 ++ at.1) d.1 (all_rest x at.0 at.1 xs d.0
    (subst (λ l. AllByRecursion (λ y. is_among y l ≡ true) xs) at.2 h.1)) in
    let a = length-append at.0 at.1 in
    let b = ap length at.2 in
    let c = length-append at.0 (x ∷ at.1) in
    omega (arith, rest, a, b, c)

among_class : (b : ℕ) (ms : List ℕ) → has_class b ≡ true → is_among b ms ≡ true → is_among b (only_class ms) ≡ true
among_class b [] c h = absurd (cc h)
among_class b (m ∷ ms) c h = elim (or_cases (m == b) (is_among b ms) h) [
  | inl t ↦
      let same : has_class m ≡ true = ap has_class (eqb-true m b t) ∙ c in
      ap (λ x. is_among b (cond x (m ∷ only_class ms) (only_class ms))) same
      ∙ or_left (m == b) (is_among b (only_class ms)) t
  | inr t ↦ by (has_class m) (among_class b ms c t)
]
  where
    by : (x : Bool) → is_among b (only_class ms) ≡ true → is_among b (cond x (m ∷ only_class ms) (only_class ms)) ≡ true
    by true k = or_right (m == b) (is_among b (only_class ms)) k
    by false k = k

-- The blocks of a class, one after another --------------------------------------------------------------------------

-- a chunk that is not due has fewer than 16 marks
few_marks : (script : Script) (core : Core) → is_due script core.open_chunk.turns core.future ≡ false
    → mark_count script core.open_chunk.turns < 16
few_marks script core due =
    let n = mark_count script core.open_chunk.turns in
    elim (cases_lt n 16) [
      | inl l ↦ l
      | inr l ↦ absurd (
          let full = le-leb 16 n l in
          let rest = nat_le 64 (entry_count core.open_chunk.turns) in
          both_ways (is_due script core.open_chunk.turns core.future) due
          (or_left (rest || (nat_le 16 n || nat_le 4194304 (staged_count core.open_chunk.turns)))
          (nat_le 1 (entry_count core.open_chunk.turns) &&
          (not (in_list core.open_chunk.turns) && stops_next core.future))
          (or_right rest (nat_le 16 n || nat_le 4194304 (staged_count core.open_chunk.turns))
          (or_left (nat_le 16 n) (nat_le 4194304 (staged_count core.open_chunk.turns)) full)))
          )
    ]

module _ (meaning : Meaning) (reading : Reading) (script : Script) (lawful : IsLawful meaning script) (core : Core)
    (k : Kept meaning reading script core) (h : ClassesRight script core) (class : ℕ) (less : class < 8)
    (all_made : 64 ≤ core.board.made class) where
  abbrev live : ℕ → Bool
  live = (in_order meaning script core.past at_start).live

  -- a buffer that holds one of the first blocks; one of them that the open chunk retired
  abbrev Holds : ℕ → ℕ → Type 0
  Holds n r = ((live r ≡ true) × (script.class r ≡ Some class))
      × ((j : ℕ) × (j < n) × (core.blocks r ≡ Some (class * 64 + j)))

  abbrev Retires : ℕ → ℕ → Type 0
  Retires n b = (b < class * 64 + n) × (is_among b (only_class (marks core.open_chunk)) ≡ true)

  record Counts (n : ℕ) : Type 0 where
    pub buffers : List ℕ
    pub blocks : List ℕ
    pub all : length buffers + length blocks ≡ n
    pub apart : Pairwise Differs buffers
    pub holds : AllByRecursion (Holds n) buffers
    pub others : Pairwise Differs blocks
    pub retires : AllByRecursion (Retires n) blocks

  holds_more : (n r : ℕ) → Holds n r → Holds (suc n) r
  holds_more n r x = let l = x.1.1 in (x.0, (x.1.0, omega (arith, l), x.1.2))

  retires_more : (n b : ℕ) → Retires n b → Retires (suc n) b
  retires_more n b x = let l = x.0 in (omega (arith, l), x.1)

  class_is : (o : Option ℕ) (n : ℕ) → n < 64 → IsFor o (class * 64 + n) → o ≡ Some class
  class_is None n l f = absurd (let z : ⊥ = omega (arith, l, f, less) in z)
  class_is (Some c) n l f = ap Some (one_class c class (class * 64 + n) f.1 ((omega arith), (omega (arith, l))))

  next : (n : ℕ) → n < 64 → Counts n → HasBlockFor core class ⊎ Counts (suc n)
  next n l c = by (stand (core.owner b)) refl
    where
      b : ℕ
      b = class * 64 + n

      by : (s : Stand) → stand (core.owner (class * 64 + n)) ≡ s → HasBlockFor core class ⊎ Counts (suc n)
      by Apart e = absurd (h.made class n less (omega (arith, l, all_made)) l e)
      by At_home e = let x = h.home class (class * 64 + n) less ((omega arith), (omega (arith, l))) e in
          inl (inr (inl (x.0, class * 64 + n, x.1)))
      by On_way e = inl (inr (inr (class * 64 + n, ((omega arith), (omega (arith, l))), inl e)))
      by (Held r) e =
          let x = h.held (class * 64 + n) r e in
          let here : Holds (suc n) r = (
            (k.good.stands.is_live r (class * 64 + n) x.0, class_is (script.class r) n l x.1),
            (n, (omega arith), x.0),
          ) in
          inr (record {
            buffers = r ∷ c.buffers;
            blocks = c.blocks;
            all = let a = c.all in omega (arith, a);
            apart = (
              all_map (Holds n) (Differs r)
                  (λ s y same.
                  let at : Some (class * 64 + n) ≡ Some (class * 64 + y.1.0) = sym x.0 ∙ ap core.blocks same ∙ y.1.2 in
                  let d : class * 64 + n ≡ class * 64 + y.1.0 = cc at in
                  let m = y.1.1 in
                  let z : ⊥ = omega (arith, d, m) in z) c.buffers c.holds,
              c.apart,
            );
            holds = (here, all_map (Holds n) (Holds (suc n)) (holds_more n) c.buffers c.holds);
            others = c.others;
            retires = all_map (Retires n) (Retires (suc n)) (retires_more n) c.blocks c.retires;
          })
      by (Gone j) e =
          let m = h.gone (class * 64 + n) j e in
          elim (cases_lt j (open_number core)) [
            | inl lt ↦ inl (inr (inr (class * 64 + n, ((omega arith), (omega (arith, l))), inr (j, e, lt))))
            | inr ge ↦
                let same : j ≡ open_number core = omega (arith, m, ge) in
                let of = of_class class (class * 64 + n) less ((omega arith), (omega (arith, l))) in
                let marked = among_class (class * 64 + n) (marks core.open_chunk) of
                (h.retired (class * 64 + n) (e ∙ ap Gone same) of) in
                inr (record {
                  buffers = c.buffers;
                  blocks = (class * 64 + n) ∷ c.blocks;
                  all = let a = c.all in omega (arith, a);
                  apart = c.apart;
                  holds = all_map (Holds n) (Holds (suc n)) (holds_more n) c.buffers c.holds;
                  others = (
                    all_map (Retires n) (Differs (class * 64 + n)) (λ s y same. let z : ⊥ =
                        (let q = y.0 in omega (arith, q, same)) in z) c.blocks c.retires,
                    c.others,
                  );
                  retires = (
                    ((omega arith), marked),
                    all_map (Retires n) (Retires (suc n)) (retires_more n)
                        c.blocks c.retires,
                  );
                })
          ]

  search_blocks : (n : ℕ) → n ≤ 64 → HasBlockFor core class ⊎ Counts n
  search_blocks zero l =
      inr (record { buffers = []; blocks = []; all = refl; apart = tt; holds = tt; others = tt; retires = tt })
  search_blocks (suc n) l = elim (search_blocks n (omega (arith, l)))
      [ inl x ↦ inl x | inr c ↦ next n (omega (arith, l)) c ]

  -- 64 are too many
  too_many : is_due script core.open_chunk.turns core.future ≡ false → Counts 64 → ⊥
  too_many due c =
      let held = lawful.few core.past core.future (sym k.good.sound.position) class c.buffers c.apart
      (all_map (Holds 64) (λ r. (live r ≡ true) × (script.class r ≡ Some class)) (λ r x. x.0) c.buffers c.holds)
      in
      let gone = no_longer c.blocks (only_class (marks core.open_chunk)) c.others
      (all_map (Retires 64) (λ b. is_among b (only_class (marks core.open_chunk)) ≡ true) (λ b x. x.1) c.blocks
      c.retires) in
      let f = h.few in
      let m = few_marks script core due in
      let a = c.all in
      omega (arith, held, gone, f, m, a)

-- App can take a block of the class, or one will come home
pub block_enough : (meaning : Meaning) (reading : Reading) (script : Script) → IsLawful meaning script
    → (core : Core) → Kept meaning reading script core → ClassesRight script core
    → is_due script core.open_chunk.turns core.future ≡ false → (class : ℕ) → class < 8 → HasBlockFor core class
block_enough meaning reading script lawful core k h due class less = elim (cases_lt (core.board.made class) 64) [
  | inl l ↦ inl l
  | inr l ↦ elim (search_blocks meaning reading script lawful core k h class less l 64 (omega arith)) [
    | inl x ↦ x
    | inr c ↦ absurd (too_many meaning reading script lawful core k h class less l due c)
  ]
]
