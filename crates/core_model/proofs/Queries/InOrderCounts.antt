-- The invocations that turns run in order, as sums over the numbers of the commands that they make.
use Rattle.std.proofs.Common.{◌≡◌, ℕ, zero, suc, ◌+◌, ◌-◌, ◌<◌, ◌≤◌, true, false, subst, List, [], ◌∷◌, ◌++◌, refl}
use Rattle.std.proofs.Common.{sym, ap, ◌∙◌, ◌⊎◌, inl, inr, Some, None, arith}
use Rattle.base_lemmas.specs.Lists.{numbers_from}
use Rattle.vk_types.specs.Memory.{number_at}
use Rattle.vk_types.specs.Effects.{Meaning}
use Rattle.core_model.specs.Script.{Create, Discard, No_overwrite, Stage, Command, Destroy, Create_shader, Mark_query}
use Rattle.core_model.specs.Script.{Set_state, Turn, Refused, Passed, Flushed, Asked, Item, Script, InOrder, at_start}
use Rattle.core_model.specs.Script.{turn_in_order, in_order}
use Rattle.core_model.specs.OtherParts.{sum_from}
use Rattle.core_model.specs.Queries.{turn_runs, runs_in_order, count_in_order, commands_by, commands_in}

-- Sums ----------------------------------------------------------------------------------------------------------------

pub sum_split : (f : ℕ → ℕ) (a first b : ℕ) → sum_from f first (a + b) ≡ sum_from f first a + sum_from f (first + a) b
sum_split f zero first b =
    let e : first + 0 ≡ first = omega arith in
    let n : 0 + b ≡ b = omega arith in
    let m = ap (sum_from f first) n in
    let s = ap (λ k. sum_from f k b) e in
    omega (arith, m, s)
sum_split f (suc a) first b =
    let r = sum_split f a (suc first) b in
    let e : suc first + a ≡ first + suc a = omega arith in
    let s = ap (λ k. sum_from f k b) e in
    let n : suc a + b ≡ suc (a + b) = omega arith in
    let m = ap (sum_from f first) n in
    omega (arith, r, s, m)

pub sum_same : (f g : ℕ → ℕ) (n first : ℕ) → ((m : ℕ) → first ≤ m → m < first + n → f m ≡ g m)
    → sum_from f first n ≡ sum_from g first n
sum_same f g zero first h = refl
sum_same f g (suc n) first h =
    let a = h first (omega arith) (omega arith) in
    let r = sum_same f g n (suc first) (λ m l u. h m (omega (arith, l)) (omega (arith, u))) in
    omega (arith, a, r)

-- what lies between two places is the difference of what lies below them
pub sum_between : (f : ℕ → ℕ) (first last : ℕ) → sum_from f 0 last - sum_from f 0 first
    ≡ sum_from f first (last - first)
sum_between f first last = elim (by_order first last) [
  | inl l ↦
      let e : last ≡ first + (last - first) = omega (arith, l) in
      let s = ap (λ n. sum_from f 0 n) e ∙ sum_split f first 0 (last - first) in
      let z : 0 + first ≡ first = omega arith in
      let t = ap (λ n. sum_from f n (last - first)) z in
      omega (arith, s, t)
  | inr l ↦
      let e : first ≡ last + (first - last) = omega (arith, l) in
      let s = ap (λ n. sum_from f 0 n) e ∙ sum_split f last 0 (first - last) in
      let z : last - first ≡ 0 = omega (arith, l) in
      let t = ap (λ n. sum_from f first n) z in
      omega (arith, s, t)
]
  where
    by_order : (a b : ℕ) → (a ≤ b) ⊎ (b ≤ a)
    by_order zero b = inl (omega arith)
    by_order (suc a) zero = inr (omega arith)
    by_order (suc a) (suc b) = elim (by_order a b) [ inl l ↦ inl (omega (arith, l)) | inr l ↦ inr (omega (arith, l)) ]

-- numbers one after another, and those behind them
pub numbers_more : (a first b : ℕ) → numbers_from first (a + b) ≡ numbers_from first a ++ numbers_from (first + a) b
numbers_more zero first b =
    let e : first ≡ first + 0 = omega arith in
    let n : 0 + b ≡ b = omega arith in
    ap (numbers_from first) n ∙ ap (λ k. numbers_from k b) e
numbers_more (suc a) first b =
    let n : suc a + b ≡ suc (a + b) = omega arith in
    let e : suc first + a ≡ first + suc a = omega arith in
    ap (numbers_from first) n ∙ ap (λ l. first ∷ l) (numbers_more a (suc first) b
    ∙ ap (λ k. numbers_from (suc first) a ++ numbers_from k b) e)

-- A turn makes a command or none ------------------------------------------------------------------------------------

abbrev RunsNone : Meaning → Script → Turn → InOrder → Type 0
RunsNone meaning script t s = (commands_by t ≡ 0) × (turn_runs meaning t s ≡ [])
    × ((turn_in_order meaning script t s).total ≡ s.total)

abbrev RunsOne : Meaning → Script → Turn → InOrder → Type 0
RunsOne meaning script t s = (x : ℕ) × (commands_by t ≡ 1) × (turn_runs meaning t s ≡ x ∷ [])
    × ((turn_in_order meaning script t s).total ≡ s.total + x)

runs_cases : (meaning : Meaning) (script : Script) (t : Turn) (s : InOrder) → RunsNone meaning script t s
    ⊎ RunsOne meaning script t s
runs_cases meaning script (Refused call) s = inl (refl, refl, refl)
runs_cases meaning script (Passed call) s = inl (refl, refl, refl)
runs_cases meaning script (Flushed call) s = inl (refl, refl, refl)
runs_cases meaning script (Asked call ask used may_pend) s = inl (refl, refl, refl)
runs_cases meaning script (Item call item ends (Create buffer bytes) bound) s = inl (refl, refl, refl)
runs_cases meaning script (Item call item ends (Discard buffer from bytes) bound) s = inl (refl, refl, refl)
runs_cases meaning script (Item call item ends (No_overwrite buffer from bytes) bound) s = inl (refl, refl, refl)
runs_cases meaning script (Item call item ends (Stage [] target skip) bound) s = inl (refl, refl, refl)
runs_cases meaning script (Item call item ends (Stage (b ∷ bs) None skip) bound) s = inl (refl, refl, refl)
runs_cases meaning script (Item call item ends (Stage (b ∷ bs) (Some target) skip) bound) s =
    inr (0, refl, refl, (omega arith))
runs_cases meaning script (Item call item ends (Command w skip) bound) s = inr (_, refl, refl, refl)
runs_cases meaning script (Item call item ends (Destroy buffer) bound) s = inl (refl, refl, refl)
runs_cases meaning script (Item call item ends Create_shader bound) s = inl (refl, refl, refl)
runs_cases meaning script (Item call item ends (Mark_query query true) bound) s = inl (refl, refl, refl)
runs_cases meaning script (Item call item ends (Mark_query query false) bound) s = inl (refl, refl, refl)
runs_cases meaning script (Item call item ends Set_state bound) s = inl (refl, refl, refl)

-- from a place on the function is a list's numbers
abbrev IsFrom : (ℕ → ℕ) → ℕ → List ℕ → Type 0
IsFrom f k ns = (i : ℕ) → f (k + i) ≡ number_at ns i

is_from_next : (f : ℕ → ℕ) (k x : ℕ) (ns : List ℕ) → IsFrom f k (x ∷ ns) → (f k ≡ x) × IsFrom f (suc k) ns
is_from_next f k x ns h = (
  (let e : k ≡ k + 0 = omega arith in ap f e ∙ h 0),
  (λ i. let e : suc k + i ≡ k + suc i = omega arith in ap f e ∙ h (suc i)),
)

-- what a front of the turns runs is the sum over its commands
sums_from : (meaning : Meaning) (script : Script) (f : ℕ → ℕ) (front back : List Turn) (k : ℕ) (s : InOrder)
    → IsFrom f k (runs_in_order meaning script (front ++ back) s)
    → (in_order meaning script front s).total ≡ s.total + sum_from f k (commands_in front)
sums_from meaning script f [] back k s h = omega arith
sums_from meaning script f (t ∷ ts) back k s h =
    let after = turn_in_order meaning script t s in
    let rest = runs_in_order meaning script (ts ++ back) after in
    elim (runs_cases meaning script t s) [
      | inl n ↦
          let here : IsFrom f k rest = subst (λ l. IsFrom f k (l ++ rest)) n.1 h in
          let r = sums_from meaning script f ts back k after here in
          let c : commands_in (t ∷ ts) ≡ commands_in ts = ap (λ m. m + commands_in ts) n.0
          ∙ zero_more (commands_in ts) in
          let total = n.2 in
          r ∙ ap (λ m. m + sum_from f k (commands_in ts)) total ∙ ap (λ m. s.total + sum_from f k m) (sym c)
      | inr n ↦
          let here : IsFrom f k (n.0 ∷ rest) = subst (λ l. IsFrom f k (l ++ rest)) n.2 h in
          let next = is_from_next f k n.0 rest here in
          let r = sums_from meaning script f ts back (suc k) after next.1 in
          let c : commands_in (t ∷ ts) ≡ suc (commands_in ts) = ap (λ m. m + commands_in ts) n.1
          ∙ one_more (commands_in ts) in
          let total = n.3 in
          let first = next.0 in
          let all = ap (sum_from f k) c in
          omega (arith, r, total, first, all)
    ]
  where
    zero_more : (n : ℕ) → 0 + n ≡ n
    zero_more n = omega arith

    one_more : (n : ℕ) → 1 + n ≡ suc n
    one_more n = omega arith

-- of a whole script
pub sums : (meaning : Meaning) (script : Script) (front back : List Turn) → script.turns ≡ front ++ back
    → (in_order meaning script front at_start).total ≡ sum_from (count_in_order meaning script) 1 (commands_in front)
sums meaning script front back e =
    let all = runs_in_order meaning script script.turns at_start in
    let r = sums_from meaning script (count_in_order meaning script) front back 1 at_start
    (λ i. (let z : 1 + i ≡ suc i = omega arith in ap (number_at (0 ∷ all)) z)
    ∙ ap (λ l. number_at (runs_in_order meaning script l at_start) i) e) in
    omega (arith, r)

pub commands_append : (xs ys : List Turn) → commands_in (xs ++ ys) ≡ commands_in xs + commands_in ys
commands_append [] ys = omega arith
commands_append (x ∷ xs) ys = let r = commands_append xs ys in omega (arith, r)
