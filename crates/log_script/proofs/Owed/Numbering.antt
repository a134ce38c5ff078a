-- Turns are numbered by their calls, which rise where no list goes on.
use Rattle.std.proofs.Common.{◌≡◌, ℕ, zero, suc, ◌<◌, ◌≤◌, Bool, true, false, not, List, [], ◌∷◌, ◌++◌, length}
use Rattle.std.proofs.Common.{Option, Some, None, refl, sym, subst, arith}
use Rattle.std.specs.Prelude.{◌==◌, if◌then◌else◌}
use Rattle.dx_types.specs.declared.refusal.Refusal.{Refusal}
use Rattle.call_log.specs.Call as calls
use Rattle.call_log.specs.Call.{Call, Issued}
use Rattle.d3d_model.specs.D3dState.{Objects, Numbered, calls_of_list}
use Rattle.d3d_model.specs.Effect.{played, list_start}
use Rattle.d3d_model.specs.Past.{Past}
use Rattle.d3d_model.specs.Verdict.{Place, OnDevice, OnImmediate, OnEach, OnDeferred, place_of}
use Rattle.d3d_model.specs.InOrder.{State, verdict_in, before_call, call_at}
use Rattle.core_model.specs.Script.{Turn, Passed}
use Rattle.core_model.specs.Chunking.{call_of, ends_call, is_entry}
use Rattle.core_model.specs.Lawful.{ComesNext}
use Rattle.log_script.specs.Turns.{item_of, list_items, immediate_turns, turns_by_place, turns_unless, turns_in}
use Rattle.log_script.specs.Turns.{turns_of}
use Rattle.log_script.specs.LogScript.{turns_upto, script_of}

-- behind this call a later one comes, or, where the call goes on, an item of it
abbrev Behind : Bool → ℕ → Turn → Type 0
Behind false last t = last < call_of t
Behind true last t = (is_entry t ≡ true) × (call_of t ≡ last)

-- these turns come one behind the other, up to a call, and the last one ends its call
abbrev InTurn : Bool → ℕ → ℕ → List Turn → Type 0
InTurn running last most [] = running ≡ false
InTurn running last most (t ∷ ts) = Behind running last t × ((call_of t ≤ most)
    × InTurn (not (ends_call t)) (call_of t) most ts)

more : (running : Bool) (last most later : ℕ) (ts us : List Turn) → InTurn running last most ts → last ≤ most
    → most ≤ later
    → ((l : ℕ) → l ≤ most → InTurn false l later us) → InTurn running last later (ts ++ us)
more running last most later [] us h in_most up rest = subst (λ b. InTurn b last later us) (sym h) (rest last in_most)
more running last most later (t ∷ ts) us h in_most up rest =
    (h.0, (omega (arith, h.1.0, up), more (not (ends_call t)) (call_of t) most later ts us h.1.1 h.1.0 up rest))

-- ---- the turns of a call

in_list : (n : ℕ) (past : Past) (o : Objects) (cs : List Numbered) (running : Bool) (last : ℕ)
    → ((t : Turn) → call_of t ≡ n → is_entry t ≡ true → Behind running last t)
    → InTurn running last n (list_items n past o cs)
in_list n past o [] running last behind = (behind _ refl refl, (omega arith, refl))
in_list n past o (c ∷ cs) running last behind = (
  behind (item_of n c.number false past o c.call) refl refl,
  (omega arith, in_list n past (played n o c.call) cs true n (λ t is entry. (entry, is))),
)

of_immediate : (n last : ℕ) (s : State) (c : Call) → last < n → InTurn false last n (immediate_turns n s c)
of_immediate n last s (calls.ExecuteList list flag) less =
    in_list n s.past (list_start s.objects) (calls_of_list s.objects list) false last
    (λ t is entry. omega (arith, less, is))
of_immediate n last s (calls.MapRead res flag offset len) less = (less, (omega arith, refl))
of_immediate n last s (calls.GetData query flag) less = (less, (omega arith, refl))
of_immediate n last s _ less = (less, (omega arith, refl))

of_place : (p : Place) (n last : ℕ) (s : State) (x : ℕ) (c : Call) → last < n
    → InTurn false last n (turns_by_place p n s x c)
of_place OnDevice n last s x c less = (less, (omega arith, refl))
of_place OnImmediate n last s x c less = of_immediate n last s c less
of_place OnEach n last s x c less =
    elim (x == 0) as
    (λ b. InTurn false last n (if b then item_of n n true s.past s.objects c ∷ [] else Passed n ∷ [])) [
      | true ↦ (less, (omega arith, refl))
      | false ↦ (less, (omega arith, refl))
    ]
of_place OnDeferred n last s x c less = (less, (omega arith, refl))

of_call : (n last : ℕ) (s : State) (o : Option Issued) → last < n → InTurn false last n (turns_in n s o)
of_call n last s None less = refl
of_call n last s (Some i) less = unless (verdict_in s i)
  where
    unless : (v : Option Refusal) → InTurn false last n (turns_unless n s i v)
    unless (Some why) = (less, (omega arith, refl))
    unless None = of_place (place_of i.call) n last s i.context i.call less

-- ---- the turns of a script

all_calls : (log : List Issued) (n : ℕ) → InTurn false 0 n (turns_upto log n)
unfolding turns_upto
all_calls log zero = refl
all_calls log (suc n) =
    more false 0 n (suc n) (turns_upto log n) (turns_of log (suc n)) (all_calls log n) (omega arith) (omega arith)
    (λ l le. of_call (suc n) l (before_call log (suc n)) (call_at log (suc n)) (omega (arith, le)))

above_zero : (running : Bool) (last : ℕ) (t : Turn) → (running ≡ true → 0 < last) → Behind running last t
    → 0 < call_of t
above_zero true last t above h = omega (arith, above refl, h.1)
above_zero false last t above h = omega (arith, h)

number_amid : (running : Bool) (last most : ℕ) (front : List Turn) (t : Turn) (back : List Turn)
    → (running ≡ true → 0 < last)
    → InTurn running last most (front ++ t ∷ back) → 0 < call_of t
number_amid running last most [] t back above h = above_zero running last t above h.0
number_amid running last most (f ∷ front) t back above h =
    number_amid (not (ends_call f)) (call_of f) most front t back (λ e. above_zero running last f above h.0) h.1.1

comes_next : (ends : Bool) (n : ℕ) (u : Turn) → Behind (not ends) n u → (ends ≡ true → n < call_of u)
    × (ends ≡ false → (is_entry u ≡ true) × (call_of u ≡ n))
comes_next true n u h = ((λ e. h), (λ e. absurd cc))
comes_next false n u h = ((λ e. absurd cc), (λ e. h))

next_amid : (running : Bool) (last most : ℕ) (front : List Turn) (t u : Turn) (back : List Turn)
    → InTurn running last most (front ++ t ∷ u ∷ back) → ComesNext t u
next_amid running last most [] t u back h = comes_next (ends_call t) (call_of t) u h.1.1.0
next_amid running last most (f ∷ front) t u back h = next_amid (not (ends_call f)) (call_of f) most front t u back h.1.1

pub numbers : (log : List Issued) (front : List Turn) (t : Turn) (back : List Turn)
    → (script_of log).turns ≡ front ++ t ∷ back → 0 < call_of t
numbers log front t back e =
    number_amid false 0 (length log) front t back (λ e. absurd cc)
    (subst (λ ts. InTurn false 0 (length log) ts) e (all_calls log (length log)))

pub next : (log : List Issued) (front : List Turn) (t u : Turn) (back : List Turn)
    → (script_of log).turns ≡ front ++ t ∷ u ∷ back → ComesNext t u
next log front t u back e =
    next_amid false 0 (length log) front t u back (subst (λ ts. InTurn false 0 (length log) ts) e
    (all_calls log (length log)))

ends_amid : (running : Bool) (last most : ℕ) (front : List Turn) (t : Turn)
    → InTurn running last most (front ++ t ∷ []) → ends_call t ≡ true
ends_amid running last most [] t h = is_true (ends_call t) h.1.1
  where
    is_true : (b : Bool) → not b ≡ false → b ≡ true
    is_true true e = refl
    is_true false e = absurd cc
ends_amid running last most (f ∷ front) t h = ends_amid (not (ends_call f)) (call_of f) most front t h.1.1

-- the last turn ends its call
pub last_ends : (log : List Issued) (front : List Turn) (t : Turn) → (script_of log).turns ≡ front ++ t ∷ []
    → ends_call t ≡ true
last_ends log front t e = ends_amid false 0 (length log) front t
    (subst (λ ts. InTurn false 0 (length log) ts) e (all_calls log (length log)))
