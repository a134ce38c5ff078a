-- Where a script is cut: behind all turns of some calls, and some turns of the next one.
use Rattle.std.proofs.Common.{◌≡◌, ℕ, zero, suc, ◌≤◌, List, [], ◌∷◌, ◌++◌, refl, sym, ap, ◌∙◌, inl, inr, ◌⊎◌, arith}
use Rattle.std.proofs.Common.{append-nil}
use Rattle.call_log.specs.Call.{Issued}
use Rattle.core_model.specs.Script.{Turn}
use Rattle.log_script.specs.Turns.{turns_of}
use Rattle.log_script.specs.LogScript.{turns_upto}
use Rattle.log_script.proofs.Owed.LiveBuffers.{no_turns, next_turns}

tail_of : List Turn → List Turn
tail_of [] = []
tail_of (t ∷ ts) = ts

head_of : Turn → List Turn → Turn
head_of d [] = d
head_of d (t ∷ ts) = t

pub same_tail : (t u : Turn) (ts us : List Turn) → t ∷ ts ≡ u ∷ us → ts ≡ us
unfolding tail_of
same_tail t u ts us e = ap tail_of e

pub same_head : (t u : Turn) (ts us : List Turn) → t ∷ ts ≡ u ∷ us → t ≡ u
unfolding head_of
same_head t u ts us e = ap (head_of t) e

not_none : (t : Turn) (ts : List Turn) → [] ≡ t ∷ ts → ⊥
not_none t ts e = cc

-- nothing is cut into nothing
pub front_none : (front back : List Turn) → [] ≡ front ++ back → front ≡ []
front_none [] back e = refl
front_none (t ∷ front) back e = absurd (not_none t (front ++ back) e)

-- a front of two lists, one behind the other, ends in the first or in the second
pub front_of_two : (xs ys front back : List Turn) → xs ++ ys ≡ front ++ back
    → ((mid : List Turn) × (xs ≡ front ++ mid) × (back ≡ mid ++ ys))
    ⊎ ((mid : List Turn) × (front ≡ xs ++ mid) × (ys ≡ mid ++ back))
front_of_two [] ys front back e = inr (front, refl, e)
front_of_two (x ∷ xs) ys [] back e = inl (x ∷ xs, refl, sym e)
front_of_two (x ∷ xs) ys (f ∷ front) back e =
    let first : x ≡ f = same_head x f (xs ++ ys) (front ++ back) e in
    elim (front_of_two xs ys front back (same_tail x f (xs ++ ys) (front ++ back) e)) [
      | inl s ↦ inl (s.0, λ i. first i ∷ s.1 i, s.2)
      | inr s ↦ inr (s.0, λ i. sym first i ∷ s.1 i, s.2)
    ]

-- a front of one turn has it or not
pub front_of_one : (t : Turn) (front back : List Turn) → t ∷ [] ≡ front ++ back → (front ≡ []) ⊎ (front ≡ t ∷ [])
front_of_one t [] back e = inl refl
front_of_one t (f ∷ front) back e =
    let first : t ≡ f = same_head t f [] (front ++ back) e in
    let none : front ≡ [] = front_none front back (same_tail t f [] (front ++ back) e) in
    inr (λ i. sym first i ∷ none i)

-- a front of the turns of the first `upto` calls: those of the first `calls`, and `part` of those of the next
pub record FrontOf (log : List Issued) (upto : ℕ) (front : List Turn) : Type 0 where
  pub calls : ℕ
  pub part : List Turn
  pub rest : List Turn
  pub within : calls ≤ upto
  pub front_is : front ≡ turns_upto log calls ++ part
  pub next_is : turns_of log (suc calls) ≡ part ++ rest

pub front_of_turns : (log : List Issued) (upto : ℕ) (front back : List Turn) → turns_upto log upto ≡ front ++ back
    → FrontOf log upto front
front_of_turns log zero front back e =
    let none : front ≡ [] = front_none front back (sym (no_turns log) ∙ e) in
    record {
      calls = 0;
      part = [];
      rest = turns_of log 1;
      within = omega arith;
      front_is = none ∙ sym (no_turns log) ∙ sym (append-nil (turns_upto log zero));
      next_is = refl;
    }
front_of_turns log (suc upto) front back e =
    elim (front_of_two (turns_upto log upto) (turns_of log (suc upto)) front back (sym (next_turns log upto) ∙ e)) [
      | inl s ↦
          let f = front_of_turns log upto front s.0 s.1 in
          record {
            calls = f.calls;
            part = f.part;
            rest = f.rest;
            within = omega (arith, f.within);
            front_is =
                f.front_is;
            next_is = f.next_is;
          }
      | inr s ↦ record { calls = upto; part = s.0; rest = back; within = omega arith; front_is = s.1; next_is = s.2 }
    ]
