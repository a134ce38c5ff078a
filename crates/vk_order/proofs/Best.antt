-- The least break so far is the first one, once each act was compared with all behind it.
use Rattle.std.proofs.Common.{◌≡◌, ℕ, ◌+◌, ◌<◌, ◌≤◌, ◌↔◌, true, false, List, length, sym, subst, inl, inr, Result, Ok, Err, IsOk, IfErr, refl, arith}
use Rattle.std.proofs.lemmas.Bool.{both_ways, cases_lt}
use Rattle.vk_types.specs.declared.op.VkOp.{VkOp}
use Rattle.vk_types.specs.Covered.{uncovered, Covered, IsFirstBreak}
use Rattle.vk_order.specs.declared.hazards.Uncovered.{Uncovered}
use Rattle.vk_order.proofs.Open.{backward, all_seconds}

-- the break is the first one with its second place
pub record IsBreak (ops : List VkOp) (bound : ℕ) (u : Uncovered) : Type 0 where
  pub second : u.second ≡ bound
  pub here : uncovered ops u.first bound ≡ true
  pub least : (x : ℕ) → x < u.first → uncovered ops x bound ≡ false

-- so far none was found, or this one
abbrev pub IsEnd : List VkOp → ℕ → Result Unit Uncovered → Type 0
IsEnd ops bound (Ok t) = bound ≡ length ops
IsEnd ops bound (Err u) = IsBreak ops bound u

-- every act that is there was compared
abbrev pub AllBelow : List VkOp → ℕ → Type 0
AllBelow ops bound = (x y : ℕ) → x < length ops → y < bound → uncovered ops x y ≡ false

none_below : (ops : List VkOp) (bound : ℕ) → bound ≤ length ops → AllBelow ops bound → (x y : ℕ) → y < bound → uncovered ops x y ≡ false
none_below ops bound le all x y l =
    elim (cases_lt x y) [
      | inl before_it ↦ all x y (omega (arith, le, l, before_it)) l
      | inr behind ↦ backward ops x y behind
    ]

pub ok_is_covered : (ops : List VkOp) (bound : ℕ) → bound ≤ length ops → AllBelow ops bound → (end : Result Unit Uncovered) → IsEnd ops bound end → IsOk end ↔ Covered ops
ok_is_covered ops bound le all (Ok t) e = (λ _. all_seconds ops bound (omega (arith, e)) (none_below ops bound le all), λ _. refl)
ok_is_covered ops bound le all (Err u) e = (λ no. absurd (cc no), λ c. absurd (both_ways (uncovered ops u.first bound) (c u.first bound) e.here))

pub err_is_first : (ops : List VkOp) (bound : ℕ) → bound ≤ length ops → AllBelow ops bound → (end : Result Unit Uncovered) → IsEnd ops bound end
    → IfErr end (λ u. IsFirstBreak ops u.first u.second)
err_is_first ops bound le all (Ok t) e = tt
err_is_first ops bound le all (Err u) e =
    subst (λ n. IsFirstBreak ops u.first n) (sym e.second) (record { here = e.here; none_before = none_below ops bound le all; least = e.least })

-- the acts before this place were compared with all behind them, up to a bound
abbrev pub Compared : List VkOp → ℕ → ℕ → Type 0
Compared ops first bound = (x y : ℕ) → x < first → y < bound → uncovered ops x y ≡ false

-- what an act's comparison leaves: a lower bound, where it found a break below the old one
pub compared_next : (ops : List VkOp) (first bound second least : ℕ) → Compared ops first bound → ((y : ℕ) → y < second → uncovered ops first y ≡ false)
    → least ≤ bound → least ≤ second → Compared ops (first + 1) least
compared_next ops first bound second least before_it here lb ls x y l k =
    elim (cases_lt x first) [
      | inl less ↦ before_it x y less (omega (arith, lb, k))
      | inr more ↦
          let same : x ≡ first = omega (arith, l, more) in
          subst (λ z. uncovered ops z y ≡ false) (sym same) (here y (omega (arith, ls, k)))
    ]

pub break_found : (ops : List VkOp) (first bound second : ℕ) → Compared ops first bound → second < bound → uncovered ops first second ≡ true
    → let u : Uncovered = record { first = first; second = second } in IsBreak ops second u
break_found ops first bound second before_it l here = record { second = refl; here = here; least = λ x k. before_it x second k l }
