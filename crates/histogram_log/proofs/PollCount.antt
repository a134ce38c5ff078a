-- How many readbacks don't wait.
use Rattle.std.proofs.Common.{◌≡◌, ℕ, zero, suc, ◌+◌, ◌/◌, ◌%◌, Bool, true, false, cond, [], ◌∷◌, ◌++◌, refl, ap, arith}
use Rattle.std.specs.Prelude.{◌==◌, if◌then◌else◌}
use Rattle.std.specs.List.{count_by, sum_by}
use Rattle.std.proofs.lemmas.List.Sums.{sum_by-append, sum_by-cons}
use Rattle.std.proofs.lemmas.Bool.{eqb-true, eqb-false}
use Rattle.call_log.specs.Call.{Call, Dispatch, Copy, Update, MapWrite, MapRead}
use Rattle.call_log.specs.Put.{spell_words}
use Rattle.histogram_log.specs.Histogram.{opening, input_words, discard, update, poll, round, rounds, closing, histogram, is_poll}

abbrev weight : Call → ℕ
weight c = cond (is_poll c) 1 0

weightless : (c : Call) → is_poll c ≡ false → weight c ≡ 0
weightless c e = ap (λ (b : Bool). cond b 1 0) e

no_poll : (b : Bool) (c : Call) → is_poll c ≡ false → sum_by weight (if b then c ∷ [] else []) ≡ 0
no_poll true c e = omega (arith, weightless c e)
no_poll false c e = refl

poll_by : (b : Bool) → sum_by weight (if b then Copy 3 1 ∷ MapRead 3 1 0 1024 ∷ [] else []) ≡ (if b then 1 else 0)
poll_by true = refl
poll_by false = refl

round_polls : (i : ℕ) → sum_by weight (round i) ≡ (if i % 10 == 0 then 1 else 0)
round_polls i =
    omega (
      arith,
      sum_by-append weight (discard i) (update i ++ (Dispatch 1 1 1 ∷ poll i)),
      sum_by-append weight (update i) (Dispatch 1 1 1 ∷ poll i),
      sum_by-cons weight (Dispatch 1 1 1) (poll i),
      no_poll (i % 4 == 1) (MapWrite 2 0 0 (spell_words (input_words i 64))) refl,
      no_poll (i % 3 == 0) (Update 4 0 (spell_words (i ∷ 0 ∷ 0 ∷ 0 ∷ []))) refl,
      poll_by (i % 10 == 0),
    )

tenth : (n : ℕ) (b : Bool) → (suc n % 10 == 0) ≡ b → n / 10 + (if b then 1 else 0) ≡ suc n / 10
tenth n true e = let whole : suc n % 10 ≡ 0 = eqb-true _ _ e in omega arith
tenth n false e = let broken = eqb-false _ _ e in omega arith

rounds_polls : (n : ℕ) → sum_by weight (rounds n) ≡ n / 10
unfolding rounds
rounds_polls zero = refl
rounds_polls (suc n) =
    omega (
      arith,
      sum_by-append weight (rounds n) (round (suc n)),
      rounds_polls n,
      round_polls (suc n),
      tenth n
          (suc n % 10 == 0) refl,
    )

opening_polls : sum_by weight opening ≡ 0
opening_polls = refl

pub polls_are : (n : ℕ) → count_by is_poll (histogram n) ≡ n / 10
polls_are n =
    omega (
      arith,
      sum_by-append weight opening (rounds n ++ closing),
      sum_by-append weight
          (rounds n) closing,
      opening_polls,
      rounds_polls n,
    )
