-- How long the log of a histogram is.
use Rattle.std.proofs.Common.{◌≡◌, ℕ, zero, suc, ◌+◌, ◌*◌, ◌%◌, ◌≤◌, Bool, true, false, List, [], ◌∷◌, ◌++◌, length, refl, arith}
use Rattle.std.specs.Prelude.{◌==◌, if◌then◌else◌, map}
use Rattle.std.specs.List.{flat_map, sum_by}
use Rattle.std.proofs.lemmas.List.{length-append}
use Rattle.std.proofs.lemmas.List.Sums.{sum_by-append, sum_by-cons}
use Rattle.dx_types.specs.declared.limits.TheConstants.{MAX_INPUT, MAX_ROUNDS}
use Rattle.call_log.specs.Call.{Call, Dispatch, Copy, Update, MapWrite, MapRead}
use Rattle.call_log.specs.Grammar.{header, end_record, spell}
use Rattle.call_log.specs.Put.{spell_words, frame_of, body_length}
use Rattle.call_log.proofs.ReadBack.{length-body_of_call}
use Rattle.histogram_log.specs.Histogram.{opening, input_words, discard, update, poll, round, rounds, closing, histogram}
use Rattle.histogram_log.specs.Logged.{spelled, log_of}
use Rattle.histogram_log.proofs.Calls.{length_values, length_constant}

-- the bytes of a call's record
abbrev size : Call → ℕ
size c = 8 + body_length c

length_record : (c : Call) → length (spell (frame_of 0 c)) ≡ size c
length_record c = omega (arith, length-body_of_call c)

length-spelled : (cs : List Call) → length (spelled cs) ≡ sum_by size cs
unfolding spelled
length-spelled [] = refl
length-spelled (c ∷ cs) =
    omega (
      arith,
      length-append (spell (frame_of 0 c))
          (flat_map spell (map (frame_of 0) cs)),
      sum_by-cons size c cs,
      length_record c,
      length-spelled cs,
    )

chosen_size : (b : Bool) (cs : List Call) → sum_by size (if b then cs else []) ≤ sum_by size cs
chosen_size true cs = omega arith
chosen_size false cs = omega arith

round_size : (i : ℕ) → sum_by size (round i) ≤ 376
round_size i =
    omega (
      arith,
      sum_by-append size (discard i) (update i ++ (Dispatch 1 1 1 ∷ poll i)),
      sum_by-append size (update i) (Dispatch 1 1 1 ∷ poll i),
      sum_by-cons size (Dispatch 1 1 1) (poll i),
      chosen_size (i % 4 == 1) (MapWrite 2 0 0 (spell_words (input_words i 64)) ∷ []),
      chosen_size (i % 3 == 0) (Update 4 0 (spell_words (i ∷ 0 ∷ 0 ∷ 0 ∷ [])) ∷ []),
      chosen_size (i % 10 == 0) (Copy 3 1 ∷ MapRead 3 1 0 1024 ∷ []),
      length_values i,
      length_constant i,
    )

rounds_size : (n : ℕ) → sum_by size (rounds n) ≤ 376 * n
unfolding rounds
rounds_size zero = omega arith
rounds_size (suc n) = omega (arith, sum_by-append size (rounds n) (round (suc n)), rounds_size n, round_size (suc n))

opening_size : sum_by size opening ≡ 548
unfolding spell_words
opening_size = refl

pub short_log : (n : ℕ) → n ≤ MAX_ROUNDS → length (log_of (histogram n)) ≤ MAX_INPUT
short_log n few =
    omega (
      arith,
      length-append header (spelled (histogram n) ++ end_record),
      length-append (spelled (histogram n)) end_record,
      length-spelled (histogram n),
      sum_by-append size opening (rounds n ++ closing),
      sum_by-append size (rounds n) closing,
      opening_size,
      rounds_size n,
    )
