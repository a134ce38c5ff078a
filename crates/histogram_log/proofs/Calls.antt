-- What holds of each call of a histogram.
use Rattle.std.proofs.Common.{◌≡◌, ℕ, zero, suc, ◌%◌, ◌^◌, ◌<◌, Bool, true, false, ◌&&◌, ltb, List, [], ◌∷◌, ◌++◌, length, refl, sym, subst, arith}
use Rattle.std.specs.Prelude.{◌==◌, if◌then◌else◌}
use Rattle.std.specs.List.{AllByRecursion}
use Rattle.std.proofs.lemmas.Bool.{ltb-true}
use Rattle.base_lemmas.specs.Lists.{all_pass}
use Rattle.base_lemmas.proofs.Lists.{all_append}
use Rattle.call_log.specs.Call.{Call, CreateShader, Dispatch, Copy, Update, MapWrite, MapRead}
use Rattle.call_log.specs.Put.{spell_words, words_of_call, body_length, fits_kind, AreWords, IsPuttable}
use Rattle.call_log.proofs.Words.{length-spell_words}
use Rattle.histogram_log.specs.Histogram.{opening, shader_tokens, input_words, discard, update, poll, round, rounds, closing, histogram}
use Rattle.histogram_log.specs.Logged.{IsSpelt, AreSpelt}
use Rattle.histogram_log.proofs.Spelled.{length-input_words}

chosen : (P : Call → Type 0) (b : Bool) (cs : List Call) → AllByRecursion P cs → AllByRecursion P (if b then cs else [])
chosen P true cs h = h
chosen P false cs h = tt

pub all_round : (P : Call → Type 0) → ((i : ℕ) → P (MapWrite 2 0 0 (spell_words (input_words i 64))))
    → ((i : ℕ) → P (Update 4 0 (spell_words (i ∷ 0 ∷ 0 ∷ 0 ∷ [])))) → P (Dispatch 1 1 1)
    → AllByRecursion P (Copy 3 1 ∷ MapRead 3 1 0 1024 ∷ []) → (i : ℕ) → AllByRecursion P (round i)
all_round P writes updates dispatches polls i =
    all_append P (discard i) (update i ++ (Dispatch 1 1 1 ∷ poll i))
    (chosen P (i % 4 == 1) (MapWrite 2 0 0 (spell_words (input_words i 64)) ∷ []) (writes i, tt))
    (all_append P (update i) (Dispatch 1 1 1 ∷ poll i)
    (chosen P (i % 3 == 0) (Update 4 0 (spell_words (i ∷ 0 ∷ 0 ∷ 0 ∷ [])) ∷ []) (updates i, tt))
    (dispatches, chosen P (i % 10 == 0) (Copy 3 1 ∷ MapRead 3 1 0 1024 ∷ []) polls))

all_rounds : (P : Call → Type 0) → ((i : ℕ) → AllByRecursion P (round i)) → (n : ℕ) → AllByRecursion P (rounds n)
unfolding rounds
all_rounds P each zero = tt
all_rounds P each (suc n) = all_append P (rounds n) (round (suc n)) (all_rounds P each n) (each (suc n))

pub all_calls : (P : Call → Type 0) → AllByRecursion P opening → ((i : ℕ) → AllByRecursion P (round i))
    → AllByRecursion P closing → (n : ℕ) → AllByRecursion P (histogram n)
all_calls P opens each closes n =
    all_append P opening (rounds n ++ closing) opens (all_append P (rounds n) closing (all_rounds P each n) closes)

-- ---- each is spelt

all_below : List ℕ → Bool
all_below ws = all_pass (λ w. ltb w (2 ^ 32)) ws

both_true : (a b : Bool) → a && b ≡ true → (a ≡ true) × (b ≡ true)
both_true true true e = (refl, refl)
both_true true false e = absurd cc
both_true false b e = absurd cc

are_words : (ws : List ℕ) → all_below ws ≡ true → AreWords ws
unfolding all_below
are_words [] e = tt
are_words (w ∷ ws) e = let b = both_true (ltb w (2 ^ 32)) (all_below ws) e in (ltb-true _ _ b.0, are_words ws b.1)

spelt_test : Call → Bool
spelt_test c = ltb (body_length c) (2 ^ 32) && (fits_kind c && all_below (words_of_call c))

is_spelt : (c : Call) → spelt_test c ≡ true → IsSpelt c
unfolding spelt_test
is_spelt c e =
    let b = both_true (ltb (body_length c) (2 ^ 32)) (fits_kind c && all_below (words_of_call c)) e in
    let d = both_true (fits_kind c) (all_below (words_of_call c)) b.1 in
    record { puttable = record { small = ltb-true _ _ b.0; fits = d.0 }; words = are_words (words_of_call c) d.1 }

are_spelt : (cs : List Call) → all_pass spelt_test cs ≡ true → AreSpelt cs
are_spelt [] e = tt
are_spelt (c ∷ cs) e = let b = both_true (spelt_test c) (all_pass spelt_test cs) e in (is_spelt c b.0, are_spelt cs b.1)

opens : all_pass spelt_test opening ≡ true
unfolding spelt_test all_below spell_words
opens = refl

pub opening_spelt : AreSpelt opening
opening_spelt = are_spelt opening opens

closes : all_pass spelt_test closing ≡ true
unfolding spelt_test all_below
closes = refl

pub closing_spelt : AreSpelt closing
closing_spelt = are_spelt closing closes

dispatches : all_pass spelt_test (Dispatch 1 1 1 ∷ []) ≡ true
unfolding spelt_test all_below
dispatches = refl

dispatch_spelt : AreSpelt (Dispatch 1 1 1 ∷ [])
dispatch_spelt = are_spelt (Dispatch 1 1 1 ∷ []) dispatches

polls : all_pass spelt_test (Copy 3 1 ∷ MapRead 3 1 0 1024 ∷ []) ≡ true
unfolding spelt_test all_below
polls = refl

poll_spelt : AreSpelt (Copy 3 1 ∷ MapRead 3 1 0 1024 ∷ [])
poll_spelt = are_spelt (Copy 3 1 ∷ MapRead 3 1 0 1024 ∷ []) polls

pub length_values : (i : ℕ) → length (spell_words (input_words i 64)) ≡ 256
length_values i = omega (arith, length-spell_words (input_words i 64), length-input_words i 64)

pub length_constant : (i : ℕ) → length (spell_words (i ∷ 0 ∷ 0 ∷ 0 ∷ [])) ≡ 16
length_constant i = length-spell_words (i ∷ 0 ∷ 0 ∷ 0 ∷ [])

pub values_spelt : (bytes : List ℕ) → length bytes < 65536 → IsSpelt (MapWrite 2 0 0 bytes)
values_spelt bytes short =
    record {
      puttable = record { small = omega arith; fits = refl };
      words =
          (omega arith, (omega arith, (omega arith, (omega arith, tt))));
    }

pub constant_spelt : (bytes : List ℕ) → length bytes < 65536 → IsSpelt (Update 4 0 bytes)
constant_spelt bytes short =
    record {
      puttable = record { small = omega arith; fits = refl };
      words =
          (omega arith, (omega arith, (omega arith, tt)));
    }

round_spelt : (i : ℕ) → AreSpelt (round i)
round_spelt =
    all_round IsSpelt
    (λ i. values_spelt (spell_words (input_words i 64)) (omega (arith, length_values i)))
    (λ i. constant_spelt (spell_words (i ∷ 0 ∷ 0 ∷ 0 ∷ [])) (omega (arith, length_constant i)))
    dispatch_spelt.0
    poll_spelt

pub histogram_spelt : (n : ℕ) → AreSpelt (histogram n)
histogram_spelt n = all_calls IsSpelt opening_spelt round_spelt closing_spelt n

pub shader_puttable : (tokens : List ℕ) → tokens ≡ spell_words shader_tokens → IsPuttable (CreateShader 1 tokens)
shader_puttable tokens e =
    subst (λ (t : List ℕ). IsPuttable (CreateShader 1 t)) (sym e) opening_spelt.1.1.1.1.1.1.0.puttable
