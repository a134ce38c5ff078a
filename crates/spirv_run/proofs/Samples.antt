-- The modules of the tests: each of their invocations has an outcome.
use Rattle.std.proofs.Common.{◌≡◌, ℕ, zero, suc, ◌+◌, ◌<◌, Bool, true, false, if◌then◌else◌, List, [], ◌∷◌, length, drop, Option, Some, None, refl, sym, ap, ◌∙◌, subst, arith}
use Rattle.std.specs.Prelude.{nat_lt, slice_index, IsSome}
use Rattle.shader_model.specs.declared.ids.Ids.{Ids}
use Rattle.shader_model.specs.Arithmetic.{low}
use Rattle.shader_model.specs.Invocation.{Slots, words_in}
use Rattle.spirv_model.specs.Words.{front}
use Rattle.spirv_model.specs.Table.{opcode_of}
use Rattle.spirv_model.specs.FirstBad.{reading}
use Rattle.spirv_model.specs.Meaning.Values.{Word, Truth, At, ToBuffer, ToWord, ToLengths, ToLength, ToInput}
use Rattle.spirv_model.specs.Meaning.Memory.{Memory, with_result}
use Rattle.spirv_model.specs.Meaning.ModuleMeaning.{results_in, runs, begun, limit_of, reading_of, module_meaning}
use Rattle.spirv_run.specs.Decoding.{ops_of}
use Rattle.spirv_run.proofs.Stepping.{whole_meaning}
use Rattle.spirv_model.specs.Meaning.ModuleDispatch.{IsDefined}

abbrev pub minimal : List ℕ
minimal = 119734787 ∷ 67072 ∷ 0 ∷ 5 ∷ 0 ∷ 131089 ∷ 1 ∷ 196622 ∷ 0 ∷ 1 ∷ 327695 ∷ 5 ∷ 3 ∷ 1852399981 ∷ 0 ∷ 393232 ∷ 3 ∷ 17 ∷ 4 ∷ 2 ∷ 1 ∷ 131091 ∷ 1 ∷ 196641 ∷ 2 ∷ 1 ∷ 327734 ∷ 1 ∷ 3 ∷ 0 ∷ 2 ∷ 131320 ∷ 4 ∷ 65789 ∷ 65592 ∷ []

abbrev pub counter : List ℕ
counter = 119734787 ∷ 67072 ∷ 0 ∷ 43 ∷ 0 ∷ 131089 ∷ 1 ∷ 196622 ∷ 0 ∷ 1 ∷ 393231 ∷ 5 ∷ 3 ∷ 1852399981 ∷ 0 ∷ 17 ∷ 393232 ∷ 3 ∷ 17 ∷ 2 ∷ 1 ∷ 2 ∷ 262215 ∷ 6 ∷ 6 ∷ 4 ∷ 196679 ∷ 7 ∷ 2 ∷ 327752 ∷ 7 ∷ 0 ∷ 35 ∷ 0 ∷ 196679 ∷ 10 ∷ 2 ∷ 262215 ∷ 15 ∷ 34 ∷ 0 ∷ 262215 ∷ 15 ∷ 33 ∷ 30 ∷ 262215 ∷ 17 ∷ 11 ∷ 28 ∷ 131091 ∷ 1 ∷ 196641 ∷ 2 ∷ 1 ∷ 262165 ∷ 4 ∷ 32 ∷ 0 ∷ 131092 ∷ 5 ∷ 262167 ∷ 13 ∷ 4 ∷ 3 ∷ 196637 ∷ 6 ∷ 4 ∷ 196638 ∷ 7 ∷ 6 ∷ 2162718 ∷ 10 ∷ 4 ∷ 4 ∷ 4 ∷ 4 ∷ 4 ∷ 4 ∷ 4 ∷ 4 ∷ 4 ∷ 4 ∷ 4 ∷ 4 ∷ 4 ∷ 4 ∷ 4 ∷ 4 ∷ 4 ∷ 4 ∷ 4 ∷ 4 ∷ 4 ∷ 4 ∷ 4 ∷ 4 ∷ 4 ∷ 4 ∷ 4 ∷ 4 ∷ 4 ∷ 4 ∷ 4 ∷ 262176 ∷ 8 ∷ 12 ∷ 7 ∷ 262176 ∷ 9 ∷ 12 ∷ 4 ∷ 262176 ∷ 11 ∷ 9 ∷ 10 ∷ 262176 ∷ 12 ∷ 9 ∷ 4 ∷ 262176 ∷ 14 ∷ 1 ∷ 13 ∷ 262187 ∷ 4 ∷ 18 ∷ 0 ∷ 262187 ∷ 4 ∷ 19 ∷ 1 ∷ 262187 ∷ 4 ∷ 20 ∷ 30 ∷ 262187 ∷ 4 ∷ 21 ∷ 256 ∷ 262203 ∷ 8 ∷ 15 ∷ 12 ∷ 262203 ∷ 11 ∷ 16 ∷ 9 ∷ 262203 ∷ 14 ∷ 17 ∷ 1 ∷ 327734 ∷ 1 ∷ 3 ∷ 0 ∷ 2 ∷ 131320 ∷ 22 ∷ 327745 ∷ 12 ∷ 27 ∷ 16 ∷ 20 ∷ 262205 ∷ 4 ∷ 28 ∷ 27 ∷ 327856 ∷ 5 ∷ 29 ∷ 18 ∷ 28 ∷ 196855 ∷ 26 ∷ 0 ∷ 262394 ∷ 29 ∷ 23 ∷ 26 ∷ 131320 ∷ 23 ∷ 393281 ∷ 9 ∷ 30 ∷ 15 ∷ 18 ∷ 18 ∷ 262205 ∷ 4 ∷ 31 ∷ 30 ∷ 327808 ∷ 4 ∷ 32 ∷ 31 ∷ 19 ∷ 327856 ∷ 5 ∷ 33 ∷ 32 ∷ 28 ∷ 196855 ∷ 25 ∷ 0 ∷ 262394 ∷ 33 ∷ 24 ∷ 25 ∷ 131320 ∷ 24 ∷ 393281 ∷ 9 ∷ 34 ∷ 15 ∷ 18 ∷ 32 ∷ 262205 ∷ 13 ∷ 35 ∷ 17 ∷ 327761 ∷ 4 ∷ 36 ∷ 35 ∷ 0 ∷ 327761 ∷ 4 ∷ 37 ∷ 35 ∷ 1 ∷ 327761 ∷ 4 ∷ 38 ∷ 35 ∷ 2 ∷ 327812 ∷ 4 ∷ 39 ∷ 38 ∷ 21 ∷ 327808 ∷ 4 ∷ 40 ∷ 39 ∷ 37 ∷ 327812 ∷ 4 ∷ 41 ∷ 40 ∷ 21 ∷ 327808 ∷ 4 ∷ 42 ∷ 41 ∷ 36 ∷ 196670 ∷ 34 ∷ 42 ∷ 131321 ∷ 25 ∷ 131320 ∷ 25 ∷ 196670 ∷ 30 ∷ 32 ∷ 131321 ∷ 26 ∷ 131320 ∷ 26 ∷ 65789 ∷ 65592 ∷ []

-- the module of one block that returns has an outcome on all slots
pub minimal_defined : IsDefined minimal
unfolding module_meaning reading front opcode_of
minimal_defined ids slots r f = refl

-- the counter's module compares twice, and has an outcome whatever the answers are
abbrev len : Slots → ℕ
len slots = length (words_in slots.writes 0)

abbrev word : Slots → ℕ
word slots = slice_index (words_in slots.writes 0) 0

-- so many steps and more
abbrev more : ℕ → ℕ → ℕ
more zero n = n
more (suc k) n = suc (more k n)

-- what the module has once its numbers and variables are made, and once it has compared
abbrev made : Slots → Memory
made s =
    with_result 17 (At (ToInput 28)) (with_result 16 (At ToLengths) (with_result 15 (At (ToBuffer 30))
    (with_result 21 (Word 256) (with_result 20 (Word 30) (with_result 19 (Word 1) (with_result 18 (Word 0) (begun s)))))))

abbrev once : Slots → Memory
once s = with_result 29 (Truth (nat_lt 0 (len s))) (with_result 28 (Word (len s)) (with_result 27 (At (ToLength 30)) (made s)))

abbrev counted : Slots → ℕ
counted s = low (word s + 1)

abbrev twice : Slots → Memory
twice s =
    with_result 33 (Truth (nat_lt (counted s) (len s))) (with_result 32 (Word (counted s)) (with_result 31 (Word (word s))
    (with_result 30 (At (ToWord 30 0)) (once s))))

abbrev stores : Slots → Memory
stores s = with_result 34 (At (ToWord 30 (counted s))) (twice s)

-- the module goes on at one of two places
abbrev at : Ids → ℕ → (taken other : ℕ) → Memory → Bool → Option Slots
at ids n taken other m b = if b then runs ids (ops_of counter) n (drop taken (ops_of counter)) m else runs ids (ops_of counter) n (drop other (ops_of counter)) m

first_test : (n : ℕ) (ids : Ids) (s : Slots) → runs ids (ops_of counter) (more 37 n) (ops_of counter) (begun s) ≡ at ids n 39 61 (once s) (nat_lt 0 (len s))
unfolding reading front opcode_of
first_test n ids s = refl

first_word : (n : ℕ) (ids : Ids) (s : Slots) → nat_lt 0 (len s) ≡ true
    → runs ids (ops_of counter) (more 1 n) (drop 39 (ops_of counter)) (once s) ≡ runs ids (ops_of counter) n (drop 40 (ops_of counter)) (with_result 30 (At (ToWord 30 0)) (once s))
unfolding reading front opcode_of
first_word n ids s h =
    ap (λ (b : Bool). results_in (if b then Some (At (ToWord 30 0)) else None) 30 (drop 40 (ops_of counter)) (runs ids (ops_of counter) n) (once s)) h

second_test : (n : ℕ) (ids : Ids) (s : Slots)
    → runs ids (ops_of counter) (more 5 n) (drop 40 (ops_of counter)) (with_result 30 (At (ToWord 30 0)) (once s)) ≡ at ids n 46 58 (twice s) (nat_lt (counted s) (len s))
unfolding reading front opcode_of
second_test n ids s = refl

second_word : (n : ℕ) (ids : Ids) (s : Slots) → nat_lt (counted s) (len s) ≡ true
    → runs ids (ops_of counter) (more 1 n) (drop 46 (ops_of counter)) (twice s) ≡ runs ids (ops_of counter) n (drop 47 (ops_of counter)) (stores s)
unfolding reading front opcode_of
second_word n ids s h =
    ap (λ (b : Bool). results_in (if b then Some (At (ToWord 30 (counted s))) else None) 34 (drop 47 (ops_of counter)) (runs ids (ops_of counter) n) (twice s)) h

both_stored : (n : ℕ) (ids : Ids) (s : Slots) → IsSome (runs ids (ops_of counter) (more 13 n) (drop 47 (ops_of counter)) (stores s))
unfolding reading front opcode_of
both_stored n ids s = refl

one_stored : (n : ℕ) (ids : Ids) (s : Slots) → IsSome (runs ids (ops_of counter) (more 3 n) (drop 58 (ops_of counter)) (twice s))
unfolding reading front opcode_of
one_stored n ids s = refl

none_stored : (n : ℕ) (ids : Ids) (s : Slots) → IsSome (runs ids (ops_of counter) (more 1 n) (drop 61 (ops_of counter)) (once s))
unfolding reading front opcode_of
none_stored n ids s = refl

counts : (n : ℕ) (ids : Ids) (s : Slots) (first second : Bool) → nat_lt 0 (len s) ≡ first → nat_lt (counted s) (len s) ≡ second
    → IsSome (runs ids (ops_of counter) (more 37 (more 20 n)) (ops_of counter) (begun s))
counts n ids s false second h k =
    subst IsSome (sym (first_test (more 20 n) ids s ∙ ap (at ids (more 20 n) 39 61 (once s)) h)) (none_stored (more 19 n) ids s)
counts n ids s true false h k =
    subst IsSome
    (sym (first_test (more 20 n) ids s ∙ ap (at ids (more 20 n) 39 61 (once s)) h ∙ first_word (more 19 n) ids s h
    ∙ second_test (more 14 n) ids s ∙ ap (at ids (more 14 n) 46 58 (twice s)) k))
    (one_stored (more 11 n) ids s)
counts n ids s true true h k =
    subst IsSome
    (sym (first_test (more 20 n) ids s ∙ ap (at ids (more 20 n) 39 61 (once s)) h ∙ first_word (more 19 n) ids s h
    ∙ second_test (more 14 n) ids s ∙ ap (at ids (more 14 n) 46 58 (twice s)) k ∙ second_word (more 13 n) ids s k))
    (both_stored n ids s)

counter_read : (reading_of counter).stop ≡ None
unfolding reading front opcode_of
counter_read = refl

pub counter_defined : IsDefined counter
counter_defined ids slots r f =
    let limit : limit_of counter ≡ more 37 (more 20 2219975) = refl in
    subst IsSome (sym (whole_meaning counter ids slots counter_read))
    (subst (λ k. IsSome (runs ids (ops_of counter) k (ops_of counter) (begun slots))) (sym limit)
    (counts 2219975 ids slots (nat_lt 0 (len slots)) (nat_lt (counted slots) (len slots)) refl refl))
