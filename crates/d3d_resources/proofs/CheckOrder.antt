-- A creation's checks as the table has them: those that need its usage's number or its data stand in front.
use Rattle.std.proofs.Common.{◌≡◌, ℕ, zero, suc, ◌%◌, Bool, true, false, not, ◌||◌, ◌&&◌, List, [], ◌∷◌, drop, refl, ap, ◌∙◌, arith}
use Rattle.std.specs.Prelude.{nat_lt, nat_le, ◌+◌, ◌≤◌, ◌==◌, is_some, if◌then◌else◌, None}
use Rattle.std.proofs.lemmas.Bool.{ltb-false}
use Rattle.dx_types.specs.declared.refusal.Refusal.TheVariants.{IdInUse, BadUsage, BadBind, BadSize, OutOfRange, TooMuchMemory, TooManyDynamic}
use Rattle.dx_types.specs.declared.shape.Shape.{Shape}
use Rattle.d3d_model.specs.Check.{Check, first_failed, has, is_id}
use Rattle.base_lemmas.specs.IdMap.{get}
use Rattle.d3d_model.specs.Resource.{Buffers, usage_from, usage_number, is_dynamic, class_of, live_bytes, live_dynamic}
use Rattle.d3d_model.proofs.Checked.{all_passed, free_id}
use Rattle.d3d_model.specs.D3dState.{Objects}
use Rattle.d3d_model.specs.Verdict.{buffer_checks, has_bytes, bad_stride, is_wrong_usage, is_wrong_data}
use Rattle.d3d_resources.specs.Creation.{shape_checks, table_checks, creation_checks, shape_of}

-- the tests of sizes and of bits, one by one and together
abbrev one_by_one : (len data_len constant stride bits alone staging dynamic immutable both lacks : Bool) → List Check → List Check
one_by_one len data_len constant stride bits alone staging dynamic immutable both lacks rest =
    (len, BadSize) ∷ (data_len, BadSize) ∷ (constant, BadSize) ∷ (stride, BadSize)
    ∷ (bits, BadBind) ∷ (alone, BadBind) ∷ (staging, BadBind) ∷ (dynamic, BadBind) ∷ (immutable, BadBind) ∷ (both, BadBind) ∷ (lacks, BadBind) ∷ rest

abbrev together : (len constant stride bits alone staging dynamic immutable both lacks : Bool) → List Check → List Check
together len constant stride bits alone staging dynamic immutable both lacks rest =
    (len || constant || stride, BadSize) ∷ ((bits || alone || both || lacks) || (staging || dynamic || immutable), BadBind) ∷ rest

same_bits : (bits alone staging dynamic immutable both lacks : Bool) (rest : List Check)
    → first_failed ((bits, BadBind) ∷ (alone, BadBind) ∷ (staging, BadBind) ∷ (dynamic, BadBind) ∷ (immutable, BadBind) ∷ (both, BadBind) ∷ (lacks, BadBind) ∷ rest)
    ≡ first_failed (((bits || alone || both || lacks) || (staging || dynamic || immutable), BadBind) ∷ rest)
same_bits true alone staging dynamic immutable both lacks rest = refl
same_bits false true staging dynamic immutable both lacks rest = refl
same_bits false false true dynamic immutable true lacks rest = refl
same_bits false false true dynamic immutable false true rest = refl
same_bits false false true dynamic immutable false false rest = refl
same_bits false false false true immutable true lacks rest = refl
same_bits false false false true immutable false true rest = refl
same_bits false false false true immutable false false rest = refl
same_bits false false false false true true lacks rest = refl
same_bits false false false false true false true rest = refl
same_bits false false false false true false false rest = refl
same_bits false false false false false true lacks rest = refl
same_bits false false false false false false true rest = refl
same_bits false false false false false false false rest = refl

same_tests : (absent live usage len data_len constant stride bits alone staging dynamic immutable both lacks : Bool) (rest : List Check)
    → first_failed ((absent, OutOfRange) ∷ (live, IdInUse) ∷ (usage, BadUsage) ∷ one_by_one len data_len constant stride bits alone staging dynamic immutable both lacks rest)
    ≡ first_failed ((absent, OutOfRange) ∷ (live, IdInUse) ∷ (usage, BadUsage) ∷ (data_len, BadSize) ∷ (absent, OutOfRange) ∷ (live, IdInUse)
    ∷ together len constant stride bits alone staging dynamic immutable both lacks rest)
same_tests true live usage len data_len constant stride bits alone staging dynamic immutable both lacks rest = refl
same_tests false true usage len data_len constant stride bits alone staging dynamic immutable both lacks rest = refl
same_tests false false true len data_len constant stride bits alone staging dynamic immutable both lacks rest = refl
same_tests false false false true true constant stride bits alone staging dynamic immutable both lacks rest = refl
same_tests false false false true false constant stride bits alone staging dynamic immutable both lacks rest = refl
same_tests false false false false true constant stride bits alone staging dynamic immutable both lacks rest = refl
same_tests false false false false false true stride bits alone staging dynamic immutable both lacks rest = refl
same_tests false false false false false false true bits alone staging dynamic immutable both lacks rest = refl
same_tests false false false false false false false bits alone staging dynamic immutable both lacks rest = same_bits bits alone staging dynamic immutable both lacks rest

-- ---- the usage's number

known_usage : (usage : ℕ) → usage ≤ 3 → usage_number (usage_from usage) ≡ usage
known_usage zero le = refl
known_usage (suc zero) le = refl
known_usage (suc (suc zero)) le = refl
known_usage (suc (suc (suc zero))) le = refl
known_usage (suc (suc (suc (suc n)))) le = absurd (omega arith)

-- the tests of a creation, where the usage of the table's shape has this number
same_by_number : (o : Objects) (id size usage bind misc stride : ℕ) (bytes : List ℕ) (number : ℕ) → number ≡ usage
    → first_failed (buffer_checks o id size usage bind misc stride bytes)
    ≡ first_failed ((not (is_id id), OutOfRange) ∷ (is_some (get o.buffers id), IdInUse) ∷ (is_wrong_usage usage bytes, BadUsage) ∷ (is_wrong_data size bytes, BadSize)
    ∷ (not (is_id id), OutOfRange) ∷ (is_some (get o.buffers id), IdInUse)
    ∷ together ((size == 0) || not (size % 4 == 0) || nat_lt 16777216 size || ((number == 2) && nat_lt 4194304 size))
    (has bind 1 && (not (size % 16 == 0) || nat_lt 65536 size))
    (if has misc 2 then bad_stride size stride else not (stride == 0))
    (nat_lt 7 bind || nat_lt 7 misc) (has bind 1 && not (bind == 1))
    ((number == 3) && not (bind == 0)) ((number == 2) && ((bind == 0) || has bind 4)) ((number == 1) && has bind 4)
    (has misc 1 && has misc 2) ((has misc 1 || has misc 2) && not (has bind 2 || has bind 4))
    ((nat_lt 268435456 (live_bytes o.buffers + size), TooMuchMemory) ∷ ((number == 2) && nat_le 32 (live_dynamic o.buffers (class_of size)), TooManyDynamic) ∷ []))
same_by_number o id size usage bind misc stride bytes number e =
    rw e (same_tests (not (is_id id)) (is_some (get o.buffers id)) (is_wrong_usage usage bytes)
    ((size == 0) || not (size % 4 == 0) || nat_lt 16777216 size || ((usage == 2) && nat_lt 4194304 size)) (is_wrong_data size bytes)
    (has bind 1 && (not (size % 16 == 0) || nat_lt 65536 size))
    (if has misc 2 then bad_stride size stride else not (stride == 0))
    (nat_lt 7 bind || nat_lt 7 misc) (has bind 1 && not (bind == 1))
    ((usage == 3) && not (bind == 0)) ((usage == 2) && ((bind == 0) || has bind 4)) ((usage == 1) && has bind 4)
    (has misc 1 && has misc 2) ((has misc 1 || has misc 2) && not (has bind 2 || has bind 4))
    ((nat_lt 268435456 (live_bytes o.buffers + size), TooMuchMemory) ∷ ((usage == 2) && nat_le 32 (live_dynamic o.buffers (class_of size)), TooManyDynamic) ∷ []))

-- what follows a failed check is not asked
unasked : (absent live usage : Bool) (xs ys : List Check) → usage ≡ true
    → first_failed ((absent, OutOfRange) ∷ (live, IdInUse) ∷ (usage, BadUsage) ∷ xs) ≡ first_failed ((absent, OutOfRange) ∷ (live, IdInUse) ∷ (usage, BadUsage) ∷ ys)
unasked true live usage xs ys u = refl
unasked false true usage xs ys u = refl
unasked false false usage xs ys u = rw u refl

unknown_usage : (usage : ℕ) (bytes : List ℕ) → nat_lt 3 usage ≡ true → is_wrong_usage usage bytes ≡ true
unknown_usage usage bytes e = ap (λ b. b || ((usage == 1) && not (has_bytes bytes))) e

pub whole_order : (o : Objects) (id size usage bind misc stride : ℕ) (bytes : List ℕ)
    → first_failed (buffer_checks o id size usage bind misc stride bytes) ≡ first_failed (creation_checks o.buffers id size usage bind misc stride bytes)
whole_order o id size usage bind misc stride bytes = by_number (nat_lt 3 usage) refl
  where
    by_number : (b : Bool) → nat_lt 3 usage ≡ b
        → first_failed (buffer_checks o id size usage bind misc stride bytes) ≡ first_failed (creation_checks o.buffers id size usage bind misc stride bytes)
    by_number true e = unasked (not (is_id id)) (is_some (get o.buffers id)) (is_wrong_usage usage bytes)
        (drop 3 (buffer_checks o id size usage bind misc stride bytes)) (drop 3 (creation_checks o.buffers id size usage bind misc stride bytes)) (unknown_usage usage bytes e)
    by_number false e = same_by_number o id size usage bind misc stride bytes (usage_number (usage_from usage)) (known_usage usage (ltb-false _ _ e))

-- the checks of the id, asked again
asked_twice : (absent live usage data_len : Bool) (rest : List Check) → usage ≡ false → data_len ≡ false
    → first_failed ((absent, OutOfRange) ∷ (live, IdInUse) ∷ (usage, BadUsage) ∷ (data_len, BadSize) ∷ (absent, OutOfRange) ∷ (live, IdInUse) ∷ rest)
    ≡ first_failed ((absent, OutOfRange) ∷ (live, IdInUse) ∷ rest)
asked_twice true live usage data_len rest u d = refl
asked_twice false true usage data_len rest u d = refl
asked_twice false false usage data_len rest u d = rw (u, d) refl

pub table_order : (o : Objects) (id size usage bind misc stride : ℕ) (bytes : List ℕ) → is_wrong_usage usage bytes ≡ false → is_wrong_data size bytes ≡ false
    → first_failed (buffer_checks o id size usage bind misc stride bytes) ≡ first_failed (table_checks o.buffers id (shape_of size usage bind misc stride))
table_order o id size usage bind misc stride bytes u d =
    whole_order o id size usage bind misc stride bytes
    ∙ asked_twice (not (is_id id)) (is_some (get o.buffers id)) (is_wrong_usage usage bytes) (is_wrong_data size bytes) (shape_checks o.buffers (shape_of size usage bind misc stride)) u d

-- ---- a creation that goes

pub record Goes (buffers : Buffers) (id : ℕ) (s : Shape) : Type 0 where
  pub free : get buffers id ≡ None
  pub room : live_bytes buffers + s.size ≤ 268435456
  pub few : is_dynamic s.usage && nat_le 32 (live_dynamic buffers (class_of s.size)) ≡ false

pub goes : (buffers : Buffers) (id : ℕ) (s : Shape) → first_failed (table_checks buffers id s) ≡ None → Goes buffers id s
goes buffers id s e =
    let h = all_passed (table_checks buffers id s) e in
    record { free = free_id _ h.1.0; room = ltb-false _ _ h.1.1.1.1.0; few = h.1.1.1.1.1.0 }
