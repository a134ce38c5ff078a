-- A good shader's module has few numbers.
use Rattle.std.proofs.Common.{◌≡◌, ℕ, zero, suc, ◌+◌, ◌*◌, ◌%◌, ◌<◌, ◌≤◌, Bool, true, false, if◌then◌else◌, ⊎_elim, List, [], ◌∷◌, ◌++◌, length, Option, Some, None, refl, sym, ap, subst, arith, length-append}
use Rattle.std.specs.Prelude.{◌==◌, ◌&&◌, ◌||◌, nat_le, flat_map, slice_index_or}
use Rattle.std.specs.List.{AllByRecursion}
use Rattle.std.proofs.lemmas.Bool.{eqb-true, leb-true}
use Rattle.dx_types.specs.declared.shape.Form.{Form}
use Rattle.dx_types.specs.declared.shape.Form.TheVariants.{Raw, Structured, Typed}
use Rattle.shader_model.specs.declared.tree.Declared.{Declared}
use Rattle.shader_model.specs.declared.tree.Operand.{Operand}
use Rattle.shader_model.specs.declared.tree.Test.{Test}
use Rattle.shader_model.specs.Faults.{takes_parameter}
use Rattle.shader_model.specs.Body.{Body, End, Plain, If, Loop, Break, Continue, Return}
use Rattle.shader_model.specs.Shader.{Program}
use Rattle.shader_model.specs.Good.{MaybeFits, OperandFits, TestFits, DeclaredFits, Fits, IsGood, size}
use Rattle.spirv_emit.specs.Numbers.{has, with_number, with_numbers, own_numbers, operand_numbers, instr_numbers, test_numbers, body_numbers, declared_numbers, numbers_of}
use Rattle.spirv_emit.proofs.Meaning.WholeModule.{has_append}
use Rattle.spirv_emit.proofs.Profile.GoodNames.{has_last}
use Rattle.spirv_emit.proofs.Profile.CalculationsPass.{before_or_end}

-- ## Numbers below a limit

abbrev lacks : Bool → ℕ
lacks true = 0
lacks false = 1

-- how many numbers below n a list lacks
abbrev missing : List ℕ → ℕ → ℕ
missing seen zero = 0
missing seen (suc n) = missing seen n + lacks (has seen n)

lacks_one : (t : Bool) → lacks t ≤ 1
lacks_one true = omega arith
lacks_one false = omega arith

missing_few : (seen : List ℕ) (n : ℕ) → missing seen n ≤ n
missing_few seen zero = omega arith
missing_few seen (suc n) = let h = missing_few seen n in let k = lacks_one (has seen n) in omega (arith, h, k)

-- a longer list lacks no more
lacks_less : (s t : Bool) → (s ≡ true → t ≡ true) → lacks t ≤ lacks s
lacks_less true true h = omega arith
lacks_less true false h = let e = h refl in cc
lacks_less false true h = omega arith
lacks_less false false h = omega arith

missing_less : (seen more : List ℕ) (n : ℕ) → missing (seen ++ more) n ≤ missing seen n
missing_less seen more zero = omega arith
missing_less seen more (suc n) =
    let h = missing_less seen more n in
    let k = lacks_less (has seen n) (has (seen ++ more) n) (has_append seen more n) in
    omega (arith, h, k)

-- with a number more it lacks one less
missing_one : (seen : List ℕ) (w n : ℕ) → has seen w ≡ false → w < n → missing (seen ++ w ∷ []) n + 1 ≤ missing seen n
missing_one seen w zero e lt = absurd (omega (arith, lt))
missing_one seen w (suc n) e lt =
    ⊎_elim
    (λ (k : w < n).
    let h = missing_one seen w n e k in
    let t = lacks_less (has seen n) (has (seen ++ w ∷ []) n) (has_append seen (w ∷ []) n) in
    omega (arith, h, t))
    (λ (k : w ≡ n).
    let h = missing_less seen (w ∷ []) n in
    let new : lacks (has (seen ++ w ∷ []) n) ≡ 0 = ap lacks (subst (λ z. has (seen ++ w ∷ []) z ≡ true) k (has_last seen w)) in
    let old : lacks (has seen n) ≡ 1 = ap lacks (subst (λ z. has seen z ≡ false) k e) in
    omega (arith, h, new, old))
    (before_or_end w n (omega (arith, lt)))

abbrev AllBelow : ℕ → List ℕ → Type 0
AllBelow n [] = Unit {0}
AllBelow n (w ∷ ws) = (w < n) × AllBelow n ws

put_once : (t : Bool) (seen : List ℕ) (w n : ℕ) → has seen w ≡ t → w < n → length (if t then seen else seen ++ w ∷ []) + missing (if t then seen else seen ++ w ∷ []) n ≤ length seen + missing seen n
put_once true seen w n e lt = omega arith
put_once false seen w n e lt = let h = missing_one seen w n e lt in let l = length-append seen (w ∷ []) in omega (arith, h, l)

put_below : (n : ℕ) (ws seen : List ℕ) → AllBelow n ws → length (with_numbers seen ws) + missing (with_numbers seen ws) n ≤ length seen + missing seen n
put_below n [] seen h = omega arith
put_below n (w ∷ ws) seen h =
    let one = put_once (has seen w) seen w n refl h.0 in
    let more = put_below n ws (with_number seen w) h.1 in
    omega (arith, one, more)

-- ## Any numbers

put_any : (t : Bool) (seen : List ℕ) (w : ℕ) → length (if t then seen else seen ++ w ∷ []) ≤ length seen + 1
put_any true seen w = omega arith
put_any false seen w = let l = length-append seen (w ∷ []) in omega (arith, l)

put_each : (ws seen : List ℕ) → length (with_numbers seen ws) ≤ length seen + length ws
put_each [] seen = omega arith
put_each (w ∷ ws) seen = let one = put_any (has seen w) seen w in let more = put_each ws (with_number seen w) in omega (arith, one, more)

put_both : (xs ys seen : List ℕ) → with_numbers seen (xs ++ ys) ≡ with_numbers (with_numbers seen xs) ys
put_both [] ys seen = refl
put_both (x ∷ xs) ys seen = put_both xs ys (with_number seen x)

-- ## Those of declarations

both_true : (a b : Bool) → (a && b) ≡ true → b ≡ true
both_true true b e = e
both_true false b e = cc

one_of : (a b c : Bool) (p : ℕ) → (a ≡ true → p ≤ 2048) → (b ≡ true → p ≤ 2048) → (c ≡ true → p ≤ 2048) → (a || b || c) ≡ true → p ≤ 2048
one_of true b c p ha hb hc e = ha refl
one_of false true c p ha hb hc e = hb refl
one_of false false true p ha hb hc e = hc refl
one_of false false false p ha hb hc e = cc

parameter_below : (form : Form) (p : ℕ) → takes_parameter form p ≡ true → p ≤ 2048
parameter_below Raw p e = let k = eqb-true p 0 e in omega (arith, k)
parameter_below Structured p e = leb-true p 2048 (both_true ((p % 4 == 0) && nat_le 4 p) (nat_le p 2048) e)
parameter_below Typed p e =
    one_of (p == 1) (p == 2) (p == 4) p
    (λ a. let k = eqb-true p 1 a in omega (arith, k))
    (λ a. let k = eqb-true p 2 a in omega (arith, k))
    (λ a. let k = eqb-true p 4 a in omega (arith, k)) e

declared_below : (ds : List Declared) → AllByRecursion DeclaredFits ds → AllBelow 2049 (flat_map declared_numbers ds)
declared_below [] h = tt
declared_below (d ∷ ds) h = let k = parameter_below d.form d.parameter h.0.parameter in (omega (arith, k), (omega (arith, k), declared_below ds h.1))

-- ## Those of the body

module _ (ds : List Declared) (temps : ℕ) where
  source_few : (q : Option Operand) → MaybeFits (OperandFits ds temps) q → length (operand_numbers q) ≤ 4
  source_few None h = omega arith
  source_few (Some o) h = let four = h.words in omega (arith, four)

  sources_few : (qs : List (Option Operand)) → ((k : ℕ) → MaybeFits (OperandFits ds temps) (slice_index_or qs k None)) → length (flat_map operand_numbers qs) ≤ 4 * length qs
  sources_few [] h = omega arith
  sources_few (q ∷ qs) h =
      let one = source_few q (h 0) in
      let more = sources_few qs (λ k. h (suc k)) in
      let l = length-append (operand_numbers q) (flat_map operand_numbers qs) in
      omega (arith, one, more, l)

  test_few : (q : Option Test) → MaybeFits (TestFits ds temps) q → length (test_numbers q) ≤ 4
  test_few None h = omega arith
  test_few (Some t) h = let four = h.words in omega (arith, four)

  -- four numbers for each of the four sources of a node
  pub body_numbers_few : (b : Body) → Fits ds temps b → length (body_numbers b) ≤ 16 * size b
  body_numbers_few End h = omega arith
  body_numbers_few (Plain i rest) h =
      let one = sources_few i.sources h.0.sources in
      let four = h.0.operands.four in
      let more = body_numbers_few rest h.1 in
      let l = length-append (instr_numbers i) (body_numbers rest) in
      omega (arith, one, four, more, l)
  body_numbers_few (If t first second rest) h =
      let n1 = body_numbers first in
      let n2 = body_numbers second in
      let n3 = body_numbers rest in
      let nt = test_numbers (Some t) in
      let lt = test_few (Some t) h.0 in
      let l1 = body_numbers_few first h.1 in
      let l2 = body_numbers_few second h.2 in
      let l3 = body_numbers_few rest h.3 in
      let la = length-append nt (n1 ++ (n2 ++ n3)) in
      let lb = length-append n1 (n2 ++ n3) in
      let lc = length-append n2 n3 in
      omega (arith, lt, l1, l2, l3, la, lb, lc)
  body_numbers_few (Loop inner rest) h =
      let l1 = body_numbers_few inner h.0 in
      let l2 = body_numbers_few rest h.1 in
      let l = length-append (body_numbers inner) (body_numbers rest) in
      omega (arith, l1, l2, l)
  body_numbers_few (Break t rest) h = let lt = test_few t h.0 in let l1 = body_numbers_few rest h.1 in let l = length-append (test_numbers t) (body_numbers rest) in omega (arith, lt, l1, l)
  body_numbers_few (Continue t rest) h = let lt = test_few t h.0 in let l1 = body_numbers_few rest h.1 in let l = length-append (test_numbers t) (body_numbers rest) in omega (arith, lt, l1, l)
  body_numbers_few (Return t rest) h = let lt = test_few t h.0 in let l1 = body_numbers_few rest h.1 in let l = length-append (test_numbers t) (body_numbers rest) in omega (arith, lt, l1, l)

-- ## All

-- in numbers alone: how long the lists are, and what they lack
counted : (seen lacked all own first words nodes : ℕ) → seen + lacked ≤ own + first → first ≤ 2049 → own ≡ 40 → all ≤ seen + words → words ≤ 16 * nodes → all ≤ 2089 + 16 * nodes
counted seen lacked all own first words nodes a b c d e = omega arith

-- the numbers of every module, those below 2,049, and those that the body names
pub numbers_few : (p : Program) → IsGood p → length (numbers_of p) ≤ 2089 + 16 * size p.body
numbers_few p good =
    let ds = flat_map declared_numbers p.declared in
    let ws = body_numbers p.body in
    let seen = with_numbers own_numbers ds in
    counted (length seen) (missing seen 2049) (length (numbers_of p)) (length own_numbers) (missing own_numbers 2049) (length ws) (size p.body)
    (put_below 2049 ds own_numbers (declared_below p.declared good.declared)) (missing_few own_numbers 2049) refl
    (subst (λ (xs : List ℕ). length xs ≤ length seen + length ws) (sym (put_both ds ws own_numbers)) (put_each ws seen))
    (body_numbers_few p.declared p.temps p.body good.fits)
