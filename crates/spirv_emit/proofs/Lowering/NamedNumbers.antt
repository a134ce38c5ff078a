-- Each number that a shader names is among its module's numbers.
use Rattle.std.proofs.Common.{◌≡◌, ◌≢◌, ℕ, zero, suc, Bool, true, false, if◌then◌else◌, ⊎_elim, List, [], ◌∷◌, ◌++◌, Option, Some, None, refl, sym, ap, ◌∙◌, subst}
use Rattle.std.specs.Prelude.{◌==◌, slice_index, slice_index_or, flat_map}
use Rattle.std.proofs.Math.Dec.{eqb}
use Rattle.std.proofs.lemmas.Bool.Decides.{eqb_tells}
use Rattle.std.proofs.lemmas.Bool.{eq-eqb}
use Rattle.shader_model.specs.declared.tree.Declared.{Declared}
use Rattle.shader_model.specs.declared.tree.Operand.{Operand}
use Rattle.shader_model.specs.Fields.{declared_among}
use Rattle.spirv_emit.specs.Numbers.{has, with_number, with_numbers, operand_numbers, declared_numbers}
use Rattle.spirv_emit.proofs.Meaning.WholeModule.{has_append, has_more}

-- ## Lists that have a number

pub has_first : (v : ℕ) (xs : List ℕ) → has (v ∷ xs) v ≡ true
has_first v xs = ap (λ (t : Bool). if t then true else has xs v) (eq-eqb v v refl)

has_later : (x : ℕ) (xs : List ℕ) (v : ℕ) → has xs v ≡ true → has (x ∷ xs) v ≡ true
has_later x xs v h = by_first (x == v)
  where
    by_first : (t : Bool) → (if t then true else has xs v) ≡ true
    by_first true = refl
    by_first false = h

pub has_behind : (xs ys : List ℕ) (v : ℕ) → has ys v ≡ true → has (xs ++ ys) v ≡ true
has_behind [] ys v h = h
has_behind (x ∷ xs) ys v h = has_later x (xs ++ ys) v (has_behind xs ys v h)

has_added : (seen : List ℕ) (v : ℕ) → has (with_number seen v) v ≡ true
has_added seen v = by_seen (has seen v) refl
  where
    by_seen : (t : Bool) → has seen v ≡ t → has (if t then seen else seen ++ v ∷ []) v ≡ true
    by_seen true e = e
    by_seen false e = has_behind seen (v ∷ []) v (has_first v [])

-- what is added to a list is there
pub has_with : (ws seen : List ℕ) (v : ℕ) → has ws v ≡ true → has (with_numbers seen ws) v ≡ true
has_with [] seen v h = cc
has_with (w ∷ ws) seen v h =
    ⊎_elim
    (λ (e : (eqb w v ≡ true) × (w ≡ v)). has_more ws (with_number seen w) v (subst (λ k. has (with_number seen w) k ≡ true) e.1 (has_added seen w)))
    (λ (e : (eqb w v ≡ false) × (w ≢ v)). has_with ws (with_number seen w) v (sym (ap (λ (t : Bool). if t then true else has ws v) e.0) ∙ h))
    (eqb_tells w v)

-- ## Lists of which each number is in another

abbrev pub Among : (numbers list : List ℕ) → Type 0
Among ns xs = (v : ℕ) → has xs v ≡ true → has ns v ≡ true

pub among_first : (ns xs ys : List ℕ) → Among ns (xs ++ ys) → Among ns xs
among_first ns xs ys h = λ v k. h v (has_append xs ys v k)

pub among_later : (ns xs ys : List ℕ) → Among ns (xs ++ ys) → Among ns ys
among_later ns xs ys h = λ v k. h v (has_behind xs ys v k)

-- each word of such a list, and 0 behind its end
pub among_index : (ns xs : List ℕ) → has ns 0 ≡ true → Among ns xs → (c : ℕ) → has ns (slice_index xs c) ≡ true
among_index ns [] z h c = z
among_index ns (x ∷ xs) z h zero = h x (has_first x xs)
among_index ns (x ∷ xs) z h (suc c) = among_index ns xs z (λ v k. h v (has_later x xs v k)) c

-- ## What shaders name

-- the words of one of an instruction's sources
pub source_among : (ns : List ℕ) (qs : List (Option Operand)) → Among ns (flat_map operand_numbers qs) → (j : ℕ) → Among ns (operand_numbers (slice_index_or qs j None))
source_among ns [] h j = λ v k. cc
source_among ns (q ∷ qs) h zero = among_first ns (operand_numbers q) (flat_map operand_numbers qs) h
source_among ns (q ∷ qs) h (suc j) = source_among ns qs (among_later ns (operand_numbers q) (flat_map operand_numbers qs) h) j

-- those of a declaration that was found
pub declared_here : (n slot : ℕ) (ds : List Declared) (d : Declared) → declared_among n slot ds ≡ Some d → (v : ℕ) → has (declared_numbers d) v ≡ true → has (flat_map declared_numbers ds) v ≡ true
declared_here n slot [] d e v h = cc
declared_here n slot (a ∷ ds) d e v h = by_tests (a.opcode == n) (a.slot == slot) (declared_among n slot ds) e (λ k. declared_here n slot ds d k v h)
  where
    some_is : (x y : Declared) → Some x ≡ Some y → x ≡ y
    some_is x y k = cc

    by_tests : (b c : Bool) (q : Option Declared) → (if b then (if c then Some a else q) else q) ≡ Some d → (q ≡ Some d → has (flat_map declared_numbers ds) v ≡ true) → has (declared_numbers a ++ flat_map declared_numbers ds) v ≡ true
    by_tests true true q k later = has_append (declared_numbers a) (flat_map declared_numbers ds) v (subst (λ (z : Declared). has (declared_numbers z) v ≡ true) (sym (some_is a d k)) h)
    by_tests true false q k later = has_behind (declared_numbers a) (flat_map declared_numbers ds) v (later k)
    by_tests false c q k later = has_behind (declared_numbers a) (flat_map declared_numbers ds) v (later k)
