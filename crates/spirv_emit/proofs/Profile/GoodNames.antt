-- What a good shader names is there: its numbers have ids, its slots have bindings, its registers have variables.
use Rattle.std.proofs.Common.{◌≡◌, ◌≢◌, ℕ, zero, suc, ◌+◌, ◌*◌, ◌/◌, ◌%◌, ◌^◌, ◌<◌, Bool, true, false, if◌then◌else◌, ◌⊎◌, inl, inr, ⊎_elim, List, [], ◌∷◌, ◌++◌, Option, Some, None, refl, sym, ap, ◌∙◌, subst, arith}
use Rattle.std.specs.Prelude.{◌==◌, slice_index, slice_index_or, flat_map, IsSome}
use Rattle.std.specs.List.{AllByRecursion}
use Rattle.std.proofs.Math.Dec.{eqb}
use Rattle.std.proofs.Math.Nat.{zero-div}
use Rattle.std.proofs.lemmas.Bool.Decides.{eqb_tells}
use Rattle.shader_model.specs.declared.ids.Ids.{Ids}
use Rattle.shader_model.specs.declared.tree.Declared.{Declared}
use Rattle.shader_model.specs.declared.tree.Target.{Target}
use Rattle.shader_model.specs.declared.tree.Operand.{Operand}
use Rattle.shader_model.specs.declared.tree.SlotUse.{SlotUse}
use Rattle.shader_model.specs.declared.tree.Instr.{Instr}
use Rattle.shader_model.specs.declared.tree.Test.{Test}
use Rattle.shader_model.specs.Words.{bit}
use Rattle.shader_model.specs.Fields.{declared_among, used_as}
use Rattle.shader_model.specs.Faults.{slots_of}
use Rattle.shader_model.specs.Body.{Body, End, Plain, If, Loop, Break, Continue, Return}
use Rattle.shader_model.specs.Shader.{Program}
use Rattle.shader_model.specs.Good.{MaybeFits, TargetFits, OperandFits, InstrFits, TestFits, Fits, DeclaredFits, IsGood}
use Rattle.shader_model.proofs.Declaring.{Found, found_fits}
use Rattle.spirv_emit.specs.Layout.{Layout}
use Rattle.spirv_emit.specs.Numbers.{has, with_number, with_numbers, own_numbers, operand_numbers, instr_numbers, test_numbers, body_numbers, declared_numbers, numbers_of, layout_of}
use Rattle.spirv_emit.proofs.Lowering.NamesInRange.{WordsHave, MaybeHave}
use Rattle.spirv_emit.proofs.Meaning.WholeModule.{same_or_not, Has, has_append, has_more, own_in, pool_of}
use Rattle.spirv_emit.proofs.Profile.BlocksPass.{ProperTest, MaybeProper, ProperBody}
use Rattle.spirv_emit.proofs.Profile.NamedTypes.{MaybePlaced, TargetPlaced, SlotPlaced, MaybeSlotPlaced, InstrPlaced, instr_proper, test_proper}

-- ## Numbers in lists

either_has : (b c : Bool) → c ≡ true → (if b then true else c) ≡ true
either_has true c e = refl
either_has false c e = e

has_right : (xs ys : List ℕ) (v : ℕ) → has ys v ≡ true → has (xs ++ ys) v ≡ true
has_right [] ys v h = h
has_right (x ∷ xs) ys v h = either_has (x == v) (has (xs ++ ys) v) (has_right xs ys v h)

-- a list has its own members
has_index : (xs : List ℕ) (c : ℕ) → (has xs (slice_index xs c) ≡ true) ⊎ (slice_index xs c ≡ 0)
has_index [] c = inr refl
has_index (x ∷ xs) zero = inl (itself (eqb_tells x x))
  where
    itself : ((eqb x x ≡ true) × (x ≡ x)) ⊎ ((eqb x x ≡ false) × (x ≢ x)) → has (x ∷ xs) x ≡ true
    itself (inl h) = ap (λ (t : Bool). if t then true else has xs x) h.0
    itself (inr h) = absurd (h.1 refl)
has_index (x ∷ xs) (suc c) = ⊎_elim (λ (h : has xs (slice_index xs c) ≡ true). inl (either_has (x == slice_index xs c) (has xs (slice_index xs c)) h)) (λ (h : slice_index xs c ≡ 0). inr h) (has_index xs c)

pub has_last : (seen : List ℕ) (w : ℕ) → has (seen ++ w ∷ []) w ≡ true
has_last seen w = has_right seen (w ∷ []) w (⊎_elim (λ (h : has (w ∷ []) w ≡ true). h) (λ (h : w ≡ 0). subst (λ z. has (z ∷ []) z ≡ true) (sym h) refl) (has_index (w ∷ []) 0))

-- a number that is put in is there
put_in : (t : Bool) (seen : List ℕ) (w : ℕ) → has seen w ≡ t → has (if t then seen else seen ++ w ∷ []) w ≡ true
put_in true seen w e = e
put_in false seen w e = has_last seen w

has_put : (ws seen : List ℕ) (v : ℕ) → has ws v ≡ true → has (with_numbers seen ws) v ≡ true
has_put [] seen v h = cc
has_put (w ∷ ws) seen v h =
    ⊎_elim
    (λ (e : (eqb w v ≡ true) × (w ≡ v)). has_more ws (with_number seen w) v (subst (λ z. has (with_number seen w) z ≡ true) e.1 (put_in (has seen w) seen w refl)))
    (λ (e : (eqb w v ≡ false) × (w ≢ v)). has_put ws (with_number seen w) v (sym (ap (λ (t : Bool). if t then true else has ws v) e.0) ∙ h))
    (eqb_tells w v)

-- the words of a source are among those of the instruction
sources_have : (qs : List (Option Operand)) (j : ℕ) (o : Operand) (v : ℕ) → slice_index_or qs j None ≡ Some o → has o.words v ≡ true → has (flat_map operand_numbers qs) v ≡ true
sources_have [] j o v e h = cc
sources_have (q ∷ qs) zero o v e h = has_append (operand_numbers q) (flat_map operand_numbers qs) v (ap (λ z. has (operand_numbers z) v) e ∙ h)
sources_have (q ∷ qs) (suc j) o v e h = has_right (operand_numbers q) (flat_map operand_numbers qs) v (sources_have qs j o v e h)

-- the numbers of a declaration that is found
some_is : (x y : Declared) → Some x ≡ Some y → x ≡ y
some_is x y e = cc

declared_have : (n slot : ℕ) (ds : List Declared) (d : Declared) (v : ℕ) → declared_among n slot ds ≡ Some d → ((a : Declared) → a ≡ d → has (declared_numbers a) v ≡ true) → has (flat_map declared_numbers ds) v ≡ true
declared_have n slot [] d v e h = cc
declared_have n slot (a ∷ ds) d v e h = by_first (a.opcode == n) (a.slot == slot) e (λ f. has_right (declared_numbers a) (flat_map declared_numbers ds) v (declared_have n slot ds d v f h))
  where
    by_first : (b c : Bool) → (if b then (if c then Some a else declared_among n slot ds) else declared_among n slot ds) ≡ Some d → (declared_among n slot ds ≡ Some d → has (flat_map declared_numbers (a ∷ ds)) v ≡ true) → has (flat_map declared_numbers (a ∷ ds)) v ≡ true
    by_first true true f later = has_append (declared_numbers a) (flat_map declared_numbers ds) v (h a (some_is a d f))
    by_first true false f later = later f
    by_first false c f later = later f

first_of_two : (x y : ℕ) → has (x ∷ y ∷ []) x ≡ true
first_of_two x y = has_append (x ∷ []) (y ∷ []) x (has_last [] x)

second_of_two : (x y : ℕ) → has (x ∷ y ∷ []) y ≡ true
second_of_two x y = has_last (x ∷ []) y

-- ## Slots

bound_below : (b : Bool) (slot : ℕ) (d : Declared) → Found (if b then 5 else 4) slot d → (if b then 30 + slot else 14 + slot) < 38
bound_below true slot d f =
    let lt : d.slot < slots_of 5 = subst (λ z. d.slot < slots_of z) f.opcode f.fits.slot in
    let e = f.slot in
    omega (arith, lt, e)
bound_below false slot d f =
    let lt : d.slot < slots_of 4 = subst (λ z. d.slot < slots_of z) f.opcode f.fits.slot in
    let e = f.slot in
    omega (arith, lt, e)

is_found : (q : Option Declared) → IsSome q → (d : Declared) × (q ≡ Some d)
is_found (Some d) h = (d, refl)
is_found None h = cc

-- ## Registers

no_bits : (k : ℕ) → bit k 0 ≡ true → ⊥
no_bits k h = let z : bit k 0 ≡ false = ap (λ q. (q % 2 ^ 1) == 1) (zero-div (2 ^ k)) in cc

module _ (ds : List Declared) (temps : ℕ) where
  target_placed : (t : Target) → TargetFits ds temps t → (k : ℕ) → bit k t.mask ≡ true → t.index < temps
  target_placed t fits k h =
      ⊎_elim
      (λ (e : t.file ≡ 0). fits.register e)
      (λ (ne : t.file ≢ 0). absurd (no_bits k (ap (λ m. bit k m) (sym (fits.null ne)) ∙ h)))
      (same_or_not t.file 0)

  operand_placed : AllByRecursion DeclaredFits ds → (o : Operand) → OperandFits ds temps o → o.file ≡ 2 → o.index < 14
  operand_placed all o fits e =
      let q = is_found (declared_among 3 o.index ds) (fits.constant e) in
      let f = found_fits 3 o.index ds q.0 all q.1 in
      let lt : q.0.slot < slots_of 3 = subst (λ z. q.0.slot < slots_of z) f.opcode f.fits.slot in
      let same = f.slot in
      omega (arith, lt, same)

-- ## A good shader

module _ (p : Program) (good : IsGood p) (ids : Ids) where
  abbrev at : Layout
  at = layout_of p

  abbrev Have : ℕ → Type 0
  Have = Has (numbers_of p)

  pub own_have : (v : ℕ) → has own_numbers v ≡ true → Has (numbers_of p) v
  unfolding Has
  own_have v h = own_in p v h

  named_have : (v : ℕ) → has (flat_map declared_numbers p.declared ++ body_numbers p.body) v ≡ true → Has (numbers_of p) v
  unfolding Has
  named_have v h = has_put (flat_map declared_numbers p.declared ++ body_numbers p.body) own_numbers v h

  many : (layout_of p).variables ≡ 25 + 4 * p.temps
  many = refl

  -- the numbers of a part of the shader have ids
  abbrev AllHave : List ℕ → Type 0
  AllHave ws = (v : ℕ) → has ws v ≡ true → Has (numbers_of p) v

  words_have : (o : Operand) → AllHave o.words → WordsHave at Have (pool_of p) ids own_have p.declared p.temps many o
  words_have o all c lc =
      ⊎_elim
      (λ (h : has o.words (slice_index o.words c) ≡ true). all (slice_index o.words c) h)
      (λ (h : slice_index o.words c ≡ 0). subst Have (sym h) (own_have 0 refl))
      (has_index o.words c)

  maybe_have : (i : Instr) (j : ℕ) (q : Option Operand) → slice_index_or i.sources j None ≡ q → AllHave (instr_numbers i) → MaybeHave at Have (pool_of p) ids own_have p.declared p.temps many q
  maybe_have i j None e all = tt
  maybe_have i j (Some o) e all = words_have o (λ v h. all v (sources_have i.sources j o v e h))

  maybe_placed : (q : Option Operand) → MaybeFits (OperandFits p.declared p.temps) q → MaybePlaced at Have (pool_of p) ids own_have p.declared p.temps many q
  maybe_placed None fits = tt
  maybe_placed (Some o) fits = operand_placed p.declared p.temps good.declared o fits

  maybe_target : (q : Option Target) → MaybeFits (TargetFits p.declared p.temps) q → TargetPlaced at Have (pool_of p) ids own_have p.declared p.temps many q
  maybe_target None fits = tt
  maybe_target (Some t) fits = target_placed p.declared p.temps t fits

  slot_placed : (u : SlotUse) (d : Declared) → used_as u p.declared ≡ Some d → SlotPlaced at Have (pool_of p) ids own_have p.declared p.temps many u d
  slot_placed u d e =
      let n = if u.writable then 5 else 4 in
      let declared : (v : ℕ) → has (declared_numbers d) v ≡ true → Have v =
      λ v h. named_have v (has_append (flat_map declared_numbers p.declared) (body_numbers p.body) v (declared_have n u.slot p.declared d v e (λ a same. subst (λ z. has (declared_numbers z) v ≡ true) (sym same) h))) in
      record {
        binding = bound_below u.writable u.slot d (found_fits n u.slot p.declared d good.declared e);
        parameter = declared d.parameter (first_of_two d.parameter (d.parameter / 4));
        quarter = declared (d.parameter / 4) (second_of_two d.parameter (d.parameter / 4));
      }

  maybe_slot : (q : Option SlotUse) → MaybeSlotPlaced at Have (pool_of p) ids own_have p.declared p.temps many q
  maybe_slot None = tt
  maybe_slot (Some u) = slot_placed u

  instr_placed : (i : Instr) → InstrFits p.declared p.temps i → AllHave (instr_numbers i) → InstrPlaced at Have (pool_of p) ids own_have p.declared p.temps many i
  instr_placed i fits all = record {
    first = maybe_target i.first fits.first;
    second = maybe_target i.second fits.second;
    sources = record { fits = fits.sources; have = λ j. maybe_have i j (slice_index_or i.sources j None) refl all };
    placed = λ j. maybe_placed (slice_index_or i.sources j None) (fits.sources j);
    slot = maybe_slot i.slot;
  }

  test_placed : (t : Test) → OperandFits p.declared p.temps t.value → AllHave t.value.words → ProperTest at Have (pool_of p) ids p.declared t
  test_placed t fits all = test_proper at Have (pool_of p) ids own_have p.declared p.temps many t fits (words_have t.value all) (operand_placed p.declared p.temps good.declared t.value fits)

  maybe_test : (q : Option Test) → MaybeFits (TestFits p.declared p.temps) q → AllHave (test_numbers q) → MaybeProper at Have (pool_of p) ids p.declared q
  maybe_test None fits all = tt
  maybe_test (Some t) fits all = test_placed t fits all

  left : (xs ys : List ℕ) → AllHave (xs ++ ys) → AllHave xs
  left xs ys all v h = all v (has_append xs ys v h)

  right : (xs ys : List ℕ) → AllHave (xs ++ ys) → AllHave ys
  right xs ys all v h = all v (has_right xs ys v h)

  body_proper : (b : Body) → Fits p.declared p.temps b → AllHave (body_numbers b) → ProperBody at Have (pool_of p) ids p.declared b
  body_proper End fits all = tt
  body_proper (Plain i rest) fits all =
      let ns = instr_numbers i in
      let ms = body_numbers rest in
      (instr_proper at Have (pool_of p) ids own_have p.declared p.temps many i (instr_placed i fits.0 (left ns ms all)), body_proper rest fits.1 (right ns ms all))
  body_proper (If t first second rest) fits all =
      let nt = test_numbers (Some t) in
      let n1 = body_numbers first in
      let n2 = body_numbers second in
      let n3 = body_numbers rest in
      let a1 = right nt (n1 ++ (n2 ++ n3)) all in
      let a2 = right n1 (n2 ++ n3) a1 in
      (test_placed t fits.0 (left nt (n1 ++ (n2 ++ n3)) all), body_proper first fits.1 (left n1 (n2 ++ n3) a1), body_proper second fits.2 (left n2 n3 a2), body_proper rest fits.3 (right n2 n3 a2))
  body_proper (Loop inner rest) fits all = (body_proper inner fits.0 (left (body_numbers inner) (body_numbers rest) all), body_proper rest fits.1 (right (body_numbers inner) (body_numbers rest) all))
  body_proper (Break t rest) fits all = (maybe_test t fits.0 (left (test_numbers t) (body_numbers rest) all), body_proper rest fits.1 (right (test_numbers t) (body_numbers rest) all))
  body_proper (Continue t rest) fits all = (maybe_test t fits.0 (left (test_numbers t) (body_numbers rest) all), body_proper rest fits.1 (right (test_numbers t) (body_numbers rest) all))
  body_proper (Return t rest) fits all = (maybe_test t fits.0 (left (test_numbers t) (body_numbers rest) all), body_proper rest fits.1 (right (test_numbers t) (body_numbers rest) all))

  pub program_proper : ProperBody at Have (pool_of p) ids p.declared p.body
  program_proper = body_proper p.body good.fits (λ v h. named_have v (has_right (flat_map declared_numbers p.declared) (body_numbers p.body) v h))
