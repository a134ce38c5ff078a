-- The pieces of each instruction and test of a good shader do what these do.
use Rattle.std.proofs.Common.{◌≡◌, ◌≢◌, ℕ, ◌+◌, ◌*◌, ◌/◌, ◌%◌, ◌^◌, ◌<◌, Bool, true, false, if◌then◌else◌, ⊎_elim, List, [], ◌∷◌, ◌++◌, Option, Some, None, refl, sym, ap, ◌∙◌, subst}
use Rattle.std.specs.Prelude.{◌==◌, slice_index, slice_index_or, flat_map, IsSome}
use Rattle.std.proofs.Math.Dec.{eqb}
use Rattle.std.proofs.Math.Nat.{zero-div}
use Rattle.std.proofs.lemmas.Bool.Decides.{eqb_tells}
use Rattle.shader_model.specs.declared.ids.Ids.{Ids}
use Rattle.shader_model.specs.declared.tree.Declared.{Declared}
use Rattle.shader_model.specs.declared.tree.Target.{Target}
use Rattle.shader_model.specs.declared.tree.Operand.{Operand}
use Rattle.shader_model.specs.declared.tree.SlotUse.{SlotUse}
use Rattle.shader_model.specs.declared.tree.Instr.{Instr}
use Rattle.shader_model.specs.declared.tree.Test.{Test}
use Rattle.shader_model.specs.Words.{bit}
use Rattle.shader_model.specs.Fields.{declared_among, used_as}
use Rattle.shader_model.specs.Faults.{slots_of}
use Rattle.shader_model.specs.Body.{Body, End, Plain, If, Loop, Break, Continue, Return}
use Rattle.shader_model.specs.Shader.{Program}
use Rattle.shader_model.specs.Good.{MaybeFits, TargetFits, OperandFits, InstrFits, TestFits, Fits, IsGood}
use Rattle.shader_model.specs.Invocation.{State}
use Rattle.shader_model.proofs.Declaring.{found_fits}
use Rattle.spirv_emit.specs.Layout.{Layout}
use Rattle.spirv_emit.specs.Numbers.{has, own_numbers, operand_numbers, instr_numbers, test_numbers, body_numbers, declared_numbers, numbers_of, layout_of}
use Rattle.spirv_emit.specs.Frames.{Frame}
use Rattle.spirv_emit.proofs.Meaning.HeldFrames.{Pool}
use Rattle.spirv_emit.proofs.Meaning.CodeStretches.{Shows}
use Rattle.spirv_emit.proofs.Meaning.Blocks.{InstrDoes, TestsDo, MaybeTestsDo, BodyDoes}
use Rattle.spirv_emit.proofs.Lowering.SourceLeaves.{ThreeIds}
use Rattle.spirv_emit.proofs.Lowering.ComputingInstructions.{TargetHas}
use Rattle.spirv_emit.proofs.Lowering.NamesInRange.{MaybeHave, SourcesFit}
use Rattle.spirv_emit.proofs.Lowering.Tests.{MaybeInPlace}
use Rattle.spirv_emit.proofs.Meaning.WholeModule.{Has, has_id, has_append, own_in, pool_of}
use Rattle.spirv_emit.proofs.Lowering.KeptTurnsAndLengths.{instr_keeps}
use Rattle.spirv_emit.proofs.Lowering.EachInstruction.{ViewFits}
use Rattle.spirv_emit.proofs.Lowering.PiecesDoInstructions.{instr_does, test_does}
use Rattle.spirv_emit.proofs.Lowering.NamedNumbers.{has_first, has_behind, has_with, Among, among_first, among_later, among_index, source_among, declared_here}

zero_bit : (k : ℕ) → bit k 0 ≡ false
zero_bit k = ap (λ n. (n % 2 ^ 1) == 1) (zero-div (2 ^ k))

below_limit : (t : Bool) (k : ℕ) → k < slots_of (if t then 5 else 4) → k < (if t then 8 else 16)
below_limit true k h = h
below_limit false k h = h

module _ (p : Program) (good : IsGood p) (ids : Ids) (three_ids : ThreeIds ids) where
  abbrev at : Layout
  at = layout_of p

  abbrev numbers : List ℕ
  numbers = numbers_of p

  abbrev In : ℕ → Type 0
  In = Has (numbers_of p)

  abbrev pool : Pool (layout_of p) (Has (numbers_of p))
  pool = pool_of p

  own : (v : ℕ) → has own_numbers v ≡ true → Has (numbers_of p) v
  own v h = has_id numbers v (own_in p v h)

  many : (layout_of p).variables ≡ 25 + 4 * p.temps
  many = refl

  zero_among : has (numbers_of p) 0 ≡ true
  zero_among = own_in p 0 refl

  -- ## Views

  -- the numbers of a declaration that is used
  declared_in : (n slot : ℕ) (d : Declared) → declared_among n slot p.declared ≡ Some d → (v : ℕ) → has (declared_numbers d) v ≡ true → Has (numbers_of p) v
  declared_in n slot d is v h = has_id numbers v (has_with (flat_map declared_numbers p.declared ++ body_numbers p.body) own_numbers v (has_append (flat_map declared_numbers p.declared) (body_numbers p.body) v (declared_here n slot p.declared d is v h)))

  views : (u : SlotUse) (d : Declared) → used_as u p.declared ≡ Some d → ViewFits at In pool ids own p.declared p.temps many three_ids u d
  views u d is =
      let n = if u.writable then 5 else 4 in
      let found = found_fits n u.slot p.declared d good.declared is in
      record {
        below = below_limit u.writable u.slot (subst (λ k. k < slots_of n) found.slot (subst (λ k. d.slot < slots_of k) found.opcode found.fits.slot));
        takes = found.fits.parameter;
        has_parameter = declared_in n u.slot d is d.parameter (has_first d.parameter (d.parameter / 4 ∷ []));
        has_words = declared_in n u.slot d is (d.parameter / 4) (has_behind (d.parameter ∷ []) (d.parameter / 4 ∷ []) (d.parameter / 4) (has_first (d.parameter / 4) []));
      }

  -- ## Operands

  no_bit : (t : Target) (k : ℕ) → t.mask ≡ 0 → bit k t.mask ≡ true → t.index < p.temps
  no_bit t k z e = let f : true ≡ false = sym e ∙ ap (bit k) z ∙ zero_bit k in cc

  target_has : (q : Option Target) → MaybeFits (TargetFits p.declared p.temps) q → TargetHas p.declared p.temps ids three_ids q
  target_has None fits = tt
  target_has (Some t) fits =
      λ k e. ⊎_elim
      (λ (z : (eqb t.file 0 ≡ true) × (t.file ≡ 0)). fits.register z.1)
      (λ (z : (eqb t.file 0 ≡ false) × (t.file ≢ 0)). no_bit t k (fits.null z.1) e)
      (eqb_tells t.file 0)

  constant_below : (k : ℕ) (q : Option Declared) → declared_among 3 k p.declared ≡ q → IsSome q → k < 14
  constant_below k None is some = cc
  constant_below k (Some d) is some =
      let found = found_fits 3 k p.declared d good.declared is in
      subst (λ j. j < slots_of 3) found.slot (subst (λ j. d.slot < slots_of j) found.opcode found.fits.slot)

  in_place : (q : Option Operand) → MaybeFits (OperandFits p.declared p.temps) q → MaybeInPlace p.declared p.temps ids three_ids q
  in_place None fits = tt
  in_place (Some o) fits = λ e. constant_below o.index (declared_among 3 o.index p.declared) refl (fits.constant e)

  words_have : (q : Option Operand) → Among numbers (operand_numbers q) → MaybeHave at In pool ids own p.declared p.temps many q
  words_have None h = tt
  words_have (Some o) h = λ c lc. has_id numbers (slice_index o.words c) (among_index numbers o.words zero_among h c)

  -- ## Instructions and tests

  sources_fit : (i : Instr) → InstrFits p.declared p.temps i → Among numbers (instr_numbers i) → SourcesFit at In pool ids own p.declared p.temps many i
  sources_fit i fits h = record {
    fits = fits.sources;
    have = λ j. words_have (slice_index_or i.sources j None) (source_among numbers i.sources h j);
  }

  instr_case : (i : Instr) → InstrFits p.declared p.temps i → Among numbers (instr_numbers i) → (f : Frame) (s : State) → Shows p.temps f s → InstrDoes at In pool ids p.temps p.declared i f s
  instr_case i fits h f s sh =
      instr_does at In pool ids own p.declared p.temps many three_ids i fits.row f s fits.is_row fits.operands views fits.slot (target_has i.first fits.first) (target_has i.second fits.second) (sources_fit i fits h) (λ j. in_place (slice_index_or i.sources j None) (fits.sources j)) sh

  test_case : (t : Test) → TestFits p.declared p.temps t → Among numbers (test_numbers (Some t)) → TestsDo at In pool ids p.temps p.declared t
  test_case t fits h = λ f s sh. test_does at In pool ids own p.declared p.temps many three_ids t f s fits (words_have (Some t.value) h) (in_place (Some t.value) fits) sh

  maybe_case : (q : Option Test) → MaybeFits (TestFits p.declared p.temps) q → Among numbers (test_numbers q) → MaybeTestsDo at In pool ids p.temps p.declared q
  maybe_case None fits h = tt
  maybe_case (Some t) fits h = test_case t fits h

  -- ## Blocks

  body_case : (b : Body) → Fits p.declared p.temps b → Among numbers (body_numbers b) → BodyDoes at In pool ids p.temps p.declared b
  body_case End fits h = tt
  body_case (Plain i rest) fits h =
      (instr_case i fits.0 (among_first numbers (instr_numbers i) (body_numbers rest) h), λ s. (instr_keeps p.declared ids i s).turns, body_case rest fits.1 (among_later numbers (instr_numbers i) (body_numbers rest) h))
  body_case (If t first second rest) fits h =
      let a = body_numbers first in
      let b = body_numbers second in
      let c = body_numbers rest in
      let h1 = among_later numbers (test_numbers (Some t)) (a ++ (b ++ c)) h in
      let h2 = among_later numbers a (b ++ c) h1 in
      (test_case t fits.0 (among_first numbers (test_numbers (Some t)) (a ++ (b ++ c)) h), body_case first fits.1 (among_first numbers a (b ++ c) h1), body_case second fits.2 (among_first numbers b c h2), body_case rest fits.3 (among_later numbers b c h2))
  body_case (Loop inner rest) fits h = (body_case inner fits.0 (among_first numbers (body_numbers inner) (body_numbers rest) h), body_case rest fits.1 (among_later numbers (body_numbers inner) (body_numbers rest) h))
  body_case (Break t rest) fits h = (maybe_case t fits.0 (among_first numbers (test_numbers t) (body_numbers rest) h), body_case rest fits.1 (among_later numbers (test_numbers t) (body_numbers rest) h))
  body_case (Continue t rest) fits h = (maybe_case t fits.0 (among_first numbers (test_numbers t) (body_numbers rest) h), body_case rest fits.1 (among_later numbers (test_numbers t) (body_numbers rest) h))
  body_case (Return t rest) fits h = (maybe_case t fits.0 (among_first numbers (test_numbers t) (body_numbers rest) h), body_case rest fits.1 (among_later numbers (test_numbers t) (body_numbers rest) h))

  pub body_does : BodyDoes (layout_of p) (Has (numbers_of p)) (pool_of p) ids p.temps p.declared p.body
  body_does = body_case p.body good.fits (λ v h. has_with (flat_map declared_numbers p.declared ++ body_numbers p.body) own_numbers v (has_behind (flat_map declared_numbers p.declared) (body_numbers p.body) v h))
