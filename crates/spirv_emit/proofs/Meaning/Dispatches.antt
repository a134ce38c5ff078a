-- A dispatch of a good shader's module is the dispatch of the shader.
use Rattle.std.proofs.Common.{◌≡◌, ℕ, ◌≤◌, Bool, true, if◌then◌else◌, List, [], ◌∷◌, ◌++◌, map, length, Some, refl, sym, ap, ◌∙◌, arith}
use Rattle.std.specs.Prelude.{slice_index, flat_map}
use Rattle.std.specs.List.{AllByRecursion}
use Rattle.shader_model.specs.declared.ids.Ids.{Ids}
use Rattle.shader_model.specs.Shader.{Program}
use Rattle.shader_model.specs.Good.{IsGood}
use Rattle.shader_model.specs.Invocation.{Slots, invoked}
use Rattle.shader_model.specs.Dispatch.{below, places, invocations, run_all, is_allowed, dispatched}
use Rattle.spirv_model.specs.Meaning.Bindings.{words_at, SlotsFit}
use Rattle.spirv_model.specs.Meaning.ModuleDispatch as machine
use Rattle.spirv_model.specs.Meaning.ModuleDispatch.{then_run, group_of, module_dispatched}
use Rattle.spirv_emit.specs.Module.{module_of}
use Rattle.spirv_emit.proofs.Lowering.SourceLeaves.{ThreeIds}
use Rattle.spirv_emit.proofs.Lowering.KeptTurnsAndLengths.{invoked_keeps}
use Rattle.spirv_emit.proofs.Meaning.ModuleMeaning.{small_means}
use Rattle.spirv_emit.proofs.Lowering.GoodBodies.{body_does}
use Rattle.spirv_emit.proofs.Meaning.GoodShaders.{group_is}

-- ## Each invocation of a dispatch has ids of three components

module _ {A B : Type 0} (Q : A → Type 0) (P : B → Type 0) where
  all_append : (xs ys : List B) → AllByRecursion P xs → AllByRecursion P ys → AllByRecursion P (xs ++ ys)
  all_append [] ys hx hy = hy
  all_append (x ∷ xs) ys hx hy = (hx.0, all_append xs ys hx.1 hy)

  all_map : (f : A → B) (xs : List A) → AllByRecursion Q xs → ((x : A) → Q x → P (f x)) → AllByRecursion P (map f xs)
  all_map f [] h each = tt
  all_map f (x ∷ xs) h each = (each x h.0, all_map f xs h.1 each)

  all_flat : (f : A → List B) (xs : List A) → AllByRecursion Q xs → ((x : A) → Q x → AllByRecursion P (f x)) → AllByRecursion P (flat_map f xs)
  all_flat f [] h each = tt
  all_flat f (x ∷ xs) h each = all_append (f x) (flat_map f xs) (each x h.0) (all_flat f xs h.1 each)

abbrev Any : ℕ → Type 0
Any n = Unit {0}

all_any : (ns : List ℕ) → AllByRecursion Any ns
all_any [] = tt
all_any (n ∷ ns) = (tt, all_any ns)

abbrev Three : List ℕ → Type 0
Three xs = length xs ≡ 3

three_places : (sizes : List ℕ) → AllByRecursion Three (places sizes)
three_places sizes =
    all_flat Any Three (λ z. flat_map (λ y. map (λ x. x ∷ y ∷ z ∷ []) (below (slice_index sizes 0))) (below (slice_index sizes 1))) (below (slice_index sizes 2)) (all_any (below (slice_index sizes 2)))
    (λ z hz. all_flat Any Three (λ y. map (λ x. x ∷ y ∷ z ∷ []) (below (slice_index sizes 0))) (below (slice_index sizes 1)) (all_any (below (slice_index sizes 1)))
    (λ y hy. all_map Any Three (λ x. x ∷ y ∷ z ∷ []) (below (slice_index sizes 0)) (all_any (below (slice_index sizes 0))) (λ x hx. refl)))

three_ids : (groups size : List ℕ) → AllByRecursion ThreeIds (invocations groups size)
three_ids groups size =
    all_flat Three ThreeIds (λ g. map (λ t. record { group = g; thread = t; size = size }) (places size)) (places groups) (three_places groups)
    (λ g hg. all_map Three ThreeIds (λ t. record { group = g; thread = t; size = size }) (places size) (three_places size) (λ t ht. record { group = hg; thread = ht }))

-- ## One invocation after another

module _ (p : Program) (good : IsGood p) where
  all_run : (invocations : List Ids) (slots : Slots) → AllByRecursion ThreeIds invocations → ((b : ℕ) → length (words_at slots b) ≤ 4194304) → machine.run_all (module_of p) invocations slots ≡ Some (run_all p invocations slots)
  all_run [] slots three small = refl
  all_run (ids ∷ later) slots three small =
      ap (λ q. then_run q (machine.run_all (module_of p) later)) (small_means p ids slots small (body_does p good ids three.0))
      ∙ all_run later (invoked p ids slots) three.1 (λ b. let e = invoked_keeps p ids slots b in let k = small b in omega (arith, e, k))

  -- the slots that a dispatch of the module leaves are those that one invocation of the shader after another leaves
  pub module_runs_all : (groups : List ℕ) (slots : Slots) → SlotsFit slots → module_dispatched (module_of p) groups slots ≡ Some (run_all p (invocations groups p.group) slots)
  module_runs_all groups slots fit =
      ap (λ g. machine.run_all (module_of p) (invocations groups g) slots) (group_is p good)
      ∙ all_run (invocations groups p.group) slots (three_ids groups p.group) fit.lengths

  -- and where the dispatch is not too large, those that it leaves
  pub module_dispatches : (groups : List ℕ) (slots : Slots) → is_allowed groups p.group ≡ true → SlotsFit slots → module_dispatched (module_of p) groups slots ≡ Some (dispatched p groups slots)
  module_dispatches groups slots allowed fit =
      module_runs_all groups slots fit ∙ ap (λ (t : Bool). Some (if t then run_all p (invocations groups p.group) slots else slots)) (sym allowed)
