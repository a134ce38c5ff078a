-- What stands before the numbers is taken, whatever the bound and the group's size.
use Rattle.std.proofs.Common.{◌≡◌, ℕ, ◌<◌, ◌≤◌, Bool, true, false, if◌then◌else◌, List, [], ◌∷◌, map, Option, Some, None, is_some, refl, sym, ◌∙◌, subst, arith}
use Rattle.std.specs.Prelude.{◌==◌, ◌&&◌, ◌||◌, nat_lt}
use Rattle.std.proofs.lemmas.Bool.{ltb-true, eqb-true}
use Rattle.spirv_model.specs.declared.merge.Merge.TheVariants.{NoMerge}
use Rattle.spirv_model.specs.Op.{Op}
use Rattle.spirv_model.specs.Op as op
use Rattle.spirv_model.specs.declared.storage_classes.TheConstants as class
use Rattle.spirv_model.specs.History.{result_of, maker, in_function, is_entry, after}
use Rattle.spirv_model.specs.Sections.{in_order}
use Rattle.spirv_model.specs.Blocks.{pending}
use Rattle.spirv_model.specs.FirstBad.{ops_fault, late_operands}
use Rattle.spirv_model.specs.FirstBad as first_bad
use Rattle.spirv_emit.specs.declared.piece.Vector.{Vector}
use Rattle.spirv_emit.specs.declared.piece.Vector.TheVariants.{Group, Thread, Global}
use Rattle.spirv_emit.specs.Layout as id
use Rattle.spirv_emit.specs.Layout.{buffer_at, bindings, vector_id}
use Rattle.spirv_emit.specs.Module.{preamble}
use Rattle.spirv_emit.proofs.Meaning.WholeModule.{each_below}
use Rattle.spirv_emit.proofs.Profile.InstructionsPass.{and_parts, Fine, Passes, maker_other, maker_none}
use Rattle.spirv_emit.proofs.Profile.LabelsMade.{Settles}
use Rattle.spirv_emit.proofs.Profile.GreaterBounds.{are_early, early_all, fault_passes, passes_more}
use Rattle.spirv_emit.proofs.Profile.Scope.{Setting}

is_taken : (g : List ℕ) → ops_fault 61 [] 5 (preamble g) ≡ None
is_taken g = refl

is_early : (g : List ℕ) → are_early (preamble g) ≡ true
is_early g = refl

pub preamble_passes : (g : List ℕ) (bound : ℕ) → 61 ≤ bound → Passes bound [] (preamble g)
preamble_passes g bound le = passes_more 61 bound le [] (preamble g) (early_all (preamble g) (is_early g)) (fault_passes 61 [] (preamble g) 5 (is_taken g))

-- the instructions before the numbers, the latest first
abbrev pub before : List ℕ → List Op
before g = after (preamble g) []

-- ## What it makes

abbrev is_below : Option ℕ → Bool
is_below None = true
is_below (Some r) = nat_lt r 61

abbrev all_below : List Op → Bool
all_below [] = true
all_below (o ∷ os) = is_below (result_of o) && all_below os

unmade_over : (o : Op) (h : List Op) (x : ℕ) (q : Option ℕ) → result_of o ≡ q → is_below q ≡ true → 61 ≤ x → maker x h ≡ None → maker x (o ∷ h) ≡ None
unmade_over o h x None r b le e = maker_none x o h r ∙ e
unmade_over o h x (Some y) r b le e = let lt = ltb-true y 61 b in maker_other x y o h r (λ (z : y ≡ x). absurd (omega (arith, lt, le, z))) ∙ e

unmade_after : (os h : List Op) (x : ℕ) → all_below os ≡ true → 61 ≤ x → maker x h ≡ None → maker x (after os h) ≡ None
unmade_after [] h x b le e = e
unmade_after (o ∷ os) h x b le e = let p = and_parts (is_below (result_of o)) (all_below os) b in unmade_after os (o ∷ h) x p.1 le (unmade_over o h x (result_of o) refl p.0 le e)

makes_below : (g : List ℕ) → all_below (preamble g) ≡ true
makes_below g = refl

pub before_fresh : (g : List ℕ) (x : ℕ) → 61 ≤ x → maker x (before g) ≡ None
before_fresh g x le = unmade_after (preamble g) [] x (makes_below g) le refl

pub before_outside : (g : List ℕ) → in_function (before g) ≡ false
before_outside g = refl

pub before_calm : (g : List ℕ) → pending (before g) ≡ NoMerge
before_calm g = refl

pub before_entry : (g : List ℕ) → is_entry id.main (before g) ≡ true
before_entry g = refl

pub before_constant : (g : List ℕ) (t r v : ℕ) → in_order (before g) (op.Constant t r v) ≡ true
before_constant g t r v = refl

pub before_function : (g : List ℕ) (t r c f : ℕ) → in_order (before g) (op.Function t r c f) ≡ true
before_function g t r c f = refl

pub before_main : (g : List ℕ) → maker id.main (before g) ≡ None
before_main g = refl

pub before_void : (g : List ℕ) → maker id.void_type (before g) ≡ Some (op.TypeVoid id.void_type)
before_void g = refl

pub before_main_type : (g : List ℕ) → maker id.main_type (before g) ≡ Some (op.TypeFunction id.main_type id.void_type)
before_main_type g = refl

vector_made : (g : List ℕ) (k : Vector) → maker (vector_id k) (before g) ≡ Some (op.Variable id.to_input_vector (vector_id k) class.INPUT [])
vector_made g Group = refl
vector_made g Thread = refl
vector_made g Global = refl

buffer_made : (g : List ℕ) (b : ℕ) → b < bindings → maker (buffer_at b) (before g) ≡ Some (op.Variable id.to_buffer (buffer_at b) class.STORAGE_BUFFER [])
buffer_made g = each_below (λ b. maker (buffer_at b) (before g) ≡ Some (op.Variable id.to_buffer (buffer_at b) class.STORAGE_BUFFER [])) 38 ((((((((((((((((((((((((((((((((((((((tt, refl), refl), refl), refl), refl), refl), refl), refl), refl), refl), refl), refl), refl), refl), refl), refl), refl), refl), refl), refl), refl), refl), refl), refl), refl), refl), refl), refl), refl), refl), refl), refl), refl), refl), refl), refl), refl), refl)

pub before_setting : (g : List ℕ) → Setting (before g)
before_setting g = record {
  word = refl;
  truth = refl;
  vector = refl;
  pair = refl;
  array = refl;
  buffer_block = refl;
  lengths_block = refl;
  input_vector = refl;
  input_word = refl;
  local_word = refl;
  to_lengths = refl;
  length_word = refl;
  to_buffer = refl;
  buffer_word = refl;
  vectors = vector_made g;
  index = refl;
  lengths = refl;
  buffers = buffer_made g;
}

-- ## What it names that may be made later

abbrev later_ids : Op → List ℕ
later_ids (op.EntryPoint m f n n' is) = f ∷ is
later_ids (op.ExecutionMode f m x y z) = f ∷ []
later_ids (op.Decorate x d vs) = x ∷ []
later_ids (op.MemberDecorate x m d vs) = x ∷ []
later_ids _ = []

abbrev names_label : Op → Bool
names_label (op.LoopMerge m n c) = true
names_label (op.SelectionMerge m c) = true
names_label (op.Branch l) = true
names_label (op.BranchConditional c a b) = true
names_label _ = false

-- main, or what was made before the numbers
abbrev is_known : List Op → ℕ → Bool
is_known h x = (x == id.main) || is_some (maker x h)

abbrev are_known : List Op → List ℕ → Bool
are_known h [] = true
are_known h (x ∷ xs) = is_known h x && are_known h xs

abbrev all_known : List Op → List Op → Bool
all_known h [] = true
all_known h (o ∷ os) = (if names_label o then false else are_known h (later_ids o)) && all_known h os

module _ (h all : List Op) (known : (x : ℕ) → is_known h x ≡ true → first_bad.id all x ≡ None) where
  ids_settle : (xs : List ℕ) → are_known h xs ≡ true → Fine (map (first_bad.id all) xs)
  ids_settle [] e = tt
  ids_settle (x ∷ xs) e = let p = and_parts (is_known h x) (are_known h xs) e in (known x p.0, ids_settle xs p.1)

  one_known : (x : ℕ) → are_known h (x ∷ []) ≡ true → first_bad.id all x ≡ None
  one_known x e = known x (and_parts (is_known h x) true e).0

  op_settles : (o : Op) → (if names_label o then false else are_known h (later_ids o)) ≡ true → Fine (late_operands all o)
  op_settles (op.EntryPoint m f n n' is) e = let p = and_parts (is_known h f) (are_known h is) e in (refl, (known f p.0, (refl, (refl, ids_settle is p.1))))
  op_settles (op.ExecutionMode f m x y z) e = (one_known f e, tt)
  op_settles (op.Decorate x d vs) e = (one_known x e, tt)
  op_settles (op.MemberDecorate x m d vs) e = (one_known x e, tt)
  op_settles (op.LoopMerge m n c) e = cc
  op_settles (op.SelectionMerge m c) e = cc
  op_settles (op.Branch l) e = cc
  op_settles (op.BranchConditional c a b) e = cc
  op_settles _ e = tt

  ops_settle : (os : List Op) → all_known h os ≡ true → Settles all os
  ops_settle [] e = tt
  ops_settle (o ∷ os) e = let p = and_parts (if names_label o then false else are_known h (later_ids o)) (all_known h os) e in (op_settles o p.0, ops_settle os p.1)

names_known : (g : List ℕ) → all_known (before g) (preamble g) ≡ true
names_known g = refl

-- all that it names is made where main is, and what was made before the numbers
pub preamble_settles : (g : List ℕ) (all : List Op) → ((x : ℕ) → is_some (maker x (before g)) ≡ true → first_bad.id all x ≡ None) → first_bad.id all id.main ≡ None → Settles all (preamble g)
preamble_settles g all made main = ops_settle (before g) all (λ x e. by_first x (x == id.main) refl e) (preamble g) (names_known g)
  where
    by_first : (x : ℕ) (t : Bool) → (x == id.main) ≡ t → (t || is_some (maker x (before g))) ≡ true → first_bad.id all x ≡ None
    by_first x true e k = subst (λ z. first_bad.id all z ≡ None) (sym (eqb-true x id.main e)) main
    by_first x false e k = made x k
