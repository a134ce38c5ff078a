-- A dispatch of a module leaves each slot that it may write as many words as it had.
use Rattle.std.proofs.Common.{◌≡◌, ℕ, zero, suc, ◌-◌, ◌≤◌, ◌==◌, Bool, true, false, if◌then◌else◌, List, [], ◌∷◌, length, Option, Some, None, refl, ap, ◌∙◌, arith}
use Rattle.std.specs.Prelude.{nat_le, nat_lt, slice_index, slice_index_or, slice_set}
use Rattle.std.proofs.lemmas.List.{length-set}
use Rattle.std.proofs.lemmas.Bool.{and_parts, cond-true, cond-false, leb-true, le-ltb}
use Rattle.shader_model.specs.declared.ids.Ids.{Ids}
use Rattle.shader_model.specs.Invocation.{Slots, words_in}
use Rattle.shader_model.specs.Dispatch.{invocations}
use Rattle.spirv_model.specs.Op.{Op}
use Rattle.spirv_model.specs.Op as op
use Rattle.spirv_model.specs.declared.storage_classes.TheConstants as class
use Rattle.spirv_model.specs.Operands.{Verdict}
use Rattle.spirv_model.specs.Meaning.Bindings.{words_at, is_writable, with_word}
use Rattle.spirv_model.specs.Meaning.Values.{ToVariable, ToWord, Value, Word, Truth, At, of_one, of_two, selected, component, new_word, new_if_equal}
use Rattle.spirv_model.specs.Meaning.Memory.{Memory, with_result, with_slot_word, with_existing, outer_variable, values_of, chained, loaded, stored, exchanged, changed}
use Rattle.spirv_model.specs.Meaning.ModuleMeaning.{Run, results_in, leaves, variable, first_value, declares, after_label, goes_to, chooses, enters, step, steps, runs, run_whole, begun, reading_of, limit_of, module_meaning}
use Rattle.spirv_model.specs.Meaning.ModuleDispatch.{then_run, run_all, group_of, module_dispatched}

-- each slot that may be written has as many words as before
abbrev pub SameSizes : Slots → Slots → Type 0
SameSizes z y = (n : ℕ) → length (words_in y.writes n) ≡ length (words_in z.writes n)

-- so it is where there is an outcome
abbrev pub KeepsSizes : Slots → Option Slots → Type 0
KeepsSizes z None = Unit {0}
KeepsSizes z (Some y) = SameSizes z y

abbrev LeavesSizes : Memory → Option Memory → Type 0
LeavesSizes m None = Unit {0}
LeavesSizes m (Some n) = SameSizes m.slots n.slots

abbrev Keeping : Run → Type 0
Keeping go = (rest : List Op) (m : Memory) → KeepsSizes m.slots (go rest m)

kept_from : (x y : Slots) (o : Option Slots) → SameSizes x y → KeepsSizes y o → KeepsSizes x o
kept_from x y None h k = tt
kept_from x y (Some z) h k = λ n. k n ∙ h n

-- ---- words that are set

set_size : (ws : List (List ℕ)) (k j : ℕ) (new : List ℕ) → length new ≡ length (slice_index_or ws k []) → length (slice_index_or (slice_set ws k new) j []) ≡ length (slice_index_or ws j [])
set_size [] k j new e = refl
set_size (w ∷ ws) zero zero new e = e
set_size (w ∷ ws) zero (suc j) new e = refl
set_size (w ∷ ws) (suc k) zero new e = refl
set_size (w ∷ ws) (suc k) (suc j) new e = set_size ws k j new e

-- what can be written are the words of an unordered access view
written_words : (z : Slots) (b : ℕ) → is_writable b ≡ true → words_at z b ≡ words_in z.writes (b - 30)
written_words z b is =
    let parts = and_parts (nat_le 30 b) (nat_lt b 38) is in
    let low : 30 ≤ b = leb-true 30 b parts.0 in
    let last = if nat_lt b 38 then words_in z.writes (b - 30) else [] in
    let second = if nat_lt b 30 then words_in z.reads (b - 14) else last in
    cond-false (nat_lt b 14) (words_in z.constants b) second (le-ltb b 14 (omega arith))
    ∙ cond-false (nat_lt b 30) (words_in z.reads (b - 14)) last (le-ltb b 30 low)
    ∙ cond-true (nat_lt b 38) (words_in z.writes (b - 30)) [] parts.1

with_word_size : (b i v : ℕ) (z : Slots) → is_writable b ≡ true → SameSizes z (with_word b i v z)
with_word_size b i v z is = λ n. set_size z.writes (b - 30) n (slice_set (words_at z b) i v) (length-set (words_at z b) i v ∙ ap length (written_words z b is))

slot_word_keeps : (b i v : ℕ) (m : Memory) → LeavesSizes m (with_slot_word b i v m)
slot_word_keeps b i v m = by (is_writable b) refl
  where
    by : (t : Bool) → is_writable b ≡ t → LeavesSizes m (if t then Some (record m { slots = with_word b i v m.slots }) else None)
    by true is = with_word_size b i v m.slots is
    by false is = tt

existing_keeps : (old : Option Value) (x : ℕ) (v : Value) (m : Memory) → LeavesSizes m (with_existing old x v m)
existing_keeps None x v m = tt
existing_keeps (Some old) x v m = λ n. refl

stored_keeps : (p v : Option Value) (m : Memory) → LeavesSizes m (stored p v m)
stored_keeps (Some (At (ToWord b i))) (Some (Word v)) m = slot_word_keeps b i v m
stored_keeps (Some (At (ToVariable x))) (Some v) m = existing_keeps (m.variables x) x v m
stored_keeps _ _ m = tt

exchanged_keeps : (r b i old : ℕ) (new : Option ℕ) (m : Memory) → LeavesSizes m (exchanged r b i old new m)
exchanged_keeps r b i old None m = tt
exchanged_keeps r b i old (Some v) m = slot_word_keeps b i v (with_result r (Word old) m)

changed_keeps : (r : ℕ) (p : Option Value) (f : ℕ → Option ℕ) (m : Memory) → LeavesSizes m (changed r p f m)
changed_keeps r (Some (At (ToWord b i))) f m = let old = slice_index (words_at m.slots b) i in exchanged_keeps r b i old (f old) m
changed_keeps r _ f m = tt

-- ---- steps

module _ (ids : Ids) (all : List Op) (go : Run) (keeps : Keeping go) where
  results_keep : (o : Option Value) (r : ℕ) (rest : List Op) (m : Memory) → KeepsSizes m.slots (results_in o r rest go m)
  results_keep None r rest m = tt
  results_keep (Some v) r rest m = keeps rest (with_result r v m)

  leaves_keep : (m : Memory) (o : Option Memory) → LeavesSizes m o → (rest : List Op) → KeepsSizes m.slots (leaves o rest go)
  leaves_keep m None h rest = tt
  leaves_keep m (Some n) h rest = kept_from m.slots n.slots (go rest n) h (keeps rest n)

  variable_keeps : (r : ℕ) (o : Option Value) (rest : List Op) (m : Memory) → KeepsSizes m.slots (variable r o rest go m)
  variable_keeps r None rest m = tt
  variable_keeps r (Some v) rest m = keeps rest _

  declares_keep : (r c : ℕ) (vs : List ℕ) (rest : List Op) (m : Memory) → KeepsSizes m.slots (declares all r c vs rest go m)
  declares_keep r c vs rest m = by (c == class.FUNCTION)
    where
      by : (t : Bool) → KeepsSizes m.slots (if t then variable r (first_value m vs) rest go m else results_in (outer_variable c r all) r rest go m)
      by true = variable_keeps r (first_value m vs) rest m
      by false = results_keep (outer_variable c r all) r rest m

  goes_keep : (o : Option (List Op)) (m : Memory) → KeepsSizes m.slots (goes_to o go m)
  goes_keep None m = tt
  goes_keep (Some rest) m = keeps rest m

  chooses_keep : (v : Option Value) (a b : ℕ) (m : Memory) → KeepsSizes m.slots (chooses all v a b go m)
  chooses_keep (Some (Truth true)) a b m = goes_keep (after_label a all) m
  chooses_keep (Some (Truth false)) a b m = goes_keep (after_label b all) m
  chooses_keep _ a b m = tt

  enters_keep : (os : List Op) (m : Memory) → KeepsSizes m.slots (enters os go m)
  enters_keep (op.Label l ∷ rest) m = keeps rest m
  enters_keep _ m = tt

  step_keeps : (o : Op) (rest : List Op) (m : Memory) → KeepsSizes m.slots (step ids all o rest go m)
  step_keeps (op.Constant t r v) rest m = results_keep (Some (Word v)) r rest m
  step_keeps (op.Variable t r c vs) rest m = declares_keep r c vs rest m
  step_keeps (op.Function t r c f) rest m = enters_keep rest m
  step_keeps op.FunctionEnd rest m = tt
  step_keeps (op.Load t r p) rest m = results_keep (loaded ids m (m.results p)) r rest m
  step_keeps (op.Store p v) rest m = leaves_keep m (stored (m.results p) (m.results v) m) (stored_keeps (m.results p) (m.results v) m) rest
  step_keeps (op.AccessChain t r b is) rest m = results_keep (chained m.slots (m.results b) (values_of m.results is)) r rest m
  step_keeps (op.CompositeExtract t r v i) rest m = results_keep (component i (m.results v)) r rest m
  step_keeps (op.Unary o t r a) rest m = results_keep (of_one o (m.results a)) r rest m
  step_keeps (op.Binary o t r a b) rest m = results_keep (of_two o (m.results a) (m.results b)) r rest m
  step_keeps (op.Select t r c a b) rest m = results_keep (selected (m.results c) (m.results a) (m.results b)) r rest m
  step_keeps (op.Atomic o t r p s w v) rest m = leaves_keep m (changed r (m.results p) (new_word o (m.results v)) m) (changed_keeps r (m.results p) (new_word o (m.results v)) m) rest
  step_keeps (op.AtomicCompareExchange t r p s e u v c) rest m =
      leaves_keep m (changed r (m.results p) (new_if_equal (m.results v) (m.results c)) m) (changed_keeps r (m.results p) (new_if_equal (m.results v) (m.results c)) m) rest
  step_keeps (op.Label l) rest m = tt
  step_keeps (op.Branch l) rest m = goes_keep (after_label l all) m
  step_keeps (op.BranchConditional c a b) rest m = chooses_keep (m.results c) a b m
  step_keeps op.Return rest m = λ n. refl
  step_keeps o rest m = keeps rest m

  steps_keep : (os : List Op) (m : Memory) → KeepsSizes m.slots (steps ids all os go m)
  steps_keep [] m = tt
  steps_keep (o ∷ rest) m = step_keeps o rest m

-- ---- runs

runs_keep : (ids : Ids) (all : List Op) (n : ℕ) → Keeping (runs ids all n)
runs_keep ids all zero rest m = tt
runs_keep ids all (suc n) rest m = steps_keep ids all (runs ids all n) (runs_keep ids all n) rest m

whole_keeps : (ids : Ids) (limit : ℕ) (stop : Verdict) (all : List Op) (z : Slots) → KeepsSizes z (run_whole ids limit stop all z)
whole_keeps ids limit None all z = runs_keep ids all limit all (begun z)
whole_keeps ids limit (Some k) all z = tt

meaning_keeps : (words : List ℕ) (ids : Ids) (z : Slots) → KeepsSizes z (module_meaning words ids z)
unfolding module_meaning
meaning_keeps words ids z = let r = reading_of words in whole_keeps ids (limit_of words) r.stop r.ops z

all_keep : (words : List ℕ) (is : List Ids) (z : Slots) → KeepsSizes z (run_all words is z)
all_keep words [] z = λ n. refl
all_keep words (ids ∷ later) z = by (all_keep words later) (module_meaning words ids z) (meaning_keeps words ids z)
  where
    by : ((y : Slots) → KeepsSizes y (run_all words later y)) → (o : Option Slots) → KeepsSizes z o → KeepsSizes z (then_run o (run_all words later))
    by rest None h = tt
    by rest (Some y) h = kept_from z y (run_all words later y) h (rest y)

pub dispatched_keeps : (words groups : List ℕ) (z : Slots) → KeepsSizes z (module_dispatched words groups z)
dispatched_keeps words groups z = all_keep words (invocations groups (group_of words)) z
