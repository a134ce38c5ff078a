-- The steps of a module's table do what its instructions do.
use Rattle.std.proofs.Common.{◌≡◌, ℕ, zero, suc, ◌+◌, ◌*◌, ◌-◌, ◌<◌, ◌≤◌, Bool, true, false, if◌then◌else◌, ◌==◌, max, List, [], ◌∷◌, length, get_or, drop, Option, Some, None, refl, sym, ap, ◌∙◌, subst, arith}
use Rattle.std.specs.Prelude.{slice_get, unwrap_or, IsSome}
use Rattle.std.proofs.lemmas.List.{drop_all, drop-drop}
use Rattle.shader_model.specs.declared.ids.Ids.{Ids}
use Rattle.shader_model.specs.Invocation.{Slots}
use Rattle.spirv_model.specs.Op.{Op}
use Rattle.spirv_model.specs.Op as op
use Rattle.spirv_model.specs.declared.storage_classes.TheConstants as class
use Rattle.spirv_model.specs.declared.limits.TheConstants.{STEPS_A_WORD}
use Rattle.spirv_model.specs.Operands.{Verdict}
use Rattle.spirv_model.specs.FirstBad.{reading}
use Rattle.spirv_model.specs.Meaning.Values.{Value, Nothing, Word, Truth, At, ToVariable, ToBuffer, ToLengths, ToInput, of_one, of_two, selected, component, new_word, new_if_equal}
use Rattle.spirv_model.specs.declared.decorations.TheConstants as decoration
use Rattle.spirv_model.specs.Meaning.Memory.{Memory, with_result, with_variable, decorated, outer_variable, pointer_by, chained, values_of, loaded, stored, changed}
use Rattle.spirv_model.specs.Meaning.ModuleMeaning.{Run, results_in, leaves, variable, first_value, after_label, goes_to, jumps, chooses, enters, step, steps, runs, run_whole, begun, reading_of, limit_of, module_meaning}
use Rattle.spirv_run.specs.declared.step.Step.{Step}
use Rattle.spirv_run.specs.declared.step.Step.TheVariants as held
use Rattle.spirv_run.specs.declared.step.Source.TheVariants as source
use Rattle.spirv_run.specs.declared.value.Pointer.TheVariants as pointer
use Rattle.spirv_run.specs.Frames.{Beginning, Frame, at_start}
use Rattle.spirv_run.specs.Held.{memory_of}
use Rattle.spirv_run.specs.Steps.{Reaches, result_in, left_in, variable_in, chosen_in, done, continued, end_of, end_of_all}
use Rattle.spirv_run.specs.Decoding.{place_behind, behind, outer_by, outer, head_of, chain, begins_with_label, step_of, steps_from, steps_of, ops_of}
use Rattle.spirv_run.specs.Tables.{ids_of, IsBeginning, IsFor, Leave}

-- ## Lists of instructions

-- from a place on, once one instruction more was passed
pub drop_more : (all : List Op) (at : ℕ) (o : Op) (os : List Op) → drop at all ≡ o ∷ os → drop (at + 1) all ≡ os
drop_more all at o os e = sym (drop-drop 1 at all) ∙ ap (drop 1) e

-- ## Labels

label_here : (all os : List Op) (at : ℕ) (r : Option (List Op)) (k : Option ℕ) (go : Run) (m : Memory) (b : Bool)
    → drop (at + 1) all ≡ os
    → goes_to r go m ≡ go (drop (unwrap_or k (length all)) all) m
    → goes_to (if b then Some os else r) go m ≡ go (drop (unwrap_or (if b then Some (at + 1) else k) (length all)) all) m
label_here all os at r k go m true e h = ap (λ z. go z m) (sym e)
label_here all os at r k go m false e h = h

-- behind a label the same instructions stand as at its place
label_at : (all : List Op) (l at : ℕ) (os : List Op) (go : Run) (m : Memory) → go [] m ≡ None → drop at all ≡ os
    → goes_to (after_label l os) go m ≡ go (drop (unwrap_or (place_behind l at os) (length all)) all) m
label_at all l at [] go m none e = sym (ap (λ z. go z m) (drop_all (length all) all (omega arith)) ∙ none)
label_at all l at (op.Label x ∷ os) go m none e =
    let next = drop_more all at (op.Label x) os e in
    label_here all os at (after_label l os) (place_behind l (at + 1) os) go m (x == l) next (label_at all l (at + 1) os go m none next)
label_at all l at (o ∷ os) go m none e = label_at all l (at + 1) os go m none (drop_more all at o os e)

-- ## Steps

module _ (ids : Ids) (all : List Op) (go : Run) (none : (m : Memory) → go [] m ≡ None) where
  goes_on : (rest : List Op) (next : ℕ) (m : Memory) → drop next all ≡ rest → go rest m ≡ go (drop next all) m
  goes_on rest next m e = ap (λ z. go z m) (sym e)

  gives : (rest : List Op) (next r : ℕ) (m : Memory) (v : Option Value) → drop next all ≡ rest → results_in v r rest go m ≡ continued all go (result_in v r next m)
  gives rest next r m None e = refl
  gives rest next r m (Some v) e = goes_on rest next (with_result r v m) e

  leaves_on : (rest : List Op) (next : ℕ) (m : Option Memory) → drop next all ≡ rest → leaves m rest go ≡ continued all go (left_in m next)
  leaves_on rest next None e = refl
  leaves_on rest next (Some m) e = goes_on rest next m e

  makes : (rest : List Op) (next r : ℕ) (m : Memory) (v : Option Value) → drop next all ≡ rest → variable r v rest go m ≡ continued all go (variable_in v r next m)
  makes rest next r m None e = refl
  makes rest next r m (Some v) e = goes_on rest next (with_result r (At (ToVariable r)) (with_variable r v m)) e

  begins : (rest : List Op) (next r : ℕ) (m : Memory) (vs : List ℕ) → drop next all ≡ rest → variable r (first_value m vs) rest go m ≡ continued all go (done ids (held.Variable r (head_of vs)) next m)
  begins rest next r m [] e = makes rest next r m (Some Nothing) e
  begins rest next r m (x ∷ xs) e = makes rest next r m (m.results x) e

  points : (rest : List Op) (next r : ℕ) (m : Memory) (b1 b2 b3 : Bool) (n1 n2 : Option ℕ) → drop next all ≡ rest
      → results_in (if b1 then pointer_by ToInput n1 else if b2 then Some (At ToLengths) else if b3 then pointer_by ToBuffer n2 else None) r rest go m
      ≡ continued all go (done ids (if b1 then outer_by pointer.Input r n1 else if b2 then held.Give r (source.Outer pointer.Lengths) else if b3 then outer_by pointer.Buffer r n2 else held.Stuck) next m)
  points rest next r m true b2 b3 None n2 e = refl
  points rest next r m true b2 b3 (Some n) n2 e = goes_on rest next (with_result r (At (ToInput n)) m) e
  points rest next r m false true b3 n1 n2 e = goes_on rest next (with_result r (At ToLengths) m) e
  points rest next r m false false true n1 None e = refl
  points rest next r m false false true n1 (Some n) e = goes_on rest next (with_result r (At (ToBuffer n)) m) e
  points rest next r m false false false n1 n2 e = refl

  declares_by : (rest : List Op) (next r c : ℕ) (m : Memory) (vs : List ℕ) (b : Bool) → drop next all ≡ rest
      → (if b then variable r (first_value m vs) rest go m else results_in (outer_variable c r all) r rest go m)
      ≡ continued all go (done ids (if b then held.Variable r (head_of vs) else outer c r all) next m)
  declares_by rest next r c m vs true e = begins rest next r m vs e
  declares_by rest next r c m vs false e =
      points rest next r m (c == class.INPUT) (c == class.PUSH_CONSTANT) (c == class.STORAGE_BUFFER) (decorated decoration.BUILT_IN r all) (decorated decoration.BINDING r all) e

  chained_none : (slots : Slots) (base : Option Value) → chained slots base [] ≡ None
  chained_none slots (Some (At (ToBuffer b))) = refl
  chained_none slots (Some (At ToLengths)) = refl
  chained_none slots _ = refl

  chained_many : (slots : Slots) (base i j k : Option Value) (is : List (Option Value)) → chained slots base (i ∷ j ∷ k ∷ is) ≡ None
  chained_many slots (Some (At (ToBuffer b))) (Some (Word zero)) (Some (Word n)) k is = refl
  chained_many slots (Some (At (ToBuffer b))) _ _ k is = refl
  chained_many slots (Some (At ToLengths)) (Some (Word b)) _ k is = refl
  chained_many slots (Some (At ToLengths)) _ _ k is = refl
  chained_many slots _ _ _ k is = refl

  chains : (rest : List Op) (next r b : ℕ) (m : Memory) (is : List ℕ) → drop next all ≡ rest
      → results_in (chained m.slots (m.results b) (values_of m.results is)) r rest go m ≡ continued all go (done ids (chain r b is) next m)
  chains rest next r b m [] e = ap (λ v. results_in v r rest go m) (chained_none m.slots (m.results b))
  chains rest next r b m (i ∷ []) e = gives rest next r m (chained m.slots (m.results b) (m.results i ∷ [])) e
  chains rest next r b m (i ∷ j ∷ []) e = gives rest next r m (chained m.slots (m.results b) (m.results i ∷ m.results j ∷ [])) e
  chains rest next r b m (i ∷ j ∷ k ∷ is) e =
      ap (λ v. results_in v r rest go m) (chained_many m.slots (m.results b) (m.results i) (m.results j) (m.results k) (values_of m.results is))

  enters_on : (rest : List Op) (next : ℕ) (m : Memory) → drop next all ≡ rest
      → enters rest go m ≡ continued all go (done ids (if begins_with_label rest then held.Jump (next + 1) else held.Stuck) next m)
  enters_on (op.Label l ∷ os) next m e = goes_on os (next + 1) m (drop_more all next (op.Label l) os e)
  enters_on _ next m e = refl

  jumps_on : (l : ℕ) (m : Memory) → jumps all l go m ≡ go (drop (behind all l) all) m
  jumps_on l m = label_at all l 0 all go m (none m) refl

  chooses_on : (next : ℕ) (m : Memory) (v : Option Value) (a b : ℕ) → chooses all v a b go m ≡ continued all go (chosen_in v (behind all a) (behind all b) m)
  chooses_on next m (Some (Truth true)) a b = jumps_on a m
  chooses_on next m (Some (Truth false)) a b = jumps_on b m
  chooses_on next m _ a b = refl

  -- an instruction's step does what the instruction does
  step_same : (o : Op) (rest : List Op) (next : ℕ) (m : Memory) → drop next all ≡ rest
      → step ids all o rest go m ≡ continued all go (done ids (step_of all o (begins_with_label rest) next) next m)
  step_same (op.Constant t r v) rest k m e = gives rest k r m (Some (Word v)) e
  step_same (op.Variable t r c vs) rest k m e = declares_by rest k r c m vs (c == class.FUNCTION) e
  step_same (op.Function t r c f) rest k m e = enters_on rest k m e
  step_same op.FunctionEnd rest k m e = refl
  step_same (op.Load t r p) rest k m e = gives rest k r m (loaded ids m (m.results p)) e
  step_same (op.Store p v) rest k m e = leaves_on rest k (stored (m.results p) (m.results v) m) e
  step_same (op.AccessChain t r b is) rest k m e = chains rest k r b m is e
  step_same (op.CompositeExtract t r v i) rest k m e = gives rest k r m (component i (m.results v)) e
  step_same (op.Unary o t r a) rest k m e = gives rest k r m (of_one o (m.results a)) e
  step_same (op.Binary o t r a b) rest k m e = gives rest k r m (of_two o (m.results a) (m.results b)) e
  step_same (op.Select t r c a b) rest k m e = gives rest k r m (selected (m.results c) (m.results a) (m.results b)) e
  step_same (op.Atomic o t r p s w v) rest k m e = leaves_on rest k (changed r (m.results p) (new_word o (m.results v)) m) e
  step_same (op.AtomicCompareExchange t r p s x u v c) rest k m e = leaves_on rest k (changed r (m.results p) (new_if_equal (m.results v) (m.results c)) m) e
  step_same (op.Label l) rest k m e = refl
  step_same (op.Branch l) rest k m e = jumps_on l m
  step_same (op.BranchConditional c a b) rest k m e = chooses_on k m (m.results c) a b
  step_same op.Return rest k m e = refl
  step_same o rest k m e = goes_on rest k m e

  at_place : (at : ℕ) (os : List Op) (i : ℕ) (s : Step) (m : Memory) → drop at all ≡ os → slice_get (steps_from all at os) i ≡ Some s
      → steps ids all (drop (at + i) all) go m ≡ continued all go (done ids s (at + i + 1) m)
  at_place at [] i s m e h = absurd (cc)
  at_place at (o ∷ os) zero s m e h =
      let same : at + 0 ≡ at = omega arith in
      let it : step_of all o (begins_with_label os) (at + 1) ≡ s = cc in
      ap (λ z. steps ids all (drop z all) go m) same
      ∙ ap (λ z. steps ids all z go m) e
      ∙ step_same o os (at + 1) m (drop_more all at o os e)
      ∙ ap (λ z. continued all go (done ids z (at + 1) m)) it
      ∙ ap (λ z. continued all go (done ids s (z + 1) m)) (sym same)
  at_place at (o ∷ os) (suc i) s m e h =
      let same : at + suc i ≡ at + 1 + i = omega arith in
      ap (λ z. steps ids all (drop z all) go m) same
      ∙ at_place (at + 1) os i s m (drop_more all at o os e) h
      ∙ ap (λ z. continued all go (done ids s (z + 1) m)) (sym same)

-- behind the table's end there are no instructions
past_end : (all : List Op) (at : ℕ) (os : List Op) (i : ℕ) → drop at all ≡ os → slice_get (steps_from all at os) i ≡ None → drop (at + i) all ≡ []
past_end all at [] i e h = sym (drop-drop i at all) ∙ ap (drop i) e ∙ drop_all i [] (omega arith)
past_end all at (o ∷ os) zero e h = absurd (cc)
past_end all at (o ∷ os) (suc i) e h =
    let same : at + suc i ≡ at + 1 + i = omega arith in
    ap (λ z. drop z all) same ∙ past_end all (at + 1) os i (drop_more all at o os e) h

-- ## Runs

runs_none : (ids : Ids) (all : List Op) (n : ℕ) (m : Memory) → runs ids all n [] m ≡ None
runs_none ids all zero m = refl
runs_none ids all (suc n) m = refl

-- one step of a round that has some left
pub round_step : (words : List ℕ) (ids : Ids) (most i n place : ℕ) (s : Step) (m : Memory) → i < most → slice_get (steps_of words) place ≡ Some s
    → runs ids (ops_of words) (most - i + n) (drop place (ops_of words)) m
    ≡ continued (ops_of words) (runs ids (ops_of words) (most - (i + 1) + n)) (done ids s (place + 1) m)
unfolding steps_of
round_step words ids most i n place s m lt h =
    let all = ops_of words in
    let go : Run = runs ids all (most - (i + 1) + n) in
    let one : most - i + n ≡ suc (most - (i + 1) + n) = omega arith in
    let same : place ≡ 0 + place = omega arith in
    ap (λ k. runs ids all k (drop place all) m) one
    ∙ ap (λ z. steps ids all (drop z all) go m) same
    ∙ at_place ids all go (runs_none ids all (most - (i + 1) + n)) 0 all place s m refl h
    ∙ ap (λ z. continued all go (done ids s (z + 1) m)) (sym same)

pub round_stuck : (words : List ℕ) (ids : Ids) (k place : ℕ) (m : Memory) → slice_get (steps_of words) place ≡ None → runs ids (ops_of words) k (drop place (ops_of words)) m ≡ None
unfolding steps_of
round_stuck words ids k place m h =
    let all = ops_of words in
    let same : place ≡ 0 + place = omega arith in
    ap (λ z. runs ids all k z m) (ap (λ z. drop z all) same ∙ past_end all 0 all place refl h) ∙ runs_none ids all k m

-- a frame whose tables keep their lengths still has room
-- a frame that begins as before is for the same module
pub for_kept : (f g : Frame) (words : List ℕ) → g.begins ≡ f.begins → IsFor f words → IsFor g words
for_kept f g words e h = subst (λ b. IsBeginning b words) (sym e) h

-- a frame at the start of an invocation
pub record IsBegun (words : List ℕ) (start : ℕ) (g : Frame) : Type 0 where
  pub leave : Leave words start g
  pub near : start ≤ STEPS_A_WORD
  pub within : start ≤ STEPS_A_WORD * length words
  pub room : IsFor g words

pub begun_well : (words : List ℕ) (f g : Frame) (start : ℕ) → IsFor f words → start ≡ f.begins.start → g ≡ at_start f.begins → IsBegun words start g
begun_well words f g start h es eg =
    subst (λ s. IsBegun words s g) (sym es) (subst (λ x. IsBegun words f.begins.start x) (sym eg) (record { leave = h.leave; near = h.near; within = h.within; room = h }))

below_all : (steps : List Step) (i : ℕ) (s : Step) → slice_get steps i ≡ Some s → end_of s ≤ end_of_all steps
below_all [] i s h = absurd (cc)
below_all (x ∷ xs) zero s h =
    let e : x ≡ s = cc in
    subst (λ z. end_of z ≤ max (end_of x) (end_of_all xs)) e (omega arith)
below_all (x ∷ xs) (suc i) s h = let k = below_all xs i s h in omega arith

-- a frame with room for all ids has room for those of a step
pub fits : (words : List ℕ) (place : ℕ) (s : Step) (n : ℕ) → slice_get (steps_of words) place ≡ Some s → n ≡ ids_of words → end_of s ≤ n
unfolding ids_of
fits words place s n h e = subst (λ z. end_of s ≤ z) (sym e) (below_all (steps_of words) place s h)

-- ## Where invocations start

pub left_none : (words : List ℕ) (f : Frame) → ((slots : Slots) → memory_of f slots ≡ begun slots) → Leave words 0 f
left_none words f h = λ ids slots n.
    let all = ops_of words in
    let none : 0 + n ≡ n = omega arith in
    ap (λ k. runs ids all k all (begun slots)) none ∙ ap (runs ids all n all) (sym (h slots))

-- one step more is the same in each invocation
pub left_more : (words : List ℕ) (at : ℕ) (s : Step) (f g : Frame) → slice_get (steps_of words) at ≡ Some s → Leave words at f
    → ((ids : Ids) (slots : Slots) (next : ℕ) → done ids s next (memory_of f slots) ≡ Reaches next (memory_of g slots)) → Leave words (at + 1) g
left_more words at s f g h before step = λ ids slots n.
    let all = ops_of words in
    let first : at + 1 + n ≡ at + (1 + n) = omega arith in
    let one : 1 + n ≡ 1 - 0 + n = omega arith in
    let rest : 1 - (0 + 1) + n ≡ n = omega arith in
    ap (λ k. runs ids all k all (begun slots)) first
    ∙ before ids slots (1 + n)
    ∙ ap (λ k. runs ids all k (drop at all) (memory_of f slots)) one
    ∙ round_step words ids 1 0 n at s (memory_of f slots) (omega arith) h
    ∙ ap (continued all (runs ids all (1 - (0 + 1) + n))) (step ids slots (at + 1))
    ∙ ap (λ k. runs ids all k (drop (at + 1) all) (memory_of g slots)) rest

pub step_there : (steps : List Step) (i : ℕ) (d : Step) → i < length steps → slice_get steps i ≡ Some (get_or steps i d)
step_there [] i d lt = absurd (omega arith)
step_there (x ∷ xs) zero d lt = refl
step_there (x ∷ xs) (suc i) d lt = step_there xs i d (omega arith)

pub step_below : (steps : List Step) (i : ℕ) (d : Step) → i < length steps → end_of (get_or steps i d) ≤ end_of_all steps
step_below steps i d lt = below_all steps i (get_or steps i d) (step_there steps i d lt)

pub within_all : (words : List ℕ) (start : ℕ) → start ≤ 8192 → start ≤ length (steps_of words) → start ≤ 8192 * length words
unfolding steps_of reading
within_all [] start near h = omega arith
within_all (w ∷ ws) start near h = omega arith

-- ## Whole invocations

pub whole_meaning : (words : List ℕ) (ids : Ids) (slots : Slots) → (reading_of words).stop ≡ None
    → module_meaning words ids slots ≡ runs ids (ops_of words) (limit_of words) (ops_of words) (begun slots)
unfolding module_meaning
whole_meaning words ids slots h = ap (λ (v : Verdict). run_whole ids (limit_of words) v (ops_of words) slots) h

reads_all : (ids : Ids) (limit : ℕ) (v : Verdict) (all : List Op) (slots : Slots) → IsSome (run_whole ids limit v all slots) → v ≡ None
reads_all ids limit None all slots h = refl
reads_all ids limit (Some k) all slots h = let no : false ≡ true = h in absurd (cc)

-- words that have an outcome were read to their end
pub read_to_end : (words : List ℕ) (ids : Ids) (slots : Slots) → IsSome (module_meaning words ids slots) → (reading_of words).stop ≡ None
unfolding module_meaning
read_to_end words ids slots h = reads_all ids (limit_of words) (reading_of words).stop (ops_of words) slots h
