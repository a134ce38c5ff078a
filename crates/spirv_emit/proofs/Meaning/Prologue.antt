-- What stands before the code: settings and types do nothing, variables of the module get their pointers, numbers
-- their words, and the function's variables their first values.
use Rattle.std.proofs.Common.{◌≡◌, ℕ, zero, suc, ◌+◌, ◌<◌, Bool, true, false, List, [], ◌∷◌, ◌++◌, map, length, Some, None, refl, sym, ap, ◌∙◌, arith}
use Rattle.std.specs.Prelude.{◌&&◌, slice_index}
use Rattle.shader_model.specs.declared.ids.Ids.{Ids}
use Rattle.spirv_model.specs.Op.{Op}
use Rattle.spirv_model.specs.Op as op
use Rattle.spirv_model.specs.declared.storage_classes.TheConstants as class
use Rattle.spirv_model.specs.Meaning.Values.{Word, At, ToVariable, ToBuffer}
use Rattle.spirv_model.specs.Meaning.Memory.{Memory, with_result, with_variable, outer_variable}
use Rattle.spirv_model.specs.Meaning.ModuleMeaning.{results_in, variable, runs, after_label}
use Rattle.spirv_emit.specs.Layout as id
use Rattle.spirv_emit.specs.Layout.{Layout, buffer_at}
use Rattle.spirv_emit.specs.Numbers.{from_on}
use Rattle.spirv_emit.specs.Module.{buffer_variable, constants, local, zero_variables}
use Rattle.spirv_emit.proofs.Meaning.ValueTables.{with_same, with_other}

-- ## Instructions that do nothing

abbrev pub is_quiet : Op → Bool
is_quiet (op.Capability c) = true
is_quiet (op.MemoryModel a m) = true
is_quiet (op.EntryPoint m f n n' is) = true
is_quiet (op.ExecutionMode f m x y z) = true
is_quiet (op.Decorate x d vs) = true
is_quiet (op.MemberDecorate x m d vs) = true
is_quiet (op.TypeVoid r) = true
is_quiet (op.TypeBool r) = true
is_quiet (op.TypeInt r w s) = true
is_quiet (op.TypeVector r t n) = true
is_quiet (op.TypeRuntimeArray r t) = true
is_quiet (op.TypeStruct r ms) = true
is_quiet (op.TypePointer r c t) = true
is_quiet (op.TypeFunction r t) = true
is_quiet o = false

abbrev pub all_quiet : List Op → Bool
all_quiet [] = true
all_quiet (o ∷ os) = is_quiet o && all_quiet os

module _ (ids : Ids) (all : List Op) where
  quiet_step : (o : Op) (rest : List Op) (m : Memory) (k : ℕ) → is_quiet o ≡ true → runs ids all (suc k) (o ∷ rest) m ≡ runs ids all k rest m
  quiet_step (op.Capability c) rest m k e = refl
  quiet_step (op.MemoryModel a m') rest m k e = refl
  quiet_step (op.EntryPoint m' f n n' is) rest m k e = refl
  quiet_step (op.ExecutionMode f m' x y z) rest m k e = refl
  quiet_step (op.Decorate x d vs) rest m k e = refl
  quiet_step (op.MemberDecorate x m' d vs) rest m k e = refl
  quiet_step (op.TypeVoid r) rest m k e = refl
  quiet_step (op.TypeBool r) rest m k e = refl
  quiet_step (op.TypeInt r w s) rest m k e = refl
  quiet_step (op.TypeVector r t n) rest m k e = refl
  quiet_step (op.TypeRuntimeArray r t) rest m k e = refl
  quiet_step (op.TypeStruct r ms) rest m k e = refl
  quiet_step (op.TypePointer r c t) rest m k e = refl
  quiet_step (op.TypeFunction r t) rest m k e = refl
  quiet_step (op.Constant t r v) rest m k e = cc
  quiet_step (op.Function t r c f) rest m k e = cc
  quiet_step op.FunctionEnd rest m k e = cc
  quiet_step (op.Variable t r c vs) rest m k e = cc
  quiet_step (op.Load t r p) rest m k e = cc
  quiet_step (op.Store p v) rest m k e = cc
  quiet_step (op.AccessChain t r b is) rest m k e = cc
  quiet_step (op.CompositeExtract t r v i) rest m k e = cc
  quiet_step (op.Unary o t r a) rest m k e = cc
  quiet_step (op.Binary o t r a b) rest m k e = cc
  quiet_step (op.Select t r c a b) rest m k e = cc
  quiet_step (op.Atomic o t r p s w v) rest m k e = cc
  quiet_step (op.AtomicCompareExchange t r p s x u v c) rest m k e = cc
  quiet_step (op.LoopMerge a b c) rest m k e = cc
  quiet_step (op.SelectionMerge a c) rest m k e = cc
  quiet_step (op.Label l) rest m k e = cc
  quiet_step (op.Branch l) rest m k e = cc
  quiet_step (op.BranchConditional c a b) rest m k e = cc
  quiet_step op.Return rest m k e = cc

  and_parts : (a b : Bool) → (a && b) ≡ true → (a ≡ true) × (b ≡ true)
  and_parts true true e = (refl, refl)
  and_parts true false e = cc
  and_parts false b e = cc

  pub quiet_runs : (os : List Op) (rest : List Op) (m : Memory) (k : ℕ) → all_quiet os ≡ true → runs ids all (length os + k) (os ++ rest) m ≡ runs ids all k rest m
  quiet_runs [] rest m k e = ap (λ j. runs ids all j rest m) (let z : 0 + k ≡ k = omega arith in z)
  quiet_runs (o ∷ os) rest m k e =
      let p = and_parts (is_quiet o) (all_quiet os) e in
      ap (λ j. runs ids all j (o ∷ (os ++ rest)) m) (let z : length (o ∷ os) + k ≡ suc (length os + k) = omega arith in z)
      ∙ quiet_step o (os ++ rest) m (length os + k) p.0
      ∙ quiet_runs os rest m k p.1

  -- ## The buffers

  pub record BuffersRun (b n : ℕ) (m : Memory) (rest : List Op) : Type 0 where
    pub memory : Memory
    pub slots : memory.slots ≡ m.slots
    pub variables : memory.variables ≡ m.variables
    pub before : (x : ℕ) → x < buffer_at b → memory.results x ≡ m.results x
    pub made : (i : ℕ) → i < n → memory.results (buffer_at (b + i)) ≡ Some (At (ToBuffer (b + i)))
    pub by : (k : ℕ) → runs ids all (n + k) (map buffer_variable (from_on (buffer_at b) n) ++ rest) m ≡ runs ids all k rest memory

  pub buffers_run : (n b : ℕ) (m : Memory) (rest : List Op) → ((i : ℕ) → i < n → outer_variable class.STORAGE_BUFFER (buffer_at (b + i)) all ≡ Some (At (ToBuffer (b + i)))) → BuffersRun b n m rest
  buffers_run zero b m rest h = record {
    memory = m;
    slots = refl;
    variables = refl;
    before = λ x lt. refl;
    made = λ i lt. absurd (omega arith);
    by = λ k. ap (λ j. runs ids all j rest m) (let z : 0 + k ≡ k = omega arith in z);
  }
  buffers_run (suc n) b m rest h =
      let r = buffer_at b in
      let here = At (ToBuffer b) in
      let m1 = with_result r here m in
      let e0 : b + 0 ≡ b = omega arith in
      let first : outer_variable class.STORAGE_BUFFER r all ≡ Some here = ap (λ j. outer_variable class.STORAGE_BUFFER (buffer_at j) all) (sym e0) ∙ h 0 (omega arith) ∙ ap (λ j. Some (At (ToBuffer j))) e0 in
      let next = buffers_run n (b + 1) m1 rest (λ i lt. let z : b + 1 + i ≡ b + suc i = omega arith in ap (λ j. outer_variable class.STORAGE_BUFFER (buffer_at j) all) z ∙ h (suc i) (omega arith) ∙ ap (λ j. Some (At (ToBuffer j))) (sym z)) in
      let step : buffer_at b + 1 ≡ buffer_at (b + 1) = omega arith in
      record {
        memory = next.memory;
        slots = next.slots;
        variables = next.variables;
        before = λ x lt. next.before x (omega arith) ∙ with_other m.results r x here (λ e. absurd (omega arith));
        made = made_at m1 next;
        by = λ k.
            ap (λ j. runs ids all j (map buffer_variable (from_on r (suc n)) ++ rest) m) (let z : suc n + k ≡ suc (n + k) = omega arith in z)
            ∙ ap (λ v. results_in v r (map buffer_variable (from_on (r + 1) n) ++ rest) (runs ids all (n + k)) m) first
            ∙ ap (λ j. runs ids all (n + k) (map buffer_variable (from_on j n) ++ rest) m1) step
            ∙ next.by k;
      }
    where
      made_at : (m1 : Memory) → (next : BuffersRun (b + 1) n (with_result (buffer_at b) (At (ToBuffer b)) m) rest) → (i : ℕ) → i < suc n → next.memory.results (buffer_at (b + i)) ≡ Some (At (ToBuffer (b + i)))
      made_at m1 next zero lt =
          let z : b + 0 ≡ b = omega arith in
          ap (λ j. next.memory.results (buffer_at j)) z ∙ next.before (buffer_at b) (omega arith) ∙ with_same m.results (buffer_at b) (At (ToBuffer b)) ∙ ap (λ j. Some (At (ToBuffer j))) (sym z)
      made_at m1 next (suc i) lt =
          let z : b + suc i ≡ b + 1 + i = omega arith in
          ap (λ j. next.memory.results (buffer_at j)) z ∙ next.made i (omega arith) ∙ ap (λ j. Some (At (ToBuffer j))) (sym z)

  -- ## The numbers

  pub record ConstantsRun (vs : List ℕ) (n : ℕ) (m : Memory) (rest : List Op) : Type 0 where
    pub memory : Memory
    pub slots : memory.slots ≡ m.slots
    pub variables : memory.variables ≡ m.variables
    pub before : (x : ℕ) → x < n → memory.results x ≡ m.results x
    pub made : (i : ℕ) → i < length vs → memory.results (n + i) ≡ Some (Word (slice_index vs i))
    pub by : (k : ℕ) → runs ids all (length vs + k) (constants n vs ++ rest) m ≡ runs ids all k rest memory

  pub constants_run : (vs : List ℕ) (n : ℕ) (m : Memory) (rest : List Op) → ConstantsRun vs n m rest
  constants_run [] n m rest = record {
    memory = m;
    slots = refl;
    variables = refl;
    before = λ x h. refl;
    made = λ i h. absurd (omega arith);
    by = λ k. ap (λ j. runs ids all j rest m) (let z : 0 + k ≡ k = omega arith in z);
  }
  constants_run (v ∷ vs) n m rest =
      let m1 = with_result n (Word v) m in
      let r = constants_run vs (n + 1) m1 rest in
      record {
        memory = r.memory;
        slots = r.slots;
        variables = r.variables;
        before = λ x h. r.before x (omega arith) ∙ with_other m.results n x (Word v) (λ e. absurd (omega arith));
        made = λ i h. made_at i h r;
        by = λ k. ap (λ j. runs ids all j (op.Constant id.word_type n v ∷ (constants (n + 1) vs ++ rest)) m) (let z : length (v ∷ vs) + k ≡ suc (length vs + k) = omega arith in z) ∙ r.by k;
      }
    where
      made_at : (i : ℕ) → i < length (v ∷ vs) → (r : ConstantsRun vs (n + 1) (with_result n (Word v) m) rest) → r.memory.results (n + i) ≡ Some (Word (slice_index (v ∷ vs) i))
      made_at zero h r = ap r.memory.results (let z : n + 0 ≡ n = omega arith in z) ∙ r.before n (omega arith) ∙ with_same m.results n (Word v)
      made_at (suc i) h r = ap r.memory.results (let z : n + suc i ≡ n + 1 + i = omega arith in z) ∙ r.made i (omega arith)

  -- ## The function's variables

  -- one variable
  pub local_step : (at : Layout) (n v : ℕ) (rest : List Op) (m : Memory) (k : ℕ) → m.results (at.number v) ≡ Some (Word v) → runs ids all (suc k) (local at n v ∷ rest) m ≡ runs ids all k rest (with_result n (At (ToVariable n)) (with_variable n (Word v) m))
  local_step at n v rest m k e = ap (λ q. variable n q rest (runs ids all k) m) e

  pub record VariablesRun (at : Layout) (c n : ℕ) (m : Memory) (rest : List Op) : Type 0 where
    pub memory : Memory
    pub slots : memory.slots ≡ m.slots
    pub before : (x : ℕ) → x < n → memory.results x ≡ m.results x
    pub made : (i : ℕ) → i < c → memory.results (n + i) ≡ Some (At (ToVariable (n + i)))
    pub set : (i : ℕ) → i < c → memory.variables (n + i) ≡ Some (Word 0)
    pub others : (x : ℕ) → x < n → memory.variables x ≡ m.variables x
    pub by : (k : ℕ) → runs ids all (c + k) (zero_variables at n c ++ rest) m ≡ runs ids all k rest memory

  pub variables_run : (at : Layout) (c n : ℕ) (m : Memory) (rest : List Op) → at.number 0 < n → m.results (at.number 0) ≡ Some (Word 0) → VariablesRun at c n m rest
  variables_run at zero n m rest lt e = record {
    memory = m;
    slots = refl;
    before = λ x h. refl;
    made = λ i h. absurd (omega arith);
    set = λ i h. absurd (omega arith);
    others = λ x h. refl;
    by = λ k. ap (λ j. runs ids all j rest m) (let z : 0 + k ≡ k = omega arith in z);
  }
  variables_run at (suc c) n m rest lt e =
      let here = At (ToVariable n) in
      let m1 = with_result n here (with_variable n (Word 0) m) in
      let r = variables_run at c (n + 1) m1 rest (omega arith) (with_other m.results n (at.number 0) here (λ z. absurd (omega arith)) ∙ e) in
      record {
        memory = r.memory;
        slots = r.slots;
        before = λ x h. r.before x (omega arith) ∙ with_other m.results n x here (λ z. absurd (omega arith));
        made = λ i h. made_at i h r;
        set = λ i h. set_at i h r;
        others = λ x h. r.others x (omega arith) ∙ with_other m.variables n x (Word 0) (λ z. absurd (omega arith));
        by = λ k.
            ap (λ j. runs ids all j (local at n 0 ∷ (zero_variables at (n + 1) c ++ rest)) m) (let z : suc c + k ≡ suc (c + k) = omega arith in z)
            ∙ local_step at n 0 (zero_variables at (n + 1) c ++ rest) m (c + k) e
            ∙ r.by k;
      }
    where
      made_at : (i : ℕ) → i < suc c → (r : VariablesRun at c (n + 1) (with_result n (At (ToVariable n)) (with_variable n (Word 0) m)) rest) → r.memory.results (n + i) ≡ Some (At (ToVariable (n + i)))
      made_at zero h r = let z : n + 0 ≡ n = omega arith in ap r.memory.results z ∙ r.before n (omega arith) ∙ with_same m.results n (At (ToVariable n)) ∙ ap (λ j. Some (At (ToVariable j))) (sym z)
      made_at (suc i) h r = let z : n + suc i ≡ n + 1 + i = omega arith in ap r.memory.results z ∙ r.made i (omega arith) ∙ ap (λ j. Some (At (ToVariable j))) (sym z)

      set_at : (i : ℕ) → i < suc c → (r : VariablesRun at c (n + 1) (with_result n (At (ToVariable n)) (with_variable n (Word 0) m)) rest) → r.memory.variables (n + i) ≡ Some (Word 0)
      set_at zero h r = let z : n + 0 ≡ n = omega arith in ap r.memory.variables z ∙ r.others n (omega arith) ∙ with_same m.variables n (Word 0)
      set_at (suc i) h r = let z : n + suc i ≡ n + 1 + i = omega arith in ap r.memory.variables z ∙ r.set i (omega arith)

-- ## None of these is a label

pub constants_free : (vs : List ℕ) (n l : ℕ) → after_label l (constants n vs) ≡ None
constants_free [] n l = refl
constants_free (v ∷ vs) n l = constants_free vs (n + 1) l

pub zero_variables_free : (at : Layout) (c n l : ℕ) → after_label l (zero_variables at n c) ≡ None
zero_variables_free at zero n l = refl
zero_variables_free at (suc c) n l = zero_variables_free at c (n + 1) l

pub constants_length : (vs : List ℕ) (n : ℕ) → length (constants n vs) ≡ length vs
constants_length [] n = refl
constants_length (v ∷ vs) n = ap suc (constants_length vs (n + 1))

pub zero_variables_length : (at : Layout) (c n : ℕ) → length (zero_variables at n c) ≡ c
zero_variables_length at zero n = refl
zero_variables_length at (suc c) n = ap suc (zero_variables_length at c (n + 1))
