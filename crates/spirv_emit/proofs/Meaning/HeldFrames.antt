-- The machine's memory holds a frame: the leaves of a calculation have their words there.
use Rattle.std.proofs.Common.{◌≡◌, ℕ, zero, suc, ◌+◌, ◌<◌, ◌≤◌, List, [], ◌∷◌, ◌++◌, map, length, Some, refl, sym, ap, ◌∙◌, arith, append_assoc, length-append}
use Rattle.std.specs.Prelude.{slice_index, if◌then◌else◌, None}
use Rattle.std.proofs.lemmas.Bool.{lt-ltb}
use Rattle.shader_model.specs.declared.ids.Ids.{Ids}
use Rattle.shader_model.specs.Invocation.{Slots, flattened}
use Rattle.spirv_model.specs.Op.{Op}
use Rattle.spirv_model.specs.Op as op
use Rattle.spirv_model.specs.Meaning.Values.{Word, Vector, At, ToVariable, ToBuffer, ToLengths, ToLength, ToInput, component}
use Rattle.spirv_model.specs.Meaning.Bindings.{words_at}
use Rattle.spirv_model.specs.Meaning.Memory.{Table, Memory, with_result, values_of, chained, loaded, given}
use Rattle.spirv_model.specs.Meaning.ModuleMeaning.{results_in, runs}
use Rattle.spirv_emit.specs.declared.piece.Vector.{Vector as BuiltIn}
use Rattle.spirv_emit.specs.declared.piece.Vector.TheVariants.{Group, Thread, Global}
use Rattle.spirv_emit.specs.declared.piece.Leaf.{Leaf}
use Rattle.spirv_emit.specs.declared.piece.Leaf.TheVariants.{Number, Variable, Length, Component, Flattened}
use Rattle.spirv_emit.specs.Layout.{Layout, variable, first_code, vector_id, word_type, thread_index, lengths, buffer_at, bindings, first_number}
use Rattle.spirv_emit.specs.Code.{leaf_size, leaves_size, leaf_ops, leaf_id, leaves_ops, leaf_ids}
use Rattle.spirv_emit.specs.Frames.{Frame, vector_word, leaf_word}
use Rattle.spirv_emit.proofs.Meaning.ValueTables.{with_same, Same, same_self, same_then, same_put}

abbrev pub vector_number : BuiltIn → ℕ
vector_number Group = 26
vector_number Thread = 27
vector_number Global = 28

-- the numbers that have ids, all below the variables'
pub record Pool (at : Layout) (Has : ℕ → Type 0) : Type 0 where
  pub behind : first_number ≤ at.first_variable
  pub below : (v : ℕ) → Has v → at.number v < at.first_variable
  pub bindings_have : (b : ℕ) → b < bindings → Has b
  pub has_ones : Has 0xffff_ffff

module _ (at : Layout) (Has : ℕ → Type 0) (pool : Pool at Has) (ids : Ids) where
  pub record Holds (f : Frame) (m : Memory) : Type 0 where
    pub slots : m.slots ≡ f.slots
    pub words : (x : ℕ) → x < at.variables → m.variables (variable at x) ≡ Some (Word (f.variables x))
    pub variable_at : (x : ℕ) → x < at.variables → m.results (variable at x) ≡ Some (At (ToVariable (variable at x)))
    pub number_at : (v : ℕ) → Has v → m.results (at.number v) ≡ Some (Word v)
    pub buffers_at : (b : ℕ) → b < bindings → m.results (buffer_at b) ≡ Some (At (ToBuffer b))
    pub lengths_at : m.results lengths ≡ Some (At ToLengths)
    pub vector_at : (v : BuiltIn) → m.results (vector_id v) ≡ Some (At (ToInput (vector_number v)))
    pub index_at : m.results thread_index ≡ Some (At (ToInput 29))

  vector_below : (v : BuiltIn) → vector_id v < first_number
  vector_below Group = omega arith
  vector_below Thread = omega arith
  vector_below Global = omega arith

  pub holds_same : (f : Frame) (n : ℕ) (m m' : Memory) → first_code at ≤ n → Same n m m' → Holds f m → Holds f m'
  holds_same f n m m' le e h = let b = pool.behind in record {
    slots = e.slots ∙ h.slots;
    words = λ x lt. ap (λ (g : Table). g (variable at x)) e.variables ∙ h.words x lt;
    variable_at = λ x lt. e.results (variable at x) (omega arith) ∙ h.variable_at x lt;
    number_at = λ v has. let lt = pool.below v has in e.results (at.number v) (omega arith) ∙ h.number_at v has;
    buffers_at = λ c lt. e.results (buffer_at c) (omega arith) ∙ h.buffers_at c lt;
    lengths_at = e.results lengths (omega arith) ∙ h.lengths_at;
    vector_at = λ v. let lt = vector_below v in e.results (vector_id v) (omega arith) ∙ h.vector_at v;
    index_at = e.results thread_index (omega arith) ∙ h.index_at;
  }

  -- what a leaf names is there
  abbrev pub LeafFits : Leaf → Type 0
  LeafFits (Number v) = Has v
  LeafFits (Variable x) = x < at.variables
  LeafFits (Length b) = b < bindings
  LeafFits (Component v c) = c < 3
  LeafFits Flattened = Unit {0}

  abbrev pub LeavesFit : List Leaf → Type 0
  LeavesFit [] = Unit {0}
  LeavesFit (l ∷ ls) = LeafFits l × LeavesFit ls

  pub id_below : (l : Leaf) (n : ℕ) → first_code at ≤ n → LeafFits l → leaf_id at n l < n + leaf_size l
  id_below (Number v) n le ok = let b = pool.below v ok in omega arith
  id_below (Variable x) n le ok = omega arith
  id_below (Length b) n le ok = omega arith
  id_below (Component v c) n le ok = omega arith
  id_below Flattened n le ok = omega arith

  module _ (all : List Op) where
    -- a stretch of code, up to what stands behind it, which keeps the frame and all results before it
    pub record LeafRuns (n : ℕ) (f : Frame) (l : Leaf) (m : Memory) (rest : List Op) : Type 0 where
      pub memory : Memory
      pub same : Same n m memory
      pub value : memory.results (leaf_id at n l) ≡ Some (Word (leaf_word ids f l))
      pub by : (k : ℕ) → runs ids all (length (leaf_ops at n l) + k) (leaf_ops at n l ++ rest) m ≡ runs ids all k rest memory

    -- the value of a vector's component
    loaded_vector : (v : BuiltIn) (m : Memory) → loaded ids m (Some (At (ToInput (vector_number v)))) ≡ Some (Vector (vector_word ids v 0) (vector_word ids v 1) (vector_word ids v 2))
    loaded_vector Group m = refl
    loaded_vector Thread m = refl
    loaded_vector Global m = refl

    component_of : (x y z c : ℕ) (g : ℕ → ℕ) → g 0 ≡ x → g 1 ≡ y → g 2 ≡ z → c < 3 → component c (Some (Vector x y z)) ≡ Some (Word (g c))
    component_of x y z zero g e0 e1 e2 lt = ap (λ k. Some (Word k)) (sym e0)
    component_of x y z (suc zero) g e0 e1 e2 lt = ap (λ k. Some (Word k)) (sym e1)
    component_of x y z (suc (suc zero)) g e0 e1 e2 lt = ap (λ k. Some (Word k)) (sym e2)
    component_of x y z (suc (suc (suc c))) g e0 e1 e2 lt = absurd (omega arith)

    pub leaf_runs : (l : Leaf) (n : ℕ) (f : Frame) (m : Memory) (rest : List Op) → first_code at ≤ n → LeafFits l → Holds f m → LeafRuns n f l m rest
    leaf_runs (Number v) n f m rest le ok h = record {
      memory = m;
      same = same_self n m;
      value = h.number_at v ok;
      by = λ k. ap (λ j. runs ids all j rest m) (let z : 0 + k ≡ k = omega arith in z);
    }
    leaf_runs (Variable x) n f m rest le ok h =
        let w = Word (f.variables x) in
        record {
          memory = with_result n w m;
          same = same_put n n w m (omega arith);
          value = with_same m.results n w;
          by = λ k.
              ap (λ j. runs ids all j (leaf_ops at n (Variable x) ++ rest) m) (let z : 1 + k ≡ suc k = omega arith in z)
              ∙ ap (λ p. results_in (loaded ids m p) n rest (runs ids all k) m) (h.variable_at x ok)
              ∙ ap (λ p. results_in (given p) n rest (runs ids all k) m) (h.words x ok);
        }
    leaf_runs (Length b) n f m rest le ok h =
        let m1 = with_result n (At (ToLength b)) m in
        let w = Word (length (words_at f.slots b)) in
        let number = pool.bindings_have b ok in
        let pointer : chained m.slots (m.results lengths) (values_of m.results (at.number b ∷ [])) ≡ Some (At (ToLength b)) =
        ap (λ p. chained m.slots p (m.results (at.number b) ∷ [])) h.lengths_at ∙ ap (λ p. chained m.slots (Some (At ToLengths)) (p ∷ [])) (h.number_at b number) ∙ ap (λ t. if t then Some (At (ToLength b)) else None) (lt-ltb b bindings ok) in
        let value : loaded ids m1 (m1.results n) ≡ Some w =
        ap (loaded ids m1) (with_same m.results n (At (ToLength b))) ∙ ap (λ (s : Slots). Some (Word (length (words_at s b)))) h.slots in
        record {
          memory = with_result (n + 1) w m1;
          same = same_then n n m m1 (with_result (n + 1) w m1) (omega arith) (same_put n n (At (ToLength b)) m (omega arith)) (same_put n (n + 1) w m1 (omega arith));
          value = with_same m1.results (n + 1) w;
          by = λ k.
              ap (λ j. runs ids all j (leaf_ops at n (Length b) ++ rest) m) (let z : 2 + k ≡ suc (suc k) = omega arith in z)
              ∙ ap (λ p. results_in p n (op.Load word_type (n + 1) n ∷ rest) (runs ids all (suc k)) m) pointer
              ∙ ap (λ p. results_in p (n + 1) rest (runs ids all k) m1) value;
        }
    leaf_runs (Component v c) n f m rest le ok h =
        let vector = Vector (vector_word ids v 0) (vector_word ids v 1) (vector_word ids v 2) in
        let m1 = with_result n vector m in
        let w = Word (vector_word ids v c) in
        let value : loaded ids m (m.results (vector_id v)) ≡ Some vector = ap (loaded ids m) (h.vector_at v) ∙ loaded_vector v m in
        let part : component c (m1.results n) ≡ Some w = ap (component c) (with_same m.results n vector) ∙ component_of _ _ _ c (vector_word ids v) refl refl refl ok in
        record {
          memory = with_result (n + 1) w m1;
          same = same_then n n m m1 (with_result (n + 1) w m1) (omega arith) (same_put n n vector m (omega arith)) (same_put n (n + 1) w m1 (omega arith));
          value = with_same m1.results (n + 1) w;
          by = λ k.
              ap (λ j. runs ids all j (leaf_ops at n (Component v c) ++ rest) m) (let z : 2 + k ≡ suc (suc k) = omega arith in z)
              ∙ ap (λ p. results_in p n (op.CompositeExtract word_type (n + 1) n c ∷ rest) (runs ids all (suc k)) m) value
              ∙ ap (λ p. results_in p (n + 1) rest (runs ids all k) m1) part;
        }
    leaf_runs Flattened n f m rest le ok h =
        let w = Word (flattened ids) in
        record {
          memory = with_result n w m;
          same = same_put n n w m (omega arith);
          value = with_same m.results n w;
          by = λ k.
              ap (λ j. runs ids all j (leaf_ops at n Flattened ++ rest) m) (let z : 1 + k ≡ suc k = omega arith in z)
              ∙ ap (λ p. results_in (loaded ids m p) n rest (runs ids all k) m) h.index_at;
        }

    -- some leaves
    pub record LeavesRun (n : ℕ) (f : Frame) (ls : List Leaf) (m : Memory) (rest : List Op) : Type 0 where
      pub memory : Memory
      pub same : Same n m memory
      pub below : (i : ℕ) → i < length ls → slice_index (leaf_ids at n ls) i < n + leaves_size ls
      pub values : (i : ℕ) → i < length ls → memory.results (slice_index (leaf_ids at n ls) i) ≡ Some (Word (slice_index (map (leaf_word ids f) ls) i))
      pub by : (k : ℕ) → runs ids all (length (leaves_ops at n ls) + k) (leaves_ops at n ls ++ rest) m ≡ runs ids all k rest memory

    pub leaves_run : (ls : List Leaf) (n : ℕ) (f : Frame) (m : Memory) (rest : List Op) → first_code at ≤ n → LeavesFit ls → Holds f m → LeavesRun n f ls m rest
    leaves_run [] n f m rest le ok h = record {
      memory = m;
      same = same_self n m;
      below = λ i lt. absurd (omega arith);
      values = λ i lt. absurd (omega arith);
      by = λ k. ap (λ j. runs ids all j rest m) (let z : 0 + k ≡ k = omega arith in z);
    }
    leaves_run (l ∷ ls) n f m rest le ok h =
        let n1 = n + leaf_size l in
        let one = leaf_runs l n f m (leaves_ops at n1 ls ++ rest) le ok.0 h in
        let m1 = one.memory in
        let more = leaves_run ls n1 f m1 rest (omega arith) ok.1 (holds_same f n m m1 le one.same h) in
        let first = id_below l n le ok.0 in
        record {
          memory = more.memory;
          same = same_then n n1 m m1 more.memory (omega arith) one.same more.same;
          below = below_at n1 first more.below;
          values = values_at more.memory (more.same.results (leaf_id at n l) first ∙ one.value) more.values;
          by = λ k.
              ap (λ j. runs ids all j (leaves_ops at n (l ∷ ls) ++ rest) m) (let z : length (leaves_ops at n (l ∷ ls)) + k ≡ length (leaf_ops at n l) + (length (leaves_ops at n1 ls) + k) = omega (arith, length-append (leaf_ops at n l) (leaves_ops at n1 ls)) in z)
              ∙ ap (λ c. runs ids all (length (leaf_ops at n l) + (length (leaves_ops at n1 ls) + k)) c m) (append_assoc (leaf_ops at n l) (leaves_ops at n1 ls) rest)
              ∙ one.by (length (leaves_ops at n1 ls) + k)
              ∙ more.by k;
        }
      where
        below_at : (n1 : ℕ) → leaf_id at n l < n + leaf_size l → ((i : ℕ) → i < length ls → slice_index (leaf_ids at (n + leaf_size l) ls) i < (n + leaf_size l) + leaves_size ls) → (i : ℕ) → i < length (l ∷ ls) → slice_index (leaf_ids at n (l ∷ ls)) i < n + leaves_size (l ∷ ls)
        below_at n1 here more zero lt = omega (arith, here)
        below_at n1 here more (suc i) lt = let z = more i (omega (arith, lt)) in omega (arith, z)

        values_at : (m' : Memory) → m'.results (leaf_id at n l) ≡ Some (Word (leaf_word ids f l)) → ((i : ℕ) → i < length ls → m'.results (slice_index (leaf_ids at (n + leaf_size l) ls) i) ≡ Some (Word (slice_index (map (leaf_word ids f) ls) i))) → (i : ℕ) → i < length (l ∷ ls) → m'.results (slice_index (leaf_ids at n (l ∷ ls)) i) ≡ Some (Word (slice_index (map (leaf_word ids f) (l ∷ ls)) i))
        values_at m' here more zero lt = here
        values_at m' here more (suc i) lt = more i (omega (arith, lt))
