-- What is done with a word of a slot, behind a pointer to it.
use Rattle.std.proofs.Common.{◌≡◌, ℕ, suc, ◌+◌, ◌<◌, ◌≤◌, true, if◌then◌else◌, List, [], ◌∷◌, ◌++◌, length, Option, Some, None, refl, sym, ap, ◌∙◌, arith, append_assoc, length-append}
use Rattle.std.specs.Prelude.{◌==◌, nat_lt, slice_index}
use Rattle.std.proofs.lemmas.Bool.{lt-ltb}
use Rattle.shader_model.specs.declared.ids.Ids.{Ids}
use Rattle.shader_model.specs.Invocation.{Slots}
use Rattle.spirv_model.specs.declared.settings.TheConstants as setting
use Rattle.spirv_model.specs.Op.{Op}
use Rattle.spirv_model.specs.Op as op
use Rattle.spirv_model.specs.Meaning.Values.{Word, At, ToBuffer, ToWord, left_by, new_word, new_if_equal}
use Rattle.spirv_model.specs.Meaning.Bindings.{words_at, is_writable, with_word}
use Rattle.spirv_model.specs.Meaning.Memory.{Memory, with_result, with_variable, chained, loaded, stored, exchanged, changed}
use Rattle.spirv_model.specs.Meaning.ModuleMeaning.{results_in, leaves, jumps, runs}
use Rattle.spirv_emit.specs.declared.piece.Calculation.{Calculation}
use Rattle.spirv_emit.specs.declared.piece.Action.{Action}
use Rattle.spirv_emit.specs.declared.piece.Action.TheVariants.{Fetch, Write, Change, Swap}
use Rattle.spirv_emit.specs.Layout.{Layout, variable, first_code, word_type, to_word, buffer_at, bindings}
use Rattle.spirv_emit.specs.Code.{leaf_size, calculation_size, leaf_ops, leaf_id, calculation_ops, calculation_id, action_ops, missed_ops, reach_ops}
use Rattle.spirv_emit.specs.Frames as frames
use Rattle.spirv_emit.specs.Frames.{Frame, leaf_word, calculated, acted, missed}
use Rattle.spirv_emit.proofs.Meaning.ValueTables.{with_same, same_put}
use Rattle.spirv_emit.proofs.Meaning.HeldFrames.{Pool, Holds, holds_same, LeafFits, id_below, leaf_runs}
use Rattle.spirv_emit.proofs.Meaning.Calculations.{CalculationFits, calculation_runs, holds_variable, store_step}

module _ (at : Layout) (Has : ℕ → Type 0) (pool : Pool at Has) (ids : Ids) where
  -- what an action names is there, and its slot can be written
  abbrev pub ActionFits : (binding : ℕ) → Action → Type 0
  ActionFits b (Fetch x) = x < at.variables
  ActionFits b (Write v) = LeafFits at Has pool ids v × (is_writable b ≡ true)
  ActionFits b (Change o v x) = LeafFits at Has pool ids v × (is_writable b ≡ true) × (x < at.variables)
  ActionFits b (Swap v c x) = LeafFits at Has pool ids v × LeafFits at Has pool ids c × (is_writable b ≡ true) × (x < at.variables)

  has_0 : Has 0
  has_0 = pool.bindings_have 0 (omega arith)

  -- a word of a slot has changed
  holds_word : (f : Frame) (m : Memory) (b i v : ℕ) → Holds at Has pool ids f m → Holds at Has pool ids (record f { slots = with_word b i v f.slots }) (record m { slots = with_word b i v m.slots })
  holds_word f m b i v h = record {
    slots = ap (with_word b i v) h.slots;
    words = h.words;
    variable_at = h.variable_at;
    number_at = h.number_at;
    buffers_at = h.buffers_at;
    lengths_at = h.lengths_at;
    vector_at = h.vector_at;
    index_at = h.index_at;
  }

  changed_is : (m : Memory) (s : Slots) (r b i new : ℕ) (g : ℕ → Option ℕ) → m.slots ≡ s → is_writable b ≡ true → g (slice_index (words_at s b) i) ≡ Some new → changed r (Some (At (ToWord b i))) g m ≡ Some (record (with_result r (Word (slice_index (words_at s b) i)) m) { slots = with_word b i new m.slots })
  changed_is m s r b i new g es w e =
      ap (λ (z : Slots). exchanged r b i (slice_index (words_at z b) i) (g (slice_index (words_at z b) i)) m) es
      ∙ ap (λ q. exchanged r b i (slice_index (words_at s b) i) q m) e
      ∙ ap (λ t. if t then Some (record (with_result r (Word (slice_index (words_at s b) i)) m) { slots = with_word b i new m.slots }) else None) w

  module _ (all : List Op) where
    pub record ActionRuns (n p b i : ℕ) (a : Action) (f : Frame) (m : Memory) (rest : List Op) : Type 0 where
      pub memory : Memory
      pub holds : Holds at Has pool ids (acted ids b i a f) memory
      pub by : (k : ℕ) → runs ids all (length (action_ops at n p a) + k) (action_ops at n p a ++ rest) m ≡ runs ids all k rest memory

    -- an atomic instruction, and the old word into a variable
    record ChangeRuns (r b i x new old : ℕ) (o : Op) (f : Frame) (m : Memory) (rest : List Op) : Type 0 where
      memory : Memory
      holds : Holds at Has pool ids (frames.with_variable x old (record f { slots = with_word b i new f.slots })) memory
      by : (k : ℕ) → runs ids all (2 + k) (o ∷ op.Store (variable at x) r ∷ rest) m ≡ runs ids all k rest memory

    change_runs : (r b i x new old : ℕ) (o : Op) (g : ℕ → Option ℕ) (f : Frame) (m : Memory) (rest : List Op) → first_code at ≤ r → x < at.variables → is_writable b ≡ true → old ≡ slice_index (words_at f.slots b) i → g old ≡ Some new → Holds at Has pool ids f m → ((go : List Op) (k : ℕ) → runs ids all (suc k) (o ∷ go) m ≡ leaves (changed r (Some (At (ToWord b i))) g m) go (runs ids all k)) → ChangeRuns r b i x new old o f m rest
    change_runs r b i x new old o g f m rest le lt w eo eg h st =
        let m1 = with_result r (Word old) m in
        let m2 = record m1 { slots = with_word b i new m.slots } in
        let h1 = holds_same at Has pool ids f r m m1 le (same_put r r (Word old) m (omega arith)) h in
        let h2 = holds_word f m1 b i new h1 in
        let done : changed r (Some (At (ToWord b i))) g m ≡ Some m2 =
        changed_is m f.slots r b i new g h.slots w (ap g (sym eo) ∙ eg) ∙ ap (λ z. Some (record (with_result r (Word z) m) { slots = with_word b i new m.slots })) (sym eo) in
        record {
          memory = with_variable (variable at x) (Word old) m2;
          holds = holds_variable at Has pool ids all _ m2 x old lt h2;
          by = λ k.
              ap (λ j. runs ids all j (o ∷ op.Store (variable at x) r ∷ rest) m) (let z : 2 + k ≡ suc (suc k) = omega arith in z)
              ∙ st (op.Store (variable at x) r ∷ rest) (suc k)
              ∙ ap (λ q. leaves q (op.Store (variable at x) r ∷ rest) (runs ids all (suc k))) done
              ∙ store_step at Has pool ids all _ m2 x old r rest k lt h2 (with_same m.results r (Word old));
        }

    pub action_runs : (a : Action) (n p b i : ℕ) (f : Frame) (m : Memory) (rest : List Op) → first_code at ≤ n → p < n → ActionFits b a → Holds at Has pool ids f m → m.results p ≡ Some (At (ToWord b i)) → ActionRuns n p b i a f m rest
    action_runs (Fetch x) n p b i f m rest le lt ok h hp =
        let w = slice_index (words_at f.slots b) i in
        let m1 = with_result n (Word w) m in
        let h1 = holds_same at Has pool ids f n m m1 le (same_put n n (Word w) m (omega arith)) h in
        let value : loaded ids m (m.results p) ≡ Some (Word w) = ap (loaded ids m) hp ∙ ap (λ (s : Slots). Some (Word (slice_index (words_at s b) i))) h.slots in
        record {
          memory = with_variable (variable at x) (Word w) m1;
          holds = holds_variable at Has pool ids all f m1 x w ok h1;
          by = λ k.
              ap (λ j. runs ids all j (action_ops at n p (Fetch x) ++ rest) m) (let z : 2 + k ≡ suc (suc k) = omega arith in z)
              ∙ ap (λ q. results_in q n (op.Store (variable at x) n ∷ rest) (runs ids all (suc k)) m) value
              ∙ store_step at Has pool ids all f m1 x w n rest k ok h1 (with_same m.results n (Word w));
        }
    action_runs (Write v) n p b i f m rest le lt ok h hp =
        let code = leaf_ops at n v in
        let last = op.Store p (leaf_id at n v) in
        let w = leaf_word ids f v in
        let r = leaf_runs at Has pool ids all v n f m (last ∷ rest) le ok.0 h in
        let m1 = r.memory in
        let h1 = holds_same at Has pool ids f n m m1 le r.same h in
        let pointer = r.same.results p lt ∙ hp in
        record {
          memory = record m1 { slots = with_word b i w m1.slots };
          holds = holds_word f m1 b i w h1;
          by = λ k.
              ap (λ j. runs ids all j ((code ++ last ∷ []) ++ rest) m) (let z : length (code ++ last ∷ []) + k ≡ length code + suc k = omega (arith, length-append code (last ∷ [])) in z)
              ∙ ap (λ d. runs ids all (length code + suc k) d m) (append_assoc code (last ∷ []) rest)
              ∙ r.by (suc k)
              ∙ ap (λ q. leaves (stored q (m1.results (leaf_id at n v)) m1) rest (runs ids all k)) pointer
              ∙ ap (λ q. leaves (stored (Some (At (ToWord b i))) q m1) rest (runs ids all k)) r.value
              ∙ ap (λ t. leaves (if t then Some (record m1 { slots = with_word b i w m1.slots }) else None) rest (runs ids all k)) ok.1;
        }
    action_runs (Change o v x) n p b i f m rest le lt ok h hp =
        let code = leaf_ops at n v in
        let r = n + leaf_size v in
        let atomic = op.Atomic o word_type r p (at.number setting.DEVICE_SCOPE) (at.number setting.RELAXED) (leaf_id at n v) in
        let last = op.Store (variable at x) r in
        let w = leaf_word ids f v in
        let old = slice_index (words_at f.slots b) i in
        let l = leaf_runs at Has pool ids all v n f m (atomic ∷ last ∷ rest) le ok.0 h in
        let m1 = l.memory in
        let h1 = holds_same at Has pool ids f n m m1 le l.same h in
        let pointer = l.same.results p lt ∙ hp in
        let c = change_runs r b i x (left_by o old w) old atomic (new_word o (Some (Word w))) f m1 rest (omega arith) ok.2 ok.1 refl refl h1
        (λ go k. ap (λ q. leaves (changed r q (new_word o (m1.results (leaf_id at n v))) m1) go (runs ids all k)) pointer
        ∙ ap (λ q. leaves (changed r (Some (At (ToWord b i))) (new_word o q) m1) go (runs ids all k)) l.value) in
        record {
          memory = c.memory;
          holds = c.holds;
          by = λ k.
              ap (λ j. runs ids all j ((code ++ atomic ∷ last ∷ []) ++ rest) m) (let z : length (code ++ atomic ∷ last ∷ []) + k ≡ length code + (2 + k) = omega (arith, length-append code (atomic ∷ last ∷ [])) in z)
              ∙ ap (λ d. runs ids all (length code + (2 + k)) d m) (append_assoc code (atomic ∷ last ∷ []) rest)
              ∙ l.by (2 + k)
              ∙ c.by k;
        }
    action_runs (Swap v e x) n p b i f m rest le lt ok h hp =
        let n1 = n + leaf_size v in
        let r = n1 + leaf_size e in
        let first = leaf_ops at n v in
        let second = leaf_ops at n1 e in
        let atomic = op.AtomicCompareExchange word_type r p (at.number setting.DEVICE_SCOPE) (at.number setting.RELAXED) (at.number setting.RELAXED) (leaf_id at n v) (leaf_id at n1 e) in
        let last = op.Store (variable at x) r in
        let w = leaf_word ids f v in
        let u = leaf_word ids f e in
        let old = slice_index (words_at f.slots b) i in
        let l = leaf_runs at Has pool ids all v n f m (second ++ (atomic ∷ last ∷ rest)) le ok.0 h in
        let m1 = l.memory in
        let h1 = holds_same at Has pool ids f n m m1 le l.same h in
        let l2 = leaf_runs at Has pool ids all e n1 f m1 (atomic ∷ last ∷ rest) (omega arith) ok.1 h1 in
        let m2 = l2.memory in
        let h2 = holds_same at Has pool ids f n1 m1 m2 (omega arith) l2.same h1 in
        let pointer = l2.same.results p (omega arith) ∙ l.same.results p lt ∙ hp in
        let value = l2.same.results (leaf_id at n v) (id_below at Has pool ids v n le ok.0) ∙ l.value in
        let c = change_runs r b i x (if old == u then w else old) old atomic (new_if_equal (Some (Word w)) (Some (Word u))) f m2 rest (omega arith) ok.3 ok.2 refl refl h2
        (λ go k. ap (λ q. leaves (changed r q (new_if_equal (m2.results (leaf_id at n v)) (m2.results (leaf_id at n1 e))) m2) go (runs ids all k)) pointer
        ∙ ap (λ q. leaves (changed r (Some (At (ToWord b i))) (new_if_equal q (m2.results (leaf_id at n1 e))) m2) go (runs ids all k)) value
        ∙ ap (λ q. leaves (changed r (Some (At (ToWord b i))) (new_if_equal (Some (Word w)) q) m2) go (runs ids all k)) l2.value) in
        let ops : (first ++ (second ++ (atomic ∷ last ∷ []))) ++ rest ≡ first ++ (second ++ (atomic ∷ last ∷ rest)) = simp append_assoc in
        record {
          memory = c.memory;
          holds = c.holds;
          by = λ k.
              ap (λ j. runs ids all j ((first ++ (second ++ (atomic ∷ last ∷ []))) ++ rest) m) (let z : length (first ++ (second ++ (atomic ∷ last ∷ []))) + k ≡ length first + (length second + (2 + k)) = omega (arith, length-append first (second ++ (atomic ∷ last ∷ [])), length-append second (atomic ∷ last ∷ [])) in z)
              ∙ ap (λ d. runs ids all (length first + (length second + (2 + k))) d m) ops
              ∙ l.by (length second + (2 + k))
              ∙ l2.by (2 + k)
              ∙ c.by k;
        }

    -- ## Both sides of an access

    branch_step : (l k : ℕ) (rest : List Op) (m : Memory) → runs ids all (1 + k) (op.Branch l ∷ rest) m ≡ jumps all l (runs ids all k) m
    branch_step l k rest m = ap (λ j. runs ids all j (op.Branch l ∷ rest) m) (let z : 1 + k ≡ suc k = omega arith in z)

    pub record SideRuns (code : List Op) (l : ℕ) (f' : Frame) (m : Memory) (rest : List Op) : Type 0 where
      pub memory : Memory
      pub holds : Holds at Has pool ids f' memory
      pub by : (k : ℕ) → runs ids all (length code + k) (code ++ rest) m ≡ jumps all l (runs ids all k) memory

    pub missed_runs : (a : Action) (b l : ℕ) (f : Frame) (m : Memory) (rest : List Op) → ActionFits b a → Holds at Has pool ids f m → SideRuns (missed_ops at a ++ (op.Branch l ∷ [])) l (missed a f) m rest
    missed_runs a b l f m rest ok h = by_action a ok
      where
        zero_stored : (x : ℕ) → x < at.variables → SideRuns (op.Store (variable at x) (at.number 0) ∷ op.Branch l ∷ []) l (frames.with_variable x 0 f) m rest
        zero_stored x lt = record {
          memory = with_variable (variable at x) (Word 0) m;
          holds = holds_variable at Has pool ids all f m x 0 lt h;
          by = λ k.
              ap (λ j. runs ids all j (op.Store (variable at x) (at.number 0) ∷ op.Branch l ∷ rest) m) (let z : 2 + k ≡ suc (1 + k) = omega arith in z)
              ∙ store_step at Has pool ids all f m x 0 (at.number 0) (op.Branch l ∷ rest) (1 + k) lt h (h.number_at 0 has_0)
              ∙ branch_step l k rest _;
        }

        by_action : (a : Action) → ActionFits b a → SideRuns (missed_ops at a ++ (op.Branch l ∷ [])) l (missed a f) m rest
        by_action (Fetch x) ok = zero_stored x ok
        by_action (Write v) ok = record { memory = m; holds = h; by = λ k. branch_step l k rest m }
        by_action (Change o v x) ok = zero_stored x ok.2
        by_action (Swap v c x) ok = zero_stored x ok.3

    pub reach_runs : (n b i : ℕ) (c : Calculation) (a : Action) (l : ℕ) (f : Frame) (m : Memory) (rest : List Op) → first_code at ≤ n → b < bindings → CalculationFits at Has pool ids c → ActionFits b a → Holds at Has pool ids f m → calculated ids f c ≡ Some (Word i) → i < length (words_at f.slots b) → SideRuns (reach_ops at n b c a l) l (acted ids b i a f) m rest
    reach_runs n b i c a l f m rest le lt fits ok h e inside =
        let p = n + calculation_size c in
        let code = calculation_ops at n c in
        let chain = op.AccessChain to_word p (buffer_at b) (at.number 0 ∷ calculation_id at n c ∷ []) in
        let act = action_ops at (p + 1) p a in
        let tail = act ++ (op.Branch l ∷ rest) in
        let r = calculation_runs at Has pool ids all c n f m (Word i) (chain ∷ tail) le fits h e in
        let m1 = r.memory in
        let h1 = holds_same at Has pool ids f n m m1 le r.same h in
        let to = At (ToWord b i) in
        let pointer : chained m1.slots (m1.results (buffer_at b)) (m1.results (at.number 0) ∷ m1.results (calculation_id at n c) ∷ []) ≡ Some to =
        ap (λ q. chained m1.slots q (m1.results (at.number 0) ∷ m1.results (calculation_id at n c) ∷ [])) (h1.buffers_at b lt)
        ∙ ap (λ q. chained m1.slots (Some (At (ToBuffer b))) (q ∷ m1.results (calculation_id at n c) ∷ [])) (h1.number_at 0 has_0)
        ∙ ap (λ q. chained m1.slots (Some (At (ToBuffer b))) (Some (Word 0) ∷ q ∷ [])) r.value
        ∙ ap (λ (s : Slots). if nat_lt i (length (words_at s b)) then Some to else None) h1.slots
        ∙ ap (λ t. if t then Some to else None) (lt-ltb i (length (words_at f.slots b)) inside) in
        let m2 = with_result p to m1 in
        let h2 = holds_same at Has pool ids f n m1 m2 le (same_put n p to m1 (omega arith)) h1 in
        let d = action_runs a (p + 1) p b i f m2 (op.Branch l ∷ rest) (omega arith) (omega arith) ok h2 (with_same m1.results p to) in
        let ops : (code ++ (chain ∷ (act ++ (op.Branch l ∷ [])))) ++ rest ≡ code ++ (chain ∷ tail) = simp append_assoc in
        record {
          memory = d.memory;
          holds = d.holds;
          by = λ k.
              ap (λ j. runs ids all j ((code ++ (chain ∷ (act ++ (op.Branch l ∷ [])))) ++ rest) m) (let z : length (code ++ (chain ∷ (act ++ (op.Branch l ∷ [])))) + k ≡ length code + suc (length act + (1 + k)) = omega (arith, length-append code (chain ∷ (act ++ (op.Branch l ∷ []))), length-append act (op.Branch l ∷ [])) in z)
              ∙ ap (λ q. runs ids all (length code + suc (length act + (1 + k))) q m) ops
              ∙ r.by (suc (length act + (1 + k)))
              ∙ ap (λ q. results_in q p tail (runs ids all (length act + (1 + k))) m1) pointer
              ∙ d.by (1 + k)
              ∙ branch_step l k rest d.memory;
        }
