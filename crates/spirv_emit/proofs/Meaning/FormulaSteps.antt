-- The steps of a formula compute its value.
use Rattle.std.proofs.Common.{◌≡◌, ℕ, zero, suc, ◌+◌, ◌<◌, List, [], ◌∷◌, ◌++◌, length, Option, Some, None, refl, sym, ap, ◌∙◌, arith, ⊎_elim, ◌⊎◌, inl, inr, length-append}
use Rattle.std.specs.Prelude.{slice_index}
use Rattle.shader_model.specs.declared.ids.Ids.{Ids}
use Rattle.spirv_model.specs.declared.code.UnaryCode.{UnaryCode}
use Rattle.spirv_model.specs.declared.code.BinaryCode.{BinaryCode}
use Rattle.spirv_model.specs.Op.{Op}
use Rattle.spirv_model.specs.Meaning.Values.{Value, Nothing, Word, Truth, Vector, Halves, At, of_one, of_two, selected, component}
use Rattle.spirv_model.specs.Meaning.Memory.{Memory, with_result}
use Rattle.spirv_model.specs.Meaning.ModuleMeaning.{results_in, runs}
use Rattle.spirv_emit.specs.declared.formula.Taken.{Taken}
use Rattle.spirv_emit.specs.declared.formula.Taken.TheVariants as taken
use Rattle.spirv_emit.specs.declared.formula.Step.{Step}
use Rattle.spirv_emit.specs.declared.formula.Step.TheVariants.{One, Two, High, Choose}
use Rattle.spirv_emit.specs.Layout.{Layout}
use Rattle.spirv_emit.specs.Code.{taken_id, step_op, steps_ops}
use Rattle.spirv_emit.specs.Frames.{value_at, taken_value, step_value, then_made, last_value}
use Rattle.spirv_emit.proofs.Meaning.ValueTables.{with_same, with_other, Same, same_self, same_then, same_put}

-- ## An instruction on values that stand for others

abbrev pub Becomes : Option Value → Option Value → Type 0
Becomes p q = (w : Value) → p ≡ Some w → q ≡ Some w

one_becomes : (o : UnaryCode) (p q : Option Value) → Becomes p q → Becomes (of_one o p) (of_one o q)
one_becomes o (Some w) q h v e = ap (of_one o) (h w refl) ∙ e
one_becomes o None q h v e = cc

high_becomes : (p q : Option Value) → Becomes p q → Becomes (component 1 p) (component 1 q)
high_becomes (Some w) q h v e = ap (component 1) (h w refl) ∙ e
high_becomes None q h v e = cc

two_without : (o : BinaryCode) (w : Value) → of_two o (Some w) None ≡ None
two_without o Nothing = refl
two_without o (Word n) = refl
two_without o (Truth b) = refl
two_without o (Vector x y z) = refl
two_without o (Halves l h) = refl
two_without o (At p) = refl

two_becomes : (o : BinaryCode) (p q p' q' : Option Value) → Becomes p p' → Becomes q q' → Becomes (of_two o p q) (of_two o p' q')
two_becomes o (Some x) (Some y) p' q' h k v e = ap (λ z. of_two o z q') (h x refl) ∙ ap (of_two o (Some x)) (k y refl) ∙ e
two_becomes o (Some x) None p' q' h k v e = let z = two_without o x in cc
two_becomes o None q p' q' h k v e = cc

selected_without : (c : Value) (q : Option Value) → selected (Some c) None q ≡ None
selected_without Nothing q = refl
selected_without (Word n) q = refl
selected_without (Truth b) q = refl
selected_without (Vector x y z) q = refl
selected_without (Halves l h) q = refl
selected_without (At p) q = refl

selected_without_second : (c x : Value) → selected (Some c) (Some x) None ≡ None
selected_without_second Nothing x = refl
selected_without_second (Word n) x = refl
selected_without_second (Truth b) x = refl
selected_without_second (Vector a b c) x = refl
selected_without_second (Halves l h) x = refl
selected_without_second (At p) x = refl

selected_becomes : (c p q c' p' q' : Option Value) → Becomes c c' → Becomes p p' → Becomes q q' → Becomes (selected c p q) (selected c' p' q')
selected_becomes (Some c) (Some x) (Some y) c' p' q' g h k v e =
    ap (λ z. selected z p' q') (g c refl) ∙ ap (λ z. selected (Some c) z q') (h x refl) ∙ ap (selected (Some c) (Some x)) (k y refl) ∙ e
selected_becomes (Some c) (Some x) None c' p' q' g h k v e = let z = selected_without_second c x in cc
selected_becomes (Some c) None q c' p' q' g h k v e = let z = selected_without c q in cc
selected_becomes None p q c' p' q' g h k v e = cc

-- ## Values in a list

pub value_before : (made : List Value) (v : Value) (i : ℕ) (w : Value) → value_at made i ≡ Some w → i < length made
value_before [] v i w e = cc
value_before (x ∷ made) v zero w e = omega arith
value_before (x ∷ made) v (suc i) w e = let h = value_before made v i w e in omega arith

-- of a list with another value at its end
value_of_more : (made : List Value) (v w : Value) (i : ℕ) → value_at (made ++ v ∷ []) i ≡ Some w → ((i < length made) × (value_at made i ≡ Some w)) ⊎ ((i ≡ length made) × (v ≡ w))
value_of_more [] v w zero e = inr (refl, some_same v w e)
  where
    some_same : (v w : Value) → Some v ≡ Some w → v ≡ w
    some_same v w e = cc
value_of_more [] v w (suc i) e = cc
value_of_more (x ∷ made) v w zero e = inl (omega arith, e)
value_of_more (x ∷ made) v w (suc i) e =
    ⊎_elim
    (λ (h : (i < length made) × (value_at made i ≡ Some w)). inl (let z = h.0 in omega arith, h.1))
    (λ (h : (i ≡ length made) × (v ≡ w)). inr (ap suc h.0, h.1))
    (value_of_more made v w i e)

-- ## Steps

module _ (at : Layout) (Has : ℕ → Type 0) (ids : Ids) (all : List Op) (leaves xs : List ℕ) (first : ℕ) where
  -- what a step takes has an id
  abbrev pub TakenFits : Taken → Type 0
  TakenFits (taken.Leaf i) = i < 5
  TakenFits (taken.Made i) = Unit {0}
  TakenFits (taken.Number v) = Has v

  abbrev pub StepFits : Step → Type 0
  StepFits (One o a) = TakenFits a
  StepFits (Two o a b) = TakenFits a × TakenFits b
  StepFits (High a) = TakenFits a
  StepFits (Choose c a b) = TakenFits c × TakenFits a × TakenFits b

  abbrev pub StepsFit : List Step → Type 0
  StepsFit [] = Unit {0}
  StepsFit (s ∷ ss) = StepFits s × StepsFit ss

  -- the leaves, the numbers and the values made so far stand in the memory
  pub record Ready (made : List Value) (m : Memory) : Type 0 where
    pub leaf_below : (i : ℕ) → i < 5 → slice_index leaves i < first
    pub leaf : (i : ℕ) → i < 5 → m.results (slice_index leaves i) ≡ Some (Word (slice_index xs i))
    pub number_below : (v : ℕ) → Has v → at.number v < first
    pub number : (v : ℕ) → Has v → m.results (at.number v) ≡ Some (Word v)
    pub values : (i : ℕ) (v : Value) → value_at made i ≡ Some v → m.results (first + i) ≡ Some v

  taken_becomes : (made : List Value) (m : Memory) → Ready made m → (t : Taken) → TakenFits t → Becomes (taken_value xs made t) (m.results (taken_id at leaves first t))
  taken_becomes made m h (taken.Leaf i) ok v e = h.leaf i ok ∙ e
  taken_becomes made m h (taken.Made i) ok v e = h.values i v e
  taken_becomes made m h (taken.Number n) ok v e = h.number n ok ∙ e

  step_runs : (made : List Value) (m : Memory) (r f : ℕ) (rest : List Op) (v : Value) → Ready made m → (s : Step) → StepFits s → step_value xs made s ≡ Some v → runs ids all (suc f) (step_op at leaves first r s ∷ rest) m ≡ runs ids all f rest (with_result r v m)
  step_runs made m r f rest v h (One o a) ok e =
      ap (λ p. results_in p r rest (runs ids all f) m) (one_becomes o _ _ (taken_becomes made m h a ok) v e)
  step_runs made m r f rest v h (Two o a b) ok e =
      ap (λ p. results_in p r rest (runs ids all f) m) (two_becomes o _ _ _ _ (taken_becomes made m h a ok.0) (taken_becomes made m h b ok.1) v e)
  step_runs made m r f rest v h (High a) ok e =
      ap (λ p. results_in p r rest (runs ids all f) m) (high_becomes _ _ (taken_becomes made m h a ok) v e)
  step_runs made m r f rest v h (Choose c a b) ok e =
      ap (λ p. results_in p r rest (runs ids all f) m) (selected_becomes _ _ _ _ _ _ (taken_becomes made m h c ok.0) (taken_becomes made m h a ok.1) (taken_becomes made m h b ok.2) v e)

  ready_more : (made : List Value) (m : Memory) (r : ℕ) (v : Value) → r ≡ first + length made → Ready made m → Ready (made ++ v ∷ []) (with_result r v m)
  ready_more made m r v e h = record {
    leaf_below = h.leaf_below;
    leaf = λ i lt. let b = h.leaf_below i lt in with_other m.results r (slice_index leaves i) v (λ (z : slice_index leaves i ≡ r). absurd (omega arith)) ∙ h.leaf i lt;
    number_below = h.number_below;
    number = λ n has. let b = h.number_below n has in with_other m.results r (at.number n) v (λ (z : at.number n ≡ r). absurd (omega arith)) ∙ h.number n has;
    values = λ i w z.
        ⊎_elim
        (λ (p : (i < length made) × (value_at made i ≡ Some w)). let lt = p.0 in with_other m.results r (first + i) v (λ (q : first + i ≡ r). absurd (omega arith)) ∙ h.values i w p.1)
        (λ (p : (i ≡ length made) × (v ≡ w)). ap (λ k. (with_result r v m).results k) (ap (λ k. first + k) p.0 ∙ sym e) ∙ with_same m.results r v ∙ ap (λ k. Some k) p.1)
        (value_of_more made v w i z);
  }

  -- some steps, up to what stands behind them
  pub record StepsRun (made : List Value) (r : ℕ) (ss : List Step) (m : Memory) (rest : List Op) (v : Value) : Type 0 where
    pub memory : Memory
    pub same : Same r m memory
    pub last : (k : ℕ) → suc k ≡ length made + length ss → memory.results (first + k) ≡ Some v
    pub by : (f : ℕ) → runs ids all (length ss + f) (steps_ops at leaves first r ss ++ rest) m ≡ runs ids all f rest memory

  some_parts : (p : Option Value) (go : Value → Option Value) (v : Value) → then_made p go ≡ Some v → (w : Value) × (p ≡ Some w) × (go w ≡ Some v)
  some_parts (Some w) go v e = (w, refl, e)
  some_parts None go v e = cc

  pub steps_run : (ss : List Step) (made : List Value) (last : Value) (r : ℕ) (m : Memory) (rest : List Op) (v : Value) → r ≡ first + length made → ((k : ℕ) → suc k ≡ length made → m.results (first + k) ≡ Some last) → Ready made m → StepsFit ss → last_value xs made last ss ≡ Some v → StepsRun made r ss m rest v
  steps_run [] made last r m rest v er here h ok e = record {
    memory = m;
    same = same_self r m;
    last = λ k z. here k (omega (arith, z)) ∙ e;
    by = λ f. ap (λ k. runs ids all k rest m) (let z : 0 + f ≡ f = omega arith in z);
  }
  steps_run (s ∷ ss) made last r m rest v er here h ok e =
      let p = some_parts (step_value xs made s) _ v e in
      let w = p.0 in
      let m1 = with_result r w m in
      let len : length (made ++ w ∷ []) ≡ length made + 1 = length-append made (w ∷ []) in
      let next = steps_run ss (made ++ w ∷ []) w (r + 1) m1 rest v (omega (arith, er, len))
      (λ k z. ap m1.results (let q : first + k ≡ r = omega (arith, z, len, er) in q) ∙ with_same m.results r w)
      (ready_more made m r w er h) ok.1 p.2 in
      record {
        memory = next.memory;
        same = same_then r (r + 1) m m1 next.memory (omega arith) (same_put r r w m (omega arith)) next.same;
        last = λ k z. next.last k (omega (arith, z, len));
        by = λ f.
            ap (λ k. runs ids all k (step_op at leaves first r s ∷ (steps_ops at leaves first (r + 1) ss ++ rest)) m) (let z : length (s ∷ ss) + f ≡ suc (length ss + f) = omega arith in z)
            ∙ step_runs made m r (length ss + f) (steps_ops at leaves first (r + 1) ss ++ rest) w h s ok.0 p.1
            ∙ next.by f;
      }
