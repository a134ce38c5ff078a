-- The leaves of an instruction's sources have their words.
use Rattle.std.proofs.Common.{◌≡◌, ℕ, ◌+◌, ◌*◌, ◌<◌, ◌≤◌, Bool, true, false, if◌then◌else◌, ◌⊎◌, inl, inr, List, length, Option, Some, None, refl, sym, ap, ◌∙◌, arith}
use Rattle.std.specs.Prelude.{◌==◌, nat_lt, slice_index, slice_index_or}
use Rattle.std.proofs.lemmas.Bool.{eqb-true, ltb-false}
use Rattle.std.proofs.lemmas.List.{get_or_past}
use Rattle.shader_model.specs.declared.ids.Ids.{Ids}
use Rattle.shader_model.specs.declared.tree.Declared.{Declared}
use Rattle.shader_model.specs.declared.tree.Operand.{Operand}
use Rattle.shader_model.specs.declared.tree.Instr.{Instr}
use Rattle.shader_model.specs.Words.{picked}
use Rattle.shader_model.specs.Good.{MaybeFits, OperandFits}
use Rattle.shader_model.specs.Invocation as model
use Rattle.shader_model.specs.Invocation.{State, words_in, vector_word, vector_of, global, flattened}
use Rattle.spirv_emit.specs.declared.piece.Vector.TheVariants.{Group, Thread, Global}
use Rattle.spirv_emit.specs.declared.piece.Leaf.{Leaf}
use Rattle.spirv_emit.specs.declared.piece.Leaf.TheVariants.{Number, Variable, Length, Component, Flattened}
use Rattle.spirv_emit.specs.Lower.{nought, three, leaf_of, leaf_of_some, source, fetched}
use Rattle.spirv_model.specs.Meaning.Bindings.{words_at}
use Rattle.spirv_emit.specs.Frames.{Frame, leaf_word}
use Rattle.spirv_emit.proofs.Meaning.CodeStretches.{Shows}

-- an invocation's ids have three components
pub record ThreeIds (ids : Ids) : Type 0 where
  pub group : length ids.group ≡ 3
  pub thread : length ids.thread ≡ 3

picked_below : (swizzle c : ℕ) → picked swizzle c < 4
picked_below swizzle c = omega arith

-- ## What frames show of sources

module _ (ds : List Declared) (temps : ℕ) (ids : Ids) (three_ids : ThreeIds ids) where
  -- a leaf that is chosen
  if_word : (f : Frame) (b : Bool) (x y : Leaf) (u v : ℕ) → (b ≡ true → leaf_word ids f x ≡ u) → (b ≡ false → leaf_word ids f y ≡ v) → leaf_word ids f (if b then x else y) ≡ (if b then u else v)
  if_word f true x y u v hx hy = hx refl
  if_word f false x y u v hx hy = hy refl

  -- a built-in vector's component; the fourth is 0
  three_word : (f : Frame) (g : ℕ → Leaf) (w : ℕ → ℕ) (c : ℕ) → c < 4 → ((c : ℕ) → leaf_word ids f (g c) ≡ w c) → w 3 ≡ 0 → leaf_word ids f (three g c) ≡ w c
  three_word f g w c lt e z = by_place (nat_lt c 3) refl
    where
      by_place : (b : Bool) → nat_lt c 3 ≡ b → leaf_word ids f (if b then g c else nought) ≡ w c
      by_place true h = e c
      by_place false h = let k = ltb-false c 3 h in sym (ap w (let q : c ≡ 3 = omega (arith, k, lt) in q) ∙ z)

  past_group : slice_index ids.group 3 ≡ 0
  past_group = get_or_past ids.group 3 0 (let e = three_ids.group in omega (arith, e))

  past_thread : slice_index ids.thread 3 ≡ 0
  past_thread = get_or_past ids.thread 3 0 (let e = three_ids.thread in omega (arith, e))

  past_global : global ids 3 ≡ 0
  past_global = ap (λ k. k * slice_index ids.size 3 + slice_index ids.thread 3) past_group ∙ ap (λ k. 0 * slice_index ids.size 3 + k) past_thread ∙ (let z : 0 * slice_index ids.size 3 + 0 ≡ 0 = omega arith in z)

  -- what was fetched of the source j, where it is in a constant buffer
  abbrev pub IsFetched : (j : ℕ) → Frame → State → Operand → ℕ → Type 0
  IsFetched j f s o i = o.file ≡ 2 → f.variables (fetched j i) ≡ vector_word (words_in s.slots.constants o.index) (vector_of o s) (picked o.swizzle i)

  pub leaf_is : (j i : ℕ) (o : Operand) (f : Frame) (s : State) → i < 4 → Shows temps f s → OperandFits ds temps o → IsFetched j f s o i → leaf_word ids f (leaf_of j o i) ≡ model.value_of ids s o i
  leaf_is j i o f s lt h fits got =
      let c = picked o.swizzle i in
      let below = picked_below o.swizzle i in
      if_word f (o.file == 0) _ _ _ _ (λ e. h.words o.index c (fits.register (eqb-true o.file 0 e)) below) (λ e0.
      if_word f (o.file == 1) _ _ _ _ (λ e. refl) (λ e1.
      if_word f (o.file == 2) _ _ _ _ (λ e. got (eqb-true o.file 2 e)) (λ e2.
      if_word f (o.file == 3) _ _ _ _ (λ e. three_word f (Component Global) (global ids) c below (λ k. refl) past_global) (λ e3.
      if_word f (o.file == 4) _ _ _ _ (λ e. three_word f (Component Group) (slice_index ids.group) c below (λ k. refl) past_group) (λ e4.
      if_word f (o.file == 5) _ _ _ _ (λ e. three_word f (Component Thread) (slice_index ids.thread) c below (λ k. refl) past_thread) (λ e5. refl))))))

  -- all sources of an instruction that are in constant buffers were fetched
  abbrev pub MaybeFetched : (j : ℕ) → Frame → State → Option Operand → Type 0
  MaybeFetched j f s None = Unit {0}
  MaybeFetched j f s (Some o) = (i : ℕ) → i < 4 → IsFetched j f s o i

  abbrev pub AllFetched : Frame → State → Instr → Type 0
  AllFetched f s i = (j : ℕ) → j < 4 → MaybeFetched j f s (slice_index_or i.sources j None)

  maybe_is : (j c : ℕ) (q : Option Operand) (f : Frame) (s : State) → c < 4 → Shows temps f s → MaybeFits (OperandFits ds temps) q → MaybeFetched j f s q → leaf_word ids f (leaf_of_some j q c) ≡ model.value_of_some ids s q c
  maybe_is j c None f s lt h fits got = refl
  maybe_is j c (Some o) f s lt h fits got = leaf_is j c o f s lt h fits (got c lt)

  pub source_is : (i : Instr) (j c : ℕ) (f : Frame) (s : State) → j < 4 → c < 4 → Shows temps f s → MaybeFits (OperandFits ds temps) (slice_index_or i.sources j None) → AllFetched f s i → leaf_word ids f (source i j c) ≡ model.source ids s i j c
  source_is i j c f s lj lc h fits got = maybe_is j c (slice_index_or i.sources j None) f s lc h fits (got j lj)

  -- ## Leaves that no result changes

  -- the variables of results are 17 to 24
  pub record Near (f g : Frame) : Type 0 where
    pub slots : g.slots ≡ f.slots
    pub variables : (x : ℕ) → (x < 17) ⊎ (25 ≤ x) → g.variables x ≡ f.variables x

  abbrev IsClear : Leaf → Type 0
  IsClear (Variable x) = (x < 17) ⊎ (25 ≤ x)
  IsClear l = Unit {0}

  clear_word : (f g : Frame) (l : Leaf) → Near f g → IsClear l → leaf_word ids g l ≡ leaf_word ids f l
  clear_word f g (Number v) h c = refl
  clear_word f g (Variable x) h c = h.variables x c
  clear_word f g (Length b) h c = ap (λ (s : model.Slots). length (words_at s b)) h.slots
  clear_word f g (Component v k) h c = refl
  clear_word f g Flattened h c = refl

  if_clear : (b : Bool) (x y : Leaf) → IsClear x → IsClear y → IsClear (if b then x else y)
  if_clear true x y hx hy = hx
  if_clear false x y hx hy = hy

  leaf_clear : (j i : ℕ) (o : Operand) → j < 4 → i < 4 → IsClear (leaf_of j o i)
  leaf_clear j i o lj li =
      let c = picked o.swizzle i in
      if_clear (o.file == 0) _ _ (inr (omega arith))
      (if_clear (o.file == 1) _ _ tt
      (if_clear (o.file == 2) _ _ (inl (omega arith))
      (if_clear (o.file == 3) _ _ (if_clear (nat_lt c 3) (Component Global c) nought tt tt)
      (if_clear (o.file == 4) _ _ (if_clear (nat_lt c 3) (Component Group c) nought tt tt)
      (if_clear (o.file == 5) _ _ (if_clear (nat_lt c 3) (Component Thread c) nought tt tt) tt)))))

  maybe_clear : (j c : ℕ) (q : Option Operand) → j < 4 → c < 4 → IsClear (leaf_of_some j q c)
  maybe_clear j c None lj lc = tt
  maybe_clear j c (Some o) lj lc = leaf_clear j c o lj lc

  pub source_near : (i : Instr) (j c : ℕ) (f g : Frame) → j < 4 → c < 4 → Near f g → leaf_word ids g (source i j c) ≡ leaf_word ids f (source i j c)
  source_near i j c f g lj lc h = clear_word f g (source i j c) h (maybe_clear j c (slice_index_or i.sources j None) lj lc)
