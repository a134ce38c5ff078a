-- The code of leaves is taken, and their ids have words.
use Rattle.std.proofs.Common.{◌≡◌, ℕ, zero, suc, ◌+◌, ◌<◌, ◌≤◌, Bool, true, List, [], ◌∷◌, ◌++◌, length, Some, refl, ap, ◌∙◌, arith}
use Rattle.std.specs.Prelude.{slice_index}
use Rattle.shader_model.specs.declared.ids.Ids.{Ids}
use Rattle.spirv_model.specs.Op.{Op}
use Rattle.spirv_model.specs.Op as op
use Rattle.spirv_model.specs.declared.storage_classes.TheConstants as class
use Rattle.spirv_model.specs.History.{result_of, value_type, maker, after}
use Rattle.spirv_emit.specs.declared.piece.Leaf.{Leaf}
use Rattle.spirv_emit.specs.declared.piece.Leaf.TheVariants.{Number, Variable, Length, Component, Flattened}
use Rattle.spirv_emit.specs.Layout as id
use Rattle.spirv_emit.specs.Layout.{Layout, variable, first_code, vector_id}
use Rattle.spirv_emit.specs.Code.{leaf_size, leaves_size, leaf_ops, leaf_id, leaves_ops, leaf_ids}
use Rattle.spirv_emit.proofs.Meaning.HeldFrames.{Pool, LeafFits, LeavesFit, id_below}
use Rattle.spirv_emit.proofs.Profile.InstructionsPass.{after_append, maker_here}
use Rattle.spirv_emit.proofs.Profile.TypedOperands.{Typed}
use Rattle.spirv_emit.proofs.Profile.CodePlaces.{Standing, Runs, runs_none, runs_then, runs_more, runs_making}
use Rattle.spirv_emit.proofs.Profile.Scope.{Scope, scope_here, typed_kept, vector_less}
use Rattle.spirv_emit.proofs.Profile.OperandRules.{load_fine, load_vector_fine, part_fine, length_fine}

pub typed_last : (h : List Op) (o : Op) (r t : ℕ) → result_of o ≡ Some r → value_type o ≡ Some t → Typed (o ∷ h) r t
typed_last h o r t e y = record { by = o; is = maker_here r o h e; type_is = y }

module _ (at : Layout) (Has : ℕ → Type 0) (pool : Pool at Has) (ids : Ids) (bound : ℕ) (start : List Op) (begin : Scope at Has start) (roomy : first_code at ≤ bound) where
  abbrev pub first : ℕ
  first = first_code at

  abbrev pub Stand : Bool → ℕ → List Op → Type 0
  Stand opened n h = Standing bound first start opened n h

  abbrev pub Run : (lo : ℕ) (h : List Op) (opened : Bool) (n : ℕ) (code : List Op) → Type 0
  Run lo h opened n code = Runs bound first start lo h opened n code

  pub here : (n : ℕ) (h : List Op) (opened : Bool) → Stand opened n h → Scope at Has h
  here n h opened s = scope_here at Has bound n start h opened pool begin s

  pub wide_enough : 61 ≤ bound
  wide_enough = let s = pool.behind in omega arith

  -- its code is taken, and its id has a word
  pub record LeafGives (h : List Op) (n : ℕ) (l : Leaf) : Type 0 where
    pub runs : Run n h true (n + leaf_size l) (leaf_ops at n l)
    pub typed : Typed (after (leaf_ops at n l) h) (leaf_id at n l) id.word_type

  pub number_typed : (v n : ℕ) (h : List Op) → Has v → Stand true n h → Typed h (at.number v) id.word_type
  number_typed v n h has s = record { by = op.Constant id.word_type (at.number v) v; is = (here n h true s).numbers v has; type_is = refl }

  pub leaf_gives : (l : Leaf) (n : ℕ) (h : List Op) → LeafFits at Has pool ids l → first ≤ n → n + leaf_size l ≤ bound → Stand true n h → LeafGives h n l
  leaf_gives (Number v) n h p le lb s =
      record {
        runs = runs_more bound first start n n n (n + 0) h true [] (omega arith) (omega arith) (runs_none bound first start n h true n s);
        typed = number_typed v n h p s;
      }
  leaf_gives (Variable x) n h p le lb s =
      let sc = here n h true s in
      let load = op.Load id.word_type n (variable at x) in
      record {
        runs = runs_making bound first start load n h refl refl le (load_fine bound h sc.setting wide_enough n (variable at x) id.to_variable class.FUNCTION (omega arith) (omega arith) (s.fresh n (omega arith)) (sc.variables x p) sc.setting.local_word) s;
        typed = typed_last h load n id.word_type refl refl;
      }
  leaf_gives (Length b) n h p le lb s =
      let sc = here n h true s in
      let has = pool.bindings_have b p in
      let below = pool.below b has in
      let chain = op.AccessChain id.to_length n id.lengths (at.number b ∷ []) in
      let ra = runs_making bound first start chain n h refl refl le (length_fine bound h sc.setting wide_enough n b (at.number b) (omega arith) (omega arith) (s.fresh n (omega arith)) p (sc.numbers b has)) s in
      let s1 = ra.stands in
      let sc1 = here (n + 1) (chain ∷ h) true s1 in
      let last = op.Load id.word_type (n + 1) n in
      let rb = runs_making bound first start last (n + 1) (chain ∷ h) refl refl (omega arith) (load_fine bound (chain ∷ h) sc1.setting wide_enough (n + 1) n id.to_length class.PUSH_CONSTANT (omega arith) (omega arith) (s1.fresh (n + 1) (omega arith)) (typed_last h chain n id.to_length refl refl) sc1.setting.length_word) s1 in
      record {
        runs = runs_more bound first start n n (n + 1 + 1) (n + 2) h true (chain ∷ last ∷ []) (omega arith) (omega arith) (runs_then bound first start n (n + 1) h true true (n + 1) (n + 1 + 1) (chain ∷ []) (last ∷ []) (omega arith) ra rb);
        typed = typed_last (chain ∷ h) last (n + 1) id.word_type refl refl;
      }
  leaf_gives (Component v c) n h p le lb s =
      let sc = here n h true s in
      let load = op.Load id.vector_type n (vector_id v) in
      let ra = runs_making bound first start load n h refl refl le (load_vector_fine bound h sc.setting wide_enough n (vector_id v) (omega arith) (let l = vector_less v in let w = wide_enough in omega arith) (s.fresh n (omega arith)) (record { by = op.Variable id.to_input_vector (vector_id v) class.INPUT []; is = sc.setting.vectors v; type_is = refl })) s in
      let s1 = ra.stands in
      let sc1 = here (n + 1) (load ∷ h) true s1 in
      let last = op.CompositeExtract id.word_type (n + 1) n c in
      let rb = runs_making bound first start last (n + 1) (load ∷ h) refl refl (omega arith) (part_fine bound (load ∷ h) sc1.setting wide_enough (n + 1) n c (omega arith) (omega arith) (s1.fresh (n + 1) (omega arith)) p (typed_last h load n id.vector_type refl refl)) s1 in
      record {
        runs = runs_more bound first start n n (n + 1 + 1) (n + 2) h true (load ∷ last ∷ []) (omega arith) (omega arith) (runs_then bound first start n (n + 1) h true true (n + 1) (n + 1 + 1) (load ∷ []) (last ∷ []) (omega arith) ra rb);
        typed = typed_last (load ∷ h) last (n + 1) id.word_type refl refl;
      }
  leaf_gives Flattened n h p le lb s =
      let sc = here n h true s in
      let load = op.Load id.word_type n id.thread_index in
      record {
        runs = runs_making bound first start load n h refl refl le (load_fine bound h sc.setting wide_enough n id.thread_index id.to_input_word class.INPUT (omega arith) (let w = wide_enough in omega arith) (s.fresh n (omega arith)) (record { by = op.Variable id.to_input_word id.thread_index class.INPUT []; is = sc.setting.index; type_is = refl }) sc.setting.input_word) s;
        typed = typed_last h load n id.word_type refl refl;
      }

  -- some leaves
  pub record LeavesGive (h : List Op) (n : ℕ) (ls : List Leaf) : Type 0 where
    pub runs : Run n h true (n + leaves_size ls) (leaves_ops at n ls)
    pub below : (i : ℕ) → i < length ls → slice_index (leaf_ids at n ls) i < n + leaves_size ls
    pub typed : (i : ℕ) → i < length ls → Typed (after (leaves_ops at n ls) h) (slice_index (leaf_ids at n ls) i) id.word_type

  pub leaves_give : (ls : List Leaf) (n : ℕ) (h : List Op) → LeavesFit at Has pool ids ls → first ≤ n → n + leaves_size ls ≤ bound → Stand true n h → LeavesGive h n ls
  leaves_give [] n h p le lb s = record {
    runs = runs_more bound first start n n n (n + 0) h true [] (omega arith) (omega arith) (runs_none bound first start n h true n s);
    below = λ i lt. absurd (omega arith);
    typed = λ i lt. absurd (omega arith);
  }
  leaves_give (l ∷ ls) n h p le lb s =
      let n1 = n + leaf_size l in
      let a = leaf_ops at n l in
      let b = leaves_ops at n1 ls in
      let one = leaf_gives l n h p.0 le (omega arith) s in
      let h1 = after a h in
      let more = leaves_give ls n1 h1 p.1 (omega arith) (omega arith) one.runs.stands in
      let lt = id_below at Has pool ids l n le p.0 in
      record {
        runs = runs_more bound first start n n (n1 + leaves_size ls) (n + (leaf_size l + leaves_size ls)) h true (a ++ b) (omega arith) (omega arith) (runs_then bound first start n n1 h true true n1 (n1 + leaves_size ls) a b (omega arith) one.runs more.runs);
        below = below_at lt more.below;
        typed = typed_at (typed_kept h1 (after (a ++ b) h) (leaf_id at n l) id.word_type (ap (maker (leaf_id at n l)) (after_append a b h) ∙ more.runs.kept (leaf_id at n l) lt) one.typed) more.typed;
      }
    where
      below_at : leaf_id at n l < n + leaf_size l → ((i : ℕ) → i < length ls → slice_index (leaf_ids at (n + leaf_size l) ls) i < (n + leaf_size l) + leaves_size ls) → (i : ℕ) → i < length (l ∷ ls) → slice_index (leaf_ids at n (l ∷ ls)) i < n + leaves_size (l ∷ ls)
      below_at first_one more zero lt = omega (arith, first_one)
      below_at first_one more (suc i) lt = let z = more i (omega (arith, lt)) in omega (arith, z)

      typed_at : Typed (after (leaf_ops at n l ++ leaves_ops at (n + leaf_size l) ls) h) (leaf_id at n l) id.word_type → ((i : ℕ) → i < length ls → Typed (after (leaves_ops at (n + leaf_size l) ls) (after (leaf_ops at n l) h)) (slice_index (leaf_ids at (n + leaf_size l) ls) i) id.word_type) → (i : ℕ) → i < length (l ∷ ls) → Typed (after (leaf_ops at n l ++ leaves_ops at (n + leaf_size l) ls) h) (slice_index (leaf_ids at n (l ∷ ls)) i) id.word_type
      typed_at first_one more zero lt = first_one
      typed_at first_one more (suc i) lt = let x = slice_index (leaf_ids at (n + leaf_size l) ls) i in typed_kept (after (leaves_ops at (n + leaf_size l) ls) (after (leaf_ops at n l) h)) (after (leaf_ops at n l ++ leaves_ops at (n + leaf_size l) ls) h) x id.word_type (ap (maker x) (after_append (leaf_ops at n l) (leaves_ops at (n + leaf_size l) ls) h)) (more i (omega (arith, lt)))
