-- The code of choices and of pieces is taken.
use Rattle.std.proofs.Common.{◌≡◌, ℕ, ◌+◌, ◌<◌, ◌≤◌, Bool, true, false, List, [], ◌∷◌, ◌++◌, None, refl, ◌∙◌, arith}
use Rattle.shader_model.specs.declared.ids.Ids.{Ids}
use Rattle.spirv_model.specs.declared.settings.TheConstants as setting
use Rattle.spirv_model.specs.Op.{Op}
use Rattle.spirv_model.specs.Op as op
use Rattle.spirv_model.specs.declared.storage_classes.TheConstants as class
use Rattle.spirv_model.specs.History.{maker, after}
use Rattle.spirv_emit.specs.declared.piece.Calculation.{Calculation}
use Rattle.spirv_emit.specs.declared.piece.Action.{Action}
use Rattle.spirv_emit.specs.declared.piece.Action.TheVariants.{Fetch, Write, Change, Swap}
use Rattle.spirv_emit.specs.declared.piece.Piece.{Piece}
use Rattle.spirv_emit.specs.declared.piece.Piece.TheVariants.{Assign, Reach}
use Rattle.spirv_emit.specs.Layout as id
use Rattle.spirv_emit.specs.Layout.{Layout, variable, first_code, bindings}
use Rattle.spirv_emit.specs.Code.{leaf_size, calculation_size, action_size, leaf_ops, leaf_id, calculation_ops, calculation_id, choice_ops, assign_ops, action_ops, missed_ops, reach_ops, piece_ops, piece_end, pieces_ops, pieces_end}
use Rattle.spirv_emit.proofs.Words.LabelRanges.{piece_grows, pieces_grow}
use Rattle.spirv_emit.proofs.Meaning.HeldFrames.{Pool, LeafFits, id_below}
use Rattle.spirv_emit.proofs.Meaning.Calculations.{CalculationFits}
use Rattle.spirv_emit.proofs.Profile.InstructionsPass.{maker_other, result_fine}
use Rattle.spirv_emit.proofs.Profile.TypedOperands.{Typed, value_fine, truth_fine, constant_fine, stored_fine, local_target_fine, buffer_target_fine, shared_fine}
use Rattle.spirv_emit.proofs.Profile.CodePlaces.{Standing, Runs, standing_more, runs_none, runs_then, runs_more, runs_making, runs_plainly, runs_branch, runs_label, runs_choice}
use Rattle.spirv_emit.proofs.Profile.Scope.{Scope, typed_kept}
use Rattle.spirv_emit.proofs.Profile.OperandRules.{word_type_fine, load_fine, element_fine}
use Rattle.spirv_emit.proofs.Profile.StepTypes.{gives}
use Rattle.spirv_emit.proofs.Profile.Leaves as leaves
use Rattle.spirv_emit.proofs.Profile.Leaves.{typed_last, leaf_gives}
use Rattle.spirv_emit.proofs.Profile.CalculationsPass.{calculation_gives}

-- ## What pieces name

module _ (at : Layout) (Has : ℕ → Type 0) (pool : Pool at Has) (ids : Ids) where
  -- a calculation of words that are there, which gives a value of this type
  abbrev pub Proper : Calculation → (t : ℕ) → Type 0
  Proper c t = CalculationFits at Has pool ids c × (gives c.formula t ≡ true)

  abbrev pub ProperAction : Action → Type 0
  ProperAction (Fetch x) = x < at.variables
  ProperAction (Write v) = LeafFits at Has pool ids v
  ProperAction (Change o v x) = LeafFits at Has pool ids v × (x < at.variables)
  ProperAction (Swap v c x) = LeafFits at Has pool ids v × LeafFits at Has pool ids c × (x < at.variables)

  abbrev pub ProperPiece : Piece → Type 0
  ProperPiece (Assign x c) = (x < at.variables) × Proper c id.word_type
  ProperPiece (Reach g b c a) = Proper g id.truth_type × (b < bindings) × Proper c id.word_type × ProperAction a

  abbrev pub ProperPieces : List Piece → Type 0
  ProperPieces [] = Unit {0}
  ProperPieces (p ∷ ps) = ProperPiece p × ProperPieces ps

-- ## Their code

module _ (at : Layout) (Has : ℕ → Type 0) (pool : Pool at Has) (ids : Ids) (bound : ℕ) (start : List Op) (begin : Scope at Has start) (roomy : first_code at ≤ bound) where
  abbrev first : ℕ
  first = first_code at

  abbrev Stands : Bool → ℕ → List Op → Type 0
  Stands opened n h = Standing bound first start opened n h

  abbrev Takes : (lo : ℕ) (h : List Op) (opened : Bool) (n : ℕ) (code : List Op) → Type 0
  Takes lo h opened n code = Runs bound first start lo h opened n code

  here : (n : ℕ) (h : List Op) → Stands true n h → Scope at Has h
  here n h s = leaves.here at Has pool ids bound start begin roomy n h true s

  wide : 61 ≤ bound
  wide = leaves.wide_enough at Has pool ids bound start begin roomy

  pub join : (lo : ℕ) (h : List Op) (o1 o2 : Bool) (n1 n2 : ℕ) (a b : List Op) → Takes lo h o1 n1 a → Takes lo (after a h) o2 n2 b → Takes lo h o2 n2 (a ++ b)
  join lo h o1 o2 n1 n2 a b ra rb = runs_then bound first start lo lo h o1 o2 n1 n2 a b (omega arith) ra rb

  pub low : (lo lo' n : ℕ) (h : List Op) (opened : Bool) (code : List Op) → lo' ≤ lo → Takes lo h opened n code → Takes lo' h opened n code
  low lo lo' n h opened code le r = runs_more bound first start lo lo' n n h opened code le (omega arith) r

  -- a choice, where both sides are taken and end their blocks
  pub choice_runs : (c : Calculation) (n : ℕ) (h a b : List Op) (n1 n2 : ℕ) → Proper at Has pool ids c id.truth_type → first ≤ n → n + calculation_size c + 3 ≤ n1 → n1 ≤ n2 → n2 ≤ bound → Stands true n h
      → ((g : List Op) → ((x : ℕ) → x < n → maker x g ≡ maker x h) → maker (n + calculation_size c + 2) g ≡ None → Stands true (n + calculation_size c + 3) g → Takes (n + calculation_size c + 3) g false n1 a)
      → ((g : List Op) → ((x : ℕ) → x < n → maker x g ≡ maker x h) → maker (n + calculation_size c + 2) g ≡ None → Stands true n1 g → Takes n1 g false n2 b)
      → Takes n h true n2 (choice_ops at n c a b)
  choice_runs c n h a b n1 n2 p le l1 l2 lb s ra rb =
      let l = n + calculation_size c in
      let code = calculation_ops at n c in
      let test = calculation_id at n c in
      let gt = calculation_gives at Has pool ids bound start begin roomy c id.truth_type n h p.0 p.1 le (omega arith) s in
      let it = gt.below in
      let h1 = after code h in
      let s1 = gt.runs.stands in
      let branch = op.SelectionMerge (l + 2) setting.NO_CONTROL ∷ op.BranchConditional test l (l + 1) ∷ [] in
      let rc = runs_choice bound first start (l + 2) test l (l + 1) n (l + 3) h1 (omega arith) (omega arith) (omega arith) (s1.fresh (l + 2) (omega arith)) (s1.fresh l (omega arith)) (s1.fresh (l + 1) (omega arith)) (truth_fine bound h1 test id.truth_type (omega arith) gt.typed (here l h1 s1).setting.truth) (standing_more bound first start true l (l + 3) h1 (omega arith) s1) in
      let h2 = after branch h1 in
      let la = op.Label l in
      let rl = runs_label bound first start l (l + 3) (l + 3) h2 (omega arith) (s1.fresh l (omega arith)) (omega arith) (omega arith) (omega arith) rc.stands in
      let h3 = la ∷ h2 in
      let u3 = maker_other (l + 2) l la h2 refl (λ e. absurd (omega arith)) ∙ s1.fresh (l + 2) (omega arith) in
      let v3 = maker_other (l + 1) l la h2 refl (λ e. absurd (omega arith)) ∙ s1.fresh (l + 1) (omega arith) in
      let k3 : (x : ℕ) → x < n → maker x h3 ≡ maker x h = λ x k. rl.kept x (omega arith) ∙ gt.runs.kept x k in
      let xa = ra h3 k3 u3 rl.stands in
      let h4 = after a h3 in
      let lo' = op.Label (l + 1) in
      let rm = runs_label bound first start (l + 1) n1 n1 h4 (omega arith) (xa.kept (l + 1) (omega arith) ∙ v3) (omega arith) (omega arith) (omega arith) xa.stands in
      let h5 = lo' ∷ h4 in
      let u5 = maker_other (l + 2) (l + 1) lo' h4 refl (λ e. absurd (omega arith)) ∙ xa.kept (l + 2) (omega arith) ∙ u3 in
      let k5 : (x : ℕ) → x < n → maker x h5 ≡ maker x h = λ x k. rm.kept x (omega arith) ∙ xa.kept x (omega arith) ∙ k3 x k in
      let xb = rb h5 k5 u5 rm.stands in
      let h6 = after b h5 in
      let rn = runs_label bound first start (l + 2) n2 n2 h6 (omega arith) (xb.kept (l + 2) (omega arith) ∙ u5) (omega arith) (omega arith) (omega arith) xb.stands in
      let last = op.Label (l + 2) ∷ [] in
      let j1 = join n h5 false true n2 n2 b last (low n1 n n2 h5 false b (omega arith) xb) (low (l + 2) n n2 h6 true last (omega arith) rn) in
      let j2 = join n h4 true true n1 n2 (lo' ∷ []) (b ++ last) (low (l + 1) n n1 h4 true (lo' ∷ []) (omega arith) rm) j1 in
      let j3 = join n h3 false true n1 n2 a (lo' ∷ (b ++ last)) (low (l + 3) n n1 h3 false a (omega arith) xa) j2 in
      let j4 = join n h2 true true (l + 3) n2 (la ∷ []) (a ++ (lo' ∷ (b ++ last))) (low l n (l + 3) h2 true (la ∷ []) (omega arith) rl) j3 in
      let j5 = join n h1 false true (l + 3) n2 branch (la ∷ (a ++ (lo' ∷ (b ++ last)))) rc j4 in
      join n h true true l n2 code (branch ++ (la ∷ (a ++ (lo' ∷ (b ++ last))))) gt.runs j5

  -- a store into a variable
  store_runs : (x v n : ℕ) (h : List Op) → x < at.variables → v < bound → Typed h v id.word_type → Stands true n h → Takes n h true n (op.Store (variable at x) v ∷ [])
  store_runs x v n h lx lv y s =
      let sc = here n h s in
      let var = sc.variables x lx in
      runs_plainly bound first start (op.Store (variable at x) v) n n h refl refl
      (local_target_fine bound h (variable at x) id.to_variable id.word_type (let r = roomy in omega arith) var sc.setting.local_word sc.setting.word, (stored_fine bound h (variable at x) id.to_variable class.FUNCTION id.word_type v lv var sc.setting.local_word y, tt)) s

  pub assign_runs : (x : ℕ) (c : Calculation) (n : ℕ) (h : List Op) → x < at.variables → Proper at Has pool ids c id.word_type → first ≤ n → n + calculation_size c ≤ bound → Stands true n h → Takes n h true (n + calculation_size c) (assign_ops at n x c)
  assign_runs x c n h lx p le lb s =
      let m = n + calculation_size c in
      let gt = calculation_gives at Has pool ids bound start begin roomy c id.word_type n h p.0 p.1 le lb s in
      let it = gt.below in
      let h1 = after (calculation_ops at n c) h in
      let rs = store_runs x (calculation_id at n c) m h1 lx (omega arith) gt.typed gt.runs.stands in
      join n h true true m m (calculation_ops at n c) _ gt.runs (low m n _ h1 true _ (omega arith) rs)

  has_0 : Has 0
  has_0 = pool.bindings_have 0 (omega arith)

  has_1 : Has 1
  has_1 = pool.bindings_have 1 (omega arith)

  number_less : (v : ℕ) → Has v → at.number v < bound
  number_less v has = let b = pool.below v has in let r = roomy in omega arith

  -- what is done with the word behind a pointer
  action_runs : (a : Action) (n p : ℕ) (h : List Op) → ProperAction at Has pool ids a → first ≤ n → p < n → n + action_size a ≤ bound → Typed h p id.to_word → Stands true n h → Takes n h true (n + action_size a) (action_ops at n p a)
  action_runs (Fetch x) n p h pr le lp lb y s =
      let sc = here n h s in
      let load = op.Load id.word_type n p in
      let ra = runs_making bound first start load n h refl refl le (load_fine bound h sc.setting wide n p id.to_word class.STORAGE_BUFFER (omega arith) (omega arith) (s.fresh n (omega arith)) y sc.setting.buffer_word) s in
      let rb = store_runs x n (n + 1) (load ∷ h) pr (omega arith) (typed_last h load n id.word_type refl refl) ra.stands in
      join n h true true (n + 1) (n + 1) (load ∷ []) _ ra (low (n + 1) n (n + 1) (load ∷ h) true _ (omega arith) rb)
  action_runs (Write v) n p h pr le lp lb y s =
      let gv = leaf_gives at Has pool ids bound start begin roomy v n h pr le lb s in
      let iv = id_below at Has pool ids v n le pr in
      let h' = after (leaf_ops at n v) h in
      let m = n + leaf_size v in
      let yp = typed_kept h h' p id.to_word (gv.runs.kept p lp) y in
      let sc = here m h' gv.runs.stands in
      let rs = runs_plainly bound first start (op.Store p (leaf_id at n v)) n m h' refl refl (buffer_target_fine bound h' p id.to_word id.word_type (omega arith) yp sc.setting.buffer_word sc.setting.word, (stored_fine bound h' p id.to_word class.STORAGE_BUFFER id.word_type (leaf_id at n v) (omega arith) yp sc.setting.buffer_word gv.typed, tt)) gv.runs.stands in
      join n h true true m m (leaf_ops at n v) _ gv.runs rs
  action_runs (Change o v x) n p h pr le lp lb y s =
      let gv = leaf_gives at Has pool ids bound start begin roomy v n h pr.0 le (omega arith) s in
      let iv = id_below at Has pool ids v n le pr.0 in
      let h' = after (leaf_ops at n v) h in
      let m = n + leaf_size v in
      let sm = gv.runs.stands in
      let yp = typed_kept h h' p id.to_word (gv.runs.kept p lp) y in
      let sc = here m h' sm in
      let change = op.Atomic o id.word_type m p (at.number 1) (at.number 0) (leaf_id at n v) in
      let ra = runs_making bound first start change m h' refl refl (omega arith)
      (word_type_fine bound h' sc.setting wide, (result_fine bound h' m (omega arith) (sm.fresh m (omega arith)), (shared_fine bound h' p id.to_word id.word_type (omega arith) yp sc.setting.buffer_word sc.setting.word, (constant_fine bound h' _ (at.number 1) id.word_type 1 (number_less 1 has_1) (sc.numbers 1 has_1) refl, (constant_fine bound h' _ (at.number 0) id.word_type 0 (number_less 0 has_0) (sc.numbers 0 has_0) refl, (value_fine bound h' (leaf_id at n v) id.word_type (omega arith) gv.typed, tt)))))) sm in
      let rb = store_runs x m (m + 1) (change ∷ h') pr.1 (omega arith) (typed_last h' change m id.word_type refl refl) ra.stands in
      let store = op.Store (variable at x) m ∷ [] in
      let j = join n h' true true (m + 1) (m + 1) (change ∷ []) store (low m n (m + 1) h' true _ (omega arith) ra) (low (m + 1) n (m + 1) (change ∷ h') true _ (omega arith) rb) in
      runs_more bound first start n n (m + 1) (n + (leaf_size v + 1)) h true (action_ops at n p (Change o v x)) (omega arith) (omega arith) (join n h true true m (m + 1) (leaf_ops at n v) (change ∷ store) gv.runs j)
  action_runs (Swap v c x) n p h pr le lp lb y s =
      let gv = leaf_gives at Has pool ids bound start begin roomy v n h pr.0 le (omega arith) s in
      let iv = id_below at Has pool ids v n le pr.0 in
      let h1 = after (leaf_ops at n v) h in
      let m = n + leaf_size v in
      let gc = leaf_gives at Has pool ids bound start begin roomy c m h1 pr.1 (omega arith) (omega arith) gv.runs.stands in
      let ic = id_below at Has pool ids c m (omega arith) pr.1 in
      let h' = after (leaf_ops at m c) h1 in
      let r = m + leaf_size c in
      let sr = gc.runs.stands in
      let yv = typed_kept h1 h' (leaf_id at n v) id.word_type (gc.runs.kept (leaf_id at n v) iv) gv.typed in
      let yp = typed_kept h h' p id.to_word (gc.runs.kept p (omega arith) ∙ gv.runs.kept p lp) y in
      let sc = here r h' sr in
      let swap = op.AtomicCompareExchange id.word_type r p (at.number setting.DEVICE_SCOPE) (at.number setting.RELAXED) (at.number setting.RELAXED) (leaf_id at n v) (leaf_id at m c) in
      let ra = runs_making bound first start swap r h' refl refl (omega arith)
      (word_type_fine bound h' sc.setting wide, (result_fine bound h' r (omega arith) (sr.fresh r (omega arith)), (shared_fine bound h' p id.to_word id.word_type (omega arith) yp sc.setting.buffer_word sc.setting.word, (constant_fine bound h' _ (at.number 1) id.word_type 1 (number_less 1 has_1) (sc.numbers 1 has_1) refl, (constant_fine bound h' _ (at.number 0) id.word_type 0 (number_less 0 has_0) (sc.numbers 0 has_0) refl, (constant_fine bound h' _ (at.number 0) id.word_type 0 (number_less 0 has_0) (sc.numbers 0 has_0) refl, (value_fine bound h' (leaf_id at n v) id.word_type (omega arith) yv, (value_fine bound h' (leaf_id at m c) id.word_type (omega arith) gc.typed, tt)))))))) sr in
      let rb = store_runs x r (r + 1) (swap ∷ h') pr.2 (omega arith) (typed_last h' swap r id.word_type refl refl) ra.stands in
      let store = op.Store (variable at x) r ∷ [] in
      let j = join n h' true true (r + 1) (r + 1) (swap ∷ []) store (low r n (r + 1) h' true _ (omega arith) ra) (low (r + 1) n (r + 1) (swap ∷ h') true _ (omega arith) rb) in
      let j2 = join n h1 true true r (r + 1) (leaf_ops at m c) (swap ∷ store) (low m n r h1 true _ (omega arith) gc.runs) j in
      runs_more bound first start n n (r + 1) (n + (leaf_size v + leaf_size c + 1)) h true (action_ops at n p (Swap v c x)) (omega arith) (omega arith) (join n h true true m (r + 1) (leaf_ops at n v) (leaf_ops at m c ++ (swap ∷ store)) gv.runs j2)

  reach_runs : (n b : ℕ) (c : Calculation) (a : Action) (l : ℕ) (h : List Op) → b < bindings → Proper at Has pool ids c id.word_type → ProperAction at Has pool ids a → first ≤ n → n + calculation_size c + 1 + action_size a ≤ bound → l < n → maker l h ≡ None → Stands true n h → Takes n h false (n + calculation_size c + 1 + action_size a) (reach_ops at n b c a l)
  reach_runs n b c a l h lb pi pa le lim ll ul s =
      let p = n + calculation_size c in
      let code = calculation_ops at n c in
      let gi = calculation_gives at Has pool ids bound start begin roomy c id.word_type n h pi.0 pi.1 le (omega arith) s in
      let ii = gi.below in
      let g1 = after code h in
      let s1 = gi.runs.stands in
      let b0 = pool.below 0 has_0 in
      let r0 = pool.behind in
      let chain = op.AccessChain id.to_word p (id.buffer_at b) (at.number 0 ∷ calculation_id at n c ∷ []) in
      let sc = here p g1 s1 in
      let rc = runs_making bound first start chain p g1 refl refl (omega arith) (element_fine bound g1 sc.setting wide p b (at.number 0) (calculation_id at n c) (omega arith) (omega arith) (omega arith) (s1.fresh p (omega arith)) lb (sc.numbers 0 has_0) gi.typed) s1 in
      let g2 = chain ∷ g1 in
      let ra = action_runs a (p + 1) p g2 pa (omega arith) (omega arith) (omega arith) (typed_last g1 chain p id.to_word refl refl) rc.stands in
      let g3 = after (action_ops at (p + 1) p a) g2 in
      let u3 = ra.kept l (omega arith) ∙ rc.kept l (omega arith) ∙ gi.runs.kept l ll ∙ ul in
      let m = p + 1 + action_size a in
      let rb = runs_branch bound first start l n m g3 (omega arith) u3 ra.stands in
      let j1 = join n g2 true false m m (action_ops at (p + 1) p a) (op.Branch l ∷ []) (low (p + 1) n m g2 true _ (omega arith) ra) rb in
      let j2 = join n g1 true false (p + 1) m (chain ∷ []) _ (low p n (p + 1) g1 true _ (omega arith) rc) j1 in
      join n h true false p m code _ gi.runs j2

  -- 0 into a variable, and a branch
  cleared_runs : (x n l : ℕ) (h : List Op) → x < at.variables → l < bound → maker l h ≡ None → Stands true n h → Takes n h false n (op.Store (variable at x) (at.number 0) ∷ op.Branch l ∷ [])
  cleared_runs x n l h lx lb ul s =
      let y : Typed h (at.number 0) id.word_type = record { by = op.Constant id.word_type (at.number 0) 0; is = (here n h s).numbers 0 has_0; type_is = refl } in
      let store = op.Store (variable at x) (at.number 0) in
      let rs = store_runs x (at.number 0) n h lx (number_less 0 has_0) y s in
      join n h true false n n (store ∷ []) (op.Branch l ∷ []) rs (runs_branch bound first start l n n (store ∷ h) lb ul rs.stands)

  missed_runs : (a : Action) (n l : ℕ) (h : List Op) → ProperAction at Has pool ids a → l < bound → maker l h ≡ None → Stands true n h → Takes n h false n (missed_ops at a ++ (op.Branch l ∷ []))
  missed_runs (Write v) n l h pa lb ul s = runs_branch bound first start l n n h lb ul s
  missed_runs (Fetch x) n l h pa lb ul s = cleared_runs x n l h pa lb ul s
  missed_runs (Change o v x) n l h pa lb ul s = cleared_runs x n l h pa.1 lb ul s
  missed_runs (Swap v c x) n l h pa lb ul s = cleared_runs x n l h pa.2 lb ul s

  pub piece_runs : (p : Piece) (n : ℕ) (h : List Op) → ProperPiece at Has pool ids p → first ≤ n → piece_end n p ≤ bound → Stands true n h → Takes n h true (piece_end n p) (piece_ops at n p)
  piece_runs (Assign x c) n h pp le lb s = assign_runs x c n h pp.0 pp.1 le lb s
  piece_runs (Reach g b c a) n h pp le lb s =
      let l = n + calculation_size g in
      let n1 = l + 3 + calculation_size c + 1 + action_size a in
      choice_runs g n h (reach_ops at (l + 3) b c a (l + 2)) (missed_ops at a ++ (op.Branch (l + 2) ∷ [])) n1 n1 pp.0 le (omega arith) (omega arith) lb s
      (λ k kept u sk. reach_runs (l + 3) b c a (l + 2) k pp.1 pp.2 pp.3 (omega arith) lb (omega arith) u sk)
      (λ k kept u sk. missed_runs a n1 (l + 2) k pp.3 (omega arith) u sk)

  pub pieces_run : (ps : List Piece) (n : ℕ) (h : List Op) → ProperPieces at Has pool ids ps → first ≤ n → pieces_end n ps ≤ bound → Stands true n h → Takes n h true (pieces_end n ps) (pieces_ops at n ps)
  pieces_run [] n h pp le lb s = runs_none bound first start n h true n s
  pieces_run (p ∷ ps) n h pp le lb s =
      let m = piece_end n p in
      let g = piece_grows at p n in
      let gs = pieces_grow at ps m in
      let code = piece_ops at n p in
      let one = piece_runs p n h pp.0 le (omega arith) s in
      let more = pieces_run ps m (after code h) pp.1 (omega arith) lb one.stands in
      join n h true true m (pieces_end m ps) code (pieces_ops at m ps) one (low m n (pieces_end m ps) (after code h) true (pieces_ops at m ps) g more)
