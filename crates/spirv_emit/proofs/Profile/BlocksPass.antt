-- The code of loops, leaves and whole blocks is taken.
use Rattle.std.proofs.Common.{◌≡◌, ℕ, ◌+◌, ◌<◌, ◌≤◌, Bool, true, false, List, [], ◌∷◌, ◌++◌, Option, Some, None, refl, ◌∙◌, arith}
use Rattle.shader_model.specs.declared.ids.Ids.{Ids}
use Rattle.shader_model.specs.declared.tree.Declared.{Declared}
use Rattle.shader_model.specs.declared.tree.Test.{Test}
use Rattle.shader_model.specs.Body.{Body, End, Plain, If, Loop, Break, Continue, Return}
use Rattle.spirv_model.specs.declared.settings.TheConstants as setting
use Rattle.spirv_model.specs.Op.{Op}
use Rattle.spirv_model.specs.Op as op
use Rattle.spirv_model.specs.History.{maker, after}
use Rattle.spirv_emit.specs.declared.piece.Calculation.{Calculation}
use Rattle.spirv_emit.specs.Layout as id
use Rattle.spirv_emit.specs.Layout.{Layout, first_code}
use Rattle.spirv_emit.specs.Lower.{turns, instr_pieces, test_pieces, test_calculation}
use Rattle.spirv_emit.specs.Code.{calculation_size, choice_ops, assign_ops, pieces_ops, pieces_end, choice_end, turns_are_out, one_turn_less, inner_start, loop_ops, leave_ops, test_start, test_end, body_end, leave_by, choose_by, behind_test, body_ops}
use Rattle.spirv_emit.proofs.Words.LabelRanges.{pieces_grow, test_grows, body_grows}
use Rattle.spirv_emit.proofs.Meaning.HeldFrames.{Pool}
use Rattle.spirv_emit.proofs.Profile.InstructionsPass.{maker_here, maker_other, branched_after, branched_here}
use Rattle.spirv_emit.proofs.Profile.CodePlaces.{Standing, Runs, standing_more, runs_branch, runs_back, runs_return, runs_label, runs_front}
use Rattle.spirv_emit.proofs.Profile.Scope.{Scope}
use Rattle.spirv_emit.proofs.Profile.ChoicesPass as choosing
use Rattle.spirv_emit.proofs.Profile.ChoicesPass.{Proper, ProperPieces, choice_runs, assign_runs, pieces_run}

-- ## What blocks name

module _ (at : Layout) (Has : ℕ → Type 0) (pool : Pool at Has) (ids : Ids) (ds : List Declared) where
  abbrev pub ProperTest : Test → Type 0
  ProperTest t = ProperPieces at Has pool ids (test_pieces t) × Proper at Has pool ids (test_calculation t) id.truth_type

  abbrev pub MaybeProper : Option Test → Type 0
  MaybeProper None = Unit {0}
  MaybeProper (Some t) = ProperTest t

  -- the pieces of all instructions and tests are proper
  abbrev pub ProperBody : Body → Type 0
  ProperBody End = Unit {0}
  ProperBody (Plain i rest) = ProperPieces at Has pool ids (instr_pieces ds i) × ProperBody rest
  ProperBody (If t first second rest) = ProperTest t × ProperBody first × ProperBody second × ProperBody rest
  ProperBody (Loop inner rest) = ProperBody inner × ProperBody rest
  ProperBody (Break t rest) = MaybeProper t × ProperBody rest
  ProperBody (Continue t rest) = MaybeProper t × ProperBody rest
  ProperBody (Return t rest) = MaybeProper t × ProperBody rest

-- ## Their code

module _ (at : Layout) (Has : ℕ → Type 0) (pool : Pool at Has) (ids : Ids) (bound : ℕ) (start : List Op) (begin : Scope at Has start) (roomy : first_code at ≤ bound) where
  abbrev first : ℕ
  first = first_code at

  abbrev Stands : Bool → ℕ → List Op → Type 0
  Stands opened n h = Standing bound first start opened n h

  abbrev Takes : (lo : ℕ) (h : List Op) (opened : Bool) (n : ℕ) (code : List Op) → Type 0
  Takes lo h opened n code = Runs bound first start lo h opened n code

  join : (lo : ℕ) (h : List Op) (o1 o2 : Bool) (n1 n2 : ℕ) (a b : List Op) → Takes lo h o1 n1 a → Takes lo (after a h) o2 n2 b → Takes lo h o2 n2 (a ++ b)
  join lo h o1 o2 n1 n2 a b ra rb = choosing.join at Has pool ids bound start begin roomy lo h o1 o2 n1 n2 a b ra rb

  low : (lo lo' n : ℕ) (h : List Op) (opened : Bool) (code : List Op) → lo' ≤ lo → Takes lo h opened n code → Takes lo' h opened n code
  low lo lo' n h opened code le r = choosing.low at Has pool ids bound start begin roomy lo lo' n h opened code le r

  -- leaves where the test holds, by one instruction that ends a block
  leave_runs : (c : Calculation) (n : ℕ) (h : List Op) (out : Op) → Proper at Has pool ids c id.truth_type → first ≤ n → n + calculation_size c + 3 ≤ bound → Stands true n h
      → ((g : List Op) → ((x : ℕ) → x < n → maker x g ≡ maker x h) → Stands true (n + calculation_size c + 3) g → Takes (n + calculation_size c + 3) g false (n + calculation_size c + 3) (out ∷ []))
      → Takes n h true (choice_end n c) (leave_ops at n c out)
  leave_runs c n h out p le lb s ro =
      let l = n + calculation_size c in
      choice_runs at Has pool ids bound start begin roomy c n h (out ∷ []) (op.Branch (l + 2) ∷ []) (l + 3) (l + 3) p le (omega arith) (omega arith) lb s
      (λ g kept u sg. ro g kept sg)
      (λ g kept u sg. runs_branch bound first start (l + 2) (l + 3) (l + 3) g (omega arith) u sg)

  has_0 : Has 0
  has_0 = pool.bindings_have 0 (omega arith)

  has_1 : Has 1
  has_1 = pool.bindings_have 1 (omega arith)

  out_proper : turns < at.variables → Proper at Has pool ids turns_are_out id.truth_type
  out_proper lt = (record { five = refl; leaves_fit = (lt, (has_0, (has_0, (has_0, (has_0, tt))))); steps_fit = ((omega arith, has_0), tt) }, refl)

  less_proper : turns < at.variables → Proper at Has pool ids one_turn_less id.word_type
  less_proper lt = (record { five = refl; leaves_fit = (lt, (has_0, (has_0, (has_0, (has_0, tt))))); steps_fit = ((omega arith, has_1), tt) }, refl)

  -- a loop, whose body ends its block, with the labels behind it and of its next turn still to come
  loop_runs : turns < at.variables → (n : ℕ) (h : List Op) (inner : List Op) (n7 : ℕ) → first ≤ n → inner_start n ≤ n7 → n7 ≤ bound → Stands true n h
      → ((g : List Op) → ((x : ℕ) → x < n → maker x g ≡ maker x h) → maker (n + 1) g ≡ None → maker (n + 2) g ≡ None → Stands true (inner_start n) g → Takes (inner_start n) g false n7 inner)
      → Takes n h true n7 (loop_ops at n inner)
  loop_runs lt n h inner n7 le l7 lb s ri =
      let first_jump = op.Branch n ∷ [] in
      let r1 = runs_branch bound first start n n (n + 4) h (omega arith) (s.fresh n (omega arith)) (standing_more bound first start true n (n + 4) h (omega arith) s) in
      let h1 = after first_jump h in
      let front = op.Label n in
      let r2 = runs_label bound first start n (n + 4) (n + 4) h1 (omega arith) (s.fresh n (omega arith)) (omega arith) (omega arith) (omega arith) r1.stands in
      let h2 = front ∷ h1 in
      let a1 = maker_other (n + 1) n front h1 refl (λ e. absurd (omega arith)) ∙ s.fresh (n + 1) (omega arith) in
      let a2 = maker_other (n + 2) n front h1 refl (λ e. absurd (omega arith)) ∙ s.fresh (n + 2) (omega arith) in
      let a3 = maker_other (n + 3) n front h1 refl (λ e. absurd (omega arith)) ∙ s.fresh (n + 3) (omega arith) in
      let merge = op.LoopMerge (n + 1) (n + 2) setting.NO_CONTROL ∷ op.Branch (n + 3) ∷ [] in
      let r3 = runs_front bound first start (n + 1) (n + 2) (n + 3) n (n + 4) h2 (omega arith) (omega arith) (omega arith) a1 a2 a3 r2.stands in
      let h3 = after merge h2 in
      let enter = op.Label (n + 3) in
      let r4 = runs_label bound first start (n + 3) (n + 4) (n + 4) h3 (omega arith) a3 (omega arith) (omega arith) (omega arith) r3.stands in
      let h4 = enter ∷ h3 in
      let m = n + 4 + calculation_size turns_are_out in
      let test = choice_ops at (n + 4) turns_are_out (op.Return ∷ []) (op.Branch (m + 2) ∷ []) in
      let r5 = choice_runs at Has pool ids bound start begin roomy turns_are_out (n + 4) h4 (op.Return ∷ []) (op.Branch (m + 2) ∷ []) (m + 3) (m + 3) (out_proper lt) (omega arith) (omega arith) (omega arith) (omega arith) r4.stands
      (λ g kept u sg. runs_return bound first start (m + 3) (m + 3) g sg)
      (λ g kept u sg. runs_branch bound first start (m + 2) (m + 3) (m + 3) g (omega arith) u sg) in
      let h5 = after test h4 in
      let count = assign_ops at (m + 3) turns one_turn_less in
      let r6 = assign_runs at Has pool ids bound start begin roomy turns one_turn_less (m + 3) h5 lt (less_proper lt) (omega arith) (omega arith) r5.stands in
      let h6 = after count h5 in
      -- what the head made is kept up to here
      let kept6 : (x : ℕ) → x < n + 4 → maker x h6 ≡ maker x h4 = λ x k. r6.kept x (omega arith) ∙ r5.kept x k in
      let keptn : (x : ℕ) → x < n → maker x h6 ≡ maker x h = λ x k. kept6 x (omega arith) ∙ r4.kept x (omega arith) ∙ r2.kept x k in
      let b1 = kept6 (n + 1) (omega arith) ∙ maker_other (n + 1) (n + 3) enter h3 refl (λ e. absurd (omega arith)) ∙ a1 in
      let b2 = kept6 (n + 2) (omega arith) ∙ maker_other (n + 2) (n + 3) enter h3 refl (λ e. absurd (omega arith)) ∙ a2 in
      let b0 = kept6 n (omega arith) ∙ maker_other n (n + 3) enter h3 refl (λ e. absurd (omega arith)) ∙ maker_here n front h1 refl in
      let r7 = ri h6 keptn b1 b2 r6.stands in
      let h7 = after inner h6 in
      let next = op.Label (n + 2) in
      let r8 = runs_label bound first start (n + 2) n7 n7 h7 (omega arith) (r7.kept (n + 2) (omega arith) ∙ b2) (omega arith) (omega arith) (omega arith) r7.stands in
      let h8 = next ∷ h7 in
      let c0 = maker_other n (n + 2) next h7 refl (λ e. absurd (omega arith)) ∙ r7.kept n (omega arith) ∙ b0 in
      let c1 = maker_other (n + 1) (n + 2) next h7 refl (λ e. absurd (omega arith)) ∙ r7.kept (n + 1) (omega arith) ∙ b1 in
      let jumped = branched_after n (next ∷ []) h7 (branched_after n inner h6 (branched_after n count h5 (branched_after n test h4 (branched_after n (front ∷ op.LoopMerge (n + 1) (n + 2) setting.NO_CONTROL ∷ op.Branch (n + 3) ∷ enter ∷ []) h1 (branched_here n h))))) in
      let r9 = runs_back bound first start n n n7 h8 (omega arith) c0 jumped r8.stands in
      let h9 = op.Branch n ∷ h8 in
      let behind = op.Label (n + 1) ∷ [] in
      let r10 = runs_label bound first start (n + 1) n7 n7 h9 (omega arith) c1 (omega arith) (omega arith) (omega arith) r9.stands in
      let tail9 = op.Branch n ∷ behind in
      let tail8 = next ∷ tail9 in
      let j9 = join n h8 false true n7 n7 (op.Branch n ∷ []) behind r9 (low (n + 1) n n7 h9 true behind (omega arith) r10) in
      let j8 = join n h7 true true n7 n7 (next ∷ []) tail9 (low (n + 2) n n7 h7 true (next ∷ []) (omega arith) r8) j9 in
      let j7 = join n h6 false true n7 n7 inner tail8 (low (inner_start n) n n7 h6 false inner (omega arith) r7) j8 in
      let j6 = join n h5 true true (inner_start n) n7 count (inner ++ tail8) (low (m + 3) n (inner_start n) h5 true count (omega arith) r6) j7 in
      let j5 = join n h4 true true (m + 3) n7 test (count ++ (inner ++ tail8)) (low (n + 4) n (m + 3) h4 true test (omega arith) r5) j6 in
      let rest4 = test ++ (count ++ (inner ++ tail8)) in
      let j4 = join n h3 true true (n + 4) n7 (enter ∷ []) rest4 (low (n + 3) n (n + 4) h3 true (enter ∷ []) (omega arith) r4) j5 in
      let j3 = join n h2 false true (n + 4) n7 merge (enter ∷ rest4) r3 j4 in
      let j2 = join n h1 true true (n + 4) n7 (front ∷ []) (merge ++ (enter ∷ rest4)) r2 j3 in
      join n h false true (n + 4) n7 first_jump (front ∷ (merge ++ (enter ∷ rest4))) r1 j2

  module _ (ds : List Declared) where
    -- a leave with a test, behind what the test takes
    leave_by_runs : (t : Test) (n : ℕ) (h : List Op) (out : Op) → ProperTest at Has pool ids ds t → first ≤ n → test_end ds n t ≤ bound → Stands true n h
        → ((g : List Op) (m : ℕ) → n ≤ m → ((x : ℕ) → x < n → maker x g ≡ maker x h) → Stands true m g → Takes m g false m (out ∷ []))
        → Takes n h true (test_end ds n t) (leave_by ds at n t out)
    leave_by_runs t n h out p le lb s ro =
        let m = test_start ds n t in
        let grows = test_grows at ds n t in
        let ps = pieces_ops at n (test_pieces t) in
        let c = test_calculation t in
        let rp = pieces_run at Has pool ids bound start begin roomy (test_pieces t) n h p.0 le (omega arith) s in
        let h1 = after ps h in
        let rl = leave_runs c m h1 out p.1 (omega arith) lb rp.stands (λ g kept sg. ro g (m + calculation_size c + 3) (omega arith) (λ x k. kept x (omega arith) ∙ rp.kept x k) sg) in
        join n h true true m (test_end ds n t) ps (leave_ops at m c out) rp (low m n (test_end ds n t) h1 true (leave_ops at m c out) grows rl)

    -- a choice between two blocks
    choose_by_runs : (t : Test) (n : ℕ) (h a b : List Op) (n1 n2 : ℕ) → ProperTest at Has pool ids ds t → first ≤ n → test_end ds n t ≤ n1 → n1 ≤ n2 → n2 ≤ bound → Stands true n h
        → ((g : List Op) → ((x : ℕ) → x < n → maker x g ≡ maker x h) → maker (behind_test ds at n t) g ≡ None → Stands true (test_end ds n t) g → Takes (test_end ds n t) g false n1 a)
        → ((g : List Op) → ((x : ℕ) → x < n → maker x g ≡ maker x h) → maker (behind_test ds at n t) g ≡ None → Stands true n1 g → Takes n1 g false n2 b)
        → Takes n h true n2 (choose_by ds at n t a b)
    choose_by_runs t n h a b n1 n2 p le l1 l2 lb s ra rb =
        let m = test_start ds n t in
        let grows = test_grows at ds n t in
        let ps = pieces_ops at n (test_pieces t) in
        let c = test_calculation t in
        let rp = pieces_run at Has pool ids bound start begin roomy (test_pieces t) n h p.0 le (omega arith) s in
        let h1 = after ps h in
        let rc = choice_runs at Has pool ids bound start begin roomy c m h1 a b n1 n2 p.1 (omega arith) l1 l2 lb rp.stands
        (λ g kept u sg. ra g (λ x k. kept x (omega arith) ∙ rp.kept x k) u sg)
        (λ g kept u sg. rb g (λ x k. kept x (omega arith) ∙ rp.kept x k) u sg) in
        join n h true true m n2 ps (choice_ops at m c a b) rp (low m n n2 h1 true (choice_ops at m c a b) grows rc)

    -- Every block's code is taken: it ends its block, and makes no id below the first that was free.
    pub body_runs : turns < at.variables → (x : Body) (n k b c : ℕ) (h : List Op) → ProperBody at Has pool ids ds x → first ≤ n → k < n → b < n → c < n → body_end ds x n ≤ bound → maker k h ≡ None → maker b h ≡ None → maker c h ≡ None → Stands true n h → Takes n h false (body_end ds x n) (body_ops ds at x n k b c)
    body_runs lt End n k b c h p le lk lb lc lim uk ub uc s = runs_branch bound first start k n n h (omega arith) uk s
    body_runs lt (Plain i rest) n k b c h p le lk lb lc lim uk ub uc s =
        let q = instr_pieces ds i in
        let m = pieces_end n q in
        let gm = pieces_grow at q n in
        let gr = body_grows at ds rest m in
        let code = pieces_ops at n q in
        let rq = pieces_run at Has pool ids bound start begin roomy q n h p.0 le (omega arith) s in
        let h' = after code h in
        let rr = body_runs lt rest m k b c h' p.1 (omega arith) (omega arith) (omega arith) (omega arith) lim (rq.kept k lk ∙ uk) (rq.kept b lb ∙ ub) (rq.kept c lc ∙ uc) rq.stands in
        join n h true false m (body_end ds rest m) code (body_ops ds at rest m k b c) rq (low m n _ h' false _ gm rr)
    body_runs lt (If t x y rest) n k b c h p le lk lb lc lim uk ub uc s =
        let g0 = test_grows at ds n t in
        let l = behind_test ds at n t in
        let n0 = test_end ds n t in
        let n1 = body_end ds x n0 in
        let n2 = body_end ds y n1 in
        let g1 = body_grows at ds x n0 in
        let g2 = body_grows at ds y n1 in
        let g3 = body_grows at ds rest n2 in
        let code = choose_by ds at n t (body_ops ds at x n0 l b c) (body_ops ds at y n1 l b c) in
        let ri = choose_by_runs t n h (body_ops ds at x n0 l b c) (body_ops ds at y n1 l b c) n1 n2 p.0 le (omega arith) (omega arith) (omega arith) s
        (λ g kept u sg. body_runs lt x n0 l b c g p.1 (omega arith) (omega arith) (omega arith) (omega arith) (omega arith) u (kept b lb ∙ ub) (kept c lc ∙ uc) sg)
        (λ g kept u sg. body_runs lt y n1 l b c g p.2 (omega arith) (omega arith) (omega arith) (omega arith) (omega arith) u (kept b lb ∙ ub) (kept c lc ∙ uc) sg) in
        let h' = after code h in
        let rr = body_runs lt rest n2 k b c h' p.3 (omega arith) (omega arith) (omega arith) (omega arith) lim (ri.kept k lk ∙ uk) (ri.kept b lb ∙ ub) (ri.kept c lc ∙ uc) ri.stands in
        join n h true false n2 (body_end ds rest n2) code (body_ops ds at rest n2 k b c) ri (low n2 n _ h' false _ (omega arith) rr)
    body_runs lt (Loop inner rest) n k b c h p le lk lb lc lim uk ub uc s =
        let n0 = inner_start n in
        let n1 = body_end ds inner n0 in
        let g1 = body_grows at ds inner n0 in
        let g2 = body_grows at ds rest n1 in
        let body = body_ops ds at inner n0 (n + 2) (n + 1) (n + 2) in
        let rl = loop_runs lt n h body n1 le g1 (omega arith) s
        (λ g kept u1 u2 sg. body_runs lt inner n0 (n + 2) (n + 1) (n + 2) g p.0 (omega arith) (omega arith) (omega arith) (omega arith) (omega arith) u2 u1 u2 sg) in
        let code = loop_ops at n body in
        let h' = after code h in
        let rr = body_runs lt rest n1 k b c h' p.1 (omega arith) (omega arith) (omega arith) (omega arith) lim (rl.kept k lk ∙ uk) (rl.kept b lb ∙ ub) (rl.kept c lc ∙ uc) rl.stands in
        join n h true false n1 (body_end ds rest n1) code (body_ops ds at rest n1 k b c) rl (low n1 n _ h' false _ (omega arith) rr)
    body_runs lt (Break None rest) n k b c h p le lk lb lc lim uk ub uc s = runs_branch bound first start b n n h (omega arith) ub s
    body_runs lt (Continue None rest) n k b c h p le lk lb lc lim uk ub uc s = runs_branch bound first start c n n h (omega arith) uc s
    body_runs lt (Return None rest) n k b c h p le lk lb lc lim uk ub uc s = runs_return bound first start n n h s
    body_runs lt (Break (Some t) rest) n k b c h p le lk lb lc lim uk ub uc s =
        let g0 = test_grows at ds n t in
        let m = test_end ds n t in
        let grows = body_grows at ds rest m in
        let code = leave_by ds at n t (op.Branch b) in
        let rl = leave_by_runs t n h (op.Branch b) p.0 le (omega arith) s (λ g z lz kept sg. runs_branch bound first start b z z g (omega arith) (kept b lb ∙ ub) sg) in
        let h' = after code h in
        let rr = body_runs lt rest m k b c h' p.1 (omega arith) (omega arith) (omega arith) (omega arith) lim (rl.kept k lk ∙ uk) (rl.kept b lb ∙ ub) (rl.kept c lc ∙ uc) rl.stands in
        join n h true false m (body_end ds rest m) code (body_ops ds at rest m k b c) rl (low m n _ h' false _ (omega arith) rr)
    body_runs lt (Continue (Some t) rest) n k b c h p le lk lb lc lim uk ub uc s =
        let g0 = test_grows at ds n t in
        let m = test_end ds n t in
        let grows = body_grows at ds rest m in
        let code = leave_by ds at n t (op.Branch c) in
        let rl = leave_by_runs t n h (op.Branch c) p.0 le (omega arith) s (λ g z lz kept sg. runs_branch bound first start c z z g (omega arith) (kept c lc ∙ uc) sg) in
        let h' = after code h in
        let rr = body_runs lt rest m k b c h' p.1 (omega arith) (omega arith) (omega arith) (omega arith) lim (rl.kept k lk ∙ uk) (rl.kept b lb ∙ ub) (rl.kept c lc ∙ uc) rl.stands in
        join n h true false m (body_end ds rest m) code (body_ops ds at rest m k b c) rl (low m n _ h' false _ (omega arith) rr)
    body_runs lt (Return (Some t) rest) n k b c h p le lk lb lc lim uk ub uc s =
        let g0 = test_grows at ds n t in
        let m = test_end ds n t in
        let grows = body_grows at ds rest m in
        let code = leave_by ds at n t op.Return in
        let rl = leave_by_runs t n h op.Return p.0 le (omega arith) s (λ g z lz kept sg. runs_return bound first start z z g sg) in
        let h' = after code h in
        let rr = body_runs lt rest m k b c h' p.1 (omega arith) (omega arith) (omega arith) (omega arith) lim (rl.kept k lk ∙ uk) (rl.kept b lb ∙ ub) (rl.kept c lc ∙ uc) rl.stands in
        join n h true false m (body_end ds rest m) code (body_ops ds at rest m k b c) rl (low m n _ h' false _ (omega arith) rr)
