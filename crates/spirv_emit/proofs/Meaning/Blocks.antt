-- The code of a block follows the block, where the pieces of each instruction and test do what these do.
use Rattle.std.proofs.Common.{◌≡◌, ℕ, zero, suc, ◌+◌, ◌*◌, ◌<◌, ◌≤◌, Bool, true, false, if◌then◌else◌, List, [], ◌∷◌, ◌++◌, length, Option, Some, None, refl, ap, ◌∙◌, subst, arith, append_assoc, length-append}
use Rattle.shader_model.specs.declared.ids.Ids.{Ids}
use Rattle.shader_model.specs.declared.tree.Declared.{Declared}
use Rattle.shader_model.specs.declared.tree.Instr.{Instr}
use Rattle.shader_model.specs.declared.tree.Test.{Test}
use Rattle.shader_model.specs.Body.{Body, End, Plain, If, Loop, Break, Continue, Return}
use Rattle.shader_model.specs.Invocation.{Slots, State, Flow, Falls, Breaks, Continues, Ends, done, holds, holds_maybe, then_do, next_turn, entered, looped, meaning}
use Rattle.spirv_model.specs.Op.{Op}
use Rattle.spirv_model.specs.Op as op
use Rattle.spirv_model.specs.Meaning.Values.{Truth}
use Rattle.spirv_model.specs.Meaning.Memory.{Memory}
use Rattle.spirv_model.specs.Meaning.ModuleMeaning.{after_label, runs}
use Rattle.spirv_emit.specs.Lower.{instr_pieces, test_pieces, test_calculation}
use Rattle.spirv_emit.specs.Layout.{Layout, first_code}
use Rattle.spirv_emit.specs.Code.{choice_ops, pieces_ops, pieces_end, inner_start, loop_ops, test_start, test_end, body_end, leave_by, choose_by, behind_test, body_ops}
use Rattle.spirv_emit.specs.Frames.{Frame, calculated, pieces_done}
use Rattle.spirv_emit.proofs.Meaning.LabelPlaces.{Within, At, at_after, at_same}
use Rattle.spirv_emit.proofs.Words.LabelRanges.{pieces_grow, pieces_within, test_grows, body_grows, body_within}
use Rattle.spirv_emit.proofs.Meaning.HeldFrames.{Pool}
use Rattle.spirv_emit.proofs.Meaning.Calculations.{CalculationFits}
use Rattle.spirv_emit.proofs.Meaning.Choices.{choice_placed, choice_length}
use Rattle.spirv_emit.proofs.Meaning.Pieces.{PiecesFit, pieces_run}
use Rattle.spirv_emit.proofs.Meaning.CodeStretches.{Shows, Stands, Follows, follows_after, follows_then, branch_reaches, ends_at, choice_follows}
use Rattle.spirv_emit.proofs.Meaning.Loops.{Fewer, loop_placed, loop_length, Looks, looped_follows}

-- ## No run gains turns

fewer_less : (t u : ℕ) (flow : Flow) → t ≤ u → Fewer t flow → Fewer u flow
fewer_less t u (Falls s) le h = omega arith
fewer_less t u (Breaks s) le h = omega arith
fewer_less t u (Continues s) le h = omega arith
fewer_less t u (Ends s) le h = omega arith

fewer_then : (t : ℕ) (flow : Flow) (go : State → Flow) → Fewer t flow → ((s : State) → Fewer s.turns (go s)) → Fewer t (then_do flow go)
fewer_then t (Falls s) go h next = fewer_less s.turns t (go s) h (next s)
fewer_then t (Breaks s) go h next = h
fewer_then t (Continues s) go h next = h
fewer_then t (Ends s) go h next = h

fewer_next : (t : ℕ) (flow : Flow) (go : State → Flow) → Fewer t flow → ((s : State) → Fewer s.turns (go s)) → Fewer t (next_turn flow go)
fewer_next t (Falls s) go h next = fewer_less s.turns t (go s) h (next s)
fewer_next t (Breaks s) go h next = h
fewer_next t (Continues s) go h next = fewer_less s.turns t (go s) h (next s)
fewer_next t (Ends s) go h next = h

fewer_if : (c : Bool) (t : ℕ) (x y : Flow) → Fewer t x → Fewer t y → Fewer t (if c then x else y)
fewer_if true t x y p q = p
fewer_if false t x y p q = q

fewer_entered : (t : ℕ) (s : State) (go : State → Flow) → s.turns ≡ t → ((s' : State) → Fewer s'.turns (go s')) → Fewer t (entered t s go)
fewer_entered zero s go e next = omega arith
fewer_entered (suc t) s go e next = fewer_less t (suc t) (go (record s { turns = t })) (omega arith) (next (record s { turns = t }))

fewer_looped : (k : ℕ) (inner : State → Flow) (s : State) → ((s' : State) → Fewer s'.turns (inner s')) → Fewer s.turns (looped k inner s)
fewer_looped zero inner s h = omega arith
fewer_looped (suc k) inner s h =
    fewer_entered s.turns s _ refl (λ s'. fewer_next s'.turns (inner s') (looped k inner) (h s') (λ s2. fewer_looped k inner s2 h))

left_then : (c : Bool) (out : Flow) (s : State) (go : State → Flow) → then_do out go ≡ out → then_do (if c then out else Falls s) go ≡ (if c then out else go s)
left_then true out s go e = e
left_then false out s go e = refl

module _ (at : Layout) (Has : ℕ → Type 0) (pool : Pool at Has) (ids : Ids) (temps : ℕ) (ds : List Declared) where
  -- what the pieces of an instruction do to a frame
  pub record InstrDoes (i : Instr) (f : Frame) (s : State) : Type 0 where
    pub frame : Frame
    pub fits : PiecesFit at Has pool ids (instr_pieces ds i)
    pub does : pieces_done ids (instr_pieces ds i) f ≡ Some frame
    pub shows : Shows temps frame (done ds ids i s)
    pub turns : (done ds ids i s).turns ≡ s.turns

  -- and those of a test, with its outcome
  pub record TestDoes (t : Test) (f : Frame) (s : State) : Type 0 where
    pub frame : Frame
    pub fits : PiecesFit at Has pool ids (test_pieces t)
    pub does : pieces_done ids (test_pieces t) f ≡ Some frame
    pub shows : Shows temps frame s
    pub calculation : CalculationFits at Has pool ids (test_calculation t)
    pub outcome : calculated ids frame (test_calculation t) ≡ Some (Truth (holds ids t s))

  -- each instruction and test of a block does so
  abbrev pub TestsDo : Test → Type 0
  TestsDo t = (f : Frame) (s : State) → Shows temps f s → TestDoes t f s

  abbrev pub MaybeTestsDo : Option Test → Type 0
  MaybeTestsDo None = Unit {0}
  MaybeTestsDo (Some t) = TestsDo t

  abbrev pub BodyDoes : Body → Type 0
  BodyDoes End = Unit {0}
  BodyDoes (Plain i rest) = ((f : Frame) (s : State) → Shows temps f s → InstrDoes i f s) × ((s : State) → (done ds ids i s).turns ≡ s.turns) × BodyDoes rest
  BodyDoes (If t a b rest) = TestsDo t × BodyDoes a × BodyDoes b × BodyDoes rest
  BodyDoes (Loop inner rest) = BodyDoes inner × BodyDoes rest
  BodyDoes (Break t rest) = MaybeTestsDo t × BodyDoes rest
  BodyDoes (Continue t rest) = MaybeTestsDo t × BodyDoes rest
  BodyDoes (Return t rest) = MaybeTestsDo t × BodyDoes rest

  fewer : (b : Body) → BodyDoes b → (s : State) → Fewer s.turns (meaning ds ids b s)
  fewer End ok s = omega arith
  fewer (Plain i rest) ok s = subst (λ t. Fewer t (meaning ds ids rest (done ds ids i s))) (ok.1 s) (fewer rest ok.2 (done ds ids i s))
  fewer (If t x y rest) ok s = fewer_then s.turns _ (meaning ds ids rest) (fewer_if (holds ids t s) s.turns _ _ (fewer x ok.1 s) (fewer y ok.2 s)) (λ s'. fewer rest ok.3 s')
  fewer (Loop inner rest) ok s = fewer_then s.turns _ (meaning ds ids rest) (fewer_looped s.turns (meaning ds ids inner) s (λ s'. fewer inner ok.0 s')) (λ s'. fewer rest ok.1 s')
  fewer (Break t rest) ok s = fewer_if (holds_maybe ids t s) s.turns _ _ (let z : s.turns ≤ s.turns = omega arith in z) (fewer rest ok.1 s)
  fewer (Continue t rest) ok s = fewer_if (holds_maybe ids t s) s.turns _ _ (let z : s.turns ≤ s.turns = omega arith in z) (fewer rest ok.1 s)
  fewer (Return t rest) ok s = fewer_if (holds_maybe ids t s) s.turns _ _ (let z : s.turns ≤ s.turns = omega arith in z) (fewer rest ok.1 s)

  module _ (all : List Op) (longest : ℕ) (some : 0 < at.variables) where
    abbrev Led : (ℕ → Option Slots) → (bound k b c : ℕ) → Flow → Type 0
    Led start bound k b c flow = Follows at Has pool ids temps all longest start bound k b c flow

    abbrev For : State → Memory → Type 0
    For s m = Stands at Has pool ids temps all longest s m

    -- a test's pieces, and then its choice: both sides, and what stands behind it
    choose_follows : (n k x y na nb : ℕ) (t : Test) (a b code rest : List Op) (s : State) (m : Memory) (fa fb : Flow) (go : State → Flow) → first_code at ≤ n → TestsDo t → For s m → test_end ds n t ≤ na → na ≤ nb → Within (test_end ds n t) na a → Within na nb b → At all n (choose_by ds at n t a b ++ (code ++ rest)) → ((m' : Memory) (z : List Op) → At all (test_end ds n t) (a ++ z) → For s m' → Led (λ j. runs ids all j (a ++ z) m') (length a + s.turns * longest) (behind_test ds at n t) x y fa) → ((m' : Memory) (z : List Op) → At all na (b ++ z) → For s m' → Led (λ j. runs ids all j (b ++ z) m') (length b + s.turns * longest) (behind_test ds at n t) x y fb) → (At all nb (code ++ rest) → (s' : State) (m' : Memory) → For s' m' → Led (λ j. runs ids all j (code ++ rest) m') (length code + s'.turns * longest) k x y (go s')) → Led (λ j. runs ids all j ((choose_by ds at n t a b ++ code) ++ rest) m) (length (choose_by ds at n t a b ++ code) + s.turns * longest) k x y (then_do (if holds ids t s then fa else fb) go)
    choose_follows n k x y na nb t a b code rest s m fa fb go le ok st p q wa wb stands ga gb next =
        let n1 = test_start ds n t in
        let c = test_calculation t in
        let first = pieces_ops at n (test_pieces t) in
        let choice = choice_ops at n1 c a b in
        let d = ok st.frame s st.shows in
        let grows = test_grows at ds n t in
        let stands1 = at_same all n _ _ (append_assoc first choice (code ++ rest)) stands in
        let r = pieces_run at Has pool ids all (test_pieces t) n st.frame d.frame m (choice ++ (code ++ rest)) le d.fits st.holds d.does stands1 in
        let stands2 = at_after all n n n1 first (choice ++ (code ++ rest)) grows (pieces_within at (test_pieces t) n) stands1 in
        let placed = choice_placed at all n1 c a b (code ++ rest) na nb p q wa wb stands2 in
        let st1 : For s r.memory = record { frame = d.frame; holds = r.holds; shows = d.shows } in
        let chosen = choice_follows at Has pool ids temps all longest n1 c a b (code ++ rest) na nb (behind_test ds at n t) x y s r.memory (holds ids t s) fa fb st1 (omega arith) placed d.calculation d.outcome
        (λ e m' st'. ga m' _ placed.at_first st')
        (λ e m' st'. gb m' _ placed.at_second st') in
        let both = follows_then at Has pool ids temps all longest _ _ (length code) (behind_test ds at n t) k x y (code ++ rest) (if holds ids t s then fa else fb) go placed.behind (next placed.at_rest) chosen in
        let ops : ((first ++ choice) ++ code) ++ rest ≡ first ++ (choice ++ (code ++ rest)) = simp append_assoc in
        follows_after at Has pool ids temps all longest _ (λ j. runs ids all j (choice ++ (code ++ rest)) r.memory) r.cost _ _ k x y (then_do (if holds ids t s then fa else fb) go)
        (omega (arith, r.within, length-append (first ++ choice) code, length-append first choice))
        (λ j. ap (λ o. runs ids all (r.cost + j) o m) ops ∙ r.by j)
        both

    -- a leave with a test, and what stands behind it
    leave_follows : (n k x y : ℕ) (t : Test) (o : Op) (code rest : List Op) (s : State) (m : Memory) (out : Flow) (go : State → Flow) → first_code at ≤ n → TestsDo t → For s m → ((l : ℕ) → after_label l (o ∷ []) ≡ None) → then_do out go ≡ out → At all n ((leave_by ds at n t o ++ code) ++ rest) → ((more : List Op) (m' : Memory) → For s m' → Led (λ j. runs ids all j (o ∷ more) m') (1 + s.turns * longest) (behind_test ds at n t) x y out) → (At all (test_end ds n t) (code ++ rest) → (s' : State) (m' : Memory) → For s' m' → Led (λ j. runs ids all j (code ++ rest) m') (length code + s'.turns * longest) k x y (go s')) → Led (λ j. runs ids all j ((leave_by ds at n t o ++ code) ++ rest) m) (length (leave_by ds at n t o ++ code) + s.turns * longest) k x y (if holds ids t s then out else go s)
    leave_follows n k x y t o code rest s m out go le ok st free stays stands side next =
        let l = behind_test ds at n t in
        let stands' = at_same all n _ _ (append_assoc (leave_by ds at n t o) code rest) stands in
        subst (λ z. Led (λ j. runs ids all j ((leave_by ds at n t o ++ code) ++ rest) m) (length (leave_by ds at n t o ++ code) + s.turns * longest) k x y z) (left_then (holds ids t s) out s go stays)
        (choose_follows n k x y (test_end ds n t) (test_end ds n t) t (o ∷ []) (op.Branch l ∷ []) code rest s m out (Falls s) go le ok st (omega arith) (omega arith) (record { out = λ j w. free j }) (record { out = λ j w. refl }) stands'
        (λ m' z h st'. side z m' st')
        (λ m' z h st'. branch_reaches at Has pool ids temps all longest l (1 + s.turns * longest) z s m' (omega arith) st')
        next)

    pub body_follows : (b : Body) (n k x y : ℕ) (s : State) (m : Memory) (rest : List Op) → first_code at ≤ n → BodyDoes b → length (body_ops ds at b n k x y) ≤ longest → For s m → At all n (body_ops ds at b n k x y ++ rest) → Led (λ j. runs ids all j (body_ops ds at b n k x y ++ rest) m) (length (body_ops ds at b n k x y) + s.turns * longest) k x y (meaning ds ids b s)
    body_follows End n k x y s m rest le ok short st h = branch_reaches at Has pool ids temps all longest k _ rest s m (omega arith) st
    body_follows (Plain i more) n k x y s m rest le ok short st h =
        let ps = instr_pieces ds i in
        let n1 = pieces_end n ps in
        let c = pieces_ops at n ps in
        let code = body_ops ds at more n1 k x y in
        let len = length-append c code in
        let h' = at_same all n _ _ (append_assoc c code rest) h in
        let d = ok.0 st.frame s st.shows in
        let r = pieces_run at Has pool ids all ps n st.frame d.frame m (code ++ rest) le d.fits st.holds d.does h' in
        let g = pieces_grow at ps n in
        let st1 : For (done ds ids i s) r.memory = record { frame = d.frame; holds = r.holds; shows = d.shows } in
        let next = body_follows more n1 k x y (done ds ids i s) r.memory rest (omega arith) ok.2 (omega arith) st1 (at_after all n n n1 c (code ++ rest) g (pieces_within at ps n) h') in
        let same : (done ds ids i s).turns * longest ≡ s.turns * longest = ap (λ t. t * longest) d.turns in
        follows_after at Has pool ids temps all longest _ (λ j. runs ids all j (code ++ rest) r.memory) r.cost _ (length code + (done ds ids i s).turns * longest) k x y (meaning ds ids more (done ds ids i s)) (omega (arith, r.within))
        (λ j. ap (λ z. runs ids all (r.cost + j) z m) (append_assoc c code rest) ∙ r.by j) next
    body_follows (If t first second more) n k x y s m rest le ok short st h =
        let l = behind_test ds at n t in
        let n0 = test_end ds n t in
        let n1 = body_end ds first n0 in
        let n2 = body_end ds second n1 in
        let ca = body_ops ds at first n0 l x y in
        let cb = body_ops ds at second n1 l x y in
        let code = body_ops ds at more n2 k x y in
        let start = pieces_ops at n (test_pieces t) in
        let choice = choice_ops at (test_start ds n t) (test_calculation t) ca cb in
        let len = length-append (choose_by ds at n t ca cb) code in
        let len2 = length-append start choice in
        let parts = choice_length at all (test_start ds n t) (test_calculation t) ca cb in
        let gt = test_grows at ds n t in
        let ga = body_grows at ds first n0 in
        let gb = body_grows at ds second n1 in
        choose_follows n k x y n1 n2 t ca cb code rest s m (meaning ds ids first s) (meaning ds ids second s) (meaning ds ids more) le ok.0 st ga gb (body_within at ds first n0 l x y) (body_within at ds second n1 l x y)
        (at_same all n _ _ (append_assoc (choose_by ds at n t ca cb) code rest) h)
        (λ m' z h' st'. body_follows first n0 l x y s m' z (omega arith) ok.1 (omega arith) st' h')
        (λ m' z h' st'. body_follows second n1 l x y s m' z (omega arith) ok.2 (omega arith) st' h')
        (λ h' s' m' st'. body_follows more n2 k x y s' m' rest (omega arith) ok.3 (omega arith) st' h')
    body_follows (Loop inner more) n k x y s m rest le ok short st h =
        let ci = body_ops ds at inner (inner_start n) (n + 2) (n + 1) (n + 2) in
        let n1 = body_end ds inner (inner_start n) in
        let loop = loop_ops at n ci in
        let code = body_ops ds at more n1 k x y in
        let len = length-append loop code in
        let long = loop_length at Has pool ids temps all longest n ci in
        let h' = at_same all n _ _ (append_assoc loop code rest) h in
        let g = body_grows at ds inner (inner_start n) in
        let p = loop_placed at Has pool ids temps all longest n n1 ci (code ++ rest) g (body_within at ds inner (inner_start n) (n + 2) (n + 1) (n + 2)) h' in
        let r = looped_follows at Has pool ids temps all longest n n1 (meaning ds ids inner) ci (code ++ rest) le some p (omega arith) (fewer inner ok.0)
        (λ s' m' st'. body_follows inner (inner_start n) (n + 2) (n + 1) (n + 2) s' m' _ (omega arith) ok.0 (omega arith) st' p.at_inner)
        x y s.turns s m (omega arith) st in
        let r' = follows_after at Has pool ids temps all longest (λ j. runs ids all j (loop ++ (code ++ rest)) m) (λ j. Looks at Has pool ids temps all longest n j m) 1 (length loop + s.turns * longest) _ (n + 1) x y (looped s.turns (meaning ds ids inner) s) (omega arith)
        (λ j. ap (λ z. runs ids all z (loop ++ (code ++ rest)) m) (let z : 1 + j ≡ suc j = omega arith in z)) r in
        let both = follows_then at Has pool ids temps all longest _ _ (length code) (n + 1) k x y (code ++ rest) (looped s.turns (meaning ds ids inner) s) (meaning ds ids more) p.behind
        (λ s' m' st'. body_follows more n1 k x y s' m' rest (omega arith) ok.1 (omega arith) st' p.at_rest) r' in
        follows_after at Has pool ids temps all longest _ (λ j. runs ids all j (loop ++ (code ++ rest)) m) 0 _ _ k x y (meaning ds ids (Loop inner more) s) (omega arith)
        (λ j. ap (λ z. runs ids all z ((loop ++ code) ++ rest) m) (let z : 0 + j ≡ j = omega arith in z) ∙ ap (λ z. runs ids all j z m) (append_assoc loop code rest)) both
    body_follows (Break None more) n k x y s m rest le ok short st h = branch_reaches at Has pool ids temps all longest x _ rest s m (omega arith) st
    body_follows (Break (Some t) more) n k x y s m rest le ok short st h =
        let code = body_ops ds at more (test_end ds n t) k x y in
        let len = length-append (leave_by ds at n t (op.Branch x)) code in
        let g = test_grows at ds n t in
        leave_follows n k x y t (op.Branch x) code rest s m (Breaks s) (meaning ds ids more) le ok.0 st (λ l. refl) refl h
        (λ z m' st'. branch_reaches at Has pool ids temps all longest x _ z s m' (omega arith) st')
        (λ h' s' m' st'. body_follows more (test_end ds n t) k x y s' m' rest (omega arith) ok.1 (omega arith) st' h')
    body_follows (Continue None more) n k x y s m rest le ok short st h = branch_reaches at Has pool ids temps all longest y _ rest s m (omega arith) st
    body_follows (Continue (Some t) more) n k x y s m rest le ok short st h =
        let code = body_ops ds at more (test_end ds n t) k x y in
        let len = length-append (leave_by ds at n t (op.Branch y)) code in
        let g = test_grows at ds n t in
        leave_follows n k x y t (op.Branch y) code rest s m (Continues s) (meaning ds ids more) le ok.0 st (λ l. refl) refl h
        (λ z m' st'. branch_reaches at Has pool ids temps all longest y _ z s m' (omega arith) st')
        (λ h' s' m' st'. body_follows more (test_end ds n t) k x y s' m' rest (omega arith) ok.1 (omega arith) st' h')
    body_follows (Return None more) n k x y s m rest le ok short st h = ends_at at Has pool ids temps all longest rest s m st
    body_follows (Return (Some t) more) n k x y s m rest le ok short st h =
        let code = body_ops ds at more (test_end ds n t) k x y in
        let len = length-append (leave_by ds at n t op.Return) code in
        let g = test_grows at ds n t in
        leave_follows n k x y t op.Return code rest s m (Ends s) (meaning ds ids more) le ok.0 st (λ l. refl) refl h
        (λ z m' st'. ends_at at Has pool ids temps all longest z s m' st')
        (λ h' s' m' st'. body_follows more (test_end ds n t) k x y s' m' rest (omega arith) ok.1 (omega arith) st' h')
