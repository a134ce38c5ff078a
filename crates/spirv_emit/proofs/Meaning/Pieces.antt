-- The code of pieces does what the pieces do.
use Rattle.std.proofs.Common.{◌≡◌, ℕ, ◌+◌, ◌<◌, ◌≤◌, Bool, true, false, if◌then◌else◌, List, [], ◌∷◌, ◌++◌, length, Option, Some, None, refl, ap, ◌∙◌, subst, arith, append_assoc, length-append, add_assoc}
use Rattle.std.specs.Prelude.{nat_lt}
use Rattle.std.proofs.lemmas.Bool.{ltb-true}
use Rattle.shader_model.specs.declared.ids.Ids.{Ids}
use Rattle.spirv_model.specs.Op.{Op}
use Rattle.spirv_model.specs.Op as op
use Rattle.spirv_model.specs.Meaning.Values.{Value, Nothing, Word, Truth, Vector, Halves, At as Points}
use Rattle.spirv_model.specs.Meaning.Bindings.{words_at}
use Rattle.spirv_model.specs.Meaning.Memory.{Memory}
use Rattle.spirv_model.specs.Meaning.ModuleMeaning.{after_label, goes_to, runs}
use Rattle.spirv_emit.specs.declared.piece.Calculation.{Calculation}
use Rattle.spirv_emit.specs.declared.piece.Action.{Action}
use Rattle.spirv_emit.specs.declared.piece.Piece.{Piece}
use Rattle.spirv_emit.specs.declared.piece.Piece.TheVariants.{Assign, Reach}
use Rattle.spirv_emit.specs.Layout.{Layout, first_code, bindings}
use Rattle.spirv_emit.specs.Code.{calculation_size, calculation_ops, choice_ops, missed_ops, reach_ops, assign_ops, piece_ops, piece_end, pieces_ops}
use Rattle.spirv_emit.specs.Frames.{Frame, with_variable, calculated, acted, missed, assigned, acted_at, reached, piece_done, then_frame, pieces_done}
use Rattle.spirv_emit.proofs.Meaning.LabelPlaces.{At, at_after, at_same}
use Rattle.spirv_emit.proofs.Words.LabelRanges.{reach_within, missed_within, piece_grows, piece_within}
use Rattle.spirv_emit.proofs.Meaning.HeldFrames.{Pool, Holds, holds_same}
use Rattle.spirv_emit.proofs.Meaning.Calculations.{CalculationFits, assign_runs}
use Rattle.spirv_emit.proofs.Meaning.Choices.{ChoicePlaced, choice_placed, choice_length, choice_runs, from_first, from_second}
use Rattle.spirv_emit.proofs.Meaning.WordActions.{ActionFits, SideRuns, missed_runs, reach_runs}

-- ## What a piece that was done had

some_same : (f f' : Frame) → Some f ≡ Some f' → f ≡ f'
some_same f f' e = cc

assigned_parts : (x : ℕ) (q : Option Value) (f f' : Frame) → assigned x q f ≡ Some f' → (v : ℕ) × (q ≡ Some (Word v)) × (with_variable x v f ≡ f')
assigned_parts x (Some (Word v)) f f' e = (v, refl, some_same _ _ e)
assigned_parts x (Some Nothing) f f' e = cc
assigned_parts x (Some (Truth b)) f f' e = cc
assigned_parts x (Some (Vector a b c)) f f' e = cc
assigned_parts x (Some (Halves l h)) f f' e = cc
assigned_parts x (Some (Points p)) f f' e = cc
assigned_parts x None f f' e = cc

if_parts : (t : Bool) (f f' : Frame) → (if t then Some f else None) ≡ Some f' → (t ≡ true) × (f ≡ f')
if_parts true f f' e = (refl, some_same _ _ e)
if_parts false f f' e = cc

acted_parts : (ids : Ids) (b : ℕ) (q : Option Value) (a : Action) (f f' : Frame) → acted_at ids b q a f ≡ Some f' → (i : ℕ) × (q ≡ Some (Word i)) × (i < length (words_at f.slots b)) × (acted ids b i a f ≡ f')
acted_parts ids b (Some (Word i)) a f f' e =
    let p = if_parts (nat_lt i (length (words_at f.slots b))) (acted ids b i a f) f' e in (i, refl, ltb-true i (length (words_at f.slots b)) p.0, p.1)
acted_parts ids b (Some Nothing) a f f' e = cc
acted_parts ids b (Some (Truth t)) a f f' e = cc
acted_parts ids b (Some (Vector x y z)) a f f' e = cc
acted_parts ids b (Some (Halves l h)) a f f' e = cc
acted_parts ids b (Some (Points p)) a f f' e = cc
acted_parts ids b None a f f' e = cc

reached_parts : (ids : Ids) (g : Option Value) (b : ℕ) (i : Option Value) (a : Action) (f f' : Frame) → reached ids g b i a f ≡ Some f' → (x : Bool) × (g ≡ Some (Truth x)) × ((if x then acted_at ids b i a f else Some (missed a f)) ≡ Some f')
reached_parts ids (Some (Truth x)) b i a f f' e = (x, refl, e)
reached_parts ids (Some Nothing) b i a f f' e = cc
reached_parts ids (Some (Word n)) b i a f f' e = cc
reached_parts ids (Some (Vector x y z)) b i a f f' e = cc
reached_parts ids (Some (Halves l h)) b i a f f' e = cc
reached_parts ids (Some (Points p)) b i a f f' e = cc
reached_parts ids None b i a f f' e = cc

frame_parts : (q : Option Frame) (go : Frame → Option Frame) (f' : Frame) → then_frame q go ≡ Some f' → (f : Frame) × (q ≡ Some f) × (go f ≡ Some f')
frame_parts (Some f) go f' e = (f, refl, e)
frame_parts None go f' e = cc

module _ (at : Layout) (Has : ℕ → Type 0) (pool : Pool at Has) (ids : Ids) where
  -- what a piece names is there
  abbrev pub PieceFits : Piece → Type 0
  PieceFits (Assign x c) = (x < at.variables) × CalculationFits at Has pool ids c
  PieceFits (Reach g b c a) = CalculationFits at Has pool ids g × CalculationFits at Has pool ids c × (b < bindings) × ActionFits at Has pool ids b a

  abbrev pub PiecesFit : List Piece → Type 0
  PiecesFit [] = Unit {0}
  PiecesFit (p ∷ ps) = PieceFits p × PiecesFit ps

  module _ (all : List Op) where
    pub record PieceRuns (n : ℕ) (code : List Op) (f' : Frame) (m : Memory) (rest : List Op) : Type 0 where
      pub memory : Memory
      pub cost : ℕ
      pub holds : Holds at Has pool ids f' memory
      pub within : cost ≤ length code
      pub by : (k : ℕ) → runs ids all (cost + k) (code ++ rest) m ≡ runs ids all k rest memory

    -- ## An access

    abbrev first_side : (n b : ℕ) → (g c : Calculation) → Action → List Op
    first_side n b g c a = reach_ops at (n + calculation_size g + 3) b c a (n + calculation_size g + 2)

    abbrev second_side : (n : ℕ) → Calculation → Action → List Op
    second_side n g a = missed_ops at a ++ (op.Branch (n + calculation_size g + 2) ∷ [])

    -- a side of the choice, up to what stands behind the choice
    finish : (n : ℕ) (g : Calculation) (f1 f' : Frame) (m m' : Memory) (code side behind rest : List Op) → after_label (n + calculation_size g + 2) all ≡ Some rest → length (calculation_ops at n g) + 2 + length side ≤ length code → ((k : ℕ) → runs ids all (length (calculation_ops at n g) + 2 + k) (code ++ rest) m ≡ runs ids all k (side ++ behind) m') → f1 ≡ f' → SideRuns at Has pool ids all side (n + calculation_size g + 2) f1 m' behind → PieceRuns n code f' m rest
    finish n g f1 f' m m' code side behind rest here le by e s = record {
      memory = s.memory;
      cost = length (calculation_ops at n g) + 2 + length side;
      holds = subst (λ z. Holds at Has pool ids z s.memory) e s.holds;
      within = le;
      by = λ k.
          ap (λ j. runs ids all j (code ++ rest) m) (add_assoc (length (calculation_ops at n g) + 2) (length side) k)
          ∙ by (length side + k)
          ∙ s.by k
          ∙ ap (λ o. goes_to o (runs ids all k) s.memory) here;
    }

    side_does : (n b : ℕ) (g c : Calculation) (a : Action) (f f' : Frame) (m m' : Memory) (rest : List Op) (x : Bool) → first_code at ≤ n → PieceFits (Reach g b c a) → Holds at Has pool ids f m' → ChoicePlaced at all (n + calculation_size g) (piece_end n (Reach g b c a)) (piece_end n (Reach g b c a)) (first_side n b g c a) (second_side n g a) rest → (if x then acted_at ids b (calculated ids f c) a f else Some (missed a f)) ≡ Some f' → ((k : ℕ) → runs ids all (length (calculation_ops at n g) + 2 + k) (choice_ops at n g (first_side n b g c a) (second_side n g a) ++ rest) m ≡ runs ids all k (if x then from_first at all (n + calculation_size g) (first_side n b g c a) (second_side n g a) rest else from_second at all (n + calculation_size g) (second_side n g a) rest) m') → PieceRuns n (choice_ops at n g (first_side n b g c a) (second_side n g a)) f' m rest
    side_does n b g c a f f' m m' rest true le fits h placed e by =
        let first = first_side n b g c a in
        let second = second_side n g a in
        let l = n + calculation_size g in
        let p = acted_parts ids b (calculated ids f c) a f f' e in
        let len = choice_length at all n g first second in
        finish n g (acted ids b p.0 a f) f' m m' (choice_ops at n g first second) first (op.Label (l + 1) ∷ (second ++ (op.Label (l + 2) ∷ rest))) rest placed.behind (omega (arith, len)) by p.3
        (reach_runs at Has pool ids all (l + 3) b p.0 c a (l + 2) f m' _ (omega arith) fits.2 fits.1 fits.3 h p.1 p.2)
    side_does n b g c a f f' m m' rest false le fits h placed e by =
        let first = first_side n b g c a in
        let second = second_side n g a in
        let l = n + calculation_size g in
        let len = choice_length at all n g first second in
        finish n g (missed a f) f' m m' (choice_ops at n g first second) second (op.Label (l + 2) ∷ rest) rest placed.behind (omega (arith, len)) by (some_same _ _ e)
        (missed_runs at Has pool ids all a b (l + 2) f m' _ fits.3 h)

    reach_does : (n b : ℕ) (g c : Calculation) (a : Action) (f f' : Frame) (m : Memory) (rest : List Op) → first_code at ≤ n → PieceFits (Reach g b c a) → Holds at Has pool ids f m → piece_done ids (Reach g b c a) f ≡ Some f' → At all n (piece_ops at n (Reach g b c a) ++ rest) → PieceRuns n (piece_ops at n (Reach g b c a)) f' m rest
    reach_does n b g c a f f' m rest le fits h e stands =
        let l = n + calculation_size g in
        let hi = piece_end n (Reach g b c a) in
        let first = first_side n b g c a in
        let second = second_side n g a in
        let parts = reached_parts ids (calculated ids f g) b (calculated ids f c) a f f' e in
        let placed = choice_placed at all n g first second rest hi hi (omega arith) (omega arith) (reach_within at _ b c a _ _ _) (missed_within at a _ _ _) stands in
        let r = choice_runs at all Has pool ids n g f m parts.0 first second rest hi hi le placed fits.0 h parts.1 in
        side_does n b g c a f f' m r.memory rest parts.0 le fits (holds_same at Has pool ids f n m r.memory le r.same h) placed parts.2 r.by

    -- ## Pieces

    piece_runs : (p : Piece) (n : ℕ) (f f' : Frame) (m : Memory) (rest : List Op) → first_code at ≤ n → PieceFits p → Holds at Has pool ids f m → piece_done ids p f ≡ Some f' → At all n (piece_ops at n p ++ rest) → PieceRuns n (piece_ops at n p) f' m rest
    piece_runs (Assign x c) n f f' m rest le fits h e stands =
        let p = assigned_parts x (calculated ids f c) f f' e in
        let r = assign_runs at Has pool ids all n x c f m p.0 rest le fits.0 fits.1 h p.1 in
        record {
          memory = r.memory;
          cost = length (assign_ops at n x c);
          holds = subst (λ z. Holds at Has pool ids z r.memory) p.2 r.holds;
          within = omega arith;
          by = r.by;
        }
    piece_runs (Reach g b c a) n f f' m rest le fits h e stands = reach_does n b g c a f f' m rest le fits h e stands

    pub pieces_run : (ps : List Piece) (n : ℕ) (f f' : Frame) (m : Memory) (rest : List Op) → first_code at ≤ n → PiecesFit ps → Holds at Has pool ids f m → pieces_done ids ps f ≡ Some f' → At all n (pieces_ops at n ps ++ rest) → PieceRuns n (pieces_ops at n ps) f' m rest
    pieces_run [] n f f' m rest le fits h e stands = record {
      memory = m;
      cost = 0;
      holds = subst (λ z. Holds at Has pool ids z m) (some_same _ _ e) h;
      within = omega arith;
      by = λ k. ap (λ j. runs ids all j rest m) (let z : 0 + k ≡ k = omega arith in z);
    }
    pieces_run (p ∷ ps) n f f' m rest le fits h e stands =
        let n1 = piece_end n p in
        let code = piece_ops at n p in
        let more = pieces_ops at n1 ps in
        let parts = frame_parts (piece_done ids p f) (pieces_done ids ps) f' e in
        let stands1 = at_same all n _ _ (append_assoc code more rest) stands in
        let one = piece_runs p n f parts.0 m (more ++ rest) le fits.0 h parts.1 stands1 in
        let grows = piece_grows at p n in
        let next = pieces_run ps n1 parts.0 f' one.memory rest (omega arith) fits.1 one.holds parts.2 (at_after all n n n1 code (more ++ rest) grows (piece_within at p n) stands1) in
        record {
          memory = next.memory;
          cost = one.cost + next.cost;
          holds = next.holds;
          within = omega (arith, one.within, next.within, length-append code more);
          by = λ k.
              ap (λ j. runs ids all j ((code ++ more) ++ rest) m) (add_assoc one.cost next.cost k)
              ∙ ap (λ o. runs ids all (one.cost + (next.cost + k)) o m) (append_assoc code more rest)
              ∙ one.by (next.cost + k)
              ∙ next.by k;
        }
