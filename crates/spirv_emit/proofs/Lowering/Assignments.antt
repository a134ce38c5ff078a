-- What pieces that assign do to a frame, and what that shows of a state.
use Rattle.std.proofs.Common.{◌≡◌, ◌≢◌, ℕ, ◌+◌, ◌*◌, ◌<◌, Bool, true, false, if◌then◌else◌, ◌⊎◌, inl, inr, ⊎_elim, List, [], ◌∷◌, ◌++◌, length, Option, Some, None, refl, sym, ap, ◌∙◌, arith}
use Rattle.std.specs.Prelude.{slice_set}
use Rattle.std.proofs.Math.Dec.{eqb}
use Rattle.std.proofs.lemmas.Bool.Decides.{eqb_tells}
use Rattle.std.proofs.lemmas.Bool.{eq-eqb, ne_eqb}
use Rattle.std.proofs.lemmas.List.{length-set, get_or-set_other}
use Rattle.std.proofs.lemmas.Grind.{get_or-set_at}
use Rattle.shader_model.specs.declared.ids.Ids.{Ids}
use Rattle.shader_model.specs.declared.tree.Target.{Target}
use Rattle.shader_model.specs.Words.{bit}
use Rattle.shader_model.specs.Invocation.{State, with_component, with_target}
use Rattle.spirv_model.specs.Meaning.Values.{Word}
use Rattle.spirv_emit.specs.declared.piece.Calculation.{Calculation}
use Rattle.spirv_emit.specs.declared.piece.Piece.{Piece}
use Rattle.spirv_emit.specs.declared.piece.Piece.TheVariants.{Assign}
use Rattle.spirv_emit.specs.Lower as lower
use Rattle.spirv_emit.specs.Lower.{only_if, each_masked, temporary}
use Rattle.spirv_emit.specs.Frames.{Frame, with_variable, calculated, assigned, piece_done, then_frame, pieces_done}
use Rattle.spirv_emit.proofs.Meaning.CodeStretches.{Shows}

some_same : (f f' : Frame) → Some f ≡ Some f' → f ≡ f'
some_same f f' e = cc

frame_parts : (q : Option Frame) (go : Frame → Option Frame) (f' : Frame) → then_frame q go ≡ Some f' → (f : Frame) × (q ≡ Some f) × (go f ≡ Some f')
frame_parts (Some f) go f' e = (f, refl, e)
frame_parts None go f' e = cc

-- some pieces, and then others
pub then_pieces : (ids : Ids) (xs ys : List Piece) (f f1 f2 : Frame) → pieces_done ids xs f ≡ Some f1 → pieces_done ids ys f1 ≡ Some f2 → pieces_done ids (xs ++ ys) f ≡ Some f2
then_pieces ids [] ys f f1 f2 e1 e2 = ap (pieces_done ids ys) (some_same f f1 e1) ∙ e2
then_pieces ids (x ∷ xs) ys f f1 f2 e1 e2 =
    let p = frame_parts (piece_done ids x f) (pieces_done ids xs) f1 e1 in
    ap (λ q. then_frame q (pieces_done ids (xs ++ ys))) p.1 ∙ then_pieces ids xs ys p.0 f1 f2 p.2 e2

-- ## Assignments by a mask

abbrev pub put_if : Bool → (x v : ℕ) → Frame → Frame
put_if b x v f = if b then with_variable x v f else f

abbrev pub put_masked : (mask : ℕ) → (variable word : ℕ → ℕ) → Frame → Frame
put_masked m x w f = put_if (bit 3 m) (x 3) (w 3) (put_if (bit 2 m) (x 2) (w 2) (put_if (bit 1 m) (x 1) (w 1) (put_if (bit 0 m) (x 0) (w 0) f)))

one_put : (ids : Ids) (b : Bool) (x : ℕ) (c : Calculation) (v : ℕ) (f : Frame) → calculated ids f c ≡ Some (Word v) → pieces_done ids (only_if b (Assign x c)) f ≡ Some (put_if b x v f)
one_put ids true x c v f e = ap (λ q. then_frame (assigned x q f) (pieces_done ids [])) e
one_put ids false x c v f e = refl

-- a property that assignments keep
module _ (P : Frame → Type 0) (x : ℕ → ℕ) (keeps : (c v : ℕ) (f : Frame) → c < 4 → P f → P (with_variable (x c) v f)) where
  pub put_keeps : (b : Bool) (c v : ℕ) (f : Frame) → c < 4 → P f → P (put_if b (x c) v f)
  put_keeps true c v f lt h = keeps c v f lt h
  put_keeps false c v f lt h = h

  pub masked_keeps : (m : ℕ) (w : ℕ → ℕ) (f : Frame) → P f → P (put_masked m x w f)
  masked_keeps m w f h =
      put_keeps (bit 3 m) 3 (w 3) _ (omega arith) (put_keeps (bit 2 m) 2 (w 2) _ (omega arith) (put_keeps (bit 1 m) 1 (w 1) _ (omega arith) (put_keeps (bit 0 m) 0 (w 0) f (omega arith) h)))

  -- calculations whose values don't depend on what is assigned
  pub masked_done : (ids : Ids) (m : ℕ) (calc : ℕ → Calculation) (w : ℕ → ℕ) (f : Frame) → P f → ((c : ℕ) (g : Frame) → c < 4 → P g → calculated ids g (calc c) ≡ Some (Word (w c))) → pieces_done ids (each_masked m (lower.assigned x calc)) f ≡ Some (put_masked m x w f)
  masked_done ids m calc w f h value =
      let f0 = put_if (bit 0 m) (x 0) (w 0) f in
      let h0 = put_keeps (bit 0 m) 0 (w 0) f (omega arith) h in
      let f1 = put_if (bit 1 m) (x 1) (w 1) f0 in
      let h1 = put_keeps (bit 1 m) 1 (w 1) f0 (omega arith) h0 in
      let f2 = put_if (bit 2 m) (x 2) (w 2) f1 in
      let h2 = put_keeps (bit 2 m) 2 (w 2) f1 (omega arith) h1 in
      let f3 = put_if (bit 3 m) (x 3) (w 3) f2 in
      then_pieces ids (only_if (bit 0 m) (Assign (x 0) (calc 0))) _ f f0 f3 (one_put ids (bit 0 m) (x 0) (calc 0) (w 0) f (value 0 f (omega arith) h))
      (then_pieces ids (only_if (bit 1 m) (Assign (x 1) (calc 1))) _ f0 f1 f3 (one_put ids (bit 1 m) (x 1) (calc 1) (w 1) f0 (value 1 f0 (omega arith) h0))
      (then_pieces ids (only_if (bit 2 m) (Assign (x 2) (calc 2))) _ f1 f2 f3 (one_put ids (bit 2 m) (x 2) (calc 2) (w 2) f1 (value 2 f1 (omega arith) h1))
      (one_put ids (bit 3 m) (x 3) (calc 3) (w 3) f2 (value 3 f2 (omega arith) h2))))

-- ## Temporaries

same_or_not : (i j : ℕ) → (i ≡ j) ⊎ (i ≢ j)
same_or_not i j = ⊎_elim (λ (x : (eqb i j ≡ true) × (i ≡ j)). inl x.1) (λ (x : (eqb i j ≡ false) × (i ≢ j)). inr x.1) (eqb_tells i j)

variable_same : (f : Frame) (x v y : ℕ) → y ≡ x → (with_variable x v f).variables y ≡ v
variable_same f x v y e = ap (λ b. if b then v else f.variables y) (eq-eqb y x e)

variable_other : (f : Frame) (x v y : ℕ) → y ≢ x → (with_variable x v f).variables y ≡ f.variables y
variable_other f x v y ne = ap (λ b. if b then v else f.variables y) (ne_eqb y x ne)

-- what is assigned to a variable that is no temporary and not the turns shows the same state
pub shows_scratch : (temps : ℕ) (f : Frame) (s : State) (x v : ℕ) → 0 < x → x < 25 → Shows temps f s → Shows temps (with_variable x v f) s
shows_scratch temps f s x v pos low h = record {
  slots = h.slots;
  turns_left = variable_other f x v 0 (λ e. absurd (omega arith)) ∙ h.turns_left;
  few = h.few;
  long = h.long;
  limited = h.limited;
  words = λ r c lr lc. variable_other f x v (temporary r c) (λ e. absurd (omega arith)) ∙ h.words r c lr lc;
}

-- a component of a temporary takes a word
shows_temporary : (temps : ℕ) (f : Frame) (s : State) (i k v : ℕ) → i < temps → k < 4 → Shows temps f s → Shows temps (with_variable (temporary i k) v f) (record s { temps = slice_set s.temps (4 * i + k) v })
shows_temporary temps f s i k v li lk h = record {
  slots = h.slots;
  turns_left = variable_other f (temporary i k) v 0 (λ e. absurd (omega arith)) ∙ h.turns_left;
  few = h.few;
  long = length-set s.temps (4 * i + k) v ∙ h.long;
  limited = h.limited;
  words = λ r c lr lc. ⊎_elim
      (λ (e : 4 * r + c ≡ 4 * i + k).
      variable_same f (temporary i k) v (temporary r c) (omega arith)
      ∙ sym (let l : 4 * i + k < length s.temps = omega (arith, h.long) in get_or-set_at s.temps (4 * i + k) (4 * r + c) v 0 e l))
      (λ (ne : 4 * r + c ≢ 4 * i + k).
      variable_other f (temporary i k) v (temporary r c) (λ e. ne (omega arith))
      ∙ h.words r c lr lc
      ∙ sym (get_or-set_other s.temps (4 * i + k) (4 * r + c) v 0 ne))
      (same_or_not (4 * r + c) (4 * i + k));
}

-- a component that a mask has
shows_component : (temps : ℕ) (f : Frame) (s : State) (t : Target) (k : ℕ) (value : ℕ → ℕ) (b : Bool) → bit k t.mask ≡ b → (b ≡ true → t.index < temps) → k < 4 → Shows temps f s → Shows temps (put_if b (temporary t.index k) (value k) f) (record s { temps = if b then slice_set s.temps (4 * t.index + k) (value k) else s.temps })
shows_component temps f s t k value true e fits lk h = shows_temporary temps f s t.index k (value k) (fits refl) lk h
shows_component temps f s t k value false e fits lk h = h

-- all components of a destination
pub shows_target : (temps : ℕ) (f : Frame) (s : State) (t : Target) (value : ℕ → ℕ) → ((k : ℕ) → bit k t.mask ≡ true → t.index < temps) → Shows temps f s → Shows temps (put_masked t.mask (temporary t.index) value f) (record s { temps = with_target (Some t) value s.temps })
shows_target temps f s t value fits h =
    let s0 = record s { temps = with_component t value 0 s.temps } in
    let h0 = shows_component temps f s t 0 value (bit 0 t.mask) refl (fits 0) (omega arith) h in
    let s1 = record s { temps = with_component t value 1 s0.temps } in
    let h1 = shows_component temps _ s0 t 1 value (bit 1 t.mask) refl (fits 1) (omega arith) h0 in
    let s2 = record s { temps = with_component t value 2 s1.temps } in
    let h2 = shows_component temps _ s1 t 2 value (bit 2 t.mask) refl (fits 2) (omega arith) h1 in
    shows_component temps _ s2 t 3 value (bit 3 t.mask) refl (fits 3) (omega arith) h2
