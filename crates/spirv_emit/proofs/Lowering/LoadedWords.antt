-- A load leaves the words of a view in the variables of results.
use Rattle.std.proofs.Common.{◌≡◌, ℕ, ◌+◌, ◌*◌, ◌/◌, ◌<◌, ◌≤◌, Bool, true, false, if◌then◌else◌, List, [], ◌++◌, length, Option, Some, None, refl, sym, ap, ◌∙◌, arith}
use Rattle.std.specs.Prelude.{◌==◌, ◌&&◌, nat_lt}
use Rattle.std.proofs.lemmas.Bool.{lt-ltb, ltb-false, le-ltb}
use Rattle.dx_types.specs.declared.shape.Form.{Form}
use Rattle.dx_types.specs.declared.shape.Form.TheVariants.{Raw, Structured, Typed}
use Rattle.shader_model.specs.declared.ids.Ids.{Ids}
use Rattle.shader_model.specs.Words.{bit}
use Rattle.shader_model.specs.Invocation as model
use Rattle.spirv_model.specs.Meaning.Bindings.{words_at}
use Rattle.spirv_emit.specs.declared.formula.Formula.TheVariants as formula
use Rattle.spirv_emit.specs.declared.piece.Leaf.TheVariants.{Number, Length}
use Rattle.spirv_emit.specs.declared.piece.Action.TheVariants.{Fetch}
use Rattle.spirv_emit.specs.declared.piece.Piece.{Piece}
use Rattle.spirv_emit.specs.declared.piece.Piece.TheVariants.{Assign, Reach}
use Rattle.spirv_emit.specs.declared.piece.Spot.{Spot}
use Rattle.spirv_emit.specs.Lower.{nought, calculation, same, result, only_if, each_masked, may_reach, inside_by, place_by, reach, missing, load_piece}
use Rattle.spirv_emit.specs.Frames.{Frame, with_variable, leaf_word, assigned, then_frame, piece_done, pieces_done}
use Rattle.spirv_emit.proofs.Lowering.ViewFormulas.{typed_one_gives}
use Rattle.spirv_emit.proofs.Lowering.ViewAccess.{done_at, by_form, reach_done}
use Rattle.spirv_emit.proofs.Lowering.Assignments.{then_pieces, put_if, put_masked, put_keeps}

-- ## Pieces by a mask, each of which gives a variable a word

any_put : (ids : Ids) (b : Bool) (p : Piece) (x v : ℕ) (f : Frame) → piece_done ids p f ≡ Some (with_variable x v f) → pieces_done ids (only_if b p) f ≡ Some (put_if b x v f)
any_put ids true p x v f e = ap (λ q. then_frame q (pieces_done ids [])) e
any_put ids false p x v f e = refl

pub any_masked : (P : Frame → Type 0) (x : ℕ → ℕ) → ((c v : ℕ) (f : Frame) → c < 4 → P f → P (with_variable (x c) v f)) → (ids : Ids) (m : ℕ) (piece : ℕ → Piece) (w : ℕ → ℕ) (f : Frame) → P f → ((c : ℕ) (g : Frame) → c < 4 → P g → piece_done ids (piece c) g ≡ Some (with_variable (x c) (w c) g)) → pieces_done ids (each_masked m piece) f ≡ Some (put_masked m x w f)
any_masked P x keeps ids m piece w f h value =
    let f0 = put_if (bit 0 m) (x 0) (w 0) f in
    let h0 = put_keeps P x keeps (bit 0 m) 0 (w 0) f (omega arith) h in
    let f1 = put_if (bit 1 m) (x 1) (w 1) f0 in
    let h1 = put_keeps P x keeps (bit 1 m) 1 (w 1) f0 (omega arith) h0 in
    let f2 = put_if (bit 2 m) (x 2) (w 2) f1 in
    let h2 = put_keeps P x keeps (bit 2 m) 2 (w 2) f1 (omega arith) h1 in
    let f3 = put_if (bit 3 m) (x 3) (w 3) f2 in
    then_pieces ids (only_if (bit 0 m) (piece 0)) (only_if (bit 1 m) (piece 1) ++ (only_if (bit 2 m) (piece 2) ++ only_if (bit 3 m) (piece 3))) f f0 f3 (any_put ids (bit 0 m) (piece 0) (x 0) (w 0) f (value 0 f (omega arith) h))
    (then_pieces ids (only_if (bit 1 m) (piece 1)) (only_if (bit 2 m) (piece 2) ++ only_if (bit 3 m) (piece 3)) f0 f1 f3 (any_put ids (bit 1 m) (piece 1) (x 1) (w 1) f0 (value 1 f0 (omega arith) h0))
    (then_pieces ids (only_if (bit 2 m) (piece 2)) (only_if (bit 3 m) (piece 3)) f1 f2 f3 (any_put ids (bit 2 m) (piece 2) (x 2) (w 2) f1 (value 2 f1 (omega arith) h1))
    (any_put ids (bit 3 m) (piece 3) (x 3) (w 3) f2 (value 3 f2 (omega arith) h2))))

-- ## One component

-- a fetch gives the word at a place, 0 where there is none
fetch_at : (ids : Ids) (b x : ℕ) (f : Frame) (q : Option ℕ) → done_at ids b (Fetch x) f q ≡ with_variable x (model.word_at (words_at f.slots b) q) f
fetch_at ids b x f None = refl
fetch_at ids b x f (Some i) = refl

pub never : (t u : Bool) → u ≡ false → (t && u) ≡ false
never true u e = e
never false u e = refl

-- What a load of a component gives, by the form, where the word that an access names is ws at a place.
abbrev pub given : Form → (p : ℕ) → List ℕ → (x y c : ℕ) → ℕ
given Raw p ws x y c = model.word_at ws (model.place_by Raw p (length ws) x y c)
given Structured p ws x y c = model.word_at ws (model.place_by Structured p (length ws) x y c)
given Typed p ws x y c = if nat_lt x (length ws / p) then (if nat_lt c p then model.word_at ws (model.place_by Typed p (length ws) x y c) else model.missing c) else 0

module _ (ids : Ids) (s : Spot) (c : ℕ) (f : Frame) (lc : c < 4) (few : s.parameter ≤ 2048) (limit : length (words_at f.slots s.binding) ≤ 4194304) where
  abbrev ws : List ℕ
  ws = words_at f.slots s.binding

  abbrev x : ℕ
  x = leaf_word ids f s.address

  abbrev y : ℕ
  y = leaf_word ids f s.offset

  abbrev p : ℕ
  p = s.parameter

  -- where an access reaches the component
  reached_load : may_reach s.form p c ≡ true → piece_done ids (reach s c (Fetch (result 0 c))) f ≡ Some (with_variable (result 0 c) (model.word_at ws (model.place_by s.form p (length ws) x y c)) f)
  reached_load m = reach_done ids s c (Fetch (result 0 c)) f lc few limit m ∙ ap (λ g. Some g) (fetch_at ids s.binding (result 0 c) f (model.place_by s.form p (length ws) x y c))

  -- a typed element's word is the load's, where the element has the component
  typed_word : nat_lt c p ≡ true → model.word_at ws (model.place_by Typed p (length ws) x y c) ≡ given Typed p ws x y c
  typed_word e = by_element (nat_lt x (length ws / p)) refl
    where
      by_element : (t : Bool) → nat_lt x (length ws / p) ≡ t → model.word_at ws (if t && nat_lt c p then Some (x * p + c) else None) ≡ (if t then (if nat_lt c p then model.word_at ws (if t && nat_lt c p then Some (x * p + c) else None) else model.missing c) else 0)
      by_element true h = ap (λ b. model.word_at ws (if b then Some (x * p + c) else None)) e ∙ sym (ap (λ b. if b then model.word_at ws (if b then Some (x * p + c) else None) else model.missing c) e)
      by_element false h = refl

  -- a typed view has elements of at least one word
  abbrev pub HasWords : Form → Type 0
  HasWords Typed = 0 < p
  HasWords form = Unit {0}

  piece_by : Form → Piece
  piece_by form = if may_reach form p c then Reach (inside_by form s c) s.binding (place_by form s c) (Fetch (result 0 c)) else Assign (result 0 c) (missing form s c)

  -- no access reaches the component
  missed_typed : 0 < p → nat_lt c p ≡ false → piece_done ids (Assign (result 0 c) (missing Typed s c)) f ≡ Some (with_variable (result 0 c) (given Typed p ws x y c) f)
  missed_typed pos e =
      by_fourth (c == 3) refl ∙ ap (λ b. Some (with_variable (result 0 c) (if nat_lt x (length ws / p) then (if b then model.word_at ws (model.place_by Typed p (length ws) x y c) else model.missing c) else 0) f)) (sym e)
    where
      nothing : (t : Bool) (k : ℕ) → k ≡ 0 → (if t then k else k) ≡ k
      nothing true k z = refl
      nothing false k z = refl

      by_fourth : (t : Bool) → (c == 3) ≡ t → piece_done ids (Assign (result 0 c) (if nat_lt 0 p && (c == 3) then calculation formula.TypedOne s.address (Number p) (Length s.binding) nought nought else same nought)) f ≡ Some (with_variable (result 0 c) (if nat_lt x (length ws / p) then (if c == 3 then 1 else 0) else 0) f)
      by_fourth true h =
          ap (λ b. piece_done ids (Assign (result 0 c) (if b && (c == 3) then calculation formula.TypedOne s.address (Number p) (Length s.binding) nought nought else same nought)) f) (lt-ltb 0 p pos)
          ∙ ap (λ b. piece_done ids (Assign (result 0 c) (if b then calculation formula.TypedOne s.address (Number p) (Length s.binding) nought nought else same nought)) f) h
          ∙ ap (λ q. assigned (result 0 c) q f) (typed_one_gives x p (length ws) 0 0 pos)
          ∙ ap (λ b. Some (with_variable (result 0 c) (if nat_lt x (length ws / p) then (if b then 1 else 0) else 0) f)) (sym h)
      by_fourth false h =
          ap (λ b. piece_done ids (Assign (result 0 c) (if b then calculation formula.TypedOne s.address (Number p) (Length s.binding) nought nought else same nought)) f) (never (nat_lt 0 p) (c == 3) h)
          ∙ ap (λ k. Some (with_variable (result 0 c) k f)) (sym (nothing (nat_lt x (length ws / p)) 0 refl))
          ∙ ap (λ b. Some (with_variable (result 0 c) (if nat_lt x (length ws / p) then (if b then 1 else 0) else 0) f)) (sym h)

  load_by : (form : Form) → HasWords form → piece_done ids (piece_by form) f ≡ Some (with_variable (result 0 c) (given form p ws x y c) f)
  unfolding piece_by
  load_by Raw has = by_form ids s c (Fetch (result 0 c)) f lc few limit Raw refl ∙ ap (λ g. Some g) (fetch_at ids s.binding (result 0 c) f (model.place_by Raw p (length ws) x y c))
  load_by Structured has = by_size (nat_lt 0 (p / 4)) refl
    where
      by_size : (t : Bool) → nat_lt 0 (p / 4) ≡ t → piece_done ids (if nat_lt 0 (p / 4) then Reach (inside_by Structured s c) s.binding (place_by Structured s c) (Fetch (result 0 c)) else Assign (result 0 c) (same nought)) f ≡ Some (with_variable (result 0 c) (given Structured p ws x y c) f)
      by_size true e =
          ap (λ b. piece_done ids (if b then Reach (inside_by Structured s c) s.binding (place_by Structured s c) (Fetch (result 0 c)) else Assign (result 0 c) (same nought)) f) e
          ∙ by_form ids s c (Fetch (result 0 c)) f lc few limit Structured e
          ∙ ap (λ g. Some g) (fetch_at ids s.binding (result 0 c) f (model.place_by Structured p (length ws) x y c))
      by_size false e =
          let none = ltb-false 0 (p / 4) e in
          ap (λ b. piece_done ids (if b then Reach (inside_by Structured s c) s.binding (place_by Structured s c) (Fetch (result 0 c)) else Assign (result 0 c) (same nought)) f) e
          ∙ ap (λ b. Some (with_variable (result 0 c) (model.word_at ws (if b then Some (x * (p / 4) + (y / 4 + c)) else None)) f)) (sym (never (nat_lt x (length ws / (p / 4))) (nat_lt (y / 4 + c) (p / 4)) (le-ltb (y / 4 + c) (p / 4) (omega (arith, none)))))
  load_by Typed has = by_size (nat_lt c p) refl
    where
      by_size : (t : Bool) → nat_lt c p ≡ t → piece_done ids (if nat_lt c p then Reach (inside_by Typed s c) s.binding (place_by Typed s c) (Fetch (result 0 c)) else Assign (result 0 c) (missing Typed s c)) f ≡ Some (with_variable (result 0 c) (given Typed p ws x y c) f)
      by_size true e =
          ap (λ b. piece_done ids (if b then Reach (inside_by Typed s c) s.binding (place_by Typed s c) (Fetch (result 0 c)) else Assign (result 0 c) (missing Typed s c)) f) e
          ∙ by_form ids s c (Fetch (result 0 c)) f lc few limit Typed e
          ∙ ap (λ g. Some g) (fetch_at ids s.binding (result 0 c) f (model.place_by Typed p (length ws) x y c))
          ∙ ap (λ k. Some (with_variable (result 0 c) k f)) (typed_word e)
      by_size false e =
          ap (λ b. piece_done ids (if b then Reach (inside_by Typed s c) s.binding (place_by Typed s c) (Fetch (result 0 c)) else Assign (result 0 c) (missing Typed s c)) f) e
          ∙ missed_typed has e

  -- the piece of a component gives what the load gives
  pub load_piece_done : HasWords s.form → piece_done ids (load_piece s c) f ≡ Some (with_variable (result 0 c) (given s.form p ws x y c) f)
  unfolding piece_by
  load_piece_done has = load_by s.form has
