-- The pieces of a store leave in a view what the store leaves there.
use Rattle.std.proofs.Common.{◌≡◌, ℕ, ◌+◌, ◌*◌, ◌/◌, ◌<◌, ◌≤◌, Bool, true, false, if◌then◌else◌, List, [], ◌++◌, length, Option, Some, None, refl, sym, ap, ◌∙◌, subst, arith}
use Rattle.std.specs.Prelude.{◌==◌, ◌&&◌, nat_lt, slice_index_or, slice_set}
use Rattle.std.proofs.lemmas.Bool.{ltb-true, ltb-false, le-ltb}
use Rattle.dx_types.specs.declared.shape.Form.{Form}
use Rattle.dx_types.specs.declared.shape.Form.TheVariants.{Raw, Structured, Typed}
use Rattle.shader_model.specs.declared.ids.Ids.{Ids}
use Rattle.shader_model.specs.declared.tree.Declared.{Declared}
use Rattle.shader_model.specs.declared.tree.Operand.{Operand}
use Rattle.shader_model.specs.declared.tree.SlotUse.{SlotUse}
use Rattle.shader_model.specs.declared.tree.Instr.{Instr}
use Rattle.shader_model.specs.Words.{bit, picked}
use Rattle.shader_model.specs.Invocation as model
use Rattle.shader_model.specs.Invocation.{Slots, words_in, stored}
use Rattle.spirv_model.specs.Meaning.Bindings.{with_word}
use Rattle.spirv_emit.specs.declared.piece.Vector.TheVariants.{Group, Thread, Global}
use Rattle.spirv_emit.specs.declared.piece.Leaf.{Leaf}
use Rattle.spirv_emit.specs.declared.piece.Leaf.TheVariants.{Component}
use Rattle.spirv_emit.specs.declared.piece.Action.TheVariants.{Write}
use Rattle.spirv_emit.specs.declared.piece.Piece.{Piece}
use Rattle.spirv_emit.specs.Lower.{nought, leaf_of, leaf_of_some, source, temporary, fetched, only_if, binding_of, may_reach, reach, spot, store_piece, stores}
use Rattle.spirv_emit.specs.Frames.{Frame, leaf_word, then_frame, piece_done, pieces_done}
use Rattle.spirv_emit.proofs.Lowering.Assignments.{then_pieces}
use Rattle.spirv_emit.proofs.Lowering.ViewAccess.{element_inside, and_parts, done_at, reach_done}
use Rattle.spirv_emit.proofs.Lowering.LoadedWords.{never}
use Rattle.spirv_emit.proofs.Lowering.ViewWords.{Viewed, word_viewed}

-- ## The word that an access names

if_some : (t : Bool) (v i : ℕ) → (if t then Some v else None) ≡ Some i → (t ≡ true) × (v ≡ i)
if_some true v i e = (refl, cc)
if_some false v i e = cc

-- it is one of the view's
pub place_inside : (form : Form) (p n x y c i : ℕ) → model.place_by form p n x y c ≡ Some i → i < n
place_inside Raw p n x y c i e =
    let q = if_some (nat_lt (x / 4 + c) n) (x / 4 + c) i e in
    subst (λ k. k < n) q.1 (ltb-true (x / 4 + c) n q.0)
place_inside Structured p n x y c i e =
    let q = if_some (nat_lt x (n / (p / 4)) && nat_lt (y / 4 + c) (p / 4)) (x * (p / 4) + (y / 4 + c)) i e in
    let r = and_parts (nat_lt x (n / (p / 4))) (nat_lt (y / 4 + c) (p / 4)) q.0 in
    subst (λ k. k < n) q.1 (element_inside x (y / 4 + c) (p / 4) n (ltb-true x (n / (p / 4)) r.0) (ltb-true (y / 4 + c) (p / 4) r.1))
place_inside Typed p n x y c i e =
    let q = if_some (nat_lt x (n / p) && nat_lt c p) (x * p + c) i e in
    let r = and_parts (nat_lt x (n / p)) (nat_lt c p) q.0 in
    subst (λ k. k < n) q.1 (element_inside x c p n (ltb-true x (n / p) r.0) (ltb-true c p r.1))

-- there is none where no access may reach
pub place_none : (form : Form) (p n x y c : ℕ) → may_reach form p c ≡ false → model.place_by form p n x y c ≡ None
place_none Raw p n x y c e = cc
place_none Structured p n x y c e =
    let none = ltb-false 0 (p / 4) e in
    ap (λ t. if t then Some (x * (p / 4) + (y / 4 + c)) else None) (never (nat_lt x (n / (p / 4))) (nat_lt (y / 4 + c) (p / 4)) (le-ltb (y / 4 + c) (p / 4) (omega (arith, none))))
place_none Typed p n x y c e = ap (λ t. if t then Some (x * p + c) else None) (never (nat_lt x (n / p)) (nat_lt c p) e)

-- ## The leaves of sources have their words in each frame with the same variables

module _ (ids : Ids) (f g : Frame) (same : g.variables ≡ f.variables) where
  abbrev Still : Leaf → Type 0
  Still l = leaf_word ids g l ≡ leaf_word ids f l

  if_still : (b : Bool) (x y : Leaf) → Still x → Still y → Still (if b then x else y)
  if_still true x y hx hy = hx
  if_still false x y hx hy = hy

  leaf_still : (j i : ℕ) (o : Operand) → Still (leaf_of j o i)
  leaf_still j i o =
      let c = picked o.swizzle i in
      if_still (o.file == 0) _ _ (ap (λ (v : ℕ → ℕ). v (temporary o.index c)) same)
      (if_still (o.file == 1) _ _ refl
      (if_still (o.file == 2) _ _ (ap (λ (v : ℕ → ℕ). v (fetched j i)) same)
      (if_still (o.file == 3) _ _ (if_still (nat_lt c 3) (Component Global c) nought refl refl)
      (if_still (o.file == 4) _ _ (if_still (nat_lt c 3) (Component Group c) nought refl refl)
      (if_still (o.file == 5) _ _ (if_still (nat_lt c 3) (Component Thread c) nought refl refl) refl)))))

  maybe_still : (j c : ℕ) (q : Option Operand) → Still (leaf_of_some j q c)
  maybe_still j c None = refl
  maybe_still j c (Some o) = leaf_still j c o

  pub source_still : (i : Instr) (j c : ℕ) → leaf_word ids g (source i j c) ≡ leaf_word ids f (source i j c)
  source_still i j c = maybe_still j c (slice_index_or i.sources j None)

-- ## Stores

-- a leaf has a word in each frame with the same variables as this
abbrev pub HasWord : Ids → Frame → Leaf → ℕ → Type 0
HasWord ids f l x = (g : Frame) → g.variables ≡ f.variables → leaf_word ids g l ≡ x

module _ (ids : Ids) (u : SlotUse) (d : Declared) (writes : u.writable ≡ true) (lt : u.slot < 8) (few : d.parameter ≤ 2048) (z : Slots) (f : Frame) (a o : Leaf) (x y : ℕ) (value : ℕ → Leaf) (word : ℕ → ℕ) (at_a : HasWord ids f a x) (at_o : HasWord ids f o y) (at_value : (c : ℕ) → c < 4 → HasWord ids f (value c) (word c)) where
  abbrev Shown : Frame → List ℕ → Type 0
  Shown g words = Viewed u writes lt z f g words

  abbrev b : ℕ
  b = binding_of u

  -- a frame after some pieces, and the words of the view in it
  pub record Puts (ps : List Piece) (g : Frame) (words : List ℕ) : Type 0 where
    pub frame : Frame
    pub does : pieces_done ids ps g ≡ Some frame
    pub viewed : Viewed u writes lt z f frame words

  after : (c : ℕ) (g : Frame) (words : List ℕ) (q : Option ℕ) → c < 4 → Shown g words → ((i : ℕ) → q ≡ Some i → i < length words) → Shown (done_at ids b (Write (value c)) g q) (model.with_word words q (word c))
  after c g words None lc h inside = h
  after c g words (Some i) lc h inside =
      subst (λ k. Shown (record g { slots = with_word b i k g.slots }) (slice_set words i (word c))) (sym (at_value c lc g h.variables)) (word_viewed u writes lt z f g words i (word c) (inside i refl) h)

  reached : (c : ℕ) (g : Frame) (words : List ℕ) → c < 4 → Shown g words → may_reach d.form d.parameter c ≡ true → piece_done ids (reach (spot u d a o) c (Write (value c))) g ≡ Some (done_at ids b (Write (value c)) g (model.place d words x y c))
  reached c g words lc h m =
      reach_done ids (spot u d a o) c (Write (value c)) g lc few (subst (λ (ws : List ℕ). length ws ≤ 4194304) (sym h.here) h.few) m
      ∙ ap (λ (ws : List ℕ). Some (done_at ids b (Write (value c)) g (model.place_by d.form d.parameter (length ws) (leaf_word ids g a) (leaf_word ids g o) c))) h.here
      ∙ ap (λ k. Some (done_at ids b (Write (value c)) g (model.place_by d.form d.parameter (length words) k (leaf_word ids g o) c))) (at_a g h.variables)
      ∙ ap (λ k. Some (done_at ids b (Write (value c)) g (model.place_by d.form d.parameter (length words) x k c))) (at_o g h.variables)

  by_bits : (c : ℕ) (g : Frame) (words : List ℕ) → c < 4 → Shown g words → (t r : Bool) → may_reach d.form d.parameter c ≡ r → Puts (only_if (t && r) (reach (spot u d a o) c (Write (value c)))) g (if t then model.with_word words (model.place d words x y c) (word c) else words)
  by_bits c g words lc h true true e = record {
    frame = done_at ids b (Write (value c)) g (model.place d words x y c);
    does = ap (λ q. then_frame q (pieces_done ids [])) (reached c g words lc h e);
    viewed = after c g words (model.place d words x y c) lc h (λ i is. place_inside d.form d.parameter (length words) x y c i is);
  }
  by_bits c g words lc h true false e = record {
    frame = g;
    does = refl;
    viewed = subst (λ (q : Option ℕ). Shown g (model.with_word words q (word c))) (sym (place_none d.form d.parameter (length words) x y c e)) h;
  }
  by_bits c g words lc h false r e = record { frame = g; does = refl; viewed = h }

  one_store : (m c : ℕ) (g : Frame) (words : List ℕ) → c < 4 → Shown g words → Puts (store_piece (spot u d a o) (value c) m c) g (stored d m x y word c words)
  one_store m c g words lc h = by_bits c g words lc h (bit c m) (may_reach d.form d.parameter c) refl

  pub all_stores : (m : ℕ) (g : Frame) (words : List ℕ) → Viewed u writes lt z f g words → Puts (stores (spot u d a o) m value) g (stored d m x y word 3 (stored d m x y word 2 (stored d m x y word 1 (stored d m x y word 0 words))))
  all_stores m g words h =
      let s0 = one_store m 0 g words (omega arith) h in
      let s1 = one_store m 1 s0.frame _ (omega arith) s0.viewed in
      let s2 = one_store m 2 s1.frame _ (omega arith) s1.viewed in
      let s3 = one_store m 3 s2.frame _ (omega arith) s2.viewed in
      let p : ℕ → List Piece = λ c. store_piece (spot u d a o) (value c) m c in
      record {
        frame = s3.frame;
        does = then_pieces ids (p 0) (p 1 ++ (p 2 ++ p 3)) g s0.frame s3.frame s0.does (then_pieces ids (p 1) (p 2 ++ p 3) s0.frame s1.frame s3.frame s1.does (then_pieces ids (p 2) (p 3) s1.frame s2.frame s3.frame s2.does s3.does));
        viewed = s3.viewed;
      }
