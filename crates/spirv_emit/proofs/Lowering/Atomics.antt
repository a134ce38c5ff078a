-- The pieces of an atomic leave the new word in the view, and the old one in the destination.
use Rattle.std.proofs.Common.{◌≡◌, ℕ, ◌<◌, ◌≤◌, Bool, true, false, if◌then◌else◌, List, length, Option, Some, None, refl, sym, ap, ◌∙◌, subst, arith}
use Rattle.std.specs.Prelude.{slice_index}
use Rattle.std.proofs.lemmas.Bool.{ne_eqb}
use Rattle.shader_model.specs.declared.ids.Ids.{Ids}
use Rattle.shader_model.specs.declared.tree.Declared.{Declared}
use Rattle.shader_model.specs.declared.tree.Target.{Target}
use Rattle.shader_model.specs.declared.tree.SlotUse.{SlotUse}
use Rattle.shader_model.specs.Invocation as model
use Rattle.shader_model.specs.Invocation.{State, words_in, with_target}
use Rattle.spirv_model.specs.Meaning.Values.{Word}
use Rattle.spirv_model.specs.Meaning.Bindings.{words_at, with_word}
use Rattle.spirv_emit.specs.declared.piece.Leaf.{Leaf}
use Rattle.spirv_emit.specs.declared.piece.Leaf.TheVariants.{Variable}
use Rattle.spirv_emit.specs.declared.piece.Action.{Action}
use Rattle.spirv_emit.specs.declared.piece.Piece.{Piece}
use Rattle.spirv_emit.specs.declared.piece.Piece.TheVariants.{Assign}
use Rattle.spirv_emit.specs.Lower.{nought, same, temporary, result, taken, binding_of, may_reach, reach, spot, atomic_piece, atomics}
use Rattle.spirv_emit.specs.Frames.{Frame, with_variable, leaf_word, acted, missed, then_frame, piece_done, pieces_done}
use Rattle.spirv_emit.proofs.Meaning.CodeStretches.{Shows}
use Rattle.spirv_emit.proofs.Lowering.SourceLeaves.{ThreeIds}
use Rattle.spirv_emit.proofs.Lowering.Assignments.{put_masked, masked_done, shows_scratch, shows_target}
use Rattle.spirv_emit.proofs.Lowering.ComputingInstructions.{TargetHas}
use Rattle.spirv_emit.proofs.Lowering.ViewAccess.{done_at, reach_done}
use Rattle.spirv_emit.proofs.Lowering.ViewWords.{with_writes, Viewed, own_viewed, word_viewed, viewed_shows}
use Rattle.spirv_emit.proofs.Lowering.StoredWords.{place_inside, place_none}

-- An action leaves a new word by the old one, and has the old word in a variable; 0 where there is none.
pub record Changes (ids : Ids) (b : ℕ) (act : Action) (new : ℕ → ℕ) (f : Frame) : Type 0 where
  pub acts : (i : ℕ) → acted ids b i act f ≡ with_variable (result 0 0) (slice_index (words_at f.slots b) i) (record f { slots = with_word b i (new (slice_index (words_at f.slots b) i)) f.slots })
  pub misses : missed act f ≡ with_variable (result 0 0) 0 f

module _ (ids : Ids) (u : SlotUse) (d : Declared) (writes : u.writable ≡ true) (lt : u.slot < 8) (few : d.parameter ≤ 2048) (temps : ℕ) (f : Frame) (s : State) (sh : Shows temps f s) (a o : Leaf) (x y : ℕ) (at_a : leaf_word ids f a ≡ x) (at_o : leaf_word ids f o ≡ y) (act : Action) (new : ℕ → ℕ) (changes : Changes ids (binding_of u) act new f) where
  abbrev b : ℕ
  b = binding_of u

  abbrev ws : List ℕ
  ws = words_in s.slots.writes u.slot

  abbrev q : Option ℕ
  q = model.place d ws x y 0

  abbrev old : ℕ
  old = model.word_at ws q

  own : length (words_in s.slots.writes u.slot) ≤ 4194304 → Viewed u writes lt s.slots f f (words_in s.slots.writes u.slot)
  own limit = own_viewed u writes lt f s.slots sh.slots limit

  -- a frame that has the changed word, and is the given one but for the variable of the old word
  record Under (r : Option ℕ) (g : Frame) : Type 0 where
    frame : Frame
    is : g ≡ with_variable (result 0 0) (model.word_at ws r) frame
    viewed : Viewed u writes lt s.slots f frame (model.with_word ws r (new (model.word_at ws r)))

  by_place : (r : Option ℕ) → length ws ≤ 4194304 → ((i : ℕ) → r ≡ Some i → i < length ws) → Under r (done_at ids b act f r)
  by_place None limit inside = record { frame = f; is = changes.misses; viewed = own limit }
  by_place (Some i) limit inside =
      let h = own limit in
      let v = new (slice_index ws i) in
      record {
        frame = record f { slots = with_word b i v f.slots };
        is = changes.acts i ∙ ap (λ (zs : List ℕ). with_variable (result 0 0) (slice_index zs i) (record f { slots = with_word b i (new (slice_index zs i)) f.slots })) h.here;
        viewed = word_viewed u writes lt s.slots f f ws i v (inside i refl) h;
      }

  -- what the piece of the access does: the old word is in a variable, the new one in the view
  record OnceDone (p : Piece) : Type 0 where
    frame : Frame
    does : piece_done ids p f ≡ Some (with_variable (result 0 0) old frame)
    viewed : Viewed u writes lt s.slots f frame (model.with_word ws q (new old))

  once_by : (t : Bool) → length ws ≤ 4194304 → may_reach d.form d.parameter 0 ≡ t → OnceDone (if t then reach (spot u d a o) 0 act else Assign (result 0 0) (same nought))
  once_by true limit e =
      let h = own limit in
      let r = by_place q limit (λ i is. place_inside d.form d.parameter (length ws) x y 0 i is) in
      record {
        frame = r.frame;
        does = reach_done ids (spot u d a o) 0 act f (omega arith) few (subst (λ (zs : List ℕ). length zs ≤ 4194304) (sym h.here) limit) e
            ∙ ap (λ (zs : List ℕ). Some (done_at ids b act f (model.place_by d.form d.parameter (length zs) (leaf_word ids f a) (leaf_word ids f o) 0))) h.here
            ∙ ap (λ k. Some (done_at ids b act f (model.place_by d.form d.parameter (length ws) k (leaf_word ids f o) 0))) at_a
            ∙ ap (λ k. Some (done_at ids b act f (model.place_by d.form d.parameter (length ws) x k 0))) at_o
            ∙ ap (λ g. Some g) r.is;
        viewed = r.viewed;
      }
  once_by false limit e =
      let none = place_none d.form d.parameter (length ws) x y 0 e in
      record {
        frame = f;
        does = ap (λ (r : Option ℕ). Some (with_variable (result 0 0) (model.word_at ws r) f)) (sym none);
        viewed = subst (λ (r : Option ℕ). Viewed u writes lt s.slots f f (model.with_word ws r (new (model.word_at ws r)))) (sym none) (own limit);
      }

  once : length ws ≤ 4194304 → OnceDone (atomic_piece (spot u d a o) act)
  once limit = once_by (may_reach d.form d.parameter 0) limit refl

  -- the state once the word was changed
  abbrev changed : State
  changed = record s { slots = with_writes u.slot (model.with_word ws q (new old)) s.slots }

  pub record AtomicsDo (t : Option Target) : Type 0 where
    pub frame : Frame
    pub does : pieces_done ids (atomics (spot u d a o) t act) f ≡ Some frame
    pub shows : Shows temps frame (record changed { temps = with_target t (λ c. old) s.temps })

  module _ (ds : List Declared) (three_ids : ThreeIds ids) where
    -- the old word into the destination
    record TakesOld (t : Option Target) (g : Frame) : Type 0 where
      frame : Frame
      does : pieces_done ids (taken t (λ c. Variable (result 0 0))) g ≡ Some frame
      shows : Shows temps frame (record changed { temps = with_target t (λ c. old) s.temps })

    takes_old : (t : Option Target) (g : Frame) → TargetHas ds temps ids three_ids t → g.variables (result 0 0) ≡ old → Shows temps g changed → TakesOld t g
    takes_old None g has e h = record { frame = g; does = refl; shows = h }
    takes_old (Some t) g has e h = record {
      frame = put_masked t.mask (temporary t.index) (λ c. old) g;
      does = masked_done (λ k. k.variables (result 0 0) ≡ old) (temporary t.index)
          (λ c v k lc h'. ap (λ (r : Bool). if r then v else k.variables (result 0 0)) (ne_eqb (result 0 0) (temporary t.index c) (λ (z : result 0 0 ≡ temporary t.index c). absurd (omega arith))) ∙ h')
          ids t.mask (λ c. same (Variable (result 0 0))) (λ c. old) g e
          (λ c k lc h'. ap (λ v. Some (Word v)) h');
      shows = shows_target temps g changed t (λ c. old) has h;
    }

    pub atomics_do : (t : Option Target) → TargetHas ds temps ids three_ids t → length (words_in s.slots.writes u.slot) ≤ 4194304 → AtomicsDo t
    atomics_do t has limit =
        let d1 = once limit in
        let g = with_variable (result 0 0) old d1.frame in
        let sh1 = shows_scratch temps d1.frame changed (result 0 0) old (omega arith) (omega arith) (viewed_shows u writes lt temps f d1.frame s (model.with_word ws q (new old)) sh d1.viewed) in
        let r = takes_old t g has refl sh1 in
        record {
          frame = r.frame;
          does = ap (λ k. then_frame k (pieces_done ids (taken t (λ c. Variable (result 0 0))))) d1.does ∙ r.does;
          shows = r.shows;
        }
