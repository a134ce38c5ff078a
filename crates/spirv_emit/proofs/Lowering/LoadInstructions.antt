-- A load's pieces leave in a frame what the load leaves in a state.
use Rattle.std.proofs.Common.{◌≡◌, ℕ, ◌<◌, ◌≤◌, true, List, length, Option, Some, None, refl, sym, ap, ◌∙◌, subst, arith}
use Rattle.shader_model.specs.declared.ids.Ids.{Ids}
use Rattle.shader_model.specs.declared.tree.Declared.{Declared}
use Rattle.shader_model.specs.declared.tree.Target.{Target}
use Rattle.shader_model.specs.Words.{bit}
use Rattle.shader_model.specs.Invocation as model
use Rattle.shader_model.specs.Invocation.{State, with_target}
use Rattle.spirv_model.specs.Meaning.Bindings.{words_at}
use Rattle.spirv_emit.specs.declared.piece.Leaf.{Leaf}
use Rattle.spirv_emit.specs.declared.piece.Leaf.TheVariants.{Variable}
use Rattle.spirv_emit.specs.declared.piece.Spot.{Spot}
use Rattle.spirv_emit.specs.Lower.{result, each_masked, load_piece, loads, taken}
use Rattle.spirv_emit.specs.Frames.{Frame, with_variable, leaf_word, piece_done, pieces_done}
use Rattle.spirv_emit.proofs.Meaning.CodeStretches.{Shows}
use Rattle.spirv_emit.proofs.Lowering.SourceLeaves.{ThreeIds, Near}
use Rattle.spirv_emit.proofs.Lowering.Assignments.{then_pieces, put_masked, masked_keeps, shows_scratch}
use Rattle.spirv_emit.proofs.Lowering.ComputingInstructions.{TargetHas, near_kept, masked_has, put_taken, taken_done, taken_shows}
use Rattle.spirv_emit.proofs.Lowering.LoadedWords.{any_masked, given, HasWords, load_piece_done}

module _ (ds : List Declared) (temps : ℕ) (ids : Ids) (three_ids : ThreeIds ids) (s : Spot) (few : s.parameter ≤ 2048) where
  -- what the components of a load are in a frame
  abbrev pub load_words : Frame → (component : ℕ) → ℕ
  load_words f c = given s.form s.parameter (words_at f.slots s.binding) (leaf_word ids f s.address) (leaf_word ids f s.offset) c

  -- the address and the offset stay while results are written
  abbrev pub Stays : Frame → Leaf → Type 0
  Stays f l = (g : Frame) → Near ds temps ids three_ids f g → leaf_word ids g l ≡ leaf_word ids f l

  pub record LoadsDo (t : Option Target) (f : Frame) (state : State) : Type 0 where
    pub frame : Frame
    pub does : pieces_done ids (loads s t) f ≡ Some frame
    pub shows : Shows temps frame (record state { temps = with_target t (load_words f) state.temps })

  pub loads_do : (t : Option Target) (f : Frame) (state : State) → TargetHas ds temps ids three_ids t → length (words_at f.slots s.binding) ≤ 4194304 → ((c : ℕ) (g : Frame) (lc : c < 4) (limit : length (words_at g.slots s.binding) ≤ 4194304) → HasWords ids s c g lc few limit s.form) → Stays f s.address → Stays f s.offset → Shows temps f state → LoadsDo t f state
  loads_do None f state has limit some a o sh = record { frame = f; does = refl; shows = sh }
  loads_do (Some t) f state has limit some a o sh =
      let w = load_words f in
      let near0 : Near ds temps ids three_ids f f = record { slots = refl; variables = λ x c. refl } in
      let f1 = put_masked t.mask (result 0) w f in
      let value : (c : ℕ) (g : Frame) → c < 4 → Near ds temps ids three_ids f g → piece_done ids (load_piece s c) g ≡ Some (with_variable (result 0 c) (load_words f c) g) = λ c g lc near.
      let same = ap (λ (z : model.Slots). words_at z s.binding) near.slots in
      let few_words : length (words_at g.slots s.binding) ≤ 4194304 = subst (λ (zs : List ℕ). length zs ≤ 4194304) (sym same) limit in
      load_piece_done ids s c g lc few few_words (some c g lc few_words)
      ∙ ap (λ (zs : List ℕ). Some (with_variable (result 0 c) (given s.form s.parameter zs (leaf_word ids g s.address) (leaf_word ids g s.offset) c) g)) same
      ∙ ap (λ k. Some (with_variable (result 0 c) (given s.form s.parameter (words_at f.slots s.binding) k (leaf_word ids g s.offset) c) g)) (a g near)
      ∙ ap (λ k. Some (with_variable (result 0 c) (given s.form s.parameter (words_at f.slots s.binding) (leaf_word ids f s.address) k c) g)) (o g near) in
      let e1 = any_masked (Near ds temps ids three_ids f) (result 0) (λ c v g lc z. near_kept ds temps ids three_ids f g 0 c v (omega arith) lc z) ids t.mask (load_piece s) w f near0 value in
      let sh1 = masked_keeps (λ g. Shows temps g state) (result 0) (λ c v g lc z. shows_scratch temps g state (result 0 c) v (omega arith) (omega arith) z) t.mask w f sh in
      let read : (c : ℕ) → c < 4 → bit c t.mask ≡ true → f1.variables (result 0 c) ≡ w c = λ c lc e. masked_has (result 0) w (λ i j li lj ne. λ (z : result 0 i ≡ result 0 j). ne (omega arith)) t.mask f c lc e in
      let f2 = put_taken ds temps ids three_ids (Some t) 0 f1 f1 in
      let e2 = taken_done ds temps ids three_ids (Some t) 0 f1 f1 (omega arith) (λ x lo hi. refl) in
      record {
        frame = f2;
        does = then_pieces ids (each_masked t.mask (load_piece s)) (taken (Some t) (λ c. Variable (result 0 c))) f f1 f2 e1 e2;
        shows = taken_shows ds temps ids three_ids (Some t) 0 f1 f1 state w has read sh1;
      }
