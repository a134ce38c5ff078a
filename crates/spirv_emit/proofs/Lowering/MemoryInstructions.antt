-- The pieces of loads, stores and atomics name what is there, and do what the instructions do.
use Rattle.std.proofs.Common.{◌≡◌, ℕ, ◌+◌, ◌*◌, ◌/◌, ◌<◌, ◌≤◌, Bool, true, false, if◌then◌else◌, List, ◌++◌, length, Option, Some, None, refl, sym, ap, ◌∙◌, subst, arith}
use Rattle.std.specs.Prelude.{◌==◌, ◌&&◌, nat_lt}
use Rattle.std.proofs.lemmas.Bool.Decides.{nat_tests}
use Rattle.dx_types.specs.declared.shape.Form.{Form}
use Rattle.dx_types.specs.declared.shape.Form.TheVariants.{Raw, Structured, Typed}
use Rattle.shader_model.specs.declared.ids.Ids.{Ids}
use Rattle.shader_model.specs.declared.tree.Declared.{Declared}
use Rattle.shader_model.specs.declared.tree.Target.{Target}
use Rattle.shader_model.specs.declared.tree.SlotUse.{SlotUse}
use Rattle.shader_model.specs.declared.tree.Instr.{Instr}
use Rattle.shader_model.specs.Words.{bit}
use Rattle.shader_model.specs.Faults.{takes_parameter}
use Rattle.shader_model.specs.Invocation as model
use Rattle.shader_model.specs.Invocation.{State, View, words_in, view_words, with_target, loaded, load, stored, store, change}
use Rattle.spirv_model.specs.Meaning.Bindings.{words_at}
use Rattle.spirv_emit.specs.declared.formula.Formula.TheVariants as formula
use Rattle.spirv_emit.specs.declared.piece.Leaf.{Leaf}
use Rattle.spirv_emit.specs.declared.piece.Leaf.TheVariants.{Number, Variable, Length}
use Rattle.spirv_emit.specs.declared.piece.Calculation.{Calculation}
use Rattle.spirv_emit.specs.declared.piece.Action.{Action}
use Rattle.spirv_emit.specs.declared.piece.Action.TheVariants.{Fetch, Write}
use Rattle.spirv_emit.specs.declared.piece.Piece.{Piece}
use Rattle.spirv_emit.specs.declared.piece.Piece.TheVariants.{Assign}
use Rattle.spirv_emit.specs.Layout.{Layout}
use Rattle.spirv_emit.specs.Numbers.{has, own_numbers}
use Rattle.spirv_emit.specs.Lower.{nought, same, result, each_masked, taken, binding_of, may_reach, inside_by, place_by, reach, missing, spot, load_piece, loads, store_piece, stores, atomics}
use Rattle.spirv_emit.specs.Frames.{Frame, leaf_word, pieces_done}
use Rattle.spirv_emit.proofs.Meaning.HeldFrames.{Pool, LeafFits}
use Rattle.spirv_emit.proofs.Meaning.Calculations.{CalculationFits}
use Rattle.spirv_emit.proofs.Meaning.WordActions.{ActionFits}
use Rattle.spirv_emit.proofs.Meaning.Pieces.{PieceFits, PiecesFit}
use Rattle.spirv_emit.proofs.Meaning.CodeStretches.{Shows}
use Rattle.spirv_emit.proofs.Lowering.SourceLeaves.{ThreeIds, Near}
use Rattle.spirv_emit.proofs.Lowering.ComputingInstructions.{TargetHas}
use Rattle.spirv_emit.proofs.Lowering.NamesInRange.{calculation_fits, same_fits, append_fits, only_fits, masked_fits, taken_all_fit}
use Rattle.spirv_emit.proofs.Lowering.LoadedWords.{given, HasWords}
use Rattle.spirv_emit.proofs.Lowering.LoadInstructions.{load_words, loads_do}
use Rattle.spirv_emit.proofs.Lowering.ViewWords.{SlotBelow, view_here, binding_below, with_writes, is_written, own_viewed, viewed_shows}
use Rattle.spirv_emit.proofs.Lowering.StoredWords.{HasWord, all_stores}
use Rattle.spirv_emit.proofs.Lowering.Atomics.{Changes, atomics_do}

-- ## What forms take

few_words : (form : Form) (p : ℕ) → takes_parameter form p ≡ true → p ≤ 2048
few_words Raw p e = grind (arith, nat_tests)
few_words Structured p e = grind (arith, nat_tests)
few_words Typed p e = grind (arith, nat_tests)

typed_words : (p : ℕ) → takes_parameter Typed p ≡ true → 0 < p
typed_words p e = grind (arith, nat_tests)

-- what a load's pieces give is what the load gives
given_is : (d : Declared) (form : Form) → d.form ≡ form → (ws : List ℕ) (x y : ℕ) (t : Option Target) (temps : List ℕ) → with_target t (λ c. given form d.parameter ws x y c) temps ≡ with_target t (λ c. loaded form d ws x y c) temps
given_is d Raw e ws x y t temps = ap (λ k. with_target t (λ c. model.word_at ws (model.place_by k d.parameter (length ws) x y c)) temps) (sym e)
given_is d Structured e ws x y t temps = ap (λ k. with_target t (λ c. model.word_at ws (model.place_by k d.parameter (length ws) x y c)) temps) (sym e)
given_is d Typed e ws x y t temps =
    ap (λ k. with_target t (λ c. if nat_lt x (length ws / d.parameter) then (if nat_lt c d.parameter then model.word_at ws (model.place_by k d.parameter (length ws) x y c) else model.missing c) else 0) temps) (sym e)

module _ (at : Layout) (Has : ℕ → Type 0) (pool : Pool at Has) (ids : Ids) (own : (v : ℕ) → has own_numbers v ≡ true → Has v) (ds : List Declared) (temps : ℕ) (many : at.variables ≡ 25 + 4 * temps) (three_ids : ThreeIds ids) where
  -- pieces that name what is there lead from a frame to one that has this state
  pub record PiecesDo (ps : List Piece) (f : Frame) (s : State) : Type 0 where
    pub frame : Frame
    pub fits : PiecesFit at Has pool ids ps
    pub does : pieces_done ids ps f ≡ Some frame
    pub shows : Shows temps frame s

  module _ (u : SlotUse) (d : Declared) (below : SlotBelow u) (takes : takes_parameter d.form d.parameter ≡ true) (has_parameter : Has d.parameter) (has_words : Has (d.parameter / 4)) where
    abbrev Fit : Piece → Type 0
    Fit p = PieceFits at Has pool ids p

    abbrev Leaves : Leaf → Type 0
    Leaves l = LeafFits at Has pool ids l

    abbrev Calculates : Calculation → Type 0
    Calculates c = CalculationFits at Has pool ids c

    abbrev b : ℕ
    b = binding_of u

    abbrev view : View
    view = record { name = u; declared = d }

    few : d.parameter ≤ 2048
    few = few_words d.form d.parameter takes

    zero_has : Has 0
    zero_has = own 0 refl

    -- ## What the pieces name

    module _ (a o : Leaf) (fa : LeafFits at Has pool ids a) (fo : LeafFits at Has pool ids o) (c : ℕ) (lc : c < 4) where
      component_has : Has c
      component_has = pool.bindings_have c (omega (arith, lc))

      inside_fits : (form : Form) → Calculates (inside_by form (spot u d a o) c)
      inside_fits Raw = calculation_fits at Has pool ids own formula.RawInside a (Number c) (Length b) nought nought fa component_has (binding_below u below) zero_has zero_has
      inside_fits Structured = calculation_fits at Has pool ids own formula.StructuredInside a o (Number c) (Number (d.parameter / 4)) (Length b) fa fo component_has has_words (binding_below u below)
      inside_fits Typed = calculation_fits at Has pool ids own formula.TypedInside a (Number d.parameter) (Length b) nought nought fa has_parameter (binding_below u below) zero_has zero_has

      place_fits : (form : Form) → Calculates (place_by form (spot u d a o) c)
      place_fits Raw = calculation_fits at Has pool ids own formula.RawPlace a (Number c) nought nought nought fa component_has zero_has zero_has zero_has
      place_fits Structured = calculation_fits at Has pool ids own formula.StructuredPlace a o (Number c) (Number (d.parameter / 4)) nought fa fo component_has has_words zero_has
      place_fits Typed = calculation_fits at Has pool ids own formula.TypedPlace a (Number d.parameter) (Number c) nought nought fa has_parameter component_has zero_has zero_has

      reach_fits : (act : Action) → ActionFits at Has pool ids (binding_of u) act → Fit (reach (spot u d a o) c act)
      reach_fits act fits = (inside_fits d.form, place_fits d.form, binding_below u below, fits)

      none_fits : Calculates (same nought)
      none_fits = same_fits at Has pool ids own nought zero_has

      if_calculates : (t : Bool) (x y : Calculation) → Calculates x → Calculates y → Calculates (if t then x else y)
      if_calculates true x y hx hy = hx
      if_calculates false x y hx hy = hy

      missing_fits : (form : Form) → Calculates (missing form (spot u d a o) c)
      missing_fits Raw = none_fits
      missing_fits Structured = none_fits
      missing_fits Typed = if_calculates (nat_lt 0 d.parameter && (c == 3)) _ _ (calculation_fits at Has pool ids own formula.TypedOne a (Number d.parameter) (Length b) nought nought fa has_parameter (binding_below u below) zero_has zero_has) none_fits

      if_piece : (t : Bool) (x y : Piece) → Fit x → Fit y → Fit (if t then x else y)
      if_piece true x y hx hy = hx
      if_piece false x y hx hy = hy

      load_piece_fits : Fit (load_piece (spot u d a o) c)
      load_piece_fits =
          let here : result 0 c < at.variables = omega (arith, many, lc) in
          let assigns : Fit (Assign (result 0 c) (missing d.form (spot u d a o) c)) = (here, missing_fits d.form) in
          if_piece (may_reach d.form d.parameter c) (reach (spot u d a o) c (Fetch (result 0 c))) (Assign (result 0 c) (missing d.form (spot u d a o) c)) (reach_fits (Fetch (result 0 c)) here) assigns

      store_piece_fits : (v : Leaf) (m : ℕ) → Leaves v → u.writable ≡ true → PiecesFit at Has pool ids (store_piece (spot u d a o) v m c)
      store_piece_fits v m fv writes =
          let lt : u.slot < 8 = subst (λ t. u.slot < (if t then 8 else 16)) writes below in
          only_fits at Has pool ids own ds temps many (bit c m && may_reach d.form d.parameter c) (reach (spot u d a o) c (Write v)) (reach_fits (Write v) (fv, is_written u writes lt))

      atomic_piece_fits : (act : Action) → ActionFits at Has pool ids (binding_of u) act → Fit (if may_reach d.form d.parameter c then reach (spot u d a o) c act else Assign (result 0 0) (same nought))
      atomic_piece_fits act fits =
          let here : result 0 0 < at.variables = omega (arith, many) in
          let assigns : Fit (Assign (result 0 0) (same nought)) = (here, none_fits) in
          if_piece (may_reach d.form d.parameter c) (reach (spot u d a o) c act) (Assign (result 0 0) (same nought)) (reach_fits act fits) assigns

    loads_fit : (a o : Leaf) (t : Option Target) → Leaves a → Leaves o → TargetHas ds temps ids three_ids t → PiecesFit at Has pool ids (loads (spot u d a o) t)
    loads_fit a o None fa fo has = tt
    loads_fit a o (Some t) fa fo has =
        let p : ℕ → Piece = λ c. load_piece (spot u d a o) c in
        append_fits at Has pool ids own ds temps many (each_masked t.mask (load_piece (spot u d a o))) (taken (Some t) (λ c. Variable (result 0 c)))
        (masked_fits at Has pool ids own ds temps many t.mask (p 0) (p 1) (p 2) (p 3) (load_piece_fits a o fa fo 0 (omega arith)) (load_piece_fits a o fa fo 1 (omega arith)) (load_piece_fits a o fa fo 2 (omega arith)) (load_piece_fits a o fa fo 3 (omega arith)))
        (taken_all_fit at Has pool ids own ds temps many (Some t) (λ c. Variable (result 0 c)) has (λ c lc. omega (arith, many)))

    stores_fit : (a o : Leaf) (m : ℕ) (value : ℕ → Leaf) → Leaves a → Leaves o → ((c : ℕ) → c < 4 → Leaves (value c)) → u.writable ≡ true → PiecesFit at Has pool ids (stores (spot u d a o) m value)
    stores_fit a o m value fa fo fv writes =
        let p : ℕ → List Piece = λ c. store_piece (spot u d a o) (value c) m c in
        let fit : (c : ℕ) → c < 4 → PiecesFit at Has pool ids (store_piece (spot u d a o) (value c) m c) = λ c lc. store_piece_fits a o fa fo c lc (value c) m (fv c lc) writes in
        let both = append_fits at Has pool ids own ds temps many in
        both (p 0) (p 1 ++ (p 2 ++ p 3)) (fit 0 (omega arith)) (both (p 1) (p 2 ++ p 3) (fit 1 (omega arith)) (both (p 2) (p 3) (fit 2 (omega arith)) (fit 3 (omega arith))))

    -- ## What they do

    module _ (i : Instr) (f : Frame) (s : State) (sh : Shows temps f s) (a o : Leaf) (x y : ℕ) (fa : LeafFits at Has pool ids a) (fo : LeafFits at Has pool ids o) where
      here : words_at f.slots b ≡ view_words u s.slots
      here = ap (λ (z : model.Slots). words_at z b) sh.slots ∙ view_here u s.slots below

      limit : length (words_at f.slots b) ≤ 4194304
      limit = subst (λ (z : model.Slots). length (words_at z b) ≤ 4194304) (sym sh.slots) (sh.limited b)

      words_there : (form : Form) (c : ℕ) (g : Frame) (lc : c < 4) (few_g : length (words_at g.slots b) ≤ 4194304) → takes_parameter form d.parameter ≡ true → HasWords ids (spot u d a o) c g lc few few_g form
      words_there Raw c g lc few_g e = tt
      words_there Structured c g lc few_g e = tt
      words_there Typed c g lc few_g e = typed_words d.parameter e

      pub loads_case : TargetHas ds temps ids three_ids i.first → leaf_word ids f a ≡ x → leaf_word ids f o ≡ y → ((g : Frame) → Near ds temps ids three_ids f g → leaf_word ids g a ≡ leaf_word ids f a) → ((g : Frame) → Near ds temps ids three_ids f g → leaf_word ids g o ≡ leaf_word ids f o) → PiecesDo (loads (spot u d a o) i.first) f (load (Some view) x y i s)
      loads_case has ea eo ka ko =
          let r = loads_do ds temps ids three_ids (spot u d a o) few i.first f s has limit (λ c g lc few_g. words_there d.form c g lc few_g takes) ka ko sh in
          let words : with_target i.first (load_words ds temps ids three_ids (spot u d a o) few f) s.temps ≡ with_target i.first (λ c. loaded d.form d (view_words u s.slots) x y c) s.temps =
          ap (λ (ws : List ℕ). with_target i.first (λ c. given d.form d.parameter ws (leaf_word ids f a) (leaf_word ids f o) c) s.temps) here
          ∙ ap (λ k. with_target i.first (λ c. given d.form d.parameter (view_words u s.slots) k (leaf_word ids f o) c) s.temps) ea
          ∙ ap (λ k. with_target i.first (λ c. given d.form d.parameter (view_words u s.slots) x k c) s.temps) eo
          ∙ given_is d d.form refl (view_words u s.slots) x y i.first s.temps in
          record {
            frame = r.frame;
            fits = loads_fit a o i.first fa fo has;
            does = r.does;
            shows = subst (λ (ts : List ℕ). Shows temps r.frame (record s { temps = ts })) words r.shows;
          }

      module _ (writes : u.writable ≡ true) where
        lt : u.slot < 8
        lt = subst (λ t. u.slot < (if t then 8 else 16)) writes below

        own_limit : length (words_in s.slots.writes u.slot) ≤ 4194304
        own_limit =
            subst (λ (ws : List ℕ). length ws ≤ 4194304) (view_here u s.slots below ∙ ap (λ t. if t then words_in s.slots.writes u.slot else words_in s.slots.reads u.slot) writes) (sh.limited b)

        pub stores_case : (value : ℕ → Leaf) (word : ℕ → ℕ) → ((c : ℕ) → c < 4 → LeafFits at Has pool ids (value c)) → HasWord ids f a x → HasWord ids f o y → ((c : ℕ) → c < 4 → HasWord ids f (value c) (word c)) → PiecesDo (stores (spot u d a o) i.extra value) f (store (Some view) x y word i s)
        stores_case value word fv ha ho hv =
            let put : ℕ → List ℕ → List ℕ = λ c ws. stored d i.extra x y word c ws in
            let ws = words_in s.slots.writes u.slot in
            let r = all_stores ids u d writes lt few s.slots f a o x y value word ha ho hv i.extra f ws (own_viewed u writes lt f s.slots sh.slots own_limit) in
            let is : store (Some view) x y word i s ≡ record s { slots = with_writes u.slot (put 3 (put 2 (put 1 (put 0 ws)))) s.slots } =
            ap (λ t. if t then record s { slots = with_writes u.slot (put 3 (put 2 (put 1 (put 0 (if t then words_in s.slots.writes u.slot else words_in s.slots.reads u.slot))))) s.slots } else s) writes in
            record {
              frame = r.frame;
              fits = stores_fit a o i.extra value fa fo fv writes;
              does = r.does;
              shows = subst (λ (z : State). Shows temps r.frame z) (sym is) (viewed_shows u writes lt temps f r.frame s _ sh r.viewed);
            }

        pub atomics_case : (act : Action) (new : ℕ → ℕ) → Changes ids (binding_of u) act new f → ActionFits at Has pool ids (binding_of u) act → TargetHas ds temps ids three_ids i.first → leaf_word ids f a ≡ x → leaf_word ids f o ≡ y → PiecesDo (atomics (spot u d a o) i.first act) f (change (Some view) x y new i s)
        atomics_case act new changes fits has ea eo =
            let ws = words_in s.slots.writes u.slot in
            let r = atomics_do ids u d writes lt few temps f s sh a o x y ea eo act new changes ds three_ids i.first has own_limit in
            let by : (t : Bool) → State = λ t.
            let vs = if t then words_in s.slots.writes u.slot else words_in s.slots.reads u.slot in
            let q = model.place d vs x y 0 in
            let s1 = if t then record s { slots = with_writes u.slot (model.with_word vs q (new (model.word_at vs q))) s.slots } else s in
            record s1 { temps = with_target i.first (λ c. model.word_at vs q) s1.temps } in
            let is : change (Some view) x y new i s ≡ by true = ap by writes in
            record {
              frame = r.frame;
              fits = (atomic_piece_fits a o fa fo 0 (omega arith) act fits, taken_all_fit at Has pool ids own ds temps many i.first (λ c. Variable (result 0 0)) has (λ c lc. omega (arith, many)));
              does = r.does;
              shows = subst (λ (z : State). Shows temps r.frame z) (sym is) r.shows;
            }
