-- The pieces of each instruction, behind what it takes from constant buffers, do what the instruction does.
use Rattle.std.proofs.Common.{◌≡◌, ℕ, ◌+◌, ◌*◌, ◌/◌, ◌<◌, Bool, true, false, not, if◌then◌else◌, List, [], ◌∷◌, Option, Some, None, refl, sym, ap, ◌∙◌, subst, arith}
use Rattle.std.specs.Prelude.{◌==◌, ◌&&◌, nat_lt, nat_le, count_by, filter, is_some, slice_index}
use Rattle.shader_model.specs.declared.ids.Ids.{Ids}
use Rattle.shader_model.specs.declared.tree.Declared.{Declared}
use Rattle.shader_model.specs.declared.tree.Target.{Target}
use Rattle.shader_model.specs.declared.tree.SlotUse.{SlotUse}
use Rattle.shader_model.specs.declared.tree.Instr.{Instr}
use Rattle.shader_model.specs.declared.opcode.Row.{Row}
use Rattle.shader_model.specs.Opcodes.{kinds, rows, row_of}
use Rattle.shader_model.specs.Fields.{used_as}
use Rattle.shader_model.specs.Faults.{takes_slot, takes_parameter}
use Rattle.shader_model.specs.Good.{MaybeFits, SlotFits, is_destination_kind, is_slot_kind, HasOperands}
use Rattle.shader_model.specs.Invocation as model
use Rattle.shader_model.specs.Invocation.{State, View, view_by, view_of, with_target, load, store, change, exchanged, atomic, done_by, done_with, done}
use Rattle.spirv_model.specs.declared.code.AtomicCode.{AtomicCode}
use Rattle.spirv_model.specs.declared.code.AtomicCode.TheVariants as atomic_code
use Rattle.spirv_model.specs.Meaning.Values.{left_by}
use Rattle.spirv_model.specs.Meaning.Bindings.{words_at, with_word}
use Rattle.spirv_emit.specs.declared.piece.Action.{Action}
use Rattle.spirv_emit.specs.declared.piece.Action.TheVariants.{Change, Swap}
use Rattle.spirv_emit.specs.declared.piece.Piece.{Piece}
use Rattle.spirv_emit.specs.Layout.{Layout}
use Rattle.spirv_emit.specs.Numbers.{has, own_numbers}
use Rattle.spirv_emit.specs.Opcodes.{first_formula, second_formula}
use Rattle.spirv_emit.specs.Lower.{nought, source, result, binding_of, spot, loads, stores, atomics, plain_pieces, memory_pieces, slot_pieces, done_pieces}
use Rattle.spirv_emit.specs.Frames.{Frame, with_variable, leaf_word}
use Rattle.spirv_emit.proofs.Meaning.HeldFrames.{Pool, LeafFits}
use Rattle.spirv_emit.proofs.Meaning.WordActions.{ActionFits}
use Rattle.spirv_emit.proofs.Meaning.CodeStretches.{Shows}
use Rattle.spirv_emit.proofs.Lowering.SourceLeaves.{ThreeIds, AllFetched, source_is, Near, source_near}
use Rattle.spirv_emit.proofs.Lowering.DestinationFormulas.{words, none_of, EachRow, row_is, both, computes}
use Rattle.spirv_emit.proofs.Lowering.ComputingInstructions.{TargetHas, plain_does}
use Rattle.spirv_emit.proofs.Lowering.NamesInRange.{SourcesFit, source_fits, plain_fits}
use Rattle.spirv_emit.proofs.Lowering.ViewWords.{SlotBelow, is_written}
use Rattle.spirv_emit.proofs.Lowering.StoredWords.{HasWord, source_still}
use Rattle.spirv_emit.proofs.Lowering.Atomics.{Changes}
use Rattle.spirv_emit.proofs.Lowering.MemoryInstructions.{PiecesDo, loads_case, stores_case, atomics_case}

and_first : (a b : Bool) → (a && b) ≡ true → a ≡ true
and_first true b e = refl
and_first false b e = cc

-- ## Rows

-- a fact that only the rows of a test have to show
each_where : (P : Row → ℕ → Type 0) (test : Row → Bool) (rs : List Row) → ((r : Row) → test r ≡ false → P r r.number) → EachRow P (filter test rs) → EachRow P rs
each_where P test [] other h = tt
each_where P test (r ∷ rs) other h = by_test (test r) refl h (each_where P test rs other)
  where
    by_test : (t : Bool) → test r ≡ t → EachRow P (if t then r ∷ filter test rs else filter test rs) → (EachRow P (filter test rs) → EachRow P rs) → EachRow P (r ∷ rs)
    by_test true e h later = (h.0, later h.1)
    by_test false e h later = (other r e, later h)

module _ {A : Type 0} where
  neither : (a b : Bool) → (not a && b) ≡ false → a ≡ false → b ≡ true → A
  neither true b e ea eb = cc
  neither false true e ea eb = cc
  neither false false e ea eb = cc

  unless : (a : Bool) → not a ≡ false → a ≡ false → A
  unless true e ea = cc
  unless false e ea = cc

-- ## Which instructions have slots

-- those that reach views, and no others
HasSlot : Row → ℕ → Type 0
HasSlot r n = nat_lt 0 (count_by is_slot_kind (kinds r.layout)) ≡ (not (nat_le r.number 45) && nat_le r.number 65)

slots_by : (n : ℕ) (r : Row) → row_of n ≡ Some r → nat_lt 0 (count_by is_slot_kind (kinds r.layout)) ≡ (not (nat_le r.number 45) && nat_le r.number 65)
unfolding row_of HasSlot
slots_by n r e = row_is HasSlot n rows r e each_row
  where
    each_row : EachRow HasSlot rows
    each_row = (refl, (refl, (refl, (refl, (refl, (refl, (refl, (refl, (refl, (refl, (refl, (refl, (refl, (refl, (refl, (refl, (refl, (refl, (refl, (refl, (refl, (refl, (refl, (refl, (refl, (refl, (refl, (refl, (refl, (refl, (refl, (refl, (refl, (refl, (refl, (refl, (refl, (refl, (refl, (refl, (refl, (refl, (refl, (refl, (refl, (refl, (refl, (refl, (refl, (refl, (refl, (refl, (refl, (refl, (refl, (refl, (refl, (refl, (refl, (refl, (refl, tt)))))))))))))))))))))))))))))))))))))))))))))))))))))))))))))

module _ (at : Layout) (Has : ℕ → Type 0) (pool : Pool at Has) (ids : Ids) (own : (v : ℕ) → has own_numbers v ≡ true → Has v) (ds : List Declared) (temps : ℕ) (many : at.variables ≡ 25 + 4 * temps) (three_ids : ThreeIds ids) where
  -- what holds of a slot that an instruction names, and of its declaration
  pub record ViewFits (u : SlotUse) (d : Declared) : Type 0 where
    pub below : SlotBelow u
    pub takes : takes_parameter d.form d.parameter ≡ true
    pub has_parameter : Has d.parameter
    pub has_words : Has (d.parameter / 4)

  module _ (i : Instr) (f : Frame) (s : State) (has1 : TargetHas ds temps ids three_ids i.first) (has2 : TargetHas ds temps ids three_ids i.second) (h : SourcesFit at Has pool ids own ds temps many i) (sh : Shows temps f s) (got : AllFetched ds temps ids three_ids f s i) where
    abbrev Do : List Piece → State → Type 0
    Do ps s' = PiecesDo at Has pool ids own ds temps many three_ids ps f s'

    abbrev Names : SlotUse → Declared → Type 0
    Names u d = view_of ds i.slot ≡ Some (record { name = u; declared = d })

    -- the word of a source, in this frame and in each that keeps it
    word_is : (j c : ℕ) → j < 4 → c < 4 → leaf_word ids f (source i j c) ≡ model.source ids s i j c
    word_is j c lj lc = source_is ds temps ids three_ids i j c f s lj lc sh (h.fits j) got

    has_word : (j c : ℕ) → j < 4 → c < 4 → HasWord ids f (source i j c) (model.source ids s i j c)
    has_word j c lj lc = λ g same. source_still ids f g same i j c ∙ word_is j c lj lc

    stays : (j c : ℕ) → j < 4 → c < 4 → (g : Frame) → Near ds temps ids three_ids f g → leaf_word ids g (source i j c) ≡ leaf_word ids f (source i j c)
    stays j c lj lc = λ g near. source_near ds temps ids three_ids i j c f g lj lc near

    leaf_there : (j c : ℕ) → j < 4 → c < 4 → LeafFits at Has pool ids (source i j c)
    leaf_there j c lj lc = source_fits at Has pool ids own ds temps many i j c lj lc h

    zero_there : Has 0
    zero_there = own 0 refl

    -- ## Instructions that reach views

    load_plain : (u : SlotUse) (d : Declared) → Names u d → ViewFits u d → Do (loads (spot u d (source i 0 0) nought) i.first) (load (view_of ds i.slot) (model.source ids s i 0 0) 0 i s)
    load_plain u d v w =
        subst (λ (q : Option View). Do (loads (spot u d (source i 0 0) nought) i.first) (load q (model.source ids s i 0 0) 0 i s)) (sym v)
        (loads_case at Has pool ids own ds temps many three_ids u d w.below w.takes w.has_parameter w.has_words i f s sh (source i 0 0) nought (model.source ids s i 0 0) 0 (leaf_there 0 0 (omega arith) (omega arith)) zero_there has1 (word_is 0 0 (omega arith) (omega arith)) refl (stays 0 0 (omega arith) (omega arith)) (λ g near. refl))

    load_offset : (u : SlotUse) (d : Declared) → Names u d → ViewFits u d → Do (loads (spot u d (source i 0 0) (source i 1 0)) i.first) (load (view_of ds i.slot) (model.source ids s i 0 0) (model.source ids s i 1 0) i s)
    load_offset u d v w =
        subst (λ (q : Option View). Do (loads (spot u d (source i 0 0) (source i 1 0)) i.first) (load q (model.source ids s i 0 0) (model.source ids s i 1 0) i s)) (sym v)
        (loads_case at Has pool ids own ds temps many three_ids u d w.below w.takes w.has_parameter w.has_words i f s sh (source i 0 0) (source i 1 0) (model.source ids s i 0 0) (model.source ids s i 1 0) (leaf_there 0 0 (omega arith) (omega arith)) (leaf_there 1 0 (omega arith) (omega arith)) has1 (word_is 0 0 (omega arith) (omega arith)) (word_is 1 0 (omega arith) (omega arith)) (stays 0 0 (omega arith) (omega arith)) (stays 1 0 (omega arith) (omega arith)))

    store_plain : (u : SlotUse) (d : Declared) → Names u d → ViewFits u d → u.writable ≡ true → Do (stores (spot u d (source i 0 0) nought) i.extra (source i 1)) (store (view_of ds i.slot) (model.source ids s i 0 0) 0 (model.source ids s i 1) i s)
    store_plain u d v w writes =
        subst (λ (q : Option View). Do (stores (spot u d (source i 0 0) nought) i.extra (source i 1)) (store q (model.source ids s i 0 0) 0 (model.source ids s i 1) i s)) (sym v)
        (stores_case at Has pool ids own ds temps many three_ids u d w.below w.takes w.has_parameter w.has_words i f s sh (source i 0 0) nought (model.source ids s i 0 0) 0 (leaf_there 0 0 (omega arith) (omega arith)) zero_there writes (source i 1) (model.source ids s i 1) (λ c lc. leaf_there 1 c (omega arith) lc) (has_word 0 0 (omega arith) (omega arith)) (λ g same. refl) (λ c lc. has_word 1 c (omega arith) lc))

    store_offset : (u : SlotUse) (d : Declared) → Names u d → ViewFits u d → u.writable ≡ true → Do (stores (spot u d (source i 0 0) (source i 1 0)) i.extra (source i 2)) (store (view_of ds i.slot) (model.source ids s i 0 0) (model.source ids s i 1 0) (model.source ids s i 2) i s)
    store_offset u d v w writes =
        subst (λ (q : Option View). Do (stores (spot u d (source i 0 0) (source i 1 0)) i.extra (source i 2)) (store q (model.source ids s i 0 0) (model.source ids s i 1 0) (model.source ids s i 2) i s)) (sym v)
        (stores_case at Has pool ids own ds temps many three_ids u d w.below w.takes w.has_parameter w.has_words i f s sh (source i 0 0) (source i 1 0) (model.source ids s i 0 0) (model.source ids s i 1 0) (leaf_there 0 0 (omega arith) (omega arith)) (leaf_there 1 0 (omega arith) (omega arith)) writes (source i 2) (model.source ids s i 2) (λ c lc. leaf_there 2 c (omega arith) lc) (has_word 0 0 (omega arith) (omega arith)) (has_word 1 0 (omega arith) (omega arith)) (λ c lc. has_word 2 c (omega arith) lc))

    changes_by : (u : SlotUse) (d : Declared) → Names u d → ViewFits u d → u.writable ≡ true → (act : Action) (new : ℕ → ℕ) → Changes ids (binding_of u) act new f → ActionFits at Has pool ids (binding_of u) act → Do (atomics (spot u d (source i 0 0) (source i 1 0)) i.first act) (change (view_of ds i.slot) (model.source ids s i 0 0) (model.source ids s i 1 0) new i s)
    changes_by u d v w writes act new changes fits =
        subst (λ (q : Option View). Do (atomics (spot u d (source i 0 0) (source i 1 0)) i.first act) (change q (model.source ids s i 0 0) (model.source ids s i 1 0) new i s)) (sym v)
        (atomics_case at Has pool ids own ds temps many three_ids u d w.below w.takes w.has_parameter w.has_words i f s sh (source i 0 0) (source i 1 0) (model.source ids s i 0 0) (model.source ids s i 1 0) (leaf_there 0 0 (omega arith) (omega arith)) (leaf_there 1 0 (omega arith) (omega arith)) writes act new changes fits has1 (word_is 0 0 (omega arith) (omega arith)) (word_is 1 0 (omega arith) (omega arith)))

    below_8 : (u : SlotUse) → SlotBelow u → u.writable ≡ true → u.slot < 8
    below_8 u below writes = subst (λ t. u.slot < (if t then 8 else 16)) writes below

    change_row : (o : AtomicCode) (u : SlotUse) (d : Declared) → Names u d → ViewFits u d → u.writable ≡ true → Do (atomics (spot u d (source i 0 0) (source i 1 0)) i.first (Change o (source i 2 0) (result 0 0))) (atomic (left_by o) ds ids i s)
    change_row o u d v w writes =
        changes_by u d v w writes (Change o (source i 2 0) (result 0 0)) (λ old. left_by o old (model.source ids s i 2 0))
        (record {
          acts = λ k. ap (λ x. with_variable (result 0 0) (slice_index (words_at f.slots (binding_of u)) k) (record f { slots = with_word (binding_of u) k (left_by o (slice_index (words_at f.slots (binding_of u)) k) x) f.slots })) (word_is 2 0 (omega arith) (omega arith));
          misses = refl;
        })
        (leaf_there 2 0 (omega arith) (omega arith), is_written u writes (below_8 u w.below writes), omega (arith, many))

    swap_row : (u : SlotUse) (d : Declared) → Names u d → ViewFits u d → u.writable ≡ true → Do (atomics (spot u d (source i 0 0) (source i 1 0)) i.first (Swap (source i 3 0) (source i 2 0) (result 0 0))) (change (view_of ds i.slot) (model.source ids s i 0 0) (model.source ids s i 1 0) (exchanged (model.source ids s i 2 0) (model.source ids s i 3 0)) i s)
    swap_row u d v w writes =
        changes_by u d v w writes (Swap (source i 3 0) (source i 2 0) (result 0 0)) (exchanged (model.source ids s i 2 0) (model.source ids s i 3 0))
        (record {
          acts = λ k.
              let old = slice_index (words_at f.slots (binding_of u)) k in
              ap (λ x. with_variable (result 0 0) old (record f { slots = with_word (binding_of u) k (if old == x then leaf_word ids f (source i 3 0) else old) f.slots })) (word_is 2 0 (omega arith) (omega arith))
              ∙ ap (λ x. with_variable (result 0 0) old (record f { slots = with_word (binding_of u) k (if old == model.source ids s i 2 0 then x else old) f.slots })) (word_is 3 0 (omega arith) (omega arith));
          misses = refl;
        })
        (leaf_there 3 0 (omega arith) (omega arith), leaf_there 2 0 (omega arith) (omega arith), is_written u writes (below_8 u w.below writes), omega (arith, many))

    by_opcode : (n : ℕ) (u : SlotUse) (d : Declared) → i.opcode ≡ n → (s' : State) → Do (memory_pieces u d (record i { opcode = n })) s' → Do (memory_pieces u d i) s'
    by_opcode n u d e s' x = subst (λ k. Do (memory_pieces u d (record i { opcode = k })) s') (sym e) x

    Reaches : Row → ℕ → Type 0
    Reaches r n = i.opcode ≡ n → nat_le r.number 45 ≡ false → nat_le r.number 65 ≡ true → (u : SlotUse) (d : Declared) → Names u d → takes_slot r.access u.writable (Some d) ≡ true → ViewFits u d → Do (memory_pieces u d i) (done_by r.name ds ids i s)

    each_reaches : EachRow Reaches rows
    unfolding Reaches
    each_reaches =
        each_where Reaches (λ r. not (nat_le r.number 45) && nat_le r.number 65) rows (λ r other. λ e a b u d v t w. neither (nat_le r.number 45) (nat_le r.number 65) other a b) (
          λ e a b u d v t w. by_opcode 48 u d e _ (load_plain u d v w),
          (
            λ e a b u d v t w. by_opcode 49 u d e _ (store_plain u d v w (and_first _ _ t)),
            (
              λ e a b u d v t w. by_opcode 50 u d e _ (load_offset u d v w),
              (
                λ e a b u d v t w. by_opcode 51 u d e _ (store_offset u d v w (and_first _ _ t)),
                (
                  λ e a b u d v t w. by_opcode 52 u d e _ (load_plain u d v w),
                  (
                    λ e a b u d v t w. by_opcode 53 u d e _ (store_plain u d v w (and_first _ _ t)),
                    (
                      λ e a b u d v t w. by_opcode 56 u d e _ (change_row atomic_code.Add u d v w (and_first _ _ t)),
                      (
                        λ e a b u d v t w. by_opcode 57 u d e _ (change_row atomic_code.And u d v w (and_first _ _ t)),
                        (
                          λ e a b u d v t w. by_opcode 58 u d e _ (change_row atomic_code.Or u d v w (and_first _ _ t)),
                          (
                            λ e a b u d v t w. by_opcode 59 u d e _ (change_row atomic_code.Xor u d v w (and_first _ _ t)),
                            (
                              λ e a b u d v t w. by_opcode 60 u d e _ (change_row atomic_code.SignedMin u d v w (and_first _ _ t)),
                              (
                                λ e a b u d v t w. by_opcode 61 u d e _ (change_row atomic_code.SignedMax u d v w (and_first _ _ t)),
                                (
                                  λ e a b u d v t w. by_opcode 62 u d e _ (change_row atomic_code.UnsignedMin u d v w (and_first _ _ t)),
                                  (
                                    λ e a b u d v t w. by_opcode 63 u d e _ (change_row atomic_code.UnsignedMax u d v w (and_first _ _ t)),
                                    (
                                      λ e a b u d v t w. by_opcode 64 u d e _ (change_row atomic_code.Exchange u d v w (and_first _ _ t)),
                                      (
                                        λ e a b u d v t w. by_opcode 65 u d e _ (swap_row u d v w (and_first _ _ t)),
                                        tt,
                                      ),
                                    ),
                                  ),
                                ),
                              ),
                            ),
                          ),
                        ),
                      ),
                    ),
                  ),
                ),
              ),
            ),
          ),
        )

    reaches_view : (r : Row) → row_of i.opcode ≡ Some r → nat_le r.number 45 ≡ false → nat_le r.number 65 ≡ true → (u : SlotUse) (d : Declared) → Names u d → takes_slot r.access u.writable (Some d) ≡ true → ViewFits u d → Do (memory_pieces u d i) (done_by r.name ds ids i s)
    unfolding row_of Reaches
    reaches_view r e low high u d v t w = row_is Reaches i.opcode rows r e each_reaches refl low high u d v t w

    -- ## Those that shape the blocks do nothing here

    Shapes : Row → ℕ → Type 0
    Shapes r n = nat_le r.number 65 ≡ false → (done_by r.name ds ids i s ≡ s) × (nat_lt 0 (count_by is_destination_kind (kinds r.layout)) ≡ false) × (nat_lt 1 (count_by is_destination_kind (kinds r.layout)) ≡ false)

    each_shapes : EachRow Shapes rows
    unfolding Shapes
    each_shapes = each_where Shapes (λ r. not (nat_le r.number 65)) rows (λ r other high. unless (nat_le r.number 65) other high)
        (λ high. (refl, refl, refl), (λ high. (refl, refl, refl), (λ high. (refl, refl, refl), (λ high. (refl, refl, refl), (λ high. (refl, refl, refl), (λ high. (refl, refl, refl), (λ high. (refl, refl, refl), (λ high. (refl, refl, refl), (λ high. (refl, refl, refl), (λ high. (refl, refl, refl), (λ high. (refl, refl, refl), (λ high. (refl, refl, refl), (λ high. (refl, refl, refl), (λ high. (refl, refl, refl), (λ high. (refl, refl, refl), tt)))))))))))))))

    nothing : i.first ≡ None → i.second ≡ None → s ≡ both ds ids s i
    nothing e1 e2 =
        ap (λ (t : Option Target). record s { temps = with_target t (words (first_formula i.opcode) ids s i) s.temps }) (sym e1)
        ∙ ap (λ (t : Option Target). record s { temps = with_target t (words (second_formula i.opcode) ids s i) (with_target i.first (words (first_formula i.opcode) ids s i) s.temps) }) (sym e2)

    shapes : (r : Row) → row_of i.opcode ≡ Some r → HasOperands (kinds r.layout) i → nat_le r.number 65 ≡ false → done_by r.name ds ids i s ≡ both ds ids s i
    unfolding row_of Shapes
    shapes r e o high =
        let q = row_is Shapes i.opcode rows r e each_shapes high in
        q.0 ∙ nothing (none_of i.first (o.first ∙ q.1)) (none_of i.second (o.second ∙ q.2))

    -- ## Each instruction

    plain_case : Do (plain_pieces i) (both ds ids s i)
    plain_case =
        let p = plain_does ds temps ids three_ids i f s has1 has2 sh h.fits got in
        record { frame = p.frame; fits = plain_fits at Has pool ids own ds temps many i has1 has2 h; does = p.does; shows = p.shows }

    free_case : (q : Option SlotUse) (s' : State) → is_some q ≡ false → s' ≡ both ds ids s i → Do (done_pieces ds i q) s'
    free_case None s' free e = subst (λ (z : State). Do (plain_pieces i) z) (sym e) plain_case
    free_case (Some u) s' free e = cc

    slot_case : (r : Row) → row_of i.opcode ≡ Some r → nat_le r.number 45 ≡ false → nat_le r.number 65 ≡ true → (u : SlotUse) → i.slot ≡ Some u → ((d : Declared) → used_as u ds ≡ Some d → ViewFits u d) → (q : Option Declared) → used_as u ds ≡ q → takes_slot r.access u.writable q ≡ true → Do (slot_pieces i u q) (done_by r.name ds ids i s)
    slot_case r e low high u is views None eq t = cc
    slot_case r e low high u is views (Some d) eq t = reaches_view r e low high u d (ap (view_of ds) is ∙ ap (view_by u) eq) t (views d eq)

    access_case : (r : Row) → row_of i.opcode ≡ Some r → nat_le r.number 45 ≡ false → nat_le r.number 65 ≡ true → ((u : SlotUse) (d : Declared) → used_as u ds ≡ Some d → ViewFits u d) → (q : Option SlotUse) → i.slot ≡ q → is_some q ≡ true → MaybeFits (SlotFits ds temps r.access) q → Do (done_pieces ds i q) (done_by r.name ds ids i s)
    access_case r e low high views None is some fits = cc
    access_case r e low high views (Some u) is some fits = slot_case r e low high u is (views u) (used_as u ds) refl fits

    done_by_number : (r : Row) → row_of i.opcode ≡ Some r → HasOperands (kinds r.layout) i → ((u : SlotUse) (d : Declared) → used_as u ds ≡ Some d → ViewFits u d) → MaybeFits (SlotFits ds temps r.access) i.slot → (a b : Bool) → nat_le r.number 45 ≡ a → nat_le r.number 65 ≡ b → nat_lt 0 (count_by is_slot_kind (kinds r.layout)) ≡ (not a && b) → Do (done_pieces ds i i.slot) (done_by r.name ds ids i s)
    done_by_number r e o views fits true b low high slots = free_case i.slot _ (o.slot ∙ slots) (computes ds ids s i r e o low)
    done_by_number r e o views fits false true low high slots = access_case r e low high views i.slot refl (o.slot ∙ slots) fits
    done_by_number r e o views fits false false low high slots = free_case i.slot _ (o.slot ∙ slots) (shapes r e o high)

    pub instruction_does : (r : Row) → row_of i.opcode ≡ Some r → HasOperands (kinds r.layout) i → ((u : SlotUse) (d : Declared) → used_as u ds ≡ Some d → ViewFits u d) → MaybeFits (SlotFits ds temps r.access) i.slot → PiecesDo at Has pool ids own ds temps many three_ids (done_pieces ds i i.slot) f (done ds ids i s)
    instruction_does r e o views fits =
        let slots = slots_by i.opcode r e in
        subst (λ (q : Option Row). Do (done_pieces ds i i.slot) (done_with q ds ids i s)) (sym e)
        (done_by_number r e o views fits (nat_le r.number 45) (nat_le r.number 65) refl refl slots)
