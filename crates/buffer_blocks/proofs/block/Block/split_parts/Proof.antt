-- `split_parts` lends the bytes whole and then splits the loan: the block follows the bytes, and these follow the two parts.
use Rattle.std.proofs.Common.{◌≡◌, ◌≤◌, ℕ, List, [], ◌∷◌, ◌++◌, length, take, drop as drop_l, refl, sym, subst, ap, ◌∙◌, w64, MutBor}
use Rattle.std.proofs.raw_atomic.Walks.{proved, leaves}
use base.Fml.{ftrue, flft}
use base.Logic.{id⊢, emp}
use contract.Monad.{fact, fact_i}
use contract.Running.{tables}
use denote.Array.{Array}
use denote.Builtin.{u8, u64}
use denote.Exit.{no, yes}
use denote.Laws.{Is, shows}
use denote.Plain.{uint_Makes, uint_Tells, uint_vals}
use denote.Ref.{MutRef, mut_Tells, mut_vals}
use denote.Signature.{plain}
use denote.Slice.{MutSlice, mut_slice_Lawful}
use denote.Steps.{heard, nothing, owned, peeks}
use denote.Struct.Declared.{shape}
use denote.Struct.Recorded.{recorded_lawful}
use denote.Struct.Struct.{Struct, Struct-Lawful}
use denote.Struct.Tuple.{Tuple, tuple_type}
use denote.Triple.Call.{calls_at}
use denote.Triple.Clauses.{lasts}
use denote.Triple.Spec.{triple_of}
use denote.Triple.Table.{framed}
use denote.Triple.Walked.{Goes-dropped, Goes-spent_ref, Stays, stay_dropped, walk_of}
use mir.Syntax.{named}
use types.ByLocal.{alloc_all, free_all, get, lands_as, look_at, pass_all, sets, through}
use types.Kit.{await, by, drop, fjoin, join, keep, later, move, pick, qed, raw, some, split, use0, use1, use2, ◌$◌, ◌∵◌, ◌⊛◌, !, ‵}
use types.Run.{addr, and_then, enter, no_more, returns, stop}
use Rattle.std.specs.Borrow.{LendsBoth}
use Rattle.buffer_blocks.specs.Block.{LendsPart, LendsHalves, with_bytes}
use Rattle.buffer_blocks.specs.Written.{written}
use Rattle.buffer_blocks.specs.contracts.block.Block.{the_row as R}
use Rattle.buffer_blocks.specs.contracts.block.Block.as_mut_slice as whole
use Rattle.buffer_blocks.specs.contracts.block.Block.split_parts as f
use Rattle.buffer_blocks.specs.contracts.block.split_slice as halves
use Rattle.buffer_blocks.proofs.block.Block.as_mut_slice.Met as whole_met
use Rattle.buffer_blocks.proofs.block.Block.split_parts.Code as code
use Rattle.buffer_blocks.proofs.block.Block.split_parts.Statement.{statement}
use Rattle.buffer_blocks.proofs.block.split_slice.Met as halves_met
use Rattle.buffer_blocks.proofs.Follows.{both_then}

abbrev stayed : Stays f.ended.signature.params f.ended.kept
stayed = (stay_dropped _ no, (stay_dropped _ yes, tt))

pub split_parts_spec : {M : Type 1} → statement M
split_parts_spec 𝓤 𝓛 𝓜 𝓡 wired =
    let c = f.clauses 𝓛 𝓜.mem 𝓡.returns in let W = walk_of 𝓛 f.ended stayed c in let 𝓣 = tables 𝓤 𝓛.H 𝓜 𝓡 𝓡.env in
    proved 𝓛 f.ended stayed c 𝓜 𝓡 (Goes-spent_ref 𝓛 1 (0 ∷ []) tt (plain (λ _. R)), (Goes-dropped 𝓛 1 (plain (λ _. u64)) yes (λ κs x w. refl), tt))
    f.Key.name code.function (code.unfolded 𝓤 𝓛.H 𝓜 𝓡 wired)
    (λ κs. (mut_vals, (uint_vals w64, tt))) (λ κs. (mut_Tells (named 0) κs.0 R, (uint_Tells w64, tt))) (λ κs qs bounds a _ are.
    let κ = κs.0 in let q = qs.0 in let r = a.0 in let at = a.1.0 in let vs = mut_vals r in
    let Slice = MutSlice (named 0) κ u8 in
    let Pair = Tuple (Slice ∷ Slice ∷ []) in
    let pair_lawful = recorded_lawful (Struct (shape (tuple_type (Slice ∷ Slice ∷ [])))) (tuple_type (Slice ∷ Slice ∷ [])).D (tuple_type (Slice ∷ Slice ∷ [])).to (tuple_type (Slice ∷ Slice ∷ [])).to_one 𝓛
    (Struct-Lawful 𝓛 (shape (tuple_type (Slice ∷ Slice ∷ []))) (mut_slice_Lawful 𝓛 (named 0) κ u8, (mut_slice_Lawful 𝓛 (named 0) κ u8, tt))) in
    let y : W.Ghost = ((κs, qs, bounds, a, (vs, (uint_vals w64 at, tt))), tt) in
    qed 𝓛 (((‵ (flft κ q) ⊛ ‵ ftrue) ⊛ (‵ ((MutRef (named 0) κ R).own_val r vs) ⊛ (‵ (u64.own_val at (uint_vals w64 at)) ⊛ ‵ ftrue))) ∷ raw (fact 𝓤 (at ≤ length r.now.bytes)) ∷ []) ∵
    move ! (1 ∷ []) $ heard ! _ (λ low.
    split ! $ split ! $ move ! (2 ∷ []) $ split ! $ keep ! (0 ∷ 2 ∷ []) $
    enter ! _ _ _ _ _ $ alloc_all ! (λ l. pass_all ! refl ((tt, tt), ((tt, record { fits = are.1.0.1 }), tt)) $
    -- [the block; the token]
    sets ! (addr ! (through ! refl (stop !))) refl (tt, tt) $
    -- the bytes whole
    let Whole = triple_of 𝓛 whole.signature (whole.spec 𝓛 𝓜.mem 𝓡.returns) in
    let z : Whole.Ghost = ((κs, qs, bounds, (r, tt), (vs, tt)), tt) in
    nothing ! $ move ! (1 ∷ 0 ∷ []) $ join ! $ nothing ! $ move ! (2 ∷ 0 ∷ []) $ join ! $ join ! $
    nothing ! $ move ! (1 ∷ 0 ∷ []) $ use2 𝓛 (raw (Whole.pre z)) (id⊢ 𝓤 _) $
    calls_at ! (framed 𝓤 𝓛.H 𝓜 𝓣) Whole (whole_met.met 𝓤 𝓛 𝓜 𝓡 (code.calls-buffer_blocks::block::Block::as_mut_slice 𝓡.env wired)) z
    (and_then ! (get ! refl) (no_more !)) (λ v.
    use1 𝓛 (later (some (λ (s : MutBor (List ℕ)). ((‵ (flft κ q) ⊛ ‵ ftrue) ⊛ ‵ (Slice.own_val s (v ∷ []))) ⊛
    some (λ (ws : Unit {0} × Unit {0}). ‵ (lasts whole.ended κs (r, tt) ws) ⊛ (‵ (LendsPart r 0 s) ⊛ raw (fact 𝓤 (s.now ≡ r.now.bytes))))))) (id⊢ 𝓤 _) $
    await ! tt $ pick ! (λ s. split ! $ split ! $ split ! $ move ! (3 ∷ []) $ pick ! (λ ws. split ! $ drop ! $ split ! $ move ! (1 ∷ []) $ heard ! _ (λ all.
    -- [the block follows the bytes; the token; nothing; the bytes]
    move ! (3 ∷ []) $ peeks ! Slice (Is Slice) (shows 𝓛 Slice) s (v ∷ []) (λ is. lands_as ! refl refl ((mut_slice_Lawful 𝓛 (named 0) κ u8).typed s _ is).0 $
    -- its two parts
    let Halves = triple_of 𝓛 halves.signature (halves.spec 𝓛 𝓜.mem 𝓡.returns) in
    let z' : Halves.Ghost = ((κs, qs, bounds, (s, (at, tt)), (v ∷ [], (uint_vals w64 at, tt))), tt) in
    let within : at ≤ length s.now = subst (λ (bs : List ℕ). at ≤ length bs) (sym all) low in
    nothing ! $ owned ! u64 (Is u64) (uint_Makes 𝓛 w64) at _ (refl, are.1.0.1) $ join ! $ move ! (1 ∷ 0 ∷ []) $ join ! $
    nothing ! $ move ! (3 ∷ 0 ∷ []) $ join ! $ join ! $
    use0 𝓛 (raw (fact 𝓤 (at ≤ length s.now))) (fact_i 𝓤 _ (emp 𝓤) within) $ move ! (1 ∷ 0 ∷ []) $ use2 𝓛 (raw (Halves.pre z')) (id⊢ 𝓤 _) $
    calls_at ! (framed 𝓤 𝓛.H 𝓜 𝓣) Halves (halves_met.met 𝓤 𝓛 𝓜 𝓡 (code.calls-buffer_blocks::block::split_slice 𝓡.env wired)) z'
    (and_then ! (get ! refl) (and_then ! (get ! refl) (no_more !))) (λ v'.
    use1 𝓛 (later (some (λ (t : MutBor (List ℕ) × MutBor (List ℕ)). ((‵ (flft κ q) ⊛ ‵ ftrue) ⊛ ‵ (Pair.own_val t (v' ∷ []))) ⊛
    some (λ (ws : Unit {0} × (Unit {0} × Unit {0})). ‵ (lasts halves.ended κs (s, (at, tt)) ws) ⊛ (‵ (LendsBoth (Array u8 0) (Array u8 0) (Array u8 0) s t ◌++◌) ⊛
    (raw (fact 𝓤 (t.0.now ≡ take at s.now)) ⊛ raw (fact 𝓤 (t.1.now ≡ drop_l at s.now)))))))) (id⊢ 𝓤 _) $
    await ! tt $ pick ! (λ t. split ! $ split ! $ split ! $ move ! (3 ∷ []) $ pick ! (λ ws'. split ! $ drop ! $ split ! $ move ! (1 ∷ []) $ split ! $
    heard ! _ (λ front. heard ! _ (λ back.
    -- [the bytes follow the parts; the token; nothing; the parts; the block follows the bytes]
    move ! (4 ∷ 0 ∷ []) $ use2 𝓛 (‵ (LendsHalves r t)) (both_then 𝓛 R (Array u8 0) (Array u8 0) (Array u8 0) (λ piece. with_bytes r.now (written r.now.bytes 0 piece)) ◌++◌ r.ghost_name s.ghost_name t.0.ghost_name t.1.ghost_name) $
    -- [the block follows the parts; the token; nothing; the parts]
    move ! (3 ∷ []) $ peeks ! Pair (Is Pair) (shows 𝓛 Pair) t (v' ∷ []) (λ is'. lands_as ! refl refl (pair_lawful.typed t _ is').0 $
    returns ! (look_at ! 0 refl) $ free_all ! refl $ keep ! (0 ∷ 1 ∷ 2 ∷ []) $
    use0 𝓛 (raw (fact 𝓤 (t.1.now ≡ drop_l at r.now.bytes))) (fact_i 𝓤 _ (emp 𝓤) (back ∙ ap (drop_l at) all)) $
    use0 𝓛 (raw (fact 𝓤 (t.0.now ≡ take at r.now.bytes))) (fact_i 𝓤 _ (emp 𝓤) (front ∙ ap (take at) all)) $ join ! $
    move ! (2 ∷ 0 ∷ []) $ join ! $
    -- [what is ensured; the parts; the token]
    move ! (1 ∷ 0 ∷ []) $ join ! $ nothing ! $ nothing ! $ fjoin ! $ nothing ! $ fjoin ! $ join ! $ nothing ! $ move ! (2 ∷ 0 ∷ []) $ fjoin ! $ join ! $
    by ! (leaves 𝓛 f.ended stayed c y v' t (tt, (tt, tt)) (tt, (tt, tt)))))))))))))))))
