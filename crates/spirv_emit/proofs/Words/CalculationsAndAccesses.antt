-- The code of calculations and accesses is made of the code of their parts.
use Rattle.std.proofs.Common.{◌≡◌, ℕ, ◌+◌, ◌<◌, List, [], ◌∷◌, ◌++◌, length, drop, get_or, true, false, Bool, refl, ap, subst, ◌∙◌, arith}
use Rattle.std.specs.Prelude.{IsTrue, ◌&&◌}
use Rattle.spirv_model.specs.declared.settings.TheConstants as setting
use Rattle.spirv_model.specs.Op.{Op}
use Rattle.spirv_model.specs.Op as op
use Rattle.spirv_emit.specs.declared.code.Code.{Code}
use Rattle.spirv_emit.specs.declared.piece.Leaf.{Leaf}
use Rattle.spirv_emit.specs.declared.piece.Calculation.{Calculation}
use Rattle.spirv_emit.specs.declared.piece.Action.{Action}
use Rattle.spirv_emit.specs.declared.piece.Action.TheVariants.{Swap}
use Rattle.spirv_emit.specs.declared.piece.Piece.{Piece}
use Rattle.spirv_emit.specs.declared.formula.Step.{Step}
use Rattle.spirv_emit.specs.Steps.{steps_of}
use Rattle.spirv_emit.specs.Layout.{Layout, word_type, to_word, buffer_at, variable}
use Rattle.spirv_emit.specs.Code.{leaf_size, leaf_ops, leaf_id, leaves_size, leaves_ops, leaf_ids, steps_ops, calculation_ops, calculation_size, calculation_id, choice_ops, action_ops, action_size, reach_ops}
use Rattle.spirv_emit.specs.Emits.{Puts, Appends, PiecesAreSmall, step_is_small, steps_are_small}
use Rattle.spirv_emit.proofs.Words.Appending.{puts_then, then_puts, appends_then, appends_to}
use Rattle.spirv_emit.proofs.Words.ListedCode.{leaves_step, leaves_none, rest_is}

pub leaves_five : {c0 c1 c2 c3 c4 c5 : Code} (at : Layout) (a b c d e : Leaf) → Appends c0 c1 (leaf_ops at c0.next a) (c0.next + leaf_size a) → Appends c1 c2 (leaf_ops at c1.next b) (c1.next + leaf_size b) → Appends c2 c3 (leaf_ops at c2.next c) (c2.next + leaf_size c) → Appends c3 c4 (leaf_ops at c3.next d) (c3.next + leaf_size d) → Appends c4 c5 (leaf_ops at c4.next e) (c4.next + leaf_size e) → Appends c0 c5 (leaves_ops at c0.next (a ∷ b ∷ c ∷ d ∷ e ∷ [])) (c0.next + leaves_size (a ∷ b ∷ c ∷ d ∷ e ∷ []))
leaves_five {c5 = c5} at a b c d e p q r s t =
    leaves_step at a (b ∷ c ∷ d ∷ e ∷ []) p (leaves_step at b (c ∷ d ∷ e ∷ []) q (leaves_step at c (d ∷ e ∷ []) r (leaves_step at d (e ∷ []) s (leaves_step at e [] t (leaves_none at c5)))))

pub calculation_made : {c0 c1 c2 : Code} (at : Layout) (k : Calculation) (ids : List ℕ) (ss : List Step) → Appends c0 c1 (leaves_ops at c0.next k.leaves) (c0.next + leaves_size k.leaves) → ids ≡ leaf_ids at c0.next k.leaves → ss ≡ steps_of k.formula → Appends c1 c2 (steps_ops at ids c1.next c1.next ss) (c1.next + length ss) → Appends c0 c2 (calculation_ops at c0.next k) (c0.next + calculation_size k)
calculation_made {c0 = c0} {c1 = c1} at k ids ss p ei es q =
    let e = p.next_is in
    let l = ap length es in
    appends_to (appends_then p q)
    (ap (λ n. leaves_ops at c0.next k.leaves ++ steps_ops at ids n n ss) e
    ∙ ap (λ xs. leaves_ops at c0.next k.leaves ++ steps_ops at xs (c0.next + leaves_size k.leaves) (c0.next + leaves_size k.leaves) ss) ei
    ∙ ap (λ xs. leaves_ops at c0.next k.leaves ++ steps_ops at (leaf_ids at c0.next k.leaves) (c0.next + leaves_size k.leaves) (c0.next + leaves_size k.leaves) xs) es)
    (omega (arith, e, l))

pub swap_made : {c0 c1 c2 c3 c4 : Code} (at : Layout) (v c : Leaf) (p x rv rc r one none to : ℕ) → Appends c0 c1 (leaf_ops at c0.next v) (c0.next + leaf_size v) → Appends c1 c2 (leaf_ops at c1.next c) (c1.next + leaf_size c) → Appends c2 c3 (op.AtomicCompareExchange word_type c2.next p one none none rv rc ∷ []) (c2.next + 1) → Puts c3 c4 (op.Store to r ∷ []) → rv ≡ leaf_id at c0.next v → rc ≡ leaf_id at c1.next c → r ≡ c2.next → one ≡ at.number 1 → none ≡ at.number 0 → to ≡ variable at x → Appends c0 c4 (action_ops at c0.next p (Swap v c x)) (c0.next + (leaf_size v + leaf_size c + 1))
swap_made {c0 = c0} {c1 = c1} {c2 = c2} at v c p x rv rc r one none to pv pc pa ps ev ec er eo ez et =
    let e = pv.next_is in
    let f : c2.next ≡ c0.next + leaf_size v + leaf_size c = pc.next_is ∙ ap (λ n. n + leaf_size c) e in
    let g = ec ∙ ap (λ n. leaf_id at n c) e in
    let h = ap (λ n. leaf_ops at n c) e in
    let er' = er ∙ f in
    appends_to (appends_then pv (appends_then pc (then_puts pa ps))) (cc (f, g, h, er', ev, eo, ez, et)) (omega (arith, f))

pub reach_made : {c0 c1 c2 c3 c4 : Code} (at : Layout) (b : ℕ) (k : Calculation) (a : Action) (l place pointer none : ℕ) → Appends c0 c1 (calculation_ops at c0.next k) (c0.next + calculation_size k) → Appends c1 c2 (op.AccessChain to_word c1.next (buffer_at b) (none ∷ place ∷ []) ∷ []) (c1.next + 1) → Appends c2 c3 (action_ops at c2.next pointer a) (c2.next + action_size a) → Puts c3 c4 (op.Branch l ∷ []) → place ≡ calculation_id at c0.next k → pointer ≡ c1.next → none ≡ at.number 0 → Appends c0 c4 (reach_ops at c0.next b k a l) (c0.next + calculation_size k + 1 + action_size a)
reach_made {c0 = c0} {c1 = c1} {c2 = c2} at b k a l place pointer none pk pc pa pb ek ep ez =
    let e = pk.next_is in
    let f : c2.next ≡ c0.next + calculation_size k + 1 = pc.next_is ∙ ap (λ n. n + 1) e in
    let ep' = ep ∙ e in
    let g = ap (λ n. action_ops at n pointer a) f ∙ ap (λ n. action_ops at (c0.next + calculation_size k + 1) n a) ep' in
    appends_to (appends_then pk (appends_then pc (then_puts pa pb))) (cc (e, g, ek, ez)) (omega (arith, f))

-- the parts of a choice, the first side with its end and the second without ids
pub choice_made : {c0 c1 c2 c3 c4 c5 c6 : Code} (at : Layout) (k : Calculation) (first first' second second' : List Op) (condition label behind m : ℕ) → Appends c0 c1 (calculation_ops at c0.next k) (c0.next + calculation_size k) → condition ≡ calculation_id at c0.next k → Appends c1 c2 (op.SelectionMerge (c1.next + 2) setting.NO_CONTROL ∷ op.BranchConditional condition c1.next (c1.next + 1) ∷ op.Label c1.next ∷ []) (c1.next + 3) → label ≡ c1.next + 1 → behind ≡ c1.next + 2 → Appends c2 c3 first m → Puts c3 c4 (op.Label label ∷ []) → Puts c4 c5 second → Puts c5 c6 (op.Label behind ∷ []) → first ≡ first' → second ≡ second' → Appends c0 c6 (choice_ops at c0.next k first' second') m
choice_made {c0 = c0} {c1 = c1} at k first first' second second' condition label behind m pk ek po el eb p3 p4 p5 p6 ef es =
    let e = pk.next_is in
    let el' = el ∙ ap (λ n. n + 1) e in
    let eb' = eb ∙ ap (λ n. n + 2) e in
    let head = ap (λ n. op.SelectionMerge (n + 2) setting.NO_CONTROL ∷ op.BranchConditional condition n (n + 1) ∷ op.Label n ∷ []) e in
    appends_to (appends_then pk (appends_then po (then_puts p3 (puts_then p4 (puts_then p5 p6))))) (cc (ek, head, el', eb', ef, es, e)) refl

-- ## While a loop goes over steps or pieces

and_both : (a b : Bool) → IsTrue (a && b) → IsTrue a × IsTrue b
and_both true true h = (refl, refl)
and_both true false h = cc
and_both false b h = cc

pub small_next : (ss : List Step) (i : ℕ) (d : Step) → i < length ss → IsTrue (steps_are_small (drop i ss)) → IsTrue (steps_are_small (drop (i + 1) ss))
small_next ss i d lt h = (and_both (step_is_small (get_or ss i d)) (steps_are_small (drop (i + 1) ss)) (subst (λ xs. IsTrue (steps_are_small xs)) (rest_is ss i d lt) h)).1

pub pieces_small_next : (ps : List Piece) (i : ℕ) (d : Piece) → i < length ps → PiecesAreSmall (drop i ps) → PiecesAreSmall (drop (i + 1) ps)
pieces_small_next ps i d lt h = (let z : PiecesAreSmall (get_or ps i d ∷ drop (i + 1) ps) = subst PiecesAreSmall (rest_is ps i d lt) h in z).1
