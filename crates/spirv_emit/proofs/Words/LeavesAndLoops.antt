-- The code of what leaves a block, and of loops, is made of the code of their parts.
use Rattle.std.proofs.Common.{◌≡◌, ℕ, ◌+◌, List, [], ◌∷◌, ◌++◌, ap, ◌∙◌, arith}
use Rattle.shader_model.specs.declared.tree.Test.{Test}
use Rattle.spirv_model.specs.declared.settings.TheConstants as setting
use Rattle.spirv_model.specs.Op.{Op}
use Rattle.spirv_model.specs.Op as op
use Rattle.spirv_emit.specs.declared.code.Code.{Code}
use Rattle.spirv_emit.specs.declared.piece.Calculation.{Calculation}
use Rattle.spirv_emit.specs.declared.piece.Piece.{Piece}
use Rattle.spirv_emit.specs.Layout.{Layout}
use Rattle.spirv_emit.specs.Lower.{turns, test_pieces, test_calculation}
use Rattle.spirv_emit.specs.Code.{calculation_ops, calculation_size, calculation_id, choice_end, assign_ops, leave_ops, pieces_ops, pieces_end, turns_are_out, one_turn_less, inner_start}
use Rattle.spirv_emit.specs.Emits.{Appends, left_ops, left_end, loop_front}
use Rattle.spirv_emit.proofs.Words.Appending.{appends_then, appends_to}

abbrev pub out_ops : (n condition : ℕ) → Op → List Op
out_ops n condition o = op.SelectionMerge (n + 2) setting.NO_CONTROL ∷ op.BranchConditional condition n (n + 1) ∷ op.Label n ∷ o ∷ op.Label (n + 1) ∷ op.Branch (n + 2) ∷ op.Label (n + 2) ∷ []

pub out_made : {c0 c1 c2 : Code} (at : Layout) (k : Calculation) (condition : ℕ) (o : Op) → Appends c0 c1 (calculation_ops at c0.next k) (c0.next + calculation_size k) → condition ≡ calculation_id at c0.next k → Appends c1 c2 (out_ops c1.next condition o) (c1.next + 3) → Appends c0 c2 (leave_ops at c0.next k o) (choice_end c0.next k)
out_made {c0 = c0} {c1 = c1} at k condition o p ek q =
    let e = p.next_is in
    appends_to (appends_then p q) (ap (λ n. calculation_ops at c0.next k ++ out_ops n condition o) e ∙ ap (λ r. calculation_ops at c0.next k ++ out_ops (c0.next + calculation_size k) r o) ek) (omega (arith, e))

-- a calculation under an equal name
pub out_made_of : {c0 c1 c2 : Code} (at : Layout) (k k' : Calculation) (condition : ℕ) (o : Op) → k ≡ k' → Appends c0 c1 (calculation_ops at c0.next k) (c0.next + calculation_size k) → condition ≡ calculation_id at c0.next k → Appends c1 c2 (out_ops c1.next condition o) (c1.next + 3) → Appends c0 c2 (leave_ops at c0.next k' o) (choice_end c0.next k')
out_made_of {c0 = c0} at k k' condition o same p ek q = appends_to (out_made at k condition o p ek q) (ap (λ z. leave_ops at c0.next z o) same) (ap (choice_end c0.next) same)

pub left_made : {c0 c1 c2 : Code} (at : Layout) (t : Test) (o : Op) → Appends c0 c1 (pieces_ops at c0.next (test_pieces t)) (pieces_end c0.next (test_pieces t)) → Appends c1 c2 (leave_ops at c1.next (test_calculation t) o) (choice_end c1.next (test_calculation t)) → Appends c0 c2 (left_ops at c0.next t o) (left_end c0.next t)
left_made {c0 = c0} at t o p q =
    let e = p.next_is in
    appends_to (appends_then p q) (ap (λ n. pieces_ops at c0.next (test_pieces t) ++ leave_ops at n (test_calculation t) o) e) (ap (λ n. choice_end n (test_calculation t)) e)

-- pieces under an equal name
pub pieces_of : {c0 c1 : Code} (at : Layout) (ps qs : List Piece) → ps ≡ qs → Appends c0 c1 (pieces_ops at c0.next ps) (pieces_end c0.next ps) → Appends c0 c1 (pieces_ops at c0.next qs) (pieces_end c0.next qs)
pieces_of {c0 = c0} at ps qs e p = appends_to p (ap (pieces_ops at c0.next) e) (ap (pieces_end c0.next) e)

abbrev pub header_ops : ℕ → List Op
header_ops n = op.Branch n ∷ op.Label n ∷ op.LoopMerge (n + 1) (n + 2) setting.NO_CONTROL ∷ op.Branch (n + 3) ∷ op.Label (n + 3) ∷ []

pub front_made : {c0 c1 c2 c3 : Code} (at : Layout) → Appends c0 c1 (header_ops c0.next) (c0.next + 4) → Appends c1 c2 (leave_ops at c1.next turns_are_out op.Return) (choice_end c1.next turns_are_out) → Appends c2 c3 (assign_ops at c2.next turns one_turn_less) (c2.next + calculation_size one_turn_less) → Appends c0 c3 (loop_front at c0.next) (inner_start c0.next)
front_made {c0 = c0} {c1 = c1} {c2 = c2} at p q r =
    let e = p.next_is in
    let f : c2.next ≡ choice_end (c0.next + 4) turns_are_out = q.next_is ∙ ap (λ n. choice_end n turns_are_out) e in
    appends_to (appends_then p (appends_then q r))
    (ap (λ n. header_ops c0.next ++ (leave_ops at n turns_are_out op.Return ++ assign_ops at c2.next turns one_turn_less)) e
    ∙ ap (λ n. header_ops c0.next ++ (leave_ops at (c0.next + 4) turns_are_out op.Return ++ assign_ops at n turns one_turn_less)) f)
    (ap (λ n. n + calculation_size one_turn_less) f)
