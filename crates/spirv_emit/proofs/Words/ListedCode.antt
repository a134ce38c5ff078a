-- Stretches of code that lists give, element by element.
use Rattle.std.proofs.Common.{◌≡◌, ℕ, suc, ◌+◌, ◌<◌, List, [], ◌∷◌, ◌++◌, length, drop, get_or, refl, sym, ap, subst, ◌∙◌, arith, append_assoc, drop-cons}
use Rattle.std.proofs.lemmas.List.{append-nil}
use Rattle.spirv_model.specs.Op.{Op}
use Rattle.spirv_emit.specs.declared.code.Code.{Code}
use Rattle.spirv_emit.specs.declared.piece.Leaf.{Leaf}
use Rattle.spirv_emit.specs.declared.piece.Piece.{Piece}
use Rattle.spirv_emit.specs.declared.formula.Step.{Step}
use Rattle.spirv_emit.specs.Layout.{Layout}
use Rattle.spirv_emit.specs.Code.{leaf_size, leaf_ops, leaves_size, leaves_ops, step_op, steps_ops, piece_ops, piece_end, pieces_ops, pieces_end}
use Rattle.spirv_emit.specs.Emits.{written, Appends}
use Rattle.spirv_emit.proofs.Words.Appending.{written_none, written_append, appends_then, appends_to, appends_none}

-- ## Leaves

pub leaves_step : {c0 c1 c2 : Code} (at : Layout) (l : Leaf) (ls : List Leaf) → Appends c0 c1 (leaf_ops at c0.next l) (c0.next + leaf_size l) → Appends c1 c2 (leaves_ops at c1.next ls) (c1.next + leaves_size ls) → Appends c0 c2 (leaves_ops at c0.next (l ∷ ls)) (c0.next + leaves_size (l ∷ ls))
leaves_step {c0 = c0} at l ls p q =
    let e = p.next_is in
    appends_to (appends_then p q) (ap (λ n. leaf_ops at c0.next l ++ leaves_ops at n ls) e) (omega (arith, e))

pub leaves_none : (at : Layout) (c : Code) → Appends c c (leaves_ops at c.next []) (c.next + leaves_size [])
leaves_none at c = appends_to (appends_none c) refl (omega arith)

-- ## While a loop goes over a list

-- what a loop has still to append
pub moved : (w w1 w2 : List ℕ) (r a b : List Op) → w ≡ w1 ++ written r → r ≡ a ++ b → w2 ≡ w1 ++ written a → w ≡ w2 ++ written b
moved w w1 w2 r a b h e p =
    h ∙ ap (λ x. w1 ++ written x) e ∙ ap (λ x. w1 ++ x) (written_append a b) ∙ sym (append_assoc w1 (written a) (written b)) ∙ ap (λ x. x ++ written b) (sym p)

-- nothing is left to append
pub finished : (w0 w : List ℕ) (all r : List Op) → w0 ++ written all ≡ w ++ written r → r ≡ [] → w ≡ w0 ++ written all
finished w0 w all r h e = sym (h ∙ ap (λ x. w ++ written x) e ∙ ap (λ x. w ++ x) written_none ∙ append-nil w)

module _ {A : Type 0} where
  pub rest_is : (xs : List A) (i : ℕ) (d : A) → i < length xs → drop i xs ≡ get_or xs i d ∷ drop (i + 1) xs
  rest_is xs i d lt = drop-cons xs i d lt ∙ ap (λ k. get_or xs i d ∷ drop k xs) (let z : suc i ≡ i + 1 = omega arith in z)

pub steps_front : (at : Layout) (ids : List ℕ) (first n m : ℕ) (ss : List Step) (i : ℕ) (d : Step) → i < length ss → m ≡ n + 1 → steps_ops at ids first n (drop i ss) ≡ (step_op at ids first n (get_or ss i d) ∷ []) ++ steps_ops at ids first m (drop (i + 1) ss)
steps_front at ids first n m ss i d lt e = ap (steps_ops at ids first n) (rest_is ss i d lt) ∙ ap (λ k. step_op at ids first n (get_or ss i d) ∷ steps_ops at ids first k (drop (i + 1) ss)) (sym e)

pub pieces_front : (at : Layout) (n m : ℕ) (ps : List Piece) (i : ℕ) (d : Piece) → i < length ps → m ≡ piece_end n (get_or ps i d) → pieces_ops at n (drop i ps) ≡ piece_ops at n (get_or ps i d) ++ pieces_ops at m (drop (i + 1) ps)
pieces_front at n m ps i d lt e = ap (pieces_ops at n) (rest_is ps i d lt) ∙ ap (λ k. piece_ops at n (get_or ps i d) ++ pieces_ops at k (drop (i + 1) ps)) (sym e)

pub pieces_end_front : (n m : ℕ) (ps : List Piece) (i : ℕ) (d : Piece) → i < length ps → m ≡ piece_end n (get_or ps i d) → pieces_end n (drop i ps) ≡ pieces_end m (drop (i + 1) ps)
pieces_end_front n m ps i d lt e = ap (pieces_end n) (rest_is ps i d lt) ∙ ap (λ k. pieces_end k (drop (i + 1) ps)) (sym e)

five : (xs : List Leaf) (d : Leaf) → length xs ≡ 5 → get_or xs 0 d ∷ get_or xs 1 d ∷ get_or xs 2 d ∷ get_or xs 3 d ∷ get_or xs 4 d ∷ [] ≡ xs
five [] d e = absurd (omega arith)
five (a ∷ []) d e = absurd (omega arith)
five (a ∷ b ∷ []) d e = absurd (omega arith)
five (a ∷ b ∷ c ∷ []) d e = absurd (omega arith)
five (a ∷ b ∷ c ∷ x ∷ []) d e = absurd (omega arith)
five (a ∷ b ∷ c ∷ x ∷ y ∷ []) d e = refl
five (a ∷ b ∷ c ∷ x ∷ y ∷ z ∷ rest) d e = absurd (omega arith)

pub five_leaves : (c0 c1 : Code) (at : Layout) (xs : List Leaf) (d : Leaf) → length xs ≡ 5 → Appends c0 c1 (leaves_ops at c0.next (get_or xs 0 d ∷ get_or xs 1 d ∷ get_or xs 2 d ∷ get_or xs 3 d ∷ get_or xs 4 d ∷ [])) (c0.next + leaves_size (get_or xs 0 d ∷ get_or xs 1 d ∷ get_or xs 2 d ∷ get_or xs 3 d ∷ get_or xs 4 d ∷ [])) → Appends c0 c1 (leaves_ops at c0.next xs) (c0.next + leaves_size xs)
five_leaves c0 c1 at xs d e h = subst (λ ls. Appends c0 c1 (leaves_ops at c0.next ls) (c0.next + leaves_size ls)) (five xs d e) h
