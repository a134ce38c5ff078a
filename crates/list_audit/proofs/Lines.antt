-- Lines of operations and of orders, and which text they stand in front of.
use Rattle.std.proofs.Common.{◌≡◌, ℕ, ◌<◌, ◌≤◌, inl, List, [], ◌∷◌, ◌++◌, length, map, drop, refl, sym, ap, ◌∙◌, append_assoc, arith}
use Rattle.std.specs.Prelude.{decimal}
use Rattle.std.specs.List.{AllByRecursion}
use Rattle.std.proofs.lemmas.List.{length-append, append-nil}
use Rattle.std.proofs.lemmas.Fmt.{decimal_injective}
use Rattle.vk_types.specs.declared.command.Work.{Work}
use Rattle.vk_types.specs.declared.command.Work.TheVariants as work
use Rattle.vk_types.specs.declared.op.VkOp.{VkOp}
use Rattle.vk_types.specs.declared.op.VkOp.TheVariants as op
use Rattle.text_words.specs.Words.{Lacks, Cut}
use Rattle.text_words.proofs.Cutting.{same_cut}
use Rattle.text_words.proofs.Digits.{Lacks-decimal}
use Rattle.vk_trace.specs.ListText.{IsSmall, join, rest_of, op_words, line, text_of, work_name, command_words}
use Rattle.vk_trace.specs.OrderLine.{IsOrder, IsOrderOf, order_line, order_words}
use Rattle.vk_trace.specs.Reading.{ReadsLine}
use Rattle.vk_trace.proofs.Texts.{line_then}
use Rattle.vk_trace.proofs.Orders.{order_split}

abbrev first_byte : List ℕ → ℕ
first_byte [] = 0
first_byte (x ∷ xs) = x

work_first : (w : Work) (words : List (List ℕ)) (more : List ℕ) → first_byte ((join 32 (work_name w ∷ words) ++ 10 ∷ []) ++ more) ≡ 111 → ⊥
work_first (work.Copy s t) words more e = absurd (omega (arith, e))
work_first (work.Fill t v) words more e = absurd (omega (arith, e))
work_first (work.Clear t ws unit) words more e = absurd (omega (arith, e))
work_first (work.Dispatch shader counts slots) words more e = absurd (omega (arith, e))

line_first : (o : VkOp) (more : List ℕ) → first_byte (line o ++ more) ≡ 111 → ⊥
unfolding line
line_first (op.HostWrite r n) more e = absurd (omega (arith, e))
line_first (op.Pipeline n) more e = absurd (omega (arith, e))
line_first (op.Barrier b) more e = absurd (omega (arith, e))
line_first (op.Command c) more e = work_first c.work (command_words c) more e
line_first (op.Submit k) more e = absurd (omega (arith, e))
line_first (op.Fence k) more e = absurd (omega (arith, e))
line_first (op.HostRead r n) more e = absurd (omega (arith, e))

order_first : (places more : List ℕ) → first_byte (order_line places ++ more) ≡ 111
unfolding order_line
order_first places more = refl

-- no line is that of an operation and of an order
pub not_both : (places : List ℕ) (o : VkOp) (x y : List ℕ) → order_line places ++ x ≡ line o ++ y → ⊥
not_both places o x y e = line_first o y (sym (ap first_byte e) ∙ order_first places x)

-- ---- the line of an order

lacks_append : (c : ℕ) (xs ys : List ℕ) → Lacks c xs → Lacks c ys → Lacks c (xs ++ ys)
lacks_append c [] ys p q = q
lacks_append c (x ∷ xs) ys p q = (p.0, lacks_append c xs ys p.1 q)

lacks_places : (places : List ℕ) → AllByRecursion IsSmall places → Lacks 10 (rest_of 32 (map decimal places))
lacks_places [] all = tt
lacks_places (p ∷ places) all = ((λ e. absurd (omega (arith, e))), lacks_append 10 (decimal p) (rest_of 32 (map decimal places)) (Lacks-decimal 10 p (inl (omega arith)) (omega (arith, all.0))) (lacks_places places all.1))

order_no_feed : (places : List ℕ) → IsOrder places → Lacks 10 (join 32 (order_words places))
order_no_feed places good =
    ((λ e. absurd (omega (arith, e))), ((λ e. absurd (omega (arith, e))), ((λ e. absurd (omega (arith, e))), ((λ e. absurd (omega (arith, e))), ((λ e. absurd (omega (arith, e))), lacks_places places good.small)))))

pub order_then : (places more : List ℕ) → order_line places ++ more ≡ join 32 (order_words places) ++ 10 ∷ more
unfolding order_line
order_then places more = append_assoc (join 32 (order_words places)) (10 ∷ []) more

same_numbers : (p q : List ℕ) → AllByRecursion IsSmall p → AllByRecursion IsSmall q → map decimal p ≡ map decimal q → p ≡ q
same_numbers [] [] a b e = refl
same_numbers [] (n ∷ q) a b e = absurd (cc e)
same_numbers (m ∷ p) [] a b e = absurd (cc e)
same_numbers (m ∷ p) (n ∷ q) a b e =
    let first : m ≡ n = decimal_injective m n (omega (arith, a.0)) (omega (arith, b.0)) (heads (decimal m) (decimal n) (map decimal p) (map decimal q) e) in
    let others = same_numbers p q a.1 b.1 (ap (drop 1) e) in
    λ i. first i ∷ others i
  where
    heads : (v w : List ℕ) (vs ws : List (List ℕ)) → v ∷ vs ≡ w ∷ ws → v ≡ w
    heads v w vs ws e = cc e

-- and no other begins with it
pub order_front : (p q x y : List ℕ) → IsOrder p → IsOrder q → order_line p ++ x ≡ order_line q ++ y → (p ≡ q) × (x ≡ y)
order_front p q x y g h e =
    let same =
    same_cut 10 (join 32 (order_words p)) (join 32 (order_words q)) (10 ∷ x) (10 ∷ y) (order_no_feed p g) (order_no_feed q h) refl refl (sym (order_then p x) ∙ e ∙ order_then q y) in
    let words : order_words p ≡ order_words q = sym (order_split (join 32 (order_words p)) p g refl) ∙ order_split (join 32 (order_words p)) q h same.0 in
    (same_numbers p q g.small h.small (ap (drop 1) words), ap (drop 1) same.1)

pub order_cut : (places rest bare after more : List ℕ) → IsOrder places → Cut 10 rest bare (10 ∷ after) → rest ≡ order_line places ++ more → (bare ≡ join 32 (order_words places)) × (after ≡ more)
order_cut places rest bare after more g cut e =
    let same = same_cut 10 bare (join 32 (order_words places)) (10 ∷ after) (10 ∷ more) cut.lacks (order_no_feed places g) refl refl (sym cut.spelled ∙ e ∙ order_then places more) in
    (same.0, ap (drop 1) same.1)

pub order_read : (places rest bare after : List ℕ) → Cut 10 rest bare (10 ∷ after) → IsOrderOf bare places → rest ≡ order_line places ++ after
order_read places rest bare after cut of = cut.spelled ∙ ap (λ (t : List ℕ). t ++ 10 ∷ after) of.spelled ∙ sym (order_then places after)

pub line_read : (o : VkOp) (rest bare after : List ℕ) → Cut 10 rest bare (10 ∷ after) → ReadsLine bare o → rest ≡ line o ++ after
line_read o rest bare after cut l = cut.spelled ∙ ap (λ (t : List ℕ). t ++ 10 ∷ after) l.spelled ∙ sym (line_then o after)

-- ---- lines have bytes

pub line_long : (o : VkOp) → 0 < length (line o)
unfolding line
line_long o = omega (arith, length-append (join 32 (op_words o)) (10 ∷ []))

pub order_long : (places : List ℕ) → 0 < length (order_line places)
unfolding order_line
order_long places = omega (arith, length-append (join 32 (order_words places)) (10 ∷ []))

pub text_long : (ops : List VkOp) → length ops ≤ length (text_of ops)
text_long [] = omega arith
text_long (o ∷ ops) = omega (arith, line_long o, text_long ops, length-append (line o) (text_of ops))

pub nothing : (o : VkOp) (more : List ℕ) → [] ≡ line o ++ more → ⊥
nothing o more e = let long : 0 ≡ length (line o ++ more) = ap length e in absurd (omega (arith, long, line_long o, length-append (line o) more))

pub no_order_left : (places more : List ℕ) → [] ≡ order_line places ++ more → ⊥
no_order_left places more e = let long : 0 ≡ length (order_line places ++ more) = ap length e in absurd (omega (arith, long, order_long places, length-append (order_line places) more))

pub text_push : (ops : List VkOp) (o : VkOp) (rest : List ℕ) → text_of (ops ++ o ∷ []) ++ rest ≡ text_of ops ++ (line o ++ rest)
text_push [] o rest = ap (λ (l : List ℕ). l ++ rest) (append-nil (line o))
text_push (p ∷ ops) o rest =
    append_assoc (line p) (text_of (ops ++ o ∷ [])) rest ∙ ap (λ (l : List ℕ). line p ++ l) (text_push ops o rest) ∙ sym (append_assoc (line p) (text_of ops) (line o ++ rest))
