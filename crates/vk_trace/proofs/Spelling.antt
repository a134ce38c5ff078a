-- A text is of one listing, and has one first bad line if it is of none.
use Rattle.std.proofs.Common.{◌≡◌, ℕ, ◌+◌, ◌*◌, eqb, cond, List, [], ◌∷◌, ◌++◌, length, drop, get_or, Option, Some, None, refl, sym, ap, ◌∙◌, append_assoc, arith}
use Rattle.std.specs.Prelude.{codes}
use Rattle.std.proofs.lemmas.List.{append-nil}
use Rattle.std.specs.Fmt.{decimal}
use Rattle.std.specs.List.{AllByRecursion}
use Rattle.dx_types.specs.declared.range.Range.{Range}
use Rattle.vk_types.specs.declared.command.Cond.{Cond}
use Rattle.vk_types.specs.declared.command.Command.{Command}
use Rattle.vk_types.specs.declared.command.Work.{Work}
use Rattle.vk_types.specs.declared.command.Work.TheVariants as work
use Rattle.vk_types.specs.declared.op.Barrier.{Barrier}
use Rattle.vk_types.specs.declared.op.VkOp.{VkOp}
use Rattle.vk_types.specs.declared.op.VkOp.TheVariants as op
use Rattle.vk_trace.specs.ListText.{IsSmall, IsWide, FitsRange, FitsSecond, FitsCond, IsOp, IsFirstBad, ListText, barrier_words, block_word, call_words, command_words, cond_words, join, line, mask_word, op_words, range_word, second_word, text_of, work_name}
use Rattle.vk_trace.specs.Reading.{fields, first_word}
use Rattle.text_words.proofs.Cutting.{same_cut}
use Rattle.text_words.proofs.Digits.{first_digit}
use Rattle.vk_trace.proofs.Masks.{same_mask}
use Rattle.vk_trace.proofs.Ops.{op_split, tail_no_slot}
use Rattle.vk_trace.proofs.Spelled.{same_number, small_wide, same_range}
use Rattle.vk_trace.proofs.Texts.{no_feed, line_then}
use Rattle.vk_trace.proofs.Works.{heads, same_work, same_small}

-- ---- an operation from its words

-- a number of the first word of a line
tag_of : List ℕ → ℕ
tag_of w =
    let m : ℕ = 256 * length w + get_or w 0 0 in
    cond (eqb m 2664) 0 (cond (eqb m 2160) 1 (cond (eqb m 1890) 2 (cond (eqb m 1651) 4 (cond (eqb m 1382) 5 (cond (eqb m 2408) 6 3)))))

tag : VkOp → ℕ
tag (op.HostWrite r n) = 0
tag (op.Pipeline n) = 1
tag (op.Barrier b) = 2
tag (op.Command c) = 3
tag (op.Submit k) = 4
tag (op.Fence k) = 5
tag (op.HostRead r n) = 6

work_tag : (w : Work) → tag_of (work_name w) ≡ 3
unfolding tag_of
work_tag (work.Copy s t) = refl
work_tag (work.Fill t v) = refl
work_tag (work.Clear t ws unit) = refl
work_tag (work.Dispatch shader counts slots) = refl

tag_is : (o : VkOp) → tag_of (first_word o) ≡ tag o
unfolding tag_of tag
tag_is (op.HostWrite r n) = refl
tag_is (op.Pipeline n) = refl
tag_is (op.Barrier b) = refl
tag_is (op.Command c) = work_tag c.work
tag_is (op.Submit k) = refl
tag_is (op.Fence k) = refl
tag_is (op.HostRead r n) = refl

same_wide : (m n : ℕ) (a b : List (List ℕ)) → IsWide m → IsWide n → decimal m ∷ a ≡ decimal n ∷ b → m ≡ n
same_wide m n a b p q e = same_number m n p q (heads (decimal m) (decimal n) a b e)

same_call : (m n : ℕ) (a b : List (List ℕ)) → IsSmall m → IsSmall n → codes "call" ∷ decimal m ∷ a ≡ codes "call" ∷ decimal n ∷ b → m ≡ n
same_call m n a b p q e = same_small m n a b p q (ap (drop 1) e)

same_host_range : (r s : Range) (a b : List (List ℕ)) → FitsRange r → FitsRange s → block_word r.block ∷ decimal r.from ∷ decimal r.to ∷ a ≡ block_word s.block ∷ decimal s.from ∷ decimal s.to ∷ b → r ≡ s
same_host_range r s a b p q e =
    let block = same_number r.block s.block (small_wide r.block p.block) (small_wide s.block q.block) (ap (drop 1) (heads (block_word r.block) (block_word s.block) _ _ e)) in
    let from = same_wide r.from s.from _ _ p.from q.from (ap (drop 1) e) in
    let to = same_wide r.to s.to a b p.to q.to (ap (drop 2) e) in
    λ i. record { block = block i; from = from i; to = to i }

no_host : (n : ℕ) (a b : List (List ℕ)) → IsWide n → decimal n ∷ a ≡ codes "host" ∷ b → ⊥
no_host n a b lt e = let d = first_digit n 104 (111 ∷ 115 ∷ 116 ∷ []) lt (heads (decimal n) (codes "host") a b e) in absurd (omega (arith, d.1))

same_second : (x y : Option ℕ) (a b : List (List ℕ)) → FitsSecond x → FitsSecond y → second_word x ∷ a ≡ second_word y ∷ b → x ≡ y
same_second None None a b p q e = refl
same_second None (Some n) a b p q e = absurd (no_host n b a q (sym e))
same_second (Some m) None a b p q e = absurd (no_host m a b p e)
same_second (Some m) (Some n) a b p q e = ap (λ (k : ℕ). Some k) (same_wide m n a b p q e)

same_barrier : (b d : Barrier) → IsOp (op.Barrier b) → IsOp (op.Barrier d) → barrier_words b ≡ barrier_words d → b ≡ d
same_barrier b d p q e =
    let source = same_mask b.source d.source p.listed.0 q.listed.0 (heads (mask_word b.source) (mask_word d.source) _ _ e) in
    let dest = same_mask b.dest d.dest p.listed.1 q.listed.1 (heads (mask_word b.dest) (mask_word d.dest) _ _ (ap (drop 1) e)) in
    let first = same_wide b.first d.first _ _ p.fits.0 q.fits.0 (ap (drop 3) e) in
    let second = same_second b.second d.second _ _ p.fits.1 q.fits.1 (ap (drop 4) e) in
    λ i. record { source = source i; dest = dest i; first = first i; second = second i }

no_if : (w : List ℕ) (a b : List (List ℕ)) → codes "call" ∷ a ≡ codes "if" ∷ b → ⊥
no_if w a b e = cc e

same_tail : (x y : Option Cond) (m n : ℕ) → FitsCond x → FitsCond y → IsSmall m → IsSmall n → cond_words x ++ call_words m ≡ cond_words y ++ call_words n → (x ≡ y) × (m ≡ n)
same_tail None None m n p q l k e = (refl, same_call m n [] [] l k e)
same_tail None (Some d) m n p q l k e = absurd (no_if [] _ _ e)
same_tail (Some c) None m n p q l k e = absurd (no_if [] _ _ (sym e))
same_tail (Some c) (Some d) m n p q l k e =
    let at = same_range c.at d.at p.0 q.0 (heads (range_word c.at) (range_word d.at) _ _ (ap (drop 1) e)) in
    let value = same_small c.value d.value (call_words m) (call_words n) p.1 q.1 (ap (drop 2) e) in
    ((λ i. Some (record { at = at i; value = value i })), same_call m n [] [] l k (ap (drop 3) e))

same_command : (c d : Command) → IsOp (op.Command c) → IsOp (op.Command d) → work_name c.work ≡ work_name d.work → command_words c ≡ command_words d → c ≡ d
same_command c d p q n e =
    let number = same_wide c.number d.number _ _ p.fits.number q.fits.number e in
    let both =
    same_work c.work d.work (cond_words c.cond ++ call_words c.call) (cond_words d.cond ++ call_words d.call) p.listed.0 p.fits.work q.listed.0 q.fits.work (sym n)
    (λ f. tail_no_slot c.cond c.call) (tail_no_slot d.cond d.call) (ap (drop 1) e) in
    let tail = same_tail c.cond d.cond c.call d.call p.fits.cond q.fits.cond p.fits.call q.fits.call both.1 in
    λ i. record { number = number i; call = tail.1 i; work = both.0 i; cond = tail.0 i }

same_op : (o p : VkOp) → IsOp o → IsOp p → first_word o ≡ first_word p → tag o ≡ tag p → fields o ≡ fields p → o ≡ p
unfolding tag
same_op (op.HostWrite r n) (op.HostWrite s m) g h n1 t e =
    let range = same_host_range r s _ _ g.fits.0 h.fits.0 e in
    let call = same_call n m [] [] g.fits.1 h.fits.1 (ap (drop 3) e) in
    λ i. op.HostWrite (range i) (call i)
same_op (op.HostWrite r n) p g h n1 t e = absurd (omega (arith, t))
same_op (op.Pipeline n) (op.Pipeline m) g h n1 t e = ap (λ (k : ℕ). op.Pipeline k) (same_small n m [] [] g.fits h.fits e)
same_op (op.Pipeline n) p g h n1 t e = absurd (omega (arith, t))
same_op (op.Barrier b) (op.Barrier d) g h n1 t e = ap (λ (x : Barrier). op.Barrier x) (same_barrier b d g h e)
same_op (op.Barrier b) p g h n1 t e = absurd (omega (arith, t))
same_op (op.Command c) (op.Command d) g h n1 t e = ap (λ (x : Command). op.Command x) (same_command c d g h n1 e)
same_op (op.Command c) p g h n1 t e = absurd (omega (arith, t))
same_op (op.Submit k) (op.Submit l) g h n1 t e = ap (λ (x : ℕ). op.Submit x) (same_wide k l [] [] g.fits h.fits e)
same_op (op.Submit k) p g h n1 t e = absurd (omega (arith, t))
same_op (op.Fence k) (op.Fence l) g h n1 t e = ap (λ (x : ℕ). op.Fence x) (same_wide k l [] [] g.fits h.fits e)
same_op (op.Fence k) p g h n1 t e = absurd (omega (arith, t))
same_op (op.HostRead r n) (op.HostRead s m) g h n1 t e =
    let range = same_host_range r s _ _ g.fits.0 h.fits.0 e in
    let call = same_call n m [] [] g.fits.1 h.fits.1 (ap (drop 3) e) in
    λ i. op.HostRead (range i) (call i)
same_op (op.HostRead r n) p g h n1 t e = absurd (omega (arith, t))

-- no two operations have one line
same_bare : (o p : VkOp) → IsOp o → IsOp p → join 32 (op_words o) ≡ join 32 (op_words p) → o ≡ p
same_bare o p g h e =
    let both : first_word o ∷ fields o ≡ first_word p ∷ fields p = sym (op_split o (join 32 (op_words o)) g refl) ∙ op_split p (join 32 (op_words o)) h e in
    let name = heads (first_word o) (first_word p) (fields o) (fields p) both in
    same_op o p g h name (sym (tag_is o) ∙ ap tag_of name ∙ tag_is p) (ap (drop 1) both)

-- and none begins another
pub line_front : (o p : VkOp) (x y : List ℕ) → IsOp o → IsOp p → line o ++ x ≡ line p ++ y → (o ≡ p) × (x ≡ y)
line_front o p x y g h e =
    let same = same_cut 10 (join 32 (op_words o)) (join 32 (op_words p)) (10 ∷ x) (10 ∷ y) (no_feed o g) (no_feed p h) refl refl (sym (line_then o x) ∙ e ∙ line_then p y) in
    (same_bare o p g h same.0, ap (drop 1) same.1)

-- ---- texts

-- no operation's line stands in front
record Stops (x : List ℕ) : Type 0 where
  none : (o : VkOp) (more : List ℕ) → IsOp o → x ≡ line o ++ more → ⊥

nothing : (o : VkOp) (more : List ℕ) → [] ≡ line o ++ more → ⊥
unfolding line
nothing o more e = not_nil (join 32 (op_words o)) (10 ∷ []) more e refl
  where
    not_nil : (xs ys more : List ℕ) → [] ≡ (xs ++ ys) ++ more → ys ≡ 10 ∷ [] → ⊥
    not_nil [] [] more e f = cc f
    not_nil [] (y ∷ ys) more e f = cc e
    not_nil (x ∷ xs) ys more e f = cc e

stops_nil : Stops []
stops_nil = record { none = λ o more g e. nothing o more e }

-- two readings of one text are one
one_front : (a b : List VkOp) (x y : List ℕ) → AllByRecursion IsOp a → AllByRecursion IsOp b → Stops x → Stops y → text_of a ++ x ≡ text_of b ++ y → (a ≡ b) × (x ≡ y)
one_front [] [] x y p q sx sy e = (refl, e)
one_front [] (o ∷ b) x y p q sx sy e = absurd (sx.none o (text_of b ++ y) q.0 (e ∙ append_assoc (line o) (text_of b) y))
one_front (o ∷ a) [] x y p q sx sy e = absurd (sy.none o (text_of a ++ x) p.0 (sym e ∙ append_assoc (line o) (text_of a) x))
one_front (o ∷ a) (u ∷ b) x y p q sx sy e =
    let first = line_front o u (text_of a ++ x) (text_of b ++ y) p.0 q.0 (sym (append_assoc (line o) (text_of a) x) ∙ e ∙ append_assoc (line u) (text_of b) y) in
    let others = one_front a b x y p.1 q.1 sx sy first.1 in
    (λ i. first.0 i ∷ others.0 i, others.1)

pub one_listing : (text : List ℕ) (a b : List VkOp) → ListText text a → ListText text b → a ≡ b
one_listing text a b p q = (one_front a b [] [] p.each q.each stops_nil stops_nil (append-nil (text_of a) ∙ sym p.spelled ∙ q.spelled ∙ sym (append-nil (text_of b)))).0

pub one_text : (s t : List ℕ) (ops : List VkOp) → ListText s ops → ListText t ops → s ≡ t
one_text s t ops p q = p.spelled ∙ sym q.spelled

pub every_listing : (ops : List VkOp) → AllByRecursion IsOp ops → ListText (text_of ops) ops
every_listing ops all = record { spelled = refl; each = all }

pub read_back : (ops others : List VkOp) → AllByRecursion IsOp ops → ListText (text_of ops) others → others ≡ ops
read_back ops others all p = one_listing (text_of ops) others ops p (every_listing ops all)

pub no_bad_line : (text : List ℕ) (ops : List VkOp) (n : ℕ) → ListText text ops → IsFirstBad text n → ⊥
no_bad_line text ops n p b =
    let same = one_front ops b.ops [] b.rest p.each b.each stops_nil (record { none = b.no_line }) (append-nil (text_of ops) ∙ sym p.spelled ∙ b.spelled) in
    absurd (omega (arith, b.more, ap length same.1))

pub one_bad_line : (text : List ℕ) (m n : ℕ) → IsFirstBad text m → IsFirstBad text n → m ≡ n
one_bad_line text m n b d =
    let same = one_front b.ops d.ops b.rest d.rest b.each d.each (record { none = b.no_line }) (record { none = d.no_line }) (sym b.spelled ∙ d.spelled) in
    omega (arith, b.number, d.number, ap length same.0)
