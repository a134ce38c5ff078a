-- A text is of one listing with one order, or has one first bad line.
use Rattle.std.proofs.Common.{◌≡◌, ℕ, ◌<◌, ◌⊎◌, inl, inr, List, [], ◌∷◌, ◌++◌, length, Option, None, Some, refl, sym, ap, subst, ◌∙◌, append_assoc, arith}
use Rattle.std.specs.List.{AllByRecursion}
use Rattle.std.proofs.lemmas.List.{append-nil}
use Rattle.vk_types.specs.declared.op.VkOp.{VkOp}
use Rattle.vk_trace.specs.ListText.{IsOp, line, text_of}
use Rattle.vk_trace.specs.OrderLine.{IsOrder, order_line}
use Rattle.vk_trace.proofs.Spelling.{line_front}
use Rattle.list_audit.specs.AuditText.{IsListing, IsOrderIf, IsAuditText, IsFirstBad, order_text, order_lines}
use Rattle.list_audit.proofs.Rising.{listing_front}
use Rattle.list_audit.proofs.Lines.{not_both, order_front, nothing, no_order_left}

-- the operations b go on from a, where x is left behind a and y behind b
record GoesOn (a b : List VkOp) (x y : List ℕ) : Type 0 where
  more : List VkOp
  is : b ≡ a ++ more
  left : x ≡ text_of more ++ y

fork : (a b : List VkOp) (x y : List ℕ) → AllByRecursion IsOp a → AllByRecursion IsOp b → text_of a ++ x ≡ text_of b ++ y → GoesOn a b x y ⊎ GoesOn b a y x
fork [] b x y p q e = inl (record { more = b; is = refl; left = e })
fork (o ∷ a) [] x y p q e = inr (record { more = o ∷ a; is = refl; left = sym e })
fork (o ∷ a) (u ∷ b) x y p q e =
    let first = line_front o u (text_of a ++ x) (text_of b ++ y) p.0 q.0 (sym (append_assoc (line o) (text_of a) x) ∙ e ∙ append_assoc (line u) (text_of b) y) in
    let back : u ≡ o = sym first.0 in
    elim (fork a b x y p.1 q.1 first.1) [
      | inl g ↦ let is = g.is in inl (record { more = g.more; is = λ i. back i ∷ is i; left = g.left })
      | inr g ↦ let is = g.is in let there = first.0 in inr (record { more = g.more; is = λ i. there i ∷ is i; left = g.left })
    ]

-- the listing doesn't go on
record Closed (ops : List VkOp) (rest : List ℕ) : Type 0 where
  ended : (o : VkOp) (behind : List ℕ) → IsListing (ops ++ o ∷ []) → rest ≡ line o ++ behind → ⊥

no_more : (a b more : List VkOp) (x y : List ℕ) → Closed a x → IsListing b → b ≡ a ++ more → x ≡ text_of more ++ y → (a ≡ b) × (x ≡ y)
no_more a b [] x y closed l is left = (sym (append-nil a) ∙ sym is, left)
no_more a b (o ∷ more) x y closed l is left =
    absurd (closed.ended o (text_of more ++ y) (listing_front (a ++ o ∷ []) more (subst IsListing (is ∙ sym (append_assoc a (o ∷ []) more)) l)) (left ∙ append_assoc (line o) (text_of more) y))

one_front : (a b : List VkOp) (x y : List ℕ) → Closed a x → Closed b y → IsListing a → IsListing b → text_of a ++ x ≡ text_of b ++ y → (a ≡ b) × (x ≡ y)
one_front a b x y ca cb la lb e =
    elim (fork a b x y la.each lb.each e) [
      | inl g ↦ no_more a b g.more x y ca lb g.is g.left
      | inr g ↦ let same = no_more b a g.more y x cb la g.is g.left in (sym same.0, sym same.1)
    ]

closed_end : (ops : List VkOp) (order : Option (List ℕ)) → Closed ops (order_text order)
closed_end ops None = record { ended = λ o behind l e. nothing o behind e }
closed_end ops (Some places) = record { ended = λ o behind l e. not_both places o [] behind (append-nil (order_line places) ∙ e) }

closed_before : (ops : List VkOp) (order : Option (List ℕ)) (rest : List ℕ) → (order ≡ None → (o : VkOp) (behind : List ℕ) → IsListing (ops ++ o ∷ []) → rest ≡ line o ++ behind → ⊥)
    → Closed ops (order_text order ++ rest)
closed_before ops None rest none = record { ended = none refl }
closed_before ops (Some places) rest none = record { ended = λ o behind l e. not_both places o rest behind e }

closed_bad : (text : List ℕ) (n : ℕ) (b : IsFirstBad text n) → Closed b.ops (order_text b.order ++ b.rest)
closed_bad text n b = closed_before b.ops b.order b.rest b.no_operation

same_order : (p q : Option (List ℕ)) → IsOrderIf p → IsOrderIf q → order_text p ≡ order_text q → p ≡ q
same_order None None g h e = refl
same_order None (Some q) g h e = absurd (no_order_left q [] (e ∙ sym (append-nil (order_line q))))
same_order (Some p) None g h e = absurd (no_order_left p [] (sym e ∙ sym (append-nil (order_line p))))
same_order (Some p) (Some q) g h e = ap (λ (l : List ℕ). Some l) (order_front p q [] [] g h (append-nil (order_line p) ∙ e ∙ sym (append-nil (order_line q)))).0

-- nothing stands behind an order that ends a text
ended_there : (p q : Option (List ℕ)) (rest : List ℕ) → IsOrderIf p → IsOrderIf q → 0 < length rest → (q ≡ None → (places behind : List ℕ) → IsOrder places → rest ≡ order_line places ++ behind → ⊥)
    → order_text p ≡ order_text q ++ rest → ⊥
ended_there None None rest g h more none e = absurd (omega (arith, ap length e))
ended_there None (Some q) rest g h more none e = no_order_left q rest e
ended_there (Some p) None rest g h more none e = none refl p [] g (sym e ∙ sym (append-nil (order_line p)))
ended_there (Some p) (Some q) rest g h more none e =
    let same = order_front p q [] rest g h (append-nil (order_line p) ∙ e) in
    absurd (omega (arith, ap length same.1))

same_lines : (p q : Option (List ℕ)) (x y : List ℕ) → IsOrderIf p → IsOrderIf q
    → (p ≡ None → (places behind : List ℕ) → IsOrder places → x ≡ order_line places ++ behind → ⊥)
    → (q ≡ None → (places behind : List ℕ) → IsOrder places → y ≡ order_line places ++ behind → ⊥)
    → order_text p ++ x ≡ order_text q ++ y → order_lines p ≡ order_lines q
same_lines None None x y g h np nq e = refl
same_lines None (Some q) x y g h np nq e = absurd (np refl q y h e)
same_lines (Some p) None x y g h np nq e = absurd (nq refl p x g (sym e))
same_lines (Some p) (Some q) x y g h np nq e = refl

pub one_listing : (text : List ℕ) (a b : List VkOp) (p q : Option (List ℕ)) → IsAuditText text a p → IsAuditText text b q → (a ≡ b) × (p ≡ q)
one_listing text a b p q r s =
    let same = one_front a b (order_text p) (order_text q) (closed_end a p) (closed_end b q) r.listing s.listing (sym r.spelled ∙ s.spelled) in
    (same.0, same_order p q r.order_good s.order_good same.1)

pub no_bad_line : (text : List ℕ) (ops : List VkOp) (order : Option (List ℕ)) (n : ℕ) → IsAuditText text ops order → IsFirstBad text n → ⊥
no_bad_line text ops order n r b =
    let same = one_front ops b.ops (order_text order) (order_text b.order ++ b.rest) (closed_end ops order) (closed_bad text n b) r.listing b.listing (sym r.spelled ∙ b.spelled) in
    ended_there order b.order b.rest r.order_good b.order_good b.more b.no_order same.1

pub one_bad_line : (text : List ℕ) (m n : ℕ) → IsFirstBad text m → IsFirstBad text n → m ≡ n
one_bad_line text m n b d =
    let same =
    one_front b.ops d.ops (order_text b.order ++ b.rest) (order_text d.order ++ d.rest) (closed_bad text m b) (closed_bad text n d) b.listing d.listing (sym b.spelled ∙ d.spelled) in
    omega (arith, b.number, d.number, ap length same.0, same_lines b.order d.order b.rest d.rest b.order_good d.order_good b.no_order d.no_order same.1)
