-- Marks of a tree don't fall, and each node's best is at least the marks below it.
use Rattle.std.proofs.Common.{◌≡◌, ℕ, ◌+◌, ◌*◌, ◌/◌, ◌<◌, ◌≤◌, max, List, length, get_or, refl, sym, ap, subst, ◌∙◌, ◌⊎◌, inl, inr, arith}
use Rattle.std.proofs.Math.ListN.{set}
use Rattle.std.proofs.lemmas.List.{get_or-set_other, get_or-set_same, length-set}
use Rattle.std.proofs.lemmas.Bool.{cases_eq, cases_lt}
use Rattle.vk_order.specs.declared.tree.Part.{Part}
use Rattle.vk_order.specs.declared.tree.MaxTree.{MaxTree}
use Rattle.vk_order.specs.declared.tree.Reach.{Reach}
use Rattle.vk_order.specs.Tree.{marked_here, marked_left, marked_right, AreAtMost, AreTops, NotedWithin, Grew, HasMark, IsNode, IsUnder, Marked, MarksGrew, left_of, right_of, root_of}

set_at : (xs : List ℕ) (e v k : ℕ) → e < length xs → ((k ≡ e) × (get_or (set xs e v) k 0 ≡ v)) ⊎ (get_or (set xs e v) k 0 ≡ get_or xs k 0)
set_at xs e v k l =
    elim (cases_eq k e) [
      | inl same ↦ inl (same, ap (λ i. get_or (set xs e v) i 0) same ∙ get_or-set_same xs e v 0 l)
      | inr n ↦ inr (get_or-set_other xs e k v 0 n)
    ]

pub grew_same : (xs : List ℕ) → Grew xs xs
grew_same xs = record { len = refl; each = λ k. omega arith }

pub grew_more : (xs ys zs : List ℕ) → Grew xs ys → Grew ys zs → Grew xs zs
grew_more xs ys zs g h = record { len = h.len ∙ g.len; each = λ k. let a = g.each k in let b = h.each k in omega (arith, a, b) }

pub grew_set : (xs : List ℕ) (e v : ℕ) → e < length xs → get_or xs e 0 ≤ v → Grew xs (set xs e v)
grew_set xs e v l le = record { len = length-set xs e v; each = at }
  where
    at : (k : ℕ) → get_or xs k 0 ≤ get_or (set xs e v) k 0
    at k =
        elim (set_at xs e v k l) [
          | inl s ↦ let f : get_or xs k 0 ≡ get_or xs e 0 = ap (λ i. get_or xs i 0) s.0 in let g = s.1 in omega (arith, f, g, le)
          | inr o ↦ omega (arith, o)
        ]

pub tops_best : (marks bests : List ℕ) (node number best : ℕ) → AreTops marks bests → IsUnder bests node number → node < length bests
    → best ≡ max (get_or bests node 0) number → AreTops marks (set bests node best)
tops_best marks bests node number best t u l e = record {
  mark = λ k. let a = t.mark k in let b = (grown).each k in omega (arith, a, b);
  left = λ k one. child k (2 * k) one (inl refl) (t.left k one);
  right = λ k one. child k (2 * k + 1) one (inr refl) (t.right k one);
}
  where
    grown : Grew bests (set bests node best)
    grown = grew_set bests node best l (omega (arith, e))

    child : (k c : ℕ) → 1 ≤ k → (c ≡ 2 * k) ⊎ (c ≡ 2 * k + 1) → get_or bests c 0 ≤ get_or bests k 0 → get_or (set bests node best) c 0 ≤ get_or (set bests node best) k 0
    child k c one is le =
        let b = (grown).each k in
        elim (set_at bests node best c l) [
          | inr o ↦ omega (arith, o, le, b)
          | inl s ↦
              let f : get_or bests c 0 ≡ get_or bests node 0 = ap (λ i. get_or bests i 0) s.0 in
              let under : number ≤ get_or bests k 0 = u k one (subst (λ (n : ℕ). (n ≡ 2 * k) ⊎ (n ≡ 2 * k + 1)) s.0 is) in
              let g = s.1 in
              omega (arith, f, g, e, le, b, under)
        ]

pub tops_mark : (marks bests : List ℕ) (node mark : ℕ) → AreTops marks bests → node < length marks → mark ≤ get_or bests node 0 → AreTops (set marks node mark) bests
tops_mark marks bests node mark t l le = record { mark = at; left = t.left; right = t.right }
  where
    at : (k : ℕ) → get_or (set marks node mark) k 0 ≤ get_or bests k 0
    at k =
        let a = t.mark k in
        elim (set_at marks node mark k l) [
          | inl s ↦ let f : get_or bests k 0 ≡ get_or bests node 0 = ap (λ i. get_or bests i 0) s.0 in let g = s.1 in omega (arith, f, g, le)
          | inr o ↦ omega (arith, o, a)
        ]

-- the nodes below one whose best is set have it above them
pub under_set : (bests : List ℕ) (node number best c : ℕ) → node < length bests → number ≤ best → (c ≡ 2 * node) ⊎ (c ≡ 2 * node + 1) → IsUnder (set bests node best) c number
under_set bests node number best c l le is e one above =
    let same : node ≡ e = halves is above in
    let s : get_or (set bests node best) node 0 ≡ best = get_or-set_same bests node best 0 l in
    let f : get_or (set bests node best) node 0 ≡ get_or (set bests node best) e 0 = ap (λ i. get_or (set bests node best) i 0) same in
    omega (arith, s, f, le)
  where
    halves : (c ≡ 2 * node) ⊎ (c ≡ 2 * node + 1) → (c ≡ 2 * e) ⊎ (c ≡ 2 * e + 1) → node ≡ e
    halves (inl a) (inl b) = omega (arith, a, b)
    halves (inl a) (inr b) = absurd (omega (arith, a, b))
    halves (inr a) (inl b) = absurd (omega (arith, a, b))
    halves (inr a) (inr b) = omega (arith, a, b)

pub under_grew : (old new : List ℕ) (c number : ℕ) → Grew old new → IsUnder old c number → IsUnder new c number
under_grew old new c number g u e one above = let a = u e one above in let b = g.each e in omega (arith, a, b)

pub node_left : (count : ℕ) (p lp : Part) → lp ≡ left_of p → IsNode count p → p.node < count / 2 → IsNode count lp
node_left count p lp e n l =
    let a = n.from in let b = n.places in
    subst (λ (q : Part). IsNode count q) (sym e) (record { from = omega (arith, a); to = omega (arith, l); places = omega (arith, b) })

pub node_right : (count : ℕ) (p rp : Part) → rp ≡ right_of p → IsNode count p → p.node < count / 2 → IsNode count rp
node_right count p rp e n l =
    let a = n.from in let b = n.places in
    subst (λ (q : Part). IsNode count q) (sym e) (record { from = omega (arith, a); to = omega (arith, l); places = omega (arith, b) })

-- what is marked stays so
pub marked_grew : (old new : List ℕ) (number at : ℕ) (p : Part) → Grew old new → Marked old number at p → Marked new number at p
marked_grew old new number at p g (marked_here h) = let a = g.each p.node in marked_here (omega (arith, a, h))
marked_grew old new number at p g (marked_left l m) = marked_left l (marked_grew old new number at (left_of p) g m)
marked_grew old new number at p g (marked_right l m) = marked_right l (marked_grew old new number at (right_of p) g m)

pub marked_top : (marks bests : List ℕ) (number at : ℕ) (p : Part) → AreTops marks bests → 1 ≤ p.node → Marked marks number at p → number ≤ get_or bests p.node 0
marked_top marks bests number at p t one (marked_here h) = let a = t.mark p.node in omega (arith, a, h)
marked_top marks bests number at p t one (marked_left l m) =
    let a = marked_top marks bests number at (left_of p) t (omega (arith, one)) m in let b = t.left p.node one in omega (arith, a, b)
marked_top marks bests number at p t one (marked_right l m) =
    let a = marked_top marks bests number at (right_of p) t (omega (arith, one)) m in let b = t.right p.node one in omega (arith, a, b)

-- a mark is at the node itself, or below one of its halves
pub marked_below : (marks : List ℕ) (number at most left right : ℕ) (p : Part) → get_or marks p.node 0 ≤ most → left ≤ most → right ≤ most
    → (at < p.from + p.width / 2 → Marked marks number at (left_of p) → number ≤ left) → (p.from + p.width / 2 ≤ at → Marked marks number at (right_of p) → number ≤ right)
    → Marked marks number at p → number ≤ most
marked_below marks number at most left right p mine left_le right_le l r (marked_here h) = omega (arith, mine, h)
marked_below marks number at most left right p mine left_le right_le l r (marked_left b m) = let a = l b m in omega (arith, a, left_le)
marked_below marks number at most left right p mine left_le right_le l r (marked_right b m) = let a = r b m in omega (arith, a, right_le)

-- what is at most a number in both halves, and at the node, is so in all
pub halves_at_most : (marks : List ℕ) (p lp rp : Part) (reach : Reach) (left right most : ℕ) → lp ≡ left_of p → rp ≡ right_of p → get_or marks p.node 0 ≤ most → left ≤ most → right ≤ most
    → AreAtMost marks lp reach left → AreAtMost marks rp reach right → AreAtMost marks p reach most
halves_at_most marks p lp rp reach left right most el er here left_le right_le l r i n from to low high m =
    let ll : AreAtMost marks (left_of p) reach left = subst (λ (q : Part). AreAtMost marks q reach left) el l in
    let rr : AreAtMost marks (right_of p) reach right = subst (λ (q : Part). AreAtMost marks q reach right) er r in
    marked_below marks n i most left right p here left_le right_le (λ b k. ll i n from to low b k) (λ b k. rr i n from to b (omega (arith, high)) k) m

pub halves_noted : (old new : List ℕ) (p lp rp : Part) (reach : Reach) (number : ℕ) → lp ≡ left_of p → rp ≡ right_of p → Grew old new
    → NotedWithin old lp reach number → NotedWithin new rp reach number → NotedWithin new p reach number
halves_noted old new p lp rp reach number el er g l r i from to low high =
    let ll : NotedWithin old (left_of p) reach number = subst (λ (q : Part). NotedWithin old q reach number) el l in
    let rr : NotedWithin new (right_of p) reach number = subst (λ (q : Part). NotedWithin new q reach number) er r in
    elim (cases_lt i (p.from + p.width / 2)) [
      | inl b ↦ marked_left b (marked_grew old new number i (left_of p) g (ll i from to low b))
      | inr b ↦ marked_right b (rr i from to b (omega (arith, high)))
    ]

pub tree_grew : (old new : MaxTree) (i number : ℕ) → MarksGrew old new → HasMark old i number → HasMark new i number
tree_grew old new i number g m =
    subst (λ (w : ℕ). Marked new.marks.items number i (root_of w)) (sym g.width) (marked_grew old.marks.items new.marks.items number i (root_of old.width) g.marks m)

pub tree_same : (t : MaxTree) → MarksGrew t t
tree_same t = record { width = refl; marks = grew_same t.marks.items }

pub tree_more : (s t u : MaxTree) → MarksGrew s t → MarksGrew t u → MarksGrew s u
tree_more s t u g h = record { width = h.width ∙ g.width; marks = grew_more s.marks.items t.marks.items u.marks.items g.marks h.marks }
