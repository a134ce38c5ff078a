-- A node's code and numbers, before those of what stands behind it.
use Rattle.std.proofs.Common.{◌≡◌, ℕ, suc, ◌+◌, ◌<◌, ◌≤◌, ◌^◌, List, [], ◌∷◌, ◌++◌, length, drop, get_or, Option, Some, None, Bool, true, false, refl, sym, ap, ◌∙◌, subst, arith, append_assoc}
use Rattle.std.specs.Prelude.{IsTrue, not, ◌-◌, flat_map}
use Rattle.shader_model.specs.declared.tree.Declared.{Declared}
use Rattle.shader_model.specs.declared.tree.Test.{Test}
use Rattle.shader_model.specs.declared.tree.Node.{Node, out-Node}
use Rattle.shader_model.specs.declared.tree.Node.TheVariants as node
use Rattle.shader_model.specs.declared.tree.Node.TheOpen.{Node-F}
use Rattle.shader_model.specs.declared.tree.Node.TheFolds.{fold-Node, fold_out-Node, map-Node}
use Rattle.shader_model.specs.Body.{Body, End, If, before, chain, node_before, body_of}
use Rattle.shader_model.proofs.Trees.{before_if, of_more}
use Rattle.spirv_model.specs.declared.settings.TheConstants as setting
use Rattle.spirv_model.specs.Op.{Op}
use Rattle.spirv_model.specs.Op as op
use Rattle.spirv_emit.specs.declared.code.Code.{Code}
use Rattle.spirv_emit.specs.Layout.{Layout}
use Rattle.spirv_emit.specs.Lower.{instr_pieces}
use Rattle.spirv_emit.specs.declared.piece.Calculation.{Calculation}
use Rattle.spirv_emit.specs.declared.piece.Piece.{Piece}
use Rattle.spirv_emit.specs.Code.{calculation_ops, calculation_size, calculation_id, choice_ops, pieces_ops, pieces_end, inner_start, test_end, loop_ops, body_ops, body_end}
use Rattle.spirv_emit.specs.Numbers.{from_on, with_numbers, with_number, body_numbers}
use Rattle.spirv_emit.specs.Emits.{written, Puts, Appends, Left, Joins, Stops, Numbered, TestIsSmall, MaybeIsSmall, MaybeReady, BodyIsSmall, left_ops, left_end, loop_front}
use Rattle.spirv_emit.proofs.Words.Appending.{written_append, puts_and, then_puts, appends_then, appends_to}
use Rattle.spirv_emit.proofs.Words.ListedCode.{rest_is}
use Rattle.spirv_emit.proofs.Words.LabelRanges as shape

pub of_here : (xs : List Node) (i : ℕ) (d : Node) → i < length xs → body_of (drop i xs) ≡ node_before (get_or xs i d) (body_of (drop (i + 1) xs))
of_here xs i d lt = ap body_of (rest_is xs i d lt) ∙ of_more (get_or xs i d) (drop (i + 1) xs)

module _ (ds : List Declared) (at : Layout) (c0 c1 : Code) (x : Node) (k b c : ℕ) where
  pub joins_by : (whole : Body → Body) (ops : List Op) (n : ℕ) → ((rest : Body) → node_before x rest ≡ whole rest) → ((rest : Body) → body_ops ds at (whole rest) c0.next k b c ≡ ops ++ body_ops ds at rest n k b c) → ((rest : Body) → body_end ds (whole rest) c0.next ≡ body_end ds rest n) → Appends c0 c1 ops n → Joins ds at c0 c1 x k b c
  joins_by whole ops n e f g h = record {
    words_are = λ rest.
        ap (λ z. c0.words ++ written (body_ops ds at z c0.next k b c)) (e rest)
        ∙ ap (λ z. c0.words ++ written z) (f rest)
        ∙ ap (λ z. c0.words ++ z) (written_append ops (body_ops ds at rest n k b c))
        ∙ sym (append_assoc c0.words (written ops) (written (body_ops ds at rest n k b c)))
        ∙ ap (λ z. z ++ written (body_ops ds at rest n k b c)) (sym h.words_are)
        ∙ ap (λ m. c1.words ++ written (body_ops ds at rest m k b c)) (sym h.next_is);
    end_is = λ rest. ap (λ z. body_end ds z c0.next) (e rest) ∙ g rest ∙ ap (body_end ds rest) (sym h.next_is);
  }

  pub stops_by : (whole : Body → Body) (ops : List Op) → ((rest : Body) → node_before x rest ≡ whole rest) → ((rest : Body) → body_ops ds at (whole rest) c0.next k b c ≡ ops) → ((rest : Body) → body_end ds (whole rest) c0.next ≡ c0.next) → Appends c0 c1 ops c0.next → Stops ds at c0 c1 x k b c
  stops_by whole ops e f g h = record {
    appends = λ rest. record {
      words_are = h.words_are ∙ ap (λ z. c0.words ++ written z) (sym (ap (λ z. body_ops ds at z c0.next k b c) (e rest) ∙ f rest));
      next_is = h.next_is ∙ sym (ap (λ z. body_end ds z c0.next) (e rest) ∙ g rest);
    };
  }

  -- a leave
  module _ (whole : Option Test → Body → Body) (o : Op) (t : Option Test) (e : (rest : Body) → node_before x rest ≡ whole t rest) where
    pub joins_left : (on : Bool) → ((t : Test) (rest : Body) → body_ops ds at (whole (Some t) rest) c0.next k b c ≡ left_ops at c0.next t o ++ body_ops ds at rest (left_end c0.next t) k b c) → ((t : Test) (rest : Body) → body_end ds (whole (Some t) rest) c0.next ≡ body_end ds rest (left_end c0.next t)) → Left at c0 c1 o t on → IsTrue on → Joins ds at c0 c1 x k b c
    joins_left on f g h holds = left t on e h holds
      where
        left : (t : Option Test) (on : Bool) → ((rest : Body) → node_before x rest ≡ whole t rest) → Left at c0 c1 o t on → IsTrue on → Joins ds at c0 c1 x k b c
        left (Some t) true e h holds = joins_by (whole (Some t)) (left_ops at c0.next t o) (left_end c0.next t) e (f t) (g t) h
        left None true e h holds = absurd h
        left (Some t) false e h holds = absurd h
        left None false e h holds = absurd (cc)

    pub stops_left : (on : Bool) → ((rest : Body) → body_ops ds at (whole None rest) c0.next k b c ≡ o ∷ []) → ((rest : Body) → body_end ds (whole None rest) c0.next ≡ c0.next) → Left at c0 c1 o t on → IsTrue (not on) → Stops ds at c0 c1 x k b c
    stops_left on f g h fails = left t on e h fails
      where
        left : (t : Option Test) (on : Bool) → ((rest : Body) → node_before x rest ≡ whole t rest) → Left at c0 c1 o t on → IsTrue (not on) → Stops ds at c0 c1 x k b c
        left None false e h fails = stops_by (whole None) (o ∷ []) e f g h
        left None true e h fails = absurd h
        left (Some t) false e h fails = absurd h
        left (Some t) true e h fails = absurd (cc)

-- the front of a loop, its body and its end
pub loop_made : {c0 c1 c2 c3 : Code} (at : Layout) (inner inner' : List Op) (header behind again end end' : ℕ) → Appends c0 c1 (loop_front at c0.next) (inner_start c0.next) → Appends c1 c2 inner end → Puts c2 c3 (op.Label again ∷ op.Branch header ∷ op.Label behind ∷ []) → header ≡ c0.next → behind ≡ c0.next + 1 → again ≡ c0.next + 2 → inner ≡ inner' → end ≡ end' → Appends c0 c3 (loop_ops at c0.next inner') end'
loop_made {c0 = c0} at inner inner' header behind again end end' p q r eh eb ea ei ee =
    let n = c0.next in
    let last = op.Label (n + 2) ∷ op.Branch n ∷ op.Label (n + 1) ∷ [] in
    let el : op.Label again ∷ op.Branch header ∷ op.Label behind ∷ [] ≡ last = cc (eh, eb, ea) in
    appends_to (appends_then p (then_puts q r))
    (ap (λ z. loop_front at n ++ (inner ++ z)) el ∙ ap (λ z. loop_front at n ++ (z ++ last)) ei ∙ front_then n inner' last)
    ee
  where
    front_then : (n : ℕ) (inner last : List Op) → loop_front at n ++ (inner ++ (op.Label (n + 2) ∷ op.Branch n ∷ op.Label (n + 1) ∷ [])) ≡ loop_ops at n inner
    front_then n inner last = simp append_assoc

-- ## Ids for a node

module _ (at : Layout) (ds : List Declared) where
  layer_end : (l : Node-F (Body → Body)) (rest : Body) (n : ℕ) → body_end ds (before l End) n ≤ body_end ds (before l rest) n
  layer_end (Node-F.Plain i) rest n = shape.body_grows at ds rest (pieces_end n (instr_pieces ds i))
  layer_end (Node-F.If t p q) rest n = shape.body_grows at ds rest (body_end ds (chain q End) (body_end ds (chain p End) (test_end ds n t)))
  layer_end (Node-F.Loop p) rest n = shape.body_grows at ds rest (body_end ds (chain p End) (inner_start n))
  layer_end (Node-F.Break None) rest n = omega arith
  layer_end (Node-F.Break (Some t)) rest n = shape.body_grows at ds rest (test_end ds n t)
  layer_end (Node-F.Continue None) rest n = omega arith
  layer_end (Node-F.Continue (Some t)) rest n = shape.body_grows at ds rest (test_end ds n t)
  layer_end (Node-F.Return None) rest n = omega arith
  layer_end (Node-F.Return (Some t)) rest n = shape.body_grows at ds rest (test_end ds n t)

  pub node_end : (x : Node) (rest : Body) (n : ℕ) → body_end ds (node_before x End) n ≤ body_end ds (node_before x rest) n
  unfolding node_before
  node_end x rest n =
      let l = map-Node Node (Body → Body) (fold-Node (Body → Body) before) (out-Node x) in
      let e : (r : Body) → body_end ds (node_before x r) n ≡ body_end ds (before l r) n = λ r. ap (λ (f : Body → Body). body_end ds (f r) n) (fold_out-Node (Body → Body) before x) in
      let h = layer_end l rest n in
      let e0 = e End in
      let e1 = e rest in
      omega (arith, h, e0, e1)

-- ## Numbers

pub with_append : (vs ws seen : List ℕ) → with_numbers seen (vs ++ ws) ≡ with_numbers (with_numbers seen vs) ws
with_append [] ws seen = refl
with_append (v ∷ vs) ws seen = with_append vs ws (with_number seen v)

pub numbered_by : {old new : List ℕ} (x : Node) (whole : Body → Body) (vs : List ℕ) → ((rest : Body) → node_before x rest ≡ whole rest) → ((rest : Body) → body_numbers (whole rest) ≡ vs ++ body_numbers rest) → new ≡ with_numbers old vs → Numbered old new x
numbered_by {old = old} {new = new} x whole vs e f h = record {
  are = λ rest. ap (λ z. with_numbers old (body_numbers z)) (e rest) ∙ ap (with_numbers old) (f rest) ∙ with_append vs (body_numbers rest) old ∙ ap (λ z. with_numbers z (body_numbers rest)) (sym h);
}

pub numbers_step : (vs seen : List ℕ) (i : ℕ) → i < length vs → with_numbers seen (drop i vs) ≡ with_numbers (with_number seen (get_or vs i 0)) (drop (i + 1) vs)
numbers_step vs seen i lt = ap (with_numbers seen) (rest_is vs i 0 lt)

-- ## Tests

pub maybe_room : (ds : List Declared) (whole : Option Test → Body) (t : Option Test) (n : ℕ) → ((u : Test) → body_end ds (whole (Some u)) n ≡ left_end n u) → body_end ds (whole t) n + 16 < 2 ^ 32 → MaybeIsSmall t → MaybeReady n t
maybe_room ds whole None n e h s = tt
maybe_room ds whole (Some t) n e h s = (s, subst (λ z. z + 16 < 2 ^ 32) (e t) h)

-- what a node names has small numbers, and what stands behind it
module _ (ds : List Declared) where
  layer_small : (l : Node-F (Body → Body)) (rest : Body) → BodyIsSmall ds (before l rest) → BodyIsSmall ds (before l End) × BodyIsSmall ds rest
  layer_small (Node-F.Plain i) rest h = ((h.0, tt), h.1)
  layer_small (Node-F.If t p q) rest h = ((h.0, h.1, h.2, tt), h.3)
  layer_small (Node-F.Loop p) rest h = ((h.0, tt), h.1)
  layer_small (Node-F.Break t) rest h = ((h.0, tt), h.1)
  layer_small (Node-F.Continue t) rest h = ((h.0, tt), h.1)
  layer_small (Node-F.Return t) rest h = ((h.0, tt), h.1)

  pub small_here : (x : Node) (rest : Body) → BodyIsSmall ds (node_before x rest) → BodyIsSmall ds (node_before x End) × BodyIsSmall ds rest
  unfolding node_before
  small_here x rest h =
      let e : (r : Body) → node_before x r ≡ before (map-Node Node (Body → Body) (fold-Node (Body → Body) before) (out-Node x)) r = λ r. ap (λ (f : Body → Body). f r) (fold_out-Node (Body → Body) before x) in
      let p = layer_small _ rest (subst (BodyIsSmall ds) (e rest) h) in
      (subst (BodyIsSmall ds) (sym (e End)) p.0, p.1)

  pub if_small : (x : Node) (t : Test) (xs ys : List Node) → x ≡ node.If t xs ys → BodyIsSmall ds (node_before x End) → TestIsSmall t × BodyIsSmall ds (body_of xs) × BodyIsSmall ds (body_of ys)
  if_small x t xs ys is h =
      let z : BodyIsSmall ds (If t (body_of xs) (body_of ys) End) = subst (BodyIsSmall ds) (ap (λ y. node_before y End) is ∙ before_if t xs ys End) h in
      (z.0, z.1, z.2)

-- what a test takes, and a choice by it with two sides that have ids
pub two_sided : {c0 c1 c2 c3 c4 c5 c6 c7 : Code} (at : Layout) (k k' : Calculation) (ps : List Piece) (first first' second second' : List Op) (condition label behind m m' : ℕ) → Appends c0 c1 (pieces_ops at c0.next ps) (pieces_end c0.next ps) → k' ≡ k → Appends c1 c2 (calculation_ops at c1.next k') (c1.next + calculation_size k') → condition ≡ calculation_id at c1.next k' → Appends c2 c3 (op.SelectionMerge (c2.next + 2) setting.NO_CONTROL ∷ op.BranchConditional condition c2.next (c2.next + 1) ∷ op.Label c2.next ∷ []) (c2.next + 3) → label ≡ c2.next + 1 → behind ≡ c2.next + 2 → {j : ℕ} → Appends c3 c4 first j → Puts c4 c5 (op.Label label ∷ []) → Appends c5 c6 second m → Puts c6 c7 (op.Label behind ∷ []) → first ≡ first' → second ≡ second' → m ≡ m' → Appends c0 c7 (pieces_ops at c0.next ps ++ choice_ops at (pieces_end c0.next ps) k first' second') m'
two_sided {c0 = c0} {c1 = c1} {c2 = c2} at k k' ps first first' second second' condition label behind m m' pf same pk ek po el eb p3 p4 p5 p6 ef es em =
    let s = pieces_end c0.next ps in
    let e0 : c1.next ≡ s = pf.next_is in
    let e1 : c2.next ≡ s + calculation_size k = pk.next_is ∙ ap (λ n. n + calculation_size k') e0 ∙ ap (λ z. s + calculation_size z) same in
    let ops : calculation_ops at c1.next k' ≡ calculation_ops at s k = ap (λ n. calculation_ops at n k') e0 ∙ ap (calculation_ops at s) same in
    let id : condition ≡ calculation_id at s k = ek ∙ ap (λ n. calculation_id at n k') e0 ∙ ap (calculation_id at s) same in
    let el' = el ∙ ap (λ n. n + 1) e1 in
    let eb' = eb ∙ ap (λ n. n + 2) e1 in
    let head = ap (λ n. op.SelectionMerge (n + 2) setting.NO_CONTROL ∷ op.BranchConditional condition n (n + 1) ∷ op.Label n ∷ []) e1 in
    let l = s + calculation_size k in
    let front : List Op = pieces_ops at c0.next ps in
    let one = ap (λ z. front ++ (z ++ ((op.SelectionMerge (c2.next + 2) setting.NO_CONTROL ∷ op.BranchConditional condition c2.next (c2.next + 1) ∷ op.Label c2.next ∷ []) ++ (first ++ (op.Label label ∷ (second ++ (op.Label behind ∷ []))))))) ops in
    let two = ap (λ z. front ++ (calculation_ops at s k ++ (z ++ (first ++ (op.Label label ∷ (second ++ (op.Label behind ∷ []))))))) (head ∙ ap (λ r. op.SelectionMerge (l + 2) setting.NO_CONTROL ∷ op.BranchConditional r l (l + 1) ∷ op.Label l ∷ []) id) in
    let rest = ap (λ z. front ++ (calculation_ops at s k ++ (op.SelectionMerge (l + 2) setting.NO_CONTROL ∷ op.BranchConditional (calculation_id at s k) l (l + 1) ∷ op.Label l ∷ z))) in
    let three = rest (ap (λ z. z ++ (op.Label label ∷ (second ++ (op.Label behind ∷ [])))) ef ∙ ap (λ z. first' ++ (op.Label z ∷ (second ++ (op.Label behind ∷ [])))) el' ∙ ap (λ z. first' ++ (op.Label (l + 1) ∷ (z ++ (op.Label behind ∷ [])))) es ∙ ap (λ z. first' ++ (op.Label (l + 1) ∷ (second' ++ (op.Label z ∷ [])))) eb') in
    appends_to (appends_then pf (appends_then pk (appends_then po (appends_then p3 (puts_and p4 (then_puts p5 p6)))))) (one ∙ two ∙ three) em

-- ## While a loop goes over numbers

pub from_front : (i n : ℕ) → i < n → from_on i (n - i) ≡ i ∷ from_on (i + 1) (n - (i + 1))
from_front i n lt = ap (from_on i) (let z : n - i ≡ suc (n - (i + 1)) = omega arith in z)

pub from_done : (i n : ℕ) → n ≤ i → from_on i (n - i) ≡ []
from_done i n le = ap (from_on i) (let z : n - i ≡ 0 = omega arith in z)

module _ {A : Type 0} where
  pub flat_front : (f : A → List ℕ) (xs : List A) (seen : List ℕ) (i : ℕ) (d : A) → i < length xs → with_numbers seen (flat_map f (drop i xs)) ≡ with_numbers (with_numbers seen (f (get_or xs i d))) (flat_map f (drop (i + 1) xs))
  flat_front f xs seen i d lt = ap (λ z. with_numbers seen (flat_map f z)) (rest_is xs i d lt) ∙ with_append (f (get_or xs i d)) (flat_map f (drop (i + 1) xs)) seen
