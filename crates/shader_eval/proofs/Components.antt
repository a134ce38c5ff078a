-- Values of four components, and the destinations that they go to.
use Rattle.std.proofs.Common.{◌≡◌, ◌<◌, ℕ, zero, suc, List, Option, Some, None, refl, ap, ◌∙◌, arith}
use Rattle.std.specs.Prelude.{slice_index}
use Rattle.shader_model.specs.declared.tree.Target.{Target}
use Rattle.shader_model.specs.Words.{picked}
use Rattle.shader_model.specs.Invocation.{with_component, with_target}
use Rattle.shader_eval.specs.Lanes.{lanes, each_of_one, each_of_two, each_of_three, each_of_four}

lane_at : (f : ℕ → ℕ) (k : ℕ) → k < 4 → slice_index (lanes f) k ≡ f k
lane_at f zero h = refl
lane_at f (suc zero) h = refl
lane_at f (suc (suc zero)) h = refl
lane_at f (suc (suc (suc zero))) h = refl
lane_at f (suc (suc (suc (suc k)))) h = absurd (omega arith)

picked_below : (swizzle c : ℕ) → picked swizzle c < 4
picked_below swizzle c = omega arith

-- the components that a swizzle picks of a value
pub swizzled_of : (f : ℕ → ℕ) (swizzle : ℕ) (v r : List ℕ) → r ≡ lanes (λ c. slice_index v (picked swizzle c)) → v ≡ lanes f → r ≡ lanes (λ c. f (picked swizzle c))
swizzled_of f w v r h e =
    let at : (c : ℕ) → slice_index v (picked w c) ≡ f (picked w c) = λ c. ap (λ z. slice_index z (picked w c)) e ∙ lane_at f (picked w c) (picked_below w c) in
    let e0 = at 0 in
    let e1 = at 1 in
    let e2 = at 2 in
    let e3 = at 3 in
    h ∙ cc

-- a destination takes its four components alone
same_target : (t : Option Target) (f g : ℕ → ℕ) (temps : List ℕ) → f 0 ≡ g 0 → f 1 ≡ g 1 → f 2 ≡ g 2 → f 3 ≡ g 3 → with_target t f temps ≡ with_target t g temps
same_target None f g temps e0 e1 e2 e3 = refl
same_target (Some t) f g temps e0 e1 e2 e3 =
    let one : (c : ℕ) (xs : List ℕ) → f c ≡ g c → with_component t f c xs ≡ with_component t g c xs = λ c xs e. ap (λ z. with_component t (λ k. z) c xs) e in
    let x0 = with_component t f 0 temps in
    let y0 = with_component t g 0 temps in
    let x1 = with_component t f 1 x0 in
    let y1 = with_component t g 1 y0 in
    let x2 = with_component t f 2 x1 in
    let y2 = with_component t g 2 y1 in
    let s0 : x0 ≡ y0 = one 0 temps e0 in
    let s1 : x1 ≡ y1 = ap (with_component t f 1) s0 ∙ one 1 y0 e1 in
    let s2 : x2 ≡ y2 = ap (with_component t f 2) s1 ∙ one 2 y1 e2 in
    ap (with_component t f 3) s2 ∙ one 3 y2 e3

-- a destination that takes a list of components takes those of the function that they are of
pub target_of : (t : Option Target) (g : ℕ → ℕ) (v temps : List ℕ) → v ≡ lanes g → with_target t (λ c. slice_index v c) temps ≡ with_target t g temps
target_of t g v temps e =
    same_target t (λ c. slice_index v c) g temps (ap (λ z. slice_index z 0) e) (ap (λ z. slice_index z 1) e) (ap (λ z. slice_index z 2) e) (ap (λ z. slice_index z 3) e)

pub of_one : (f g : ℕ → ℕ) (a r : List ℕ) → r ≡ each_of_one f a → a ≡ lanes g → r ≡ lanes (λ c. f (g c))
of_one f g a r h e = h ∙ ap (each_of_one f) e

pub of_two : (f : ℕ → ℕ → ℕ) (g h : ℕ → ℕ) (a b r : List ℕ) → r ≡ each_of_two f a b → a ≡ lanes g → b ≡ lanes h → r ≡ lanes (λ c. f (g c) (h c))
of_two f g h a b r e ea eb = e ∙ ap (λ z. each_of_two f z b) ea ∙ ap (each_of_two f (lanes g)) eb

pub of_three : (f : ℕ → ℕ → ℕ → ℕ) (g h k : ℕ → ℕ) (a b d r : List ℕ) → r ≡ each_of_three f a b d → a ≡ lanes g → b ≡ lanes h → d ≡ lanes k → r ≡ lanes (λ c. f (g c) (h c) (k c))
of_three f g h k a b d r e ea eb ed = e ∙ ap (λ z. each_of_three f z b d) ea ∙ ap (λ z. each_of_three f (lanes g) z d) eb ∙ ap (each_of_three f (lanes g) (lanes h)) ed

pub of_four : (f : ℕ → ℕ → ℕ → ℕ → ℕ) (g h k l : ℕ → ℕ) (a b d m r : List ℕ) → r ≡ each_of_four f a b d m → a ≡ lanes g → b ≡ lanes h → d ≡ lanes k → m ≡ lanes l → r ≡ lanes (λ c. f (g c) (h c) (k c) (l c))
of_four f g h k l a b d m r e ea eb ed em =
    e ∙ ap (λ z. each_of_four f z b d m) ea ∙ ap (λ z. each_of_four f (lanes g) z d m) eb ∙ ap (λ z. each_of_four f (lanes g) (lanes h) z m) ed ∙ ap (each_of_four f (lanes g) (lanes h) (lanes k)) em
