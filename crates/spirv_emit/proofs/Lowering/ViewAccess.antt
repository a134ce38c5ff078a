-- An access to a view reaches the word that the view names, or misses it.
use Rattle.std.proofs.Common.{◌≡◌, ℕ, suc, ◌+◌, ◌*◌, ◌/◌, ◌<◌, ◌≤◌, Bool, true, false, if◌then◌else◌, length, Option, Some, None, refl, sym, ap, ◌∙◌, arith}
use Rattle.std.specs.Prelude.{◌&&◌, nat_lt}
use Rattle.std.proofs.Math.Nat.{div-mul-le_self, mul-le-mul}
use Rattle.std.proofs.lemmas.Bool.{lt-ltb, ltb-true}
use Rattle.dx_types.specs.declared.shape.Form.{Form}
use Rattle.dx_types.specs.declared.shape.Form.TheVariants.{Raw, Structured, Typed}
use Rattle.shader_model.specs.declared.ids.Ids.{Ids}
use Rattle.shader_model.specs.Invocation as model
use Rattle.spirv_model.specs.Meaning.Values.{Value, Word, Truth}
use Rattle.spirv_model.specs.Meaning.Bindings.{words_at}
use Rattle.spirv_emit.specs.declared.piece.Action.{Action}
use Rattle.spirv_emit.specs.declared.piece.Spot.{Spot}
use Rattle.spirv_emit.specs.Lower.{may_reach, inside_by, place_by, reach}
use Rattle.spirv_emit.specs.Frames.{Frame, leaf_word, calculated, acted, missed, acted_at, reached, piece_done}
use Rattle.spirv_emit.proofs.Lowering.ViewFormulas.{raw_tells, raw_gives, structured_tells, structured_gives, typed_tells, typed_gives}

-- the word w of the element x of k words is one of n
pub element_inside : (x w k n : ℕ) → x < n / k → w < k → x * k + w < n
element_inside x w k n lx lw =
    let h = div-mul-le_self n k in
    let m : suc x * k ≤ n / k * k = mul-le-mul (let z : suc x ≤ n / k = omega (arith, lx) in z) (let z : k ≤ k = omega arith in z) in
    let s : suc x * k ≡ x * k + k = omega arith in
    omega (arith, h, m, s, lw)

pub and_parts : (a b : Bool) → (a && b) ≡ true → (a ≡ true) × (b ≡ true)
and_parts true true e = (refl, refl)
and_parts true false e = cc
and_parts false b e = cc

-- what an action leaves at a word, or where there is none
abbrev pub done_at : Ids → (binding : ℕ) → Action → Frame → Option ℕ → Frame
done_at ids b a f None = missed a f
done_at ids b a f (Some i) = acted ids b i a f

-- an access whose condition and whose place are known
reach_by : (ids : Ids) (b i : ℕ) (t : Bool) (place : Option Value) (a : Action) (f : Frame) → (t ≡ true → place ≡ Some (Word i)) → (t ≡ true → i < length (words_at f.slots b)) → reached ids (Some (Truth t)) b place a f ≡ Some (done_at ids b a f (if t then Some i else None))
reach_by ids b i true place a f at less =
    ap (λ q. acted_at ids b q a f) (at refl) ∙ ap (λ t. if t then Some (acted ids b i a f) else None) (lt-ltb i (length (words_at f.slots b)) (less refl))
reach_by ids b i false place a f at less = refl

both_hold : (t u : Bool) → u ≡ true → (t && u) ≡ t
both_hold true u e = e
both_hold false u e = refl

-- the word that an access names is reached
module _ (ids : Ids) (s : Spot) (c : ℕ) (a : Action) (f : Frame) (lc : c < 4) (few : s.parameter ≤ 2048) (limit : length (words_at f.slots s.binding) ≤ 4194304) where
  abbrev n : ℕ
  n = length (words_at f.slots s.binding)

  abbrev x : ℕ
  x = leaf_word ids f s.address

  abbrev y : ℕ
  y = leaf_word ids f s.offset

  abbrev p : ℕ
  p = s.parameter

  pub by_form : (form : Form) → may_reach form p c ≡ true → reached ids (calculated ids f (inside_by form s c)) s.binding (calculated ids f (place_by form s c)) a f ≡ Some (done_at ids s.binding a f (model.place_by form p n x y c))
  by_form Raw m =
      ap (λ q. reached ids q s.binding (calculated ids f (place_by Raw s c)) a f) (raw_tells x c n 0 0 lc limit)
      ∙ reach_by ids s.binding (x / 4 + c) (nat_lt (x / 4 + c) n) _ a f
      (λ t. let k = ltb-true (x / 4 + c) n t in raw_gives x c 0 0 0 (omega (arith, k, limit)))
      (λ t. ltb-true (x / 4 + c) n t)
  by_form Structured m =
      let pos = ltb-true 0 (p / 4) m in
      ap (λ q. reached ids q s.binding (calculated ids f (place_by Structured s c)) a f) (structured_tells x y c (p / 4) n lc pos (omega (arith, few)))
      ∙ reach_by ids s.binding (x * (p / 4) + (y / 4 + c)) (nat_lt x (n / (p / 4)) && nat_lt (y / 4 + c) (p / 4)) _ a f
      (λ t.
      let q = and_parts (nat_lt x (n / (p / 4))) (nat_lt (y / 4 + c) (p / 4)) t in
      let k = element_inside x (y / 4 + c) (p / 4) n (ltb-true x (n / (p / 4)) q.0) (ltb-true (y / 4 + c) (p / 4) q.1) in
      structured_gives x y c (p / 4) 0 (omega (arith, k, limit)))
      (λ t.
      let q = and_parts (nat_lt x (n / (p / 4))) (nat_lt (y / 4 + c) (p / 4)) t in
      element_inside x (y / 4 + c) (p / 4) n (ltb-true x (n / (p / 4)) q.0) (ltb-true (y / 4 + c) (p / 4) q.1))
  by_form Typed m =
      let less = ltb-true c p m in
      ap (λ q. reached ids q s.binding (calculated ids f (place_by Typed s c)) a f) (typed_tells x p n 0 0 (omega (arith, less)))
      ∙ reach_by ids s.binding (x * p + c) (nat_lt x (n / p)) _ a f
      (λ t. let k = element_inside x c p n (ltb-true x (n / p) t) less in typed_gives x p c 0 0 (omega (arith, k, limit)))
      (λ t. element_inside x c p n (ltb-true x (n / p) t) less)
      ∙ ap (λ (g : Bool). Some (done_at ids s.binding a f (if g then Some (x * p + c) else None))) (sym (both_hold (nat_lt x (n / p)) (nat_lt c p) (lt-ltb c p less)))

  pub reach_done : may_reach s.form s.parameter c ≡ true → piece_done ids (reach s c a) f ≡ Some (done_at ids s.binding a f (model.place_by s.form s.parameter n x y c))
  reach_done m = by_form s.form m
