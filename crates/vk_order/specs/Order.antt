-- Where an order is none that the listing allows.
use Rattle.std.specs.Prelude.{◌≡◌, ℕ, ◌<◌, Bool, true, false, not, cond, ◌==◌, ◌&&◌, List, [], ◌∷◌, take, Option, Some, None, slice_get}
use Rattle.std.specs.List.{list_any}
use Rattle.vk_types.specs.declared.op.VkOp.{VkOp}
use Rattle.base_lemmas.specs.Lists.{IsReordering}
use Rattle.vk_types.specs.Listing.{is_act, acts, first_submit}
use Rattle.vk_types.specs.Before.{Side, On_host, On_device, No_act, op_orders, is_fenced, before}

-- what two sides are ordered by, with what stands behind the first and what stands between them
abbrev pub ordered_by : List VkOp → List VkOp → Side → Side → Bool
ordered_by rest mid On_host On_host = true
ordered_by rest mid On_host (On_device d) = true
ordered_by rest mid On_host No_act = false
ordered_by rest mid (On_device c) On_host = is_fenced (first_submit rest) mid
ordered_by rest mid (On_device c) (On_device d) = list_any (op_orders c d) mid
ordered_by rest mid (On_device c) No_act = false
ordered_by rest mid No_act s = false

-- an act stands there
abbrev pub is_act_in : Option VkOp → Bool
is_act_in None = false
is_act_in (Some o) = is_act o

-- the place is an act's, and none of these
abbrev pub is_new : List VkOp → List ℕ → ℕ → Bool
is_new ops front place = is_act_in (slice_get ops place) && not (list_any (λ x. x == place) front)

abbrev pub is_new_in : List VkOp → List ℕ → Option ℕ → Bool
is_new_in ops front None = false
is_new_in ops front (Some place) = is_new ops front place

-- the place in the order is new, after those before it
abbrev pub is_new_at : List VkOp → List ℕ → ℕ → Bool
is_new_at ops order at = is_new_in ops (take at order) (slice_get order at)

-- the order's first place that is no act's or repeats, or its length where it has none and is too short
abbrev pub IsFirstOdd : List VkOp → List ℕ → ℕ → Type 0
IsFirstOdd ops order at = ((i : ℕ) → i < at → is_new_at ops order i ≡ true) × (is_new_at ops order at ≡ false) × (IsReordering (acts ops) order → ⊥)

-- what stands behind the first place q
abbrev pub late_of : List ℕ → ℕ → List ℕ
late_of [] q = []
late_of (o ∷ os) q = cond (o == q) os (late_of os q)

-- the place stands in these
abbrev pub stands_in : List ℕ → ℕ → Bool
stands_in places p = list_any (λ x. x == p) places

-- in the order, the place q stands before the place p
abbrev pub stands_before : List ℕ → ℕ → ℕ → Bool
stands_before order q p = stands_in (late_of order q) p

-- the listing orders x before y, and the order has y before x
abbrev pub is_broken : List VkOp → List ℕ → ℕ → ℕ → Bool
is_broken ops order x y = before ops x y && stands_before order y x

-- the first broken pair: with the least second place, and among those with the least first
pub record IsFirstBroken (ops : List VkOp) (order : List ℕ) (first second : ℕ) : Type 0 where
  pub whole : IsReordering (acts ops) order
  pub here : is_broken ops order first second ≡ true
  pub none_before : (x y : ℕ) → y < second → is_broken ops order x y ≡ false
  pub least : (x : ℕ) → x < first → is_broken ops order x second ≡ false
