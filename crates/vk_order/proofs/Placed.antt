-- What the listing orders, by the operations at the two places.
use Rattle.std.proofs.Common.{◌≡◌, ℕ, suc, ◌+◌, ◌-◌, ◌<◌, ◌&&◌, List, take, drop, refl, sym, ap, ◌∙◌, Some, slice_get, add-one}
use Rattle.std.proofs.lemmas.Bool.{lt-ltb}
use Rattle.vk_types.specs.declared.op.VkOp.{VkOp}
use Rattle.vk_types.specs.Listing.{between}
use Rattle.vk_types.specs.Before.{Side, On_host, On_device, No_act, side, side_of, side_at, sides_ordered, before}
use Rattle.vk_order.specs.Order.{ordered_by}

same_sides : (ops : List VkOp) (x y : ℕ) (s t : Side) → ordered_by (drop (suc x) ops) (between ops x y) s t ≡ sides_ordered ops x y s t
same_sides ops x y On_host On_host = refl
same_sides ops x y On_host (On_device d) = refl
same_sides ops x y On_host No_act = refl
same_sides ops x y (On_device c) On_host = refl
same_sides ops x y (On_device c) (On_device d) = refl
same_sides ops x y (On_device c) No_act = refl
same_sides ops x y No_act t = refl

pub before_is : (ops : List VkOp) (x y : ℕ) (o p : VkOp) → x < y → slice_get ops x ≡ Some o → slice_get ops y ≡ Some p
    → ordered_by (drop (x + 1) ops) (take (y - (x + 1)) (drop (x + 1) ops)) (side o) (side p) ≡ before ops x y
before_is ops x y o p lt e f =
    ap (λ n. ordered_by (drop n ops) (take (y - n) (drop n ops)) (side o) (side p)) (add-one x)
    ∙ same_sides ops x y (side o) (side p)
    ∙ sym (ap (λ b. b && sides_ordered ops x y (side_at ops x) (side_at ops y)) (lt-ltb x y lt)
    ∙ ap (λ a. sides_ordered ops x y (side_of a) (side_at ops y)) e
    ∙ ap (λ a. sides_ordered ops x y (side o) (side_of a)) f)
