-- Behind a barrier that serves a command no other command is open to it.
use Rattle.std.proofs.Common.{◌≡◌, ℕ, zero, suc, ◌+◌, ◌-◌, ◌<◌, ◌≤◌, true, false, not, ◌&&◌, ◌||◌, List, [], ◌∷◌, take, drop, slice_get, Option, Some, None, refl, sym, ap, ◌∙◌, subst, inl, inr, arith}
use Rattle.std.specs.List.{list_any}
use Rattle.std.proofs.lemmas.Bool.{and_parts, or_cases, cases_lt}
use Rattle.vk_types.specs.declared.access.Stage.{Stage}
use Rattle.vk_types.specs.declared.access.Stage.TheVariants as stage
use Rattle.vk_types.specs.declared.access.Mask.{Mask}
use Rattle.vk_types.specs.declared.touch.Touch.{Touch}
use Rattle.vk_types.specs.declared.command.Command.{Command}
use Rattle.vk_types.specs.declared.op.Barrier.{Barrier}
use Rattle.vk_types.specs.declared.op.VkOp.{VkOp}
use Rattle.vk_types.specs.declared.op.VkOp.TheVariants as op
use Rattle.base_lemmas.specs.Lists.{all_pass}
use Rattle.vk_types.specs.Hazards.{touches, same_stage, has_write, lists_conflict, read_write_access}
use Rattle.vk_types.specs.Listing.{between}
use Rattle.vk_types.specs.Before.{access_at, names_stages_of}
use Rattle.vk_types.specs.Covered.{writes_named, each_pair, commands_visible, uncovered}
use Rattle.vk_types.specs.BarrierCauses.{all_device}
use Rattle.vk_types.specs.Serving.{Serves, ServesOp}
use Rattle.vk_types.proofs.Serving.{HasServing, serving_there, mid_orders, all_visible}
use Rattle.vk_order.specs.Asks.{is_available, ServesIf, is_command}
use Rattle.vk_order.proofs.Open.{and_false, uncovered_at}

stage_is : (s t : Stage) → same_stage s t ≡ true → s ≡ t
stage_is stage.Indirect stage.Indirect e = refl
stage_is stage.Indirect stage.Compute e = absurd (cc e)
stage_is stage.Indirect stage.Transfer e = absurd (cc e)
stage_is stage.Indirect stage.Host e = absurd (cc e)
stage_is stage.Compute stage.Indirect e = absurd (cc e)
stage_is stage.Compute stage.Compute e = refl
stage_is stage.Compute stage.Transfer e = absurd (cc e)
stage_is stage.Compute stage.Host e = absurd (cc e)
stage_is stage.Transfer stage.Indirect e = absurd (cc e)
stage_is stage.Transfer stage.Compute e = absurd (cc e)
stage_is stage.Transfer stage.Transfer e = refl
stage_is stage.Transfer stage.Host e = absurd (cc e)
stage_is stage.Host stage.Indirect e = absurd (cc e)
stage_is stage.Host stage.Compute e = absurd (cc e)
stage_is stage.Host stage.Transfer e = absurd (cc e)
stage_is stage.Host stage.Host e = refl

-- what is available at each touch that writes is so at each stage that is written at
available_stage : (m : Mask) (s : Stage) (ts : List Touch) → all_pass (is_available m) ts ≡ true
    → list_any (λ t. same_stage t.stage s && has_write t.access) ts ≡ true → writes_named (access_at m s) ≡ true
available_stage m s [] all w = absurd (cc w)
available_stage m s (t ∷ ts) all w =
    let both = and_parts (is_available m t) (all_pass (is_available m) ts) all in
    elim (or_cases (same_stage t.stage s && has_write t.access) (list_any (λ t. same_stage t.stage s && has_write t.access) ts) w) [
      | inl here ↦
          let parts = and_parts (same_stage t.stage s) (has_write t.access) here in
          subst (λ s. writes_named (access_at m s) ≡ true) (stage_is t.stage s parts.0)
          (sym (ap (λ b. not b || writes_named (access_at m t.stage)) parts.1) ∙ both.0)
      | inr later ↦ available_stage m s ts both.1 later
    ]

pub serves_from : (c : Command) (b : Barrier) → names_stages_of b.source c ≡ true → all_pass (is_available b.source) (touches c) ≡ true
    → b.dest ≡ all_device read_write_access → Serves c b
serves_from c b names all dest = record { source = names; shows = λ s w. available_stage b.source s (touches c) all w; dest = dest }

get_dropped : {X : Type 0} (xs : List X) (n k : ℕ) → slice_get (drop n xs) k ≡ slice_get xs (n + k)
get_dropped xs zero k = ap (slice_get xs) (let e : k ≡ 0 + k = omega arith in e)
get_dropped [] (suc n) k = refl
get_dropped (x ∷ xs) (suc n) k = get_dropped xs n k ∙ ap (slice_get (x ∷ xs)) (let e : suc (n + k) ≡ suc n + k = omega arith in e)

get_taken : {X : Type 0} (xs : List X) (n k : ℕ) → k < n → slice_get (take n xs) k ≡ slice_get xs k
get_taken xs zero k l = absurd (omega (arith, l))
get_taken [] (suc n) k l = refl
get_taken (x ∷ xs) (suc n) zero l = refl
get_taken (x ∷ xs) (suc n) (suc k) l = get_taken xs n k (omega (arith, l))

pub get_between : (ops : List VkOp) (x z y : ℕ) → x < z → z < y → slice_get (between ops x y) (z - suc x) ≡ slice_get ops z
get_between ops x z y l k =
    get_taken (drop (suc x) ops) (y - suc x) (z - suc x) (omega (arith, l, k)) ∙ get_dropped ops (suc x) (z - suc x)
    ∙ ap (slice_get ops) (let e : suc x + (z - suc x) ≡ z = omega (arith, l) in e)

server : (c : Command) (o : Option VkOp) → ServesIf c o → (p : VkOp) × (o ≡ Some p) × ServesOp c p
server c None s = absurd s
server c (Some p) s = (p, refl, s)

command_there : (o : Option VkOp) → is_command o ≡ true → (d : Command) × (o ≡ Some (op.Command d))
command_there None e = absurd (cc e)
command_there (Some (op.HostWrite r call)) e = absurd (cc e)
command_there (Some (op.Pipeline shader)) e = absurd (cc e)
command_there (Some (op.Barrier barrier)) e = absurd (cc e)
command_there (Some (op.Command d)) e = (d, refl)
command_there (Some (op.Submit k)) e = absurd (cc e)
command_there (Some (op.Fence k)) e = absurd (cc e)
command_there (Some (op.HostRead r call)) e = absurd (cc e)

pub served_pair : (ops : List VkOp) (x z y : ℕ) (c : Command) → slice_get ops x ≡ Some (op.Command c) → x < z → z ≤ y → ServesIf c (slice_get ops z)
    → is_command (slice_get ops y) ≡ true → uncovered ops x y ≡ false
served_pair ops x z y c e l le s is =
    let barrier = server c (slice_get ops z) s in
    let command = command_there (slice_get ops y) is in
    let d = command.0 in
    elim (cases_lt z y) [
      | inr ge ↦
          let same : z ≡ y = omega (arith, le, ge) in
          let p_is : Some barrier.0 ≡ Some (op.Command d) = sym barrier.1 ∙ ap (slice_get ops) same ∙ command.1 in
          let p_same : barrier.0 ≡ op.Command d = cc p_is in
          absurd (subst (ServesOp c) p_same barrier.2)
      | inl lt ↦
          let mid = between ops x y in
          let g : HasServing c mid = serving_there c mid (z - suc x) barrier.0 (get_between ops x z y l lt ∙ barrier.1) barrier.2 in
          let hazard = lists_conflict (touches c) (touches d) in
          uncovered_at ops x y (op.Command c) (op.Command d) (omega (arith, l, lt)) e command.1
          ∙ ap (λ b. hazard && not (b && each_pair (commands_visible mid c d) (touches c) (touches d))) (mid_orders c d mid g)
          ∙ ap (λ b. hazard && not b) (all_visible c d mid g)
          ∙ and_false hazard
    ]
