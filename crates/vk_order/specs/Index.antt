-- What an index knows of the operations of a listing.
use Rattle.std.specs.Prelude.{◌≡◌, ℕ, ◌+◌, ◌<◌, ◌≤◌, ⊤, ◌⊎◌, max, true, List, length, Option, Some, slice_get, slice_index, IfSome}
use Rattle.dx_types.specs.declared.range.Range.{Range}
use Rattle.vk_types.specs.declared.touch.Touch.{Touch}
use Rattle.vk_types.specs.declared.command.Command.{Command}
use Rattle.vk_types.specs.declared.op.Barrier.{Barrier}
use Rattle.vk_types.specs.declared.op.VkOp.{VkOp}
use Rattle.vk_types.specs.declared.op.VkOp.TheVariants as op
use Rattle.vk_types.specs.Hazards.{touches, has_write}
use Rattle.vk_order.specs.declared.classes.Stages.{Stages}
use Rattle.vk_order.specs.declared.cuts.Cut.{Cut}
use Rattle.vk_order.specs.declared.tree.Reach.{Reach}
use Rattle.vk_order.specs.declared.tree.MaxTree.{MaxTree}
use Rattle.vk_order.specs.declared.layers.Layer.{Layer}
use Rattle.vk_order.specs.declared.index.Index.{Index}
use Rattle.vk_order.specs.Classes.{first_of, second_of, stages_of}
use Rattle.vk_order.specs.Cuts.{IsReach, IsRising}
use Rattle.vk_order.specs.Layers.{AreHostMarksBelow, AreLasts, AreMarksBelow, ArePassed}
use Rattle.vk_order.specs.Tree.{HasMark, IsTree, MarksGrew}

abbrev pub width_of : List Cut → ℕ
width_of cuts = max (length cuts) 1

-- a tree over the cuts
pub record IsOver (cuts : List Cut) (t : MaxTree) : Type 0 where
  pub tree : IsTree t
  pub width : t.width ≡ width_of cuts

pub record IsSound (index : Index) : Type 0 where
  pub rising : IsRising index.cuts.items
  pub layers : (n : ℕ) (l : Layer) → slice_get index.layers.items n ≡ Some l → IsOver index.cuts.items l.marks
  pub touched : IsOver index.cuts.items index.touched
  pub written : IsOver index.cuts.items index.written

pub record IsFirstIndex (index : Index) : Type 0 where
  pub sound : IsSound index
  pub none : length index.layers.items ≡ 0

-- the number is noted at each place of the reach
abbrev pub IsNotedOver : MaxTree → Reach → ℕ → Type 0
IsNotedOver t reach number = (i : ℕ) → reach.from ≤ i → i < reach.to → i < t.width → HasMark t i number

-- a touch is noted, of a command just before a place that a fence finishes; the fence only where the listing has acts of the host
pub record HasTouch (index : Index) (stages : Stages) (t : Touch) (past finish : ℕ) : Type 0 where
  pub number : ℕ
  pub layer : Layer
  pub there : slice_get index.layers.items number ≡ Some layer
  pub first : layer.first ≡ first_of stages t
  pub reach : Reach
  pub reaches : IsReach index.cuts.items t.range reach
  pub marked : IsNotedOver layer.marks reach past
  pub touched : index.hosted ≡ true → IsNotedOver index.touched reach finish
  pub written : index.hosted ≡ true → has_write t.access ≡ true → IsNotedOver index.written reach finish

-- so is each touch of the command
abbrev pub AreNoted : Index → Command → ℕ → ℕ → Type 0
AreNoted index c past finish = (j : ℕ) (t : Touch) → slice_get (touches c) j ≡ Some t → HasTouch index (stages_of c) t past finish

-- each hazard of a noted touch and this one is covered
pub record IsTouchClear (index : Index) (stages : Stages) (u : Touch) : Type 0 where
  pub reach : Reach
  pub reaches : IsReach index.cuts.items u.range reach
  pub second : Option ℕ
  pub class : IfSome second (λ k. slice_get index.seconds.items k ≡ Some (second_of stages u))
  pub layers : (n : ℕ) (l : Layer) → slice_get index.layers.items n ≡ Some l → AreMarksBelow l u reach second

abbrev pub AreClear : Index → Command → Type 0
AreClear index d = (j : ℕ) (u : Touch) → slice_get (touches d) j ≡ Some u → IsTouchClear index (stages_of d) u

-- the noted touches that conflict with a write of the host are finished
pub record IsWriteClear (index : Index) (at : ℕ) (r : Range) : Type 0 where
  pub hosted : index.hosted ≡ true
  pub reach : Reach
  pub reaches : IsReach index.cuts.items r reach
  pub finished : (i n : ℕ) → reach.from ≤ i → i < reach.to → i < index.touched.width → HasMark index.touched i n → n < at

-- those that conflict with a read of the host are, and the host is shown what they wrote
pub record IsReadClear (index : Index) (at : ℕ) (r : Range) : Type 0 where
  pub hosted : index.hosted ≡ true
  pub reach : Reach
  pub reaches : IsReach index.cuts.items r reach
  pub finished : (i n : ℕ) → reach.from ≤ i → i < reach.to → i < index.written.width → HasMark index.written i n → n < at
  pub layers : (n : ℕ) (l : Layer) → slice_get index.layers.items n ≡ Some l → AreHostMarksBelow l reach

abbrev pub IsClear : Index → ℕ → VkOp → Type 0
IsClear index at (op.HostWrite r call) = IsWriteClear index at r
IsClear index at (op.Pipeline shader) = ⊤
IsClear index at (op.Barrier barrier) = ⊤
IsClear index at (op.Command d) = AreClear index d
IsClear index at (op.Submit k) = ⊤
IsClear index at (op.Fence k) = ⊤
IsClear index at (op.HostRead r call) = IsReadClear index at r

-- Steps ----------------------------------------------------------------------------------------------------------

-- the layer is still there, with the same class and all its marks
pub record IsStillThere (layers : List Layer) (n : ℕ) (l : Layer) : Type 0 where
  pub layer : Layer
  pub there : slice_get layers n ≡ Some layer
  pub first : layer.first ≡ l.first
  pub grew : MarksGrew l.marks layer.marks

-- the layer has passed no barrier
abbrev pub HasNoLasts : Layer → Type 0
HasNoLasts l = ((k : ℕ) → slice_index l.lasts.items k ≡ 0) × (l.to_host ≡ 0)

-- the layer was there, with the same class and barriers
pub record WasThere (layers : List Layer) (n : ℕ) (l : Layer) : Type 0 where
  pub layer : Layer
  pub there : slice_get layers n ≡ Some layer
  pub first : l.first ≡ layer.first
  pub lasts : l.lasts ≡ layer.lasts
  pub host : l.to_host ≡ layer.to_host

-- more may be noted, and no barrier was passed
pub record IndexGrew (old new : Index) : Type 0 where
  pub cuts : new.cuts ≡ old.cuts
  pub seconds : new.seconds ≡ old.seconds
  pub layers : (n : ℕ) (l : Layer) → slice_get old.layers.items n ≡ Some l → IsStillThere new.layers.items n l
  pub lasts : (n : ℕ) (l : Layer) → slice_get new.layers.items n ≡ Some l → HasNoLasts l ⊎ WasThere old.layers.items n l
  pub hosted : new.hosted ≡ old.hosted
  pub touched : MarksGrew old.touched new.touched
  pub written : MarksGrew old.written new.written

-- a barrier was passed, and no more is noted
pub record IndexPassed (old new : Index) (b : Barrier) (past : ℕ) : Type 0 where
  pub cuts : new.cuts ≡ old.cuts
  pub seconds : new.seconds ≡ old.seconds
  pub len : length new.layers.items ≡ length old.layers.items
  pub layers : ArePassed old.seconds.items b past old.layers.items new.layers.items
  pub hosted : new.hosted ≡ old.hosted
  pub touched : new.touched ≡ old.touched
  pub written : new.written ≡ old.written

-- an operation is noted
abbrev pub IsNoted : Index → Index → VkOp → ℕ → ℕ → Type 0
IsNoted old new (op.HostWrite r call) past finish = new ≡ old
IsNoted old new (op.Pipeline shader) past finish = new ≡ old
IsNoted old new (op.Barrier b) past finish = IndexPassed old new b past
IsNoted old new (op.Command c) past finish = IndexGrew old new × AreNoted new c past finish
IsNoted old new (op.Submit k) past finish = new ≡ old
IsNoted old new (op.Fence k) past finish = new ≡ old
IsNoted old new (op.HostRead r call) past finish = new ≡ old

-- what is known of all operations before a place
pub record IndexHolds (ops : List VkOp) (places : List ℕ) (y : ℕ) (index : Index) : Type 0 where
  pub sound : IsSound index
  pub lasts : (n : ℕ) (l : Layer) → slice_get index.layers.items n ≡ Some l → AreLasts ops index.seconds.items y l
  pub noted : (x : ℕ) (c : Command) → x < y → slice_get ops x ≡ Some (op.Command c) → AreNoted index c (x + 1) (slice_index places x)
