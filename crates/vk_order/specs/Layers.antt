-- Layers of touches by their classes.
use Rattle.std.specs.Prelude.{◌≡◌, ◌≢◌, ℕ, ◌+◌, ◌<◌, ◌≤◌, ◌⊎◌, Bool, true, List, [], ◌∷◌, ◌++◌, Option, Some, None, IsSome, slice_get, slice_index}
use Rattle.vk_types.specs.declared.touch.Touch.{Touch}
use Rattle.vk_types.specs.declared.op.Barrier.{Barrier}
use Rattle.vk_types.specs.declared.op.VkOp.{VkOp}
use Rattle.vk_types.specs.declared.op.VkOp.TheVariants as op
use Rattle.vk_order.specs.declared.classes.First.{First}
use Rattle.vk_order.specs.declared.classes.Second.{Second}
use Rattle.vk_order.specs.declared.tree.Reach.{Reach}
use Rattle.vk_order.specs.declared.layers.Layer.{Layer}
use Rattle.vk_order.specs.Classes.{asks, covers, shows_host}
use Rattle.vk_order.specs.Tree.{HasMark, IsTree, MarksGrew}

-- a barrier that passes the test stands just before this place
pub record HasBarrier (test : Barrier → Bool) (ops : List VkOp) (past : ℕ) : Type 0 where
  pub place : ℕ
  pub barrier : Barrier
  pub past_is : past ≡ place + 1
  pub there : slice_get ops place ≡ Some (op.Barrier barrier)
  pub passes : test barrier ≡ true

-- such a barrier stands somewhere below y, or the number is 0
pub record IsLast (test : Barrier → Bool) (ops : List VkOp) (y past : ℕ) : Type 0 where
  pub below : past ≤ y
  pub barrier : (past ≡ 0) ⊎ HasBarrier test ops past

abbrev pub last_of : Layer → Option ℕ → ℕ
last_of l None = 0
last_of l (Some k) = slice_index l.lasts.items k

-- a layer's barriers are those of the listing below y
pub record AreLasts (ops : List VkOp) (seconds : List Second) (y : ℕ) (l : Layer) : Type 0 where
  pub lasts : (k : ℕ) (s : Second) → slice_get seconds k ≡ Some s → IsLast (covers l.first s) ops y (slice_index l.lasts.items k)
  pub host : IsLast (shows_host l.first) ops y l.to_host

-- a layer of this class with nothing noted
pub record IsFresh (first : First) (width : ℕ) (l : Layer) : Type 0 where
  pub first_is : l.first ≡ first
  pub tree : IsTree l.marks
  pub width_is : l.marks.width ≡ width
  pub lasts : (k : ℕ) → slice_index l.lasts.items k ≡ 0
  pub host : l.to_host ≡ 0

-- the greatest number that is noted over the reach, of touches that conflict with this one, is no greater than the barrier's
abbrev pub AreMarksBelow : Layer → Touch → Reach → Option ℕ → Type 0
AreMarksBelow l u reach second =
    asks l.first u ≡ true → (i n : ℕ) → reach.from ≤ i → i < reach.to → i < l.marks.width → HasMark l.marks i n → n ≤ last_of l second

abbrev pub AreHostMarksBelow : Layer → Reach → Type 0
AreHostMarksBelow l reach =
    IsSome l.first.written → (i n : ℕ) → reach.from ≤ i → i < reach.to → i < l.marks.width → HasMark l.marks i n → n ≤ l.to_host

-- a number is noted over the reach, and all else is as before
pub record IsRaised (old new : Layer) (reach : Reach) (number : ℕ) : Type 0 where
  pub first : new.first ≡ old.first
  pub lasts : new.lasts ≡ old.lasts
  pub host : new.to_host ≡ old.to_host
  pub tree : IsTree new.marks
  pub grew : MarksGrew old.marks new.marks
  pub noted : (i : ℕ) → reach.from ≤ i → i < reach.to → i < old.marks.width → HasMark new.marks i number

-- the number is the old one, or that of a barrier that passes
abbrev pub HasPassed : (Barrier → Bool) → Barrier → ℕ → ℕ → ℕ → Type 0
HasPassed test b past old new = (new ≡ old) ⊎ ((new ≡ past) × (test b ≡ true))

abbrev pub LastsPassed : First → List Second → Barrier → ℕ → List ℕ → List ℕ → Type 0
LastsPassed first seconds b past old new =
    (k : ℕ) (s : Second) → slice_get seconds k ≡ Some s → HasPassed (covers first s) b past (slice_index old k) (slice_index new k)

-- a layer that passed a barrier
pub record IsPassed (seconds : List Second) (b : Barrier) (past : ℕ) (old new : Layer) : Type 0 where
  pub first : new.first ≡ old.first
  pub marks : new.marks ≡ old.marks
  pub lasts : LastsPassed old.first seconds b past old.lasts.items new.lasts.items
  pub host : HasPassed (shows_host old.first) b past old.to_host new.to_host

-- Lists of layers ------------------------------------------------------------------------------------------------

pub record HasFirst (layers : List Layer) (first : First) (n : ℕ) : Type 0 where
  pub layer : Layer
  pub there : slice_get layers n ≡ Some layer
  pub first_is : layer.first ≡ first

-- the layers are the old ones, or these and a fresh one
abbrev pub PushedFresh : First → ℕ → List Layer → List Layer → Type 0
PushedFresh first width old new = (new ≡ old) ⊎ ((l : Layer) × (IsFresh first width l) × (new ≡ old ++ l ∷ []))

abbrev pub AreTrees : List Layer → Type 0
AreTrees layers = (n : ℕ) (l : Layer) → slice_get layers n ≡ Some l → IsTree l.marks

-- the layer at n is raised, and the others are as before
pub record AreRaisedAt (n : ℕ) (reach : Reach) (number : ℕ) (old new : List Layer) : Type 0 where
  pub before : Layer
  pub after : Layer
  pub was : slice_get old n ≡ Some before
  pub there : slice_get new n ≡ Some after
  pub raised : IsRaised before after reach number
  pub others : (k : ℕ) → k ≢ n → slice_get new k ≡ slice_get old k

-- each layer has passed
pub record WasPassed (seconds : List Second) (b : Barrier) (past : ℕ) (old : List Layer) (n : ℕ) (l : Layer) : Type 0 where
  pub before : Layer
  pub was : slice_get old n ≡ Some before
  pub passed : IsPassed seconds b past before l

abbrev pub ArePassed : List Second → Barrier → ℕ → List Layer → List Layer → Type 0
ArePassed seconds b past old new = (n : ℕ) (l : Layer) → slice_get new n ≡ Some l → WasPassed seconds b past old n l
