-- Numbers noted over places, at the nodes of a tree.
use Rattle.std.specs.Prelude.{◌≡◌, ℕ, ◌+◌, ◌-◌, ◌*◌, ◌/◌, ◌<◌, ◌≤◌, ◌^◌, ◌⊎◌, List, length, slice_index}
use Rattle.vk_order.specs.declared.tree.Part.{Part}
use Rattle.vk_order.specs.declared.tree.Reach.{Reach}
use Rattle.vk_order.specs.declared.tree.MaxTree.{MaxTree}

-- the halves of a part
abbrev pub left_of : Part → Part
left_of p = record { node = 2 * p.node; from = p.from; width = p.width / 2 }

abbrev pub right_of : Part → Part
right_of p = record { node = 2 * p.node + 1; from = p.from + p.width / 2; width = p.width - p.width / 2 }

-- a node on the way from the part down to the place has a mark of at least this number
pub data Marked (marks : List ℕ) (number at : ℕ) : Part → Type 0 where
  marked_here : {p : Part} → number ≤ slice_index marks p.node → Marked marks number at p
  marked_left : {p : Part} → at < p.from + p.width / 2 → Marked marks number at (left_of p) → Marked marks number at p
  marked_right : {p : Part} → p.from + p.width / 2 ≤ at → Marked marks number at (right_of p) → Marked marks number at p

-- no number fell
pub record Grew (old new : List ℕ) : Type 0 where
  pub len : length new ≡ length old
  pub each : (e : ℕ) → slice_index old e ≤ slice_index new e

-- each node's best is at least its mark, and at least the bests of the nodes below it
pub record AreTops (marks bests : List ℕ) : Type 0 where
  pub mark : (e : ℕ) → slice_index marks e ≤ slice_index bests e
  pub left : (e : ℕ) → 1 ≤ e → slice_index bests (2 * e) ≤ slice_index bests e
  pub right : (e : ℕ) → 1 ≤ e → slice_index bests (2 * e + 1) ≤ slice_index bests e

-- a part's node is there
pub record IsNode (count : ℕ) (p : Part) : Type 0 where
  pub from : 1 ≤ p.node
  pub to : p.node < count
  pub places : p.from + p.width < 2 ^ 64

-- the node above this one has a best of at least this number
abbrev pub IsUnder : List ℕ → ℕ → ℕ → Type 0
IsUnder bests node number = (e : ℕ) → 1 ≤ e → (node ≡ 2 * e) ⊎ (node ≡ 2 * e + 1) → number ≤ slice_index bests e

-- the number is noted at each place of the part that is in the reach
abbrev pub NotedWithin : List ℕ → Part → Reach → ℕ → Type 0
NotedWithin marks p reach number = (i : ℕ) → reach.from ≤ i → i < reach.to → p.from ≤ i → i < p.from + p.width → Marked marks number i p

-- each number that is noted at a place of the part in the reach is at most this one
abbrev pub AreAtMost : List ℕ → Part → Reach → ℕ → Type 0
AreAtMost marks p reach most = (i n : ℕ) → reach.from ≤ i → i < reach.to → p.from ≤ i → i < p.from + p.width → Marked marks n i p → n ≤ most

pub record IsTree (t : MaxTree) : Type 0 where
  pub same : length t.bests.items ≡ length t.marks.items
  pub nodes : 2 ≤ length t.marks.items
  pub small : t.width < 2 ^ 64
  pub tops : AreTops t.marks.items t.bests.items

-- all places of a tree
abbrev pub root_of : ℕ → Part
root_of width = record { node = 1; from = 0; width = width }

-- at this place a number was noted that is at least this one
abbrev pub HasMark : MaxTree → ℕ → ℕ → Type 0
HasMark t i number = Marked t.marks.items number i (root_of t.width)

pub record MarksGrew (old new : MaxTree) : Type 0 where
  pub width : new.width ≡ old.width
  pub marks : Grew old.marks.items new.marks.items
