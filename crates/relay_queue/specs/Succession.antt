-- Which messages may follow which, and the rule of a queue that keeps them in that order.
use Rattle.std.specs.Prelude.{◌≡◌, ℕ, ◌+◌, Bool, true, false, List, [], ◌∷◌, ◌++◌, length}
use mathlib.Core.Option.{some}
use lib.ListN.{get_elem?}
use Rattle.relay_queue.specs.declared.rule.Track.{Track}

-- what a pass may do, sent and took
abbrev pub track : {M : Type 0} → Bool → Bool → List M → List M → Track M
track a b sent taken = record { sends = a; takes = b; sent = sent; taken = taken }

-- what a message means: its number, whether it may be the first, and whether it may follow these
module _ {M : Type 0} (log : List ℕ) (number : M → ℕ) (first : List ℕ → M → Type 0) (follows : List ℕ → List M → M → Type 0) where
  abbrev pub MayCome : List M → M → Type 0
  MayCome [] m = first log m
  MayCome (b ∷ bs) m = follows log (b ∷ bs) m

  -- the message may come after these, and has the next number
  abbrev pub IsNext : List M → M → Type 0
  IsNext before m = (number m ≡ length before + 1) × MayCome before m

  -- each of these may come after `before` and those that stand in front of it
  abbrev pub Continues : List M → List M → Type 0
  Continues before [] = Unit {0}
  Continues before (m ∷ ms) = IsNext before m × Continues (before ++ m ∷ []) ms

  abbrev pub IsSuccession : List M → Type 0
  IsSuccession ms = Continues [] ms

  abbrev pub FitsEnd : ℕ → ℕ → List M → List M → ℕ → Track M → Type 0
  FitsEnd writer reader sent taken pass v = (v.sends ≡ true → (pass ≡ writer) × (v.sent ≡ sent)) × (v.takes ≡ true → (pass ≡ reader) × (v.taken ≡ taken))

  -- What was sent succeeds one another, and is what was taken and then what the queue holds. One pass at most sends, and it knows what was sent. The same for taking.
  abbrev pub InSuccession : List M → List (Track M) → Type 0
  InSuccession items views = (writer : ℕ) × (reader : ℕ) × (sent : List M) × (taken : List M)
      × (sent ≡ taken ++ items) × IsSuccession sent
      × ((pass : ℕ) (v : Track M) → get_elem? views pass ≡ some v → FitsEnd writer reader sent taken pass v)

  -- the queue may hold these while a pass has this view
  abbrev pub MayHold : Track M → List M → Type 0
  MayHold v items = (pass : ℕ) × (views : List (Track M)) × InSuccession items views × (get_elem? views pass ≡ some v)

  -- the queue may hold these after the pass that sends has sent so much
  abbrev pub MayHoldOfSent : List M → List M → Type 0
  MayHoldOfSent sent items = MayHold (track true false sent []) items

  -- the queue may hold these after the pass that takes has taken so much
  abbrev pub MayHoldPastTaken : List M → List M → Type 0
  MayHoldPastTaken taken items = MayHold (track false true [] taken) items
