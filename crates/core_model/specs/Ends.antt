-- How far a state is from the end, and what a state is at the end: nothing is on its way.
use Rattle.std.specs.Prelude.{◌≡◌, ℕ, ◌+◌, ◌*◌, ◌<◌, false, cond, nat_lt, List, [], ◌∷◌, ◌++◌, length}
use Rattle.std.specs.List.{AllByRecursion}
use Rattle.vk_types.specs.Effects.{Meaning}
use Rattle.core_model.specs.Script.{Script}
use Rattle.core_model.specs.Chunking.{entry_count, chunks}
use Rattle.core_model.specs.CoreState.{Segment, Core, rests}
use Rattle.core_model.specs.Readings.{Reading}
use Rattle.core_model.specs.OtherParts.{created, unmade}
use Rattle.core_model.specs.CoreStep.{Event, is_of_app, CoreStep, Chain}
use Rattle.core_model.specs.Invariant.{turns_of}

-- the sum of a number over a list
abbrev pub sum_of : {A : Type 0} → (A → ℕ) → List A → ℕ
sum_of f [] = 0
sum_of f (x ∷ xs) = f x + sum_of f xs

-- the chunks that the device did not accept yet, the open one last
abbrev pub to_come : Core → List Segment
to_come core = core.submissions ++ (core.batches ++ (core.chunks ++ core.open_chunk ∷ []))

-- how far a state is from the end: each turn to come, chunk, command, shader without a module and the end itself
-- counts as much as it may cost steps
abbrev pub distance : Core → ℕ
distance core =
    12 * length core.future
    + (cond (nat_lt 0 (entry_count core.open_chunk.turns)) 8 0
    + (7 * length core.chunks
    + (6 * length core.batches
    + (5 * length core.submissions
    + (4 * length core.accepted
    + (3 * length core.completions
    + (2 * length core.posts
    + (length (rests core.accepted)
    + (sum_of (λ s. length s.commands) (to_come core)
    + (length (unmade core.modules core.requested)
    + (sum_of (λ s. length (created s.turns)) (core.chunks ++ core.open_chunk ∷ [])
    + cond core.ended 0 1)))))))))))

-- steps of the core that is stepped
abbrev pub CoreChain : Meaning → Script → Core → List Event → Core → Type 0
CoreChain meaning script old [] new = new ≡ old
CoreChain meaning script old (e ∷ es) new = (mid : Core) × CoreStep meaning script old e mid
    × CoreChain meaning script mid es new

-- steps of the other parts lead to a post that App can take
abbrev pub Posts : Meaning → Reading → Script → Core → Type 0
Posts meaning reading script core =
    (events : List Event) × (next : Core) × Chain meaning reading script core events next
    × AllByRecursion (λ e. is_of_app e ≡ false) events × (0 < length next.posts)

-- each chunk's post was taken, nothing stands in the open chunk, and all turns were taken
pub record IsWhole (script : Script) (core : Core) : Type 0 where
  pub chunks : turns_of core.taken ≡ chunks script
  pub posts : core.posts ≡ []
  pub completions : core.completions ≡ []
  pub accepted : core.accepted ≡ []
  pub submissions : core.submissions ≡ []
  pub batches : core.batches ≡ []
  pub none_queued : core.chunks ≡ []
  pub writes : core.open_chunk.writes ≡ []
  pub commands : core.open_chunk.commands ≡ []
  pub ops : core.open_chunk.ops ≡ []
  pub past : core.past ≡ script.turns
