-- What holds of a call that was answered as pending, by the script and by what was said before it.
use Rattle.std.specs.Prelude.{◌≡◌, ℕ, ◌-◌, ◌<◌, ◌≤◌, List, [], ◌∷◌, ◌++◌, take, Some}
use Rattle.std.specs.List.{AllByRecursion}
use Rattle.core_model.specs.Script.{Ask, Turn, Script}
use Rattle.core_model.specs.Chunking.{entry_count, joined, chunks, upto}
use Rattle.core_model.specs.CoreState.{Said, Bytes_said, Value_said, Still_said, Refused_said, End_said}
use Rattle.core_model.specs.Invariant.{IsAsked}

-- the last use of an answered call, and what was finished for one that was pending, is not above this call
abbrev pub IsBelow : Script → ℕ → Said → Type 0
IsBelow script d (Bytes_said call bytes) = (ask : Ask) (used : ℕ) → IsAsked script call ask (Some used) → used ≤ d
IsBelow script d (Value_said call value) = (ask : Ask) (used : ℕ) → IsAsked script call ask (Some used) → used ≤ d
IsBelow script d (Still_said call used finished) = finished ≤ d
IsBelow script d (Refused_said call) = Unit {0}
IsBelow script d End_said = Unit {0}

-- a call that is pending behind these
pub record StillRight (script : Script) (earlier : List Said) (call used finished : ℕ) : Type 0 where
  pub ask : Ask
  pub asked : IsAsked script call ask (Some used)
  pub less : finished < used
  -- what is finished are the calls of the first so many chunks, as far as was known before and further
  pub chunk : ℕ
  pub cut : finished ≡ upto script chunk
  pub known : AllByRecursion (IsBelow script finished) earlier
  -- and no fewer than all but the last 32 of the chunks that hold the items of the calls before
  pub count : ℕ
  pub rest : List Turn
  pub held : asked.front ≡ joined (take count (chunks script)) ++ rest
  pub none_more : entry_count rest ≡ 0
  pub near : upto script (count - 32) ≤ finished

abbrev pub SaidAfter : Script → List Said → Said → Type 0
SaidAfter script earlier (Bytes_said call bytes) = Unit {0}
SaidAfter script earlier (Value_said call value) = Unit {0}
SaidAfter script earlier (Still_said call used finished) = StillRight script earlier call used finished
SaidAfter script earlier (Refused_said call) = Unit {0}
SaidAfter script earlier End_said = Unit {0}

-- so each that is among these, which were said behind those
abbrev pub StillsAreRight : Script → List Said → List Said → Type 0
StillsAreRight script earlier [] = Unit {0}
StillsAreRight script earlier (said ∷ saids) = SaidAfter script earlier said
    × StillsAreRight script (earlier ++ said ∷ []) saids
