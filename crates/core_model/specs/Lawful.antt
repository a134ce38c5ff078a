-- What the checks of the calls make sure of in a script: ranges fit, bound bytes and last uses are as they are said
-- to be.
use Rattle.std.specs.Prelude.{◌≡◌, ℕ, ◌+◌, ◌<◌, ◌≤◌, Bool, true, false, cond, not, ◌&&◌, ◌||◌, ◌==◌, nat_lt, List, []}
use Rattle.std.specs.Prelude.{◌∷◌, ◌++◌, length, Option, Some, None}
use Rattle.std.specs.List.{list_any, AllByRecursion}
use Rattle.dx_types.specs.declared.range.Range.{Range}
use Rattle.dx_types.specs.declared.limits.TheConstants.{CLASSES, MAX_BUFFER_SIZE, MAX_DYNAMIC_OF_CLASS}
use Rattle.dx_types.specs.Classes.{class_length}
use Rattle.vk_types.specs.declared.access.Stage.TheVariants as stage
use Rattle.vk_types.specs.declared.touch.Touch.{Touch}
use Rattle.vk_types.specs.declared.message.QueryMark.{QueryMark}
use Rattle.base_lemmas.specs.Lists.{Pairwise}
use Rattle.vk_types.specs.Memory.{range}
use Rattle.vk_types.specs.Hazards.{touch, write_access, work_touches, cond_touches, is_touched}
use Rattle.vk_types.specs.Effects.{Meaning}
use Rattle.core_model.specs.Script.{Play, Create, Discard, No_overwrite, Stage, Command, Destroy, Create_shader}
use Rattle.core_model.specs.Script.{Mark_query, Set_state, Ask, Bytes, Count, Constant, Turn, Refused, Passed}
use Rattle.core_model.specs.Script.{Flushed, Asked, Item, Script, at_start, in_order}
use Rattle.core_model.specs.Chunking.{call_of, ends_call, is_entry}
use Rattle.core_model.specs.Owners.{in_ranges}
use Rattle.core_model.specs.Queries.{marks_from}
use Rattle.core_model.specs.OtherParts.{created, shaders_of_work, is_among}
use Rattle.core_model.specs.Formed.{PlayIsFormed}

-- what a play's command touches, over buffers
abbrev pub target_touches : Option Range → List Touch
target_touches None = []
target_touches (Some r) = touch stage.Transfer write_access r ∷ []

abbrev pub play_touches : Play → List Touch
play_touches (Create buffer bytes) = []
play_touches (Discard buffer from bytes) = []
play_touches (No_overwrite buffer from bytes) = []
play_touches (Stage bytes target skip) = target_touches target ++ cond_touches skip
play_touches (Command w skip) = work_touches w ++ cond_touches skip
play_touches (Destroy buffer) = []
play_touches Create_shader = []
play_touches (Mark_query query begins) = []
play_touches Set_state = []

-- the bytes of a buffer that turns bound since it was created or discarded last
abbrev pub resets : ℕ → Turn → Bool
resets buffer (Refused call) = false
resets buffer (Passed call) = false
resets buffer (Flushed call) = false
resets buffer (Asked call ask used may_pend) = false
resets buffer (Item call item ends (Create b bytes) bound) = b == buffer
resets buffer (Item call item ends (Discard b from bytes) bound) = b == buffer
resets buffer (Item call item ends (No_overwrite b from bytes) bound) = false
resets buffer (Item call item ends (Stage bytes target skip) bound) = false
resets buffer (Item call item ends (Command w skip) bound) = false
resets buffer (Item call item ends (Destroy b) bound) = false
resets buffer (Item call item ends Create_shader bound) = false
resets buffer (Item call item ends (Mark_query query begins) bound) = false
resets buffer (Item call item ends Set_state bound) = false

abbrev pub bound_by : Turn → List Range
bound_by (Refused call) = []
bound_by (Passed call) = []
bound_by (Flushed call) = []
bound_by (Asked call ask used may_pend) = []
bound_by (Item call item ends play bound) = bound

abbrev pub is_bound : ℕ → List Turn → Bool → ℕ → Bool
is_bound buffer [] found i = found
is_bound buffer (t ∷ ts) found i =
    is_bound buffer ts (cond (resets buffer t) false (found || in_ranges (bound_by t) buffer i)) i

-- the last call that binds a byte of the buffer; the last that ends the query
abbrev pub binds_buffer : ℕ → List Range → Bool
binds_buffer buffer rs = list_any (λ r. (r.block == buffer) && nat_lt r.from r.to) rs

abbrev pub last_binding : ℕ → List Turn → Option ℕ → Option ℕ
last_binding buffer [] found = found
last_binding buffer (t ∷ ts) found =
    last_binding buffer ts (cond (binds_buffer buffer (bound_by t)) (Some (call_of t)) found)

abbrev pub ends_query : ℕ → Turn → Bool
ends_query query (Refused call) = false
ends_query query (Passed call) = false
ends_query query (Flushed call) = false
ends_query query (Asked call ask used may_pend) = false
ends_query query (Item call item ends (Mark_query q true) bound) = false
ends_query query (Item call item ends (Mark_query q false) bound) = q == query
ends_query query (Item call item ends (Create b bytes) bound) = false
ends_query query (Item call item ends (Discard b from bytes) bound) = false
ends_query query (Item call item ends (No_overwrite b from bytes) bound) = false
ends_query query (Item call item ends (Stage bytes target skip) bound) = false
ends_query query (Item call item ends (Command w skip) bound) = false
ends_query query (Item call item ends (Destroy b) bound) = false
ends_query query (Item call item ends Create_shader bound) = false
ends_query query (Item call item ends Set_state bound) = false

abbrev pub last_end : ℕ → List Turn → Option ℕ → Option ℕ
last_end query [] found = found
last_end query (t ∷ ts) found = last_end query ts (cond (ends_query query t) (Some (call_of t)) found)

-- the turn is an item of this call
abbrev pub is_item_of : ℕ → Turn → Bool
is_item_of n (Refused call) = false
is_item_of n (Passed call) = false
is_item_of n (Flushed call) = false
is_item_of n (Asked call ask used may_pend) = false
is_item_of n (Item call item ends play bound) = call == n

-- a call that asks names its last use among the turns before it: of a query of another sort, the call of some item
abbrev pub UsesRightly : List Turn → ℕ → Ask → Option ℕ → Type 0
UsesRightly front call (Bytes source) used = used ≡ last_binding source.block front None
UsesRightly front call (Count query) used = used ≡ last_end query front None
UsesRightly front call (Constant value) used = (n : ℕ) × (used ≡ Some n) × (n < call)
    × (list_any (is_item_of n) front ≡ true)

-- a range of a buffer that lives when the turns before it were taken
abbrev pub Fits : Meaning → Script → List Turn → Range → Type 0
Fits meaning script front r = ((in_order meaning script front at_start).live r.block ≡ true)
    × (r.to ≤ script.size r.block)

-- the query is begun behind these marks, where `was` says whether it was before
abbrev pub is_begun : ℕ → List QueryMark → Bool → Bool
is_begun query [] was = was
is_begun query (m ∷ ms) was = is_begun query ms (cond (m.query == query) m.begins was)

-- what a play asks of the turns before it
abbrev pub PlaysRightly : Meaning → Script → List Turn → ℕ → Play → Type 0
PlaysRightly meaning script front call (Create buffer bytes) = (buffer ≡ call) × (length bytes ≤ script.size buffer)
    × ((in_order meaning script front at_start).live buffer ≡ false)
PlaysRightly meaning script front call (Discard buffer from bytes) =
    Fits meaning script front (range buffer from (from + length bytes))
    × ((class : ℕ) × (script.class buffer ≡ Some class))
PlaysRightly meaning script front call (No_overwrite buffer from bytes) =
    Fits meaning script front (range buffer from (from + length bytes))
    × ((class : ℕ) × (script.class buffer ≡ Some class))
    × ((i : ℕ) → from ≤ i → i < from + length bytes → is_bound buffer front false i ≡ false)
PlaysRightly meaning script front call (Stage bytes target skip) =
    (length bytes ≤ MAX_BUFFER_SIZE) × ((r : Range) → target ≡ Some r → r.to ≡ r.from + length bytes)
PlaysRightly meaning script front call (Command w skip) = Unit {0}
PlaysRightly meaning script front call (Destroy buffer) = (in_order meaning script front at_start).live buffer ≡ true
PlaysRightly meaning script front call Create_shader = Unit {0}
-- a query that is begun is ended before it is begun anew, and none is ended that is not begun
PlaysRightly meaning script front call (Mark_query query begins) =
    is_begun query (marks_from 0 front) false ≡ not begins
PlaysRightly meaning script front call Set_state = Unit {0}

-- the shaders that a play's command runs
abbrev pub play_shaders : Play → List ℕ
play_shaders (Create buffer bytes) = []
play_shaders (Discard buffer from bytes) = []
play_shaders (No_overwrite buffer from bytes) = []
play_shaders (Stage bytes target skip) = []
play_shaders (Command w skip) = shaders_of_work w
play_shaders (Destroy buffer) = []
play_shaders Create_shader = []
play_shaders (Mark_query query begins) = []
play_shaders Set_state = []

-- a play that may bind ranges: bytes that are staged, a command, and what a predicate skips
abbrev pub may_bind : Play → Bool
may_bind (Create buffer bytes) = false
may_bind (Discard buffer from bytes) = false
may_bind (No_overwrite buffer from bytes) = false
may_bind (Stage [] target skip) = false
may_bind (Stage (b ∷ bs) target skip) = true
may_bind (Command w skip) = true
may_bind (Destroy buffer) = false
may_bind Create_shader = false
may_bind (Mark_query query begins) = false
may_bind Set_state = true

-- a class is one of eight, and its blocks hold its buffers
abbrev pub ClassFits : Script → ℕ → Option ℕ → Type 0
ClassFits script buffer None = Unit {0}
ClassFits script buffer (Some class) = (class < CLASSES) × (script.size buffer ≤ class_length class)

-- at most 32 dynamic buffers of a class live
abbrev pub FewLive : Script → (ℕ → Bool) → Type 0
FewLive script live =
    (class : ℕ) (buffers : List ℕ) → Pairwise (λ r s. r ≡ s → ⊥) buffers
    → AllByRecursion (λ r. (live r ≡ true) × (script.class r ≡ Some class)) buffers
    → length buffers ≤ MAX_DYNAMIC_OF_CLASS

-- what may come behind a turn: a later call, or, where its call goes on, an item of the same
abbrev pub ComesNext : Turn → Turn → Type 0
ComesNext t u = (ends_call t ≡ true → call_of t < call_of u)
    × (ends_call t ≡ false → (is_entry u ≡ true) × (call_of u ≡ call_of t))

-- what is asked for: bytes that a live staging buffer has, or the count of a query that was ended and is not begun anew
abbrev pub AsksRightly : Meaning → Script → List Turn → Ask → Type 0
AsksRightly meaning script front (Bytes source) = Fits meaning script front source
    × (script.is_staging source.block ≡ true) × (source.from < source.to)
AsksRightly meaning script front (Count query) = ((n : ℕ) × (last_end query front None ≡ Some n))
    × (is_begun query (marks_from 0 front) false ≡ false)
AsksRightly meaning script front (Constant value) = Unit {0}

pub record IsLawful (meaning : Meaning) (script : Script) : Type 0 where
  -- calls are numbered from 1 on, and rise from turn to turn, where no list goes on
  pub numbers : (front : List Turn) (t : Turn) (back : List Turn) → script.turns ≡ front ++ t ∷ back → 0 < call_of t
  pub calls : (front : List Turn) (t u : Turn) (back : List Turn) → script.turns ≡ front ++ t ∷ u ∷ back → ComesNext t u
  -- the last turn ends its call
  pub ends : (front : List Turn) (t : Turn) → script.turns ≡ front ++ t ∷ [] → ends_call t ≡ true
  pub uses : (front : List Turn) (call : ℕ) (ask : Ask) (used : Option ℕ) (may_pend : Bool) (back : List Turn)
      → script.turns ≡ front ++ Asked call ask used may_pend ∷ back → UsesRightly front call ask used
  pub asks : (front : List Turn) (call : ℕ) (ask : Ask) (used : Option ℕ) (may_pend : Bool) (back : List Turn)
      → script.turns ≡ front ++ Asked call ask used may_pend ∷ back → AsksRightly meaning script front ask
  pub plays : (front : List Turn) (call item : ℕ) (ends : Bool) (play : Play) (bound : List Range) (back : List Turn)
      → script.turns ≡ front ++ Item call item ends play bound ∷ back → PlaysRightly meaning script front call play
  -- a command is one that a device can do, and its shader is created by an item before it
  pub formed : (front : List Turn) (call item : ℕ) (ends : Bool) (play : Play) (bound : List Range) (back : List Turn)
      → script.turns ≡ front ++ Item call item ends play bound ∷ back → PlayIsFormed play
  pub shaders : (front : List Turn) (call item : ℕ) (ends : Bool) (play : Play) (bound : List Range) (back : List Turn)
      → script.turns ≡ front ++ Item call item ends play bound ∷ back
      → AllByRecursion (λ shader. is_among shader (created front) ≡ true) (play_shaders play)
  -- what is bound, and what a command touches, fits and has a byte, and what it touches is bound
  pub fits : (front : List Turn) (call item : ℕ) (ends : Bool) (play : Play) (bound : List Range) (back : List Turn)
      → script.turns ≡ front ++ Item call item ends play bound ∷ back
      → AllByRecursion (λ r. Fits meaning script front r × (r.from < r.to)) bound
  pub filled : (front : List Turn) (call item : ℕ) (ends : Bool) (play : Play) (bound : List Range) (back : List Turn)
      → script.turns ≡ front ++ Item call item ends play bound ∷ back
      → AllByRecursion (λ t. t.range.from < t.range.to) (play_touches play)
  pub quiet : (front : List Turn) (call item : ℕ) (ends : Bool) (play : Play) (bound : List Range) (back : List Turn)
      → script.turns ≡ front ++ Item call item ends play bound ∷ back → may_bind play ≡ false → bound ≡ []
  pub binds : (front : List Turn) (call item : ℕ) (ends : Bool) (play : Play) (bound : List Range) (back : List Turn)
      → script.turns ≡ front ++ Item call item ends play bound ∷ back
      → (b i : ℕ) → is_touched (play_touches play) b i ≡ true → in_ranges bound b i ≡ true
  pub sizes : (buffer : ℕ) → script.size buffer ≤ MAX_BUFFER_SIZE
  pub classes : (buffer : ℕ) → ClassFits script buffer (script.class buffer)
  pub staging : (buffer : ℕ) → script.is_staging buffer ≡ true → script.class buffer ≡ None
  pub few : (front back : List Turn) → script.turns ≡ front ++ back
      → FewLive script (in_order meaning script front at_start).live
