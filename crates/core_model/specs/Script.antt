-- What the core plays, as the checks of the calls leave it, and what it means in order. A buffer is named by the call
-- that creates it, so that an id that is used again names another one.
use Rattle.std.specs.Prelude.{ℕ, ◌+◌, ◌-◌, Bool, true, false, cond, ◌==◌, List, [], ◌∷◌, ◌++◌, length, replicate}
use Rattle.std.specs.Prelude.{Option, Some, None}
use Rattle.dx_types.specs.declared.range.Range.{Range}
use Rattle.vk_types.specs.declared.command.Work.{Work}
use Rattle.vk_types.specs.declared.command.Cond.{Cond}
use Rattle.vk_types.specs.Memory.{Memory, zeros, range, put, number_at}
use Rattle.vk_types.specs.Effects.{Meaning, work_effect, work_count, is_skipped}

-- what an item does. The ranges of its work and its condition are of buffers: `block` has the buffer's name
pub data Play : Type 0 where
  -- creates the buffer, with these bytes and 0 after them
  Create : (buffer : ℕ) (bytes : List ℕ) → Play
  -- a map that discards: the buffer holds these bytes from there on, and 0 elsewhere
  Discard : (buffer from : ℕ) (bytes : List ℕ) → Play
  -- a map that overwrites nothing that is in use
  No_overwrite : (buffer from : ℕ) (bytes : List ℕ) → Play
  -- an update, or a map of a staging buffer for writing: the bytes are staged, and a command copies them. Without a
  -- target, since a predicate of a query skips it, they are staged alone
  Stage : (bytes : List ℕ) (target : Option Range) (skip : Option Cond) → Play
  -- a copy, a clear or a dispatch
  Command : (work : Work) (skip : Option Cond) → Play
  Destroy : (buffer : ℕ) → Play
  Create_shader : Play
  -- a Begin or an End of a query that counts invocations
  Mark_query : (query : ℕ) (begins : Bool) → Play
  -- what changes bindings or other objects alone, and what a predicate of a query skips, which still uses what it
  -- would bind
  Set_state : Play

-- what a call asks for
pub data Ask : Type 0 where
  -- bytes of a staging buffer
  Bytes : (source : Range) → Ask
  -- the count of a query
  Count : (query : ℕ) → Ask
  -- the value of a query of another sort
  Constant : (value : ℕ) → Ask

-- what the recorder meets next
pub data Turn : Type 0 where
  Refused : (call : ℕ) → Turn
  -- an accepted call without entry and line: on a deferred context, or a FinishList
  Passed : (call : ℕ) → Turn
  Flushed : (call : ℕ) → Turn
  -- a MapRead or a GetData, with its last use, and whether it may be answered as pending
  Asked : (call : ℕ) (ask : Ask) (used : Option ℕ) (may_pend : Bool) → Turn
  -- an item: the call, the call whose body it plays, whether it is the call's last one, what it does, and which
  -- ranges of buffers it binds
  Item : (call item : ℕ) (ends : Bool) (play : Play) (bound : List Range) → Turn

-- a turn that adds no entry and is not answered
abbrev pub is_plain : Turn → Bool
is_plain (Refused call) = true
is_plain (Passed call) = true
is_plain (Flushed call) = true
is_plain (Asked call ask used may_pend) = false
is_plain (Item call item ends play bound) = false

-- a log as the core sees it
pub record Script : Type 0 where
  pub turns : List Turn
  pub calls : ℕ
  -- of the buffer that a call creates: its bytes, its class if it is dynamic, and whether it is a staging buffer
  pub size : ℕ → ℕ
  pub class : ℕ → Option ℕ
  pub is_staging : ℕ → Bool

-- one after another ---------------------------------------------------------------------------------------------

-- the bytes of each buffer, which buffers live, the invocations so far, and for each query those before its last
-- Begin and the count that its last End left
pub record InOrder : Type 0 where
  pub bytes : ℕ → ℕ → ℕ
  pub live : ℕ → Bool
  pub total : ℕ
  pub begun : ℕ → ℕ
  pub count : ℕ → ℕ

abbrev pub at_start : InOrder
at_start = record { bytes = zeros; live = λ r. false; total = 0; begun = λ q. 0; count = λ q. 0 }

-- f with another value at n
abbrev pub updated : {A : Type 0} → ℕ → A → (ℕ → A) → ℕ → A
updated n x f = λ m. cond (m == n) x (f m)

abbrev pub put_bytes : Range → List ℕ → Memory → Memory
put_bytes r bytes memory = put r (number_at bytes) memory

-- these bytes from there on, in so many zeros
abbrev pub padded : ℕ → List ℕ → ℕ → List ℕ
padded from bytes total = replicate from 0 ++ (bytes ++ replicate (total - (from + length bytes)) 0)

abbrev pub staged_in_order : List ℕ → Option Range → Option Cond → Memory → Memory
staged_in_order bytes None skip memory = memory
staged_in_order bytes (Some target) skip memory = cond (is_skipped skip memory) memory (put_bytes target bytes memory)

abbrev pub play_in_order : Meaning → Script → Play → InOrder → InOrder
play_in_order meaning script (Create buffer bytes) s =
    record s {
      bytes = put_bytes (range buffer 0 (script.size buffer)) bytes s.bytes;
      live =
          updated buffer true s.live;
    }
play_in_order meaning script (Discard buffer from bytes) s =
    record s {
      bytes = put_bytes (range buffer 0 (script.size buffer)) (padded from bytes (script.size buffer))
          s.bytes;
    }
play_in_order meaning script (No_overwrite buffer from bytes) s =
    record s { bytes = put_bytes (range buffer from (from + length bytes)) bytes s.bytes }
play_in_order meaning script (Stage bytes target skip) s = record s {
  bytes =
      staged_in_order bytes target skip s.bytes;
}
play_in_order meaning script (Command work skip) s = record s {
  bytes = cond (is_skipped skip s.bytes) s.bytes (work_effect meaning work s.bytes);
  total = s.total + cond (is_skipped skip s.bytes) 0 (work_count meaning work s.bytes);
}
play_in_order meaning script (Destroy buffer) s = record s { live = updated buffer false s.live }
play_in_order meaning script Create_shader s = s
play_in_order meaning script (Mark_query query true) s = record s { begun = updated query s.total s.begun }
play_in_order meaning script (Mark_query query false) s = record s {
  count =
      updated query (s.total - s.begun query) s.count;
}
play_in_order meaning script Set_state s = s

abbrev pub turn_in_order : Meaning → Script → Turn → InOrder → InOrder
turn_in_order meaning script (Refused call) s = s
turn_in_order meaning script (Passed call) s = s
turn_in_order meaning script (Flushed call) s = s
turn_in_order meaning script (Asked call ask used may_pend) s = s
turn_in_order meaning script (Item call item ends play bound) s = play_in_order meaning script play s

-- the state after these turns
abbrev pub in_order : Meaning → Script → List Turn → InOrder → InOrder
in_order meaning script [] s = s
in_order meaning script (t ∷ ts) s = in_order meaning script ts (turn_in_order meaning script t s)
