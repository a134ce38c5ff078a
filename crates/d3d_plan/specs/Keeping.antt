-- What is kept from call to call, and what a call adds to it.
use Rattle.std.specs.Prelude.{◌≡◌, ℕ, ◌<◌, Bool, true, false, List, ◌++◌, length, Option, None, Some, slice_index_or}
use Rattle.std.specs.List.{filter_map}
use Rattle.std.specs.BTreeMap.{is_at}
use Rattle.std.specs.Map.{lookup}
use Rattle.std.specs.Ordering.{nat_cmp}
use Rattle.dx_types.specs.declared.range.ResRange.{ResRange}
use Rattle.call_log.specs.Call as calls
use Rattle.call_log.specs.Call.{Call, Issued}
use Rattle.base_lemmas.specs.IdMap as ids
use Rattle.d3d_checks.specs.Accepted.{Tells}
use Rattle.d3d_lists.specs.declared.recorder.TheConstants.{CONTEXTS}
use Rattle.d3d_model.specs.D3dState.{Numbered, Objects, context_of}
use Rattle.d3d_model.specs.Effect.{deeds_by, objects_after}
use Rattle.d3d_model.specs.InOrder.{after_calls}
use Rattle.d3d_model.specs.Past.{Past, then_done}
use Rattle.d3d_model.specs.Uses.{range_bound}
use Rattle.d3d_effects.specs.Listed.{KeepsList, bound_by_list, parts_of_list}
use Rattle.d3d_effects.specs.declared.listed.ListUses.{ListUses}
use Rattle.d3d_plan.specs.Planned.{listed_by, numbers, parts_in}
use Rattle.d3d_plan.specs.Shown.{Holds}
use Rattle.d3d_plan.specs.declared.kept.Kept.{Kept}
use Rattle.d3d_plan.specs.declared.tables.Piece.{Piece}
use Rattle.d3d_plan.specs.declared.tables.Tables.{Tables}

-- the objects are those after some calls of a log
pub record IsReached (o : Objects) : Type 0 where
  pub log : List Issued
  pub count : ℕ
  pub is : o ≡ (after_calls log count).objects

-- the call finishes or executes a list
abbrev pub is_of_list : Call → Bool
is_of_list (calls.FinishList list) = true
is_of_list (calls.ExecuteList list flag) = true
is_of_list _ = false

-- the piece at an id
abbrev pub piece_of : List (ℕ × Piece) → ℕ → Option Piece
piece_of pieces l = lookup (is_at (nat_cmp l)) pieces

-- a live list has a piece of the tables
abbrev pub HoldsList : Objects → List Numbered → Tables → Option Piece → Type 0
HoldsList o cs t None = ⊥
HoldsList o cs t (Some p) = Holds t p (bound_by_list o cs) (numbers cs) (parts_of_list o cs)

-- what is kept tells of the past, of the open list of each context, and of each live list
pub record Keeps (o : Objects) (past : Past) (k : Kept) : Type 0 where
  pub tells : Tells past o k.uses
  pub many : length k.opened.items ≡ CONTEXTS
  pub opened : (x : ℕ) (d : ListUses) → x < CONTEXTS → KeepsList o (context_of o x).recorded (slice_index_or k.opened.items x d)
  pub listed : (l : ℕ) (cs : List Numbered) → ids.get o.lists l ≡ Some cs → HoldsList o cs k.tables (piece_of k.lists.entries l)
  pub paired : length k.tables.calls.items ≡ length k.tables.ends.items

-- tables with more behind what they have
pub record Grows (t more : Tables) : Type 0 where
  pub ranges : (xs : List ResRange) × (more.ranges.items ≡ t.ranges.items ++ xs)
  pub calls : (xs : List ℕ) × (more.calls.items ≡ t.calls.items ++ xs)
  pub ends : (xs : List ℕ) × (more.ends.items ≡ t.ends.items ++ xs)

-- what is kept of call n, accepted on a context, and the piece of the tables that it has
pub record KeepsCall (n : ℕ) (o : Objects) (x : ℕ) (c : Call) (old new : Kept) (p : Piece) : Type 0 where
  pub keeps : (past : Past) → Keeps o past old → Keeps (objects_after n o x c) (then_done n past (deeds_by o x c)) new
  pub grows : Grows old.tables new.tables
  pub holds : (past : Past) → Keeps o past old → Holds new.tables p (filter_map range_bound (deeds_by o x c)) (numbers (listed_by o x c)) (parts_in o x c)
