-- What a tracker stands for: the commands since the last barrier.
use Rattle.std.specs.Prelude.{◌≡◌, ℕ, false, ◌||◌, cond, List, [], ◌∷◌, map, Option, Some, None}
use Rattle.std.specs.List.{list_any, flat_map}
use Rattle.vk_types.specs.declared.access.Access.{Access}
use Rattle.vk_types.specs.declared.access.Mask.{Mask}
use Rattle.vk_types.specs.declared.access.Stage.{Stage}
use Rattle.vk_types.specs.declared.access.Stage.TheVariants as stage
use Rattle.vk_types.specs.declared.command.Command.{Command}
use Rattle.vk_types.specs.Hazards.{touches, touches_conflict, has_stage, no_access, write_access, read_write_access}
use Rattle.vk_types.specs.declared.op.Barrier.{Barrier}
use Rattle.vk_types.specs.BarrierCauses.{lesser, writes_at, all_device}
use Rattle.barrier_track.specs.declared.stages.StageUse.{StageUse}
use Rattle.barrier_track.specs.declared.stages.Uses.{Uses}
use Rattle.barrier_track.specs.declared.touches.Seen.{Seen}
use Rattle.barrier_track.specs.Tracked.{Tracked}

-- what a command touches, with its number
abbrev pub seen_by : Command → List Seen
seen_by c = map (λ t. record { number = c.number; touch = t }) (touches c)

-- the number of a command, where its touch conflicts with this command
abbrev pub clash_of : Command → Seen → Option ℕ
clash_of c s = cond (list_any (touches_conflict s.touch) (touches c)) (Some s.number) None

-- the least number of those whose touches conflict with the command
abbrev pub least_seen : Command → List Seen → Option ℕ
least_seen c [] = None
least_seen c (s ∷ seen) = lesser (clash_of c s) (least_seen c seen)

-- a stage that no command uses
abbrev pub unused_stage : StageUse
unused_stage = record { named = false; writes = false }

-- no command uses a stage
abbrev pub unused : Uses
unused = record { indirect = unused_stage; compute = unused_stage; transfer = unused_stage }

-- the use of a stage, with one more command
abbrev pub use_by : StageUse → Command → Stage → StageUse
use_by u c s = record { named = u.named || has_stage c s; writes = u.writes || writes_at s c }

-- the use of each stage, with one more command
abbrev pub used_by : Uses → Command → Uses
used_by uses c = record {
  indirect = use_by uses.indirect c stage.Indirect;
  compute = use_by uses.compute c stage.Compute;
  transfer = use_by uses.transfer c stage.Transfer;
}

-- the access that a source names for a stage
abbrev pub source_at : StageUse → Option Access
source_at u = cond u.named (Some (cond u.writes write_access no_access)) None

-- the source that names the used stages
abbrev pub source_of : Uses → Mask
source_of uses = record { indirect = source_at uses.indirect; compute = source_at uses.compute; transfer = source_at uses.transfer; host = None }

-- the barrier behind the used stages, caused by two commands
abbrev pub cause_of : Uses → Option ℕ → ℕ → Option Barrier
cause_of uses None second = None
cause_of uses (Some first) second = Some (record { source = source_of uses; dest = all_device read_write_access; first = first; second = Some second })

-- the use of a stage by these commands
abbrev pub use_of : List Command → Stage → StageUse
use_of recent s = record { named = list_any (λ c. has_stage c s) recent; writes = list_any (writes_at s) recent }

-- the use of each stage by these commands
abbrev pub uses_of : List Command → Uses
uses_of recent = record { indirect = use_of recent stage.Indirect; compute = use_of recent stage.Compute; transfer = use_of recent stage.Transfer }

-- The tracker knows what these commands touched, those since the last barrier, and at which stages they work.
pub record IsSince (tracker : Tracked) (recent : List Command) : Type 0 where
  pub seen : tracker.seen ≡ flat_map seen_by recent
  pub uses : tracker.uses ≡ uses_of recent
