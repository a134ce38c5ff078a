-- Which logs are not planned.
use Rattle.std.specs.Prelude.{◌≡◌, ℕ, ◌<◌, Bool, true, false, List, Option, Some, None}
use Rattle.call_log.specs.Grammar.{Frame, frame_no, issued}
use Rattle.d3d_checks.specs.Accepted.{is_draw}
use Rattle.d3d_plan.specs.declared.end.PlanEnd.{PlanEnd}
use Rattle.d3d_plan.specs.declared.end.PlanEnd.TheVariants.{Unsupported, NoMemory}

-- the record is one of a draw
abbrev pub is_draw_record : Frame → Bool
is_draw_record f = is_draw (issued f).call

-- none of the first n records
abbrev pub NoneBefore : (Frame → Bool) → List Frame → ℕ → Type 0
NoneBefore test frames n = (k : ℕ) (f : Frame) → k < n → frame_no frames k ≡ Some f → test f ≡ false

-- no record
abbrev pub Never : (Frame → Bool) → List Frame → Type 0
Never test frames = (k : ℕ) (f : Frame) → frame_no frames k ≡ Some f → test f ≡ false

-- record n is the first of this kind of which it is true
pub record IsFirst (test : Frame → Bool) (frames : List Frame) (n kind : ℕ) : Type 0 where
  pub found : (f : Frame) × (frame_no frames n ≡ Some f) × (test f ≡ true) × (f.kind ≡ kind)
  pub before : NoneBefore test frames n

-- no draw
abbrev pub IsPlayable : List Frame → Type 0
IsPlayable frames = Never is_draw_record frames

-- a plan ends at the first draw, and where there is none only memory is wanting
abbrev pub EndsAt : List Frame → PlanEnd → Type 0
EndsAt frames (Unsupported n kind) = IsFirst is_draw_record frames n kind
EndsAt frames NoMemory = IsPlayable frames

-- the first record of which it is true, and its kind; none where there is none
abbrev pub FoundFirst : (Frame → Bool) → List Frame → Option (ℕ × ℕ) → Type 0
FoundFirst test frames None = Never test frames
FoundFirst test frames (Some p) = IsFirst test frames p.0 p.1
