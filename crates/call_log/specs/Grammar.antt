-- Which bytes are a log, and the first fault of those that are none.
use Rattle.std.specs.Prelude.{◌≡◌, ℕ, ◌+◌, ◌*◌, ◌<◌, ◌≤◌, ◌^◌, ◌==◌, nat_lt, nat_le, ◌&&◌, ◌||◌, not, IsTrue, Bool, zero, suc, Option, None, Some, All, slice_get, get_or, ⊤, List, [], ◌∷◌, ◌++◌, length, take, drop, map, ◌⊎◌, if◌then◌else◌}
use Rattle.std.specs.List.{flat_map, AllByRecursion}
use Rattle.std.specs.Option.{is_some}
use Rattle.dx_types.specs.declared.limits.TheConstants.{MAX_INPUT}
use Rattle.byteorder.specs.Endian.{little_number, little_bytes}
use Rattle.call_log.specs.declared.fault.LogFault.{LogFault}
use Rattle.call_log.specs.declared.fault.LogKind.TheVariants.{Magic, Version, Truncated, BodyLength, UnknownKind, Trailing, NoEnd}
use Rattle.call_log.specs.declared.fault.LogEnd.{LogEnd}
use Rattle.call_log.specs.declared.fault.LogEnd.TheVariants.{Bad, NoMemory}
use Rattle.call_log.specs.declared.fault.Head.{Head}
use Rattle.call_log.specs.declared.fault.Head.TheVariants.{Whole, End, Broken}
use Rattle.call_log.specs.Call.{Issued}
use Rattle.call_log.specs.Body.{layout, fits, call_of}

-- A record of a log.
pub record Frame : Type 0 where
  pub kind : ℕ
  pub context : ℕ
  pub body : List ℕ

-- The first bytes of a log: `D3L1`, and version 1.
abbrev pub header : List ℕ
header = 68 ∷ 51 ∷ 76 ∷ 49 ∷ 1 ∷ 0 ∷ 0 ∷ 0 ∷ []

-- The bytes of a record: kind, context, the body's length, and the body.
abbrev pub spell : Frame → List ℕ
spell f = little_bytes 2 f.kind ++ (little_bytes 2 f.context ++ (little_bytes 4 (length f.body) ++ f.body))

-- The bytes that end a log: kind 0 on context 0, and an empty body.
abbrev pub end_record : List ℕ
end_record = 0 ∷ 0 ∷ 0 ∷ 0 ∷ 0 ∷ 0 ∷ 0 ∷ 0 ∷ []

-- A record of a known kind, whose body fits it.
pub record IsFrame (f : Frame) : Type 0 where
  pub kind_fits : f.kind < 2 ^ 16
  pub context_fits : f.context < 2 ^ 16
  pub body_fits : length f.body < 2 ^ 32
  pub whole : IsTrue (fits f.kind f.body)

-- A log: a header, records, an end record, and nothing after it.
pub record IsLog (bytes : List ℕ) (frames : List Frame) : Type 0 where
  pub spelled : bytes ≡ header ++ (flat_map spell frames ++ end_record)
  pub each : AllByRecursion IsFrame frames

-- The call that a record spells, on its context.
abbrev pub issued : Frame → Issued
issued f = record { context = f.context; call = call_of f.kind f.body }

-- The calls of a log, in order.
abbrev pub calls_of : List Frame → List Issued
calls_of frames = map issued frames

-- ---- the first fault

-- The kind that the first bytes of a record say.
abbrev pub kind_of : List ℕ → ℕ
kind_of rest = little_number 2 rest

-- The context that they say.
abbrev pub context_of : List ℕ → ℕ
context_of rest = little_number 2 (drop 2 rest)

-- The length of the body that they say.
abbrev pub length_of : List ℕ → ℕ
length_of rest = little_number 4 (drop 4 rest)

-- The body that follows them, as far as there are bytes.
abbrev pub body_of : List ℕ → List ℕ
body_of rest = take (length_of rest) (drop 8 rest)

-- A record of this kind may stand in a log: a call, or the end.
abbrev pub is_kind : ℕ → Bool
is_kind kind = kind == 0 || is_some (layout kind)

-- What a record of kind 0 is, by its context, its length and how many bytes are left from it on.
abbrev pub end_parts : ℕ → ℕ → ℕ → ℕ → Head
end_parts p context len left =
    if len == 0 && context == 0
    then (if left == 8 then End else Broken (record { at = p + 8; kind = Trailing }))
    else Broken (record { at = p; kind = BodyLength })

-- What stands at p, where these bytes are left: a whole record, the end of the log, or a fault.
unfoldable pub head_at : ℕ → List ℕ → Head
head_at p rest =
    if length rest == 0 then Broken (record { at = p; kind = NoEnd })
    else if nat_lt (length rest) 8 then Broken (record { at = p; kind = Truncated })
    else if not (is_kind (kind_of rest)) then Broken (record { at = p; kind = UnknownKind })
    else if nat_lt (length rest) (8 + length_of rest) then Broken (record { at = p; kind = Truncated })
    else if kind_of rest == 0 then end_parts p (context_of rest) (length_of rest) (length rest)
    else if fits (kind_of rest) (body_of rest) then Whole
    else Broken (record { at = p; kind = BodyLength })

-- A fault behind the header: some records, and then what no record and no end begins with.
pub record IsFaultAfter (bytes : List ℕ) (fault : LogFault) : Type 0 where
  pub frames : List Frame
  pub rest : List ℕ
  pub spelled : bytes ≡ header ++ (flat_map spell frames ++ rest)
  pub each : AllByRecursion IsFrame frames
  pub broken : head_at (8 + length (flat_map spell frames)) rest ≡ Broken fault

-- The header's own fault, if it has one. 827077444 is `D3L1` as a number.
unfoldable pub header_fault : List ℕ → Option LogFault
header_fault bytes =
    if nat_lt (length bytes) 4 || not (little_number 4 bytes == 827077444) then Some (record { at = 0; kind = Magic })
    else if nat_lt (length bytes) 8 then Some (record { at = 4; kind = Truncated })
    else if not (little_number 4 (drop 4 bytes) == 1) then Some (record { at = 4; kind = Version })
    else None

-- The first fault of some bytes.
abbrev pub IsFault : List ℕ → LogFault → Type 0
IsFault bytes fault = (header_fault bytes ≡ Some fault) ⊎ IsFaultAfter bytes fault

-- Each number is a byte.
abbrev pub AreBytes : List ℕ → Type 0
AreBytes bytes = All (λ b. b < 256) bytes

-- What reading some bytes ends in: their first fault, or want of memory.
abbrev pub BadOnly : List ℕ → LogEnd → Type 0
BadOnly bytes (Bad fault) = IsFault bytes fault
BadOnly bytes NoMemory = ⊤

-- ---- a log that was read

-- A log that was read: its bytes, and its records in order.
pub record Reading : Type 0 where
  pub bytes : List ℕ
  pub frames : List Frame

-- Record n, from 1.
abbrev pub frame_no : List Frame → ℕ → Option Frame
frame_no frames zero = None
frame_no frames (suc n) = slice_get frames n

-- Where in a log what stands behind its first n records begins.
abbrev pub start_behind : List Frame → ℕ → ℕ
start_behind frames n = 8 + length (flat_map spell (take n frames))

-- Some bytes stand at this place of others.
pub record StandsAt (bytes : List ℕ) (place : ℕ) (part : List ℕ) : Type 0 where
  pub inside : place + length part ≤ length bytes
  pub same : take (length part) (drop place bytes) ≡ part

-- The part of some bytes from a place on, of this length; none where it passes their end.
abbrev pub part_of : List ℕ → ℕ → ℕ → Option (List ℕ)
part_of bytes start len = if nat_le (start + len) (length bytes) then Some (take len (drop start bytes)) else None

-- ---- an index of the records

-- The record that stands in front.
abbrev pub frame_at : List ℕ → Frame
frame_at rest = record { kind = kind_of rest; context = context_of rest; body = body_of rest }

-- A whole record stands in front.
pub record IsWhole (rest : List ℕ) : Type 0 where
  pub long : 8 ≤ length rest
  pub room : 8 + length_of rest ≤ length rest
  pub whole : IsTrue (fits (kind_of rest) (body_of rest))

-- The records that stand at some places.
abbrev pub frames_at : List ℕ → List ℕ → List Frame
frames_at bytes starts = map (λ at. frame_at (drop at bytes)) starts

-- At each of these places a record stands, each begins where the one before it ends, and they are a log.
pub record Indexed (bytes starts : List ℕ) : Type 0 where
  pub small : length bytes ≤ MAX_INPUT
  pub few : 8 * length starts + 16 ≤ length bytes
  pub within : All (λ at. at ≤ length bytes) starts
  pub whole : All (λ at. IsWhole (drop at bytes)) starts
  pub placed : (n d : ℕ) → n < length starts → get_or starts n d ≡ start_behind (frames_at bytes starts) n
  pub log : IsLog bytes (frames_at bytes starts)
