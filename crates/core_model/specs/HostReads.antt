-- What the host reads in a run: each host read gives its call's answer, under every order that the listing allows.
use Rattle.std.specs.Prelude.{◌≡◌, ℕ, ◌-◌, List, ◌∷◌, ◌++◌, map, Option, Some, None, slice_get}
use Rattle.dx_types.specs.declared.range.Range.{Range}
use Rattle.vk_types.specs.declared.op.VkOp.{VkOp}
use Rattle.vk_types.specs.declared.op.VkOp.TheVariants as op
use Rattle.base_lemmas.specs.Lists.{numbers_from}
use Rattle.vk_types.specs.Memory.{range}
use Rattle.vk_types.specs.Effects.{Meaning}
use Rattle.vk_types.specs.Allowed.{IsAllowed, outcome}
use Rattle.core_model.specs.Script.{Bytes, Turn, Script, at_start, in_order}
use Rattle.core_model.specs.CoreState.{Core, Said, Bytes_said}
use Rattle.core_model.specs.Invariant.{IsAsked}

-- the listing, with the open chunk's operations behind it
abbrev pub whole_listing : Core → List VkOp
whole_listing core = core.listing ++ core.open_chunk.ops

-- the bytes of a range of a buffer, when these turns were taken one after another
abbrev pub bytes_in_order : Meaning → Script → List Turn → Range → List ℕ
bytes_in_order meaning script front source = map ((in_order meaning script front at_start).bytes source.block)
    (numbers_from source.from (source.to - source.from))

-- the reply was given
abbrev pub IsSaid : Core → Said → Type 0
IsSaid core said = (before : List Said) × (after : List Said) × (core.replies ≡ before ++ said ∷ after)

-- a host read of this range stands at this place, for the call, and each order that the listing allows gives there
-- these bytes
pub record GivesBytes (meaning : Meaning) (core : Core) (call : ℕ) (r : Range) (bytes : List ℕ) (place : ℕ) : Type 0
  where
    pub here : slice_get (whole_listing core) place ≡ Some (op.HostRead r call)
    pub gives : (order : List ℕ) → IsAllowed (whole_listing core) order
        → map ((outcome meaning core.contents (whole_listing core) order).answers place)
        (numbers_from 0 (r.to - r.from)) ≡ bytes

-- where the call has a last use, a host read of its range, on some block, stands in the listing and gives these bytes
abbrev pub HasRead : Meaning → Core → ℕ → Range → Option ℕ → List ℕ → Type 0
HasRead meaning core call source None bytes = Unit {0}
HasRead meaning core call source (Some used) bytes =
    (block : ℕ) × (place : ℕ) × GivesBytes meaning core call (range block source.from source.to) bytes place

-- each reply with bytes has those that its call's range has in order, and its host read
abbrev pub RepliesAreReads : Meaning → Script → Core → Type 0
RepliesAreReads meaning script core =
    (call : ℕ) (bytes : List ℕ) → IsSaid core (Bytes_said call bytes)
    → (source : Range) (used : Option ℕ) (at : IsAsked script call (Bytes source) used)
    → (bytes ≡ bytes_in_order meaning script at.front source) × HasRead meaning core call source used bytes

-- each host read is that of a call with a last use, which was answered, and gives the bytes that its range has in order
abbrev pub ReadsAreReplies : Meaning → Script → Core → Type 0
ReadsAreReplies meaning script core =
    (call : ℕ) (r : Range) (place : ℕ) → slice_get (whole_listing core) place ≡ Some (op.HostRead r call)
    → (source : Range) × (used : ℕ) × (at : IsAsked script call (Bytes source) (Some used))
    × (r ≡ range r.block source.from source.to)
    × IsSaid core (Bytes_said call (bytes_in_order meaning script at.front source))
    × GivesBytes meaning core call r (bytes_in_order meaning script at.front source) place
