-- What an item does to the recorder's state.
use Rattle.std.specs.Prelude.{◌≡◌, ℕ, suc, ◌+◌, Bool, true, false, cond, not, nat_le, nat_lt, is_some, List, [], ◌∷◌}
use Rattle.std.specs.Prelude.{Option, Some, None, length, replicate}
use Rattle.std.specs.Option.{option_map}
use Rattle.dx_types.specs.declared.range.Range.{Range}
use Rattle.dx_types.specs.declared.range.ResRange.{ResRange}
use Rattle.buffer_blocks.specs.declared.block.Block.{Block}
use Rattle.buffer_blocks.specs.Block.{bytes_of}
use Rattle.cs_chunk.specs.declared.entry.Entry.{Entry}
use Rattle.vk_types.specs.declared.op.VkOp.{VkOp}
use Rattle.vk_types.specs.declared.op.VkOp.TheVariants as op
use Rattle.base_lemmas.specs.IdMap as ids
use Rattle.slice_board.specs.Calls.{TakeGives}
use Rattle.slice_board.specs.declared.board.Take.{Take}
use Rattle.slice_board.specs.declared.rule.Hand.{Hand}
use Rattle.immediate_ctx.specs.declared.buffers.Buffer.{Buffer}
use Rattle.immediate_ctx.specs.declared.listing.Own.TheVariants.{Op}
use Rattle.immediate_ctx.specs.AppState.{AppState, with_passed}
use Rattle.immediate_ctx.specs.Buffers.{Live}
use Rattle.immediate_ctx.specs.ClassBlocks.{GetsBlock, Made}
use Rattle.immediate_ctx.specs.Tables.{Bytes}
use Rattle.immediate_ctx.specs.Flight.{open_number}
use Rattle.immediate_ctx.specs.Listing.{with_own}
use Rattle.immediate_ctx.specs.OpenChunk.{Filled, once_more, with_entry, without}
use Rattle.immediate_ctx.specs.Staging.{Stages}

-- an item: the call, the call whose body it plays, and whether it is the call's last one
abbrev pub entry_at : (call item : ℕ) → Entry
entry_at call item = record { call = call; item = item; block = None; mark = None; staged = None }

-- one more entry in the open chunk
abbrev pub adds : Entry → Bool → AppState → AppState
adds e retires s = record s { open_chunk = with_entry e retires s.open_chunk }

-- a range of a live staging buffer uses its block
abbrev pub use_of : Option Buffer → List ℕ → List ℕ
use_of None bs = bs
use_of (Some b) bs = cond b.is_staging (once_more b.block bs) bs

abbrev pub uses_in : Live → List ResRange → List ℕ → List ℕ
uses_in live [] bs = bs
uses_in live (r ∷ rs) bs = uses_in live rs (use_of (ids.get live r.res) bs)

abbrev pub with_use_of : Option Buffer → Filled → Filled
with_use_of b f = record f { used = use_of b f.used; named = use_of b f.named }

abbrev pub with_uses : Live → List ResRange → Filled → Filled
with_uses live rs f = record f { used = uses_in live rs f.used; named = uses_in live rs f.named }

abbrev pub uses : List ResRange → AppState → AppState
uses rs s = record s { open_chunk = with_uses s.buffers rs s.open_chunk }

-- an operation of the recorder stands in the listing
abbrev pub lists : VkOp → AppState → AppState
lists o s = record s { listing = with_own (Op o) s.listing }

-- the host writes to a range, by a call. An empty range has no write
abbrev pub writes : ℕ → Range → AppState → AppState
writes call r s = record s {
  listing = cond (nat_lt r.from r.to) (with_own (Op (op.HostWrite r call)) s.listing) s.listing;
}

-- an item that changes no block: it uses what it binds, and is an entry
abbrev pub plain : (call item : ℕ) → Bool → List ResRange → AppState → AppState
plain call item ends bound s = with_passed call ends (adds (entry_at call item) false (uses bound s))

-- a shader is created
abbrev pub with_shader : ℕ → AppState → AppState
with_shader call s = with_passed call true (adds (entry_at call call) false (lists (op.Pipeline call) s))

-- a map that overwrites nothing in use writes behind `from`, in the block where the buffer stands
abbrev pub block_if : Option Buffer → ℕ
block_if None = 0
block_if (Some b) = b.block

abbrev pub overwrites : (call item : ℕ) → Bool → (id from len : ℕ) → AppState → AppState
overwrites call item ends id from len s =
    with_passed call ends (adds (entry_at call item) false
    (writes call (record { block = block_if (ids.get s.buffers id); from = from; to = from + len }) s))

-- a buffer gives its block up: one of a class has its mark, a copy of it goes, and the open chunk doesn't name it any more
abbrev pub marks_of : Option Buffer → AppState → Made
marks_of None s = s.blocks
marks_of (Some b) s = cond (is_some b.class)
    (record s.blocks { marks = ids.insert s.blocks.marks b.block (open_number s.flight) }) s.blocks

abbrev pub copies_without : Option Buffer → AppState → Bytes
copies_without None s = s.copies
copies_without (Some b) s = ids.remove s.copies b.block

abbrev pub named_without : Option Buffer → AppState → List ℕ
named_without None s = s.open_chunk.named
named_without (Some b) s = without b.block s.open_chunk.named

abbrev pub gives_up : Option Buffer → AppState → AppState
gives_up b s = record s {
  blocks = marks_of b s;
  copies = copies_without b s;
  open_chunk = record s.open_chunk { named = named_without b s };
}

-- whether it gives a block of a class up
abbrev pub retires_block : Option Buffer → Bool
retires_block None = false
retires_block (Some b) = is_some b.class

-- the buffer with this id is destroyed, by a call of its own
abbrev pub destroys : (call id : ℕ) → AppState → AppState
destroys call id s =
    with_passed call true (adds (record (entry_at call call) { mark = option_map (λ (b : Buffer). b.block) (ids.get s.buffers id) })
    (retires_block (ids.get s.buffers id)) (record (gives_up (ids.get s.buffers id) s) { buffers = ids.remove s.buffers id }))
