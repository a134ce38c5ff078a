-- When the open chunk is due, by what is counted of it.
use Rattle.std.specs.Prelude.{ℕ, ◌+◌, Bool, cond, not, ◌&&◌, ◌||◌, nat_le, List}
use Rattle.dx_types.specs.declared.limits.TheConstants.{CHUNK_ENTRIES, CHUNK_MARKS, CHUNK_STAGED_BYTES}
use Rattle.core_model.specs.Script.{Turn, Script}
use Rattle.core_model.specs.Chunking.{entry_count, mark_count, staged_count}
use Rattle.immediate_ctx.specs.declared.counts.Counts.{Counts}

abbrev pub no_counts : Counts
no_counts = record { entries = 0; marks = 0; staged = 0 }

-- the counts of these turns
abbrev pub counts_of : Script → List Turn → Counts
counts_of script ts = record { entries = entry_count ts; marks = mark_count script ts; staged = staged_count ts }

-- one more entry
abbrev pub counted : Bool → ℕ → Counts → Counts
counted retires staged c = record
    { entries = c.entries + 1; marks = c.marks + cond retires 1 0; staged = c.staged + staged }

abbrev pub is_full_by : Counts → Bool
is_full_by c = nat_le CHUNK_ENTRIES c.entries || (nat_le CHUNK_MARKS c.marks || nat_le CHUNK_STAGED_BYTES c.staged)

-- where a list is running only a full chunk is due
abbrev pub is_due_by : Counts → Bool → Bool → Bool
is_due_by c in_list stops = is_full_by c || (nat_le 1 c.entries && (not in_list && stops))
