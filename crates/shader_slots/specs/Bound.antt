-- What is bound for a dispatch: the words of each slot, and the bytes around each part that is written.
use Rattle.std.specs.Prelude.{ℕ, ◌<◌, ◌≤◌, slice_index, length, List, [], map, replicate, slice_set, slice_index_or, Option, Some, None}
use Rattle.dx_types.specs.declared.limits.TheConstants.{CONSTANT_SLOTS, MAX_BUFFER_WORDS, SRV_SLOTS, UAV_SLOTS}
use Rattle.shader_model.specs.Invocation.{Slots, words_in}
use Rattle.shader_slots.specs.Part.{Part}

-- the bytes of a buffer before and behind the part that a slot has
pub record Around : Type 0 where
  pub before : List ℕ
  pub after : List ℕ

-- the words of each slot, as an invocation sees and changes them, and what stands around those that it may write
pub record Bound : Type 0 where
  pub words : Slots
  pub around : List (Option Around)

-- a slot's words, none where nothing is bound
abbrev pub words_bound : Option Part → List ℕ
words_bound None = []
words_bound (Some p) = p.words

abbrev pub around_bound : Option Part → Option Around
around_bound None = None
around_bound (Some p) = Some (record { before = p.before; after = p.after })

-- what slots with these words and parts are seen as
abbrev pub seen : (constants reads : List (List ℕ)) → List (Option Part) → Bound
seen constants reads parts = record {
  words = record { constants = constants; reads = reads; writes = map words_bound parts };
  around = map around_bound parts;
}

-- a part with another word
abbrev pub with_word : (i value : ℕ) → Option Part → Option Part
with_word i value None = None
with_word i value (Some p) = Some (record p { words = slice_set p.words i value })

-- no slot has more words than a buffer of 16,777,216 bytes, and each word has 32 bits
pub record WithinLimit (s : Slots) : Type 0 where
  pub constants : (n : ℕ) → length (words_in s.constants n) ≤ MAX_BUFFER_WORDS
  pub reads : (n : ℕ) → length (words_in s.reads n) ≤ MAX_BUFFER_WORDS
  pub writes : (n : ℕ) → length (words_in s.writes n) ≤ MAX_BUFFER_WORDS
  pub constant_words : (n i : ℕ) → slice_index (words_in s.constants n) i < 4294967296
  pub read_words : (n i : ℕ) → slice_index (words_in s.reads n) i < 4294967296
  pub write_words : (n i : ℕ) → slice_index (words_in s.writes n) i < 4294967296

-- nothing is bound
abbrev pub unbound : Bound
unbound = record {
  words = record { constants = replicate CONSTANT_SLOTS []; reads = replicate SRV_SLOTS []; writes = replicate UAV_SLOTS [] };
  around = replicate UAV_SLOTS None;
}

-- a constant buffer's slot, a resource's, and an unordered access view's with other words
abbrev pub with_constant : ℕ → List ℕ → Bound → Bound
with_constant n words b = record b { words = record (b.words) { constants = slice_set b.words.constants n words } }

abbrev pub with_read : ℕ → List ℕ → Bound → Bound
with_read n words b = record b { words = record (b.words) { reads = slice_set b.words.reads n words } }

abbrev pub with_written : ℕ → List ℕ → Bound → Bound
with_written n words b = record b { words = record (b.words) { writes = slice_set b.words.writes n words } }

-- an unordered access view's slot with a part of a buffer, or emptied
abbrev pub with_write : ℕ → Option Part → Bound → Bound
with_write n p b = record {
  words = record (b.words) { writes = slice_set b.words.writes n (words_bound p) };
  around = slice_set b.around n (around_bound p);
}

-- the part with these words, where something stands around it
abbrev pub between : List ℕ → Option Around → Option Part
between words None = None
between words (Some a) = Some (record { before = a.before; words = words; after = a.after })

-- the part that a slot has
abbrev pub part_at : ℕ → Bound → Option Part
part_at n b = between (words_in b.words.writes n) (slice_index_or b.around n None)
