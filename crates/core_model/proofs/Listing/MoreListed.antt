-- One act more in the listing of a core: a host write or a host read behind it, or a command among the open chunk's
-- operations, with the barrier that its hazards cause.
use Rattle.std.proofs.Common.{◌≡◌, ℕ, suc, ◌-◌, Bool, true, List, [], ◌∷◌, ◌++◌, map, length, refl, sym, ap, ◌∙◌}
use Rattle.std.proofs.Common.{subst, Option, Some, None}
use Rattle.std.specs.List.{AllByRecursion}
use Rattle.dx_types.specs.declared.range.Range.{Range}
use Rattle.vk_types.specs.declared.op.VkOp.{VkOp}
use Rattle.vk_types.specs.Effects.{Host_write, Device, Host_read}
use Rattle.vk_types.specs.BarrierCauses.{least_conflict, caused, barrier_before, since_barrier, maybe_barrier}
use Rattle.vk_types.specs.BarrierCauses.{barriers_from}
use Rattle.vk_types.specs.Entries.{Entry, Counts, next, after_host, after_barrier, start_counts}
use Rattle.vk_types.specs.Listing.{written_ranges, AreContents}
use Rattle.vk_types.specs.RunListing.{IsNumbered, IsWhole}
use Rattle.base_lemmas.proofs.Lists.{all_append}
use Rattle.core_model.specs.AppActs.{device_commands, act_commands}
use Rattle.core_model.specs.Adding.{epoch_after}
use Rattle.core_model.specs.Listed.{ListState, nothing_listed, after_op, after_ops, GoesOn, plain_entries}
use Rattle.core_model.specs.Listed.{is_of_device, after_count, after_counts, contents_after, IsCounted, IsListed}
use Rattle.core_model.proofs.Listing.Growing.{after_append, goes_on, reads_append, device_plain, entries_append}
use Rattle.core_model.proofs.Listing.Growing.{ranges_append, contents_kept, contents_append, device_contents}
use Rattle.core_model.proofs.Listing.CoreListing.{counts_append, epoch_alike}
use Rattle.vk_types.specs.declared.command.Command as c
use Rattle.vk_types.specs.declared.op.VkOp.TheVariants as op

-- The bytes that the host writes ------------------------------------------------------------------------------------

map_last : {A B : Type 0} (f : A → B) (xs : List A) (y : A) → map f (xs ++ y ∷ []) ≡ map f xs ++ f y ∷ []
map_last f [] y = refl
map_last f (x ∷ xs) y = ap (λ l. f x ∷ l) (map_last f xs y)

-- bytes behind those of a listing are left by it
contents_more : (ops : List VkOp) (contents more : List (List ℕ)) → AreContents ops contents
    → contents_after (contents ++ more) ops ≡ more
contents_more [] [] more h = refl
contents_more [] (b ∷ bs) more h = absurd (cc h)
contents_more (op.HostWrite r call ∷ ops) [] more h = absurd (cc h)
contents_more (op.HostWrite r call ∷ ops) (b ∷ bs) more h = contents_more ops bs more (cc h)
contents_more (op.Pipeline shader ∷ ops) contents more h = contents_more ops contents more h
contents_more (op.Barrier barrier ∷ ops) contents more h = contents_more ops contents more h
contents_more (op.Command d ∷ ops) contents more h = contents_more ops contents more h
contents_more (op.Submit k ∷ ops) contents more h = contents_more ops contents more h
contents_more (op.Fence k ∷ ops) contents more h = contents_more ops contents more h
contents_more (op.HostRead r call ∷ ops) contents more h = contents_more ops contents more h

-- and change none of its entries
entries_more : (c : Counts) (ops : List VkOp) (contents more : List (List ℕ)) → AreContents ops contents
    → plain_entries c (contents ++ more) ops ≡ plain_entries c contents ops
entries_more c [] contents more h = refl
entries_more c (op.HostWrite r call ∷ ops) [] more h = absurd (cc h)
entries_more c (op.HostWrite r call ∷ ops) (b ∷ bs) more h =
    ap (λ l. record { act = Host_write r b; chunk = c.chunk; epoch = 0; fence = c.fence; number = c.number } ∷ l)
    (entries_more (after_host c) ops bs more (cc h))
entries_more c (op.Pipeline shader ∷ ops) contents more h = entries_more (next c) ops contents more h
entries_more c (op.Barrier barrier ∷ ops) contents more h = entries_more (after_barrier c barrier) ops contents more h
entries_more c (op.Command d ∷ ops) contents more h =
    ap (λ l. record { act = Device d; chunk = c.chunk; epoch = c.epoch; fence = 0; number = 0 } ∷ l)
    (entries_more (next c) ops contents more h)
entries_more c (op.Submit k ∷ ops) contents more h = entries_more (after_count c (op.Submit k)) ops contents more h
entries_more c (op.Fence k ∷ ops) contents more h = entries_more (after_count c (op.Fence k)) ops contents more h
entries_more c (op.HostRead r call ∷ ops) contents more h =
    ap (λ l. record { act = Host_read r; chunk = c.chunk; epoch = 0; fence = c.fence; number = c.number } ∷ l)
    (entries_more (after_host c) ops contents more h)

-- The number of the next submit is the chunk of what is listed next
counts_chunk : (ops : List VkOp) (s : ListState) (c : Counts) → c.chunk ≡ s.chunk → IsNumbered s.chunk ops
    → (after_counts c ops).chunk ≡ (after_ops s ops).chunk
counts_chunk [] s c e h = e
counts_chunk (op.HostWrite r call ∷ ops) s c e h = counts_chunk ops s (after_host c) e h
counts_chunk (op.Pipeline shader ∷ ops) s c e h = counts_chunk ops s (next c) e h
counts_chunk (op.Barrier barrier ∷ ops) s c e h = counts_chunk ops s (after_barrier c barrier) e h
counts_chunk (op.Command d ∷ ops) s c e h = counts_chunk ops (after_op s (op.Command d)) (next c) e h
counts_chunk (op.Submit k ∷ ops) s c e h = counts_chunk ops (after_op s (op.Submit k)) (after_count c (op.Submit k))
    (ap suc h.0) h.1
counts_chunk (op.Fence k ∷ ops) s c e h = counts_chunk ops s (after_count c (op.Fence k)) e h.1
counts_chunk (op.HostRead r call ∷ ops) s c e h = counts_chunk ops s (after_host c) e h

device_same_chunk : (ops : List VkOp) → AllByRecursion (λ o. is_of_device o ≡ true) ops → (c : Counts)
    → (after_counts c ops).chunk ≡ c.chunk
device_same_chunk [] h c = refl
device_same_chunk (op.HostWrite r call ∷ ops) h c = let z = h.0 in absurd (cc z)
device_same_chunk (op.Pipeline shader ∷ ops) h c = let z = h.0 in absurd (cc z)
device_same_chunk (op.Barrier barrier ∷ ops) h c = device_same_chunk ops h.1 (after_barrier c barrier)
device_same_chunk (op.Command d ∷ ops) h c = device_same_chunk ops h.1 (next c)
device_same_chunk (op.Submit k ∷ ops) h c = let z = h.0 in absurd (cc z)
device_same_chunk (op.Fence k ∷ ops) h c = let z = h.0 in absurd (cc z)
device_same_chunk (op.HostRead r call ∷ ops) h c = let z = h.0 in absurd (cc z)

-- A command and its barrier -----------------------------------------------------------------------------------------

abbrev pub new_ops : List c.Command → c.Command → Option ℕ → List VkOp
new_ops recent d q = maybe_barrier (caused recent d q) ++ op.Command d ∷ []

new_barriers : (staging : ℕ → Bool) (now recent batch : List c.Command) (d : c.Command) (q : Option ℕ)
    → barriers_from staging now batch (new_ops recent d q) ≡ maybe_barrier (barrier_before now d) ++ op.Command d ∷ []
new_barriers staging now recent batch d None = refl
new_barriers staging now recent batch d (Some first) = refl

new_numbers : (recent : List c.Command) (d : c.Command) (q : Option ℕ) (k : ℕ) → IsNumbered k (new_ops recent d q)
new_numbers recent d None k = tt
new_numbers recent d (Some first) k = tt

new_whole : (recent : List c.Command) (d : c.Command) (q : Option ℕ) (inside : Bool)
    → IsWhole inside (new_ops recent d q)
new_whole recent d None inside = tt
new_whole recent d (Some first) inside = tt

new_of_device : (recent : List c.Command) (d : c.Command) (q : Option ℕ)
    → AllByRecursion (λ o. is_of_device o ≡ true) (new_ops recent d q)
new_of_device recent d None = (refl, tt)
new_of_device recent d (Some first) = (refl, (refl, tt))

new_after : (recent : List c.Command) (d : c.Command) (q : Option ℕ) (s : ListState)
    → after_ops s (new_ops recent d q) ≡ after_op s (op.Command d)
new_after recent d None s = refl
new_after recent d (Some first) s = refl

-- the entry of a command
abbrev pub command_entry : c.Command → ℕ → ℕ → Entry
command_entry d chunk epoch = record { act = Device d; chunk = chunk; epoch = epoch; fence = 0; number = 0 }

new_entries : (recent : List c.Command) (d : c.Command) (q : Option ℕ) (k : Counts) (number epoch : ℕ)
    → k.chunk ≡ number → k.epoch ≡ epoch
    → plain_entries k [] (new_ops recent d q) ≡ command_entry d number (epoch_after (caused recent d q) epoch) ∷ []
new_entries recent d None k number epoch e f = λ i. command_entry d (e i) (f i) ∷ []
new_entries recent d (Some first) k number epoch e f = λ i. command_entry d (e i) (suc (f i)) ∷ []

new_epoch : (recent : List c.Command) (d : c.Command) (q : Option ℕ) (k : Counts)
    → (after_counts k (new_ops recent d q)).epoch ≡ epoch_after (caused recent d q) k.epoch
new_epoch recent d None k = refl
new_epoch recent d (Some first) k = refl

pub commands_last : (xs : List Entry) (y : Entry) → device_commands (xs ++ y ∷ [])
    ≡ device_commands xs ++ device_commands (y ∷ [])
commands_last [] y = refl
commands_last (x ∷ xs) y = ap (λ l. act_commands x.act ++ l) (commands_last xs y)
    ∙ assoc (act_commands x.act) (device_commands xs) (device_commands (y ∷ []))
  where
    assoc : (a b d : List c.Command) → a ++ (b ++ d) ≡ (a ++ b) ++ d
    assoc [] b d = refl
    assoc (x ∷ a) b d = ap (λ l. x ∷ l) (assoc a b d)

-- The listing -------------------------------------------------------------------------------------------------------

module _ (staging : ℕ → Bool) (listing ops : List VkOp) (contents : List (List ℕ)) (recent : List c.Command)
    (commands : List Entry) (number : ℕ) (acts : List Entry)
    (h : IsListed staging listing ops contents recent commands number acts) (greatest host_acts barriers : ℕ)
    (k : IsCounted listing ops greatest host_acts barriers) where
  abbrev behind : ListState
  behind = after_ops nothing_listed listing

  abbrev counts : Counts
  counts = after_counts start_counts listing

  same_chunk : counts.chunk ≡ number
  same_chunk = counts_chunk listing nothing_listed start_counts refl h.closed.numbers ∙ h.next

  -- the host writes bytes
  pub write_listed : (r : Range) (call : ℕ) (bytes : List ℕ) → length bytes ≡ r.to - r.from
      → IsListed staging (listing ++ op.HostWrite r call ∷ []) ops (contents ++ bytes ∷ []) recent commands number
      (acts ++ record { act = Host_write r bytes; chunk = number; epoch = 0; fence = greatest; number = host_acts }
      ∷ [])
  write_listed r call bytes long =
      let o = op.HostWrite r call in
      let same : after_ops nothing_listed (listing ++ o ∷ []) ≡ behind = after_append nothing_listed listing (o ∷ []) in
      record {
        closed = goes_on staging nothing_listed listing (o ∷ []) h.closed
            (record { barriers = refl; numbers = tt; whole = (h.ended, tt) });
        opened = subst (λ s. GoesOn staging s ops) (sym same) h.opened;
        none_begun = ap (λ s. s.batch) same ∙ h.none_begun;
        ended = ap (λ s. s.inside) same ∙ h.ended;
        next = ap (λ s. s.chunk) same ∙ h.next;
        of_device = h.of_device;
        since = ap (λ s. (after_ops s ops).recent) same ∙ h.since;
        lists = ap (λ s. (after_ops s ops).batch) same ∙ h.lists;
        reads = reads_append staging listing (o ∷ []) h.reads tt;
        filled =
            map_last length contents bytes
            ∙ ap (λ l. l ++ length bytes ∷ []) h.filled ∙ ap
            (λ n. map (λ r. r.to - r.from) (written_ranges listing) ++ n ∷ []) long
            ∙ sym (ap (map (λ r. r.to - r.from)) (ranges_append listing (o ∷ []))
            ∙ map_last (λ r. r.to - r.from) (written_ranges listing) r);
        used =
            contents_append (contents ++ bytes ∷ []) listing (o ∷ [])
            ∙ ap (λ l. contents_after l (o ∷ [])) (contents_more listing contents (bytes ∷ []) h.filled);
        entries =
            entries_append start_counts (contents ++ bytes ∷ []) listing (o ∷ [])
            ∙ ap (λ l. l ++ plain_entries counts (contents_after (contents ++ bytes ∷ []) listing) (o ∷ []))
            (entries_more start_counts listing contents (bytes ∷ []) h.filled ∙ h.entries)
            ∙ ap (λ l. acts ++ plain_entries counts l (o ∷ [])) (contents_more listing contents (bytes ∷ []) h.filled)
            ∙ (λ i. acts ++ record {
              act = Host_write r bytes;
              chunk = same_chunk i;
              epoch = 0;
              fence =
                  k.fence i;
              number = k.number i;
            } ∷ []);
        works =
            ap (λ c. plain_entries c [] ops) (counts_append start_counts listing (o ∷ []))
            ∙ device_plain ops h.of_device (after_host counts) counts [] [] refl refl ∙ h.works;
      }

  pub write_counted : (r : Range) (call : ℕ) → IsCounted (listing ++ op.HostWrite r call ∷ []) ops greatest
      (suc host_acts) barriers
  write_counted r call =
      let same : after_counts start_counts (listing ++ op.HostWrite r call ∷ []) ≡ after_host counts =
      counts_append start_counts listing (op.HostWrite r call ∷ []) in
      record {
        fence = ap (λ c. c.fence) same ∙ k.fence;
        number = ap (λ c. c.number) same ∙ ap suc k.number;
        epoch = ap (λ c. (after_counts c ops).epoch) same ∙ epoch_alike ops (after_host counts) counts refl ∙ k.epoch;
      }

  -- the host reads a staging block
  pub read_listed : (r : Range) (call : ℕ) → staging r.block ≡ true
      → IsListed staging (listing ++ op.HostRead r call ∷ []) ops contents recent commands number
      (acts ++ record { act = Host_read r; chunk = number; epoch = 0; fence = greatest; number = host_acts } ∷ [])
  read_listed r call st =
      let o = op.HostRead r call in
      let same : after_ops nothing_listed (listing ++ o ∷ []) ≡ behind = after_append nothing_listed listing (o ∷ []) in
      record {
        closed = goes_on staging nothing_listed listing (o ∷ []) h.closed
            (record { barriers = refl; numbers = tt; whole = (h.ended, tt) });
        opened = subst (λ s. GoesOn staging s ops) (sym same) h.opened;
        none_begun = ap (λ s. s.batch) same ∙ h.none_begun;
        ended = ap (λ s. s.inside) same ∙ h.ended;
        next = ap (λ s. s.chunk) same ∙ h.next;
        of_device = h.of_device;
        since = ap (λ s. (after_ops s ops).recent) same ∙ h.since;
        lists = ap (λ s. (after_ops s ops).batch) same ∙ h.lists;
        reads = reads_append staging listing (o ∷ []) h.reads (st, tt);
        filled = contents_kept listing (o ∷ []) contents refl h.filled;
        used = contents_append contents listing (o ∷ []) ∙ h.used;
        entries =
            entries_append start_counts contents listing (o ∷ [])
            ∙ ap (λ l. l ++ plain_entries counts (contents_after contents listing) (o ∷ [])) h.entries
            ∙ (λ i. acts ++ record {
              act = Host_read r;
              chunk = same_chunk i;
              epoch = 0;
              fence = k.fence i;
              number =
                  k.number i;
            } ∷ []);
        works =
            ap (λ c. plain_entries c [] ops) (counts_append start_counts listing (o ∷ []))
            ∙ device_plain ops h.of_device (after_host counts) counts [] [] refl refl ∙ h.works;
      }

  pub read_counted : (r : Range) (call : ℕ) → IsCounted (listing ++ op.HostRead r call ∷ []) ops greatest
      (suc host_acts) barriers
  read_counted r call =
      let same : after_counts start_counts (listing ++ op.HostRead r call ∷ []) ≡ after_host counts =
      counts_append start_counts listing (op.HostRead r call ∷ []) in
      record {
        fence = ap (λ c. c.fence) same ∙ k.fence;
        number = ap (λ c. c.number) same ∙ ap suc k.number;
        epoch = ap (λ c. (after_counts c ops).epoch) same ∙ epoch_alike ops (after_host counts) counts refl ∙ k.epoch;
      }

  -- a command, with its barrier, among the open chunk's operations
  pub command_listed : (d : c.Command) (q : Option ℕ) → least_conflict recent d ≡ q
      → IsListed staging listing (ops ++ new_ops recent d q) contents (since_barrier recent d (caused recent d q))
      (commands ++ command_entry d number (epoch_after (caused recent d q) barriers) ∷ []) number acts
  command_listed d q least =
      let last = after_ops behind ops in
      let barrier : barrier_before last.recent d ≡ caused recent d q = ap (λ r. barrier_before r d) h.since
      ∙ ap (caused recent d) least in
      let same : after_ops behind (ops ++ new_ops recent d q) ≡ after_op last (op.Command d) =
      after_append behind ops (new_ops recent d q) ∙ new_after recent d q last in
      record {
        closed = h.closed;
        opened = goes_on staging behind ops (new_ops recent d q) h.opened (record {
          barriers = sym (new_barriers staging last.recent recent last.batch d q
              ∙ ap (λ o. maybe_barrier o ++ op.Command d ∷ []) barrier);
          numbers = new_numbers recent d q last.chunk;
          whole = new_whole recent d q last.inside;
        });
        none_begun = h.none_begun;
        ended = h.ended;
        next = h.next;
        of_device = all_append (λ o. is_of_device o ≡ true) ops (new_ops recent d q) h.of_device
            (new_of_device recent d q);
        since = ap (λ s. s.recent) same ∙ ap (λ o. since_barrier last.recent d o) barrier
            ∙ ap (λ r. since_barrier r d (caused recent d q)) h.since;
        lists =
            ap (λ s. s.batch) same ∙ ap (λ l. l ++ d ∷ []) h.lists
            ∙ sym (commands_last commands (command_entry d number (epoch_after (caused recent d q) barriers)));
        reads = h.reads;
        filled = h.filled;
        used = h.used;
        entries = h.entries;
        works =
            entries_append counts [] ops (new_ops recent d q)
            ∙ ap (λ l. l ++ plain_entries (after_counts counts ops) (contents_after [] ops) (new_ops recent d q))
            h.works
            ∙ ap (λ l. commands ++ plain_entries (after_counts counts ops) l (new_ops recent d q))
            (device_contents ops h.of_device [])
            ∙ ap (λ l. commands ++ l) (new_entries recent d q (after_counts counts ops) number barriers
            (device_same_chunk ops h.of_device counts ∙ same_chunk) k.epoch);
      }

  pub command_counted : (d : c.Command) (q : Option ℕ) → IsCounted listing (ops ++ new_ops recent d q) greatest
      host_acts (epoch_after (caused recent d q) barriers)
  command_counted d q = record {
    fence = k.fence;
    number = k.number;
    epoch =
        ap (λ c. c.epoch) (counts_append counts ops (new_ops recent d q))
        ∙ new_epoch recent d q (after_counts counts ops)
        ∙ ap (epoch_after (caused recent d q)) k.epoch;
  }
