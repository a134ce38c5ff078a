-- How the listing of a core grows: a fence or a pipeline stands behind it, a chunk is handed over; and what it says.
use Rattle.std.proofs.Common.{◌≡◌, ℕ, suc, ◌<◌, Bool, true, false, cond, max, List, [], ◌∷◌, ◌++◌, refl, sym, ap, ◌∙◌}
use Rattle.std.proofs.Common.{subst, Option, Some, None, is_some, arith, append-nil}
use Rattle.std.specs.List.{AllByRecursion}
use Rattle.vk_types.specs.declared.op.VkOp.{VkOp}
use Rattle.vk_types.specs.BarrierCauses.{least_writer, host_barrier, barriers_from}
use Rattle.vk_types.specs.Entries.{Entry, entry_before, entries_conflict, EntriesKeep, EntriesCovered, Counts, next}
use Rattle.vk_types.specs.Entries.{after_host, after_barrier, after_submit, after_fence, start_counts, placed_entries}
use Rattle.vk_types.specs.Listing.{written_ranges}
use Rattle.vk_types.specs.RunListing.{IsNumbered, IsWhole, IsRunListing}
use Rattle.vk_types.specs.Covered.{Covered}
use Rattle.core_model.specs.AppActs.{device_commands}
use Rattle.core_model.specs.RunReads.{ReadsStaging}
use Rattle.core_model.specs.Listed.{ListState, nothing_listed, after_op, after_ops, GoesOn, plain, plain_entries}
use Rattle.core_model.specs.Listed.{is_of_device, after_count, after_counts, contents_after, IsCounted, IsListed}
use Rattle.core_model.proofs.Listing.RunOrder.{Alike, same_order}
use Rattle.core_model.proofs.Listing.RunCovered.{pairs_mapped, run_covered}
use Rattle.core_model.proofs.Listing.Growing.{pairs_to_map, pairs_map, after_append, goes_on, reads_append}
use Rattle.core_model.proofs.Listing.Growing.{device_reads, plain_before, device_plain, entries_append, ranges_append}
use Rattle.core_model.proofs.Listing.Growing.{device_ranges, contents_kept, contents_append, device_contents}
use Rattle.vk_types.specs.declared.command.Command as c
use Rattle.vk_types.specs.declared.op.VkOp.TheVariants as op

-- The listing of a core ---------------------------------------------------------------------------------------------

-- the number of the next submit stands still over operations of the device
device_chunk : (ops : List VkOp) → AllByRecursion (λ o. is_of_device o ≡ true) ops → (s : ListState)
    → (after_ops s ops).chunk ≡ s.chunk
device_chunk [] h s = refl
device_chunk (op.HostWrite r call ∷ ops) h s = let z = h.0 in absurd (cc z)
device_chunk (op.Pipeline shader ∷ ops) h s = let z = h.0 in absurd (cc z)
device_chunk (op.Barrier barrier ∷ ops) h s = device_chunk ops h.1 s
device_chunk (op.Command d ∷ ops) h s = device_chunk ops h.1 (after_op s (op.Command d))
device_chunk (op.Submit k ∷ ops) h s = let z = h.0 in absurd (cc z)
device_chunk (op.Fence k ∷ ops) h s = let z = h.0 in absurd (cc z)
device_chunk (op.HostRead r call ∷ ops) h s = let z = h.0 in absurd (cc z)

-- the end of a batch: its barrier to the host, if it has one, and its submit
abbrev pub batch_end : Option ℕ → ℕ → List VkOp
batch_end o k = host_barrier o ++ op.Submit k ∷ []

end_barriers : (staging : ℕ → Bool) (recent batch : List c.Command) (o : Option ℕ) (k : ℕ)
    → barriers_from staging recent batch (batch_end o k) ≡ batch_end (least_writer staging batch) k
end_barriers staging recent batch None k = refl
end_barriers staging recent batch (Some first) k = refl

pub end_numbers : (o : Option ℕ) (k n : ℕ) → k ≡ n → IsNumbered n (batch_end o k)
end_numbers None k n e = (e, tt)
end_numbers (Some first) k n e = (e, tt)

pub end_whole : (o : Option ℕ) (k : ℕ) (inside : Bool) → IsWhole inside (batch_end o k)
end_whole None k inside = tt
end_whole (Some first) k inside = tt

end_after : (o : Option ℕ) (k : ℕ) (s : ListState) → after_ops s (batch_end o k)
    ≡ record { recent = s.recent; batch = []; chunk = suc s.chunk; inside = false }
end_after None k s = refl
end_after (Some first) k s = refl

end_adds_none : (o : Option ℕ) (k : ℕ) (c : Counts) (contents : List (List ℕ))
    → plain_entries c contents (batch_end o k) ≡ []
end_adds_none None k c contents = refl
end_adds_none (Some first) k c contents = refl

end_contents : (o : Option ℕ) (k : ℕ) (contents : List (List ℕ)) → contents_after contents (batch_end o k) ≡ contents
end_contents None k contents = refl
end_contents (Some first) k contents = refl

end_ranges : (o : Option ℕ) (k : ℕ) → written_ranges (batch_end o k) ≡ []
end_ranges None k = refl
end_ranges (Some first) k = refl

end_reads : (staging : ℕ → Bool) (o : Option ℕ) (k : ℕ) → ReadsStaging staging (batch_end o k)
end_reads staging None k = tt
end_reads staging (Some first) k = tt

-- Counts ------------------------------------------------------------------------------------------------------------

pub counts_append : (c : Counts) (xs ys : List VkOp) → after_counts c (xs ++ ys) ≡ after_counts (after_counts c xs) ys
counts_append c [] ys = refl
counts_append c (x ∷ xs) ys = counts_append (after_count c x) xs ys

-- operations of the device are no fences and no acts of the host
pub device_counts : (ops : List VkOp) → AllByRecursion (λ o. is_of_device o ≡ true) ops → (c : Counts)
    → ((after_counts c ops).fence ≡ c.fence) × ((after_counts c ops).number ≡ c.number)
device_counts [] h c = (refl, refl)
device_counts (op.HostWrite r call ∷ ops) h c = let z = h.0 in absurd (cc z)
device_counts (op.Pipeline shader ∷ ops) h c = let z = h.0 in absurd (cc z)
device_counts (op.Barrier barrier ∷ ops) h c = device_counts ops h.1 (after_barrier c barrier)
device_counts (op.Command d ∷ ops) h c = device_counts ops h.1 (next c)
device_counts (op.Submit k ∷ ops) h c = let z = h.0 in absurd (cc z)
device_counts (op.Fence k ∷ ops) h c = let z = h.0 in absurd (cc z)
device_counts (op.HostRead r call ∷ ops) h c = let z = h.0 in absurd (cc z)

-- barriers before commands are counted alike, whatever else was counted
pub epoch_alike : (ops : List VkOp) (c d : Counts) → c.epoch ≡ d.epoch
    → (after_counts c ops).epoch ≡ (after_counts d ops).epoch
epoch_alike [] c d e = e
epoch_alike (op.HostWrite r call ∷ ops) c d e = epoch_alike ops (after_host c) (after_host d) e
epoch_alike (op.Pipeline shader ∷ ops) c d e = epoch_alike ops (next c) (next d) e
epoch_alike (op.Barrier barrier ∷ ops) c d e = epoch_alike ops (after_barrier c barrier) (after_barrier d barrier)
    (ap (λ n. cond (is_some barrier.second) (suc n) n) e)
epoch_alike (op.Command command ∷ ops) c d e = epoch_alike ops (next c) (next d) e
epoch_alike (op.Submit k ∷ ops) c d e = epoch_alike ops (after_submit c k) (after_submit d k) e
epoch_alike (op.Fence k ∷ ops) c d e = epoch_alike ops (after_fence c k) (after_fence d k) e
epoch_alike (op.HostRead r call ∷ ops) c d e = epoch_alike ops (after_host c) (after_host d) e

end_counts : (o : Option ℕ) (k : ℕ) (c : Counts)
    → ((after_counts c (batch_end o k)).fence ≡ c.fence) × ((after_counts c (batch_end o k)).number ≡ c.number)
    × ((after_counts c (batch_end o k)).epoch ≡ c.epoch)
end_counts None k c = (refl, refl, refl)
end_counts (Some first) k c = (refl, refl, refl)

pub fence_counted : (k : ℕ) (listing ops : List VkOp) (greatest acts barriers : ℕ)
    → IsCounted listing ops greatest acts barriers
    → IsCounted (listing ++ op.Fence k ∷ []) ops (max greatest k) acts barriers
fence_counted k listing ops greatest acts barriers h =
    let c = after_counts start_counts listing in
    let same : after_counts start_counts (listing ++ op.Fence k ∷ []) ≡ after_fence c k =
    counts_append start_counts listing (op.Fence k ∷ []) in
    record {
      fence = ap (λ c. c.fence) same ∙ ap (λ n. max n k) h.fence;
      number = ap (λ c. c.number) same ∙ h.number;
      epoch = ap (λ c. (after_counts c ops).epoch) same ∙ epoch_alike ops (after_fence c k) c refl ∙ h.epoch;
    }

pub pipeline_counted : (call : ℕ) (listing ops : List VkOp) (greatest acts barriers : ℕ)
    → IsCounted listing ops greatest acts barriers
    → IsCounted (listing ++ op.Pipeline call ∷ []) ops greatest acts barriers
pipeline_counted call listing ops greatest acts barriers h =
    let c = after_counts start_counts listing in
    let same : after_counts start_counts (listing ++ op.Pipeline call ∷ []) ≡ next c =
    counts_append start_counts listing (op.Pipeline call ∷ []) in
    record {
      fence = ap (λ c. c.fence) same ∙ h.fence;
      number = ap (λ c. c.number) same ∙ h.number;
      epoch = ap (λ c. (after_counts c ops).epoch) same ∙ epoch_alike ops (next c) c refl ∙ h.epoch;
    }

pub handed_counted : (o : Option ℕ) (k : ℕ) (listing ops : List VkOp) (greatest acts barriers : ℕ)
    → AllByRecursion (λ o. is_of_device o ≡ true) ops → IsCounted listing ops greatest acts barriers
    → IsCounted (listing ++ (ops ++ batch_end o k)) [] greatest acts barriers
handed_counted o k listing ops greatest acts barriers device h =
    let c = after_counts start_counts listing in
    let d = after_counts c ops in
    let same : after_counts start_counts (listing ++ (ops ++ batch_end o k)) ≡ after_counts d (batch_end o k) =
    counts_append start_counts listing (ops ++ batch_end o k) ∙ counts_append c ops (batch_end o k) in
    let e = end_counts o k d in
    let f = device_counts ops device c in
    record {
      fence = ap (λ c. c.fence) same ∙ e.0 ∙ f.0 ∙ h.fence;
      number = ap (λ c. c.number) same ∙ e.1 ∙ f.1 ∙ h.number;
      epoch = ap (λ c. c.epoch) same ∙ e.2 ∙ h.epoch;
    }

module _ (staging : ℕ → Bool) (listing ops : List VkOp) (contents : List (List ℕ)) (recent : List c.Command)
    (commands : List Entry) (number : ℕ) (acts : List Entry)
    (h : IsListed staging listing ops contents recent commands number acts) where
  abbrev behind : ListState
  behind = after_ops nothing_listed listing

  -- a fence of a chunk that was handed over stands behind the listing
  pub fence_listed : (k : ℕ) → k < number → IsListed staging (listing ++ op.Fence k ∷ []) ops contents recent
      commands number acts
  fence_listed k l =
      let same : after_ops nothing_listed (listing ++ op.Fence k ∷ []) ≡ behind =
      after_append nothing_listed listing (op.Fence k ∷ []) in
      let n = h.next in
      record {
        closed = goes_on staging nothing_listed listing (op.Fence k ∷ []) h.closed
            (record {
              barriers = refl;
              numbers = ((let z : k < behind.chunk = omega (arith, l, n) in z), tt);
              whole
                  = tt;
            });
        opened = subst (λ s. GoesOn staging s ops) (sym same) h.opened;
        none_begun = ap (λ s. s.batch) same ∙ h.none_begun;
        ended = ap (λ s. s.inside) same ∙ h.ended;
        next = ap (λ s. s.chunk) same ∙ h.next;
        of_device = h.of_device;
        since = ap (λ s. (after_ops s ops).recent) same ∙ h.since;
        lists = ap (λ s. (after_ops s ops).batch) same ∙ h.lists;
        reads = reads_append staging listing (op.Fence k ∷ []) h.reads tt;
        filled = contents_kept listing (op.Fence k ∷ []) contents refl h.filled;
        used = contents_append contents listing (op.Fence k ∷ []) ∙ h.used;
        entries = entries_append start_counts contents listing (op.Fence k ∷ [])
            ∙ append-nil (plain_entries start_counts contents listing) ∙ h.entries;
        works =
            ap (λ c. plain_entries c [] ops) (counts_append start_counts listing (op.Fence k ∷ []))
            ∙ device_plain ops h.of_device (after_fence (after_counts start_counts listing) k)
            (after_counts start_counts listing) [] [] refl refl ∙ h.works;
      }

  -- a pipeline stands behind the listing
  pub pipeline_listed : (call : ℕ) → IsListed staging (listing ++ op.Pipeline call ∷ []) ops contents recent
      commands number acts
  pipeline_listed call =
      let same : after_ops nothing_listed (listing ++ op.Pipeline call ∷ []) ≡ behind =
      after_append nothing_listed listing (op.Pipeline call ∷ []) in
      record {
        closed = goes_on staging nothing_listed listing (op.Pipeline call ∷ []) h.closed
            (record { barriers = refl; numbers = tt; whole = tt });
        opened = subst (λ s. GoesOn staging s ops) (sym same) h.opened;
        none_begun = ap (λ s. s.batch) same ∙ h.none_begun;
        ended = ap (λ s. s.inside) same ∙ h.ended;
        next = ap (λ s. s.chunk) same ∙ h.next;
        of_device = h.of_device;
        since = ap (λ s. (after_ops s ops).recent) same ∙ h.since;
        lists = ap (λ s. (after_ops s ops).batch) same ∙ h.lists;
        reads = reads_append staging listing (op.Pipeline call ∷ []) h.reads tt;
        filled = contents_kept listing (op.Pipeline call ∷ []) contents refl h.filled;
        used = contents_append contents listing (op.Pipeline call ∷ []) ∙ h.used;
        entries = entries_append start_counts contents listing (op.Pipeline call ∷ [])
            ∙ append-nil (plain_entries start_counts contents listing) ∙ h.entries;
        works =
            ap (λ c. plain_entries c [] ops) (counts_append start_counts listing (op.Pipeline call ∷ []))
            ∙ device_plain ops h.of_device (next (after_counts start_counts listing))
            (after_counts start_counts listing) [] [] refl refl ∙ h.works;
      }

  abbrev end : List VkOp
  end = batch_end (least_writer staging (device_commands commands)) number

  -- the open chunk is handed over
  pub handed_listed : IsListed staging (listing ++ (ops ++ end)) [] contents recent [] (suc number) (acts ++ commands)
  handed_listed =
      let last = after_ops behind ops in
      let same : after_ops nothing_listed (listing ++ (ops ++ end))
      ≡ record { recent = last.recent; batch = []; chunk = suc last.chunk; inside = false } =
      after_append nothing_listed listing (ops ++ end) ∙ after_append behind ops end
      ∙ end_after (least_writer staging (device_commands commands)) number last in
      let next : number ≡ last.chunk = sym (device_chunk ops h.of_device behind ∙ h.next) in
      record {
        closed = goes_on staging nothing_listed listing (ops ++ end) h.closed
            (goes_on staging behind ops end h.opened (record {
              barriers =
                  ap (λ b. batch_end (least_writer staging b) number) (sym h.lists)
                  ∙ sym (end_barriers staging last.recent last.batch (least_writer staging (device_commands commands))
                  number);
              numbers = end_numbers (least_writer staging (device_commands commands)) number last.chunk next;
              whole = end_whole (least_writer staging (device_commands commands)) number last.inside;
            }));
        opened = record { barriers = refl; numbers = tt; whole = tt };
        none_begun = ap (λ s. s.batch) same;
        ended = ap (λ s. s.inside) same;
        next = ap (λ s. s.chunk) same ∙ ap suc (sym next);
        of_device = tt;
        since = ap (λ s. s.recent) same ∙ h.since;
        lists = ap (λ s. s.batch) same;
        reads = reads_append staging listing (ops ++ end) h.reads
            (reads_append staging ops end (device_reads staging ops h.of_device)
            (end_reads staging (least_writer staging (device_commands commands)) number));
        filled = contents_kept listing (ops ++ end) contents
            (ranges_append ops end ∙ ap (λ l. l ++ written_ranges end) (device_ranges ops h.of_device)
            ∙ end_ranges (least_writer staging (device_commands commands)) number) h.filled;
        used =
            contents_append contents listing (ops ++ end) ∙ ap (λ l. contents_after l (ops ++ end)) h.used
            ∙ contents_append [] ops end
            ∙ ap (λ l. contents_after l end) (device_contents ops h.of_device [])
            ∙ end_contents (least_writer staging (device_commands commands)) number [];
        entries =
            let c = after_counts start_counts listing in
            entries_append start_counts contents listing (ops ++ end)
            ∙ ap (λ l. plain_entries start_counts contents listing ++ plain_entries c l (ops ++ end)) h.used
            ∙ ap (λ l. plain_entries start_counts contents listing ++ l)
            (entries_append c [] ops end ∙ ap (λ l. plain_entries c [] ops ++ l)
            (end_adds_none (least_writer staging (device_commands commands)) number (after_counts c ops)
            (contents_after [] ops))
            ∙ append-nil (plain_entries c [] ops))
            ∙ ap (λ l. l ++ plain_entries c [] ops) h.entries ∙ ap (λ l. acts ++ l) h.works;
        works = refl;
      }

  -- with the open chunk's operations behind it, it is a run's listing
  pub is_run : IsRunListing staging (listing ++ ops)
  is_run = let g = goes_on staging nothing_listed listing ops h.closed h.opened in
      record { barriers = g.barriers; numbers = g.numbers; whole = g.whole }

  pub all_reads : ReadsStaging staging (listing ++ ops)
  all_reads = reads_append staging listing ops h.reads (device_reads staging ops h.of_device)

  -- the entries of both
  pub both_entries : plain_entries start_counts contents (listing ++ ops) ≡ acts ++ commands
  both_entries =
      let c = after_counts start_counts listing in
      entries_append start_counts contents listing ops
      ∙ ap (λ l. plain_entries start_counts contents listing ++ plain_entries c l ops) h.used
      ∙ ap (λ l. l ++ plain_entries c [] ops) h.entries ∙ ap (λ l. acts ++ l) h.works

  -- no entry stands after one that it is ordered before
  pub listed_keeps : EntriesKeep (acts ++ commands)
  listed_keeps =
      let es = placed_entries contents (listing ++ ops) in
      subst EntriesKeep both_entries
      (pairs_to_map (λ p. plain p.entry) (λ x y. entry_before y x ≡ false) es
      (pairs_map (Alike (listing ++ ops)) (λ x y. entry_before (plain y.entry) (plain x.entry) ≡ false)
      (λ x y a. plain_before y.entry x.entry ∙ a.1) es
      (same_order staging contents (listing ++ ops) is_run)))

  -- where the counts order each conflicting pair, it is covered
  pub listed_covered : EntriesCovered (acts ++ commands) → Covered (listing ++ ops)
  listed_covered k =
      let es = placed_entries contents (listing ++ ops) in
      let R : Entry → Entry → Type 0 = λ x y. entries_conflict x y ≡ true → entry_before x y ≡ true in
      run_covered staging contents (listing ++ ops) is_run all_reads
      (pairs_to_map (λ p. p.entry) R es
      (pairs_map (λ x y. R (plain x.entry) (plain y.entry)) (λ x y. R x.entry y.entry)
      (λ x y a c. sym (plain_before x.entry y.entry) ∙ a c) es
      (pairs_mapped (λ p. plain p.entry) R es (subst EntriesCovered (sym both_entries) k))))
