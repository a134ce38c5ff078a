-- A block that no command touches may become a staging block: the listing's barriers to the host stay.
use Rattle.std.proofs.Common.{◌≡◌, ℕ, Bool, true, false, cond, ◌&&◌, ◌||◌, ◌==◌, List, [], ◌∷◌, ◌++◌, refl, sym, ap}
use Rattle.std.proofs.Common.{◌∙◌, subst, inl, inr, Some, None}
use Rattle.std.specs.List.{list_any, AllByRecursion}
use Rattle.std.proofs.lemmas.Bool.{both_ways, cases_Bool, eqb-true}
use Rattle.vk_types.specs.declared.touch.Touch.{Touch}
use Rattle.vk_types.specs.declared.op.VkOp.{VkOp}
use Rattle.vk_types.specs.Hazards.{touches, has_write}
use Rattle.vk_types.specs.Effects.{Device, is_host}
use Rattle.vk_types.specs.BarrierCauses.{lesser, writes_block, least_writer, host_barrier, maybe_barrier}
use Rattle.vk_types.specs.BarrierCauses.{barrier_before, recent_after, barriers_from}
use Rattle.vk_types.specs.Entries.{Entry, Counts, next, after_host, after_barrier, after_submit, after_fence, rest_of}
use Rattle.vk_types.specs.Entries.{start_counts}
use Rattle.base_lemmas.proofs.Lists.{all_append}
use Rattle.core_model.specs.Script.{updated}
use Rattle.core_model.specs.Stands.{touches_block}
use Rattle.core_model.specs.RunReads.{ReadsStaging}
use Rattle.core_model.specs.Listed.{nothing_listed, after_ops, plain_entries, after_counts, IsListed}
use Rattle.vk_types.specs.declared.command.Command as c
use Rattle.vk_types.specs.declared.op.VkOp.TheVariants as op

module _ (block : ℕ) (st : Bool) (staging : ℕ → Bool) where
  -- the blocks with one more, or one less
  abbrev changed : ℕ → Bool
  changed = updated block st staging

  -- the command does not touch the block
  abbrev pub Spares : c.Command → Type 0
  Spares d = touches_block (Device d) block ≡ false

  abbrev pub SparesEntry : Entry → Type 0
  SparesEntry x = is_host x.act ≡ false → touches_block x.act block ≡ false

  touch_same : (ts : List Touch) → list_any (λ t. t.range.block == block) ts ≡ false
      → list_any (λ t. has_write t.access && changed t.range.block) ts
      ≡ list_any (λ t. has_write t.access && staging t.range.block) ts
  touch_same [] h = refl
  touch_same (t ∷ ts) h =
      elim (cases_Bool (t.range.block == block)) [
        | inl e ↦ absurd (let z : true ≡ false = sym (ap (λ c. c || list_any (λ t. t.range.block == block) ts) e)
            ∙ h in cc z)
        | inr n ↦
            ap (λ c. (has_write t.access && cond c st (staging t.range.block))
            || list_any (λ t. has_write t.access && changed t.range.block) ts) n
            ∙ ap (λ c. (has_write t.access && staging t.range.block) || c)
            (touch_same ts (sym (ap (λ c. c || list_any (λ t. t.range.block == block) ts) n) ∙ h))
      ]

  least_same : (cs : List c.Command) → AllByRecursion Spares cs → least_writer changed cs ≡ least_writer staging cs
  least_same [] h = refl
  least_same (x ∷ cs) h =
      ap (λ b. lesser (cond b (Some x.number) None) (least_writer changed cs)) (touch_same (touches x) h.0)
      ∙ ap (lesser (cond (writes_block staging x) (Some x.number) None)) (least_same cs h.1)

  -- each command of the operations does not
  abbrev SparedBy : List VkOp → Type 0
  SparedBy [] = Unit {0}
  SparedBy (op.HostWrite r call ∷ ops) = SparedBy ops
  SparedBy (op.Pipeline shader ∷ ops) = SparedBy ops
  SparedBy (op.Barrier barrier ∷ ops) = SparedBy ops
  SparedBy (op.Command d ∷ ops) = Spares d × SparedBy ops
  SparedBy (op.Submit k ∷ ops) = SparedBy ops
  SparedBy (op.Fence k ∷ ops) = SparedBy ops
  SparedBy (op.HostRead r call ∷ ops) = SparedBy ops

  spared : (c : Counts) (contents : List (List ℕ)) (ops : List VkOp)
      → AllByRecursion SparesEntry (plain_entries c contents ops) → SparedBy ops
  spared c contents [] h = tt
  spared c contents (op.HostWrite r call ∷ ops) h = spared (after_host c) (rest_of contents) ops h.1
  spared c contents (op.Pipeline shader ∷ ops) h = spared (next c) contents ops h
  spared c contents (op.Barrier barrier ∷ ops) h = spared (after_barrier c barrier) contents ops h
  spared c contents (op.Command d ∷ ops) h = (h.0 refl, spared (next c) contents ops h.1)
  spared c contents (op.Submit k ∷ ops) h = spared (after_submit c k) contents ops h
  spared c contents (op.Fence k ∷ ops) h = spared (after_fence c k) contents ops h
  spared c contents (op.HostRead r call ∷ ops) h = spared (after_host c) contents ops h.1

  barriers_same : (recent batch : List c.Command) (ops : List VkOp) → AllByRecursion Spares batch → SparedBy ops
      → barriers_from staging recent batch ops ≡ barriers_from changed recent batch ops
  barriers_same recent batch [] h k = refl
  barriers_same recent batch (op.HostWrite r call ∷ ops) h k =
      ap (λ l. op.HostWrite r call ∷ l) (barriers_same recent batch ops h k)
  barriers_same recent batch (op.Pipeline shader ∷ ops) h k =
      ap (λ l. op.Pipeline shader ∷ l) (barriers_same recent batch ops h k)
  barriers_same recent batch (op.Barrier barrier ∷ ops) h k = barriers_same recent batch ops h k
  barriers_same recent batch (op.Command d ∷ ops) h k =
      ap (λ l. maybe_barrier (barrier_before recent d) ++ op.Command d ∷ l)
      (barriers_same (recent_after recent d) (batch ++ d ∷ []) ops
      (all_append Spares batch (d ∷ []) h (k.0, tt)) k.1)
  barriers_same recent batch (op.Submit j ∷ ops) h k =
      ap (λ o. host_barrier o ++ op.Submit j ∷ barriers_from staging recent [] ops) (sym (least_same batch h))
      ∙ ap (λ l. host_barrier (least_writer changed batch) ++ op.Submit j ∷ l) (barriers_same recent [] ops tt k)
  barriers_same recent batch (op.Fence j ∷ ops) h k = ap (λ l. op.Fence j ∷ l) (barriers_same recent batch ops h k)
  barriers_same recent batch (op.HostRead r call ∷ ops) h k =
      ap (λ l. op.HostRead r call ∷ l) (barriers_same recent batch ops h k)

  reads_same : (ops : List VkOp) → staging block ≡ false → ReadsStaging staging ops → ReadsStaging changed ops
  reads_same [] n h = tt
  reads_same (op.HostWrite r call ∷ ops) n h = reads_same ops n h
  reads_same (op.Pipeline shader ∷ ops) n h = reads_same ops n h
  reads_same (op.Barrier barrier ∷ ops) n h = reads_same ops n h
  reads_same (op.Command d ∷ ops) n h = reads_same ops n h
  reads_same (op.Submit k ∷ ops) n h = reads_same ops n h
  reads_same (op.Fence k ∷ ops) n h = reads_same ops n h
  reads_same (op.HostRead r call ∷ ops) n h = (
    elim (cases_Bool (r.block == block)) [
      | inl e ↦ absurd (both_ways (staging block) n (ap staging (sym (eqb-true r.block block e)) ∙ h.0))
      | inr f ↦ ap (λ c. cond c st (staging r.block)) f ∙ h.0
    ],
    reads_same ops n h.1,
  )

  pub restaged : (listing ops : List VkOp) (contents : List (List ℕ)) (recent : List c.Command)
      (commands : List Entry) (number : ℕ) (acts : List Entry) → staging block ≡ false
      → AllByRecursion SparesEntry acts → AllByRecursion SparesEntry commands
      → IsListed staging listing ops contents recent commands number acts
      → IsListed changed listing ops contents recent commands number acts
  restaged listing ops contents recent commands number acts n free free_open h =
      let behind = after_ops nothing_listed listing in
      record {
        closed = record {
          barriers = h.closed.barriers ∙ barriers_same [] [] listing tt
              (spared start_counts contents listing (subst (AllByRecursion SparesEntry) (sym h.entries) free));
          numbers = h.closed.numbers;
          whole = h.closed.whole;
        };
        opened = record {
          barriers = h.opened.barriers
              ∙ barriers_same behind.recent behind.batch ops (subst (AllByRecursion Spares) (sym h.none_begun) tt)
              (spared (after_counts start_counts listing) [] ops
              (subst (AllByRecursion SparesEntry) (sym h.works) free_open));
          numbers = h.opened.numbers;
          whole = h.opened.whole;
        };
        none_begun = h.none_begun;
        ended = h.ended;
        next = h.next;
        of_device = h.of_device;
        since = h.since;
        lists = h.lists;
        reads = reads_same listing n h.reads;
        filled = h.filled;
        used = h.used;
        entries = h.entries;
        works = h.works;
      }
