-- The batches of the listing are those that are made of the chunks.
use Rattle.std.proofs.Common.{◌≡◌, ℕ, zero, suc, ◌+◌, Bool, true, false, cond, max, nat_le, List, [], ◌∷◌, ◌++◌}
use Rattle.std.proofs.Common.{length, refl, sym, ap, ◌∙◌, subst, Option, Some, None, arith, append_assoc, append-nil}
use Rattle.std.proofs.Common.{length-append}
use Rattle.std.specs.List.{AllByRecursion}
use Rattle.dx_types.specs.declared.range.Range.{Range}
use Rattle.vk_types.specs.declared.op.VkOp.{VkOp}
use Rattle.vk_types.specs.declared.op.VkOp.TheVariants as op
use Rattle.vk_types.specs.Effects.{Meaning}
use Rattle.vk_types.specs.BarrierCauses.{least_writer, host_barrier}
use Rattle.base_lemmas.proofs.Lists.{all_append}
use Rattle.core_model.specs.Script.{Play, Create, Discard, No_overwrite, Stage, Command, Destroy, Create_shader}
use Rattle.core_model.specs.Script.{Mark_query, Set_state, Item, Script}
use Rattle.core_model.specs.CoreState.{Segment, Core, later, open_number, taken_count, handed_count}
use Rattle.core_model.specs.Readings.{Reading}
use Rattle.core_model.specs.Adding.{with_turn, with_write, staged_range}
use Rattle.core_model.specs.TakingPosts.{TakesPosts, with_post, with_fence}
use Rattle.core_model.specs.AppActs.{device_commands, handed_over}
use Rattle.core_model.specs.Playing.{Plays}
use Rattle.core_model.specs.CoreStep.{Event, App, Cs, Pipe, Submit, Accept, Run, Complete, Finish, Come_home}
use Rattle.core_model.specs.CoreStep.{is_of_app, Step}
use Rattle.core_model.specs.Listed.{is_of_device}
use Rattle.core_model.specs.Batching.{Made, nothing_made, batch_ops}
use Rattle.core_model.specs.Batches.{is_of_batch, batches_from, batches}
use Rattle.core_model.specs.Lawful.{IsLawful}
use Rattle.core_model.specs.Invariant.{handed}
use Rattle.core_model.proofs.Messages.ItemResults.{applied, write_parts, fence_parts}
use Rattle.core_model.proofs.Steps.Segments.{handed_length}
use Rattle.core_model.proofs.Steps.ReadingBack.{reads_range}
use Rattle.core_model.proofs.Messages.ItemCases.{on_board, retired_at, range_c, bytes_c, given_c, out_of, range_d}
use Rattle.core_model.proofs.Messages.ItemCases.{bytes_d, given_d, result_of}
use Rattle.vk_types.specs.Memory.{range}
use Rattle.core_model.specs.Renaming.{block_of}
use Rattle.core_model.proofs.Messages.Scenes.{Kinds, scene, scene_kinds, other_scene, posts_scene, fence_scene}
use Rattle.core_model.proofs.Messages.Scenes.{handed_scene}
use Rattle.core_model.proofs.Messages.MadeLines.{chunk_made, line_made, Makes, makes_kinds}

-- A listing with operations of no batch behind it -------------------------------------------------------------------

abbrev Aside : List VkOp → List VkOp → Type 0
Aside old new = (more : List VkOp) × (new ≡ old ++ more) × AllByRecursion (λ o. is_of_batch o ≡ false) more

nothing_aside : (ops : List VkOp) → Aside ops ops
nothing_aside ops = ([], sym (append-nil ops), tt)

both_aside : (a b c : List VkOp) → Aside a b → Aside b c → Aside a c
both_aside a b c h k = (
  h.0 ++ k.0,
  k.1 ∙ ap (λ l. l ++ k.0) h.1
      ∙ append_assoc a h.0 k.0,
  all_append (λ o. is_of_batch o ≡ false) h.0 k.0 h.2 k.2,
)

write_aside : (call : ℕ) (r : Range) (l : List ℕ) (core : Core) → Aside core.listing (write_parts call r l core).0
write_aside call r l core = subst (Aside core.listing) (ap (λ c. c.listing) (write_parts call r l core).3) (by l)
  where
    by : (l : List ℕ) → Aside core.listing (let c : Core = with_write call r l core in c.listing)
    by [] = nothing_aside core.listing
    by (b ∷ bs) = (op.HostWrite r call ∷ [], refl, (refl, tt))

fence_aside : (k : ℕ) (core : Core) → Aside core.listing (fence_parts k core).0
fence_aside k core = subst (Aside core.listing) (ap (λ c. c.listing) (fence_parts k core).2)
    (by (nat_le k (taken_count core)))
  where
    by : (b : Bool)
        → Aside core.listing (let c : Core =
        cond b core (record core { listing = core.listing ++ op.Fence k ∷ []; fence = max core.fence k }) in
        c.listing)
    by true = nothing_aside core.listing
    by false = (op.Fence k ∷ [], refl, (refl, tt))

result_aside : (reading : Reading) (script : Script) (call item : ℕ) (play : Play) (bound : List Range)
    (old new : Core) (n : Plays reading script call item play bound old new)
    → Aside old.listing (result_of reading script call item play bound old new n).listing
result_aside reading script call item (Create buffer bytes) bound old new n =
    both_aside old.listing _ _ (fence_aside (retired_at reading script call item buffer n.0 old n.1 n.2)
    (on_board reading script call item buffer n.0 old n.1 n.2))
    (write_aside call (range_c reading script call item buffer n.0 old n.1 n.2 bytes)
    (bytes_c reading script call item buffer n.0 old n.1 n.2 bytes)
    (given_c reading script call item buffer n.0 old n.1 n.2 bytes))
result_aside reading script call item (Discard buffer from bytes) bound old new n =
    both_aside old.listing _ _ (fence_aside (retired_at reading script call item buffer n.0 old n.1 n.2)
    (out_of reading script call item buffer n.0 old n.1 n.2 from bytes
    (on_board reading script call item buffer n.0 old n.1 n.2)))
    (write_aside call (range_d reading script call item buffer n.0 old n.1 n.2 from bytes)
    (bytes_d reading script call item buffer n.0 old n.1 n.2 from bytes)
    (given_d reading script call item buffer n.0 old n.1 n.2 from bytes))
result_aside reading script call item (No_overwrite buffer from bytes) bound old new n =
    write_aside call (range (block_of old.blocks buffer) from (from + length bytes)) bytes old
result_aside reading script call item (Stage [] target skip) bound old new n = nothing_aside old.listing
result_aside reading script call item (Stage (b ∷ bs) None skip) bound old new n =
    (op.HostWrite (staged_range n.0 (length (b ∷ bs))) call ∷ [], refl, (refl, tt))
result_aside reading script call item (Stage (b ∷ bs) (Some target) skip) bound old new n =
    (op.HostWrite (staged_range n.0 (length (b ∷ bs))) call ∷ [], refl, (refl, tt))
result_aside reading script call item (Command w skip) bound old new n = nothing_aside old.listing
result_aside reading script call item (Destroy buffer) bound old new n = nothing_aside old.listing
result_aside reading script call item Create_shader bound old new n = (op.Pipeline call ∷ [], refl, (refl, tt))
result_aside reading script call item (Mark_query query begins) bound old new n = nothing_aside old.listing
result_aside reading script call item Set_state bound old new n = nothing_aside old.listing

-- Batches, one list behind another ----------------------------------------------------------------------------------

-- what stands behind the last submit
abbrev pub begun_after : List VkOp → List VkOp → List VkOp
begun_after begun [] = begun
begun_after begun (op.HostWrite r call ∷ ops) = begun_after begun ops
begun_after begun (op.Pipeline shader ∷ ops) = begun_after begun ops
begun_after begun (op.Barrier barrier ∷ ops) = begun_after (begun ++ op.Barrier barrier ∷ []) ops
begun_after begun (op.Command command ∷ ops) = begun_after (begun ++ op.Command command ∷ []) ops
begun_after begun (op.Submit k ∷ ops) = begun_after [] ops
begun_after begun (op.Fence k ∷ ops) = begun_after begun ops
begun_after begun (op.HostRead r call ∷ ops) = begun_after begun ops

batches_append : (begun xs ys : List VkOp) → batches_from begun (xs ++ ys)
    ≡ batches_from begun xs ++ batches_from (begun_after begun xs) ys
batches_append begun [] ys = refl
batches_append begun (op.HostWrite r call ∷ xs) ys = batches_append begun xs ys
batches_append begun (op.Pipeline shader ∷ xs) ys = batches_append begun xs ys
batches_append begun (op.Barrier barrier ∷ xs) ys = batches_append (begun ++ op.Barrier barrier ∷ []) xs ys
batches_append begun (op.Command command ∷ xs) ys = batches_append (begun ++ op.Command command ∷ []) xs ys
batches_append begun (op.Submit k ∷ xs) ys = ap (λ l. (begun ++ op.Submit k ∷ []) ∷ l) (batches_append [] xs ys)
batches_append begun (op.Fence k ∷ xs) ys = batches_append begun xs ys
batches_append begun (op.HostRead r call ∷ xs) ys = batches_append begun xs ys

begun_append : (begun xs ys : List VkOp) → begun_after begun (xs ++ ys) ≡ begun_after (begun_after begun xs) ys
begun_append begun [] ys = refl
begun_append begun (op.HostWrite r call ∷ xs) ys = begun_append begun xs ys
begun_append begun (op.Pipeline shader ∷ xs) ys = begun_append begun xs ys
begun_append begun (op.Barrier barrier ∷ xs) ys = begun_append (begun ++ op.Barrier barrier ∷ []) xs ys
begun_append begun (op.Command command ∷ xs) ys = begun_append (begun ++ op.Command command ∷ []) xs ys
begun_append begun (op.Submit k ∷ xs) ys = begun_append [] xs ys
begun_append begun (op.Fence k ∷ xs) ys = begun_append begun xs ys
begun_append begun (op.HostRead r call ∷ xs) ys = begun_append begun xs ys

aside_batches : (begun ops : List VkOp) → AllByRecursion (λ o. is_of_batch o ≡ false) ops
    → (batches_from begun ops ≡ []) × (begun_after begun ops ≡ begun)
aside_batches begun [] h = (refl, refl)
aside_batches begun (op.HostWrite r call ∷ ops) h = aside_batches begun ops h.1
aside_batches begun (op.Pipeline shader ∷ ops) h = aside_batches begun ops h.1
aside_batches begun (op.Barrier barrier ∷ ops) h = let z = h.0 in absurd (cc z)
aside_batches begun (op.Command command ∷ ops) h = let z = h.0 in absurd (cc z)
aside_batches begun (op.Submit k ∷ ops) h = let z = h.0 in absurd (cc z)
aside_batches begun (op.Fence k ∷ ops) h = aside_batches begun ops h.1
aside_batches begun (op.HostRead r call ∷ ops) h = aside_batches begun ops h.1

device_begun : (begun ops : List VkOp) → AllByRecursion (λ o. is_of_device o ≡ true) ops
    → (batches_from begun ops ≡ []) × (begun_after begun ops ≡ begun ++ ops)
device_begun begun [] h = (refl, sym (append-nil begun))
device_begun begun (op.HostWrite r call ∷ ops) h = let z = h.0 in absurd (cc z)
device_begun begun (op.Pipeline shader ∷ ops) h = let z = h.0 in absurd (cc z)
device_begun begun (op.Barrier barrier ∷ ops) h = let d = device_begun (begun ++ op.Barrier barrier ∷ []) ops h.1 in
    (d.0, d.1 ∙ append_assoc begun (op.Barrier barrier ∷ []) ops)
device_begun begun (op.Command command ∷ ops) h = let d = device_begun (begun ++ op.Command command ∷ []) ops h.1 in
    (d.0, d.1 ∙ append_assoc begun (op.Command command ∷ []) ops)
device_begun begun (op.Submit k ∷ ops) h = let z = h.0 in absurd (cc z)
device_begun begun (op.Fence k ∷ ops) h = let z = h.0 in absurd (cc z)
device_begun begun (op.HostRead r call ∷ ops) h = let z = h.0 in absurd (cc z)

end_batch : (begun : List VkOp) (o : Option ℕ) (k : ℕ)
    → (batches_from begun (host_barrier o ++ op.Submit k ∷ [])
    ≡ (begun ++ (host_barrier o ++ op.Submit k ∷ [])) ∷ []) ×
    (begun_after begun (host_barrier o ++ op.Submit k ∷ []) ≡ [])
end_batch begun None k = (refl, refl)
end_batch begun (Some first) k = (ap (λ l. l ∷ []) (append_assoc begun (_ ∷ []) (op.Submit k ∷ [])), refl)

-- The batches that are made -----------------------------------------------------------------------------------------

abbrev pub line_batches : Script → ℕ → List Segment → Made → List (List VkOp)
line_batches script k [] m = []
line_batches script k (s ∷ ss) m = batch_ops (chunk_made script s m) k ∷ line_batches script (suc k) ss
    (chunk_made script s m)

line_batches_last : (script : Script) (k : ℕ) (ss : List Segment) (s : Segment) (m : Made) (n : ℕ) → k + length ss ≡ n
    → line_batches script k (ss ++ s ∷ []) m ≡ line_batches script k ss m
    ++ batch_ops (chunk_made script s (line_made script ss m)) n ∷ []
line_batches_last script k [] s m n e = let z : k ≡ n = omega (arith, e) in
    ap (λ n. batch_ops (chunk_made script s m) n ∷ []) z
line_batches_last script k (x ∷ ss) s m n e = ap (λ l. batch_ops (chunk_made script x m) k ∷ l)
    (line_batches_last script (suc k) ss s (chunk_made script x m) n (omega (arith, e)))

pub record ListsBatches (script : Script) (core : Core) : Type 0 where
  pub makes : Makes script (scene core)
  pub listed : batches core.listing ≡ line_batches script 1 (handed core) nothing_made
  pub begun : begun_after [] core.listing ≡ []

module _ (script : Script) where
  -- operations of no batch are listed, and the chunks stay
  aside_lists : (old new : Core) → Aside old.listing new.listing → scene new ≡ scene old → ListsBatches script old
      → ListsBatches script new
  aside_lists old new a e h =
      let b = aside_batches (begun_after [] old.listing) a.0 a.2 in
      record {
        makes = subst (Makes script) (sym e) h.makes;
        listed = ap batches a.1 ∙ batches_append [] old.listing a.0 ∙ ap (λ l. batches old.listing ++ l) b.0
            ∙ append-nil (batches old.listing) ∙ h.listed
            ∙ ap (λ v. line_batches script 1 v.handed nothing_made) (sym e);
        begun = ap (begun_after []) a.1 ∙ begun_append [] old.listing a.0 ∙ b.1 ∙ h.begun;
      }

  same_lists : (old new : Core) → new.listing ≡ old.listing → scene new ≡ scene old → ListsBatches script old
      → ListsBatches script new
  same_lists old new e f h =
      aside_lists old new (subst (λ l. Aside old.listing l) (sym e) (nothing_aside old.listing)) f h

  -- operations of no batch are listed, and the open chunk goes on
  open_lists : (old new : Core) → Aside old.listing new.listing → handed new ≡ handed old → Makes script (scene new)
      → ListsBatches script old → ListsBatches script new
  open_lists old new a e m h =
      let b = aside_batches (begun_after [] old.listing) a.0 a.2 in
      record {
        makes = m;
        listed = ap batches a.1 ∙ batches_append [] old.listing a.0 ∙ ap (λ l. batches old.listing ++ l) b.0
            ∙ append-nil (batches old.listing) ∙ h.listed
            ∙ ap (λ ss. line_batches script 1 ss nothing_made) (sym e);
        begun = ap (begun_after []) a.1 ∙ begun_append [] old.listing a.0 ∙ b.1 ∙ h.begun;
      }

  fence_listed_aside : (n : ℕ) (core : Core) → Aside core.listing (with_fence n core).listing
  fence_listed_aside zero core = nothing_aside core.listing
  fence_listed_aside (suc n) core = (op.Fence (taken_count core) ∷ [], refl, (refl, tt))

  posts_listing : (n : ℕ) (old mid : Core) → TakesPosts n old mid → mid.listing ≡ old.listing
  posts_listing zero old mid h = ap (λ c. c.listing) h
  posts_listing (suc n) old mid h = posts_listing n (with_post h.0 h.1 old) mid h.3

  others_listing : (meaning : Meaning) (reading : Reading) (old : Core) (e : Event) (new : Core)
      → is_of_app e ≡ false → Step meaning reading script old e new → new.listing ≡ old.listing
  others_listing meaning reading old (App posts) new h p = absurd (cc h)
  others_listing meaning reading old Cs new h p = ap (λ c. c.listing) p.4
  others_listing meaning reading old (Pipe j) new h p = ap (λ c. c.listing) p.2
  others_listing meaning reading old Submit new h p = ap (λ c. c.listing) p.5
  others_listing meaning reading old Accept new h p = ap (λ c. c.listing) p.4
  others_listing meaning reading old (Run j) new h p = ap (λ c. c.listing) p.10
  others_listing meaning reading old Complete new h p = ap (λ c. c.listing) p.5
  others_listing meaning reading old Finish new h p = ap (λ c. c.listing) p.4
  others_listing meaning reading old (Come_home block place) new h p = ap (λ c. c.listing) p.6

  -- the open chunk becomes a batch of the listing
  hand_lists : (old : Core) → AllByRecursion (λ o. is_of_device o ≡ true) old.open_chunk.ops
      → length (handed old) ≡ handed_count old → Makes script (scene (handed_over old)) → ListsBatches script old
      → ListsBatches script (handed_over old)
  hand_lists old device long makes h =
      let o = old.open_chunk in
      let writer = least_writer old.is_staging (device_commands o.commands) in
      let end = host_barrier writer ++ op.Submit (open_number old) ∷ [] in
      let d = device_begun [] o.ops device in
      let b = end_batch o.ops writer (open_number old) in
      let m = h.makes.made in
      let batch : batch_ops (chunk_made script o (line_made script (handed old) nothing_made)) (open_number old)
      ≡ o.ops ++ end = ap (λ m. batch_ops m (open_number old)) m in
      let number : 1 + length (handed old) ≡ open_number old = omega (arith, long) in
      record {
        makes = makes;
        listed =
            batches_append [] old.listing (o.ops ++ end) ∙ ap
            (λ l. batches old.listing ++ batches_from l (o.ops ++ end)) h.begun
            ∙ ap (λ l. batches old.listing ++ l) (batches_append [] o.ops end
            ∙ ap (λ l. l ++ batches_from (begun_after [] o.ops) end) d.0 ∙ ap (λ l. batches_from l end) d.1
            ∙ b.0 ∙ ap (λ l. l ∷ []) (sym batch))
            ∙ ap (λ l. l ++ batch_ops (chunk_made script o (line_made script (handed old) nothing_made))
            (open_number old) ∷ []) h.listed
            ∙ sym (line_batches_last script 1 (handed old) o nothing_made (open_number old) number)
            ∙ ap (λ v. line_batches script 1 v.handed nothing_made) (sym (handed_scene old));
        begun = begun_append [] old.listing (o.ops ++ end) ∙ ap (λ l. begun_after l (o.ops ++ end)) h.begun
            ∙ begun_append [] o.ops end ∙ ap (λ l. begun_after l end) d.1 ∙ b.1;
      }

pub handed_long : (core : Core) → length (handed core) ≡ handed_count core
handed_long core = let a = length-append core.taken (later core) in let b = handed_length core in omega (arith, a, b)

pub lists_kinds : (meaning : Meaning) (reading : Reading) (script : Script) → IsLawful meaning script
    → Kinds meaning reading script (ListsBatches script)
lists_kinds meaning reading script lawful =
    let s = makes_kinds meaning reading script lawful in
    let g = scene_kinds meaning reading script (Makes script) s in
    record {
      started = record { makes = s.started; listed = refl; begun = refl };
      others = λ old e new n p k h. same_lists script old new (others_listing script meaning reading old e new n p)
          (other_scene meaning reading script old e new n p) h;
      posts = λ n old mid p k h.
          aside_lists script old (with_fence n mid) (both_aside old.listing mid.listing _
          (subst (Aside old.listing) (sym (posts_listing script n old mid p)) (nothing_aside old.listing))
          (fence_listed_aside script n mid))
          (fence_scene n mid ∙ posts_scene n old mid p) h;
      hands = λ old due k h. hand_lists script old k.good.sound.grows.of_device (handed_long old)
          (g.hands old due k h.makes) h;
      turns = λ old t turns n e k h. record {
        makes = g.turns old t turns n e k h.makes;
        listed = h.listed;
        begun =
            h.begun;
      };
      reads = λ core call r h. open_lists script core (reads_range call r core)
          (op.HostRead r call ∷ [], refl, (refl, tt)) refl (g.reads core call r h.makes) h;
      says = λ core said h. record { makes = h.makes; listed = h.listed; begun = h.begun };
      ends = λ core h. record { makes = h.makes; listed = h.listed; begun = h.begun };
      items = λ old call item ends play bound turns new e due n k h.
          let t = Item call item ends play bound in
          open_lists script old
          (applied (result_of reading script call item play bound (with_turn t turns old) new n)
          (with_turn t turns old)) (result_aside reading script call item play bound (with_turn t turns old) new
          n) refl
          (g.items old call item ends play bound turns new e due n k h.makes) h;
    }
