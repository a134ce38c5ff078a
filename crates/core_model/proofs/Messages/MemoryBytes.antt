-- The device's memory has bytes, in every state that steps reach, where what the host writes of the script's items are
-- bytes.
use Rattle.std.proofs.Common.{◌≡◌, ℕ, zero, suc, ◌++◌, false, List, [], ◌∷◌, refl, sym, ap, ◌∙◌, subst, Some, None}
use Rattle.std.proofs.Common.{arith}
use Rattle.std.specs.List.{AllByRecursion}
use Rattle.dx_types.specs.declared.range.Range.{Range}
use Rattle.vk_types.specs.Memory.{Memory}
use Rattle.vk_types.specs.Effects.{Meaning, Act, Host_write, Device, Host_read, act_effect, is_host}
use Rattle.vk_types.specs.Entries.{Entry, run_entries}
use Rattle.base_lemmas.specs.Lists.{Sublist}
use Rattle.base_lemmas.proofs.Lists.{all_append, all_sublist}
use Rattle.core_model.specs.Script.{Play, Create, Discard, No_overwrite, Stage, Command, Destroy, Create_shader}
use Rattle.core_model.specs.Script.{Mark_query, Set_state, Item, Script}
use Rattle.core_model.specs.CoreState.{Segment, Core, on_device}
use Rattle.core_model.specs.Readings.{Reading}
use Rattle.core_model.specs.HostBytes.{IsOfBytes, AreBytes, HasBytes, if_some, play_bytes}
use Rattle.core_model.specs.Adding.{with_turn, with_page}
use Rattle.core_model.specs.Playing.{Plays}
use Rattle.core_model.specs.TakingPosts.{TakesPosts, with_post, with_fence}
use Rattle.core_model.specs.CoreStep.{Event, App, Cs, Pipe, Submit, Accept, Run, Complete, Finish, Come_home}
use Rattle.core_model.specs.CoreStep.{is_of_app, Step}
use Rattle.core_model.specs.Kept.{Kept}
use Rattle.core_model.proofs.Messages.ItemResults.{more_writes}
use Rattle.core_model.proofs.Messages.ItemCases.{result_of}
use Rattle.core_model.proofs.Messages.Scenes.{Scene, Kinds, scene, other_scene, posts_scene, fence_scene}
use Rattle.core_model.proofs.Messages.Scenes.{handed_scene}
use Rattle.core_model.proofs.Messages.DeviceHas.{handed_parts, in_middle, accepted_shaped}
use Rattle.core_model.proofs.Messages.ByteEffects.{written_small, effect_small}

-- what the act writes for the host are bytes
abbrev WritesBytes : Act → Type 0
WritesBytes (Host_write target bytes) = AreBytes bytes
WritesBytes (Device d) = Unit {0}
WritesBytes (Host_read source) = Unit {0}

abbrev SegmentHasBytes : Segment → Type 0
SegmentHasBytes s = AllByRecursion (λ x. WritesBytes x.act) s.writes

-- what is known of the chunks
abbrev OfScene : Scene → Type 0
OfScene v = AllByRecursion SegmentHasBytes v.handed × SegmentHasBytes v.open_chunk

pub record MemoryHasBytes (core : Core) : Type 0 where
  pub memory : IsOfBytes core.memory
  pub chunks : OfScene (scene core)

act_small : (meaning : Meaning) (a : Act) (memory : Memory) → WritesBytes a → IsOfBytes memory
    → IsOfBytes (act_effect meaning a memory)
act_small meaning (Host_write target bytes) memory w h = written_small target bytes memory w h
act_small meaning (Device d) memory w h = effect_small meaning d memory h
act_small meaning (Host_read source) memory w h = h

entries_small : (meaning : Meaning) (xs : List Entry) (memory : Memory) → AllByRecursion (λ x. WritesBytes x.act) xs
    → IsOfBytes memory → IsOfBytes (run_entries meaning xs memory)
entries_small meaning [] memory w h = h
entries_small meaning (x ∷ xs) memory w h =
    entries_small meaning xs (act_effect meaning x.act memory) w.1 (act_small meaning x.act memory w.0 h)

device_writes : (a : Act) → is_host a ≡ false → WritesBytes a
device_writes (Host_write target bytes) e = absurd (cc e)
device_writes (Device d) e = tt
device_writes (Host_read source) e = tt

-- The other parts ---------------------------------------------------------------------------------------------------

moved : (old new : Core) → scene new ≡ scene old → IsOfBytes new.memory → MemoryHasBytes old → MemoryHasBytes new
moved old new e m h = record { memory = m; chunks = subst OfScene (sym e) h.chunks }

same : (old new : Core) → new.memory ≡ old.memory → MemoryHasBytes old → IsOfBytes new.memory
same old new e h = subst IsOfBytes (sym e) h.memory

other_memory : (meaning : Meaning) (reading : Reading) (script : Script) (old : Core) (e : Event) (new : Core)
    → is_of_app e ≡ false → Step meaning reading script old e new → Kept meaning reading script old
    → MemoryHasBytes old → IsOfBytes new.memory
other_memory meaning reading script old (App posts) new e p k h = absurd (cc e)
other_memory meaning reading script old Cs new e p k h = same old new (ap (λ c. c.memory) p.4) h
other_memory meaning reading script old (Pipe j) new e p k h = same old new (ap (λ c. c.memory) p.2) h
other_memory meaning reading script old Submit new e p k h = same old new (ap (λ c. c.memory) p.5) h
other_memory meaning reading script old Accept new e p k h =
    let rest = old.batches ++ old.chunks in
    let line : AllByRecursion SegmentHasBytes (on_device old ++ p.0 ∷ (p.1 ++ rest)) =
    subst (AllByRecursion SegmentHasBytes) (handed_parts old ∙ ap (λ l. on_device old ++ (l ++ rest)) p.2)
    h.chunks.0 in
    subst IsOfBytes (sym (ap (λ c. c.memory) p.4))
    (entries_small meaning p.0.writes old.memory (in_middle SegmentHasBytes (on_device old) p.0 (p.1 ++ rest) line)
    h.memory)
other_memory meaning reading script old (Run j) new e p k h =
    let shaped = accepted_shaped old k.good.sound.shaped p.0 p.1 p.2 p.3 in
    let within = in_middle (λ r. Sublist r.rest r.segment.commands) p.0 p.1 p.2
    (subst (AllByRecursion (λ r. Sublist r.rest r.segment.commands)) p.3 k.good.sound.within) in
    let left : AllByRecursion (λ x. is_host x.act ≡ false) (p.4 ++ p.5 ∷ p.6) =
    subst (AllByRecursion (λ x. is_host x.act ≡ false)) p.7
    (all_sublist (λ x. is_host x.act ≡ false) within shaped.2) in
    subst IsOfBytes (sym (ap (λ c. c.memory) p.10))
    (act_small meaning p.5.act old.memory
    (device_writes p.5.act (in_middle (λ x. is_host x.act ≡ false) p.4 p.5 p.6 left)) h.memory)
other_memory meaning reading script old Complete new e p k h = same old new (ap (λ c. c.memory) p.5) h
other_memory meaning reading script old Finish new e p k h = same old new (ap (λ c. c.memory) p.4) h
other_memory meaning reading script old (Come_home block place) new e p k h =
    same old new (ap (λ c. c.memory) p.6) h

posts_memory : (n : ℕ) (old mid : Core) → TakesPosts n old mid → mid.memory ≡ old.memory
posts_memory zero old mid h = ap (λ c. c.memory) h
posts_memory (suc n) old mid h = posts_memory n (with_post h.0 h.1 old) mid h.3

fence_memory : (n : ℕ) (core : Core) → (with_fence n core).memory ≡ core.memory
fence_memory zero core = refl
fence_memory (suc n) core = refl

-- Items -------------------------------------------------------------------------------------------------------------

more_bytes : (r : Range) (l : List ℕ) (core : Core) (xs : List Entry) → AllByRecursion AreBytes (if_some l)
    → AllByRecursion (λ x. WritesBytes x.act) xs → AllByRecursion (λ x. WritesBytes x.act) (more_writes r l core xs)
more_bytes r [] core xs b h = h
more_bytes r (x ∷ l) core xs b h = all_append (λ x. WritesBytes x.act) xs _ h (b.0, tt)

item_bytes : (reading : Reading) (script : Script) (call item : ℕ) (play : Play) (bound : List Range)
    (old new : Core) (n : Plays reading script call item play bound old new)
    → AllByRecursion AreBytes (play_bytes script play) → SegmentHasBytes old.open_chunk
    → AllByRecursion (λ x. WritesBytes x.act) (result_of reading script call item play bound old new n).writes
item_bytes reading script call item (Create buffer bytes) bound old new n b h = more_bytes _ _ _ _ b h
item_bytes reading script call item (Discard buffer from bytes) bound old new n b h = more_bytes _ _ _ _ b h
item_bytes reading script call item (No_overwrite buffer from bytes) bound old new n b h = more_bytes _ bytes _ _ b h
item_bytes reading script call item (Stage [] target skip) bound old new n b h = h
item_bytes reading script call item (Stage (x ∷ bs) None skip) bound old new n b h =
    more_bytes _ (x ∷ bs) (with_page n.0 n.1 old) _ b h
item_bytes reading script call item (Stage (x ∷ bs) (Some target) skip) bound old new n b h =
    more_bytes _ (x ∷ bs) (with_page n.0 n.1 old) _ b h
item_bytes reading script call item (Command w skip) bound old new n b h = h
item_bytes reading script call item (Destroy buffer) bound old new n b h = h
item_bytes reading script call item Create_shader bound old new n b h = h
item_bytes reading script call item (Mark_query query begins) bound old new n b h = h
item_bytes reading script call item Set_state bound old new n b h = h

pub memory_kinds : (meaning : Meaning) (reading : Reading) (script : Script) → HasBytes script
    → Kinds meaning reading script MemoryHasBytes
memory_kinds meaning reading script has = record {
  started = record { memory = λ block at. omega arith; chunks = (tt, tt) };
  others = λ old e new n p k h. moved old new (other_scene meaning reading script old e new n p)
      (other_memory meaning reading script old e new n p k h) h;
  posts = λ n old mid p k h. moved old (with_fence n mid) (fence_scene n mid ∙ posts_scene n old mid p)
      (subst IsOfBytes (sym (fence_memory n mid ∙ posts_memory n old mid p)) h.memory) h;
  hands = λ old due k h. record {
    memory = h.memory;
    chunks = subst OfScene (sym (handed_scene old)) (
      all_append SegmentHasBytes (scene old).handed (old.open_chunk ∷ []) h.chunks.0 (h.chunks.1, tt),
      tt,
    );
  };
  turns = λ old t turns n e k h. record { memory = h.memory; chunks = h.chunks };
  reads = λ core call r h. record { memory = h.memory; chunks = h.chunks };
  says = λ core said h. record { memory = h.memory; chunks = h.chunks };
  ends = λ core h. record { memory = h.memory; chunks = h.chunks };
  items = λ old call item ends play bound turns new e due n k h.
      let t = Item call item ends play bound in
      record {
        memory = h.memory;
        chunks = (
          h.chunks.0,
          item_bytes reading script call item play bound (with_turn t turns old) new n
              (has old.past t turns (sym k.good.sound.position ∙ ap (λ l. old.past ++ l) e)) h.chunks.1,
        );
      };
}
