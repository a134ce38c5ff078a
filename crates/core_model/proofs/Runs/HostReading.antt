-- Each reply with bytes has its host read, and each host read its reply, in every state that steps reach.
use Rattle.std.proofs.Common.{◌≡◌, ℕ, zero, suc, ◌+◌, Bool, true, false, cond, max, nat_le, List, [], ◌∷◌, ◌++◌}
use Rattle.std.proofs.Common.{length, refl, sym, ap, ◌∙◌, subst, Option, Some, None, append_assoc, append-nil}
use Rattle.std.specs.List.{AllByRecursion}
use Rattle.dx_types.specs.declared.range.Range.{Range}
use Rattle.vk_types.specs.declared.op.VkOp.{VkOp}
use Rattle.vk_types.specs.declared.op.VkOp.TheVariants as op
use Rattle.vk_types.specs.Memory.{range}
use Rattle.vk_types.specs.Effects.{Meaning}
use Rattle.vk_types.specs.BarrierCauses.{least_writer, host_barrier}
use Rattle.base_lemmas.proofs.Lists.{all_append, all_map}
use Rattle.core_model.specs.Script.{Play, Create, Discard, No_overwrite, Stage, Command, Destroy, Create_shader}
use Rattle.core_model.specs.Script.{Mark_query, Set_state, Script, padded}
use Rattle.core_model.specs.CoreState.{Core, Said, Bytes_said, Value_said, Still_said, Refused_said, End_said}
use Rattle.core_model.specs.CoreState.{taken_count, open_number}
use Rattle.core_model.specs.Readings.{Reading}
use Rattle.core_model.specs.Listed.{is_of_device}
use Rattle.core_model.specs.Adding.{with_reply, with_write, fenced, staged_command, staged_range, with_page}
use Rattle.core_model.specs.Adding.{gives_block, retired_by, length_of}
use Rattle.core_model.specs.Owners.{retired}
use Rattle.core_model.specs.Renaming.{block_of}
use Rattle.vk_types.specs.declared.command.Cond.{Cond}
use Rattle.core_model.specs.TakingPosts.{TakesPosts, with_post, with_fence}
use Rattle.core_model.specs.AppActs.{handed_over, device_commands}
use Rattle.core_model.specs.Playing.{HasBlock, Own, Of_class, Plays}
use Rattle.core_model.specs.CoreStep.{Event, App, Cs, Pipe, Submit, Accept, Run, Complete, Finish, Come_home}
use Rattle.core_model.specs.CoreStep.{is_of_app, Step}

-- What steps add to a listing, without a host read and without an answer in bytes -----------------------------------

abbrev pub is_read : VkOp → Bool
is_read (op.HostWrite r call) = false
is_read (op.Pipeline shader) = false
is_read (op.Barrier barrier) = false
is_read (op.Command command) = false
is_read (op.Submit k) = false
is_read (op.Fence k) = false
is_read (op.HostRead r call) = true

abbrev pub is_answer : Said → Bool
is_answer (Bytes_said call bytes) = true
is_answer (Value_said call value) = false
is_answer (Still_said call used finished) = false
is_answer (Refused_said call) = false
is_answer End_said = false

pub record Grown (old new : Core) : Type 0 where
  pub more : List VkOp
  pub listing : new.listing ≡ old.listing ++ more
  pub unread : AllByRecursion (λ o. is_read o ≡ false) more
  pub written : List (List ℕ)
  pub contents : new.contents ≡ old.contents ++ written
  pub said : List Said
  pub replies : new.replies ≡ old.replies ++ said
  pub mute : AllByRecursion (λ s. is_answer s ≡ false) said

pub still : (old new : Core) → new.listing ≡ old.listing → new.contents ≡ old.contents → new.replies ≡ old.replies
    → Grown old new
still old new e f g = record {
  more = [];
  listing = e ∙ sym (append-nil old.listing);
  unread = tt;
  written = [];
  contents = f ∙ sym (append-nil old.contents);
  said = [];
  replies = g ∙ sym (append-nil old.replies);
  mute = tt;
}

-- the listing grows alone
lists_more : (old new : Core) (ops : List VkOp) → new.listing ≡ old.listing ++ ops
    → AllByRecursion (λ o. is_read o ≡ false) ops → new.contents ≡ old.contents → new.replies ≡ old.replies
    → Grown old new
lists_more old new ops e h f g = record {
  more = ops;
  listing = e;
  unread = h;
  written = [];
  contents = f ∙ sym (append-nil old.contents);
  said = [];
  replies = g ∙ sym (append-nil old.replies);
  mute = tt;
}

pub says_more : (old : Core) (said : Said) → is_answer said ≡ false → Grown old (with_reply said old)
says_more old said h = record {
  more = [];
  listing = sym (append-nil old.listing);
  unread = tt;
  written = [];
  contents = sym (append-nil old.contents);
  said = said ∷ [];
  replies = refl;
  mute = (h, tt);
}

pub and_then : (old mid new : Core) → Grown old mid → Grown mid new → Grown old new
and_then old mid new a b = record {
  more = a.more ++ b.more;
  listing = b.listing ∙ ap (λ l. l ++ b.more) a.listing ∙ append_assoc old.listing a.more b.more;
  unread = all_append (λ o. is_read o ≡ false) a.more b.more a.unread b.unread;
  written = a.written ++ b.written;
  contents = b.contents ∙ ap (λ l. l ++ b.written) a.contents ∙ append_assoc old.contents a.written b.written;
  said = a.said ++ b.said;
  replies = b.replies ∙ ap (λ l. l ++ b.said) a.replies ∙ append_assoc old.replies a.said b.said;
  mute = all_append (λ s. is_answer s ≡ false) a.said b.said a.mute b.mute;
}

-- Steps without an answer in bytes ----------------------------------------------------------------------------------

pub posts_grown : (n : ℕ) (old mid : Core) → TakesPosts n old mid → Grown old mid
posts_grown zero old mid h = subst (Grown old) (sym h) (still old old refl refl refl)
posts_grown (suc n) old mid h = and_then old (with_post h.0 h.1 old) mid
    (still old (with_post h.0 h.1 old) refl refl refl) (posts_grown n (with_post h.0 h.1 old) mid h.3)

pub fence_grown : (n : ℕ) (core : Core) → Grown core (with_fence n core)
fence_grown zero core = still core core refl refl refl
fence_grown (suc n) core = lists_more core (with_fence (suc n) core) _ refl (refl, tt) refl refl

fenced_grown : (k : ℕ) (core : Core) → Grown core (fenced k core)
fenced_grown k core = by (nat_le k (taken_count core))
  where
    by : (b : Bool)
        → Grown core (cond b core (record core {
          listing = core.listing ++ op.Fence k ∷ [];
          fence =
              max core.fence k;
        }))
    by true = still core core refl refl refl
    by false = lists_more core _ (op.Fence k ∷ []) refl (refl, tt) refl refl

pub write_grown : (call : ℕ) (r : Range) (bytes : List ℕ) (core : Core) → Grown core (with_write call r bytes core)
write_grown call r [] core = still core core refl refl refl
write_grown call r (b ∷ bs) core = record {
  more = op.HostWrite r call ∷ [];
  listing = refl;
  unread = (refl, tt);
  written = (b ∷ bs) ∷ [];
  contents = refl;
  said = [];
  replies = sym (append-nil core.replies);
  mute = tt;
}

block_grown : (reading : Reading) (script : Script) (buffer block : ℕ) (old mid : Core)
    → HasBlock reading script buffer block old mid → Grown old mid
block_grown reading script buffer block old mid (Own _ _ _ _ e) = still old _ refl refl refl
block_grown reading script buffer block old mid (Of_class _ _ _ class _ _ board e t) = still old _ refl refl refl

command_grown : (call : ℕ) (source : Range) (target : Option Range) (skip : Option Cond) (core : Core)
    → Grown core (staged_command call source target skip core)
command_grown call source None skip core = still core core refl refl refl
command_grown call source (Some target) skip core = still core _ refl refl refl

pub play_grown : (reading : Reading) (script : Script) (call item : ℕ) (play : Play) (bound : List Range)
    (old new : Core) → Plays reading script call item play bound old new → Grown old new
play_grown reading script call item (Create buffer bytes) bound old new n =
    let mid = n.1 in
    let fence = fenced (retired_by (old.owner n.0)) mid in
    let given = gives_block buffer n.0 fence in
    let written = with_write call (range n.0 0 (length_of script buffer)) (padded 0 bytes (length_of script buffer))
    given in
    subst (Grown old) (sym n.3)
    (and_then old mid _ (block_grown reading script buffer n.0 old mid n.2)
    (and_then mid fence _ (fenced_grown (retired_by (old.owner n.0)) mid)
    (and_then fence given _ (still fence given refl refl refl)
    (and_then given written _ (write_grown call (range n.0 0 (length_of script buffer))
    (padded 0 bytes (length_of script buffer)) given) (still written _ refl refl refl)))))
play_grown reading script call item (Discard buffer from bytes) bound old new n =
    let mid = n.1 in
    let out : Core = record mid { owner = retired (old.blocks buffer) (open_number old) mid.owner } in
    let fence = fenced (retired_by (old.owner n.0)) out in
    let given = gives_block buffer n.0 fence in
    let written = with_write call (range n.0 0 (script.size buffer)) (padded from bytes (script.size buffer)) given in
    subst (Grown old) (sym n.3)
    (and_then old mid _ (block_grown reading script buffer n.0 old mid n.2)
    (and_then mid out _ (still mid out refl refl refl)
    (and_then out fence _ (fenced_grown (retired_by (old.owner n.0)) out)
    (and_then fence given _ (still fence given refl refl refl)
    (and_then given written _ (write_grown call (range n.0 0 (script.size buffer))
    (padded from bytes (script.size buffer)) given) (still written _ refl refl refl))))))
play_grown reading script call item (No_overwrite buffer from bytes) bound old new n =
    let r = range (block_of old.blocks buffer) from (from + length bytes) in
    subst (Grown old) (sym n) (and_then old (with_write call r bytes old) _ (write_grown call r bytes old)
    (still (with_write call r bytes old) _ refl refl refl))
play_grown reading script call item (Stage [] target skip) bound old new n =
    subst (Grown old) (sym n) (still old _ refl refl refl)
play_grown reading script call item (Stage (b ∷ bs) target skip) bound old new n =
    let r = staged_range n.0 (length (b ∷ bs)) in
    let paged = with_page n.0 n.1 old in
    let written = with_write call r (b ∷ bs) paged in
    let done = staged_command call r target skip written in
    subst (Grown old) (sym n.3)
    (and_then old paged _ (still old paged refl refl refl)
    (and_then paged written _ (write_grown call r (b ∷ bs) paged)
    (and_then written done _ (command_grown call r target skip written) (still done _ refl refl refl))))
play_grown reading script call item (Command w skip) bound old new n =
    subst (Grown old) (sym n) (still old _ refl refl refl)
play_grown reading script call item (Destroy buffer) bound old new n =
    subst (Grown old) (sym n) (still old _ refl refl refl)
play_grown reading script call item Create_shader bound old new n =
    subst (Grown old) (sym n) (lists_more old _ (op.Pipeline call ∷ []) refl (refl, tt) refl refl)
play_grown reading script call item (Mark_query query begins) bound old new n =
    subst (Grown old) (sym n) (still old _ refl refl refl)
play_grown reading script call item Set_state bound old new n = subst (Grown old) (sym n) (still old _ refl refl refl)

pub of_device_unread : (o : VkOp) → is_of_device o ≡ true → is_read o ≡ false
of_device_unread (op.HostWrite r call) h = refl
of_device_unread (op.Pipeline shader) h = refl
of_device_unread (op.Barrier barrier) h = refl
of_device_unread (op.Command command) h = refl
of_device_unread (op.Submit k) h = refl
of_device_unread (op.Fence k) h = refl
of_device_unread (op.HostRead r call) h = absurd (cc h)

end_unread : (o : Option ℕ) (k : ℕ) → AllByRecursion (λ o. is_read o ≡ false) (host_barrier o ++ op.Submit k ∷ [])
end_unread None k = (refl, tt)
end_unread (Some first) k = (refl, (refl, tt))

pub handed_grown : (old : Core) → AllByRecursion (λ o. is_of_device o ≡ true) old.open_chunk.ops
    → Grown old (handed_over old)
handed_grown old h =
    let end = host_barrier (least_writer old.is_staging (device_commands old.open_chunk.commands))
    ++ op.Submit (open_number old) ∷ [] in
    lists_more old (handed_over old) (old.open_chunk.ops ++ end) refl
    (all_append (λ o. is_read o ≡ false) old.open_chunk.ops end
    (all_map (λ o. is_of_device o ≡ true) (λ o. is_read o ≡ false) of_device_unread old.open_chunk.ops h)
    (end_unread (least_writer old.is_staging (device_commands old.open_chunk.commands)) (open_number old))) refl refl

-- steps of the other parts leave all three alone
pub other_grown : (meaning : Meaning) (reading : Reading) (script : Script) (old : Core) (e : Event) (new : Core)
    → is_of_app e ≡ false → Step meaning reading script old e new → Grown old new
other_grown meaning reading script old (App posts) new h p = absurd (cc h)
other_grown meaning reading script old Cs new h p = subst (Grown old) (sym p.4) (still old _ refl refl refl)
other_grown meaning reading script old (Pipe j) new h p = subst (Grown old) (sym p.2) (still old _ refl refl refl)
other_grown meaning reading script old Submit new h p = subst (Grown old) (sym p.5) (still old _ refl refl refl)
other_grown meaning reading script old Accept new h p = subst (Grown old) (sym p.4) (still old _ refl refl refl)
other_grown meaning reading script old (Run j) new h p = subst (Grown old) (sym p.10) (still old _ refl refl refl)
other_grown meaning reading script old Complete new h p = subst (Grown old) (sym p.5) (still old _ refl refl refl)
other_grown meaning reading script old Finish new h p = subst (Grown old) (sym p.4) (still old _ refl refl refl)
other_grown meaning reading script old (Come_home block place) new h p =
    subst (Grown old) (sym p.6) (still old _ refl refl refl)
