-- What each step says: of the turn that it takes, at most one line, and at the end that it is the end.
use Rattle.std.proofs.Common.{◌≡◌, ℕ, zero, suc, ◌+◌, length, Bool, true, false, cond, max, nat_le, List, [], ◌∷◌}
use Rattle.std.proofs.Common.{◌++◌, refl, sym, ap, ◌∙◌, subst, inl, inr, Option, Some, None, append-nil, append_assoc}
use Rattle.std.specs.List.{AllByRecursion, flat_map}
use Rattle.std.proofs.lemmas.Grind.{flat_map-append}
use Rattle.dx_types.specs.declared.range.Range.{Range}
use Rattle.vk_types.specs.declared.command.Cond.{Cond}
use Rattle.vk_types.specs.declared.op.VkOp.TheVariants as op
use Rattle.vk_types.specs.Effects.{Meaning}
use Rattle.vk_types.specs.Memory.{range}
use Rattle.base_lemmas.proofs.Lists.{all_append}
use Rattle.core_model.specs.Script.{Play, Create, Discard, No_overwrite, Stage, Command, Destroy, Create_shader}
use Rattle.core_model.specs.Script.{Mark_query, Set_state, Ask, Bytes, Count, Constant, Turn, Refused, Passed}
use Rattle.core_model.specs.Script.{Flushed, Asked, Item, Script, padded}
use Rattle.core_model.specs.Renaming.{block_of, range_on}
use Rattle.core_model.specs.CoreState.{Core, start, Said, Bytes_said, Value_said, Still_said, Refused_said, End_said}
use Rattle.core_model.specs.CoreState.{taken_count, open_number, done}
use Rattle.core_model.specs.Owners.{retired}
use Rattle.core_model.specs.Readings.{Reading}
use Rattle.core_model.specs.TakingPosts.{with_post, TakesPosts, with_fence}
use Rattle.core_model.specs.Adding.{with_turn, with_reply, with_write, fenced, gives_block, with_page, staged_range}
use Rattle.core_model.specs.Adding.{staged_command, length_of, retired_by}
use Rattle.core_model.specs.Playing.{HasBlock, Own, Of_class, Plays}
use Rattle.core_model.specs.AppActs.{used_or_zero, copied_bytes, with_read, answer, TakesTurn, Acts}
use Rattle.core_model.specs.CoreStep.{Event, App, Cs, Pipe, Submit, Accept, Run, Complete, Finish, Come_home, Step}
use Rattle.core_model.specs.CoreStep.{Chain}
use Rattle.log_script.specs.Said.{said_call, answering}

-- ---- what holds of a state

abbrev pub NotEnd : Said → Type 0
NotEnd said = said ≡ End_said → ⊥

-- at the end, and then alone, it was said that it is the end
abbrev pub Ends : Bool → List Turn → List Said → Type 0
Ends false future replies = AllByRecursion NotEnd replies
Ends true future replies = (future ≡ []) × ((front : List Said) × (replies ≡ front ++ End_said ∷ [])
    × AllByRecursion NotEnd front)

pub record Told (script : Script) (past future : List Turn) (ended : Bool) (replies : List Said) : Type 0 where
  pub position : past ++ future ≡ script.turns
  pub said : flat_map said_call replies ≡ answering past
  pub end : Ends ended future replies

abbrev pub TellsAll : Script → Core → Type 0
TellsAll script core = Told script core.past core.future core.ended core.replies

-- ---- what says nothing

-- the turns, the replies, and whether the end came are as before
pub record Quiet (old new : Core) : Type 0 where
  pub past : new.past ≡ old.past
  pub future : new.future ≡ old.future
  pub ended : new.ended ≡ old.ended
  pub replies : new.replies ≡ old.replies

pub quiet_tells : (script : Script) (old new : Core) → Quiet old new → TellsAll script old → TellsAll script new
quiet_tells script old new q h =
    subst (λ l. Told script l new.future new.ended new.replies) (sym q.past)
    (subst (λ l. Told script old.past l new.ended new.replies) (sym q.future)
    (subst (λ b. Told script old.past old.future b new.replies) (sym q.ended)
    (subst (λ l. Told script old.past old.future old.ended l) (sym q.replies) h)))

self_quiet : (core : Core) → Quiet core core
self_quiet core = record { past = refl; future = refl; ended = refl; replies = refl }

then_quiet : {a b c : Core} → Quiet a b → Quiet b c → Quiet a c
then_quiet x y = record {
  past = y.past ∙ x.past;
  future = y.future ∙ x.future;
  ended = y.ended
      ∙ x.ended;
  replies = y.replies ∙ x.replies;
}

-- by what a state is
quiet_by : (old new mid : Core) → new ≡ mid → Quiet old mid → Quiet old new
quiet_by old new mid is q = subst (Quiet old) (sym is) q

-- parts that say nothing
write_quiet : (call : ℕ) (r : Range) (bytes : List ℕ) (core : Core) → Quiet core (with_write call r bytes core)
write_quiet call r [] core = self_quiet core
write_quiet call r (x ∷ xs) core = record { past = refl; future = refl; ended = refl; replies = refl }

fenced_quiet : (k : ℕ) (core : Core) → Quiet core (fenced k core)
fenced_quiet k core = by (nat_le k (taken_count core))
  where
    by : (c : Bool)
        → Quiet core (cond c core (record core {
          listing = core.listing ++ op.Fence k ∷ [];
          fence =
              max core.fence k;
        }))
    by true = self_quiet core
    by false = record { past = refl; future = refl; ended = refl; replies = refl }

read_quiet : (call : ℕ) (r : Range) (used : Option ℕ) (core : Core) → Quiet core (with_read call r used core)
read_quiet call r None core = self_quiet core
read_quiet call r (Some n) core = record { past = refl; future = refl; ended = refl; replies = refl }

block_quiet : (reading : Reading) (script : Script) (buffer block : ℕ) (old mid : Core)
    → HasBlock reading script buffer block old mid → Quiet old mid
block_quiet reading script buffer block old mid (Own _ _ _ _ none) =
    record { past = refl; future = refl; ended = refl; replies = refl }
block_quiet reading script buffer block old mid (Of_class _ _ _ class _ _ board is taken) =
    record { past = refl; future = refl; ended = refl; replies = refl }

command_quiet : (call : ℕ) (source : Range) (target : Option Range) (skip : Option Cond) (core : Core)
    → Quiet core (staged_command call source target skip core)
command_quiet call source None skip core = self_quiet core
command_quiet call source (Some r) skip core = record { past = refl; future = refl; ended = refl; replies = refl }

-- an item says nothing
play_quiet : (reading : Reading) (script : Script) (call item : ℕ) (play : Play) (bound : List Range)
    (old new : Core) → Plays reading script call item play bound old new → Quiet old new
play_quiet reading script call item (Create buffer bytes) bound old new p =
    let b = block_quiet reading script buffer p.0 old p.1 p.2 in
    let f = fenced_quiet (retired_by (old.owner p.0)) p.1 in
    let w = write_quiet call (range p.0 0 (length_of script buffer)) (padded 0 bytes (length_of script buffer))
    (gives_block buffer p.0 (fenced (retired_by (old.owner p.0)) p.1)) in
    quiet_by old new _ p.3 (record {
      past = w.past ∙ f.past ∙ b.past;
      future = w.future ∙ f.future
          ∙ b.future;
      ended = w.ended ∙ f.ended ∙ b.ended;
      replies = w.replies ∙ f.replies ∙ b.replies;
    })
play_quiet reading script call item (Discard buffer from bytes) bound old new p =
    let apart : Core = record p.1 { owner = retired (old.blocks buffer) (open_number old) p.1.owner } in
    let b = block_quiet reading script buffer p.0 old p.1 p.2 in
    let f = fenced_quiet (retired_by (old.owner p.0)) apart in
    let w = write_quiet call (range p.0 0 (script.size buffer)) (padded from bytes (script.size buffer))
    (gives_block buffer p.0 (fenced (retired_by (old.owner p.0)) apart)) in
    quiet_by old new _ p.3 (record {
      past = w.past ∙ f.past ∙ b.past;
      future = w.future ∙ f.future
          ∙ b.future;
      ended = w.ended ∙ f.ended ∙ b.ended;
      replies = w.replies ∙ f.replies ∙ b.replies;
    })
play_quiet reading script call item (No_overwrite buffer from bytes) bound old new p =
    let w = write_quiet call (range (block_of old.blocks buffer) from (from + length bytes)) bytes old in
    quiet_by old new _ p (record { past = w.past; future = w.future; ended = w.ended; replies = w.replies })
play_quiet reading script call item (Stage [] target skip) bound old new p =
    quiet_by old new _ p (record { past = refl; future = refl; ended = refl; replies = refl })
play_quiet reading script call item (Stage (b ∷ bs) target skip) bound old new p =
    let c = command_quiet call (staged_range p.0 (length (b ∷ bs))) target skip
    (with_write call (staged_range p.0 (length (b ∷ bs))) (b ∷ bs) (with_page p.0 p.1 old)) in
    quiet_by old new _ p.3 (record { past = c.past; future = c.future; ended = c.ended; replies = c.replies })
play_quiet reading script call item (Command w skip) bound old new p =
    quiet_by old new _ p (record { past = refl; future = refl; ended = refl; replies = refl })
play_quiet reading script call item (Destroy buffer) bound old new p =
    quiet_by old new _ p (record { past = refl; future = refl; ended = refl; replies = refl })
play_quiet reading script call item Create_shader bound old new p =
    quiet_by old new _ p (record { past = refl; future = refl; ended = refl; replies = refl })
play_quiet reading script call item (Mark_query query begins) bound old new p =
    quiet_by old new _ p (record { past = refl; future = refl; ended = refl; replies = refl })
play_quiet reading script call item Set_state bound old new p =
    quiet_by old new _ p (record { past = refl; future = refl; ended = refl; replies = refl })

-- posts that are taken say nothing
posts_quiet : (n : ℕ) (old mid : Core) → TakesPosts n old mid → Quiet old mid
posts_quiet zero old mid h = quiet_by old mid old h (self_quiet old)
posts_quiet (suc n) old mid h =
    let rest = posts_quiet n (with_post h.0 h.1 old) mid h.3 in
    record { past = rest.past; future = rest.future; ended = rest.ended; replies = rest.replies }

fence_quiet : (n : ℕ) (core : Core) → Quiet core (with_fence n core)
fence_quiet zero core = self_quiet core
fence_quiet (suc n) core = record { past = refl; future = refl; ended = refl; replies = refl }

-- ---- a turn is taken

pub answering-append : (front back : List Turn) → answering (front ++ back) ≡ answering front ++ answering back
answering-append [] back = refl
answering-append (Refused call ∷ turns) back = ap (λ l. call ∷ l) (answering-append turns back)
answering-append (Passed call ∷ turns) back = answering-append turns back
answering-append (Flushed call ∷ turns) back = answering-append turns back
answering-append (Asked call ask used may_pend ∷ turns) back = ap (λ l. call ∷ l) (answering-append turns back)
answering-append (Item call item ends play bound ∷ turns) back = answering-append turns back

-- the turn is the last one, and this was said
record Taken (t : Turn) (turns : List Turn) (saids : List Said) (old new : Core) : Type 0 where
  past : new.past ≡ old.past ++ t ∷ []
  future : new.future ≡ turns
  ended : new.ended ≡ old.ended
  replies : new.replies ≡ old.replies ++ saids
  -- it is of the turn
  of_turn : flat_map said_call saids ≡ answering (t ∷ [])
  not_end : AllByRecursion NotEnd saids

not_ended : (script : Script) (old : Core) → old.ended ≡ false → TellsAll script old → AllByRecursion NotEnd old.replies
not_ended script old e h = subst (λ b. Ends b old.future old.replies) e h.end

taken_tells : (script : Script) (t : Turn) (turns : List Turn) (saids : List Said) (old new : Core)
    → old.ended ≡ false → old.future ≡ t ∷ turns → Taken t turns saids old new
    → TellsAll script old → TellsAll script new
taken_tells script t turns saids old new e next k h = record {
  position =
      ap (λ l. l ++ new.future) k.past ∙ ap (λ l. (old.past ++ t ∷ []) ++ l) k.future
      ∙ append_assoc old.past (t ∷ []) turns
      ∙ ap (λ l. old.past ++ l) (sym next) ∙ h.position;
  said =
      ap (flat_map said_call) k.replies ∙ flat_map-append said_call old.replies saids
      ∙ ap (λ l. l ++ flat_map said_call saids) h.said
      ∙ ap (λ l. answering old.past ++ l) k.of_turn ∙ sym (answering-append old.past (t ∷ []))
      ∙ sym (ap answering k.past);
  end =
      subst (λ b. Ends b new.future new.replies) (sym (k.ended ∙ e))
      (subst (AllByRecursion NotEnd) (sym k.replies) (all_append NotEnd old.replies saids (not_ended script old e h)
      k.not_end));
}

-- a turn of which nothing is said
quiet_taken : (t : Turn) (turns : List Turn) (old new : Core) → answering (t ∷ []) ≡ []
    → Quiet (with_turn t turns old) new → Taken t turns [] old new
quiet_taken t turns old new none q = record {
  past = q.past;
  future = q.future;
  ended = q.ended;
  replies = q.replies ∙ sym (append-nil old.replies);
  of_turn = sym none;
  not_end = tt;
}

-- a turn of which this is said, after what says nothing
said_taken : (t : Turn) (turns : List Turn) (said : Said) (old mid new : Core)
    → said_call said ++ [] ≡ answering (t ∷ []) → NotEnd said → Quiet (with_turn t turns old) mid
    → new ≡ with_reply said mid
    → Taken t turns (said ∷ []) old new
said_taken t turns said old mid new same other q is = subst (Taken t turns (said ∷ []) old) (sym is) (record {
  past = q.past;
  future = q.future;
  ended = q.ended;
  replies = ap (λ l. l ++ said ∷ []) q.replies;
  of_turn = same;
  not_end = (other, tt);
})

answer_taken : (call : ℕ) (ask : Ask) (used : Option ℕ) (may_pend : Bool) (turns : List Turn) (old new : Core)
    → new ≡ answer call ask used (with_turn (Asked call ask used may_pend) turns old)
    → (said : Said) × Taken (Asked call ask used may_pend) turns (said ∷ []) old new
answer_taken call (Bytes source) used may_pend turns old new is =
    let t : Turn = Asked call (Bytes source) used may_pend in
    let on = range_on old.blocks source in
    let said : Said = Bytes_said call (copied_bytes (with_turn t turns old) on) in (
      said,
      said_taken t turns said old (with_read call on used (with_turn t turns old)) new refl (λ e. cc e)
          (read_quiet call on used (with_turn t turns old)) is,
    )
answer_taken call (Count query) used may_pend turns old new is =
    let t : Turn = Asked call (Count query) used may_pend in
    let said : Said = Value_said call (old.values query) in (
      said,
      said_taken t turns said old (with_turn t turns old) new refl (λ e. cc e)
          (self_quiet (with_turn t turns old)) is,
    )
answer_taken call (Constant value) used may_pend turns old new is =
    let t : Turn = Asked call (Constant value) used may_pend in
    let said : Said = Value_said call value in (
      said,
      said_taken t turns said old (with_turn t turns old) new refl (λ e. cc e)
          (self_quiet (with_turn t turns old)) is,
    )

turn_taken : (reading : Reading) (script : Script) (t : Turn) (turns : List Turn) (old new : Core)
    → TakesTurn reading script t turns old new → (saids : List Said) × Taken t turns saids old new
turn_taken reading script (Refused call) turns old new h =
    let t : Turn = Refused call in (
      Refused_said call ∷ [],
      said_taken t turns (Refused_said call) old (with_turn t turns old) new refl (λ e. cc e)
          (self_quiet (with_turn t turns old)) h,
    )
turn_taken reading script (Passed call) turns old new h =
    let t : Turn = Passed call in (
      [],
      quiet_taken t turns old new refl (quiet_by (with_turn t turns old) new _ h
          (self_quiet (with_turn t turns old))),
    )
turn_taken reading script (Flushed call) turns old new h =
    let t : Turn = Flushed call in (
      [],
      quiet_taken t turns old new refl (quiet_by (with_turn t turns old) new _ h
          (self_quiet (with_turn t turns old))),
    )
turn_taken reading script (Asked call ask used may_pend) turns old new h =
    let t : Turn = Asked call ask used may_pend in
    elim h [
      | inl now ↦ let a = answer_taken call ask used may_pend turns old new now.1 in (a.0 ∷ [], a.1)
      | inr later ↦
          let said : Said = Still_said call (used_or_zero used) (done old) in (
            said ∷ [],
            said_taken t turns said old (with_turn t turns old) new refl (λ e. cc e)
                (self_quiet (with_turn t turns old)) later.2,
          )
    ]
turn_taken reading script (Item call item ends play bound) turns old new h =
    let t : Turn = Item call item ends play bound in (
      [],
      quiet_taken t turns old new refl (play_quiet reading script call item play bound
          (with_turn t turns old) new h),
    )

-- ---- each step

acts_tell : (reading : Reading) (script : Script) (old new : Core) → Acts reading script old new
    → TellsAll script old → TellsAll script new
acts_tell reading script old new a h =
    elim a.1 [
      | inl over ↦ quiet_tells script old new (quiet_by old new _ over.2
          (record { past = refl; future = refl; ended = refl; replies = refl })) h
      | inr b ↦ elim b [
        | inl next ↦ let k = turn_taken reading script next.1 next.2 old new next.4 in
            taken_tells script next.1 next.2 k.0 old new a.0 next.3 k.1 h
        | inr last ↦ subst (TellsAll script) (sym last.3) (record {
          position = h.position;
          said = flat_map-append said_call old.replies (End_said ∷ []) ∙ append-nil (flat_map said_call old.replies)
              ∙ h.said;
          end = (last.1, (old.replies, refl, not_ended script old a.0 h));
        })
      ]
    ]

step_tells : (meaning : Meaning) (reading : Reading) (script : Script) (old : Core) (e : Event) (new : Core)
    → Step meaning reading script old e new → TellsAll script old → TellsAll script new
step_tells meaning reading script old (App n) new p h =
    let taken : TellsAll script (with_fence n p.2) = quiet_tells script old (with_fence n p.2)
    (then_quiet (posts_quiet n old p.2 p.3) (fence_quiet n p.2)) h in
    elim p.4 [
      | inl a ↦ acts_tell reading script (with_fence n p.2) new a taken
      | inr none ↦ subst (TellsAll script) (sym none.2) taken
    ]
step_tells meaning reading script old Cs new p h = quiet_tells script old new
    (quiet_by old new _ p.4 (record { past = refl; future = refl; ended = refl; replies = refl })) h
step_tells meaning reading script old (Pipe j) new p h = quiet_tells script old new
    (quiet_by old new _ p.2 (record { past = refl; future = refl; ended = refl; replies = refl })) h
step_tells meaning reading script old Submit new p h = quiet_tells script old new
    (quiet_by old new _ p.5 (record { past = refl; future = refl; ended = refl; replies = refl })) h
step_tells meaning reading script old Accept new p h = quiet_tells script old new
    (quiet_by old new _ p.4 (record { past = refl; future = refl; ended = refl; replies = refl })) h
step_tells meaning reading script old (Run j) new p h = quiet_tells script old new
    (quiet_by old new _ p.10 (record { past = refl; future = refl; ended = refl; replies = refl })) h
step_tells meaning reading script old Complete new p h = quiet_tells script old new
    (quiet_by old new _ p.5 (record { past = refl; future = refl; ended = refl; replies = refl })) h
step_tells meaning reading script old Finish new p h = quiet_tells script old new
    (quiet_by old new _ p.4 (record { past = refl; future = refl; ended = refl; replies = refl })) h
step_tells meaning reading script old (Come_home block place) new p h =
    quiet_tells script old new
    (quiet_by old new _ p.6 (record { past = refl; future = refl; ended = refl; replies = refl })) h

chain_tells : (meaning : Meaning) (reading : Reading) (script : Script) (events : List Event) (old new : Core)
    → Chain meaning reading script old events new → TellsAll script old → TellsAll script new
chain_tells meaning reading script [] old new c h = subst (TellsAll script) (sym c) h
chain_tells meaning reading script (e ∷ es) old new c h = chain_tells meaning reading script es c.0 new c.2
    (step_tells meaning reading script old e c.0 c.1 h)

-- each state that steps reach from the start
pub reached_tells : (meaning : Meaning) (reading : Reading) (script : Script) (events : List Event) (core : Core)
    → Chain meaning reading script (start script) events core → TellsAll script core
reached_tells meaning reading script events core c = chain_tells meaning reading script events (start script) core c
    (record { position = refl; said = refl; end = tt })
