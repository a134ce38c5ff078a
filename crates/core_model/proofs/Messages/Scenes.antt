-- What is shown of each kind of step holds in every state that steps reach; and what is shown of the chunks and the
-- open one alone.
use Rattle.std.proofs.Common.{◌≡◌, ℕ, zero, suc, Bool, true, false, List, [], ◌∷◌, ◌++◌, refl, sym, ap, ◌∙◌, subst}
use Rattle.std.proofs.Common.{inl, inr, Option, Some, None, append_assoc}
use Rattle.dx_types.specs.declared.range.Range.{Range}
use Rattle.vk_types.specs.declared.command.Command as c
use Rattle.vk_types.specs.Effects.{Meaning}
use Rattle.core_model.specs.Script.{Bytes, Count, Constant, Play, Turn, Refused, Passed, Flushed, Asked, Item, Script}
use Rattle.core_model.specs.Chunking.{is_due, is_entry}
use Rattle.core_model.specs.Renaming.{BlockMap, range_on}
use Rattle.core_model.specs.CoreState.{Segment, Message, Running, Core, start, empty_segment, of_messages, of_running}
use Rattle.core_model.specs.CoreState.{Said}
use Rattle.core_model.specs.Readings.{Reading}
use Rattle.core_model.specs.Adding.{with_turn, with_reply}
use Rattle.core_model.specs.TakingPosts.{TakesPosts, with_post, with_fence}
use Rattle.core_model.specs.AppActs.{TakesTurn, Acts, handed_over, with_read}
use Rattle.core_model.specs.Playing.{Plays}
use Rattle.core_model.specs.CoreStep.{Event, App, Cs, Pipe, Submit, Accept, Run, Complete, Finish, Come_home}
use Rattle.core_model.specs.CoreStep.{is_of_app, Step, Chain}
use Rattle.core_model.specs.Lawful.{IsLawful}
use Rattle.core_model.specs.Invariant.{handed}
use Rattle.core_model.specs.Kept.{Kept}
use Rattle.core_model.proofs.Listing.Worlds.{of_messages-append, of_running-append}
use Rattle.core_model.proofs.Steps.Turning.{segments_handed}
use Rattle.core_model.proofs.Steps.ReadingBack.{reads_range}
use Rattle.core_model.proofs.Runs.StepsKeepAll.{posts_kept}
use Rattle.core_model.proofs.Messages.ItemResults.{applied}
use Rattle.core_model.proofs.Messages.ItemCases.{result_of, result_is}
use Rattle.core_model.proofs.Runs.Chains.{reached}

-- What each kind of step keeps
pub record Kinds (meaning : Meaning) (reading : Reading) (script : Script) (P : Core → Type 0) : Type 0 where
  pub started : P (start script)
  pub others : (old : Core) (e : Event) (new : Core) → is_of_app e ≡ false → Step meaning reading script old e new
      → Kept meaning reading script old → P old → P new
  pub posts : (n : ℕ) (old mid : Core) → TakesPosts n old mid → Kept meaning reading script old → P old
      → P (with_fence n mid)
  pub hands : (old : Core) → is_due script old.open_chunk.turns old.future ≡ true → Kept meaning reading script old
      → P old → P (handed_over old)
  pub turns : (old : Core) (t : Turn) (turns : List Turn) → is_entry t ≡ false → old.future ≡ t ∷ turns
      → Kept meaning reading script old → P old → P (with_turn t turns old)
  pub reads : (core : Core) (call : ℕ) (r : Range) → P core → P (reads_range call r core)
  pub says : (core : Core) (said : Said) → P core → P (with_reply said core)
  pub ends : (core : Core) → P core → P (record core { ended = true })
  pub items : (old : Core) (call item : ℕ) (ends : Bool) (play : Play) (bound : List Range) (turns : List Turn)
      (new : Core) → old.future ≡ Item call item ends play bound ∷ turns
      → is_due script old.open_chunk.turns old.future ≡ false
      → (n : Plays reading script call item play bound (with_turn (Item call item ends play bound) turns old)
      new) → Kept meaning reading script old → P old
      → P (applied (result_of reading script call item play bound
      (with_turn (Item call item ends play bound) turns old) new n)
      (with_turn (Item call item ends play bound) turns old))

module _ (meaning : Meaning) (reading : Reading) (script : Script) (P : Core
    → Type 0) (kinds : Kinds meaning reading script P) where
  read_keeps : (call : ℕ) (r : Range) (used : Option ℕ) (core : Core) → P core → P (with_read call r used core)
  read_keeps call r None core p = p
  read_keeps call r (Some used) core p = kinds.reads core call r p

  turn_keeps : (old : Core) (t : Turn) (turns : List Turn) (new : Core) → old.future ≡ t ∷ turns
      → is_due script old.open_chunk.turns old.future ≡ false → TakesTurn reading script t turns old new
      → Kept meaning reading script old → P old → P new
  turn_keeps old (Refused call) turns new e due n k p = subst P (sym n)
      (kinds.says _ _ (kinds.turns old (Refused call) turns refl e k p))
  turn_keeps old (Passed call) turns new e due n k p = subst P (sym n) (kinds.turns old (Passed call) turns refl e k p)
  turn_keeps old (Flushed call) turns new e due n k p = subst P (sym n)
      (kinds.turns old (Flushed call) turns refl e k p)
  turn_keeps old (Asked call (Bytes source) used may_pend) turns new e due (inl n) k p =
      let t = Asked call (Bytes source) used may_pend in
      subst P (sym n.1)
      (kinds.says _ _ (read_keeps call (range_on old.blocks source) used (with_turn t turns old)
      (kinds.turns old t turns refl e k p)))
  turn_keeps old (Asked call (Count query) used may_pend) turns new e due (inl n) k p =
      subst P (sym n.1) (kinds.says _ _ (kinds.turns old (Asked call (Count query) used may_pend) turns refl e k p))
  turn_keeps old (Asked call (Constant value) used may_pend) turns new e due (inl n) k p =
      subst P (sym n.1)
      (kinds.says _ _ (kinds.turns old (Asked call (Constant value) used may_pend) turns refl e k p))
  turn_keeps old (Asked call ask used may_pend) turns new e due (inr n) k p =
      subst P (sym n.2) (kinds.says _ _ (kinds.turns old (Asked call ask used may_pend) turns refl e k p))
  turn_keeps old (Item call item ends play bound) turns new e due n k p =
      subst P (sym (result_is reading script call item play bound
      (with_turn (Item call item ends play bound) turns old) new n))
      (kinds.items old call item ends play bound turns new e due n k p)

  acts_keep : (old new : Core) → Acts reading script old new → Kept meaning reading script old → P old → P new
  acts_keep old new a k p =
      elim a.1 [
        | inl b ↦ subst P (sym b.2) (kinds.hands old b.0 k p)
        | inr b ↦ elim b [
          | inl c ↦ turn_keeps old c.1 c.2 new c.3 c.0 c.4 k p
          | inr c ↦ subst P (sym c.3) (kinds.says _ _ (kinds.ends old p))
        ]
      ]

  pub step_keeps : (old : Core) (e : Event) (new : Core) → Step meaning reading script old e new
      → Kept meaning reading script old → P old → P new
  step_keeps old (App n) new s k p =
      let mid = kinds.posts n old s.2 s.3 k p in
      elim s.4 [
        | inl a ↦ acts_keep (with_fence n s.2) new a (posts_kept meaning reading script n old s.2 s.3 k) mid
        | inr a ↦ subst P (sym a.2) mid
      ]
  step_keeps old Cs new s k p = kinds.others old Cs new refl s k p
  step_keeps old (Pipe j) new s k p = kinds.others old (Pipe j) new refl s k p
  step_keeps old Submit new s k p = kinds.others old Submit new refl s k p
  step_keeps old Accept new s k p = kinds.others old Accept new refl s k p
  step_keeps old (Run j) new s k p = kinds.others old (Run j) new refl s k p
  step_keeps old Complete new s k p = kinds.others old Complete new refl s k p
  step_keeps old Finish new s k p = kinds.others old Finish new refl s k p
  step_keeps old (Come_home block place) new s k p = kinds.others old (Come_home block place) new refl s k p

  pub reached_by_kinds : IsLawful meaning script → (events : List Event) (core : Core)
      → Chain meaning reading script (start script) events core → P core
  reached_by_kinds lawful events core h = reached meaning reading script lawful P step_keeps kinds.started events core h

-- The chunks and the open one ---------------------------------------------------------------------------------------

pub record Scene : Type 0 where
  pub handed : List Segment
  pub open_chunk : Segment
  pub blocks : BlockMap
  pub is_staging : ℕ → Bool
  pub commands : ℕ
  pub recent : List c.Command

abbrev pub scene : Core → Scene
scene core = record {
  handed = handed core;
  open_chunk = core.open_chunk;
  blocks = core.blocks;
  is_staging =
      core.is_staging;
  commands = core.commands;
  recent = core.recent;
}

-- the same but for how the chunks are reached
same_scene : (v : Scene) (ss : List Segment) → ss ≡ v.handed → record v { handed = ss } ≡ v
same_scene v ss e = λ i. record v { handed = e i }

pub other_scene : (meaning : Meaning) (reading : Reading) (script : Script) (old : Core) (e : Event) (new : Core)
    → is_of_app e ≡ false → Step meaning reading script old e new → scene new ≡ scene old
other_scene meaning reading script old (App posts) new h p = absurd (cc h)
other_scene meaning reading script old Cs new h p =
    ap scene p.4
    ∙ same_scene (scene old) _
    (ap (λ l. old.taken
    ++ (of_messages old.posts ++ (of_messages old.completions
    ++ (of_running old.accepted ++ (old.submissions ++ l)))))
    (append_assoc old.batches (p.0 ∷ []) p.1 ∙ ap (λ l. old.batches ++ l) (sym p.2)))
other_scene meaning reading script old (Pipe j) new h p = ap scene p.2
other_scene meaning reading script old Submit new h p =
    ap scene p.5
    ∙ same_scene (scene old) _
    (ap (λ l. old.taken ++ (of_messages old.posts ++ (of_messages old.completions ++ (of_running old.accepted ++ l))))
    (append_assoc old.submissions (p.0 ∷ []) (p.1 ++ old.chunks)
    ∙ ap (λ l. old.submissions ++ (l ++ old.chunks)) (sym p.2)))
other_scene meaning reading script old Accept new h p =
    let begun : Running = record { segment = p.0; rest = p.0.commands } in
    let z = old.batches ++ old.chunks in
    ap scene p.4
    ∙ same_scene (scene old) _
    (ap (λ l. old.taken ++ (of_messages old.posts ++ (of_messages old.completions ++ l)))
    (ap (λ l. l ++ (p.1 ++ z)) (of_running-append old.accepted (begun ∷ []))
    ∙ append_assoc (of_running old.accepted) (p.0 ∷ []) (p.1 ++ z)
    ∙ ap (λ l. of_running old.accepted ++ (l ++ z)) (sym p.2)))
other_scene meaning reading script old (Run j) new h p =
    let after : Running = record { segment = p.1.segment; rest = p.4 ++ p.6 } in
    ap scene p.10
    ∙ same_scene (scene old) _
    (ap (λ l. old.taken
    ++ (of_messages old.posts ++ (of_messages old.completions
    ++ (l ++ (old.submissions ++ (old.batches ++ old.chunks))))))
    (of_running-append p.0 (after ∷ p.2) ∙ sym (of_running-append p.0 (p.1 ∷ p.2)) ∙ ap of_running (sym p.3)))
other_scene meaning reading script old Complete new h p =
    let z = old.submissions ++ (old.batches ++ old.chunks) in
    ap scene p.5
    ∙ same_scene (scene old) _
    (ap (λ l. old.taken ++ (of_messages old.posts ++ l))
    (ap (λ l. l ++ (of_running p.1 ++ z)) (of_messages-append old.completions (_ ∷ []))
    ∙ append_assoc (of_messages old.completions) (p.0.segment ∷ []) (of_running p.1 ++ z)
    ∙ ap (λ l. of_messages old.completions ++ (of_running l ++ z)) (sym p.2)))
other_scene meaning reading script old Finish new h p =
    let posts = old.posts ++ p.0 ∷ [] in
    let rest = of_running old.accepted ++ (old.submissions ++ (old.batches ++ old.chunks)) in
    let line : of_messages posts ++ of_messages p.1 ≡ of_messages old.posts ++ of_messages old.completions =
    sym (of_messages-append posts p.1) ∙ ap of_messages (append_assoc old.posts (p.0 ∷ []) p.1
    ∙ ap (λ l. old.posts ++ l) (sym p.2)) ∙ of_messages-append old.posts old.completions in
    ap scene p.4
    ∙ same_scene (scene old) _
    (ap (λ l. old.taken ++ l) (sym (append_assoc (of_messages posts) (of_messages p.1) rest)
    ∙ ap (λ l. l ++ rest) line ∙ append_assoc (of_messages old.posts) (of_messages old.completions) rest))
other_scene meaning reading script old (Come_home block place) new h p = ap scene p.6

pub post_scene : (old : Core) (m : Message) (ms : List Message) → old.posts ≡ m ∷ ms
    → scene (with_post m ms old) ≡ scene old
post_scene old m ms e =
    let rest = of_messages old.completions ++ (of_running old.accepted
    ++ (old.submissions ++ (old.batches ++ old.chunks))) in
    same_scene (scene old) _ (append_assoc old.taken (m.segment ∷ []) (of_messages ms ++ rest)
    ∙ ap (λ l. old.taken ++ (of_messages l ++ rest)) (sym e))

pub posts_scene : (n : ℕ) (old mid : Core) → TakesPosts n old mid → scene mid ≡ scene old
posts_scene zero old mid h = ap scene h
posts_scene (suc n) old mid h = posts_scene n (with_post h.0 h.1 old) mid h.3 ∙ post_scene old h.0 h.1 h.2

pub fence_scene : (n : ℕ) (core : Core) → scene (with_fence n core) ≡ scene core
fence_scene zero core = refl
fence_scene (suc n) core = refl

abbrev pub hand_scene : Scene → Scene
hand_scene v = record v { handed = v.handed ++ v.open_chunk ∷ []; open_chunk = empty_segment }

pub handed_scene : (old : Core) → scene (handed_over old) ≡ hand_scene (scene old)
handed_scene old = same_scene (hand_scene (scene old)) _ (segments_handed old)

abbrev pub turn_scene : Turn → Scene → Scene
turn_scene t v = record v { open_chunk = record v.open_chunk { turns = v.open_chunk.turns ++ t ∷ [] } }

-- what is shown of chunks alone
pub record SceneKinds (meaning : Meaning) (reading : Reading) (script : Script) (Q : Scene → Type 0) : Type 0 where
  pub started : Q (scene (start script))
  pub hands : (old : Core) → is_due script old.open_chunk.turns old.future ≡ true → Kept meaning reading script old
      → Q (scene old) → Q (hand_scene (scene old))
  pub turns : (v : Scene) (t : Turn) → is_entry t ≡ false → Q v → Q (turn_scene t v)
  pub reads : (core : Core) (call : ℕ) (r : Range) → Q (scene core) → Q (scene (reads_range call r core))
  pub items : (old : Core) (call item : ℕ) (ends : Bool) (play : Play) (bound : List Range) (turns : List Turn)
      (new : Core) → old.future ≡ Item call item ends play bound ∷ turns
      → is_due script old.open_chunk.turns old.future ≡ false
      → (n : Plays reading script call item play bound (with_turn (Item call item ends play bound) turns old)
      new) → Kept meaning reading script old → Q (scene old)
      → Q (scene (applied (result_of reading script call item play bound
      (with_turn (Item call item ends play bound) turns old) new n)
      (with_turn (Item call item ends play bound) turns old)))

pub scene_kinds : (meaning : Meaning) (reading : Reading) (script : Script) (Q : Scene → Type 0)
    → SceneKinds meaning reading script Q → Kinds meaning reading script (λ core. Q (scene core))
scene_kinds meaning reading script Q s = record {
  started = s.started;
  others = λ old e new h p k q. subst Q (sym (other_scene meaning reading script old e new h p)) q;
  posts = λ n old mid h k q. subst Q (sym (fence_scene n mid ∙ posts_scene n old mid h)) q;
  hands = λ old due k q. subst Q (sym (handed_scene old)) (s.hands old due k q);
  turns = λ old t turns h e k q. s.turns (scene old) t h q;
  reads = λ core call r q. s.reads core call r q;
  says = λ core said q. q;
  ends = λ core q. q;
  items = s.items;
}
