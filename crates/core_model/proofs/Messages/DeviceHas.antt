-- A device holds what is left to run on it, what the host writes for it and what its batches give up, each range ends
-- inside its block, and it doesn't hold what comes next, in every state that steps reach.
use Rattle.std.proofs.Common.{◌≡◌, ℕ, ◌≤◌, true, false, List, [], ◌∷◌, ◌++◌, length, sym, ap, ◌∙◌, subst}
use Rattle.std.proofs.Common.{arith, append_assoc, append-nil, length-append}
use Rattle.std.specs.List.{AllByRecursion}
use Rattle.vk_types.specs.declared.message.Placed.{Placed}
use Rattle.vk_types.specs.declared.touch.Touch.{Touch}
use Rattle.vk_types.specs.Hazards.{touches}
use Rattle.vk_types.specs.Effects.{Act, Host_write, Device, Host_read, act_touches, is_host}
use Rattle.vk_types.specs.Entries.{Entry}
use Rattle.base_lemmas.specs.Lists.{Sublist}
use Rattle.base_lemmas.proofs.Lists.{all_sublist}
use Rattle.core_model.specs.AppActs.{act_commands, device_commands}
use Rattle.core_model.specs.Batching.{made}
use Rattle.core_model.specs.CoreState.{Segment, Running, Core, of_messages, of_running, on_device, waiting, segments}
use Rattle.core_model.specs.CoreState.{finished_count}
use Rattle.core_model.specs.Invariant.{IsShaped, handed}
use Rattle.core_model.specs.Kept.{Kept}
use Rattle.core_model.specs.Lawful.{IsLawful}
use Rattle.core_model.specs.Messages.{head_behind, heads_behind, heads}
use Rattle.core_model.specs.Readings.{Reading}
use Rattle.core_model.specs.Marked.{all_messages}
use Rattle.core_model.specs.Holding.{completed_count, placed_by, device_holds}
use Rattle.core_model.specs.Spine.{Succeeds, made_of, gives_up, has_place, holds_block, TakesUnheld, EndsInBlock}
use Rattle.core_model.specs.Succession.{Head, Log, places_in}
use Rattle.core_model.proofs.Listing.Worlds.{of_running-append}
use Rattle.core_model.proofs.Steps.Segments.{run_out, segments_parts, device_parts, messages_length}
use Rattle.core_model.proofs.Messages.DeviceHolds.{fewer_heads, commands_held, writes_held, marks_held}
use Rattle.core_model.proofs.Messages.EndsInBlocks.{commands_end, writes_end}
use Rattle.core_model.proofs.Messages.Following.{heads_placed, heads_length}
use Rattle.core_model.proofs.Messages.HeadsSucceed.{heads_succeed}
use Rattle.core_model.proofs.Messages.Messaging.{Facts, is_made}
use Rattle.core_model.proofs.Messages.Placements.{places_of_append}
use Rattle.core_model.proofs.Messages.UnheldPlaces.{fewer_hold}
use Rattle.core_model.proofs.Messages.UnheldSteps.{Unheld}

heads_append : (pre xs ys : List Segment)
    → heads_behind pre (xs ++ ys) ≡ heads_behind pre xs ++ heads_behind (pre ++ xs) ys
heads_append pre [] ys = ap (λ l. heads_behind l ys) (sym (append-nil pre))
heads_append pre (x ∷ xs) ys =
    ap (λ l. head_behind pre x ∷ l)
    (heads_append (pre ++ x ∷ []) xs ys
    ∙ ap (λ l. heads_behind (pre ++ x ∷ []) xs ++ heads_behind l ys) (append_assoc pre (x ∷ []) xs))

-- the chunks that were handed over: those that reached the device, and others behind them
pub handed_parts : (core : Core) → handed core ≡ on_device core ++ (core.submissions ++ (core.batches ++ core.chunks))
handed_parts core =
    let a = core.taken in
    let b = of_messages core.posts in
    let c = of_messages core.completions in
    let d = of_running core.accepted in
    let z = core.submissions ++ (core.batches ++ core.chunks) in
    sym (append_assoc a (b ++ (c ++ d)) z
    ∙ ap (λ l. a ++ l) (append_assoc b (c ++ d) z ∙ ap (λ l. b ++ l) (append_assoc c d z)))

pub in_middle : {A : Type 0} (P : A → Type 0) (xs : List A) (x : A) (ys : List A) → AllByRecursion P (xs ++ x ∷ ys)
    → P x
in_middle P [] x ys h = h.0
in_middle P (z ∷ xs) x ys h = in_middle P xs x ys h.1

-- a batch on the device has its commands apart
pub accepted_shaped : (core : Core) → AllByRecursion IsShaped (segments core)
    → (front : List Running) (r : Running) (back : List Running) → core.accepted ≡ front ++ r ∷ back
    → IsShaped r.segment
accepted_shaped core h front r back e =
    let before = run_out core ++ of_running front in
    let queue : of_running core.accepted ≡ of_running front ++ r.segment ∷ of_running back =
    ap of_running e ∙ of_running-append front (r ∷ back) in
    let all : AllByRecursion IsShaped (run_out core ++ (of_running core.accepted ++ waiting core)) =
    subst (AllByRecursion IsShaped) (segments_parts core) h in
    let whole : AllByRecursion IsShaped
    (run_out core ++ ((of_running front ++ r.segment ∷ of_running back) ++ waiting core)) =
    subst (λ l. AllByRecursion IsShaped (run_out core ++ (l ++ waiting core))) queue all in
    in_middle IsShaped before r.segment (of_running back ++ waiting core)
    (subst (AllByRecursion IsShaped)
    (ap (λ l. run_out core ++ l) (append_assoc (of_running front) (r.segment ∷ of_running back) (waiting core))
    ∙ sym (append_assoc (run_out core) (of_running front) (r.segment ∷ (of_running back ++ waiting core)))) whole)

-- what holds of the touches of commands holds of those of their entries
acts_have : (P : Touch → Type 0) (xs : List Entry) → AllByRecursion (λ x. is_host x.act ≡ false) xs
    → AllByRecursion (λ d. AllByRecursion P (touches d)) (device_commands xs)
    → AllByRecursion (λ x. AllByRecursion P (act_touches x.act)) xs
acts_have P [] h k = tt
acts_have P (x ∷ xs) h k = by x.act h.0 k (acts_have P xs h.1)
  where
    by : (a : Act) → is_host a ≡ false
        → AllByRecursion (λ d. AllByRecursion P (touches d)) (act_commands a ++ device_commands xs)
        → (AllByRecursion (λ d. AllByRecursion P (touches d)) (device_commands xs)
        → AllByRecursion (λ x. AllByRecursion P (act_touches x.act)) xs)
        → AllByRecursion P (act_touches a) × AllByRecursion (λ x. AllByRecursion P (act_touches x.act)) xs
    by (Host_write target bytes) h k rec = absurd (cc h)
    by (Device d) h k rec = (k.0, rec k.1)
    by (Host_read source) h k rec = absurd (cc h)

module _ (log : Log) (reading : Reading) (core : Core) (lawful : IsLawful log.meaning log.script)
    (k : Kept log.meaning reading log.script core) (known : Facts log.meaning log.script core)
    (front : List Segment) (s : Segment) (back : List Segment) (e : on_device core ≡ front ++ s ∷ back)
    (out : completed_count core ≤ length front) where
  abbrev others : List Segment
  others = core.submissions ++ (core.batches ++ core.chunks)

  abbrev spine : List Head
  spine = heads front ++ head_behind front s ∷ heads_behind (front ++ s ∷ []) back

  device_heads : heads (on_device core) ≡ spine
  device_heads = ap heads e ∙ heads_append [] front (s ∷ back)

  succeeds : Succeeds log spine
  succeeds =
      subst (Succeeds log) device_heads
      (fewer_heads log (heads (on_device core)) (heads_behind (on_device core) others)
      (subst (Succeeds log) (ap heads (handed_parts core) ∙ heads_append [] (on_device core) others)
      (heads_succeed log reading core k known)))

  few : completed_count core ≤ length (heads front)
  few = let l = heads_length [] front in omega (arith, l, out)

  places : places_in spine ≡ placed_by (on_device core)
  places = ap places_in (sym device_heads) ∙ heads_placed [] (on_device core)

  last_made : made_of log (heads front ++ head_behind front s ∷ []) ≡ made log.script (placed_by (front ++ s ∷ []))
  last_made =
      ap (made_of log) (sym (heads_append [] front (s ∷ [])))
      ∙ ap (made log.script) (heads_placed [] (front ++ s ∷ []))

  listed : (made log.script (placed_by (front ++ s ∷ []))).listed ≡ device_commands s.commands
  listed =
      (is_made log reading core k known front s (back ++ others)
      (handed_parts core ∙ ap (λ l. l ++ others) e ∙ append_assoc front (s ∷ back) others)).listed

  -- what a chunk's commands touch that was not completed, and the parts that the host writes for it
  pub touches_held : AllByRecursion (λ d. AllByRecursion (λ t. device_holds core t.range.block ≡ true) (touches d))
      (device_commands s.commands)
  touches_held =
      subst (AllByRecursion (λ d. AllByRecursion (λ t. device_holds core t.range.block ≡ true) (touches d)))
      (ap (λ m. m.listed) last_made ∙ listed)
      (subst (λ ps. AllByRecursion (λ d. AllByRecursion (λ t. holds_block (completed_count core) ps t.range.block
      ≡ true) (touches d)) (made_of log (heads front ++ head_behind front s ∷ [])).listed) places
      (commands_held log lawful (heads front) (head_behind front s) (heads_behind (front ++ s ∷ []) back) succeeds
      (completed_count core) few))

  pub parts_held : AllByRecursion (λ w. device_holds core w.range.block ≡ true)
      (made log.script (placed_by (front ++ s ∷ []))).writes
  parts_held =
      subst (λ m. AllByRecursion (λ w. device_holds core w.range.block ≡ true) m.writes) last_made
      (subst (λ ps. AllByRecursion (λ w. holds_block (completed_count core) ps w.range.block ≡ true)
      (made_of log (heads front ++ head_behind front s ∷ [])).writes) places
      (writes_held log lawful (heads front) (head_behind front s) (heads_behind (front ++ s ∷ []) back) succeeds
      (completed_count core) few))

  -- what a chunk gives up that was not completed
  pub given_held : (b : ℕ) → gives_up b s.placed ≡ true → device_holds core b ≡ true
  given_held b g =
      subst (λ ps. holds_block (completed_count core) ps b ≡ true) places
      (marks_held log (heads front) (head_behind front s) (heads_behind (front ++ s ∷ []) back) succeeds
      (completed_count core) few b g)

  -- no message took what the device held
  taken_unheld : Unheld core → TakesUnheld (completed_count core) (places_in spine)
  taken_unheld unheld pre here post split b has =
      let rest : List (List Placed) = placed_by others ++ core.open_chunk.placed ∷ [] in
      let all : all_messages core ≡ pre ++ here ∷ (post ++ rest) =
      ap (λ l. placed_by l ++ core.open_chunk.placed ∷ []) (handed_parts core)
      ∙ ap (λ l. l ++ core.open_chunk.placed ∷ []) (places_of_append (on_device core) others)
      ∙ append_assoc (placed_by (on_device core)) (placed_by others) (core.open_chunk.placed ∷ [])
      ∙ ap (λ l. l ++ rest) (sym places ∙ split) ∙ append_assoc pre (here ∷ post) rest in
      fewer_hold b (finished_count core) (completed_count core) pre false (omega arith)
      (unheld.unheld pre here (post ++ rest) all b has)

  -- and what its commands touch, and what the host writes for it, ends inside blocks
  pub touches_end : Unheld core
      → AllByRecursion (λ d. AllByRecursion (λ t. EndsInBlock log (heads (on_device core)) s.placed t.range)
      (touches d)) (device_commands s.commands)
  touches_end unheld =
      subst (AllByRecursion (λ d. AllByRecursion (λ t. EndsInBlock log (heads (on_device core)) s.placed t.range)
      (touches d)))
      (ap (λ m. m.listed) last_made ∙ listed)
      (subst (λ hs. AllByRecursion (λ d. AllByRecursion (λ t. EndsInBlock log hs s.placed t.range) (touches d))
      (made_of log (heads front ++ head_behind front s ∷ [])).listed) (sym device_heads)
      (commands_end log lawful (heads front) (head_behind front s) (heads_behind (front ++ s ∷ []) back) succeeds
      (completed_count core) few (taken_unheld unheld)))

  pub parts_end : Unheld core
      → AllByRecursion (λ w. EndsInBlock log (heads (on_device core)) s.placed w.range)
      (made log.script (placed_by (front ++ s ∷ []))).writes
  parts_end unheld =
      subst (λ m. AllByRecursion (λ w. EndsInBlock log (heads (on_device core)) s.placed w.range) m.writes) last_made
      (subst (λ hs. AllByRecursion (λ w. EndsInBlock log hs s.placed w.range)
      (made_of log (heads front ++ head_behind front s ∷ [])).writes) (sym device_heads)
      (writes_end log lawful (heads front) (head_behind front s) (heads_behind (front ++ s ∷ []) back) succeeds
      (completed_count core) few (taken_unheld unheld)))

module _ (log : Log) (reading : Reading) (core : Core) (lawful : IsLawful log.meaning log.script)
    (k : Kept log.meaning reading log.script core) (known : Facts log.meaning log.script core)
    (front : List Running) (r : Running) (back : List Running) (e : core.accepted ≡ front ++ r ∷ back) where
  abbrev before : List Segment
  before = run_out core ++ of_running front

  queue : of_running core.accepted ≡ of_running front ++ r.segment ∷ of_running back
  queue = ap of_running e ∙ of_running-append front (r ∷ back)

  device : on_device core ≡ before ++ r.segment ∷ of_running back
  device =
      device_parts core ∙ ap (λ l. run_out core ++ l) queue
      ∙ sym (append_assoc (run_out core) (of_running front) (r.segment ∷ of_running back))

  completed : completed_count core ≤ length before
  completed =
      let a = length-append core.taken (of_messages core.posts ++ of_messages core.completions) in
      let b = length-append (of_messages core.posts) (of_messages core.completions) in
      let c = messages_length core.posts in
      let d = messages_length core.completions in
      let f = length-append (run_out core) (of_running front) in
      omega (arith, a, b, c, d, f)

  -- what is left to run of a batch
  left_have : (P : Touch → Type 0)
      → AllByRecursion (λ d. AllByRecursion P (touches d)) (device_commands r.segment.commands)
      → AllByRecursion (λ x. AllByRecursion P (act_touches x.act)) r.rest
  left_have P all =
      let shaped = accepted_shaped core k.good.sound.shaped front r back e in
      let within = in_middle (λ r. Sublist r.rest r.segment.commands) front r back
      (subst (AllByRecursion (λ r. Sublist r.rest r.segment.commands)) e k.good.sound.within) in
      all_sublist (λ x. AllByRecursion P (act_touches x.act)) within (acts_have P r.segment.commands shaped.2 all)

  pub left_held : AllByRecursion (λ x. AllByRecursion (λ t. device_holds core t.range.block ≡ true) (act_touches x.act))
      r.rest
  left_held =
      left_have (λ t. device_holds core t.range.block ≡ true)
      (touches_held log reading core lawful k known before r.segment (of_running back) device completed)

  pub left_ends : Unheld core
      → AllByRecursion (λ x. AllByRecursion (λ t. EndsInBlock log (heads (on_device core)) r.segment.placed t.range)
      (act_touches x.act)) r.rest
  left_ends unheld =
      left_have (λ t. EndsInBlock log (heads (on_device core)) r.segment.placed t.range)
      (touches_end log reading core lawful k known before r.segment (of_running back) device completed unheld)

-- What comes next ---------------------------------------------------------------------------------------------------

-- the next submission takes blocks, and stages bytes in pages, that the device doesn't hold
pub next_unheld : (core : Core) → Unheld core → (s : Segment) (ss : List Segment) → core.submissions ≡ s ∷ ss
    → (b : ℕ) → has_place b s.placed ≡ true → device_holds core b ≡ false
next_unheld core h s ss e b has =
    let rest = core.batches ++ core.chunks in
    let line : handed core ≡ on_device core ++ s ∷ (ss ++ rest) =
    handed_parts core ∙ ap (λ l. on_device core ++ (l ++ rest)) e in
    let all : all_messages core
    ≡ placed_by (on_device core) ++ s.placed ∷ (placed_by (ss ++ rest) ++ core.open_chunk.placed ∷ []) =
    ap (λ l. placed_by l ++ core.open_chunk.placed ∷ []) line
    ∙ ap (λ l. l ++ core.open_chunk.placed ∷ []) (places_of_append (on_device core) (s ∷ (ss ++ rest)))
    ∙ append_assoc (placed_by (on_device core)) (s.placed ∷ placed_by (ss ++ rest)) (core.open_chunk.placed ∷ []) in
    fewer_hold b (finished_count core) (completed_count core) (placed_by (on_device core)) false (omega arith)
    (h.unheld (placed_by (on_device core)) s.placed (placed_by (ss ++ rest) ++ core.open_chunk.placed ∷ []) all b has)
