-- After each chunk the listing leaves in the buffers' blocks what the turns so far leave in order; and copies are of
-- staging buffers.
use Rattle.std.proofs.Common.{◌≡◌, ℕ, ◌<◌, Bool, true, false, cond, not, ◌&&◌, ◌==◌, List, [], ◌∷◌, ◌++◌, refl, sym}
use Rattle.std.proofs.Common.{ap, ◌∙◌, subst, inl, inr, Option, Some, None, append_assoc, append-nil}
use Rattle.std.specs.List.{AllByRecursion}
use Rattle.std.proofs.lemmas.Bool.{both_ways, cases_Bool, and_parts, eqb-true, eq-eqb}
use Rattle.dx_types.specs.declared.range.Range.{Range}
use Rattle.vk_types.specs.Memory.{range, zeros, or_zero}
use Rattle.vk_types.specs.Effects.{Meaning}
use Rattle.vk_types.specs.Entries.{run_entries}
use Rattle.base_lemmas.proofs.Lists.{all_append, all_map}
use Rattle.core_model.specs.Script.{Play, Create, Discard, No_overwrite, Stage, Command, Destroy, Create_shader}
use Rattle.core_model.specs.Script.{Mark_query, Set_state, Turn, Item, Script, updated, at_start, in_order}
use Rattle.core_model.specs.Chunking.{joined}
use Rattle.core_model.specs.Renaming.{BlockMap, block_of}
use Rattle.core_model.specs.CoreState.{Segment, flat, Core, listed}
use Rattle.core_model.specs.Readings.{Reading}
use Rattle.core_model.specs.Owners.{is_block}
use Rattle.core_model.specs.Adding.{with_turn, has_block, add_staging, without_block}
use Rattle.core_model.specs.Playing.{Plays}
use Rattle.core_model.specs.Stands.{Stands}
use Rattle.core_model.specs.Batching.{nothing_made}
use Rattle.core_model.specs.Lawful.{Fits, IsLawful}
use Rattle.core_model.specs.Invariant.{turns_of, handed}
use Rattle.core_model.specs.Kept.{Kept}
use Rattle.core_model.proofs.Runs.Tracing.{joined_last}
use Rattle.core_model.proofs.Steps.Turning.{segments_handed}
use Rattle.core_model.proofs.Messages.ItemCases.{result_of}
use Rattle.core_model.proofs.Messages.Making.{not_staging}
use Rattle.core_model.proofs.Messages.MadeLines.{chunk_made, line_made, Makes, makes_kinds}
use Rattle.core_model.proofs.Messages.Scenes.{Scene, scene, SceneKinds}

-- the whole of a live staging buffer's block, as far as the buffer goes
abbrev pub IsWhole : Script → BlockMap → Range → Type 0
IsWhole script blocks x = (r : ℕ) × (blocks r ≡ Some x.block) × (script.is_staging r ≡ true)
    × (x ≡ range x.block 0 (script.size r))

-- Staging ranges ----------------------------------------------------------------------------------------------------

add_whole : (meaning : Meaning) (script : Script) (memory : ℕ → ℕ → ℕ) (blocks : BlockMap) (front : List Turn)
    → Stands script memory blocks (in_order meaning script front at_start)
    → (bound staging : List Range) → AllByRecursion (λ r. Fits meaning script front r × (r.from < r.to)) bound
    → AllByRecursion (IsWhole script blocks) staging
    → AllByRecursion (IsWhole script blocks) (add_staging script blocks bound staging)
add_whole meaning script memory blocks front st [] staging fits h = h
add_whole meaning script memory blocks front st (q ∷ qs) staging fits h =
    add_whole meaning script memory blocks front st qs _ fits.1
    (by (script.is_staging q.block && not (has_block (block_of blocks q.block) staging)) refl)
  where
    by : (c : Bool) → (script.is_staging q.block && not (has_block (block_of blocks q.block) staging)) ≡ c
        → AllByRecursion (IsWhole script blocks)
        (cond c (staging ++ range (block_of blocks q.block) 0 (script.size q.block) ∷ []) staging)
    by false e = h
    by true e =
        let has = st.has_block q.block fits.0.0.0 in
        let here : blocks q.block ≡ Some (block_of blocks q.block) = has.1 ∙ ap Some (sym (ap or_zero has.1)) in
        all_append (IsWhole script blocks) staging (_ ∷ []) h (
          (
            q.block,
            here,
            (and_parts (script.is_staging q.block) (not (has_block (block_of blocks q.block) staging)) e).0,
            refl,
          ),
          tt,
        )

-- another buffer has another block
other_whole : (script : Script) (old new : BlockMap) (staging : List Range)
    → ((r b : ℕ) → script.is_staging r ≡ true → old r ≡ Some b → new r ≡ Some b)
    → AllByRecursion (IsWhole script old) staging → AllByRecursion (IsWhole script new) staging
other_whole script old new staging f h = all_map (IsWhole script old) (IsWhole script new)
    (λ x w. (w.0, f w.0 x.block w.2 w.1, w.2, w.3)) staging h

stays_there : (blocks : BlockMap) (buffer : ℕ) (now : Option ℕ) (r b : ℕ) → (r ≡ buffer → ⊥) → blocks r ≡ Some b
    → updated buffer now blocks r ≡ Some b
stays_there blocks buffer now r b n e =
    elim (cases_Bool (r == buffer)) [
      | inl t ↦ absurd (n (eqb-true r buffer t))
      | inr f ↦ ap (λ c. cond c now (blocks r)) f ∙ e
    ]

without_whole : (script : Script) (blocks : BlockMap) (buffer : ℕ) (staging : List Range)
    → AllByRecursion (IsWhole script blocks) staging
    → AllByRecursion (IsWhole script (updated buffer None blocks)) (without_block (blocks buffer) staging)
without_whole script blocks buffer [] h = tt
without_whole script blocks buffer (x ∷ xs) h = by (without_whole script blocks buffer xs h.1)
    (is_block (blocks buffer) x.block) refl
  where
    by : AllByRecursion (IsWhole script (updated buffer None blocks)) (without_block (blocks buffer) xs)
        → (c : Bool) → is_block (blocks buffer) x.block ≡ c
        → AllByRecursion (IsWhole script (updated buffer None blocks))
        (cond c (without_block (blocks buffer) xs) (x ∷ without_block (blocks buffer) xs))
    by rec true e = rec
    by rec false e =
        let w = h.0 in
        let n : w.0 ≡ buffer → ⊥ =
        λ s. both_ways (is_block (blocks buffer) x.block) e (ap (λ o. is_block o x.block) (ap blocks (sym s) ∙ w.1)
        ∙ eq-eqb x.block x.block refl) in
        ((w.0, stays_there blocks buffer None w.0 x.block n w.1, w.2, w.3), rec)

-- Each chunk's end --------------------------------------------------------------------------------------------------

-- the blocks that buffers have after a chunk
abbrev pub blocks_after : Script → List Segment → Segment → BlockMap
blocks_after script front s = (chunk_made script s (line_made script front nothing_made)).blocks

pub record ChunkStood (meaning : Meaning) (script : Script) (front : List Segment) (s : Segment) : Type 0 where
  pub stands : Stands script (run_entries meaning (flat (front ++ s ∷ [])) zeros) (blocks_after script front s)
      (in_order meaning script (joined (turns_of (front ++ s ∷ []))) at_start)
  pub whole : AllByRecursion (IsWhole script (blocks_after script front s)) s.staging

abbrev pub LineStood : Meaning → Script → List Segment → List Segment → Type 0
LineStood meaning script front [] = Unit {0}
LineStood meaning script front (s ∷ ss) = ChunkStood meaning script front s
    × LineStood meaning script (front ++ s ∷ []) ss

stood_last : (meaning : Meaning) (script : Script) (front ss : List Segment) (s : Segment)
    → LineStood meaning script front ss → ChunkStood meaning script (front ++ ss) s
    → LineStood meaning script front (ss ++ s ∷ [])
stood_last meaning script front [] s h k = (subst (λ l. ChunkStood meaning script l s) (append-nil front) k, tt)
stood_last meaning script front (x ∷ ss) s h k = (
  h.0,
  stood_last meaning script (front ++ x ∷ []) ss s h.1
      (subst (λ l. ChunkStood meaning script l s) (sym (append_assoc front (x ∷ []) ss)) k),
)

stood_in : (meaning : Meaning) (script : Script) (before front : List Segment) (s : Segment) (back : List Segment)
    → LineStood meaning script before (front ++ s ∷ back) → ChunkStood meaning script (before ++ front) s
stood_in meaning script before [] s back h = subst (λ l. ChunkStood meaning script l s) (sym (append-nil before)) h.0
stood_in meaning script before (x ∷ front) s back h = subst (λ l. ChunkStood meaning script l s)
    (append_assoc before (x ∷ []) front) (stood_in meaning script (before ++ x ∷ []) front s back h.1)

pub stood_there : (meaning : Meaning) (script : Script) (front : List Segment) (s : Segment) (back : List Segment)
    → LineStood meaning script [] (front ++ s ∷ back) → ChunkStood meaning script front s
stood_there meaning script front s back h = stood_in meaning script [] front s back h

pub record Stood (meaning : Meaning) (script : Script) (v : Scene) : Type 0 where
  pub makes : Makes script v
  pub whole : AllByRecursion (IsWhole script v.blocks) v.open_chunk.staging
  pub line : LineStood meaning script [] v.handed

-- the open chunk, as it is handed over
hands_stood : (meaning : Meaning) (reading : Reading) (script : Script) (old : Core)
    → Kept meaning reading script old → Stood meaning script (scene old)
    → ChunkStood meaning script (handed old) old.open_chunk
hands_stood meaning reading script old k h =
    let blocks : blocks_after script (handed old) old.open_chunk ≡ old.blocks = ap (λ m. m.blocks) h.makes.made in
    let line : listed old ≡ flat (handed old ++ old.open_chunk ∷ []) = ap flat (segments_handed old) in
    let past : old.past ≡ joined (turns_of (handed old ++ old.open_chunk ∷ [])) = k.traced.past
    ∙ sym (joined_last (handed old) old.open_chunk) in
    record {
      stands =
          subst (λ b. Stands script (run_entries meaning (flat (handed old ++ old.open_chunk ∷ [])) zeros) b
          (in_order meaning script (joined (turns_of (handed old ++ old.open_chunk ∷ []))) at_start)) (sym blocks)
          (subst (λ l. Stands script (run_entries meaning l zeros) old.blocks
          (in_order meaning script (joined (turns_of (handed old ++ old.open_chunk ∷ []))) at_start)) line
          (subst (λ p. Stands script (run_entries meaning (listed old) zeros) old.blocks
          (in_order meaning script p at_start)) past k.good.stands));
      whole = subst (λ b. AllByRecursion (IsWhole script b) old.open_chunk.staging) (sym blocks) h.whole;
    }

module _ (meaning : Meaning) (reading : Reading) (script : Script) (lawful : IsLawful meaning script) where
  whole_item : (old : Core) (call item : ℕ) (ends : Bool) (play : Play) (bound : List Range) (turns : List Turn)
      (new : Core) → old.future ≡ Item call item ends play bound ∷ turns
      → (n : Plays reading script call item play bound (with_turn (Item call item ends play bound) turns old) new)
      → Kept meaning reading script old → AllByRecursion (IsWhole script old.blocks) old.open_chunk.staging
      → (let x = result_of reading script call item play bound
      (with_turn (Item call item ends play bound) turns old) new n in
      AllByRecursion (IsWhole script x.blocks) x.staging)
  whole_item old call item ends play bound turns new e n k h = by play place fits n
    where
      place : script.turns ≡ old.past ++ Item call item ends play bound ∷ turns
      place = sym (ap (λ l. old.past ++ l) (sym e) ∙ k.good.sound.position)

      fits : AllByRecursion (λ r. Fits meaning script old.past r × (r.from < r.to)) bound
      fits = lawful.fits old.past call item ends play bound turns place

      add : AllByRecursion (λ r. Fits meaning script old.past r × (r.from < r.to)) bound
          → AllByRecursion (IsWhole script old.blocks) (add_staging script old.blocks bound old.open_chunk.staging)
      add f = add_whole meaning script _ old.blocks old.past k.good.stands bound old.open_chunk.staging f h

      by : (play : Play) → script.turns ≡ old.past ++ Item call item ends play bound ∷ turns
          → AllByRecursion (λ r. Fits meaning script old.past r × (r.from < r.to)) bound
          → (n : Plays reading script call item play bound (with_turn (Item call item ends play bound) turns old) new)
          → (let x = result_of reading script call item play bound
          (with_turn (Item call item ends play bound) turns old) new n in
          AllByRecursion (IsWhole script x.blocks) x.staging)
      by (Create buffer bytes) at f n =
          let right = lawful.plays old.past call item ends (Create buffer bytes) bound turns at in
          let dead = right.2 in
          other_whole script old.blocks (updated buffer (Some n.0) old.blocks) old.open_chunk.staging
          (λ r b st is. stays_there old.blocks buffer (Some n.0) r b
          (λ s. both_ways ((in_order meaning script old.past at_start).live buffer) dead
          (k.good.stands.is_live buffer b (ap old.blocks (sym s) ∙ is))) is) h
      by (Discard buffer from bytes) at f n =
          let right = lawful.plays old.past call item ends (Discard buffer from bytes) bound turns at in
          other_whole script old.blocks (updated buffer (Some n.0) old.blocks) old.open_chunk.staging
          (λ r b st is. stays_there old.blocks buffer (Some n.0) r b
          (λ s. both_ways (script.is_staging r) (ap script.is_staging s
          ∙ not_staging meaning script lawful buffer right.1.0 right.1.1) st) is) h
      by (No_overwrite buffer from bytes) at f n = h
      by (Stage [] target skip) at f n = h
      by (Stage (b ∷ bs) None skip) at f n = add f
      by (Stage (b ∷ bs) (Some target) skip) at f n = add f
      by (Command w skip) at f n = add f
      by (Destroy buffer) at f n = without_whole script old.blocks buffer old.open_chunk.staging h
      by Create_shader at f n = h
      by (Mark_query query begins) at f n = h
      by Set_state at f n = add f

  pub stood_kinds : SceneKinds meaning reading script (Stood meaning script)
  stood_kinds =
      let m = makes_kinds meaning reading script lawful in
      record {
        started = record { makes = m.started; whole = tt; line = tt };
        hands = λ old due k h. record {
          makes = m.hands old due k h.makes;
          whole = tt;
          line =
              stood_last meaning script [] (scene old).handed old.open_chunk h.line
              (hands_stood meaning reading script old k h);
        };
        turns = λ v t n h. record { makes = m.turns v t n h.makes; whole = h.whole; line = h.line };
        reads = λ core call r h. record { makes = m.reads core call r h.makes; whole = h.whole; line = h.line };
        items = λ old call item ends play bound turns new e due n k h. record {
          makes = m.items old call item ends play bound turns new e due n k h.makes;
          whole = whole_item old call item ends play bound turns new e n k h.whole;
          line = h.line;
        };
      }
