-- What is made chunk by chunk is what the chunks have, in every state that steps reach.
use Rattle.std.proofs.Common.{◌≡◌, ℕ, suc, false, List, [], ◌∷◌, ◌++◌, length, refl, sym, ap, ◌∙◌, subst, inl, inr}
use Rattle.std.proofs.Common.{Option, Some, None, arith, append_assoc, append-nil, length-append}
use Rattle.std.proofs.lemmas.Bool.{cases_Bool}
use Rattle.dx_types.specs.declared.range.Range.{Range}
use Rattle.vk_types.specs.declared.message.Placed.{Placed}
use Rattle.vk_types.specs.Effects.{Meaning}
use Rattle.core_model.specs.Script.{Play, Create, Discard, No_overwrite, Stage, Command, Destroy, Create_shader}
use Rattle.core_model.specs.Script.{Mark_query, Set_state, Turn, Refused, Passed, Flushed, Asked, Item, Script}
use Rattle.core_model.specs.Script.{updated}
use Rattle.core_model.specs.Chunking.{is_entry, chunks, chunk_turns}
use Rattle.core_model.specs.Renaming.{BlockMap}
use Rattle.core_model.specs.CoreState.{Segment, Core}
use Rattle.core_model.specs.Readings.{Reading}
use Rattle.core_model.specs.AppActs.{device_commands}
use Rattle.core_model.specs.Playing.{HasBlock}
use Rattle.core_model.specs.Batching.{Written, Made, nothing_made, next_chunk, make_play, make_turns, make_chunks}
use Rattle.core_model.specs.Batching.{made, give_block, make_write, make_copy, make_staged}
use Rattle.vk_types.specs.declared.command.Cond.{Cond}
use Rattle.core_model.specs.Adding.{with_turn}
use Rattle.core_model.specs.Filling.{AreFilled}
use Rattle.core_model.specs.Lawful.{IsLawful}
use Rattle.core_model.specs.Invariant.{turns_of}
use Rattle.core_model.specs.Kept.{Kept}
use Rattle.core_model.specs.Succession.{PlacesPlay}
use Rattle.core_model.proofs.Messages.ScriptChunks.{turns_there}
use Rattle.core_model.proofs.Steps.Giving.{stocked, vacant, vacant_buffer}
use Rattle.core_model.proofs.Messages.Placements.{GivesTo, made_append, places_of}
use Rattle.core_model.proofs.Messages.ItemCases.{result_of}
use Rattle.core_model.proofs.Messages.Making.{made_of, play_made}
use Rattle.core_model.proofs.Messages.Scenes.{Scene, scene, SceneKinds}
use Rattle.core_model.proofs.Messages.Succeeding.{Gives, gives_kinds}

abbrev pub chunk_made : Script → Segment → Made → Made
chunk_made script s m = make_turns script s.turns s.placed (next_chunk m)

abbrev pub line_made : Script → List Segment → Made → Made
line_made script [] m = m
line_made script (s ∷ ss) m = line_made script ss (chunk_made script s m)

pub line_made_append : (script : Script) (xs ys : List Segment) (m : Made)
    → line_made script (xs ++ ys) m ≡ line_made script ys (line_made script xs m)
line_made_append script [] ys m = refl
line_made_append script (x ∷ xs) ys m = line_made_append script xs ys (chunk_made script x m)

-- what was made is the chunk's
pub record IsMadeOf (m : Made) (s : Segment) : Type 0 where
  pub ops : m.ops ≡ s.ops
  pub listed : m.listed ≡ device_commands s.commands
  pub staging : m.staging ≡ s.staging
  pub queries : m.queries ≡ s.queries
  pub filled : AreFilled m.writes s.writes

abbrev pub AreMadeOf : Script → Made → List Segment → Type 0
AreMadeOf script m [] = Unit {0}
AreMadeOf script m (s ∷ ss) = IsMadeOf (chunk_made script s m) s × AreMadeOf script (chunk_made script s m) ss

are_append : (script : Script) (xs ys : List Segment) (m : Made) → AreMadeOf script m xs
    → AreMadeOf script (line_made script xs m) ys → AreMadeOf script m (xs ++ ys)
are_append script [] ys m h k = k
are_append script (x ∷ xs) ys m h k = (h.0, are_append script xs ys (chunk_made script x m) h.1 k)

pub are_there : (script : Script) (front : List Segment) (s : Segment) (back : List Segment) (m : Made)
    → AreMadeOf script m (front ++ s ∷ back) → IsMadeOf (chunk_made script s (line_made script front m)) s
are_there script [] s back m h = h.0
are_there script (x ∷ front) s back m h = are_there script front s back (chunk_made script x m) h.1

-- chunks are made of the turns that the log has for them
chunks_made : (script : Script) (pre mid back : List Segment) (rest : List (List Turn)) (k : ℕ) (m : Made)
    → length pre ≡ k → chunks script ≡ turns_of (pre ++ (mid ++ back)) ++ rest
    → make_chunks script (suc k) (places_of mid) m ≡ line_made script mid m
chunks_made script pre [] back rest k m l e = refl
chunks_made script pre (s ∷ mid) back rest k m l e =
    let here = ap (λ n. make_turns script n s.placed (next_chunk m)) (ap (λ k. chunk_turns script (suc k)) (sym l)
    ∙ turns_there script pre s (mid ++ back) rest e) in
    let more : length (pre ++ s ∷ []) ≡ suc k = let z = length-append pre (s ∷ []) in omega (arith, z, l) in
    let again : chunks script ≡ turns_of ((pre ++ s ∷ []) ++ (mid ++ back)) ++ rest = e
    ∙ ap (λ l. turns_of l ++ rest) (sym (append_assoc pre (s ∷ []) (mid ++ back))) in
    ap (make_chunks script (suc (suc k)) (places_of mid)) here
    ∙ chunks_made script (pre ++ s ∷ []) mid back rest (suc k) (chunk_made script s m) more again

pub made_there : (script : Script) (front : List Segment) (s : Segment) (back : List Segment)
    (rest : List (List Turn)) → chunks script ≡ turns_of (front ++ s ∷ back) ++ rest
    → made script (places_of (front ++ s ∷ [])) ≡ chunk_made script s (line_made script front nothing_made)
made_there script front s back rest e =
    let again : chunks script ≡ turns_of ((front ++ s ∷ []) ++ back) ++ rest = e
    ∙ ap (λ l. turns_of l ++ rest) (sym (append_assoc front (s ∷ []) back)) in
    chunks_made script [] (front ++ s ∷ []) back rest 0 nothing_made refl again
    ∙ line_made_append script front (s ∷ []) nothing_made

-- Every state -------------------------------------------------------------------------------------------------------

pub record Makes (script : Script) (v : Scene) : Type 0 where
  pub gives : Gives script v
  pub handed : AreMadeOf script nothing_made v.handed
  pub writes : List Written
  pub made : make_turns script v.open_chunk.turns v.open_chunk.placed
      (next_chunk (line_made script v.handed nothing_made)) ≡ made_of writes v
  pub filled : AreFilled writes v.open_chunk.writes

-- a turn that is no item makes nothing
bare_made : (script : Script) (t : Turn) (m : Made) → is_entry t ≡ false → make_turns script (t ∷ []) [] m ≡ m
bare_made script (Refused call) m h = refl
bare_made script (Passed call) m h = refl
bare_made script (Flushed call) m h = refl
bare_made script (Asked call ask used may_pend) m h = refl
bare_made script (Item call item ends play bound) m h = absurd (cc h)

-- a block that a buffer takes is no staging buffer's
strange_block : (meaning : Meaning) (reading : Reading) (script : Script) → IsLawful meaning script → (old : Core)
    → Kept meaning reading script old → (t : Turn) (turns : List Turn) (block buffer : ℕ) (mid : Core)
    → HasBlock reading script buffer block (with_turn t turns old) mid → old.is_staging block ≡ false
strange_block meaning reading script lawful old k t turns block buffer mid has =
    elim (cases_Bool (old.is_staging block)) [
      | inl x ↦ absurd
          (vacant_buffer (old.owner block) (vacant reading script buffer block (with_turn t turns old) mid has
          lawful.classes (stocked old k.beside.places)) (k.beside.blocks.held block x).0)
      | inr f ↦ f
    ]

pub makes_kinds : (meaning : Meaning) (reading : Reading) (script : Script) → IsLawful meaning script
    → SceneKinds meaning reading script (Makes script)
makes_kinds meaning reading script lawful =
    let g = gives_kinds meaning reading script lawful in
    record {
      started = record { gives = g.started; handed = tt; writes = []; made = refl; filled = refl };
      hands = λ old due k h. record {
        gives = g.hands old due k h.gives;
        handed = are_append script (scene old).handed (old.open_chunk ∷ []) nothing_made h.handed (
          record {
            ops = ap (λ m. m.ops) h.made;
            listed = ap (λ m. m.listed) h.made;
            staging =
                ap (λ m. m.staging) h.made;
            queries = ap (λ m. m.queries) h.made;
            filled =
                subst (λ ws. AreFilled ws old.open_chunk.writes) (sym (ap (λ m. m.writes) h.made)) h.filled;
          },
          tt,
        );
        writes = [];
        made = ap next_chunk (line_made_append script (scene old).handed (old.open_chunk ∷ []) nothing_made ∙ h.made);
        filled = refl;
      };
      turns = λ v t n h. record {
        gives = g.turns v t n h.gives;
        handed = h.handed;
        writes = h.writes;
        made =
            let before = next_chunk (line_made script v.handed nothing_made) in
            ap (λ ps. make_turns script (v.open_chunk.turns ++ t ∷ []) ps before) (sym (append-nil v.open_chunk.placed))
            ∙ made_append script v.open_chunk.turns (t ∷ []) v.open_chunk.placed [] h.gives.0 v.blocks before h.gives.2
            ∙ bare_made script t (make_turns script v.open_chunk.turns v.open_chunk.placed before) n ∙ h.made;
        filled = h.filled;
      };
      reads = λ core call r h. record {
        gives = h.gives;
        handed = h.handed;
        writes = h.writes;
        made =
            h.made;
        filled = h.filled;
      };
      items = λ old call item ends play bound turns new e due n k h.
          let t = Item call item ends play bound in
          let x = result_of reading script call item play bound (with_turn t turns old) new n in
          let place : script.turns ≡ old.past ++ t ∷ turns =
          sym (ap (λ l. old.past ++ l) (sym e) ∙ k.good.sound.position) in
          let made = play_made meaning reading script lawful old.past call item play bound (with_turn t turns old)
          new n (lawful.plays old.past call item ends play bound turns place)
          (λ block buffer mid has. strange_block meaning reading script lawful old k t turns block buffer mid has)
          h.writes h.filled in
          let v = scene old in
          let before = next_chunk (line_made script v.handed nothing_made) in
          record {
            gives = g.items old call item ends play bound turns new e due n k h.gives;
            handed = h.handed;
            writes = made.0;
            made = made_append script v.open_chunk.turns (t ∷ []) v.open_chunk.placed (x.placed ∷ []) h.gives.0
                v.blocks before h.gives.2
                ∙ ap (make_play script call play bound x.placed) h.made ∙ made.1;
            filled = made.2;
          };
    }

-- The blocks that are made are those that the places give -----------------------------------------------------------

pub made_blocks : (script : Script) (ts : List Turn) (ps : List Placed) (old new : BlockMap) (m : Made)
    → GivesTo script ts ps old new → m.blocks ≡ old → (make_turns script ts ps m).blocks ≡ new
made_blocks script [] ps old new m h e = e ∙ sym h.1
made_blocks script (Refused call ∷ ts) ps old new m h e = made_blocks script ts ps old new m h e
made_blocks script (Passed call ∷ ts) ps old new m h e = made_blocks script ts ps old new m h e
made_blocks script (Flushed call ∷ ts) ps old new m h e = made_blocks script ts ps old new m h e
made_blocks script (Asked call ask used may_pend ∷ ts) ps old new m h e = made_blocks script ts ps old new m h e
made_blocks script (Item call item ends play bound ∷ ts) ps old new m h e =
    ap (λ l. (make_turns script (Item call item ends play bound ∷ ts) l m).blocks) h.2
    ∙ made_blocks script ts h.1 h.3 new (make_play script call play bound h.0 m) h.7 (by_play play h.0 h.3 h.4)
  where
    given : (buffer b : ℕ) (p : Placed) → p.block ≡ Some b → (give_block script buffer p.block m).blocks
        ≡ updated buffer (Some b) old
    given buffer b p f = ap (λ o. (give_block script buffer o m).blocks) f ∙ ap (updated buffer (Some b)) e

    write_blocks : (r : Range) (bytes : List ℕ) (m : Made) → (make_write r bytes m).blocks ≡ m.blocks
    write_blocks r [] m = refl
    write_blocks r (b ∷ bs) m = refl

    copy_blocks : (call : ℕ) (source : Range) (target : Option Range) (skip : Option Cond) (m : Made)
        → (make_copy call source target skip m).blocks ≡ m.blocks
    copy_blocks call source None skip m = refl
    copy_blocks call source (Some target) skip m = refl

    staged_blocks : (bytes : List ℕ) (target : Option Range) (skip : Option Cond) (staged : Option Range)
        → (make_staged script call bytes target skip bound staged m).blocks ≡ m.blocks
    staged_blocks bytes target skip None = refl
    staged_blocks bytes target skip (Some source) = copy_blocks call source target skip (make_write source bytes m)
        ∙ write_blocks source bytes m

    by_play : (play : Play) (p : Placed) (after : BlockMap) → PlacesPlay script play p old after
        → (make_play script call play bound p m).blocks ≡ after
    by_play (Create buffer bytes) p after k = write_blocks _ bytes (give_block script buffer p.block m)
        ∙ given buffer k.0 p k.1 ∙ sym k.5
    by_play (Discard buffer from bytes) p after k = write_blocks _ bytes (give_block script buffer p.block m)
        ∙ given buffer k.0 p k.1 ∙ sym k.5
    by_play (No_overwrite buffer from bytes) p after k = write_blocks _ bytes m ∙ e ∙ sym k.1
    by_play (Stage bytes target skip) p after k = staged_blocks bytes target skip p.staged ∙ e ∙ sym k.3
    by_play (Command w skip) p after k = e ∙ sym k.1
    by_play (Destroy buffer) p after k = ap (updated buffer None) e ∙ sym k.3
    by_play Create_shader p after k = e ∙ sym k.1
    by_play (Mark_query query begins) p after k = e ∙ sym k.1
    by_play Set_state p after k = e ∙ sym k.1
