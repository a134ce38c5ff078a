-- The recorder stands for the state that an item leaves.
use Rattle.std.proofs.Common.{◌≡◌, ℕ, ◌-◌, Bool, true, false, cond, not, List, [], ◌∷◌, ◌++◌, length, map, refl, sym, ap, ◌∙◌}
use Rattle.std.proofs.Common.{Option, Some, None}
use Rattle.dx_types.specs.declared.range.Range.{Range}
use Rattle.dx_types.specs.declared.range.ResRange.{ResRange}
use Rattle.cs_chunk.specs.declared.entry.Entry.{Entry}
use Rattle.chunk_parts.specs.Chunks.{placed_of}
use Rattle.vk_types.specs.declared.message.Placed.{Placed}
use Rattle.vk_types.specs.declared.op.VkOp.TheVariants as op
use Rattle.core_model.specs.Script.{Play, Create, Discard, No_overwrite, Stage, Command, Destroy, Create_shader}
use Rattle.core_model.specs.Script.{Mark_query, Set_state, Turn, Item, Script}
use Rattle.core_model.specs.Chunking.{play_retires, play_stages}
use Rattle.core_model.specs.CoreState.{Core, Segment, Owner, Unmade, Home, Returning, Spare, Live, Retired, Paged}
use Rattle.core_model.specs.CoreState.{Dropped, has_class}
use Rattle.core_model.specs.Kept.{BlocksRight}
use Rattle.core_model.specs.Owners.{bind_owner}
use Rattle.core_model.specs.Playing.{Plays}
use Rattle.core_model.specs.Readings.{Reading}
use Rattle.core_model.specs.Renaming.{range_on}
use Rattle.core_model.specs.Adding.{add_staging, with_turn}
use Rattle.immediate_ctx.specs.AppState.{AppState}
use Rattle.immediate_ctx.specs.Due.{counted}
use Rattle.immediate_ctx.specs.Due as due
use Rattle.immediate_ctx.specs.Items.{overwrites, plain, with_shader, with_uses}
use Rattle.immediate_ctx.specs.Items as items
use Rattle.immediate_ctx.specs.OpenChunk.{Filled, staged_by, with_entry}
use Rattle.immediate_ctx.specs.Stands.{AppStands, AreLive, BlocksAre, IsPlain, OpenIs, PlaysTo, given_up, of_names}
use Rattle.immediate_ctx.specs.declared.counts.Counts.{Counts}
use Rattle.immediate_ctx.proofs.Counting.{counts_of-item}
use Rattle.immediate_ctx.proofs.Recording.{position_last}
use Rattle.immediate_ctx.proofs.Using.{named_all, used_all}

-- an entry of the open chunk, as its item's turn is taken
added_open : (script : Script) (is_staging : ℕ → Bool) (s : Segment) (f : Filled) (e : Entry) (retires : Bool)
    (call item : ℕ) (ends : Bool) (play : Play) (bound : List Range) → OpenIs script is_staging s f
    → play_retires script play ≡ retires → play_stages play ≡ staged_by e.staged
    → OpenIs script is_staging (record s {
      turns = s.turns ++ Item call item ends play bound ∷ [];
      placed = s.placed ++ placed_of e ∷ [];
    }) (with_entry e retires f)
added_open script is_staging s f e retires call item ends play bound st r n = record {
  counts = ap (counted retires (staged_by e.staged)) st.counts
      ∙ ap (λ (b : Bool). counted b (staged_by e.staged) (due.counts_of script s.turns)) (sym r)
      ∙ ap (λ (k : ℕ). counted (play_retires script play) k (due.counts_of script s.turns)) (sym n)
      ∙ sym (counts_of-item script s.turns call item ends play bound);
  placed = ap (λ (ps : List Placed). ps ++ placed_of e ∷ []) st.placed;
  named = st.named;
  used = st.used;
}

-- what is bound does not decide whether a block was given up
bound-given_up : (rs : List Range) (b : ℕ) (o : Owner) → given_up (bind_owner rs b o) ≡ given_up o
bound-given_up rs b Unmade = refl
bound-given_up rs b (Home k) = refl
bound-given_up rs b (Returning k) = refl
bound-given_up rs b Spare = refl
bound-given_up rs b (Live buffer since bound) = refl
bound-given_up rs b (Retired k since bound) = refl
bound-given_up rs b (Paged k since bound) = refl
bound-given_up rs b Dropped = refl

module _ (script : Script) (names : ℕ → ℕ) (core : Core) (s : AppState) (st : AppStands script names core s)
    (right : BlocksRight script core.blocks core.is_staging core.owner) where
  -- the open chunk with what ranges of live buffers use
  abbrev used_segment : List ResRange → Segment
  used_segment rs = record core.open_chunk {
    bound = core.open_chunk.bound ++ map (range_on core.blocks) (map (of_names names) rs);
    staging = add_staging script core.blocks (map (of_names names) rs) core.open_chunk.staging;
  }

  used_open : (rs : List ResRange) → AreLive s.buffers rs
      → OpenIs script core.is_staging (used_segment rs) (with_uses s.buffers rs s.open_chunk)
  used_open rs lives = record {
    counts = st.open_chunk.counts;
    placed = st.open_chunk.placed;
    named = named_all script core.blocks names s.buffers st.buffers rs s.open_chunk.named core.open_chunk.staging
        lives st.open_chunk.named;
    used = λ b staging.
        used_all script core.blocks names s.buffers st.buffers core.is_staging right.alike b staging rs
        s.open_chunk.used core.open_chunk.bound lives (st.open_chunk.used b staging);
  }

  bound_blocks : (rs : List Range) → BlocksAre core.board (λ b. bind_owner rs b (core.owner b)) s.blocks
  bound_blocks rs = record {
    made = st.blocks.made;
    marked = λ b k of_class e.
        st.blocks.marked b k of_class (sym (bound-given_up rs b (core.owner b)) ∙ e);
  }

  pub plain_stands : (reading : Reading) (call item : ℕ) (ends : Bool) (play : Play) (rs : List ResRange)
      (ts : List Turn) → AreLive s.buffers rs → IsPlain play rs
      → PlaysTo reading script names call item ends play rs ts core (plain call item ends rs s)
  plain_stands reading call item ends Set_state rs ts lives is = (
    _,
    refl,
    record {
      ended = st.ended;
      position = position_last core.open_chunk.turns (Item call item ends Set_state (map (of_names names) rs));
      flight = st.flight;
      open_chunk = added_open script core.is_staging (used_segment rs) (with_uses s.buffers rs s.open_chunk)
          (items.entry_at call item) false call item ends Set_state (map (of_names names) rs) (used_open rs lives)
          refl refl;
      pool = st.pool;
      buffers = st.buffers;
      blocks = bound_blocks (map (range_on core.blocks) (map (of_names names) rs));
    },
  )
  plain_stands reading call item ends (Command w skip) rs ts lives is = (
    _,
    refl,
    record {
      ended = st.ended;
      position = position_last core.open_chunk.turns (Item call item ends (Command w skip) (map (of_names names) rs));
      flight = st.flight;
      open_chunk =
          let o = added_open script core.is_staging (used_segment rs) (with_uses s.buffers rs s.open_chunk)
          (items.entry_at call item) false call item ends (Command w skip) (map (of_names names) rs)
          (used_open rs lives) refl refl in
          record { counts = o.counts; placed = o.placed; named = o.named; used = o.used };
      pool = st.pool;
      buffers = st.buffers;
      blocks = bound_blocks (map (range_on core.blocks) (map (of_names names) rs));
    },
  )
  plain_stands reading call item ends (Create buffer bytes) rs ts lives is = absurd is
  plain_stands reading call item ends (Discard buffer from bytes) rs ts lives is = absurd is
  plain_stands reading call item ends (No_overwrite buffer from bytes) rs ts lives is = absurd is
  plain_stands reading call item ends (Stage bytes target skip) rs ts lives is = absurd is
  plain_stands reading call item ends (Destroy buffer) rs ts lives is = absurd is
  plain_stands reading call item ends Create_shader rs ts lives is = absurd is
  plain_stands reading call item ends (Mark_query query begins) rs ts lives is = marked rs is
    where
      marked : (rs : List ResRange) → rs ≡ []
          → PlaysTo reading script names call item ends (Mark_query query begins) rs ts core (plain call item ends rs s)
      marked [] e = (
        _,
        refl,
        record {
          ended = st.ended;
          position = position_last core.open_chunk.turns (Item call item ends (Mark_query query begins) []);
          flight = st.flight;
          open_chunk =
              let o = added_open script core.is_staging core.open_chunk s.open_chunk (items.entry_at call item) false
              call item ends (Mark_query query begins) [] st.open_chunk refl refl in
              record { counts = o.counts; placed = o.placed; named = o.named; used = o.used };
          pool = st.pool;
          buffers = st.buffers;
          blocks = st.blocks;
        },
      )
      marked (r ∷ rs) e = absurd (cc e)

  pub shader_stands : (reading : Reading) (call : ℕ) (ts : List Turn)
      → PlaysTo reading script names call call true Create_shader [] ts core (with_shader call s)
  shader_stands reading call ts = (
    _,
    refl,
    record {
      ended = st.ended;
      position = position_last core.open_chunk.turns (Item call call true Create_shader []);
      flight = st.flight;
      open_chunk = added_open script core.is_staging core.open_chunk s.open_chunk (items.entry_at call call) false
          call call true Create_shader [] st.open_chunk refl refl;
      pool = st.pool;
      buffers = st.buffers;
      blocks = st.blocks;
    },
  )

  pub overwrite_stands : (reading : Reading) (call item : ℕ) (ends : Bool) (id from : ℕ) (bytes : List ℕ)
      (rs : List ResRange) (ts : List Turn)
      → PlaysTo reading script names call item ends (No_overwrite (names id) from bytes) rs ts core
      (overwrites call item ends id from (length bytes) s)
  overwrite_stands reading call item ends id from [] rs ts = (
    _,
    refl,
    record {
      ended = st.ended;
      position = position_last core.open_chunk.turns
          (Item call item ends (No_overwrite (names id) from []) (map (of_names names) rs));
      flight = st.flight;
      open_chunk = added_open script core.is_staging core.open_chunk s.open_chunk (items.entry_at call item) false
          call item ends (No_overwrite (names id) from []) (map (of_names names) rs) st.open_chunk refl refl;
      pool = st.pool;
      buffers = st.buffers;
      blocks = st.blocks;
    },
  )
  overwrite_stands reading call item ends id from (b ∷ bs) rs ts = (
    _,
    refl,
    record {
      ended = st.ended;
      position = position_last core.open_chunk.turns
          (Item call item ends (No_overwrite (names id) from (b ∷ bs)) (map (of_names names) rs));
      flight = st.flight;
      open_chunk =
          let o = added_open script core.is_staging core.open_chunk s.open_chunk (items.entry_at call item) false
          call item ends (No_overwrite (names id) from (b ∷ bs)) (map (of_names names) rs) st.open_chunk refl refl in
          record { counts = o.counts; placed = o.placed; named = o.named; used = o.used };
      pool = st.pool;
      buffers = st.buffers;
      blocks = st.blocks;
    },
  )
