-- The recorder stands for the state that the destroy of a live buffer leaves.
use Rattle.std.proofs.Common.{◌≡◌, ℕ, Bool, true, false, cond, not, ◌==◌, is_some, List, [], ◌∷◌, ◌++◌, map, refl, sym, ap, ◌∙◌}
use Rattle.std.proofs.Common.{Option, Some, None, inl, inr, arith}
use Rattle.std.specs.Option.{option_map}
use Rattle.std.specs.Ordering.{nat_cmp, eq_by_cmp}
use Rattle.std.proofs.lemmas.Bool.{cases_eq, eq-eqb, ne_eqb}
use Rattle.std.proofs.lemmas.Bool.Decides.{nat_tests}
use Rattle.base_lemmas.specs.IdMap as ids
use Rattle.base_lemmas.proofs.Maps.{get-remove, get_other, get_same, other_key}
use Rattle.dx_types.specs.declared.range.Range.{Range}
use Rattle.vk_types.specs.declared.message.Placed.{Placed}
use Rattle.chunk_parts.specs.Chunks.{placed_of}
use Rattle.core_model.specs.Script.{Destroy, Item, Script, Turn, updated}
use Rattle.core_model.specs.CoreState.{Core, Live, Owner, has_class, open_number}
use Rattle.core_model.specs.Adding.{without_block}
use Rattle.core_model.specs.Owners.{is_block, retire_owner, retired}
use Rattle.core_model.specs.Readings.{Reading}
use Rattle.immediate_ctx.specs.AppState.{AppState}
use Rattle.immediate_ctx.specs.ClassBlocks.{Made}
use Rattle.immediate_ctx.specs.Due.{counted}
use Rattle.immediate_ctx.specs.Due as due
use Rattle.immediate_ctx.specs.Flight as flight
use Rattle.immediate_ctx.specs.Items.{destroys}
use Rattle.immediate_ctx.specs.OpenChunk.{without}
use Rattle.immediate_ctx.specs.Stands.{AppStands, BlocksAre, BuffersAre, IsDestroyed, PlaysTo, given_up}
use Rattle.immediate_ctx.specs.declared.buffers.Buffer.{Buffer}
use Rattle.immediate_ctx.proofs.Counting.{counts_of-item}
use Rattle.immediate_ctx.proofs.Recording.{numbers_agree, position_last}

-- the blocks that are named, without one
named_without : (b : ℕ) (rs : List Range)
    → without b (map (λ (r : Range). r.block) rs) ≡ map (λ (r : Range). r.block) (without_block (Some b) rs)
named_without b [] = refl
named_without b (r ∷ rs) =
    elim (r.block == b) as (λ (c : Bool).
    cond (not c) (r.block ∷ without b (map (λ (q : Range). q.block) rs)) (without b (map (λ (q : Range). q.block) rs))
    ≡ map (λ (q : Range). q.block) (cond c (without_block (Some b) rs) (r ∷ without_block (Some b) rs))) [
      | true ↦ named_without b rs
      | false ↦ ap (λ (bs : List ℕ). r.block ∷ bs) (named_without b rs)
    ]

same_key : (k : ℕ) → eq_by_cmp nat_cmp k k ≡ true
same_key k = grind (arith, nat_tests)

some_back : {X : Type 0} (x y : X) → Some x ≡ Some y → x ≡ y
some_back x y e = cc

module _ (script : Script) (names : ℕ → ℕ) (core : Core) (s : AppState) (st : AppStands script names core s) (id : ℕ)
    (b : Buffer) (d : IsDestroyed names core.owner s.buffers id b) where
  at_block : core.blocks (names id) ≡ Some b.block
  at_block = sym (st.buffers.block id) ∙ ap (option_map (λ (c : Buffer). c.block)) d.live

  gone : (other : ℕ) → other ≡ id → ids.get (ids.remove s.buffers id) other ≡ None
  gone other same =
      get-remove s.buffers id other
      ∙ ap (λ (k : ℕ). cond (eq_by_cmp nat_cmp k id) None (ids.get s.buffers other)) same
      ∙ ap (λ (t : Bool). cond t None (ids.get s.buffers other)) (same_key id)

  kept : (other : ℕ) → (other ≡ id → ⊥) → ids.get (ids.remove s.buffers id) other ≡ ids.get s.buffers other
  kept other apart =
      get-remove s.buffers id other
      ∙ ap (λ (t : Bool). cond t None (ids.get s.buffers other)) (other_key other id apart)

  still : (other : ℕ) (c : Buffer) → ids.get (ids.remove s.buffers id) other ≡ Some c
      → ids.get s.buffers other ≡ Some c
  still other c e = elim (cases_eq other id) [
    | inl same ↦ absurd (none_some c (sym (gone other same) ∙ e))
    | inr apart ↦ sym (kept other apart) ∙ e
  ]
    where
      none_some : (c : Buffer) → None ≡ Some c → ⊥
      none_some c e = cc e

  block_after : (other : ℕ) → option_map (λ (c : Buffer). c.block) (ids.get (ids.remove s.buffers id) other)
      ≡ updated (names id) None core.blocks (names other)
  block_after other = elim (cases_eq other id) [
    | inl same ↦
        ap (option_map (λ (c : Buffer). c.block)) (gone other same)
        ∙ sym (ap (λ (t : Bool). cond t None (core.blocks (names other))) (eq-eqb (names other) (names id) (ap names same)))
    | inr apart ↦
        ap (option_map (λ (c : Buffer). c.block)) (kept other apart) ∙ st.buffers.block other
        ∙ sym (ap (λ (t : Bool). cond t None (core.blocks (names other)))
        (ne_eqb (names other) (names id) (λ e. apart (d.only other e))))
  ]

  buffers_after : BuffersAre script (updated (names id) None core.blocks) names (ids.remove s.buffers id)
  buffers_after = record {
    block = block_after;
    size = λ other c e. st.buffers.size other c (still other c e);
    class = λ other c e. st.buffers.class other c (still other c e);
    staging = λ other c e. st.buffers.staging other c (still other c e);
  }

  -- the owners afterwards
  abbrev owners : ℕ → Owner
  owners = retired (core.blocks (names id)) (open_number core) core.owner

  here : (at : ℕ) → at ≡ b.block → owners at ≡ retire_owner (open_number core) (core.owner b.block)
  here at same =
      ap (λ (o : Option ℕ). cond (is_block o at) (retire_owner (open_number core) (core.owner at)) (core.owner at)) at_block
      ∙ ap (λ (t : Bool). cond t (retire_owner (open_number core) (core.owner at)) (core.owner at))
      (eq-eqb at b.block same)
      ∙ ap (λ (k : ℕ). retire_owner (open_number core) (core.owner k)) same

  there : (at : ℕ) → (at ≡ b.block → ⊥) → owners at ≡ core.owner at
  there at apart =
      ap (λ (o : Option ℕ). cond (is_block o at) (retire_owner (open_number core) (core.owner at)) (core.owner at)) at_block
      ∙ ap (λ (t : Bool). cond t (retire_owner (open_number core) (core.owner at)) (core.owner at))
      (ne_eqb at b.block apart)

  -- the block is given up by the open chunk
  up : (at k : ℕ) → at ≡ b.block → given_up (owners at) ≡ Some k → k ≡ flight.open_number s.flight
  up at k same e =
      some_back k (flight.open_number s.flight)
      (sym e ∙ ap given_up (here at same ∙ ap (retire_owner (open_number core)) d.owned)
      ∙ ap (λ (n : ℕ). Some n) (sym (numbers_agree script names core s st)))

  other_mark : (at k : ℕ) → has_class at ≡ true → (at ≡ b.block → ⊥) → given_up (owners at) ≡ Some k
      → ids.get s.blocks.marks at ≡ Some k
  other_mark at k of_class apart e = st.blocks.marked at k of_class (sym (ap given_up (there at apart)) ∙ e)

  classless : (b.class ≡ None → has_class b.block ≡ false) → b.class ≡ None
      → (at k : ℕ) → has_class at ≡ true → given_up (owners at) ≡ Some k → ids.get s.blocks.marks at ≡ Some k
  classless own none at k of_class e = elim (cases_eq at b.block) [
    | inl same ↦ absurd (both (has_class at) of_class (ap has_class same ∙ own none))
    | inr apart ↦ other_mark at k of_class apart e
  ]
    where
      both : (t : Bool) → t ≡ true → t ≡ false → ⊥
      both t set unset = cc (sym set ∙ unset)

  classed : (at k : ℕ) → has_class at ≡ true → given_up (owners at) ≡ Some k
      → ids.get (ids.insert s.blocks.marks b.block (flight.open_number s.flight)) at ≡ Some k
  classed at k of_class e = elim (cases_eq at b.block) [
    | inl same ↦
        ap (ids.get (ids.insert s.blocks.marks b.block (flight.open_number s.flight))) same
        ∙ get_same s.blocks.marks b.block (flight.open_number s.flight) ∙ ap (λ (n : ℕ). Some n) (sym (up at k same e))
    | inr apart ↦
        get_other s.blocks.marks b.block (flight.open_number s.flight) at apart ∙ other_mark at k of_class apart e
  ]

  blocks_by : (class : Option ℕ) → b.class ≡ class → BlocksAre core.board owners
      (cond (is_some class) (record s.blocks { marks = ids.insert s.blocks.marks b.block (flight.open_number s.flight) })
      s.blocks)
  blocks_by None e = record { made = st.blocks.made; marked = classless d.own e }
  blocks_by (Some class) e = record { made = st.blocks.made; marked = classed }

  counted_as : (call : ℕ) → counted (is_some b.class) 0 s.open_chunk.counts
      ≡ due.counts_of script (core.open_chunk.turns ++ Item call call true (Destroy (names id)) [] ∷ [])
  counted_as call =
      ap (counted (is_some b.class) 0) st.open_chunk.counts
      ∙ ap (λ (t : Option ℕ). counted (is_some t) 0 (due.counts_of script core.open_chunk.turns))
      (sym (st.buffers.class id b d.live))
      ∙ sym (counts_of-item script core.open_chunk.turns call call true (Destroy (names id)) [])

  pub destroys_live : (reading : Reading) (call : ℕ) (ts : List Turn)
      → PlaysTo reading script names call call true (Destroy (names id)) [] ts core (destroys call id s)
  destroys_live reading call ts = (
    _,
    refl,
    rw (d.live) (record {
      ended = st.ended;
      position = position_last core.open_chunk.turns (Item call call true (Destroy (names id)) []);
      flight = st.flight;
      open_chunk = record {
        counts = counted_as call;
        placed =
            ap (λ (ps : List Placed). ps ++ record { call = call; item = call; block = None; mark = Some b.block; staged = None } ∷ []) st.open_chunk.placed
            ∙ ap (λ (o : Option ℕ). core.open_chunk.placed ++ record { call = call; item = call; block = None; mark = o; staged = None } ∷ []) (sym at_block);
        named =
            ap (without b.block) st.open_chunk.named ∙ named_without b.block core.open_chunk.staging
            ∙ ap (λ (o : Option ℕ). map (λ (r : Range). r.block) (without_block o core.open_chunk.staging)) (sym at_block);
        used = st.open_chunk.used;
      };
      pool = st.pool;
      buffers = buffers_after;
      blocks = blocks_by b.class refl;
    }),
  )
