-- A map that overwrites nothing that is in use: the bytes that it writes were bound by no item since the buffer's
-- block was taken.
use Rattle.std.proofs.Common.{◌≡◌, ℕ, ◌+◌, ◌-◌, ◌<◌, ◌≤◌, Bool, false, cond, List, [], ◌∷◌, ◌++◌, length, refl, sym}
use Rattle.std.proofs.Common.{ap, ◌∙◌, subst, inl, inr, Some, None, arith}
use Rattle.std.proofs.lemmas.Bool.{both_ways, cases_Bool}
use mathlib.Core.Path.{fun_ext}
use Rattle.dx_types.specs.declared.range.Range.{Range}
use Rattle.vk_types.specs.Memory.{Memory, covers, put, range, number_at, or_zero}
use Rattle.vk_types.specs.Effects.{Meaning, Host_write}
use Rattle.base_lemmas.proofs.Lists.{all_map}
use Rattle.vk_types.proofs.Local.{covered_block, covered_from, covered_to}
use Rattle.core_model.specs.Script.{No_overwrite, Turn, Item, Script, InOrder, at_start, turn_in_order, in_order}
use Rattle.core_model.specs.Chunking.{is_due}
use Rattle.core_model.specs.Renaming.{block_of}
use Rattle.core_model.specs.CoreState.{Owner, Unmade, Home, Returning, Spare, Live, Retired, Paged, Dropped, Core}
use Rattle.core_model.specs.CoreState.{taken_count, finished_count}
use Rattle.core_model.specs.Readings.{Reading}
use Rattle.core_model.specs.Adding.{has_block, new_entry, placed_at}
use Rattle.core_model.specs.AppActs.{TakesTurn}
use Rattle.core_model.specs.Worlds.{empty, world_step}
use Rattle.core_model.specs.Lawful.{is_bound, PlaysRightly, IsLawful}
use Rattle.core_model.specs.Invariant.{Allows, IsLive, Totals, Good}
use Rattle.core_model.specs.Kept.{IsTakenBy, bound_at, Names, Kept}
use Rattle.core_model.proofs.Steps.Turning.{turned_good}
use Rattle.core_model.proofs.Steps.Alike.{HasRange, put_alike}
use Rattle.core_model.proofs.Steps.Writing.{with_bytes, written_world, opened_write}
use Rattle.core_model.proofs.Steps.Opened.{before_open, Opened, opened, opened_turn}
use Rattle.core_model.proofs.Steps.Taking.{left_by, Meets, met, taken_good}

-- of a live block's byte that is not bound only chunks that a fence finished may touch it
pub live_old : (t f r fence i chunk : ℕ) (o : Owner) → IsLive r o → IsTakenBy fence o → bound_at o i ≡ false
    → Allows t f o i chunk → chunk ≤ fence
live_old t f r fence i chunk Unmade l b n a = absurd l
live_old t f r fence i chunk (Home k) l b n a = absurd l
live_old t f r fence i chunk (Returning k) l b n a = absurd l
live_old t f r fence i chunk Spare l b n a = absurd l
live_old t f r fence i chunk (Live buffer since bound) l b n (inl h) = omega (arith, h, b)
live_old t f r fence i chunk (Live buffer since bound) l b n (inr h) = absurd (both_ways (bound i) n h)
live_old t f r fence i chunk (Retired k since bound) l b n a = absurd l
live_old t f r fence i chunk (Paged k since bound) l b n a = absurd l
live_old t f r fence i chunk Dropped l b n a = absurd l

-- a put into no byte changes nothing
pub empty_put : (q : Range) (piece : ℕ → ℕ) (m : Memory) → q.to ≤ q.from → put q piece m ≡ m
empty_put q piece m l = fun_ext (λ b. fun_ext (λ i.
    elim (cases_Bool (covers q b i)) [
      | inl t ↦ let f = covered_from q b i t in let u = covered_to q b i t in
          absurd (let z : ⊥ = omega (arith, l, f, u) in z)
      | inr f ↦ ap (λ c. cond c (piece (i - q.from)) (m b i)) f
    ]))

module _ (meaning : Meaning) (reading : Reading) (script : Script) (lawful : IsLawful meaning script) (old : Core)
    (call item : ℕ) (ends : Bool) (buffer from : ℕ) (bound : List Range)
    (turns : List Turn) (due : is_due script old.open_chunk.turns old.future ≡ false)
    (k : Kept meaning reading script old) where
  abbrev g : Good meaning reading script old
  g = k.good

  abbrev before : InOrder
  before = in_order meaning script old.past at_start

  -- nothing is written
  none_good : (e : old.future ≡ Item call item ends (No_overwrite buffer from []) bound ∷ turns)
      → Good meaning reading script (record old {
        past = old.past ++ Item call item ends (No_overwrite buffer from []) bound ∷ [];
        future = turns;
        open_chunk = record old.open_chunk {
          turns = old.open_chunk.turns
              ++ Item call item ends (No_overwrite buffer from []) bound ∷ [];
          placed =
              old.open_chunk.placed ++ placed_at call item None None None ∷ [];
        };
      })
  none_good e =
      turned_good meaning reading script old (Item call item ends (No_overwrite buffer from []) bound) turns
      (old.open_chunk.placed ++ placed_at call item None None None ∷ []) old.open_chunk.queries e due
      (λ s. record {
        live = refl;
        bytes = empty_put (range buffer from (from + 0)) (number_at []) s.bytes
            (omega arith);
        total = refl;
      }) g

  module _ (byte : ℕ) (others : List ℕ) (e : old.future ≡ Item call item ends
      (No_overwrite buffer from (byte ∷ others)) bound ∷ turns) where
    abbrev bytes : List ℕ
    bytes = byte ∷ others

    abbrev turn : Turn
    turn = Item call item ends (No_overwrite buffer from bytes) bound

    abbrev taken : Core
    taken = record old {
      past = old.past ++ turn ∷ [];
      future = turns;
      open_chunk = record old.open_chunk {
        turns = old.open_chunk.turns ++ turn ∷ [];
        placed =
            old.open_chunk.placed ++ placed_at call item None None None ∷ [];
      };
    }

    abbrev target : Range
    target = range (block_of old.blocks buffer) from (from + length bytes)

    abbrev done : Core
    done = with_bytes call target bytes taken

    here : script.turns ≡ old.past ++ turn ∷ turns
    here = sym (ap (λ l. old.past ++ l) (sym e) ∙ g.sound.position)

    rightly : PlaysRightly meaning script old.past call (No_overwrite buffer from bytes)
    rightly = lawful.plays old.past call item ends (No_overwrite buffer from bytes) bound turns here

    m : Meets meaning script old before
    m = met meaning reading script old g

    -- the buffer's block
    block : (b : ℕ) × (old.blocks buffer ≡ Some b)
    block = g.stands.has_block buffer rightly.0.0

    at_block : target.block ≡ block.0
    at_block = ap or_zero block.1

    not_staging : script.is_staging buffer ≡ false
    not_staging =
        elim (cases_Bool (script.is_staging buffer)) [
          | inl t ↦ let c = rightly.1 in absurd (let z : None ≡ Some c.0 = sym (lawful.staging buffer t) ∙ c.1 in cc z)
          | inr f ↦ f
        ]

    -- what is written was not bound
    not_bound : (i : ℕ) → from ≤ i → i < from + length bytes → bound_at (old.owner block.0) i ≡ false
    not_bound i l u =
        elim (cases_Bool (bound_at (old.owner block.0) i)) [
          | inl t ↦ absurd (both_ways (is_bound buffer old.past false i) (rightly.2 i l u)
              (k.beside.bound buffer block.0 i block.1 t))
          | inr f ↦ f
        ]

    old_at : (i chunk : ℕ) → Allows (taken_count old) (finished_count old) (old.owner target.block) i chunk
        → target.from ≤ i → i < target.to → chunk ≤ old.fence
    old_at i chunk a l u =
        live_old (taken_count old) (finished_count old) buffer old.fence i chunk (old.owner block.0)
        (g.live buffer block.0 block.1) (k.beside.places.taken block.0) (not_bound i l u)
        (subst (λ b. Allows (taken_count old) (finished_count old) (old.owner b) i chunk) at_block a)

    taken_opened : Opened meaning script taken
    taken_opened =
        opened_turn meaning script old (opened meaning reading script old g.sound) (old.past ++ turn ∷ []) turns
        (old.open_chunk.turns ++ turn ∷ []) (old.open_chunk.placed ++ placed_at call item None None None ∷ [])
        old.open_chunk.queries

    long : length bytes ≡ target.to - target.from
    long = omega arith

    filled : target.from < target.to
    filled = omega arith

    done_opened : Opened meaning script done
    done_opened =
        opened_write meaning script taken taken_opened call target bytes long filled old_at
        (λ q b st is same.
        let buffers : q ≡ buffer = g.stands.own q buffer b is (block.1 ∙ ap Some (sym at_block ∙ same)) in
        absurd (both_ways (script.is_staging buffer) not_staging (ap script.is_staging (sym buffers) ∙ st)))
        (all_map (λ s. Names old.is_staging old.owner s.staging s.bound) (λ s. has_block target.block s.staging ≡ false)
        (λ s named.
        elim (cases_Bool (has_block target.block s.staging)) [
          | inl t ↦ absurd (both_ways (old.is_staging target.block) (ap old.is_staging at_block
              ∙ k.beside.blocks.alike buffer block.0 block.1 ∙ not_staging) (named.0 target.block t))
          | inr f ↦ f
        ])
        (before_open old) k.beside.named)

    in_buffer : HasRange script.size old.blocks m.stands.own (range buffer from (from + length bytes))
    in_buffer r i h =
        let same = covered_block (range buffer from (from + length bytes)) r i h in
        let u = covered_to (range buffer from (from + length bytes)) r i h in
        let fits = rightly.0.1 in
        let sized : script.size buffer ≡ script.size r = ap script.size same in
        (block.0, ap old.blocks (sym same) ∙ block.1, omega (arith, u, fits, sized))

    -- what is left now
    pub left_now : left_by meaning done ≡ world_step meaning (new_entry taken (Host_write target bytes))
        (left_by meaning old)
    left_now = written_world meaning script taken taken_opened call target bytes long filled old_at empty

    done_meets : Meets meaning script done (turn_in_order meaning script turn before)
    done_meets =
        record {
          stands = record {
            has_block = m.stands.has_block;
            is_live = m.stands.is_live;
            own = m.stands.own;
            bytes = λ r b i is l.
                ap (λ w. w.memory b i) left_now
                ∙ put_alike script.size old.blocks m.stands.own (range buffer from (from + length bytes)) in_buffer
                (number_at bytes) (number_at bytes) (λ k. refl) (left_by meaning old).memory before.bytes
                m.stands.bytes r b i is l;
          };
          live = g.live;
          totals = subst (λ f. Totals f old.commands (turn_in_order meaning script turn before))
              (sym (ap (λ w. w.counts) left_now)) (let t = m.totals in record { total = t.total; above = t.above });
        }

    some_good : Good meaning reading script done
    some_good = taken_good meaning reading script old done turn turns e due refl refl refl refl g done_opened done_meets

pub overwrite_good : (meaning : Meaning) (reading : Reading) (script : Script) → IsLawful meaning script
    → (old : Core) (call item : ℕ) (ends : Bool) (buffer from : ℕ) (bytes : List ℕ) (bound : List Range)
    (turns : List Turn) (new : Core) → old.future ≡ Item call item ends (No_overwrite buffer from bytes) bound ∷
    turns → is_due script old.open_chunk.turns old.future ≡ false
    → TakesTurn reading script (Item call item ends (No_overwrite buffer from bytes) bound) turns old new
    → Kept meaning reading script old → Good meaning reading script new
overwrite_good meaning reading script lawful old call item ends buffer from [] bound turns new e due n k =
    subst (Good meaning reading script) (sym n) (none_good meaning reading script lawful old call item ends buffer
    from bound turns due k e)
overwrite_good meaning reading script lawful old call item ends buffer from (byte ∷ others) bound turns new e due n k =
    subst (Good meaning reading script) (sym n) (some_good meaning reading script lawful old call item ends buffer
    from bound turns due k byte others e)
