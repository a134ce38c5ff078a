-- What each turn of a script asks of what lives where it comes: its ranges fit, and a creation's buffer isn't live yet.
use Rattle.std.proofs.Common.{◌≡◌, ℕ, suc, ◌+◌, ◌<◌, ◌≤◌, Bool, true, false, List, [], ◌∷◌, ◌++◌, length, Option}
use Rattle.std.proofs.Common.{Some, None, refl, sym, ap, ◌∙◌, subst, inl, inr, arith}
use Rattle.std.specs.Prelude.{is_some, if◌then◌else◌}
use Rattle.std.specs.List.{AllByRecursion}
use Rattle.std.proofs.lemmas.Bool.{both_ways}
use Rattle.dx_types.specs.declared.range.Range.{Range}
use Rattle.dx_types.specs.declared.range.ResRange.{ResRange}
use Rattle.dx_types.specs.declared.shape.Shape.{Shape}
use Rattle.vk_types.specs.Memory.{range}
use Rattle.call_log.specs.Call.{Issued}
use Rattle.d3d_model.specs.Resource.{Buffers, is_staging, class_of, size_of, is_one}
use Rattle.d3d_model.specs.D3dState.{buffer_of}
use Rattle.d3d_model.specs.Past.{Past}
use Rattle.d3d_model.specs.InOrder.{after_calls}
use Rattle.core_model.specs.Script.{Play, Create, Discard, No_overwrite, Stage, Command, Destroy, Create_shader}
use Rattle.core_model.specs.Script.{Mark_query, Set_state, Ask, Bytes, Count, Constant, Turn, Asked, Item, at_start}
use Rattle.core_model.specs.Script.{in_order}
use Rattle.core_model.specs.Chunking.{call_of}
use Rattle.core_model.specs.OtherParts.{created, is_among}
use Rattle.core_model.specs.Formed.{PlayIsFormed}
use Rattle.core_model.specs.Lawful.{play_shaders, Fits, UsesRightly, AsksRightly, PlaysRightly}
use Rattle.log_script.specs.Makers.{maker, of_makers}
use Rattle.log_script.specs.Turns.{turns_of}
use Rattle.log_script.specs.LogScript.{shape_made, class_if, meaning_of, turns_upto, script_of}
use Rattle.log_script.specs.Fitting.{LivesAndFits}
use Rattle.log_script.specs.FittingTurns.{RunsLive, ReadFits, WriteFits, PlayFits, TurnFits}
use Rattle.log_script.proofs.Owed.BufferSteps.{turn_keeps, KeepLive, id_made, Step, step_at}
use Rattle.log_script.proofs.Owed.BufferMakers.{all_made, some_of}
use Rattle.log_script.proofs.Owed.LiveBuffers.{AreLive}
use Rattle.log_script.proofs.Owed.Fronts.{same_head, same_tail}
use Rattle.log_script.proofs.Owed.TurnsMet.{no_turn, turn_of_turns, live_met}
use Rattle.log_script.proofs.Owed.EachTurn.{all_behind}
use Rattle.log_script.proofs.Owed.FittingTurns.{turns_fit}
use Rattle.log_script.proofs.Owed.StayingFit.{all_by}
use Rattle.log_script.proofs.Owed.CreatedShaders.{still_created, all_created}
use Rattle.log_script.proofs.Owed.QueriesInTurn.{script_right}
use Rattle.log_script.proofs.Owed.BoundLaws.{reads_its_last_use, overwrites_unbound}

-- ---- a turn in the state that its call meets

pub record Meets (log : List Issued) (front : List Turn) (t : Turn) : Type 0 where
  pub calls : ℕ
  pub live : AreLive (after_calls log calls).objects.buffers (after_calls log calls).past
      (in_order (meaning_of log) (script_of log) front at_start).live
  pub fits : TurnFits (after_calls log calls) (suc calls) (shape_made log (suc calls)) t
  -- what creates or destroys a buffer is a turn of this call
  pub number : turn_keeps t ≡ false → call_of t ≡ suc calls

one_turn : (u : Turn) (part : List Turn) (t : Turn) (rest : List Turn) → u ∷ [] ≡ part ++ t ∷ rest → t ≡ u
one_turn u [] t rest e = sym (same_head u t [] rest e)
one_turn u (p ∷ part) t rest e = absurd (no_turn part t rest (same_tail u p [] (part ++ t ∷ rest) e))

number_by : (n : ℕ) (made : Option Shape) (own : ℕ) (b : Buffers) (past : Past) (b' : Buffers) (past' : Past)
    (ts part : List Turn) (t : Turn) (rest : List Turn)
    → Step n made own b past b' past' ts → ts ≡ part ++ t ∷ rest → turn_keeps t ≡ false → call_of t ≡ n
number_by n made own b past b' past' ts part t rest (inl h) e off =
    absurd (both_ways (turn_keeps t) off (all_behind (λ (u : Turn). turn_keeps u ≡ true) part t rest
    (subst KeepLive e h.keeps)))
number_by n made own b past b' past' ts part t rest (inr (inl h)) e off =
    ap call_of (one_turn _ part t rest (sym h.turns ∙ e))
number_by n made own b past b' past' ts part t rest (inr (inr h)) e off =
    ap call_of (one_turn _ part t rest (sym h.turns ∙ e))

pub meets : (log : List Issued) (front : List Turn) (t : Turn) (back : List Turn)
    → (script_of log).turns ≡ front ++ t ∷ back → Meets log front t
meets log front t back e =
    let f = turn_of_turns log (length log) front t back e in
    let n : ℕ = f.calls in
    record {
      calls = n;
      live = live_met (meaning_of log) (script_of log) log (length log) front t f;
      fits =
          all_behind (TurnFits (after_calls log n) (suc n) (shape_made log (suc n))) f.part t f.rest
          (subst (AllByRecursion (TurnFits (after_calls log n) (suc n) (shape_made log (suc n)))) f.next_is
          (turns_fit log (suc n)));
      number =
          number_by (suc n) (shape_made log (suc n)) (id_made log (suc n)) (after_calls log n).objects.buffers
          (after_calls log n).past
          (after_calls log (suc n)).objects.buffers (after_calls log (suc n)).past (turns_of log (suc n)) f.part t
          f.rest (step_at log n) f.next_is;
    }

-- ---- what fits there

module _ (log : List Issued) (front : List Turn) (t : Turn) (m : Meets log front t) where
  -- the script knows a live buffer by its maker
  shape_is : (name id : ℕ) (shape : Shape) → name ≡ maker (after_calls log m.calls).past id
      → buffer_of (after_calls log m.calls).objects id ≡ Some shape → shape_made log name ≡ Some shape
  shape_is name id shape named lives = ap (λ (k : ℕ). shape_made log k) named
      ∙ (all_made log m.calls id shape lives).shape

  range_fits : (r : Range) (id : ℕ) (shape : Shape) → r.block ≡ maker (after_calls log m.calls).past id
      → buffer_of (after_calls log m.calls).objects id ≡ Some shape → r.to ≤ shape.size
      → Fits (meaning_of log) (script_of log) front r
  range_fits r id shape named lives inside = (
    m.live.shown r.block id (ap is_some lives) (sym named),
    omega (arith, inside, ap size_of (shape_is r.block id shape named lives)),
  )

  pub ranges_fit : (rs : List ResRange) → AllByRecursion (LivesAndFits (after_calls log m.calls).objects) rs
      → AllByRecursion (λ r. Fits (meaning_of log) (script_of log) front r
      × (r.from < r.to)) (of_makers (after_calls log m.calls).past rs)
  ranges_fit [] h = tt
  ranges_fit (r ∷ rs) h = (
    (
      range_fits (range (maker (after_calls log m.calls).past r.res) r.from r.to) r.res h.0.shape refl h.0.lives
          h.0.fits,
      h.0.has_byte,
    ),
    ranges_fit rs h.1,
  )

  -- the host writes a buffer that has a class
  write_fits : (buffer from to : ℕ) → WriteFits (after_calls log m.calls) buffer to
      → Fits (meaning_of log) (script_of log) front (range buffer from to)
      × ((class : ℕ) × ((script_of log).class buffer ≡ Some class))
  write_fits buffer from to h = (
    range_fits (range buffer from to) h.id h.shape h.named h.lives h.fits,
    (
      class_of h.shape.size,
      ap class_if (shape_is buffer h.id h.shape h.named h.lives)
          ∙ ap (λ (b : Bool). if b then Some (class_of h.shape.size) else None) h.dynamic,
    ),
  )

  destroys : (buffer id : ℕ) → buffer ≡ maker (after_calls log m.calls).past id
      → is_some (buffer_of (after_calls log m.calls).objects id) ≡ true
      → (in_order (meaning_of log) (script_of log) front at_start).live buffer ≡ true
  destroys buffer id named lives = m.live.shown buffer id lives (sym named)

  -- a later call made no buffer that lives
  not_live : (buffer : ℕ) → buffer ≡ suc m.calls → (in_order (meaning_of log) (script_of log) front at_start).live
      buffer ≡ false
  not_live buffer is = by_value ((in_order (meaning_of log) (script_of log) front at_start).live buffer) refl
    where
      by_value : (b : Bool) → (in_order (meaning_of log) (script_of log) front at_start).live buffer ≡ b → b ≡ false
      by_value false e = refl
      by_value true e =
          let f = m.live.found buffer e in
          let s = some_of (buffer_of (after_calls log m.calls).objects f.id) f.lives in
          absurd (omega (arith, f.made, is, (all_made log m.calls f.id s.0 s.1).last))

  read_fits : (source : Range) → ReadFits (after_calls log m.calls) source
      → AsksRightly (meaning_of log) (script_of log) front (Bytes source)
  read_fits source h = (
    range_fits source h.id h.shape h.named h.lives h.fits,
    ap (λ (o : Option Shape). is_one o (λ s. is_staging s.usage))
        (shape_is source.block h.id h.shape h.named h.lives) ∙ h.staging,
    h.has_byte,
  )

-- ---- each turn

pub asks_rightly : (log : List Issued) (front : List Turn) (call : ℕ) (ask : Ask) (used : Option ℕ)
    (may_pend : Bool) (back : List Turn)
    → (script_of log).turns ≡ front ++ Asked call ask used may_pend ∷ back
    → AsksRightly (meaning_of log) (script_of log) front ask
asks_rightly log front call (Bytes source) used may_pend back e =
    let m = meets log front (Asked call (Bytes source) used may_pend) back e in
    read_fits log front (Asked call (Bytes source) used may_pend) m source m.fits
asks_rightly log front call (Count query) used may_pend back e =
    let r = script_right log front (Asked call (Count query) used may_pend) back e in (r.1, r.2)
asks_rightly log front call (Constant value) used may_pend back e = tt

pub uses_rightly : (log : List Issued) (front : List Turn) (call : ℕ) (ask : Ask) (used : Option ℕ)
    (may_pend : Bool) (back : List Turn)
    → (script_of log).turns ≡ front ++ Asked call ask used may_pend ∷ back → UsesRightly front call ask used
uses_rightly log front call (Bytes source) used may_pend back e =
    reads_its_last_use log front call source used may_pend back e
uses_rightly log front call (Count query) used may_pend back e =
    (script_right log front (Asked call (Count query) used may_pend) back e).0
uses_rightly log front call (Constant value) used may_pend back e =
    script_right log front (Asked call (Constant value) used may_pend) back e

pub plays_rightly : (log : List Issued) (front : List Turn) (call item : ℕ) (ends : Bool) (play : Play)
    (bound : List Range) (back : List Turn)
    → (script_of log).turns ≡ front ++ Item call item ends play bound ∷ back
    → PlaysRightly (meaning_of log) (script_of log) front call play
plays_rightly log front call item ends (Create buffer bytes) bound back e =
    let t : Turn = Item call item ends (Create buffer bytes) bound in
    let m = meets log front t back e in
    let plays : PlayFits (after_calls log m.calls) (suc m.calls) (shape_made log (suc m.calls))
    (Create buffer bytes) = m.fits.plays in
    let here : buffer ≡ suc m.calls = plays.0 in (
      here ∙ sym (m.number refl),
      subst (λ (k : ℕ). length bytes ≤ size_of (shape_made log k)) (sym here) plays.1,
      not_live log front t m buffer here,
    )
plays_rightly log front call item ends (Discard buffer from bytes) bound back e =
    let t : Turn = Item call item ends (Discard buffer from bytes) bound in
    let m = meets log front t back e in write_fits log front t m buffer from (from + length bytes) m.fits.plays
plays_rightly log front call item ends (No_overwrite buffer from bytes) bound back e =
    let t : Turn = Item call item ends (No_overwrite buffer from bytes) bound in
    let m = meets log front t back e in
    let w = write_fits log front t m buffer from (from + length bytes) m.fits.plays in
    (w.0, w.1, overwrites_unbound log front call item ends buffer from bytes bound back e)
plays_rightly log front call item ends (Stage bytes target skip) bound back e =
    (meets log front (Item call item ends (Stage bytes target skip) bound) back e).fits.plays
plays_rightly log front call item ends (Command w skip) bound back e = tt
plays_rightly log front call item ends (Destroy buffer) bound back e =
    let t : Turn = Item call item ends (Destroy buffer) bound in
    let m = meets log front t back e in destroys log front t m buffer m.fits.plays.id m.fits.plays.named
    m.fits.plays.lives
plays_rightly log front call item ends Create_shader bound back e = tt
plays_rightly log front call item ends (Mark_query query begins) bound back e =
    script_right log front (Item call item ends (Mark_query query begins) bound) back e
plays_rightly log front call item ends Set_state bound back e = tt

pub bound_fits : (log : List Issued) (front : List Turn) (call item : ℕ) (ends : Bool) (play : Play)
    (bound : List Range) (back : List Turn)
    → (script_of log).turns ≡ front ++ Item call item ends play bound ∷ back
    → AllByRecursion (λ r. Fits (meaning_of log) (script_of log) front r × (r.from < r.to)) bound
bound_fits log front call item ends play bound back e =
    let t : Turn = Item call item ends play bound in
    let m = meets log front t back e in
    subst (AllByRecursion (λ r. Fits (meaning_of log) (script_of log) front r × (r.from < r.to)))
    (sym m.fits.binds.named)
    (ranges_fit log front t m m.fits.binds.ranges m.fits.binds.fit)

pub plays_formed : (log : List Issued) (front : List Turn) (call item : ℕ) (ends : Bool) (play : Play)
    (bound : List Range) (back : List Turn)
    → (script_of log).turns ≡ front ++ Item call item ends play bound ∷ back → PlayIsFormed play
plays_formed log front call item ends play bound back e =
    (meets log front (Item call item ends play bound) back e).fits.formed

-- the shader of a dispatch was created by an item before it
pub shaders_created : (log : List Issued) (front : List Turn) (call item : ℕ) (ends : Bool) (play : Play)
    (bound : List Range) (back : List Turn)
    → (script_of log).turns ≡ front ++ Item call item ends play bound ∷ back
    → AllByRecursion (λ shader. is_among shader (created front) ≡ true) (play_shaders play)
shaders_created log front call item ends play bound back e =
    let f = turn_of_turns log (length log) front (Item call item ends play bound) back e in
    let n : ℕ = f.calls in
    let here : TurnFits (after_calls log n) (suc n) (shape_made log (suc n)) (Item call item ends play bound) =
    all_behind (TurnFits (after_calls log n) (suc n) (shape_made log (suc n))) f.part
    (Item call item ends play bound) f.rest
    (subst (AllByRecursion (TurnFits (after_calls log n) (suc n) (shape_made log (suc n)))) f.next_is
    (turns_fit log (suc n))) in
    all_by (RunsLive (after_calls log n).objects.shaders) (λ shader. is_among shader (created front) ≡ true)
    (λ k r. subst (λ ts. is_among k (created ts) ≡ true) (sym f.front_is)
    (still_created k (turns_upto log n) f.part (subst (λ m. is_among m (created (turns_upto log n)) ≡ true) r.call
    (all_created log n r.id r.shader r.lives))))
    (play_shaders play) here.runs
