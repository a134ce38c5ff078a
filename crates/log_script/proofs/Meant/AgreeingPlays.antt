-- A call that may stand in a list: what Direct3D does to the memory, its play does in order.
use Rattle.std.proofs.Common.{◌≡◌, ℕ, ◌+◌, ◌*◌, ◌/◌, ◌<◌, ◌≤◌, ◌==◌, Bool, true, false, List, [], ◌∷◌, length, Option}
use Rattle.std.proofs.Common.{Some, None, refl, sym, ap, ◌∙◌, subst, inl, inr, arith}
use Rattle.std.specs.Prelude.{if◌then◌else◌}
use Rattle.std.proofs.lemmas.Bool.{ne_eqb}
use Rattle.dx_types.specs.declared.range.ResRange.{ResRange}
use Rattle.dx_types.specs.declared.shape.ViewShape.{ViewShape}
use Rattle.dx_types.specs.declared.shape.Form.{Form}
use Rattle.dx_types.specs.declared.shape.Form.TheVariants.{Raw, Structured, Typed}
use Rattle.vk_types.specs.declared.command.Groups.{Groups}
use Rattle.vk_types.specs.declared.command.Groups.TheVariants as groups
use Rattle.vk_types.specs.Effects.{group_counts}
use Rattle.call_log.specs.Call as calls
use Rattle.call_log.specs.Call.{Call, Issued}
use Rattle.base_lemmas.specs.IdMap.{get}
use Rattle.d3d_model.specs.Regions.{word_at}
use Rattle.d3d_model.specs.View.{view_range}
use Rattle.d3d_model.specs.Binding.{Bindings, BoundView}
use Rattle.d3d_model.specs.D3dState.{Objects, Memory, bindings_of, bound_if, bound_view}
use Rattle.d3d_model.specs.Past.{Past}
use Rattle.d3d_model.specs.Stream.{range_of}
use Rattle.d3d_model.specs.Effect.{queries_after, played}
use Rattle.d3d_model.specs.Memory.{unless_skipped, counts_at, dispatched, run}
use Rattle.d3d_model.proofs.Sized.{Sized}
use Rattle.core_model.specs.Script.{Script, InOrder, play_in_order}
use Rattle.log_script.specs.Makers.{maker, bytes_from}
use Rattle.log_script.specs.Plays.{predicated, dispatch, play_of}
use Rattle.log_script.specs.LogScript.{meaning_of}
use Rattle.log_script.specs.Fitting.{LivesAndFits, SetFits}
use Rattle.log_script.specs.Standing.{CallStands, WholeUnit, ViewWhole}
use Rattle.log_script.proofs.Meant.Showing.{word_at_place}
use Rattle.log_script.proofs.Owed.StayingFit.{RangesFit, OwnFits}
use Rattle.log_script.proofs.Owed.FittingStates.{StateFits, context_fits, fits_played}
use Rattle.log_script.proofs.Owed.QueryMaps.{flag}
use Rattle.log_script.proofs.Owed.QueryLists.{Ready}
use Rattle.log_script.proofs.Meant.AgreeingWrites.{Settled, held, bytes_are, Alike}
use Rattle.log_script.proofs.Meant.AgreeingCommands.{Inside, predicated_alike, staged_alike, region_alike, whole_alike}
use Rattle.log_script.proofs.Meant.AgreeingClears.{WholeWords, clears_alike, maps_alike}
use Rattle.log_script.proofs.Meant.AgreeingDispatch.{dispatched_alike}
use Rattle.log_script.proofs.Meant.AgreeingQueries.{begin_alike, end_alike}
use Rattle.log_script.proofs.Meant.AgreeingContexts.{EachSlots, slots_of, played_slots, ShadersKnown, creator_known}

-- ---- views of whole words

-- what a form and its unit say of an element
record WholeElement (form : Form) (unit : ℕ) : Type 0 where
  words : unit ≡ 4 * (unit / 4)
  raw : form ≡ Raw → unit ≡ 4
  some : 0 < unit / 4
  most : form ≡ Typed → unit / 4 ≤ 4

whole_element : (form : Form) (unit : ℕ) → WholeUnit form unit → WholeElement form unit
whole_element Raw unit e = record {
  words = omega (arith, e);
  raw = λ f. e;
  some = omega (arith, e);
  most =
      λ f. absurd cc;
}
whole_element Structured unit e = record {
  words = omega (arith, e.0);
  raw = λ f. absurd cc;
  some =
      omega (arith, e.1);
  most = λ f. absurd cc;
}
whole_element Typed unit (inl e) = record {
  words = omega (arith, e);
  raw = λ f. absurd cc;
  some =
      omega (arith, e);
  most = λ f. omega (arith, e);
}
whole_element Typed unit (inr (inl e)) = record {
  words = omega (arith, e);
  raw = λ f. absurd cc;
  some =
      omega (arith, e);
  most = λ f. omega (arith, e);
}
whole_element Typed unit (inr (inr e)) = record {
  words = omega (arith, e);
  raw = λ f. absurd cc;
  some =
      omega (arith, e);
  most = λ f. omega (arith, e);
}

pub whole_words : (v : ViewShape) → ViewWhole v → WholeWords v
whole_words v h = let e = whole_element v.form v.unit h.words in
    record { words = e.words; raw = e.raw; some = e.some; most = e.most }

-- ---- what is known of the objects that a call meets

pub record Known (log : List Issued) (script : Script) (past : Past) (o : Objects) : Type 0 where
  pub settled : Settled script past o
  pub fits : StateFits o
  pub slots : EachSlots o.contexts
  pub whole : (id : ℕ) (v : ViewShape) → get o.views id ≡ Some v → WholeWords v
  pub shaders : ShadersKnown log o.shaders

pub known_played : (log : List Issued) (script : Script) (past : Past) (n : ℕ) (o : Objects) (c : Call)
    → OwnFits o c → Known log script past o → Known log script past (played n o c)
known_played log script past n o c own h = record {
  settled = record { apart = h.settled.apart; sizes = h.settled.sizes };
  fits = fits_played n o c own h.fits;
  slots = played_slots n o c h.slots;
  whole = h.whole;
  shaders = h.shaders;
}

-- bytes that a call names
inside_of : (o : Objects) (res from len : ℕ) → RangesFit o (range_of res from len) → 0 < len → Inside o res (from + len)
inside_of o res from len h some =
    let r : ResRange = record { res = res; from = from; to = from + len } in
    let f : RangesFit o (r ∷ []) =
    subst (λ (b : Bool). RangesFit o (if b then [] else r ∷ []))
    (ne_eqb len 0 (λ e. absurd (let none : ⊥ = omega (arith, some, e) in none))) h in
    record { shape = f.0.shape; lives = f.0.lives; fits = f.0.fits }

shape_or : ViewShape → Option BoundView → ViewShape
shape_or v None = v
shape_or v (Some b) = b.shape

-- a view that is cleared
viewed : (o : Objects) → ((id : ℕ) (v : ViewShape) → get o.views id ≡ Some v → LivesAndFits o (view_range v))
    → ((id : ℕ) (v : ViewShape) → get o.views id ≡ Some v → WholeWords v) → (view : ℕ)
    → (b : BoundView) → bound_view o view ≡ Some b → LivesAndFits o (view_range b.shape) × WholeWords b.shape
unfolding shape_or
viewed o fits whole view b e = by_id (view == 0) e
  where
    by_view : (g : Option ViewShape) → get o.views view ≡ g → bound_if view g ≡ Some b
        → LivesAndFits o (view_range b.shape) × WholeWords b.shape
    by_view None f e = absurd cc
    by_view (Some v) f e =
        let same : v ≡ b.shape = ap (λ (o : Option BoundView). shape_or v o) e in
        subst (λ (k : ViewShape). LivesAndFits o (view_range k) × WholeWords k) same (fits view v f, whole view v f)

    by_id : (t : Bool) → (if t then None else bound_if view (get o.views view)) ≡ Some b
        → LivesAndFits o (view_range b.shape) × WholeWords b.shape
    by_id true e = absurd cc
    by_id false e = by_view (get o.views view) refl e

-- ---- a call

module _ (log : List Issued) (script : Script) (past : Past) (n : ℕ) (o : Objects) (m : Memory) (w : InOrder)
    (known : Known log script past o) (sized : Sized o m) (alike : Alike past o.queries m w) where
  abbrev set_now : Bindings
  set_now = bindings_of o 0

  set_fits : SetFits o set_now
  set_fits = (context_fits o 0 known.fits).set

  dispatches : (counts : Groups) (groups : List ℕ) → group_counts w.bytes counts ≡ groups
      → Alike past o.queries (unless_skipped m set_now.predicate (dispatched o set_now groups m))
      (play_in_order (meaning_of log) script (predicated past set_now.predicate
      (dispatch past o set_now counts)) w)
  dispatches counts groups same =
      predicated_alike (meaning_of log) script past o o.queries m w known.settled sized alike set_now.predicate
      set_fits.predicate (dispatch past o set_now counts) (dispatched o set_now groups m)
      (dispatched_alike log script past o o.queries m w known.settled sized alike set_now (slots_of o 0 known.slots)
      set_fits known.whole (creator_known log o.shaders known.shaders set_now.shader) counts groups same)

  -- the counts that stand at a place
  counts_same : (res offset : ℕ) → LivesAndFits o (record { res = res; from = offset; to = offset + 12 })
      → group_counts w.bytes (groups.Indirect (bytes_from past res offset 12)) ≡ counts_at m res offset
  counts_same res offset f =
      let h = held o m sized res f.shape f.lives in
      let room : offset + 12 ≤ length h.bytes = omega (arith, f.fits, h.long) in
      let shows = alike.shown res h.bytes h.found in
      let are = bytes_are m res h.bytes h.found in
      let name : ℕ = maker past res in
      let a = word_at_place w.bytes name offset (offset + 12) h.bytes shows room 0 offset (omega arith) (omega arith) in
      let b = word_at_place w.bytes name offset (offset + 12) h.bytes shows room 1 (offset + 4) (omega arith)
      (omega arith) in
      let c = word_at_place w.bytes name offset (offset + 12) h.bytes shows room 2 (offset + 8) (omega arith)
      (omega arith) in
      (λ i. a i ∷ b i ∷ c i ∷ [])
      ∙ ap (λ (l : List ℕ). word_at l offset ∷ word_at l (offset + 4) ∷ word_at l (offset + 8) ∷ []) (sym are)

  pub play_alike : (c : Call) → OwnFits o c → CallStands o c → Ready o.queries (λ q. flag (get o.queries q)) c
      → Alike past (queries_after n o.queries c) (run o m c)
      (play_in_order (meaning_of log) script (play_of past o set_now c) w)
  play_alike (calls.Dispatch x y z) own stands ready = dispatches (groups.Direct x y z) (x ∷ y ∷ z ∷ []) refl
  play_alike (calls.DispatchIndirect res offset) own stands ready =
      dispatches (groups.Indirect (bytes_from past res offset 12)) (counts_at m res offset)
      (counts_same res offset own.0)
  play_alike (calls.CopyRegion target to source from len) own stands ready =
      region_alike (meaning_of log) script past o o.queries m w known.settled sized alike set_now.predicate
      set_fits.predicate target to source from len
      (λ some. (inside_of o source from len own.0 some, inside_of o target to len own.1 some))
  play_alike (calls.Copy target source) own stands ready =
      whole_alike (meaning_of log) script past o o.queries m w known.settled sized alike set_now.predicate
      set_fits.predicate target source
      stands.both.from stands.both.into stands.both.source_lives stands.both.target_lives (sym stands.same_size)
  play_alike (calls.Update res offset bytes) own stands ready =
      staged_alike (meaning_of log) script past o o.queries m w known.settled sized alike set_now.predicate
      set_fits.predicate res offset bytes (λ some. inside_of o res offset (length bytes) own some)
  play_alike (calls.ClearUav view v0 v1 v2 v3) own stands ready =
      clears_alike (meaning_of log) script past o o.queries m w known.settled sized alike set_now.predicate
      set_fits.predicate (bound_view o view) v0 v1 v2 v3
      (viewed o (λ id v e. (known.fits.views id v e).fits) known.whole view)
  play_alike (calls.Begin query) own stands ready = begin_alike (meaning_of log) script past o.queries m w alike query
  play_alike (calls.EndQuery query) own stands ready = end_alike (meaning_of log) script past o.queries m w alike n
      query ready
  play_alike (calls.MapWrite res mode offset bytes) own stands ready =
      maps_alike (meaning_of log) script past o o.queries m w known.settled sized alike res mode offset bytes
      stands.shape stands.lives stands.inside
  play_alike _ own stands ready = alike
