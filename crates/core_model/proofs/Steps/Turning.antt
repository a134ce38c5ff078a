-- App goes past turns that add nothing to the open chunk: refused and passed calls, flushes, calls that are answered
-- as pending; and the end.
use Rattle.std.proofs.Common.{◌≡◌, ℕ, suc, ◌<◌, Bool, true, false, cond, ◌||◌, ◌≤◌, nat_le, List, [], ◌∷◌, ◌++◌, refl}
use Rattle.std.proofs.Common.{sym, ap, ◌∙◌, subst, inl, inr, Option, Some, None, append_assoc}
use Rattle.std.specs.List.{AllByRecursion}
use Rattle.std.proofs.lemmas.Bool.{both_ways}
use Rattle.std.proofs.lemmas.Bool.Decides.{leb_tells}
use Rattle.dx_types.specs.declared.range.Range.{Range}
use Rattle.vk_types.specs.declared.message.Placed.{Placed}
use Rattle.vk_types.specs.declared.message.QueryMark.{QueryMark}
use Rattle.vk_types.specs.declared.op.VkOp.{VkOp}
use Rattle.vk_types.specs.declared.op.VkOp.TheVariants as op
use Rattle.base_lemmas.specs.Lists.{Pairwise}
use Rattle.vk_types.specs.Memory.{zeros}
use Rattle.vk_types.specs.Effects.{Meaning}
use Rattle.vk_types.specs.Entries.{EntriesCovered, run_entries}
use Rattle.base_lemmas.proofs.Lists.{all_append}
use Rattle.core_model.specs.Script.{Ask, Constant, Turn, Refused, Passed, Flushed, Asked, Item, Create_shader}
use Rattle.core_model.specs.Script.{Mark_query, is_plain, Script, InOrder, at_start, turn_in_order, in_order}
use Rattle.core_model.specs.Chunking.{is_due, chunks, cut}
use Rattle.core_model.specs.CoreState.{Segment, entries, flat, Core, segments, later, listed, done, open_number, Said}
use Rattle.core_model.specs.CoreState.{Value_said, Still_said, Refused_said, End_said, finished_count}
use Rattle.core_model.specs.Readings.{Reading}
use Rattle.core_model.specs.Adding.{has_block, with_turn, with_reply, placed_at}
use Rattle.core_model.specs.AppActs.{is_finished, used_or_zero, TakesTurn}
use Rattle.core_model.specs.OtherParts.{used_in}
use Rattle.core_model.specs.Stands.{Stands}
use Rattle.core_model.specs.Worlds.{empty, run_world}
use Rattle.core_model.specs.Listed.{IsListed, IsCounted}
use Rattle.core_model.specs.Invariant.{KnownIn, Numbered, IsShaped, BindsUses, IsFilled, listed_acts, turns_of}
use Rattle.core_model.specs.Invariant.{handed, NamesStaging, WritesElsewhere, Totals, IsAsked, IsRight, Good}
use Rattle.core_model.proofs.Listing.CoreListing.{pipeline_listed, pipeline_counted}
use Rattle.core_model.proofs.Steps.Segments.{segments_later}
use Rattle.core_model.proofs.Steps.Handing.{Elsewhere}

-- The last of the segments ------------------------------------------------------------------------------------------

pub all_last : {A : Type 0} (P : A → Type 0) (xs : List A) (a b : A) → (P a → P b) → AllByRecursion P (xs ++ a ∷ [])
    → AllByRecursion P (xs ++ b ∷ [])
all_last P [] a b f h = (f h.0, tt)
all_last P (x ∷ xs) a b f h = (h.0, all_last P xs a b f h.1)

pub pairs_last : {A : Type 0} (R : A → A → Type 0) (xs : List A) (a b : A) → ((x : A) → R x a → R x b)
    → Pairwise R (xs ++ a ∷ []) → Pairwise R (xs ++ b ∷ [])
pairs_last R [] a b f h = (tt, tt)
pairs_last R (x ∷ xs) a b f h = (all_last (R x) xs a b (f x) h.0, pairs_last R xs a b f h.1)

pub numbered_last : (k : ℕ) (xs : List Segment) (a b : Segment)
    → ((n : ℕ) → AllByRecursion (λ x. x.chunk ≡ n) (entries a) → AllByRecursion (λ x. x.chunk ≡ n) (entries b))
    → Numbered k (xs ++ a ∷ []) → Numbered k (xs ++ b ∷ [])
numbered_last k [] a b f h = (f (suc k) h.0, tt)
numbered_last k (x ∷ xs) a b f h = (h.0, numbered_last (suc k) xs a b f h.1)

pub flat_last : (xs : List Segment) (a b : Segment) → entries a ≡ entries b → flat (xs ++ a ∷ []) ≡ flat (xs ++ b ∷ [])
flat_last [] a b e = ap (λ l. l ++ []) e
flat_last (x ∷ xs) a b e = ap (λ l. entries x ++ l) (flat_last xs a b e)

pub used_last : (xs : List Segment) (a b : Segment) (block : ℕ) → a.bound ≡ b.bound
    → used_in (xs ++ a ∷ []) block ≡ used_in (xs ++ b ∷ []) block
used_last [] a b block e = ap (λ l. has_block block l || false) e
used_last (x ∷ xs) a b block e = ap (λ c. has_block block x.bound || c) (used_last xs a b block e)

-- the open chunk is the last of all
pub segments_handed : (core : Core) → segments core ≡ (core.taken ++ later core) ++ core.open_chunk ∷ []
segments_handed core = segments_later core ∙ sym (append_assoc core.taken (later core) (core.open_chunk ∷ []))

-- what was taken in order -------------------------------------------------------------------------------------------

pub in_order-append : (meaning : Meaning) (script : Script) (xs ys : List Turn) (s : InOrder)
    → in_order meaning script (xs ++ ys) s ≡ in_order meaning script ys (in_order meaning script xs s)
in_order-append meaning script [] ys s = refl
in_order-append meaning script (x ∷ xs) ys s = in_order-append meaning script xs ys (turn_in_order meaning script x s)

-- App goes past a turn
module _ (meaning : Meaning) (reading : Reading) (script : Script) (old : Core) (t : Turn) (turns : List Turn)
    (e : old.future ≡ t ∷ turns) (g : Good meaning reading script old) where
  -- the place of the turn in the script
  pub here : script.turns ≡ old.past ++ t ∷ turns
  here = sym (ap (λ l. old.past ++ l) (sym e) ∙ g.sound.position)

  -- the position behind it
  pub behind_turn : (old.past ++ t ∷ []) ++ turns ≡ script.turns
  behind_turn = append_assoc old.past (t ∷ []) turns ∙ sym here

  -- a turn that does not end the chunk joins it
  pub cut_on : is_due script old.open_chunk.turns old.future ≡ false
      → chunks script ≡ turns_of (handed old) ++ cut script (old.open_chunk.turns ++ t ∷ []) turns
  cut_on due = g.sound.cut ∙ ap (λ l. turns_of (handed old) ++ l)
      (ap (cut script old.open_chunk.turns) e
      ∙ ap (λ d. cond d (old.open_chunk.turns ∷ cut script (t ∷ []) turns)
      (cut script (old.open_chunk.turns ++ t ∷ []) turns))
      (subst (λ l. is_due script old.open_chunk.turns l ≡ false) e due))

-- the in-order state differs in nothing that a live buffer or a count of invocations shows
pub record SameShown (before after : InOrder) : Type 0 where
  pub live : after.live ≡ before.live
  pub bytes : after.bytes ≡ before.bytes
  pub total : after.total ≡ before.total

stands_shown : (script : Script) (memory : ℕ → ℕ → ℕ) (blocks : ℕ → Option ℕ) (before after : InOrder)
    → SameShown before after → Stands script memory blocks before → Stands script memory blocks after
stands_shown script memory blocks before after same st = record {
  has_block = λ r h. st.has_block r (ap (λ f. f r) (sym same.live) ∙ h);
  is_live = λ r b h. ap (λ f. f r) same.live ∙ st.is_live r b h;
  own = st.own;
  bytes = λ r b i h l. st.bytes r b i h l ∙ ap (λ f. f r i) (sym same.bytes);
}

-- App takes a turn whose item, if it has one, gives the open chunk no commands, writes or bound ranges
module _ (meaning : Meaning) (reading : Reading) (script : Script) (old : Core) (t : Turn) (turns : List Turn)
    (placed : List Placed) (queries : List QueryMark)
    (e : old.future ≡ t ∷ turns) (due : is_due script old.open_chunk.turns old.future ≡ false) where
  abbrev turned : Core
  turned = record old {
    past = old.past ++ t ∷ [];
    future = turns;
    open_chunk = record old.open_chunk { turns = old.open_chunk.turns ++ t ∷ []; placed = placed; queries = queries };
  }

  abbrev front : List Segment
  front = old.taken ++ later old

  turned_listed : listed turned ≡ listed old
  turned_listed = ap flat (segments_handed turned) ∙ flat_last front turned.open_chunk old.open_chunk refl
      ∙ ap flat (sym (segments_handed old))

  turned_all : (P : Segment → Type 0) → (P old.open_chunk → P turned.open_chunk) → AllByRecursion P (segments old)
      → AllByRecursion P (segments turned)
  turned_all P f h = subst (AllByRecursion P) (sym (segments_handed turned))
      (all_last P front old.open_chunk turned.open_chunk f (subst (AllByRecursion P) (segments_handed old) h))

  pub turned_good : ((s : InOrder) → SameShown s (turn_in_order meaning script t s))
      → Good meaning reading script old → Good meaning reading script turned
  turned_good quiet g =
      let s = g.sound in
      let before = in_order meaning script old.past at_start in
      let after : in_order meaning script (old.past ++ t ∷ []) at_start ≡ turn_in_order meaning script t before =
      in_order-append meaning script old.past (t ∷ []) at_start in
      record {
        sound = record {
          position = behind_turn meaning reading script old t turns e g;
          cut = cut_on meaning reading script old t turns e g due;
          sizes = s.sizes;
          bounded = s.bounded;
          grows = s.grows;
          counted = s.counted;
          fence = s.fence;
          covered = subst EntriesCovered (sym turned_listed) s.covered;
          known = subst (AllByRecursion (KnownIn old)) (sym turned_listed) s.known;
          since = s.since;
          numbered = subst (Numbered 0) (sym (segments_handed turned))
              (numbered_last 0 front old.open_chunk turned.open_chunk (λ n h. h)
              (subst (Numbered 0) (segments_handed old) s.numbered));
          shaped = turned_all IsShaped (λ h. h) s.shaped;
          binds = turned_all BindsUses (λ h. h) s.binds;
          filled = subst (AllByRecursion IsFilled) (sym turned_listed) s.filled;
          within = s.within;
          device = s.device;
          whole = s.whole;
          order = s.order;
          snaps = s.snaps;
          copies = λ r b st is n i l.
              s.copies r b st is (used_last (later old) old.open_chunk turned.open_chunk b refl ∙ n) i l
              ∙ ap (λ l. run_entries meaning l zeros b i) (sym turned_listed);
          names = turned_all (NamesStaging script old.blocks) (λ h. h) s.names;
          elsewhere = subst WritesElsewhere (sym (segments_handed turned))
              (pairs_last Elsewhere front old.open_chunk turned.open_chunk (λ x h. h)
              (subst WritesElsewhere (segments_handed old) s.elsewhere));
        };
        stands =
            subst (Stands script (run_entries meaning (listed turned) zeros) old.blocks) (sym after)
            (stands_shown script (run_entries meaning (listed turned) zeros) old.blocks before
            (turn_in_order meaning script t before) (quiet before)
            (subst (λ l. Stands script (run_entries meaning l zeros) old.blocks before) (sym turned_listed) g.stands));
        live = g.live;
        totals =
            subst (Totals (run_world meaning (listed turned) empty).counts old.commands) (sym after)
            (let t : Totals (run_world meaning (listed turned) empty).counts old.commands before =
            subst (λ l. Totals (run_world meaning l empty).counts old.commands before) (sym turned_listed) g.totals in
            record { total = (quiet before).total ∙ t.total; above = t.above });
        replies = g.replies;
      }

pub shown_same : (s : InOrder) → SameShown s s
shown_same s = record { live = refl; bytes = refl; total = refl }

-- a core is good with another listing, fence, end and replies, where these are right
pub told_good : (meaning : Meaning) (reading : Reading) (script : Script) (old : Core) (listing : List VkOp)
    (fence : ℕ) (ended : Bool) (replies : List Said)
    → IsListed old.is_staging listing old.open_chunk.ops old.contents old.recent old.open_chunk.commands
    (open_number old) (listed_acts old)
    → IsCounted listing old.open_chunk.ops fence old.host_acts old.epoch → fence ≤ finished_count old
    → AllByRecursion (IsRight meaning script) replies → Good meaning reading script old
    → Good meaning reading script (record old {
      listing = listing;
      fence = fence;
      ended = ended;
      replies = replies;
    })
told_good meaning reading script old listing fence ended replies grows counted finished right g =
    let s = g.sound in
    record {
      sound = record {
        position = s.position;
        cut = s.cut;
        sizes = s.sizes;
        bounded = s.bounded;
        grows = grows;
        counted = counted;
        fence = finished;
        covered = s.covered;
        known = s.known;
        since = s.since;
        numbered = s.numbered;
        shaped = s.shaped;
        binds = s.binds;
        filled = s.filled;
        within = s.within;
        device = s.device;
        whole = s.whole;
        order = s.order;
        snaps = s.snaps;
        copies = s.copies;
        names = s.names;
        elsewhere = s.elsewhere;
      };
      stands = g.stands;
      live = g.live;
      totals = g.totals;
      replies = right;
    }

-- a pipeline stands behind the listing
pub pipeline_good : (meaning : Meaning) (reading : Reading) (script : Script) (old : Core) (call : ℕ)
    → Good meaning reading script old
    → Good meaning reading script (record old { listing = old.listing ++ op.Pipeline call ∷ [] })
pipeline_good meaning reading script old call g =
    let s = g.sound in
    told_good meaning reading script old (old.listing ++ op.Pipeline call ∷ []) old.fence old.ended old.replies
    (pipeline_listed old.is_staging old.listing old.open_chunk.ops old.contents old.recent old.open_chunk.commands
    (open_number old) (listed_acts old) s.grows call)
    (pipeline_counted call old.listing old.open_chunk.ops old.fence old.host_acts old.epoch s.counted) s.fence
    g.replies g

-- A reply is given, and the run may end
pub said_good : (meaning : Meaning) (reading : Reading) (script : Script) (core : Core) (ended : Bool) (said : Said)
    → IsRight meaning script said → Good meaning reading script core
    → Good meaning reading script (record core { ended = ended; replies = core.replies ++ said ∷ [] })
said_good meaning reading script core ended said right g =
    let s = g.sound in
    told_good meaning reading script core core.listing core.fence ended (core.replies ++ said ∷ []) s.grows s.counted
    s.fence (all_append (IsRight meaning script) core.replies (said ∷ []) g.replies (right, tt)) g

-- The acts ----------------------------------------------------------------------------------------------------------

module _ (meaning : Meaning) (reading : Reading) (script : Script) (old : Core) (turns : List Turn)
    (due : is_due script old.open_chunk.turns old.future ≡ false) where
  -- a turn without an item
  bare_good : (t : Turn) → old.future ≡ t ∷ turns → ((s : InOrder) → SameShown s (turn_in_order meaning script t s))
      → Good meaning reading script old → Good meaning reading script (with_turn t turns old)
  bare_good t e quiet g = turned_good meaning reading script old t turns old.open_chunk.placed
      old.open_chunk.queries e due quiet g

  -- a call is answered
  pub answered_good : (call : ℕ) (ask : Ask) (used : Option ℕ) (may_pend : Bool)
      → old.future ≡ Asked call ask used may_pend ∷ turns → (said : Said)
      → (IsAsked script call ask used → IsRight meaning script said) → Good meaning reading script old
      → Good meaning reading script (with_reply said (with_turn (Asked call ask used may_pend) turns old))
  answered_good call ask used may_pend e said right g =
      let t = Asked call ask used may_pend in
      let place = here meaning reading script old t turns e g in
      said_good meaning reading script (with_turn t turns old) old.ended said
      (right (record { front = old.past; may_pend = may_pend; back = turns; here = place }))
      (bare_good t e shown_same g)

  refused_good : (call : ℕ) → old.future ≡ Refused call ∷ turns → Good meaning reading script old
      → Good meaning reading script (with_reply (Refused_said call) (with_turn (Refused call) turns old))
  refused_good call e g =
      let t = Refused call in
      said_good meaning reading script (with_turn t turns old) old.ended (Refused_said call)
      (old.past, turns, here meaning reading script old t turns e g) (bare_good t e shown_same g)

  -- a call that is answered as pending has a use that is not finished
  still_good : (call : ℕ) (ask : Ask) (used : Option ℕ) (may_pend : Bool)
      → old.future ≡ Asked call ask used may_pend ∷ turns → is_finished used (done old) ≡ false
      → Good meaning reading script old
      → Good meaning reading script (with_reply (Still_said call (used_or_zero used) (done old))
      (with_turn (Asked call ask used may_pend) turns old))
  still_good call ask None may_pend e f g = absurd (cc f)
  still_good call ask (Some used) may_pend e f g =
      let less : done old < used = elim (leb_tells used (done old))
      [ inl x ↦ absurd (both_ways (nat_le used (done old)) f x.0) | inr y ↦ y.1 ] in
      answered_good call ask (Some used) may_pend e (Still_said call used (done old)) (λ at. (ask, at, less)) g

pub plain_good : (meaning : Meaning) (reading : Reading) (script : Script) (old : Core) (t : Turn)
    (turns : List Turn) (new : Core) → is_plain t ≡ true
    → old.future ≡ t ∷ turns → is_due script old.open_chunk.turns old.future ≡ false
    → TakesTurn reading script t turns old new
    → Good meaning reading script old → Good meaning reading script new
plain_good meaning reading script old (Refused call) turns new h e due n g =
    subst (Good meaning reading script) (sym n) (refused_good meaning reading script old turns due call e g)
plain_good meaning reading script old (Passed call) turns new h e due n g =
    subst (Good meaning reading script) (sym n) (bare_good meaning reading script old turns due (Passed call) e
    shown_same g)
plain_good meaning reading script old (Flushed call) turns new h e due n g =
    subst (Good meaning reading script) (sym n) (bare_good meaning reading script old turns due (Flushed call) e
    shown_same g)
plain_good meaning reading script old (Asked call ask used may_pend) turns new h e due n g = absurd (cc h)
plain_good meaning reading script old (Item call item ends play bound) turns new h e due n g = absurd (cc h)

pub pending_good : (meaning : Meaning) (reading : Reading) (script : Script) (old : Core) (call : ℕ) (ask : Ask)
    (used : Option ℕ) (may_pend : Bool) (turns : List Turn)
    → old.future ≡ Asked call ask used may_pend ∷ turns → is_due script old.open_chunk.turns old.future ≡ false
    → is_finished used (done old) ≡ false
    → Good meaning reading script old → Good meaning reading script
    (with_reply (Still_said call (used_or_zero used) (done old))
    (with_turn (Asked call ask used may_pend) turns old))
pending_good meaning reading script old call ask used may_pend turns e due f g =
    still_good meaning reading script old turns due call ask used may_pend e f g

-- a query of a sort without a count is answered by its constant
pub constant_good : (meaning : Meaning) (reading : Reading) (script : Script) (old : Core) (call value : ℕ)
    (used : Option ℕ) (may_pend : Bool) (turns : List Turn) (new : Core)
    → old.future ≡ Asked call (Constant value) used may_pend ∷ turns
    → is_due script old.open_chunk.turns old.future ≡ false
    → TakesTurn reading script (Asked call (Constant value) used may_pend) turns old new
    → Good meaning reading script old → Good meaning reading script new
constant_good meaning reading script old call value used may_pend turns new e due (inl h) g =
    subst (Good meaning reading script) (sym h.1)
    (answered_good meaning reading script old turns due call (Constant value) used may_pend e
    (Value_said call value) (λ at. (Constant value, used, at, refl)) g)
constant_good meaning reading script old call value used may_pend turns new e due (inr h) g =
    subst (Good meaning reading script) (sym h.2) (still_good meaning reading script old turns due call
    (Constant value) used may_pend e h.0 g)

-- a shader is created, and its pipeline stands in the listing
pub shader_good : (meaning : Meaning) (reading : Reading) (script : Script) (old : Core) (call item : ℕ)
    (ends : Bool) (bound : List Range) (turns : List Turn) (new : Core)
    → old.future ≡ Item call item ends Create_shader bound ∷ turns
    → is_due script old.open_chunk.turns old.future ≡ false
    → TakesTurn reading script (Item call item ends Create_shader bound) turns old new
    → Good meaning reading script old → Good meaning reading script new
shader_good meaning reading script old call item ends bound turns new e due n g =
    let t = Item call item ends Create_shader bound in
    let placed = old.open_chunk.placed ++ placed_at call item None None None ∷ [] in
    subst (Good meaning reading script) (sym n)
    (pipeline_good meaning reading script (turned meaning reading script old t turns placed old.open_chunk.queries e
    due) call (turned_good meaning reading script old t turns placed old.open_chunk.queries e due shown_same g))

-- a query that counts is begun or ended
pub mark_good : (meaning : Meaning) (reading : Reading) (script : Script) (old : Core) (call item : ℕ) (ends : Bool)
    (query : ℕ) (begins : Bool) (bound : List Range) (turns : List Turn) (new : Core)
    → old.future ≡ Item call item ends (Mark_query query begins) bound ∷ turns
    → is_due script old.open_chunk.turns old.future ≡ false
    → TakesTurn reading script (Item call item ends (Mark_query query begins) bound) turns old new
    → Good meaning reading script old → Good meaning reading script new
mark_good meaning reading script old call item ends query begins bound turns new e due n g =
    let t = Item call item ends (Mark_query query begins) bound in
    let placed = old.open_chunk.placed ++ placed_at call item None None None ∷ [] in
    let queries = old.open_chunk.queries ++ record {
      call = call;
      query = query;
      begins = begins;
      before =
          suc old.commands;
    } ∷ [] in
    subst (Good meaning reading script) (sym n) (turned_good meaning reading script old t turns placed queries e due
    (λ s. shown s begins) g)
  where
    shown : (s : InOrder) (b : Bool)
        → SameShown s (turn_in_order meaning script (Item call item ends (Mark_query query b) bound) s)
    shown s true = record { live = refl; bytes = refl; total = refl }
    shown s false = record { live = refl; bytes = refl; total = refl }

pub end_good : (meaning : Meaning) (reading : Reading) (script : Script) (old : Core)
    → Good meaning reading script old → Good meaning reading script (with_reply End_said (record old { ended = true }))
end_good meaning reading script old g = said_good meaning reading script old true End_said tt g
