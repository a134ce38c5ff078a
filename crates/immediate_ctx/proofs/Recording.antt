-- The recorder stands for the state that a turn without an entry, or a hand-over, leaves.
use Rattle.std.proofs.Common.{◌≡◌, ℕ, suc, ◌+◌, ◌-◌, Bool, true, false, cond, not, List, [], ◌∷◌, ◌++◌, length, map}
use Rattle.std.proofs.Common.{refl, sym, ap, ◌∙◌, append_assoc, subst, Option, Some, None, slice_get}
use Rattle.std.proofs.Common.{arith, ◌<◌, ◌≤◌, nat_lt, ◌&&◌}
use Rattle.std.proofs.lemmas.Bool.{cases_lt, lt-ltb}
use Rattle.std.proofs.Common.{◌⊎◌, inl, inr, zero}
use Rattle.std.proofs.lemmas.List.{length-map}
use Rattle.dx_types.specs.declared.range.Range.{Range}
use Rattle.cs_chunk.specs.declared.chunk.Chunk.{Chunk}
use Rattle.core_model.specs.Script.{Turn, Script}
use Rattle.core_model.specs.Chunking.{is_entry, call_of, ends_call, last_call, in_list, is_due, stops_next}
use Rattle.core_model.specs.CoreState.{Core, Segment, handed_count, later, open_number, taken_count}
use Rattle.core_model.specs.Readings.{In_threads, may_hand_over}
use Rattle.core_model.specs.Adding.{with_turn, has_block}
use Rattle.core_model.specs.AppActs.{handed_over}
use Rattle.core_model.specs.OtherParts.{is_among}
use Rattle.immediate_ctx.specs.AppState.{AppState, HandsOver, sent_of, with_passed, without_chunk}
use Rattle.immediate_ctx.specs.Due.{counts_of, is_due_by}
use Rattle.immediate_ctx.specs.Flight.{OnItsWay, OnTheirWay, awaited, upto_of, with_sent}
use Rattle.immediate_ctx.specs.Flight as flight
use Rattle.immediate_ctx.specs.Stands.{AppStands, FlightIs, IsOpenChunk, PositionIs, page_shown}
use Rattle.core_model.proofs.Steps.Segments.{handed_length}
use Rattle.immediate_ctx.proofs.Counting.{counts_of-other}

last_call-last : (ts : List Turn) (t : Turn)
    → last_call (ts ++ t ∷ []) ≡ cond (ends_call t) (call_of t) (call_of t - 1)
last_call-last [] t = refl
last_call-last (x ∷ []) t = refl
last_call-last (x ∷ y ∷ ts) t = last_call-last (y ∷ ts) t

in_list-last : (ts : List Turn) (t : Turn) → in_list (ts ++ t ∷ []) ≡ not (ends_call t)
in_list-last [] t = refl
in_list-last (x ∷ []) t = refl
in_list-last (x ∷ y ∷ ts) t = in_list-last (y ∷ ts) t

-- behind one more turn its call is the last one
pub position_last : (ts : List Turn) (t : Turn)
    → PositionIs (ts ++ t ∷ []) (cond (ends_call t) (call_of t) (call_of t - 1)) (not (ends_call t))
position_last [] t = (refl, refl)
position_last (x ∷ ts) t = (last_call-last (x ∷ ts) t, in_list-last (x ∷ ts) t)

pub passed_stands : (script : Script) (names : ℕ → ℕ) (core : Core) (s : AppState) (t : Turn) (ts : List Turn)
    → AppStands script names core s → is_entry t ≡ false
    → AppStands script names (with_turn t ts core) (with_passed (call_of t) (ends_call t) s)
passed_stands script names core s t ts st e = record {
  ended = st.ended;
  position = position_last core.open_chunk.turns t;
  flight = st.flight;
  open_chunk = record {
    counts = st.open_chunk.counts ∙ sym (counts_of-other script core.open_chunk.turns t e);
    placed = st.open_chunk.placed;
    named = st.open_chunk.named;
    used = st.open_chunk.used;
  };
  pool = st.pool;
  buffers = st.buffers;
  blocks = st.blocks;
}

-- the chunk is due by what is kept of it exactly where the state's is
due_by : (script : Script) (ts future : List Turn) (passed : ℕ) (running : Bool) → PositionIs ts passed running
    → is_due_by (counts_of script ts) running (stops_next future) ≡ is_due script ts future
due_by script [] future passed running p = refl
due_by script (t ∷ ts) future passed running p =
    ap (λ (b : Bool). is_due_by (counts_of script (t ∷ ts)) b (stops_next future)) (sym p.1)

pub due_stands : (script : Script) (names : ℕ → ℕ) (core : Core) (s : AppState) → AppStands script names core s
    → is_due_by s.open_chunk.counts s.in_list (stops_next core.future) ≡ is_due script core.open_chunk.turns core.future
due_stands script names core s st =
    ap (λ c. is_due_by c s.in_list (stops_next core.future)) st.open_chunk.counts
    ∙ due_by script core.open_chunk.turns core.future s.passed s.in_list st.position

-- a chunk that is due has a turn
upto_is : (script : Script) (ts future : List Turn) (passed : ℕ) (running : Bool) → PositionIs ts passed running
    → is_due script ts future ≡ true → passed ≡ last_call ts
upto_is script [] future passed running p due = absurd (cc due)
upto_is script (t ∷ ts) future passed running p due = sym p.0

-- one more on both sides
one_more : {X : Type 0} (f : OnItsWay → X) (g : Segment → X) (cs : List OnItsWay) (c : OnItsWay) (ss : List Segment)
    (s : Segment) → map f cs ≡ map g ss → f c ≡ g s → map f (cs ++ c ∷ []) ≡ map g (ss ++ s ∷ [])
one_more {X} f g cs c ss s h e =
    last f cs c ∙ ap (λ (l : List X). l ++ f c ∷ []) h ∙ ap (λ (x : X). map g ss ++ x ∷ []) e ∙ sym (last g ss s)
  where
    last : {A B : Type 0} (f : A → B) (xs : List A) (x : A) → map f (xs ++ x ∷ []) ≡ map f xs ++ f x ∷ []
    last f [] x = refl
    last f (y ∷ ys) x = ap (λ l. f y ∷ l) (last f ys x)

pub later-handed : (core : Core) → later (handed_over core) ≡ later core ++ core.open_chunk ∷ []
later-handed core = sym (simp append_assoc)

flight_handed : (first behind : List Segment) (is_staging : ℕ → Bool) (f : OnTheirWay) (c : OnItsWay) (s : Segment)
    → FlightIs first behind is_staging f → c.upto ≡ last_call s.turns → c.placed ≡ s.placed
    → c.named ≡ map (λ (r : Range). r.block) s.staging
    → ((b : ℕ) → is_staging b ≡ true → is_among b c.used ≡ has_block b s.bound)
    → FlightIs first (behind ++ s ∷ []) is_staging (with_sent c f)
flight_handed first behind is_staging f c s st upto placed named used = record {
  taken = st.taken;
  done = st.done;
  last_calls = one_more (λ (o : OnItsWay). o.upto) (λ (t : Segment). last_call t.turns) f.kept c behind s
      st.last_calls upto;
  placed = one_more (λ (o : OnItsWay). o.placed) (λ (t : Segment). t.placed) f.kept c behind s st.placed placed;
  named = one_more (λ (o : OnItsWay). o.named) (λ (t : Segment). map (λ r. r.block) t.staging) f.kept c behind s
      st.named named;
  used = λ b staging.
      one_more (λ (o : OnItsWay). is_among b o.used) (λ (t : Segment). has_block b t.bound) f.kept c behind s
      (st.used b staging) (used b staging);
}

pub handed_stands : (script : Script) (names : ℕ → ℕ) (core : Core) (s new : AppState) (chunk : Chunk)
    → AppStands script names core s → is_due script core.open_chunk.turns core.future ≡ true
    → HandsOver s chunk new → AppStands script names (handed_over core) new
handed_stands script names core s new chunk st due h =
    let flight : FlightIs core.taken (later core ++ core.open_chunk ∷ []) core.is_staging (without_chunk s).flight =
    flight_handed core.taken (later core) core.is_staging s.flight (sent_of s) core.open_chunk st.flight
    (upto_is script core.open_chunk.turns core.future s.passed s.in_list st.position due)
    st.open_chunk.placed st.open_chunk.named st.open_chunk.used in
    let P : List Segment → Type 0 = λ ss. FlightIs core.taken ss core.is_staging (without_chunk s).flight in
    let Q : AppState → Type 0 = λ n. AppStands script names (handed_over core) n in
    let stands : AppStands script names (handed_over core) (without_chunk s) = record {
      ended = st.ended;
      position = tt;
      flight = subst P (sym (later-handed core)) flight;
      open_chunk = record { counts = refl; placed = refl; named = refl; used = λ b staging. refl };
      pool = record { spare = st.pool.spare; newest = refl; next = st.pool.next; pages = refl };
      buffers = st.buffers;
      blocks = st.blocks;
    } in
    subst Q (sym h.after) stands

lengths : {A B C : Type 0} (f : A → C) (g : B → C) (xs : List A) (ys : List B) → map f xs ≡ map g ys
    → length xs ≡ length ys
lengths f g xs ys h = sym (length-map xs f) ∙ ap length h ∙ length-map ys g

pub handed_is : (script : Script) (names : ℕ → ℕ) (core : Core) (s new : AppState) (chunk : Chunk)
    → AppStands script names core s → is_due script core.open_chunk.turns core.future ≡ true
    → HandsOver s chunk new → IsOpenChunk core chunk
handed_is script names core s new chunk st due h =
    let kept : length s.flight.kept ≡ length (later core) =
    lengths (λ (o : OnItsWay). o.upto) (λ (t : Segment). last_call t.turns) s.flight.kept (later core)
    st.flight.last_calls in
    let count : handed_count core ≡ length core.taken + length (later core) = handed_length core in
    record {
      number = h.number ∙ (omega (arith, kept, count, st.flight.taken));
      upto = h.upto ∙ upto_is script core.open_chunk.turns core.future s.passed s.in_list st.position due;
      placed = h.places ∙ st.open_chunk.placed;
      pages = ap (map page_shown) h.pages ∙ st.pool.pages;
    }

-- the open chunk has the state's number
pub numbers_agree : (script : Script) (names : ℕ → ℕ) (core : Core) (s : AppState) → AppStands script names core s
    → flight.open_number s.flight ≡ open_number core
numbers_agree script names core s st =
    let kept : length s.flight.kept ≡ length (later core) =
    lengths (λ (o : OnItsWay). o.upto) (λ (t : Segment). last_call t.turns) s.flight.kept (later core)
    st.flight.last_calls in
    let count : handed_count core ≡ length core.taken + length (later core) = handed_length core in
    omega (arith, kept, count, st.flight.taken)

-- where 32 chunks are on their way, one of them is awaited
some_awaited : (f : OnTheirWay) → 32 ≤ length f.kept → awaited f ≡ None → ⊥
some_awaited f many none =
    let n = flight.open_number f in
    let above : nat_lt 32 n ≡ true = lt-ltb 32 n (omega arith) in
    let not_taken : nat_lt f.taken (n - 32) ≡ true = lt-ltb f.taken (n - 32) (omega arith) in
    let there : awaited f ≡ upto_of f (n - 32) =
    ap (λ (b : Bool). cond (b && nat_lt f.taken (n - 32)) (upto_of f (n - 32)) None) above
    ∙ ap (λ (b : Bool). cond b (upto_of f (n - 32)) None) not_taken in
    let long = length-map f.kept (λ (c : OnItsWay). c.upto) in
    missing (map (λ (c : OnItsWay). c.upto) f.kept) (n - 32 - suc f.taken) (omega (arith, long)) (sym there ∙ none)
  where
    missing : (xs : List ℕ) (i : ℕ) → i < length xs → slice_get xs i ≡ None → ⊥
    missing [] i h e = absurd (omega (arith, h))
    missing (x ∷ xs) zero h e = cc e
    missing (x ∷ xs) (suc i) h e = missing xs i (omega (arith, h)) e

pub may_be_handed : (script : Script) (names : ℕ → ℕ) (core : Core) (s : AppState) → AppStands script names core s
    → awaited s.flight ≡ None → may_hand_over In_threads core ≡ true
may_be_handed script names core s st none =
    let kept : length s.flight.kept ≡ length (later core) =
    lengths (λ (o : OnItsWay). o.upto) (λ (t : Segment). last_call t.turns) s.flight.kept (later core)
    st.flight.last_calls in
    let few : length s.flight.kept < 32 =
    elim (cases_lt (length s.flight.kept) 32)
    [ inl below ↦ below | inr above ↦ absurd (some_awaited s.flight above none) ] in
    lt-ltb (handed_count core) (taken_count core + 32) (omega (arith, handed_length core, kept))
