-- What is known of each query behind the turns of the calls so far, and what each turn keeps of it.
use Rattle.std.proofs.Common.{◌≡◌, ℕ, ◌<◌, ◌≤◌, Bool, true, false, not, cond, ◌&&◌, ◌||◌, List, [], ◌∷◌, ◌++◌, Option}
use Rattle.std.proofs.Common.{Some, None, refl, sym, ap, ◌∙◌, subst, inl, inr, arith, append_assoc, append-nil}
use Rattle.std.specs.Prelude.{◌==◌, is_some, if◌then◌else◌}
use Rattle.std.specs.List.{list_any}
use Rattle.std.proofs.lemmas.List.Folds.{list_any-append}
use Rattle.std.proofs.lemmas.Bool.{both_ways, cases_Bool, eq-eqb, ne_eqb, and_parts, and_right, not-true}
use Rattle.dx_types.specs.declared.range.Range.{Range}
use Rattle.call_log.specs.Call as calls
use Rattle.call_log.specs.Call.{Call}
use Rattle.base_lemmas.specs.IdMap.{IdMap, get}
use Rattle.d3d_model.specs.Binding.{Bindings}
use Rattle.d3d_model.specs.D3dState.{Objects, Query}
use Rattle.d3d_model.specs.Past.{Past}
use Rattle.d3d_model.specs.Verdict.{query_is_one, has_result}
use Rattle.d3d_model.specs.Effect.{begun_query, ended_query, queries_after}
use Rattle.d3d_model.specs.Uses.{ended_if}
use Rattle.d3d_model.specs.ReplyText.{sort_if}
use Rattle.core_model.specs.Script.{Play, Create, Discard, No_overwrite, Stage, Command, Destroy, Create_shader}
use Rattle.core_model.specs.Script.{Mark_query, Set_state, Ask, Bytes, Count, Constant, Turn, Refused, Passed}
use Rattle.core_model.specs.Script.{Flushed, Asked, Item}
use Rattle.core_model.specs.Lawful.{last_end, is_begun, is_item_of}
use Rattle.core_model.proofs.Steps.Binding.{or_left, or_right}
use Rattle.core_model.specs.Queries.{marks_from}
use Rattle.log_script.specs.Plays.{counts_invocations, play_of}
use Rattle.log_script.proofs.Owed.Positions.{AtEach}
use Rattle.log_script.proofs.Owed.QueryMaps.{flag, started, stopped, after_begin, after_end, started_counts}
use Rattle.log_script.proofs.Owed.QueryMaps.{stopped_counts}
use Rattle.log_script.proofs.Owed.QueryLists.{Ready}
use Rattle.log_script.proofs.Owed.QueryPlays.{is_quiet, Quiet, quiet_item, play_quiet, begun_last, end_last}
use Rattle.log_script.proofs.Owed.QueryPlays.{begun_quiet, end_quiet}

-- the query counts and is begun
abbrev pub counting : Option Query → Bool
counting o = query_is_one o (λ q. (q.sort == 2) && q.begun)

-- a query, or none of that id, as the turns so far leave it, which are of calls up to n
pub record Agrees (front : List Turn) (n q : ℕ) (o : Option Query) : Type 0 where
  pub begun : is_begun q (marks_from 0 front) false ≡ counting o
  pub ended : (e : ℕ) → counts_invocations o ≡ true → ended_if o ≡ Some e → last_end q front None ≡ Some e
  -- the call of its last End is an earlier one's, and has an item
  pub past : (e : ℕ) → ended_if o ≡ Some e → (e ≤ n) × (list_any (is_item_of e) front ≡ true)

abbrev pub AllAgree : List Turn → ℕ → IdMap Query → Type 0
AllAgree front n qs = (q : ℕ) → Agrees front n q (get qs q)

-- what a turn asks of those before it
abbrev pub PlayRight : List Turn → Play → Type 0
PlayRight front (Create buffer bytes) = Unit {0}
PlayRight front (Discard buffer from bytes) = Unit {0}
PlayRight front (No_overwrite buffer from bytes) = Unit {0}
PlayRight front (Stage bytes target skip) = Unit {0}
PlayRight front (Command w skip) = Unit {0}
PlayRight front (Destroy buffer) = Unit {0}
PlayRight front Create_shader = Unit {0}
PlayRight front (Mark_query query begins) = is_begun query (marks_from 0 front) false ≡ not begins
PlayRight front Set_state = Unit {0}

abbrev pub AskRight : List Turn → ℕ → Ask → Option ℕ → Type 0
AskRight front call (Bytes source) used = Unit {0}
AskRight front call (Count query) used =
    (used ≡ last_end query front None) × ((n : ℕ) × (last_end query front None ≡ Some n))
    × (is_begun query (marks_from 0 front) false ≡ false)
AskRight front call (Constant value) used = (n : ℕ) × (used ≡ Some n) × (n < call)
    × (list_any (is_item_of n) front ≡ true)

abbrev pub Right : List Turn → Turn → Type 0
Right front (Refused call) = Unit {0}
Right front (Passed call) = Unit {0}
Right front (Flushed call) = Unit {0}
Right front (Asked call ask used may_pend) = AskRight front call ask used
Right front (Item call item ends play bound) = PlayRight front play

quiet_right : (front : List Turn) (play : Play) → is_quiet play ≡ true → PlayRight front play
quiet_right front (Create buffer bytes) e = tt
quiet_right front (Discard buffer from bytes) e = tt
quiet_right front (No_overwrite buffer from bytes) e = tt
quiet_right front (Stage bytes target skip) e = tt
quiet_right front (Command w skip) e = tt
quiet_right front (Destroy buffer) e = tt
quiet_right front Create_shader e = tt
quiet_right front (Mark_query query begins) e = absurd cc
quiet_right front Set_state e = tt

-- turns behind others ask rightly, and leave the queries so
pub record Goes (front ts : List Turn) (n : ℕ) (qs : IdMap Query) : Type 0 where
  pub right : AtEach Right front ts
  pub agree : AllAgree (front ++ ts) n qs

-- an item stays one of some turns with others behind
later : (front : List Turn) (t : Turn) (n m e : ℕ) → n ≤ m → (e ≤ n) × (list_any (is_item_of e) front ≡ true)
    → (e ≤ m) × (list_any (is_item_of e) (front ++ t ∷ []) ≡ true)
later front t n m e le h = let l = h.0 in (
  omega (arith, l, le),
  list_any-append (is_item_of e) front (t ∷ [])
      ∙ or_left (list_any (is_item_of e) front) (is_item_of e t || false) h.1,
)

at_end : (front : List Turn) (t : Turn) (e : ℕ) → is_item_of e t ≡ true
    → list_any (is_item_of e) (front ++ t ∷ []) ≡ true
at_end front t e h = list_any-append (is_item_of e) front (t ∷ [])
    ∙ or_right (list_any (is_item_of e) front) (is_item_of e t || false) (or_left (is_item_of e t) false h)

-- ---- turns that mark nothing

agrees_quiet : (front : List Turn) (t : Turn) (n m q : ℕ) (o : Option Query) → n ≤ m → Quiet t → Agrees front n q o
    → Agrees (front ++ t ∷ []) m q o
agrees_quiet front t n m q o le quiet h = record {
  begun = begun_quiet q front t quiet ∙ h.begun;
  ended = λ e c s. end_quiet q front t quiet ∙ h.ended e c s;
  past = λ e s. later front t n m e le (h.past e s);
}

pub goes_quiet : (front : List Turn) (t : Turn) (n m : ℕ) (qs : IdMap Query) → n ≤ m → Quiet t → Right front t
    → AllAgree front n qs → Goes front (t ∷ []) m qs
goes_quiet front t n m qs le quiet right h = record {
  right = (right, tt);
  agree =
      λ q. agrees_quiet front t n m q (get qs q) le quiet (h q);
}

pub goes_item : (front : List Turn) (call item : ℕ) (ends : Bool) (play : Play) (bound : List Range) (n m : ℕ)
    (qs : IdMap Query) → n ≤ m → is_quiet play ≡ true → AllAgree front n qs
    → Goes front (Item call item ends play bound ∷ []) m qs
goes_item front call item ends play bound n m qs le e h =
    goes_quiet front (Item call item ends play bound) n m qs le (quiet_item call item ends play bound e)
    (quiet_right front play e) h

pub goes_nothing : (front : List Turn) (n m : ℕ) (qs : IdMap Query) → n ≤ m → AllAgree front n qs → Goes front [] m qs
goes_nothing front n m qs le h = record {
  right = tt;
  agree = λ q. subst (λ ts. Agrees ts m q (get qs q)) (sym (append-nil front))
      (record {
        begun = (h q).begun;
        ended = (h q).ended;
        past = λ e s. let l = (h q).past e s in let b = l.0 in
            (omega (arith, b, le), l.1);
      });
}

pub goes_on : (front : List Turn) (t : Turn) (ts : List Turn) (n m : ℕ) (qs rs : IdMap Query)
    → Goes front (t ∷ []) n qs → Goes (front ++ t ∷ []) ts m rs → Goes front (t ∷ ts) m rs
goes_on front t ts n m qs rs h k = record {
  right = (h.right.0, k.right);
  agree = subst (λ l. AllAgree l m rs) (append_assoc front (t ∷ []) ts) k.agree;
}

-- ---- a Begin and an End

last_at : (b : Bool) (x y : Option ℕ) → b ≡ false → cond b x y ≡ y
last_at b x y e = ap (λ t. cond t x y) e

first_at : (b : Bool) (x y : Option ℕ) → b ≡ true → cond b x y ≡ x
first_at b x y e = ap (λ t. cond t x y) e

-- another query's mark
agrees_other : (front : List Turn) (call item : ℕ) (ends : Bool) (p : ℕ) (begins : Bool) (bound : List Range)
    (n m q : ℕ) (o : Option Query) → n ≤ m → (q ≡ p → ⊥) → Agrees front n q o
    → Agrees (front ++ Item call item ends (Mark_query p begins) bound ∷ []) m q o
agrees_other front call item ends p begins bound n m q o le apart h = by begins
  where
    off : (p == q) ≡ false
    off = ne_eqb p q (λ e. apart (sym e))

    past : (b : Bool) (e : ℕ) → ended_if o ≡ Some e → (e ≤ m)
        × (list_any (is_item_of e) (front ++ Item call item ends (Mark_query p b) bound ∷ []) ≡ true)
    past b e s = later front (Item call item ends (Mark_query p b) bound) n m e le (h.past e s)

    by : (b : Bool) → Agrees (front ++ Item call item ends (Mark_query p b) bound ∷ []) m q o
    by true = record {
      begun = begun_last q front (Item call item ends (Mark_query p true) bound)
          ∙ ap (λ t. cond t true (is_begun q (marks_from 0 front) false)) off ∙ h.begun;
      ended = λ e c s. end_last q front (Item call item ends (Mark_query p true) bound) None ∙ h.ended e c s;
      past = past true;
    }
    by false = record {
      begun = begun_last q front (Item call item ends (Mark_query p false) bound)
          ∙ ap (λ t. cond t false (is_begun q (marks_from 0 front) false)) off ∙ h.begun;
      ended = λ e c s. end_last q front (Item call item ends (Mark_query p false) bound) None
          ∙ last_at (p == q) (Some call) (last_end q front None) off ∙ h.ended e c s;
      past = past false;
    }

started_counting : (o : Option Query) → counts_invocations o ≡ true → true ≡ counting (started o)
started_counting None e = absurd cc
started_counting (Some q) e = sym (ap (λ b. b && true) e)

stopped_counting : (n : ℕ) (o : Option Query) → false ≡ counting (stopped n o)
stopped_counting n None = refl
stopped_counting n (Some q) = sym (and_right (q.sort == 2) false refl)

started_ended : (o : Option Query) → ended_if (started o) ≡ ended_if o
started_ended None = refl
started_ended (Some q) = refl

stopped_ended : (n : ℕ) (o : Option Query) (e : ℕ) → ended_if (stopped n o) ≡ Some e → n ≡ e
stopped_ended n None e s = absurd cc
stopped_ended n (Some q) e s = cc

agrees_begin : (front : List Turn) (call item : ℕ) (ends : Bool) (q : ℕ) (bound : List Range) (n m : ℕ)
    (o : Option Query) → n ≤ m → counts_invocations o ≡ true → Agrees front n q o
    → Agrees (front ++ Item call item ends (Mark_query q true) bound ∷ []) m q (started o)
agrees_begin front call item ends q bound n m o le counts h = record {
  begun = begun_last q front (Item call item ends (Mark_query q true) bound)
      ∙ ap (λ t. cond t true (is_begun q (marks_from 0 front) false)) (eq-eqb q q refl) ∙ started_counting o counts;
  ended = λ e c s. end_last q front (Item call item ends (Mark_query q true) bound) None
      ∙ h.ended e counts (sym (started_ended o) ∙ s);
  past = λ e s. later front (Item call item ends (Mark_query q true) bound) n m e le
      (h.past e (sym (started_ended o) ∙ s));
}

agrees_end : (front : List Turn) (item : ℕ) (ends : Bool) (q : ℕ) (bound : List Range) (m : ℕ) (o : Option Query)
    → Agrees (front ++ Item m item ends (Mark_query q false) bound ∷ []) m q (stopped m o)
agrees_end front item ends q bound m o = record {
  begun = begun_last q front (Item m item ends (Mark_query q false) bound)
      ∙ ap (λ t. cond t false (is_begun q (marks_from 0 front) false)) (eq-eqb q q refl) ∙ stopped_counting m o;
  ended = λ e c s. end_last q front (Item m item ends (Mark_query q false) bound) None
      ∙ first_at (q == q) (Some m) (last_end q front None) (eq-eqb q q refl) ∙ ap Some (stopped_ended m o e s);
  past = λ e s.
      let l = stopped_ended m o e s in
      (omega (arith, l), at_end front (Item m item ends (Mark_query q false) bound) e (eq-eqb m e l));
}

-- of a query that doesn't count
uncounted : (o : Option Query) → counts_invocations o ≡ false → counting o ≡ false
uncounted None e = refl
uncounted (Some q) e = ap (λ b. b && q.begun) e

agrees_plain_begin : (front : List Turn) (n q : ℕ) (o : Option Query) → counts_invocations o ≡ false
    → Agrees front n q o → Agrees front n q (started o)
agrees_plain_begin front n q o not_counted h = record {
  begun = h.begun ∙ uncounted o not_counted ∙ sym (uncounted (started o) (started_counts o ∙ not_counted));
  ended = λ e c s. absurd (both_ways (counts_invocations o) not_counted (sym (started_counts o) ∙ c));
  past = λ e s. h.past e (sym (started_ended o) ∙ s);
}

-- its End is an item without a mark
agrees_plain_end : (front : List Turn) (item : ℕ) (ends : Bool) (bound : List Range) (n m q : ℕ) (o : Option Query)
    → counts_invocations o ≡ false → Agrees front n q o
    → Agrees (front ++ Item m item ends Set_state bound ∷ []) m q (stopped m o)
agrees_plain_end front item ends bound n m q o not_counted h = record {
  begun = begun_quiet q front (Item m item ends Set_state bound) (quiet_item m item ends Set_state bound refl)
      ∙ h.begun ∙ uncounted o not_counted ∙ stopped_counting m o;
  ended = λ e c s. absurd (both_ways (counts_invocations o) not_counted (sym (stopped_counts m o) ∙ c));
  past = λ e s.
      let l = stopped_ended m o e s in
      (omega (arith, l), at_end front (Item m item ends Set_state bound) e (eq-eqb m e l));
}

counting_flag : (o : Option Query) → counts_invocations o ≡ true → counting o ≡ flag o
counting_flag None e = refl
counting_flag (Some q) e = ap (λ b. b && q.begun) e

up_to : (front : List Turn) (n m q : ℕ) (o : Option Query) → n ≤ m → Agrees front n q o → Agrees front m q o
up_to front n m q o le h = record {
  begun = h.begun;
  ended = h.ended;
  past = λ e s. let l = h.past e s in let b =
      l.0 in (omega (arith, b, le), l.1);
}

-- ---- a call that may stand in a list, as an item of call m

goes_begin : (front : List Turn) (n m item : ℕ) (ends : Bool) (bound : List Range) (qs : IdMap Query) (p : ℕ)
    → n ≤ m → AllAgree front n qs → (counts_invocations (get qs p) ≡ true → flag (get qs p) ≡ false)
    → Goes front (Item m item ends (if counts_invocations (get qs p) then Mark_query p true else Set_state) bound ∷
    []) m (begun_query (get qs p) qs p)
goes_begin front n m item ends bound qs p le h ready = elim (cases_Bool (counts_invocations (get qs p))) [
  | inl counted ↦
      let t : Turn = Item m item ends (Mark_query p true) bound in
      subst (λ b. Goes front (Item m item ends (if b then Mark_query p true else Set_state) bound ∷ []) m
      (begun_query (get qs p) qs p)) (sym counted) (record {
        right = ((h p).begun ∙ counting_flag (get qs p) counted ∙ ready counted, tt);
        agree = after_begin (λ q o. Agrees (front ++ t ∷ []) m q o) qs p
            (agrees_begin front m item ends p bound n m (get qs p) le counted (h p))
            (λ q apart. agrees_other front m item ends p true bound n m q (get qs q) le apart (h q));
      })
  | inr plain ↦
      subst (λ b. Goes front (Item m item ends (if b then Mark_query p true else Set_state) bound ∷ []) m
      (begun_query (get qs p) qs p)) (sym plain)
      (goes_item front m item ends Set_state bound m m (begun_query (get qs p) qs p) (omega arith) refl
      (after_begin (λ q o. Agrees front m q o) qs p (up_to front n m p _ le
      (agrees_plain_begin front n p (get qs p) plain (h p))) (λ q apart. up_to front n m q _ le (h q))))
]

goes_end : (front : List Turn) (n m item : ℕ) (ends : Bool) (bound : List Range) (qs : IdMap Query) (p : ℕ) → n ≤ m
    → AllAgree front n qs → (counts_invocations (get qs p) ≡ true → flag (get qs p) ≡ true)
    → Goes front (Item m item ends (if counts_invocations (get qs p) then Mark_query p false else Set_state) bound ∷
    []) m (ended_query m (get qs p) qs p)
goes_end front n m item ends bound qs p le h ready = elim (cases_Bool (counts_invocations (get qs p))) [
  | inl counted ↦
      let t : Turn = Item m item ends (Mark_query p false) bound in
      subst (λ b. Goes front (Item m item ends (if b then Mark_query p false else Set_state) bound ∷ []) m
      (ended_query m (get qs p) qs p)) (sym counted) (record {
        right = ((h p).begun ∙ counting_flag (get qs p) counted ∙ ready counted, tt);
        agree = after_end (λ q o. Agrees (front ++ t ∷ []) m q o) m qs p
            (agrees_end front item ends p bound m (get qs p))
            (λ q apart. agrees_other front m item ends p false bound n m q (get qs q) le apart (h q));
      })
  | inr plain ↦
      subst (λ b. Goes front (Item m item ends (if b then Mark_query p false else Set_state) bound ∷ []) m
      (ended_query m (get qs p) qs p)) (sym plain)
      (record {
        right = (tt, tt);
        agree = after_end (λ q o. Agrees (front ++ Item m item ends Set_state bound ∷ []) m q o) m qs p
            (agrees_plain_end front item ends bound n m p (get qs p) plain (h p))
            (λ q apart. agrees_quiet front (Item m item ends Set_state bound) n m q (get qs q) le
            (quiet_item m item ends Set_state bound refl) (h q));
      })
]

pub goes_played : (front : List Turn) (n m item : ℕ) (ends : Bool) (past : Past) (o : Objects) (b : Bindings)
    (c : Call) (bound : List Range) → n ≤ m → AllAgree front n o.queries
    → Ready o.queries (λ q. flag (get o.queries q)) c → Goes front
    (Item m item ends (play_of past o b c) bound ∷ []) m (queries_after m o.queries c)
goes_played front n m item ends past o b (calls.Begin p) bound le h ready =
    goes_begin front n m item ends bound o.queries p le h ready
goes_played front n m item ends past o b (calls.EndQuery p) bound le h ready =
    goes_end front n m item ends bound o.queries p le h ready
goes_played front n m item ends past o b c bound le h ready =
    goes_item front m item ends (play_of past o b c) bound n m o.queries le (play_quiet past o b c) h

-- ---- what is asked of a query

some_of : (o : Option ℕ) → is_some o ≡ true → (n : ℕ) × (o ≡ Some n)
some_of None e = absurd cc
some_of (Some n) e = (n, refl)

pub asked_right : (front : List Turn) (n m q value : ℕ) (o : Option Query) → n < m → Agrees front n q o
    → query_is_one o has_result ≡ true
    → AskRight front m (if sort_if o == 2 then Count q else Constant value) (ended_if o)
asked_right front n m q value None lt h e = absurd cc
asked_right front n m q value (Some x) lt h e =
    let parts = and_parts (is_some x.ended) (not x.begun) e in
    let end = some_of x.ended parts.0 in
    elim (cases_Bool (x.sort == 2)) [
      | inl counted ↦
          let last = h.ended end.0 counted end.1 in
          subst (λ b. AskRight front m (if b then Count q else Constant value) x.ended) (sym counted)
          (end.1 ∙ sym last, (end.0, last), h.begun ∙ and_right (x.sort == 2) x.begun (not-true x.begun parts.1))
      | inr plain ↦
          let p = h.past end.0 end.1 in
          let l = p.0 in
          subst (λ b. AskRight front m (if b then Count q else Constant value) x.ended) (sym plain)
          (end.0, end.1, omega (arith, l, lt), p.1)
    ]
