-- Where a script is cut before a readback, or before a no-overwrite: what the state knows of its buffer there.
use Rattle.std.proofs.Common.{◌≡◌, ℕ, suc, Bool, true, false, List, [], ◌∷◌, ◌++◌, Option, Some, None, refl, sym, ap}
use Rattle.std.proofs.Common.{◌∙◌, subst}
use Rattle.std.specs.Prelude.{◌==◌, is_some, unwrap_or, slice_get, if◌then◌else◌}
use Rattle.std.specs.List.{AllByRecursion}
use Rattle.std.proofs.lemmas.Bool.{not-false}
use Rattle.dx_types.specs.declared.refusal.Refusal.{Refusal}
use Rattle.dx_types.specs.declared.range.Range.{Range}
use Rattle.call_log.specs.Call as calls
use Rattle.call_log.specs.Call.{Call, Issued}
use Rattle.base_lemmas.specs.IdMap.{get}
use Rattle.d3d_model.specs.Resource.{Buffers}
use Rattle.d3d_model.specs.D3dState.{Objects, Numbered, calls_of_list}
use Rattle.d3d_model.specs.Past.{Past, last_binding}
use Rattle.d3d_model.specs.Verdict.{place_of, call_checks}
use Rattle.d3d_model.specs.Effect.{played, list_start}
use Rattle.d3d_model.specs.InOrder.{State, verdict_in, after_calls}
use Rattle.d3d_model.specs.ReplyText.{sort_if, query_value}
use Rattle.d3d_model.proofs.Checked.{Passed}
use Rattle.d3d_model.proofs.Listed.{own_checks}
use Rattle.core_model.specs.Script.{Create, Destroy, Create_shader, Set_state, Ask, Bytes, Count, Constant, Turn}
use Rattle.core_model.specs.Script.{Refused, Passed as Went, Flushed, Asked, Item}
use Rattle.log_script.specs.Makers.{maker, bytes_from}
use Rattle.log_script.specs.Turns.{ask_of, item_of, list_items, turns_by_place, turns_unless, turns_in, turns_of}
use Rattle.log_script.proofs.Owed.Fronts.{same_head, same_tail}

-- ---- one turn among others

pub no_turn : (part : List Turn) (t : Turn) (rest : List Turn) → [] ≡ part ++ t ∷ rest → ⊥
no_turn [] t rest e = cc
no_turn (u ∷ part) t rest e = cc

-- of one turn
pub record Only (u : Turn) (part : List Turn) (t : Turn) : Type 0 where
  pub none : part ≡ []
  pub is : u ≡ t

pub only : (u : Turn) (part : List Turn) (t : Turn) (rest : List Turn) → u ∷ [] ≡ part ++ t ∷ rest → Only u part t
only u [] t rest e = record { none = refl; is = same_head u t [] rest e }
only u (p ∷ part) t rest e = absurd (no_turn part t rest (same_tail u p [] (part ++ t ∷ rest) e))

pub among : (P : Turn → Type 0) (part : List Turn) (t : Turn) (rest : List Turn)
    → AllByRecursion P (part ++ t ∷ rest) → P t
among P [] t rest h = h.0
among P (p ∷ part) t rest h = among P part t rest h.1

-- ---- readbacks

-- what bytes a turn asks for, and what it says of their last use
asked_by : (call : ℕ) → Ask → Option ℕ → Option (Range × Option ℕ)
asked_by call (Bytes source) used = Some (source, used)
asked_by call (Count query) used = None
asked_by call (Constant value) used = None

asked : Turn → Option (Range × Option ℕ)
asked (Refused call) = None
asked (Went call) = None
asked (Flushed call) = None
asked (Asked call ask used may_pend) = asked_by call ask used
asked (Item call item ends play bound) = None

pub none_some : {X : Type 0} {A : Type 0} (o : Option X) (x : X) → o ≡ None → o ≡ Some x → A
none_some o x e f = absurd cc

-- a readback is its call's only turn, and names the last use of a live buffer
pub record ReadsBack (b : Buffers) (past : Past) (part : List Turn) (source : Range) (used : Option ℕ) : Type 0 where
  pub none : part ≡ []
  pub res : ℕ
  pub lives : is_some (get b res) ≡ true
  pub block : source.block ≡ maker past res
  pub last : used ≡ last_binding past res

unasked : {A : Type 0} (u : Turn) (part : List Turn) (t : Turn) (rest : List Turn) (x : Range × Option ℕ)
    → asked u ≡ None → u ∷ [] ≡ part ++ t ∷ rest → asked t ≡ Some x → A
unasked u part t rest x e f g = none_some (asked t) x (sym (ap asked (only u part t rest f).is) ∙ e) g

items_ask_none : (n : ℕ) (past : Past) (o : Objects) (cs : List Numbered)
    → AllByRecursion (λ t. asked t ≡ None) (list_items n past o cs)
unfolding asked
items_ask_none n past o [] = (refl, tt)
items_ask_none n past o (c ∷ cs) = (refl, items_ask_none n past (played n o c.call) cs)

data_asks_none : (n query sort : ℕ) (used : Option ℕ) (may_pend : Bool)
    → asked (Asked n (ask_of query sort) used may_pend) ≡ None
unfolding asked asked_by
data_asks_none n query sort used may_pend = elim (sort == 2) as
    (λ b. asked_by n (if b then Count query else Constant (query_value sort 0)) used ≡ None)
    [ true ↦ refl | false ↦ refl ]

each_asks_none : (n : ℕ) (s : State) (x : ℕ) (c : Call) → AllByRecursion (λ t. asked t ≡ None)
    (if x == 0 then item_of n n true s.past s.objects c ∷ [] else Went n ∷ [])
unfolding asked
each_asks_none n s x c =
    elim (x == 0) as (λ b. AllByRecursion (λ t. asked t ≡ None)
    (if b then item_of n n true s.past s.objects c ∷ [] else Went n ∷ [])) [ true ↦ (refl, tt) | false ↦ (refl, tt) ]

reads_back : (n : ℕ) (s : State) (x : ℕ) (c : Call) → Passed (call_checks s.objects s.past x c)
    → (part : List Turn) (t : Turn) (rest : List Turn) (source : Range) (used : Option ℕ)
    → turns_by_place (place_of c) n s x c ≡ part ++ t ∷ rest → asked t ≡ Some (source, used)
    → ReadsBack s.objects.buffers s.past part source used
unfolding asked asked_by
reads_back n s x (calls.MapRead res flag offset len) p part t rest source used e f =
    let o = only (Asked n (Bytes (bytes_from s.past res offset len)) (last_binding s.past res) (flag == 1)) part t
    rest e in
    let same : Some (bytes_from s.past res offset len, last_binding s.past res) ≡ Some (source, used) =
    ap asked o.is ∙ f in
    let pair : Range × Option ℕ = (source, used) in
    record {
      none = o.none;
      res = res;
      lives = not-false (is_some (get s.objects.buffers res)) p.0;
      block = sym (ap (λ (q : Option (Range × Option ℕ)). (unwrap_or q pair).0.block) same);
      last = sym (ap (λ (q : Option (Range × Option ℕ)). (unwrap_or q pair).1) same);
    }
reads_back n s x (calls.GetData query flag) p part t rest source used e f =
    unasked (Asked n (ask_of query (sort_if (get s.objects.queries query))) _ (flag == 1)) part t rest
    (source, used) (data_asks_none n query (sort_if (get s.objects.queries query)) _ (flag == 1)) e f
reads_back n s x calls.Flush p part t rest source used e f = unasked (Flushed n) part t rest (source, used) refl e f
reads_back n s x (calls.ExecuteList list flag) p part t rest source used e f =
    let cs : List Numbered = calls_of_list s.objects list in
    none_some (asked t) (source, used) (among (λ t. asked t ≡ None) part t rest
    (subst (λ (l : List Turn). AllByRecursion (λ t. asked t ≡ None) l) e
    (items_ask_none n s.past (list_start s.objects) cs))) f
reads_back n s x (calls.FinishList list) p part t rest source used e f =
    unasked (Went n) part t rest (source, used) refl e f
reads_back n s x (calls.Buffer id size usage bind misc stride bytes) p part t rest source used e f =
    unasked (Item n n true (Create n bytes) []) part t rest (source, used) refl e f
reads_back n s x (calls.View view res kind form components start count) p part t rest source used e f =
    unasked (Item n n true Set_state []) part t rest (source, used) refl e f
reads_back n s x (calls.CreateShader id words) p part t rest source used e f =
    unasked (Item n n true Create_shader []) part t rest (source, used) refl e f
reads_back n s x (calls.Query id sort) p part t rest source used e f =
    unasked (Item n n true Set_state []) part t rest (source, used) refl e f
reads_back n s x (calls.Destroy class id) p part t rest source used e f =
    unasked (Item n n true (if class == 1 then Destroy (maker s.past id) else Set_state) []) part t rest
    (source, used) refl e f
reads_back n s x c p part t rest source used e f =
    none_some (asked t) (source, used) (among (λ t. asked t ≡ None) part t rest
    (subst (λ (l : List Turn). AllByRecursion (λ t. asked t ≡ None) l) e (each_asks_none n s x c))) f

asked_is : (call : ℕ) (source : Range) (used : Option ℕ) (may_pend : Bool)
    → asked (Asked call (Bytes source) used may_pend) ≡ Some (source, used)
unfolding asked asked_by
asked_is call source used may_pend = refl

refused_asks_none : (n : ℕ) → asked (Refused n) ≡ None
unfolding asked
refused_asks_none n = refl

pub reads_back_at : (log : List Issued) (n : ℕ) (part : List Turn) (call : ℕ) (source : Range) (used : Option ℕ)
    (may_pend : Bool) (rest : List Turn)
    → turns_of log (suc n) ≡ part ++ Asked call (Bytes source) used may_pend ∷ rest
    → ReadsBack (after_calls log n).objects.buffers (after_calls log n).past part source used
reads_back_at log n part call source used may_pend rest = one (after_calls log n) (slice_get log n)
  where
    unless : (s : State) (i : Issued) (v : Option Refusal) → verdict_in s i ≡ v
        → turns_unless (suc n) s i v ≡ part ++ Asked call (Bytes source) used may_pend ∷ rest
        → ReadsBack s.objects.buffers s.past part source used
    unless s i (Some why) h e = unasked (Refused (suc n)) part (Asked call (Bytes source) used may_pend) rest
        (source, used) (refused_asks_none (suc n)) e (asked_is call source used may_pend)
    unless s i None h e =
        reads_back (suc n) s i.context i.call (own_checks s.objects s.past i.context i.call h) part
        (Asked call (Bytes source) used may_pend) rest source used e (asked_is call source used may_pend)

    one : (s : State) (o : Option Issued) → turns_in (suc n) s o
        ≡ part ++ Asked call (Bytes source) used may_pend ∷ rest → ReadsBack s.objects.buffers s.past part source used
    one s None e = absurd (no_turn part (Asked call (Bytes source) used may_pend) rest e)
    one s (Some i) e = unless s i (verdict_in s i) refl e
