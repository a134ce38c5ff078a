-- What a readback or a query is answered with in order, Direct3D answers.
use Rattle.std.proofs.Common.{◌≡◌, ℕ, suc, ◌+◌, ◌-◌, ◌≤◌, ◌==◌, Bool, true, false, not, List, [], ◌∷◌, ◌++◌, length}
use Rattle.std.proofs.Common.{map, Option, Some, None, refl, sym, ap, ◌∙◌, subst, inl, inr, ◌⊎◌, arith, append-nil}
use Rattle.std.specs.Prelude.{is_some, slice_get, if◌then◌else◌}
use Rattle.std.specs.List.{AllByRecursion}
use Rattle.std.proofs.lemmas.Bool.{both_ways, and_parts, or_parts, not-false, eqb-true, ltb-false}
use Rattle.dx_types.specs.declared.refusal.Refusal.{Refusal}
use Rattle.dx_types.specs.declared.reply.Reply.{Reply}
use Rattle.dx_types.specs.declared.reply.Reply.TheVariants as said
use Rattle.base_lemmas.specs.Lists.{numbers_from}
use Rattle.vk_types.specs.Memory.{byte_of}
use Rattle.call_log.specs.Call as calls
use Rattle.call_log.specs.Call.{Call, Issued}
use Rattle.base_lemmas.specs.IdMap.{get}
use Rattle.d3d_model.specs.Regions.{slice}
use Rattle.d3d_model.specs.Resource.{size_of}
use Rattle.d3d_model.specs.D3dState.{Objects, Query, Numbered, buffer_of, bytes_of, count_of, calls_of_list}
use Rattle.d3d_model.specs.Past.{Past}
use Rattle.d3d_model.specs.Verdict.{place_of, query_is_one, has_result, passes_end, verdict}
use Rattle.d3d_model.specs.Effect.{played, list_start}
use Rattle.d3d_model.specs.InOrder.{State, verdict_in, after_calls}
use Rattle.d3d_model.specs.Uses.{use_in}
use Rattle.d3d_model.specs.ReplyText.{none_pending, sort_if, query_value, answer, answer_or_still, reply_unless}
use Rattle.d3d_model.specs.ReplyText.{reply_to, reply_at}
use Rattle.base_lemmas.proofs.Maps.{get-empty}
use Rattle.d3d_model.proofs.Listed.{own_checks}
use Rattle.d3d_model.proofs.Sized.{Sized, sized}
use Rattle.core_model.specs.Script.{Ask, Bytes, Count, Constant, Turn, Refused, Passed, Flushed, Asked, Item, InOrder}
use Rattle.core_model.specs.Script.{at_start, in_order}
use Rattle.log_script.specs.Makers.{maker, bytes_from}
use Rattle.log_script.specs.Turns.{ask_of, item_of, list_items, turns_by_place, turns_unless, turns_in, turns_of}
use Rattle.log_script.specs.LogScript.{meaning_of, turns_upto, script_of}
use Rattle.log_script.proofs.Meant.Showing.{bytes_read}
use Rattle.log_script.proofs.Owed.BufferMakers.{some_of}
use Rattle.log_script.proofs.Owed.TurnsMet.{only_turn, turn_of_turns}
use Rattle.log_script.proofs.Meant.AgreeingWrites.{held, bytes_are, Alike}
use Rattle.log_script.proofs.Meant.AgreeingLogs.{alike_at}

-- the answer to what is asked in order
abbrev pub Answers : ℕ → Ask → InOrder → Option Reply → Type 0
Answers n (Bytes source) w r =
    r ≡ Some (said.Bytes n (map (byte_of w.bytes source) (numbers_from 0 (source.to - source.from))))
Answers n (Count query) w r = r ≡ Some (said.Value n (w.count query))
Answers n (Constant value) w r = r ≡ Some (said.Value n value)

-- ---- turns that ask

abbrev asks : Turn → Bool
asks (Refused call) = false
asks (Passed call) = false
asks (Flushed call) = false
asks (Asked call ask used may_pend) = true
asks (Item call item ends play bound) = false

AskNone : List Turn → Type 0
AskNone ts = AllByRecursion (λ t. asks t ≡ false) ts

-- the only turn of a call asks, and the reply to the call answers it
record AsksAlone (n : ℕ) (s : State) (reply : Option Reply) (ts : List Turn) : Type 0 where
  ask : Ask
  used : Option ℕ
  may_pend : Bool
  turns : ts ≡ Asked n ask used may_pend ∷ []
  answered : (w : InOrder) → Sized s.objects s.memory → Alike s.past s.objects.queries s.memory w
      → Answers n ask w reply

items_ask_none : (n : ℕ) (past : Past) (o : Objects) (cs : List Numbered) → AskNone (list_items n past o cs)
unfolding AskNone
items_ask_none n past o [] = (refl, tt)
items_ask_none n past o (c ∷ cs) = (refl, items_ask_none n past (played n o c.call) cs)

each_asks_none : (n x : ℕ) (s : State) (c : Call)
    → AskNone (if x == 0 then item_of n n true s.past s.objects c ∷ [] else Passed n ∷ [])
unfolding AskNone
each_asks_none n x s c =
    elim (x == 0) as (λ b. AskNone (if b then item_of n n true s.past s.objects c ∷ [] else Passed n ∷ []))
    [ true ↦ (refl, tt) | false ↦ (refl, tt) ]

-- ---- what is answered

read_answered : (n : ℕ) (s : State) (res offset len : ℕ) → is_some (buffer_of s.objects res) ≡ true
    → passes_end s.objects res offset len ≡ false
    → (w : InOrder) → Sized s.objects s.memory → Alike s.past s.objects.queries s.memory w
    → Some (said.Bytes n (slice (bytes_of s.memory res) offset (offset + len)))
    ≡ Some (said.Bytes n (map (byte_of w.bytes (bytes_from s.past res offset len))
    (numbers_from 0 (offset + len - offset))))
read_answered n s res offset len lives inside w sized alike =
    let shape = some_of (buffer_of s.objects res) lives in
    let h = held s.objects s.memory sized res shape.0 shape.1 in
    let room : offset + len ≤ size_of (buffer_of s.objects res) =
    ltb-false (size_of (buffer_of s.objects res)) (offset + len) inside in
    let size : size_of (buffer_of s.objects res) ≡ shape.0.size = ap size_of shape.1 in
    let read = bytes_read w.bytes (maker s.past res) offset (offset + len) h.bytes (alike.shown res h.bytes h.found)
    (omega arith) (omega (arith, room, size, h.long)) in
    ap (λ (l : List ℕ). Some (said.Bytes n l)) (ap (λ (l : List ℕ). slice l offset (offset + len))
    (bytes_are s.memory res h.bytes h.found) ∙ sym read)

query_answered : (n query : ℕ) (s : State) (o : Option Query) → get s.objects.queries query ≡ o
    → query_is_one o has_result ≡ true → (w : InOrder) → Alike s.past s.objects.queries s.memory w
    → Answers n (ask_of query (sort_if o)) w (Some (said.Value n (query_value (sort_if o) (count_of s.memory query))))
query_answered n query s None f e w alike = absurd cc
query_answered n query s (Some q) f e w alike =
    let parts = and_parts (is_some q.ended) (not q.begun) e in
    let last = some_of q.ended parts.0 in
    elim (q.sort == 2) as (λ b. (q.sort == 2) ≡ b → Answers n
    (if b then Count query else Constant (query_value q.sort 0)) w
    (Some (said.Value n (query_value q.sort (count_of s.memory query))))) [
      | true ↦ λ two.
          let sort : q.sort ≡ 2 = eqb-true q.sort 2 two in
          ap (λ (k : ℕ). Some (said.Value n k)) (ap (λ (k : ℕ). query_value k (count_of s.memory query)) sort
          ∙ alike.counted query q f sort last.0 last.1)
      | false ↦ λ other. ap (λ (k : ℕ). Some (said.Value n k)) (plain q.sort (count_of s.memory query) other)
    ] refl
  where
    plain : (sort count : ℕ) → (sort == 2) ≡ false → query_value sort count ≡ query_value sort 0
    plain sort count other = ap (λ (b : Bool). if sort == 0 then 1 else if b then count else 0) other
        ∙ sym (ap (λ (b : Bool). if sort == 0 then 1 else if b then 0 else 0) other)

-- ---- by the kinds of calls

none_waits : (n : ℕ) (s : State) (c : Call) → answer_or_still n s c (get none_pending n) ≡ answer n s c
none_waits n s c = ap (λ (o : Option ℕ). answer_or_still n s c o) (get-empty ℕ n)

accepted_asks : (n : ℕ) (s : State) (x : ℕ) (c : Call) → verdict s.objects s.past (record { context = x; call = c })
    ≡ None
    → AskNone (turns_by_place (place_of c) n s x c) ⊎ AsksAlone n s (answer_or_still n s c (get none_pending n))
    (turns_by_place (place_of c) n s x c)
unfolding AskNone
accepted_asks n s x (calls.Buffer id size usage bind misc stride bytes) e = inl (refl, tt)
accepted_asks n s x (calls.View view res kind form components first count) e = inl (refl, tt)
accepted_asks n s x (calls.CreateShader id words) e = inl (refl, tt)
accepted_asks n s x (calls.Query id sort) e = inl (refl, tt)
accepted_asks n s x (calls.Destroy class id) e = inl (refl, tt)
accepted_asks n s x (calls.MapRead res flag offset len) e =
    let p = own_checks s.objects s.past x (calls.MapRead res flag offset len) e in
    inr (record {
      ask = Bytes (bytes_from s.past res offset len);
      used = use_in s (calls.MapRead res flag offset len);
      may_pend = flag == 1;
      turns = refl;
      answered = λ w sized alike.
          none_waits n s (calls.MapRead res flag offset len)
          ∙ read_answered n s res offset len (not-false (is_some (buffer_of s.objects res)) p.0)
          (or_parts (len == 0) (passes_end s.objects res offset len) p.1.1.0).1 w sized alike;
    })
accepted_asks n s x (calls.GetData query flag) e =
    let p = own_checks s.objects s.past x (calls.GetData query flag) e in
    let o : Option Query = get s.objects.queries query in
    inr (record {
      ask = ask_of query (sort_if o);
      used = use_in s (calls.GetData query flag);
      may_pend = flag == 1;
      turns = refl;
      answered = λ w sized alike.
          subst (λ (r : Option Reply). Answers n (ask_of query (sort_if o)) w r)
          (sym (none_waits n s (calls.GetData query flag)))
          (query_answered n query s o refl (not-false (query_is_one o has_result) p.1.1.0) w alike);
    })
accepted_asks n s x calls.Flush e = inl (refl, tt)
accepted_asks n s x (calls.ExecuteList list flag) e =
    inl (items_ask_none n s.past (list_start s.objects) (calls_of_list s.objects list))
accepted_asks n s x (calls.FinishList list) e = inl (refl, tt)
accepted_asks n s x c e = inl (each_asks_none n x s c)

-- the turns of a call: none asks, or the one that there is
call_asks : (log : List Issued) (n : ℕ) → AskNone (turns_of log (suc n))
    ⊎ AsksAlone (suc n) (after_calls log n) (reply_at log none_pending (suc n)) (turns_of log (suc n))
unfolding AskNone
call_asks log n = one (suc n) (after_calls log n) (slice_get log n)
  where
    unless : (n : ℕ) (s : State) (i : Issued) (v : Option Refusal) → verdict_in s i ≡ v
        → AskNone (turns_unless n s i v) ⊎ AsksAlone n s (reply_unless none_pending n s i.call v)
        (turns_unless n s i v)
    unless n s i (Some why) e = inl (refl, tt)
    unless n s i None e = accepted_asks n s i.context i.call e

    one : (n : ℕ) (s : State) (o : Option Issued) → AskNone (turns_in n s o)
        ⊎ AsksAlone n s (reply_to none_pending n s o) (turns_in n s o)
    one n s None = inl tt
    one n s (Some i) = unless n s i (verdict_in s i) refl

-- ---- all turns

none_amid : (part : List Turn) (t : Turn) (rest : List Turn) → asks t ≡ true → AskNone (part ++ t ∷ rest) → ⊥
unfolding AskNone
none_amid [] t rest e h = both_ways (asks t) h.0 e
none_amid (u ∷ part) t rest e h = none_amid part t rest e h.1

pub answered_at : (log : List Issued) (front : List Turn) (call : ℕ) (ask : Ask) (used : Option ℕ) (may_pend : Bool)
    (back : List Turn)
    → (script_of log).turns ≡ front ++ Asked call ask used may_pend ∷ back
    → Answers call ask (in_order (meaning_of log) (script_of log) front at_start) (reply_at log none_pending call)
answered_at log front call ask used may_pend back e =
    let t : Turn = Asked call ask used may_pend in
    let f = turn_of_turns log (length log) front t back e in
    elim (call_asks log f.calls) [
      | inl none ↦ absurd (none_amid f.part t f.rest refl (subst AskNone f.next_is none))
      | inr a ↦
          let w : InOrder = in_order (meaning_of log) (script_of log) (turns_upto log f.calls) at_start in
          let whole : Asked (suc f.calls) a.ask a.used a.may_pend ∷ [] ≡ f.part ++ t ∷ f.rest = sym a.turns
          ∙ f.next_is in
          let alone : f.part ≡ [] = only_turn (Asked (suc f.calls) a.ask a.used a.may_pend) f.part t f.rest whole in
          let first : Asked (suc f.calls) a.ask a.used a.may_pend ∷ [] ≡ t ∷ f.rest = whole
          ∙ ap (λ (l : List Turn). l ++ t ∷ f.rest) alone in
          let before : turns_upto log f.calls ≡ front = sym (append-nil (turns_upto log f.calls))
          ∙ ap (λ (l : List Turn). turns_upto log f.calls ++ l) (sym alone) ∙ sym f.front_is in
          let number : suc f.calls ≡ call = cc first in
          let same : a.ask ≡ ask = cc first in
          let here : Answers (suc f.calls) a.ask w (reply_at log none_pending (suc f.calls)) =
          a.answered w (sized log f.calls) (alike_at log f.calls) in
          subst (λ (k : ℕ). Answers k ask (in_order (meaning_of log) (script_of log) front at_start)
          (reply_at log none_pending k)) number
          (subst (λ (q : Ask). Answers (suc f.calls) q (in_order (meaning_of log) (script_of log) front at_start)
          (reply_at log none_pending (suc f.calls))) same
          (subst (λ (ts : List Turn). Answers (suc f.calls) a.ask
          (in_order (meaning_of log) (script_of log) ts at_start) (reply_at log none_pending (suc f.calls)))
          before here))
    ]
