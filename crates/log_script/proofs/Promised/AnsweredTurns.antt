-- What the turns of each call tell of it: a refused one is refused, and one that asks has its last use, and may be
-- pending only where it does not wait.
use Rattle.std.proofs.Common.{◌≡◌, ℕ, ◌==◌, Bool, true, false, List, [], ◌∷◌, ◌++◌, Option, Some, None, refl, sym}
use Rattle.std.proofs.Common.{subst}
use Rattle.std.specs.Prelude.{⊤, if◌then◌else◌}
use Rattle.std.specs.List.{AllByRecursion}
use Rattle.std.proofs.lemmas.Bool.{eqb-true}
use Rattle.dx_types.specs.declared.refusal.Refusal.{Refusal}
use Rattle.dx_types.specs.declared.reply.Reply.{Reply}
use Rattle.dx_types.specs.declared.reply.Reply.TheVariants as said
use Rattle.call_log.specs.Call as calls
use Rattle.call_log.specs.Call.{Call, Issued}
use Rattle.d3d_model.specs.D3dState.{Objects, Numbered, calls_of_list}
use Rattle.d3d_model.specs.Past.{Past}
use Rattle.d3d_model.specs.Verdict.{place_of}
use Rattle.d3d_model.specs.Effect.{played, list_start}
use Rattle.d3d_model.specs.InOrder.{State, verdict_in, before_call, call_at}
use Rattle.d3d_model.specs.Uses.{use_in, use_unless, use_by, last_use}
use Rattle.d3d_model.specs.ReplyText.{none_pending, answer_or_still, reply_unless, reply_to, reply_at}
use Rattle.base_lemmas.specs.IdMap.{get}
use Rattle.core_model.specs.Script.{Ask, Turn, Refused, Passed, Flushed, Asked, Item}
use Rattle.log_script.specs.Answered.{IsNoWait}
use Rattle.log_script.specs.Turns.{item_of, list_items, turns_by_place, turns_unless, turns_in}
use Rattle.log_script.specs.LogScript.{script_of}
use Rattle.log_script.proofs.Owed.EachTurn.{OfSome, each_turn}

-- what a turn of call n tells of the reply to the call, its last use, and the call
abbrev pub Tells : ℕ → Option Reply → Option ℕ → Option Issued → Turn → Type 0
Tells n reply last o (Refused call) = (call ≡ n) × (why : Refusal) × (reply ≡ Some (said.Refused n why))
Tells n reply last o (Passed call) = ⊤
Tells n reply last o (Flushed call) = ⊤
Tells n reply last o (Asked call ask used may_pend) = (call ≡ n) × (last ≡ used) × (may_pend ≡ true → IsNoWait o)
Tells n reply last o (Item call item ends play bound) = ⊤

items_tell : (n : ℕ) (reply : Option Reply) (last : Option ℕ) (i : Option Issued) (past : Past) (o : Objects)
    (cs : List Numbered) → AllByRecursion (Tells n reply last i) (list_items n past o cs)
items_tell n reply last i past o [] = (tt, tt)
items_tell n reply last i past o (c ∷ cs) = (tt, items_tell n reply last i past (played n o c.call) cs)

each_tells : (n x : ℕ) (s : State) (c : Call) (reply : Option Reply) (last : Option ℕ) (i : Option Issued)
    → AllByRecursion (Tells n reply last i) (if x == 0 then item_of n n true s.past s.objects c ∷ [] else Passed n ∷ [])
each_tells n x s c reply last i =
    elim (x == 0) as (λ b. AllByRecursion (Tells n reply last i)
    (if b then item_of n n true s.past s.objects c ∷ [] else Passed n ∷ []))
    [ true ↦ (tt, tt) | false ↦ (tt, tt) ]

accepted_tells : (n : ℕ) (s : State) (x : ℕ) (c : Call)
    → AllByRecursion (Tells n (answer_or_still n s c (get none_pending n)) (use_in s c)
    (Some (record { context = x; call = c }))) (turns_by_place (place_of c) n s x c)
accepted_tells n s x (calls.Buffer id size usage bind misc stride bytes) = (tt, tt)
accepted_tells n s x (calls.View view res kind form components first count) = (tt, tt)
accepted_tells n s x (calls.CreateShader id words) = (tt, tt)
accepted_tells n s x (calls.Query id sort) = (tt, tt)
accepted_tells n s x (calls.Destroy class id) = (tt, tt)
accepted_tells n s x (calls.MapRead res flag offset len) = ((refl, refl, λ e. eqb-true flag 1 e), tt)
accepted_tells n s x (calls.GetData query flag) = ((refl, refl, λ e. eqb-true flag 1 e), tt)
accepted_tells n s x calls.Flush = (tt, tt)
accepted_tells n s x (calls.ExecuteList list flag) =
    items_tell n (answer_or_still n s (calls.ExecuteList list flag) (get none_pending n))
    (use_in s (calls.ExecuteList list flag)) (Some (record { context = x; call = calls.ExecuteList list flag }))
    s.past (list_start s.objects) (calls_of_list s.objects list)
accepted_tells n s x (calls.FinishList list) = (tt, tt)
accepted_tells n s x c = each_tells n x s c (answer_or_still n s c (get none_pending n)) (use_in s c)
    (Some (record { context = x; call = c }))

unless_tells : (n : ℕ) (s : State) (i : Issued) (v : Option Refusal)
    → AllByRecursion (Tells n (reply_unless none_pending n s i.call v) (use_unless s i.call v) (Some i))
    (turns_unless n s i v)
unless_tells n s i (Some why) = ((refl, why, refl), tt)
unless_tells n s i None = accepted_tells n s i.context i.call

call_tells : (n : ℕ) (s : State) (o : Option Issued) → AllByRecursion
    (Tells n (reply_to none_pending n s o) (use_by s o) o) (turns_in n s o)
call_tells n s None = tt
call_tells n s (Some i) = unless_tells n s i (verdict_in s i)

-- what each turn of a script tells of its call
abbrev pub TellsOf : List Issued → ℕ → Turn → Type 0
TellsOf log n t = Tells n (reply_at log none_pending n) (last_use log n) (call_at log n) t

turn_tells : (log : List Issued) (front : List Turn) (t : Turn) (back : List Turn)
    → (script_of log).turns ≡ front ++ t ∷ back → OfSome (TellsOf log) t
turn_tells log front t back e = each_turn (TellsOf log) log (λ n. call_tells n (before_call log n) (call_at log n))
    front t back e

-- a refused turn's call is refused
pub refused_tells : (log : List Issued) (front : List Turn) (call : ℕ) (back : List Turn)
    → (script_of log).turns ≡ front ++ Refused call ∷ back
    → (why : Refusal) × (reply_at log none_pending call ≡ Some (said.Refused call why))
refused_tells log front call back e =
    let f = turn_tells log front (Refused call) back e in
    refused_of f.0 f.1
  where
    refused_of : (n : ℕ) → TellsOf log n (Refused call) → (why : Refusal)
        × (reply_at log none_pending call ≡ Some (said.Refused call why))
    refused_of n h = subst (λ (k : ℕ). (why : Refusal) × (reply_at log none_pending k ≡ Some (said.Refused k why)))
        (sym h.0) (h.1, h.2)

-- a turn that asks has its call's last use, and may be pending only where the call does not wait
pub asked_tells : (log : List Issued) (front : List Turn) (call : ℕ) (ask : Ask) (used : Option ℕ) (may_pend : Bool)
    (back : List Turn)
    → (script_of log).turns ≡ front ++ Asked call ask used may_pend ∷ back → (last_use log call ≡ used)
    × (may_pend ≡ true → IsNoWait (call_at log call))
asked_tells log front call ask used may_pend back e =
    let f = turn_tells log front (Asked call ask used may_pend) back e in
    asked_of f.0 f.1
  where
    asked_of : (n : ℕ) → TellsOf log n (Asked call ask used may_pend) → (last_use log call ≡ used)
        × (may_pend ≡ true → IsNoWait (call_at log call))
    asked_of n h = subst (λ (k : ℕ). (last_use log k ≡ used)
        × (may_pend ≡ true → IsNoWait (call_at log k))) (sym h.0) (h.1, h.2)
