-- The calls whose turns are answered with a line are those to which in-order Direct3D says something.
use Rattle.std.proofs.Common.{◌≡◌, ℕ, zero, suc, ◌==◌, true, false, List, [], ◌∷◌, ◌++◌, Option, Some, None, refl}
use Rattle.std.proofs.Common.{sym, ap, ◌∙◌}
use Rattle.std.specs.Prelude.{slice_get, if◌then◌else◌}
use Rattle.dx_types.specs.declared.refusal.Refusal.{Refusal}
use Rattle.call_log.specs.Call as calls
use Rattle.call_log.specs.Call.{Call, Issued}
use Rattle.d3d_model.specs.D3dState.{Objects, Numbered, calls_of_list}
use Rattle.d3d_model.specs.Past.{Past}
use Rattle.d3d_model.specs.Verdict.{place_of}
use Rattle.d3d_model.specs.Effect.{played, list_start}
use Rattle.d3d_model.specs.InOrder.{State, verdict_in, after_calls}
use Rattle.d3d_model.specs.ReplyText.{none_pending, answer, answer_or_still, reply_unless, reply_to, reply_at}
use Rattle.base_lemmas.proofs.Maps.{get-empty}
use Rattle.core_model.specs.Script.{Passed}
use Rattle.log_script.specs.Turns.{item_of, list_items, turns_by_place, turns_unless, turns_in, turns_of}
use Rattle.log_script.specs.LogScript.{turns_upto}
use Rattle.log_script.specs.Said.{answering, replied, replying}
use Rattle.log_script.proofs.Promised.SaidSteps.{answering-append}

items_say_none : (n : ℕ) (past : Past) (o : Objects) (cs : List Numbered) → answering (list_items n past o cs) ≡ []
items_say_none n past o [] = refl
items_say_none n past o (c ∷ cs) = items_say_none n past (played n o c.call) cs

each_says_none : (n x : ℕ) (s : State) (c : Call) → answering
    (if x == 0 then item_of n n true s.past s.objects c ∷ [] else Passed n ∷ []) ≡ []
each_says_none n x s c =
    elim (x == 0) as (λ b. answering (if b then item_of n n true s.past s.objects c ∷ [] else Passed n ∷ []) ≡ [])
    [ true ↦ refl | false ↦ refl ]

-- of an accepted call, where none waits
accepted_says : (n : ℕ) (s : State) (x : ℕ) (c : Call) → answering (turns_by_place (place_of c) n s x c)
    ≡ replied n (answer n s c)
accepted_says n s x (calls.Buffer id size usage bind misc stride bytes) = refl
accepted_says n s x (calls.View view res kind form components first count) = refl
accepted_says n s x (calls.CreateShader id words) = refl
accepted_says n s x (calls.Query id sort) = refl
accepted_says n s x (calls.Destroy class id) = refl
accepted_says n s x (calls.MapRead res flag offset len) = refl
accepted_says n s x (calls.GetData query flag) = refl
accepted_says n s x calls.Flush = refl
accepted_says n s x (calls.ExecuteList list flag) = items_say_none n s.past (list_start s.objects)
    (calls_of_list s.objects list)
accepted_says n s x (calls.FinishList list) = refl
accepted_says n s x c = each_says_none n x s c

call_says : (log : List Issued) (n : ℕ) → answering (turns_of log (suc n))
    ≡ replied (suc n) (reply_at log none_pending (suc n))
call_says log n = one (suc n) (after_calls log n) (slice_get log n)
  where
    unless : (n : ℕ) (s : State) (i : Issued) (v : Option Refusal)
        → answering (turns_unless n s i v) ≡ replied n (reply_unless none_pending n s i.call v)
    unless n s i (Some why) = refl
    unless n s i None = accepted_says n s i.context i.call ∙ sym
        (ap (λ (o : Option ℕ). replied n (answer_or_still n s i.call o)) (get-empty ℕ n))

    one : (n : ℕ) (s : State) (o : Option Issued) → answering (turns_in n s o) ≡ replied n (reply_to none_pending n s o)
    one n s None = refl
    one n s (Some i) = unless n s i (verdict_in s i)

pub turns_say : (log : List Issued) (n : ℕ) → answering (turns_upto log n) ≡ replying log n
unfolding turns_upto replying
turns_say log zero = refl
turns_say log (suc n) =
    answering-append (turns_upto log n) (turns_of log (suc n))
    ∙ ap (λ l. l ++ answering (turns_of log (suc n))) (turns_say log n)
    ∙ ap (λ l. replying log n ++ l) (call_says log n)
