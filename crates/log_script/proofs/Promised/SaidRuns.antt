-- A run ends, and has said by then all that it has to say.
use Rattle.std.proofs.Common.{◌≡◌, ℕ, true, false, List, [], ◌∷◌, ◌++◌, length, sym, ap, ◌∙◌, subst, append-nil}
use Rattle.std.specs.List.{AllByRecursion, flat_map}
use Rattle.call_log.specs.Call.{Issued}
use Rattle.core_model.specs.CoreState.{Said, End_said, Core, start}
use Rattle.core_model.specs.Readings.{Reading, Any_choices}
use Rattle.core_model.specs.CoreStep.{Event, Chain}
use Rattle.core_model.specs.Runs.{IsRun}
use Rattle.core_model.proofs.Runs.Choices.{run_free}
use Rattle.core_model.proofs.Ends.CoreChains.{run_ended}
use Rattle.log_script.specs.LogScript.{meaning_of, script_of}
use Rattle.log_script.specs.Said.{said_call, answering, replying}
use Rattle.log_script.proofs.Promised.SaidSteps.{NotEnd, Ends, TellsAll, answering-append, reached_tells}
use Rattle.log_script.proofs.Promised.SaidTurns.{turns_say}

-- the end is said last, and once
abbrev pub SaysEnd : List Said → Type 0
SaysEnd replies = (front : List Said) × (replies ≡ front ++ End_said ∷ []) × AllByRecursion NotEnd front

-- in every state that steps reach, the calls so far are the first ones
pub says_so_far : (log : List Issued) (reading : Reading) (events : List Event) (core : Core)
    → Chain (meaning_of log) reading (script_of log) (start (script_of log)) events core
    → (later : List ℕ) × (replying log (length log) ≡ flat_map said_call core.replies ++ later)
says_so_far log reading events core h =
    let told : TellsAll (script_of log) core = reached_tells (meaning_of log) reading (script_of log) events core h in (
      answering core.future,
      sym (turns_say log (length log)) ∙ ap answering (sym told.position)
          ∙ answering-append core.past core.future ∙ ap (λ l. l ++ answering core.future) (sym told.said),
    )

pub not_ended : (log : List Issued) (reading : Reading) (events : List Event) (core : Core)
    → Chain (meaning_of log) reading (script_of log) (start (script_of log)) events core
    → core.ended ≡ false → AllByRecursion NotEnd core.replies
not_ended log reading events core h e =
    let told : TellsAll (script_of log) core = reached_tells (meaning_of log) reading (script_of log) events core h in
    subst (λ b. Ends b core.future core.replies) e told.end

pub chain_says : (log : List Issued) (reading : Reading) (events : List Event) (core : Core)
    → Chain (meaning_of log) reading (script_of log) (start (script_of log)) events core → core.ended ≡ true
    → (flat_map said_call core.replies ≡ replying log (length log)) × SaysEnd core.replies
chain_says log reading events core h e =
    let told : TellsAll (script_of log) core = reached_tells (meaning_of log) reading (script_of log) events core h in
    let end = subst (λ b. Ends b core.future core.replies) e told.end in
    let all : core.past ≡ (script_of log).turns = sym (append-nil core.past) ∙ ap (λ l. core.past ++ l) (sym end.0)
    ∙ told.position in
    (told.said ∙ ap answering all ∙ turns_say log (length log), end.1)

pub run_says : (log : List Issued) (schedule : List ℕ) (core : Core)
    → IsRun (meaning_of log) (script_of log) schedule core
    → (flat_map said_call core.replies ≡ replying log (length log)) × SaysEnd core.replies
run_says log schedule core r =
    let free = run_free (meaning_of log) (script_of log) schedule core r in
    chain_says log Any_choices free.0 core free.1 (run_ended (meaning_of log) (script_of log) schedule core r)
