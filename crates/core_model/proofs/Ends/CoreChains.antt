-- What holds along the steps of the core that is stepped, and at the end of a run.
use Rattle.std.proofs.Common.{◌≡◌, ℕ, ◌+◌, ◌≤◌, true, List, [], ◌∷◌, ◌++◌, length, sym, ap, ◌∙◌, subst, arith}
use Rattle.std.proofs.Common.{append-nil}
use Rattle.vk_types.specs.Covered.{Covered}
use Rattle.vk_types.specs.Effects.{Meaning}
use Rattle.vk_types.specs.Entries.{EntriesKeep, run_entries}
use Rattle.base_lemmas.specs.Lists.{IsReordering}
use Rattle.vk_types.specs.Memory.{zeros}
use Rattle.vk_types.specs.RunListing.{IsRunListing}
use Rattle.core_model.specs.Script.{Script}
use Rattle.core_model.specs.CoreState.{Core, start, flat, of_messages, of_running, rests, on_device}
use Rattle.core_model.specs.Readings.{Reading}
use Rattle.core_model.specs.CoreStep.{Event, Chain}
use Rattle.core_model.specs.Runs.{Settles, At_end, Settling, IsRun}
use Rattle.core_model.specs.Ends.{distance, CoreChain, IsWhole}
use Rattle.core_model.specs.Lawful.{IsLawful}
use Rattle.core_model.specs.Invariant.{commands_of, Good}
use Rattle.core_model.proofs.Steps.OtherParts.{listing_is_run, listing_is_covered, memory_is_listed}
use Rattle.core_model.proofs.Runs.RunsKeepAll.{reached_kept}
use Rattle.core_model.proofs.Ends.Nearer.{nearer}
use Rattle.core_model.proofs.Ends.CoreReached.{Ready, ready_start, ready_step}
use Rattle.core_model.proofs.Ends.EndsWhole.{ends_whole}

pub bounded : (meaning : Meaning) (script : Script) (events : List Event) (old new : Core)
    → CoreChain meaning script old events new → length events + distance new ≤ distance old
bounded meaning script [] old new h = let e = ap distance h in omega (arith, e)
bounded meaning script (e ∷ events) old new h =
    let near = nearer meaning script old e h.0 h.1 in
    let rest = bounded meaning script events h.0 new h.2 in
    omega (arith, near, rest)

ready_chain : (meaning : Meaning) (script : Script) (lawful : IsLawful meaning script) (events : List Event)
    (old new : Core) → CoreChain meaning script old events new → Ready meaning script lawful old
    → Ready meaning script lawful new
ready_chain meaning script lawful [] old new h r = subst (Ready meaning script lawful) (sym h) r
ready_chain meaning script lawful (e ∷ events) old new h r =
    ready_chain meaning script lawful events h.0 new h.2 (ready_step meaning script lawful old e h.0 h.1 r)

pub ready_here : (meaning : Meaning) (script : Script) (lawful : IsLawful meaning script) (events : List Event)
    (core : Core) → CoreChain meaning script (start script) events core → Ready meaning script lawful core
ready_here meaning script lawful events core h = ready_chain meaning script lawful events (start script) core h
    (ready_start meaning script lawful)

settled : (meaning : Meaning) (script : Script) (old new : Core) → Settles meaning script old new → new.ended ≡ true
settled meaning script old new (At_end _ e) = e
settled meaning script old new (Settling _ mid _ f s) = settled meaning script mid new s

pub run_ended : (meaning : Meaning) (script : Script) (schedule : List ℕ) (core : Core)
    → IsRun meaning script schedule core → core.ended ≡ true
run_ended meaning script schedule core h = settled meaning script h.0 core h.2

-- At the end --------------------------------------------------------------------------------------------------------

module _ (meaning : Meaning) (reading : Reading) (script : Script) (lawful : IsLawful meaning script)
    (events : List Event) (core : Core)
    (h : Chain meaning reading script (start script) events core) (ended : core.ended ≡ true) where
  abbrev whole : IsWhole script core
  whole = ends_whole meaning reading script lawful events core h ended

  abbrev good : Good meaning reading script core
  good = (reached_kept meaning reading script lawful events core h).good

  all_taken : on_device core ≡ core.taken
  all_taken =
      ap (λ l. core.taken ++ (of_messages l ++ (of_messages core.completions ++ of_running core.accepted))) whole.posts
      ∙ ap (λ l. core.taken ++ (of_messages l ++ of_running core.accepted)) whole.completions
      ∙ ap (λ l. core.taken ++ of_running l) whole.accepted ∙ append-nil core.taken

  none_left : rests core.accepted ≡ []
  none_left = ap rests whole.accepted

  all_ran : core.ran ++ rests core.accepted ≡ core.ran
  all_ran = ap (λ l. core.ran ++ l) none_left ∙ append-nil core.ran

  pub end_listed : core.listing ++ core.open_chunk.ops ≡ core.listing
  end_listed = ap (λ l. core.listing ++ l) whole.ops ∙ append-nil core.listing

  pub end_ran : IsReordering (commands_of core.taken) core.ran × EntriesKeep core.ran
  end_ran = (
    subst (λ ss. IsReordering (commands_of ss) core.ran) all_taken
        (subst (IsReordering (commands_of (on_device core))) all_ran good.sound.whole),
    subst EntriesKeep all_ran good.sound.order,
  )

  pub end_memory : core.memory ≡ run_entries meaning (flat core.taken) zeros
  end_memory = memory_is_listed meaning reading script core good none_left
      ∙ ap (λ ss. run_entries meaning (flat ss) zeros) all_taken

  pub end_covered : Covered core.listing
  end_covered = subst Covered end_listed (listing_is_covered meaning reading script core good)

  pub end_listing : IsRunListing core.is_staging core.listing × Covered core.listing
  end_listing = (
    subst (IsRunListing core.is_staging) end_listed (listing_is_run meaning reading script core good),
    end_covered,
  )
