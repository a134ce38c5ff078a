-- What a module in a shader's place leaves is what the log's meaning leaves.
use Rattle.std.proofs.Common.{◌≡◌, ℕ, zero, suc, ◌+◌, ◌*◌, ◌<◌, true, false, cond, List, map, sym, ap, ◌∙◌, Some, arith}
use Rattle.std.specs.Prelude.{if◌then◌else◌}
use mathlib.Core.Path.{fun_ext}
use Rattle.base_lemmas.specs.Lists.{numbers_from}
use Rattle.call_log.specs.Call.{Issued}
use Rattle.d3d_model.specs.InOrder.{call_at}
use Rattle.d3d_model.specs.Shader.{ran_if, ran_dispatch}
use Rattle.shader_model.specs.Shader.{Program, shader_of}
use Rattle.shader_model.specs.Invocation.{Slots, words_in}
use Rattle.shader_model.specs.Dispatch.{is_allowed, volume, dispatched, run_all, invocations}
use Rattle.spirv_model.specs.Meaning.Bindings.{SlotsFit}
use Rattle.spirv_model.specs.Meaning.ModuleDispatch.{group_of, module_dispatched}
use Rattle.vk_types.specs.declared.command.Groups.{Groups}
use Rattle.vk_types.specs.declared.command.SlotRange.{SlotRange}
use Rattle.vk_types.specs.declared.command.Work.TheVariants as work
use Rattle.vk_types.specs.Memory.{Memory}
use Rattle.vk_types.specs.Effects.{SlotWords, slots_words, group_counts, put_slots, work_effect}
use Rattle.core_model.specs.Formed.{DispatchIsFormed}
use Rattle.log_script.specs.LogScript.{words_by, all_slots, no_slots, meaning_of}
use Rattle.core_model.specs.HostBytes.{IsOfBytes}
use Rattle.log_script.specs.Modules.{IsModuleOf}
use Rattle.log_script.proofs.Meant.SlotsOfBytes.{slots_fit}

-- the words of a slot that there is
listed : (f : ℕ → List ℕ) (n from k : ℕ) → k < n → words_in (map f (numbers_from from n)) k ≡ f (from + k)
listed f zero from k l = absurd (let z : ⊥ = omega (arith, l) in z)
listed f (suc n) from zero l = ap f (let z : from ≡ from + 0 = omega arith in z)
listed f (suc n) from (suc k) l =
    listed f n (suc from) k (omega (arith, l)) ∙ ap f (let z : suc from + k ≡ from + suc k = omega arith in z)

module _ (log : List Issued) (shader : ℕ) (program : Program) (words : List ℕ)
    (spells : shader_of (words_by (call_at log shader)) ≡ Some program) (is : IsModuleOf words program) where
  -- the log's meaning is the program's
  left_by : (counts : List ℕ) (slots : SlotWords) (view : ℕ)
      → (meaning_of log).words shader counts slots view ≡ words_in
      (dispatched program counts (all_slots slots)).writes view
  unfolding ran_dispatch
  left_by counts slots view = ap (λ o. words_in (ran_if o counts (all_slots slots)).slots.writes view) spells

  count_by : (counts : List ℕ)
      → (meaning_of log).count shader counts
      ≡ (if is_allowed counts program.group then volume counts * volume program.group else 0)
  unfolding ran_dispatch
  count_by counts = ap (λ o. (ran_if o counts no_slots).count) spells

  pub has_outcome : (counts : List ℕ) (slots : SlotWords) → is_allowed counts (group_of words) ≡ true
      → SlotsFit (all_slots slots)
      → (left : Slots) × (module_dispatched words counts (all_slots slots) ≡ Some left)
      × ((view : ℕ) → words_in left.writes view ≡ (meaning_of log).words shader counts slots view)
  has_outcome counts slots allowed fit = (
    dispatched program counts (all_slots slots),
    is.dispatches counts (all_slots slots) (ap (is_allowed counts) (sym is.group) ∙ allowed) fit,
    λ view. sym (left_by counts slots view),
  )

  -- a formed dispatch of the module does to memory what the log's shader does
  pub does_as : (memory : Memory) → IsOfBytes memory → (counts : Groups) (slots : List SlotRange)
      → DispatchIsFormed counts slots → is_allowed (group_counts memory counts) (group_of words) ≡ true
      → (left : Slots)
      × (module_dispatched words (group_counts memory counts) (all_slots (slots_words memory slots)) ≡ Some left)
      × (work_effect (meaning_of log) (work.Dispatch shader counts slots) memory
      ≡ put_slots (λ view. words_in left.writes view) slots memory)
  does_as memory bytes counts slots formed allowed =
      let o = has_outcome (group_counts memory counts) (slots_words memory slots) allowed
      (slots_fit memory bytes slots formed.each) in (
        o.0,
        o.1,
        ap (λ f. put_slots f slots memory) (fun_ext (λ view. sym (o.2 view))),
      )

  pub too_large : (counts : List ℕ) (slots : SlotWords) → is_allowed counts (group_of words) ≡ false
      → (view : ℕ) → view < 8 → (meaning_of log).words shader counts slots view ≡ slots.uav view
  too_large counts slots large view there =
      left_by counts slots view
      ∙ ap (λ b. words_in (if b then run_all program (invocations counts program.group) (all_slots slots) else
      all_slots slots).writes view)
      (ap (is_allowed counts) (sym is.group) ∙ large)
      ∙ listed slots.uav 8 0 view there ∙ ap slots.uav (let z : 0 + view ≡ view = omega arith in z)

  pub counts_alike : (counts : List ℕ)
      → (meaning_of log).count shader counts ≡ cond (is_allowed counts (group_of words))
      (volume counts * volume (group_of words)) 0
  counts_alike counts =
      count_by counts ∙ ap (λ g. if is_allowed counts g then volume counts * volume g else 0) (sym is.group)
