-- What the words of a module make of a dispatch.
use Rattle.std.specs.Prelude.{ℕ, cond, List, map, Option, Some, None}
use Rattle.shader_model.specs.Invocation.{Slots, words_in}
use Rattle.shader_model.specs.Dispatch.{is_allowed, volume}
use Rattle.std.specs.Prelude.{◌*◌}
use Rattle.dx_types.specs.declared.limits.TheConstants.{CONSTANT_SLOTS, SRV_SLOTS, UAV_SLOTS}
use Rattle.spirv_model.specs.Meaning.ModuleDispatch.{group_of, module_dispatched}
use Rattle.base_lemmas.specs.Lists.{numbers_from}
use Rattle.vk_types.specs.Effects.{Meaning, SlotWords}

-- the words of the 14 constant buffers, 16 resources and 8 unordered access views that a module can name
abbrev pub slots_of : SlotWords → Slots
slots_of s = record {
  constants = map s.constant (numbers_from 0 CONSTANT_SLOTS);
  reads = map s.srv (numbers_from 0 SRV_SLOTS);
  writes = map s.uav (numbers_from 0 UAV_SLOTS);
}

-- the words of an unordered access view after a dispatch, as they were where it has no outcome
abbrev pub left_in : SlotWords → Option Slots → ℕ → List ℕ
left_in s None = s.uav
left_in s (Some slots) = λ i. words_in slots.writes i

-- the slots after a dispatch, None where it is too large
abbrev pub outcome_of : List ℕ → List ℕ → SlotWords → Option Slots
outcome_of words counts s = cond (is_allowed counts (group_of words)) (module_dispatched words counts (slots_of s)) None

-- what a module's words make of a dispatch, whatever shader it names: a dispatch that is too large runs nothing
abbrev pub module_meaning_of : List ℕ → Meaning
module_meaning_of words = record {
  words = λ shader counts s. left_in s (outcome_of words counts s);
  count = λ shader counts. cond (is_allowed counts (group_of words)) (volume counts * volume (group_of words)) 0;
}

-- no module: no dispatch does anything
abbrev pub no_meaning : Meaning
no_meaning = record { words = λ shader counts s. s.uav; count = λ shader counts. 0 }

-- what a dispatch does by the module that is given, if one is
abbrev pub meaning_by : Option (List ℕ) → Meaning
meaning_by None = no_meaning
meaning_by (Some words) = module_meaning_of words
