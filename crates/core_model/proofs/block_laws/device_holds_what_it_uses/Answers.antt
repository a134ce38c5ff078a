use Rattle.std.proofs.Common.{[]}
use Rattle.vk_types.specs.Effects.{Meaning}
use Rattle.core_model.specs.Script.{Script}
use Rattle.core_model.specs.CoreState.{Core}
use Rattle.core_model.specs.Readings.{Reading}
use Rattle.core_model.specs.Reached.{IsReached}
use Rattle.core_model.proofs.Messages.DeviceHas.{left_held, next_unheld, parts_held, given_held, left_ends, parts_end}
use Rattle.core_model.proofs.Messages.Messaging.{kept, known}
use Rattle.core_model.proofs.Messages.Scenes.{reached_by_kinds}
use Rattle.core_model.proofs.Messages.UnheldSteps.{Unheld, unheld_kinds}
use Rattle.core_model.proofs.block_laws.device_holds_what_it_uses.Goals as goal

unheld : (meaning : Meaning) (reading : Reading) (script : Script) (core : Core) → IsReached meaning reading script core
    → Unheld core
unheld meaning reading script core h =
    reached_by_kinds meaning reading script Unheld (unheld_kinds meaning reading script h.lawful) h.lawful h.events core
    h.chain

pub returns : goal.returns
returns c = record {
  next = λ meaning reading script core h.
      next_unheld core (unheld meaning reading script core h);
  left = λ meaning reading script core h.
      left_held (record { script = script; meaning = meaning; part = λ s. [] }) reading core h.lawful
      (kept meaning reading script h.lawful h.events core h.chain)
      (known meaning reading script h.lawful h.events core h.chain);
  parts = λ meaning reading script core h.
      parts_held (record { script = script; meaning = meaning; part = λ s. [] }) reading core h.lawful
      (kept meaning reading script h.lawful h.events core h.chain)
      (known meaning reading script h.lawful h.events core h.chain);
  marks = λ meaning reading script core h.
      given_held (record { script = script; meaning = meaning; part = λ s. [] }) reading core h.lawful
      (kept meaning reading script h.lawful h.events core h.chain)
      (known meaning reading script h.lawful h.events core h.chain);
  left_ends = λ log reading core h front r back e.
      left_ends log reading core h.lawful (kept log.meaning reading log.script h.lawful h.events core h.chain)
      (known log.meaning reading log.script h.lawful h.events core h.chain) front r back e
      (unheld log.meaning reading log.script core h);
  parts_end = λ log reading core h front s back e out.
      parts_end log reading core h.lawful (kept log.meaning reading log.script h.lawful h.events core h.chain)
      (known log.meaning reading log.script h.lawful h.events core h.chain) front s back e out
      (unheld log.meaning reading log.script core h);
}
