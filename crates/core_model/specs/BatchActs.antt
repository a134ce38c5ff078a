-- What a device does of a batch: the blocks that its items take are set to 0, its parts are written, its commands run.
use Rattle.std.specs.Prelude.{ℕ, suc, List, [], ◌∷◌, ◌++◌, length, map, replicate}
use Rattle.vk_types.specs.declared.command.Command.{Command}
use Rattle.vk_types.specs.Memory.{Memory, range}
use Rattle.vk_types.specs.Effects.{Meaning, Act, Host_write, Device, act_effect}
use Rattle.core_model.specs.Chunking.{chunk_turns}
use Rattle.core_model.specs.CoreState.{somes}
use Rattle.core_model.specs.Batching.{Written}
use Rattle.core_model.specs.Succession.{Head, Log, taken_lengths}
use Rattle.core_model.specs.Spine.{made_of}

-- each of the blocks, in its whole length
abbrev pub zeroed : List ℕ → List ℕ → List Act
zeroed [] lengths = []
zeroed (b ∷ bs) [] = []
zeroed (b ∷ bs) (n ∷ ns) = Host_write (range b 0 n) (replicate n 0) ∷ zeroed bs ns

abbrev pub part_acts : List Written → List Act
part_acts [] = []
part_acts (w ∷ ws) = Host_write w.range w.bytes ∷ part_acts ws

abbrev pub command_acts : List Command → List Act
command_acts [] = []
command_acts (d ∷ ds) = Device d ∷ command_acts ds

-- the acts of the message's batch, behind the other messages
abbrev pub batch_acts : Log → List Head → Head → List Act
batch_acts log front h =
    zeroed (somes (map (λ p. p.block) h.placed)) (taken_lengths log.script
    (chunk_turns log.script (suc (length front))))
    ++ (part_acts (made_of log (front ++ h ∷ [])).writes ++ command_acts (made_of log (front ++ h ∷ [])).listed)

-- acts one after another
abbrev pub run_acts : Meaning → List Act → Memory → Memory
run_acts meaning [] memory = memory
run_acts meaning (a ∷ others) memory = run_acts meaning others (act_effect meaning a memory)
