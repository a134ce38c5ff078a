-- The words of a command.
use Rattle.std.specs.Prelude.{List, [], ◌∷◌, ℕ, Option, Some, None, codes, bytes_eq, if◌then◌else◌}
use Rattle.std.specs.Prelude.{String}
use Rattle.std.specs.Global.{Global}
use Rattle.std.specs.String.{string_bytes}
use Rattle.player.specs.declared.command.Command.{Command}
use Rattle.player.specs.declared.command.Command.TheVariants as commands

abbrev pub command_by_word : List ℕ → Option Command
command_by_word word =
    if bytes_eq word (codes "replay") then Some commands.Replay
    else if bytes_eq word (codes "ref") then Some commands.Ref
    else if bytes_eq word (codes "list") then Some commands.List
    else if bytes_eq word (codes "asm") then Some commands.Asm
    else if bytes_eq word (codes "audit") then Some commands.Audit
    else None

-- the command that some words are
abbrev pub command_of : List (String Global) → Option Command
command_of (word ∷ []) = command_by_word (string_bytes word)
command_of [] = None
command_of (word ∷ other ∷ words) = None
