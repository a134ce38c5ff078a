-- The calls of a histogram: each round's dispatch counts 64 values in 256 counters, which are read back at the end.
use Rattle.std.specs.Prelude.{ℕ, zero, suc, ◌+◌, ◌*◌, ◌%◌, ◌^◌, ◌==◌, Bool, false, List, [], ◌∷◌, ◌++◌, if◌then◌else◌}
use Rattle.call_log.specs.Call.{Call, Buffer, View, CreateShader, SetShader, SetConstant, SetSrv, SetUav, Dispatch, Copy, Update, MapWrite, MapRead}
use Rattle.call_log.specs.Put.{spell_words}

-- The counters, the values, the readback's buffer and the constant, and a view of each of the first two.
abbrev pub resources : List Call
resources =
    Buffer 1 1024 0 4 1 0 [] ∷ Buffer 2 256 2 2 1 0 [] ∷ Buffer 3 1024 3 0 0 0 [] ∷ Buffer 4 16 0 1 0 0 []
    ∷ View 1 1 1 0 0 0 256 ∷ View 2 2 0 0 0 0 64 ∷ []

-- The tokens of a shader of 64 threads. Each adds 1 to the counter that its value and the constant name, modulo 256.
abbrev pub shader_tokens : List ℕ
shader_tokens =
    0x1 ∷ 0x41 ∷ 0x401 ∷ 0x40 ∷ 0x1 ∷ 0x1 ∷ 0x202 ∷ 0x1 ∷ 0x203 ∷ 0x0 ∷ 0x404 ∷ 0x0 ∷ 0x0 ∷ 0x0
    ∷ 0x405 ∷ 0x0 ∷ 0x0 ∷ 0x0 ∷ 0x820 ∷ 0x10 ∷ 0x3 ∷ 0x1 ∷ 0x2 ∷ 0x0 ∷ 0x0 ∷ 0x0
    ∷ 0x430 ∷ 0x10 ∷ 0x0 ∷ 0x0 ∷ 0x512 ∷ 0x10 ∷ 0x0 ∷ 0x2 ∷ 0x0
    ∷ 0x81c ∷ 0x10 ∷ 0x0 ∷ 0x1 ∷ 0xff ∷ 0x0 ∷ 0x0 ∷ 0x0 ∷ 0x820 ∷ 0x10 ∷ 0x0 ∷ 0x1 ∷ 0x2 ∷ 0x0 ∷ 0x0 ∷ 0x0
    ∷ 0xe38 ∷ 0x7 ∷ 0x100 ∷ 0x0 ∷ 0x1 ∷ 0x0 ∷ 0x0 ∷ 0x0 ∷ 0x0 ∷ 0x1 ∷ 0x1 ∷ 0x0 ∷ 0x0 ∷ 0x0 ∷ []

-- The shader, and what is set for all rounds.
abbrev pub program : List Call
program = CreateShader 1 (spell_words shader_tokens) ∷ SetShader 1 ∷ SetConstant 0 4 ∷ SetSrv 0 2 ∷ SetUav 0 1 ∷ []

abbrev pub opening : List Call
opening = resources ++ program

-- Value j that a discard of round i writes.
abbrev pub input_word : ℕ → ℕ → ℕ
input_word i j = (i * 2654435761 + j * 40503) % 2 ^ 32

-- The first so many of them.
unfoldable pub input_words : ℕ → ℕ → List ℕ
input_words i zero = []
input_words i (suc j) = input_words i j ++ input_word i j ∷ []

-- New values, in one round of four.
abbrev pub discard : ℕ → List Call
discard i = if i % 4 == 1 then MapWrite 2 0 0 (spell_words (input_words i 64)) ∷ [] else []

-- A new constant, in one round of three.
abbrev pub update : ℕ → List Call
update i = if i % 3 == 0 then Update 4 0 (spell_words (i ∷ 0 ∷ 0 ∷ 0 ∷ [])) ∷ [] else []

-- A readback that doesn't wait, in one round of ten.
abbrev pub poll : ℕ → List Call
poll i = if i % 10 == 0 then Copy 3 1 ∷ MapRead 3 1 0 1024 ∷ [] else []

-- The calls of round i, from 1.
abbrev pub round : ℕ → List Call
round i = discard i ++ (update i ++ (Dispatch 1 1 1 ∷ poll i))

-- The calls of the first n rounds.
unfoldable pub rounds : ℕ → List Call
rounds zero = []
rounds (suc n) = rounds n ++ round (suc n)

-- The readback of all counters.
abbrev pub closing : List Call
closing = Copy 3 1 ∷ MapRead 3 0 0 1024 ∷ []

-- The calls of a histogram of n rounds.
abbrev pub histogram : ℕ → List Call
histogram n = opening ++ (rounds n ++ closing)

-- A readback that doesn't wait.
abbrev pub is_poll : Call → Bool
is_poll (MapRead res flag offset len) = flag == 1
is_poll _ = false
