-- Shaders whose outcome the definitions give, worked out by hand: loads, atomics, constants, and the order of threads.
use Rattle.std.specs.Prelude.{◌≡◌, ℕ, List, [], ◌∷◌, ◌++◌, Option, Some, option_map, map, refl}
use Rattle.shader_model.specs.Opcodes.{row_of}
use Rattle.shader_model.specs.Shader.{spelled_by}
use Rattle.shader_model.specs.Dispatch.{places, invocations, dispatched}

-- a typed load of the second element of two components: those that it lacks are 0 and 1
abbrev typed_element : List ℕ
typed_element =
    (0x1 ∷ 0x20 ∷ [])
    ++ (0x401 ∷ 1 ∷ 1 ∷ 1 ∷ [])
    ++ (0x202 ∷ 1 ∷ [])
    ++ (0x404 ∷ 0 ∷ 2 ∷ 2 ∷ [])
    ++ (0x405 ∷ 0 ∷ 0 ∷ 0 ∷ [])
    ++ (0x834 ∷ 0xf0 ∷ 0xe41 ∷ 1 ∷ 1 ∷ 1 ∷ 1 ∷ 0x0 ∷ [])
    ++ (0xf0831 ∷ 0x100 ∷ 0xe41 ∷ 0 ∷ 0 ∷ 0 ∷ 0 ∷ 0xe40 ∷ [])

-- the words of unordered access view 0 after one group, with these words in constant buffer 0 and resource 0
abbrev after_reading : List ℕ → List ℕ → List ℕ → Option (List (List ℕ))
after_reading shader words view = option_map (λ p. (dispatched p (1 ∷ 1 ∷ 1 ∷ []) (record { constants = words ∷ []; reads = words ∷ []; writes = view ∷ [] })).writes) (spelled_by shader)

after_typed_element : after_reading typed_element (7 ∷ 8 ∷ 9 ∷ 10 ∷ []) (5 ∷ 5 ∷ 5 ∷ 5 ∷ []) ≡ Some ((9 ∷ 10 ∷ 0 ∷ 1 ∷ []) ∷ [])
unfolding row_of
after_typed_element = refl

-- outside, and where nothing is bound, all components are 0
after_typed_outside : after_reading typed_element (7 ∷ 8 ∷ []) (5 ∷ 5 ∷ 5 ∷ 5 ∷ []) ≡ Some ((0 ∷ 0 ∷ 0 ∷ 0 ∷ []) ∷ [])
unfolding row_of
after_typed_outside = refl

after_typed_unbound : after_reading typed_element [] (5 ∷ 5 ∷ 5 ∷ 5 ∷ []) ≡ Some ((0 ∷ 0 ∷ 0 ∷ 0 ∷ []) ∷ [])
unfolding row_of
after_typed_unbound = refl

-- a load of y alone is of the word behind the address
abbrev second_component : List ℕ
second_component =
    (0x1 ∷ 0x20 ∷ [])
    ++ (0x401 ∷ 1 ∷ 1 ∷ 1 ∷ [])
    ++ (0x202 ∷ 1 ∷ [])
    ++ (0x404 ∷ 0 ∷ 0 ∷ 0 ∷ [])
    ++ (0x405 ∷ 0 ∷ 0 ∷ 0 ∷ [])
    ++ (0x830 ∷ 0x20 ∷ 0xe41 ∷ 4 ∷ 4 ∷ 4 ∷ 4 ∷ 0x0 ∷ [])
    ++ (0xf0831 ∷ 0x100 ∷ 0xe41 ∷ 0 ∷ 0 ∷ 0 ∷ 0 ∷ 0xe40 ∷ [])

after_second_component : after_reading second_component (5 ∷ 6 ∷ 7 ∷ 8 ∷ []) (1 ∷ 1 ∷ 1 ∷ 1 ∷ []) ≡ Some ((0 ∷ 7 ∷ 0 ∷ 0 ∷ []) ∷ [])
unfolding row_of
after_second_component = refl

-- an atomic on the second word of the second structure, whose old word is stored into the first
abbrev atomic_in_structure : List ℕ
atomic_in_structure =
    (0x1 ∷ 0x2b ∷ [])
    ++ (0x401 ∷ 1 ∷ 1 ∷ 1 ∷ [])
    ++ (0x202 ∷ 1 ∷ [])
    ++ (0x405 ∷ 0 ∷ 1 ∷ 8 ∷ [])
    ++ (0x1238 ∷ 0x90 ∷ 0x100 ∷ 0xe41 ∷ 1 ∷ 1 ∷ 1 ∷ 1 ∷ 0xe41 ∷ 4 ∷ 4 ∷ 4 ∷ 4 ∷ 0xe41 ∷ 5 ∷ 5 ∷ 5 ∷ 5 ∷ [])
    ++ (0x10d33 ∷ 0x100 ∷ 0xe41 ∷ 0 ∷ 0 ∷ 0 ∷ 0 ∷ 0xe41 ∷ 0 ∷ 0 ∷ 0 ∷ 0 ∷ 0xe40 ∷ [])

after_atomic_in_structure : after_reading atomic_in_structure [] (1 ∷ 2 ∷ 3 ∷ 4 ∷ []) ≡ Some ((4 ∷ 2 ∷ 3 ∷ 9 ∷ []) ∷ [])
unfolding row_of
after_atomic_in_structure = refl

-- an atomic outside gives 0 and changes nothing
after_atomic_outside : after_reading atomic_in_structure [] (1 ∷ 2 ∷ []) ≡ Some ((0 ∷ 2 ∷ []) ∷ [])
unfolding row_of
after_atomic_outside = refl

-- a constant's vector 2 behind number 0xffffffff is vector 1
abbrev relative_constant : List ℕ
relative_constant =
    (0x1 ∷ 0x22 ∷ [])
    ++ (0x401 ∷ 1 ∷ 1 ∷ 1 ∷ [])
    ++ (0x202 ∷ 1 ∷ [])
    ++ (0x203 ∷ 0 ∷ [])
    ++ (0x405 ∷ 0 ∷ 0 ∷ 0 ∷ [])
    ++ (0x710 ∷ 0x10 ∷ 0xe41 ∷ 2 ∷ 2 ∷ 2 ∷ 2 ∷ [])
    ++ (0x510 ∷ 0xf0 ∷ 0x1e42 ∷ 0xffffffff ∷ 0x0 ∷ [])
    ++ (0xf0831 ∷ 0x100 ∷ 0xe41 ∷ 0 ∷ 0 ∷ 0 ∷ 0 ∷ 0xe40 ∷ [])

after_relative_constant : after_reading relative_constant (1 ∷ 2 ∷ 3 ∷ 4 ∷ 5 ∷ 6 ∷ 7 ∷ 8 ∷ []) (9 ∷ 9 ∷ 9 ∷ 9 ∷ []) ≡ Some ((5 ∷ 6 ∷ 7 ∷ 8 ∷ []) ∷ [])
unfolding row_of
after_relative_constant = refl

after_constant_outside : after_reading relative_constant (1 ∷ 2 ∷ 3 ∷ 4 ∷ []) (9 ∷ 9 ∷ 9 ∷ 9 ∷ []) ≡ Some ((0 ∷ 0 ∷ 0 ∷ 0 ∷ []) ∷ [])
unfolding row_of
after_constant_outside = refl

-- x changes fastest, then y, then z
order_of_places : places (2 ∷ 2 ∷ 2 ∷ []) ≡ (0 ∷ 0 ∷ 0 ∷ []) ∷ (1 ∷ 0 ∷ 0 ∷ []) ∷ (0 ∷ 1 ∷ 0 ∷ []) ∷ (1 ∷ 1 ∷ 0 ∷ []) ∷ (0 ∷ 0 ∷ 1 ∷ []) ∷ (1 ∷ 0 ∷ 1 ∷ []) ∷ (0 ∷ 1 ∷ 1 ∷ []) ∷ (1 ∷ 1 ∷ 1 ∷ []) ∷ []
order_of_places = refl

order_of_threads : map (λ ids. ids.group ++ ids.thread) (invocations (2 ∷ 1 ∷ 1 ∷ []) (1 ∷ 2 ∷ 1 ∷ []))
    ≡ (0 ∷ 0 ∷ 0 ∷ 0 ∷ 0 ∷ 0 ∷ []) ∷ (0 ∷ 0 ∷ 0 ∷ 0 ∷ 1 ∷ 0 ∷ []) ∷ (1 ∷ 0 ∷ 0 ∷ 0 ∷ 0 ∷ 0 ∷ []) ∷ (1 ∷ 0 ∷ 0 ∷ 0 ∷ 1 ∷ 0 ∷ []) ∷ []
order_of_threads = refl
