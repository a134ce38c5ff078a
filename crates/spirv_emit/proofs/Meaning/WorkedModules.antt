-- Modules of shaders, worked out by computation: each is well formed, and leaves the words that the shader leaves.
use Rattle.std.specs.Prelude.{◌≡◌, ℕ, List, [], ◌∷◌, length, replicate, slice_set, Option, Some, None, refl}
use Rattle.shader_model.specs.Opcodes.{row_of}
use Rattle.shader_model.specs.Shader.{Program, spelled_by}
use Rattle.shader_model.specs.Invocation.{Slots, words_in}
use Rattle.spirv_model.specs.Table.{opcode_of}
use Rattle.spirv_model.specs.Words.{front}
use Rattle.spirv_model.specs.FirstBad.{first_bad, header_fault, reading}
use Rattle.spirv_model.specs.declared.fault.ModuleFault.{ModuleFault}
use Rattle.spirv_model.specs.Meaning.ModuleMeaning.{module_meaning}
use Rattle.spirv_model.specs.Meaning.ModuleDispatch.{group_of, module_dispatched}
use Rattle.spirv_emit.specs.Module.{module_ops, module_of}

-- these words in the first constant buffer, the first resource and the first unordered access view
abbrev slots : (constants reads view : List ℕ) → Slots
slots cs rs ws = record { constants = slice_set (replicate 14 []) 0 cs; reads = slice_set (replicate 16 []) 0 rs; writes = slice_set (replicate 8 []) 0 ws }

-- what a run of a module shows: no fault, and the view's words after a dispatch of one group
record Shown : Type 0 where
  fault : Option ModuleFault
  view : List ℕ

abbrev view_of : Option Slots → List ℕ
view_of None = []
view_of (Some s) = words_in s.writes 0

abbrev shown_of : List ℕ → Slots → Shown
unfolding group_of module_meaning first_bad header_fault reading front opcode_of
shown_of words s = record { fault = first_bad words; view = view_of (module_dispatched words (1 ∷ 1 ∷ 1 ∷ []) s) }

abbrev shown_by : Option Program → Slots → Option Shown
unfolding module_of module_ops group_of module_meaning first_bad header_fault reading front opcode_of
shown_by None s = None
shown_by (Some p) s = Some (shown_of (module_of p) s)

-- the first two words of a shader give its version and its length
abbrev runs : (items constants reads view : List ℕ) → Option Shown
unfolding row_of module_of module_ops group_of module_meaning first_bad header_fault reading front opcode_of
runs items cs rs ws = shown_by (spelled_by (1 ∷ length items ∷ items)) (slots cs rs ws)

abbrev leaves : List ℕ → Option Shown
leaves ws = Some (record { fault = None; view = ws })

nothing : runs (0x401 ∷ 1 ∷ 1 ∷ 1 ∷ []) [] [] (5 ∷ 6 ∷ []) ≡ leaves (5 ∷ 6 ∷ [])
unfolding row_of module_of module_ops group_of module_meaning first_bad header_fault reading front opcode_of
nothing = refl

-- a quotient by 0, a shift by 33 and a field of 20 bits
udiv_shift_field : runs (1025 ∷ 1 ∷ 1 ∷ 1 ∷ 514 ∷ 1 ∷ 1029 ∷ 0 ∷ 0 ∷ 0 ∷ 3351 ∷ 16 ∷ 32 ∷ 1 ∷ 7 ∷ 0 ∷ 0 ∷ 0 ∷ 1 ∷ 0 ∷ 0 ∷ 0 ∷ 0 ∷ 3104 ∷ 64 ∷ 1 ∷ 5 ∷ 0 ∷ 0 ∷ 0 ∷ 1 ∷ 33 ∷ 0 ∷ 0 ∷ 0 ∷ 4393 ∷ 128 ∷ 1 ∷ 20 ∷ 0 ∷ 0 ∷ 0 ∷ 1 ∷ 20 ∷ 0 ∷ 0 ∷ 0 ∷ 1 ∷ 2882400018 ∷ 0 ∷ 0 ∷ 0 ∷ 985137 ∷ 256 ∷ 1 ∷ 0 ∷ 0 ∷ 0 ∷ 0 ∷ 3648 ∷ []) ([]) ([]) (0 ∷ 0 ∷ 0 ∷ 0 ∷ []) ≡ leaves (4294967295 ∷ 4294967295 ∷ 10 ∷ 2748 ∷ [])
unfolding row_of module_of module_ops group_of module_meaning first_bad header_fault reading front opcode_of
udiv_shift_field = refl

-- stores inside, behind the end and far outside
store_out_of_range : runs (1025 ∷ 1 ∷ 1 ∷ 1 ∷ 1029 ∷ 0 ∷ 0 ∷ 0 ∷ 68657 ∷ 256 ∷ 1 ∷ 12 ∷ 0 ∷ 0 ∷ 0 ∷ 1 ∷ 1 ∷ 0 ∷ 0 ∷ 0 ∷ 68657 ∷ 256 ∷ 1 ∷ 16 ∷ 0 ∷ 0 ∷ 0 ∷ 1 ∷ 2 ∷ 0 ∷ 0 ∷ 0 ∷ 68657 ∷ 256 ∷ 1 ∷ 4294967292 ∷ 0 ∷ 0 ∷ 0 ∷ 1 ∷ 3 ∷ 0 ∷ 0 ∷ 0 ∷ []) ([]) ([]) (0 ∷ 0 ∷ 0 ∷ 0 ∷ []) ≡ leaves (0 ∷ 0 ∷ 0 ∷ 1 ∷ [])
unfolding row_of module_of module_ops group_of module_meaning first_bad header_fault reading front opcode_of
store_out_of_range = refl

-- a store of four components, two of them outside
a_store_of_four_components_two_of_them_o : runs (1025 ∷ 1 ∷ 1 ∷ 1 ∷ 1029 ∷ 0 ∷ 0 ∷ 0 ∷ 986161 ∷ 256 ∷ 1 ∷ 8 ∷ 0 ∷ 0 ∷ 0 ∷ 3649 ∷ 1 ∷ 2 ∷ 3 ∷ 4 ∷ []) ([]) ([]) (9 ∷ 9 ∷ 9 ∷ 9 ∷ []) ≡ leaves (9 ∷ 9 ∷ 1 ∷ 2 ∷ [])
unfolding row_of module_of module_ops group_of module_meaning first_bad header_fault reading front opcode_of
a_store_of_four_components_two_of_them_o = refl

-- stores of three components and of one, at an address that is no multiple of 4
stores_of_three_components_and_of_one_at : runs (1025 ∷ 1 ∷ 1 ∷ 1 ∷ 1029 ∷ 0 ∷ 0 ∷ 0 ∷ 461873 ∷ 256 ∷ 1 ∷ 0 ∷ 0 ∷ 0 ∷ 0 ∷ 3649 ∷ 1 ∷ 2 ∷ 3 ∷ 4 ∷ 68657 ∷ 256 ∷ 1 ∷ 18 ∷ 0 ∷ 0 ∷ 0 ∷ 3649 ∷ 5 ∷ 6 ∷ 7 ∷ 8 ∷ []) ([]) ([]) (0 ∷ 0 ∷ 0 ∷ 0 ∷ 0 ∷ []) ≡ leaves (1 ∷ 2 ∷ 3 ∷ 0 ∷ 5 ∷ [])
unfolding row_of module_of module_ops group_of module_meaning first_bad header_fault reading front opcode_of
stores_of_three_components_and_of_one_at = refl

-- a break in an if in a loop
a_break_in_an_if_in_a_loop : runs (1025 ∷ 1 ∷ 1 ∷ 1 ∷ 514 ∷ 1 ∷ 1029 ∷ 0 ∷ 0 ∷ 0 ∷ 340 ∷ 2066 ∷ 16 ∷ 0 ∷ 1 ∷ 1 ∷ 0 ∷ 0 ∷ 0 ∷ 2085 ∷ 32 ∷ 0 ∷ 1 ∷ 5 ∷ 0 ∷ 0 ∷ 0 ∷ 592 ∷ 1360 ∷ 342 ∷ 339 ∷ 341 ∷ 198705 ∷ 256 ∷ 1 ∷ 0 ∷ 0 ∷ 0 ∷ 0 ∷ 3648 ∷ []) ([]) ([]) (0 ∷ 0 ∷ []) ≡ leaves (5 ∷ 4294967295 ∷ [])
unfolding row_of module_of module_ops group_of module_meaning first_bad header_fault reading front opcode_of
a_break_in_an_if_in_a_loop = refl

-- a continue skips the rest of a turn, and a break by a test ends the loop
a_continue_skips_the_rest_of_a_turn_and : runs (1025 ∷ 1 ∷ 1 ∷ 1 ∷ 514 ∷ 1 ∷ 1029 ∷ 0 ∷ 0 ∷ 0 ∷ 340 ∷ 2066 ∷ 16 ∷ 0 ∷ 1 ∷ 1 ∷ 0 ∷ 0 ∷ 0 ∷ 2088 ∷ 32 ∷ 0 ∷ 1 ∷ 5 ∷ 0 ∷ 0 ∷ 0 ∷ 602 ∷ 1360 ∷ 4664 ∷ 7 ∷ 256 ∷ 1 ∷ 0 ∷ 0 ∷ 0 ∷ 0 ∷ 1 ∷ 0 ∷ 0 ∷ 0 ∷ 0 ∷ 1 ∷ 1 ∷ 0 ∷ 0 ∷ 0 ∷ 2083 ∷ 64 ∷ 0 ∷ 1 ∷ 7 ∷ 0 ∷ 0 ∷ 0 ∷ 599 ∷ 2720 ∷ 341 ∷ 67633 ∷ 256 ∷ 1 ∷ 4 ∷ 0 ∷ 0 ∷ 0 ∷ 0 ∷ []) ([]) ([]) (0 ∷ 0 ∷ []) ≡ leaves (3 ∷ 7 ∷ [])
unfolding row_of module_of module_ops group_of module_meaning first_bad header_fault reading front opcode_of
a_continue_skips_the_rest_of_a_turn_and = refl

-- tests for 0, and an else
tests_for_0_and_an_else : runs (1025 ∷ 1 ∷ 1 ∷ 1 ∷ 514 ∷ 1 ∷ 1029 ∷ 0 ∷ 0 ∷ 0 ∷ 1617 ∷ 1 ∷ 0 ∷ 0 ∷ 0 ∷ 0 ∷ 68657 ∷ 256 ∷ 1 ∷ 0 ∷ 0 ∷ 0 ∷ 0 ∷ 1 ∷ 1 ∷ 0 ∷ 0 ∷ 0 ∷ 338 ∷ 68657 ∷ 256 ∷ 1 ∷ 0 ∷ 0 ∷ 0 ∷ 0 ∷ 1 ∷ 2 ∷ 0 ∷ 0 ∷ 0 ∷ 339 ∷ 1616 ∷ 1 ∷ 0 ∷ 0 ∷ 0 ∷ 0 ∷ 68657 ∷ 256 ∷ 1 ∷ 4 ∷ 0 ∷ 0 ∷ 0 ∷ 1 ∷ 1 ∷ 0 ∷ 0 ∷ 0 ∷ 338 ∷ 68657 ∷ 256 ∷ 1 ∷ 4 ∷ 0 ∷ 0 ∷ 0 ∷ 1 ∷ 2 ∷ 0 ∷ 0 ∷ 0 ∷ 339 ∷ 340 ∷ 1624 ∷ 1 ∷ 1 ∷ 0 ∷ 0 ∷ 0 ∷ 1624 ∷ 1 ∷ 0 ∷ 0 ∷ 0 ∷ 0 ∷ 341 ∷ 340 ∷ 1627 ∷ 1 ∷ 1 ∷ 0 ∷ 0 ∷ 0 ∷ 1627 ∷ 1 ∷ 5 ∷ 0 ∷ 0 ∷ 0 ∷ 342 ∷ 341 ∷ 340 ∷ 1630 ∷ 1 ∷ 1 ∷ 0 ∷ 0 ∷ 0 ∷ 68657 ∷ 256 ∷ 1 ∷ 8 ∷ 0 ∷ 0 ∷ 0 ∷ 1 ∷ 3 ∷ 0 ∷ 0 ∷ 0 ∷ 1629 ∷ 1 ∷ 0 ∷ 0 ∷ 0 ∷ 0 ∷ 1629 ∷ 1 ∷ 2 ∷ 0 ∷ 0 ∷ 0 ∷ 341 ∷ 68657 ∷ 256 ∷ 1 ∷ 8 ∷ 0 ∷ 0 ∷ 0 ∷ 1 ∷ 4 ∷ 0 ∷ 0 ∷ 0 ∷ []) ([]) ([]) (0 ∷ 0 ∷ 0 ∷ []) ≡ leaves (1 ∷ 2 ∷ 3 ∷ [])
unfolding row_of module_of module_ops group_of module_meaning first_bad header_fault reading front opcode_of
tests_for_0_and_an_else = refl

-- of two destinations the second is set last
of_two_destinations_the_second_is_set_la : runs (1025 ∷ 1 ∷ 1 ∷ 1 ∷ 514 ∷ 1 ∷ 1029 ∷ 0 ∷ 0 ∷ 0 ∷ 3350 ∷ 48 ∷ 96 ∷ 3649 ∷ 4294967295 ∷ 4294967295 ∷ 2 ∷ 0 ∷ 3649 ∷ 4294967295 ∷ 2 ∷ 3 ∷ 0 ∷ 985137 ∷ 256 ∷ 1 ∷ 0 ∷ 0 ∷ 0 ∷ 0 ∷ 3648 ∷ []) ([]) ([]) (9 ∷ 9 ∷ 9 ∷ 9 ∷ []) ≡ leaves (4294967294 ∷ 4294967294 ∷ 6 ∷ 0 ∷ [])
unfolding row_of module_of module_ops group_of module_meaning first_bad header_fault reading front opcode_of
of_two_destinations_the_second_is_set_la = refl

-- sources are read before the destination is set
sources_are_read_before_the_destination : runs (1025 ∷ 1 ∷ 1 ∷ 1 ∷ 514 ∷ 1 ∷ 1029 ∷ 0 ∷ 0 ∷ 0 ∷ 1808 ∷ 240 ∷ 3649 ∷ 1 ∷ 2 ∷ 3 ∷ 4 ∷ 784 ∷ 240 ∷ 432 ∷ 985137 ∷ 256 ∷ 1 ∷ 0 ∷ 0 ∷ 0 ∷ 0 ∷ 3648 ∷ []) ([]) ([]) (0 ∷ 0 ∷ 0 ∷ 0 ∷ []) ≡ leaves (4 ∷ 3 ∷ 2 ∷ 1 ∷ [])
unfolding row_of module_of module_ops group_of module_meaning first_bad header_fault reading front opcode_of
sources_are_read_before_the_destination = refl

-- a null destination, and a mask of one component
a_null_destination_and_a_mask_of_one_com : runs (1025 ∷ 1 ∷ 1 ∷ 1 ∷ 514 ∷ 2 ∷ 1029 ∷ 0 ∷ 0 ∷ 0 ∷ 1808 ∷ 65776 ∷ 3649 ∷ 1 ∷ 2 ∷ 3 ∷ 4 ∷ 3351 ∷ 7 ∷ 65600 ∷ 1 ∷ 17 ∷ 0 ∷ 0 ∷ 0 ∷ 1 ∷ 5 ∷ 0 ∷ 0 ∷ 0 ∷ 985137 ∷ 256 ∷ 1 ∷ 0 ∷ 0 ∷ 0 ∷ 0 ∷ 69184 ∷ []) ([]) ([]) (0 ∷ 0 ∷ 0 ∷ 0 ∷ []) ≡ leaves (1 ∷ 2 ∷ 2 ∷ 4 ∷ [])
unfolding row_of module_of module_ops group_of module_meaning first_bad header_fault reading front opcode_of
a_null_destination_and_a_mask_of_one_com = refl

-- a typed element of two components
a_typed_element_of_two_components : runs (1025 ∷ 1 ∷ 1 ∷ 1 ∷ 514 ∷ 1 ∷ 1028 ∷ 0 ∷ 2 ∷ 2 ∷ 1029 ∷ 0 ∷ 0 ∷ 0 ∷ 2100 ∷ 240 ∷ 3649 ∷ 1 ∷ 1 ∷ 1 ∷ 1 ∷ 0 ∷ 985137 ∷ 256 ∷ 1 ∷ 0 ∷ 0 ∷ 0 ∷ 0 ∷ 3648 ∷ []) ([]) (7 ∷ 8 ∷ 9 ∷ 10 ∷ []) (5 ∷ 5 ∷ 5 ∷ 5 ∷ []) ≡ leaves (9 ∷ 10 ∷ 0 ∷ 1 ∷ [])
unfolding row_of module_of module_ops group_of module_meaning first_bad header_fault reading front opcode_of
a_typed_element_of_two_components = refl

-- a typed element outside
a_typed_element_outside : runs (1025 ∷ 1 ∷ 1 ∷ 1 ∷ 514 ∷ 1 ∷ 1028 ∷ 0 ∷ 2 ∷ 2 ∷ 1029 ∷ 0 ∷ 0 ∷ 0 ∷ 2100 ∷ 240 ∷ 3649 ∷ 1 ∷ 1 ∷ 1 ∷ 1 ∷ 0 ∷ 985137 ∷ 256 ∷ 1 ∷ 0 ∷ 0 ∷ 0 ∷ 0 ∷ 3648 ∷ []) ([]) (7 ∷ 8 ∷ 9 ∷ []) (5 ∷ 5 ∷ 5 ∷ 5 ∷ []) ≡ leaves (0 ∷ 0 ∷ 0 ∷ 0 ∷ [])
unfolding row_of module_of module_ops group_of module_meaning first_bad header_fault reading front opcode_of
a_typed_element_outside = refl

-- a typed store and load of an unordered access view
a_typed_store_and_load_of_an_unordered_a : runs (1025 ∷ 1 ∷ 1 ∷ 1 ∷ 514 ∷ 1 ∷ 1029 ∷ 0 ∷ 2 ∷ 4 ∷ 986165 ∷ 256 ∷ 1 ∷ 1 ∷ 0 ∷ 0 ∷ 0 ∷ 3649 ∷ 1 ∷ 2 ∷ 3 ∷ 4 ∷ 986165 ∷ 256 ∷ 1 ∷ 2 ∷ 0 ∷ 0 ∷ 0 ∷ 3649 ∷ 9 ∷ 9 ∷ 9 ∷ 9 ∷ 2100 ∷ 48 ∷ 1 ∷ 1 ∷ 0 ∷ 0 ∷ 0 ∷ 256 ∷ 985141 ∷ 256 ∷ 1 ∷ 0 ∷ 0 ∷ 0 ∷ 0 ∷ 272 ∷ []) ([]) ([]) (0 ∷ 0 ∷ 0 ∷ 0 ∷ 0 ∷ 0 ∷ 0 ∷ 0 ∷ 0 ∷ 0 ∷ 0 ∷ []) ≡ leaves (2 ∷ 1 ∷ 2 ∷ 1 ∷ 1 ∷ 2 ∷ 3 ∷ 4 ∷ 0 ∷ 0 ∷ 0 ∷ [])
unfolding row_of module_of module_ops group_of module_meaning first_bad header_fault reading front opcode_of
a_typed_store_and_load_of_an_unordered_a = refl

-- a load of y alone is of the word behind the address
a_load_of_y_alone_is_of_the_word_behind : runs (1025 ∷ 1 ∷ 1 ∷ 1 ∷ 514 ∷ 1 ∷ 1028 ∷ 0 ∷ 0 ∷ 0 ∷ 1029 ∷ 0 ∷ 0 ∷ 0 ∷ 2096 ∷ 32 ∷ 3649 ∷ 4 ∷ 4 ∷ 4 ∷ 4 ∷ 0 ∷ 985137 ∷ 256 ∷ 1 ∷ 0 ∷ 0 ∷ 0 ∷ 0 ∷ 3648 ∷ []) ([]) (5 ∷ 6 ∷ 7 ∷ 8 ∷ []) (1 ∷ 1 ∷ 1 ∷ 1 ∷ []) ≡ leaves (0 ∷ 7 ∷ 0 ∷ 0 ∷ [])
unfolding row_of module_of module_ops group_of module_meaning first_bad header_fault reading front opcode_of
a_load_of_y_alone_is_of_the_word_behind = refl

-- a structure's words, and those behind its end
a_structure_s_words_and_those_behind_its : runs (1025 ∷ 1 ∷ 1 ∷ 1 ∷ 514 ∷ 1 ∷ 1028 ∷ 0 ∷ 1 ∷ 12 ∷ 1029 ∷ 0 ∷ 0 ∷ 0 ∷ 3378 ∷ 240 ∷ 1 ∷ 1 ∷ 0 ∷ 0 ∷ 0 ∷ 1 ∷ 4 ∷ 0 ∷ 0 ∷ 0 ∷ 0 ∷ 985137 ∷ 256 ∷ 1 ∷ 0 ∷ 0 ∷ 0 ∷ 0 ∷ 3648 ∷ []) ([]) (1 ∷ 2 ∷ 3 ∷ 4 ∷ 5 ∷ 6 ∷ 7 ∷ 8 ∷ []) (9 ∷ 9 ∷ 9 ∷ 9 ∷ []) ≡ leaves (5 ∷ 6 ∷ 0 ∷ 0 ∷ [])
unfolding row_of module_of module_ops group_of module_meaning first_bad header_fault reading front opcode_of
a_structure_s_words_and_those_behind_its = refl

-- a structured store that ends with its structure
a_structured_store_that_ends_with_its_st : runs (1025 ∷ 1 ∷ 1 ∷ 1 ∷ 1029 ∷ 0 ∷ 1 ∷ 8 ∷ 987443 ∷ 256 ∷ 1 ∷ 0 ∷ 0 ∷ 0 ∷ 0 ∷ 1 ∷ 4 ∷ 0 ∷ 0 ∷ 0 ∷ 3649 ∷ 1 ∷ 2 ∷ 3 ∷ 4 ∷ 987443 ∷ 256 ∷ 1 ∷ 2 ∷ 0 ∷ 0 ∷ 0 ∷ 1 ∷ 0 ∷ 0 ∷ 0 ∷ 0 ∷ 3649 ∷ 5 ∷ 6 ∷ 7 ∷ 8 ∷ 987443 ∷ 256 ∷ 1 ∷ 1 ∷ 0 ∷ 0 ∷ 0 ∷ 1 ∷ 4294967292 ∷ 0 ∷ 0 ∷ 0 ∷ 3649 ∷ 7 ∷ 7 ∷ 7 ∷ 7 ∷ []) ([]) ([]) (9 ∷ 9 ∷ 9 ∷ 9 ∷ 9 ∷ []) ≡ leaves (9 ∷ 1 ∷ 9 ∷ 9 ∷ 9 ∷ [])
unfolding row_of module_of module_ops group_of module_meaning first_bad header_fault reading front opcode_of
a_structured_store_that_ends_with_its_st = refl

-- an atomic of a typed element, once whatever its mask
an_atomic_of_a_typed_element_once_whatev : runs (1025 ∷ 1 ∷ 1 ∷ 1 ∷ 514 ∷ 1 ∷ 1029 ∷ 0 ∷ 2 ∷ 1 ∷ 4664 ∷ 240 ∷ 256 ∷ 1 ∷ 1 ∷ 0 ∷ 0 ∷ 0 ∷ 1 ∷ 4294967295 ∷ 0 ∷ 0 ∷ 0 ∷ 1 ∷ 3 ∷ 0 ∷ 0 ∷ 0 ∷ 985141 ∷ 256 ∷ 1 ∷ 0 ∷ 0 ∷ 0 ∷ 0 ∷ 2720 ∷ []) ([]) ([]) (1 ∷ 2 ∷ []) ≡ leaves (2 ∷ 5 ∷ [])
unfolding row_of module_of module_ops group_of module_meaning first_bad header_fault reading front opcode_of
an_atomic_of_a_typed_element_once_whatev = refl

-- compare and exchange, twice
compare_and_exchange_twice : runs (1025 ∷ 1 ∷ 1 ∷ 1 ∷ 514 ∷ 1 ∷ 1029 ∷ 0 ∷ 0 ∷ 0 ∷ 5953 ∷ 16 ∷ 256 ∷ 1 ∷ 0 ∷ 0 ∷ 0 ∷ 0 ∷ 1 ∷ 9 ∷ 0 ∷ 0 ∷ 0 ∷ 1 ∷ 4 ∷ 0 ∷ 0 ∷ 0 ∷ 1 ∷ 8 ∷ 0 ∷ 0 ∷ 0 ∷ 5953 ∷ 32 ∷ 256 ∷ 1 ∷ 4 ∷ 0 ∷ 0 ∷ 0 ∷ 1 ∷ 9 ∷ 0 ∷ 0 ∷ 0 ∷ 1 ∷ 4 ∷ 0 ∷ 0 ∷ 0 ∷ 1 ∷ 8 ∷ 0 ∷ 0 ∷ 0 ∷ 198705 ∷ 256 ∷ 1 ∷ 8 ∷ 0 ∷ 0 ∷ 0 ∷ 3648 ∷ []) ([]) ([]) (4 ∷ 5 ∷ 0 ∷ 0 ∷ []) ≡ leaves (8 ∷ 5 ∷ 4 ∷ 5 ∷ [])
unfolding row_of module_of module_ops group_of module_meaning first_bad header_fault reading front opcode_of
compare_and_exchange_twice = refl

-- a constant behind number 0xffffffff
a_constant_behind_number_0xffffffff : runs (1025 ∷ 1 ∷ 1 ∷ 1 ∷ 514 ∷ 1 ∷ 515 ∷ 0 ∷ 1029 ∷ 0 ∷ 0 ∷ 0 ∷ 1808 ∷ 16 ∷ 3649 ∷ 2 ∷ 2 ∷ 2 ∷ 2 ∷ 1296 ∷ 240 ∷ 7746 ∷ 4294967295 ∷ 0 ∷ 985137 ∷ 256 ∷ 1 ∷ 0 ∷ 0 ∷ 0 ∷ 0 ∷ 3648 ∷ []) (1 ∷ 2 ∷ 3 ∷ 4 ∷ 5 ∷ 6 ∷ 7 ∷ 8 ∷ []) ([]) (9 ∷ 9 ∷ 9 ∷ 9 ∷ []) ≡ leaves (5 ∷ 6 ∷ 7 ∷ 8 ∷ [])
unfolding row_of module_of module_ops group_of module_meaning first_bad header_fault reading front opcode_of
a_constant_behind_number_0xffffffff = refl

-- a constant by another temporary's z
a_constant_by_another_temporary_s_z : runs (1025 ∷ 1 ∷ 1 ∷ 1 ∷ 514 ∷ 2 ∷ 515 ∷ 0 ∷ 1029 ∷ 0 ∷ 0 ∷ 0 ∷ 1808 ∷ 65600 ∷ 3649 ∷ 0 ∷ 0 ∷ 1 ∷ 0 ∷ 1296 ∷ 240 ∷ 4530 ∷ 0 ∷ 68256 ∷ 985137 ∷ 256 ∷ 1 ∷ 0 ∷ 0 ∷ 0 ∷ 0 ∷ 3648 ∷ []) (1 ∷ 2 ∷ 3 ∷ 4 ∷ 5 ∷ 6 ∷ 7 ∷ 8 ∷ []) ([]) (9 ∷ 9 ∷ 9 ∷ 9 ∷ []) ≡ leaves (8 ∷ 7 ∷ 6 ∷ 5 ∷ [])
unfolding row_of module_of module_ops group_of module_meaning first_bad header_fault reading front opcode_of
a_constant_by_another_temporary_s_z = refl
