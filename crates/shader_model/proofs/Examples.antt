-- Shaders whose meaning is worked out here by computation.
use Rattle.std.specs.Prelude.{◌≡◌, ℕ, List, [], ◌∷◌, ◌++◌, Option, Some, None, option_map, refl}
use Rattle.shader_model.specs.declared.fault.ShaderKind.TheVariants as kind
use Rattle.shader_model.specs.Opcodes.{row_of}
use Rattle.shader_model.specs.Faults.{first_bad, first_bad_of_bytes, fault_at}
use Rattle.shader_model.specs.Shader.{spelled_by}
use Rattle.shader_model.specs.Invocation.{Slots}
use Rattle.shader_model.specs.Dispatch.{dispatched, count_of}
use Rattle.shader_model.specs.Arithmetic.{negated, unsigned_high, signed_high, product_low, quotient, remainder, signed_min, signed_max, signed_lt, left, right, signed_right, five, field, inserted, truth}

-- slots in which unordered access view 0 alone is bound
abbrev only_view : List ℕ → Slots
only_view words = record { constants = []; reads = []; writes = words ∷ [] }

-- the words of unordered access view 0 after one group
abbrev after_one_group : List ℕ → List ℕ → Option (List (List ℕ))
after_one_group shader words = option_map (λ p. (dispatched p (1 ∷ 1 ∷ 1 ∷ []) (only_view words)).writes) (spelled_by shader)

-- a division by 0, a shift by 33 and a bit field to the end of the word, stored
abbrev pub udiv_shift_bitfield : List ℕ
udiv_shift_bitfield =
    (0x1 ∷ 0x3e ∷ [])
    ++ (0x401 ∷ 0x1 ∷ 0x1 ∷ 0x1 ∷ [])
    ++ (0x202 ∷ 0x1 ∷ [])
    ++ (0x405 ∷ 0x0 ∷ 0x0 ∷ 0x0 ∷ [])
    ++ (0xd17 ∷ 0x10 ∷ 0x20 ∷ 0xe41 ∷ 0x7 ∷ 0x7 ∷ 0x7 ∷ 0x7 ∷ 0xe41 ∷ 0x0 ∷ 0x0 ∷ 0x0 ∷ 0x0 ∷ [])
    ++ (0xc20 ∷ 0x40 ∷ 0xe41 ∷ 0x5 ∷ 0x5 ∷ 0x5 ∷ 0x5 ∷ 0xe41 ∷ 0x21 ∷ 0x21 ∷ 0x21 ∷ 0x21 ∷ [])
    ++ (0x1129 ∷ 0x80 ∷ 0xe41 ∷ 0x14 ∷ 0x14 ∷ 0x14 ∷ 0x14 ∷ 0xe41 ∷ 0x14 ∷ 0x14 ∷ 0x14 ∷ 0x14 ∷ 0xe41 ∷ 0xabcdef12 ∷ 0xabcdef12 ∷ 0xabcdef12 ∷ 0xabcdef12 ∷ [])
    ++ (0xf0831 ∷ 0x100 ∷ 0xe41 ∷ 0x0 ∷ 0x0 ∷ 0x0 ∷ 0x0 ∷ 0xe40 ∷ [])

good_udiv_shift_bitfield : first_bad udiv_shift_bitfield ≡ None
unfolding row_of
good_udiv_shift_bitfield = refl

after_udiv_shift_bitfield : after_one_group udiv_shift_bitfield (0 ∷ 0 ∷ 0 ∷ 0 ∷ []) ≡ Some ((0xffff_ffff ∷ 0xffff_ffff ∷ 0xa ∷ 0xabc ∷ []) ∷ [])
unfolding row_of
after_udiv_shift_bitfield = refl

-- stores at byte 12, at 16 and at the last word of all addresses
abbrev pub store_out_of_range : List ℕ
store_out_of_range =
    (0x1 ∷ 0x2e ∷ [])
    ++ (0x401 ∷ 0x1 ∷ 0x1 ∷ 0x1 ∷ [])
    ++ (0x405 ∷ 0x0 ∷ 0x0 ∷ 0x0 ∷ [])
    ++ (0x10c31 ∷ 0x100 ∷ 0xe41 ∷ 0xc ∷ 0xc ∷ 0xc ∷ 0xc ∷ 0xe41 ∷ 0x1 ∷ 0x1 ∷ 0x1 ∷ 0x1 ∷ [])
    ++ (0x10c31 ∷ 0x100 ∷ 0xe41 ∷ 0x10 ∷ 0x10 ∷ 0x10 ∷ 0x10 ∷ 0xe41 ∷ 0x2 ∷ 0x2 ∷ 0x2 ∷ 0x2 ∷ [])
    ++ (0x10c31 ∷ 0x100 ∷ 0xe41 ∷ 0xfffffffc ∷ 0xfffffffc ∷ 0xfffffffc ∷ 0xfffffffc ∷ 0xe41 ∷ 0x3 ∷ 0x3 ∷ 0x3 ∷ 0x3 ∷ [])

after_store_out_of_range : after_one_group store_out_of_range (0 ∷ 0 ∷ 0 ∷ 0 ∷ []) ≡ Some ((0 ∷ 0 ∷ 0 ∷ 1 ∷ []) ∷ [])
unfolding row_of
after_store_out_of_range = refl

-- the halves of -1 times the least number, where both write y
abbrev pub two_destinations : List ℕ
two_destinations =
    (0x1 ∷ 0x21 ∷ [])
    ++ (0x401 ∷ 0x1 ∷ 0x1 ∷ 0x1 ∷ [])
    ++ (0x202 ∷ 0x1 ∷ [])
    ++ (0x405 ∷ 0x0 ∷ 0x0 ∷ 0x0 ∷ [])
    ++ (0xd15 ∷ 0x30 ∷ 0x60 ∷ 0xe41 ∷ 0xffffffff ∷ 0xffffffff ∷ 0xffffffff ∷ 0xffffffff ∷ 0xe41 ∷ 0x80000000 ∷ 0x80000000 ∷ 0x80000000 ∷ 0x80000000 ∷ [])
    ++ (0xf0831 ∷ 0x100 ∷ 0xe41 ∷ 0x0 ∷ 0x0 ∷ 0x0 ∷ 0x0 ∷ 0xe40 ∷ [])

after_two_destinations : after_one_group two_destinations (0 ∷ 0 ∷ 0 ∷ 0 ∷ []) ≡ Some ((0 ∷ 0x8000_0000 ∷ 0x8000_0000 ∷ 0 ∷ []) ∷ [])
unfolding row_of
after_two_destinations = refl

-- a break inside an if inside a loop, at the third turn
abbrev pub break_in_if : List ℕ
break_in_if =
    (0x1 ∷ 0x2a ∷ [])
    ++ (0x401 ∷ 0x1 ∷ 0x1 ∷ 0x1 ∷ [])
    ++ (0x202 ∷ 0x1 ∷ [])
    ++ (0x405 ∷ 0x0 ∷ 0x0 ∷ 0x0 ∷ [])
    ++ (0x154 ∷ [])
    ++ (0x812 ∷ 0x10 ∷ 0xe40 ∷ 0xe41 ∷ 0x1 ∷ 0x1 ∷ 0x1 ∷ 0x1 ∷ [])
    ++ (0x823 ∷ 0x20 ∷ 0x0 ∷ 0xe41 ∷ 0x3 ∷ 0x3 ∷ 0x3 ∷ 0x3 ∷ [])
    ++ (0x250 ∷ 0x550 ∷ [])
    ++ (0x156 ∷ [])
    ++ (0x153 ∷ [])
    ++ (0x155 ∷ [])
    ++ (0x10831 ∷ 0x100 ∷ 0xe41 ∷ 0x4 ∷ 0x4 ∷ 0x4 ∷ 0x4 ∷ 0xe40 ∷ [])

after_break_in_if : after_one_group break_in_if (0 ∷ 0 ∷ []) ≡ Some ((0 ∷ 3 ∷ []) ∷ [])
unfolding row_of
after_break_in_if = refl

-- a loop that never breaks: what it stored stays, and what follows it does not run
abbrev pub endless : List ℕ
endless =
    (0x1 ∷ 0x2a ∷ [])
    ++ (0x401 ∷ 0x1 ∷ 0x1 ∷ 0x1 ∷ [])
    ++ (0x202 ∷ 0x1 ∷ [])
    ++ (0x405 ∷ 0x0 ∷ 0x0 ∷ 0x0 ∷ [])
    ++ (0x154 ∷ [])
    ++ (0x812 ∷ 0x10 ∷ 0xe40 ∷ 0xe41 ∷ 0x1 ∷ 0x1 ∷ 0x1 ∷ 0x1 ∷ [])
    ++ (0x10831 ∷ 0x100 ∷ 0xe41 ∷ 0x0 ∷ 0x0 ∷ 0x0 ∷ 0x0 ∷ 0xe40 ∷ [])
    ++ (0x155 ∷ [])
    ++ (0x10c31 ∷ 0x100 ∷ 0xe41 ∷ 0x4 ∷ 0x4 ∷ 0x4 ∷ 0x4 ∷ 0xe41 ∷ 0x9 ∷ 0x9 ∷ 0x9 ∷ 0x9 ∷ [])

after_endless : after_one_group endless (0 ∷ 0 ∷ []) ≡ Some ((4096 ∷ 0 ∷ []) ∷ [])
unfolding row_of
after_endless = refl

-- no invocation runs where a count is too large, or the invocations are too many
endless_too_large : option_map (λ p. (dispatched p (65536 ∷ 1 ∷ 1 ∷ []) (only_view (0 ∷ []))).writes) (spelled_by endless) ≡ Some ((0 ∷ []) ∷ [])
unfolding row_of
endless_too_large = refl

endless_too_many : option_map (λ p. count_of p (65535 ∷ 257 ∷ 1 ∷ [])) (spelled_by endless) ≡ Some 0
unfolding row_of
endless_too_many = refl

-- each thread counts one of 256 values, by an atomic without destination
abbrev pub counter : List ℕ
counter =
    (0x1 ∷ 0x41 ∷ [])
    ++ (0x401 ∷ 0x40 ∷ 0x1 ∷ 0x1 ∷ [])
    ++ (0x202 ∷ 0x1 ∷ [])
    ++ (0x203 ∷ 0x0 ∷ [])
    ++ (0x404 ∷ 0x0 ∷ 0x0 ∷ 0x0 ∷ [])
    ++ (0x405 ∷ 0x0 ∷ 0x0 ∷ 0x0 ∷ [])
    ++ (0x820 ∷ 0x10 ∷ 0x3 ∷ 0x1 ∷ 0x2 ∷ 0x0 ∷ 0x0 ∷ 0x0 ∷ [])
    ++ (0x430 ∷ 0x10 ∷ 0x0 ∷ 0x0 ∷ [])
    ++ (0x512 ∷ 0x10 ∷ 0x0 ∷ 0x2 ∷ 0x0 ∷ [])
    ++ (0x81c ∷ 0x10 ∷ 0x0 ∷ 0x1 ∷ 0xff ∷ 0x0 ∷ 0x0 ∷ 0x0 ∷ [])
    ++ (0x820 ∷ 0x10 ∷ 0x0 ∷ 0x1 ∷ 0x2 ∷ 0x0 ∷ 0x0 ∷ 0x0 ∷ [])
    ++ (0xe38 ∷ 0x7 ∷ 0x100 ∷ 0x0 ∷ 0x1 ∷ 0x0 ∷ 0x0 ∷ 0x0 ∷ 0x0 ∷ 0x1 ∷ 0x1 ∷ 0x0 ∷ 0x0 ∷ 0x0 ∷ [])

good_counter : first_bad counter ≡ None
unfolding row_of
good_counter = refl

-- a group of size 0 is bad at the word of its x
zero_group : first_bad_of_bytes (1 ∷ 0 ∷ 0 ∷ 0 ∷ 6 ∷ 0 ∷ 0 ∷ 0 ∷ 1 ∷ 4 ∷ 0 ∷ 0 ∷ 0 ∷ 0 ∷ 0 ∷ 0 ∷ 1 ∷ 0 ∷ 0 ∷ 0 ∷ 1 ∷ 0 ∷ 0 ∷ 0 ∷ []) ≡ Some (fault_at 3 kind.Group)
unfolding row_of
zero_group = refl

least : first_bad_of_bytes (1 ∷ 0 ∷ 0 ∷ 0 ∷ 6 ∷ 0 ∷ 0 ∷ 0 ∷ 1 ∷ 4 ∷ 0 ∷ 0 ∷ 1 ∷ 0 ∷ 0 ∷ 0 ∷ 1 ∷ 0 ∷ 0 ∷ 0 ∷ 1 ∷ 0 ∷ 0 ∷ 0 ∷ []) ≡ None
unfolding row_of
least = refl

-- edge values
edge_0 : negated 0 ≡ 0
edge_0 = refl

edge_1 : negated 1 ≡ 0xffff_ffff
edge_1 = refl

edge_2 : negated 0x8000_0000 ≡ 0x8000_0000
edge_2 = refl

edge_3 : signed_high 0xffff_ffff 0xffff_ffff ≡ 0
edge_3 = refl

edge_4 : unsigned_high 0xffff_ffff 0xffff_ffff ≡ 0xffff_fffe
edge_4 = refl

edge_5 : product_low 0xffff_ffff 0xffff_ffff ≡ 1
edge_5 = refl

edge_6 : signed_high 0x8000_0000 0x7fff_ffff ≡ 0xc000_0000
edge_6 = refl

edge_7 : signed_high 0x8000_0000 0x8000_0000 ≡ 0x4000_0000
edge_7 = refl

edge_8 : quotient 7 0 ≡ 0xffff_ffff
edge_8 = refl

edge_9 : remainder 7 0 ≡ 0xffff_ffff
edge_9 = refl

edge_10 : quotient 0xffff_ffff 10 ≡ 0x1999_9999
edge_10 = refl

edge_11 : remainder 0xffff_ffff 10 ≡ 5
edge_11 = refl

edge_12 : signed_min 0x7fff_ffff 0x8000_0000 ≡ 0x8000_0000
edge_12 = refl

edge_13 : signed_max 0 0xffff_ffff ≡ 0
edge_13 = refl

edge_14 : truth (signed_lt 0xffff_ffff 0) ≡ 0xffff_ffff
edge_14 = refl

edge_15 : truth (signed_lt 0 0) ≡ 0
edge_15 = refl

edge_16 : left 5 (five 33) ≡ 10
edge_16 = refl

edge_17 : left 0xffff_ffff (five 31) ≡ 0x8000_0000
edge_17 = refl

edge_18 : right 0x8000_0000 (five 31) ≡ 1
edge_18 = refl

edge_19 : signed_right 0x8000_0000 (five 31) ≡ 0xffff_ffff
edge_19 = refl

edge_20 : signed_right 0x7fff_ffff (five 32) ≡ 0x7fff_ffff
edge_20 = refl

edge_21 : field right 0 5 0xffff_ffff ≡ 0
edge_21 = refl

edge_22 : field right 20 20 0xabcd_ef12 ≡ 0xabc
edge_22 = refl

edge_23 : field right 8 4 0xabcd_ef12 ≡ 0xf1
edge_23 = refl

edge_24 : field signed_right 8 4 0xabcd_ef12 ≡ 0xffff_fff1
edge_24 = refl

edge_25 : field signed_right 8 24 0x8000_0000 ≡ 0xffff_ff80
edge_25 = refl

edge_26 : field right 31 1 0xffff_ffff ≡ 0x7fff_ffff
edge_26 = refl

edge_27 : inserted 8 4 0xabc 0xffff_ffff ≡ 0xffff_fbcf
edge_27 = refl

edge_28 : inserted 0 4 0xabc 0x1234 ≡ 0x1234
edge_28 = refl

edge_29 : inserted 31 31 1 0 ≡ 0x8000_0000
edge_29 = refl
