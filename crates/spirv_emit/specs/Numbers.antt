-- The numbers that a module has as constants, each once.
use Rattle.std.specs.Prelude.{ℕ, zero, suc, ◌+◌, ◌/◌, ◌==◌, if◌then◌else◌, Bool, true, false, List, [], ◌∷◌, ◌++◌, length, flat_map, Option, Some, None}
use Rattle.dx_types.specs.declared.limits.TheConstants.{LOOP_TURNS}
use Rattle.shader_model.specs.declared.tree.Declared.{Declared}
use Rattle.shader_model.specs.declared.tree.Operand.{Operand}
use Rattle.shader_model.specs.declared.tree.Instr.{Instr}
use Rattle.shader_model.specs.declared.tree.Test.{Test}
use Rattle.shader_model.specs.Body.{Body, End, Plain, If, Loop, Break, Continue, Return}
use Rattle.shader_model.specs.Shader.{Program}
use Rattle.spirv_emit.specs.Layout.{Layout, bindings, first_number}
use Rattle.spirv_emit.specs.Lower.{variable_count}

-- so many numbers from one on
abbrev pub from_on : (first count : ℕ) → List ℕ
from_on n zero = []
from_on n (suc k) = n ∷ from_on (n + 1) k

-- the first place of a number; the length where it isn't there
abbrev pub place : ℕ → List ℕ → ℕ
place v [] = 0
place v (x ∷ xs) = if x == v then 0 else suc (place v xs)

abbrev pub has : List ℕ → ℕ → Bool
has [] v = false
has (x ∷ xs) v = if x == v then true else has xs v

abbrev pub with_number : List ℕ → ℕ → List ℕ
with_number seen v = if has seen v then seen else seen ++ v ∷ []

-- a list with those of another that it lacks, in order
abbrev pub with_numbers : List ℕ → List ℕ → List ℕ
with_numbers seen [] = seen
with_numbers seen (v ∷ vs) = with_numbers (with_number seen v) vs

-- ## What a shader names

-- the words that follow a source
abbrev pub operand_numbers : Option Operand → List ℕ
operand_numbers None = []
operand_numbers (Some o) = o.words

abbrev pub instr_numbers : Instr → List ℕ
instr_numbers i = flat_map operand_numbers i.sources

abbrev pub test_numbers : Option Test → List ℕ
test_numbers None = []
test_numbers (Some t) = t.value.words

abbrev pub body_numbers : Body → List ℕ
body_numbers End = []
body_numbers (Plain i rest) = instr_numbers i ++ body_numbers rest
body_numbers (If t first second rest) = test_numbers (Some t) ++ (body_numbers first ++ (body_numbers second ++ body_numbers rest))
body_numbers (Loop inner rest) = body_numbers inner ++ body_numbers rest
body_numbers (Break t rest) = test_numbers t ++ body_numbers rest
body_numbers (Continue t rest) = test_numbers t ++ body_numbers rest
body_numbers (Return t rest) = test_numbers t ++ body_numbers rest

-- how many words an element has
abbrev pub declared_numbers : Declared → List ℕ
declared_numbers d = d.parameter ∷ d.parameter / 4 ∷ []

-- how many turns an invocation may take
abbrev pub most_turns : ℕ
most_turns = LOOP_TURNS

-- the numbers of every module: the bindings, which have all small numbers of the formulas among them, the turns, and
-- all ones
abbrev pub own_numbers : List ℕ
own_numbers = from_on 0 bindings ++ most_turns ∷ 0xffff_ffff ∷ []

abbrev pub numbers_of : Program → List ℕ
numbers_of p = with_numbers own_numbers (flat_map declared_numbers p.declared ++ body_numbers p.body)

abbrev pub layout : (numbers : List ℕ) → (variables : ℕ) → Layout
layout numbers variables = record { number = λ v. first_number + place v numbers; first_variable = first_number + length numbers; variables = variables }

abbrev pub layout_of : Program → Layout
layout_of p = layout (numbers_of p) (variable_count p.temps)
