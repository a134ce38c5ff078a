-- The order of the sections (SPIR-V 1.6, section 2.4).
use Rattle.std.specs.Prelude.{ℕ, ◌==◌, if◌then◌else◌, Bool, true, false, not, ◌&&◌, nat_lt, nat_le, List, [], ◌∷◌}
use Rattle.spirv_model.specs.declared.section.Section.{Section}
use Rattle.spirv_model.specs.declared.section.Section.TheVariants.{Capabilities, Model, Entry, Modes, Decorations, Types, Body}
use Rattle.spirv_model.specs.Op.{Op}
use Rattle.spirv_model.specs.Op as op
use Rattle.spirv_model.specs.History.{in_function}

-- the place of a section
abbrev pub rank : Section → ℕ
rank Capabilities = 0
rank Model = 1
rank Entry = 2
rank Modes = 3
rank Decorations = 4
rank Types = 5
rank Body = 6

-- the section of an instruction, inside of the function or outside
abbrev pub section : (inside : Bool) → Op → Section
section inside (op.Capability c) = Capabilities
section inside (op.MemoryModel a m) = Model
section inside (op.EntryPoint m f n n' is) = Entry
section inside (op.ExecutionMode f m x y z) = Modes
section inside (op.Decorate x d vs) = Decorations
section inside (op.MemberDecorate x m d vs) = Decorations
section inside (op.TypeVoid r) = Types
section inside (op.TypeBool r) = Types
section inside (op.TypeInt r w s) = Types
section inside (op.TypeVector r t n) = Types
section inside (op.TypeRuntimeArray r t) = Types
section inside (op.TypeStruct r ms) = Types
section inside (op.TypePointer r c t) = Types
section inside (op.TypeFunction r t) = Types
section inside (op.Constant t r v) = Types
section inside (op.Variable t r c vs) = if inside then Body else Types
section inside _ = Body

abbrev pub is_body : Section → Bool
is_body Body = true
is_body _ = false

-- Which section may come after an instruction of one: the same or a later one. The first three are not left out, and
-- there is one memory model and one entry point.
abbrev pub follows : (earlier later : Section) → Bool
follows Capabilities s = nat_le (rank s) (rank Model)
follows Model s = rank s == rank Entry
follows Entry s = nat_lt (rank Entry) (rank s)
follows s s' = nat_le (rank s) (rank s')

-- the variables of a function stand first in its first block
abbrev pub takes_variable : List Op → Bool
takes_variable (op.Label l ∷ op.Function t r c f ∷ h) = true
takes_variable (op.Variable t r c vs ∷ h) = true
takes_variable _ = false

-- an instruction of the function: its first one, and those after it
abbrev pub stands_inside : List Op → Op → Bool
stands_inside h (op.Function t r c f) = not (in_function h)
stands_inside h (op.Variable t r c vs) = takes_variable h
stands_inside h _ = in_function h

abbrev pub is_function_end : Op → Bool
is_function_end op.FunctionEnd = true
is_function_end _ = false

-- an instruction stands where its section does, and nothing behind the function
abbrev pub in_order : List Op → Op → Bool
in_order [] o = rank (section false o) == rank Capabilities
in_order (latest ∷ h) o =
    let earlier = section (in_function h) latest in
    let later = section (in_function (latest ∷ h)) o in
    not (is_function_end latest) && follows earlier later && (if is_body later then stands_inside (latest ∷ h) o else true)
