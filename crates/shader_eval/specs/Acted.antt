-- What a plain instruction does, by groups.
use Rattle.std.specs.Prelude.{ℕ, List, Option, Some, None}
use Rattle.dx_types.specs.declared.shape.Form.{Form}
use Rattle.dx_types.specs.declared.shape.Form.TheVariants.{Raw, Structured, Typed}
use Rattle.shader_model.specs.declared.tree.Declared.{Declared}
use Rattle.shader_model.specs.declared.tree.Instr.{Instr}
use Rattle.shader_model.specs.declared.ids.Ids.{Ids}
use Rattle.shader_model.specs.Invocation.{State, by_one, by_two, by_three, by_four, by_pair, view_of, source, load, store, change, exchanged}
use Rattle.shader_eval.specs.declared.action.Change.{Change}
use Rattle.shader_eval.specs.declared.action.Change.TheVariants.{Combine, Exchange, CompareExchange}
use Rattle.shader_eval.specs.declared.action.Action.{Action}
use Rattle.shader_eval.specs.declared.action.Action.TheVariants as does
use Rattle.shader_eval.specs.Actions.{one_of, two_of, three_of, field_in, first_of_pair, second_of_pair}

-- an atomic's new word, by the values of its third and fourth sources
abbrev pub changed : Change → (x y old : ℕ) → ℕ
changed (Combine f) x y old = two_of f old x
changed Exchange x y old = x
changed CompareExchange x y old = exchanged x y old

-- only an access of a structured view has an offset, its second source; what a store stores comes behind
abbrev pub offset_by : Form → ℕ → ℕ
offset_by Raw o = 0
offset_by Structured o = o
offset_by Typed o = 0

abbrev pub value_by : Form → ℕ
value_by Raw = 1
value_by Structured = 2
value_by Typed = 1

abbrev pub acted : Action → List Declared → Ids → Instr → State → State
acted (does.One f) ds ids i s = by_one (one_of f) ids i s
acted (does.Two f) ds ids i s = by_two (two_of f) ids i s
acted (does.Three f) ds ids i s = by_three (three_of f) ids i s
acted does.Insert ds ids i s = by_four field_in ids i s
acted (does.Pair f) ds ids i s = by_pair (first_of_pair f) (second_of_pair f) ids i s
acted (does.Load f) ds ids i s = load (view_of ds i.slot) (source ids s i 0 0) (offset_by f (source ids s i 1 0)) i s
acted (does.Store f) ds ids i s = store (view_of ds i.slot) (source ids s i 0 0) (offset_by f (source ids s i 1 0)) (source ids s i (value_by f)) i s
acted (does.Change f) ds ids i s = change (view_of ds i.slot) (source ids s i 0 0) (source ids s i 1 0) (changed f (source ids s i 2 0) (source ids s i 3 0)) i s

abbrev pub acted_maybe : Option Action → List Declared → Ids → Instr → State → State
acted_maybe None ds ids i s = s
acted_maybe (Some a) ds ids i s = acted a ds ids i s
