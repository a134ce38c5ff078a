-- What a step of the machine's table does.
use Rattle.std.specs.Prelude.{ℕ, ◌+◌, max, if◌then◌else◌, List, [], ◌∷◌, drop, Option, Some, None}
use Rattle.shader_model.specs.declared.ids.Ids.{Ids}
use Rattle.shader_model.specs.Invocation.{Slots}
use Rattle.spirv_model.specs.Op.{Op}
use Rattle.spirv_model.specs.Meaning.Values.{Value, Nothing, Word, Truth, At, ToVariable, of_one, of_two, selected, component, new_word, new_if_equal}
use Rattle.spirv_model.specs.Meaning.Memory.{Memory, with_result, with_variable, chained, loaded, stored, changed}
use Rattle.spirv_model.specs.Meaning.ModuleMeaning.{Run}
use Rattle.spirv_run.specs.declared.step.Step.{Step}
use Rattle.spirv_run.specs.declared.step.Step.TheVariants as step
use Rattle.spirv_run.specs.declared.step.Source.{Source}
use Rattle.spirv_run.specs.declared.step.Source.TheVariants as source
use Rattle.spirv_run.specs.declared.step.Next.{Next}
use Rattle.spirv_run.specs.declared.step.Next.TheVariants as next
use Rattle.spirv_run.specs.Held.{pointer_of}

-- where a step leads: to a place of the table with a memory, to the end with the slots, or nowhere
pub data Outcome : Type 0 where
  Reaches : (place : ℕ) (m : Memory) → Outcome
  Ends : (slots : Slots) → Outcome
  Fails : Outcome

abbrev pub result_in : Option Value → (r next : ℕ) → Memory → Outcome
result_in None r k m = Fails
result_in (Some v) r k m = Reaches k (with_result r v m)

abbrev pub left_in : Option Memory → (next : ℕ) → Outcome
left_in None k = Fails
left_in (Some m) k = Reaches k m

abbrev pub variable_in : Option Value → (r next : ℕ) → Memory → Outcome
variable_in None r k m = Fails
variable_in (Some v) r k m = Reaches k (with_result r (At (ToVariable r)) (with_variable r v m))

abbrev pub chosen_in : Option Value → (taken other : ℕ) → Memory → Outcome
chosen_in (Some (Truth b)) taken other m = Reaches (if b then taken else other) m
chosen_in _ taken other m = Fails

abbrev pub first_of : Option ℕ → Memory → Option Value
first_of None m = Some Nothing
first_of (Some x) m = m.results x

-- the value of a result, none where it is undefined
abbrev pub sourced : Ids → Source → Memory → Option Value
sourced ids (source.Constant v) m = Some (Word v)
sourced ids (source.Outer p) m = Some (At (pointer_of p))
sourced ids (source.Load p) m = loaded ids m (m.results p)
sourced ids (source.Member b i) m = chained m.slots (m.results b) (m.results i ∷ [])
sourced ids (source.Element b i j) m = chained m.slots (m.results b) (m.results i ∷ m.results j ∷ [])
sourced ids (source.Component v i) m = component i (m.results v)
sourced ids (source.Unary o a) m = of_one o (m.results a)
sourced ids (source.Binary o a b) m = of_two o (m.results a) (m.results b)
sourced ids (source.Select c a b) m = selected (m.results c) (m.results a) (m.results b)

-- one step, with the place behind it
abbrev pub done : Ids → Step → (next : ℕ) → Memory → Outcome
done ids step.Nothing k m = Reaches k m
done ids step.Stuck k m = Fails
done ids step.Return k m = Ends m.slots
done ids (step.Give r s) k m = result_in (sourced ids s m) r k m
done ids (step.Variable r x) k m = variable_in (first_of x m) r k m
done ids (step.Store p v) k m = left_in (stored (m.results p) (m.results v) m) k
done ids (step.Atomic o r p v) k m = left_in (changed r (m.results p) (new_word o (m.results v)) m) k
done ids (step.CompareExchange r p v c) k m = left_in (changed r (m.results p) (new_if_equal (m.results v) (m.results c)) m) k
done ids (step.Jump to) k m = Reaches to m
done ids (step.Choose c taken other) k m = chosen_in (m.results c) taken other m

-- what the program says of a step, with the memory behind it
abbrev pub reached : Next → Memory → Outcome
reached (next.On k) m = Reaches k m
reached next.Done m = Ends m.slots
reached next.Stuck m = Fails

-- the instructions at the place where an outcome leads are run
abbrev pub continued : (all : List Op) → Run → Outcome → Option Slots
continued all go (Reaches k m) = go (drop k all) m
continued all go (Ends slots) = Some slots
continued all go Fails = None

-- the number behind the id that a step makes, 0 where it makes none
abbrev pub end_of : Step → ℕ
end_of (step.Give r s) = r + 1
end_of (step.Variable r x) = r + 1
end_of (step.Atomic o r p v) = r + 1
end_of (step.CompareExchange r p v c) = r + 1
end_of _ = 0

-- the number behind all ids that steps make
abbrev pub end_of_all : List Step → ℕ
end_of_all [] = 0
end_of_all (s ∷ ss) = max (end_of s) (end_of_all ss)
