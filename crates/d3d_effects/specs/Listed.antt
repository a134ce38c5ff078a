-- What is kept of the calls of one list.
use Rattle.std.specs.Prelude.{◌≡◌, ℕ, ◌+◌, ◌-◌, List, [], ◌∷◌, map, length, take, drop}
use Rattle.std.specs.List.{filter_map}
use Rattle.dx_types.specs.declared.range.ResRange.{ResRange}
use Rattle.d3d_model.specs.Binding.{Bindings, default_bindings}
use Rattle.d3d_model.specs.D3dState.{Numbered, Objects}
use Rattle.d3d_model.specs.Stream.{binds, deeds_of_list, past_of_list, set_by}
use Rattle.d3d_model.specs.Uses.{range_bound}
use Rattle.d3d_uses.specs.Summary.{Summarises}
use Rattle.d3d_effects.specs.declared.listed.ListUses.{ListUses}

-- what is set after the calls of a list
unfoldable pub bindings_after : Objects → Bindings → List Numbered → Bindings
bindings_after o b [] = b
bindings_after o b (c ∷ cs) = bindings_after o (set_by o b c.call) cs

-- the ranges that a list's calls bind, in order
abbrev pub bound_by_list : Objects → List Numbered → List ResRange
bound_by_list o cs = filter_map range_bound (deeds_of_list o cs)

-- the ranges that each of its calls binds, from these bindings on
unfoldable pub parts_from : Objects → Bindings → List Numbered → List (List ResRange)
parts_from o b [] = []
parts_from o b (c ∷ cs) = binds o b c.call ∷ parts_from o (set_by o b c.call) cs

abbrev pub parts_of_list : Objects → List Numbered → List (List ResRange)
parts_of_list o cs = parts_from o default_bindings cs

-- how many ranges stand up to the end of each part
unfoldable pub ends_from : ℕ → List (List ResRange) → List ℕ
ends_from n [] = []
ends_from n (p ∷ ps) = (n + length p) ∷ ends_from (n + length p) ps

-- the ranges, cut where each part ends
unfoldable pub cut_at : ℕ → List ResRange → List ℕ → List (List ResRange)
cut_at start ranges [] = []
cut_at start ranges (e ∷ es) = take (e - start) (drop start ranges) ∷ cut_at e ranges es

-- what its calls did by themselves that is asked of them, their numbers, the ranges that they bind, and where those of each end
pub record KeepsList (o : Objects) (cs : List Numbered) (l : ListUses) : Type 0 where
  pub asked : (res : ℕ) → Summarises (past_of_list o cs) l.uses res
  pub numbers : l.calls.items ≡ map (λ (c : Numbered). c.number) cs
  pub bound : l.ranges.items ≡ bound_by_list o cs
  pub ends : l.ends.items ≡ ends_from 0 (parts_of_list o cs)
