-- The live lists, and what they and the open ones name.
use Rattle.std.specs.Prelude.{◌≡◌, ℕ, ◌+◌, ◌||◌, Bool, List, sum_by}
use Rattle.std.specs.List.{list_any}
use Rattle.base_lemmas.specs.IdMap as ids
use Rattle.base_lemmas.specs.IdMap.{IdMap}
use Rattle.base_lemmas.specs.CodeMap.{map_of}
use Rattle.d3d_model.specs.D3dState.{Numbered}
use Rattle.d3d_model.specs.Stream.{list_names}
use Rattle.d3d_lists.specs.Calls.{calls_in}
use Rattle.d3d_lists.specs.Named.{count_of}
use Rattle.d3d_lists.specs.Names.{name_view, times_in}
use Rattle.d3d_lists.specs.declared.numbered.Numbered as code
use Rattle.d3d_lists.specs.declared.name.Name.{Name}
use Rattle.d3d_lists.specs.declared.named.Named.{Named}
use Rattle.std.specs.Global.{Vec}

abbrev pub Lists : Type 0
Lists = IdMap (List Numbered)

-- the calls of each live list, by the entries of the code
unfoldable pub lists_in : List (ℕ × Vec code.Numbered) → Lists
lists_in entries = map_of (λ (v : Vec code.Numbered). calls_in v.items) entries

-- how often the calls of all lists name the object
abbrev pub times_of : Name → List (List Numbered) → Lists → ℕ
times_of k opened lists = sum_by (times_in k) opened + sum_by (times_in k) (ids.values lists)

-- the counts are those of the open and the live lists
abbrev pub CountsNames : Named → List (List Numbered) → Lists → Type 0
CountsNames named opened lists = (k : Name) → count_of named k ≡ times_of k opened lists

-- a call of a list names the object
abbrev pub some_names : Name → List (List Numbered) → Lists → Bool
some_names k opened lists =
    list_any (list_names (name_view k).class (name_view k).id) opened || list_any (list_names (name_view k).class (name_view k).id) (ids.values lists)
