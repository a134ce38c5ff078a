-- What the slots of a dispatch show, as it is bound for its shader.
use Rattle.std.specs.Prelude.{ℕ, List, [], map, Option, None, Some}
use Rattle.dx_types.specs.declared.range.ResRange.{ResRange}
use Rattle.shader_model.specs.declared.tree.Declared.{Declared}
use Rattle.shader_slots.specs.Bound.{Around, Bound}
use Rattle.shader_slots.specs.Part.{Part}
use Rattle.d3d_model.specs.Binding.{Bindings}
use Rattle.d3d_model.specs.D3dState.{Objects, Memory}
use Rattle.d3d_model.specs.Memory.{read, words_shown, constants_shown, srvs_shown, uavs_shown, write}
use Rattle.d3d_model.specs.Regions.{spelled, words_of}

-- ---- one slot

-- the words of a range, none where a slot shows none
abbrev pub words_one : Memory → Option ResRange → List ℕ
words_one m None = []
words_one m (Some r) = words_of (read m r)

-- the part that is written of a range: all of a copy of its bytes
abbrev pub part_one : Memory → Option ResRange → Option Part
part_one m None = None
part_one m (Some r) = Some (record { before = []; words = words_of (read m r); after = [] })

-- what stands around that part: nothing
abbrev pub around_one : Option ResRange → Option Around
around_one None = None
around_one (Some r) = Some (record { before = []; after = [] })

-- the words that a slot was left with, in its range
abbrev pub stored_one : Memory → Option ResRange → List ℕ → Memory
stored_one m None words = m
stored_one m (Some r) words = write m r.res r.from (spelled words)

-- ---- all slots of a kind

-- what is bound, with other constants, resources and parts that are written
abbrev pub with_constants : List (List ℕ) → Bound → Bound
with_constants words b = record b { words = record (b.words) { constants = words } }

abbrev pub with_reads : List (List ℕ) → Bound → Bound
with_reads words b = record b { words = record (b.words) { reads = words } }

abbrev pub with_writes : List (List ℕ) → List (Option Around) → Bound → Bound
with_writes words around b = record { words = record (b.words) { writes = words }; around = around }

-- the words that the slots of each kind show
abbrev pub constant_words : Objects → Memory → Bindings → List Declared → List (List ℕ)
constant_words o m b ds = words_shown m (constants_shown o b ds)

abbrev pub srv_words : Memory → Bindings → List Declared → List (List ℕ)
srv_words m b ds = words_shown m (srvs_shown b ds)

abbrev pub uav_words : Memory → Bindings → List Declared → List (List ℕ)
uav_words m b ds = words_shown m (uavs_shown b ds)

-- what stands around the parts that the slots for unordered access show
abbrev pub uav_around : Bindings → List Declared → List (Option Around)
uav_around b ds = map around_one (uavs_shown b ds)
