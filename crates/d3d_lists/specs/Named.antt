-- How often objects are named, by their classes.
use Rattle.std.specs.Prelude.{◌≡◌, ℕ, ⊤, Bool, true, Option, None, Some, if◌then◌else◌}
use Rattle.d3d_lists.specs.declared.name.Name.{Name}
use Rattle.d3d_lists.specs.declared.name.Name.TheVariants.{Buffer, View, Shader, Query}
use Rattle.d3d_lists.specs.declared.named.Named.{Named}
use Rattle.d3d_lists.specs.Counts.{HasRoom, count_at}
use Rattle.d3d_lists.specs.Names.{is_this, name_view}

abbrev pub count_of : Named → Name → ℕ
count_of n (Buffer id) = count_at n.buffers id
count_of n (View id) = count_at n.views id
count_of n (Shader id) = count_at n.shaders id
count_of n (Query id) = count_at n.queries id

-- the count of an object, if there is one, may rise so many times
abbrev pub RoomFor : Named → Option Name → ℕ → Type 0
RoomFor n None times = ⊤
RoomFor n (Some (Buffer id)) times = HasRoom n.buffers id times
RoomFor n (Some (View id)) times = HasRoom n.views id times
RoomFor n (Some (Shader id)) times = HasRoom n.shaders id times
RoomFor n (Some (Query id)) times = HasRoom n.queries id times

-- once where this is the object
abbrev pub times_for : Name → Option Name → ℕ
times_for k None = 0
times_for k (Some n) = if is_this k (name_view n) then 1 else 0
