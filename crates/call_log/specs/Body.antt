-- The bodies of the records, by kind.
use Rattle.std.specs.Prelude.{ℕ, ◌+◌, ◌*◌, ◌%◌, ◌==◌, nat_le, Bool, true, false, ◌&&◌, Option, Some, None, List, length, drop, if◌then◌else◌}
use Rattle.std.specs.Option.{option_map}
use Rattle.byteorder.specs.Endian.{little_number}
use Rattle.call_log.specs.declared.kinds.Layout.{Layout}
use Rattle.call_log.specs.declared.kinds.Layout.TheVariants.{Words, Counted, Tokens, Free}
use Rattle.call_log.specs.declared.kinds.TheConstants.{BUFFER, VIEW, CREATE_SHADER, QUERY, DESTROY, SET_SHADER, SET_CONSTANT, SET_SRV, SET_UAV, CLEAR_STATE, DISPATCH, DISPATCH_INDIRECT, COPY_REGION, COPY, UPDATE, CLEAR_UAV, SET_PREDICATION, BEGIN, END_QUERY, MAP_WRITE, MAP_READ, GET_DATA, FLUSH, FINISH_LIST, EXECUTE_LIST}
use Rattle.call_log.specs.Kinds.{kind_numbered}
use Rattle.call_log.specs.Call.{Call, Buffer, View, CreateShader, Query, Destroy, SetShader, SetConstant, SetSrv, SetUav, ClearState, Dispatch, DispatchIndirect, CopyRegion, Copy, Update, ClearUav, SetPredication, Begin, EndQuery, MapWrite, MapRead, GetData, Flush, FinishList, ExecuteList, Draw}

-- Word i of a body: 4 bytes, the lowest first.
abbrev pub word : ℕ → List ℕ → ℕ
word i body = little_number 4 (drop (4 * i) body)

-- ---- how long a body is

-- The layout of the bodies of a kind of call; none where no call is of this kind.
abbrev pub layout : ℕ → Option Layout
layout number = option_map (λ k. k.layout) (kind_numbered number)

-- A body is as long as a layout says: its words alone; its words, a length and so many bytes; a word
-- and whole token words; any length.
abbrev pub fits_layout : Layout → List ℕ → Bool
fits_layout (Words n) body = length body == 4 * n
fits_layout (Counted n) body = nat_le (4 * n + 4) (length body) && (length body == 4 * n + 4 + word n body)
fits_layout Tokens body = nat_le 4 (length body) && (length body % 4 == 0)
fits_layout Free body = true

-- A body fits a layout that may be missing.
abbrev pub fits_known : Option Layout → List ℕ → Bool
fits_known None body = false
fits_known (Some shape) body = fits_layout shape body

-- A body's length fits its kind.
abbrev pub fits : ℕ → List ℕ → Bool
fits kind body = fits_known (layout kind) body

-- ---- the call that a body spells

-- A buffer's creation: six words, then its first bytes.
abbrev pub buffer_of : List ℕ → Call
buffer_of body = Buffer (word 0 body) (word 1 body) (word 2 body) (word 3 body) (word 4 body) (word 5 body) (drop 28 body)

-- A view's creation: seven words.
abbrev pub view_of : List ℕ → Call
view_of body = View (word 0 body) (word 1 body) (word 2 body) (word 3 body) (word 4 body) (word 5 body) (word 6 body)

-- A shader's creation: its id, then its token words.
abbrev pub create_shader_of : List ℕ → Call
create_shader_of body = CreateShader (word 0 body) (drop 4 body)

-- A query's creation: its id and its sort.
abbrev pub query_of : List ℕ → Call
query_of body = Query (word 0 body) (word 1 body)

-- The end of an object, by its class and its id.
abbrev pub destroy_of : List ℕ → Call
destroy_of body = Destroy (word 0 body) (word 1 body)

-- A shader is set on a context, or none.
abbrev pub set_shader_of : List ℕ → Call
set_shader_of body = SetShader (word 0 body)

-- A constant slot gets a buffer, or none.
abbrev pub set_constant_of : List ℕ → Call
set_constant_of body = SetConstant (word 0 body) (word 1 body)

-- A shader resource slot gets a view, or none.
abbrev pub set_srv_of : List ℕ → Call
set_srv_of body = SetSrv (word 0 body) (word 1 body)

-- An unordered access slot gets a view, or none.
abbrev pub set_uav_of : List ℕ → Call
set_uav_of body = SetUav (word 0 body) (word 1 body)

-- A dispatch of x, y and z workgroups.
abbrev pub dispatch_of : List ℕ → Call
dispatch_of body = Dispatch (word 0 body) (word 1 body) (word 2 body)

-- A dispatch whose counts stand in a buffer, at an offset.
abbrev pub dispatch_indirect_of : List ℕ → Call
dispatch_indirect_of body = DispatchIndirect (word 0 body) (word 1 body)

-- A copy of part of a buffer: the target and its offset, the source and its offset, the length.
abbrev pub copy_region_of : List ℕ → Call
copy_region_of body = CopyRegion (word 0 body) (word 1 body) (word 2 body) (word 3 body) (word 4 body)

-- A copy of a whole buffer to another.
abbrev pub copy_of : List ℕ → Call
copy_of body = Copy (word 0 body) (word 1 body)

-- Bytes for a buffer, at an offset.
abbrev pub update_of : List ℕ → Call
update_of body = Update (word 0 body) (word 1 body) (drop 12 body)

-- Four values that fill a view.
abbrev pub clear_uav_of : List ℕ → Call
clear_uav_of body = ClearUav (word 0 body) (word 1 body) (word 2 body) (word 3 body) (word 4 body)

-- What the later calls of a context are predicated on: a kind, an id, an offset and a value.
abbrev pub set_predication_of : List ℕ → Call
set_predication_of body = SetPredication (word 0 body) (word 1 body) (word 2 body) (word 3 body)

-- A query begins.
abbrev pub begin_of : List ℕ → Call
begin_of body = Begin (word 0 body)

-- A query ends.
abbrev pub end_query_of : List ℕ → Call
end_query_of body = EndQuery (word 0 body)

-- A map that writes bytes into a buffer: a mode, an offset and the bytes.
abbrev pub map_write_of : List ℕ → Call
map_write_of body = MapWrite (word 0 body) (word 1 body) (word 2 body) (drop 16 body)

-- A map that reads from a buffer: a flag, an offset and a length.
abbrev pub map_read_of : List ℕ → Call
map_read_of body = MapRead (word 0 body) (word 1 body) (word 2 body) (word 3 body)

-- The answer of a query is asked for, with a flag.
abbrev pub get_data_of : List ℕ → Call
get_data_of body = GetData (word 0 body) (word 1 body)

-- A deferred context's calls become a list with this id.
abbrev pub finish_list_of : List ℕ → Call
finish_list_of body = FinishList (word 0 body)

-- A list is run, with a flag.
abbrev pub execute_list_of : List ℕ → Call
execute_list_of body = ExecuteList (word 0 body) (word 1 body)

-- The call that a record spells: a draw where it is none of the others. No log has a record of another kind.
unfoldable pub call_of : ℕ → List ℕ → Call
call_of kind body =
    if kind == BUFFER then buffer_of body
    else if kind == VIEW then view_of body
    else if kind == CREATE_SHADER then create_shader_of body
    else if kind == QUERY then query_of body
    else if kind == DESTROY then destroy_of body
    else if kind == SET_SHADER then set_shader_of body
    else if kind == SET_CONSTANT then set_constant_of body
    else if kind == SET_SRV then set_srv_of body
    else if kind == SET_UAV then set_uav_of body
    else if kind == CLEAR_STATE then ClearState
    else if kind == DISPATCH then dispatch_of body
    else if kind == DISPATCH_INDIRECT then dispatch_indirect_of body
    else if kind == COPY_REGION then copy_region_of body
    else if kind == COPY then copy_of body
    else if kind == UPDATE then update_of body
    else if kind == CLEAR_UAV then clear_uav_of body
    else if kind == SET_PREDICATION then set_predication_of body
    else if kind == BEGIN then begin_of body
    else if kind == END_QUERY then end_query_of body
    else if kind == MAP_WRITE then map_write_of body
    else if kind == MAP_READ then map_read_of body
    else if kind == GET_DATA then get_data_of body
    else if kind == FLUSH then Flush
    else if kind == FINISH_LIST then finish_list_of body
    else if kind == EXECUTE_LIST then execute_list_of body
    else Draw kind body
