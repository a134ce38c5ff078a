-- The record that spells a call.
use Rattle.std.specs.Prelude.{ℕ, ◌+◌, ◌*◌, ◌<◌, ◌^◌, ◌%◌, ◌==◌, nat_le, Bool, true, ◌&&◌, IsTrue, List, [], ◌∷◌, ◌++◌, length, ⊤}
use Rattle.std.specs.List.{flat_map}
use Rattle.byteorder.specs.Endian.{little_bytes}
use Rattle.call_log.specs.declared.kinds.TheConstants.{BUFFER, VIEW, CREATE_SHADER, QUERY, DESTROY, SET_SHADER, SET_CONSTANT, SET_SRV, SET_UAV, CLEAR_STATE, DISPATCH, DISPATCH_INDIRECT, COPY_REGION, COPY, UPDATE, CLEAR_UAV, SET_PREDICATION, BEGIN, END_QUERY, MAP_WRITE, MAP_READ, GET_DATA, FLUSH, FINISH_LIST, EXECUTE_LIST}
use Rattle.call_log.specs.Call.{Call, Buffer, View, CreateShader, Query, Destroy, SetShader, SetConstant, SetSrv, SetUav, ClearState, Dispatch, DispatchIndirect, CopyRegion, Copy, Update, ClearUav, SetPredication, Begin, EndQuery, MapWrite, MapRead, GetData, Flush, FinishList, ExecuteList, Draw}
use Rattle.call_log.specs.Grammar.{Frame}

-- The number of a call's kind.
abbrev pub kind_of_call : Call → ℕ
kind_of_call (Buffer id size usage bind misc stride bytes) = BUFFER
kind_of_call (View view res kind form components first count) = VIEW
kind_of_call (CreateShader id words) = CREATE_SHADER
kind_of_call (Query id sort) = QUERY
kind_of_call (Destroy class id) = DESTROY
kind_of_call (SetShader id) = SET_SHADER
kind_of_call (SetConstant slot res) = SET_CONSTANT
kind_of_call (SetSrv slot view) = SET_SRV
kind_of_call (SetUav slot view) = SET_UAV
kind_of_call ClearState = CLEAR_STATE
kind_of_call (Dispatch x y z) = DISPATCH
kind_of_call (DispatchIndirect res offset) = DISPATCH_INDIRECT
kind_of_call (CopyRegion target target_offset source source_offset len) = COPY_REGION
kind_of_call (Copy target source) = COPY
kind_of_call (Update res offset bytes) = UPDATE
kind_of_call (ClearUav view v0 v1 v2 v3) = CLEAR_UAV
kind_of_call (SetPredication kind id offset value) = SET_PREDICATION
kind_of_call (Begin query) = BEGIN
kind_of_call (EndQuery query) = END_QUERY
kind_of_call (MapWrite res mode offset bytes) = MAP_WRITE
kind_of_call (MapRead res flag offset len) = MAP_READ
kind_of_call (GetData query flag) = GET_DATA
kind_of_call Flush = FLUSH
kind_of_call (FinishList list) = FINISH_LIST
kind_of_call (ExecuteList list flag) = EXECUTE_LIST
kind_of_call (Draw kind body) = kind

-- The bytes of some words, 4 each, the lowest first.
unfoldable pub spell_words : List ℕ → List ℕ
spell_words words = flat_map (little_bytes 4) words

-- The words with which a call's body begins. Bytes that end a body have their length before them.
abbrev pub words_of_call : Call → List ℕ
words_of_call (Buffer id size usage bind misc stride bytes) = id ∷ size ∷ usage ∷ bind ∷ misc ∷ stride ∷ length bytes ∷ []
words_of_call (View view res kind form components first count) = view ∷ res ∷ kind ∷ form ∷ components ∷ first ∷ count ∷ []
words_of_call (CreateShader id words) = id ∷ []
words_of_call (Query id sort) = id ∷ sort ∷ []
words_of_call (Destroy class id) = class ∷ id ∷ []
words_of_call (SetShader id) = id ∷ []
words_of_call (SetConstant slot res) = slot ∷ res ∷ []
words_of_call (SetSrv slot view) = slot ∷ view ∷ []
words_of_call (SetUav slot view) = slot ∷ view ∷ []
words_of_call ClearState = []
words_of_call (Dispatch x y z) = x ∷ y ∷ z ∷ []
words_of_call (DispatchIndirect res offset) = res ∷ offset ∷ []
words_of_call (CopyRegion target target_offset source source_offset len) = target ∷ target_offset ∷ source ∷ source_offset ∷ len ∷ []
words_of_call (Copy target source) = target ∷ source ∷ []
words_of_call (Update res offset bytes) = res ∷ offset ∷ length bytes ∷ []
words_of_call (ClearUav view v0 v1 v2 v3) = view ∷ v0 ∷ v1 ∷ v2 ∷ v3 ∷ []
words_of_call (SetPredication kind id offset value) = kind ∷ id ∷ offset ∷ value ∷ []
words_of_call (Begin query) = query ∷ []
words_of_call (EndQuery query) = query ∷ []
words_of_call (MapWrite res mode offset bytes) = res ∷ mode ∷ offset ∷ length bytes ∷ []
words_of_call (MapRead res flag offset len) = res ∷ flag ∷ offset ∷ len ∷ []
words_of_call (GetData query flag) = query ∷ flag ∷ []
words_of_call Flush = []
words_of_call (FinishList list) = list ∷ []
words_of_call (ExecuteList list flag) = list ∷ flag ∷ []
words_of_call (Draw kind body) = []

-- The bytes that end a call's body.
abbrev pub bytes_of_call : Call → List ℕ
bytes_of_call (Buffer id size usage bind misc stride bytes) = bytes
bytes_of_call (CreateShader id words) = words
bytes_of_call (Update res offset bytes) = bytes
bytes_of_call (MapWrite res mode offset bytes) = bytes
bytes_of_call (Draw kind body) = body
bytes_of_call _ = []

-- The body that spells a call.
abbrev pub body_of_call : Call → List ℕ
body_of_call c = spell_words (words_of_call c) ++ bytes_of_call c

-- The record that spells a call on a context.
abbrev pub frame_of : ℕ → Call → Frame
frame_of context c = record { kind = kind_of_call c; context = context; body = body_of_call c }

-- The length of a call's bytes fits its kind: token words are whole. A draw's kind is from 64 to 79.
abbrev pub fits_kind : Call → Bool
fits_kind (CreateShader id words) = length words % 4 == 0
fits_kind (Draw kind body) = nat_le 64 kind && nat_le kind 79
fits_kind _ = true

-- How many bytes a call's body has.
abbrev pub body_length : Call → ℕ
body_length c = 4 * length (words_of_call c) + length (bytes_of_call c)

-- A call that a record can spell.
pub record IsPuttable (c : Call) : Type 0 where
  pub small : body_length c < 2 ^ 32
  pub fits : IsTrue (fits_kind c)

-- Each number is below 2^32.
abbrev pub AreWords : List ℕ → Type 0
AreWords [] = ⊤
AreWords (w ∷ ws) = (w < 2 ^ 32) × AreWords ws
