-- The table of the kinds of call: their numbers and names, where they may stand, how long their bodies are, and what
-- sort of call they are.
use Rattle.std.specs.Prelude.{ℕ, ◌==◌, nat_lt, List, [], ◌∷◌, Option, Some, None, codes, if◌then◌else◌}
use Rattle.call_log.specs.declared.kinds.Kind as code
use Rattle.call_log.specs.declared.kinds.Place.{Place}
use Rattle.call_log.specs.declared.kinds.Place.TheVariants.{OnDevice, OnImmediate, OnEach, OnDeferred}
use Rattle.call_log.specs.declared.kinds.Layout.{Layout}
use Rattle.call_log.specs.declared.kinds.Layout.TheVariants.{Words, Counted, Tokens, Free}
use Rattle.call_log.specs.declared.kinds.Sort.{Sort}
use Rattle.call_log.specs.declared.kinds.Sort.TheVariants as sort
use Rattle.call_log.specs.declared.kinds.TheConstants.{BUFFER, VIEW, CREATE_SHADER, QUERY, DESTROY, SET_SHADER, SET_CONSTANT, SET_SRV, SET_UAV, CLEAR_STATE, DISPATCH, DISPATCH_INDIRECT, COPY_REGION, COPY, UPDATE, CLEAR_UAV, SET_PREDICATION, BEGIN, END_QUERY, MAP_WRITE, MAP_READ, GET_DATA, FLUSH, FINISH_LIST, EXECUTE_LIST}

-- A kind of call.
pub record Kind : Type 0 where
  pub number : ℕ
  pub name : List ℕ
  pub place : Place
  pub layout : Layout
  pub sort : Sort

-- A kind without where its name lies in memory.
abbrev pub kind_view : code.Kind → Kind
kind_view k = record { number = k.number; name = k.name.now; place = k.place; layout = k.layout; sort = k.sort }

abbrev pub kind : ℕ → List ℕ → Place → Layout → Sort → Kind
kind number name place layout sort = record { number = number; name = name; place = place; layout = layout; sort = sort }

-- The table, by rising number.
abbrev pub kinds : List Kind
kinds =
    kind BUFFER (codes "buffer") OnDevice (Counted 6) sort.Object
    ∷ kind VIEW (codes "view") OnDevice (Words 7) sort.Object
    ∷ kind CREATE_SHADER (codes "shader") OnDevice Tokens sort.Object
    ∷ kind QUERY (codes "query") OnDevice (Words 2) sort.Object
    ∷ kind DESTROY (codes "destroy") OnDevice (Words 2) sort.Object
    ∷ kind SET_SHADER (codes "set-shader") OnEach (Words 1) sort.Setting
    ∷ kind SET_CONSTANT (codes "set-constant") OnEach (Words 2) sort.Setting
    ∷ kind SET_SRV (codes "set-srv") OnEach (Words 2) sort.Setting
    ∷ kind SET_UAV (codes "set-uav") OnEach (Words 2) sort.Setting
    ∷ kind CLEAR_STATE (codes "clear-state") OnEach (Words 0) sort.Setting
    ∷ kind DISPATCH (codes "dispatch") OnEach (Words 3) sort.Command
    ∷ kind DISPATCH_INDIRECT (codes "dispatch-indirect") OnEach (Words 2) sort.Command
    ∷ kind COPY_REGION (codes "copy-region") OnEach (Words 5) sort.Command
    ∷ kind COPY (codes "copy") OnEach (Words 2) sort.Command
    ∷ kind UPDATE (codes "update") OnEach (Counted 2) sort.Command
    ∷ kind CLEAR_UAV (codes "clear-uav") OnEach (Words 5) sort.Command
    ∷ kind SET_PREDICATION (codes "set-predication") OnEach (Words 4) sort.Setting
    ∷ kind BEGIN (codes "begin") OnEach (Words 1) sort.Command
    ∷ kind END_QUERY (codes "end-query") OnEach (Words 1) sort.Command
    ∷ kind MAP_WRITE (codes "map-write") OnEach (Counted 3) sort.Exchange
    ∷ kind MAP_READ (codes "map-read") OnImmediate (Words 4) sort.Exchange
    ∷ kind GET_DATA (codes "get-data") OnImmediate (Words 2) sort.Exchange
    ∷ kind FLUSH (codes "flush") OnImmediate (Words 0) sort.Exchange
    ∷ kind FINISH_LIST (codes "finish-list") OnDeferred (Words 1) sort.List
    ∷ kind EXECUTE_LIST (codes "execute-list") OnImmediate (Words 2) sort.List
    ∷ kind 64 (codes "draw-64") OnEach Free sort.Draw
    ∷ kind 65 (codes "draw-65") OnEach Free sort.Draw
    ∷ kind 66 (codes "draw-66") OnEach Free sort.Draw
    ∷ kind 67 (codes "draw-67") OnEach Free sort.Draw
    ∷ kind 68 (codes "draw-68") OnEach Free sort.Draw
    ∷ kind 69 (codes "draw-69") OnEach Free sort.Draw
    ∷ kind 70 (codes "draw-70") OnEach Free sort.Draw
    ∷ kind 71 (codes "draw-71") OnEach Free sort.Draw
    ∷ kind 72 (codes "draw-72") OnEach Free sort.Draw
    ∷ kind 73 (codes "draw-73") OnEach Free sort.Draw
    ∷ kind 74 (codes "draw-74") OnEach Free sort.Draw
    ∷ kind 75 (codes "draw-75") OnEach Free sort.Draw
    ∷ kind 76 (codes "draw-76") OnEach Free sort.Draw
    ∷ kind 77 (codes "draw-77") OnEach Free sort.Draw
    ∷ kind 78 (codes "draw-78") OnEach Free sort.Draw
    ∷ kind 79 (codes "draw-79") OnEach Free sort.Draw
    ∷ []

-- The kind of a number among these.
abbrev pub kind_among : ℕ → List Kind → Option Kind
kind_among n [] = None
kind_among n (k ∷ ks) = if k.number == n then Some k else kind_among n ks

-- The kind of a number; none where no kind has it.
unfoldable pub kind_numbered : ℕ → Option Kind
kind_numbered n = kind_among n kinds

-- ---- how a kind is found

-- How many numbers up to one that is a kind's are those of no kind.
abbrev pub before : ℕ → ℕ
before n =
    if nat_lt n 16 then 1
    else if nat_lt n 32 then 11
    else if nat_lt n 48 then 22
    else if nat_lt n 64 then 29
    else 39

-- The numbers of the kinds whose names have so many letters.
abbrev pub numbers_of_length : ℕ → List ℕ
numbers_of_length n =
    if n == 4 then VIEW ∷ COPY ∷ []
    else if n == 5 then QUERY ∷ BEGIN ∷ FLUSH ∷ []
    else if n == 6 then BUFFER ∷ CREATE_SHADER ∷ UPDATE ∷ []
    else if n == 7 then DESTROY ∷ SET_SRV ∷ SET_UAV ∷ 64 ∷ 65 ∷ 66 ∷ 67 ∷ 68 ∷ 69 ∷ 70 ∷ 71 ∷ 72 ∷ 73 ∷ 74 ∷ 75 ∷ 76 ∷ 77 ∷ 78 ∷ 79 ∷ []
    else if n == 8 then DISPATCH ∷ MAP_READ ∷ GET_DATA ∷ []
    else if n == 9 then CLEAR_UAV ∷ END_QUERY ∷ MAP_WRITE ∷ []
    else if n == 10 then SET_SHADER ∷ []
    else if n == 11 then CLEAR_STATE ∷ COPY_REGION ∷ FINISH_LIST ∷ []
    else if n == 12 then SET_CONSTANT ∷ EXECUTE_LIST ∷ []
    else if n == 15 then SET_PREDICATION ∷ []
    else if n == 17 then DISPATCH_INDIRECT ∷ []
    else []
