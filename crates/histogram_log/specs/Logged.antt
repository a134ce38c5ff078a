-- The log of some calls on the immediate context.
use Rattle.std.specs.Prelude.{ℕ, List, ◌++◌, map}
use Rattle.std.specs.List.{flat_map, AllByRecursion}
use Rattle.call_log.specs.Call.{Call, Issued}
use Rattle.call_log.specs.Grammar.{Frame, header, end_record, spell}
use Rattle.call_log.specs.Put.{frame_of, words_of_call, AreWords, IsPuttable}

-- Their records.
abbrev pub frames : List Call → List Frame
frames calls = map (frame_of 0) calls

-- The bytes of their records.
unfoldable pub spelled : List Call → List ℕ
spelled calls = flat_map spell (map (frame_of 0) calls)

-- The bytes of their log.
abbrev pub log_of : List Call → List ℕ
log_of calls = header ++ (spelled calls ++ end_record)

-- The calls as they are issued.
abbrev pub issued_calls : List Call → List Issued
issued_calls calls = map (λ c. record { context = 0; call = c }) calls

-- A call that a record spells, and no other.
pub record IsSpelt (c : Call) : Type 0 where
  pub puttable : IsPuttable c
  pub words : AreWords (words_of_call c)

abbrev pub AreSpelt : List Call → Type 0
AreSpelt calls = AllByRecursion IsSpelt calls
