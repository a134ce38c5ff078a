-- What the pieces of the reader and the writer promise of each other.
use Rattle.std.specs.Prelude.{◌≡◌, ℕ, ◌+◌, ◌<◌, ◌^◌, IsTrue, ⊤, Option, None, Some, List, [], ◌++◌, length}
use Rattle.std.specs.List.{flat_map, AllByRecursion}
use Rattle.call_log.specs.Body.{fits_layout}
use Rattle.call_log.specs.Put.{AreWords, spell_words}
use Rattle.log_text.specs.declared.text_end.Stop.{Stop}
use Rattle.log_text.specs.declared.text_end.Stop.TheVariants.{Bad, NoMemory}
use Rattle.call_log.specs.declared.kinds.Layout.{Layout}
use Rattle.call_log.specs.Grammar.{Frame, header, spell, frame_no}
use Rattle.text_words.specs.Words.{AreBytes}
use Rattle.log_text.specs.LogText.{number_field, bytes_field, fields, bare_line, line, first_line, IsRecord}

-- P holds where a step stopped at bad text.
abbrev pub WhenBad : Stop → Type 0 → Type 0
WhenBad Bad P = P
WhenBad NoMemory P = ⊤

-- Some numbers stand in front as fields, and were put as words.
pub record ReadsNumbers (n : ℕ) (text rest old new : List ℕ) : Type 0 where
  pub words : List ℕ
  pub count : length words ≡ n
  pub small : AreWords words
  pub spelled : text ≡ flat_map number_field words ++ rest
  pub put : new ≡ old ++ spell_words words

-- A field of bytes is all of a text, and the bytes were put.
pub record ReadsBytes (text old new : List ℕ) : Type 0 where
  pub bytes : List ℕ
  pub fit : AreBytes bytes
  pub spelled : text ≡ bytes_field bytes
  pub put : new ≡ old ++ bytes

-- A body that has these fields.
pub record HasLayout (layout : Layout) (body : List ℕ) : Type 0 where
  pub fits : IsTrue (fits_layout layout body)
  pub bytes : AreBytes body
  pub small : length body < 2 ^ 32

-- The fields of a body are all of a text.
pub record ReadsBody (layout : Layout) (text body : List ℕ) : Type 0 where
  pub shaped : HasLayout layout body
  pub spelled : text ≡ fields layout body

-- The fields of a body are all of a text, and the body was put.
pub record PutsBody (layout : Layout) (text old new : List ℕ) : Type 0 where
  pub body : List ℕ
  pub reads : ReadsBody layout text body
  pub put : new ≡ old ++ body

-- The fields of a kind are all of a text, and the record of the kind with their body was put.
pub record PutsRecord (kind context : ℕ) (layout : Layout) (text old new : List ℕ) : Type 0 where
  pub body : List ℕ
  pub reads : ReadsBody layout text body
  pub put : new ≡ old ++ spell (record { kind = kind; context = context; body = body })

-- A line without its line feed is that of a record, and the record was put behind a log.
pub record ReadsLine (text old new : List ℕ) : Type 0 where
  pub frame : Frame
  pub is_record : IsRecord frame
  pub spelled : text ≡ bare_line frame
  pub put : new ≡ old ++ spell frame

-- So far a text is the first line and the lines of some records, and a log is the header and these records.
pub record Assembles (text rest log : List ℕ) (next : ℕ) : Type 0 where
  pub frames : List Frame
  pub each : AllByRecursion IsRecord frames
  pub spelled : text ≡ first_line ++ (flat_map line frames ++ rest)
  pub put : log ≡ header ++ flat_map spell frames
  pub number : next ≡ 2 + length frames

-- The line of call n, from 1; nothing where no call has this number.
abbrev pub known_line : Option Frame → List ℕ
known_line None = []
known_line (Some f) = line f

abbrev pub call_text : List Frame → ℕ → List ℕ
call_text frames n = known_line (frame_no frames n)
