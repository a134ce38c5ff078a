-- Which texts are the text form of a log, and the first bad line of those that are none.
use Rattle.std.specs.Prelude.{◌≡◌, ℕ, ◌+◌, ◌*◌, ◌<◌, zero, suc, ⊤, Option, None, Some, List, [], ◌∷◌, ◌++◌, length, drop, decimal, codes, ◌⊎◌}
use Rattle.std.specs.List.{flat_map, AllByRecursion}
use Rattle.hex.specs.Hex.{encode_lower}
use Rattle.call_log.specs.Body.{word}
use Rattle.call_log.specs.Grammar.{Frame, IsFrame, IsLog}
use Rattle.log_text.specs.declared.text_end.TextEnd.{TextEnd}
use Rattle.log_text.specs.declared.text_end.TextEnd.TheVariants.{Bad, NoMemory}
use Rattle.call_log.specs.declared.kinds.Layout.{Layout}
use Rattle.call_log.specs.declared.kinds.Layout.TheVariants.{Words, Counted, Tokens, Free}
use Rattle.call_log.specs.Kinds.{Kind, kind_numbered}

-- ---- the line of a record

-- A number behind a blank: decimal, with no leading zero.
abbrev pub number_field : ℕ → List ℕ
number_field n = 32 ∷ decimal n

-- Some bytes behind a blank: in lower-case hexadecimal, or `-` where there are none.
abbrev pub bytes_field : List ℕ → List ℕ
bytes_field [] = 32 ∷ 45 ∷ []
bytes_field (b ∷ bs) = 32 ∷ encode_lower (b ∷ bs)

-- The first n words of a body.
unfoldable pub words_of : ℕ → List ℕ → List ℕ
words_of zero body = []
words_of (suc n) body = word 0 body ∷ words_of n (drop 4 body)

-- The first n words of a body, each a field.
abbrev pub number_fields : ℕ → List ℕ → List ℕ
number_fields n body = flat_map number_field (words_of n body)

-- The fields of a body in its order. The length of bytes isn't written.
unfoldable pub fields : Layout → List ℕ → List ℕ
fields (Words n) body = number_fields n body
fields (Counted n) body = number_fields n body ++ bytes_field (drop (4 * n + 4) body)
fields Tokens body = number_fields 1 body ++ bytes_field (drop 4 body)
fields Free body = bytes_field body

-- A kind's name and the fields of a body, behind one blank each.
abbrev pub name_and_fields : Option Kind → List ℕ → List ℕ
name_and_fields None body = []
name_and_fields (Some f) body = 32 ∷ (f.name ++ fields f.layout body)

-- The line of a record without its line feed: the context, the kind's name, and the fields.
abbrev pub bare_line : Frame → List ℕ
bare_line f = decimal f.context ++ name_and_fields (kind_numbered f.kind) f.body

-- The line of a record.
unfoldable pub line : Frame → List ℕ
line f = bare_line f ++ 10 ∷ []

-- ---- the text of a log

-- `d3l1 1` and a line feed.
abbrev pub first_line : List ℕ
first_line = codes "d3l1 1" ++ 10 ∷ []

-- `end` and a line feed.
abbrev pub end_line : List ℕ
end_line = codes "end" ++ 10 ∷ []

-- The text of some records.
abbrev pub text_of : List Frame → List ℕ
text_of frames = first_line ++ (flat_map line frames ++ end_line)

-- A record that a log of bytes may have.
pub record IsRecord (f : Frame) : Type 0 where
  pub frame : IsFrame f
  pub bytes : AllByRecursion (λ b. b < 256) f.body

-- A text is that of these records.
pub record IsTextOf (text : List ℕ) (frames : List Frame) : Type 0 where
  pub spelled : text ≡ text_of frames
  pub each : AllByRecursion IsRecord frames

-- A text is that of a log.
pub record LogText (text log : List ℕ) : Type 0 where
  pub frames : List Frame
  pub writes : IsTextOf text frames
  pub spells : IsLog log frames

-- ---- the first bad line

-- Line 1 isn't the one that every text begins with.
pub record IsBadFirst (text : List ℕ) : Type 0 where
  pub none : (more : List ℕ) → text ≡ first_line ++ more → ⊥

-- Behind the lines of some records stands neither the line of a record nor the line that ends a text.
pub record IsBadCall (text : List ℕ) (n : ℕ) : Type 0 where
  pub frames : List Frame
  pub rest : List ℕ
  pub spelled : text ≡ first_line ++ (flat_map line frames ++ rest)
  pub each : AllByRecursion IsRecord frames
  pub no_call : (f : Frame) (more : List ℕ) → IsRecord f → rest ≡ line f ++ more → ⊥
  pub no_end : (more : List ℕ) → rest ≡ end_line ++ more → ⊥
  pub number : n ≡ 2 + length frames

-- Something stands behind the line that ends a text.
pub record IsBadAfterEnd (text : List ℕ) (n : ℕ) : Type 0 where
  pub frames : List Frame
  pub rest : List ℕ
  pub spelled : text ≡ first_line ++ (flat_map line frames ++ (end_line ++ rest))
  pub each : AllByRecursion IsRecord frames
  pub more : 0 < length rest
  pub number : n ≡ 3 + length frames

-- Line n, from 1, is the first bad line of a text.
abbrev pub IsFirstBad : List ℕ → ℕ → Type 0
IsFirstBad text n = (IsBadFirst text × (n ≡ 1)) ⊎ (IsBadCall text n ⊎ IsBadAfterEnd text n)

-- What reading a text ends in: its first bad line, or want of memory.
abbrev pub BadOnly : List ℕ → TextEnd → Type 0
BadOnly text (Bad n) = IsFirstBad text n
BadOnly text NoMemory = ⊤
