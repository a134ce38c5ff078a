-- What `gen` writes.
use Rattle.std.specs.Prelude.{ℕ, List, [], ◌∷◌, ◌++◌, length, sum, count_by, codes, decimal, Option, Some}
use Rattle.dx_io.specs.Told.{Appends, AppendsFront}
use Rattle.dx_types.specs.declared.reply.Reply.{Reply}
use Rattle.dx_types.specs.declared.reply.Reply.TheVariants as replies
use Rattle.call_log.specs.Call.{Issued}
use Rattle.d3d_model.specs.Regions.{words_of}
use Rattle.d3d_model.specs.ReplyText.{reply_at, none_pending}
use Rattle.histogram_log.specs.Histogram.{histogram, is_poll}
use Rattle.histogram_log.specs.Logged.{issued_calls}
use Rattle.player.specs.declared.status.Status.{Status}
use Rattle.player.specs.declared.status.Status.TheVariants.{Done, WriteFault, NoMemory}

-- what in-order Direct3D says of the last call of a log
abbrev pub last_reply : List Issued → Option Reply
last_reply log = reply_at log none_pending (length log)

-- the bytes that a reply reads back
abbrev pub read_back : Option Reply → List ℕ
read_back (Some (replies.Bytes n bytes)) = bytes
read_back _ = []

-- the sum of the words that the last call reads back
abbrev pub last_sum : List Issued → ℕ
last_sum log = sum (words_of (read_back (last_reply log)))

abbrev pub summary_line : (rounds calls polls sum : ℕ) → List ℕ
summary_line rounds calls polls sum =
    codes "gen "
    ++ (decimal rounds ++
    (codes " calls " ++
    (decimal calls ++ (codes " polls " ++ (decimal polls ++ (codes " sum " ++ (decimal sum ++ 10 ∷ [])))))))

-- the line on the generated log of n rounds
abbrev pub summary : ℕ → List ℕ
summary n =
    summary_line n (length (histogram n)) (count_by is_poll (histogram n)) (last_sum (issued_calls (histogram n)))

-- what came of it: the line was written, or a front of it, or memory ran out before
abbrev pub IsGenerated : ℕ → Option (List ℕ) → Status → Option (List ℕ) → Type 0
IsGenerated n old Done new = Appends old (summary n) new
IsGenerated n old WriteFault new = AppendsFront old (summary n) new
IsGenerated n old NoMemory new = Appends old [] new
IsGenerated n old _ new = ⊥
