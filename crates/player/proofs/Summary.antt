-- The line on the generated log, by its parts.
use Rattle.std.proofs.Common.{◌≡◌, ℕ, List, length, ap, ◌∙◌}
use Rattle.std.specs.List.{count_by}
use Rattle.std.proofs.lemmas.List.{length-map}
use Rattle.call_log.specs.Grammar.{Frame, calls_of}
use Rattle.call_log.specs.Put.{frame_of}
use Rattle.histogram_log.specs.Histogram.{histogram, is_poll}
use Rattle.histogram_log.specs.Logged.{frames, issued_calls}
use Rattle.histogram_log.proofs.Calls.{histogram_spelt}
use Rattle.histogram_log.proofs.Logs.{calls_back}
use Rattle.player.specs.Generated.{last_sum, summary_line, summary}

pub summary_is : (n calls polls sum : ℕ) (fs : List Frame) → fs ≡ frames (histogram n) → calls ≡ length fs
    → polls ≡ count_by is_poll (histogram n) → sum ≡ last_sum (calls_of fs) → summary_line n calls polls sum ≡ summary n
summary_is n calls polls sum fs e f g h =
    let count : calls ≡ length (histogram n) = f ∙ ap (λ (l : List Frame). length l) e
    ∙ length-map (histogram n) (frame_of 0) in
    let total : sum ≡ last_sum (issued_calls (histogram n)) = h ∙ ap (λ (l : List Frame). last_sum (calls_of l)) e
    ∙ ap last_sum (calls_back (histogram n) (histogram_spelt n)) in
    ap (λ (k : ℕ). summary_line n k polls sum) count
    ∙ ap (λ (k : ℕ). summary_line n (length (histogram n)) k sum) g
    ∙ ap (λ (k : ℕ). summary_line n (length (histogram n)) (count_by is_poll (histogram n)) k) total
