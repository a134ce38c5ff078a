use Rattle.std.proofs.Common.{◌≡◌, ℕ, ◌+◌, ◌*◌, ◌/◌, ◌%◌, ◌==◌, List, [], ◌∷◌, length, take, get_or, cond, refl, sym}
use Rattle.std.proofs.Common.{ap, ◌∙◌, arith}
use Rattle.std.proofs.Math.Nat.{mod-lt}
use Rattle.std.proofs.lemmas.List.{length-take, get_or-take}
use Rattle.vk_types.specs.Memory.{range, byte_of, byte_in, byte_in_words, number_at}
use Rattle.d3d_model.specs.Regions.{put, filled, slice, spelled}
use Rattle.d3d_model.proofs.Sized.{length-put, length-filled}
use Rattle.core_model.specs.Script.{padded}
use Rattle.log_script.proofs.Meant.ByteLists.{number_is, filled_at, padded_is, length-slice, slice_at, length-spelled}
use Rattle.log_script.proofs.Meant.ByteLists.{spelled_at}
use Rattle.log_script.proofs.Meant.Showing.{shows_put, shows_whole, shows_repeated, byte_there, word_at_place}
use Rattle.log_script.proofs.Meant.Showing.{bytes_read, words_read, result_is}
use Rattle.log_script.proofs.bytes.lists_and_memory_agree.Goals as goal

pub returns-clause-writes : goal.returns-clause-writes
returns-clause-writes c = λ m b from old piece shows room.
    shows_put m b from (from + length piece) (number_at piece) old piece shows refl room (λ k h. number_is piece k)

pub returns-clause-creates : goal.returns-clause-creates
returns-clause-creates c = λ m b size piece fits.
    shows_whole m b size (number_at piece) (filled size piece) (length-filled size piece) (λ k h. number_is piece k
    ∙ sym (filled_at size piece fits k))

pub returns-clause-discards : goal.returns-clause-discards
returns-clause-discards c = λ m b from size piece fits.
    shows_whole m b size (number_at (padded from piece size)) (put (filled size []) from piece)
    (length-put (filled size []) from piece ∙ length-filled size []) (λ k h.
    number_is (padded from piece size) k ∙ ap (λ (l : List ℕ). get_or l k 0) (sym (padded_is from size piece fits)))

pub returns-clause-reads : goal.returns-clause-reads
returns-clause-reads c = λ m b from to bytes shows order room. bytes_read m b from to bytes shows order room

pub returns-clause-words : goal.returns-clause-words
returns-clause-words c = λ m b from to bytes shows order room. words_read m b from to bytes shows order room

pub returns-clause-word : goal.returns-clause-word
returns-clause-word c = λ m b offset bytes shows room. word_at_place m b offset (offset + 4) bytes shows room 0
    offset (omega arith) (omega arith)

pub returns-clause-counts : goal.returns-clause-counts
returns-clause-counts c = λ m b offset bytes shows room. (
  word_at_place m b offset (offset + 12) bytes shows room 0 offset (omega arith) (omega arith),
  word_at_place m b offset (offset + 12) bytes shows room 1 (offset + 4) (omega arith) (omega arith),
  word_at_place m b offset (offset + 12) bytes shows room 2 (offset + 8) (omega arith) (omega arith),
)

pub returns-clause-copies : goal.returns-clause-copies
returns-clause-copies c = λ m s t from to len source target shows there room fits.
    let long : length (slice source from (from + len)) ≡ len =
    length-slice source from (from + len) (omega arith) room ∙ omega arith in
    shows_put m t to (to + len) (byte_of m (range s from (from + len))) target (slice source from (from + len))
    there (ap (λ (n : ℕ). to + n) (sym long)) fits (λ k h.
    byte_there m s from (from + len) source shows room k (omega (arith, h, long))
    ∙ sym (slice_at source from (from + len) k (omega (arith, h, long))))

pub returns-clause-stores : goal.returns-clause-stores
returns-clause-stores c = λ m b from old words shows room.
    let long = length-spelled words in
    shows_put m b from (from + 4 * length words) (byte_in_words words) old (spelled words) shows
    (ap (λ (n : ℕ). from + n) (sym long)) room (λ k h.
    ap (λ (w : ℕ). byte_in w (k % 4)) (number_is words (k / 4)) ∙ sym (spelled_at words k (omega (arith, h, long))))

pub returns-clause-fills : goal.returns-clause-fills
returns-clause-fills c = λ m b from n word old shows room.
    shows_repeated m b from (from + 4 * n) (λ k. byte_in word (k % 4)) old n (word ∷ []) shows (omega arith) room
    (λ k h.
    let only : 0 ≡ k / 4 % 1 = omega arith in
    ap (λ (j : ℕ). byte_in (get_or (word ∷ []) j 0) (k % 4)) only)

pub returns-clause-clears : goal.returns-clause-clears
returns-clause-clears c = λ m b from n unit v0 v1 v2 v3 old shows some most room.
    let values : List ℕ = v0 ∷ v1 ∷ v2 ∷ v3 ∷ [] in
    let long : length (take unit values) ≡ unit = omega (arith, length-take unit values, most) in
    let end : 4 * unit * n ≡ 4 * (n * length (take unit values)) = omega arith
    ∙ ap (λ (j : ℕ). 4 * (n * j)) (sym long) in
    shows_repeated m b from (from + 4 * unit * n) (λ k. byte_in (number_at values (k / 4 % unit)) (k % 4)) old n
    (take unit values) shows (ap (λ (j : ℕ). from + j) end) room (λ k h.
    ap (λ (w : ℕ). byte_in w (k % 4)) (number_is values (k / 4 % unit)
    ∙ sym (get_or-take unit values (k / 4 % unit) 0 (mod-lt (k / 4) some)))
    ∙ ap (λ (j : ℕ). byte_in (get_or (take unit values) (k / 4 % j) 0) (k % 4)) (sym long))

pub returns-clause-skips : goal.returns-clause-skips
returns-clause-skips c = λ m b offset value bytes shows room.
    ap (λ (w : ℕ). cond (w == 0) 0 1 == value) (word_at_place m b offset (offset + 4) bytes shows room 0 offset
    (omega arith) (omega arith))
    ∙ ap (λ (r : ℕ). r == value) (result_is _)
