-- Predicated commands, copies and staged bytes: what Direct3D does to its buffers, the play does to the memory in
-- order.
use Rattle.std.proofs.Common.{◌≡◌, ℕ, ◌+◌, ◌-◌, ◌<◌, ◌≤◌, ◌==◌, Bool, true, false, cond, List, [], ◌∷◌, ◌++◌, length}
use Rattle.std.proofs.Common.{take, drop, get_or, Option, Some, None, refl, sym, ap, ◌∙◌, subst, arith}
use Rattle.std.specs.Prelude.{nat_le, if◌then◌else◌}
use Rattle.std.proofs.lemmas.Bool.{eqb-true}
use Rattle.std.proofs.lemmas.List.{take_all, take-append-drop}
use Rattle.dx_types.specs.declared.shape.Shape.{Shape}
use Rattle.vk_types.specs.declared.command.Work.{Work}
use Rattle.vk_types.specs.declared.command.Work.TheVariants as work
use Rattle.vk_types.specs.Memory.{Memory as Bytes, range, put, byte_of, number_at}
use Rattle.vk_types.specs.Effects as device
use Rattle.vk_types.specs.Effects.{Meaning, work_effect, work_count}
use Rattle.base_lemmas.specs.IdMap.{IdMap, get}
use Rattle.d3d_model.specs.Regions as lists
use Rattle.d3d_model.specs.Regions.{slice, word_at}
use Rattle.d3d_model.specs.Resource.{size_of}
use Rattle.d3d_model.specs.Binding as binding
use Rattle.d3d_model.specs.Binding.{Predicate}
use Rattle.d3d_model.specs.D3dState.{Objects, Memory, Query, bytes_of, buffer_of}
use Rattle.d3d_model.specs.Past.{Past}
use Rattle.d3d_model.specs.Memory.{write, write_if, copied, result_of_word, is_skipped, unless_skipped}
use Rattle.d3d_model.proofs.Sized.{Sized}
use Rattle.core_model.specs.Script.{Script, InOrder, Set_state, Stage, Command, put_bytes, play_in_order}
use Rattle.log_script.specs.Makers.{maker, bytes_from}
use Rattle.log_script.specs.Showing.{Shows}
use Rattle.log_script.specs.Plays.{condition, predicated, staged, copies, whole}
use Rattle.log_script.specs.Fitting.{WordFits}
use Rattle.log_script.proofs.Owed.FittingCalls.{positive}
use Rattle.log_script.proofs.Meant.ByteLists.{number_is, length-slice, slice_at}
use Rattle.log_script.proofs.Meant.Showing.{shows_put, byte_there, word_at_place, result_is}
use Rattle.log_script.proofs.Meant.AgreeingWrites.{Settled, held, bytes_are, put_elsewhere, shown_insert, own_maker}
use Rattle.log_script.proofs.Meant.AgreeingWrites.{shown_write, write_counts, Alike, alike_bytes}

-- the bytes up to this one lie in a live buffer
pub record Inside (o : Objects) (res end : ℕ) : Type 0 where
  pub shape : Shape
  pub lives : buffer_of o res ≡ Some shape
  pub fits : end ≤ shape.size

put_nothing : (old : List ℕ) (from : ℕ) → lists.put old from [] ≡ old
unfolding lists.put
put_nothing old from =
    let none : from + length {A = ℕ} [] ≡ from = omega arith in
    elim (nat_le (from + length {A = ℕ} []) (length old)) as
    (λ b. (if b then take from old ++ ([] ++ drop (from + length {A = ℕ} []) old) else old) ≡ old) [
      | true ↦ ap (λ (n : ℕ). take from old ++ drop n old) none ∙ take-append-drop from old
      | false ↦ refl
    ]

module _ (meaning : Meaning) (script : Script) (past : Past) (o : Objects) (queries : IdMap Query) (m : Memory)
    (w : InOrder) (settled : Settled script past o)
    (sized : Sized o m) (alike : Alike past queries m w) where
  -- ---- predication

  -- a word of a live buffer skips in order where it skips in Direct3D
  word_skips : (res offset value : ℕ) → WordFits o (binding.Word res offset value)
      → device.is_skipped (condition past (binding.Word res offset value)) w.bytes
      ≡ is_skipped m (binding.Word res offset value)
  word_skips res offset value fits =
      let h = held o m sized res fits.shape fits.lives in
      let room : offset + 4 ≤ length h.bytes = omega (arith, fits.fits, h.long) in
      ap (λ (x : ℕ). cond (x == 0) 0 1 == value) (word_at_place w.bytes (maker past res) offset (offset + 4) h.bytes
      (alike.shown res h.bytes h.found) room 0 offset (omega arith) (omega arith))
      ∙ ap (λ (r : ℕ). r == value) (result_is (word_at h.bytes offset))
      ∙ ap (λ (bs : List ℕ). result_of_word (word_at bs offset) == value) (sym (bytes_are m res h.bytes h.found))

  -- skipped or not, other bytes and more invocations
  by_skip : (bytes : Bytes) (more : ℕ) (after : Memory) → Alike past queries after
      (record w { bytes = bytes; total = w.total + more }) → (skip : Bool)
      → Alike past queries (if skip then m else after) (record w {
        bytes = cond skip w.bytes bytes;
        total =
            w.total + cond skip 0 more;
      })
  by_skip bytes more after h true = alike_bytes past queries m m w w.bytes (w.total + 0) alike
      (record { ran = refl; begun = refl; counts = refl }) alike.shown (omega arith)
  by_skip bytes more after h false = h

  pub predicated_alike : (p : Predicate) → WordFits o p → (c : Work) (after : Memory)
      → Alike past queries after (record w {
        bytes = work_effect meaning c w.bytes;
        total =
            w.total + work_count meaning c w.bytes;
      })
      → Alike past queries (unless_skipped m p after) (play_in_order meaning script (predicated past p c) w)
  predicated_alike binding.Never fits c after h = h
  predicated_alike (binding.Query id value) fits c after h =
      elim (0 == value) as (λ t. Alike past queries (if t then m else after)
      (play_in_order meaning script (if t then Set_state else Command c None) w)) [ true ↦ alike | false ↦ h ]
  predicated_alike (binding.Word res offset value) fits c after h =
      subst (λ (t : Bool). Alike past queries (unless_skipped m (binding.Word res offset value) after)
      (record w {
        bytes = cond t w.bytes (work_effect meaning c w.bytes);
        total =
            w.total + cond t 0 (work_count meaning c w.bytes);
      })) (sym (word_skips res offset value fits))
      (by_skip (work_effect meaning c w.bytes) (work_count meaning c w.bytes) after h
      (is_skipped m (binding.Word res offset value)))

  -- ---- bytes that are staged

  -- a write of a piece
  pub written_alike : (res from : ℕ) (piece : List ℕ) (s : Shape) → buffer_of o res ≡ Some s
      → from + length piece ≤ s.size → (total : ℕ) → total ≡ w.total
      → Alike past queries (write m res from piece) (record w {
        bytes =
            put_bytes (range (maker past res) from (from + length piece)) piece w.bytes;
        total = total;
      })
  written_alike res from piece s lives fits total e =
      let h = held o m sized res s lives in
      let room : from + length piece ≤ length h.bytes = omega (arith, fits, h.long) in
      let mem' : Bytes = put_bytes (range (maker past res) from (from + length piece)) piece w.bytes in
      let here : Shows mem' (maker past res) (lists.put h.bytes from piece) =
      shows_put w.bytes (maker past res) from (from + length piece) (number_at piece) h.bytes piece
      (alike.shown res h.bytes h.found) refl room (λ k l. number_is piece k) in
      alike_bytes past queries m (write m res from piece) w mem' total alike (write_counts m res from piece)
      (shown_write script past o m settled sized res from piece h.bytes w.bytes mem' h.found here
      (put_elsewhere (maker past res) from (from + length piece) (number_at piece) w.bytes) alike.shown) e

  -- a write of nothing changes no byte, wherever it is
  nothing_alike : (res from : ℕ) → Alike past queries (write m res from []) w
  nothing_alike res from = by_bytes (get m.bytes res) refl
    where
      by_bytes : (p : Option (List ℕ)) → get m.bytes res ≡ p → Alike past queries (write_if p m res from []) w
      by_bytes None e = alike
      by_bytes (Some old) e =
          let here : Shows w.bytes (maker past res) (lists.put old from []) =
          subst (λ (l : List ℕ). Shows w.bytes (maker past res) l) (sym (put_nothing old from))
          (alike.shown res old e) in
          alike_bytes past queries m (write_if (Some old) m res from []) w w.bytes w.total alike
          (record { ran = refl; begun = refl; counts = refl })
          (shown_insert past m.bytes res (lists.put old from []) w.bytes w.bytes
          (own_maker script past o m settled sized res old e) here (λ b i apart. refl) alike.shown) refl

  pub staged_alike : (p : Predicate) → WordFits o p → (res from : ℕ) (piece : List ℕ)
      → (0 < length piece → Inside o res (from + length piece))
      → Alike past queries (unless_skipped m p (write m res from piece))
      (play_in_order meaning script (staged past p piece (bytes_from past res from (length piece))) w)
  staged_alike p fits res from [] inside =
      elim (is_skipped m p) as (λ t. Alike past queries (if t then m else write m res from []) w)
      [ true ↦ alike | false ↦ nothing_alike res from ]
  staged_alike binding.Never fits res from (b ∷ bs) inside = let i = inside (omega arith) in
      written_alike res from (b ∷ bs) i.shape i.lives i.fits w.total refl
  staged_alike (binding.Query id value) fits res from (b ∷ bs) inside =
      let i = inside (omega arith) in
      elim (0 == value) as (λ t. Alike past queries (if t then m else write m res from (b ∷ bs))
      (play_in_order meaning script (if t then Stage (b ∷ bs) None None else Stage (b ∷ bs)
      (Some (bytes_from past res from (length (b ∷ bs)))) None) w)) [
        | true ↦ alike
        | false ↦ written_alike res from (b ∷ bs) i.shape i.lives i.fits w.total refl
      ]
  staged_alike (binding.Word q offset value) fits res from (b ∷ bs) inside =
      let i = inside (omega arith) in
      let piece : List ℕ = b ∷ bs in
      let mem' : Bytes = put_bytes (bytes_from past res from (length piece)) piece w.bytes in
      subst (λ (t : Bool). Alike past queries (unless_skipped m (binding.Word q offset value)
      (write m res from piece)) (record w { bytes = cond t w.bytes mem' }))
      (sym (word_skips q offset value fits))
      (elim (is_skipped m (binding.Word q offset value)) as (λ t. Alike past queries
      (if t then m else write m res from piece) (record w { bytes = cond t w.bytes mem' })) [
        | true ↦ alike
        | false ↦ written_alike res from piece i.shape i.lives i.fits w.total refl
      ])

  -- ---- copies

  copy_done : (target to source from len : ℕ) (s t : Shape) → buffer_of o source ≡ Some s
      → buffer_of o target ≡ Some t → from + len ≤ s.size → to + len ≤ t.size
      → (piece : List ℕ) → piece ≡ slice (bytes_of m source) from (from + len)
      → Alike past queries (write m target to piece)
      (record w {
        bytes = put (bytes_from past target to len) (byte_of w.bytes (bytes_from past source from len))
            w.bytes;
        total = w.total + 0;
      })
  copy_done target to source from len s t lives there room fits piece is =
      let a = held o m sized source s lives in
      let b = held o m sized target t there in
      let inside : from + len ≤ length a.bytes = omega (arith, room, a.long) in
      let read : piece ≡ slice a.bytes from (from + len) = is
      ∙ ap (λ (l : List ℕ). slice l from (from + len)) (bytes_are m source a.bytes a.found) in
      let long : length piece ≡ len = ap (λ (l : List ℕ). length l) read
      ∙ length-slice a.bytes from (from + len) (omega arith) inside ∙ omega arith in
      let f : ℕ → ℕ = byte_of w.bytes (bytes_from past source from len) in
      let mem' : Bytes = put (bytes_from past target to len) f w.bytes in
      let here : Shows mem' (maker past target) (lists.put b.bytes to piece) =
      shows_put w.bytes (maker past target) to (to + len) f b.bytes piece (alike.shown target b.bytes b.found)
      (ap (λ (n : ℕ). to + n) (sym long)) (omega (arith, fits, b.long)) (λ k h.
      byte_there w.bytes (maker past source) from (from + len) a.bytes (alike.shown source a.bytes a.found) inside k
      (omega (arith, h, long))
      ∙ sym (slice_at a.bytes from (from + len) k (omega (arith, h, long)))
      ∙ ap (λ (l : List ℕ). get_or l k 0) (sym read)) in
      alike_bytes past queries m (write m target to piece) w mem' (w.total + 0) alike (write_counts m target to piece)
      (shown_write script past o m settled sized target to piece b.bytes w.bytes mem' b.found here
      (put_elsewhere (maker past target) to (to + len) f w.bytes) alike.shown) (omega arith)

  -- a copy of a region
  pub region_alike : (p : Predicate) → WordFits o p → (target to source from len : ℕ)
      → (0 < len → Inside o source (from + len) × Inside o target (to + len))
      → Alike past queries (unless_skipped m p (copied m target to source from len))
      (play_in_order meaning script (copies past p target to source from len) w)
  region_alike p word target to source from len inside =
      elim (len == 0) as (λ b. (len == 0) ≡ b → Alike past queries
      (unless_skipped m p (copied m target to source from len))
      (play_in_order meaning script (if b then Set_state else predicated past p
      (work.Copy (bytes_from past source from len) (bytes_from past target to len))) w)) [
        | true ↦ λ e. elim (is_skipped m p) as (λ t. Alike past queries
            (if t then m else copied m target to source from len) w) [ true ↦ alike | false ↦ none e ]
        | false ↦ λ e. predicated_alike p word (work.Copy (bytes_from past source from len)
            (bytes_from past target to len)) (copied m target to source from len)
            (let i = inside (positive len e) in copy_done target to source from len i.0.shape i.1.shape i.0.lives
            i.1.lives i.0.fits i.1.fits (slice (bytes_of m source) from (from + len)) refl)
      ] refl
    where
      none : (len == 0) ≡ true → Alike past queries (copied m target to source from len) w
      none e =
          let zero : len ≡ 0 = eqb-true len 0 e in
          let short : from + len - from ≡ 0 = omega (arith, zero) in
          let nothing : slice (bytes_of m source) from (from + len) ≡ [] =
          ap (λ (n : ℕ). take n (drop from (bytes_of m source))) short in
          subst (λ (l : List ℕ). Alike past queries (write m target to l) w) (sym nothing) (nothing_alike target to)

  -- a copy of a whole buffer
  pub whole_alike : (p : Predicate) → WordFits o p → (target source : ℕ) (s t : Shape) → buffer_of o source ≡ Some s
      → buffer_of o target ≡ Some t → s.size ≡ t.size
      → Alike past queries (unless_skipped m p (write m target 0 (bytes_of m source)))
      (play_in_order meaning script (predicated past p (work.Copy (whole past o source) (whole past o target))) w)
  whole_alike p word target source s t lives there same =
      let a = held o m sized source s lives in
      let left : size_of (buffer_of o source) ≡ s.size = ap size_of lives in
      let right : size_of (buffer_of o target) ≡ s.size = ap size_of there ∙ sym same in
      let all : bytes_of m source ≡ slice (bytes_of m source) 0 (0 + s.size) =
      sym (take_all (0 + s.size - 0) (bytes_of m source) (omega
      (arith, a.long, ap (λ (l : List ℕ). length l) (bytes_are m source a.bytes a.found)))) in
      subst (λ (n : ℕ). Alike past queries (unless_skipped m p (write m target 0 (bytes_of m source)))
      (play_in_order meaning script
      (predicated past p (work.Copy (bytes_from past source 0 n) (whole past o target))) w)) (sym left)
      (subst (λ (n : ℕ). Alike past queries (unless_skipped m p (write m target 0 (bytes_of m source)))
      (play_in_order meaning script
      (predicated past p (work.Copy (bytes_from past source 0 s.size) (bytes_from past target 0 n))) w))
      (sym right)
      (predicated_alike p word (work.Copy (bytes_from past source 0 s.size) (bytes_from past target 0 s.size))
      (write m target 0 (bytes_of m source))
      (copy_done target 0 source 0 s.size s t lives there (omega arith) (omega (arith, same)) (bytes_of m source) all)))
