-- Clears and maps: what Direct3D does to a buffer, the play does to the memory in order.
use Rattle.std.proofs.Common.{◌≡◌, ℕ, ◌+◌, ◌*◌, ◌/◌, ◌%◌, ◌<◌, ◌≤◌, ◌==◌, true, false, List, [], ◌∷◌, ◌++◌, length}
use Rattle.std.proofs.Common.{take, get_or, Option, Some, None, refl, sym, ap, ◌∙◌, subst, arith}
use Rattle.std.specs.Prelude.{if◌then◌else◌}
use Rattle.std.proofs.Math.Nat.{mod-lt}
use Rattle.std.proofs.lemmas.Bool.{le-leb, eqb-true}
use Rattle.std.proofs.lemmas.List.{append-nil, length-take, get_or-take, drop_all}
use Rattle.dx_types.specs.declared.range.Range.{Range}
use Rattle.dx_types.specs.declared.shape.Shape.{Shape}
use Rattle.dx_types.specs.declared.shape.ViewShape.{ViewShape}
use Rattle.dx_types.specs.declared.shape.Form.{Form}
use Rattle.dx_types.specs.declared.shape.Form.TheVariants.{Raw, Structured, Typed}
use Rattle.vk_types.specs.declared.command.Work.TheVariants as work
use Rattle.vk_types.specs.Memory.{Memory as Bytes, range, put, byte_in, number_at}
use Rattle.vk_types.specs.Effects.{Meaning, work_effect, work_count}
use Rattle.base_lemmas.specs.IdMap.{IdMap, get}
use Rattle.d3d_model.specs.Regions as lists
use Rattle.d3d_model.specs.Regions.{filled, spelled, repeated}
use Rattle.d3d_model.specs.View.{view_range, view_end}
use Rattle.d3d_model.specs.Binding as binding
use Rattle.d3d_model.specs.Binding.{BoundView, Predicate}
use Rattle.d3d_model.specs.D3dState.{Objects, Memory, Query, bytes_of, buffer_of}
use Rattle.d3d_model.specs.Past.{Past}
use Rattle.d3d_model.specs.Memory.{write, write_if, discarded, element, elements, cleared, is_skipped, unless_skipped}
use Rattle.base_lemmas.proofs.Maps.{get_same}
use Rattle.d3d_model.proofs.Sized.{Sized, length-put, length-filled, put_fits, same_write}
use Rattle.core_model.specs.Script.{Play, Script, InOrder, Discard, No_overwrite, put_bytes, padded, play_in_order}
use Rattle.log_script.specs.Makers.{maker, bytes_from}
use Rattle.log_script.specs.Showing.{Shows}
use Rattle.log_script.specs.Plays.{clear_words, clear, clears, staged, maps}
use Rattle.log_script.specs.Fitting.{LivesAndFits, WordFits}
use Rattle.log_script.proofs.Meant.ByteLists.{number_is, padded_is}
use Rattle.log_script.proofs.Meant.Showing.{shows_whole, shows_repeated}
use Rattle.log_script.proofs.Meant.AgreeingWrites.{Settled, Elsewhere, held, bytes_are, put_elsewhere, shown_write}
use Rattle.log_script.proofs.Meant.AgreeingWrites.{then_counts, write_counts, Alike, alike_bytes}
use Rattle.log_script.proofs.Meant.AgreeingCommands.{predicated_alike, written_alike, staged_alike}

-- a view's elements are whole words
pub record WholeWords (v : ViewShape) : Type 0 where
  pub words : v.unit ≡ 4 * (v.unit / 4)
  pub raw : v.form ≡ Raw → v.unit ≡ 4
  pub some : 0 < v.unit / 4
  pub most : v.form ≡ Typed → v.unit / 4 ≤ 4

module _ (meaning : Meaning) (script : Script) (past : Past) (o : Objects) (queries : IdMap Query) (m : Memory)
    (w : InOrder) (settled : Settled script past o)
    (sized : Sized o m) (alike : Alike past queries m w) where
  -- ---- clears

  -- words that are said over and over
  repeated_alike : (res from to : ℕ) (s : Shape) → buffer_of o res ≡ Some s → to ≤ s.size
      → (f : ℕ → ℕ) (n : ℕ) (l : List ℕ) → to ≡ from + 4 * (n * length l)
      → ((k : ℕ) → k < 4 * (n * length l) → f k ≡ byte_in (get_or l (k / 4 % length l) 0) (k % 4))
      → Alike past queries (write m res from (spelled (repeated n l)))
      (record w { bytes = put (range (maker past res) from to) f w.bytes; total = w.total + 0 })
  repeated_alike res from to s lives fits f n l end same =
      let h = held o m sized res s lives in
      let piece : List ℕ = spelled (repeated n l) in
      let mem' : Bytes = put (range (maker past res) from to) f w.bytes in
      let here : Shows mem' (maker past res) (lists.put h.bytes from piece) =
      shows_repeated w.bytes (maker past res) from to f h.bytes n l (alike.shown res h.bytes h.found) end
      (omega (arith, fits, h.long)) same in
      alike_bytes past queries m (write m res from piece) w mem' (w.total + 0) alike (write_counts m res from piece)
      (shown_write script past o m settled sized res from piece h.bytes w.bytes mem' h.found here
      (put_elsewhere (maker past res) from to f w.bytes) alike.shown) (omega arith)

  module _ (res from to : ℕ) (s : Shape) (lives : buffer_of o res ≡ Some s) (fits : to ≤ s.size) (v0 v1 v2 v3 : ℕ) where
    abbrev values : List ℕ
    values = v0 ∷ v1 ∷ v2 ∷ v3 ∷ []

    abbrev place : Range
    place = range (maker past res) from to

    filled_alike : (n : ℕ) → to ≡ from + 4 * n
        → Alike past queries (write m res from (spelled (repeated n (take 1 values))))
        (record w { bytes = work_effect meaning (work.Fill place v0) w.bytes; total = w.total + 0 })
    filled_alike n end = repeated_alike res from to s lives fits (λ k. byte_in v0 (k % 4)) n (v0 ∷ [])
        (omega (arith, end)) (λ k h.
        let only : 0 ≡ k / 4 % 1 = omega arith in
        ap (λ (j : ℕ). byte_in (get_or (v0 ∷ []) j 0) (k % 4)) only)

    -- elements of so many words
    typed_alike : (unit : ℕ) → 0 < unit → unit ≤ 4 → (n : ℕ) → to ≡ from + 4 * (n * unit)
        → Alike past queries (write m res from (spelled (repeated n (take unit values))))
        (record w {
          bytes = work_effect meaning (if unit == 1 then work.Fill place v0 else work.Clear place values unit) w.bytes;
          total = w.total + work_count meaning (if unit == 1 then work.Fill place v0 else work.Clear place values
              unit) w.bytes;
        })
    typed_alike unit some most n end =
        elim (unit == 1) as (λ b. (unit == 1) ≡ b → Alike past queries
        (write m res from (spelled (repeated n (take unit values))))
        (record w {
          bytes = work_effect meaning (if b then work.Fill place v0 else work.Clear place values unit) w.bytes;
          total = w.total + work_count meaning (if b then work.Fill place v0 else work.Clear place values unit) w.bytes;
        })) [
          | true ↦ λ e.
              let one : unit ≡ 1 = eqb-true unit 1 e in
              subst (λ (u : ℕ). Alike past queries (write m res from (spelled (repeated n (take u values))))
              (record w { bytes = work_effect meaning (work.Fill place v0) w.bytes; total = w.total + 0 }))
              (sym one) (filled_alike n (end ∙ ap (λ (u : ℕ). from + 4 * (n * u)) one ∙ omega arith))
          | false ↦ λ e.
              let long : length (take unit values) ≡ unit = omega (arith, length-take unit values, most) in
              repeated_alike res from to s lives fits (λ k. byte_in (number_at values (k / 4 % unit)) (k % 4)) n
              (take unit values) (end ∙ ap (λ (j : ℕ). from + 4 * (n * j)) (sym long)) (λ k h.
              ap (λ (x : ℕ). byte_in x (k % 4)) (number_is values (k / 4 % unit)
              ∙ sym (get_or-take unit values (k / 4 % unit) 0 (mod-lt (k / 4) some)))
              ∙ ap (λ (j : ℕ). byte_in (get_or (take unit values) (k / 4 % j) 0) (k % 4)) (sym long))
        ] refl

    cleared_by : (form : Form) (v : ViewShape) → to ≡ from + v.count * v.unit → v.unit ≡ 4 * (v.unit / 4)
        → (form ≡ Raw → v.unit ≡ 4) → 0 < v.unit / 4 → (form ≡ Typed → v.unit / 4 ≤ 4)
        → Alike past queries (write m res from (spelled (repeated (elements form v) (element form v.unit values))))
        (record w {
          bytes = work_effect meaning (if clear_words form v.unit == 1 then work.Fill place v0 else work.Clear place
              values (clear_words form v.unit)) w.bytes;
          total = w.total + work_count meaning (if clear_words form v.unit == 1 then work.Fill place v0 else
              work.Clear place values (clear_words form v.unit)) w.bytes;
        })
    cleared_by Raw v end words raw some most = filled_alike v.count (end
        ∙ ap (λ (u : ℕ). from + v.count * u) (raw refl) ∙ omega arith)
    cleared_by Structured v end words raw some most = filled_alike (v.count * (v.unit / 4)) (end
        ∙ ap (λ (u : ℕ). from + v.count * u) words ∙ four v.count (v.unit / 4))
      where
        four : (a b : ℕ) → from + a * (4 * b) ≡ from + 4 * (a * b)
        four a b = omega arith
    cleared_by Typed v end words raw some most = typed_alike (v.unit / 4) some (most refl) v.count (end
        ∙ ap (λ (u : ℕ). from + v.count * u) words ∙ four v.count (v.unit / 4))
      where
        four : (a b : ℕ) → from + a * (4 * b) ≡ from + 4 * (a * b)
        four a b = omega arith

  pub clears_alike : (p : Predicate) → WordFits o p → (v : Option BoundView) (v0 v1 v2 v3 : ℕ)
      → ((b : BoundView) → v ≡ Some b → LivesAndFits o (view_range b.shape) × WholeWords b.shape)
      → Alike past queries (unless_skipped m p (cleared m v (v0 ∷ v1 ∷ v2 ∷ v3 ∷ [])))
      (play_in_order meaning script (clears past p v v0 v1 v2 v3) w)
  clears_alike p word None v0 v1 v2 v3 known = elim (is_skipped m p) as
      (λ t. Alike past queries (if t then m else m) w) [ true ↦ alike | false ↦ alike ]
  clears_alike p word (Some b) v0 v1 v2 v3 known =
      let v : ViewShape = b.shape in
      let f = (known b refl).0 in
      let k = (known b refl).1 in
      predicated_alike meaning script past o queries m w settled sized alike p word (clear past v v0 v1 v2 v3)
      (cleared m (Some b) (v0 ∷ v1 ∷ v2 ∷ v3 ∷ []))
      (cleared_by v.res (v.first * v.unit) (view_end v) f.shape f.lives f.fits v0 v1 v2 v3 v.form v (omega arith)
      k.words k.raw k.some k.most)

  -- ---- maps

  put_whole : (old new : List ℕ) → length new ≡ length old → lists.put old 0 new ≡ new
  put_whole old new long =
      put_fits old 0 new (le-leb (0 + length new) (length old) (omega (arith, long)))
      ∙ ap (λ (l : List ℕ). new ++ l) (drop_all (0 + length new) old (omega (arith, long)))
      ∙ append-nil new

  discard_alike : (res offset : ℕ) (piece : List ℕ) (s : Shape) → buffer_of o res ≡ Some s
      → offset + length piece ≤ s.size
      → Alike past queries (discarded m res offset piece) (play_in_order meaning script
      (Discard (maker past res) offset piece) w)
  discard_alike res offset piece s lives fits =
      let h = held o m sized res s lives in
      let name : ℕ = maker past res in
      let zeros : List ℕ = filled (length (bytes_of m res)) [] in
      let are : length (bytes_of m res) ≡ s.size = ap (λ (l : List ℕ). length l) (bytes_are m res h.bytes h.found)
      ∙ h.long in
      let m1 : Memory = write m res 0 zeros in
      let many : length zeros ≡ s.size = length-filled (length (bytes_of m res)) [] ∙ are in
      let first = written_alike meaning script past o queries m w settled sized alike res 0 zeros s lives
      (omega (arith, many)) w.total refl in
      let mem1 : Bytes = put_bytes (range name 0 (0 + length zeros)) zeros w.bytes in
      let now : lists.put h.bytes 0 zeros ≡ filled s.size [] = put_whole h.bytes zeros (many ∙ sym h.long)
      ∙ ap (λ (n : ℕ). filled n []) are in
      let found : get m1.bytes res ≡ Some (filled s.size []) =
      ap (λ (p : Option (List ℕ)). get (write_if p m res 0 zeros).bytes res) h.found
      ∙ get_same m.bytes res (lists.put h.bytes 0 zeros) ∙ ap (λ (l : List ℕ). Some l) now in
      let size : script.size name ≡ s.size = settled.sizes res s lives in
      let mem' : Bytes = put_bytes (range name 0 s.size) (padded offset piece s.size) w.bytes in
      let here : Shows mem' name (lists.put (filled s.size []) offset piece) =
      shows_whole w.bytes name s.size (number_at (padded offset piece s.size))
      (lists.put (filled s.size []) offset piece) (length-put (filled s.size []) offset piece
      ∙ length-filled s.size []) (λ k l.
      number_is (padded offset piece s.size) k ∙ ap (λ (l : List ℕ). get_or l k 0)
      (sym (padded_is offset s.size piece fits))) in
      let there : Elsewhere name mem1 mem' = λ b i apart.
      put_elsewhere name 0 s.size (number_at (padded offset piece s.size)) w.bytes b i apart
      ∙ sym (put_elsewhere name 0 (0 + length zeros) (number_at zeros) w.bytes b i apart) in
      subst (λ (n : ℕ). Alike past queries (discarded m res offset piece)
      (record w { bytes = put_bytes (range name 0 n) (padded offset piece n) w.bytes })) (sym size)
      (alike_bytes past queries m (discarded m res offset piece) w mem' w.total alike
      (then_counts m m1 (discarded m res offset piece) (write_counts m res 0 zeros) (write_counts m1 res offset piece))
      (shown_write script past o m1 settled (λ id. same_write m res 0 zeros id
      ∙ sized id) res offset piece (filled s.size []) mem1 mem' found here there first.shown) refl)

  pub maps_alike : (res mode offset : ℕ) (piece : List ℕ) (s : Shape) → buffer_of o res ≡ Some s
      → offset + length piece ≤ s.size
      → Alike past queries (if mode == 0 then discarded m res offset piece else write m res offset piece)
      (play_in_order meaning script (maps past res mode offset piece) w)
  maps_alike res mode offset piece s lives fits =
      let stages : Play = staged past binding.Never piece (bytes_from past res offset (length piece)) in
      elim (mode == 0) as
      (λ b. Alike past queries (if b then discarded m res offset piece else write m res offset piece)
      (play_in_order meaning script (if b then Discard (maker past res) offset piece else if mode == 1 then
      No_overwrite (maker past res) offset piece else stages) w)) [
        | true ↦ discard_alike res offset piece s lives fits
        | false ↦ elim (mode == 1) as (λ b. Alike past queries (write m res offset piece)
            (play_in_order meaning script (if b then No_overwrite (maker past res) offset piece else stages) w)) [
              | true ↦ written_alike meaning script past o queries m w settled sized alike res offset piece s lives
                  fits w.total refl
              | false ↦ staged_alike meaning script past o queries m w settled sized alike binding.Never tt res
                  offset piece (λ some. record { shape = s; lives = lives; fits = fits })
            ]
      ]
