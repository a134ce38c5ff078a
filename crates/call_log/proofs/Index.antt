-- The index of a log's records, as it grows.
use Rattle.std.proofs.Common.{◌≡◌, ℕ, zero, suc, ◌+◌, ◌-◌, ◌*◌, ◌<◌, ◌≤◌, ◌⊎◌, List, [], ◌∷◌, ◌++◌, length, get_or, drop, All, Some, sym, ap, subst, ◌∙◌, append_assoc, arith, inl, inr}
use Rattle.std.specs.List.{flat_map, AllByRecursion, slice_get}
use Rattle.std.specs.Option.{option_map}
use Rattle.std.proofs.lemmas.List.{length-append, length-drop, length-map, drop-drop, map_push, append-nil, take-append-le, get_or_append_left, get_or_push}
use Rattle.std.proofs.Math.Seq.{take-append_seam}
use Rattle.std.proofs.lemmas.List.Concat.{flat_map-append}
use Rattle.std.proofs.lemmas.List.Elements.{All-push}
use Rattle.std.proofs.lemmas.Option.{slice_get-map, slice_get-get_or}
use Rattle.call_log.specs.declared.fault.LogFault.{LogFault}
use Rattle.call_log.specs.declared.fault.Head.TheVariants.{Broken}
use Rattle.call_log.specs.Grammar.{Frame, IsFrame, IsLog, IsFault, IsWhole, spell, header, end_record, head_at, length_of, frame_at, frames_at, frame_no, start_behind}
use Rattle.call_log.proofs.Frames.{IsBytes, IsBytes-drop, spelled_front, front_frame}

pub AllByRecursion-push : {X : Type 0} (P : X → Type 0) (xs : List X) (x : X) → AllByRecursion P xs → P x → AllByRecursion P (xs ++ x ∷ [])
AllByRecursion-push P [] x all p = (p, tt)
AllByRecursion-push P (y ∷ xs) x all p = (all.0, AllByRecursion-push P xs x all.1 p)

-- the records that start before a place are these
pub record ReadsTo (bytes starts : List ℕ) (at : ℕ) : Type 0 where
  pub place : 8 ≤ at
  pub within : at ≤ length bytes
  pub count : 8 * length starts + 8 ≤ at
  pub spelled : bytes ≡ header ++ (flat_map spell (frames_at bytes starts) ++ drop at bytes)
  pub each : AllByRecursion IsFrame (frames_at bytes starts)
  pub places : All (λ p. p ≤ length bytes) starts
  pub whole : All (λ p. IsWhole (drop p bytes)) starts
  pub placed : (n d : ℕ) → n < length starts → get_or starts n d ≡ start_behind (frames_at bytes starts) n

-- where the next record begins
pub reads_place : (bytes starts : List ℕ) (at : ℕ) → ReadsTo bytes starts at → 8 + length (flat_map spell (frames_at bytes starts)) ≡ at
reads_place bytes starts at r =
    omega (arith, ap length r.spelled, length-append (flat_map spell (frames_at bytes starts)) (drop at bytes), length-drop at bytes, r.place, r.within)

pub reads_fault : (bytes starts : List ℕ) (at : ℕ) (f : LogFault) → ReadsTo bytes starts at → head_at at (drop at bytes) ≡ Broken f → IsFault bytes f
reads_fault bytes starts at f r e = inr (record {
  frames = frames_at bytes starts;
  rest = drop at bytes;
  spelled = r.spelled;
  each = r.each;
  broken = ap (λ (p : ℕ). head_at p (drop at bytes)) (reads_place bytes starts at r) ∙ e;
})

pub reads_end : (bytes starts : List ℕ) (at : ℕ) → ReadsTo bytes starts at → drop at bytes ≡ end_record → IsLog bytes (frames_at bytes starts)
reads_end bytes starts at r e = record {
  spelled = r.spelled ∙ ap (λ (t : List ℕ). header ++ (flat_map spell (frames_at bytes starts) ++ t)) e;
  each = r.each;
}

-- one record more leaves where the earlier ones begin
start_before : (fs : List Frame) (f : Frame) (n : ℕ) → n ≤ length fs → start_behind (fs ++ f ∷ []) n ≡ start_behind fs n
start_before fs f n le = ap (λ (l : List Frame). 8 + length (flat_map spell l)) (take-append-le n fs (f ∷ []) le)

start_last : (fs : List Frame) (f : Frame) (n : ℕ) → n ≡ length fs → start_behind (fs ++ f ∷ []) n ≡ 8 + length (flat_map spell fs)
start_last fs f n e =
    ap (λ (k : ℕ). start_behind (fs ++ f ∷ []) k) e ∙ ap (λ (l : List Frame). 8 + length (flat_map spell l)) (take-append_seam fs (f ∷ []))

placed_more : (bytes starts : List ℕ) (at : ℕ) → ReadsTo bytes starts at → (n d : ℕ) → n < length (starts ++ at ∷ []) → (n < length starts) ⊎ (length starts ≡ n)
    → get_or (starts ++ at ∷ []) n d ≡ start_behind (frames_at bytes starts ++ frame_at (drop at bytes) ∷ []) n
placed_more bytes starts at r n d lt (inl less) =
    let count : length (frames_at bytes starts) ≡ length starts = length-map starts (λ p. frame_at (drop p bytes)) in
    get_or_append_left starts (at ∷ []) d n less ∙ r.placed n d less ∙ sym (start_before (frames_at bytes starts) (frame_at (drop at bytes)) n (omega arith))
placed_more bytes starts at r n d lt (inr last) =
    let count : length (frames_at bytes starts) ≡ length starts = length-map starts (λ p. frame_at (drop p bytes)) in
    get_or_push starts at d n last ∙ sym (reads_place bytes starts at r) ∙ sym (start_last (frames_at bytes starts) (frame_at (drop at bytes)) n (omega arith))

either : (n m : ℕ) → n < m + 1 → (n < m) ⊎ (m ≡ n)
either n m lt = grind arith

pub reads_more : (bytes starts : List ℕ) (at : ℕ) → IsBytes bytes → ReadsTo bytes starts at → IsWhole (drop at bytes) → ReadsTo bytes (starts ++ at ∷ []) (at + (8 + length_of (drop at bytes)))
reads_more bytes starts at fits r w =
    let rest : List ℕ = drop at bytes in
    let next : ℕ = 8 + length_of rest in
    let frames : frames_at bytes (starts ++ at ∷ []) ≡ frames_at bytes starts ++ frame_at rest ∷ [] = map_push (λ p. frame_at (drop p bytes)) starts at in
    let front : rest ≡ spell (frame_at rest) ++ drop next rest = spelled_front rest (IsBytes-drop at bytes fits) w in
    let behind : drop next rest ≡ drop (at + next) bytes = drop-drop next at bytes in
    let texts : flat_map spell (frames_at bytes (starts ++ at ∷ [])) ≡ flat_map spell (frames_at bytes starts) ++ spell (frame_at rest) =
    ap (flat_map spell) frames ∙ flat_map-append spell (frames_at bytes starts) (frame_at rest ∷ []) ∙ ap (λ (t : List ℕ). flat_map spell (frames_at bytes starts) ++ t) (append-nil (spell (frame_at rest))) in
    record {
      place = omega (arith, r.place);
      within = omega (arith, w.room, length-drop at bytes, r.within);
      count = omega (arith, r.count, length-append starts (at ∷ []));
      spelled =
          r.spelled
          ∙ ap (λ (t : List ℕ). header ++ (flat_map spell (frames_at bytes starts) ++ t)) (front ∙ ap (λ (t : List ℕ). spell (frame_at rest) ++ t) behind)
          ∙ ap (λ (t : List ℕ). header ++ t) (sym (append_assoc (flat_map spell (frames_at bytes starts)) (spell (frame_at rest)) (drop (at + next) bytes)))
          ∙ ap (λ (t : List ℕ). header ++ (t ++ drop (at + next) bytes)) (sym texts);
      each = subst (AllByRecursion IsFrame) (sym frames) (AllByRecursion-push IsFrame (frames_at bytes starts) (frame_at rest) r.each (front_frame rest (IsBytes-drop at bytes fits) w));
      places = All-push (λ p. p ≤ length bytes) starts at r.places r.within;
      whole = All-push (λ p. IsWhole (drop p bytes)) starts at r.whole w;
      placed = λ (n d : ℕ) lt.
          placed_more bytes starts at r n d lt (either n (length starts) (omega (arith, lt, length-append starts (at ∷ []))))
          ∙ ap (λ (fs : List Frame). start_behind fs n) (sym frames);
    }

pub frame_no-at : (bytes starts : List ℕ) (n s : ℕ) (frame : Frame) → 0 < n → n - 1 < length starts → s ≡ get_or starts (n - 1) s → frame ≡ frame_at (drop s bytes)
    → Some frame ≡ frame_no (frames_at bytes starts) n
frame_no-at bytes starts zero s frame pos lt is e = absurd (omega arith)
frame_no-at bytes starts (suc n) s frame pos lt is e =
    let k : suc n - 1 ≡ n = omega arith in
    let inside : n < length starts = omega (arith, lt) in
    let there : slice_get starts n ≡ Some s = slice_get-get_or starts n s inside ∙ ap (λ (x : ℕ). Some x) (ap (λ (j : ℕ). get_or starts j s) (sym k) ∙ sym is) in
    ap (λ (f : Frame). Some f) e ∙ sym (slice_get-map (λ p. frame_at (drop p bytes)) starts n ∙ ap (option_map (λ p. frame_at (drop p bytes))) there)
