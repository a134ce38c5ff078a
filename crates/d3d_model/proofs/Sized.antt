-- Each live buffer has as many bytes as its size says, after each call.
use Rattle.std.proofs.Common.{◌≡◌, ℕ, zero, suc, ◌+◌, ◌*◌, Bool, true, false, cond, List, [], ◌∷◌, ◌++◌, length, take, drop, replicate, Option, Some, None, refl, sym, ap, ◌∙◌, arith, inl, inr}
use Rattle.std.specs.Prelude.{nat_le, slice_get, ◌==◌, if◌then◌else◌}
use Rattle.std.specs.Option.{option_map}
use Rattle.std.specs.Ordering.{nat_cmp, eq_by_cmp}
use Rattle.std.proofs.lemmas.Bool.{cases_eq, leb-true}
use Rattle.std.proofs.lemmas.List.{length-append, length-take, length-drop, length-replicate}
use Rattle.dx_types.specs.declared.refusal.Refusal.{Refusal}
use Rattle.dx_types.specs.declared.shape.Shape.{Shape}
use Rattle.dx_types.specs.declared.range.ResRange.{ResRange}
use Rattle.call_log.specs.Call as calls
use Rattle.call_log.specs.Call.{Call, Issued}
use Rattle.base_lemmas.specs.IdMap.{get, insert, remove}
use Rattle.d3d_model.specs.Regions.{put, filled, slice, spelled}
use Rattle.d3d_model.specs.Resource.{Buffers}
use Rattle.d3d_model.specs.Binding.{Bindings, BoundView, Predicate}
use Rattle.d3d_model.specs.Shader.{Ran, declared_by, ran_dispatch}
use Rattle.d3d_model.specs.D3dState.{Objects, Memory, Numbered, words_set, bindings_of, bytes_of, bound_view, calls_of_list}
use Rattle.d3d_model.specs.Verdict.{Place, OnDevice, OnImmediate, OnEach, OnDeferred, place_of}
use Rattle.d3d_model.specs.Effect.{made_by, destroyed, played, played_all, list_start, executed, recorded_on, effect_at, immediate_effect}
use Rattle.d3d_model.specs.Memory.{uavs_shown, slots_seen, write_if, write, copied, discarded, cleared, pattern, is_skipped, unless_skipped, stored, after_ran, dispatched, counts_at, made, run, run_all, run_at, immediate_run}
use Rattle.d3d_model.specs.InOrder.{State, unless_refused, verdict_in, after_call, after_calls}
use Rattle.base_lemmas.proofs.Maps.{get-empty, get-insert, get-remove, get_same, get_other}

abbrev pub length_at : Memory → ℕ → Option ℕ
length_at m id = option_map (λ (bytes : List ℕ). length bytes) (get m.bytes id)

abbrev pub size_at : Objects → ℕ → Option ℕ
size_at o id = option_map (λ (s : Shape). s.size) (get o.buffers id)

-- the live buffers are those that have bytes, and as many as their sizes say
abbrev pub Sized : Objects → Memory → Type 0
Sized o m = (id : ℕ) → length_at m id ≡ size_at o id

-- the same buffers have bytes, and as many
abbrev pub SameSizes : Memory → Memory → Type 0
SameSizes m m' = (id : ℕ) → length_at m' id ≡ length_at m id

pub length-put : (old : List ℕ) (from : ℕ) (piece : List ℕ) → length (put old from piece) ≡ length old
unfolding put
length-put old from piece =
    elim (nat_le (from + length piece) (length old)) as (λ b. nat_le (from + length piece) (length old) ≡ b → length (if b then take from old ++ (piece ++ drop (from + length piece) old) else old) ≡ length old) [
      | true ↦ λ e. omega (arith, leb-true (from + length piece) (length old) e, length-append (take from old) (piece ++ drop (from + length piece) old), length-append piece (drop (from + length piece) old), length-take from old, length-drop (from + length piece) old)
      | false ↦ λ e. refl
    ] refl

-- where it fits, a put is the bytes before, the piece, and the bytes after
pub put_fits : (old : List ℕ) (from : ℕ) (piece : List ℕ) → nat_le (from + length piece) (length old) ≡ true → put old from piece ≡ take from old ++ (piece ++ drop (from + length piece) old)
unfolding put
put_fits old from piece e = ap (λ b. if b then take from old ++ (piece ++ drop (from + length piece) old) else old) e

pub length-filled : (size : ℕ) (bytes : List ℕ) → length (filled size bytes) ≡ size
unfolding filled
length-filled size bytes = length-put (replicate size 0) 0 bytes ∙ length-replicate {A = ℕ} size 0

-- ---- a write changes no length

same_written : (m : Memory) (res : ℕ) (o : Option (List ℕ)) (from : ℕ) (piece : List ℕ) → get m.bytes res ≡ o → SameSizes m (write_if o m res from piece)
same_written m res None from piece e = λ id. refl
same_written m res (Some old) from piece e = λ id. elim (cases_eq id res) [
  | inl p ↦
      ap (λ (k : ℕ). option_map (λ (l : List ℕ). length l) (get (insert m.bytes res (put old from piece)) k)) p
      ∙ ap (option_map (λ (l : List ℕ). length l)) (get_same m.bytes res (put old from piece))
      ∙ ap Some (length-put old from piece)
      ∙ sym (ap (option_map (λ (l : List ℕ). length l)) e)
      ∙ sym (ap (λ (k : ℕ). option_map (λ (l : List ℕ). length l) (get m.bytes k)) p)
  | inr apart ↦ ap (option_map (λ (l : List ℕ). length l)) (get_other m.bytes res (put old from piece) id apart)
]

pub same_write : (m : Memory) (res from : ℕ) (piece : List ℕ) → SameSizes m (write m res from piece)
same_write m res from piece = same_written m res (get m.bytes res) from piece refl

same_unless : (m : Memory) (p : Predicate) (after : Memory) → SameSizes m after → SameSizes m (unless_skipped m p after)
same_unless m p after h = elim (is_skipped m p) as (λ b. SameSizes m (if b then m else after)) [ true ↦ λ id. refl | false ↦ h ]

same_cleared : (m : Memory) (v : Option BoundView) (values : List ℕ) → SameSizes m (cleared m v values)
same_cleared m None values = λ id. refl
same_cleared m (Some v) values = same_write m v.shape.res (v.shape.first * v.shape.unit) (pattern v.shape values)

same_stored : (m : Memory) (slots : List (Option ResRange)) (words : List (List ℕ)) → SameSizes m (stored m slots words)
same_stored m [] words = λ id. refl
same_stored m (s ∷ slots) [] = λ id. refl
same_stored m (None ∷ slots) (w ∷ words) = same_stored m slots words
same_stored m (Some r ∷ slots) (w ∷ words) = λ id.
    same_stored (write m r.res r.from (spelled w)) slots words id ∙ same_write m r.res r.from (spelled w) id

same_ran : (m : Memory) (uavs : List (Option ResRange)) (r : Ran) → SameSizes m (after_ran m uavs r)
same_ran m uavs r = same_stored m uavs r.slots.writes

same_dispatched : (o : Objects) (b : Bindings) (groups : List ℕ) (m : Memory) → SameSizes m (dispatched o b groups m)
same_dispatched o b groups m =
    let ds = declared_by (words_set o b) in
    same_ran m (uavs_shown b ds) (ran_dispatch (words_set o b) groups (slots_seen o m b ds))

pub same_run : (o : Objects) (m : Memory) (c : Call) → SameSizes m (run o m c)
same_run o m (calls.Dispatch x y z) =
    let groups : List ℕ = x ∷ y ∷ z ∷ [] in
    same_unless m (bindings_of o 0).predicate (dispatched o (bindings_of o 0) groups m) (same_dispatched o (bindings_of o 0) groups m)
same_run o m (calls.DispatchIndirect res offset) =
    same_unless m (bindings_of o 0).predicate (dispatched o (bindings_of o 0) (counts_at m res offset) m) (same_dispatched o (bindings_of o 0) (counts_at m res offset) m)
same_run o m (calls.CopyRegion target target_offset source source_offset len) =
    same_unless m (bindings_of o 0).predicate (copied m target target_offset source source_offset len) (same_write m target target_offset (slice (bytes_of m source) source_offset (source_offset + len)))
same_run o m (calls.Copy target source) =
    same_unless m (bindings_of o 0).predicate (write m target 0 (bytes_of m source)) (same_write m target 0 (bytes_of m source))
same_run o m (calls.Update res offset bytes) =
    same_unless m (bindings_of o 0).predicate (write m res offset bytes) (same_write m res offset bytes)
same_run o m (calls.ClearUav view v0 v1 v2 v3) =
    same_unless m (bindings_of o 0).predicate (cleared m (bound_view o view) (v0 ∷ v1 ∷ v2 ∷ v3 ∷ [])) (same_cleared m (bound_view o view) (v0 ∷ v1 ∷ v2 ∷ v3 ∷ []))
same_run o m (calls.MapWrite res mode offset bytes) = elim (mode == 0) as (λ b. SameSizes m (if b then discarded m res offset bytes else write m res offset bytes)) [
  | true ↦ λ id. same_write (write m res 0 (filled (length (bytes_of m res)) [])) res offset bytes id ∙ same_write m res 0 (filled (length (bytes_of m res)) []) id
  | false ↦ same_write m res offset bytes
]
same_run o m _ = λ id. refl

same_run_all : (n : ℕ) (o : Objects) (m : Memory) (cs : List Numbered) → SameSizes m (run_all n o m cs)
same_run_all n o m [] = λ id. refl
same_run_all n o m (c ∷ cs) = λ id. same_run_all n (played n o c.call) (run o m c.call) cs id ∙ same_run o m c.call id

-- ---- the buffers

pub same_buffers_all : (n : ℕ) (o : Objects) (cs : List Numbered) → (played_all n o cs).buffers ≡ o.buffers
same_buffers_all n o [] = refl
same_buffers_all n o (c ∷ cs) = same_buffers_all n (played n o c.call) cs

by_buffers : (o o' : Objects) (m m' : Memory) → o'.buffers ≡ o.buffers → SameSizes m m' → Sized o m → Sized o' m'
by_buffers o o' m m' e same h = λ id. same id ∙ h id ∙ sym (ap (λ (b : Buffers). option_map (λ (s : Shape). s.size) (get b id)) e)

sized_inserted : (b : Bool) (bytes : List ℕ) (shape : Shape) (p : Option (List ℕ)) (q : Option Shape) → length bytes ≡ shape.size
    → option_map (λ (l : List ℕ). length l) p ≡ option_map (λ (s : Shape). s.size) q
    → option_map (λ (l : List ℕ). length l) (cond b (Some bytes) p) ≡ option_map (λ (s : Shape). s.size) (cond b (Some shape) q)
sized_inserted true bytes shape p q e h = ap Some e
sized_inserted false bytes shape p q e h = h

sized_removed : (b : Bool) (p : Option (List ℕ)) (q : Option Shape) → option_map (λ (l : List ℕ). length l) p ≡ option_map (λ (s : Shape). s.size) q
    → option_map (λ (l : List ℕ). length l) (cond b None p) ≡ option_map (λ (s : Shape). s.size) (cond b None q)
sized_removed true p q h = refl
sized_removed false p q h = h

sized_destroyed : (o : Objects) (m : Memory) (class id : ℕ) → Sized o m → Sized (destroyed o class id) (made m (calls.Destroy class id))
sized_destroyed o m class id h = elim (class == 1) as (λ b. Sized (if b then record o { buffers = remove o.buffers id } else (if class == 2 then record o { views = remove o.views id } else if class == 3 then record o { shaders = remove o.shaders id } else if class == 4 then record o { queries = remove o.queries id } else record o { lists = remove o.lists id })) (if b then record m { bytes = remove m.bytes id } else m)) [
  | true ↦ λ q. rw (get-remove m.bytes id q, get-remove o.buffers id q) (sized_removed (eq_by_cmp nat_cmp q id) (get m.bytes q) (get o.buffers q) (h q))
  | false ↦ elim (class == 2) as (λ b. Sized (if b then record o { views = remove o.views id } else if class == 3 then record o { shaders = remove o.shaders id } else if class == 4 then record o { queries = remove o.queries id } else record o { lists = remove o.lists id }) m) [
    | true ↦ h
    | false ↦ elim (class == 3) as (λ b. Sized (if b then record o { shaders = remove o.shaders id } else if class == 4 then record o { queries = remove o.queries id } else record o { lists = remove o.lists id }) m) [
      | true ↦ h
      | false ↦ elim (class == 4) as (λ b. Sized (if b then record o { queries = remove o.queries id } else record o { lists = remove o.lists id }) m) [ true ↦ h | false ↦ h ]
    ]
  ]
]

sized_made : (n : ℕ) (o : Objects) (m : Memory) (c : Call) → Sized o m → Sized (made_by n o c) (made m c)
sized_made n o m (calls.Buffer id size usage bind misc stride bytes) h = λ q.
    rw (get-insert m.bytes id (filled size bytes) q, get-insert o.buffers id _ q) (sized_inserted (eq_by_cmp nat_cmp q id) (filled size bytes) _ (get m.bytes q) (get o.buffers q) (length-filled size bytes) (h q))
sized_made n o m (calls.Destroy class id) h = sized_destroyed o m class id h
sized_made n o m _ h = h

sized_immediate : (n : ℕ) (o : Objects) (m : Memory) (c : Call) → Sized o m → Sized (immediate_effect n o c) (immediate_run n o m c)
sized_immediate n o m (calls.ExecuteList list flag) h =
    by_buffers o (executed n o list flag) m (run_all n (list_start o) m (calls_of_list o list)) (same_buffers_all n (list_start o) (calls_of_list o list)) (same_run_all n (list_start o) m (calls_of_list o list)) h
sized_immediate n o m _ h = h

sized_at : (p : Place) (n : ℕ) (o : Objects) (m : Memory) (x : ℕ) (c : Call) → Sized o m → Sized (effect_at p n o x c) (run_at p n o m x c)
sized_at OnDevice n o m x c h = sized_made n o m c h
sized_at OnImmediate n o m x c h = sized_immediate n o m c h
sized_at OnEach n o m x c h =
    elim (x == 0) as (λ b. Sized (if b then played n o c else recorded_on n o x c) (if b then run o m c else m)) [
      | true ↦ by_buffers o (played n o c) m (run o m c) refl (same_run o m c) h
      | false ↦ h
    ]
sized_at OnDeferred n o m x c h = h

pub sized : (log : List Issued) (n : ℕ) → Sized (after_calls log n).objects (after_calls log n).memory
unfolding after_calls
sized log zero = λ id. ap (option_map (λ (l : List ℕ). length l)) (get-empty (List ℕ) id) ∙ sym (ap (option_map (λ (s : Shape). s.size)) (get-empty Shape id))
sized log (suc n) = after_one (suc n) (after_calls log n) (slice_get log n) (sized log n)
  where
    unless : (n : ℕ) (s : State) (i : Issued) (v : Option Refusal) → Sized s.objects s.memory → Sized (unless_refused n s i v).objects (unless_refused n s i v).memory
    unless n s i (Some why) h = h
    unless n s i None h = sized_at (place_of i.call) n s.objects s.memory i.context i.call h

    after_one : (n : ℕ) (s : State) (o : Option Issued) → Sized s.objects s.memory → Sized (after_call n s o).objects (after_call n s o).memory
    after_one n s None h = h
    after_one n s (Some i) h = unless n s i (verdict_in s i) h
