-- What was checked of an accepted call stays true of it while it stands in an open or a live list: what a list names
-- isn't changed.
use Rattle.std.proofs.Common.{◌≡◌, ℕ, zero, suc, ◌+◌, Bool, true, false, not, ◌||◌, List, [], ◌∷◌, length, Option}
use Rattle.std.proofs.Common.{Some, None, refl, sym, ap, ◌∙◌, arith}
use Rattle.std.specs.Prelude.{◌==◌, slice_get, nat_lt, is_some, if◌then◌else◌}
use Rattle.std.proofs.lemmas.Bool.{or_left, or_right, ltb-false, eqb-true, eqb-false}
use Rattle.dx_types.specs.declared.refusal.Refusal.{Refusal}
use Rattle.dx_types.specs.declared.shape.Shape.{Shape}
use Rattle.call_log.specs.Call as calls
use Rattle.call_log.specs.Call.{Call, Issued}
use Rattle.base_lemmas.specs.IdMap.{empty, get}
use Rattle.d3d_model.specs.Resource.{Buffers, size_of}
use Rattle.d3d_model.specs.D3dState.{Objects, Numbered, context_of}
use Rattle.d3d_model.specs.Past.{Past}
use Rattle.d3d_model.specs.Stream.{list_names}
use Rattle.d3d_model.specs.Verdict.{call_checks}
use Rattle.d3d_model.specs.Effect.{played, recorded_on, objects_after}
use Rattle.d3d_model.specs.InOrder.{State, unless_refused, verdict_in, after_call, after_calls}
use Rattle.base_lemmas.proofs.Maps.{get-empty}
use Rattle.d3d_model.proofs.Checked.{Passed}
use Rattle.d3d_model.proofs.Listed.{ListsLive, lists_live, own_checks, left_of, opened_member, listed_member}
use Rattle.d3d_model.proofs.Frozen.{Agrees, named_by}
use Rattle.d3d_model.proofs.Unchanged.{ListAgrees, agrees_after}
use Rattle.log_script.specs.Standing.{TwoBuffers, MapStands, CallStands}
use Rattle.log_script.proofs.Owed.BufferMakers.{none_some, some_of}
use Rattle.log_script.proofs.Owed.MadeBuffers.{not_false}
use Rattle.log_script.proofs.Owed.CopiesAndMaps.{first_named}
use Rattle.log_script.proofs.Owed.RecordedCalls as lists
use Rattle.log_script.proofs.Owed.RecordedCalls.{All, Recorded, none_recorded}

-- ---- a call that is accepted

two_buffers : (b : Buffers) (target source : ℕ) → not (is_some (get b target)) ≡ false
    → not (is_some (get b source)) ≡ false → (target == source) ≡ false → TwoBuffers b target source
two_buffers b target source e f apart =
    let t = some_of (get b target) (not_false _ e) in
    let s = some_of (get b source) (not_false _ f) in
    record { into = t.0; from = s.0; target_lives = t.1; source_lives = s.1; apart = eqb-false target source apart }

one_size : (o p : Option Shape) (s t : Shape) → o ≡ Some s → p ≡ Some t → not (size_of o == size_of p) ≡ false
    → s.size ≡ t.size
one_size o p s t e f h = sym (ap size_of e) ∙ eqb-true (size_of o) (size_of p) (not_false _ h) ∙ ap size_of f

map_stands : (b : Buffers) (res mode end : ℕ) (two three : Bool) → not (is_some (get b res)) ≡ false
    → nat_lt 2 mode || two || three ≡ false → nat_lt (size_of (get b res)) end ≡ false
    → MapStands b res mode end
map_stands b res mode end two three live is within =
    let s = some_of (get b res) (not_false _ live) in
    record {
      is_mode = omega (arith, ltb-false 2 mode (left_of (nat_lt 2 mode) two (left_of (nat_lt 2 mode || two) three is)));
      shape = s.0;
      lives = s.1;
      inside = omega (arith, ltb-false (size_of (get b res)) end within, ap size_of s.1);
    }

stands_if : (o : Objects) (past : Past) (x : ℕ) (c : Call) → Passed (call_checks o past x c) → CallStands o c
stands_if o past x (calls.CopyRegion target target_offset source source_offset len) p =
    two_buffers o.buffers target source p.0 p.1.0 p.1.1.1.0
stands_if o past x (calls.Copy target source) p =
    let both = two_buffers o.buffers target source p.0 p.1.0 p.1.1.1.0 in
    record { both = both; same_size = one_size _ _ both.into both.from both.target_lives both.source_lives p.1.1.1.1.0 }
stands_if o past x (calls.ClearUav view v0 v1 v2 v3) p = some_of (get o.views view) (not_false _ p.0)
stands_if o past x (calls.MapWrite res mode offset bytes) p =
    map_stands o.buffers res mode (offset + length bytes) _ _ p.0 p.1.0 p.1.1.1.0
stands_if o past x _ p = tt

pub accepted_stands : (s : State) (i : Issued) → verdict_in s i ≡ None → CallStands s.objects i.call
accepted_stands s i e = stands_if s.objects s.past i.context i.call (own_checks s.objects s.past i.context i.call e)

-- ---- the same buffers and views

two_same : (b b' : Buffers) (target source : ℕ) → get b' target ≡ get b target → get b' source ≡ get b source
    → TwoBuffers b target source → TwoBuffers b' target source
two_same b b' target source e f s = record {
  into = s.into;
  from = s.from;
  target_lives = e
      ∙ s.target_lives;
  source_lives = f ∙ s.source_lives;
  apart = s.apart;
}

stands_same : (o o' : Objects) (c : Call) → Agrees o o' (named_by c) → CallStands o c → CallStands o' c
unfolding two_same
stands_same o o' (calls.CopyRegion target target_offset source source_offset len) h s =
    two_same o.buffers o'.buffers target source (h.buffers target (first_named 1 target _))
    (h.buffers source (or_right _ _ (first_named 1 source false))) s
stands_same o o' (calls.Copy target source) h s = record {
  both = two_same o.buffers o'.buffers target source (h.buffers target (first_named 1 target _))
      (h.buffers source (or_right _ _ (first_named 1 source false))) s.both;
  same_size = s.same_size;
}
stands_same o o' (calls.ClearUav view v0 v1 v2 v3) h s = (s.0, h.views view (first_named 2 view false) ∙ s.1)
stands_same o o' (calls.MapWrite res mode offset bytes) h s =
    record {
      is_mode = s.is_mode;
      shape = s.shape;
      lives = h.buffers res (first_named 1 res false)
          ∙ s.lives;
      inside = s.inside;
    }
stands_same o o' _ h s = tt

pub list_same : (o o' : Objects) (cs : List Numbered) → ListAgrees o o' cs → All (CallStands o) cs
    → All (CallStands o') cs
list_same o o' [] h s = tt
list_same o o' (c ∷ cs) h s =
    let here : Agrees o o' (named_by c.call) = record {
      buffers = λ id e. h.buffers id (or_left (named_by c.call 1 id) (list_names 1 id cs) e);
      views = λ id e. h.views id (or_left (named_by c.call 2 id) (list_names 2 id cs) e);
    } in
    let later : ListAgrees o o' cs = record {
      buffers = λ id e. h.buffers id (or_right (named_by c.call 1 id) (list_names 1 id cs) e);
      views = λ id e. h.views id (or_right (named_by c.call 2 id) (list_names 2 id cs) e);
    } in
    (stands_same o o' c.call here s.0, list_same o o' cs later s.1)

-- ---- after a call

-- a call that is played or recorded changes no buffer and no view
on_each : (n : ℕ) (o : Objects) (x : ℕ) (c : Call) → CallStands o c
    → CallStands (if x == 0 then played n o c else recorded_on n o x c) c
on_each n o x c s = elim (x == 0) as (λ b. CallStands (if b then played n o c else recorded_on n o x c) c) [
  | true ↦ stands_same o (played n o c) c (record { buffers = λ id e. refl; views = λ id e. refl }) s
  | false ↦ stands_same o (recorded_on n o x c) c (record { buffers = λ id e. refl; views = λ id e. refl }) s
]

still_stands : (n : ℕ) (o : Objects) (x : ℕ) (c : Call) → CallStands o c → CallStands (objects_after n o x c) c
still_stands n o x (calls.Buffer id size usage bind misc stride bytes) s = tt
still_stands n o x (calls.View view res kind form components first count) s = tt
still_stands n o x (calls.CreateShader id words) s = tt
still_stands n o x (calls.Query id sort) s = tt
still_stands n o x (calls.Destroy class id) s = tt
still_stands n o x (calls.MapRead res flag offset len) s = tt
still_stands n o x (calls.GetData query flag) s = tt
still_stands n o x calls.Flush s = tt
still_stands n o x (calls.FinishList list) s = tt
still_stands n o x (calls.ExecuteList list flag) s = tt
still_stands n o x c s = on_each n o x c s

after_one : (n : ℕ) (o : Objects) (past : Past) (x : ℕ) (c : Call) → Passed (call_checks o past x c) → ListsLive o
    → Recorded (CallStands o) o
    → Recorded (CallStands (objects_after n o x c)) (objects_after n o x c)
after_one n o past x c p live h =
    let o' = objects_after n o x c in
    lists.after_one (CallStands o') n o x c (still_stands n o x c (stands_if o past x c p)) (record {
      opened = λ y. list_same o o' (context_of o y).recorded
          (agrees_after n o past x c p (context_of o y).recorded (live.opened y) (opened_member o y)) (h.opened y);
      listed = λ l cs e. list_same o o' cs (agrees_after n o past x c p cs (live.listed l cs e)
          (listed_member o l cs e)) (h.listed l cs e);
    })

pub lists_stand : (log : List Issued) (n : ℕ) → Recorded (CallStands (after_calls log n).objects)
    (after_calls log n).objects
unfolding after_calls
lists_stand log zero = record {
  opened = λ x. none_recorded (CallStands (after_calls log zero).objects) 17 x;
  listed = λ l cs e. absurd (none_some (get (empty {X = List Numbered}) l) cs (get-empty (List Numbered) l) e);
}
lists_stand log (suc n) = by_call (suc n) (after_calls log n) (slice_get log n) (lists_live log n) (lists_stand log n)
  where
    unless : (n : ℕ) (s : State) (i : Issued) (v : Option Refusal) → verdict_in s i ≡ v → ListsLive s.objects
        → Recorded (CallStands s.objects) s.objects
        → Recorded (CallStands (unless_refused n s i v).objects) (unless_refused n s i v).objects
    unless n s i (Some why) e live h = h
    unless n s i None e live h = after_one n s.objects s.past i.context i.call
        (own_checks s.objects s.past i.context i.call e) live h

    by_call : (n : ℕ) (s : State) (o : Option Issued) → ListsLive s.objects → Recorded (CallStands s.objects) s.objects
        → Recorded (CallStands (after_call n s o).objects) (after_call n s o).objects
    by_call n s None live h = h
    by_call n s (Some i) live h = unless n s i (verdict_in s i) refl live h
