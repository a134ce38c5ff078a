-- What a planner keeps stands after a call, and what it plans is what the definitions say.
use Rattle.std.proofs.Common.{◌≡◌, ℕ, true, false, not, List, [], ◌∷◌, ◌++◌, Option, Some, None, Result, Ok, Err, OnOk, refl, sym, ap, subst, ◌∙◌}
use Rattle.std.specs.List.{filter_map}
use Rattle.std.specs.Option.{option_map}
use Rattle.dx_types.specs.declared.refusal.Refusal.{Refusal}
use Rattle.call_log.specs.Call as calls
use Rattle.call_log.specs.Call.{Call, Issued}
use Rattle.d3d_model.specs.D3dState.{Numbered, Objects}
use Rattle.d3d_model.specs.Effect.{deeds_by, objects_after}
use Rattle.d3d_model.specs.InOrder.{State, accepted, unless_refused, verdict_in}
use Rattle.d3d_model.specs.Past.{then_done}
use Rattle.d3d_model.specs.Uses.{bound_unless, range_bound, segment_in, segment_unless, use_in, use_unless}
use Rattle.d3d_model.specs.Verdict.{verdict}
use Rattle.d3d_state.specs.Meaning.{objects_of}
use Rattle.d3d_state.specs.declared.objects.Objects as code
use Rattle.d3d_checks.specs.Accepted.{is_built, is_draw}
use Rattle.d3d_checks.specs.Created.{shader_made, token_words}
use Rattle.d3d_plan.specs.Keeping.{Keeps, KeepsCall}
use Rattle.d3d_plan.specs.Planned.{Planned, listed_by, numbers, parts_in, parts_unless, planned_as, planned_by, refused_as, shader_unless, span_in, words_unless}
use Rattle.d3d_plan.specs.Shown.{Holds, Shows, span_of}
use Rattle.d3d_plan.specs.Stands.{Stands}
use Rattle.d3d_plan.specs.declared.entry.Entry.{Entry}
use Rattle.d3d_plan.specs.declared.kept.Kept.{Kept}
use Rattle.d3d_plan.specs.declared.tables.Piece.{Piece}
use Rattle.d3d_plan.proofs.Pieces.{shown_accepted, shows_grown, shows_more}

-- a call that is no draw is built
pub is_built_by : (c : Call) → is_draw c ≡ false → is_built c ≡ true
is_built_by c e = ap not e

-- the verdict on the kept objects is that of the state
pub of_state : (s : State) (objects : code.Objects) (kept : Kept) (i : Issued) (r : Option Refusal) → Stands s objects kept → r ≡ verdict (objects_of objects) s.past i → r ≡ verdict_in s i
of_state s objects kept i r st e = e ∙ ap (λ (o : Objects). verdict o s.past i) st.same

abbrev issued_on : ℕ → Call → Issued
issued_on x c = record { context = x; call = c }

-- what is planned of a call with this verdict
abbrev planned_with : (n at : ℕ) → State → Issued → Option Refusal → Planned
planned_with n at s i why = record {
  verdict = why;
  last_use = use_unless s i.call why;
  bound = bound_unless s i why;
  calls = numbers (segment_unless s i why);
  parts = parts_unless s i why;
  words = words_unless at i why;
  shader = shader_unless n i why;
}

-- ---- a call that is refused

pub state_refused : (n : ℕ) (s : State) (i : Issued) (why : Refusal) → Some why ≡ verdict_in s i → s ≡ unless_refused n s i (verdict_in s i)
state_refused n s i why e = ap (unless_refused n s i) e

pub stands_refused : (n : ℕ) (s : State) (i : Issued) (why : Refusal) (old new : code.Objects) (before after : Kept) → Some why ≡ verdict_in s i → new ≡ old → after ≡ before → Stands s old before
    → Stands (unless_refused n s i (verdict_in s i)) new after
stands_refused n s i why old new before after e eo ek st =
    subst (λ (t : State). Stands t new after) (state_refused n s i why e)
    (subst (λ (k : Kept). Stands s new k) (sym ek) (subst (λ (o : code.Objects). Stands s o before) (sym eo) st))

pub planned_refused : (n at : ℕ) (s : State) (i : Issued) (why : Refusal) → Some why ≡ verdict_in s i → refused_as why ≡ planned_by n at s (Some i)
planned_refused n at s i why e = ap (planned_with n at s i) e

-- ---- a call that is accepted

pub state_accepted : (n : ℕ) (s : State) (x : ℕ) (c : Call) → None ≡ verdict_in s (issued_on x c) → accepted n s x c ≡ unless_refused n s (issued_on x c) (verdict_in s (issued_on x c))
state_accepted n s x c e = ap (unless_refused n s (issued_on x c)) e

-- the calls of its list, by the objects and by the state
listed_same : (s : State) (x : ℕ) (c : Call) → listed_by s.objects x c ≡ segment_in s (issued_on x c)
listed_same s x (calls.FinishList list) = refl
listed_same s x (calls.ExecuteList list flag) = refl
listed_same s x _ = refl

pub planned_accepted : (n at : ℕ) (s : State) (x : ℕ) (c : Call) → None ≡ verdict_in s (issued_on x c) → planned_as n at s x c ≡ planned_by n at s (Some (issued_on x c))
planned_accepted n at s x c e =
    ap (λ (cs : List Numbered). record {
      verdict = None;
      last_use = use_in s c;
      bound = filter_map range_bound (deeds_by s.objects x c);
      calls = numbers cs;
      parts = parts_in s.objects x c;
      words = span_in at (token_words c);
      shader = shader_made n c;
    }) (listed_same s x c)
    ∙ ap (planned_with n at s (issued_on x c)) e

pub stands_after : (n : ℕ) (s : State) (x : ℕ) (c : Call) (old new : code.Objects) (before after : Kept) (piece : Piece) → Stands s old before
    → objects_of new ≡ objects_after n (objects_of old) x c
    → KeepsCall n (objects_of old) x c before after piece
    → Stands (accepted n s x c) new after
stands_after n s x c old new before after piece st applied k = record {
  same = applied ∙ ap (λ (o : Objects). objects_after n o x c) st.same;
  keeps = subst (λ (o : Objects). Keeps (objects_of new) (then_done n s.past (deeds_by o x c)) after) st.same
      (subst (λ (o : Objects). Keeps o (then_done n s.past (deeds_by (objects_of old) x c)) after) (sym applied) (k.keeps s.past st.keeps));
}

pub shows_accepted : (n at : ℕ) (s : State) (x : ℕ) (c : Call) (o : Objects) (old new : Kept) (entries : List Entry) (plan : List Planned) (e : Entry)
    → o ≡ s.objects → Keeps o s.past old → KeepsCall n o x c old new e.piece → Shows entries old.tables plan
    → e.verdict ≡ None → e.last_use ≡ use_in s c → option_map span_of e.words ≡ span_in at (token_words c) → e.shader ≡ shader_made n c
    → Shows (entries ++ e ∷ []) new.tables (plan ++ planned_as n at s x c ∷ [])
shows_accepted n at s x c o old new entries plan e same keeps k shows ev eu ew es =
    let h = subst (λ (p : Objects). Holds new.tables e.piece (filter_map range_bound (deeds_by p x c)) (numbers (listed_by p x c)) (parts_in p x c)) same (k.holds s.past keeps) in
    shows_more entries new.tables plan e (planned_as n at s x c) (shows_grown old.tables new.tables entries plan k.grows shows) h.within
    (shown_accepted new.tables e (use_in s c) _ _ _ (span_in at (token_words c)) (shader_made n c) ev eu h ew es)

pub always : {T E P : Type 0} (r : Result T E) → P → OnOk r P
always (Ok x) p = p
always (Err e) p = tt
