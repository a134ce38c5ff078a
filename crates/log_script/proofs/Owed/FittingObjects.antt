-- What is created fits, and what is destroyed is neither set nor listed nor viewed.
use Rattle.std.proofs.Common.{◌≡◌, ℕ, zero, suc, ◌+◌, ◌<◌, Bool, true, false, not, ◌&&◌, ◌||◌, cond, List, [], ◌∷◌}
use Rattle.std.proofs.Common.{map, Option, Some, None, refl, sym, ap, ◌∙◌, subst, arith, inl, inr}
use Rattle.std.proofs.Common.{mul-lt-mul_of_pos_right, eqb-true, ltb-false, lt-ltb}
use Rattle.std.specs.Prelude.{◌==◌, ◌%◌, is_some, nat_lt, if◌then◌else◌}
use Rattle.std.specs.List.{list_any, AllByRecursion}
use Rattle.std.specs.Ordering.{nat_cmp, eq_by_cmp}
use Rattle.std.specs.FinMap.Entries.{find}
use Rattle.dx_types.specs.declared.refusal.Refusal.TheVariants.{BadUsage}
use Rattle.dx_types.specs.declared.shape.Shape.{Shape}
use Rattle.dx_types.specs.declared.shape.ViewShape.{ViewShape}
use Rattle.call_log.specs.Call as calls
use Rattle.call_log.specs.Call.{Call}
use Rattle.base_lemmas.specs.IdMap.{IdMap, get, insert, remove, values}
use Rattle.d3d_model.specs.Check.{Check, has}
use Rattle.d3d_model.specs.Resource.{usage_from, is_one}
use Rattle.d3d_model.specs.View.{form_from, unit_of, lacks_bind, lacks_form, is_outside, view_end, view_range}
use Rattle.d3d_model.specs.Binding.{holds_buffer, holds_view, holds_shader}
use Rattle.d3d_model.specs.D3dState.{Objects, Shader, Query, Context, buffer_of}
use Rattle.d3d_model.specs.Stream.{list_names, is_listed}
use Rattle.d3d_model.specs.Verdict.{is_live_buffer, is_live_view, buffer_is, bad_stride, bad_components, stride_of}
use Rattle.d3d_model.specs.Verdict.{described, destroy_checks, view_checks, buffer_checks, unused_buffer, unused_view}
use Rattle.d3d_model.specs.Verdict.{unused_shader, unused_query, known_list, is_set, has_view}
use Rattle.d3d_model.specs.Effect.{made_by, destroyed}
use Rattle.base_lemmas.proofs.Maps.{get-insert, get-remove, get_other, other_key}
use Rattle.d3d_model.proofs.Checked.{Passed, free_id}
use Rattle.d3d_model.proofs.Named.{none_of}
use Rattle.d3d_model.proofs.Listed.{left_of, differ, listed_member}
use Rattle.log_script.specs.Fitting.{LivesAndFits}
use Rattle.log_script.proofs.Owed.StayingFit.{unequal, Stays, Unset, unlisted}
use Rattle.log_script.proofs.Owed.FittingCalls.{HasBytes, ViewRests, rests_stay, positive, some_one}
use Rattle.log_script.proofs.Owed.FittingStates.{StateFits, Apart, state_fits_by, state_goes_on, same_objects}
use Rattle.log_script.proofs.Owed.FittingStates.{views_still, one_value, inserted}

-- ---- maps

-- a value that came at a free id leaves the others
kept_by_insert : {X : Type 0} (m : IdMap X) (k : ℕ) (v : X) (q : ℕ) (w : X) → get m k ≡ None → get m q ≡ Some w
    → get (insert m k v) q ≡ Some w
kept_by_insert m k v q w free e =
    get_other m k v q (λ same. clash (get m q) (ap (λ (j : ℕ). get m j) same ∙ free) e) ∙ e
  where
    clash : (o : Option _) → o ≡ None → o ≡ Some w → ⊥
    clash o f g = cc

some_kept : {X : Type 0} (m : IdMap X) (k : ℕ) (v : X) (q : ℕ) → is_some (get m q) ≡ true
    → is_some (get (insert m k v) q) ≡ true
some_kept m k v q e = ap is_some (get-insert m k v q) ∙ by_test (eq_by_cmp nat_cmp q k) (get m q) e
  where
    by_test : (b : Bool) (o : Option _) → is_some o ≡ true → is_some (cond b (Some v) o) ≡ true
    by_test true o e = refl
    by_test false o e = e

kept_by_remove : {X : Type 0} (m : IdMap X) (k q : ℕ) → (q ≡ k → ⊥) → get (remove m k) q ≡ get m q
kept_by_remove m k q apart = get-remove m k q ∙ ap (λ b. cond b None (get m q)) (other_key q k apart)

left_by_remove : {X : Type 0} (m : IdMap X) (k q : ℕ) (v : X) → get (remove m k) q ≡ Some v → get m q ≡ Some v
left_by_remove m k q v e = by_test (eq_by_cmp nat_cmp q k) (get m q) (sym (get-remove m k q) ∙ e)
  where
    by_test : (b : Bool) (o : Option _) → cond b None o ≡ Some v → o ≡ Some v
    by_test true o f = absurd cc
    by_test false o f = f

-- what no value is, the one at an id isn't
value_none : {X : Type 0} (test : X → Bool) (m : IdMap X) (q : ℕ) (v : X) → list_any test (values m) ≡ false
    → get m q ≡ Some v → test v ≡ false
unfolding get values
value_none {X} test m q v none e = by_entries m.entries none e
  where
    by_entries : (es : List (ℕ × X)) → list_any test (map (λ e. e.1) es) ≡ false → find nat_cmp q es ≡ Some v
        → test v ≡ false
    by_entries [] f e = absurd cc
    by_entries (x ∷ es) f e = elim (one_value (eq_by_cmp nat_cmp q x.0) x.1 v (find nat_cmp q es) e) [
      | inl g ↦ subst (λ w. test w ≡ false) g (left_of (test x.1) (list_any test (map (λ e. e.1) es)) f)
      | inr g ↦ by_entries es (none_of (test x.1) (list_any test (map (λ e. e.1) es)) f) g
    ]

-- ---- a buffer comes

new_bytes : (size usage bind misc stride : ℕ) (d : Bool) → (size == 0) || not (size % 4 == 0)
    || nat_lt 16777216 size || d ≡ false → has bind 1 && not (bind == 1) ≡ false
    → (if has misc 2 then bad_stride size stride else not (stride == 0)) ≡ false
    → HasBytes (record { size = size; usage = usage_from usage; bind = bind; misc = misc; stride = stride })
new_bytes size usage bind misc stride d bad_size alone bad = let b = not (size % 4 == 0) in record {
  words = eqb-true (size % 4) 0
      (is_true (size % 4 == 0)
      (none_of (size == 0) b (left_of ((size == 0) || b) (nat_lt 16777216 size)
      (left_of ((size == 0) || b || nat_lt 16777216 size) d bad_size))));
  constants = λ is. subst (λ n. (has n 2 || has n 4) ≡ false)
      (sym (eqb-true bind 1 (is_true (bind == 1) (sym (ap (λ c. c && not (bind == 1)) is) ∙ alone)))) refl;
  byte = positive size
      (left_of (size == 0) b (left_of ((size == 0) || b) (nat_lt 16777216 size)
      (left_of ((size == 0) || b || nat_lt 16777216 size) d bad_size)));
  few = ltb-false 16777216 size (none_of ((size == 0) || b) (nat_lt 16777216 size)
      (left_of ((size == 0) || b || nat_lt 16777216 size) d bad_size));
  structure = λ is.
      let wrong : bad_stride size stride ≡ false =
      subst (λ t. (if t then bad_stride size stride else not (stride == 0)) ≡ false) is bad in
      let first : Bool = not (stride % 4 == 0) in
      let short : nat_lt stride 4 ≡ false =
      none_of first (nat_lt stride 4) (left_of (first || nat_lt stride 4) (nat_lt 2048 stride)
      (left_of (first || nat_lt stride 4 || nat_lt 2048 stride) (not (size % stride == 0)) wrong)) in
      omega (arith, ltb-false stride 4 short);
}
  where
    is_true : (b : Bool) → not b ≡ false → b ≡ true
    is_true true e = refl
    is_true false e = absurd cc

fits_buffer : (o : Objects) (k : ℕ) (s : Shape) → is_live_buffer o k ≡ false → HasBytes s → StateFits o
    → StateFits (record o { buffers = insert o.buffers k s })
fits_buffer o k s free new h =
    let o' : Objects = record o { buffers = insert o.buffers k s } in
    let still : Stays o o' 0 0 = record {
      buffers = λ q w apart e. kept_by_insert o.buffers k s q w (free_id (get o.buffers k) free) e;
      views = λ q v apart e. e;
      shaders = λ q apart e. e;
    } in
    state_goes_on o o' still
    (λ q w e. elim (inserted o.buffers k s q w e) [ inl f ↦ subst HasBytes f new | inr f ↦ h.buffers q w f ])
    (views_still o o' still (λ q v e. e) h.views) h.contexts h.lists

-- ---- a view comes

stride_fits : (o : Objects) (res : ℕ) (s : Shape) → buffer_of o res ≡ Some s → HasBytes s → has s.misc 2 ≡ true
    → 0 < stride_of (buffer_of o res)
stride_fits o res s e bytes is = subst (λ (g : Option Shape). 0 < stride_of g) (sym e) (bytes.structure is)

-- an element of a view has a byte
unit_fits : (o : Objects) (res form components : ℕ) (s : Shape) → buffer_of o res ≡ Some s → HasBytes s
    → nat_lt 2 form || bad_components form components || lacks_form s (form_from form) ≡ false
    → 0 < unit_of (form_from form) (stride_of (buffer_of o res)) components
unit_fits o res zero components s e bytes p = omega arith
unit_fits o res (suc zero) components s e bytes p = stride_fits o res s e bytes
    (not_lacking (has s.misc 2) (none_of (bad_components 1 components) (not (has s.misc 2)) p))
  where
    not_lacking : (b : Bool) → not b ≡ false → b ≡ true
    not_lacking true f = refl
    not_lacking false f = absurd cc
unit_fits o res (suc (suc zero)) components s e bytes p = omega
    (arith, some_components components (left_of (bad_components 2 components) (has s.misc 2) p))
  where
    some_components : (n : ℕ) → bad_components 2 n ≡ false → 0 < n
    some_components zero f = absurd cc
    some_components (suc n) f = omega arith
unit_fits o res (suc (suc (suc k))) components s e bytes p =
    absurd (differ (nat_lt 2 (suc (suc (suc k)))) (left_of (nat_lt 2 (suc (suc (suc k))))
    (bad_components (suc (suc (suc k))) components) (left_of
    (nat_lt 2 (suc (suc (suc k))) || bad_components (suc (suc (suc k))) components)
    (lacks_form s (form_from (suc (suc (suc k))))) p)) (lt-ltb 2 (suc (suc (suc k))) (omega arith)))

new_view_fits : (o : Objects) (v : ViewShape) (s : Shape) → buffer_of o v.res ≡ Some s → 0 < v.unit
    → is_outside s v ≡ false → LivesAndFits o (view_range v)
new_view_fits o v s e unit inside =
    let some : 0 < v.count = positive v.count (left_of (v.count == 0) (nat_lt s.size (view_end v)) inside) in
    let more : v.first < v.first + v.count = omega (arith, some) in
    record {
      has_byte = mul-lt-mul_of_pos_right more unit;
      shape = s;
      lives = e;
      fits = ltb-false s.size (view_end v) (none_of (v.count == 0) (nat_lt s.size (view_end v)) inside);
    }

fits_view : (o : Objects) (k : ℕ) (v : ViewShape) → is_live_view o k ≡ false → ViewRests o v → StateFits o
    → StateFits (record o { views = insert o.views k v })
fits_view o k v free new h =
    let o' : Objects = record o { views = insert o.views k v } in
    let still : Stays o o' 0 0 = record {
      buffers = λ q w apart e. e;
      views = λ q w apart e. kept_by_insert o.views k v q w (free_id (get o.views k) free) e;
      shaders = λ q apart e. e;
    } in
    state_goes_on o o' still h.buffers
    (λ q w e. rests_stay o o' 0 0 still w (λ z. absurd (unequal 0 1 refl z))
    (elim (inserted o.views k v q w e) [ inl f ↦ subst (ViewRests o) f new | inr f ↦ h.views q w f ]))
    h.contexts h.lists

described_fits : (o : Objects) (view res kind form components first count : ℕ) → StateFits o
    → Passed (view_checks o (described o res kind form components first count) view kind form components)
    → ViewRests o (described o res kind form components first count)
described_fits o view res kind form components first count h p =
    let v : ViewShape = described o res kind form components first count in
    let found = some_one (buffer_of o res) (is_true (is_live_buffer o res) p.1.0) in
    let s : Shape = found.0 in
    let here : (test : Shape → Bool) → buffer_is o res test ≡ test s =
    λ test. ap (λ (g : Option Shape). is_one g test) found.1 in
    let form_goes : nat_lt 2 form || bad_components form components || lacks_form s (form_from form) ≡ false =
    sym (ap (λ b. nat_lt 2 form || bad_components form components || b) (here (λ s. lacks_form s v.form)))
    ∙ p.1.1.1.1.0 in
    let bind_goes : lacks_bind s v.writable ≡ false = sym (here (λ s. lacks_bind s v.writable))
    ∙ none_of (nat_lt 1 kind) (buffer_is o res (λ s. lacks_bind s v.writable)) p.1.1.1.0 in
    record {
      fits = new_view_fits o v s found.1 (unit_fits o res form components s found.1 (h.buffers res s found.1)
          form_goes) (sym (here (λ s. is_outside s v)) ∙ p.1.1.1.1.1.0);
      shape = s;
      lives = found.1;
      shows = shown v.writable (has s.bind 2) (has s.bind 4) bind_goes;
    }
  where
    shown : (w a b : Bool) → (if w then not b else not a) ≡ false → (a || b) ≡ true
    shown true true true e = refl
    shown true false true e = refl
    shown true a false e = absurd cc
    shown false true b e = refl
    shown false false b e = absurd cc

    is_true : (b : Bool) → not b ≡ false → b ≡ true
    is_true true e = refl
    is_true false e = absurd cc

-- ---- shaders and queries come

fits_shader : (o : Objects) (k : ℕ) (s : Shader) → StateFits o → StateFits (record o { shaders = insert o.shaders k s })
fits_shader o k s h =
    let o' : Objects = record o { shaders = insert o.shaders k s } in
    let still : Stays o o' 0 0 = record {
      buffers = λ q w apart e. e;
      views = λ q v apart e. e;
      shaders =
          λ q apart e. some_kept o.shaders k s q e;
    } in
    state_goes_on o o' still h.buffers (views_still o o' still (λ q v e. e) h.views) h.contexts h.lists

fits_queries : (o : Objects) (queries : IdMap Query) → StateFits o → StateFits (record o { queries = queries })
fits_queries o queries h =
    let o' : Objects = record o { queries = queries } in
    let still : Stays o o' 0 0 = same_objects o o' refl refl refl in
    state_goes_on o o' still h.buffers (views_still o o' still (λ q v e. e) h.views) h.contexts h.lists

-- ---- objects go

-- contexts of which nothing holds the object
apart_by : (class id : ℕ) (cs : List Context) (holds : Context → Bool)
    → ((c : Context) → holds c ≡ false → Unset class id c.bindings) → list_any holds cs ≡ false
    → (class ≡ 1 → list_any (λ c. list_names 1 id c.recorded) cs ≡ false)
    → (class ≡ 3 → list_any (λ c. list_names 3 id c.recorded) cs ≡ false) → AllByRecursion (Apart class id) cs
apart_by class id [] holds unset e f g = tt
apart_by class id (c ∷ cs) holds unset e f g = (
  record {
    set = unset c (left_of (holds c) (list_any holds cs) e);
    calls = unlisted class id c.recorded
        (λ z. left_of (list_names 1 id c.recorded) (list_any (λ c. list_names 1 id c.recorded) cs) (f z))
        (λ z. left_of (list_names 3 id c.recorded) (list_any (λ c. list_names 3 id c.recorded) cs) (g z));
  },
  apart_by class id cs holds unset (none_of (holds c) (list_any holds cs) e)
      (λ z. none_of (list_names 1 id c.recorded) (list_any (λ c. list_names 1 id c.recorded) cs) (f z))
      (λ z. none_of (list_names 3 id c.recorded) (list_any (λ c. list_names 3 id c.recorded) cs) (g z)),
)

opened_none : (o : Objects) (class id : ℕ) → is_listed o class id ≡ false
    → list_any (λ c. list_names class id c.recorded) o.contexts ≡ false
opened_none o class id e = left_of (list_any (λ c. list_names class id c.recorded) o.contexts)
    (list_any (list_names class id) (values o.lists)) e

buffer_gone : (o : Objects) (i : ℕ) → is_set o (λ b. holds_buffer b i) || is_listed o 1 i || has_view o i ≡ false
    → StateFits o → StateFits (record o { buffers = remove o.buffers i })
buffer_gone o i unused h =
    let o' : Objects = record o { buffers = remove o.buffers i } in
    let unseen = left_of (is_set o (λ b. holds_buffer b i) || is_listed o 1 i) (has_view o i) unused in
    let free = none_of (is_set o (λ b. holds_buffer b i)) (is_listed o 1 i) unseen in
    let still : Stays o o' 1 i = record {
      buffers = λ q s apart e. kept_by_remove o.buffers i q (apart refl) ∙ e;
      views = λ q v apart e. e;
      shaders = λ q apart e. e;
    } in
    let unviewed : (q : ℕ) (v : ViewShape) → get o.views q ≡ Some v → v.res ≡ i → ⊥ =
    λ q v e. unequal v.res i (value_none (λ (v : ViewShape). v.res == i) o.views q v
    (none_of (is_set o (λ b. holds_buffer b i) || is_listed o 1 i) (has_view o i) unused) e) in
    state_fits_by o o' 1 i still
    (λ q s e. h.buffers q s (left_by_remove o.buffers i q s e))
    (λ q v e. rests_stay o o' 1 i still v (λ z. unviewed q v e) (h.views q v e))
    h.contexts
    (apart_by 1 i o.contexts (λ c. holds_buffer c.bindings i)
    (λ c f. record {
      buffers = λ z. f;
      views = λ z. absurd (unequal 1 2 refl z);
      shaders =
          λ z. absurd (unequal 1 3 refl z);
    })
    (left_of (is_set o (λ b. holds_buffer b i)) (is_listed o 1 i) unseen) (λ z. opened_none o 1 i free)
    (λ z. absurd (unequal 1 3 refl z)))
    (λ l cs e. (
      h.lists l cs e,
      unlisted 1 i cs (λ z. listed_member o l cs e 1 i free)
          (λ z. absurd (unequal 1 3 refl z)),
    ))

view_gone : (o : Objects) (i : ℕ) → is_set o (λ b. holds_view b i) || is_listed o 2 i ≡ false → StateFits o
    → StateFits (record o { views = remove o.views i })
view_gone o i unused h =
    let o' : Objects = record o { views = remove o.views i } in
    let still : Stays o o' 2 i = record {
      buffers = λ q s apart e. e;
      views = λ q v apart e. kept_by_remove o.views i q (apart refl) ∙ e;
      shaders = λ q apart e. e;
    } in
    state_fits_by o o' 2 i still h.buffers
    (λ q v e. rests_stay o o' 2 i still v (λ z. absurd (unequal 2 1 refl z))
    (h.views q v (left_by_remove o.views i q v e)))
    h.contexts
    (apart_by 2 i o.contexts (λ c. holds_view c.bindings i) (λ c f. record {
      buffers =
          λ z. absurd (unequal 2 1 refl z);
      views = λ z. f;
      shaders = λ z. absurd (unequal 2 3 refl z);
    })
    (left_of (is_set o (λ b. holds_view b i)) (is_listed o 2 i) unused) (λ z. absurd (unequal 2 1 refl z))
    (λ z. absurd (unequal 2 3 refl z)))
    (λ l cs e. (h.lists l cs e, unlisted 2 i cs (λ z. absurd (unequal 2 1 refl z)) (λ z. absurd (unequal 2 3 refl z))))

shader_gone : (o : Objects) (i : ℕ) → is_set o (λ b. holds_shader b i) || is_listed o 3 i ≡ false → StateFits o
    → StateFits (record o { shaders = remove o.shaders i })
shader_gone o i unused h =
    let o' : Objects = record o { shaders = remove o.shaders i } in
    let free = none_of (is_set o (λ b. holds_shader b i)) (is_listed o 3 i) unused in
    let still : Stays o o' 3 i = record {
      buffers = λ q s apart e. e;
      views = λ q v apart e. e;
      shaders = λ q apart e. ap is_some (kept_by_remove o.shaders i q (apart refl)) ∙ e;
    } in
    state_fits_by o o' 3 i still h.buffers
    (λ q v e. rests_stay o o' 3 i still v (λ z. absurd (unequal 3 1 refl z)) (h.views q v e))
    h.contexts
    (apart_by 3 i o.contexts (λ c. holds_shader c.bindings i)
    (λ c f. record {
      buffers = λ z. absurd (unequal 3 1 refl z);
      views =
          λ z. absurd (unequal 3 2 refl z);
      shaders = λ z. f;
    })
    (left_of (is_set o (λ b. holds_shader b i)) (is_listed o 3 i) unused) (λ z. absurd (unequal 3 1 refl z))
    (λ z. opened_none o 3 i free))
    (λ l cs e. (
      h.lists l cs e,
      unlisted 3 i cs (λ z. absurd (unequal 3 1 refl z))
          (λ z. listed_member o l cs e 3 i free),
    ))

list_gone : (o : Objects) (i : ℕ) → StateFits o → StateFits (record o { lists = remove o.lists i })
list_gone o i h =
    let o' : Objects = record o { lists = remove o.lists i } in
    let still : Stays o o' 0 0 = same_objects o o' refl refl refl in
    state_goes_on o o' still h.buffers (views_still o o' still (λ q v e. e) h.views) h.contexts
    (λ l cs e. h.lists l cs (left_by_remove o.lists i l cs e))

gone_if : (t1 t2 t3 t4 : Bool) (o : Objects) (i : ℕ) (last : List Check)
    → Passed (if t1 then unused_buffer o i else if t2 then unused_view o i else if t3 then unused_shader o i else if
    t4 then unused_query o i else last) → StateFits o
    → StateFits (if t1 then record o { buffers = remove o.buffers i } else if t2 then record o {
      views =
          remove o.views i;
    } else if t3 then record o { shaders = remove o.shaders i } else if t4 then record o
    { queries = remove o.queries i } else record o { lists = remove o.lists i })
gone_if true t2 t3 t4 o i last p h = buffer_gone o i p.1.0 h
gone_if false true t3 t4 o i last p h = view_gone o i p.1.0 h
gone_if false false true t4 o i last p h = shader_gone o i p.1.0 h
gone_if false false false true o i last p h = fits_queries o (remove o.queries i) h
gone_if false false false false o i last p h = list_gone o i h

-- ---- all calls of the device

pub fits_created_buffer : (n : ℕ) (o : Objects) (k size usage bind misc stride : ℕ) (bytes : List ℕ)
    → Passed (buffer_checks o k size usage bind misc stride bytes) → StateFits o
    → StateFits (made_by n o (calls.Buffer k size usage bind misc stride bytes))
fits_created_buffer n o k size usage bind misc stride bytes p h =
    fits_buffer o k (record { size = size; usage = usage_from usage; bind = bind; misc = misc; stride = stride })
    p.1.0 (new_bytes size usage bind misc stride ((usage == 2) && nat_lt 4194304 size) p.1.1.1.0
    p.1.1.1.1.1.1.1.1.0 p.1.1.1.1.1.1.0) h

pub fits_created_view : (n : ℕ) (o : Objects) (view res kind form components first count : ℕ)
    → Passed (view_checks o (described o res kind form components first count) view kind form components)
    → StateFits o
    → StateFits (made_by n o (calls.View view res kind form components first count))
fits_created_view n o view res kind form components first count p h =
    fits_view o view (described o res kind form components first count) p.1.1.0
    (described_fits o view res kind form components first count h p) h

pub fits_created_shader : (n : ℕ) (o : Objects) (k : ℕ) (words : List ℕ) → StateFits o
    → StateFits (made_by n o (calls.CreateShader k words))
fits_created_shader n o k words h = fits_shader o k (record { call = n; words = words }) h

pub fits_created_query : (n : ℕ) (o : Objects) (k sort : ℕ) → StateFits o → StateFits (made_by n o (calls.Query k sort))
fits_created_query n o k sort h =
    fits_queries o (insert o.queries k (record { sort = sort; begun = false; ended = None })) h

pub fits_destroyed : (o : Objects) (class i : ℕ) → Passed (destroy_checks o class i) → StateFits o
    → StateFits (destroyed o class i)
fits_destroyed o class i p h = gone_if (class == 1) (class == 2) (class == 3) (class == 4) o i
    (if class == 5 then known_list o i else (true, BadUsage) ∷ []) p h
