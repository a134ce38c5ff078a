-- The items of calls, by themselves and in a list, do the deeds of the calls.
use Rattle.std.proofs.Common.{◌≡◌, ℕ, zero, suc, Bool, true, false, List, [], ◌∷◌, ◌++◌, length, map}
use Rattle.std.proofs.Common.{refl, sym, ap, subst, inl, inr, ◌⊎◌}
use Rattle.std.specs.Prelude.{◌==◌, ⊤, is_some, slice_set, slice_index_or, if◌then◌else◌}
use Rattle.std.specs.List.{AllByRecursion}
use Rattle.std.proofs.lemmas.Bool.{eqb-true}
use Rattle.dx_types.specs.declared.range.Range.{Range}
use Rattle.dx_types.specs.declared.range.ResRange.{ResRange}
use Rattle.call_log.specs.Call as calls
use Rattle.call_log.specs.Call.{Call}
use Rattle.base_lemmas.specs.IdMap.{IdMap, get}
use Rattle.d3d_model.specs.Resource.{Buffers}
use Rattle.d3d_model.specs.Binding as binding
use Rattle.d3d_model.specs.Binding.{Bindings, default_bindings}
use Rattle.d3d_model.specs.D3dState.{Objects, Query, Numbered, Context, default_context}
use Rattle.d3d_model.specs.Past.{Past, Discards, Binds}
use Rattle.d3d_model.specs.Stream.{set_by, range_of, binds, deeds, deeds_from}
use Rattle.d3d_model.specs.Effect.{queries_after, played, list_start}
use Rattle.core_model.specs.Script.{Play, Create, Discard, No_overwrite, Stage, Command, Destroy, Create_shader}
use Rattle.core_model.specs.Script.{Mark_query, Set_state, Turn, Item}
use Rattle.core_model.specs.Lawful.{resets}
use Rattle.log_script.specs.Makers.{maker, bytes_from, of_makers}
use Rattle.log_script.specs.Plays.{staged, play_of}
use Rattle.log_script.specs.Turns.{item_of, list_items}
use Rattle.log_script.specs.Fitting.{LivesAndFits, ListFits}
use Rattle.log_script.proofs.Owed.StayingFit.{all_by, RangesFit}
use Rattle.log_script.proofs.Owed.Fronts.{same_head, same_tail}
use Rattle.log_script.proofs.Owed.QuietPlays.{is_quiet, staged_quiet, play_quiet}
use Rattle.log_script.proofs.Owed.BoundDeeds.{Lives, Does, DoAll}

-- ---- one call

pub renews_none : (n item : ℕ) (ends : Bool) (play : Play) (bound : List Range) → is_quiet play ≡ true → (name : ℕ)
    → resets name (Item n item ends play bound) ≡ false
renews_none n item ends (Create buffer bytes) bound e name = absurd cc
renews_none n item ends (Discard buffer from bytes) bound e name = absurd cc
renews_none n item ends (No_overwrite buffer from bytes) bound e name = absurd cc
renews_none n item ends (Stage bytes target skip) bound e name = refl
renews_none n item ends (Command w skip) bound e name = refl
renews_none n item ends (Destroy buffer) bound e name = absurd cc
renews_none n item ends Create_shader bound e name = absurd cc
renews_none n item ends (Mark_query query begins) bound e name = refl
renews_none n item ends Set_state bound e name = refl

-- what a map writes lives
abbrev pub WriteLives : Buffers → Call → Type 0
WriteLives b (calls.MapWrite res mode offset bytes) = is_some (get b res) ≡ true
WriteLives b _ = ⊤

pub ranges_live : (o : Objects) (rs : List ResRange) → RangesFit o rs → AllByRecursion (Lives o.buffers) rs
ranges_live o rs h = all_by (LivesAndFits o) (Lives o.buffers) (λ r f. (f.has_byte, ap is_some f.lives)) rs h

module _ (n item : ℕ) (ends : Bool) (b : Buffers) (past : Past) where
  quiet_does : (play : Play) (rs bound : List ResRange) → is_quiet play ≡ true → AllByRecursion (Lives b) rs
      → bound ≡ rs → Does n b past (Item n item ends play (of_makers past bound)) (map Binds rs)
  quiet_does play rs bound e h same =
      inl (record {
        ranges = rs;
        live = h;
        deeds = refl;
        call = refl;
        takes = ap (of_makers past) same;
        keeps =
            renews_none n item ends play (of_makers past bound) e;
      })

  -- a map, by tests of its mode
  map_does : (discards over stages : Bool) (res offset : ℕ) (bytes : List ℕ) (bound rs : List ResRange)
      → (discards ≡ true → stages ≡ false) → is_some (get b res) ≡ true
      → AllByRecursion (Lives b) (if stages then rs else []) → bound ≡ (if stages then rs else [])
      → Does n b past
      (Item n item ends (if discards then Discard (maker past res) offset bytes else if over then No_overwrite
      (maker past res) offset bytes else staged past binding.Never bytes
      (bytes_from past res offset (length bytes))) (of_makers past bound))
      ((if discards then Discards res ∷ [] else []) ++ map Binds (if stages then rs else []))
  map_does true over true res offset bytes bound rs apart lives h same = absurd (never (apart refl))
    where
      never : true ≡ false → ⊥
      never e = cc
  map_does true over false res offset bytes bound rs apart lives h same =
      inr (record {
        res = res;
        live = lives;
        deeds = refl;
        call = refl;
        takes = ap (of_makers past) same;
        renewed =
            λ name. refl;
      })
  map_does false true stages res offset bytes bound rs apart lives h same =
      inl (record {
        ranges = if stages then rs else [];
        live = h;
        deeds = refl;
        call = refl;
        takes =
            ap (of_makers past) same;
        keeps = λ name. refl;
      })
  map_does false false stages res offset bytes bound rs apart lives h same =
      quiet_does (staged past binding.Never bytes (bytes_from past res offset (length bytes)))
      (if stages then rs else []) bound (staged_quiet past binding.Never bytes
      (bytes_from past res offset (length bytes))) h same

  other_mode : (mode : ℕ) → (mode == 0) ≡ true → (mode == 2) ≡ false
  other_mode mode e = ap (λ (m : ℕ). m == 2) (eqb-true mode 0 e)

  pub item_does : (now o : Objects) (set s : Bindings) (c : Call) (bound : List ResRange)
      → AllByRecursion (Lives b) (binds o s c) → WriteLives b c → bound ≡ binds o s c
      → Does n b past (Item n item ends (play_of past now set c) (of_makers past bound)) (deeds o s c)
  item_does now o set s (calls.MapWrite res mode offset bytes) bound h lives same =
      map_does (mode == 0) (mode == 1) (mode == 2) res offset bytes bound (range_of res offset (length bytes))
      (other_mode mode) lives h same
  item_does now o set s c bound h lives same = quiet_does (play_of past now set c) (binds o s c) bound
      (play_quiet past now set c refl) h same

-- ---- the calls of a list

-- the objects with other queries and contexts, as the calls of a list leave them
abbrev pub amid : Objects → IdMap Query → List Context → Objects
amid o queries contexts = record o { queries = queries; contexts = contexts }

same_binds : (o : Objects) (queries : IdMap Query) (contexts : List Context) (b : Bindings) (c : Call)
    → binds (amid o queries contexts) b c ≡ binds o b c
same_binds o queries contexts b (calls.Dispatch x y z) = refl
same_binds o queries contexts b _ = refl

same_set : (o : Objects) (queries : IdMap Query) (contexts : List Context) (b : Bindings) (c : Call)
    → set_by (amid o queries contexts) b c ≡ set_by o b c
same_set o queries contexts b (calls.SetSrv slot view) = refl
same_set o queries contexts b _ = refl

module _ (n : ℕ) (past : Past) (o : Objects) where
  pub list_do : (queries : IdMap Query) (x : Context) (xs : List Context) (cs : List Numbered)
      → ListFits o x.bindings cs → AllByRecursion (λ c. WriteLives o.buffers c.call) cs
      → DoAll n o.buffers past (list_items n past (amid o queries (x ∷ xs)) cs) (deeds_from o x.bindings cs)
  list_do queries x xs [] fits lives = (
    [],
    (
      [],
      (
        refl,
        (
          inl (record { ranges = []; live = tt; deeds = refl; call = refl; takes = refl; keeps = λ name. refl }),
          refl,
        ),
      ),
    ),
  )
  list_do queries x xs (c ∷ cs) fits lives =
      let now : Objects = amid o queries (x ∷ xs) in
      let set : Bindings = set_by now x.bindings c.call in
      let same : set ≡ set_by o x.bindings c.call = same_set o queries (x ∷ xs) x.bindings c.call in
      let own = item_does n c.number false o.buffers past now o x.bindings x.bindings c.call
      (binds now x.bindings c.call) (ranges_live o (binds o x.bindings c.call) fits.0.binds) lives.0
      (same_binds o queries (x ∷ xs) x.bindings c.call) in
      let rest = list_do (queries_after n queries c.call) (record { bindings = set; recorded = x.recorded }) xs cs
      (subst (λ (b : Bindings). ListFits o b cs) (sym same) fits.1) lives.1 in (
        deeds o x.bindings c.call,
        (
          deeds_from o (set_by o x.bindings c.call) cs,
          (
            refl,
            (
              own,
              subst (λ (b : Bindings). DoAll n o.buffers past (list_items n past (played n now c.call) cs)
                  (deeds_from o b cs)) same rest,
            ),
          ),
        ),
      )

  -- where a list's turns are cut before a call's item: the calls before it, and what it plays
  pub record CutAt (b : Bindings) (cs : List Numbered) (part : List Turn) (t : Turn) : Type 0 where
    pub done : List Numbered
    pub call : Numbered
    pub back : List Numbered
    pub are : cs ≡ done ++ call ∷ back
    pub does : DoAll n o.buffers past part (deeds_from o b done)
    pub now : Objects
    pub set : Bindings
    pub bound : List Range
    pub is : t ≡ Item n call.number false (play_of past now set call.call) bound

  no_turn : (part : List Turn) (t : Turn) (rest : List Turn) → [] ≡ part ++ t ∷ rest → ⊥
  no_turn [] t rest e = cc
  no_turn (u ∷ part) t rest e = cc

  pub cut_list : (queries : IdMap Query) (x : Context) (xs : List Context) (cs : List Numbered)
      → ListFits o x.bindings cs → AllByRecursion (λ c. WriteLives o.buffers c.call) cs
      → (part : List Turn) (t : Turn) (rest : List Turn) → list_items n past (amid o queries (x ∷ xs)) cs
      ≡ part ++ t ∷ rest → (t ≡ Item n n true Set_state []) ⊎ CutAt x.bindings cs part t
  cut_list queries x xs [] fits lives [] t rest e = inl (sym (same_head (Item n n true Set_state []) t [] rest e))
  cut_list queries x xs [] fits lives (u ∷ part) t rest e = absurd
      (no_turn part t rest (same_tail (Item n n true Set_state []) u [] (part ++ t ∷ rest) e))
  cut_list queries x xs (c ∷ cs) fits lives [] t rest e =
      let now : Objects = amid o queries (x ∷ xs) in
      inr (record {
        done = [];
        call = c;
        back = cs;
        are = refl;
        does = refl;
        now = now;
        set = x.bindings;
        bound = of_makers past (binds now x.bindings c.call);
        is = sym (same_head (item_of n c.number false past now c.call) t
            (list_items n past (played n now c.call) cs) rest e);
      })
  cut_list queries x xs (c ∷ cs) fits lives (u ∷ part) t rest e =
      let now : Objects = amid o queries (x ∷ xs) in
      let set : Bindings = set_by now x.bindings c.call in
      let same : set ≡ set_by o x.bindings c.call = same_set o queries (x ∷ xs) x.bindings c.call in
      let first : item_of n c.number false past now c.call ≡ u =
      same_head (item_of n c.number false past now c.call) u (list_items n past (played n now c.call) cs)
      (part ++ t ∷ rest) e in
      let own = item_does n c.number false o.buffers past now o x.bindings x.bindings c.call
      (binds now x.bindings c.call) (ranges_live o (binds o x.bindings c.call) fits.0.binds) lives.0
      (same_binds o queries (x ∷ xs) x.bindings c.call) in
      elim (cut_list (queries_after n queries c.call) (record { bindings = set; recorded = x.recorded }) xs cs
      (subst (λ (b : Bindings). ListFits o b cs) (sym same) fits.1) lives.1 part t rest
      (same_tail (item_of n c.number false past now c.call) u (list_items n past (played n now c.call) cs)
      (part ++ t ∷ rest) e)) [
        | inl s ↦ inl s
        | inr s ↦ inr (record {
          done = c ∷ s.done;
          call = s.call;
          back = s.back;
          are = ap (λ (l : List Numbered). c ∷ l) s.are;
          does = (
            deeds o x.bindings c.call,
            (
              deeds_from o (set_by o x.bindings c.call) s.done,
              (
                refl,
                (
                  subst (λ (v : Turn). Does n o.buffers past v (deeds o x.bindings c.call)) first own,
                  subst (λ (b : Bindings). DoAll n o.buffers past part (deeds_from o b s.done)) same s.does,
                ),
              ),
            ),
          );
          now = s.now;
          set = s.set;
          bound = s.bound;
          is = s.is;
        })
      ]

-- ---- contexts

abbrev pub HasFirst : List Context → Type 0
HasFirst [] = ⊥
HasFirst (x ∷ xs) = ⊤

pub first_set : (xs : List Context) (i : ℕ) (v : Context) → HasFirst xs → HasFirst (slice_set xs i v)
first_set [] i v h = absurd h
first_set (x ∷ xs) zero v h = tt
first_set (x ∷ xs) (suc i) v h = tt

-- a list starts with nothing set
pub record StartOf (o : Objects) : Type 0 where
  pub recorded : List Numbered
  pub others : List Context
  pub is : list_start o ≡ amid o o.queries (record { bindings = default_bindings; recorded = recorded } ∷ others)

pub start_of : (o : Objects) → HasFirst o.contexts → StartOf o
start_of o h = by_contexts o.contexts refl h
  where
    by_contexts : (k : List Context) → o.contexts ≡ k → HasFirst k → StartOf o
    by_contexts [] e f = absurd f
    by_contexts (x ∷ xs) e f = record {
      recorded = x.recorded;
      others = xs;
      is = ap (λ (k : List Context). amid o o.queries (slice_set k 0
          (record { bindings = default_bindings; recorded = (slice_index_or k 0 default_context).recorded }))) e;
    }
