-- The parts of a list's ranges, one for each of its calls.
use Rattle.std.proofs.Common.{◌≡◌, ℕ, zero, suc, ◌+◌, ◌-◌, ◌≤◌, List, [], ◌∷◌, ◌++◌, length, take, drop, min, Some, refl, sym, ap, subst, inl, inr, ◌∙◌, append_assoc, append-nil, arith}
use Rattle.std.specs.Prelude.{slice_get, slice_index_or}
use Rattle.std.specs.Option.{option_map}
use Rattle.std.specs.List.{filter_map}
use Rattle.std.proofs.Math.Numerals.{add-one}
use Rattle.std.proofs.Math.Seq.{drop-append_seam}
use Rattle.std.proofs.lemmas.Bool.{cases_lt}
use Rattle.std.proofs.lemmas.List.{length-append, length-drop, take_all}
use Rattle.std.proofs.lemmas.List.Elements.{filter_map-append}
use Rattle.dx_types.specs.declared.range.ResRange.{ResRange}
use Rattle.call_log.specs.Call.{Call}
use Rattle.d3d_model.specs.Binding.{Bindings, default_bindings}
use Rattle.d3d_model.specs.D3dState.{Numbered, Objects}
use Rattle.d3d_model.specs.Past.{Deed, Past, then_done}
use Rattle.d3d_model.specs.Stream.{binds, deeds, deeds_from, set_by}
use Rattle.d3d_model.specs.Uses.{range_bound}
use Rattle.d3d_uses.specs.Summary.{Records, Summarises, Uses}
use Rattle.d3d_effects.specs.Listed.{KeepsList, bindings_after, bound_by_list, cut_at, ends_from, parts_from, parts_of_list}
use Rattle.d3d_effects.specs.declared.listed.ListUses.{ListUses}
use Rattle.d3d_effects.proofs.ListCalls.{bound_each, then_more}

pub joined : List (List ResRange) → List ResRange
joined [] = []
joined (p ∷ ps) = p ++ joined ps

-- what a list binds is its parts, one behind the other
bound_joined : (o : Objects) (b : Bindings) (cs : List Numbered) → filter_map range_bound (deeds_from o b cs) ≡ joined (parts_from o b cs)
unfolding joined parts_from
bound_joined o b [] = refl
bound_joined o b (c ∷ cs) =
    filter_map-append range_bound (deeds o b c.call) (deeds_from o (set_by o b c.call) cs)
    ∙ ap (λ (rs : List ResRange). rs ++ filter_map range_bound (deeds_from o (set_by o b c.call) cs)) (bound_each o b c.call)
    ∙ ap (λ (rs : List ResRange). binds o b c.call ++ rs) (bound_joined o (set_by o b c.call) cs)

-- ---- one call more

parts_more : (o : Objects) (b : Bindings) (cs : List Numbered) (c : Numbered) → parts_from o b (cs ++ c ∷ []) ≡ parts_from o b cs ++ binds o (bindings_after o b cs) c.call ∷ []
unfolding parts_from bindings_after
parts_more o b [] c = refl
parts_more o b (d ∷ cs) c = ap (λ (ps : List (List ResRange)). binds o b d.call ∷ ps) (parts_more o (set_by o b d.call) cs c)

ends_last : (n : ℕ) (ps : List (List ResRange)) (p : List ResRange) → ends_from n (ps ++ p ∷ []) ≡ ends_from n ps ++ (n + length (joined (ps ++ p ∷ []))) ∷ []
unfolding ends_from joined
ends_last n [] p = ap (λ (rs : List ResRange). (n + length rs) ∷ []) (sym (append-nil p))
ends_last n (q ∷ ps) p =
    ap (λ (l : List ℕ). (n + length q) ∷ l)
    (ends_last (n + length q) ps p
    ∙ ap (λ (k : ℕ). ends_from (n + length q) ps ++ k ∷ []) (omega (arith, length-append q (joined (ps ++ p ∷ [])))))

-- where the parts end, with one call more
pub ends_more : (o : Objects) (cs : List Numbered) (c : Numbered) (ends : List ℕ) (len : ℕ) → ends ≡ ends_from 0 (parts_of_list o cs) → len ≡ length (bound_by_list o (cs ++ c ∷ []))
    → ends ++ len ∷ [] ≡ ends_from 0 (parts_of_list o (cs ++ c ∷ []))
ends_more o cs c ends len old is =
    let p = binds o (bindings_after o default_bindings cs) c.call in
    let ps = parts_of_list o cs in
    let more = parts_more o default_bindings cs c in
    let long : len ≡ 0 + length (joined (ps ++ p ∷ [])) =
    omega (arith, is, ap (λ (rs : List ResRange). length rs) (bound_joined o default_bindings (cs ++ c ∷ [])), ap (λ (l : List (List ResRange)). length (joined l)) more) in
    ap (λ (l : List ℕ). l ++ len ∷ []) old ∙ ap (λ (k : ℕ). ends_from 0 ps ++ k ∷ []) long ∙ sym (ends_last 0 ps p) ∙ ap (ends_from 0) (sym more)

-- ---- the parts, from the ranges and where each ends

take_seam : (p rest : List ResRange) → take (length p) (p ++ rest) ≡ p
take_seam [] rest = refl
take_seam (r ∷ p) rest = ap (λ (l : List ResRange). r ∷ l) (take_seam p rest)

first_part : (pre p rest : List ResRange) → take (length pre + length p - length pre) (drop (length pre) (pre ++ (p ++ rest))) ≡ p
first_part pre p rest =
    let long : length pre + length p - length pre ≡ length p = omega arith in
    ap (λ (k : ℕ). take k (drop (length pre) (pre ++ (p ++ rest)))) long ∙ ap (take (length p)) (drop-append_seam pre (p ++ rest)) ∙ take_seam p rest

cut_joined : (pre : List ResRange) (ps : List (List ResRange)) → cut_at (length pre) (pre ++ joined ps) (ends_from (length pre) ps) ≡ ps
unfolding cut_at ends_from joined
cut_joined pre [] = refl
cut_joined pre (p ∷ ps) =
    let long = length-append pre p in
    ap (λ (rs : List ResRange). rs ∷ cut_at (length pre + length p) (pre ++ (p ++ joined ps)) (ends_from (length pre + length p) ps)) (first_part pre p (joined ps))
    ∙ ap (λ (rs : List ResRange). p ∷ cut_at (length pre + length p) rs (ends_from (length pre + length p) ps)) (sym (append_assoc pre p (joined ps)))
    ∙ ap (λ (k : ℕ). p ∷ cut_at k ((pre ++ p) ++ joined ps) (ends_from k ps)) (sym long)
    ∙ ap (λ (l : List (List ResRange)). p ∷ l) (cut_joined (pre ++ p) ps)

-- what is kept of a list gives its parts
pub kept_parts : (o : Objects) (cs : List Numbered) (l : ListUses) → KeepsList o cs l → cut_at 0 l.ranges.items l.ends.items ≡ parts_of_list o cs
kept_parts o cs l keeps =
    ap (λ (rs : List ResRange). cut_at 0 rs l.ends.items) (keeps.bound ∙ bound_joined o default_bindings cs)
    ∙ ap (cut_at 0 (joined (parts_of_list o cs))) keeps.ends
    ∙ cut_joined [] (parts_of_list o cs)

-- ---- one part

-- where the part of a place starts
pub start_of : ℕ → List ℕ → ℕ → ℕ
start_of start ends zero = start
start_of start ends (suc k) = slice_index_or ends k 0

none_taken : (k : ℕ) (xs : List ResRange) → [] ≡ take (0 - k) xs
none_taken k xs = ap (λ (n : ℕ). take n xs) (let none : 0 ≡ 0 - k = omega arith in none)

pub part_cut : (start : ℕ) (ranges : List ResRange) (ends : List ℕ) (k : ℕ)
    → slice_index_or (cut_at start ranges ends) k [] ≡ take (slice_index_or ends k 0 - start_of start ends k) (drop (start_of start ends k) ranges)
unfolding cut_at start_of
part_cut start ranges [] zero = none_taken start (drop start ranges)
part_cut start ranges [] (suc k) = none_taken 0 (drop 0 ranges)
part_cut start ranges (e ∷ es) zero = refl
part_cut start ranges (e ∷ es) (suc zero) = part_cut e ranges es zero
part_cut start ranges (e ∷ es) (suc (suc k)) = part_cut e ranges es (suc k)

all_dropped : (xs : List ResRange) (k : ℕ) → length xs ≤ k → drop k xs ≡ []
all_dropped [] zero h = refl
all_dropped [] (suc k) h = refl
all_dropped (x ∷ xs) zero h = absurd (omega arith)
all_dropped (x ∷ xs) (suc k) h = all_dropped xs k (omega (arith, h))

none_of_none : (k : ℕ) → take {A = ResRange} k [] ≡ []
none_of_none zero = refl
none_of_none (suc k) = refl

-- a part is the same where its ends are no further than the ranges go
pub clamped : (xs : List ResRange) (start end s e : ℕ) → e ≡ min end (length xs) → s ≡ min start e → take (e - s) (drop s xs) ≡ take (end - start) (drop start xs)
clamped xs start end s e is at = elim (cases_lt e start) [
  | inl past ↦
      let none : e - s ≡ 0 = omega (arith, at, past) in
      ap (λ (k : ℕ). take k (drop s xs)) none ∙ elim (cases_lt (length xs) start) [
        | inl far ↦ sym (ap (take (end - start)) (all_dropped xs start (omega (arith, far))) ∙ none_of_none (end - start))
        | inr near ↦ sym (ap (λ (k : ℕ). take k (drop start xs)) (let z : end - start ≡ 0 = omega (arith, is, past, near) in z))
      ]
  | inr before ↦
      let same : s ≡ start = omega (arith, at, before) in
      ap (λ (k : ℕ). take (e - k) (drop k xs)) same ∙ elim (cases_lt (length xs) end) [
        | inl far ↦
            let long : length (drop start xs) ≤ e - start = omega (arith, is, far, length-drop start xs) in
            let longer : length (drop start xs) ≤ end - start = omega (arith, far, length-drop start xs) in
            take_all (e - start) (drop start xs) long ∙ sym (take_all (end - start) (drop start xs) longer)
        | inr near ↦ ap (λ (k : ℕ). take (k - start) (drop start xs)) (let same : e ≡ end = omega (arith, is, near) in same)
      ]
]

some_back : {X : Type 0} (x y : X) → Some x ≡ Some y → x ≡ y
some_back x y e = cc

-- the part of a call is what it binds where the calls before it have set theirs
pub part_is : (o : Objects) (b : Bindings) (cs : List Numbered) (i : ℕ) (call : Call) → Some call ≡ option_map (λ (c : Numbered). c.call) (slice_get cs i)
    → slice_index_or (parts_from o b cs) i [] ≡ binds o (bindings_after o b (take i cs)) call
unfolding parts_from bindings_after
part_is o b [] i call e = absurd cc
part_is o b (c ∷ cs) zero call e = ap (binds o b) (sym (some_back call c.call e))
part_is o b (c ∷ cs) (suc i) call e = part_is o (set_by o b c.call) cs i call e

deeds_next : (o : Objects) (b : Bindings) (cs : List Numbered) (i : ℕ) (call : Call) → Some call ≡ option_map (λ (c : Numbered). c.call) (slice_get cs i)
    → deeds_from o b (take (suc i) cs) ≡ deeds_from o b (take i cs) ++ deeds o (bindings_after o b (take i cs)) call
unfolding bindings_after
deeds_next o b [] i call e = absurd cc
deeds_next o b (c ∷ cs) zero call e = append-nil (deeds o b c.call) ∙ ap (deeds o b) (sym (some_back call c.call e))
deeds_next o b (c ∷ cs) (suc i) call e =
    ap (λ (ds : List Deed). deeds o b c.call ++ ds) (deeds_next o (set_by o b c.call) cs i call e)
    ∙ sym (append_assoc (deeds o b c.call) (deeds_from o (set_by o b c.call) (take i cs)) (deeds o (bindings_after o (set_by o b c.call) (take i cs)) call))

-- what a call of a list does is kept behind what those before it do
pub keeps_next : (o : Objects) (cs : List Numbered) (i n : ℕ) (call : Call) (old mid new : Uses) → Some call ≡ option_map (λ (c : Numbered). c.call) (slice_get cs i)
    → Records old n (deeds_from o default_bindings (take i cs)) mid → Records mid n (deeds o (bindings_after o default_bindings (take i cs)) call) new
    → Records old n (deeds_from o default_bindings (take (i + 1) cs)) new
keeps_next o cs i n call old mid new e before next =
    let ds = deeds_from o default_bindings (take i cs) in
    let es = deeds o (bindings_after o default_bindings (take i cs)) call in
    subst (λ (all : List Deed). Records old n all new) (sym (deeds_next o default_bindings cs i call e) ∙ ap (λ (k : ℕ). deeds_from o default_bindings (take k cs)) (sym (add-one i)))
    (λ past res h. subst (λ (p : Past). Summarises p new res) (then_more n past ds es) (next (then_done n past ds) res (before past res h)))

-- ---- the part of one call

-- where the part of a call starts
starts_at : ℕ → List ℕ → ℕ → ℕ
starts_at s ends zero = s
starts_at s ends (suc k) = slice_index_or ends k 0

starts_next : (s e : ℕ) (ends : List ℕ) (k : ℕ) → starts_at e ends k ≡ slice_index_or (e ∷ ends) k 0
unfolding starts_at
starts_next s e ends zero = refl
starts_next s e ends (suc k) = refl

none_from : (s : ℕ) (ranges : List ResRange) → [] ≡ take (0 - s) (drop s ranges)
none_from s ranges = ap (λ (n : ℕ). take n (drop s ranges)) (let z : 0 ≡ 0 - s = omega arith in z)

cut_index : (s : ℕ) (ranges : List ResRange) (ends : List ℕ) (item : ℕ)
    → slice_index_or (cut_at s ranges ends) item [] ≡ take (slice_index_or ends item 0 - starts_at s ends item) (drop (starts_at s ends item) ranges)
unfolding cut_at starts_at
cut_index s ranges [] zero = none_from s ranges
cut_index s ranges [] (suc k) = none_from 0 ranges
cut_index s ranges (e ∷ ends) zero = refl
cut_index s ranges (e ∷ ends) (suc k) =
    cut_index e ranges ends k ∙ ap (λ (n : ℕ). take (slice_index_or ends k 0 - n) (drop n ranges)) (starts_next s e ends k)

-- the part of the first call
pub part_at_start : (ranges part : List ResRange) (ends : List ℕ) (item end start : ℕ) → part ≡ take (end - start) (drop start ranges) → end ≡ slice_index_or ends item 0 → item ≡ 0 → start ≡ 0
    → part ≡ slice_index_or (cut_at 0 ranges ends) item []
unfolding starts_at
part_at_start ranges part ends item end start is ee first es =
    is ∙ ap (λ (n : ℕ). take (n - start) (drop start ranges)) ee ∙ ap (λ (n : ℕ). take (slice_index_or ends item 0 - n) (drop n ranges)) es
    ∙ ap (λ (i : ℕ). take (slice_index_or ends i 0 - 0) (drop 0 ranges)) first ∙ sym (cut_index 0 ranges ends 0) ∙ ap (λ (i : ℕ). slice_index_or (cut_at 0 ranges ends) i []) (sym first)

-- and of one behind it
pub part_behind : (ranges part : List ResRange) (ends : List ℕ) (item end start : ℕ) → part ≡ take (end - start) (drop start ranges) → end ≡ slice_index_or ends item 0 → (item ≡ 0 → ⊥)
    → start ≡ slice_index_or ends (item - 1) 0 → part ≡ slice_index_or (cut_at 0 ranges ends) item []
unfolding starts_at
part_behind ranges part ends zero end start is ee later es = absurd (later refl)
part_behind ranges part ends (suc k) end start is ee later es =
    is ∙ ap (λ (n : ℕ). take (n - start) (drop start ranges)) ee
    ∙ ap (λ (n : ℕ). take (slice_index_or ends (suc k) 0 - n) (drop n ranges)) (es ∙ ap (λ (i : ℕ). slice_index_or ends i 0) (let z : suc k - 1 ≡ k = omega arith in z))
    ∙ sym (cut_index 0 ranges ends (suc k))
