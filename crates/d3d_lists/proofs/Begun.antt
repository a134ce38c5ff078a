-- Which queries a list leaves begun, after each change.
use Rattle.std.proofs.Common.{◌≡◌, ℕ, ◌+◌, Bool, true, false, ◌||◌, cond, List, [], ◌∷◌, ◌++◌, map, refl, sym, ap, ◌∙◌, arith}
use Rattle.std.specs.Prelude.{◌==◌, nat_lt}
use Rattle.std.specs.List.{flat_map, list_any}
use Rattle.std.proofs.lemmas.Bool.Decides.{nat_tests}
use Rattle.base_lemmas.specs.IdMap.{empty}
use Rattle.call_log.specs.Call as calls
use Rattle.call_log.specs.View.{call_view}
use Rattle.call_log.specs.declared.call.Call as log
use Rattle.call_log.specs.declared.call.Call.TheVariants as codes
use Rattle.d3d_model.specs.D3dState.{Numbered}
use Rattle.d3d_model.specs.Stream.{begins, begun_after, begun_in_list}
use Rattle.d3d_lists.specs.declared.numbered.Numbered as code
use Rattle.d3d_lists.specs.Calls.{calls_in, numbered}
use Rattle.d3d_lists.specs.Begun.{CountsBegun}
use Rattle.d3d_lists.specs.Counts.{Counts, count_at}
use Rattle.d3d_lists.proofs.Numbers.{count-empty}
use Rattle.d3d_lists.proofs.Tables.{calls_in-more}

turned : (q id : ℕ) → q == id ≡ id == q
turned q id = grind (arith, nat_tests)

-- more calls
pub begun_after-append : (query : ℕ) (cs ds : List Numbered) (before : Bool) → begun_after query before (cs ++ ds) ≡ begun_after query (begun_after query before cs) ds
begun_after-append query [] ds before = refl
begun_after-append query (c ∷ cs) ds before = begun_after-append query cs ds _

pub begun_none : (begun : Counts) (cs : List Numbered) → begun ≡ empty → cs ≡ [] → CountsBegun begun cs
begun_none begun cs e f = λ q. (λ i. nat_lt 0 (count_at (e i) q)) ∙ ap (nat_lt 0) (count-empty q) ∙ sym (ap (begun_after q false) f)

-- the counts are the same
pub begun_same : (old new : Counts) (cs ds : List Numbered) → ((k : ℕ) → count_at new k ≡ count_at old k) → ds ≡ cs → CountsBegun old cs → CountsBegun new ds
begun_same old new cs ds same e h = λ q. ap (nat_lt 0) (same q) ∙ h q ∙ sym (ap (begun_after q false) e)

above_more : (n : ℕ) (b before : Bool) → nat_lt 0 n ≡ before → nat_lt 0 (n + cond b 1 0) ≡ before || b
above_more n true before e = grind (arith, nat_tests)
above_more n false true e = ap (nat_lt 0) (omega arith) ∙ e
above_more n false false e = ap (nat_lt 0) (omega arith) ∙ e

-- a call begins a query
pub begun_begin : (old new : Counts) (cs ds : List Numbered) (n id : ℕ) → ((k : ℕ) → count_at new k ≡ count_at old k + cond (k == id) 1 0) → ds ≡ cs ++ record { number = n; call = calls.Begin id } ∷ [] → CountsBegun old cs → CountsBegun new ds
begun_begin old new cs ds n id more e h = λ q.
    ap (nat_lt 0) (more q) ∙ above_more (count_at old q) (q == id) (begun_after q false cs) (h q) ∙ ap (λ b. begun_after q false cs || b) (turned q id)
    ∙ sym (ap (begun_after q false) e ∙ begun_after-append q cs (record { number = n; call = calls.Begin id } ∷ []) false)

above_none : (n : ℕ) (b before : Bool) → nat_lt 0 n ≡ before → nat_lt 0 (cond b 0 n) ≡ cond b false before
above_none n true before e = refl
above_none n false before e = e

-- a call ends one
pub begun_end : (old new : Counts) (cs ds : List Numbered) (n id : ℕ) → ((k : ℕ) → count_at new k ≡ cond (k == id) 0 (count_at old k)) → ds ≡ cs ++ record { number = n; call = calls.EndQuery id } ∷ [] → CountsBegun old cs → CountsBegun new ds
begun_end old new cs ds n id none e h = λ q.
    ap (nat_lt 0) (none q) ∙ above_none (count_at old q) (q == id) (begun_after q false cs) (h q) ∙ ap (λ b. cond b false (begun_after q false cs)) (turned q id)
    ∙ sym (ap (begun_after q false) e ∙ begun_after-append q cs (record { number = n; call = calls.EndQuery id } ∷ []) false)

-- the call neither begins nor ends a query
pub record IsOther (c : log.Call) : Type 0 where
  pub begin : (query : ℕ) → c ≡ codes.Begin query → ⊥
  pub end : (query : ℕ) → c ≡ codes.EndQuery query → ⊥

other_one : (q n : ℕ) (before : Bool) (c : log.Call) → IsOther c → begun_after q before (record { number = n; call = call_view c } ∷ []) ≡ before
other_one q n before (codes.Buffer id size usage bind misc stride bytes) other = refl
other_one q n before (codes.View view res kind form components first count) other = refl
other_one q n before (codes.CreateShader id words) other = refl
other_one q n before (codes.Query id sort) other = refl
other_one q n before (codes.Destroy class id) other = refl
other_one q n before (codes.SetShader id) other = refl
other_one q n before (codes.SetConstant slot res) other = refl
other_one q n before (codes.SetSrv slot view) other = refl
other_one q n before (codes.SetUav slot view) other = refl
other_one q n before codes.ClearState other = refl
other_one q n before (codes.Dispatch x y z) other = refl
other_one q n before (codes.DispatchIndirect res offset) other = refl
other_one q n before (codes.CopyRegion target target_offset source source_offset len) other = refl
other_one q n before (codes.Copy target source) other = refl
other_one q n before (codes.Update res offset bytes) other = refl
other_one q n before (codes.ClearUav view v0 v1 v2 v3) other = refl
other_one q n before (codes.SetPredication kind id offset value) other = refl
other_one q n before (codes.Begin query) other = absurd (other.begin query refl)
other_one q n before (codes.EndQuery query) other = absurd (other.end query refl)
other_one q n before (codes.MapWrite res mode offset bytes) other = refl
other_one q n before (codes.MapRead res flag offset len) other = refl
other_one q n before (codes.GetData query flag) other = refl
other_one q n before codes.Flush other = refl
other_one q n before (codes.FinishList list) other = refl
other_one q n before (codes.ExecuteList list flag) other = refl
other_one q n before (codes.Draw kind body) other = refl

pub begun_other : (begun : Counts) (cs ds : List Numbered) (n : ℕ) (c : log.Call) → IsOther c → ds ≡ cs ++ record { number = n; call = call_view c } ∷ [] → CountsBegun begun cs → CountsBegun begun ds
begun_other begun cs ds n c other e h = λ q.
    h q ∙ sym (ap (begun_after q false) e ∙ begun_after-append q cs (record { number = n; call = call_view c } ∷ []) false ∙ other_one q n (begun_after q false cs) c other)

-- such a call is appended, or not
pub begun_either : (begun : Counts) (old new : List code.Numbered) (b : Bool) (c : code.Numbered) → IsOther c.call → new ≡ cond b (old ++ c ∷ []) old → CountsBegun begun (calls_in old) → CountsBegun begun (calls_in new)
begun_either begun old new true c other e h = begun_other begun (calls_in old) (calls_in new) c.number c.call other (ap calls_in e ∙ calls_in-more old c) h
begun_either begun old new false c other e h = begun_same begun begun (calls_in old) (calls_in new) (λ k. refl) (ap calls_in e) h

-- ---- queries that are begun and not ended

any_append : (test : ℕ → Bool) (xs ys : List ℕ) → list_any test (xs ++ ys) ≡ list_any test xs || list_any test ys
any_append test [] ys = refl
any_append test (x ∷ xs) ys = ap (λ b. test x || b) (any_append test xs ys) ∙ or_assoc (test x) (list_any test xs) (list_any test ys)
  where
    or_assoc : (a b c : Bool) → a || (b || c) ≡ a || b || c
    or_assoc true b c = refl
    or_assoc false b c = refl

any_flat : (test : ℕ → Bool) (f : code.Numbered → List ℕ) (cs : List code.Numbered) → list_any test (flat_map f cs) ≡ list_any (λ c. list_any test (f c)) cs
any_flat test f [] = refl
any_flat test f (c ∷ cs) = any_append test (f c) (flat_map f cs) ∙ ap (λ b. list_any test (f c) || b) (any_flat test f cs)

flat_view : (cs : List code.Numbered) → flat_map (λ (c : Numbered). begins c.call) (map numbered cs) ≡ flat_map (λ (c : code.Numbered). begins (call_view c.call)) cs
flat_view [] = refl
flat_view (c ∷ cs) = ap (λ (qs : List ℕ). begins (call_view c.call) ++ qs) (flat_view cs)

-- a query that a call begins passes a test
pub any_begun : (test : ℕ → Bool) (cs : List code.Numbered) → list_any (λ (c : code.Numbered). list_any test (begins (call_view c.call))) cs ≡ list_any test (begun_in_list (calls_in cs))
unfolding calls_in
any_begun test cs = sym (ap (list_any test) (flat_view cs) ∙ any_flat test (λ (c : code.Numbered). begins (call_view c.call)) cs)
