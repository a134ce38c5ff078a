-- The cells of a cache, as it is made call by call.
use Rattle.std.proofs.Common.{◌≡◌, ℕ, zero, suc, ◌+◌, ◌-◌, ◌≤◌, ◌<◌, Bool, true, false, cond, List, [], ◌∷◌, ◌++◌, length, take, get_or, Option, Some, None, refl, sym, ap, subst, ◌∙◌, inl, inr, arith, add-one}
use Rattle.std.specs.Prelude.{slice_get, unwrap_or}
use Rattle.std.specs.Option.{option_and_then, option_map}
use Rattle.std.specs.List.{filter_map}
use Rattle.std.proofs.lemmas.Bool.{cases_lt}
use Rattle.std.proofs.lemmas.List.{length-append, map-append, get_or_append_left, get_or_at}
use Rattle.std.proofs.lemmas.List.Elements.{filter_map-append}
use Rattle.dx_types.specs.declared.refusal.Refusal.{Refusal}
use Rattle.call_log.specs.Call.{Issued}
use Rattle.d3d_checks.specs.Created.{token_words}
use Rattle.d3d_model.specs.D3dState.{Shader}
use Rattle.d3d_model.specs.InOrder.{State, before_call, call_at, verdict_in}
use Rattle.d3d_model.specs.Shader.{decodes}
use Rattle.d3d_plan.specs.Planned.{Planned, plan_of, planned, shader_by, shader_unless}
use Rattle.d3d_plan.proofs.Entries.{entry_of}
use Rattle.d3d_state.specs.Shaders.{shader_from}
use Rattle.pipe_cache.specs.Cells.{Cell, IsRising, call_of_cell, calls_in, shader_of}
use Rattle.pipe_cache.specs.Created.{AreTables, created, tokens_by}

-- ---- which shader a call creates

same_shader : (a b : Shader) → Some a ≡ Some b → a ≡ b
same_shader a b e = cc

by_decoding : (n : ℕ) (shader : Shader) (words : List ℕ) (good : Bool)
    → cond good (Some (record { call = n; words = words })) None ≡ Some shader
    → (words ≡ shader.words) × (shader.call ≡ n)
by_decoding n shader words true e =
    let same = same_shader (record { call = n; words = words }) shader e in
    (ap (λ (s : Shader). s.words) same, ap (λ (s : Shader). s.call) (sym same))
by_decoding n shader words false e = absurd cc

by_tokens : (n : ℕ) (shader : Shader) (tokens : Option (List ℕ)) → option_and_then (shader_from n) tokens ≡ Some shader
    → (unwrap_or tokens [] ≡ shader.words) × (shader.call ≡ n)
by_tokens n shader None e = absurd cc
by_tokens n shader (Some words) e = by_decoding n shader words (decodes words) e

by_verdict : (n : ℕ) (i : Issued) (shader : Shader) (why : Option Refusal) → shader_unless n i why ≡ Some shader
    → (unwrap_or (token_words i.call) [] ≡ shader.words) × (shader.call ≡ n)
by_verdict n i shader (Some why) e = absurd cc
by_verdict n i shader None e = by_tokens n shader (token_words i.call) e

-- a shader that is planned has its call's number and token bytes
pub planned_is : (n : ℕ) (s : State) (i : Option Issued) (shader : Shader) → shader_by n s i ≡ Some shader
    → (tokens_by i ≡ shader.words) × (shader.call ≡ n)
planned_is n s None shader e = absurd cc
planned_is n s (Some i) shader e = by_verdict n i shader (verdict_in s i) e

-- ---- call by call

further : (xs : List Planned) (i : ℕ) (x : Planned) → slice_get xs i ≡ Some x → take (suc i) xs ≡ take i xs ++ x ∷ []
further [] i x e = absurd cc
further (y ∷ ys) zero x e = let same : y ≡ x = cc in ap (λ (z : Planned). z ∷ []) same
further (y ∷ ys) (suc i) x e = ap (λ (l : List Planned). y ∷ l) (further ys i x e)

created_further : (plan : List Planned) (i : ℕ) (p : Planned) → slice_get plan i ≡ Some p
    → created (take (i + 1) plan) ≡ created (take i plan) ++ created (p ∷ [])
created_further plan i p e =
    ap (λ (n : ℕ). created (take n plan)) (add-one i) ∙ ap (λ (l : List Planned). created l) (further plan i p e)
    ∙ filter_map-append (λ (q : Planned). q.shader) (take i plan) (p ∷ [])

created_one : (p : Planned) (o : Option Shader) (cells : List Shader) → p.shader ≡ o
    → created (p ∷ []) ≡ filter_map (λ (x : Option Shader). x) (o ∷ [])
created_one p o cells e = ap (λ (x : Option Shader). filter_map (λ (y : Option Shader). y) (x ∷ [])) e

append_none : (xs : List Shader) → xs ++ [] ≡ xs
append_none [] = refl
append_none (x ∷ xs) = ap (λ (l : List Shader). x ∷ l) (append_none xs)

-- a call that creates no shader
pub tables_same : (plan : List Planned) (i : ℕ) (calls : List ℕ) (cells : List Cell) (p : Planned)
    → AreTables plan i calls cells → slice_get plan i ≡ Some p → p.shader ≡ None → AreTables plan (i + 1) calls cells
tables_same plan i calls cells p are at none = record {
  made =
      are.made ∙ sym (append_none (created (take i plan)))
      ∙ ap (λ (l : List Shader). created (take i plan) ++ l) (sym (created_one p None [] none))
      ∙ sym (created_further plan i p at);
  keys = are.keys;
  rising = are.rising;
  below = λ k fits. let le = are.below k fits in omega (arith, le);
}

rises : (calls : List ℕ) (n : ℕ) → IsRising calls → ((k : ℕ) → k < length calls → get_or calls k 0 < n)
    → IsRising (calls ++ n ∷ [])
rises calls n rising less = λ j k before fits.
    let long = length-append calls (n ∷ []) in
    let inside : j < length calls = omega (arith, before, fits, long) in
    let first = get_or_append_left calls (n ∷ []) 0 j inside in
    elim (cases_lt k (length calls)) [
      | inl early ↦ let second = get_or_append_left calls (n ∷ []) 0 k early in let lt = rising j k before early in omega (arith, first, second, lt)
      | inr late ↦
          let last : k ≡ length calls = omega (arith, late, fits, long) in
          let second : get_or (calls ++ n ∷ []) k 0 ≡ n = get_or_at calls n [] 0 k (sym last) in
          let lt = less j inside in omega (arith, first, second, lt)
    ]

-- a call that creates a shader
pub tables_more : (plan : List Planned) (i : ℕ) (calls : List ℕ) (cells : List Cell) (p : Planned) (shader : Shader) (cell : Cell)
    → AreTables plan i calls cells → slice_get plan i ≡ Some p → p.shader ≡ Some shader → shader.call ≡ i + 1
    → shader_of cell ≡ shader
    → AreTables plan (i + 1) (calls ++ (i + 1) ∷ []) (cells ++ cell ∷ [])
tables_more plan i calls cells p shader cell are at some numbered is = record {
  made =
      map-append shader_of cells (cell ∷ []) ∙ ap (λ (l : List Shader). l ++ shader_of cell ∷ []) are.made
      ∙ ap (λ (s : Shader). created (take i plan) ++ s ∷ []) is
      ∙ ap (λ (l : List Shader). created (take i plan) ++ l) (sym (created_one p (Some shader) [] some))
      ∙ sym (created_further plan i p at);
  keys =
      ap (λ (l : List ℕ). l ++ (i + 1) ∷ []) are.keys
      ∙ ap (λ (n : ℕ). calls_in cells ++ n ∷ []) (sym numbered ∙ ap (λ (s : Shader). s.call) (sym is))
      ∙ sym (map-append call_of_cell cells (cell ∷ []));
  rising = rises calls (i + 1) are.rising (λ k fits. let le = are.below k fits in omega (arith, le));
  below = λ k fits. elim (cases_lt k (length calls)) [
    | inl early ↦ let le = are.below k early in let same = get_or_append_left calls ((i + 1) ∷ []) 0 k early in omega (arith, le, same)
    | inr late ↦
        let long = length-append calls ((i + 1) ∷ []) in
        let last : k ≡ length calls = omega (arith, late, fits, long) in
        let same : get_or (calls ++ (i + 1) ∷ []) k 0 ≡ i + 1 = get_or_at calls (i + 1) [] 0 k (sym last) in
        omega (arith, same)
  ];
}

-- no call
pub no_tables : (plan : List Planned) (calls : List ℕ) (cells : List Cell) → calls ≡ [] → cells ≡ []
    → AreTables plan 0 calls cells
no_tables plan calls cells no_calls no_cells =
    subst (λ (cs : List Cell). AreTables plan 0 calls cs) (sym no_cells)
    (subst (λ (ns : List ℕ). AreTables plan 0 ns []) (sym no_calls)
    (record { made = refl; keys = refl; rising = λ j k before fits. absurd (omega (arith, fits)); below = λ k fits. absurd (omega (arith, fits)) }))

-- ---- at the number of a call

planned_at : (log : List Issued) (plan : List Planned) (count n : ℕ) → plan ≡ plan_of log count → 1 ≤ n → n ≤ count
    → slice_get plan (n - 1) ≡ Some (planned log n)
planned_at log plan count zero is first last = absurd (omega (arith, first))
planned_at log plan count (suc k) is first last =
    let back : suc k - 1 ≡ k = omega arith in
    ap (λ (p : List Planned). slice_get p (suc k - 1)) is ∙ ap (slice_get (plan_of log count)) back ∙ entry_of log count k (omega (arith, last))

same_option : (a b : Option Shader) → Some a ≡ Some b → a ≡ b
same_option a b e = cc

shader_planned : (log : List Issued) (plan : List Planned) (count n : ℕ) (o : Option Shader) → plan ≡ plan_of log count
    → 1 ≤ n → n ≤ count
    → Some o ≡ option_map (λ (p : Planned). p.shader) (slice_get plan (n - 1)) → (planned log n).shader ≡ o
shader_planned log plan count n o is first last found =
    sym (same_option o (planned log n).shader (found ∙ ap (option_map (λ (p : Planned). p.shader)) (planned_at log plan count n is first last)))

-- the shader of a call has the call's number and token bytes
pub created_at : (log : List Issued) (plan : List Planned) (count n : ℕ) (shader : Shader) → plan ≡ plan_of log count
    → 1 ≤ n → n ≤ count
    → Some (Some shader) ≡ option_map (λ (p : Planned). p.shader) (slice_get plan (n - 1))
    → (tokens_by (call_at log n) ≡ shader.words) × (shader.call ≡ n)
created_at log plan count n shader is first last found =
    planned_is n (before_call log n) (call_at log n) shader (shader_planned log plan count n (Some shader) is first last found)

-- call n creates no shader
pub add_none : (log : List Issued) (plan : List Planned) (count n : ℕ) (calls : List ℕ) (cells : List Cell)
    → plan ≡ plan_of log count → 1 ≤ n → n ≤ count
    → Some None ≡ option_map (λ (p : Planned). p.shader) (slice_get plan (n - 1)) → AreTables plan (n - 1) calls cells
    → AreTables plan n calls cells
add_none log plan count n calls cells is first last found are =
    let on : n - 1 + 1 ≡ n = omega (arith, first) in
    subst (λ (k : ℕ). AreTables plan k calls cells) on
    (tables_same plan (n - 1) calls cells (planned log n) are (planned_at log plan count n is first last) (shader_planned log plan count n None is first last found))

-- call n creates a shader
pub add_some : (log : List Issued) (plan : List Planned) (count n : ℕ) (calls : List ℕ) (cells : List Cell) (shader : Shader) (cell : Cell)
    → plan ≡ plan_of log count → 1 ≤ n → n ≤ count
    → Some (Some shader) ≡ option_map (λ (p : Planned). p.shader) (slice_get plan (n - 1))
    → AreTables plan (n - 1) calls cells → shader_of cell ≡ shader
    → AreTables plan n (calls ++ n ∷ []) (cells ++ cell ∷ [])
add_some log plan count n calls cells shader cell is first last found are same =
    let on : n - 1 + 1 ≡ n = omega (arith, first) in
    let numbered = created_at log plan count n shader is first last found in
    subst (λ (k : ℕ). AreTables plan k (calls ++ k ∷ []) (cells ++ cell ∷ [])) on
    (tables_more plan (n - 1) calls cells (planned log n) shader cell are (planned_at log plan count n is first last) (shader_planned log plan count n (Some shader) is first last found)
    (numbered.1 ∙ sym on) same)

-- the shader of a cell, by its call and its token bytes
pub cell_of : (c : Cell) (s : Shader) → c.call ≡ s.call → c.words ≡ s.words → shader_of c ≡ s
cell_of c s call words = λ i. record { call = call i; words = words i }
