-- Calls that make, set or finish nothing.
use Rattle.std.proofs.Common.{◌≡◌, ℕ, List, refl, sym, ap}
use Rattle.std.specs.Borrow.{Bor}
use Rattle.std.proofs.lemmas.List.{set-get_or}
use Rattle.call_log.specs.View.{call_view}
use Rattle.call_log.specs.declared.call.Call as code
use Rattle.call_log.specs.declared.call.Call.TheVariants as codes
use Rattle.base_lemmas.specs.IdMap.{IdMap}
use Rattle.d3d_model.specs.Binding.{Bindings}
use Rattle.d3d_model.specs.D3dState.{Context, Objects, Query, bindings_of, default_context, with_bindings}
use Rattle.d3d_model.specs.Effect.{immediate_effect, list_of, made_by, queries_after}
use Rattle.d3d_model.specs.Stream.{set_by}

-- what is set, once more, changes nothing
pub same_again : (o : Objects) (x : ℕ) → o ≡ with_bindings o x (bindings_of o x)
same_again o x = sym (ap (λ (cs : List Context). record o { contexts = cs }) (set-get_or o.contexts x default_context))

-- the call makes and destroys nothing
pub record MakesNone (c : code.Call) : Type 0 where
  pub buffer : (id size usage bind misc stride : ℕ) (bytes : Bor (List ℕ)) → c ≡ codes.Buffer id size usage bind misc stride bytes → ⊥
  pub view : (view res kind form components first count : ℕ) → c ≡ codes.View view res kind form components first count → ⊥
  pub shader : (id : ℕ) (words : Bor (List ℕ)) → c ≡ codes.CreateShader id words → ⊥
  pub query : (id sort : ℕ) → c ≡ codes.Query id sort → ⊥
  pub destroy : (class id : ℕ) → c ≡ codes.Destroy class id → ⊥

pub makes_none : (n : ℕ) (o : Objects) (c : code.Call) → MakesNone c → o ≡ made_by n o (call_view c)
makes_none n o (codes.Buffer id size usage bind misc stride bytes) none = absurd (none.buffer id size usage bind misc stride bytes refl)
makes_none n o (codes.View view res kind form components first count) none = absurd (none.view view res kind form components first count refl)
makes_none n o (codes.CreateShader id words) none = absurd (none.shader id words refl)
makes_none n o (codes.Query id sort) none = absurd (none.query id sort refl)
makes_none n o (codes.Destroy class id) none = absurd (none.destroy class id refl)
makes_none n o _ none = refl

pub executes_none : (n : ℕ) (o : Objects) (c : code.Call) → ((list flag : ℕ) → c ≡ codes.ExecuteList list flag → ⊥) → o ≡ immediate_effect n o (call_view c)
executes_none n o (codes.ExecuteList list flag) none = absurd (none list flag refl)
executes_none n o _ none = refl

pub finishes_none : (c : code.Call) → ((list : ℕ) → c ≡ codes.FinishList list → ⊥) → 0 ≡ list_of (call_view c)
finishes_none (codes.FinishList list) none = absurd (none list refl)
finishes_none _ none = refl

-- it begins and ends no query
pub asks_none : (n : ℕ) (queries : IdMap Query) (c : code.Call) → ((q : ℕ) → c ≡ codes.Begin q → ⊥) → ((q : ℕ) → c ≡ codes.EndQuery q → ⊥)
    → queries ≡ queries_after n queries (call_view c)
asks_none n queries (codes.Begin q) begin end = absurd (begin q refl)
asks_none n queries (codes.EndQuery q) begin end = absurd (end q refl)
asks_none n queries _ begin end = refl

-- the call is none of those that set something
pub record SetsNone (c : code.Call) : Type 0 where
  pub shader : (id : ℕ) → c ≡ codes.SetShader id → ⊥
  pub constant : (slot res : ℕ) → c ≡ codes.SetConstant slot res → ⊥
  pub srv : (slot view : ℕ) → c ≡ codes.SetSrv slot view → ⊥
  pub uav : (slot view : ℕ) → c ≡ codes.SetUav slot view → ⊥
  pub clear : c ≡ codes.ClearState → ⊥
  pub predication : (kind id offset value : ℕ) → c ≡ codes.SetPredication kind id offset value → ⊥

pub sets_none : (o : Objects) (b : Bindings) (c : code.Call) → SetsNone c → b ≡ set_by o b (call_view c)
sets_none o b (codes.SetShader id) none = absurd (none.shader id refl)
sets_none o b (codes.SetConstant slot res) none = absurd (none.constant slot res refl)
sets_none o b (codes.SetSrv slot view) none = absurd (none.srv slot view refl)
sets_none o b (codes.SetUav slot view) none = absurd (none.uav slot view refl)
sets_none o b codes.ClearState none = absurd (none.clear refl)
sets_none o b (codes.SetPredication kind id offset value) none = absurd (none.predication kind id offset value refl)
sets_none o b _ none = refl
