-- Which ranges a call binds, kind by kind.
use Rattle.std.proofs.Common.{◌≡◌, ℕ, Bool, true, false, ◌==◌, List, [], ◌∷◌, ◌++◌, map, length, refl, ap}
use Rattle.std.specs.Prelude.{if◌then◌else◌}
use Rattle.std.specs.Borrow.{Bor}
use Rattle.std.specs.List.{filter_map}
use Rattle.dx_types.specs.declared.range.ResRange.{ResRange}
use Rattle.call_log.specs.Call as calls
use Rattle.call_log.specs.Call.{Call}
use Rattle.call_log.specs.View.{call_view}
use Rattle.call_log.specs.declared.call.Call as code
use Rattle.call_log.specs.declared.call.Call.TheVariants as codes
use Rattle.d3d_model.specs.D3dState.{Objects, bindings_of}
use Rattle.d3d_model.specs.Past.{Discards, Binds}
use Rattle.d3d_model.specs.Uses.{range_bound}
use Rattle.d3d_model.specs.Binding.{Bindings}
use Rattle.d3d_model.specs.Stream.{binds, range_of}
use Rattle.d3d_effects.specs.Bound.{bound_of, is_execution}

-- what is bound, of deeds that bind
pub only_bound : (rs : List ResRange) → filter_map range_bound (map Binds rs) ≡ rs
only_bound [] = refl
only_bound (r ∷ rs) = ap (λ (l : List ResRange). r ∷ l) (only_bound rs)

-- a discard binds nothing, and only a map of mode 2 binds what it writes
pub written : (discards stages : Bool) (res : ℕ) (rs : List ResRange) → filter_map range_bound ((if discards then Discards res ∷ [] else []) ++ map Binds (if stages then rs else [])) ≡ (if stages then rs else [])
written true stages res rs = only_bound (if stages then rs else [])
written false stages res rs = only_bound (if stages then rs else [])

-- what a call that executes no list binds on the immediate context
pub bound_here : (o : Objects) (c : Call) → is_execution c ≡ false → bound_of o c ≡ binds o (bindings_of o 0) c
bound_here o (calls.Buffer id size usage bind misc stride bytes) e = refl
bound_here o (calls.View view res kind form components first count) e = refl
bound_here o (calls.CreateShader id words) e = refl
bound_here o (calls.Query id sort) e = refl
bound_here o (calls.Destroy class id) e = refl
bound_here o (calls.MapRead res flag offset len) e = refl
bound_here o (calls.GetData query flag) e = refl
bound_here o calls.Flush e = refl
bound_here o (calls.FinishList list) e = refl
bound_here o (calls.ExecuteList list flag) e = absurd cc
bound_here o (calls.MapWrite res mode offset bytes) e = written (mode == 0) (mode == 2) res (range_of res offset (length bytes))
bound_here o c e = only_bound (binds o (bindings_of o 0) c)

-- the call is none of those that bind something
pub record IsLoose (c : code.Call) : Type 0 where
  pub dispatch : (x y z : ℕ) → c ≡ codes.Dispatch x y z → ⊥
  pub indirect : (res offset : ℕ) → c ≡ codes.DispatchIndirect res offset → ⊥
  pub region : (target target_offset source source_offset len : ℕ) → c ≡ codes.CopyRegion target target_offset source source_offset len → ⊥
  pub copy : (target source : ℕ) → c ≡ codes.Copy target source → ⊥
  pub update : (res offset : ℕ) (bytes : Bor (List ℕ)) → c ≡ codes.Update res offset bytes → ⊥
  pub clear : (view v0 v1 v2 v3 : ℕ) → c ≡ codes.ClearUav view v0 v1 v2 v3 → ⊥
  pub write : (res mode offset : ℕ) (bytes : Bor (List ℕ)) → c ≡ codes.MapWrite res mode offset bytes → ⊥

pub binds_none : (o : Objects) (b : Bindings) (c : code.Call) → IsLoose c → binds o b (call_view c) ≡ []
binds_none o b (codes.Buffer id size usage bind misc stride bytes) loose = refl
binds_none o b (codes.View view res kind form components first count) loose = refl
binds_none o b (codes.CreateShader id words) loose = refl
binds_none o b (codes.Query id sort) loose = refl
binds_none o b (codes.Destroy class id) loose = refl
binds_none o b (codes.SetShader id) loose = refl
binds_none o b (codes.SetConstant slot res) loose = refl
binds_none o b (codes.SetSrv slot view) loose = refl
binds_none o b (codes.SetUav slot view) loose = refl
binds_none o b codes.ClearState loose = refl
binds_none o b (codes.Dispatch x y z) loose = absurd (loose.dispatch x y z refl)
binds_none o b (codes.DispatchIndirect res offset) loose = absurd (loose.indirect res offset refl)
binds_none o b (codes.CopyRegion target target_offset source source_offset len) loose = absurd (loose.region target target_offset source source_offset len refl)
binds_none o b (codes.Copy target source) loose = absurd (loose.copy target source refl)
binds_none o b (codes.Update res offset bytes) loose = absurd (loose.update res offset bytes refl)
binds_none o b (codes.ClearUav view v0 v1 v2 v3) loose = absurd (loose.clear view v0 v1 v2 v3 refl)
binds_none o b (codes.SetPredication kind id offset value) loose = refl
binds_none o b (codes.Begin query) loose = refl
binds_none o b (codes.EndQuery query) loose = refl
binds_none o b (codes.MapWrite res mode offset bytes) loose = absurd (loose.write res mode offset bytes refl)
binds_none o b (codes.MapRead res flag offset len) loose = refl
binds_none o b (codes.GetData query flag) loose = refl
binds_none o b codes.Flush loose = refl
binds_none o b (codes.FinishList list) loose = refl
binds_none o b (codes.ExecuteList list flag) loose = refl
binds_none o b (codes.Draw kind body) loose = refl
