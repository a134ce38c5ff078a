-- Calls that have no checks of their own.
use Rattle.std.proofs.Common.{◌≡◌, ℕ, false, List, None, refl}
use Rattle.std.specs.Borrow.{Bor}
use Rattle.call_log.specs.View.{call_view}
use Rattle.call_log.specs.declared.call.Call as code
use Rattle.call_log.specs.declared.call.Call.TheVariants as codes
use Rattle.d3d_model.specs.D3dState.{Objects}
use Rattle.d3d_model.specs.Past.{Past}
use Rattle.d3d_checks.specs.Accepted.{is_making, is_setting}
use Rattle.d3d_checks.specs.Asked.{refusal_on}

-- the call reads or writes no buffer, and is about no command list
pub record IsNoWork (c : code.Call) : Type 0 where
  pub dispatch : (gx gy gz : ℕ) → c ≡ codes.Dispatch gx gy gz → ⊥
  pub indirect : (res offset : ℕ) → c ≡ codes.DispatchIndirect res offset → ⊥
  pub region : (target target_offset source source_offset len : ℕ) → c ≡ codes.CopyRegion target target_offset source source_offset len → ⊥
  pub copy : (target source : ℕ) → c ≡ codes.Copy target source → ⊥
  pub update : (res offset : ℕ) (bytes : Bor (List ℕ)) → c ≡ codes.Update res offset bytes → ⊥
  pub clear : (view v0 v1 v2 v3 : ℕ) → c ≡ codes.ClearUav view v0 v1 v2 v3 → ⊥
  pub write : (res mode offset : ℕ) (bytes : Bor (List ℕ)) → c ≡ codes.MapWrite res mode offset bytes → ⊥
  pub read : (res flag offset len : ℕ) → c ≡ codes.MapRead res flag offset len → ⊥
  pub finish : (list : ℕ) → c ≡ codes.FinishList list → ⊥
  pub execute : (list flag : ℕ) → c ≡ codes.ExecuteList list flag → ⊥

pub unasked : (o : Objects) (past : Past) (x : ℕ) (c : code.Call) → is_making (call_view c) ≡ false → is_setting (call_view c) ≡ false → IsNoWork c → None ≡ refusal_on o past x (call_view c)
unasked o past x (codes.Buffer id size usage bind misc stride bytes) makes sets none = absurd cc
unasked o past x (codes.View view res kind form components first count) makes sets none = absurd cc
unasked o past x (codes.CreateShader id words) makes sets none = absurd cc
unasked o past x (codes.Query id sort) makes sets none = absurd cc
unasked o past x (codes.Destroy class id) makes sets none = absurd cc
unasked o past x (codes.SetShader id) makes sets none = absurd cc
unasked o past x (codes.SetConstant slot res) makes sets none = absurd cc
unasked o past x (codes.SetSrv slot view) makes sets none = absurd cc
unasked o past x (codes.SetUav slot view) makes sets none = absurd cc
unasked o past x codes.ClearState makes sets none = refl
unasked o past x (codes.Dispatch gx gy gz) makes sets none = absurd (none.dispatch gx gy gz refl)
unasked o past x (codes.DispatchIndirect res offset) makes sets none = absurd (none.indirect res offset refl)
unasked o past x (codes.CopyRegion target target_offset source source_offset len) makes sets none = absurd (none.region target target_offset source source_offset len refl)
unasked o past x (codes.Copy target source) makes sets none = absurd (none.copy target source refl)
unasked o past x (codes.Update res offset bytes) makes sets none = absurd (none.update res offset bytes refl)
unasked o past x (codes.ClearUav view v0 v1 v2 v3) makes sets none = absurd (none.clear view v0 v1 v2 v3 refl)
unasked o past x (codes.SetPredication kind id offset value) makes sets none = absurd cc
unasked o past x (codes.Begin query) makes sets none = absurd cc
unasked o past x (codes.EndQuery query) makes sets none = absurd cc
unasked o past x (codes.MapWrite res mode offset bytes) makes sets none = absurd (none.write res mode offset bytes refl)
unasked o past x (codes.MapRead res flag offset len) makes sets none = absurd (none.read res flag offset len refl)
unasked o past x (codes.GetData query flag) makes sets none = absurd cc
unasked o past x codes.Flush makes sets none = refl
unasked o past x (codes.FinishList list) makes sets none = absurd (none.finish list refl)
unasked o past x (codes.ExecuteList list flag) makes sets none = absurd (none.execute list flag refl)
unasked o past x (codes.Draw kind body) makes sets none = refl
