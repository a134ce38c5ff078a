-- What calls of the device make that neither create nor destroy a buffer: nothing.
use Rattle.std.proofs.Common.{◌≡◌, ℕ, List, [], refl}
use Rattle.std.specs.Borrow.{Bor}
use Rattle.call_log.specs.View.{call_view}
use Rattle.call_log.specs.declared.call.Call as code
use Rattle.call_log.specs.declared.call.Call.TheVariants as codes
use Rattle.vk_types.specs.declared.message.Placed.{Placed}
use Rattle.core_model.specs.Batching.{Made, make_play}
use Rattle.core_model.specs.Script.{Script}
use Rattle.d3d_model.specs.Past.{Past, then_done}
use Rattle.d3d_model.specs.Stream.{makings}
use Rattle.log_script.specs.Plays.{making_of}

-- no deeds leave the past
pub nothing_done : (n : ℕ) (past : Past) → then_done n past [] ≡ past
unfolding then_done
nothing_done n past = refl

module _ (script : Script) (n : ℕ) (past : Past) (p : Placed) (m : Made) where
  abbrev IsQuiet : code.Call → Type 0
  IsQuiet c = (make_play script n (making_of n past (call_view c)) [] p m ≡ m) × (makings (call_view c) ≡ [])

  pub quiet : (c : code.Call)
      → ((id size usage bind misc stride : ℕ) (bytes : Bor (List ℕ))
      → c ≡ codes.Buffer id size usage bind misc stride bytes → ⊥)
      → ((class id : ℕ) → c ≡ codes.Destroy class id → ⊥) → IsQuiet c
  quiet (codes.Buffer id size usage bind misc stride bytes) none kept =
      absurd (none id size usage bind misc stride bytes refl)
  quiet (codes.View view res kind form components first count) none kept = (refl, refl)
  quiet (codes.CreateShader id words) none kept = (refl, refl)
  quiet (codes.Query id sort) none kept = (refl, refl)
  quiet (codes.Destroy class id) none kept = absurd (kept class id refl)
  quiet (codes.SetShader id) none kept = (refl, refl)
  quiet (codes.SetConstant slot res) none kept = (refl, refl)
  quiet (codes.SetSrv slot view) none kept = (refl, refl)
  quiet (codes.SetUav slot view) none kept = (refl, refl)
  quiet codes.ClearState none kept = (refl, refl)
  quiet (codes.Dispatch x y z) none kept = (refl, refl)
  quiet (codes.DispatchIndirect res offset) none kept = (refl, refl)
  quiet (codes.CopyRegion target target_offset source source_offset len) none kept = (refl, refl)
  quiet (codes.Copy target source) none kept = (refl, refl)
  quiet (codes.Update res offset bytes) none kept = (refl, refl)
  quiet (codes.ClearUav view v0 v1 v2 v3) none kept = (refl, refl)
  quiet (codes.SetPredication kind id offset value) none kept = (refl, refl)
  quiet (codes.Begin query) none kept = (refl, refl)
  quiet (codes.EndQuery query) none kept = (refl, refl)
  quiet (codes.MapWrite res mode offset bytes) none kept = (refl, refl)
  quiet (codes.MapRead res flag offset len) none kept = (refl, refl)
  quiet (codes.GetData query flag) none kept = (refl, refl)
  quiet codes.Flush none kept = (refl, refl)
  quiet (codes.FinishList list) none kept = (refl, refl)
  quiet (codes.ExecuteList list flag) none kept = (refl, refl)
  quiet (codes.Draw kind body) none kept = (refl, refl)
