-- A script's state in order, beside the Direct3D state.
use Rattle.std.specs.Prelude.{◌≡◌, ℕ, true, List, Some}
use Rattle.base_lemmas.specs.IdMap.{get}
use Rattle.d3d_model.specs.D3dState.{Query, count_of}
use Rattle.d3d_model.specs.InOrder.{State}
use Rattle.core_model.specs.Script.{InOrder}
use Rattle.log_script.specs.Makers.{maker}
use Rattle.log_script.specs.Showing.{Shows}

-- the script's state shows the Direct3D state
pub record Agrees (s : State) (w : InOrder) : Type 0 where
  -- the bytes of each live buffer, at its maker
  pub bytes : (id : ℕ) (b : List ℕ) → get s.memory.bytes id ≡ Some b → Shows w.bytes (maker s.past id) b
  pub ran : w.total ≡ s.memory.ran
  -- of a query that counts: where it is begun, the invocations before its last Begin; where it was ended, the count
  pub begun : (id : ℕ) (q : Query) → get s.objects.queries id ≡ Some q → q.sort ≡ 2 → q.begun ≡ true
      → get s.memory.begun_at id ≡ Some (w.begun id)
  pub counted : (id : ℕ) (q : Query) → get s.objects.queries id ≡ Some q → q.sort ≡ 2 → (n : ℕ) → q.ended ≡ Some n
      → count_of s.memory id ≡ w.count id
