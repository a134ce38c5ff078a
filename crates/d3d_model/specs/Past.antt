-- What accepted calls did that later checks and uses ask of: the bytes that they bound, and what renewed them.
use Rattle.std.specs.Prelude.{ℕ, ◌==◌, nat_lt, min, max, Bool, false, ◌&&◌, ◌||◌, List, [], ◌∷◌, Option, None, Some, if◌then◌else◌}
use Rattle.dx_types.specs.declared.range.ResRange.{ResRange}

-- A call makes a buffer, discards what it holds (D3D11_MAP_WRITE_DISCARD), or binds a range of it: what it reads or
-- writes in the stream of commands.
pub data Deed : Type 0 where
  Makes : (res : ℕ) → Deed
  Discards : (res : ℕ) → Deed
  Binds : (range : ResRange) → Deed

-- a deed, and the call whose it is; the deeds of a list are those of its ExecuteList
pub record Done : Type 0 where
  pub call : ℕ
  pub deed : Deed

-- the deeds of the calls so far, the latest first
abbrev pub Past : Type 0
Past = List Done

-- more deeds of one call, in order
unfoldable pub then_done : ℕ → Past → List Deed → Past
then_done n past [] = past
then_done n past (d ∷ ds) = then_done n (record { call = n; deed = d } ∷ past) ds

-- two ranges share a byte of a buffer
abbrev pub meets : ResRange → ResRange → Bool
meets r s = (r.res == s.res) && nat_lt (max r.from s.from) (min r.to s.to)

abbrev pub makes : ℕ → Deed → Bool
makes res (Makes made) = made == res
makes res (Discards other) = false
makes res (Binds range) = false

abbrev pub discards : ℕ → Deed → Bool
discards res (Makes made) = false
discards res (Discards other) = other == res
discards res (Binds range) = false

-- from here on no earlier byte of the buffer is bound
abbrev pub renews : ℕ → Deed → Bool
renews res d = makes res d || discards res d

abbrev pub binds_byte_of : ResRange → Deed → Bool
binds_byte_of range (Makes made) = false
binds_byte_of range (Discards other) = false
binds_byte_of range (Binds bound) = meets range bound

abbrev pub binds_some_of : ℕ → Deed → Bool
binds_some_of res (Makes made) = false
binds_some_of res (Discards other) = false
binds_some_of res (Binds bound) = bound.res == res

-- a byte of the range is bound since its buffer's last discard, or since it was made
unfoldable pub is_bound : Past → ResRange → Bool
is_bound [] range = false
is_bound (d ∷ before) range = if renews range.res d.deed then false else binds_byte_of range d.deed || is_bound before range

-- the greatest call that binds some of the buffer since it was made
unfoldable pub last_binding : Past → ℕ → Option ℕ
last_binding [] res = None
last_binding (d ∷ before) res = if makes res d.deed then None else if binds_some_of res d.deed then Some d.call else last_binding before res

-- a buffer was discarded
unfoldable pub was_discarded : Past → ℕ → Bool
was_discarded [] res = false
was_discarded (d ∷ before) res = discards res d.deed || was_discarded before res

-- a buffer was discarded or made
unfoldable pub was_renewed : Past → ℕ → Bool
was_renewed [] res = false
was_renewed (d ∷ before) res = renews res d.deed || was_renewed before res
