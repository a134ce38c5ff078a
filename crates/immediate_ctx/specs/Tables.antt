-- What the recorder keeps by block or by query.
use Rattle.std.specs.Prelude.{ℕ, List, [], ◌∷◌}
use Rattle.std.specs.Coded.{Coded, coded_ℕ, coded_list}
use Rattle.base_lemmas.specs.IdMap.{IdMap, code, insert}
use Rattle.vk_types.specs.declared.message.Snap.{Snap}
use Rattle.vk_types.specs.declared.message.QueryValue.{QueryValue}

-- a number of each id that has one
abbrev pub Numbers : Type 0
Numbers = IdMap ℕ

abbrev pub numbers_code : Coded Numbers
numbers_code = code coded_ℕ

-- the bytes of each block of which there is a copy
abbrev pub Bytes : Type 0
Bytes = IdMap (List ℕ)

abbrev pub bytes_code : Coded Bytes
bytes_code = code (coded_list coded_ℕ)

-- the newest copies and values come last
abbrev pub with_snaps : Bytes → List Snap → Bytes
with_snaps m [] = m
with_snaps m (s ∷ ss) = with_snaps (insert m s.block s.bytes) ss

abbrev pub with_values : Numbers → List QueryValue → Numbers
with_values m [] = m
with_values m (v ∷ vs) = with_values (insert m v.query v.value) vs
