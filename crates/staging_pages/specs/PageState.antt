-- A page as contracts see it.
use Rattle.std.specs.Prelude.{ℕ, List, refl}
use Rattle.std.specs.Coded.{Coded, code_by, coded×, coded_ℕ, coded_list}
use Rattle.buffer_blocks.specs.declared.block.Block.{Block}
use Rattle.buffer_blocks.specs.contracts.block.Block.{the_row}

-- a block, and how many of its bytes are used, from the front on
pub record PageState : Type 0 where
  pub block : Block
  pub used : ℕ

abbrev pub block_code : Coded Block
block_code = the_row.coded

abbrev pub page_code : Coded PageState
page_code = code_by (Block × ℕ) (coded× block_code coded_ℕ) (λ p. (p.block, p.used)) (λ p. record { block = p.0; used = p.1 }) (λ _. refl)

abbrev pub pages_code : Coded (List Block)
pages_code = coded_list block_code
