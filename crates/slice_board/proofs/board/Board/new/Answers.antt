use Rattle.std.proofs.Common.{◌∙◌}
use Rattle.slice_board.proofs.Start.{starts}
use Rattle.slice_board.proofs.board.Board.new.Goals as goal

pub vacant-requires : goal.vacant-requires
vacant-requires c = starts _ (c.as_slice.ensures.value ∙ c.in_ok-words.ensures.items_if_clones_equal (λ y e. e))
