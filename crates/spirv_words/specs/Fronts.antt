-- What a view of the words shows to stand first in them.
use Rattle.spirv_words.specs.declared.front.FrontView.{FrontView}
use Rattle.spirv_words.specs.declared.front.FrontView.TheVariants as front_view
use Rattle.spirv_model.specs.View.{shown}
use Rattle.spirv_model.specs.Words.{Front, Instruction, BadCount, BadOpcode}

abbrev pub shown_front : FrontView → Front
shown_front (front_view.Instruction o rest) = Instruction (shown o) rest.now
shown_front front_view.BadCount = BadCount
shown_front front_view.BadOpcode = BadOpcode
