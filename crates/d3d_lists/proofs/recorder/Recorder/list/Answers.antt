use Rattle.std.proofs.Common.{List, Some, sym, ap, ◌∙◌}
use Rattle.std.specs.Option.{option_map}
use Rattle.d3d_lists.specs.declared.numbered.Numbered as code
use Rattle.d3d_lists.specs.Calls.{calls_in}
use Rattle.d3d_lists.proofs.Tables.{get-lists_in, list_of}
use Rattle.d3d_lists.proofs.recorder.Recorder.list.Goals as goal

pub returns-in-Some : goal.returns-in-Some
returns-in-Some c =
    ap (λ (l : List code.Numbered). Some (calls_in l)) c.as_slice.ensures.value
    ∙ ap (option_map list_of) c.in-Some.ensures.value ∙ sym (get-lists_in c.args.self.now.lists.entries c.args.list)

pub returns-in-None : goal.returns-in-None
returns-in-None c = ap (option_map list_of) c.in-None.ensures.value ∙ sym (get-lists_in c.args.self.now.lists.entries c.args.list)
