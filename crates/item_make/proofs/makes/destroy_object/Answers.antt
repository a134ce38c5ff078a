use Rattle.std.proofs.Common.{Bool, sym, ap}
use Rattle.std.specs.Prelude.{if◌then◌else◌}
use Rattle.std.proofs.lemmas.Bool.{eq-eqb}
use Rattle.call_log.specs.Call as calls
use Rattle.core_model.specs.Script.{Destroy, Set_state}
use Rattle.log_script.specs.Makers.{maker}
use Rattle.log_script.specs.Plays.{making_of}
use Rattle.item_make.proofs.Played.{plays_as}
use Rattle.item_make.proofs.makes.destroy_object.Goals as goal

pub returns-then-class-eq-BUFFER_CLASS-clause-made : goal.returns-then-class-eq-BUFFER_CLASS-clause-made
returns-then-class-eq-BUFFER_CLASS-clause-made c = λ part script call past p m s names h.
    plays_as part script call p s _ m (Destroy (maker past c.args.id))
    (making_of call past (calls.Destroy c.args.class c.args.id))
    (sym (ap (λ (t : Bool). if t then Destroy (maker past c.args.id) else Set_state)
    (eq-eqb c.args.class 1 c.if-class-eq-BUFFER_CLASS.true)))
    (c.destroy.ensures.made part script past call p m s names h)
