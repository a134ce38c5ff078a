use Rattle.std.proofs.Common.{refl}
use Rattle.std.proofs.lemmas.Result.{on_ok_weaker}
use Rattle.vk_types.specs.declared.command.Groups.TheVariants as groups
use Rattle.d3d_state.specs.Meaning.{objects_of}
use Rattle.log_script.specs.Plays.{dispatch}
use Rattle.item_make.proofs.commands.dispatch_groups.Goals as goal

pub returns : goal.returns
returns c =
    on_ok_weaker c.predicated.result
    (λ made. λ part script past p m names h.
    let counts = groups.Direct c.args.x c.args.y c.args.z in
    made part script past p m (dispatch past (objects_of c.args.objects.now) c.args.set.now counts) names
    (c.in_ok-work.ensures past m.blocks counts names refl) h)
    c.predicated.ensures
