use Rattle.std.proofs.Common.{◌<◌, ◌+◌, ◌≤◌, arith}
use Rattle.std.specs.Prelude.{slice_index}
use Rattle.shader_model.proofs.PlacesInOrder.{next_row, next_plane}
use Rattle.shader_model.proofs.places.place_behind.Goals as goal

pub returns-then-y-height-clause-place : goal.returns-then-y-height-clause-place
returns-then-y-height-clause-place c =
    let sizes = c.args.sizes in
    let p = c.args.place in
    let some : 0 < slice_index sizes 0 = let h = c.requires 0 (omega arith) in omega arith in
    next_row sizes (slice_index p 0) (slice_index p 1) (slice_index p 2) some c.if-x-width.false c.if-y-height.true

pub returns-then-z-depth-clause-place : goal.returns-then-z-depth-clause-place
returns-then-z-depth-clause-place c =
    let sizes = c.args.sizes in
    let p = c.args.place in
    let some : 0 < slice_index sizes 0 = let h = c.requires 0 (omega arith) in omega arith in
    let rows : 0 < slice_index sizes 1 = let h = c.requires 1 (omega arith) in omega arith in
    next_plane sizes (slice_index p 0) (slice_index p 1) (slice_index p 2) some c.if-x-width.false rows c.if-y-height.false c.if-z-depth.true
