use Rattle.std.proofs.Common.{◌≤◌, List, ℕ, length, ap, subst, sym, ◌∙◌, refl}
use Rattle.std.specs.Ordering.{nat_cmp}
use Rattle.std.specs.Map.{lookup}
use Rattle.std.specs.BTreeMap.{is_at}
use Rattle.d3d_model.specs.D3dState.{bytes_if}
use Rattle.d3d_memory.proofs.Kept.{at_id}
use Rattle.d3d_memory.proofs.Short.{short_lookup}
use Rattle.d3d_memory.proofs.contents.Contents.are_short.Goals as goal

pub returns : goal.returns
returns c = λ said id.
    let es = c.self.inside.buffers.entries in
    subst (λ (b : List ℕ). length b ≤ 16777216) (ap bytes_if (at_id es c.args.self.now id (lookup (is_at (nat_cmp id)) es) c.self.view_is refl))
    (short_lookup (is_at (nat_cmp id)) es (sym c.all_short.ensures ∙ said))
