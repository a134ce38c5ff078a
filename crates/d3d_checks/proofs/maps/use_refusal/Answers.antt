use Rattle.d3d_checks.proofs.maps.use_refusal.Goals as goal

pub returns-in-NoOverwrite : goal.returns-in-NoOverwrite
returns-in-NoOverwrite c = λ past o tells. rw c.in-NoOverwrite.is (c.overwrite_refusal.ensures past o tells)
