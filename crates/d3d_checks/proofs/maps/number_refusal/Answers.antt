use Rattle.d3d_checks.proofs.maps.number_refusal.Goals as goal

pub returns : goal.returns
returns c = λ past o tells. rw c.in-Some.ensures.known (c.mode_refusal.ensures past o tells)
