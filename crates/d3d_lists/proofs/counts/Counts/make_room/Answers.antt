use Rattle.std.proofs.Common.{◌≡◌, ℕ, ap, sym, subst, ◌∙◌}
use Rattle.std.proofs.lemmas.Result.{on_ok_weaker}
use Rattle.base_lemmas.specs.CodeMap.{map_of}
use Rattle.base_lemmas.specs.IdMap.{insert}
use Rattle.base_lemmas.proofs.CodeMaps.{map_of-insert}
use Rattle.d3d_lists.specs.Counts.{Counts, HasRoom, count_at}
use Rattle.d3d_lists.proofs.Numbers.{found, kept_new, room_new, room_some, same_new}
use Rattle.d3d_lists.proofs.counts.Counts.make_room.Goals as goal

pub returns-in-Some-clause-room : goal.returns-in-Some-clause-room
returns-in-Some-clause-room c =
    let self = c.args.self.now in
    let live = found c.self.inside.counts.entries self c.args.id c.copied-known.result c.self.view_is (c.copied-known.ensures ∙ c.get.ensures.value) ∙ c.in-Some.is in
    on_ok_weaker c.is_low.result (λ below. room_some self c.args.id c.in-Some.count live below) c.is_low.ensures

pub returns-in_ok-insert-in-None-clause-room : goal.returns-in_ok-insert-in-None-clause-room
returns-in_ok-insert-in-None-clause-room c =
    let self = c.args.self.now in
    let added = map_of-insert (λ (n : ℕ). n) c.self.inside.counts.entries c.insert.new.self.entries c.args.id 0 c.in_ok-insert-in-None.ensures.updates.0 ∙ ap (λ (m : Counts). insert m c.args.id 0) c.self.view_is in
    subst (λ (m : Counts). HasRoom m c.args.id 2) (sym added) (room_new self c.args.id)

pub returns-in_ok-insert-in-None-clause-kept : goal.returns-in_ok-insert-in-None-clause-kept
returns-in_ok-insert-in-None-clause-kept c =
    let self = c.args.self.now in
    let none = found c.self.inside.counts.entries self c.args.id c.copied-known.result c.self.view_is (c.copied-known.ensures ∙ c.get.ensures.value) ∙ c.in-None.is in
    let added = map_of-insert (λ (n : ℕ). n) c.self.inside.counts.entries c.insert.new.self.entries c.args.id 0 c.in_ok-insert-in-None.ensures.updates.0 ∙ ap (λ (m : Counts). insert m c.args.id 0) c.self.view_is in
    λ k h. subst (λ (m : Counts). HasRoom m k 2) (sym added) (kept_new self c.args.id none k h)

pub returns-in_ok-insert-in-None-clause-same : goal.returns-in_ok-insert-in-None-clause-same
returns-in_ok-insert-in-None-clause-same c =
    let self = c.args.self.now in
    let none = found c.self.inside.counts.entries self c.args.id c.copied-known.result c.self.view_is (c.copied-known.ensures ∙ c.get.ensures.value) ∙ c.in-None.is in
    let added = map_of-insert (λ (n : ℕ). n) c.self.inside.counts.entries c.insert.new.self.entries c.args.id 0 c.in_ok-insert-in-None.ensures.updates.0 ∙ ap (λ (m : Counts). insert m c.args.id 0) c.self.view_is in
    λ k. ap (λ (m : Counts). count_at m k) added ∙ same_new self c.args.id none k
