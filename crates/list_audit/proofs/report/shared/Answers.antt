use Rattle.std.proofs.Common.{◌≡◌, ◌<◌, length, Option, Some, sym, ap, subst, ◌∙◌, slice_get, arith}
use Rattle.std.proofs.lemmas.Option.{slice_get-get_or}
use Rattle.vk_types.specs.Covered.{IsFirstBreak}
use Rattle.vk_order.specs.declared.hazards.Uncovered.{Uncovered}
use Rattle.list_audit.specs.Reports.{AreShared, IsHazardIf, shared_of}
use Rattle.list_audit.proofs.Whole.{break_inside, break_shares, shared_there}
use Rattle.list_audit.proofs.report.shared.Goals as goal

pub bounds-ops-pair : goal.bounds-ops-pair
bounds-ops-pair c =
    let b : IsFirstBreak c.args.ops.now c.in-Some.pair.first c.in-Some.pair.second = subst (IsHazardIf c.args.ops.now) c.in-Some.is c.requires in
    let i = break_inside c.args.ops.now c.in-Some.pair.first c.in-Some.pair.second b in
    omega (arith, i.0, i.1)

pub bounds-ops-pair-in-Some : goal.bounds-ops-pair-in-Some
bounds-ops-pair-in-Some c =
    let b : IsFirstBreak c.args.ops.now c.in-Some.pair.first c.in-Some.pair.second = subst (IsHazardIf c.args.ops.now) c.in-Some.is c.requires in
    (break_inside c.args.ops.now c.in-Some.pair.first c.in-Some.pair.second b).1

pub returns-in-Some-clause-shared : goal.returns-in-Some-clause-shared
returns-in-Some-clause-shared c =
    let ops = c.args.ops.now in let u = c.in-Some.pair in
    let b : IsFirstBreak ops u.first u.second = subst (IsHazardIf ops) c.in-Some.is c.requires in
    let i = break_inside ops u.first u.second b in
    let below : u.first < length ops = omega (arith, i.0, i.1) in
    let first : slice_get ops u.first ≡ Some c.index-ops-pair.result = slice_get-get_or ops u.first c.index-ops-pair.result below ∙ ap Some (sym c.index-ops-pair.is) in
    let second : slice_get ops u.second ≡ Some c.index-ops-pair-in-Some.result = slice_get-get_or ops u.second c.index-ops-pair-in-Some.result i.1 ∙ ap Some (sym c.index-ops-pair-in-Some.is) in
    let shared = shared_there ops u.first u.second c.index-ops-pair.result c.index-ops-pair-in-Some.result c.shared_bytes.result first second c.shared_bytes.ensures in
    subst (λ (o : Option Uncovered). c.shared_bytes.result ≡ shared_of ops o) (sym c.in-Some.is) shared

pub returns-in-Some-clause-bytes : goal.returns-in-Some-clause-bytes
returns-in-Some-clause-bytes c =
    let ops = c.args.ops.now in let u = c.in-Some.pair in
    let b : IsFirstBreak ops u.first u.second = subst (IsHazardIf ops) c.in-Some.is c.requires in
    let i = break_inside ops u.first u.second b in
    let below : u.first < length ops = omega (arith, i.0, i.1) in
    let first : slice_get ops u.first ≡ Some c.index-ops-pair.result = slice_get-get_or ops u.first c.index-ops-pair.result below ∙ ap Some (sym c.index-ops-pair.is) in
    let second : slice_get ops u.second ≡ Some c.index-ops-pair-in-Some.result = slice_get-get_or ops u.second c.index-ops-pair-in-Some.result i.1 ∙ ap Some (sym c.index-ops-pair-in-Some.is) in
    let shared = shared_there ops u.first u.second c.index-ops-pair.result c.index-ops-pair-in-Some.result c.shared_bytes.result first second c.shared_bytes.ensures in
    subst (λ (o : Option Uncovered). AreShared ops o c.shared_bytes.result) (sym c.in-Some.is) (break_shares ops u c.shared_bytes.result b shared)
