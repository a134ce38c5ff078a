use Rattle.std.proofs.Common.{◌≡◌, ℕ, ◌++◌, ◌∷◌, [], List, length, sym, ap, subst, ◌∙◌, arith}
use Rattle.call_log.specs.Grammar.{calls_of}
use Rattle.d3d_model.specs.D3dState.{Shader}
use Rattle.d3d_plan.specs.Planned.{Planned}
use Rattle.d3d_plan.proofs.Entries.{length-plan_of}
use Rattle.pipe_cache.specs.Cells.{Cell}
use Rattle.pipe_cache.specs.Created.{AreTables}
use Rattle.pipe_cache.proofs.Tables.{add_none, add_some, cell_of, created_at}
use Rattle.pipe_cache.proofs.cache.add_created.Goals as goal

pub shader-requires-clause-last : goal.shader-requires-clause-last
shader-requires-clause-last c =
    let long : length c.args.plan.now ≡ length c.args.log.now.frames = ap (λ (p : List Planned). length p) c.requires.plan ∙ length-plan_of (calls_of c.args.log.now.frames) (length c.args.log.now.frames) in
    omega (arith, long, c.requires.last)

pub returns-in_default : goal.returns-in_default
returns-in_default c =
    add_none (calls_of c.args.log.now.frames) c.args.plan.now (length c.args.log.now.frames) c.args.n _ _ c.requires.plan c.requires.first c.requires.last c.in_default.ensures c.requires.before

pub share-requires : goal.share-requires
share-requires c =
    let told = created_at (calls_of c.args.log.now.frames) c.args.plan.now (length c.args.log.now.frames) c.args.n c.in-Some.shader.now c.requires.plan c.requires.first c.requires.last c.in-Some.ensures in
    sym (c.tokens.ensures ∙ told.0)

pub returns : goal.returns
returns c =
    let log = calls_of c.args.log.now.frames in
    let count = length c.args.log.now.frames in
    let told = created_at log c.args.plan.now count c.args.n c.in-Some.shader.now c.requires.plan c.requires.first c.requires.last c.in-Some.ensures in
    let same = cell_of c.new.result c.in-Some.shader.now (c.new.ensures.call ∙ ap (λ (s : Shader). s.call) c.in_ok-source.ensures.shader) (c.new.ensures.words ∙ c.in_ok-source.ensures.words ∙ c.tokens.ensures ∙ told.0) in
    subst (λ (cells : List Cell). AreTables c.args.plan.now c.args.n c.push-2.new.self.items cells) (sym c.in_ok-push.ensures.items)
    (subst (λ (calls : List ℕ). AreTables c.args.plan.now c.args.n calls (c.args.cells.now.items ++ c.new.result ∷ [])) (sym c.in_ok-push-2.ensures.items)
    (add_some log c.args.plan.now count c.args.n c.args.calls.now.items c.args.cells.now.items c.in-Some.shader.now c.new.result c.requires.plan c.requires.first c.requires.last c.in-Some.ensures c.requires.before same))
