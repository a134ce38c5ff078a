use Rattle.std.proofs.Common.{◌<◌, length, get_or, ◌≡◌, ℕ, ◌+◌, ◌-◌, List, drop, ap, sym, subst, ◌∙◌, arith}
use Rattle.call_log.specs.Grammar.{Frame, Reading, StandsAt, Indexed, IsWhole, frame_no, start_behind, body_of}
use Rattle.call_log.proofs.Index.{frame_no-at}
use Rattle.call_log.proofs.Frames.{body_stands}
use Rattle.call_log.proofs.log.Log.item.Goals as goal

pub returns-clause-record : goal.returns-clause-record
returns-clause-record c =
    let inside = c.self.inside in
    frame_no-at inside.bytes.now inside.starts.items c.args.n c.index.result.now _ (omega arith) (omega arith) c.index.ensures c.item_at.ensures.record
    ∙ ap (λ (r : Reading). frame_no r.frames c.args.n) c.self.view_is

pub returns-clause-at : goal.returns-clause-at
returns-clause-at c =
    let inside = c.self.inside in
    c.item_at.ensures.at ∙ c.index.ensures ∙ c.self.invariant.placed (c.args.n - 1) c.index.result.now (omega arith)
    ∙ ap (λ (r : Reading). start_behind r.frames (c.args.n - 1)) c.self.view_is

-- the body behind a record's place, in the bytes of the log
lies : (bytes starts : List ℕ) (n at place : ℕ) (body : List ℕ) → Indexed bytes starts → n < length starts → at ≡ get_or starts n at → place ≡ at → body ≡ body_of (drop at bytes)
    → StandsAt bytes (place + 8) body
lies bytes starts n at place body x lt is same e =
    let w : IsWhole (drop at bytes) = subst (λ (p : ℕ). IsWhole (drop p bytes)) (sym is) (x.whole n at lt) in
    let stands : StandsAt bytes (at + 8) (body_of (drop at bytes)) = body_stands bytes at (omega (arith, is, x.within n at lt)) w in
    let there : StandsAt bytes (at + 8) body = subst (λ (b : List ℕ). StandsAt bytes (at + 8) b) (sym e) stands in
    subst (λ (p : ℕ). StandsAt bytes (p + 8) body) (sym same) there

pub returns-clause-lent : goal.returns-clause-lent
returns-clause-lent c =
    let inside = c.self.inside in
    let body : c.item_at.result.body.now ≡ body_of (drop c.index.result.now inside.bytes.now) = ap (λ (f : Frame). f.body) c.item_at.ensures.record in
    let stands : StandsAt inside.bytes.now (c.item_at.result.at + 8) c.item_at.result.body.now =
    lies inside.bytes.now inside.starts.items (c.args.n - 1) c.index.result.now _ _ c.self.invariant (omega arith) c.index.ensures c.item_at.ensures.at body in
    subst (λ (r : Reading). StandsAt r.bytes (c.item_at.result.at + 8) c.item_at.result.body.now) c.self.view_is stands

pub returns-clause-small : goal.returns-clause-small
returns-clause-small c =
    let inside = c.self.inside in
    let body : c.item_at.result.body.now ≡ body_of (drop c.index.result.now inside.bytes.now) = ap (λ (f : Frame). f.body) c.item_at.ensures.record in
    let stands : StandsAt inside.bytes.now (c.item_at.result.at + 8) c.item_at.result.body.now =
    lies inside.bytes.now inside.starts.items (c.args.n - 1) c.index.result.now _ _ c.self.invariant (omega arith) c.index.ensures c.item_at.ensures.at body in
    omega (arith, stands.inside, c.self.invariant.small)
