use Rattle.std.proofs.Common.{List, [], ◌∷◌, ◌++◌, refl, ap, ◌∙◌}
use Rattle.call_log.specs.View.{call_view}
use Rattle.call_log.specs.declared.call.Call as log
use Rattle.d3d_lists.specs.Calls.{calls_in}
use Rattle.d3d_lists.proofs.Begun.{begun_begin, begun_either, begun_end, begun_same}
use Rattle.d3d_lists.proofs.Tables.{calls_in-more}
use Rattle.d3d_lists.proofs.opened.OpenList.push.Goals as goal

pub invariant_of-self-in-Break-branch-2 : goal.invariant_of-self-in-Break-branch-2
invariant_of-self-in-Break-branch-2 c =
    let self = c.args.self.now in
    record {
      begun_is = begun_same self.begun c.make_room.new.self (calls_in self.calls.items) (calls_in c.push.new.self.items) c.make_room.ensures.same (ap calls_in c.in_err-push-in-Begin.ensures.items) self.begun_is;
    }

pub invariant_of-self-in-Begin : goal.invariant_of-self-in-Begin
invariant_of-self-in-Begin c =
    let self = c.args.self.now in
    let cs = self.calls.items in
    record {
      begun_is = begun_begin c.make_room.new.self c.raise.new.self (calls_in cs) (calls_in c.push.new.self.items) c.args.call.number c.in-Begin.query c.raise.ensures.counts
          (ap calls_in c.in_ok-push-in-Begin.ensures.items ∙ calls_in-more cs c.args.call
          ∙ ap (λ (k : log.Call). calls_in cs ++ record { number = c.args.call.number; call = call_view k } ∷ []) c.in-Begin.is)
          (begun_same self.begun c.make_room.new.self (calls_in cs) (calls_in cs) c.make_room.ensures.same refl self.begun_is);
    }

pub invariant_of-self-in-EndQuery : goal.invariant_of-self-in-EndQuery
invariant_of-self-in-EndQuery c =
    let self = c.args.self.now in
    let cs = self.calls.items in
    record {
      begun_is = begun_end self.begun c.clear.new.self (calls_in cs) (calls_in c.push-in-EndQuery.new.self.items) c.args.call.number c.in-EndQuery.query c.clear.ensures
          (ap calls_in c.in_ok-push-in-EndQuery.ensures.items ∙ calls_in-more cs c.args.call
          ∙ ap (λ (k : log.Call). calls_in cs ++ record { number = c.args.call.number; call = call_view k } ∷ []) c.in-EndQuery.is)
          self.begun_is;
    }

pub invariant_of-self-in_default : goal.invariant_of-self-in_default
invariant_of-self-in_default c =
    let self = c.args.self.now in
    record {
      begun_is = begun_either self.begun self.calls.items c.push-in_default.new.self.items _ c.args.call (record { begin = c.in_default.not-Begin; end = c.in_default.not-EndQuery })
          c.push-in_default.ensures.items self.begun_is;
    }

pub returns-in_ok-push-in-Begin-clause-pushed : goal.returns-in_ok-push-in-Begin-clause-pushed
returns-in_ok-push-in-Begin-clause-pushed c = ap calls_in c.in_ok-push-in-Begin.ensures.items ∙ calls_in-more c.args.self.now.calls.items c.args.call

pub returns-in_ok-push-in-EndQuery-clause-pushed : goal.returns-in_ok-push-in-EndQuery-clause-pushed
returns-in_ok-push-in-EndQuery-clause-pushed c = ap calls_in c.in_ok-push-in-EndQuery.ensures.items ∙ calls_in-more c.args.self.now.calls.items c.args.call

pub returns-in_ok-push-in_default : goal.returns-in_ok-push-in_default
returns-in_ok-push-in_default c = record { pushed = ap calls_in c.in_ok-push-in_default.ensures.items ∙ calls_in-more c.args.self.now.calls.items c.args.call; unchanged = tt }
