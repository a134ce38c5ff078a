use Rattle.std.proofs.Common.{◌≡◌, ◌-◌, take, drop, ◌++◌, ◌∷◌, [], List, ℕ, length, sym, ap, subst, ◌∙◌, arith}
use Rattle.std.proofs.lemmas.List.{map-append}
use Rattle.std.proofs.lemmas.Result.{on_ok_weaker}
use Rattle.dx_types.specs.declared.range.ResRange.{ResRange}
use Rattle.call_log.specs.View.{call_view}
use Rattle.d3d_model.specs.Binding.{Bindings, default_bindings}
use Rattle.d3d_model.specs.D3dState.{Numbered, bindings_of}
use Rattle.d3d_model.specs.Past.{Past}
use Rattle.d3d_model.specs.Stream.{binds, past_of_list}
use Rattle.d3d_state.specs.Meaning.{objects_of}
use Rattle.d3d_uses.specs.Summary.{Summarises}
use Rattle.d3d_effects.specs.Listed.{bindings_after, bound_by_list}
use Rattle.d3d_effects.proofs.ListCalls.{bound_more, last_part, past_more}
use Rattle.d3d_effects.proofs.Parts.{ends_more}
use Rattle.d3d_effects.proofs.listed.ListUses.record.Goals as goal

pub returns : goal.returns
returns c =
    on_ok_weaker c.push_len.result
    (λ pushed cs keeps set.
    let o = objects_of c.args.objects.now in
    let call = call_view c.args.call.now in
    let n : Numbered = record { number = c.args.n; call = call } in
    let b = bindings_after o default_bindings cs in
    let old = c.args.self.now in
    let starts : c.len-start.result ≡ length old.ranges.items = omega (arith, c.len-start.ensures, old.ranges.ok.0) in
    let all = c.deref.result.now in
    let own : take (length all - c.len-start.result) (drop c.len-start.result all) ≡ binds o b call =
    last_part old.ranges.items (binds o (bindings_of o c.args.context) call) c.deref.result.now c.len-start.result (c.deref.ensures.value ∙ c.in_ok-push_bound.ensures) starts
    ∙ ap (λ (k : Bindings). binds o k call) set in
    let bound : c.push_bound.new.ranges.items ≡ bound_by_list o (cs ++ n ∷ []) =
    c.in_ok-push_bound.ensures ∙ ap (λ (rs : List ResRange). rs ++ binds o (bindings_of o c.args.context) call) keeps.bound
    ∙ ap (λ (k : Bindings). bound_by_list o cs ++ binds o k call) set ∙ bound_more o cs n in
    let long : c.len.result ≡ length (bound_by_list o (cs ++ n ∷ [])) = omega (arith, c.len.ensures, c.push_bound.new.ranges.ok.0, ap (λ (rs : List ResRange). length rs) bound) in
    record {
      asked = λ res. subst (λ (p : Past). Summarises p c.keep_listed.new.uses res) (past_more o cs n) (c.in_ok-keep_listed.ensures o b own (past_of_list o cs) res (keeps.asked res));
      numbers = c.in_ok-push.ensures.items ∙ ap (λ (l : List ℕ). l ++ c.args.n ∷ []) keeps.numbers ∙ sym (map-append (λ (k : Numbered). k.number) cs (n ∷ []));
      bound = bound;
      ends = pushed ∙ ends_more o cs n old.ends.items c.len.result keeps.ends long;
    })
    c.push_len.ensures
