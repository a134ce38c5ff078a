-- One more call in a list.
use Rattle.std.proofs.Common.{◌≡◌, ℕ, ◌-◌, ◌==◌, List, [], ◌∷◌, ◌++◌, length, map, take, drop, refl, sym, ap, ◌∙◌, append_assoc, append-nil, arith}
use Rattle.std.proofs.lemmas.List.{length-append, take_all}
use Rattle.std.proofs.Math.Seq.{drop-append_seam}
use Rattle.std.specs.List.{filter_map}
use Rattle.std.proofs.lemmas.List.Elements.{filter_map-append}
use Rattle.dx_types.specs.declared.range.ResRange.{ResRange}
use Rattle.call_log.specs.Call as calls
use Rattle.call_log.specs.Call.{Call}
use Rattle.call_log.specs.View.{call_view}
use Rattle.call_log.specs.declared.call.Call as code
use Rattle.call_log.specs.declared.call.Call.TheVariants as codes
use Rattle.std.specs.Borrow.{Bor}
use Rattle.d3d_effects.proofs.Passes.{differs}
use Rattle.d3d_model.specs.Binding.{Bindings, default_bindings}
use Rattle.d3d_model.specs.D3dState.{Numbered, Objects}
use Rattle.d3d_model.specs.Past.{Binds, Deed, Past, then_done}
use Rattle.d3d_model.specs.Stream.{binds, deeds, deeds_from, past_of_list, set_by}
use Rattle.d3d_model.specs.Uses.{range_bound}
use Rattle.d3d_effects.specs.Listed.{bindings_after, bound_by_list}
use Rattle.d3d_effects.proofs.BoundRanges.{only_bound, written}

-- deeds behind others of the same call
pub then_more : (n : ℕ) (past : Past) (ds es : List Deed) → then_done n (then_done n past ds) es ≡ then_done n past (ds ++ es)
unfolding then_done
then_more n past [] es = refl
then_more n past (d ∷ ds) es = then_more n (record { call = n; deed = d } ∷ past) ds es

pub deeds_more : (o : Objects) (b : Bindings) (cs : List Numbered) (c : Numbered) → deeds_from o b (cs ++ c ∷ []) ≡ deeds_from o b cs ++ deeds o (bindings_after o b cs) c.call
unfolding bindings_after
deeds_more o b [] c = append-nil (deeds o b c.call)
deeds_more o b (d ∷ cs) c =
    ap (λ (l : List Deed). deeds o b d.call ++ l) (deeds_more o (set_by o b d.call) cs c)
    ∙ sym (append_assoc (deeds o b d.call) (deeds_from o (set_by o b d.call) cs) (deeds o (bindings_after o (set_by o b d.call) cs) c.call))

-- the past of a list with one more call
pub past_more : (o : Objects) (cs : List Numbered) (c : Numbered) → then_done 0 (past_of_list o cs) (deeds o (bindings_after o default_bindings cs) c.call) ≡ past_of_list o (cs ++ c ∷ [])
past_more o cs c =
    then_more 0 [] (deeds_from o default_bindings cs) (deeds o (bindings_after o default_bindings cs) c.call)
    ∙ ap (λ (ds : List Deed). then_done 0 [] ds) (sym (deeds_more o default_bindings cs c))

pub bound_each : (o : Objects) (b : Bindings) (c : Call) → filter_map range_bound (deeds o b c) ≡ binds o b c
bound_each o b (calls.MapWrite res mode offset bytes) = written (mode == 0) (mode == 2) res _
bound_each o b c = only_bound (binds o b c)

-- and what it binds then
pub bound_more : (o : Objects) (cs : List Numbered) (c : Numbered) → bound_by_list o cs ++ binds o (bindings_after o default_bindings cs) c.call ≡ bound_by_list o (cs ++ c ∷ [])
bound_more o cs c =
    let b = bindings_after o default_bindings cs in
    ap (λ (rs : List ResRange). bound_by_list o cs ++ rs) (sym (bound_each o b c.call))
    ∙ sym (ap (λ (ds : List Deed). filter_map range_bound ds) (deeds_more o default_bindings cs c) ∙ filter_map-append range_bound (deeds_from o default_bindings cs) (deeds o b c.call))

-- a call that writes no mapped buffer discards nothing
pub other_deeds : (o : Objects) (b : Bindings) (c : code.Call) → ((res mode offset : ℕ) (bytes : Bor (List ℕ)) → c ≡ codes.MapWrite res mode offset bytes → ⊥)
    → map Binds (binds o b (call_view c)) ≡ deeds o b (call_view c)
other_deeds o b (codes.MapWrite res mode offset bytes) none = absurd (none res mode offset bytes refl)
other_deeds o b _ none = refl

-- nor does a map of another mode
pub write_deeds_in : (o : Objects) (b : Bindings) (c : code.Call) (res mode offset : ℕ) (bytes : Bor (List ℕ)) → c ≡ codes.MapWrite res mode offset bytes → (mode ≡ 0 → ⊥)
    → map Binds (binds o b (call_view c)) ≡ deeds o b (call_view c)
write_deeds_in o b c res mode offset bytes is apart = rw (is, differs mode 0 apart) refl

-- what is appended behind so many ranges
pub last_part : (ranges more all : List ResRange) (start : ℕ) → all ≡ ranges ++ more → start ≡ length ranges → take (length all - start) (drop start all) ≡ more
last_part ranges more all start is starts =
    rw (is, starts) (ap (take (length (ranges ++ more) - length ranges)) (drop-append_seam ranges more)
    ∙ take_all (length (ranges ++ more) - length ranges) more (omega (arith, length-append ranges more)))
