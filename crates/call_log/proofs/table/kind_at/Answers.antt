use Rattle.std.proofs.Common.{◌≡◌, ℕ, List, Option, Some, None, Bor, length, nat_lt, is_some, slice_get, slice_index_or, refl, ap, ◌∙◌, sym}
use Rattle.std.specs.Prelude.{IfSome}
use Rattle.std.specs.Option.{option_map, option_copied}
use Rattle.std.proofs.lemmas.Bool.{ltb-true, ltb-false}
use Rattle.std.proofs.lemmas.Option.{slice_get-map, slice_get_read, slice_get_past}
use Rattle.call_log.specs.declared.kinds.Kind as code
use Rattle.call_log.specs.Kinds.{Kind, kind_view}
use Rattle.call_log.proofs.table.kind_at.Goals as goal

got : (xs : List code.Kind) (i : ℕ) (o : Option (Bor code.Kind)) → is_some o ≡ nat_lt i (length xs) → IfSome o (λ r. r.now ≡ slice_index_or xs i r.now) → option_copied o ≡ slice_get xs i
got xs i None n e = sym (slice_get_past xs i (ltb-false _ _ (sym n)))
got xs i (Some r) n e = sym (slice_get_read xs (length xs) i r.now refl (ltb-true _ _ (sym n)) e)

pub returns : goal.returns
returns c =
    ap (option_map kind_view) (c.copied.ensures ∙ got c.kinds.result.now c.args.place c.get.result c.get.ensures.lookup.0 c.get.ensures.lookup.1)
    ∙ sym (slice_get-map kind_view c.kinds.result.now c.args.place)
    ∙ ap (λ (ks : List Kind). slice_get ks c.args.place) c.kinds.ensures
