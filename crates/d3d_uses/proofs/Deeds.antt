-- What is kept of a buffer still stands after one more deed, of that buffer or of another.
use Rattle.std.proofs.Common.{◌≡◌, ◌≢◌, ℕ, max, min, Bool, true, false, ◌&&◌, ◌||◌, [], ◌∷◌, Some, None, refl, sym, ap, ◌∙◌}
use Rattle.std.specs.Prelude.{◌==◌, nat_lt, if◌then◌else◌}
use Rattle.std.proofs.lemmas.Bool.{eq-eqb, ne_eqb, or_parts}
use Rattle.dx_types.specs.declared.range.ResRange.{ResRange}
use Rattle.d3d_model.specs.Past.{Past, Deed, Makes, Discards, Binds, is_bound, last_binding, was_discarded}
use Rattle.d3d_uses.specs.Summary.{Stands, BindsMore, untouched, was_made}
use Rattle.d3d_uses.specs.declared.held.Held.{Held}

same : (a : ℕ) → (a == a) ≡ true
same a = eq-eqb a a refl

-- of no calls
pub stands_empty : (res : ℕ) → Stands [] res untouched
unfolding is_bound last_binding was_discarded
stands_empty res = record { last = refl; bound = λ from to. refl; discarded = λ e. refl }

-- a buffer that was made has no use, and no bound byte
pub stands_made : (n : ℕ) (past : Past) (res : ℕ) → Stands (record { call = n; deed = Makes res } ∷ past) res untouched
unfolding is_bound last_binding
stands_made n past res = record {
  last = sym (ap (λ (b : Bool). if b then None else last_binding past res) (same res));
  bound = λ from to. sym (ap (λ (b : Bool). if b || false then false else is_bound past (record { res = res; from = from; to = to })) (same res));
  discarded = λ e. absurd (let made = (or_parts (res == res) (was_made past res) e).0 in let is = same res in cc);
}

-- a discard leaves no bound byte, and the last use as it was
pub stands_discarded : (n : ℕ) (past : Past) (res : ℕ) (h : Held) → Stands past res h
    → Stands (record { call = n; deed = Discards res } ∷ past) res (record h { discarded = true; bound = [] })
unfolding is_bound last_binding was_discarded
stands_discarded n past res h s = record {
  last = s.last;
  bound = λ from to. sym (ap (λ (b : Bool). if b then false else is_bound past (record { res = res; from = from; to = to })) (same res));
  discarded = λ e. sym (ap (λ (b : Bool). b || was_discarded past res) (same res));
}

-- a call that binds some of it is the last use
pub stands_bound : (n : ℕ) (past : Past) (r : ResRange) (h new : Held) → Stands past r.res h → BindsMore h n r.from r.to new
    → Stands (record { call = n; deed = Binds r } ∷ past) r.res new
unfolding is_bound last_binding was_discarded
stands_bound n past r h new s binds = record {
  last = binds.last ∙ sym (ap (λ (b : Bool). if b then Some n else last_binding past r.res) (same r.res));
  bound = λ from to.
      binds.bound from to
      ∙ ap (λ (b : Bool). nat_lt (max from r.from) (min to r.to) || b) (s.bound from to)
      ∙ sym (ap (λ (b : Bool). (b && nat_lt (max from r.from) (min to r.to)) || is_bound past (record { res = r.res; from = from; to = to })) (same r.res));
  discarded = λ e. binds.discarded ∙ s.discarded e;
}

-- ---- another buffer's deed

abbrev pub of_buffer : Deed → ℕ
of_buffer (Makes res) = res
of_buffer (Discards res) = res
of_buffer (Binds range) = range.res

pub stands_beside : (n : ℕ) (past : Past) (d : Deed) (res : ℕ) (h : Held) → of_buffer d ≢ res → Stands past res h → Stands (record { call = n; deed = d } ∷ past) res h
unfolding is_bound last_binding was_discarded
stands_beside n past (Makes made) res h other s =
    let e = ne_eqb made res other in
    record {
      last = s.last ∙ sym (ap (λ (b : Bool). if b then None else last_binding past res) e);
      bound = λ from to. s.bound from to ∙ sym (ap (λ (b : Bool). if b || false then false else is_bound past (record { res = res; from = from; to = to })) e);
      discarded = λ none. s.discarded (or_parts (made == res) (was_made past res) none).1;
    }
stands_beside n past (Discards id) res h other s =
    let e = ne_eqb id res other in
    record {
      last = s.last;
      bound = λ from to. s.bound from to ∙ sym (ap (λ (b : Bool). if b then false else is_bound past (record { res = res; from = from; to = to })) e);
      discarded = λ none. s.discarded none ∙ sym (ap (λ (b : Bool). b || was_discarded past res) e);
    }
stands_beside n past (Binds r) res h other s =
    let e = ne_eqb r.res res other in
    let f = ne_eqb res r.res (λ q. other (sym q)) in
    record {
      last = s.last ∙ sym (ap (λ (b : Bool). if b then Some n else last_binding past res) e);
      bound = λ from to.
          s.bound from to
          ∙ sym (ap (λ (b : Bool). (b && nat_lt (max from r.from) (min to r.to)) || is_bound past (record { res = res; from = from; to = to })) f);
      discarded = s.discarded;
    }
