-- What stands at a place, and the bytes of a record that stands there.
use Rattle.std.proofs.Common.{◌≡◌, ℕ, ◌+◌, ◌-◌, ◌*◌, ◌/◌, ◌%◌, ◌<◌, ◌≤◌, Bool, true, false, cond, not, ◌&&◌, eqb, ltb, List, [], ◌∷◌, ◌++◌, length, get_or, take, drop, refl, sym, ap, ◌∙◌, arith}
use Rattle.std.proofs.lemmas.Bool.{eqb-true, ltb-false}
use Rattle.std.proofs.lemmas.List.{length-drop, length-take, length-take-le, take-append-drop, drop-drop, get_or-drop}
use Rattle.call_log.specs.declared.fault.LogFault.{LogFault}
use Rattle.call_log.specs.declared.fault.LogKind.TheVariants.{Truncated, BodyLength, UnknownKind, NoEnd}
use Rattle.call_log.specs.declared.fault.Head.{Head}
use Rattle.call_log.specs.declared.fault.Head.TheVariants.{Whole, End, Broken}
use Rattle.call_log.specs.Body.{fits}
use Rattle.call_log.specs.Grammar.{IsFrame, StandsAt, spell, end_record, end_parts, head_at, is_kind, kind_of, context_of, length_of, body_of, frame_at, IsWhole}

abbrev pub IsBytes : List ℕ → Type 0
IsBytes bytes = (i : ℕ) → get_or bytes i 0 < 256

not_broken : (b : Bool) (f : LogFault) (h g : Head) → (g ≡ Broken f → ⊥) → cond b (Broken f) h ≡ g → (b ≡ false) × (h ≡ g)
not_broken true f h g apart e = absurd (apart (sym e))
not_broken false f h g apart e = (refl, e)

no_whole_end : (b c : Bool) (f g : LogFault) → cond b (cond c End (Broken f)) (Broken g) ≡ Whole → ⊥
no_whole_end true true f g e = cc
no_whole_end true false f g e = cc
no_whole_end false c f g e = cc

whole_kind : (b c : Bool) (h : Head) (f : LogFault) → (h ≡ Whole → ⊥) → cond b h (cond c Whole (Broken f)) ≡ Whole → (b ≡ false) × (c ≡ true)
whole_kind true c h f apart e = absurd (apart e)
whole_kind false true h f apart e = (refl, refl)
whole_kind false false h f apart e = absurd cc

end_kind : (b c : Bool) (h : Head) (f : LogFault) → cond b h (cond c Whole (Broken f)) ≡ End → (b ≡ true) × (h ≡ End)
end_kind true c h f e = (refl, e)
end_kind false true h f e = absurd cc
end_kind false false h f e = absurd cc

ended : (b c : Bool) (f g : LogFault) → cond b (cond c End (Broken f)) (Broken g) ≡ End → (b ≡ true) × (c ≡ true)
ended true true f g e = (refl, refl)
ended true false f g e = absurd cc
ended false c f g e = absurd cc

pub both_true : (a b : Bool) → a && b ≡ true → (a ≡ true) × (b ≡ true)
both_true true true e = (refl, refl)
both_true true false e = absurd cc
both_true false b e = absurd cc

pub whole_of : (p : ℕ) (rest : List ℕ) → head_at p rest ≡ Whole → IsWhole rest
unfolding head_at
whole_of p rest e =
    let a = not_broken (eqb (length rest) 0) (record { at = p; kind = NoEnd }) _ Whole (λ x. cc) e in
    let b = not_broken (ltb (length rest) 8) (record { at = p; kind = Truncated }) _ Whole (λ x. cc) a.1 in
    let k = not_broken (not (is_kind (kind_of rest))) (record { at = p; kind = UnknownKind }) _ Whole (λ x. cc) b.1 in
    let c = not_broken (ltb (length rest) (8 + length_of rest)) (record { at = p; kind = Truncated }) _ Whole (λ x. cc) k.1 in
    let d = whole_kind (eqb (kind_of rest) 0) (fits (kind_of rest) (body_of rest)) (end_parts p (context_of rest) (length_of rest) (length rest)) (record { at = p; kind = BodyLength }) (no_whole_end _ _ _ _) c.1 in
    record { long = ltb-false _ _ b.0; room = ltb-false _ _ c.0; whole = d.1 }

-- no byte but zeros
zeros : (a b c d e f g h : ℕ) → a ≡ 0 → b ≡ 0 → c ≡ 0 → d ≡ 0 → e ≡ 0 → f ≡ 0 → g ≡ 0 → h ≡ 0 → a ∷ b ∷ c ∷ d ∷ e ∷ f ∷ g ∷ h ∷ [] ≡ end_record
zeros a b c d e f g h p0 p1 p2 p3 p4 p5 p6 p7 i = p0 i ∷ p1 i ∷ p2 i ∷ p3 i ∷ p4 i ∷ p5 i ∷ p6 i ∷ p7 i ∷ []

end_bytes : (rest : List ℕ) → length rest ≡ 8 → kind_of rest ≡ 0 → context_of rest ≡ 0 → length_of rest ≡ 0 → rest ≡ end_record
end_bytes [] n k c l = absurd (omega arith)
end_bytes (a ∷ []) n k c l = absurd (omega arith)
end_bytes (a ∷ b ∷ []) n k c l = absurd (omega arith)
end_bytes (a ∷ b ∷ x ∷ []) n k c l = absurd (omega arith)
end_bytes (a ∷ b ∷ x ∷ y ∷ []) n k c l = absurd (omega arith)
end_bytes (a ∷ b ∷ x ∷ y ∷ p ∷ []) n k c l = absurd (omega arith)
end_bytes (a ∷ b ∷ x ∷ y ∷ p ∷ q ∷ []) n k c l = absurd (omega arith)
end_bytes (a ∷ b ∷ x ∷ y ∷ p ∷ q ∷ r ∷ []) n k c l = absurd (omega arith)
end_bytes (a ∷ b ∷ x ∷ y ∷ p ∷ q ∷ r ∷ s ∷ []) n k c l =
    zeros a b x y p q r s (omega arith) (omega arith) (omega arith) (omega arith) (omega arith) (omega arith) (omega arith) (omega arith)
end_bytes (a ∷ b ∷ x ∷ y ∷ p ∷ q ∷ r ∷ s ∷ t ∷ more) n k c l = absurd (omega arith)

pub end_of : (p : ℕ) (rest : List ℕ) → head_at p rest ≡ End → rest ≡ end_record
unfolding head_at
end_of p rest e =
    let a = not_broken (eqb (length rest) 0) (record { at = p; kind = NoEnd }) _ End (λ x. cc) e in
    let b = not_broken (ltb (length rest) 8) (record { at = p; kind = Truncated }) _ End (λ x. cc) a.1 in
    let k = not_broken (not (is_kind (kind_of rest))) (record { at = p; kind = UnknownKind }) _ End (λ x. cc) b.1 in
    let c = not_broken (ltb (length rest) (8 + length_of rest)) (record { at = p; kind = Truncated }) _ End (λ x. cc) k.1 in
    let d = end_kind (eqb (kind_of rest) 0) (fits (kind_of rest) (body_of rest)) (end_parts p (context_of rest) (length_of rest) (length rest)) (record { at = p; kind = BodyLength }) c.1 in
    let f = ended (eqb (length_of rest) 0 && eqb (context_of rest) 0) (eqb (length rest) 8) _ _ d.1 in
    let g = both_true (eqb (length_of rest) 0) (eqb (context_of rest) 0) f.0 in
    end_bytes rest (eqb-true _ _ f.1) (eqb-true _ _ d.0) (eqb-true _ _ g.1) (eqb-true _ _ g.0)

-- ---- the bytes of a record

low_two : (a b : ℕ) → a < 256 → (a + 256 * (b + 0)) % 256 ≡ a
low_two a b p = omega arith

high_two : (a b : ℕ) → a < 256 → b < 256 → ((a + 256 * (b + 0)) / 256) % 256 ≡ b
high_two a b p q = omega arith

pub four_0 : (n a b c d : ℕ) → n ≡ a + 256 * (b + 256 * (c + 256 * (d + 0))) → a < 256 → n % 256 ≡ a
four_0 n a b c d e p = omega arith

pub four_1 : (n a b c d : ℕ) → n ≡ a + 256 * (b + 256 * (c + 256 * (d + 0))) → a < 256 → b < 256 → (n / 256) % 256 ≡ b
four_1 n a b c d e p q = omega arith

pub four_2 : (n a b c d : ℕ) → n ≡ a + 256 * (b + 256 * (c + 256 * (d + 0))) → a < 256 → b < 256 → c < 256 → (n / 65536) % 256 ≡ c
four_2 n a b c d e p q r = omega arith

pub four_3 : (n a b c d : ℕ) → n ≡ a + 256 * (b + 256 * (c + 256 * (d + 0))) → a < 256 → b < 256 → c < 256 → d < 256 → (n / 16777216) % 256 ≡ d
four_3 n a b c d e p q r s = omega arith

front_cells : (a b x y p q r s : ℕ) (more : List ℕ) → IsBytes (a ∷ b ∷ x ∷ y ∷ p ∷ q ∷ r ∷ s ∷ more) → length_of (a ∷ b ∷ x ∷ y ∷ p ∷ q ∷ r ∷ s ∷ more) ≤ length more
    → spell (frame_at (a ∷ b ∷ x ∷ y ∷ p ∷ q ∷ r ∷ s ∷ more)) ≡ a ∷ b ∷ x ∷ y ∷ p ∷ q ∷ r ∷ s ∷ take (length_of (a ∷ b ∷ x ∷ y ∷ p ∷ q ∷ r ∷ s ∷ more)) more
front_cells a b x y p q r s more fits room =
    let body = take (length_of (a ∷ b ∷ x ∷ y ∷ p ∷ q ∷ r ∷ s ∷ more)) more in
    let len : length body ≡ p + 256 * (q + 256 * (r + 256 * (s + 0))) = length-take-le _ more room in
    let e0 = low_two a b (fits 0) in
    let e1 = high_two a b (fits 0) (fits 1) in
    let e2 = low_two x y (fits 2) in
    let e3 = high_two x y (fits 2) (fits 3) in
    let e4 = four_0 (length body) p q r s len (fits 4) in
    let e5 = four_1 (length body) p q r s len (fits 4) (fits 5) in
    let e6 = four_2 (length body) p q r s len (fits 4) (fits 5) (fits 6) in
    let e7 = four_3 (length body) p q r s len (fits 4) (fits 5) (fits 6) (fits 7) in
    λ i. e0 i ∷ e1 i ∷ e2 i ∷ e3 i ∷ e4 i ∷ e5 i ∷ e6 i ∷ e7 i ∷ body

-- the record in front, and what is behind it
pub spelled_front : (rest : List ℕ) → IsBytes rest → IsWhole rest → rest ≡ spell (frame_at rest) ++ drop (8 + length_of rest) rest
spelled_front [] fits w = absurd (omega (arith, w.long))
spelled_front (a ∷ []) fits w = absurd (omega (arith, w.long))
spelled_front (a ∷ b ∷ []) fits w = absurd (omega (arith, w.long))
spelled_front (a ∷ b ∷ x ∷ []) fits w = absurd (omega (arith, w.long))
spelled_front (a ∷ b ∷ x ∷ y ∷ []) fits w = absurd (omega (arith, w.long))
spelled_front (a ∷ b ∷ x ∷ y ∷ p ∷ []) fits w = absurd (omega (arith, w.long))
spelled_front (a ∷ b ∷ x ∷ y ∷ p ∷ q ∷ []) fits w = absurd (omega (arith, w.long))
spelled_front (a ∷ b ∷ x ∷ y ∷ p ∷ q ∷ r ∷ []) fits w = absurd (omega (arith, w.long))
spelled_front (a ∷ b ∷ x ∷ y ∷ p ∷ q ∷ r ∷ s ∷ more) fits w =
    let rest : List ℕ = a ∷ b ∷ x ∷ y ∷ p ∷ q ∷ r ∷ s ∷ more in
    let n = length_of rest in
    let room : n ≤ length more = omega (arith, w.room) in
    let split : more ≡ take n more ++ drop n more = sym (take-append-drop n more) in
    let behind : drop n more ≡ drop (8 + n) rest = drop-drop n 8 rest in
    let front = front_cells a b x y p q r s more fits room in
    ap (λ (t : List ℕ). a ∷ b ∷ x ∷ y ∷ p ∷ q ∷ r ∷ s ∷ t) (split ∙ ap (λ (t : List ℕ). take n more ++ t) behind)
    ∙ ap (λ (t : List ℕ). t ++ drop (8 + n) rest) (sym front)

pub IsBytes-drop : (n : ℕ) (bytes : List ℕ) → IsBytes bytes → IsBytes (drop n bytes)
IsBytes-drop n bytes h i = rw get_or-drop (h (n + i))

pub front_frame : (rest : List ℕ) → IsBytes rest → IsWhole rest → IsFrame (frame_at rest)
front_frame rest fits w =
    record {
      kind_fits = omega (arith, fits 0, fits 1);
      context_fits = let f = IsBytes-drop 2 rest fits in omega (arith, f 0, f 1);
      body_fits = let f = IsBytes-drop 4 rest fits in omega (arith, f 0, f 1, f 2, f 3, length-take (length_of rest) (drop 8 rest));
      whole = w.whole;
    }

-- a record's body stands behind its first 8 bytes
pub body_stands : (bytes : List ℕ) (at : ℕ) → at ≤ length bytes → IsWhole (drop at bytes) → StandsAt bytes (at + 8) (body_of (drop at bytes))
body_stands bytes at le w =
    let rest : List ℕ = drop at bytes in
    let left : length rest ≡ length bytes - at = length-drop at bytes in
    let behind : length (drop 8 rest) ≡ length rest - 8 = length-drop 8 rest in
    let size : length (body_of rest) ≡ length_of rest = length-take-le (length_of rest) (drop 8 rest) (let r = w.room in omega arith) in
    record {
      inside = let r = w.room in omega arith;
      same = ap (λ (n : ℕ). take n (drop (at + 8) bytes)) size ∙ ap (λ (l : List ℕ). take (length_of rest) l) (sym (drop-drop 8 at bytes));
    }
