-- The header of a log.
use Rattle.std.proofs.Common.{◌≡◌, ℕ, ◌+◌, ◌*◌, ◌<◌, ◌≤◌, Bool, true, false, cond, not, ◌||◌, eqb, ltb, List, [], ◌∷◌, ◌++◌, length, drop, Option, Some, None, refl, arith}
use Rattle.std.proofs.lemmas.Bool.{eqb-true, ltb-false}
use Rattle.byteorder.specs.Endian.{little_number}
use Rattle.call_log.specs.declared.fault.LogFault.{LogFault}
use Rattle.call_log.specs.declared.fault.LogKind.TheVariants.{Magic, Version, Truncated}
use Rattle.call_log.specs.Grammar.{header, header_fault}
use Rattle.call_log.proofs.Frames.{IsBytes}
use Rattle.call_log.proofs.Index.{ReadsTo}

whole_after : (b : Bool) (f : LogFault) (h : Option LogFault) → cond b (Some f) h ≡ None → (b ≡ false) × (h ≡ None)
whole_after true f h e = absurd cc
whole_after false f h e = (refl, e)

neither : (a b : Bool) → a || not b ≡ false → (a ≡ false) × (b ≡ true)
neither true b e = absurd cc
neither false true e = (refl, refl)
neither false false e = absurd cc

doubled : (b : Bool) → not b ≡ false → b ≡ true
doubled true e = refl
doubled false e = absurd cc

first_cells : (a b c d : ℕ) → a < 256 → b < 256 → c < 256 → d < 256 → a + 256 * (b + 256 * (c + 256 * (d + 0))) ≡ 827077444 → (a ≡ 68) × (b ≡ 51) × (c ≡ 76) × (d ≡ 49)
first_cells a b c d p q r s e = (omega arith, omega arith, omega arith, omega arith)

second_cells : (a b c d : ℕ) → a < 256 → b < 256 → c < 256 → d < 256 → a + 256 * (b + 256 * (c + 256 * (d + 0))) ≡ 1 → (a ≡ 1) × (b ≡ 0) × (c ≡ 0) × (d ≡ 0)
second_cells a b c d p q r s e = (omega arith, omega arith, omega arith, omega arith)

pub record HasHeader (bytes : List ℕ) : Type 0 where
  pub long : 8 ≤ length bytes
  pub front : bytes ≡ header ++ drop 8 bytes

cells : (bytes : List ℕ) → IsBytes bytes → 8 ≤ length bytes → little_number 4 bytes ≡ 827077444 → little_number 4 (drop 4 bytes) ≡ 1 → bytes ≡ header ++ drop 8 bytes
cells [] fits long m v = absurd (omega (arith, long))
cells (a ∷ []) fits long m v = absurd (omega (arith, long))
cells (a ∷ b ∷ []) fits long m v = absurd (omega (arith, long))
cells (a ∷ b ∷ x ∷ []) fits long m v = absurd (omega (arith, long))
cells (a ∷ b ∷ x ∷ y ∷ []) fits long m v = absurd (omega (arith, long))
cells (a ∷ b ∷ x ∷ y ∷ p ∷ []) fits long m v = absurd (omega (arith, long))
cells (a ∷ b ∷ x ∷ y ∷ p ∷ q ∷ []) fits long m v = absurd (omega (arith, long))
cells (a ∷ b ∷ x ∷ y ∷ p ∷ q ∷ r ∷ []) fits long m v = absurd (omega (arith, long))
cells (a ∷ b ∷ x ∷ y ∷ p ∷ q ∷ r ∷ s ∷ more) fits long m v =
    let one = first_cells a b x y (fits 0) (fits 1) (fits 2) (fits 3) m in
    let two = second_cells p q r s (fits 4) (fits 5) (fits 6) (fits 7) v in
    λ i. one.0 i ∷ one.1 i ∷ one.2 i ∷ one.3 i ∷ two.0 i ∷ two.1 i ∷ two.2 i ∷ two.3 i ∷ more

pub has_header : (bytes : List ℕ) → IsBytes bytes → header_fault bytes ≡ None → HasHeader bytes
unfolding header_fault
has_header bytes fits e =
    let a = whole_after (ltb (length bytes) 4 || not (eqb (little_number 4 bytes) 827077444)) (record { at = 0; kind = Magic }) _ e in
    let b = whole_after (ltb (length bytes) 8) (record { at = 4; kind = Truncated }) _ a.1 in
    let c = whole_after (not (eqb (little_number 4 (drop 4 bytes)) 1)) (record { at = 4; kind = Version }) None b.1 in
    let magic = neither (ltb (length bytes) 4) (eqb (little_number 4 bytes) 827077444) a.0 in
    let long : 8 ≤ length bytes = ltb-false _ _ b.0 in
    record { long = long; front = cells bytes fits long (eqb-true _ _ magic.1) (eqb-true _ _ (doubled _ c.0)) }

pub reads_none : (bytes starts : List ℕ) → starts ≡ [] → IsBytes bytes → header_fault bytes ≡ None → ReadsTo bytes starts 8
reads_none bytes [] none fits e =
    let h = has_header bytes fits e in
    record {
      place = omega arith;
      within = h.long;
      count = omega arith;
      spelled = h.front;
      each = tt;
      places = λ k d lt. absurd (omega arith);
      whole = λ k d lt. absurd (omega arith);
      placed = λ n d lt. absurd (omega arith);
    }
reads_none bytes (s ∷ starts) none fits e = absurd cc
