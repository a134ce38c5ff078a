-- What the sets of all blocks say of each byte.
use Rattle.std.proofs.Common.{◌≡◌, ℕ, ◌≤◌, inl, inr, Bool, true, false, cond, ◌&&◌, ◌||◌, ◌==◌, [], Some, None, refl}
use Rattle.std.proofs.Common.{sym, ap, ◌∙◌, subst, arith}
use Rattle.std.specs.Map.{lookup}
use Rattle.std.specs.Ordering.{nat_cmp}
use Rattle.std.specs.BTreeMap.{is_at}
use Rattle.std.proofs.lemmas.Bool.{cases_eq, cond-true, cond-false, false_from_ne_true, eq-eqb}
use Rattle.dx_types.specs.declared.range.Range.{Range}
use Rattle.vk_types.specs.Memory.{covers}
use Rattle.vk_types.proofs.Local.{covered_block, covered_from, covered_to}
use Rattle.barrier_track.specs.Bytes.{Ranges, Blocks, start_of, byte_at, is_within, ranges_if, ranges_of, has_byte}
use Rattle.barrier_track.specs.Bytes.{Adds, IsSame, AddsIf, KeepsBytes, Meets}
use Rattle.barrier_track.proofs.Bytes.{same_place, other_place, byte_none}

-- ---- questions

pub no_bytes : (at : ℕ) → byte_at [] at ≡ false
no_bytes at = byte_none (start_of []) at (λ a le. refl)

pub meets_found : (blocks : Blocks) (r : Range) (rs : Ranges) (met : Bool)
    → Some rs ≡ lookup (is_at (nat_cmp r.block)) blocks
    → Meets (byte_at rs) r.from r.to met → Meets (has_byte blocks r.block) r.from r.to met
meets_found blocks r rs met e h = subst (λ (rs : Ranges). Meets (byte_at rs) r.from r.to met) (ap ranges_if e) h

pub meets_none : (blocks : Blocks) (r : Range) → None ≡ lookup (is_at (nat_cmp r.block)) blocks
    → Meets (has_byte blocks r.block) r.from r.to false
meets_none blocks r e at lo hi = ap (λ (rs : Ranges). byte_at rs at) (ap ranges_if (sym e)) ∙ no_bytes at

-- ---- additions

empty_covers : (r : Range) (block at : ℕ) → r.to ≤ r.from → covers r block at ≡ false
empty_covers r block at le =
    false_from_ne_true (covers r block at) (λ e. omega (arith, le, covered_from r block at e, covered_to r block at e))

pub adds_empty : (blocks : Blocks) (r : Range) → r.to ≤ r.from → AddsIf true blocks r blocks
adds_empty blocks r le block at = ap (λ (b : Bool). b || has_byte blocks block at) (sym (empty_covers r block at le))

-- the bytes of one block are others now
abbrev pub Puts : Blocks → ℕ → Ranges → Blocks → Type 0
Puts old block rs new =
    (q : ℕ) → lookup (is_at (nat_cmp q)) new ≡ cond (is_at (nat_cmp block) q) (Some rs) (lookup (is_at (nat_cmp q)) old)

put_here : (old new : Blocks) (block : ℕ) (rs : Ranges) → Puts old block rs new → ranges_of new block ≡ rs
put_here old new block rs puts =
    ap ranges_if (puts block
    ∙ cond-true (is_at (nat_cmp block) block) (Some rs) (lookup (is_at (nat_cmp block)) old) (same_place block))

put_other : (old new : Blocks) (block : ℕ) (rs : Ranges) → Puts old block rs new → (q : ℕ) → (q ≡ block → ⊥)
    → ranges_of new q ≡ ranges_of old q
put_other old new block rs puts q other =
    ap ranges_if (puts q
    ∙ cond-false (is_at (nat_cmp block) q) (Some rs) (lookup (is_at (nat_cmp q)) old) (other_place block q other))

covers_here : (r : Range) (at : ℕ) → is_within r.from r.to at ≡ covers r r.block at
covers_here r at = ap (λ (b : Bool). b && is_within r.from r.to at) (sym (same r.block))
  where
    same : (n : ℕ) → (n == n) ≡ true
    same n = eq-eqb n n refl

pub adds_range : (old new : Blocks) (r : Range) (was is : Ranges) → ranges_of old r.block ≡ was
    → Adds was r.from r.to is → Puts old r.block is new → AddsIf true old r new
adds_range old new r was is had adds puts block at =
    elim (cases_eq block r.block) [
      | inl same ↦ subst (λ (b : ℕ). has_byte new b at ≡ (covers r b at || has_byte old b at)) (sym same) here
      | inr other ↦
          ap (λ (rs : Ranges). byte_at rs at) (put_other old new r.block is puts block other)
          ∙ ap (λ (b : Bool). b || has_byte old block at) (sym (outside other))
    ]
  where
    outside : (block ≡ r.block → ⊥) → covers r block at ≡ false
    outside other = false_from_ne_true (covers r block at) (λ e. other (sym (covered_block r block at e)))

    here : has_byte new r.block at ≡ (covers r r.block at || has_byte old r.block at)
    here =
        ap (λ (rs : Ranges). byte_at rs at) (put_here old new r.block is puts) ∙ adds at
        ∙ ap (λ (b : Bool). b || byte_at was at) (covers_here r at)
        ∙ ap (λ (rs : Ranges). covers r r.block at || byte_at rs at) (sym had)

pub keeps_range : (old new : Blocks) (block : ℕ) (was is : Ranges) → ranges_of old block ≡ was → IsSame was is
    → Puts old block is new → KeepsBytes old new
keeps_range old new block was is had same puts q at =
    elim (cases_eq q block) [
      | inl e ↦
          ap (λ (b : ℕ). has_byte new b at) e ∙ ap (λ (rs : Ranges). byte_at rs at) (put_here old new block is puts)
          ∙ same at
          ∙ ap (λ (rs : Ranges). byte_at rs at) (sym had) ∙ ap (λ (b : ℕ). has_byte old b at) (sym e)
      | inr other ↦ ap (λ (rs : Ranges). byte_at rs at) (put_other old new block is puts q other)
    ]

pub keeps_equal : (old new : Blocks) → new ≡ old → KeepsBytes old new
keeps_equal old new e block at = ap (λ (bs : Blocks). has_byte bs block at) e
