-- The blocks and lengths that the items of a message take, and the ranges that they stage, one list behind another.
use Rattle.std.proofs.Common.{◌≡◌, ℕ, List, [], ◌∷◌, ◌++◌, map}
use Rattle.std.proofs.Common.{length, refl, sym, ap, ◌∙◌, inl, inr, Option, Some, None, arith, append_assoc}
use Rattle.vk_types.specs.declared.message.Placed.{Placed}
use Rattle.core_model.specs.Script.{Turn, Script}
use Rattle.core_model.specs.CoreState.{somes}
use Rattle.core_model.specs.Succession.{staged_range_of, staged_ranges, lengths_of, taken_lengths}
use Rattle.core_model.specs.Spine.{IsAsLong}
use Rattle.core_model.proofs.Steps.Uses.{map_append}

somes_append : (xs ys : List (Option ℕ)) → somes (xs ++ ys) ≡ somes xs ++ somes ys
somes_append [] ys = refl
somes_append (None ∷ xs) ys = somes_append xs ys
somes_append (Some n ∷ xs) ys = ap (λ l. n ∷ l) (somes_append xs ys)

abbrev pub blocks_in : List Placed → List ℕ
blocks_in ps = somes (map (λ p. p.block) ps)

pub blocks_append : (ps qs : List Placed) → blocks_in (ps ++ qs) ≡ blocks_in ps ++ blocks_in qs
blocks_append ps qs = ap somes (map_append (λ p. p.block) ps qs)
    ∙ somes_append (map (λ p. p.block) ps) (map (λ p. p.block) qs)

pub lengths_append : (script : Script) (ts us : List Turn) → taken_lengths script (ts ++ us)
    ≡ taken_lengths script ts ++ taken_lengths script us
lengths_append script [] us = refl
lengths_append script (t ∷ ts) us =
    ap (λ l. lengths_of script t ++ l) (lengths_append script ts us)
    ∙ sym (append_assoc (lengths_of script t) (taken_lengths script ts) (taken_lengths script us))

pub staged_append : (ps qs : List Placed) → staged_ranges (ps ++ qs) ≡ staged_ranges ps ++ staged_ranges qs
staged_append [] qs = refl
staged_append (p ∷ ps) qs =
    ap (λ l. staged_range_of p.staged ++ l) (staged_append ps qs)
    ∙ sym (append_assoc (staged_range_of p.staged) (staged_ranges ps) (staged_ranges qs))

pub as_long : (b n : ℕ) (xs us ns vs : List ℕ) → length xs ≡ length ns → IsAsLong b n (xs ++ b ∷ us) (ns ++ n ∷ vs)
as_long b n [] us [] vs e = inl (refl, refl)
as_long b n [] us (m ∷ ns) vs e = absurd (cc e)
as_long b n (x ∷ xs) us [] vs e = absurd (cc e)
as_long b n (x ∷ xs) us (m ∷ ns) vs e = inr (as_long b n xs us ns vs (omega (arith, e)))
