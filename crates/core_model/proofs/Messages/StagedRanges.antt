-- Ranges where items stage bytes, and writes of parts.
use Rattle.std.proofs.Common.{◌≡◌, ℕ, true, false, ◌&&◌, ◌||◌, ◌==◌, nat_lt}
use Rattle.std.proofs.Common.{List, [], ◌∷◌, ◌++◌, refl, ap, subst, inl, inr}
use Rattle.std.proofs.Common.{Option, Some, None}
use Rattle.std.specs.List.{AllByRecursion}
use Rattle.std.proofs.lemmas.Bool.{cases_Bool, eqb-true, both_ways, or_cases}
use Rattle.dx_types.specs.declared.range.Range.{Range}
use Rattle.vk_types.specs.declared.message.Placed.{Placed}
use Rattle.vk_types.specs.declared.touch.Touch.{Touch}
use Rattle.vk_types.specs.Memory.{covers, meets}
use Rattle.vk_types.specs.Hazards.{is_touched}
use Rattle.vk_types.proofs.Local.{meet_at}
use Rattle.core_model.specs.Batching.{Made, make_write}
use Rattle.core_model.specs.Succession.{stages_in, is_staged_in}
use Rattle.core_model.specs.Succession.{staged_range_of, staged_ranges}

-- Lists of ranges ---------------------------------------------------------------------------------------------------

pub staged_block : (P : ℕ → Type 0) (ps : List Placed) (b : ℕ) → AllByRecursion (λ q. P q.block) (staged_ranges ps)
    → stages_in b ps ≡ true → P b
staged_block P [] b h k = absurd (cc k)
staged_block P (p ∷ ps) b h k = by p.staged h k (λ h k. staged_block P ps b h k)
  where
    by : (o : Option Range) → AllByRecursion (λ q. P q.block) (staged_range_of o ++ staged_ranges ps)
        → (is_staged_in b o || stages_in b ps) ≡ true
        → (AllByRecursion (λ q. P q.block) (staged_ranges ps) → stages_in b ps ≡ true → P b) → P b
    by None h k rec = rec h k
    by (Some q) h k rec = elim (or_cases (q.block == b) (stages_in b ps) k) [
      | inl t ↦ subst P (eqb-true q.block b t) h.0
      | inr n ↦ rec h.1 n
    ]

pub drop_staged : (P : Range → Type 0) (o : Option Range) (qs : List Range)
    → AllByRecursion P (staged_range_of o ++ qs) → AllByRecursion P qs
drop_staged P None qs h = h
drop_staged P (Some q) qs h = h.1

-- ranges of two blocks share no byte
pub other_blocks : (r q : Range) → (r.block ≡ q.block → ⊥) → meets r q ≡ false
other_blocks r q n =
    let f : (r.block == q.block) ≡ false = elim (cases_Bool (r.block == q.block))
    [ inl t ↦ absurd (n (eqb-true r.block q.block t)) | inr f ↦ f ] in
    ap (λ c. c && ((nat_lt r.from q.to && nat_lt q.from r.to) && (nat_lt r.from r.to && nat_lt q.from q.to))) f

pub met_by : (q : Range) (ts : List Touch) (b i : ℕ) → AllByRecursion (λ t. meets t.range q ≡ false) ts
    → is_touched ts b i ≡ true → covers q b i ≡ true → ⊥
met_by q [] b i h k u = cc k
met_by q (t ∷ ts) b i h k u =
    elim (or_cases (covers t.range b i) (is_touched ts b i) k) [
      | inl here ↦ both_ways (meets t.range q) h.0 (meet_at t.range q b i here u)
      | inr later ↦ met_by q ts b i h.1 later u
    ]

pub write_blocks : (r : Range) (bytes : List ℕ) (m : Made) → (make_write r bytes m).blocks ≡ m.blocks
write_blocks r [] m = refl
write_blocks r (b ∷ bs) m = refl

pub write_listed : (r : Range) (bytes : List ℕ) (m : Made) → (make_write r bytes m).listed ≡ m.listed
write_listed r [] m = refl
write_listed r (b ∷ bs) m = refl
