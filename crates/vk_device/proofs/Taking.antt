-- A batch's blocks, parts and marks are taken one after another.
use Rattle.std.proofs.Common.{◌≡◌, ℕ, zero, suc, ◌≤◌, true, false, cond, not, ◌&&◌, List, [], ◌∷◌, ◌++◌, length, map, drop, All, Option, Some, None, refl, sym, ap, subst, ◌∙◌, arith}
use Rattle.std.specs.Prelude.{◌==◌, is_some, nat_lt}
use Rattle.std.specs.List.{AllByRecursion}
use mathlib.Core.Path.{fun_ext}
use Rattle.std.proofs.lemmas.Bool.{and_parts, or_parts, not-true, ne_eqb}
use Rattle.base_lemmas.proofs.Lists.{all_across, pairs_front, pairs_back}
use Rattle.buffer_blocks.specs.declared.block.Block.{Block}
use Rattle.device_memory.specs.Held.{Held, block_of}
use Rattle.lifetime.specs.declared.holds.Mark.{Mark}
use Rattle.query_pool.specs.Asked.{Asked, Marks}
use Rattle.vk_types.specs.declared.message.QueryMark.{QueryMark}
use Rattle.vk_device.specs.Accepting.{AreApart, Blocks, CanMark, MarksAll, NoneHeld, can_accept, holds_any, with_block, with_blocks, zeroed}
use Rattle.vk_device.specs.State.{State}

-- What is held -----------------------------------------------------------------------------------------------------------------

-- one block more, in what a map of blocks has
pub with_one : (old new : Held) (b : Block) → ((n : ℕ) → block_of new n ≡ cond (n == b.number) (Some b) (block_of old n)) → block_of new ≡ with_block b (block_of old)
with_one old new b h = fun_ext h

abbrev NoneOf : Blocks → List Block → Type 0
NoneOf blocks bs = AllByRecursion (λ (b : Block). blocks b.number ≡ None) bs

apart_still : (b : Block) (blocks : Blocks) (cs : List Block) → AllByRecursion (λ (c : Block). b.number ≡ c.number → ⊥) cs → NoneOf blocks cs → NoneOf (with_block b blocks) cs
apart_still b blocks [] apart none = tt
apart_still b blocks (c ∷ cs) apart none =
    (ap (λ v. cond v (Some b) (blocks c.number)) (ne_eqb c.number b.number (λ e. apart.0 (sym e))) ∙ none.0, apart_still b blocks cs apart.1 none.1)

pub none_held : (bs : List Block) (blocks : Blocks) → AreApart bs → NoneOf blocks bs → NoneHeld bs blocks
none_held [] blocks apart none = tt
none_held (b ∷ bs) blocks apart none = (none.0, none_held bs (with_block b blocks) apart.1 (apart_still b blocks bs apart.0 none.1))

-- setting blocks to 0 keeps their numbers
none_zeroed : (blocks : Blocks) (bs : List Block) → NoneOf blocks bs → NoneOf blocks (map zeroed bs)
none_zeroed blocks [] none = tt
none_zeroed blocks (b ∷ bs) none = (none.0, none_zeroed blocks bs none.1)

other_zeroed : (b : Block) (cs : List Block) → AllByRecursion (λ (c : Block). b.number ≡ c.number → ⊥) cs → AllByRecursion (λ (c : Block). b.number ≡ c.number → ⊥) (map zeroed cs)
other_zeroed b [] apart = tt
other_zeroed b (c ∷ cs) apart = (apart.0, other_zeroed b cs apart.1)

apart_zeroed : (bs : List Block) → AreApart bs → AreApart (map zeroed bs)
apart_zeroed [] apart = tt
apart_zeroed (b ∷ bs) apart = (other_zeroed b bs apart.0, apart_zeroed bs apart.1)

-- blocks that are apart from others leave them free
pages_free : (bs pages : List Block) (blocks : Blocks) → AllByRecursion (λ (b : Block). AllByRecursion (λ (p : Block). b.number ≡ p.number → ⊥) pages) bs
    → NoneOf blocks pages → NoneOf (with_blocks (map zeroed bs) blocks) pages
pages_free [] pages blocks apart none = none
pages_free (b ∷ bs) pages blocks apart none =
    pages_free bs pages (with_block (zeroed b) blocks) apart.1 (apart_still (zeroed b) blocks pages apart.0 none)

none_is : (o : Option Block) → is_some o ≡ false → o ≡ None
none_is None e = refl
none_is (Some b) e = absurd (cc e)

none_any : (held : Held) (bs : List Block) → holds_any held bs ≡ false → NoneOf (block_of held) bs
none_any held [] e = tt
none_any held (b ∷ bs) e =
    let p = or_parts (is_some (block_of held b.number)) (holds_any held bs) e in
    (none_is (block_of held b.number) p.0, none_any held bs p.1)

module _ (d : State) (bs pages : List Block) (room : can_accept d bs pages ≡ true) (apart : AreApart (bs ++ pages)) where
  free : (holds_any d.held bs ≡ false) × (holds_any d.held pages ≡ false)
  free =
      let p = and_parts (nat_lt (length d.batches) 4) (not (holds_any d.held bs) && not (holds_any d.held pages)) room in
      let q = and_parts (not (holds_any d.held bs)) (not (holds_any d.held pages)) p.1 in
      (not-true (holds_any d.held bs) q.0, not-true (holds_any d.held pages) q.1)

  pub blocks_free : NoneHeld (map zeroed bs) (block_of d.held)
  blocks_free =
      none_held (map zeroed bs) (block_of d.held) (apart_zeroed bs (pairs_front (λ (a b : Block). a.number ≡ b.number → ⊥) bs pages apart))
      (none_zeroed (block_of d.held) bs (none_any d.held bs free.0))

  pub others_free : NoneHeld pages (with_blocks (map zeroed bs) (block_of d.held))
  others_free =
      none_held pages (with_blocks (map zeroed bs) (block_of d.held)) (pairs_back (λ (a b : Block). a.number ≡ b.number → ⊥) bs pages apart)
      (pages_free bs pages (block_of d.held) (all_across (λ (a b : Block). a.number ≡ b.number → ⊥) bs pages apart) (none_any d.held pages free.1))

-- A loop over blocks that go one after another ------------------------------------------------------------------------------------

-- the blocks that are still to come end as all of them do
pub record HoldsOn (first : Blocks) (all : List Block) (rest : List Block) (now : Blocks) : Type 0 where
  pub free : NoneHeld rest now
  pub ends : with_blocks rest now ≡ with_blocks all first

pub holds_begin : (first : Blocks) (all rest : List Block) → rest ≡ all → NoneHeld all first → HoldsOn first all rest first
holds_begin first all rest e free = record { free = subst (λ l. NoneHeld l first) (sym e) free; ends = ap (λ l. with_blocks l first) e }

pub holds_more : (first : Blocks) (all rest later : List Block) (b : Block) (old new : Held) → rest ≡ b ∷ later
    → ((n : ℕ) → block_of new n ≡ cond (n == b.number) (Some b) (block_of old n)) → HoldsOn first all rest (block_of old) → HoldsOn first all later (block_of new)
holds_more first all rest later b old new is added h =
    let next : block_of new ≡ with_block b (block_of old) = with_one old new b added in
    let free = subst (λ l. NoneHeld l (block_of old)) is h.free in
    record {
      free = subst (NoneHeld later) (sym next) free.1;
      ends = ap (with_blocks later) next ∙ ap (λ l. with_blocks l (block_of old)) (sym is) ∙ h.ends;
    }

pub holds_free : (first : Blocks) (all rest later : List Block) (b : Block) (old : Held) → rest ≡ b ∷ later → HoldsOn first all rest (block_of old) → block_of old b.number ≡ None
holds_free first all rest later b old is h = (subst (λ l. NoneHeld l (block_of old)) is h.free).0

pub holds_end : (first : Blocks) (all rest : List Block) (now : Blocks) → rest ≡ [] → HoldsOn first all rest now → now ≡ with_blocks all first
holds_end first all rest now is h = ap (λ l. with_blocks l now) (sym is) ∙ h.ends

-- Query marks ---------------------------------------------------------------------------------------------------------------------

-- what the marks that are left lead to, all of them lead to
pub record MarksOn (all left : List QueryMark) (first now : Asked) : Type 0 where
  pub can : CanMark left now
  pub ends : (last : Asked) → MarksAll left now last → MarksAll all first last

pub marks_begin : (all : List QueryMark) (first : Asked) → CanMark all first → MarksOn all all first first
marks_begin all first can = record { can = can; ends = λ last h. h }

pub marks_more : (all left later : List QueryMark) (m : QueryMark) (first old new : Asked) → left ≡ m ∷ later → Marks m old new → MarksOn all left first old → MarksOn all later first new
marks_more all left later m first old new is one h = record {
  can = (subst (λ l. CanMark l old) is h.can).2 new one;
  ends = λ last others. h.ends last (subst (λ l. MarksAll l old last) (sym is) (new, one, others));
}

pub marks_can : (all left later : List QueryMark) (m : QueryMark) (first old : Asked) → left ≡ m ∷ later → MarksOn all left first old → CanMark (m ∷ later) old
marks_can all left later m first old is h = subst (λ l. CanMark l old) is h.can

pub marks_end : (all left : List QueryMark) (first now : Asked) → left ≡ [] → MarksOn all left first now → MarksAll all first now
marks_end all left first now is h = h.ends now (subst (λ l. MarksAll l now now) (sym is) refl)

-- Marks of blocks -------------------------------------------------------------------------------------------------------------------

pub below_more : (k : ℕ) (ms : List Mark) (m : Mark) → All (λ (m : Mark). m.chunk ≤ k) ms → m.chunk ≤ k → All (λ (m : Mark). m.chunk ≤ k) (ms ++ m ∷ [])
below_more k [] m all here zero d lt = here
below_more k [] m all here (suc i) d lt = absurd (omega (arith, lt))
below_more k (x ∷ xs) m all here zero d lt = all zero d (omega arith)
below_more k (x ∷ xs) m all here (suc i) d lt = below_more k xs m (λ j e l. all (suc j) e (omega (arith, l))) here i d (omega (arith, lt))

pub below_raised : (n k : ℕ) (ms : List Mark) → n ≤ k → All (λ (m : Mark). m.chunk ≤ n) ms → All (λ (m : Mark). m.chunk ≤ k) ms
below_raised n k ms le all i d lt = let here = all i d lt in omega (arith, le, here)

-- An empty queue ---------------------------------------------------------------------------------------------------------------------

pub popped_none : {A : Type 0} (old new : List A) → old ≡ new → new ≡ drop 1 old → old ≡ []
popped_none [] new same rest = refl
popped_none (x ∷ xs) new same rest = absurd (let e = ap length (same ∙ rest) in omega (arith, e))
