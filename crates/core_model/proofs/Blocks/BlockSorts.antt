-- What a block is: not made, a buffer's or one that a buffer had, or a page. Which chunk gave it up.
use Rattle.std.proofs.Common.{◌≡◌, ℕ, Bool, true, false, cond, ◌==◌, List, ◌∷◌, sym, ap, ◌∙◌, subst, ◌⊎◌, inl, inr}
use Rattle.std.proofs.Common.{Option, Some, None}
use Rattle.std.specs.List.{AllByRecursion}
use Rattle.std.proofs.lemmas.Bool.{cases_Bool, eqb-true}
use Rattle.dx_types.specs.declared.range.Range.{Range}
use Rattle.base_lemmas.proofs.Lists.{all_back}
use Rattle.core_model.specs.Script.{updated}
use Rattle.core_model.specs.CoreState.{Owner, Unmade, Home, Returning, Spare, Live, Retired, Paged, Dropped}
use Rattle.core_model.specs.CoreState.{has_class, Pool}
use Rattle.core_model.specs.Owners.{bind_owner, retire_owner, is_block, retired, finish_owner, return_owner}
use Rattle.core_model.specs.Placing.{PageChoice, Staged, Stages, On_newest, On_spare, On_new}
use Rattle.core_model.specs.Adding.{page_owner}
use Rattle.core_model.specs.Marked.{IsOff}
use Rattle.core_model.specs.Kept.{IsPageOf, IsNewest}

abbrev pub IsUnmade : Owner → Type 0
IsUnmade Unmade = Unit {0}
IsUnmade (Home k) = ⊥
IsUnmade (Returning k) = ⊥
IsUnmade Spare = ⊥
IsUnmade (Live buffer since bound) = ⊥
IsUnmade (Retired k since bound) = ⊥
IsUnmade (Paged k since bound) = ⊥
IsUnmade Dropped = ⊥

-- a buffer has it or had it
abbrev pub IsBuffers : Owner → Type 0
IsBuffers Unmade = ⊥
IsBuffers (Home k) = Unit {0}
IsBuffers (Returning k) = Unit {0}
IsBuffers Spare = ⊥
IsBuffers (Live buffer since bound) = Unit {0}
IsBuffers (Retired k since bound) = Unit {0}
IsBuffers (Paged k since bound) = ⊥
IsBuffers Dropped = Unit {0}

-- it is a page or was one
abbrev pub IsPage : Owner → Type 0
IsPage Unmade = ⊥
IsPage (Home k) = ⊥
IsPage (Returning k) = ⊥
IsPage Spare = Unit {0}
IsPage (Live buffer since bound) = ⊥
IsPage (Retired k since bound) = ⊥
IsPage (Paged k since bound) = Unit {0}
IsPage Dropped = ⊥

pub page_or_buffers : (o : Owner) → IsPage o → IsBuffers o → ⊥
page_or_buffers Unmade p b = p
page_or_buffers (Home k) p b = p
page_or_buffers (Returning k) p b = p
page_or_buffers Spare p b = b
page_or_buffers (Live buffer since bound) p b = p
page_or_buffers (Retired k since bound) p b = p
page_or_buffers (Paged k since bound) p b = b
page_or_buffers Dropped p b = p

pub unmade_or_buffers : (o : Owner) → IsUnmade o → IsBuffers o → ⊥
unmade_or_buffers Unmade p b = b
unmade_or_buffers (Home k) p b = p
unmade_or_buffers (Returning k) p b = p
unmade_or_buffers Spare p b = p
unmade_or_buffers (Live buffer since bound) p b = p
unmade_or_buffers (Retired k since bound) p b = p
unmade_or_buffers (Paged k since bound) p b = p
unmade_or_buffers Dropped p b = p

pub unmade_or_page : (o : Owner) → IsUnmade o → IsPage o → ⊥
unmade_or_page Unmade p b = b
unmade_or_page (Home k) p b = p
unmade_or_page (Returning k) p b = p
unmade_or_page Spare p b = p
unmade_or_page (Live buffer since bound) p b = p
unmade_or_page (Retired k since bound) p b = p
unmade_or_page (Paged k since bound) p b = p
unmade_or_page Dropped p b = p

pub page_of_chunk : (n : ℕ) (o : Owner) → IsPageOf n o → IsPage o
page_of_chunk n Unmade p = p
page_of_chunk n (Home k) p = p
page_of_chunk n (Returning k) p = p
page_of_chunk n Spare p = tt
page_of_chunk n (Live buffer since bound) p = p
page_of_chunk n (Retired k since bound) p = p
page_of_chunk n (Paged k since bound) p = tt
page_of_chunk n Dropped p = p

-- what a change of owners keeps
pub record SortKept (old new : Owner) : Type 0 where
  pub off : (n : ℕ) → IsOff n new → IsOff n old
  pub buffers : IsBuffers old → IsBuffers new
  pub page : IsPage old → IsPage new

pub same_sort : (o : Owner) → SortKept o o
same_sort o = record { off = λ n h. h; buffers = λ h. h; page = λ h. h }

pub bind_sort : (rs : List Range) (b : ℕ) (o : Owner) → SortKept o (bind_owner rs b o)
bind_sort rs b Unmade = same_sort Unmade
bind_sort rs b (Home k) = same_sort (Home k)
bind_sort rs b (Returning k) = same_sort (Returning k)
bind_sort rs b Spare = same_sort Spare
bind_sort rs b (Live buffer since bound) = record { off = λ n h. h; buffers = λ h. h; page = λ h. h }
bind_sort rs b (Retired k since bound) = record { off = λ n h. h; buffers = λ h. h; page = λ h. h }
bind_sort rs b (Paged k since bound) = record { off = λ n h. h; buffers = λ h. h; page = λ h. h }
bind_sort rs b Dropped = same_sort Dropped

pub finish_sort : (chunk b : ℕ) (o : Owner) → SortKept o (finish_owner chunk b o)
finish_sort chunk b Unmade = same_sort Unmade
finish_sort chunk b (Home k) = same_sort (Home k)
finish_sort chunk b (Returning k) = same_sort (Returning k)
finish_sort chunk b Spare = same_sort Spare
finish_sort chunk b (Live buffer since bound) = same_sort (Live buffer since bound)
finish_sort chunk b (Paged k since bound) = same_sort (Paged k since bound)
finish_sort chunk b Dropped = same_sort Dropped
finish_sort chunk b (Retired k since bound) = by (k == chunk) (has_class b)
  where
    by : (c d : Bool) → SortKept (Retired k since bound) (cond c (cond d (Returning k) Dropped) (Retired k since bound))
    by true true = record { off = λ n h. h; buffers = λ h. h; page = λ h. h }
    by true false = record { off = λ n h. absurd h; buffers = λ h. h; page = λ h. h }
    by false d = same_sort (Retired k since bound)

pub return_sort : (chunk : ℕ) (o : Owner) → SortKept o (return_owner chunk o)
return_sort chunk Unmade = same_sort Unmade
return_sort chunk (Home k) = same_sort (Home k)
return_sort chunk (Returning k) = same_sort (Returning k)
return_sort chunk Spare = same_sort Spare
return_sort chunk (Live buffer since bound) = same_sort (Live buffer since bound)
return_sort chunk (Retired k since bound) = same_sort (Retired k since bound)
return_sort chunk Dropped = same_sort Dropped
return_sort chunk (Paged k since bound) = by (k == chunk)
  where
    by : (c : Bool) → SortKept (Paged k since bound) (cond c Spare (Paged k since bound))
    by true = record { off = λ n h. absurd h; buffers = λ h. absurd h; page = λ h. tt }
    by false = same_sort (Paged k since bound)

-- a block comes home
pub home_sort : (own : ℕ → Owner) (block k : ℕ) → own block ≡ Returning k → (b : ℕ)
    → SortKept (own b) (updated block (Home k) own b)
home_sort own block k e b =
    elim (cases_Bool (b == block)) [
      | inl t ↦
          let was : own b ≡ Returning k = ap own (eqb-true b block t) ∙ e in
          let now : updated block (Home k) own b ≡ Home k = ap (λ c. cond c (Home k) (own b)) t in
          subst (λ o. SortKept o (updated block (Home k) own b)) (sym was)
          (subst (SortKept (Returning k)) (sym now) (record { off = λ n h. h; buffers = λ h. h; page = λ h. h }))
      | inr f ↦ subst (SortKept (own b)) (sym (ap (λ c. cond c (Home k) (own b)) f)) (same_sort (own b))
    ]

-- a block is given up, by this chunk
pub retire_sort : (chunk : ℕ) (o : Owner) → ((n : ℕ) → IsOff n (retire_owner chunk o) → IsOff n o ⊎ (n ≡ chunk))
    × (IsBuffers o → IsBuffers (retire_owner chunk o)) × (IsPage o → IsPage (retire_owner chunk o))
retire_sort chunk Unmade = ((λ n h. inl h), (λ h. h), (λ h. h))
retire_sort chunk (Home k) = ((λ n h. inl h), (λ h. h), (λ h. h))
retire_sort chunk (Returning k) = ((λ n h. inl h), (λ h. h), (λ h. h))
retire_sort chunk Spare = ((λ n h. inl h), (λ h. h), (λ h. h))
retire_sort chunk (Live buffer since bound) = ((λ n h. inr (sym h)), (λ h. h), (λ h. absurd h))
retire_sort chunk (Retired k since bound) = ((λ n h. inl h), (λ h. h), (λ h. h))
retire_sort chunk (Paged k since bound) = ((λ n h. inl h), (λ h. h), (λ h. h))
retire_sort chunk Dropped = ((λ n h. inl h), (λ h. h), (λ h. h))

pub block_is : (o : Option ℕ) (b : ℕ) → is_block o b ≡ true → o ≡ Some b
block_is None b h = absurd (cc h)
block_is (Some c) b h = ap Some (sym (eqb-true b c h))

pub record SortGiven (mark : Option ℕ) (chunk b : ℕ) (old new : Owner) : Type 0 where
  pub off : (n : ℕ) → IsOff n new → IsOff n old ⊎ ((mark ≡ Some b) × (n ≡ chunk))
  pub buffers : IsBuffers old → IsBuffers new
  pub page : IsPage old → IsPage new

pub given_sort : (mark : Option ℕ) (chunk : ℕ) (own : ℕ → Owner) (b : ℕ)
    → SortGiven mark chunk b (own b) (retired mark chunk own b)
given_sort mark chunk own b =
    elim (cases_Bool (is_block mark b)) [
      | inl t ↦
          let r = retire_sort chunk (own b) in
          subst (SortGiven mark chunk b (own b)) (sym (ap (λ c. cond c (retire_owner chunk (own b)) (own b)) t))
          (record {
            off = λ n h. elim (r.0 n h) [ inl x ↦ inl x | inr x ↦ inr (block_is mark b t, x) ];
            buffers =
                r.1;
            page = r.2;
          })
      | inr f ↦ subst (SortGiven mark chunk b (own b))
          (sym (ap (λ c. cond c (retire_owner chunk (own b)) (own b)) f))
          (record { off = λ n h. inl h; buffers = λ h. h; page = λ h. h })
    ]

-- Bytes are staged in a page that was one, or is new ----------------------------------------------------------------

pub record SortStaged (old new : Owner) : Type 0 where
  pub strange : IsBuffers old → ⊥
  pub page : IsPage new
  pub off : (n : ℕ) → IsOff n new → ⊥

page_off : (n : ℕ) (o : Owner) → IsPage o → IsOff n o → ⊥
page_off n Unmade p h = h
page_off n (Home k) p h = p
page_off n (Returning k) p h = p
page_off n Spare p h = h
page_off n (Live buffer since bound) p h = h
page_off n (Retired k since bound) p h = p
page_off n (Paged k since bound) p h = h
page_off n Dropped p h = h

pub stages_sort : (choice : PageChoice) (len : ℕ) (s : Staged) (before after : Pool)
    → Stages choice len s before after → (number fence : ℕ) (own : ℕ → Owner) → IsNewest number own before.newest
    → AllByRecursion (λ p. own p.block ≡ Spare) before.spare → own before.next ≡ Unmade
    → SortStaged (own s.block) (page_owner number fence s.added (own s.block))
stages_sort choice len s before after (On_newest _ _ n e fits) number fence own newest spare fresh =
    let x : IsNewest number own (Some n) = subst (IsNewest number own) e newest in
    let p = page_of_chunk number (own n.page.block) x.0 in
    record {
      strange = λ b. page_or_buffers (own n.page.block) p b;
      page = p;
      off =
          λ m h. page_off m (own n.page.block) p h;
    }
stages_sort choice len s before after (On_spare _ _ front p back size e long none) number fence own newest spare fresh =
    let is : AllByRecursion (λ p. own p.block ≡ Spare) (p ∷ back) =
    all_back (λ p. own p.block ≡ Spare) front (p ∷ back)
    (subst (AllByRecursion (λ p. own p.block ≡ Spare)) e spare) in
    record { strange = λ b. subst IsBuffers is.0 b; page = tt; off = λ m h. h }
stages_sort choice len s before after (On_new _ _ none) number fence own newest spare fresh =
    record { strange = λ b. subst IsBuffers fresh b; page = tt; off = λ m h. h }
