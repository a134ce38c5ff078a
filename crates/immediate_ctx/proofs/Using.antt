-- What items use: the recorder keeps the blocks of staging buffers that the state's open chunk binds and names.
use Rattle.std.proofs.Common.{◌≡◌, ℕ, Bool, true, false, cond, not, ◌&&◌, ◌||◌, ◌==◌, List, [], ◌∷◌, ◌++◌, map, refl}
use Rattle.std.proofs.Common.{sym, ap, ◌∙◌, append_assoc, append-nil, Option, Some, None, is_some}
use Rattle.std.specs.List.{list_any}
use Rattle.std.specs.Option.{option_map}
use Rattle.std.proofs.lemmas.Bool.{eqb-true}
use Rattle.base_lemmas.specs.IdMap.{get}
use Rattle.base_lemmas.proofs.Scan.{any_map}
use Rattle.dx_types.specs.declared.range.Range.{Range}
use Rattle.dx_types.specs.declared.range.ResRange.{ResRange}
use Rattle.vk_types.specs.Memory.{range, or_zero}
use Rattle.core_model.specs.Script.{Script}
use Rattle.core_model.specs.Renaming.{block_of, range_on}
use Rattle.core_model.specs.Adding.{add_staging, has_block}
use Rattle.core_model.specs.OtherParts.{is_among}
use Rattle.immediate_ctx.specs.declared.buffers.Buffer.{Buffer}
use Rattle.immediate_ctx.specs.Buffers.{Live}
use Rattle.immediate_ctx.specs.Items.{use_of, uses_in}
use Rattle.immediate_ctx.specs.OpenChunk.{once_more}
use Rattle.immediate_ctx.specs.Stands.{AreLive, BuffersAre, of_names}

-- Tests of lists ----------------------------------------------------------------------------------------------------

any-last : {A : Type 0} (p : A → Bool) (xs : List A) (x : A) → list_any p (xs ++ x ∷ []) ≡ (list_any p xs || p x)
any-last p [] x = or-false (p x)
  where
    or-false : (b : Bool) → (b || false) ≡ (false || b)
    or-false true = refl
    or-false false = refl
any-last p (y ∷ ys) x = ap (λ (b : Bool). p y || b) (any-last p ys x) ∙ or-assoc (p y) (list_any p ys) (p x)
  where
    or-assoc : (a b c : Bool) → (a || (b || c)) ≡ ((a || b) || c)
    or-assoc true b c = refl
    or-assoc false b c = refl

-- an element that is there need not be added
there : (c b : ℕ) (bs : List ℕ) → is_among c bs ≡ true → is_among b bs ≡ (is_among b bs || (c == b))
there c b bs h = by_test (c == b) refl
  where
    or-true : (a : Bool) → a ≡ true → a ≡ (a || true)
    or-true true e = refl
    or-true false e = absurd (cc e)

    or-false : (a : Bool) → a ≡ (a || false)
    or-false true = refl
    or-false false = refl

    by_test : (t : Bool) → (c == b) ≡ t → is_among b bs ≡ (is_among b bs || t)
    by_test true e = or-true (is_among b bs) (ap (λ (n : ℕ). is_among n bs) (sym (eqb-true c b e)) ∙ h)
    by_test false e = or-false (is_among b bs)

once-among : (c b : ℕ) (bs : List ℕ) → is_among b (once_more c bs) ≡ (is_among b bs || (c == b))
once-among c b bs = by_test (is_among c bs) refl
  where
    by_test : (t : Bool) → is_among c bs ≡ t → is_among b (cond t bs (bs ++ c ∷ [])) ≡ (is_among b bs || (c == b))
    by_test true e = there c b bs e
    by_test false e = any-last (λ (m : ℕ). m == b) bs c

-- One range ---------------------------------------------------------------------------------------------------------

module _ (script : Script) (blocks : ℕ → Option ℕ) (names : ℕ → ℕ) (live : Live)
    (are : BuffersAre script blocks names live) where
  block-is : (id : ℕ) (b : Buffer) → get live id ≡ Some b → block_of blocks (names id) ≡ b.block
  block-is id b e =
      ap or_zero (sym (are.block id)) ∙ ap (λ (o : Option Buffer). or_zero (option_map (λ (x : Buffer). x.block) o)) e

  -- the block of a staging buffer is used where the range of a buffer lies in it
  used_one : (is_staging : ℕ → Bool) → ((r b : ℕ) → blocks r ≡ Some b → is_staging b ≡ script.is_staging r)
      → (b : ℕ) → is_staging b ≡ true → (r : ResRange) (us : List ℕ) (bs : List Range)
      → is_some (get live r.res) ≡ true → is_among b us ≡ has_block b bs
      → is_among b (use_of (get live r.res) us) ≡ has_block b (bs ++ range_on blocks (of_names names r) ∷ [])
  used_one is_staging alike b staging r us bs lives h = by_buffer (get live r.res) refl lives
    where
      with_range : has_block b (bs ++ range_on blocks (of_names names r) ∷ [])
          ≡ (has_block b bs || (block_of blocks (names r.res) == b))
      with_range = any-last (λ (x : Range). x.block == b) bs (range_on blocks (of_names names r))

      by_kind : (x : Buffer) → get live r.res ≡ Some x → (t : Bool) → x.is_staging ≡ t
          → is_among b (cond t (once_more x.block us) us) ≡ (is_among b us || (x.block == b))
      by_kind x e true k = once-among x.block b us
      by_kind x e false k = by_test (x.block == b) refl
        where
          or-false : (a : Bool) → a ≡ (a || false)
          or-false true = refl
          or-false false = refl

          named : blocks (names r.res) ≡ Some x.block
          named = sym (are.block r.res) ∙ ap (option_map (λ (y : Buffer). y.block)) e

          by_test : (t : Bool) → (x.block == b) ≡ t → is_among b us ≡ (is_among b us || t)
          by_test true q =
              let same : x.block ≡ b = eqb-true x.block b q in
              let here : is_staging x.block ≡ true = ap is_staging same ∙ staging in
              let not_here : is_staging x.block ≡ false =
              alike (names r.res) x.block named ∙ are.staging r.res x e ∙ k in
              absurd (cc (here, not_here))
          by_test false q = or-false (is_among b us)

      by_buffer : (o : Option Buffer) → get live r.res ≡ o → is_some o ≡ true
          → is_among b (use_of o us) ≡ has_block b (bs ++ range_on blocks (of_names names r) ∷ [])
      by_buffer None e some = absurd (cc some)
      by_buffer (Some x) e some =
          by_kind x e x.is_staging refl ∙ ap (λ (a : Bool). a || (x.block == b)) h
          ∙ ap (λ (n : ℕ). has_block b bs || (n == b)) (sym (block-is r.res x e)) ∙ sym with_range

  pub used_all : (is_staging : ℕ → Bool) → ((r b : ℕ) → blocks r ≡ Some b → is_staging b ≡ script.is_staging r)
      → (b : ℕ) → is_staging b ≡ true → (rs : List ResRange) (us : List ℕ) (bs : List Range) → AreLive live rs
      → is_among b us ≡ has_block b bs
      → is_among b (uses_in live rs us) ≡ has_block b (bs ++ map (range_on blocks) (map (of_names names) rs))
  used_all is_staging alike b staging [] us bs lives h = h ∙ ap (has_block b) (sym (append-nil bs))
  used_all is_staging alike b staging (r ∷ rs) us bs lives h =
      used_all is_staging alike b staging rs (use_of (get live r.res) us)
      (bs ++ range_on blocks (of_names names r) ∷ []) lives.1
      (used_one is_staging alike b staging r us bs lives.0 h)
      ∙ ap (has_block b) (append_assoc bs (range_on blocks (of_names names r) ∷ [])
      (map (range_on blocks) (map (of_names names) rs)))

  -- the blocks of ranges
  abbrev blocks_in : List Range → List ℕ
  blocks_in rs = map (λ (x : Range). x.block) rs

  -- the whole of the block where a buffer stands
  abbrev whole : ℕ → Range
  whole n = range (block_of blocks n) 0 (script.size n)

  blocks_in-last : (xs : List Range) (x : Range) → blocks_in (xs ++ x ∷ []) ≡ blocks_in xs ++ x.block ∷ []
  blocks_in-last [] x = refl
  blocks_in-last (y ∷ ys) x = ap (λ (l : List ℕ). y.block ∷ l) (blocks_in-last ys x)

  by_tests : (staging : List Range) (w : Range) (g h : Bool)
      → cond g (cond h (blocks_in staging) (blocks_in staging ++ w.block ∷ [])) (blocks_in staging)
      ≡ blocks_in (cond (g && not h) (staging ++ w ∷ []) staging)
  by_tests staging w true true = refl
  by_tests staging w true false = sym (blocks_in-last staging w)
  by_tests staging w false h = refl

  -- the whole of a staging buffer's block stands once in the list of those that are named
  abbrev with_whole : ℕ → List Range → List Range
  with_whole n staging =
      cond (script.is_staging n && not (has_block (block_of blocks n) staging)) (staging ++ whole n ∷ []) staging

  named_by : (r : ResRange) (staging : List Range) (o : Option Buffer) → get live r.res ≡ o → is_some o ≡ true
      → use_of o (blocks_in staging) ≡ blocks_in (with_whole (names r.res) staging)
  named_by r staging None e some = absurd (cc some)
  named_by r staging (Some x) e some =
      ap (λ (b : ℕ). cond x.is_staging (once_more b (blocks_in staging)) (blocks_in staging))
      (sym (block-is r.res x e))
      ∙ ap (λ (g : Bool). cond g (once_more (block_of blocks (names r.res)) (blocks_in staging)) (blocks_in staging))
      (sym (are.staging r.res x e))
      ∙ ap (λ (h : Bool). cond (script.is_staging (names r.res)) (cond h (blocks_in staging)
      (blocks_in staging ++ block_of blocks (names r.res) ∷ [])) (blocks_in staging))
      (sym (any_map (λ (m : ℕ). m == block_of blocks (names r.res)) (λ (y : Range). y.block) staging))
      ∙ by_tests staging (whole (names r.res)) (script.is_staging (names r.res))
      (has_block (block_of blocks (names r.res)) staging)

  pub named_all : (rs : List ResRange) (ns : List ℕ) (staging : List Range) → AreLive live rs
      → ns ≡ map (λ (x : Range). x.block) staging
      → uses_in live rs ns ≡ map (λ (x : Range). x.block) (add_staging script blocks (map (of_names names) rs) staging)
  named_all [] ns staging lives h = h
  named_all (r ∷ rs) ns staging lives h =
      named_all rs (use_of (get live r.res) ns) (with_whole (names r.res) staging) lives.1
      (ap (use_of (get live r.res)) h ∙ named_by r staging (get live r.res) refl lives.0)
