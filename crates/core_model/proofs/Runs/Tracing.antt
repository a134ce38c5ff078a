-- The turns that were taken are those of the chunks, and bind what the chunks bind.
use Rattle.std.proofs.Common.{◌≡◌, ℕ, ◌+◌, ◌<◌, Bool, true, false, cond, ◌&&◌, ◌||◌, ◌==◌, nat_lt, List, [], ◌∷◌}
use Rattle.std.proofs.Common.{◌++◌, map, refl, sym, ap, ◌∙◌, ◌⊎◌, inl, inr, Option, Some, arith, append_assoc}
use Rattle.std.proofs.Common.{append-nil}
use Rattle.std.specs.List.{AllByRecursion}
use Rattle.std.proofs.lemmas.Bool.{or_cases, eqb-true, eq-eqb, lt-ltb}
use Rattle.std.proofs.lemmas.List.Folds.{list_any-append}
use Rattle.dx_types.specs.declared.range.Range.{Range}
use Rattle.vk_types.specs.Memory.{or_zero}
use Rattle.vk_types.specs.Effects.{Meaning}
use Rattle.vk_types.specs.Entries.{Entry}
use Rattle.base_lemmas.proofs.Lists.{all_append, all_map, all_both}
use Rattle.core_model.specs.Script.{Turn, Script, at_start, in_order}
use Rattle.core_model.specs.Chunking.{is_entry, entry_count, joined}
use Rattle.core_model.specs.Renaming.{BlockMap, block_of, range_on}
use Rattle.core_model.specs.CoreState.{Segment, Owner}
use Rattle.core_model.specs.Adding.{has_block}
use Rattle.core_model.specs.Stands.{Stands}
use Rattle.core_model.specs.Lawful.{bound_by, binds_buffer, Fits}
use Rattle.core_model.specs.Invariant.{turns_of}
use Rattle.core_model.specs.Kept.{IsMade, Names, uses_buffer, IsUsed, Traced}
use Rattle.core_model.proofs.Steps.Binding.{or_left, or_right}

pub joined_last : (ss : List Segment) (s : Segment) → joined (turns_of (ss ++ s ∷ [])) ≡ joined (turns_of ss) ++ s.turns
joined_last [] s = append-nil s.turns
joined_last (x ∷ ss) s = ap (λ l. x.turns ++ l) (joined_last ss s)
    ∙ sym (append_assoc x.turns (joined (turns_of ss)) s.turns)

pub entries_last : (ts : List Turn) (t : Turn) → entry_count (ts ++ t ∷ []) ≡ entry_count ts + entry_count (t ∷ [])
entries_last [] t = let z : entry_count (t ∷ []) ≡ 0 + entry_count (t ∷ []) = omega arith in z
entries_last (x ∷ ts) t = let r = entries_last ts t in omega (arith, r)

pub one_entry : (t : Turn) → is_entry t ≡ true → entry_count (t ∷ []) ≡ 1
one_entry t entry = ap (λ c. cond c 1 0 + 0) entry

-- a turn of a longer list binds it still
pub uses_front : (r : ℕ) (ts us : List Turn) → uses_buffer r ts ≡ true → uses_buffer r (ts ++ us) ≡ true
uses_front r ts us h = list_any-append (λ t. binds_buffer r (bound_by t)) ts us
    ∙ or_left (uses_buffer r ts) (uses_buffer r us) h

pub uses_last : (r : ℕ) (ts : List Turn) (t : Turn) → binds_buffer r (bound_by t) ≡ true
    → uses_buffer r (ts ++ t ∷ []) ≡ true
uses_last r ts t h = list_any-append (λ t. binds_buffer r (bound_by t)) ts (t ∷ [])
    ∙ or_right (uses_buffer r ts) (binds_buffer r (bound_by t) || false)
    (or_left (binds_buffer r (bound_by t)) false h)

-- a range on a buffer's block is the buffer's
pub range_back : (meaning : Meaning) (script : Script) (memory : ℕ → ℕ → ℕ) (blocks : BlockMap) (front : List Turn)
    → Stands script memory blocks (in_order meaning script front at_start)
    → (bound : List Range) → AllByRecursion (λ r. Fits meaning script front r × (r.from < r.to)) bound → (r b : ℕ)
    → blocks r ≡ Some b → has_block b (map (range_on blocks) bound) ≡ true → binds_buffer r bound ≡ true
range_back meaning script memory blocks front st [] fits r b is h = absurd (cc h)
range_back meaning script memory blocks front st (q ∷ qs) fits r b is h =
    elim (or_cases (block_of blocks q.block == b) (has_block b (map (range_on blocks) qs)) h) [
      | inl here ↦
          let has = st.has_block q.block fits.0.0.0 in
          let same : q.block ≡ r = st.own q.block r b (has.1
          ∙ ap Some (sym (ap or_zero has.1) ∙ eqb-true (block_of blocks q.block) b here)) is in
          or_left ((q.block == r) && nat_lt q.from q.to) (binds_buffer r qs)
          (ap (λ c. c && nat_lt q.from q.to) (eq-eqb q.block r same) ∙ lt-ltb q.from q.to fits.0.1)
      | inr later ↦ or_right ((q.block == r) && nat_lt q.from q.to) (binds_buffer r qs)
          (range_back meaning script memory blocks front st qs fits.1 r b is later)
    ]

-- One turn more -----------------------------------------------------------------------------------------------------

module _ (script : Script) (blocks : ℕ → Option ℕ) (front : List Turn) (chunks : List Segment) (turns : List Turn)
    (bound : List Range) (writes commands : List Entry)
    (h : Traced script blocks front chunks turns bound writes commands) (t : Turn) where
  past_more : front ++ t ∷ [] ≡ joined (turns_of chunks) ++ (turns ++ t ∷ [])
  past_more = ap (λ l. l ++ t ∷ []) h.past ∙ append_assoc (joined (turns_of chunks)) turns (t ∷ [])

  -- without an item
  pub traced_turn : Traced script blocks (front ++ t ∷ []) chunks (turns ++ t ∷ []) bound writes commands
  traced_turn = record {
    past = past_more;
    used = h.used;
    used_open = λ r b st is n. uses_front r turns (t ∷ []) (h.used_open r b st is n);
    quiet = λ none. h.quiet (let l = entries_last turns t in omega (arith, none, l));
  }

  -- with an item, and blocks of which the chunks know
  pub traced_item : is_entry t ≡ true → (blocks' : ℕ → Option ℕ) (bound' : List Range)
      (writes' commands' : List Entry) → AllByRecursion (λ s. IsUsed script blocks' s.turns s.bound) chunks
      → IsUsed script blocks' (turns ++ t ∷ []) bound' → Traced script blocks' (front ++ t ∷ []) chunks
      (turns ++ t ∷ []) bound' writes' commands'
  traced_item entry blocks' bound' writes' commands' used used_open = record {
    past = past_more;
    used = used;
    used_open = used_open;
    quiet = λ none.
        let l = entries_last turns t in
        let one = one_entry t entry in
        absurd (let z : ⊥ = omega (arith, none, l, one) in z);
  }

  -- nothing is bound
  pub traced_bare : is_entry t ≡ true → (writes' commands' : List Entry)
      → Traced script blocks (front ++ t ∷ []) chunks (turns ++ t ∷ []) bound writes' commands'
  traced_bare entry writes' commands' =
      traced_item entry blocks bound writes' commands' h.used
      (λ r b st is n. uses_front r turns (t ∷ []) (h.used_open r b st is n))

  -- ranges are bound, with others of no buffer
  pub traced_bound : is_entry t ≡ true → (meaning : Meaning) (memory : ℕ → ℕ → ℕ)
      → Stands script memory blocks (in_order meaning script front at_start)
      → AllByRecursion (λ r. Fits meaning script front r × (r.from < r.to)) (bound_by t) → (others : List Range)
      → ((r b : ℕ) → blocks r ≡ Some b → has_block b others ≡ false) → (writes' commands' : List Entry)
      → Traced script blocks (front ++ t ∷ []) chunks (turns ++ t ∷ [])
      (bound ++ (others ++ map (range_on blocks) (bound_by t))) writes' commands'
  traced_bound entry meaning memory st fits others none writes' commands' =
      traced_item entry blocks (bound ++ (others ++ map (range_on blocks) (bound_by t))) writes' commands' h.used
      (λ r b s is n.
      elim (or_cases (has_block b bound) (has_block b (others ++ map (range_on blocks) (bound_by t)))
      (sym (list_any-append (λ r. r.block == b) bound (others ++ map (range_on blocks) (bound_by t))) ∙ n)) [
        | inl x ↦ uses_front r turns (t ∷ []) (h.used_open r b s is x)
        | inr x ↦
            uses_last r turns t
            (range_back meaning script memory blocks front st (bound_by t) fits r b is
            (sym (ap (λ c. c || has_block b (map (range_on blocks) (bound_by t))) (none r b is))
            ∙ sym (list_any-append (λ r. r.block == b) others (map (range_on blocks) (bound_by t))) ∙ x))
      ])

  -- buffers have other blocks: those that they had, or such as no chunk binds
  pub traced_blocks : is_entry t ≡ true → (st : ℕ → Bool) (own : ℕ → Owner) (staging : List Range) (blocks' : ℕ
      → Option ℕ) (writes' commands' : List Entry)
      → ((r b : ℕ) → script.is_staging r ≡ true → blocks' r ≡ Some b → (blocks r ≡ Some b) ⊎ (IsMade (own b) → ⊥))
      → AllByRecursion (λ s. Names st own s.staging s.bound) chunks → Names st own staging bound
      → Traced script blocks' (front ++ t ∷ []) chunks (turns ++ t ∷ []) bound writes' commands'
  traced_blocks entry st own staging blocks' writes' commands' had named named_open =
      let kept : (ts : List Turn) (bs : List Range) → IsUsed script blocks ts bs
      → ((b : ℕ) → has_block b bs ≡ true → IsMade (own b)) → IsUsed script blocks' ts bs =
      λ ts bs u made r b s is n. elim (had r b s is) [ inl x ↦ u r b s x n | inr x ↦ absurd (x (made b n)) ] in
      traced_item entry blocks' bound writes' commands'
      (all_map (λ s. IsUsed script blocks s.turns s.bound × Names st own s.staging s.bound)
      (λ s. IsUsed script blocks' s.turns s.bound) (λ s x. kept s.turns s.bound x.0 x.1.1) chunks
      (all_both (λ s. IsUsed script blocks s.turns s.bound) (λ s. Names st own s.staging s.bound) chunks h.used named))
      (λ r b s is n. uses_front r turns (t ∷ []) (kept turns bound h.used_open named_open.1 r b s is n))

-- Chunks move on ----------------------------------------------------------------------------------------------------

-- the open chunk is handed over
pub traced_handed : (script : Script) (blocks : ℕ → Option ℕ) (front : List Turn) (chunks : List Segment)
    (o : Segment) → Traced script blocks front chunks o.turns o.bound o.writes o.commands
    → Traced script blocks front (chunks ++ o ∷ []) [] [] [] []
traced_handed script blocks front chunks o h = record {
  past = h.past ∙ sym (joined_last chunks o) ∙ sym (append-nil (joined (turns_of (chunks ++ o ∷ []))));
  used = all_append (λ s. IsUsed script blocks s.turns s.bound) chunks (o ∷ []) h.used (h.used_open, tt);
  used_open = λ r b st is n. absurd (cc n);
  quiet = λ none. (refl, refl);
}
