-- No command that is not finished touches a block that may be handed out.
use Rattle.std.proofs.Common.{◌≡◌, ℕ, ◌+◌, ◌<◌, ◌≤◌, Bool, true, false, ◌||◌, ◌==◌, List, [], ◌∷◌, ◌++◌, length, refl}
use Rattle.std.proofs.Common.{sym, ap, ◌∙◌, subst, inl, inr, arith, append_assoc, length-append}
use Rattle.std.specs.List.{list_any, AllByRecursion}
use Rattle.std.proofs.lemmas.Bool.{cases_Bool, eqb-true}
use Rattle.vk_types.specs.declared.touch.Touch.{Touch}
use Rattle.vk_types.specs.Memory.{covers}
use Rattle.vk_types.specs.Hazards.{is_touched}
use Rattle.vk_types.specs.Effects.{Meaning, Act, Host_write, Device, Host_read, act_touches, is_host}
use Rattle.vk_types.specs.Entries.{Entry}
use Rattle.base_lemmas.proofs.Lists.{all_back, all_map, all_both}
use Rattle.vk_types.proofs.Local.{covered}
use Rattle.core_model.specs.Script.{Script}
use Rattle.core_model.specs.CoreState.{Segment, flat, Owner, Unmade, Home, Returning, Spare, Live, Retired, Paged}
use Rattle.core_model.specs.CoreState.{Dropped, Core, of_messages, of_running, waiting, segments, listed, taken_count}
use Rattle.core_model.specs.CoreState.{finished_count}
use Rattle.core_model.specs.Readings.{Reading}
use Rattle.core_model.specs.Stands.{device_touches, touches_block, unfinished, may_touch, IsFree, FreeIsIdle}
use Rattle.core_model.specs.Invariant.{Allows, IsSince, KnownIn, IsFilled, Numbered, Good}
use Rattle.core_model.proofs.Listing.Worlds.{flat-append}
use Rattle.core_model.proofs.Steps.Segments.{numbered_back, numbered_above, messages_length}

-- a touch of a block that has a byte touches a byte of the block
pub touches_byte : (b : ℕ) (ts : List Touch) → AllByRecursion (λ t. t.range.from < t.range.to) ts
    → list_any (λ t. t.range.block == b) ts ≡ true
    → (i : ℕ) × (is_touched ts b i ≡ true)
touches_byte b [] f h = absurd (cc h)
touches_byte b (t ∷ ts) f h =
    elim (cases_Bool (t.range.block == b)) [
      | inl e ↦
          let l = f.0 in (
            t.range.from,
            ap (λ c. c || is_touched ts b t.range.from)
                (covered t.range b t.range.from (eqb-true t.range.block b e) (omega arith) l),
          )
      | inr n ↦
          let r = touches_byte b ts f.1 (sym (ap (λ c. c || list_any (λ t. t.range.block == b) ts) n) ∙ h) in
          (r.0, right (covers t.range b r.0) (is_touched ts b r.0) r.1)
    ]
  where
    right : (a c : Bool) → c ≡ true → (a || c) ≡ true
    right true c e = refl
    right false c e = e

-- the owner of a free block allows chunks that are finished alone
free_allows : (t f i chunk : ℕ) (o : Owner) → t ≤ f → IsSince f o → IsFree o → Allows t f o i chunk → chunk ≤ f
free_allows t f i chunk Unmade l s free a = absurd free
free_allows t f i chunk (Home k) l s free a = omega (arith, s, a)
free_allows t f i chunk (Returning k) l s free a = omega (arith, s, a)
free_allows t f i chunk Spare l s free a = omega (arith, l, a)
free_allows t f i chunk (Live buffer since bound) l s free a = absurd free
free_allows t f i chunk (Retired k since bound) l s free a = absurd free
free_allows t f i chunk (Paged k since bound) l s free a = absurd free
free_allows t f i chunk Dropped l s free a = absurd free

none_of : {A : Type 0} (p : A → Bool) (xs : List A) → AllByRecursion (λ x. p x ≡ false) xs → list_any p xs ≡ false
none_of p [] h = refl
none_of p (x ∷ xs) h = ap (λ c. c || list_any p xs) h.0 ∙ none_of p xs h.1

command_touches : (a : Act) (b : ℕ) → device_touches a b ≡ true → (is_host a ≡ false) × (touches_block a b ≡ true)
command_touches (Host_write r bytes) b h = absurd (cc h)
command_touches (Device d) b h = (refl, h)
command_touches (Host_read r) b h = absurd (cc h)

module _ (meaning : Meaning) (reading : Reading) (script : Script) (core : Core)
    (g : Good meaning reading script core) where
  -- the chunks that have posts, and those behind them
  abbrev posted : List Segment
  posted = core.taken ++ of_messages core.posts

  abbrev behind : List Segment
  behind = of_messages core.completions ++ (of_running core.accepted ++ waiting core)

  core_segments : segments core ≡ posted ++ behind
  core_segments = sym (append_assoc core.taken (of_messages core.posts) behind)

  behind_flat : flat behind ≡ unfinished core
  behind_flat = flat-append (of_messages core.completions) (of_running core.accepted ++ waiting core)
      ∙ ap (λ l. flat (of_messages core.completions) ++ l) (flat-append (of_running core.accepted) (waiting core))

  of_behind : (P : Entry → Type 0) → AllByRecursion P (listed core) → AllByRecursion P (unfinished core)
  of_behind P h =
      subst (AllByRecursion P) behind_flat
      (all_back P (flat posted) (flat behind) (subst (AllByRecursion P) (ap flat core_segments
      ∙ flat-append posted behind) h))

  above : AllByRecursion (λ x. finished_count core < x.chunk) (unfinished core)
  above =
      let l = length-append core.taken (of_messages core.posts) in
      let m = messages_length core.posts in
      subst (AllByRecursion (λ x. finished_count core < x.chunk)) behind_flat
      (numbered_above (finished_count core) behind
      (numbered_back 0 (finished_count core) posted behind (let z : 0 + length posted ≡ finished_count core =
      omega (arith, l, m) in z) (subst (Numbered 0) core_segments g.sound.numbered)))

  idle_entry : (b : ℕ) → IsFree (core.owner b) → (x : Entry) → finished_count core < x.chunk → KnownIn core x
      → IsFilled x → device_touches x.act b ≡ false
  idle_entry b free x l k f =
      elim (cases_Bool (device_touches x.act b)) [
        | inl t ↦
            let c = command_touches x.act b t in
            let byte = touches_byte b (act_touches x.act) f c.1 in
            let low = free_allows (taken_count core) (finished_count core) byte.0 x.chunk (core.owner b)
            (omega arith) (g.sound.since b) free (k.owned c.0 b byte.0 byte.1) in
            absurd (let z : ⊥ = omega (arith, l, low) in z)
        | inr n ↦ n
      ]

  -- no block at home or on its way home, and no page that came back, is touched by a command that is not finished
  pub free_is_idle : FreeIsIdle core
  free_is_idle b free =
      none_of (λ x. device_touches x.act b) (unfinished core)
      (all_map (λ x. (finished_count core < x.chunk) × (KnownIn core x × IsFilled x))
      (λ x. device_touches x.act b ≡ false) (λ x h. idle_entry b free x h.0 h.1.0 h.1.1) (unfinished core)
      (all_both (λ x. finished_count core < x.chunk) (λ x. KnownIn core x × IsFilled x) (unfinished core) above
      (all_both (KnownIn core) IsFilled (unfinished core) (of_behind (KnownIn core) g.sound.known)
      (of_behind IsFilled g.sound.filled))))

  made_entry : (b : ℕ) → core.owner b ≡ Unmade → (x : Entry) → KnownIn core x → IsFilled x
      → device_touches x.act b ≡ false
  made_entry b e x k f =
      elim (cases_Bool (device_touches x.act b)) [
        | inl t ↦
            let c = command_touches x.act b t in
            let byte = touches_byte b (act_touches x.act) f c.1 in
            absurd (subst (λ o. Allows (taken_count core) (finished_count core) o byte.0 x.chunk) e
            (k.owned c.0 b byte.0 byte.1))
        | inr n ↦ n
      ]

  -- nor a block that is not made yet
  pub made_is_idle : (b : ℕ) → core.owner b ≡ Unmade → may_touch core b ≡ false
  made_is_idle b e =
      none_of (λ x. device_touches x.act b) (unfinished core)
      (all_map (λ x. KnownIn core x × IsFilled x) (λ x. device_touches x.act b ≡ false)
      (λ x h. made_entry b e x h.0 h.1) (unfinished core)
      (all_both (KnownIn core) IsFilled (unfinished core) (of_behind (KnownIn core) g.sound.known)
      (of_behind IsFilled g.sound.filled)))
