-- Owners that change by a function of the block and its owner; and as ranges are bound.
use Rattle.std.proofs.Common.{◌≡◌, ℕ, suc, ◌+◌, ◌*◌, ◌<◌, ◌≤◌, Bool, true, false, ◌||◌, List, []}
use Rattle.std.proofs.Common.{◌∷◌, refl, ap, ◌∙◌, Option, arith}
use Rattle.std.specs.List.{AllByRecursion}
use Rattle.dx_types.specs.declared.range.Range.{Range}
use Rattle.base_lemmas.proofs.Lists.{all_map}
use Rattle.core_model.specs.Script.{Script}
use Rattle.core_model.specs.CoreState.{Segment, Owner, Unmade, Home, Returning, Spare, Live, Retired, Paged, Dropped}
use Rattle.core_model.specs.CoreState.{has_class, Board, Pool}
use Rattle.core_model.specs.Owners.{in_ranges, bind_owner}
use Rattle.core_model.specs.Kept.{IsPageOf, IsFreeFrom, IsTakenBy, IsOfBuffer, IsMade, bound_at, ArePaged}
use Rattle.core_model.specs.Kept.{PlacesRight, BlocksRight, Names}

-- Owners that change by a function of the block and its owner -------------------------------------------------------

-- what such a change keeps
pub record Keeps (f : ℕ → Owner → Owner) : Type 0 where
  pub unmade : (b : ℕ) → f b Unmade ≡ Unmade
  pub home : (b k : ℕ) → f b (Home k) ≡ Home k
  pub spare : (b : ℕ) → f b Spare ≡ Spare
  pub taken : (fence b : ℕ) (o : Owner) → IsTakenBy fence o → IsTakenBy fence (f b o)
  pub buffer : (b : ℕ) (o : Owner) → has_class b ≡ false → IsOfBuffer o → IsOfBuffer (f b o)
  pub made : (b : ℕ) (o : Owner) → IsMade o → IsMade (f b o)

module _ (f : ℕ → Owner → Owner) (keeps : Keeps f) where
  pub places_by : (board : Board) (pool : Pool) (own : ℕ → Owner) (fence : ℕ) → PlacesRight board pool own fence
      → PlacesRight board pool (λ b. f b (own b)) fence
  places_by board pool own fence p = record {
    home = λ class place b h. let x = p.home class place b h in (x.0, x.1, x.2, ap (f b) x.3 ∙ keeps.home b x.2);
    apart = p.apart;
    unmade = λ class k l m n. ap (f (class * 64 + k)) (p.unmade class k l m n) ∙ keeps.unmade (class * 64 + k);
    next = p.next;
    fresh = λ b l. ap (f b) (p.fresh b l) ∙ keeps.unmade b;
    spare = all_map (λ q. own q.block ≡ Spare) (λ q. f q.block (own q.block) ≡ Spare) (λ q e. ap (f q.block) e
        ∙ keeps.spare q.block) pool.spare p.spare;
    spares = p.spares;
    taken = λ b. keeps.taken fence b (own b) (p.taken b);
  }

  pub blocks_by : (script : Script) (blocks : ℕ → Option ℕ) (st : ℕ → Bool) (own : ℕ → Owner)
      → BlocksRight script blocks st own → BlocksRight script blocks st (λ b. f b (own b))
  blocks_by script blocks st own h = record {
    alike = h.alike;
    held = λ b s. let x = h.held b s in
        (keeps.buffer b (own b) x.1 x.0, x.1);
  }

  pub names_by : (st : ℕ → Bool) (own : ℕ → Owner) (staging bound : List Range) → Names st own staging bound
      → Names st (λ b. f b (own b)) staging bound
  names_by st own staging bound h = (h.0, (λ b n. keeps.made b (own b) (h.1 b n)))

  pub named_by : (st : ℕ → Bool) (own : ℕ → Owner) (ss : List Segment)
      → AllByRecursion (λ s. Names st own s.staging s.bound) ss
      → AllByRecursion (λ s. Names st (λ b. f b (own b)) s.staging s.bound) ss
  named_by st own ss h = all_map (λ s. Names st own s.staging s.bound)
      (λ s. Names st (λ b. f b (own b)) s.staging s.bound) (λ s n. names_by st own s.staging s.bound n) ss h

-- pages stay pages of chunks behind k
pub paged_by : (f : ℕ → Owner → Owner) (k : ℕ) (own : ℕ → Owner) (ss : List Segment)
    → ((b n : ℕ) (o : Owner) → k < n → IsPageOf n o → IsPageOf n (f b o)) → ArePaged k own ss
    → ArePaged k (λ b. f b (own b)) ss
paged_by f k own [] keep h = tt
paged_by f k own (s ∷ ss) keep h = (
  all_map (λ p. IsPageOf (suc k) (own p.block)) (λ p. IsPageOf (suc k) (f p.block (own p.block)))
      (λ p q. keep p.block (suc k) (own p.block) (omega arith) q) s.pages h.0,
  h.1,
  paged_by f (suc k) own ss (λ b n o l q. keep b n o (omega (arith, l)) q) h.2,
)

-- Ranges are bound --------------------------------------------------------------------------------------------------

pub bind_taken : (rs : List Range) (fence b : ℕ) (o : Owner) → IsTakenBy fence o → IsTakenBy fence (bind_owner rs b o)
bind_taken rs fence b Unmade h = h
bind_taken rs fence b (Home k) h = h
bind_taken rs fence b (Returning k) h = h
bind_taken rs fence b Spare h = h
bind_taken rs fence b (Live buffer since bound) h = h
bind_taken rs fence b (Retired k since bound) h = h
bind_taken rs fence b (Paged k since bound) h = h
bind_taken rs fence b Dropped h = h

pub bind_buffer : (rs : List Range) (b : ℕ) (o : Owner) → IsOfBuffer o → IsOfBuffer (bind_owner rs b o)
bind_buffer rs b Unmade h = h
bind_buffer rs b (Home k) h = h
bind_buffer rs b (Returning k) h = h
bind_buffer rs b Spare h = h
bind_buffer rs b (Live buffer since bound) h = h
bind_buffer rs b (Retired k since bound) h = h
bind_buffer rs b (Paged k since bound) h = h
bind_buffer rs b Dropped h = h

pub bind_made : (rs : List Range) (b : ℕ) (o : Owner) → IsMade o → IsMade (bind_owner rs b o)
bind_made rs b Unmade h = h
bind_made rs b (Home k) h = h
bind_made rs b (Returning k) h = h
bind_made rs b Spare h = h
bind_made rs b (Live buffer since bound) h = h
bind_made rs b (Retired k since bound) h = h
bind_made rs b (Paged k since bound) h = h
bind_made rs b Dropped h = h

pub bind_page : (rs : List Range) (b n : ℕ) (o : Owner) → IsPageOf n o → IsPageOf n (bind_owner rs b o)
bind_page rs b n Unmade h = h
bind_page rs b n (Home k) h = h
bind_page rs b n (Returning k) h = h
bind_page rs b n Spare h = h
bind_page rs b n (Live buffer since bound) h = h
bind_page rs b n (Retired k since bound) h = h
bind_page rs b n (Paged k since bound) h = h
bind_page rs b n Dropped h = h

pub bind_keeps : (rs : List Range) → Keeps (bind_owner rs)
bind_keeps rs = record {
  unmade = λ b. refl;
  home = λ b k. refl;
  spare = λ b. refl;
  taken = bind_taken rs;
  buffer = λ b o c h. bind_buffer rs b o h;
  made = bind_made rs;
}

pub bind_free : (rs : List Range) (b at at' : ℕ) (o : Owner) → at ≤ at'
    → ((i : ℕ) → at' ≤ i → in_ranges rs b i ≡ false) → IsFreeFrom at o → IsFreeFrom at' (bind_owner rs b o)
bind_free rs b at at' Unmade l n h = h
bind_free rs b at at' (Home k) l n h = h
bind_free rs b at at' (Returning k) l n h = h
bind_free rs b at at' Spare l n h = h
bind_free rs b at at' (Live buffer since bound) l n h = h
bind_free rs b at at' (Retired k since bound) l n h = h
bind_free rs b at at' (Paged k since bound) l n h = λ i u. neither (bound i) (in_ranges rs b i)
    (h i (omega (arith, l, u))) (n i u)
  where
    neither : (x y : Bool) → x ≡ false → y ≡ false → (x || y) ≡ false
    neither x y e d = ap (λ c. c || y) e ∙ d
bind_free rs b at at' Dropped l n h = h

pub bind_bound : (rs : List Range) (b i : ℕ) (o : Owner) → bound_at (bind_owner rs b o) i ≡ true
    → (bound_at o i || in_ranges rs b i) ≡ true
bind_bound rs b i Unmade h = absurd (cc h)
bind_bound rs b i (Home k) h = absurd (cc h)
bind_bound rs b i (Returning k) h = absurd (cc h)
bind_bound rs b i Spare h = absurd (cc h)
bind_bound rs b i (Live buffer since bound) h = h
bind_bound rs b i (Retired k since bound) h = absurd (cc h)
bind_bound rs b i (Paged k since bound) h = absurd (cc h)
bind_bound rs b i Dropped h = absurd (cc h)
