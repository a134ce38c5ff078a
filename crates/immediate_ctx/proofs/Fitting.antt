-- The Post of the first chunk of a state fits.
use Rattle.std.proofs.Common.{◌≡◌, ℕ, suc, Bool, true, false, ◌&&◌, ◌||◌, ◌==◌, List, [], ◌∷◌, ◌++◌, map, refl}
use Rattle.std.proofs.Common.{sym, ap, ◌∙◌}
use Rattle.std.specs.List.{list_any, list_all}
use Rattle.std.proofs.lemmas.Bool.{eq-eqb}
use Rattle.dx_types.specs.declared.range.Range.{Range}
use Rattle.vk_types.specs.declared.message.Post.{Post}
use Rattle.base_lemmas.proofs.Scan.{any_map}
use Rattle.core_model.specs.CoreState.{Core, Segment, Message, of_messages, of_running, later, taken_count}
use Rattle.core_model.specs.Adding.{has_block}
use Rattle.core_model.specs.OtherParts.{is_among, used_in}
use Rattle.immediate_ctx.specs.Flight.{OnItsWay, OnTheirWay, Fits, IsPostOfFirst, is_snapped, uses_block}
use Rattle.immediate_ctx.specs.Stands.{FlightStands, IsPostFor, behind_posts}

-- a test that holds of each number among these
all_among : (test : ℕ → Bool) (ns : List ℕ) → ((b : ℕ) → is_among b ns ≡ true → test b ≡ true)
    → list_all test ns ≡ true
all_among test [] h = refl
all_among test (n ∷ ns) h =
    both (test n) (list_all test ns) (h n (left (n == n) (is_among n ns) (eq-eqb n n refl)))
    (all_among test ns (λ b among. h b (right (n == b) (is_among b ns) among)))
  where
    both : (a b : Bool) → a ≡ true → b ≡ true → (a && b) ≡ true
    both true b p q = q
    both false b p q = p

    left : (a b : Bool) → a ≡ true → (a || b) ≡ true
    left true b p = refl
    left false b p = absurd (cc p)

    right : (a b : Bool) → b ≡ true → (a || b) ≡ true
    right true b p = refl
    right false b p = p

-- the chunks of the recorder use a block where the model's do
same_uses : (b : ℕ) (cs : List OnItsWay) (ss : List Segment)
    → map (λ c. is_among b c.used) cs ≡ map (λ s. has_block b s.bound) ss → uses_block cs b ≡ used_in ss b
same_uses b [] [] h = refl
same_uses b [] (s ∷ ss) h = absurd (cc h)
same_uses b (c ∷ cs) [] h = absurd (cc h)
same_uses b (c ∷ cs) (s ∷ ss) h =
    let here : is_among b c.used ≡ has_block b s.bound = cc h in
    let others : map (λ (o : OnItsWay). is_among b o.used) cs ≡ map (λ (t : Segment). has_block b t.bound) ss = cc h in
    ap (λ (x : Bool). x || uses_block cs b) here
    ∙ ap (λ (x : Bool). has_block b s.bound || x) (same_uses b cs ss others)

fits_by : (core : Core) (m : Message) (rest : List Segment) (p : Post) (kept : List OnItsWay) (number : ℕ)
    → p.number ≡ number → IsPostFor core m rest p
    → map (λ c. c.placed) kept ≡ map (λ s. s.placed) (m.segment ∷ rest)
    → map (λ c. c.named) kept ≡ map (λ s. map (λ r. r.block) s.staging) (m.segment ∷ rest)
    → ((b : ℕ) → core.is_staging b ≡ true
    → map (λ c. is_among b c.used) kept ≡ map (λ s. has_block b s.bound) (m.segment ∷ rest))
    → IsPostOfFirst number kept p
fits_by core m rest p [] number n post places names uses = absurd (cc places)
fits_by core m rest p (c ∷ cs) number n post places names uses =
    let placed : c.placed ≡ m.segment.placed = cc places in
    let named : c.named ≡ map (λ (r : Range). r.block) m.segment.staging = cc names in
    record {
      next = n;
      same = post.placed ∙ sym placed;
      copied = all_among (λ b. uses_block cs b || is_snapped p b) c.named (λ b among.
          let there : has_block b m.segment.staging ≡ true =
          any_map (λ (k : ℕ). k == b) (λ (r : Range). r.block) m.segment.staging
          ∙ ap (is_among b) (sym named) ∙ among in
          let staging = post.staging b there in
          let tail : map (λ (o : OnItsWay). is_among b o.used) cs ≡ map (λ (t : Segment). has_block b t.bound) rest =
          cc (uses b staging) in
          copied_or_used (uses_block cs b) (used_in rest b) (is_snapped p b) (same_uses b cs rest tail)
          (post.copied b there));
    }
  where
    copied_or_used : (u v s : Bool) → u ≡ v → (v ≡ false → s ≡ true) → (u || s) ≡ true
    copied_or_used true v s e h = refl
    copied_or_used false v s e h = h (sym e)

pub post_fits : (core : Core) (f : OnTheirWay) (m : Message) (ms : List Message) (p : Post)
    → FlightStands core f → core.posts ≡ m ∷ ms → p.number ≡ suc (taken_count core)
    → IsPostFor core m (behind_posts ms core) p → Fits f p
post_fits core f m ms p st posts number post =
    let behind : later core ≡ m.segment ∷ behind_posts ms core =
    ap (λ (ps : List Message). of_messages ps ++ (of_messages core.completions ++
    (of_running core.accepted ++ (core.submissions ++ (core.batches ++ core.chunks))))) posts in
    fits_by core m (behind_posts ms core) p f.kept (suc f.taken) (number ∙ ap suc (sym st.taken)) post
    (st.placed ∙ ap (map (λ (s : Segment). s.placed)) behind)
    (st.named ∙ ap (map (λ (s : Segment). map (λ (r : Range). r.block) s.staging)) behind)
    (λ b staging. st.used b staging ∙ ap (map (λ (s : Segment). has_block b s.bound)) behind)
