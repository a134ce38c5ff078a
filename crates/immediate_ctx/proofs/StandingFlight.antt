-- The chunks on their way stand for those of a state, Post by Post.
use Rattle.std.proofs.Common.{◌≡◌, ℕ, suc, List, [], ◌∷◌, ◌++◌, length, map, take, refl, sym, ap, ◌∙◌, arith}
use Rattle.std.proofs.Common.{append_assoc, append-nil, take_all}
use Rattle.vk_types.specs.declared.op.VkOp.{VkOp}
use Rattle.core_model.specs.Chunking.{last_call}
use Rattle.core_model.specs.CoreState.{Core, Segment, Message, of_messages, of_running, later, last_finished}
use Rattle.core_model.specs.CoreState.{taken_count}
use Rattle.core_model.specs.TakingPosts.{with_post}
use Rattle.core_model.specs.Adding.{has_block}
use Rattle.core_model.specs.OtherParts.{is_among}
use Rattle.immediate_ctx.specs.declared.listing.Own.{Own}
use Rattle.immediate_ctx.specs.declared.listing.Own.TheVariants.{Op, Handed}
use Rattle.immediate_ctx.specs.Flight.{OnItsWay, OnTheirWay, TakesFirst, last_of, last_upto}
use Rattle.immediate_ctx.specs.Listing.{Kept, expand}
use Rattle.immediate_ctx.specs.Stands.{FlightStands, ListingStands, handed_in}

last_finished-last : (xs : List Segment) (s : Segment) → last_finished (xs ++ s ∷ []) ≡ last_call s.turns
last_finished-last [] s = refl
last_finished-last (x ∷ []) s = refl
last_finished-last (x ∷ y ∷ xs) s = last_finished-last (y ∷ xs) s

-- the last call of these chunks behind others
last_along : (xs ys : List Segment) (cs : List OnItsWay) (d : ℕ) → d ≡ last_finished xs
    → map (λ c. c.upto) cs ≡ map (λ s. last_call s.turns) ys → last_of d cs ≡ last_finished (xs ++ ys)
last_along xs [] [] d e h = e ∙ ap last_finished (sym (append-nil xs))
last_along xs [] (c ∷ cs) d e h = absurd (cc h)
last_along xs (y ∷ ys) [] d e h = absurd (cc h)
last_along xs (y ∷ ys) (c ∷ cs) d e h =
    let here : c.upto ≡ last_call y.turns = cc h in
    let others : map (λ (o : OnItsWay). o.upto) cs ≡ map (λ (s : Segment). last_call s.turns) ys = cc h in
    last_along (xs ++ y ∷ []) ys cs c.upto (here ∙ sym (last_finished-last xs y)) others
    ∙ ap last_finished (append_assoc xs (y ∷ []) ys)

pub last_call_stands : (core : Core) (f : OnTheirWay) → FlightStands core f
    → last_upto f ≡ last_finished (core.taken ++ later core)
last_call_stands core f st = last_along core.taken (later core) f.kept f.done st.done st.last_calls

-- what of the first chunk and of the later ones is the same
split : {X : Type 0} (f : OnItsWay → X) (g : Segment → X) (cs : List OnItsWay) (c : OnItsWay)
    (others : List OnItsWay) (ss : List Segment) (s : Segment) (rest : List Segment) → cs ≡ c ∷ others
    → ss ≡ s ∷ rest → map f cs ≡ map g ss
    → (f c ≡ g s) × (map f others ≡ map g rest)
split f g cs c others ss s rest e k h =
    let both : map f (c ∷ others) ≡ map g (s ∷ rest) = sym (ap (map f) e) ∙ h ∙ ap (map g) k in
    (cc both, cc both)

pub taken_stands : (core : Core) (old new : OnTheirWay) (m : Message) (ms : List Message)
    → FlightStands core old → core.posts ≡ m ∷ ms → TakesFirst old new → FlightStands (with_post m ms core) new
taken_stands core old new m ms st posts t =
    let rest = of_messages ms ++ (of_messages core.completions ++
    (of_running core.accepted ++ (core.submissions ++ (core.batches ++ core.chunks)))) in
    let behind : later core ≡ m.segment ∷ rest =
    ap (λ (ps : List Message). of_messages ps ++
    (of_messages core.completions ++
    (of_running core.accepted ++ (core.submissions ++ (core.batches ++ core.chunks))))) posts in
    let kept : new.kept ≡ t.later = ap (λ (f : OnTheirWay). f.kept) t.taken in
    let calls = split (λ (c : OnItsWay). c.upto) (λ (s : Segment). last_call s.turns) old.kept t.first t.later
    (later core) m.segment rest t.kept behind st.last_calls in
    let places = split (λ (c : OnItsWay). c.placed) (λ (s : Segment). s.placed) old.kept t.first t.later
    (later core) m.segment rest t.kept behind st.placed in
    let names = split (λ (c : OnItsWay). c.named) (λ (s : Segment). map (λ r. r.block) s.staging) old.kept t.first
    t.later (later core) m.segment rest t.kept behind st.named in
    record {
      taken = ap (λ (f : OnTheirWay). f.taken) t.taken ∙ ap suc st.taken ∙ sym (one_more core.taken m.segment);
      done = ap (λ (f : OnTheirWay). f.done) t.taken ∙ calls.0 ∙ sym (last_finished-last core.taken m.segment);
      last_calls = ap (map (λ (c : OnItsWay). c.upto)) kept ∙ calls.1;
      placed = ap (map (λ (c : OnItsWay). c.placed)) kept ∙ places.1;
      named = ap (map (λ (c : OnItsWay). c.named)) kept ∙ names.1;
      used = λ b staging.
          ap (map (λ (c : OnItsWay). is_among b c.used)) kept
          ∙ (split (λ (c : OnItsWay). is_among b c.used) (λ (s : Segment). has_block b s.bound) old.kept t.first
          t.later (later core) m.segment rest t.kept behind (st.used b staging)).1;
    }
  where
    one_more : (xs : List Segment) (s : Segment) → length (xs ++ s ∷ []) ≡ suc (length xs)
    one_more [] s = refl
    one_more (x ∷ xs) s = ap suc (one_more xs s)

pub expand-op : (ops : List (List VkOp)) (own : List Own) (o : VkOp)
    → expand ops (own ++ Op o ∷ []) ≡ expand ops own ++ o ∷ []
expand-op ops [] o = refl
expand-op ops (Op x ∷ own) o = ap (λ (l : List VkOp). x ∷ l) (expand-op ops own o)
expand-op [] (Handed ∷ own) o = expand-op [] own o
expand-op (b ∷ ops) (Handed ∷ own) o = ap (λ (l : List VkOp). b ++ l) (expand-op ops own o)
    ∙ sym (append_assoc b (expand ops own) (o ∷ []))

pub expand-handed : (ops : List (List VkOp)) (own : List Own) (here : List VkOp) → length ops ≡ handed_in own
    → expand (ops ++ here ∷ []) (own ++ Handed ∷ []) ≡ expand ops own ++ here
expand-handed [] [] here h = append-nil here
expand-handed (b ∷ ops) [] here h = absurd (omega (arith, h))
expand-handed ops (Op x ∷ own) here h = ap (λ (l : List VkOp). x ∷ l) (expand-handed ops own here h)
expand-handed [] (Handed ∷ own) here h = absurd (omega (arith, h))
expand-handed (b ∷ ops) (Handed ∷ own) here h =
    ap (λ (l : List VkOp). b ++ l) (expand-handed ops own here (omega (arith, h)))
    ∙ sym (append_assoc b (expand ops own) here)

pub expand-whole : (ops : List (List VkOp)) (core : Core) (k : Kept) → ListingStands ops core k
    → taken_count core ≡ length ops
    → expand k.batches k.own ≡ core.listing
expand-whole ops core k st all =
    ap (λ (bs : List (List VkOp)). expand bs k.own) (st.brought ∙ ap (λ (n : ℕ). take n ops) all
    ∙ take_all (length ops) ops (omega arith)) ∙ st.listing
