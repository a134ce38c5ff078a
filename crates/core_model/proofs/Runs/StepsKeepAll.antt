-- The invariant and what holds beside it are kept together, by the steps of other parts, by posts, by a hand-over,
-- and as a run begins.
use Rattle.std.proofs.Common.{◌≡◌, ℕ, zero, suc, ◌+◌, ◌<◌, ◌≤◌, true, false, max, List, [], ◌∷◌, ◌++◌, length}
use Rattle.std.proofs.Common.{replicate, refl, sym, ap, ◌∙◌, subst, Some, None, slice_get, arith, append_assoc}
use Rattle.std.proofs.Common.{length-append}
use Rattle.std.specs.List.{AllByRecursion}
use Rattle.vk_types.specs.Effects.{Meaning, act_effect}
use Rattle.vk_types.specs.Entries.{run_entries}
use Rattle.base_lemmas.proofs.Lists.{all_append, all_map, pairs_append}
use Rattle.core_model.specs.Script.{Script}
use Rattle.core_model.specs.Chunking.{is_due}
use Rattle.core_model.specs.CoreState.{Page, Segment, Running, Message, Owner, Unmade, Home, Returning, Spare, Live}
use Rattle.core_model.specs.CoreState.{Retired, Paged, Dropped, Board, Pool, Core, start, of_messages, of_running}
use Rattle.core_model.specs.CoreState.{later, taken_count, finished_count, open_number}
use Rattle.core_model.specs.Readings.{Reading, may_hand_over}
use Rattle.core_model.specs.Owners.{return_owner, finish_owner}
use Rattle.core_model.specs.TakingPosts.{with_post, TakesPosts, with_fence}
use Rattle.core_model.specs.AppActs.{handed_over}
use Rattle.core_model.specs.OtherParts.{created, counted, snaps_of, values_of}
use Rattle.core_model.specs.CoreStep.{Event, App, Cs, Pipe, Submit, Accept, Run, Complete, Finish, Come_home}
use Rattle.core_model.specs.CoreStep.{is_of_app, Step}
use Rattle.core_model.specs.Kept.{IsPageOf, IsTakenBy, AreApart, ArePaged, PlacesRight, PagesRight, Names, Beside}
use Rattle.core_model.specs.Kept.{Traced, IsTraced, Kept}
use Rattle.core_model.proofs.Listing.Worlds.{of_messages-append, of_running-append}
use Rattle.core_model.proofs.Steps.Segments.{behind_six, handed_length}
use Rattle.core_model.proofs.Steps.QueueHeads.{one_more}
use Rattle.core_model.proofs.Steps.Handing.{hand_over_good}
use Rattle.core_model.proofs.Steps.Posting.{posts_good}
use Rattle.core_model.proofs.Steps.Start.{start_good}
use Rattle.core_model.proofs.Steps.OtherParts.{others_good}
use Rattle.core_model.proofs.Blocks.OwnerChanges.{places_by, blocks_by, names_by, named_by, paged_by, return_keeps}
use Rattle.core_model.proofs.Blocks.OwnerChanges.{return_page, return_spare, return_free, return_bound}
use Rattle.core_model.proofs.Runs.Tracing.{traced_handed}
use Rattle.core_model.proofs.Blocks.OtherPartsKeepBlocks.{Both, moved_both, newest_by, finished_beside, homed_beside}

-- The other parts ---------------------------------------------------------------------------------------------------

others_beside : (meaning : Meaning) (reading : Reading) (script : Script) (old : Core) (e : Event) (new : Core)
    → is_of_app e ≡ false → Step meaning reading script old e new → Both script old → Both script new
others_beside meaning reading script old (App posts) new h p b = absurd (cc h)
others_beside meaning reading script old Cs new h p b =
    let s = p.0 in
    let ss = p.1 in
    subst (Both script) (sym p.4)
    (moved_both script old
    (record old { batches = old.batches ++ s ∷ []; chunks = ss; requested = old.requested ++ created s.turns })
    (ap (λ l. of_messages old.posts ++ (of_messages old.completions
    ++ (of_running old.accepted ++ (old.submissions ++ l)))) (append_assoc old.batches (s ∷ []) ss
    ∙ ap (λ l. old.batches ++ l) (sym p.2))) b.0 b.1)
others_beside meaning reading script old (Pipe j) new h p b =
    subst (Both script) (sym p.2)
    (moved_both script old (record old { modules = old.modules ++ p.0 ∷ [] }) refl b.0 b.1)
others_beside meaning reading script old Submit new h p b =
    let s = p.0 in
    let ss = p.1 in
    subst (Both script) (sym p.5)
    (moved_both script old (record old { submissions = old.submissions ++ s ∷ []; batches = ss })
    (ap (λ l. of_messages old.posts ++ (of_messages old.completions ++ (of_running old.accepted ++ l)))
    (append_assoc old.submissions (s ∷ []) (ss ++ old.chunks)
    ∙ ap (λ l. old.submissions ++ (l ++ old.chunks)) (sym p.2))) b.0 b.1)
others_beside meaning reading script old Accept new h p b =
    let s = p.0 in
    let ss = p.1 in
    let begun : Running = record { segment = s; rest = s.commands } in
    let memory = run_entries meaning s.writes old.memory in
    let z = old.batches ++ old.chunks in
    subst (Both script) (sym p.4)
    (moved_both script old
    (record old { accepted = old.accepted ++ begun ∷ []; submissions = ss; memory = memory })
    (ap (λ l. of_messages old.posts ++ (of_messages old.completions ++ l))
    (ap (λ l. l ++ (ss ++ z)) (of_running-append old.accepted (begun ∷ []))
    ∙ append_assoc (of_running old.accepted) (s ∷ []) (ss ++ z)
    ∙ ap (λ l. of_running old.accepted ++ (l ++ z)) (sym p.2))) b.0 b.1)
others_beside meaning reading script old (Run j) new h p b =
    let front = p.0 in
    let r = p.1 in
    let back = p.2 in
    let x = p.5 in
    let after : Running = record { segment = r.segment; rest = p.4 ++ p.6 } in
    subst (Both script) (sym p.10)
    (moved_both script old (record old {
      accepted = front ++ after ∷ back;
      memory = act_effect meaning x.act old.memory;
      counts = counted meaning x.act old.memory old.counts;
      ran = old.ran ++ x ∷ [];
    })
    (ap (λ l. of_messages old.posts ++ (of_messages old.completions
    ++ (l ++ (old.submissions ++ (old.batches ++ old.chunks)))))
    (of_running-append front (after ∷ back) ∙ sym (of_running-append front (r ∷ back)) ∙ ap of_running (sym p.3)))
    b.0 b.1)
others_beside meaning reading script old Complete new h p b =
    let r = p.0 in
    let rs = p.1 in
    let m : Message = record {
      segment = r.segment;
      snaps = snaps_of r.segment rs old.memory;
      values = values_of old.counts (old.taken ++ (of_messages old.posts ++ of_messages old.completions)) r.segment;
    } in
    let z = old.submissions ++ (old.batches ++ old.chunks) in
    subst (Both script) (sym p.5)
    (moved_both script old (record old { completions = old.completions ++ m ∷ []; accepted = rs })
    (ap (λ l. of_messages old.posts ++ l)
    (ap (λ l. l ++ (of_running rs ++ z)) (of_messages-append old.completions (m ∷ []))
    ∙ append_assoc (of_messages old.completions) (r.segment ∷ []) (of_running rs ++ z)
    ∙ ap (λ l. of_messages old.completions ++ (of_running l ++ z)) (sym p.2))) b.0 b.1)
others_beside meaning reading script old Finish new h p b =
    let m = p.0 in
    let ms = p.1 in
    let posts = old.posts ++ m ∷ [] in
    let rest = of_running old.accepted ++ (old.submissions ++ (old.batches ++ old.chunks)) in
    let line : of_messages posts ++ of_messages ms ≡ of_messages old.posts ++ of_messages old.completions =
    sym (of_messages-append posts ms) ∙ ap of_messages (append_assoc old.posts (m ∷ []) ms
    ∙ ap (λ l. old.posts ++ l) (sym p.2)) ∙ of_messages-append old.posts old.completions in
    let owner : ℕ → Owner = λ b. finish_owner (suc (finished_count old)) b (old.owner b) in
    subst (Both script) (sym p.4)
    (moved_both script old (record old { posts = posts; completions = ms; owner = owner })
    (sym (append_assoc (of_messages posts) (of_messages ms) rest) ∙ ap (λ l. l ++ rest) line
    ∙ append_assoc (of_messages old.posts) (of_messages old.completions) rest)
    (finished_beside script old (suc (finished_count old)) b.0) b.1)
others_beside meaning reading script old (Come_home block place) new h p b =
    subst (Both script) (sym p.6) (homed_beside script old block place p.0 p.1 p.2 p.3 p.4 p.5 b.0, b.1)

others_fenced : (meaning : Meaning) (reading : Reading) (script : Script) (old : Core) (e : Event) (new : Core)
    → is_of_app e ≡ false → Step meaning reading script old e new → taken_count old ≤ old.fence
    → taken_count new ≤ new.fence
others_fenced meaning reading script old (App posts) new h p l = absurd (cc h)
others_fenced meaning reading script old Cs new h p l = subst (λ c. taken_count c ≤ c.fence) (sym p.4) l
others_fenced meaning reading script old (Pipe j) new h p l = subst (λ c. taken_count c ≤ c.fence) (sym p.2) l
others_fenced meaning reading script old Submit new h p l = subst (λ c. taken_count c ≤ c.fence) (sym p.5) l
others_fenced meaning reading script old Accept new h p l = subst (λ c. taken_count c ≤ c.fence) (sym p.4) l
others_fenced meaning reading script old (Run j) new h p l = subst (λ c. taken_count c ≤ c.fence) (sym p.10) l
others_fenced meaning reading script old Complete new h p l = subst (λ c. taken_count c ≤ c.fence) (sym p.5) l
others_fenced meaning reading script old Finish new h p l = subst (λ c. taken_count c ≤ c.fence) (sym p.4) l
others_fenced meaning reading script old (Come_home block place) new h p l =
    subst (λ c. taken_count c ≤ c.fence) (sym p.6) l

pub others_kept : (meaning : Meaning) (reading : Reading) (script : Script) (old : Core) (e : Event) (new : Core)
    → is_of_app e ≡ false → Step meaning reading script old e new
    → Kept meaning reading script old → Kept meaning reading script new
others_kept meaning reading script old e new h p k = record {
  good = others_good meaning reading script old e new h p k.good;
  beside = (others_beside meaning reading script old e new h p (k.beside, k.traced)).0;
  fenced = others_fenced meaning reading script old e new h p k.fenced;
  traced = (others_beside meaning reading script old e new h p (k.beside, k.traced)).1;
}

-- Posts -------------------------------------------------------------------------------------------------------------

spare_apart : (own : ℕ → Owner) (n : ℕ) (ps qs : List Page) → AllByRecursion (λ p. own p.block ≡ Spare) ps
    → AllByRecursion (λ q. IsPageOf n (own q.block)) qs
    → AllByRecursion (λ p. AllByRecursion (λ q. p.block ≡ q.block → ⊥) qs) ps
spare_apart own n ps qs h k =
    all_map (λ p. own p.block ≡ Spare) (λ p. AllByRecursion (λ q. p.block ≡ q.block → ⊥) qs)
    (λ p e. all_map (λ q. IsPageOf n (own q.block)) (λ q. p.block ≡ q.block
    → ⊥) (λ q i s. subst (IsPageOf n) (ap own (sym s) ∙ e) i) qs k) ps h

module _ (script : Script) (old : Core) (m : Message) (ms : List Message) (e : old.posts ≡ m ∷ ms)
    (b : Beside script old) where
  abbrev posted : Core
  posted = with_post m ms old

  abbrev n : ℕ
  n = suc (taken_count old)

  later_is : later old ≡ m.segment ∷ later posted
  later_is = ap
      (λ l. of_messages l ++ (of_messages old.completions ++
      (of_running old.accepted ++ (old.submissions ++ (old.batches ++ old.chunks))))) e

  now_taken : taken_count posted ≡ n
  now_taken = one_more old.taken m.segment

  same_number : open_number posted ≡ open_number old
  same_number = let t = now_taken in let p : length old.posts ≡ suc (length ms) = ap length e in omega (arith, t, p)

  below : n < open_number old
  below = let p : length old.posts ≡ suc (length ms) = ap length e in omega (arith, p)

  handed : ArePaged (taken_count old) old.owner (m.segment ∷ later posted)
  handed = subst (ArePaged (taken_count old) old.owner) later_is b.pages.handed

  posted_beside : Beside script posted
  posted_beside =
      let p = places_by (λ b o. return_owner n o) (return_keeps n) old.board old.pool old.owner old.fence b.places in
      record {
        places = record {
          home = p.home;
          apart = p.apart;
          unmade = p.unmade;
          next = p.next;
          fresh = p.fresh;
          spare =
              all_append (λ q. return_owner n (old.owner q.block) ≡ Spare) old.pool.spare m.segment.pages p.spare
              (all_map (λ q. IsPageOf n (old.owner q.block)) (λ q. return_owner n (old.owner q.block) ≡ Spare)
              (λ q h. return_spare n (old.owner q.block) h) m.segment.pages handed.0);
          spares = pairs_append (λ p q. p.block ≡ q.block → ⊥) old.pool.spare m.segment.pages b.places.spares
              handed.1 (spare_apart old.owner n old.pool.spare m.segment.pages b.places.spare handed.0);
          taken = p.taken;
        };
        pages =
            subst (λ t. PagesRight posted.owner t (open_number posted) (later posted) old.open_chunk.pages
            old.pool.newest) (sym now_taken)
            (subst (λ o. PagesRight posted.owner n o (later posted) old.open_chunk.pages old.pool.newest)
            (sym same_number) (record {
              handed = paged_by (λ b o. return_owner n o) n old.owner (later posted)
                  (λ b j o l h. return_page n j o l h) handed.2;
              opened = all_map (λ q. IsPageOf (open_number old) (old.owner q.block))
                  (λ q. IsPageOf (open_number old) (return_owner n (old.owner q.block)))
                  (λ q h. return_page n (open_number old) (old.owner q.block) below h) old.open_chunk.pages
                  b.pages.opened;
              apart = b.pages.apart;
              newest = newest_by (λ b o. return_owner n o) (open_number old) old.owner old.pool.newest
                  (λ b o h. return_page n (open_number old) o below h) (λ b at o h. return_free n at o h)
                  b.pages.newest;
            }));
        blocks = blocks_by (λ b o. return_owner n o) (return_keeps n) script old.blocks old.is_staging old.owner
            b.blocks;
        named =
            subst (AllByRecursion (λ s. Names old.is_staging posted.owner s.staging s.bound))
            (sym (append_assoc old.taken (m.segment ∷ []) (later posted)
            ∙ ap (λ l. old.taken ++ l) (sym later_is)))
            (named_by (λ b o. return_owner n o) (return_keeps n) old.is_staging old.owner (old.taken ++ later old)
            b.named);
        named_open = names_by (λ b o. return_owner n o) (return_keeps n) old.is_staging old.owner
            old.open_chunk.staging old.open_chunk.bound b.named_open;
        bound = λ r c i is h. b.bound r c i is (return_bound n c i (old.owner c) h);
      }

  posted_traced : IsTraced script old → IsTraced script posted
  posted_traced k =
      subst (λ l. Traced script old.blocks old.past l old.open_chunk.turns old.open_chunk.bound
      old.open_chunk.writes old.open_chunk.commands)
      (sym (append_assoc old.taken (m.segment ∷ []) (later posted) ∙ ap (λ l. old.taken ++ l) (sym later_is))) k

posts_traced : (script : Script) (n : ℕ) (old mid : Core) → TakesPosts n old mid → Beside script old
    → IsTraced script old → IsTraced script mid
posts_traced script zero old mid h b k = subst (IsTraced script) (sym h) k
posts_traced script (suc n) old mid h b k =
    posts_traced script n (with_post h.0 h.1 old) mid h.3 (posted_beside script old h.0 h.1 h.2 b)
    (posted_traced script old h.0 h.1 h.2 b k)

fence_traced : (script : Script) (n : ℕ) (core : Core) → IsTraced script core → IsTraced script (with_fence n core)
fence_traced script zero core k = k
fence_traced script (suc n) core k = k

posts_beside : (script : Script) (n : ℕ) (old mid : Core) → TakesPosts n old mid → Beside script old → Beside script mid
posts_beside script zero old mid h b = subst (Beside script) (sym h) b
posts_beside script (suc n) old mid h b = posts_beside script n (with_post h.0 h.1 old) mid h.3
    (posted_beside script old h.0 h.1 h.2 b)

-- a fence is no lower than it was
later_taken : (f g : ℕ) (o : Owner) → f ≤ g → IsTakenBy f o → IsTakenBy g o
later_taken f g Unmade l h = h
later_taken f g (Home k) l h = h
later_taken f g (Returning k) l h = h
later_taken f g Spare l h = h
later_taken f g (Live buffer since bound) l h = omega (arith, l, h)
later_taken f g (Retired k since bound) l h = h
later_taken f g (Paged k since bound) l h = omega (arith, l, h)
later_taken f g Dropped l h = h

pub places_later : (board : Board) (pool : Pool) (own : ℕ → Owner) (f g : ℕ) → f ≤ g → PlacesRight board pool own f
    → PlacesRight board pool own g
places_later board pool own f g l p = record {
  home = p.home;
  apart = p.apart;
  unmade = p.unmade;
  next = p.next;
  fresh = p.fresh;
  spare = p.spare;
  spares = p.spares;
  taken = λ b. later_taken f g (own b) l (p.taken b);
}

fence_beside : (script : Script) (n : ℕ) (core : Core) → Beside script core → Beside script (with_fence n core)
fence_beside script zero core b = b
fence_beside script (suc n) core b = record {
  places = places_later core.board core.pool core.owner core.fence (max core.fence (taken_count core)) (omega arith)
      b.places;
  pages = b.pages;
  blocks = b.blocks;
  named = b.named;
  named_open = b.named_open;
  bound = b.bound;
}

posts_fenced : (n : ℕ) (old mid : Core) → TakesPosts n old mid → taken_count old ≤ old.fence
    → taken_count (with_fence n mid) ≤ (with_fence n mid).fence
posts_fenced zero old mid h l = subst (λ c. taken_count c ≤ c.fence) (sym h) l
posts_fenced (suc n) old mid h l = omega arith

pub posts_kept : (meaning : Meaning) (reading : Reading) (script : Script) (n : ℕ) (old mid : Core)
    → TakesPosts n old mid → Kept meaning reading script old → Kept meaning reading script (with_fence n mid)
posts_kept meaning reading script n old mid h k = record {
  good = posts_good meaning reading script n old mid h k.good;
  beside = fence_beside script n mid (posts_beside script n old mid h k.beside);
  fenced = posts_fenced n old mid h k.fenced;
  traced = fence_traced script n mid (posts_traced script n old mid h k.beside k.traced);
}

-- A hand-over -------------------------------------------------------------------------------------------------------

paged_last : (k n : ℕ) (own : ℕ → Owner) (xs : List Segment) (x : Segment) → suc (k + length xs) ≡ n
    → ArePaged k own xs → AllByRecursion (λ p. IsPageOf n (own p.block)) x.pages → AreApart x.pages
    → ArePaged k own (xs ++ x ∷ [])
paged_last k n own [] x e h p a = (
  subst (λ n. AllByRecursion (λ p. IsPageOf n (own p.block)) x.pages) (let z : n ≡ suc k = omega (arith, e) in z)
      p,
  a,
  tt,
)
paged_last k n own (y ∷ ys) x e h p a =
    (h.0, h.1, paged_last (suc k) n own ys x (let z : suc (suc k + length ys) ≡ n = omega (arith, e) in z) h.2 p a)

hand_over_beside : (script : Script) (old : Core) → Beside script old → Beside script (handed_over old)
hand_over_beside script old b =
    let new = handed_over old in
    let line : later new ≡ later old ++ old.open_chunk ∷ [] =
    behind_six (of_messages old.posts) (of_messages old.completions) (of_running old.accepted) old.submissions
    old.batches old.chunks (old.open_chunk ∷ []) in
    let more = length-append old.chunks (old.open_chunk ∷ []) in
    let number : open_number new ≡ suc (open_number old) = omega (arith, more) in
    let count = handed_length old in
    let p = b.places in
    record {
      places = record {
        home = p.home;
        apart = p.apart;
        unmade = p.unmade;
        next = p.next;
        fresh = p.fresh;
        spare = p.spare;
        spares = p.spares;
        taken = p.taken;
      };
      pages =
          subst (λ l. PagesRight old.owner (taken_count old) (open_number new) l [] None) (sym line) (record {
            handed = paged_last (taken_count old) (open_number old) old.owner (later old) old.open_chunk
                (omega (arith, count)) b.pages.handed b.pages.opened b.pages.apart;
            opened = tt;
            apart = tt;
            newest = tt;
          });
      blocks = b.blocks;
      named =
          subst (AllByRecursion (λ s. Names old.is_staging old.owner s.staging s.bound))
          (append_assoc old.taken (later old) (old.open_chunk ∷ []) ∙ ap (λ l. old.taken ++ l) (sym line))
          (all_append (λ s. Names old.is_staging old.owner s.staging s.bound) (old.taken ++ later old)
          (old.open_chunk ∷ []) b.named (b.named_open, tt));
      named_open = ((λ d h. absurd (cc h)), (λ d h. absurd (cc h)));
      bound = b.bound;
    }

pub hand_over_kept : (meaning : Meaning) (reading : Reading) (script : Script) (old : Core)
    → is_due script old.open_chunk.turns old.future ≡ true → may_hand_over reading old ≡ true
    → Kept meaning reading script old → Kept meaning reading script (handed_over old)
hand_over_kept meaning reading script old due room k = record {
  good = hand_over_good meaning reading script old due room k.good;
  beside = hand_over_beside script old k.beside;
  fenced = k.fenced;
  traced =
      let line : later (handed_over old) ≡ later old ++ old.open_chunk ∷ [] =
      behind_six (of_messages old.posts) (of_messages old.completions) (of_running old.accepted) old.submissions
      old.batches old.chunks (old.open_chunk ∷ []) in
      subst (λ l. Traced script old.blocks old.past l [] [] [] [])
      (append_assoc old.taken (later old) (old.open_chunk ∷ []) ∙ ap (λ l. old.taken ++ l) (sym line))
      (traced_handed script old.blocks old.past (old.taken ++ later old) old.open_chunk k.traced);
}

-- As a run begins ---------------------------------------------------------------------------------------------------

no_place : (n p : ℕ) (b : ℕ) → slice_get (replicate n None) p ≡ Some (Some b) → ⊥
no_place zero p b h = cc h
no_place (suc n) zero b h = cc h
no_place (suc n) (suc p) b h = no_place n p b h

pub start_kept : (meaning : Meaning) (reading : Reading) (script : Script) → Kept meaning reading script (start script)
start_kept meaning reading script = record {
  good = start_good meaning reading script;
  beside = record {
    places = record {
      home = λ class p b h. absurd (no_place 64 p b h);
      apart = λ class p q b h k. absurd (no_place 64 p b h);
      unmade = λ class k l m n. refl;
      next = omega arith;
      fresh = λ b l. refl;
      spare = tt;
      spares = tt;
      taken = λ b. tt;
    };
    pages = record { handed = tt; opened = tt; apart = tt; newest = tt };
    blocks = record { alike = λ r b h. absurd (cc h); held = λ b h. absurd (cc h) };
    named = tt;
    named_open = ((λ d h. absurd (cc h)), (λ d h. absurd (cc h)));
    bound = λ r b i h. absurd (cc h);
  };
  fenced = omega arith;
  traced = record { past = refl; used = tt; used_open = λ r b st is n. absurd (cc n); quiet = λ none. (refl, refl) };
}
