-- What holds of how far blocks and shaders came, in every state that steps reach: a block that a chunk gave up is on
-- its way once the chunk is finished, the board has its 64 places of each class, and a shader is requested once its
-- chunk is a batch.
use Rattle.std.proofs.Common.{◌≡◌, ℕ, zero, suc, ◌+◌, ◌<◌, Bool, true, false, cond, ◌==◌, List, [], ◌∷◌, ◌++◌, length}
use Rattle.std.proofs.Common.{refl, sym, ap, ◌∙◌, subst, Option, Some, None, slice_set, arith, length-append}
use Rattle.std.proofs.Common.{append_assoc, append-nil}
use Rattle.std.proofs.lemmas.Bool.{eqb-false}
use Rattle.std.proofs.lemmas.List.{length-set}
use Rattle.dx_types.specs.declared.range.Range.{Range}
use Rattle.vk_types.specs.Effects.{Meaning}
use Rattle.core_model.specs.Script.{Play, Create, Discard, No_overwrite, Stage, Command, Destroy, Create_shader}
use Rattle.core_model.specs.Script.{Mark_query, Set_state, Item, Script}
use Rattle.core_model.specs.CoreState.{Page, Segment, Running, Owner, Unmade, Home, Returning, Spare, Live, Retired}
use Rattle.core_model.specs.CoreState.{Paged, Dropped, has_class, Board, Pool, Core, of_messages, of_running}
use Rattle.core_model.specs.CoreState.{finished_count, taken_count, open_number}
use Rattle.core_model.specs.Readings.{Reading}
use Rattle.core_model.specs.Owners.{nothing_bound, is_block, bind_owner, retire_owner, retired, finish_owner}
use Rattle.core_model.specs.Owners.{return_owner}
use Rattle.core_model.specs.Placing.{Takes, From_home, New_made}
use Rattle.core_model.specs.Adding.{page_owner, with_turn}
use Rattle.core_model.specs.OtherParts.{created}
use Rattle.core_model.specs.Playing.{HasBlock, Own, Of_class, Plays}
use Rattle.core_model.specs.TakingPosts.{TakesPosts, with_post, with_fence}
use Rattle.core_model.specs.CoreStep.{Event, App, Cs, Pipe, Submit, Accept, Run, Complete, Finish, Come_home}
use Rattle.core_model.specs.CoreStep.{is_of_app, Step}
use Rattle.core_model.proofs.Listing.Worlds.{of_messages-append}
use Rattle.core_model.proofs.Messages.ItemResults.{Placement, Nowhere, Bound_alone, Taken_new, Taken_for, Given_up}
use Rattle.core_model.proofs.Messages.ItemResults.{Staged_there}
use Rattle.core_model.proofs.Messages.ItemCases.{result_of, result_placed}
use Rattle.core_model.proofs.Messages.Scenes.{Kinds}

-- a block that a chunk gave up is of a chunk that is not finished
abbrev pub IsAbove : ℕ → Owner → Type 0
IsAbove f Unmade = Unit {0}
IsAbove f (Home k) = Unit {0}
IsAbove f (Returning k) = Unit {0}
IsAbove f Spare = Unit {0}
IsAbove f (Live buffer since bound) = Unit {0}
IsAbove f (Retired k since bound) = f < k
IsAbove f (Paged k since bound) = Unit {0}
IsAbove f Dropped = Unit {0}

-- the head of a list, if there is one
abbrev pub HasHead : {A : Type 0} → List A → Type 0
HasHead {A} xs = (x : A) × (others : List A) × (xs ≡ x ∷ others)

abbrev pub AreLong : Board → Type 0
AreLong board = (class : ℕ) → length (board.places class) ≡ 64

-- the chunks that became batches, and the shaders that chunks create
abbrev pub batched : Core → List Segment
batched core =
    core.taken ++
    (of_messages core.posts ++ (of_messages core.completions
    ++ (of_running core.accepted ++ (core.submissions ++ core.batches))))

abbrev pub shaders_of : List Segment → List ℕ
shaders_of [] = []
shaders_of (s ∷ ss) = created s.turns ++ shaders_of ss

pub record Progress (core : Core) : Type 0 where
  pub above : (b : ℕ) → IsAbove (finished_count core) (core.owner b)
  pub long : AreLong core.board
  pub requested : core.requested ≡ shaders_of (batched core)

pub shaders_append : (xs ys : List Segment) → shaders_of (xs ++ ys) ≡ shaders_of xs ++ shaders_of ys
shaders_append [] ys = refl
shaders_append (x ∷ xs) ys = ap (λ l. created x.turns ++ l) (shaders_append xs ys)
    ∙ sym (append_assoc (created x.turns) (shaders_of xs) (shaders_of ys))

-- Owners ------------------------------------------------------------------------------------------------------------

bind_above : (rs : List Range) (b f : ℕ) (o : Owner) → IsAbove f o → IsAbove f (bind_owner rs b o)
bind_above rs b f Unmade h = h
bind_above rs b f (Home k) h = h
bind_above rs b f (Returning k) h = h
bind_above rs b f Spare h = h
bind_above rs b f (Live buffer since bound) h = h
bind_above rs b f (Retired k since bound) h = h
bind_above rs b f (Paged k since bound) h = h
bind_above rs b f Dropped h = h

return_above : (n f : ℕ) (o : Owner) → IsAbove f o → IsAbove f (return_owner n o)
return_above n f Unmade h = h
return_above n f (Home k) h = h
return_above n f (Returning k) h = h
return_above n f Spare h = h
return_above n f (Live buffer since bound) h = h
return_above n f (Retired k since bound) h = h
return_above n f Dropped h = h
return_above n f (Paged k since bound) h = by (k == n)
  where
    by : (c : Bool) → IsAbove f (cond c Spare (Paged k since bound))
    by true = tt
    by false = tt

retire_above : (n f : ℕ) (o : Owner) → f < n → IsAbove f o → IsAbove f (retire_owner n o)
retire_above n f Unmade l h = h
retire_above n f (Home k) l h = h
retire_above n f (Returning k) l h = h
retire_above n f Spare l h = h
retire_above n f (Live buffer since bound) l h = l
retire_above n f (Retired k since bound) l h = h
retire_above n f (Paged k since bound) l h = h
retire_above n f Dropped l h = h

retired_above : (mark : Option ℕ) (n f : ℕ) (owner : ℕ → Owner) (b : ℕ) → f < n → IsAbove f (owner b)
    → IsAbove f (retired mark n owner b)
retired_above mark n f owner b l h = by (is_block mark b)
  where
    by : (c : Bool) → IsAbove f (cond c (retire_owner n (owner b)) (owner b))
    by true = retire_above n f (owner b) l h
    by false = h

finish_above : (b f : ℕ) (o : Owner) → IsAbove f o → IsAbove (suc f) (finish_owner (suc f) b o)
finish_above b f Unmade h = h
finish_above b f (Home k) h = h
finish_above b f (Returning k) h = h
finish_above b f Spare h = h
finish_above b f (Live buffer since bound) h = h
finish_above b f (Paged k since bound) h = h
finish_above b f Dropped h = h
finish_above b f (Retired k since bound) h = by (k == suc f) refl
  where
    out : (c : Bool) → IsAbove (suc f) (cond c (Returning k) Dropped)
    out true = tt
    out false = tt

    by : (c : Bool) → (k == suc f) ≡ c
        → IsAbove (suc f) (cond c (cond (has_class b) (Returning k) Dropped) (Retired k since bound))
    by true e = out (has_class b)
    by false e = let n = eqb-false k (suc f) e in omega (arith, n, h)

page_above : (chunk fence f : ℕ) (ps : List Page) (o : Owner) → IsAbove f o → IsAbove f (page_owner chunk fence ps o)
page_above chunk fence f [] o h = h
page_above chunk fence f (p ∷ ps) o h = tt

updated_above : (f block : ℕ) (x : Owner) (owner : ℕ → Owner) → IsAbove f x → ((b : ℕ) → IsAbove f (owner b))
    → (b : ℕ) → IsAbove f (cond (b == block) x (owner b))
updated_above f block x owner h k b = by (b == block)
  where
    by : (c : Bool) → IsAbove f (cond c x (owner b))
    by true = h
    by false = k b

below_open : (old : Core) → finished_count old < open_number old
below_open old = omega arith

item_above : (reading : Reading) (script : Script) (old : Core) (p : _) (own : ℕ
    → Owner) (pages : List Page) (pool : Pool) → Placement reading script old p own pages pool
    → ((b : ℕ) → IsAbove (finished_count old) (old.owner b))
    → (b : ℕ) → IsAbove (finished_count old) (own b)
item_above reading script old p own pages pool (Nowhere call item) h b = h b
item_above reading script old p own pages pool (Bound_alone call item rs) h b =
    bind_above rs b (finished_count old) (old.owner b) (h b)
item_above reading script old p own pages pool (Taken_new call item buffer block since mid has) h b =
    updated_above (finished_count old) block (Live buffer since nothing_bound) old.owner tt h b
item_above reading script old p own pages pool (Taken_for call item buffer block since mid has) h b =
    updated_above (finished_count old) block (Live buffer since nothing_bound)
    (retired (old.blocks buffer) (open_number old) old.owner) tt
    (λ b. retired_above (old.blocks buffer) (open_number old) (finished_count old) old.owner b (below_open old) (h b)) b
item_above reading script old p own pages pool (Given_up call item buffer) h b =
    retired_above (old.blocks buffer) (open_number old) (finished_count old) old.owner b (below_open old) (h b)
item_above reading script old p own pages pool (Staged_there call item len s _ choice rs st some) h b =
    bind_above rs b (finished_count old) _
    (updated_above (finished_count old) s.block (page_owner (open_number old) old.fence s.added (old.owner s.block))
    old.owner
    (page_above (open_number old) old.fence (finished_count old) s.added (old.owner s.block) (h s.block)) h b)

-- The board ---------------------------------------------------------------------------------------------------------

takes_long : (choice : _) (class block : ℕ) (old new : Board) → Takes choice class block old new → AreLong old
    → AreLong new
takes_long choice class block old new (From_home _ _ place _ e) h c = by (c == class)
  where
    by : (x : Bool) → length (cond x (slice_set (old.places class) place None) (old.places c)) ≡ 64
    by true = length-set (old.places class) place None ∙ h class
    by false = h c
takes_long choice class block old new (New_made _ _ l) h c = h c

has_long : (reading : Reading) (script : Script) (buffer block : ℕ) (old mid : Core)
    → HasBlock reading script buffer block old mid → AreLong old.board → AreLong mid.board
has_long reading script buffer block old mid (Own _ _ _ _ e) h = h
has_long reading script buffer block old mid (Of_class _ _ _ class _ _ board e t) h =
    takes_long t.0 class block old.board board t.1 h

play_long : (reading : Reading) (script : Script) (call item : ℕ) (play : Play) (bound : List Range)
    (old new : Core) (n : Plays reading script call item play bound old new) → AreLong old.board
    → AreLong (result_of reading script call item play bound old new n).board
play_long reading script call item (Create buffer bytes) bound old new n h =
    has_long reading script buffer n.0 old n.1 n.2 h
play_long reading script call item (Discard buffer from bytes) bound old new n h =
    has_long reading script buffer n.0 old n.1 n.2 h
play_long reading script call item (No_overwrite buffer from bytes) bound old new n h = h
play_long reading script call item (Stage [] target skip) bound old new n h = h
play_long reading script call item (Stage (b ∷ bs) None skip) bound old new n h = h
play_long reading script call item (Stage (b ∷ bs) (Some target) skip) bound old new n h = h
play_long reading script call item (Command w skip) bound old new n h = h
play_long reading script call item (Destroy buffer) bound old new n h = h
play_long reading script call item Create_shader bound old new n h = h
play_long reading script call item (Mark_query query begins) bound old new n h = h
play_long reading script call item Set_state bound old new n h = h

-- Steps -------------------------------------------------------------------------------------------------------------

module _ (old : Core) (h : Progress old) where
  -- the batches are the same, the owners and the board as well
  same : (q : Core) → q.owner ≡ old.owner → q.board ≡ old.board → finished_count q ≡ finished_count old
      → batched q ≡ batched old → q.requested ≡ old.requested → Progress q
  same q o b f s r = record {
    above = λ c. subst (λ n. IsAbove n (q.owner c)) (sym f) (subst (λ own. IsAbove (finished_count old) (own c))
        (sym o) (h.above c));
    long = subst AreLong (sym b) h.long;
    requested = r ∙ h.requested ∙ ap shaders_of (sym s);
  }

  -- the oldest of one queue stands behind another
  abbrev front : List Segment
  front = old.taken ++ (of_messages old.posts ++ of_messages old.completions)

  moved_last : {A : Type 0} (xs ys zs : List A) (x : A) → (xs ++ x ∷ []) ++ (ys ++ zs) ≡ xs ++ ((x ∷ ys) ++ zs)
  moved_last xs ys zs x = append_assoc xs (x ∷ []) (ys ++ zs)

running_append : (xs ys : List Running) → of_running (xs ++ ys) ≡ of_running xs ++ of_running ys
running_append [] ys = refl
running_append (x ∷ xs) ys = ap (λ l. x.segment ∷ l) (running_append xs ys)

other_progress : (meaning : Meaning) (reading : Reading) (script : Script) (old : Core) (e : Event) (new : Core)
    → is_of_app e ≡ false → Step meaning reading script old e new → Progress old → Progress new
other_progress meaning reading script old (App posts) new n p h = absurd (cc n)
other_progress meaning reading script old Cs new n p h = subst Progress (sym p.4) (record {
  above = h.above;
  long = h.long;
  requested =
      let s = p.0 in
      let line : batched (record old {
        chunks = p.1;
        batches = old.batches ++ s ∷ [];
        requested =
            old.requested ++ created s.turns;
      }) ≡ batched old ++ s ∷ [] =
      ap (λ l. old.taken ++ l)
      (ap (λ l. of_messages old.posts ++ l)
      (ap (λ l. of_messages old.completions ++ l)
      (ap (λ l. of_running old.accepted ++ l) (sym (append_assoc old.submissions old.batches (s ∷ [])))
      ∙ sym (append_assoc (of_running old.accepted) (old.submissions ++ old.batches) (s ∷ [])))
      ∙ sym (append_assoc (of_messages old.completions) (of_running old.accepted
      ++ (old.submissions ++ old.batches)) (s ∷ [])))
      ∙ sym (append_assoc (of_messages old.posts) (of_messages old.completions
      ++ (of_running old.accepted ++ (old.submissions ++ old.batches))) (s ∷ [])))
      ∙ sym (append_assoc old.taken (of_messages old.posts ++
      (of_messages old.completions ++ (of_running old.accepted ++ (old.submissions ++ old.batches)))) (s ∷ [])) in
      let one : created s.turns ≡ shaders_of (s ∷ []) = sym (append-nil (created s.turns)) in
      ap (λ l. l ++ created s.turns) h.requested ∙ ap (λ l. shaders_of (batched old) ++ l) one
      ∙ sym (shaders_append (batched old) (s ∷ [])) ∙ ap shaders_of (sym line);
})
other_progress meaning reading script old (Pipe j) new n p h =
    subst Progress (sym p.2) (record { above = h.above; long = h.long; requested = h.requested })
other_progress meaning reading script old Submit new n p h =
    subst Progress (sym p.5) (same old h (record old { batches = p.1; submissions = old.submissions ++ p.0 ∷ [] })
    refl refl refl
    (ap (λ l. old.taken
    ++ (of_messages old.posts ++ (of_messages old.completions ++ (of_running old.accepted ++ l))))
    (append_assoc old.submissions (p.0 ∷ []) p.1 ∙ ap (λ l. old.submissions ++ l) (sym p.2))) refl)
other_progress meaning reading script old Accept new n p h =
    let begun : Running = record { segment = p.0; rest = p.0.commands } in
    subst Progress (sym p.4) (same old h _ refl refl refl
    (ap (λ l. old.taken ++ (of_messages old.posts ++ (of_messages old.completions ++ l)))
    (ap (λ l. l ++ (p.1 ++ old.batches)) (running_append old.accepted (begun ∷ []))
    ∙ append_assoc (of_running old.accepted) (p.0 ∷ []) (p.1 ++ old.batches)
    ∙ ap (λ l. of_running old.accepted ++ (l ++ old.batches)) (sym p.2))) refl)
other_progress meaning reading script old (Run j) new n p h =
    let less : Running = record { segment = p.1.segment; rest = p.4 ++ p.6 } in
    subst Progress (sym p.10) (same old h _ refl refl refl
    (ap (λ l. old.taken
    ++ (of_messages old.posts ++ (of_messages old.completions ++ (l ++ (old.submissions ++ old.batches)))))
    (running_append p.0 (less ∷ p.2) ∙ sym (running_append p.0 (p.1 ∷ p.2)) ∙ ap of_running (sym p.3))) refl)
other_progress meaning reading script old Complete new n p h =
    subst Progress (sym p.5) (same old h _ refl refl refl
    (ap (λ l. old.taken ++ (of_messages old.posts ++ l))
    (ap (λ l. l ++ (of_running p.1 ++ (old.submissions ++ old.batches))) (of_messages-append old.completions (_ ∷ []))
    ∙ append_assoc (of_messages old.completions) (p.0.segment ∷ []) (of_running p.1 ++ (old.submissions ++ old.batches))
    ∙ ap (λ l. of_messages old.completions ++ (of_running l ++ (old.submissions ++ old.batches))) (sym p.2))) refl)
other_progress meaning reading script old Finish new n p h =
    let more : length (old.posts ++ p.0 ∷ []) ≡ suc (length old.posts) = let z =
    length-append old.posts (p.0 ∷ []) in omega (arith, z) in
    let f : length old.taken + length (old.posts ++ p.0 ∷ []) ≡ suc (finished_count old) = omega (arith, more) in
    subst Progress (sym p.4) (record {
      above = λ b. subst (λ n. IsAbove n (finish_owner (suc (finished_count old)) b (old.owner b))) (sym f)
          (finish_above b (finished_count old) (old.owner b) (h.above b));
      long = h.long;
      requested = h.requested ∙ ap shaders_of (ap (λ l. old.taken ++ l)
          (ap (λ l. of_messages old.posts ++ (of_messages l ++
          (of_running old.accepted ++ (old.submissions ++ old.batches)))) p.2
          ∙ sym (append_assoc (of_messages old.posts) (p.0.segment ∷ [])
          (of_messages p.1 ++ (of_running old.accepted ++ (old.submissions ++ old.batches))))
          ∙ ap (λ l. l ++ (of_messages p.1 ++ (of_running old.accepted ++ (old.submissions ++ old.batches))))
          (sym (of_messages-append old.posts (p.0 ∷ [])))));
    })
other_progress meaning reading script old (Come_home block place) new n p h = subst Progress (sym p.6) (record {
  above = λ b. updated_above (finished_count old) block (Home p.1) old.owner tt h.above b;
  long = λ c. by c (c == p.0);
  requested = h.requested;
})
  where
    by : (c : ℕ) (x : Bool)
        → length (cond x (slice_set (old.board.places p.0) place (Some block)) (old.board.places c)) ≡ 64
    by c true = length-set (old.board.places p.0) place (Some block) ∙ h.long p.0
    by c false = h.long c

posts_progress : (n : ℕ) (old mid : Core) → TakesPosts n old mid → Progress old → Progress mid
posts_progress zero old mid p h = subst Progress (sym p) h
posts_progress (suc n) old mid p h =
    let post = with_post p.0 p.1 old in
    let taken : length (old.taken ++ p.0.segment ∷ []) ≡ suc (length old.taken) = let z =
    length-append old.taken (p.0.segment ∷ []) in omega (arith, z) in
    let posts : length old.posts ≡ suc (length p.1) = ap length p.2 in
    let f : finished_count post ≡ finished_count old = omega (arith, taken, posts) in
    posts_progress n post mid p.3 (record {
      above = λ b. subst (λ n. IsAbove n (post.owner b)) (sym f)
          (return_above (suc (taken_count old)) (finished_count old) (old.owner b) (h.above b));
      long = h.long;
      requested = h.requested ∙ ap shaders_of
          (let r = of_messages old.completions ++ (of_running old.accepted ++ (old.submissions ++ old.batches)) in
          ap (λ l. old.taken ++ (of_messages l ++ r)) p.2 ∙ sym
          (append_assoc old.taken (p.0.segment ∷ []) (of_messages p.1 ++ r)));
    })

fence_progress : (n : ℕ) (core : Core) → Progress core → Progress (with_fence n core)
fence_progress zero core h = h
fence_progress (suc n) core h = record { above = h.above; long = h.long; requested = h.requested }

pub progress_kinds : (meaning : Meaning) (reading : Reading) (script : Script) → Kinds meaning reading script Progress
progress_kinds meaning reading script = record {
  started = record { above = λ b. tt; long = λ class. refl; requested = refl };
  others = λ old e new n p k h. other_progress meaning reading script old e new n p h;
  posts = λ n old mid p k h. fence_progress n mid (posts_progress n old mid p h);
  hands = λ old due k h. record {
    above = h.above;
    long = h.long;
    requested = h.requested;
  };
  turns = λ old t turns n e k h. record { above = h.above; long = h.long; requested = h.requested };
  reads = λ core call r h. record { above = h.above; long = h.long; requested = h.requested };
  says = λ core said h. record { above = h.above; long = h.long; requested = h.requested };
  ends = λ core h. record { above = h.above; long = h.long; requested = h.requested };
  items = λ old call item ends play bound turns new e due n k h.
      let t = Item call item ends play bound in
      let taken = with_turn t turns old in
      let x = result_of reading script call item play bound taken new n in
      record {
        above = item_above reading script taken x.placed x.owner x.pages x.pool
            (result_placed reading script call item play bound taken new n) h.above;
        long = play_long reading script call item play bound taken new n h.long;
        requested = h.requested;
      };
}
