-- Each reply with bytes has its host read, and each host read its reply, in every state that steps reach.
use Rattle.std.proofs.Common.{◌≡◌, ℕ, suc, ◌-◌, ◌<◌, Bool, true, false, List, [], ◌∷◌, ◌++◌, map, length, refl}
use Rattle.std.proofs.Common.{sym, ap, ◌∙◌, subst, inl, inr, Option, Some, None, arith, append-nil}
use Rattle.std.specs.List.{AllByRecursion}
use Rattle.dx_types.specs.declared.range.Range.{Range}
use Rattle.vk_types.specs.declared.op.VkOp.{VkOp}
use Rattle.vk_types.specs.declared.op.VkOp.TheVariants as op
use Rattle.base_lemmas.specs.Lists.{numbers_from}
use Rattle.vk_types.specs.Memory.{zeros, or_zero}
use Rattle.vk_types.specs.Effects.{Meaning}
use Rattle.vk_types.specs.Entries.{run_entries}
use Rattle.vk_types.specs.Entries.{start_counts}
use Rattle.vk_types.specs.Listing.{written_ranges}
use Rattle.base_lemmas.proofs.Lists.{all_append, all_map}
use Rattle.core_model.specs.Script.{Bytes, Count, Constant, Turn, Refused, Passed, Flushed, Asked, Item, Script}
use Rattle.core_model.specs.Script.{at_start, in_order}
use Rattle.core_model.specs.Chunking.{is_due}
use Rattle.core_model.specs.Renaming.{block_of, range_on}
use Rattle.core_model.specs.CoreState.{Core, start, listed, done, Said, Bytes_said, Value_said, Still_said}
use Rattle.core_model.specs.CoreState.{Refused_said, End_said}
use Rattle.core_model.specs.Readings.{Reading}
use Rattle.core_model.specs.Listed.{plain_entries}
use Rattle.core_model.specs.Adding.{with_turn, with_reply}
use Rattle.core_model.specs.TakingPosts.{with_fence}
use Rattle.core_model.specs.AppActs.{is_finished, copied_bytes, with_read, answer, TakesTurn, Acts, used_or_zero}
use Rattle.core_model.specs.CoreStep.{Event, App, Cs, Pipe, Submit, Accept, Run, Complete, Finish, Come_home, Step}
use Rattle.core_model.specs.HostReads.{bytes_in_order}
use Rattle.core_model.specs.Lawful.{AsksRightly, IsLawful}
use Rattle.core_model.specs.Invariant.{IsAsked, listed_acts}
use Rattle.core_model.specs.Kept.{Kept}
use Rattle.core_model.proofs.Steps.Segments.{listed_split}
use Rattle.core_model.proofs.Runs.LastUses.{is_bare}
use Rattle.core_model.proofs.Steps.ReadingBack.{map_numbers, right_bytes}
use Rattle.core_model.proofs.Runs.StepsKeepAll.{posts_kept}
use Rattle.core_model.proofs.Runs.HostReading.{is_answer, Grown, still, and_then, says_more, posts_grown}
use Rattle.core_model.proofs.Runs.HostReading.{fence_grown, play_grown, handed_grown, other_grown}
pub use Rattle.core_model.proofs.Runs.SaidReads.{Leaves, ReadOf, SaidRight, Answered, read_within}
use Rattle.core_model.proofs.Runs.SaidReads.{ReadRight, read_last, said_more, right_more, grown_answered}

-- A call is answered in bytes ---------------------------------------------------------------------------------------

length_map : {A B : Type 0} (f : A → B) (xs : List A) → length (map f xs) ≡ length xs
length_map f [] = refl
length_map f (x ∷ xs) = ap suc (length_map f xs)

module _ (meaning : Meaning) (reading : Reading) (script : Script) (lawful : IsLawful meaning script) (old : Core)
    (call : ℕ) (source : Range) (used : Option ℕ) (may_pend : Bool) (turns : List Turn)
    (e : old.future ≡ Asked call (Bytes source) used may_pend ∷ turns)
    (due : is_due script old.open_chunk.turns old.future ≡ false) (k : Kept meaning reading script old)
    (fin : is_finished used (done old) ≡ true)
    (answered : Answered meaning script old) where
  abbrev taken : Core
  taken = with_turn (Asked call (Bytes source) used may_pend) turns old

  abbrev r : Range
  r = range_on old.blocks source

  place : script.turns ≡ old.past ++ Asked call (Bytes source) used may_pend ∷ turns
  place = sym (ap (λ l. old.past ++ l) (sym e) ∙ k.good.sound.position)

  abbrev at : IsAsked script call (Bytes source) used
  at = record { front = old.past; may_pend = may_pend; back = turns; here = place }

  asks : AsksRightly meaning script old.past (Bytes source)
  asks = lawful.asks old.past call (Bytes source) used may_pend turns place

  abbrev bytes : List ℕ
  bytes = copied_bytes old r

  right : bytes ≡ bytes_in_order meaning script old.past source
  right = right_bytes meaning reading script lawful old call source used may_pend turns e due k fin

  leaves : Leaves meaning old.contents old.listing r (bytes_in_order meaning script old.past source)
  leaves =
      let long = asks.0.1 in
      let has = k.good.stands.has_block source.block asks.0.0 in
      let filled : length old.contents ≡ length (written_ranges old.listing) =
      sym (length_map length old.contents) ∙ ap length k.good.sound.grows.filled
      ∙ length_map (λ r. r.to - r.from) (written_ranges old.listing) in
      let none : old.open_chunk.commands ≡ [] =
      (k.traced.quiet (is_bare meaning reading script lawful old k call (Bytes source) used may_pend turns e
      due)).1 in
      let all : plain_entries start_counts old.contents old.listing ≡ listed old =
      k.good.sound.grows.entries ∙ sym (listed_split old ∙ ap (λ l. listed_acts old ++ l) none
      ∙ append-nil (listed_acts old)) in
      record {
        filled = asks.2;
        given = omega (arith, filled);
        left =
            ap (λ es. map (run_entries meaning es zeros r.block)
            (numbers_from source.from (source.to - source.from))) all
            ∙ map_numbers (run_entries meaning (listed old) zeros r.block)
            ((in_order meaning script old.past at_start).bytes source.block) source.from (source.to - source.from)
            (λ i l u.
            let less = asks.2 in
            let inside : i < script.size source.block = omega (arith, u, less, long) in
            ap (λ b. run_entries meaning (listed old) zeros b i) (ap or_zero has.1)
            ∙ k.good.stands.bytes source.block has.0 i has.1 inside);
      }

  abbrev reply : List Said → List Said
  reply replies = replies ++ Bytes_said call bytes ∷ []

  none_written : old.contents ≡ old.contents ++ []
  none_written = sym (append-nil old.contents)

  -- the replies so far, and this one
  with_said : (listing more : List VkOp) → listing ≡ old.listing ++ more
      → ReadOf meaning listing old.contents call source bytes used
      → AllByRecursion (SaidRight meaning script listing old.contents) (reply old.replies)
  with_said listing more f h =
      all_append (SaidRight meaning script listing old.contents) old.replies (Bytes_said call bytes ∷ [])
      (all_map (SaidRight meaning script old.listing old.contents) (SaidRight meaning script listing old.contents)
      (λ s k. said_more meaning script old.listing more listing old.contents [] old.contents f none_written s k)
      old.replies answered.said)
      ((source, used, at, right, h), tt)

  still_read : (front : List VkOp) (q : Range) (c : ℕ) (back : List VkOp)
      → old.listing ≡ front ++ op.HostRead q c ∷ back → ReadRight meaning script old.contents (reply old.replies)
      front q c
  still_read front q c back f = right_more meaning script old.contents [] old.contents old.replies
      (Bytes_said call bytes ∷ []) (reply old.replies) front q c none_written refl (answered.reads front q c back f)

  new_read : (u : ℕ) → used ≡ Some u → ReadRight meaning script old.contents (reply old.replies) old.listing r call
  new_read u is = record {
    source = source;
    used = u;
    at = record {
      front = old.past;
      may_pend = may_pend;
      back = turns;
      here = place
          ∙ ap (λ u. old.past ++ Asked call (Bytes source) u may_pend ∷ turns) is;
    };
    is = refl;
    before = old.replies;
    after = [];
    said = ap (λ b. old.replies ++ Bytes_said call b ∷ []) right;
    leaves = leaves;
  }

  by_use : (u : Option ℕ) → used ≡ u → Answered meaning script
      (with_reply (Bytes_said call bytes) (with_read call r u taken))
  by_use None is = record {
    reads = still_read;
    said = with_said old.listing [] (sym (append-nil old.listing))
        (subst (ReadOf meaning old.listing old.contents call source bytes) (sym is) tt);
  }
  by_use (Some u) is = record {
    reads = λ front q c back f.
        elim (read_last old.listing r call front q c back f) [
          | inl w ↦ still_read front q c w.0 w.1
          | inr w ↦
              subst (λ f. ReadRight meaning script old.contents (reply old.replies) f q c) (sym w.0)
              (subst (λ q. ReadRight meaning script old.contents (reply old.replies) old.listing q c) (sym w.1)
              (subst (λ c. ReadRight meaning script old.contents (reply old.replies) old.listing r c) (sym w.2)
              (new_read u is)))
        ];
    said =
        with_said (old.listing ++ op.HostRead r call ∷ []) (op.HostRead r call ∷ []) refl
        (subst (ReadOf meaning (old.listing ++ op.HostRead r call ∷ []) old.contents call source bytes) (sym is) (
          block_of old.blocks source.block,
          old.listing,
          [],
          refl,
          subst (Leaves meaning old.contents old.listing r) (sym right) leaves,
        ));
  }

  pub bytes_answered : Answered meaning script (answer call (Bytes source) used taken)
  bytes_answered = by_use used refl

-- Steps -------------------------------------------------------------------------------------------------------------

module _ (meaning : Meaning) (reading : Reading) (script : Script) (lawful : IsLawful meaning script) where
  abbrev Keeps : Core → Core → Type 0
  Keeps old new = Answered meaning script old → Answered meaning script new

  grows : (old new : Core) → Grown old new → Keeps old new
  grows old new g h = grown_answered meaning script old new g h

  says : (old : Core) (t : Turn) (turns : List Turn) (said : Said) → is_answer said ≡ false
      → Grown old (with_reply said (with_turn t turns old))
  says old t turns said h = and_then old (with_turn t turns old) (with_reply said (with_turn t turns old))
      (still old _ refl refl refl) (says_more (with_turn t turns old) said h)

  turn_answered : (old : Core) (t : Turn) (turns : List Turn) (new : Core) → old.future ≡ t ∷ turns
      → is_due script old.open_chunk.turns old.future ≡ false → TakesTurn reading script t turns old new
      → Kept meaning reading script old → Keeps old new
  turn_answered old (Refused call) turns new e due n k h = grows old new
      (subst (Grown old) (sym n) (says old (Refused call) turns (Refused_said call) refl)) h
  turn_answered old (Passed call) turns new e due n k h = grows old new
      (subst (Grown old) (sym n) (still old _ refl refl refl)) h
  turn_answered old (Flushed call) turns new e due n k h = grows old new
      (subst (Grown old) (sym n) (still old _ refl refl refl)) h
  turn_answered old (Asked call (Bytes source) used may_pend) turns new e due (inl n) k h =
      subst (Answered meaning script) (sym n.1) (bytes_answered meaning reading script lawful old call source used
      may_pend turns e due k n.0 h)
  turn_answered old (Asked call (Count query) used may_pend) turns new e due (inl n) k h =
      grows old new
      (subst (Grown old) (sym n.1) (says old (Asked call (Count query) used may_pend) turns
      (Value_said call (old.values query)) refl)) h
  turn_answered old (Asked call (Constant value) used may_pend) turns new e due (inl n) k h =
      grows old new
      (subst (Grown old) (sym n.1) (says old (Asked call (Constant value) used may_pend) turns
      (Value_said call value) refl)) h
  turn_answered old (Asked call ask used may_pend) turns new e due (inr n) k h =
      grows old new
      (subst (Grown old) (sym n.2) (says old (Asked call ask used may_pend) turns
      (Still_said call (used_or_zero used) (done old)) refl)) h
  turn_answered old (Item call item ends play bound) turns new e due n k h =
      let t = Item call item ends play bound in
      grows old new (and_then old (with_turn t turns old) new (still old (with_turn t turns old) refl refl refl)
      (play_grown reading script call item play bound (with_turn t turns old) new n)) h

  acts_answered : (old new : Core) → Acts reading script old new → Kept meaning reading script old → Keeps old new
  acts_answered old new a k h =
      elim a.1 [
        | inl b ↦ grows old new (subst (Grown old) (sym b.2) (handed_grown old k.good.sound.grows.of_device)) h
        | inr b ↦ elim b [
          | inl c ↦ turn_answered old c.1 c.2 new c.3 c.0 c.4 k h
          | inr c ↦
              let ended : Core = record old { ended = true } in
              grows old new
              (subst (Grown old) (sym c.3) (and_then old ended _ (still old ended refl refl refl)
              (says_more ended End_said refl))) h
        ]
      ]

  pub step_answered : (old : Core) (e : Event) (new : Core) → Step meaning reading script old e new
      → Kept meaning reading script old → Keeps old new
  step_answered old (App n) new p k h =
      let mid = grows old (with_fence n p.2) (and_then old p.2 (with_fence n p.2) (posts_grown n old p.2 p.3)
      (fence_grown n p.2)) h in
      elim p.4 [
        | inl a ↦ acts_answered (with_fence n p.2) new a (posts_kept meaning reading script n old p.2 p.3 k) mid
        | inr a ↦ subst (Answered meaning script) (sym a.2) mid
      ]
  step_answered old Cs new p k h = grows old new (other_grown meaning reading script old Cs new refl p) h
  step_answered old (Pipe j) new p k h = grows old new (other_grown meaning reading script old (Pipe j) new refl p) h
  step_answered old Submit new p k h = grows old new (other_grown meaning reading script old Submit new refl p) h
  step_answered old Accept new p k h = grows old new (other_grown meaning reading script old Accept new refl p) h
  step_answered old (Run j) new p k h = grows old new (other_grown meaning reading script old (Run j) new refl p) h
  step_answered old Complete new p k h = grows old new (other_grown meaning reading script old Complete new refl p) h
  step_answered old Finish new p k h = grows old new (other_grown meaning reading script old Finish new refl p) h
  step_answered old (Come_home block place) new p k h = grows old new
      (other_grown meaning reading script old (Come_home block place) new refl p) h

  pub start_answered : Answered meaning script (start script)
  start_answered = record { reads = λ front r call back e. absurd (none front r call back e); said = tt }
    where
      none : (front : List VkOp) (r : Range) (call : ℕ) (back : List VkOp) → [] ≡ front ++ op.HostRead r call ∷ back → ⊥
      none [] r call back e = cc e
      none (f ∷ front) r call back e = cc e
