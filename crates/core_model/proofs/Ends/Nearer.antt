-- Each step of the core that is stepped comes nearer to the end.
use Rattle.std.proofs.Common.{◌≡◌, ℕ, zero, suc, ◌+◌, ◌*◌, ◌<◌, ◌≤◌, Bool, true, false, cond}
use Rattle.std.proofs.Common.{List, [], ◌∷◌, ◌++◌, length, refl, sym, ap, ◌∙◌, subst, inl, inr, Option, Some}
use Rattle.std.proofs.Common.{None, arith, length-append}
use Rattle.dx_types.specs.declared.range.Range.{Range}
use Rattle.vk_types.specs.Effects.{Meaning}
use Rattle.core_model.specs.Script.{Play, Create, Discard, No_overwrite, Stage, Command, Destroy, Create_shader}
use Rattle.core_model.specs.Script.{Mark_query, Set_state, Ask, Bytes, Count, Constant, Turn, Refused, Passed}
use Rattle.core_model.specs.Script.{Flushed, Asked, Item, Script}
use Rattle.core_model.specs.Chunking.{is_entry, entry_count}
use Rattle.core_model.specs.Chunking.{is_due}
use Rattle.core_model.specs.CoreState.{Running, Message, Core, rests, of_messages}
use Rattle.core_model.specs.Readings.{First_choices}
use Rattle.core_model.specs.Adding.{with_turn}
use Rattle.core_model.specs.AppActs.{TakesTurn, Acts, answer, handed_over}
use Rattle.core_model.specs.OtherParts.{created, unmade, snaps_of, values_of}
use Rattle.core_model.specs.Playing.{Plays}
use Rattle.core_model.specs.TakingPosts.{TakesPosts, with_post, with_fence}
use Rattle.core_model.specs.CoreStep.{Event, App, Cs, Pipe, Submit, Accept, Run, Complete, Finish, Come_home, Step}
use Rattle.core_model.specs.CoreStep.{AllComeHome, CoreStep}
use Rattle.core_model.specs.Ends.{distance}
use Rattle.core_model.proofs.Steps.QueueHeads.{one_more}
use Rattle.core_model.proofs.Runs.Tracing.{entries_last}
use Rattle.core_model.proofs.Messages.ItemResults.{applied}
use Rattle.core_model.proofs.Messages.ItemCases.{result_of, result_is}
use Rattle.core_model.proofs.Ends.FewerShaders.{unmade_append, unmade_short, one_fewer}
use Rattle.core_model.proofs.Ends.DistanceParts.{commands_in, created_in, commands_parts, created_parts}
use Rattle.core_model.proofs.Ends.DistanceParts.{commands_last, rests_append, created_last, one_created, none_created}
use Rattle.core_model.proofs.Ends.DistanceParts.{due_entry, eight, eight_is, same_eight, one_left}

-- Steps -------------------------------------------------------------------------------------------------------------

module _ (meaning : Meaning) (script : Script) where
  home_stays : (bs : List ℕ) (old new : Core) → AllComeHome meaning script bs old new → distance new ≡ distance old
  home_stays [] old new h = ap distance h
  home_stays (b ∷ bs) old new (inl h) = home_stays bs old new h.1
  home_stays (b ∷ bs) old new (inr h) = home_stays bs h.6 new h.8 ∙ ap distance h.7.6

  cs_nearer : (old new : Core) → Step meaning First_choices script old Cs new → distance new < distance old
  cs_nearer old new p =
      let s = p.0 in
      let ss = p.1 in
      let chunks : length old.chunks ≡ suc (length ss) = ap length p.2 in
      let batches = one_more old.batches s in
      let a = commands_parts new in
      let b = commands_parts old in
      let was : commands_in old.chunks ≡ length s.commands + commands_in ss = ap commands_in p.2 in
      let now = commands_last old.batches s in
      let made_old = created_parts old.chunks old.open_chunk in
      let made_new = created_parts ss old.open_chunk in
      let of : created_in old.chunks ≡ length (created s.turns) + created_in ss = ap created_in p.2 in
      let u : length (unmade old.modules (old.requested ++ created s.turns))
      ≡ length (unmade old.modules old.requested) + length (unmade old.modules (created s.turns)) =
      ap length (unmade_append old.modules old.requested (created s.turns))
      ∙ length-append (unmade old.modules old.requested) (unmade old.modules (created s.turns)) in
      let short = unmade_short old.modules (created s.turns) in
      let c = commands_parts (record old {
        chunks = ss;
        batches = old.batches ++ s ∷ [];
        requested =
            old.requested ++ created s.turns;
      }) in
      subst (λ c. distance c < distance old) (sym p.4) (omega
      (arith, chunks, batches, b, c, was, now, made_old, made_new, of, u, short))

  pipe_nearer : (j : ℕ) (old new : Core) → Step meaning First_choices script old (Pipe j) new
      → distance new < distance old
  pipe_nearer j old new p = let l = one_fewer p.0 old.modules old.requested j p.1 in
      subst (λ c. distance c < distance old) (sym p.2) (omega (arith, l))

  submit_nearer : (old new : Core) → Step meaning First_choices script old Submit new → distance new < distance old
  submit_nearer old new p =
      let s = p.0 in
      let ss = p.1 in
      let batches : length old.batches ≡ suc (length ss) = ap length p.2 in
      let submissions = one_more old.submissions s in
      let b = commands_parts old in
      let c = commands_parts (record old { batches = ss; submissions = old.submissions ++ s ∷ [] }) in
      let was : commands_in old.batches ≡ length s.commands + commands_in ss = ap commands_in p.2 in
      let now = commands_last old.submissions s in
      subst (λ c. distance c < distance old) (sym p.5) (omega (arith, batches, submissions, b, c, was, now))

  accept_nearer : (old new : Core) → Step meaning First_choices script old Accept new → distance new < distance old
  accept_nearer old new p =
      let s = p.0 in
      let ss = p.1 in
      let begun : Running = record { segment = s; rest = s.commands } in
      let submissions : length old.submissions ≡ suc (length ss) = ap length p.2 in
      let accepted = one_more old.accepted begun in
      let left = rests_append old.accepted (begun ∷ []) in
      let one : length (rests (begun ∷ [])) ≡ length s.commands + 0 = length-append s.commands [] in
      let b = commands_parts old in
      let c = commands_parts (record old { submissions = ss; accepted = old.accepted ++ begun ∷ [] }) in
      let was : commands_in old.submissions ≡ length s.commands + commands_in ss = ap commands_in p.2 in
      subst (λ c. distance c < distance old) (sym p.4) (omega (arith, submissions, accepted, left, one, b, c, was))

  run_nearer : (j : ℕ) (old new : Core) → Step meaning First_choices script old (Run j) new
      → distance new < distance old
  run_nearer j old new p =
      let front = p.0 in
      let r = p.1 in
      let back = p.2 in
      let less : Running = record { segment = r.segment; rest = p.4 ++ p.6 } in
      let old_count : length old.accepted ≡ length (front ++ r ∷ back) = ap length p.3 in
      let a = length-append front (r ∷ back) in
      let b = length-append front (less ∷ back) in
      let old_left : length (rests old.accepted) ≡ length (rests (front ++ r ∷ back)) =
      ap (λ l. length (rests l)) p.3 in
      let c = rests_append front (r ∷ back) in
      let d = rests_append front (less ∷ back) in
      let e = length-append r.rest (rests back) in
      let f = length-append less.rest (rests back) in
      let g : length r.rest ≡ length (p.4 ++ p.5 ∷ p.6) = ap length p.7 in
      let h = length-append p.4 (p.5 ∷ p.6) in
      let i = length-append p.4 p.6 in
      subst (λ c. distance c < distance old) (sym p.10) (omega (arith, old_count, a, b, old_left, c, d, e, f, g, h, i))

  complete_nearer : (old new : Core) → Step meaning First_choices script old Complete new → distance new < distance old
  complete_nearer old new p =
      let r = p.0 in
      let rs = p.1 in
      let accepted : length old.accepted ≡ suc (length rs) = ap length p.2 in
      let message : Message = record {
        segment = r.segment;
        snaps = snaps_of r.segment rs old.memory;
        values = values_of old.counts (old.taken ++ (of_messages old.posts ++ of_messages old.completions)) r.segment;
      } in
      let completions = one_more old.completions message in
      let left : length (rests old.accepted) ≡ length (rests rs) = ap (λ l. length (rests l)) p.2
      ∙ ap (λ l. length (l ++ rests rs)) p.3 in
      subst (λ c. distance c < distance old) (sym p.5) (omega (arith, accepted, completions, left))

  finish_nearer : (old new : Core) → Step meaning First_choices script old Finish new → distance new < distance old
  finish_nearer old new p =
      let completions : length old.completions ≡ suc (length p.1) = ap length p.2 in
      let posts = length-append old.posts (p.0 ∷ []) in
      subst (λ c. distance c < distance old) (sym p.4) (omega (arith, completions, posts))

  -- App takes posts
  posts_nearer : (n : ℕ) (old mid : Core) → TakesPosts n old mid → distance mid + 2 * n ≡ distance old
  posts_nearer zero old mid p = let e = ap distance p in omega (arith, e)
  posts_nearer (suc n) old mid p =
      let r = posts_nearer n (with_post p.0 p.1 old) mid p.3 in
      let posts : length old.posts ≡ suc (length p.1) = ap length p.2 in
      omega (arith, r, posts)

  fence_stays : (n : ℕ) (core : Core) → distance (with_fence n core) ≡ distance core
  fence_stays zero core = refl
  fence_stays (suc n) core = refl

  hand_nearer : (old : Core) → is_due script old.open_chunk.turns old.future ≡ true
      → distance (handed_over old) < distance old
  hand_nearer old due =
      let e = eight_is (entry_count old.open_chunk.turns) (due_entry script old.open_chunk.turns old.future due) in
      let chunks = one_more old.chunks old.open_chunk in
      let b = commands_parts old in
      let c = commands_parts (handed_over old) in
      let now = commands_last old.chunks old.open_chunk in
      let d = created_parts old.chunks old.open_chunk in
      let f = created_parts (old.chunks ++ old.open_chunk ∷ []) (handed_over old).open_chunk in
      omega (arith, e, chunks, b, c, now, d, f)

  -- a turn that is no item
  turn_nearer : (old : Core) (t : Turn) (turns : List Turn) → old.future ≡ t ∷ turns → is_entry t ≡ false
      → distance (with_turn t turns old) < distance old
  turn_nearer old t turns e plain =
      let future : length old.future ≡ suc (length turns) = ap length e in
      let one : entry_count (t ∷ []) ≡ 0 = ap (λ c. cond c 1 0 + 0) plain in
      let last = entries_last old.open_chunk.turns t in
      let count : entry_count (old.open_chunk.turns ++ t ∷ []) ≡ entry_count old.open_chunk.turns =
      omega (arith, one, last) in
      let same = same_eight (entry_count (old.open_chunk.turns ++ t ∷ [])) (entry_count old.open_chunk.turns) count in
      let b = commands_parts old in
      let c = commands_parts (with_turn t turns old) in
      let d = created_parts old.chunks old.open_chunk in
      let f = created_parts old.chunks (with_turn t turns old).open_chunk in
      let g = created_last old.open_chunk.turns t in
      let h = none_created t plain in
      omega (arith, future, same, b, c, d, f, g, h)

  at_most_one : {A : Type 0} (xs : List A) (x : A) → length (xs ++ x ∷ []) ≤ suc (length xs)
  at_most_one xs x = let l = one_more xs x in omega (arith, l)

  -- an item has at most one command
  one_command : (call item : ℕ) (play : Play) (bound : List Range) (old new : Core)
      (n : Plays First_choices script call item play bound old new)
      → length (result_of First_choices script call item play bound old new n).commands ≤ suc
      (length old.open_chunk.commands)
  one_command call item (Create buffer bytes) bound old new n = omega arith
  one_command call item (Discard buffer from bytes) bound old new n = omega arith
  one_command call item (No_overwrite buffer from bytes) bound old new n = omega arith
  one_command call item (Stage [] target skip) bound old new n = omega arith
  one_command call item (Stage (b ∷ bs) None skip) bound old new n = omega arith
  one_command call item (Stage (b ∷ bs) (Some target) skip) bound old new n = at_most_one old.open_chunk.commands _
  one_command call item (Command w skip) bound old new n = at_most_one old.open_chunk.commands _
  one_command call item (Destroy buffer) bound old new n = omega arith
  one_command call item Create_shader bound old new n = omega arith
  one_command call item (Mark_query query begins) bound old new n = omega arith
  one_command call item Set_state bound old new n = omega arith

  item_nearer : (old : Core) (call item : ℕ) (ends : Bool) (play : Play) (bound : List Range) (turns : List Turn)
      (new : Core) → old.future ≡ Item call item ends play bound ∷ turns
      → Plays First_choices script call item play bound (with_turn (Item call item ends play bound) turns old) new
      → distance new < distance old
  item_nearer old call item ends play bound turns new e n =
      let t = Item call item ends play bound in
      let taken = with_turn t turns old in
      let x = result_of First_choices script call item play bound taken new n in
      let next = applied x taken in
      let future : length old.future ≡ suc (length turns) = ap length e in
      let few = one_command call item play bound taken new n in
      let eight_new = eight (entry_count (old.open_chunk.turns ++ t ∷ [])) in
      let b = commands_parts old in
      let c = commands_parts next in
      let d = created_parts old.chunks old.open_chunk in
      let f = created_parts old.chunks next.open_chunk in
      let g = created_last old.open_chunk.turns t in
      let h = one_created t in
      subst (λ c. distance c < distance old) (sym (result_is First_choices script call item play bound taken new n))
      (omega (arith, future, few, eight_new, b, c, d, f, g, h))

  read_stays : (call : ℕ) (ask : Ask) (used : Option ℕ) (core : Core)
      → distance (answer call ask used core) ≡ distance core
  read_stays call (Bytes source) None core = refl
  read_stays call (Bytes source) (Some used) core =
      let b = commands_parts core in
      let c = commands_parts (answer call (Bytes source) (Some used) core) in
      let d = created_parts core.chunks core.open_chunk in
      let f = created_parts core.chunks (answer call (Bytes source) (Some used) core).open_chunk in
      omega (arith, b, c, d, f)
  read_stays call (Count query) used core = refl
  read_stays call (Constant value) used core = refl

  take_nearer : (old : Core) (t : Turn) (turns : List Turn) (new : Core) → old.future ≡ t ∷ turns
      → TakesTurn First_choices script t turns old new → distance new < distance old
  take_nearer old (Refused call) turns new e n = subst (λ c. distance c < distance old) (sym n)
      (turn_nearer old (Refused call) turns e refl)
  take_nearer old (Passed call) turns new e n = subst (λ c. distance c < distance old) (sym n)
      (turn_nearer old (Passed call) turns e refl)
  take_nearer old (Flushed call) turns new e n = subst (λ c. distance c < distance old) (sym n)
      (turn_nearer old (Flushed call) turns e refl)
  take_nearer old (Asked call ask used may_pend) turns new e (inl n) =
      let t = Asked call ask used may_pend in
      subst (λ c. distance c < distance old) (sym n.1) (subst (λ d. d < distance old)
      (sym (read_stays call ask used (with_turn t turns old))) (turn_nearer old t turns e refl))
  take_nearer old (Asked call ask used may_pend) turns new e (inr n) =
      subst (λ c. distance c < distance old) (sym n.2) (turn_nearer old (Asked call ask used may_pend) turns e refl)
  take_nearer old (Item call item ends play bound) turns new e n =
      item_nearer old call item ends play bound turns new e n

  act_nearer : (old new : Core) → Acts First_choices script old new → distance new < distance old
  act_nearer old new a = elim a.1 [
    | inl b ↦ subst (λ c. distance c < distance old) (sym b.2) (hand_nearer old b.0)
    | inr b ↦ elim b [
      | inl c ↦ take_nearer old c.1 c.2 new c.3 c.4
      | inr c ↦ subst (λ c. distance c < distance old) (sym c.3) (let z = one_left old.ended a.0 in omega (arith, z))
    ]
  ]

  app_nearer : (n : ℕ) (old new : Core) → Step meaning First_choices script old (App n) new
      → distance new < distance old
  app_nearer n old new p =
      let m = posts_nearer n old p.2 p.3 in
      let f = fence_stays n p.2 in
      elim p.4 [
        | inl a ↦ let l = act_nearer (with_fence n p.2) new a in omega (arith, m, f, l)
        | inr a ↦ let some = a.0 in subst (λ c. distance c < distance old) (sym a.2) (omega (arith, m, f, some))
      ]

  pub nearer : (old : Core) (e : Event) (new : Core) → CoreStep meaning script old e new → distance new < distance old
  nearer old (App n) new p = app_nearer n old new p.1
  nearer old Cs new p = cs_nearer old new p.1
  nearer old (Pipe j) new p = pipe_nearer j old new p.1
  nearer old Submit new p = submit_nearer old new p.1
  nearer old Accept new p = accept_nearer old new p.1
  nearer old (Run j) new p = run_nearer j old new p.1
  nearer old Complete new p = complete_nearer old new p.1
  nearer old Finish new p =
      let l = finish_nearer old p.1.0 p.1.1 in
      let s = home_stays _ p.1.0 new p.1.5 in
      omega (arith, l, s)
  nearer old (Come_home block place) new p = absurd p.1
