-- One step of one part of the core, by what may be done and what it changes. The three readings share their words.
use Rattle.std.specs.Prelude.{◌≡◌, ℕ, Bool, suc, ◌+◌, ◌*◌, ◌<◌, ◌≤◌, true, false, List, [], ◌∷◌, ◌++◌, length, Option}
use Rattle.std.specs.Prelude.{Some, None, slice_get, slice_set, ◌⊎◌}
use Rattle.std.specs.List.{AllByRecursion}
use Rattle.vk_types.specs.Effects.{Meaning, act_effect}
use Rattle.vk_types.specs.Entries.{Entry, entry_before, run_entries}
use Rattle.core_model.specs.Script.{Script, updated}
use Rattle.core_model.specs.CoreState.{Segment, Running, Message, of_messages, rests, marks, Home, Returning}
use Rattle.core_model.specs.CoreState.{has_class, Core, finished_count}
use Rattle.core_model.specs.Readings.{Reading, First_choices, chooses_first, has_place}
use Rattle.core_model.specs.Owners.{finish_owner}
use Rattle.core_model.specs.TakingPosts.{TakesPosts, with_fence}
use Rattle.core_model.specs.AppActs.{device_commands, Acts}
use Rattle.core_model.specs.OtherParts.{created, needed, is_among, unmade, ready_among, snaps_of, values_of, counted}
use Rattle.dx_types.specs.declared.limits.TheConstants.{CLASS_BLOCKS}

pub data Event : Type 0 where
  -- App takes this many posts, and does its next act if it can
  App : (posts : ℕ) → Event
  Cs : Event
  Pipe : (place : ℕ) → Event
  Submit : Event
  Accept : Event
  Run : (place : ℕ) → Event
  Complete : Event
  Finish : Event
  -- a block comes home to a place of its class
  Come_home : (block place : ℕ) → Event

-- App acts
abbrev pub is_of_app : Event → Bool
is_of_app (App posts) = true
is_of_app Cs = false
is_of_app (Pipe place) = false
is_of_app Submit = false
is_of_app Accept = false
is_of_app (Run place) = false
is_of_app Complete = false
is_of_app Finish = false
is_of_app (Come_home block place) = false

-- App takes posts. Then it does its next act, or it can do none, and then it took a post
abbrev pub AppSteps : Reading → Script → ℕ → Core → Core → Type 0
AppSteps reading script n old new =
    (old.ended ≡ false) × (chooses_first reading ≡ true → n ≡ length old.posts)
    × (mid : Core) × TakesPosts n old mid
    × (Acts reading script (with_fence n mid) new
    ⊎ ((0 < n) × ((other : Core) → Acts reading script (with_fence n mid) other → ⊥) × (new ≡ with_fence n mid)))

abbrev pub Step : Meaning → Reading → Script → Core → Event → Core → Type 0
Step meaning reading script old (App n) new = AppSteps reading script n old new
Step meaning reading script old Cs new =
    (s : Segment) × (ss : List Segment) × (old.chunks ≡ s ∷ ss) × (has_place reading (length old.batches) ≡ true)
    × (new ≡ record old { chunks = ss; batches = old.batches ++ s ∷ []; requested = old.requested ++ created s.turns })
Step meaning reading script old (Pipe j) new =
    (shader : ℕ) × (slice_get (unmade old.modules old.requested) j ≡ Some shader)
    × (new ≡ record old { modules = old.modules ++ shader ∷ [] })
Step meaning reading script old Submit new =
    (s : Segment) × (ss : List Segment) × (old.batches ≡ s ∷ ss) × (has_place reading (length old.submissions) ≡ true)
    × AllByRecursion (λ shader. is_among shader old.modules ≡ true) (needed (device_commands s.commands))
    × (new ≡ record old { batches = ss; submissions = old.submissions ++ s ∷ [] })
Step meaning reading script old Accept new =
    (s : Segment) × (ss : List Segment) × (old.submissions ≡ s ∷ ss) × (has_place reading (length old.accepted) ≡ true)
    × (new ≡ record old {
      submissions = ss;
      accepted = old.accepted ++ record { segment = s; rest = s.commands } ∷ [];
      memory = run_entries meaning s.writes old.memory;
    })
Step meaning reading script old (Run j) new =
    (front : List Running) × (r : Running) × (back : List Running) × (old.accepted ≡ front ++ r ∷ back)
    × (passed : List Entry) × (x : Entry) × (others : List Entry) × (r.rest ≡ passed ++ x ∷ others)
    -- it is ready, and j ready ones stand before it
    × AllByRecursion (λ y. entry_before y x ≡ false) (rests front ++ passed)
    × (length (ready_among [] (rests front ++ passed)) ≡ j)
    × (new ≡ record old {
      accepted = front ++ record { segment = r.segment; rest = passed ++ others } ∷ back;
      memory = act_effect meaning x.act old.memory;
      counts = counted meaning x.act old.memory old.counts;
      ran = old.ran ++ x ∷ [];
    })
Step meaning reading script old Complete new =
    (r : Running) × (rs : List Running) × (old.accepted ≡ r ∷ rs) × (r.rest ≡ [])
    × (has_place reading (length old.completions) ≡ true)
    × (new ≡ record old {
      accepted = rs;
      completions = old.completions
          ++ record {
            segment = r.segment;
            snaps = snaps_of r.segment rs old.memory;
            values = values_of old.counts (old.taken ++ (of_messages old.posts ++ of_messages old.completions))
                r.segment;
          }
          ∷ [];
    })
Step meaning reading script old Finish new =
    (m : Message) × (ms : List Message) × (old.completions ≡ m ∷ ms) × (has_place reading (length old.posts) ≡ true)
    × (new ≡ record old {
      completions = ms;
      posts = old.posts ++ m ∷ [];
      owner = λ b. finish_owner (suc (finished_count old)) b (old.owner b);
    })
Step meaning reading script old (Come_home block place) new =
    (class : ℕ) × (k : ℕ) × (old.owner block ≡ Returning k) × (class * CLASS_BLOCKS ≤ block)
    × (block < class * CLASS_BLOCKS + CLASS_BLOCKS)
    × (slice_get (old.board.places class) place ≡ Some None)
    × (new ≡ record old {
      owner = updated block (Home k) old.owner;
      board = record old.board {
        places = updated class (slice_set (old.board.places class) place (Some block))
            old.board.places;
      };
    })

-- The core that is stepped ------------------------------------------------------------------------------------------

abbrev pub Chain : Meaning → Reading → Script → Core → List Event → Core → Type 0
Chain meaning reading script old [] new = new ≡ old
Chain meaning reading script old (e ∷ es) new = (mid : Core) × Step meaning reading script old e mid
    × Chain meaning reading script mid es new

-- the lowest vacant place
abbrev pub first_vacant : ℕ → List (Option ℕ) → Option ℕ
first_vacant at [] = None
first_vacant at (None ∷ ps) = Some at
first_vacant at (Some b ∷ ps) = first_vacant (suc at) ps

-- these blocks come home in order, each to the lowest vacant place of its class; what has no class was dropped
abbrev pub AllComeHome : Meaning → Script → List ℕ → Core → Core → Type 0
AllComeHome meaning script [] old new = new ≡ old
AllComeHome meaning script (b ∷ bs) old new =
    ((has_class b ≡ false) × AllComeHome meaning script bs old new)
    ⊎ ((has_class b ≡ true) × (class : ℕ) × (place : ℕ) × (class * CLASS_BLOCKS ≤ b)
    × (b < class * CLASS_BLOCKS + CLASS_BLOCKS)
    × (first_vacant 0 (old.board.places class) ≡ Some place)
    × (mid : Core) × Step meaning First_choices script old (Come_home b place) mid
    × AllComeHome meaning script bs mid new)

-- the event with the choices of the core that is stepped: a Finish takes all its blocks home, and no block comes home
-- by itself
abbrev pub FirstStep : Meaning → Script → Core → Event → Core → Type 0
FirstStep meaning script old (App n) new = Step meaning First_choices script old (App n) new
FirstStep meaning script old Cs new = Step meaning First_choices script old Cs new
FirstStep meaning script old (Pipe j) new = Step meaning First_choices script old (Pipe j) new
FirstStep meaning script old Submit new = Step meaning First_choices script old Submit new
FirstStep meaning script old Accept new = Step meaning First_choices script old Accept new
FirstStep meaning script old (Run j) new = Step meaning First_choices script old (Run j) new
FirstStep meaning script old Complete new = Step meaning First_choices script old Complete new
FirstStep meaning script old Finish new =
    (mid : Core) × Step meaning First_choices script old Finish mid
    × (m : Message) × (ms : List Message) × (old.completions ≡ m ∷ ms)
    × AllComeHome meaning script (marks m.segment) mid new
FirstStep meaning script old (Come_home block place) new = ⊥

-- a step of the core that is stepped. None comes after the end
abbrev pub CoreStep : Meaning → Script → Core → Event → Core → Type 0
CoreStep meaning script old e new = (old.ended ≡ false) × FirstStep meaning script old e new
