-- What a tracker knows once one more command is listed.
use Rattle.std.proofs.Common.{◌≡◌, ℕ, zero, suc, ◌+◌, ◌<◌, Bool, true, false, cond, ◌||◌, min, List, [], ◌∷◌, ◌++◌, map}
use Rattle.std.proofs.Common.{take, length, slice_get, Option, Some, None, is_some, refl, sym, ap, ◌∙◌, subst, arith}
use Rattle.std.proofs.Common.{add-one, append_assoc}
use Rattle.std.specs.List.{list_any, flat_map}
use Rattle.std.proofs.lemmas.List.Folds.{list_any-append}
use Rattle.vk_types.specs.declared.touch.Touch.{Touch}
use Rattle.vk_types.specs.declared.command.Command.{Command}
use Rattle.vk_types.specs.declared.op.Barrier.{Barrier}
use Rattle.vk_types.specs.declared.access.Stage.{Stage}
use Rattle.vk_types.specs.declared.access.Stage.TheVariants as stage
use Rattle.vk_types.specs.Hazards.{touches, touches_conflict, conflict, has_stage}
use Rattle.vk_types.specs.BarrierCauses.{lesser, least_conflict, caused, barrier_before, since_barrier, recent_after}
use Rattle.vk_types.specs.BarrierCauses.{writes_at}
use Rattle.barrier_track.specs.declared.stages.StageUse.{StageUse}
use Rattle.barrier_track.specs.declared.stages.Uses.{Uses}
use Rattle.barrier_track.specs.declared.touches.Seen.{Seen}
use Rattle.barrier_track.specs.Tracked.{Tracked}
use Rattle.barrier_track.specs.Since.{IsSince, seen_by, least_seen, use_by, used_by, use_of, uses_of, unused, cause_of}

abbrev pub at : Command → Touch → Seen
at c t = record { number = c.number; touch = t }

-- ---- lesser numbers

lesser_none : (o : Option ℕ) → lesser o None ≡ o
lesser_none None = refl
lesser_none (Some n) = refl

lesser_assoc : (a b c : Option ℕ) → lesser (lesser a b) c ≡ lesser a (lesser b c)
lesser_assoc None b c = refl
lesser_assoc (Some a) None c = refl
lesser_assoc (Some a) (Some b) None = refl
lesser_assoc (Some a) (Some b) (Some c) = let e : min (min a b) c ≡ min a (min b c) = omega arith in ap Some e

-- ---- the least of the touches

least-append : (c : Command) (xs ys : List Seen) → least_seen c (xs ++ ys) ≡ lesser (least_seen c xs) (least_seen c ys)
least-append c [] ys = refl
least-append c (x ∷ xs) ys =
    let here = cond (list_any (touches_conflict x.touch) (touches c)) (Some x.number) None in
    ap (lesser here) (least-append c xs ys) ∙ sym (lesser_assoc here (least_seen c xs) (least_seen c ys))

-- the touches of one command, of which some conflict or none
least_one : (c : Command) (n : ℕ) (ts : List Touch)
    → least_seen c (map (λ t. record { number = n; touch = t }) ts) ≡ cond (list_any (λ t. list_any (touches_conflict t) (touches c)) ts) (Some n) None
least_one c n [] = refl
least_one c n (t ∷ ts) =
    ap (lesser (cond (list_any (touches_conflict t) (touches c)) (Some n) None)) (least_one c n ts)
    ∙ both (list_any (touches_conflict t) (touches c)) (list_any (λ t. list_any (touches_conflict t) (touches c)) ts)
  where
    both : (a b : Bool) → lesser (cond a (Some n) None) (cond b (Some n) None) ≡ cond (a || b) (Some n) None
    both true true = let e : min n n ≡ n = omega arith in ap Some e
    both true false = refl
    both false b = refl

pub least_is : (c : Command) (recent : List Command) → least_seen c (flat_map seen_by recent) ≡ least_conflict recent c
least_is c [] = refl
least_is c (x ∷ xs) =
    least-append c (seen_by x) (flat_map seen_by xs)
    ∙ (ap (λ o. lesser o (least_seen c (flat_map seen_by xs))) (least_one c x.number (touches x)) ∙ ap (lesser (cond (conflict x c) (Some x.number) None)) (least_is c xs))

cause_is : (recent : List Command) (c : Command) (first : Option ℕ)
    → cause_of (uses_of recent) first c.number ≡ caused recent c first
cause_is recent c None = refl
cause_is recent c (Some first) = refl

-- ---- the barrier before a command, by what the tracker knows

pub barrier_is : (old : Tracked) (recent : List Command) (c : Command) (first : Option ℕ) (b : Option Barrier)
    → first ≡ least_seen c old.seen
    → b ≡ cause_of old.uses first c.number → IsSince old recent → b ≡ barrier_before recent c
barrier_is old recent c first b cause is s =
    let found : first ≡ least_conflict recent c = cause ∙ ap (least_seen c) s.seen ∙ least_is c recent in
    is ∙ ap (λ u. cause_of u first c.number) s.uses ∙ ap (λ o. cause_of (uses_of recent) o c.number) found
    ∙ cause_is recent c (least_conflict recent c)

-- One more command -----------------------------------------------------------------------------------------------

or_false : (x : Bool) → (x || false) ≡ x
or_false true = refl
or_false false = refl

flat_more : (xs : List Command) (c : Command) → flat_map seen_by (xs ++ c ∷ []) ≡ flat_map seen_by xs ++ seen_by c
flat_more [] c = end (seen_by c)
  where
    end : (l : List Seen) → l ++ [] ≡ l
    end [] = refl
    end (x ∷ l) = ap (λ l. x ∷ l) (end l)
flat_more (x ∷ xs) c =
    ap (λ l. seen_by x ++ l) (flat_more xs c) ∙ sym (append_assoc (seen_by x) (flat_map seen_by xs) (seen_by c))

use_path : (a b c d : Bool) → a ≡ b → c ≡ d
    → let x : StageUse = record { named = a; writes = c } in let y : StageUse = record { named = b; writes = d } in x ≡ y
use_path a b c d e f = λ i. record { named = e i; writes = f i }

use_more : (xs : List Command) (c : Command) (s : Stage) → use_of (xs ++ c ∷ []) s ≡ use_by (use_of xs s) c s
use_more xs c s =
    use_path _ _ _ _
    (list_any-append (λ c. has_stage c s) xs (c ∷ []) ∙ ap (λ v. list_any (λ c. has_stage c s) xs || v) (or_false (has_stage c s)))
    (list_any-append (writes_at s) xs (c ∷ []) ∙ ap (λ v. list_any (writes_at s) xs || v) (or_false (writes_at s c)))

uses_path : (i j k l m n : StageUse) → i ≡ j → k ≡ l → m ≡ n
    → let x : Uses = record { indirect = i; compute = k; transfer = m } in let y : Uses = record { indirect = j; compute = l; transfer = n } in x ≡ y
uses_path i j k l m n e f g = λ t. record { indirect = e t; compute = f t; transfer = g t }

uses_more : (xs : List Command) (c : Command) → uses_of (xs ++ c ∷ []) ≡ used_by (uses_of xs) c
uses_more xs c =
    uses_path _ _ _ _ _ _ (use_more xs c stage.Indirect) (use_more xs c stage.Compute) (use_more xs c stage.Transfer)

one_more : (old new : Tracked) (recent : List Command) (c : Command) → IsSince old recent
    → new.seen ≡ old.seen ++ seen_by c → new.uses ≡ used_by old.uses c → IsSince new (recent ++ c ∷ [])
one_more old new recent c s e u = record {
  seen = e ∙ ap (λ l. l ++ seen_by c) s.seen ∙ sym (flat_more recent c);
  uses = u ∙ (ap (λ u. used_by u c) s.uses ∙ sym (uses_more recent c));
}

-- nothing is known of no command
pub since_none : (new : Tracked) → new.seen ≡ [] → new.uses ≡ unused → IsSince new []
since_none new seen uses = record { seen = seen; uses = uses }

after_none : (recent : List Command) (c : Command) (b : Option Barrier) → is_some b ≡ false
    → since_barrier recent c b ≡ recent ++ c ∷ []
after_none recent c None e = refl
after_none recent c (Some b) e = absurd (cc e)

after_some : (recent : List Command) (c : Command) (b : Option Barrier) → is_some b ≡ true
    → since_barrier recent c b ≡ c ∷ []
after_some recent c None e = absurd (cc e)
after_some recent c (Some b) e = refl

-- no barrier stands before the command: it is added to the others
pub added : (old new : Tracked) (recent : List Command) (c : Command) (b : Option Barrier) → IsSince old recent
    → b ≡ barrier_before recent c → is_some b ≡ false
    → new.seen ≡ old.seen ++ seen_by c → new.uses ≡ used_by old.uses c → IsSince new (recent_after recent c)
added old new recent c b s is none g h =
    subst (IsSince new) (sym (after_none recent c (barrier_before recent c) (ap is_some (sym is) ∙ none)))
    (one_more old new recent c s g h)

-- a barrier stands before it: it is the first since then
pub begun : (new : Tracked) (recent : List Command) (c : Command) (b : Option Barrier) → b ≡ barrier_before recent c
    → is_some b ≡ true
    → new.seen ≡ seen_by c → new.uses ≡ used_by unused c → IsSince new (recent_after recent c)
begun new recent c b is some g h =
    let empty : Tracked = record { seen = []; uses = unused; room = 0 } in
    subst (IsSince new) (sym (after_some recent c (barrier_before recent c) (ap is_some (sym is) ∙ some)))
    (one_more empty new [] c (since_none empty refl refl) g h)

-- the touches and the stages are the same
pub since_same : (old new : Tracked) (recent : List Command) → new.seen ≡ old.seen → new.uses ≡ old.uses
    → IsSince old recent → IsSince new recent
since_same old new recent seen uses s = record { seen = seen ∙ s.seen; uses = uses ∙ s.uses }

-- Adding touches ---------------------------------------------------------------------------------------------------

pub take_more : (c : Command) (i : ℕ) (t : Touch) → slice_get (touches c) i ≡ Some t
    → take (i + 1) (seen_by c) ≡ take i (seen_by c) ++ at c t ∷ []
take_more c i t e = rw add-one (go (touches c) i e)
  where
    go : (ts : List Touch) (i : ℕ) → slice_get ts i ≡ Some t
        → take (suc i) (map (at c) ts) ≡ take i (map (at c) ts) ++ at c t ∷ []
    go [] i e = absurd (cc e)
    go (u ∷ ts) zero e = let same : u ≡ t = cc e in ap (λ t. at c t ∷ []) same
    go (u ∷ ts) (suc i) e = ap (λ l. at c u ∷ l) (go ts i e)

-- a touch is there below the count
pub some_touch : (c : Command) (i : ℕ) → i < length (touches c) → slice_get (touches c) i ≡ None → ⊥
some_touch c i l e = go (touches c) i l e
  where
    go : (ts : List Touch) (i : ℕ) → i < length ts → slice_get ts i ≡ None → ⊥
    go [] i l e = omega (arith, l)
    go (t ∷ ts) zero l e = cc e
    go (t ∷ ts) (suc i) l e = go ts i (omega (arith, l)) e
