-- Cs, a worker of the pipeline cache and Submit keep the invariant: they move heads of queues alone.
use Rattle.std.proofs.Common.{◌≡◌, ℕ, suc, ◌<◌, ◌≤◌, true, false, List, [], ◌∷◌, ◌++◌, length, refl, sym, ap, ◌∙◌}
use Rattle.std.proofs.Common.{subst, arith, append_assoc, length-append}
use Rattle.std.proofs.lemmas.Bool.{ltb-true}
use Rattle.vk_types.specs.Effects.{Meaning}
use Rattle.core_model.specs.Script.{Script}
use Rattle.core_model.specs.CoreState.{Segment, Core, of_messages, of_running}
use Rattle.core_model.specs.Readings.{Reading, Any_choices, First_choices, In_threads, has_place}
use Rattle.core_model.specs.OtherParts.{created}
use Rattle.core_model.specs.CoreStep.{Step, Cs, Pipe, Submit}
use Rattle.core_model.specs.Invariant.{Good}
use Rattle.core_model.proofs.Steps.ChunkMoves.{moved_good}

pub place_of : (reading : Reading) (n : ℕ) → has_place reading 4 ≡ false → has_place reading n ≡ true → n < 4
place_of Any_choices n four h = ltb-true n 4 h
place_of First_choices n four h = ltb-true n 4 h
place_of In_threads n four h = absurd (cc four)

pub one_more : {A : Type 0} (xs : List A) (s : A) → length (xs ++ s ∷ []) ≡ suc (length xs)
one_more xs s = omega (arith, length-append xs (s ∷ []))

module _ (meaning : Meaning) (reading : Reading) (script : Script) (old : Core)
    (submissions batches chunks : List Segment) (requested modules : List ℕ)
    (e : submissions ++ (batches ++ chunks) ≡ old.submissions ++ (old.batches ++ old.chunks))
    (sized : has_place reading 4 ≡ false → (length submissions ≤ 4) × (length batches ≤ 4) × (length chunks ≤ 4)) where
  abbrev headed : Core
  headed = record old {
    submissions = submissions;
    batches = batches;
    chunks = chunks;
    requested = requested;
    modules = modules;
  }

  headed_good : Good meaning reading script old → Good meaning reading script headed
  headed_good g =
      let s = g.sound in
      moved_good meaning reading script old headed
      (ap (λ l. of_messages old.posts ++ (of_messages old.completions ++ (of_running old.accepted ++ l))) e) g (record {
        sizes = λ four. let z = s.sizes four in let y = sized four in (z.0, z.1, z.2, y.0, y.1, y.2);
        finished = omega arith;
        since = s.since;
        allows = λ block i chunk a. a;
        live = λ r b l. l;
        within = s.within;
        device = s.device;
        whole = s.whole;
        order = s.order;
        snaps = s.snaps;
      })

pub cs_good : (meaning : Meaning) (reading : Reading) (script : Script) (old new : Core)
    → Step meaning reading script old Cs new → Good meaning reading script old → Good meaning reading script new
cs_good meaning reading script old new p g =
    let s = p.0 in let ss = p.1 in let e = p.2 in
    subst (Good meaning reading script) (sym p.4)
    (headed_good meaning reading script old old.submissions (old.batches ++ s ∷ []) ss
    (old.requested ++ created s.turns) old.modules
    (ap (λ l. old.submissions ++ l) (append_assoc old.batches (s ∷ []) ss ∙ ap (λ l. old.batches ++ l) (sym e)))
    (λ four.
    let z = g.sound.sizes four in
    let l = place_of reading (length old.batches) four p.3 in
    let more = one_more old.batches s in
    let was : length old.chunks ≡ suc (length ss) = ap length e in
    let c = z.5 in
    (z.3, omega (arith, more, l), omega (arith, was, c)))
    g)

pub pipe_good : (meaning : Meaning) (reading : Reading) (script : Script) (old : Core) (j : ℕ) (new : Core)
    → Step meaning reading script old (Pipe j) new → Good meaning reading script old → Good meaning reading script new
pipe_good meaning reading script old j new p g =
    subst (Good meaning reading script) (sym p.2)
    (headed_good meaning reading script old old.submissions old.batches old.chunks old.requested
    (old.modules ++ p.0 ∷ []) refl
    (λ four. let z = g.sound.sizes four in (z.3, z.4, z.5)) g)

pub submit_good : (meaning : Meaning) (reading : Reading) (script : Script) (old new : Core)
    → Step meaning reading script old Submit new → Good meaning reading script old → Good meaning reading script new
submit_good meaning reading script old new p g =
    let s = p.0 in let ss = p.1 in let e = p.2 in
    subst (Good meaning reading script) (sym p.5)
    (headed_good meaning reading script old (old.submissions ++ s ∷ []) ss old.chunks old.requested old.modules
    (append_assoc old.submissions (s ∷ []) (ss ++ old.chunks) ∙ ap (λ l. old.submissions ++ (l ++ old.chunks)) (sym e))
    (λ four.
    let z = g.sound.sizes four in
    let l = place_of reading (length old.submissions) four p.3 in
    let more = one_more old.submissions s in
    let was : length old.batches ≡ suc (length ss) = ap length e in
    let c = z.4 in
    (omega (arith, more, l), omega (arith, was, c), z.5))
    g)
