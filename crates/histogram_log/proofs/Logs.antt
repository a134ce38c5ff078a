-- The log of some calls has their records, which spell them.
use Rattle.std.proofs.Common.{◌≡◌, List, [], ◌∷◌, refl, arith}
use Rattle.std.specs.Prelude.{map}
use Rattle.std.specs.List.{AllByRecursion}
use Rattle.call_log.specs.Call.{Call}
use Rattle.call_log.specs.Grammar.{IsFrame, IsLog, calls_of}
use Rattle.call_log.specs.Put.{frame_of}
use Rattle.call_log.proofs.ReadBack.{frame_back, call_back}
use Rattle.histogram_log.specs.Logged.{frames, spelled, log_of, issued_calls, AreSpelt}

are_frames : (cs : List Call) → AreSpelt cs → AllByRecursion IsFrame (map (frame_of 0) cs)
are_frames [] h = tt
are_frames (c ∷ cs) h = (frame_back 0 c (omega arith) h.0.puttable h.0.words, are_frames cs h.1)

pub is_log : (cs : List Call) → AreSpelt cs → IsLog (log_of cs) (frames cs)
unfolding spelled
is_log cs h = record { spelled = refl; each = are_frames cs h }

pub calls_back : (cs : List Call) → AreSpelt cs → calls_of (frames cs) ≡ issued_calls cs
calls_back [] h = refl
calls_back (c ∷ cs) h = λ i. record { context = 0; call = call_back c h.0.puttable h.0.words i } ∷ calls_back cs h.1 i
