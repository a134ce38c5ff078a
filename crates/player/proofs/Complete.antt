-- Where a command has an output for its input and no fault is counted, it is written whole, or memory runs out.
use Rattle.std.proofs.Common.{◌≡◌, ℕ, ◌<◌, Bool, List, length, Option, Some, refl, sym, subst, ◌∙◌, ◌⊎◌, inl, inr, arith}
use Rattle.std.specs.Prelude.{IfSome}
use Rattle.player.specs.declared.command.Command.{Command}
use Rattle.player.specs.declared.command.Command.TheVariants as commands
use Rattle.player.specs.declared.task.Task.{Task}
use Rattle.player.specs.declared.task.Task.TheVariants.{Answer, Generate}
use Rattle.player.specs.Generated.{IsGenerated}
use Rattle.player.specs.declared.status.Status.{Status}
use Rattle.player.specs.declared.status.Status.TheVariants.{Done, Usage, ReadFault, WriteFault, Unsupported, BadLog, TooLong, NoMemory, BadText, NotBuilt}
use Rattle.call_log.specs.Grammar.{Frame}
use Rattle.call_log.proofs.OneReading.{one_log, no_fault}
use Rattle.log_text.proofs.Spelling.{no_bad_line}
use Rattle.list_audit.proofs.OneReading.{no_bad_line as not_bad_audited}
use Rattle.d3d_plan.specs.Ends.{Never, IsFirst, is_draw_record}
use Rattle.core_machine.specs.Unplayed.{is_unplayed_record}
use Rattle.player.specs.Outcome.{Answers, IsPlayedLog, FirstDraw, FirstUnbuilt, RunRefuses, Refuses, WasLeft, Outcome, OutcomeOf, Accepted, IsGood}

told_is : (left : Option (List ℕ)) (all bytes : List ℕ) → left ≡ Some all → WasLeft left bytes → bytes ≡ all
told_is left all bytes e h = subst (λ (o : Option (List ℕ)). WasLeft o bytes) e h

told_longer : (left : Option (List ℕ)) (all : List ℕ) → left ≡ Some all → IfSome left (λ l. 67108864 < length l) → 67108864 < length all
told_longer left all e h = subst (λ (o : Option (List ℕ)). IfSome o (λ l. 67108864 < length l)) e h

-- a record that is the first of some kind is not missing
not_missing : (test : Frame → Bool) (frames : List Frame) (n kind : ℕ) → Never test frames → IsFirst test frames n kind → ⊥
not_missing test frames n kind never first =
    let at = first.found in
    let e = sym (never n at.0 at.1) ∙ at.2 in
    absurd cc

no_first_draw : (bytes : List ℕ) (frames : List Frame) (n : ℕ) → IsPlayedLog bytes frames → FirstDraw bytes n → ⊥
no_first_draw bytes frames n played draw =
    let same = one_log bytes draw.frames frames draw.log played.log in
    not_missing is_draw_record frames n draw.kind played.no_draw (subst (λ (fs : List Frame). IsFirst is_draw_record fs n draw.kind) same draw.first)

no_first_unbuilt : (bytes : List ℕ) (frames : List Frame) (n kind : ℕ) → IsPlayedLog bytes frames → Never is_unplayed_record frames → FirstUnbuilt bytes n kind → ⊥
no_first_unbuilt bytes frames n kind played built first =
    let same = one_log bytes first.frames frames first.log played.log in
    not_missing is_unplayed_record frames n kind built (subst (λ (fs : List Frame). IsFirst is_unplayed_record fs n kind) same first.first)

run_not_refused : (bytes : List ℕ) (frames : List Frame) (s : Status) → IsPlayedLog bytes frames → RunRefuses bytes s → ⊥
run_not_refused bytes frames (BadLog fault) played r = no_fault bytes frames fault played.log r
run_not_refused bytes frames (Unsupported n) played r = no_first_draw bytes frames n played r
run_not_refused bytes frames _ played r = absurd r

-- bytes for which a command has an output aren't refused
refused_not : (c : Command) (bytes out : List ℕ) (s : Status) → Answers c bytes out → Refuses c bytes s → ⊥
refused_not commands.Replay bytes out (NotBuilt n kind) a r = no_first_unbuilt bytes a.0 n kind a.1 a.2 r
refused_not commands.Replay bytes out s a r = run_not_refused bytes a.0 s a.1 r
refused_not commands.Ref bytes out s a r = run_not_refused bytes a.0 s a.1 r
refused_not commands.List bytes out (BadLog fault) a r = no_fault bytes a.0 fault a.1 r
refused_not commands.List bytes out _ a r = absurd r
refused_not commands.Asm bytes out (BadText line) a r = no_bad_line bytes out line a r
refused_not commands.Asm bytes out _ a r = absurd r
refused_not commands.Audit bytes out (BadText line) a r = not_bad_audited bytes a.1.ops a.1.order line a.1.read r
refused_not commands.Audit bytes out _ a r = absurd r

not_refused : (c : Command) (left : Option (List ℕ)) (s : Status) (bytes : List ℕ) → Accepted c left → WasLeft left bytes → Refuses c bytes s → ⊥
not_refused c left s bytes acc was r =
    refused_not c acc.bytes acc.out s acc.answers (subst (λ (b : List ℕ). Refuses c b s) (told_is left acc.bytes bytes acc.told was) r)

pub ends : (c : Command) (s : Status) (left old new : Option (List ℕ)) → Accepted c left → Outcome c left old s new → (s ≡ ReadFault → ⊥) → (s ≡ WriteFault → ⊥) → (s ≡ Done) ⊎ (s ≡ NoMemory)
ends c Done left old new acc h a b = inl refl
ends c NoMemory left old new acc h a b = inr refl
ends c Usage left old new acc h a b = absurd h
ends c ReadFault left old new acc h a b = absurd (a refl)
ends c WriteFault left old new acc h a b = absurd (b refl)
ends c TooLong left old new acc h a b = let long = told_longer left acc.bytes acc.told h.0 in absurd (omega (arith, acc.short))
ends c (BadLog fault) left old new acc h a b = absurd (not_refused c left (BadLog fault) h.0 acc h.1 h.2.refuses)
ends c (Unsupported n) left old new acc h a b = absurd (not_refused c left (Unsupported n) h.0 acc h.1 h.2.refuses)
ends c (BadText line) left old new acc h a b = absurd (not_refused c left (BadText line) h.0 acc h.1 h.2.refuses)
ends c (NotBuilt n kind) left old new acc h a b = absurd (not_refused c left (NotBuilt n kind) h.0 acc h.1 h.2.refuses)

generated_ends : (n : ℕ) (s : Status) (old new : Option (List ℕ)) → IsGenerated n old s new → (s ≡ WriteFault → ⊥) → (s ≡ Done) ⊎ (s ≡ NoMemory)
generated_ends n Done old new h b = inl refl
generated_ends n NoMemory old new h b = inr refl
generated_ends n WriteFault old new h b = absurd (b refl)
generated_ends n _ old new h b = absurd h

task_ends : (t : Task) (s : Status) (left old new : Option (List ℕ)) → IsGood t left → OutcomeOf (Some t) left old s new → (s ≡ ReadFault → ⊥) → (s ≡ WriteFault → ⊥) → (s ≡ Done) ⊎ (s ≡ NoMemory)
task_ends (Answer c) s left old new good h a b = ends c s left old new good h a b
task_ends (Generate n) s left old new good h a b = generated_ends n s old new h b

-- the same, by the words
pub words_end : (o : Option Task) (t : Task) (s : Status) (left old new : Option (List ℕ)) → o ≡ Some t → IsGood t left → OutcomeOf o left old s new → (s ≡ ReadFault → ⊥) → (s ≡ WriteFault → ⊥) → (s ≡ Done) ⊎ (s ≡ NoMemory)
words_end o t s left old new e good h a b = task_ends t s left old new good (subst (λ (x : Option Task). OutcomeOf x left old s new) e h) a b
