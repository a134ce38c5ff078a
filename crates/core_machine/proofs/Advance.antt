-- One more call taken.
use Rattle.std.proofs.Common.{◌≡◌, ℕ, zero, suc, ◌+◌, ◌-◌, ◌<◌, ◌≤◌, Bool, true, false, List, [], ◌++◌, length, Option, Some, None, refl, sym, ap, subst, ◌∙◌, arith}
use Rattle.std.specs.Prelude.{if◌then◌else◌}
use Rattle.std.specs.Option.{option_to_list}
use Rattle.std.proofs.Math.Numerals.{add-one}
use Rattle.std.proofs.lemmas.List.{append-nil, length-map}
use Rattle.core_machine.specs.declared.events.Event.TheVariants.{App}
use Rattle.core_machine.specs.declared.events.Stepped.{Stepped}
use Rattle.core_machine.specs.declared.events.Stepped.TheVariants.{Done, Line}
use Rattle.core_machine.specs.declared.events.Flight.{Flight}
use Rattle.core_machine.specs.declared.events.Flight.TheVariants.{Empty, Waiting, Ran}
use Rattle.dx_types.specs.declared.reply.Reply.{Reply}
use Rattle.call_log.specs.Call.{Issued}
use Rattle.call_log.specs.Grammar.{Frame, issued, calls_of}
use Rattle.d3d_model.specs.InOrder.{State, initial, before_call, after_calls}
use Rattle.d3d_state.specs.Meaning.{objects_of}
use Rattle.d3d_plan.specs.Planned.{Planned}
use Rattle.d3d_ref.specs.Stands.{Stands}
use Rattle.d3d_ref.specs.declared.machine.Machine.{Machine}
use Rattle.d3d_model.specs.ReplyText.{replies, replies_upto, reply_at, none_pending}
use Rattle.d3d_model.proofs.Replies.{replies_upto-next, replies_front}
use Rattle.core_machine.specs.Commands.{makes_command}
use Rattle.core_machine.proofs.Verdicts.{silent}
use Rattle.core_machine.specs.Keeping.{IsPlanned, StandsFor, Keeps}
use Rattle.core_machine.specs.Machine.{Progress, settled, flight_after, is_enabled, is_empty, Steps, said, rank, given, end_if, IsFront}

pub next_before : (log : List Issued) (n : ℕ) → before_call log (n + 1) ≡ after_calls log n
next_before log n = ap (before_call log) (add-one n)

abbrev pub progress : List Issued → ℕ → Flight → Bool → Progress
progress log taken flight ended = record { log = log; taken = taken; flight = flight; ended = ended }

abbrev Advances : Progress → Progress → Stepped → Type 0
Advances old new r = (is_enabled old App ≡ true) × Steps old new r

advanced : (log : List Issued) (taken : ℕ) (f g : Flight) (ended : Bool) (r : Stepped) → ended ≡ false → is_empty f ≡ true → taken < length log
    → option_to_list (reply_at log none_pending (taken + 1)) ≡ said r → rank g ≤ 2 → Advances (progress log taken f ended) (progress log (taken + 1) g ended) r
advanced log taken Empty g false r going empty lt says low = (
  refl,
  record {
    log = refl;
    given =
        append-nil (replies_upto (reply_at log none_pending) (taken + 1)) ∙ replies_upto-next (reply_at log none_pending) taken
        ∙ ap (λ (l : List Reply). replies_upto (reply_at log none_pending) taken ++ l) says
        ∙ ap (λ (l : List Reply). l ++ said r) (sym (append-nil (replies_upto (reply_at log none_pending) taken)));
    nearer = omega (arith, low, lt);
  },
)
advanced log taken Empty g true r going empty lt says low = absurd cc
advanced log taken Waiting g ended r going empty lt says low = absurd cc
advanced log taken Ran g ended r going empty lt says low = absurd cc

low_rank : (f : Flight) → rank f ≤ 2
low_rank Empty = omega arith
low_rank Waiting = omega arith
low_rank Ran = omega arith

empty_is : (f : Flight) → is_empty f ≡ true → f ≡ Empty
empty_is Empty e = refl
empty_is Waiting e = absurd cc
empty_is Ran e = absurd cc

abbrev flight_for : Bool → Flight
flight_for b = if b then Waiting else Empty

-- a call was taken of which nothing is said, or not yet
abbrev pub Takes : Progress → Progress → Type 0
Takes old new = (is_enabled old App ≡ true) × (new.flight ≡ flight_after old App) × Steps old new Done

pub takes_command : (log : List Issued) (taken : ℕ) (f : Flight) (ended : Bool) → ended ≡ false → is_empty f ≡ true → taken < length log → true ≡ makes_command log (taken + 1)
    → Takes (progress log taken f ended) (progress log (taken + 1) Waiting ended)
takes_command log taken f ended going empty lt is =
    let a = advanced log taken f Waiting ended Done going empty lt (ap option_to_list (silent log (taken + 1) (sym is))) (omega arith) in
    (a.0, ap flight_for is, a.1)

pub takes_silent : (log : List Issued) (taken : ℕ) (f : Flight) (ended : Bool) → ended ≡ false → is_empty f ≡ true → taken < length log → false ≡ makes_command log (taken + 1)
    → None ≡ reply_at log none_pending (taken + 1) → Takes (progress log taken f ended) (progress log (taken + 1) f ended)
takes_silent log taken f ended going empty lt is none =
    let a = advanced log taken f f ended Done going empty lt (ap option_to_list (sym none)) (low_rank f) in
    (a.0, empty_is f empty ∙ ap flight_for is, a.1)

-- a call was taken, and its reply given
abbrev pub Says : Progress → Reply → Progress → Type 0
Says old r new = (is_enabled old App ≡ true) × (new.flight ≡ Empty) × Steps old new (Line r)

pub says : (log : List Issued) (taken : ℕ) (f : Flight) (ended : Bool) (r : Reply) → ended ≡ false → is_empty f ≡ true → taken < length log
    → Some r ≡ reply_at log none_pending (taken + 1) → Says (progress log taken f ended) r (progress log (taken + 1) f ended)
says log taken f ended r going empty lt some =
    let a = advanced log taken f f ended (Line r) going empty lt (ap option_to_list (sym some)) (low_rank f) in
    (a.0, empty_is f empty, a.1)

-- before the first call
pub keeps_start : (frames : List Frame) (plan : List Planned) (m : Machine) → IsPlanned frames plan → Stands (objects_of m.objects) m.memory initial → Keeps frames plan (Some m) 0 Empty false
unfolding after_calls
keeps_start frames plan m planned stands = record { is_planned = planned; stands = stands; within = omega arith; waits = λ w. absurd cc; quiet = λ q. absurd cc; full = λ q. absurd cc }

-- the state that the next call meets
pub meets_next : (log : List Issued) (m : Option Machine) (taken : ℕ) (f : Flight) → is_empty f ≡ true → StandsFor m (after_calls log (settled f taken)) → StandsFor m (before_call log (taken + 1))
meets_next log m taken Empty e h = subst (StandsFor m) (sym (next_before log taken)) h
meets_next log m taken Waiting e h = absurd cc
meets_next log m taken Ran e h = absurd cc

-- the state that the command in flight meets
pub meets_last : (log : List Issued) (m : Option Machine) (taken : ℕ) → 0 < taken → StandsFor m (after_calls log (taken - 1)) → StandsFor m (before_call log taken)
meets_last log m zero h stands = absurd (omega arith)
meets_last log m (suc taken) h stands = subst (λ (n : ℕ). StandsFor m (after_calls log n)) (pred_suc taken) stands
  where
    pred_suc : (k : ℕ) → suc k - 1 ≡ k
    pred_suc k = omega arith

-- nothing was lost that wasn't there
pub lost : (m : Option Machine) (s : State) → m ≡ None → StandsFor m s
lost m s e = subst (λ (o : Option Machine). StandsFor o s) (sym e) tt

pub front_of : (log : List Issued) (taken : ℕ) (flight : Flight) (ended : Bool) → taken ≤ length log → (ended ≡ true → taken ≡ length log) → IsFront (progress log taken flight ended)
front_of log taken flight true within full =
    let same : taken ≡ length log = full refl in
    record { rest = []; is = sym (append-nil _ ∙ ap (λ (n : ℕ). replies_upto (reply_at log none_pending) n ++ end_if true (length log)) same) }
front_of log taken flight false within full =
    let f = replies_front log none_pending taken within in
    record { rest = f.rest; is = f.is ∙ ap (λ (l : List Reply). l ++ f.rest) (sym (append-nil (replies_upto (reply_at log none_pending) taken))) }

-- the same of the records of a log
pub front_at : (frames : List Frame) (taken : ℕ) (flight : Flight) (ended : Bool) → taken ≤ length frames → (ended ≡ true → taken ≡ length frames) → IsFront (progress (calls_of frames) taken flight ended)
front_at frames taken flight ended within full =
    front_of (calls_of frames) taken flight ended (omega (arith, within, length-map frames issued)) (λ e. full e ∙ sym (length-map frames issued))

-- at the end all was given
pub whole_of : (log : List Issued) (taken : ℕ) (flight : Flight) (ended : Bool) → ended ≡ true → taken ≡ length log → given (progress log taken flight ended) ≡ replies log none_pending
whole_of log taken flight true e same = ap (λ (n : ℕ). replies_upto (reply_at log none_pending) n ++ end_if true (length log)) same
whole_of log taken flight false e same = absurd cc

pub ended_open : (b : Bool) → b ≡ false → b ≡ true → ⊥
ended_open b e f = cc
