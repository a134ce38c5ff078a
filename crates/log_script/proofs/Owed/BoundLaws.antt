-- What is bound behind the turns of the script of every log: a readback's last use, and no byte that a no-overwrite
-- meets.
use Rattle.std.proofs.Common.{◌≡◌, ℕ, suc, ◌+◌, ◌<◌, ◌≤◌, Bool, false, List, ◌∷◌, ◌++◌, length, Option, None, sym, ap}
use Rattle.std.proofs.Common.{◌∙◌, append-nil}
use Rattle.dx_types.specs.declared.range.Range.{Range}
use Rattle.call_log.specs.Call.{Issued}
use Rattle.d3d_model.specs.Past.{Past, then_done}
use Rattle.d3d_model.specs.InOrder.{after_calls}
use Rattle.core_model.specs.Script.{No_overwrite, Bytes, Turn, Asked, Item}
use Rattle.core_model.specs.Lawful.{is_bound, last_binding}
use Rattle.log_script.specs.Makers.{maker}
use Rattle.log_script.specs.LogScript.{turns_upto, script_of}
use Rattle.log_script.proofs.Owed.TurnsMet.{turn_of_turns}
use Rattle.log_script.proofs.Owed.BoundDeeds.{turns_bytes, unbound_byte}
use Rattle.log_script.proofs.Owed.BoundTurns.{bytes_append, tell_apart, known_at}
use Rattle.log_script.proofs.Owed.BoundCuts.{reads_back_at}
use Rattle.log_script.proofs.Owed.BoundOverwrites.{overwrites_at}

pub reads_its_last_use : (log : List Issued) (front : List Turn) (call : ℕ) (source : Range) (used : Option ℕ)
    (may_pend : Bool) (back : List Turn)
    → (script_of log).turns ≡ front ++ Asked call (Bytes source) used may_pend ∷ back
    → used ≡ last_binding source.block front None
reads_its_last_use log front call source used may_pend back e =
    let f = turn_of_turns log (length log) front (Asked call (Bytes source) used may_pend) back e in
    let n : ℕ = f.calls in
    let r = reads_back_at log n f.part call source used may_pend f.rest f.next_is in
    let here : front ≡ turns_upto log n = f.front_is ∙ ap (λ (l : List Turn). turns_upto log n ++ l) r.none
    ∙ append-nil (turns_upto log n) in
    r.last
    ∙ sym ((known_at log n).last r.res r.lives)
    ∙ ap (λ (b : ℕ). last_binding b (turns_upto log n) None) (sym r.block)
    ∙ ap (λ (l : List Turn). last_binding source.block l None) (sym here)

pub overwrites_unbound : (log : List Issued) (front : List Turn) (call item : ℕ) (ends : Bool) (buffer from : ℕ)
    (bytes : List ℕ) (bound : List Range) (back : List Turn)
    → (script_of log).turns ≡ front ++ Item call item ends (No_overwrite buffer from bytes) bound ∷ back
    → (i : ℕ) → from ≤ i → i < from + length bytes → is_bound buffer front false i ≡ false
overwrites_unbound log front call item ends buffer from bytes bound back e i low high =
    let f = turn_of_turns log (length log) front (Item call item ends (No_overwrite buffer from bytes) bound) back e in
    let n : ℕ = f.calls in
    let turns : List Turn = turns_upto log n in
    let past : Past = (after_calls log n).past in
    let o = overwrites_at log n f.part call item ends buffer from bytes bound f.rest f.next_is in
    ap (λ (l : List Turn). is_bound buffer l false i) f.front_is
    ∙ bytes_append buffer turns f.part false i
    ∙ ap (λ (b : ℕ). is_bound b f.part (is_bound b turns false i) i) o.made
    ∙ turns_bytes (suc n) (after_calls log n).objects.buffers past (tell_apart log n) o.res o.lives i f.part o.done
    o.does past (is_bound (maker past o.res) turns false i) ((known_at log n).bytes o.res o.lives i)
    ∙ unbound_byte (then_done (suc n) past o.done) (record { res = o.res; from = from; to = from + length bytes }) i
    low high o.unbound
