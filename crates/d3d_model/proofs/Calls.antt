-- A log's calls, by the numbers of its records.
use Rattle.std.proofs.Common.{◌≡◌, ℕ, zero, suc, List, Option, Some, None, refl, sym, ap, ◌∙◌}
use Rattle.std.specs.Option.{option_map}
use Rattle.std.proofs.lemmas.Option.{slice_get-map}
use Rattle.call_log.specs.Call.{Call}
use Rattle.call_log.specs.Body.{call_of}
use Rattle.d3d_model.specs.InOrder.{call_at}
use Rattle.call_log.specs.Grammar.{Frame, issued, calls_of, frame_no}

pub call_at-calls_of : (frames : List Frame) (n : ℕ) → call_at (calls_of frames) n ≡ option_map issued (frame_no frames n)
call_at-calls_of frames zero = refl
call_at-calls_of frames (suc n) = slice_get-map issued frames n

-- what is found at a number, and what isn't
pub call_found : (frames : List Frame) (n : ℕ) (o : Option Frame) → o ≡ frame_no frames n → call_at (calls_of frames) n ≡ option_map issued o
call_found frames n o e = call_at-calls_of frames n ∙ ap (option_map issued) (sym e)

pub call_none : (frames : List Frame) (n : ℕ) → None ≡ frame_no frames n → call_at (calls_of frames) n ≡ None
call_none frames n e = call_found frames n None e

pub call_some : (frames : List Frame) (n : ℕ) (f : Frame) (c : Call) → Some f ≡ frame_no frames n → c ≡ call_of f.kind f.body → call_at (calls_of frames) n ≡ Some (record { context = f.context; call = c })
call_some frames n f c e is = call_found frames n (Some f) e ∙ ap (λ (k : Call). Some (record { context = f.context; call = k })) (sym is)
