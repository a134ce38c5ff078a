-- A scan of the records of a log, one after another.
use Rattle.std.proofs.Common.{◌≡◌, ℕ, ◌+◌, ◌≤◌, Bool, false, List, length, Some, sym, ap, ◌∙◌, arith, inl, inr}
use Rattle.std.proofs.lemmas.Bool.{cases_lt}
use Rattle.call_log.specs.Grammar.{Frame, frame_no}
use Rattle.d3d_plan.specs.Ends.{NoneBefore, Never}
use Rattle.d3d_plan.proofs.Records.{numbered}

some_back : {X : Type 0} (x y : X) → Some x ≡ Some y → x ≡ y
some_back x y e = cc

-- one more record of which it is not true
pub none_next : (test : Frame → Bool) (frames : List Frame) (n : ℕ) (f : Frame) → NoneBefore test frames n → Some f ≡ frame_no frames n → test f ≡ false → NoneBefore test frames (n + 1)
none_next test frames n f before there not k g below is = elim (cases_lt k n) [
  | inl earlier ↦ before k g earlier is
  | inr last ↦
      let here : k ≡ n = omega arith in
      ap test (some_back g f (sym is ∙ ap (frame_no frames) here ∙ sym there)) ∙ not
]

-- all were looked at
pub none_left : (test : Frame → Bool) (frames : List Frame) (n : ℕ) → NoneBefore test frames (n + 1) → length frames ≤ n → Never test frames
none_left test frames n before all k f is = let h = numbered frames k f is in before k f (omega (arith, h, all)) is
