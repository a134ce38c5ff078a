-- An operand that breaks no rule fits.
use Rattle.std.proofs.Common.{◌≡◌, ◌≢◌, ◌<◌, ◌≤◌, ◌==◌, ◌+◌, ℕ, Bool, true, false, not, ◌&&◌, ◌||◌, nat_le, [], Option, Some, None, is_none, IsSome, slice_index, drop, refl, arith}
use Rattle.std.proofs.lemmas.Bool.Decides.{nat_tests}
use Rattle.shader_model.specs.declared.opcode.Access.{Access}
use Rattle.shader_model.specs.declared.opcode.Kind.TheVariants.{Destination, Source, SlotWord}
use Rattle.shader_model.specs.declared.fault.ShaderKind.TheVariants as kind
use Rattle.shader_model.specs.Words.{bits, file_in, mask_in, index_in, flag_in, writable_in}
use Rattle.shader_model.specs.Items.{Part}
use Rattle.shader_model.specs.Fields.{declared_among, used_as, target_of, operand_of, slot_use_of}
use Rattle.shader_model.specs.Faults.{rule, first_broken, Said, temps_of, lacks_register, is_destination, is_source, is_relative, takes_slot, operand_rules}
use Rattle.shader_model.specs.Good.{TargetFits, OperandFits, SlotFits}
use Rattle.shader_model.proofs.Spelling.{kept_first, kept_later, not_false}

has_register : (f i n : ℕ) → (f == 0) && nat_le n i ≡ false → f ≡ 0 → i < n
has_register f i n h e = grind (arith, nat_tests)

null_only : (f m i : ℕ) (b : Bool) → b && ((f == 0) && not (m == 0) || (f == 7) && (m == 0) && (i == 0)) ≡ true → f ≢ 0 → m ≡ 0
null_only f m i b h ne = grind (arith, nat_tests)

pub target_fits : (said : Said) (a : Access) (p : Part) → first_broken (operand_rules Destination said a p) ≡ None
    → TargetFits said.declared (temps_of said) (target_of p.word)
target_fits said a p h =
    let all = operand_rules Destination said a p in
    record {
      register = has_register (file_in p.word) (index_in p.word) (temps_of said)
          (kept_first (rule (lacks_register (temps_of said) p.word) p.at kind.Register) (drop 1 all) h);
      null = null_only (file_in p.word) (mask_in p.word) (index_in p.word) (bits 8 8 p.word == 0)
          (not_false (is_destination p.word) (kept_first (rule (not (is_destination p.word)) p.at kind.Operand) [] (kept_later 1 all h)));
    }

source_file : (f i : ℕ) (b g : Bool) → b && nat_le f 6 && (not g || (f == 2)) && ((i == 0) || (f == 0) || (f == 2)) ≡ true → f ≤ 6
source_file f i b g h = grind (arith, nat_tests)

source_flag : (f i : ℕ) (b g : Bool) → b && nat_le f 6 && (not g || (f == 2)) && ((i == 0) || (f == 0) || (f == 2)) ≡ true → g ≡ true → f ≡ 2
source_flag f i b g h e = grind (arith, nat_tests)

constant_there : {A : Type 0} (f : ℕ) (d : Option A) → (f == 2) && is_none d ≡ false → f ≡ 2 → IsSome d
constant_there f None h e = absurd (grind (arith, nat_tests))
constant_there f (Some x) h e = refl

relative_register : (f i n : ℕ) (g : Bool) → g && ((f == 0) && nat_le n i) ≡ false → g ≡ true → f ≡ 0 → i < n
relative_register f i n g h e z = grind (arith, nat_tests)

relative_file : (f : ℕ) (b g : Bool) → g && not ((f == 0) && b) ≡ false → g ≡ true → f ≡ 0
relative_file f b g h e = grind (arith, nat_tests)

both_true : (f : ℕ) (g : Bool) → f ≡ 2 → g ≡ true → (f == 2) && g ≡ true
both_true f g e h = grind (arith, nat_tests)

pub operand_fits : (said : Said) (a : Access) (p : Part) → first_broken (operand_rules Source said a p) ≡ None
    → OperandFits said.declared (temps_of said) (operand_of p.word p.more)
operand_fits said a p h =
    let all = operand_rules Source said a p in
    let w = p.word in
    let next = slice_index p.more 1 in
    let here = (file_in w == 2) && flag_in w in
    let good : is_source w ≡ true = not_false (is_source w) (kept_first (rule (not (is_source w)) p.at kind.Operand) (drop 3 all) (kept_later 2 all h)) in
    let flagged : flag_in w ≡ true → file_in w ≡ 2 = source_flag (file_in w) (index_in w) (bits 13 3 w == 0) (flag_in w) good in
    record {
      file = source_file (file_in w) (index_in w) (bits 13 3 w == 0) (flag_in w) good;
      register = has_register (file_in w) (index_in w) (temps_of said) (kept_first (rule (lacks_register (temps_of said) w) p.at kind.Register) (drop 2 all) (kept_later 1 all h));
      constant = constant_there (file_in w) (declared_among 3 (index_in w) said.declared)
          (kept_first (rule ((file_in w == 2) && is_none (declared_among 3 (index_in w) said.declared)) p.at kind.Slot) (drop 1 all) h);
      flagged = flagged;
      relative = λ t.
          let g = both_true (file_in w) (flag_in w) (flagged t) t in
          relative_register (file_in next) (index_in next) (temps_of said) here
          (kept_first (rule (here && lacks_register (temps_of said) next) (p.at + 2) kind.Register) (drop 4 all) (kept_later 3 all h)) g
          (relative_file (file_in next) (bits 12 4 next == 0) here (kept_first (rule (here && not (is_relative next)) (p.at + 2) kind.Operand) [] (kept_later 4 all h)) g);
      words = refl;
    }

pub slot_fits : (said : Said) (a : Access) (p : Part) → first_broken (operand_rules SlotWord said a p) ≡ None
    → SlotFits said.declared (temps_of said) a (slot_use_of p.word)
slot_fits said a p h =
    let all = operand_rules SlotWord said a p in
    let takes = takes_slot a (writable_in p.word) (used_as (slot_use_of p.word) said.declared) in
    not_false takes (kept_first (rule (not takes) p.at kind.Slot) (drop 1 all) h)
