-- The order of the sections behind an instruction.
use Rattle.std.proofs.Common.{◌≡◌, if◌then◌else◌, true, List, [], ◌∷◌, Option, Some, None, refl, ap, ◌∙◌}
use Rattle.std.specs.Prelude.{not, ◌&&◌}
use Rattle.spirv_model.specs.Op.{Op}
use Rattle.spirv_model.specs.Op as op
use Rattle.spirv_model.specs.History.{in_function}
use Rattle.spirv_model.specs.Sections.{section, follows, is_body, is_function_end, stands_inside, in_order}
use Rattle.spirv_words.specs.Latest.{latest}

-- an instruction has the same section where it counts itself
same_section : (h : List Op) (o : Op) → section (in_function h) o ≡ section (in_function (o ∷ h)) o
same_section h (op.Function t r c f) = refl
same_section h _ = refl

behind : (h : List Op) (l o : Op) → in_order (l ∷ h) o ≡ (not (is_function_end l) && follows (section (in_function (l ∷ h)) l) (section (in_function (l ∷ h)) o) && (if is_body (section (in_function (l ∷ h)) o) then stands_inside (l ∷ h) o else true))
behind h l o = ap (λ s. not (is_function_end l) && follows s (section (in_function (l ∷ h)) o) && (if is_body (section (in_function (l ∷ h)) o) then stands_inside (l ∷ h) o else true)) (same_section h l)

pub in_order_behind : (h : List Op) (l o : Op) → latest h ≡ Some l → in_order h o ≡ (not (is_function_end l) && follows (section (in_function h) l) (section (in_function h) o) && (if is_body (section (in_function h) o) then stands_inside h o else true))
in_order_behind [] l o e = cc
in_order_behind (l' ∷ h) l o e =
    let same : l' ≡ l = cc in
    behind h l' o ∙ ap (λ x. not (is_function_end x) && follows (section (in_function (l' ∷ h)) x) (section (in_function (l' ∷ h)) o) && (if is_body (section (in_function (l' ∷ h)) o) then stands_inside (l' ∷ h) o else true)) same
