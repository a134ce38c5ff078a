-- Instructions inside the function, and what they leave behind.
use Rattle.std.proofs.Common.{◌≡◌, Bool, true, false, if◌then◌else◌, List, ◌∷◌, None, refl, ap, ◌∙◌}
use Rattle.std.specs.Prelude.{not, ◌&&◌}
use Rattle.spirv_model.specs.declared.fault.ModuleKind.TheVariants as kind
use Rattle.spirv_model.specs.declared.merge.Merge.TheVariants.{NoMerge}
use Rattle.spirv_model.specs.declared.section.Section.TheVariants.{Body}
use Rattle.spirv_model.specs.Op.{Op}
use Rattle.spirv_model.specs.Op as op
use Rattle.spirv_model.specs.History.{in_function, block_is_open}
use Rattle.spirv_model.specs.Operands.{or_else, unless}
use Rattle.spirv_model.specs.Sections.{section, is_body, is_function_end, stands_inside, follows, in_order}
use Rattle.spirv_model.specs.Blocks.{pending, takes, in_block}
use Rattle.spirv_model.specs.FirstBad.{first_word_rule}

-- the instructions of a function's blocks, but for its variables
abbrev pub plain : Op → Bool
plain (op.Load t r p) = true
plain (op.Store p v) = true
plain (op.AccessChain t r b is) = true
plain (op.CompositeExtract t r v i) = true
plain (op.Unary o t r a) = true
plain (op.Binary o t r a b) = true
plain (op.Select t r c a b) = true
plain (op.Atomic o t r p s m v) = true
plain (op.AtomicCompareExchange t r p s e u v c) = true
plain (op.LoopMerge m n c) = true
plain (op.SelectionMerge m c) = true
plain (op.Label r) = true
plain (op.Branch l) = true
plain (op.BranchConditional c a b) = true
plain op.Return = true
plain _ = false

-- those that neither begin nor end a block, and wait for no branch
abbrev pub straight : Op → Bool
straight (op.Load t r p) = true
straight (op.Store p v) = true
straight (op.AccessChain t r b is) = true
straight (op.CompositeExtract t r v i) = true
straight (op.Unary o t r a) = true
straight (op.Binary o t r a b) = true
straight (op.Select t r c a b) = true
straight (op.Atomic o t r p s m v) = true
straight (op.AtomicCompareExchange t r p s e u v c) = true
straight _ = false

plain_section : (o : Op) (b : Bool) → plain o ≡ true → section b o ≡ Body
plain_section (op.Load t r p) b e = refl
plain_section (op.Store p v) b e = refl
plain_section (op.AccessChain t r x is) b e = refl
plain_section (op.CompositeExtract t r v i) b e = refl
plain_section (op.Unary o t r a) b e = refl
plain_section (op.Binary o t r a x) b e = refl
plain_section (op.Select t r c a x) b e = refl
plain_section (op.Atomic o t r p s m v) b e = refl
plain_section (op.AtomicCompareExchange t r p s x u v c) b e = refl
plain_section (op.LoopMerge m n c) b e = refl
plain_section (op.SelectionMerge m c) b e = refl
plain_section (op.Label r) b e = refl
plain_section (op.Branch l) b e = refl
plain_section (op.BranchConditional c a x) b e = refl
plain_section op.Return b e = refl
plain_section _ b e = cc

plain_no_end : (o : Op) → plain o ≡ true → is_function_end o ≡ false
plain_no_end op.FunctionEnd e = cc
plain_no_end _ e = refl

plain_stands : (h : List Op) (o : Op) → plain o ≡ true → stands_inside h o ≡ in_function h
plain_stands h (op.Function t r c f) e = cc
plain_stands h (op.Variable t r c vs) e = cc
plain_stands h _ e = refl

pub plain_inside : (h : List Op) (o : Op) → plain o ≡ true → in_function h ≡ true → in_function (o ∷ h) ≡ true
plain_inside h (op.Function t r c f) e i = refl
plain_inside h _ e i = i

-- a plain instruction stands in order behind one of the function that does not end it
pub behind_order : (h : List Op) (o' o : Op) → is_function_end o' ≡ false → section (in_function h) o' ≡ Body → in_function (o' ∷ h) ≡ true → plain o ≡ true → in_order (o' ∷ h) o ≡ true
behind_order h o' o ends body i e =
    ap (λ t. not t && follows (section (in_function h) o') (section (in_function (o' ∷ h)) o) && (if is_body (section (in_function (o' ∷ h)) o) then stands_inside (o' ∷ h) o else true)) ends
    ∙ ap (λ s. follows s (section (in_function (o' ∷ h)) o) && (if is_body (section (in_function (o' ∷ h)) o) then stands_inside (o' ∷ h) o else true)) body
    ∙ ap (λ s. follows Body s && (if is_body s then stands_inside (o' ∷ h) o else true)) (plain_section o (in_function (o' ∷ h)) e)
    ∙ plain_stands (o' ∷ h) o e
    ∙ i

-- one plain instruction stands behind another in order
pub plain_order : (h : List Op) (o' o : Op) → plain o' ≡ true → plain o ≡ true → in_function h ≡ true → in_order (o' ∷ h) o ≡ true
plain_order h o' o e' e i = behind_order h o' o (plain_no_end o' e') (plain_section o' (in_function h) e') (plain_inside h o' e' i) e

abbrev pub begins_block : Op → Bool
begins_block (op.Label r) = true
begins_block _ = false

pub straight_plain : (o : Op) → straight o ≡ true → plain o ≡ true
straight_plain (op.Load t r p) e = refl
straight_plain (op.Store p v) e = refl
straight_plain (op.AccessChain t r x is) e = refl
straight_plain (op.CompositeExtract t r v i) e = refl
straight_plain (op.Unary o t r a) e = refl
straight_plain (op.Binary o t r a x) e = refl
straight_plain (op.Select t r c a x) e = refl
straight_plain (op.Atomic o t r p s m v) e = refl
straight_plain (op.AtomicCompareExchange t r p s x u v c) e = refl
straight_plain _ e = cc

pub straight_inner : (o : Op) → straight o ≡ true → begins_block o ≡ false
straight_inner (op.Label r) e = cc
straight_inner _ e = refl

pub straight_takes : (o : Op) → straight o ≡ true → takes NoMerge o ≡ true
straight_takes (op.BranchConditional c a b) e = cc
straight_takes _ e = refl

pub straight_open : (o : Op) (h : List Op) → straight o ≡ true → block_is_open (o ∷ h) ≡ block_is_open h
straight_open (op.Label r) h e = cc
straight_open (op.Branch l) h e = cc
straight_open (op.BranchConditional c a b) h e = cc
straight_open op.Return h e = cc
straight_open (op.Function t r c f) h e = cc
straight_open op.FunctionEnd h e = cc
straight_open _ h e = refl

pub straight_pending : (o : Op) (h : List Op) → straight o ≡ true → pending (o ∷ h) ≡ NoMerge
straight_pending (op.SelectionMerge m c) h e = cc
straight_pending (op.LoopMerge m n c) h e = cc
straight_pending _ h e = refl

-- in an open block
pub inner_block : (h : List Op) (o : Op) → plain o ≡ true → begins_block o ≡ false → block_is_open h ≡ true → takes (pending h) o ≡ true → in_block h o ≡ true
inner_block h (op.Function t r c f) e b i t' = refl
inner_block h op.FunctionEnd e b i t' = cc
inner_block h (op.Label r) e b i t' = cc
inner_block h o e b i t' =
    ap (λ s. (if is_body s then block_is_open h else true) && takes (pending h) o) (plain_section o (in_function h) e)
    ∙ ap (λ t. t && takes (pending h) o) i
    ∙ t'

pub first_fine : (h : List Op) (o : Op) → in_order h o ≡ true → in_block h o ≡ true → first_word_rule h o ≡ None
first_fine h o r b =
    ap (λ t. or_else (unless t kind.Order) (unless (in_block h o) kind.Flow)) r
    ∙ ap (λ t. unless t kind.Flow) b
