-- Views of buffers: D3D11 shader resource views and unordered access views.
use Rattle.std.specs.Prelude.{ℕ, ◌+◌, ◌*◌, ◌==◌, nat_lt, Bool, not, ◌||◌, List, [], ◌∷◌, Option, None, Some, Result, Ok, Err, if◌then◌else◌}
use Rattle.dx_types.specs.declared.refusal.Refusal.{Refusal}
use Rattle.dx_types.specs.declared.refusal.Refusal.TheVariants.{BadBind, BadFormat, OutOfRange}
use Rattle.dx_types.specs.declared.shape.Shape.{Shape}
use Rattle.dx_types.specs.declared.shape.ViewShape.{ViewShape}
use Rattle.dx_types.specs.declared.range.Span.{Span}
use Rattle.dx_types.specs.declared.range.ResRange.{ResRange}
use Rattle.dx_types.specs.declared.shape.Form.{Form}
use Rattle.dx_types.specs.declared.shape.Form.TheVariants.{Raw, Structured, Typed}
use Rattle.dx_types.specs.declared.limits.TheConstants.{RAW_VIEWS, SHADER_RESOURCE, STRUCTURED, UNORDERED_ACCESS}
use Rattle.d3d_model.specs.declared.codes.TheConstants.{RAW_FORM, STRUCTURED_FORM, TYPED_FORM}
use Rattle.d3d_model.specs.Check.{Check, first_failed, has}

-- the form of a number from 0 to 2
abbrev pub form_from : ℕ → Form
form_from n = if n == RAW_FORM then Raw else if n == STRUCTURED_FORM then Structured else Typed

abbrev pub form_number : Form → ℕ
form_number Raw = RAW_FORM
form_number Structured = STRUCTURED_FORM
form_number Typed = TYPED_FORM

-- the bytes of one element: a word, a structure, or so many words as there are components
abbrev pub unit_of : Form → ℕ → ℕ → ℕ
unit_of Raw stride components = 4
unit_of Structured stride components = stride
unit_of Typed stride components = 4 * components

-- the buffer was not made for views of this form
abbrev pub lacks_form : Shape → Form → Bool
lacks_form s Raw = not (has s.misc RAW_VIEWS)
lacks_form s Structured = not (has s.misc STRUCTURED)
lacks_form s Typed = has s.misc STRUCTURED

-- what the view's kind asks of the buffer's bind bits
abbrev pub lacks_bind : Shape → Bool → Bool
lacks_bind s writable = if writable then not (has s.bind UNORDERED_ACCESS) else not (has s.bind SHADER_RESOURCE)

abbrev pub view_end : ViewShape → ℕ
view_end v = (v.first + v.count) * v.unit

abbrev pub is_outside : Shape → ViewShape → Bool
is_outside s v = v.count == 0 || nat_lt s.size (view_end v)

-- what the buffer's shape and the view's show of a refusal
abbrev pub span_checks : Shape → ViewShape → List Check
span_checks s v =
    (lacks_bind s v.writable, BadBind)
    ∷ (lacks_form s v.form, BadFormat)
    ∷ (is_outside s v, OutOfRange)
    ∷ []

abbrev pub spanned_unless : ViewShape → Option Refusal → Result Span Refusal
spanned_unless v (Some why) = Err why
spanned_unless v None = Ok (record { start = v.first * v.unit; len = v.count * v.unit })

-- the bytes of a view, or why it can't be made
abbrev pub view_span : Shape → ViewShape → Result Span Refusal
view_span s v = spanned_unless v (first_failed (span_checks s v))

-- the bytes of a view that was made
abbrev pub view_range : ViewShape → ResRange
view_range v = record { res = v.res; from = v.first * v.unit; to = view_end v }
