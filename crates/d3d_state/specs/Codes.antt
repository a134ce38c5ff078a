-- How live views and queries are stored, for types whose model they are.
use Rattle.std.specs.Prelude.{◌≡◌, refl, ℕ, Bool, Option}
use Rattle.std.specs.Coded.{Coded, code_by, coded×, coded_ℕ, coded_bool, coded_option}
use mathlib.Core.Path.{ap}
use Rattle.dx_types.specs.declared.shape.ViewShape.{ViewShape}
use Rattle.dx_types.specs.declared.shape.Form.{Form}
use Rattle.dx_types.specs.declared.shape.Form.TheVariants.{Raw, Structured, Typed}
use Rattle.base_lemmas.specs.IdMap as ids
use Rattle.base_lemmas.specs.IdMap.{IdMap}
use Rattle.d3d_model.specs.View.{form_from, form_number}
use Rattle.d3d_model.specs.D3dState as model

-- the live views
abbrev pub Views : Type 0
Views = IdMap ViewShape

-- the live queries
abbrev pub Queries : Type 0
Queries = IdMap model.Query

pub form_back : (f : Form) → form_from (form_number f) ≡ f
form_back Raw = refl
form_back Structured = refl
form_back Typed = refl

abbrev pub view_code : Coded ViewShape
view_code = code_by (ℕ × (Bool × (ℕ × (ℕ × (ℕ × ℕ))))) (coded× coded_ℕ (coded× coded_bool (coded× coded_ℕ (coded× coded_ℕ (coded× coded_ℕ coded_ℕ)))))
    (λ v. (v.res, (v.writable, (form_number v.form, (v.unit, (v.first, v.count))))))
    (λ p. record { res = p.0; writable = p.1.0; form = form_from p.1.1.0; unit = p.1.1.1.0; first = p.1.1.1.1.0; count = p.1.1.1.1.1 })
    (λ v. ap (λ (f : Form). record { res = v.res; writable = v.writable; form = f; unit = v.unit; first = v.first; count = v.count }) (form_back v.form))

abbrev pub views_code : Coded Views
views_code = ids.code view_code

abbrev pub query_code : Coded model.Query
query_code = code_by (ℕ × (Bool × Option ℕ)) (coded× coded_ℕ (coded× coded_bool (coded_option coded_ℕ)))
    (λ q. (q.sort, (q.begun, q.ended))) (λ p. record { sort = p.0; begun = p.1.0; ended = p.1.1 }) (λ q. refl)

abbrev pub queries_code : Coded Queries
queries_code = ids.code query_code
