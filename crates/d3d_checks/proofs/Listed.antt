-- Whether a list is live.
use Rattle.std.proofs.Common.{◌≡◌, ℕ, not, List, [], ◌∷◌, Option, Some, None, ap, ◌∙◌}
use Rattle.std.specs.Prelude.{is_some, nat_lt}
use Rattle.std.specs.List.{list_any}
use Rattle.call_log.specs.Call as calls
use Rattle.dx_types.specs.declared.refusal.Refusal.{Refusal}
use Rattle.dx_types.specs.declared.refusal.Refusal.TheVariants.{BadUsage, QueryState, UnknownList}
use Rattle.base_lemmas.specs.IdMap.{get}
use Rattle.d3d_model.specs.Check.{first_failed}
use Rattle.d3d_model.specs.D3dState.{Numbered, Objects, calls_if}
use Rattle.d3d_model.specs.Past.{Past}
use Rattle.d3d_model.specs.Stream.{begun_in_list}
use Rattle.d3d_model.specs.Verdict.{known_list, query_is}
use Rattle.d3d_checks.specs.Asked.{refusal_of, refusal_of_calls}

pub known_none : (o : Objects) (list : ℕ) → None ≡ get o.lists list → Some UnknownList ≡ first_failed (known_list o list)
known_none o list e = ap (λ (l : Option (List Numbered)). first_failed ((not (is_some l), UnknownList) ∷ [])) e

pub known_some : (o : Objects) (list : ℕ) (cs : List Numbered) → Some cs ≡ get o.lists list → None ≡ first_failed (known_list o list)
known_some o list cs e = ap (λ (l : Option (List Numbered)). first_failed ((not (is_some l), UnknownList) ∷ [])) e

-- ---- the checks of executing a list, from what is live under its id

pub executes_unknown : (o : Objects) (past : Past) (list flag : ℕ) → None ≡ get o.lists list → Some UnknownList ≡ refusal_of o past (calls.ExecuteList list flag)
executes_unknown o past list flag e =
    ap (λ (l : Option (List Numbered)). first_failed ((not (is_some l), UnknownList) ∷ (nat_lt 1 flag, BadUsage) ∷ (list_any (λ q. query_is o q (λ s. s.begun)) (begun_in_list (calls_if l)), QueryState) ∷ [])) e

pub executes_known : (o : Objects) (past : Past) (list flag : ℕ) (cs : List Numbered) (why : Option Refusal) → Some cs ≡ get o.lists list → why ≡ refusal_of_calls o cs flag
    → why ≡ refusal_of o past (calls.ExecuteList list flag)
executes_known o past list flag cs why e own =
    own
    ∙ ap (λ (l : Option (List Numbered)). first_failed ((not (is_some l), UnknownList) ∷ (nat_lt 1 flag, BadUsage) ∷ (list_any (λ q. query_is o q (λ s. s.begun)) (begun_in_list (calls_if l)), QueryState) ∷ [])) e
