-- The modules that a device keeps.
use Rattle.std.proofs.Common.{◌≡◌, ℕ, Bool, true, false, cond, List, [], ◌∷◌, Option, Some, None, inl, inr, refl, sym, ap, subst, ◌∙◌, Ordering, Less, Equal, Greater}
use Rattle.std.specs.Prelude.{◌==◌, is_some}
use mathlib.Core.Path.{fun_ext}
use Rattle.std.specs.List.{AllByRecursion}
use Rattle.std.specs.Ordering.{nat_cmp, match_ordering}
use Rattle.std.specs.BTreeMap.{insert_entry, is_at}
use Rattle.std.proofs.lemmas.Bool.{cases_eq, cond-true, cond-false, eq-eqb, ne_eqb}
use Rattle.spirv_model.specs.Meaning.ModuleDispatch.{IsDefined}
use Rattle.vk_types.specs.declared.command.Command as c
use Rattle.vk_types.specs.declared.command.Work.{Work}
use Rattle.vk_types.specs.declared.command.Work.TheVariants as work
use Rattle.device_memory.specs.Held.{Held}
use Rattle.device_memory.specs.Meant.{module_meaning_of}
use Rattle.device_memory.specs.Runs.{CanRun, CanWork}
use Rattle.vk_device.specs.Modules.{HasOutcome, MeansTheSame, Modules, kept_or, module_of, with_module}

-- What stands where ------------------------------------------------------------------------------------------------------------

pub kept_there : (modules : ℕ → Option (List ℕ)) (shader : ℕ) (words : List ℕ) → with_module shader words modules shader ≡ Some (kept_or (modules shader) words)
kept_there modules shader words = cond-true (shader == shader) (Some (kept_or (modules shader) words)) (modules shader) (eq-eqb shader shader refl)

some_kept : (o : Option (List ℕ)) (words : List ℕ) → is_some o ≡ true → o ≡ Some (kept_or o words)
some_kept None words some = absurd (cc some)
some_kept (Some kept) words some = refl

none_kept : (o : Option (List ℕ)) (words : List ℕ) → is_some o ≡ false → words ≡ kept_or o words
none_kept None words none = refl
none_kept (Some kept) words none = absurd (cc none)

-- where a module is kept, another changes nothing
pub kept_before : (modules : ℕ → Option (List ℕ)) (shader : ℕ) (words : List ℕ) → is_some (modules shader) ≡ true → modules ≡ with_module shader words modules
kept_before modules shader words some = fun_ext (λ n. by n)
  where
    by : (n : ℕ) → modules n ≡ with_module shader words modules n
    by n = elim (cases_eq n shader) [
      | inl same ↦
          subst (λ k. modules k ≡ with_module shader words modules k) (sym same)
          (some_kept (modules shader) words some ∙ sym (kept_there modules shader words))
      | inr apart ↦ sym (cond-false (n == shader) (Some (kept_or (modules n) words)) (modules n) (ne_eqb n shader apart))
    ]

-- where none is kept, the given one is
pub kept_now : (old new : ℕ → Option (List ℕ)) (shader : ℕ) (words : List ℕ) → is_some (old shader) ≡ false
    → ((n : ℕ) → new n ≡ cond (n == shader) (Some words) (old n)) → new ≡ with_module shader words old
kept_now old new shader words none added = fun_ext (λ n. added n ∙ by n)
  where
    by : (n : ℕ) → cond (n == shader) (Some words) (old n) ≡ with_module shader words old n
    by n = elim (cases_eq n shader) [
      | inl same ↦
          subst (λ k. cond (k == shader) (Some words) (old k) ≡ with_module shader words old k) (sym same)
          (ap (λ (w : List ℕ). cond (shader == shader) (Some w) (old shader)) (none_kept (old shader) words none))
      | inr apart ↦
          cond-false (n == shader) (Some words) (old n) (ne_eqb n shader apart)
          ∙ sym (cond-false (n == shader) (Some (kept_or (old n) words)) (old n) (ne_eqb n shader apart))
    ]

-- Outcomes ---------------------------------------------------------------------------------------------------------------------

pub kept_defined : (modules : Modules) (shader : ℕ) (words : List ℕ) → AllByRecursion HasOutcome modules → IsDefined words → IsDefined (kept_or (module_of modules shader) words)
kept_defined [] shader words all defined = defined
kept_defined (e ∷ es) shader words all defined = by (is_at (nat_cmp shader) e.0) (kept_defined es shader words all.1 defined)
  where
    by : (b : Bool) → IsDefined (kept_or (module_of es shader) words) → IsDefined (kept_or (cond b (Some e.1) (module_of es shader)) words)
    by true later = all.0
    by false later = later

pub all_defined : (modules : Modules) (shader : ℕ) (words : List ℕ) → AllByRecursion HasOutcome modules → IsDefined words → AllByRecursion HasOutcome (insert_entry nat_cmp modules shader words)
all_defined [] shader words all defined = (defined, tt)
all_defined (e ∷ es) shader words all defined = by (nat_cmp shader e.0) (all_defined es shader words all.1 defined)
  where
    by : (o : Ordering) → AllByRecursion HasOutcome (insert_entry nat_cmp es shader words)
        → AllByRecursion HasOutcome (match_ordering o ((shader, words) ∷ e ∷ es) ((e.0, words) ∷ es) (e ∷ insert_entry nat_cmp es shader words))
    by Less later = (defined, all)
    by Equal later = (defined, all.1)
    by Greater later = (all.0, later)

-- Meaning ----------------------------------------------------------------------------------------------------------------------

pub kept_means : (o : Option (List ℕ)) (words : List ℕ) → MeansTheSame o words → module_meaning_of (kept_or o words) ≡ module_meaning_of words
kept_means None words same = refl
kept_means (Some kept) words same = same

can_work_by : (held : Held) (w : Work) (words others : List ℕ) → IsDefined others → CanWork held w (Some words) → CanWork held w (Some others)
can_work_by held (work.Copy source target) words others defined can = can
can_work_by held (work.Fill target word) words others defined can = can
can_work_by held (work.Clear target values unit) words others defined can = can
can_work_by held (work.Dispatch shader counts slots) words others defined can = record { defined = defined; counts = can.counts; bound = can.bound; apart = can.apart }

pub can_run_by : (held : Held) (e : c.Command) (words others : List ℕ) → IsDefined others → CanRun held e (Some words) → CanRun held e (Some others)
can_run_by held e words others defined can = record { work = can_work_by held e.work words others defined can.work; condition = can.condition }
