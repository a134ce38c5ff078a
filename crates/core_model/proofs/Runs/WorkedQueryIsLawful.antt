-- The worked log with a query is all that the checks of the calls make sure of.
use Rattle.std.proofs.Common.{[], true, false, refl, None, arith}
use Rattle.core_model.specs.Script.{Command, Create_shader, Mark_query, Set_state, Item}
use Rattle.core_model.specs.Lawful.{IsLawful}
use Rattle.core_model.specs.WorkedQuery.{count_groups, dispatched, one_query}
use Rattle.core_model.proofs.Runs.WorkedLogIsLawful.{AtEach, Calls, Uses, Items, rises, lawful_by, none_live}

calls : AtEach Calls [] one_query.turns
calls = (
  (
    (omega arith),
    (λ u o e. rises 1 2 (Item 1 1 true Create_shader []) _ u o _ refl (omega arith) refl refl e),
    (λ e. absurd (cc e)),
  ),
  (
    (
      (omega arith),
      (λ u o e. rises 2 3 (Item 2 2 true Set_state []) _ u o _ refl (omega arith) refl refl e),
      (λ e. absurd (cc e)),
    ),
    (
      (
        (omega arith),
        (λ u o e. rises 3 4 (Item 3 3 true (Mark_query 2 true) []) _ u o _ refl (omega arith) refl refl e),
        (λ e. absurd (cc e)),
      ),
      (
        (
          (omega arith),
          (λ u o e. rises 4 5 (Item 4 4 true (Command (dispatched 2) None) []) _ u o _ refl (omega arith) refl
              refl e),
          (λ e. absurd (cc e)),
        ),
        (
          (
            (omega arith),
            (λ u o e. rises 5 6 (Item 5 5 true (Mark_query 2 false) []) _ u o _ refl (omega arith) refl refl e),
            (λ e. absurd (cc e)),
          ),
          (
            (
              (omega arith),
              (λ u o e. rises 6 7 (Item 6 6 true (Command (dispatched 3) None) []) _ u o _ refl (omega arith) refl
                  refl e),
              (λ e. absurd (cc e)),
            ),
            (((omega arith), (λ u o e. absurd (cc e)), (λ e. refl)), tt),
          ),
        ),
      ),
    ),
  ),
)

uses : AtEach (Uses count_groups one_query) [] one_query.turns
uses = (tt, (tt, (tt, (tt, (tt, (tt, ((refl, ((5, refl), refl)), tt)))))))

items : AtEach (Items count_groups one_query) [] one_query.turns
items = (
  (tt, tt, (λ b i h. absurd (cc h)), tt, (λ h. refl), tt, tt),
  (
    (tt, tt, (λ b i h. absurd (cc h)), tt, (λ h. refl), tt, tt),
    (
      (refl, tt, (λ b i h. absurd (cc h)), tt, (λ h. refl), tt, tt),
      (
        (
          tt,
          tt,
          (λ b i h. absurd (cc h)),
          tt,
          (λ h. refl),
          ((record { groups = tt; rise = tt; each = tt; apart = tt }), tt),
          (refl, tt),
        ),
        (
          (refl, tt, (λ b i h. absurd (cc h)), tt, (λ h. refl), tt, tt),
          (
            (
              tt,
              tt,
              (λ b i h. absurd (cc h)),
              tt,
              (λ h. refl),
              ((record { groups = tt; rise = tt; each = tt; apart = tt }), tt),
              (refl, tt),
            ),
            (tt, tt),
          ),
        ),
      ),
    ),
  ),
)

pub one_query_lawful : IsLawful count_groups one_query
one_query_lawful = lawful_by count_groups one_query calls uses items (λ buffer. omega arith) (λ buffer. tt)
    (λ buffer h. refl) (λ front back e. none_live one_query _ (λ b. refl))
