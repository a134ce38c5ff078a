-- The run of the worked log with a query, step by step.
use Rattle.std.proofs.Common.{[], ◌∷◌, refl, inl, inr, arith}
use Rattle.core_model.specs.CoreState.{Core, start}
use Rattle.core_model.specs.CoreStep.{Event, CoreStep, App, Cs, Pipe, Submit, Accept, Run, Complete, Finish}
use Rattle.core_model.specs.Runs.{At_end}
use Rattle.core_model.specs.WorkedQuery.{count_groups, one_query, PlaysOneQuery}
use Rattle.core_model.proofs.Runs.Settling.{app_takes, app_hands}

-- a state with the step to it
abbrev Next : Core → Event → Type 0
Next old e = (new : Core) × CoreStep count_groups one_query old e new

abbrev q1 : Next (start one_query) (App 0)
q1 = (_, app_takes count_groups one_query (start one_query) _ _ _ refl refl refl refl refl)

abbrev q2 : Next q1.0 (App 0)
q2 = (_, app_takes count_groups one_query q1.0 _ _ _ refl refl refl refl refl)

abbrev q3 : Next q2.0 (App 0)
q3 = (_, app_takes count_groups one_query q2.0 _ _ _ refl refl refl refl refl)

abbrev q4 : Next q3.0 (App 0)
q4 = (_, app_takes count_groups one_query q3.0 _ _ _ refl refl refl refl refl)

abbrev q5 : Next q4.0 (App 0)
q5 = (_, app_takes count_groups one_query q4.0 _ _ _ refl refl refl refl refl)

abbrev q6 : Next q5.0 (App 0)
q6 = (_, app_takes count_groups one_query q5.0 _ _ _ refl refl refl refl refl)

abbrev q7 : Next q6.0 (App 0)
q7 = (_, app_hands count_groups one_query q6.0 _ refl refl refl refl refl)

abbrev q8 : Next q7.0 Cs
q8 = (_, (refl, (_, _, refl, refl, refl)))

abbrev q9 : Next q8.0 (Pipe 0)
q9 = (_, (refl, (_, refl, refl)))

abbrev q10 : Next q9.0 Submit
q10 = (_, (refl, (_, _, refl, refl, (refl, (refl, tt)), refl)))

abbrev q11 : Next q10.0 Accept
q11 = (_, (refl, (_, _, refl, refl, refl)))

abbrev q12 : Next q11.0 (Run 1)
q12 = (_, (refl, ([], _, _, refl, _ ∷ [], _, _, refl, (refl, tt), refl, refl)))

abbrev q13 : Next q12.0 (Run 0)
q13 = (_, (refl, ([], _, _, refl, [], _, _, refl, tt, refl, refl)))

abbrev q14 : Next q13.0 Complete
q14 = (_, (refl, (_, _, refl, refl, refl, refl)))

abbrev q15 : Next q14.0 Finish
q15 = (_, (refl, (_, (_, _, refl, refl, refl), _, _, refl, refl)))

abbrev q16 : Next q15.0 (App 1)
q16 = (
  _,
  (
    refl,
    (refl, (λ h. refl), _, (_, _, refl, refl), inl (refl, inr (inl (refl, _, _, refl, inl (refl, refl))))),
  ),
)

abbrev q17 : Next q16.0 (App 0)
q17 = (_, (refl, (refl, (λ h. refl), _, refl, inl (refl, inr (inr (refl, refl, (omega arith), refl))))))

pub plays_one_query : PlaysOneQuery
plays_one_query = (
  q17.0,
  (
    q17.0,
    (
      q1.0,
      inl q1.1,
      (
        q2.0,
        inl q2.1,
        (
          q3.0,
          inl q3.1,
          (
            q4.0,
            inl q4.1,
            (
              q5.0,
              inl q5.1,
              (
                q6.0,
                inl q6.1,
                (
                  q7.0,
                  inl q7.1,
                  (
                    q8.0,
                    inl q8.1,
                    (
                      q9.0,
                      inl q9.1,
                      (
                        q10.0,
                        inl q10.1,
                        (
                          q11.0,
                          inl q11.1,
                          (
                            q12.0,
                            inl q12.1,
                            (
                              q13.0,
                              inl q13.1,
                              (q14.0, inl q14.1, (q15.0, inl q15.1, (q16.0, inl q16.1, (q17.0, inl q17.1, refl)))),
                            ),
                          ),
                        ),
                      ),
                    ),
                  ),
                ),
              ),
            ),
          ),
        ),
      ),
    ),
    At_end _ refl,
  ),
  refl,
  refl,
  refl,
)
