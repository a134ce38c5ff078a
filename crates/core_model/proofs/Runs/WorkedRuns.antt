-- The runs of the worked logs, step by step.
use Rattle.std.proofs.Common.{[], ◌∷◌, refl, inl, inr, arith}
use Rattle.core_model.specs.Script.{Script}
use Rattle.core_model.specs.CoreState.{Core, start}
use Rattle.core_model.specs.Placing.{On_new, New_page}
use Rattle.core_model.specs.Playing.{Own}
use Rattle.core_model.specs.Readings.{First_choices}
use Rattle.core_model.specs.CoreStep.{Event, CoreStep, App, Cs, Submit, Accept, Run, Complete, Finish}
use Rattle.core_model.specs.Runs.{At_end, Settling}
use Rattle.core_model.specs.WorkedLogs.{no_shaders, update_copy_map, PlaysUpdateCopyMap, five_buffers, PlaysFiveBuffers}
use Rattle.core_model.proofs.Runs.Settling.{app_takes, app_hands, settle_finish, settle_complete, settle_run}
use Rattle.core_model.proofs.Runs.Settling.{settle_accept, settle_submit, settle_cs, settle_app}

-- a state with the step to it
abbrev Next : Script → Core → Event → Type 0
Next script old e = (new : Core) × CoreStep no_shaders script old e new

-- An update, a copy, a read ------------------------------------------------------------------------------------------

abbrev u1 : Next update_copy_map (start update_copy_map) (App 0)
u1 = (
  _,
  app_takes no_shaders update_copy_map (start update_copy_map) _ _ _ refl refl refl refl
      (512, _, Own First_choices update_copy_map 1 _ refl, refl),
)

abbrev u2 : Next update_copy_map u1.0 (App 0)
u2 = (
  _,
  app_takes no_shaders update_copy_map u1.0 _ _ _ refl refl refl refl
      (513, _, Own First_choices update_copy_map 2 _ refl, refl),
)

abbrev u3 : Next update_copy_map u2.0 (App 0)
u3 = (
  _,
  app_takes no_shaders update_copy_map u2.0 _ _ _ refl refl refl refl
      (_, _, (New_page, On_new 16 _ refl, (λ h. refl), λ h. tt), refl),
)

abbrev u4 : Next update_copy_map u3.0 (App 0)
u4 = (_, app_takes no_shaders update_copy_map u3.0 _ _ _ refl refl refl refl refl)

abbrev u5 : Next update_copy_map u4.0 (App 0)
u5 = (_, app_hands no_shaders update_copy_map u4.0 _ refl refl refl refl refl)

abbrev u6 : Next update_copy_map u5.0 Cs
u6 = (_, (refl, (_, _, refl, refl, refl)))

abbrev u7 : Next update_copy_map u6.0 Submit
u7 = (_, (refl, (_, _, refl, refl, tt, refl)))

abbrev u8 : Next update_copy_map u7.0 Accept
u8 = (_, (refl, (_, _, refl, refl, refl)))

abbrev u9 : Next update_copy_map u8.0 (Run 0)
u9 = (_, (refl, ([], _, _, refl, [], _, _, refl, tt, refl, refl)))

abbrev u10 : Next update_copy_map u9.0 (Run 0)
u10 = (_, (refl, ([], _, _, refl, [], _, _, refl, tt, refl, refl)))

abbrev u11 : Next update_copy_map u10.0 Complete
u11 = (_, (refl, (_, _, refl, refl, refl, refl)))

abbrev u12 : Next update_copy_map u11.0 Finish
u12 = (_, (refl, (_, (_, _, refl, refl, refl), _, _, refl, refl)))

abbrev u13 : Next update_copy_map u12.0 (App 1)
u13 = (
  _,
  (
    refl,
    (refl, (λ h. refl), _, (_, _, refl, refl), inl (refl, inr (inl (refl, _, _, refl, inl (refl, refl))))),
  ),
)

abbrev u14 : Next update_copy_map u13.0 (App 0)
u14 = (_, (refl, (refl, (λ h. refl), _, refl, inl (refl, inr (inr (refl, refl, (omega arith), refl))))))

pub plays_update_copy_map : PlaysUpdateCopyMap
plays_update_copy_map = (
  u14.0,
  (
    start update_copy_map,
    refl,
    (Settling (start update_copy_map) u1.0 _ (settle_app no_shaders update_copy_map (start update_copy_map) u1.0
        refl refl refl refl refl refl u1.1)
        (Settling u1.0 u2.0 _ (settle_app no_shaders update_copy_map u1.0 u2.0 refl refl refl refl refl refl u2.1)
        (Settling u2.0 u3.0 _ (settle_app no_shaders update_copy_map u2.0 u3.0 refl refl refl refl refl refl u3.1)
        (Settling u3.0 u4.0 _ (settle_app no_shaders update_copy_map u3.0 u4.0 refl refl refl refl refl refl u4.1)
        (Settling u4.0 u5.0 _ (settle_app no_shaders update_copy_map u4.0 u5.0 refl refl refl refl refl refl u5.1)
        (Settling u5.0 u6.0 _ (settle_cs no_shaders update_copy_map u5.0 u6.0 refl refl refl refl refl u6.1)
        (Settling u6.0 u7.0 _ (settle_submit no_shaders update_copy_map u6.0 u7.0 refl refl refl u7.1)
        (Settling u7.0 u8.0 _ (settle_accept no_shaders update_copy_map u7.0 u8.0 refl refl u8.1)
        (Settling u8.0 u9.0 _ (settle_run no_shaders update_copy_map u8.0 u9.0 refl _ _ _ _ refl refl u9.1)
        (Settling u9.0 u10.0 _ (settle_run no_shaders update_copy_map u9.0 u10.0 refl _ _ _ _ refl refl u10.1)
        (Settling u10.0 u11.0 _ (settle_complete no_shaders update_copy_map u10.0 u11.0 refl u11.1)
        (Settling u11.0 u12.0 _ (settle_finish no_shaders update_copy_map u11.0 u12.0 u12.1)
        (Settling u12.0 u13.0 _ (settle_app no_shaders update_copy_map u12.0 u13.0 refl refl refl refl refl refl u13.1)
        (Settling u13.0 u14.0 _ (settle_app no_shaders update_copy_map u13.0 u14.0 refl refl refl refl refl refl
        u14.1) (At_end _ refl))))))))))))))),
  ),
  refl,
  refl,
)

-- Five buffers -------------------------------------------------------------------------------------------------------

abbrev f1 : Next five_buffers (start five_buffers) (App 0)
f1 = (
  _,
  app_takes no_shaders five_buffers (start five_buffers) _ _ _ refl refl refl refl
      (512, _, Own First_choices five_buffers 1 _ refl, refl),
)

abbrev f2 : Next five_buffers f1.0 (App 0)
f2 = (
  _,
  app_takes no_shaders five_buffers f1.0 _ _ _ refl refl refl refl
      (513, _, Own First_choices five_buffers 2 _ refl, refl),
)

abbrev f3 : Next five_buffers f2.0 (App 0)
f3 = (
  _,
  app_takes no_shaders five_buffers f2.0 _ _ _ refl refl refl refl
      (514, _, Own First_choices five_buffers 3 _ refl, refl),
)

abbrev f4 : Next five_buffers f3.0 (App 0)
f4 = (
  _,
  app_takes no_shaders five_buffers f3.0 _ _ _ refl refl refl refl
      (515, _, Own First_choices five_buffers 4 _ refl, refl),
)

abbrev f5 : Next five_buffers f4.0 (App 0)
f5 = (
  _,
  app_takes no_shaders five_buffers f4.0 _ _ _ refl refl refl refl
      (516, _, Own First_choices five_buffers 5 _ refl, refl),
)

abbrev f6 : Next five_buffers f5.0 (App 0)
f6 = (_, app_takes no_shaders five_buffers f5.0 _ _ _ refl refl refl refl refl)

abbrev f7 : Next five_buffers f6.0 (App 0)
f7 = (_, app_takes no_shaders five_buffers f6.0 _ _ _ refl refl refl refl refl)

abbrev f8 : Next five_buffers f7.0 (App 0)
f8 = (_, app_takes no_shaders five_buffers f7.0 _ _ _ refl refl refl refl refl)

abbrev f9 : Next five_buffers f8.0 (App 0)
f9 = (_, app_takes no_shaders five_buffers f8.0 _ _ _ refl refl refl refl refl)

abbrev f10 : Next five_buffers f9.0 (App 0)
f10 = (_, app_takes no_shaders five_buffers f9.0 _ _ _ refl refl refl refl refl)

abbrev f11 : Next five_buffers f10.0 (App 0)
f11 = (_, app_takes no_shaders five_buffers f10.0 _ _ _ refl refl refl refl refl)

abbrev f12 : Next five_buffers f11.0 (App 0)
f12 = (_, app_takes no_shaders five_buffers f11.0 _ _ _ refl refl refl refl refl)

abbrev f13 : Next five_buffers f12.0 (App 0)
f13 = (_, app_hands no_shaders five_buffers f12.0 _ refl refl refl refl refl)

abbrev f14 : Next five_buffers f13.0 Cs
f14 = (_, (refl, (_, _, refl, refl, refl)))

abbrev f15 : Next five_buffers f14.0 Submit
f15 = (_, (refl, (_, _, refl, refl, tt, refl)))

abbrev f16 : Next five_buffers f15.0 Accept
f16 = (_, (refl, (_, _, refl, refl, refl)))

abbrev f17 : Next five_buffers f16.0 (Run 0)
f17 = (_, (refl, ([], _, _, refl, [], _, _, refl, tt, refl, refl)))

abbrev f18 : Next five_buffers f17.0 (Run 2)
f18 = (_, (refl, ([], _, _, refl, _ ∷ _ ∷ [], _, _, refl, (refl, (refl, tt)), refl, refl)))

abbrev f19 : Next five_buffers f18.0 (Run 1)
f19 = (_, (refl, ([], _, _, refl, _ ∷ [], _, _, refl, (refl, tt), refl, refl)))

abbrev f20 : Next five_buffers f19.0 (Run 0)
f20 = (_, (refl, ([], _, _, refl, [], _, _, refl, tt, refl, refl)))

abbrev f21 : Next five_buffers f20.0 (Run 0)
f21 = (_, (refl, ([], _, _, refl, [], _, _, refl, tt, refl, refl)))

abbrev f22 : Next five_buffers f21.0 Complete
f22 = (_, (refl, (_, _, refl, refl, refl, refl)))

abbrev f23 : Next five_buffers f22.0 Finish
f23 = (_, (refl, (_, (_, _, refl, refl, refl), _, _, refl, refl)))

abbrev f24 : Next five_buffers f23.0 (App 1)
f24 = (
  _,
  (
    refl,
    (refl, (λ h. refl), _, (_, _, refl, refl), inl (refl, inr (inl (refl, _, _, refl, inl (refl, refl))))),
  ),
)

abbrev f25 : Next five_buffers f24.0 (App 0)
f25 = (_, (refl, (refl, (λ h. refl), _, refl, inl (refl, inr (inr (refl, refl, (omega arith), refl))))))

pub plays_five_buffers : PlaysFiveBuffers
plays_five_buffers = (
  f25.0,
  (
    f21.0,
    (
      f1.0,
      inl f1.1,
      (
        f2.0,
        inl f2.1,
        (
          f3.0,
          inl f3.1,
          (
            f4.0,
            inl f4.1,
            (
              f5.0,
              inl f5.1,
              (
                f6.0,
                inl f6.1,
                (
                  f7.0,
                  inl f7.1,
                  (
                    f8.0,
                    inl f8.1,
                    (
                      f9.0,
                      inl f9.1,
                      (
                        f10.0,
                        inl f10.1,
                        (
                          f11.0,
                          inl f11.1,
                          (
                            f12.0,
                            inl f12.1,
                            (
                              f13.0,
                              inl f13.1,
                              (
                                f14.0,
                                inl f14.1,
                                (
                                  f15.0,
                                  inl f15.1,
                                  (
                                    f16.0,
                                    inl f16.1,
                                    (
                                      f17.0,
                                      inl f17.1,
                                      (
                                        f18.0,
                                        inl f18.1,
                                        (
                                          f19.0,
                                          inl f19.1,
                                          (f20.0, inl f20.1, (f21.0, inl f21.1, refl)),
                                        ),
                                      ),
                                    ),
                                  ),
                                ),
                              ),
                            ),
                          ),
                        ),
                      ),
                    ),
                  ),
                ),
              ),
            ),
          ),
        ),
      ),
    ),
    (Settling f21.0 f22.0 _ (settle_complete no_shaders five_buffers f21.0 f22.0 refl f22.1)
        (Settling f22.0 f23.0 _ (settle_finish no_shaders five_buffers f22.0 f23.0 f23.1)
        (Settling f23.0 f24.0 _ (settle_app no_shaders five_buffers f23.0 f24.0 refl refl refl refl refl refl f24.1)
        (Settling f24.0 f25.0 _ (settle_app no_shaders five_buffers f24.0 f25.0 refl refl refl refl refl refl f25.1)
        (At_end _ refl))))),
  ),
  refl,
  refl,
  refl,
)
