-- `part` lends the next bytes if as many are left, and else none: where none are lent, the loan is given up and the page
-- is as it was.
use Rattle.std.specs.Prelude.{⊤, Some, None}
use Rattle.std.specs.Option.{IsSome}
use Rattle.std.specs.contracts.option.Option as option
use Rattle.std.proofs.lemmas.Bool.{false≢true}
use Rattle.std.proofs.Common.{◌↔◌, lit<, arith, ◌≡◌, ℕ, ◌+◌, ◌≤◌, List, [], ◌∷◌, length, slice_range, refl, ap, ◌∙◌, w64, MutBor}
use Rattle.std.proofs.raw_atomic.Walks.{proved, leaves}
use base.Fml.{ftrue, flft, fres}
use base.Logic.{id⊢, emp}
use contract.Monad.{fact, fact_i}
use contract.Running.{tables}
use denote.Builtin.{u8, u64}
use denote.Exit.{no, yes}
use denote.Follow.{follows_by}
use denote.FollowSlice.{slice_given_up}
use denote.Laws.{Is, shows}
use denote.Plain.{uint_Makes, uint_Tells, uint_vals}
use denote.Ref.{MutRef, mut_Tells, mut_vals}
use denote.Signature.{plain}
use denote.Slice.{MutSlice, mut_slice_vals, slice_val}
use denote.Steps.{heard, nothing, only, owned, peeks}
use denote.Triple.Call.{calls_at}
use denote.Triple.Clauses.{lasts}
use denote.Triple.Spec.{triple_of}
use denote.Triple.Table.{framed}
use denote.Triple.Walked.{Goes-dropped, Goes-spent_ref, Stays, stay_dropped, walk_of}
use mir.Syntax.{named}
use mir.Val.{Val, of_list}
use types.ByLocal.{alloc_all, env, free_all, get, get_in, lands_as, look_at, look_in_at, pass_all, sets, through}
use types.Kit.{at_ret, await, by, drop, fjoin, given, join, keep, later, learn, move, pick, qed, raw, rewrite, some, split, use0, use1, use2, ◌$◌, ◌∵◌, ◌⊛◌, !, ‵}
use types.Part.{agg, sub, whole}
use types.Match.{live}
use types.Run.{addr, and_then, bin, branches, enter, exec, first, fld, from, hop, lit, no_more, of_opd, returns, returns_within, skips, stop}
use Rattle.buffer_blocks.specs.Block.{bytes_of}
use Rattle.staging_pages.specs.Page.{LendsNext, fitting, staged}
use Rattle.staging_pages.specs.PageState.{PageState}
use Rattle.staging_pages.specs.contracts.page.Page.{the_row as R}
use Rattle.staging_pages.specs.contracts.page.Page.part as f
use Rattle.staging_pages.specs.contracts.page.Page.take_if_left as taken
use Rattle.staging_pages.proofs.page.Page.part.Code as code
use Rattle.staging_pages.proofs.page.Page.part.Statement.{statement}
use Rattle.staging_pages.proofs.page.Page.take_if_left.Met as taken_met
use Rattle.staging_pages.proofs.Fitting.{all_left, none_left, equal, not_equal}
use Rattle.staging_pages.proofs.Lent.{some_of, none_of}

abbrev stayed : Stays f.ended.signature.params f.ended.kept
stayed = (stay_dropped _ no, (stay_dropped _ yes, tt))

pub part_spec : {M : Type 1} → statement M
unfolding follows_by
part_spec 𝓤 𝓛 𝓜 𝓡 wired =
    let c = f.clauses 𝓛 𝓜.mem 𝓡.returns in let W = walk_of 𝓛 f.ended stayed c in let 𝓣 = tables 𝓤 𝓛.H 𝓜 𝓡 𝓡.env in
    proved 𝓛 f.ended stayed c 𝓜 𝓡 (Goes-spent_ref 𝓛 1 (0 ∷ []) tt (plain (λ _. R)), (Goes-dropped 𝓛 1 (plain (λ _. u64)) yes (λ κs x w. refl), tt))
    f.Key.name code.function (code.unfolded 𝓤 𝓛.H 𝓜 𝓡 wired)
    (λ κs. (mut_vals, (uint_vals w64, tt))) (λ κs. (mut_Tells (named 0) κs.0 R, (uint_Tells w64, tt))) (λ κs qs bounds a _ are.
    let κ = κs.0 in let q = qs.0 in let r = a.0 in let len = a.1.0 in let vs = mut_vals r in
    let Slice = MutSlice (named 0) κ u8 in
    let y : W.Ghost = ((κs, qs, bounds, a, (vs, (uint_vals w64 len, tt))), tt) in
    qed 𝓛 (((‵ (flft κ q) ⊛ ‵ ftrue) ⊛ (‵ ((MutRef (named 0) κ R).own_val r vs) ⊛ (‵ (u64.own_val len (uint_vals w64 len)) ⊛ ‵ ftrue))) ∷ ‵ ftrue ∷ []) ∵
    split ! $ split ! $ move ! (2 ∷ []) $ split ! $ keep ! (0 ∷ 2 ∷ []) $
    enter ! _ _ _ _ _ $ alloc_all ! (λ l. pass_all ! refl ((tt, tt), ((tt, record { fits = are.1.0.1 }), tt)) $
    -- [the page; the token]
    sets ! (addr ! (through ! refl (stop !))) refl (tt, tt) $
    let G = triple_of 𝓛 taken.signature (taken.spec 𝓛 𝓜.mem 𝓡.returns) in
    let z : G.Ghost = ((κs, qs, bounds, (r, (len, tt)), (vs, (uint_vals w64 len, tt))), tt) in
    nothing ! $ owned ! u64 (Is u64) (uint_Makes 𝓛 w64) len _ (refl, are.1.0.1) $ join ! $ move ! (1 ∷ 0 ∷ []) $ join ! $
    nothing ! $ move ! (2 ∷ 0 ∷ []) $ join ! $ join ! $ nothing ! $ move ! (1 ∷ 0 ∷ []) $ use2 𝓛 (raw (G.pre z)) (id⊢ 𝓤 _) $
    calls_at ! (framed 𝓤 𝓛.H 𝓜 𝓣) G (taken_met.met 𝓤 𝓛 𝓜 𝓡 (code.calls-staging_pages::page::Page::take_if_left 𝓡.env wired)) z
    (and_then ! (get ! refl) (and_then ! (get ! refl) (no_more !))) (λ v.
    use1 𝓛 (later (some (λ (s : MutBor (List ℕ)). ((‵ (flft κ q) ⊛ ‵ ftrue) ⊛ ‵ (Slice.own_val s (v ∷ []))) ⊛
    some (λ (ws : Unit {0} × (Unit {0} × Unit {0})). ‵ (lasts taken.ended κs (r, (len, tt)) ws) ⊛ (‵ (LendsNext r (fitting r.now len) s) ⊛
    (raw (fact 𝓤 (s.now ≡ slice_range (bytes_of r.now.block) r.now.used (r.now.used + fitting r.now len))) ⊛ raw (fact 𝓤 (r.now.used ≤ length (bytes_of r.now.block))))))))) (id⊢ 𝓤 _) $
    await ! tt $ pick ! (λ s. split ! $ split ! $ split ! $ move ! (3 ∷ []) $ pick ! (λ ws. split ! $ drop ! $ split ! $ move ! (1 ∷ []) $ split ! $
    heard ! _ (λ value. heard ! _ (λ within.
    -- [the page follows the bytes; the token; nothing; the bytes]
    move ! (3 ∷ []) $ peeks ! Slice (Is Slice) (shows 𝓛 Slice) s (v ∷ []) (λ is.
    rewrite ! 0 (λ (us : List Val). ‵ (Slice.own_val s us)) is.0.0 refl $
    lands_as ! (ap only is.0.0) refl (tt, (tt, (record { fits = is.0.1.0 }, tt))) $
    sets ! (of_opd ! (get_in ! (fld ! refl (stop !)) (sub ! 1 refl (whole !)))) refl (tt, record { fits = is.0.1.0 }) $
    sets ! (of_opd ! (get ! refl)) refl (tt, record { fits = is.0.1.0 }) $
    sets ! (bin ! (get ! refl) (get ! refl) tt) refl (tt, tt) $
    first ! $ branches ! (get ! refl)
    (λ other.
    let none = none_left r.now len within s.now value (not_equal (length s.now) len other) in
    use2 𝓛 (later (given (mut_slice_vals s ≡ mut_slice_vals s) (‵ (fres r.ghost_name (R.coded.code (staged r.now (fitting r.now len) s.now))))))
    (slice_given_up 𝓛 R u8 (staged r.now (fitting r.now len)) (named 0) κ r.ghost_name s (mut_slice_vals s)) $ await ! tt $ learn ! (λ _.
    rewrite ! 0 (λ (p : PageState). ‵ (fres r.ghost_name (R.coded.code p))) none.1 refl $
    sets ! (agg ! (and_then ! (lit ! tt) (no_more !))) refl (tt, (record { fits = lit< tt }, tt)) $
    returns_within ! (W.post y) refl (look_at ! 0 refl) $ free_all ! refl $ keep ! (0 ∷ 1 ∷ []) $
    -- [the page as it was; the token]
    use0 𝓛 (raw (fact 𝓤 ⊤)) (fact_i 𝓤 _ (emp 𝓤) tt) $
    use0 𝓛 (raw (fact 𝓤 (IsSome {T = MutBor (List ℕ)} None ↔ (r.now.used + len ≤ length (bytes_of r.now.block))))) (fact_i 𝓤 _ (emp 𝓤) ((λ some. absurd (false≢true some)), λ some. absurd (omega arith))) $ join ! $
    move ! (1 ∷ 0 ∷ []) $ join ! $ use0 𝓛 (‵ ((option.the_row Slice).own_val None (live 0 (of_list []) ∷ []))) (none_of 𝓛 Slice) $ join ! $
    nothing ! $ nothing ! $ fjoin ! $ nothing ! $ fjoin ! $ join ! $ nothing ! $ move ! (2 ∷ 0 ∷ []) $ fjoin ! $ join ! $
    by ! (leaves 𝓛 f.ended stayed c y (live 0 (of_list [])) None (tt, (tt, tt)) (tt, (tt, tt)))))
    (λ same. skips ! $ exec ! 𝓣.C 𝓣.Λ (env code.Mir.locals l) code.Mir.t-7 (at_ret _ (W.post y)) $
    let bytes : Val = slice_val s.ref_ptr (length s.now) in
    let whole' = all_left r.now len within s.now value (equal (length s.now) len same) in
    sets ! (addr ! (from ! (fld ! refl (hop ! (look_in_at ! 3 (sub ! 0 refl (whole !))) (stop !))))) refl (tt, tt) $
    sets ! (agg ! (and_then ! (get ! refl) (and_then ! (get_in ! (fld ! refl (stop !)) (sub ! 1 refl (whole !))) (no_more !)))) refl (tt, (tt, (record { fits = is.0.1.0 }, tt))) $
    sets ! (agg ! (and_then ! (lit ! tt) (and_then ! (get ! refl) (no_more !)))) refl (tt, (record { fits = lit< tt }, ((tt, (record { fits = is.0.1.0 }, tt)), tt))) $
    returns ! (look_at ! 0 refl) $ free_all ! refl $ keep ! (0 ∷ 1 ∷ 2 ∷ []) $
    -- [the bytes; the page follows them; the token]
    use1 𝓛 (‵ ((option.the_row Slice).own_val (Some s) (live 1 (of_list (bytes ∷ [])) ∷ []))) (some_of 𝓛 Slice s bytes) $
    rewrite ! 1 (λ (n : ℕ). ‵ (LendsNext r n s)) whole'.1 refl $
    use0 𝓛 (raw (fact 𝓤 (s.now ≡ slice_range (bytes_of r.now.block) r.now.used (r.now.used + len)))) (fact_i 𝓤 _ (emp 𝓤) (value ∙ ap (λ n. slice_range (bytes_of r.now.block) r.now.used (r.now.used + n)) whole'.1)) $
    use0 𝓛 (raw (fact 𝓤 (IsSome (Some s) ↔ (r.now.used + len ≤ length (bytes_of r.now.block))))) (fact_i 𝓤 _ (emp 𝓤) ((λ _. whole'.0), λ _. refl)) $ join ! $
    move ! (2 ∷ 0 ∷ []) $ join ! $ move ! (1 ∷ 0 ∷ []) $ join ! $
    nothing ! $ nothing ! $ fjoin ! $ nothing ! $ fjoin ! $ join ! $ nothing ! $ move ! (2 ∷ 0 ∷ []) $ fjoin ! $ join ! $
    by ! (leaves 𝓛 f.ended stayed c y (live 1 (of_list (bytes ∷ []))) (Some s) (tt, (tt, tt)) (tt, (tt, tt))))))))))))
