-- How deep the tree of statements is, and how many nodes it has.
use Rattle.std.proofs.Common.{◌≡◌, ◌≤◌, ℕ, zero, suc, ◌+◌, max, Bool, true, false, ◌&&◌, nat_lt, List, [], ◌∷◌, length, Some, refl, ap, sym, subst, arith}
use Rattle.std.proofs.lemmas.Bool.Decides.{nat_tests}
use Rattle.shader_model.specs.declared.tree.Test.{Test}
use Rattle.shader_model.specs.declared.statement.Statement.{Statement}
use Rattle.shader_model.specs.declared.statement.Statement.TheVariants as word
use Rattle.shader_model.specs.Body.{Body, End, Plain, If, Loop, Break, Continue, Return}
use Rattle.shader_model.specs.Nesting.{Block, InIf, InElse, InLoop, outer, opened, takes_else, takes_endif, takes_endloop, has_place, nests, Spelled, Whole, Upto, Torn, Closer, AtElse, AtEndif, AtEndloop, put, parted, branched, repeated, spelled, tree_of, whole}
use Rattle.shader_model.specs.Good.{depth, size}

-- ## Depth

-- the closers' blocks lie one less deep, and an else on the same depth
abbrev behind_depth : Closer → ℕ → ℕ
behind_depth AtElse k = k
behind_depth AtEndif k = suc k
behind_depth AtEndloop k = suc k

-- blocks are at most so deep, where the first is at most k deep
abbrev Shallow : ℕ → Spelled → Type 0
Shallow k (Whole b) = depth b ≤ k
Shallow k (Upto b c behind) = (depth b ≤ k) × Shallow (behind_depth c k) behind
Shallow k Torn = Unit {0}

put_shallow : (k : ℕ) (f : Body → Body) → ((b : Body) → depth b ≤ k → depth (f b) ≤ k) → (s : Spelled) → Shallow k s → Shallow k (put f s)
put_shallow k f keeps (Whole b) h = keeps b h
put_shallow k f keeps (Upto b c behind) h = (keeps b h.0, h.1)
put_shallow k f keeps Torn h = tt

if_depth : (a b r k : ℕ) → a ≤ k → b ≤ k → r ≤ suc k → max (suc (max a b)) r ≤ suc k
if_depth a b r k ha hb hr = omega arith

loop_depth : (a r k : ℕ) → a ≤ k → r ≤ suc k → max (suc a) r ≤ suc k
loop_depth a r k ha hr = omega arith

parted_shallow : (k : ℕ) (t : Test) (taken : Body) → depth taken ≤ k → (s : Spelled) → Shallow k s → Shallow (suc k) (parted t taken s)
parted_shallow k t taken ht (Whole b) h = tt
parted_shallow k t taken ht (Upto b AtElse behind) h = tt
parted_shallow k t taken ht (Upto b AtEndif behind) h = put_shallow (suc k) (If t taken b) (λ rest hr. if_depth (depth taken) (depth b) (depth rest) k ht h.0 hr) behind h.1
parted_shallow k t taken ht (Upto b AtEndloop behind) h = tt
parted_shallow k t taken ht Torn h = tt

branched_shallow : (k : ℕ) (t : Test) (s : Spelled) → Shallow k s → Shallow (suc k) (branched t s)
branched_shallow k t (Whole b) h = tt
branched_shallow k t (Upto b AtElse behind) h = parted_shallow k t b h.0 behind h.1
branched_shallow k t (Upto b AtEndif behind) h = put_shallow (suc k) (If t b End) (λ rest hr. if_depth (depth b) 0 (depth rest) k h.0 (omega arith) hr) behind h.1
branched_shallow k t (Upto b AtEndloop behind) h = tt
branched_shallow k t Torn h = tt

repeated_shallow : (k : ℕ) (s : Spelled) → Shallow k s → Shallow (suc k) (repeated s)
repeated_shallow k (Whole b) h = tt
repeated_shallow k (Upto b AtElse behind) h = tt
repeated_shallow k (Upto b AtEndif behind) h = tt
repeated_shallow k (Upto b AtEndloop behind) h = put_shallow (suc k) (Loop b) (λ rest hr. loop_depth (depth b) (depth rest) k h.0 hr) behind h.1
repeated_shallow k Torn h = tt

and_first : (a b : Bool) → a && b ≡ true → a ≡ true
and_first true b h = refl
and_first false b h = cc

and_last : (a b : Bool) → a && b ≡ true → b ≡ true
and_last true b h = h
and_last false b h = cc

no_room : (n : ℕ) → 0 + n ≡ 64 → nat_lt n 64 ≡ true → ⊥
no_room n e h = grind (arith, nat_tests)

opens_shallow : (k n : ℕ) (s out : Spelled) → k + n ≡ 64 → nat_lt n 64 ≡ true → ((j : ℕ) → j + suc n ≡ 64 → Shallow j s) → ((j : ℕ) → Shallow j s → Shallow (suc j) out) → Shallow k out
opens_shallow zero n s out e h inner go = absurd (no_room n e h)
opens_shallow (suc k) n s out e h inner go = go k (inner k (omega arith))

else_shallow : (k : ℕ) (bs : List Block) (s : Spelled) → takes_else bs ≡ true → k + length bs ≡ 64 → ((j : ℕ) → j + length (InElse ∷ outer bs) ≡ 64 → Shallow j s) → Shallow k (Upto End AtElse s)
else_shallow k [] s t e h = cc
else_shallow k (InIf ∷ bs) s t e h = (omega arith, h k e)
else_shallow k (InElse ∷ bs) s t e h = cc
else_shallow k (InLoop ∷ bs) s t e h = cc

endif_shallow : (k : ℕ) (bs : List Block) (s : Spelled) → takes_endif bs ≡ true → k + length bs ≡ 64 → ((j : ℕ) → j + length (outer bs) ≡ 64 → Shallow j s) → Shallow k (Upto End AtEndif s)
endif_shallow k [] s t e h = cc
endif_shallow k (InIf ∷ bs) s t e h = (omega arith, h (suc k) (omega arith))
endif_shallow k (InElse ∷ bs) s t e h = (omega arith, h (suc k) (omega arith))
endif_shallow k (InLoop ∷ bs) s t e h = cc

endloop_shallow : (k : ℕ) (bs : List Block) (s : Spelled) → takes_endloop bs ≡ true → k + length bs ≡ 64 → ((j : ℕ) → j + length (outer bs) ≡ 64 → Shallow j s) → Shallow k (Upto End AtEndloop s)
endloop_shallow k [] s t e h = cc
endloop_shallow k (InIf ∷ bs) s t e h = cc
endloop_shallow k (InElse ∷ bs) s t e h = cc
endloop_shallow k (InLoop ∷ bs) s t e h = (omega arith, h (suc k) (omega arith))

-- statements that nest spell blocks as deep as there is room
nested_shallow : (k : ℕ) (earlier later : List Statement) → k + length (opened earlier) ≡ 64 → nests earlier later ≡ true → Shallow k (spelled later)
nested_shallow k earlier [] e h = omega arith
nested_shallow k earlier (word.Plain i ∷ later) e h = put_shallow k (Plain i) (λ b hb. hb) (spelled later) (nested_shallow k (word.Plain i ∷ earlier) later e h)
nested_shallow k earlier (word.If t ∷ later) e h =
    let room = and_first (has_place (word.If t) (opened earlier)) (nests (word.If t ∷ earlier) later) h in
    let rest = and_last (has_place (word.If t) (opened earlier)) (nests (word.If t ∷ earlier) later) h in
    opens_shallow k (length (opened earlier)) (spelled later) (branched t (spelled later)) e room (λ j ej. nested_shallow j (word.If t ∷ earlier) later ej rest) (λ j. branched_shallow j t (spelled later))
nested_shallow k earlier (word.Else ∷ later) e h =
    let place = and_first (takes_else (opened earlier)) (nests (word.Else ∷ earlier) later) h in
    let rest = and_last (takes_else (opened earlier)) (nests (word.Else ∷ earlier) later) h in
    else_shallow k (opened earlier) (spelled later) place e (λ j ej. nested_shallow j (word.Else ∷ earlier) later ej rest)
nested_shallow k earlier (word.Endif ∷ later) e h =
    let place = and_first (takes_endif (opened earlier)) (nests (word.Endif ∷ earlier) later) h in
    let rest = and_last (takes_endif (opened earlier)) (nests (word.Endif ∷ earlier) later) h in
    endif_shallow k (opened earlier) (spelled later) place e (λ j ej. nested_shallow j (word.Endif ∷ earlier) later ej rest)
nested_shallow k earlier (word.Loop ∷ later) e h =
    let room = and_first (has_place word.Loop (opened earlier)) (nests (word.Loop ∷ earlier) later) h in
    let rest = and_last (has_place word.Loop (opened earlier)) (nests (word.Loop ∷ earlier) later) h in
    opens_shallow k (length (opened earlier)) (spelled later) (repeated (spelled later)) e room (λ j ej. nested_shallow j (word.Loop ∷ earlier) later ej rest) (λ j. repeated_shallow j (spelled later))
nested_shallow k earlier (word.Endloop ∷ later) e h =
    let place = and_first (takes_endloop (opened earlier)) (nests (word.Endloop ∷ earlier) later) h in
    let rest = and_last (takes_endloop (opened earlier)) (nests (word.Endloop ∷ earlier) later) h in
    endloop_shallow k (opened earlier) (spelled later) place e (λ j ej. nested_shallow j (word.Endloop ∷ earlier) later ej rest)
nested_shallow k earlier (word.Break t ∷ later) e h =
    put_shallow k (Break t) (λ b hb. hb) (spelled later) (nested_shallow k (word.Break t ∷ earlier) later e (and_last (has_place (word.Break t) (opened earlier)) (nests (word.Break t ∷ earlier) later) h))
nested_shallow k earlier (word.Continue t ∷ later) e h =
    put_shallow k (Continue t) (λ b hb. hb) (spelled later) (nested_shallow k (word.Continue t ∷ earlier) later e (and_last (has_place (word.Continue t) (opened earlier)) (nests (word.Continue t ∷ earlier) later) h))
nested_shallow k earlier (word.Return t ∷ later) e h = put_shallow k (Return t) (λ b hb. hb) (spelled later) (nested_shallow k (word.Return t ∷ earlier) later e h)

whole_depth : (s : Spelled) (b : Body) → whole s ≡ Some b → Shallow 64 s → depth b ≤ 64
whole_depth (Whole c) b e h = let is : c ≡ b = cc in let P : Body → Type 0 = λ z. depth z ≤ 64 in subst P is h
whole_depth (Upto c k behind) b e h = cc
whole_depth Torn b e h = cc

-- the tree of statements that nest is at most 64 deep
pub tree_depth : (ss : List Statement) (b : Body) → nests [] ss ≡ true → tree_of ss ≡ Some b → depth b ≤ 64
tree_depth ss b h e = whole_depth (spelled ss) b e (nested_shallow 64 [] ss refl h)

-- ## Size

-- the nodes of all blocks
abbrev weight : Spelled → ℕ
weight (Whole b) = size b
weight (Upto b c behind) = size b + weight behind
weight Torn = 0

put_weight : (f : Body → Body) (n : ℕ) → ((b : Body) → size (f b) ≤ n + size b) → (s : Spelled) → weight (put f s) ≤ n + weight s
put_weight f n h (Whole b) = h b
put_weight f n h (Upto b c behind) = omega (arith, h b)
put_weight f n h Torn = omega arith

parted_weight : (t : Test) (taken : Body) (s : Spelled) → weight (parted t taken s) ≤ suc (size taken + weight s)
parted_weight t taken (Whole b) = omega arith
parted_weight t taken (Upto b AtElse behind) = omega arith
parted_weight t taken (Upto b AtEndif behind) = omega (arith, put_weight (If t taken b) (suc (size taken + size b)) (λ rest. omega arith) behind)
parted_weight t taken (Upto b AtEndloop behind) = omega arith
parted_weight t taken Torn = omega arith

branched_weight : (t : Test) (s : Spelled) → weight (branched t s) ≤ suc (weight s)
branched_weight t (Whole b) = omega arith
branched_weight t (Upto b AtElse behind) = omega (arith, parted_weight t b behind)
branched_weight t (Upto b AtEndif behind) = omega (arith, put_weight (If t b End) (suc (size b)) (λ rest. omega arith) behind)
branched_weight t (Upto b AtEndloop behind) = omega arith
branched_weight t Torn = omega arith

repeated_weight : (s : Spelled) → weight (repeated s) ≤ suc (weight s)
repeated_weight (Whole b) = omega arith
repeated_weight (Upto b AtElse behind) = omega arith
repeated_weight (Upto b AtEndif behind) = omega arith
repeated_weight (Upto b AtEndloop behind) = omega (arith, put_weight (Loop b) (suc (size b)) (λ rest. omega arith) behind)
repeated_weight Torn = omega arith

spelled_weight : (ss : List Statement) → weight (spelled ss) ≤ length ss
spelled_weight [] = omega arith
spelled_weight (word.Plain i ∷ later) = omega (arith, put_weight (Plain i) 1 (λ rest. omega arith) (spelled later), spelled_weight later)
spelled_weight (word.If t ∷ later) = omega (arith, branched_weight t (spelled later), spelled_weight later)
spelled_weight (word.Else ∷ later) = omega (arith, spelled_weight later)
spelled_weight (word.Endif ∷ later) = omega (arith, spelled_weight later)
spelled_weight (word.Loop ∷ later) = omega (arith, repeated_weight (spelled later), spelled_weight later)
spelled_weight (word.Endloop ∷ later) = omega (arith, spelled_weight later)
spelled_weight (word.Break t ∷ later) = omega (arith, put_weight (Break t) 1 (λ rest. omega arith) (spelled later), spelled_weight later)
spelled_weight (word.Continue t ∷ later) = omega (arith, put_weight (Continue t) 1 (λ rest. omega arith) (spelled later), spelled_weight later)
spelled_weight (word.Return t ∷ later) = omega (arith, put_weight (Return t) 1 (λ rest. omega arith) (spelled later), spelled_weight later)

whole_weight : (s : Spelled) (b : Body) → whole s ≡ Some b → size b ≡ weight s
whole_weight (Whole c) b e = let is : c ≡ b = cc in ap size (sym is)
whole_weight (Upto c k behind) b e = cc
whole_weight Torn b e = cc

-- the tree has at most as many nodes as there are statements
pub tree_size : (ss : List Statement) (b : Body) → tree_of ss ≡ Some b → size b ≤ length ss
tree_size ss b e = omega (arith, whole_weight (spelled ss) b e, spelled_weight ss)
