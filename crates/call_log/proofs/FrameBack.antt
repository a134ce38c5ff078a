-- A record is the one that spells its call.
use Rattle.std.proofs.Common.{◌≡◌, ℕ, zero, suc, ◌+◌, ◌*◌, ◌%◌, ◌≤◌, Bool, true, false, eqb, leb, ◌==◌, if◌then◌else◌, subst, List, [], ◌∷◌, ◌++◌, length, drop, Some, refl, sym, ap, ◌∙◌, append_assoc, arith}
use Rattle.std.proofs.lemmas.Bool.{eqb-true, leb-true}
use Rattle.std.proofs.lemmas.List.{length-drop, drop-drop, drop_all}
use Rattle.byteorder.specs.Endian.{little_bytes, little_number}
use Rattle.call_log.specs.declared.kinds.Layout.TheVariants.{Words, Counted, Tokens}
use Rattle.call_log.specs.Body.{word, fits, fits_known, fits_layout, call_of, buffer_of, view_of, create_shader_of, query_of, destroy_of, set_shader_of, set_constant_of, set_srv_of, set_uav_of, dispatch_of, dispatch_indirect_of, copy_region_of, copy_of, update_of, clear_uav_of, set_predication_of, begin_of, end_query_of, map_write_of, map_read_of, get_data_of, finish_list_of, execute_list_of}
use Rattle.std.specs.List.{AllByRecursion}
use Rattle.std.specs.Option.{option_map}
use Rattle.call_log.specs.declared.kinds.TheConstants.{BUFFER, VIEW, CREATE_SHADER, QUERY, DESTROY, SET_SHADER, SET_CONSTANT, SET_SRV, SET_UAV, CLEAR_STATE, DISPATCH, DISPATCH_INDIRECT, COPY_REGION, COPY, UPDATE, CLEAR_UAV, SET_PREDICATION, BEGIN, END_QUERY, MAP_WRITE, MAP_READ, GET_DATA, FLUSH, FINISH_LIST, EXECUTE_LIST}
use Rattle.call_log.specs.Kinds.{Kind, kinds, kind_among, kind_numbered}
use Rattle.call_log.specs.Call.{Call, ClearState, Flush, Draw}
use Rattle.call_log.specs.Grammar.{Frame, IsFrame, AreBytes}
use Rattle.call_log.specs.Put.{spell_words, kind_of_call, body_of_call, frame_of}
use Rattle.call_log.proofs.Frames.{IsBytes, IsBytes-drop, both_true, four_0, four_1, four_2, four_3}
use Rattle.call_log.proofs.SomeReading.{all_bytes}

-- a word of some bytes, as bytes
first_word : (xs : List ℕ) → IsBytes xs → 4 ≤ length xs → little_bytes 4 (little_number 4 xs) ++ drop 4 xs ≡ xs
first_word [] fits le = absurd (omega arith)
first_word (a ∷ []) fits le = absurd (omega arith)
first_word (a ∷ b ∷ []) fits le = absurd (omega arith)
first_word (a ∷ b ∷ c ∷ []) fits le = absurd (omega arith)
first_word (a ∷ b ∷ c ∷ d ∷ xs) fits le =
    let n : ℕ = little_number 4 (a ∷ b ∷ c ∷ d ∷ xs) in
    let e0 = four_0 n a b c d refl (fits 0) in
    let e1 = four_1 n a b c d refl (fits 0) (fits 1) in
    let e2 = four_2 n a b c d refl (fits 0) (fits 1) (fits 2) in
    let e3 = four_3 n a b c d refl (fits 0) (fits 1) (fits 2) (fits 3) in
    λ i. e0 i ∷ e1 i ∷ e2 i ∷ e3 i ∷ xs

-- the n words of a body from word i on
abbrev pub words_from : ℕ → ℕ → List ℕ → List ℕ
words_from i zero body = []
words_from i (suc n) body = word i body ∷ words_from (suc i) n body

words_back : (i n : ℕ) (body : List ℕ) → IsBytes body → 4 * (i + n) ≤ length body → spell_words (words_from i n body) ++ drop (4 * (i + n)) body ≡ drop (4 * i) body
unfolding spell_words
words_back i zero body fits le = let e : 4 * (i + zero) ≡ 4 * i = omega arith in ap (λ (k : ℕ). drop k body) e
words_back i (suc n) body fits le =
    let e : 4 * (i + suc n) ≡ 4 * (suc i + n) = omega arith in
    let next : 4 * i + 4 ≡ 4 * suc i = omega arith in
    let others : spell_words (words_from (suc i) n body) ++ drop (4 * (suc i + n)) body ≡ drop (4 * suc i) body = words_back (suc i) n body fits (omega arith) in
    append_assoc (little_bytes 4 (word i body)) (spell_words (words_from (suc i) n body)) (drop (4 * (i + suc n)) body)
    ∙ ap (λ (k : ℕ). little_bytes 4 (word i body) ++ (spell_words (words_from (suc i) n body) ++ drop k body)) e
    ∙ ap (λ (l : List ℕ). little_bytes 4 (word i body) ++ l) (others ∙ ap (λ (k : ℕ). drop k body) (sym next) ∙ sym (drop-drop 4 (4 * i) body))
    ∙ first_word (drop (4 * i) body) (IsBytes-drop (4 * i) body fits) (omega (arith, length-drop (4 * i) body))

all_words : (n : ℕ) (body : List ℕ) → IsBytes body → 4 * n ≤ length body → spell_words (words_from 0 n body) ++ drop (4 * n) body ≡ body
all_words n body fits le =
    let e : 4 * n ≡ 4 * (0 + n) = omega arith in
    ap (λ (k : ℕ). spell_words (words_from 0 n body) ++ drop k body) e ∙ words_back 0 n body fits (omega arith)

words_fit : (n : ℕ) (body : List ℕ) → IsBytes body → fits_layout (Words n) body ≡ true → spell_words (words_from 0 n body) ++ [] ≡ body
words_fit n body fits f =
    let size : length body ≡ 4 * n = eqb-true _ _ f in
    ap (λ (l : List ℕ). spell_words (words_from 0 n body) ++ l) (sym (drop_all (4 * n) body (omega arith))) ∙ all_words n body fits (omega arith)

-- the bytes of a counted body are as many as the word before them says
record Counts (n : ℕ) (body : List ℕ) : Type 0 where
  long : 4 * (n + 1) ≤ length body
  size : length (drop (4 * n + 4) body) ≡ word n body

counts : (n : ℕ) (body : List ℕ) → fits_layout (Counted n) body ≡ true → Counts n body
counts n body f =
    let b = both_true (leb (4 * n + 4) (length body)) (eqb (length body) (4 * n + 4 + word n body)) f in
    let le : 4 * n + 4 ≤ length body = leb-true _ _ b.0 in
    let is : length body ≡ 4 * n + 4 + word n body = eqb-true _ _ b.1 in
    record { long = omega arith; size = omega (arith, length-drop (4 * n + 4) body) }

long_tokens : (body : List ℕ) → fits_layout Tokens body ≡ true → 4 * 1 ≤ length body
long_tokens body f = leb-true _ _ (both_true (leb 4 (length body)) (eqb (length body % 4) 0) f).0

-- a call is spelled by this kind and body
record IsSpelled (kind : ℕ) (body : List ℕ) (c : Call) : Type 0 where
  kind_is : kind_of_call c ≡ kind
  body_is : body_of_call c ≡ body

buffer_spelled : (body : List ℕ) → IsBytes body → fits_layout (Counted 6) body ≡ true → IsSpelled BUFFER body (buffer_of body)
buffer_spelled body fits f =
    let h : Counts 6 body = counts 6 body f in
    record { kind_is = refl; body_is = ap (λ (w : ℕ). spell_words (word 0 body ∷ word 1 body ∷ word 2 body ∷ word 3 body ∷ word 4 body ∷ word 5 body ∷ w ∷ []) ++ drop 28 body) h.size ∙ all_words 7 body fits h.long }

view_spelled : (body : List ℕ) → IsBytes body → fits_layout (Words 7) body ≡ true → IsSpelled VIEW body (view_of body)
view_spelled body fits f = record { kind_is = refl; body_is = words_fit 7 body fits f }

create_shader_spelled : (body : List ℕ) → IsBytes body → fits_layout Tokens body ≡ true → IsSpelled CREATE_SHADER body (create_shader_of body)
create_shader_spelled body fits f = record { kind_is = refl; body_is = all_words 1 body fits (long_tokens body f) }

query_spelled : (body : List ℕ) → IsBytes body → fits_layout (Words 2) body ≡ true → IsSpelled QUERY body (query_of body)
query_spelled body fits f = record { kind_is = refl; body_is = words_fit 2 body fits f }

destroy_spelled : (body : List ℕ) → IsBytes body → fits_layout (Words 2) body ≡ true → IsSpelled DESTROY body (destroy_of body)
destroy_spelled body fits f = record { kind_is = refl; body_is = words_fit 2 body fits f }

set_shader_spelled : (body : List ℕ) → IsBytes body → fits_layout (Words 1) body ≡ true → IsSpelled SET_SHADER body (set_shader_of body)
set_shader_spelled body fits f = record { kind_is = refl; body_is = words_fit 1 body fits f }

set_constant_spelled : (body : List ℕ) → IsBytes body → fits_layout (Words 2) body ≡ true → IsSpelled SET_CONSTANT body (set_constant_of body)
set_constant_spelled body fits f = record { kind_is = refl; body_is = words_fit 2 body fits f }

set_srv_spelled : (body : List ℕ) → IsBytes body → fits_layout (Words 2) body ≡ true → IsSpelled SET_SRV body (set_srv_of body)
set_srv_spelled body fits f = record { kind_is = refl; body_is = words_fit 2 body fits f }

set_uav_spelled : (body : List ℕ) → IsBytes body → fits_layout (Words 2) body ≡ true → IsSpelled SET_UAV body (set_uav_of body)
set_uav_spelled body fits f = record { kind_is = refl; body_is = words_fit 2 body fits f }

clear_state_spelled : (body : List ℕ) → IsBytes body → fits_layout (Words 0) body ≡ true → IsSpelled CLEAR_STATE body ClearState
clear_state_spelled body fits f = record { kind_is = refl; body_is = words_fit 0 body fits f }

dispatch_spelled : (body : List ℕ) → IsBytes body → fits_layout (Words 3) body ≡ true → IsSpelled DISPATCH body (dispatch_of body)
dispatch_spelled body fits f = record { kind_is = refl; body_is = words_fit 3 body fits f }

dispatch_indirect_spelled : (body : List ℕ) → IsBytes body → fits_layout (Words 2) body ≡ true → IsSpelled DISPATCH_INDIRECT body (dispatch_indirect_of body)
dispatch_indirect_spelled body fits f = record { kind_is = refl; body_is = words_fit 2 body fits f }

copy_region_spelled : (body : List ℕ) → IsBytes body → fits_layout (Words 5) body ≡ true → IsSpelled COPY_REGION body (copy_region_of body)
copy_region_spelled body fits f = record { kind_is = refl; body_is = words_fit 5 body fits f }

copy_spelled : (body : List ℕ) → IsBytes body → fits_layout (Words 2) body ≡ true → IsSpelled COPY body (copy_of body)
copy_spelled body fits f = record { kind_is = refl; body_is = words_fit 2 body fits f }

update_spelled : (body : List ℕ) → IsBytes body → fits_layout (Counted 2) body ≡ true → IsSpelled UPDATE body (update_of body)
update_spelled body fits f =
    let h : Counts 2 body = counts 2 body f in
    record { kind_is = refl; body_is = ap (λ (w : ℕ). spell_words (word 0 body ∷ word 1 body ∷ w ∷ []) ++ drop 12 body) h.size ∙ all_words 3 body fits h.long }

clear_uav_spelled : (body : List ℕ) → IsBytes body → fits_layout (Words 5) body ≡ true → IsSpelled CLEAR_UAV body (clear_uav_of body)
clear_uav_spelled body fits f = record { kind_is = refl; body_is = words_fit 5 body fits f }

set_predication_spelled : (body : List ℕ) → IsBytes body → fits_layout (Words 4) body ≡ true → IsSpelled SET_PREDICATION body (set_predication_of body)
set_predication_spelled body fits f = record { kind_is = refl; body_is = words_fit 4 body fits f }

begin_spelled : (body : List ℕ) → IsBytes body → fits_layout (Words 1) body ≡ true → IsSpelled BEGIN body (begin_of body)
begin_spelled body fits f = record { kind_is = refl; body_is = words_fit 1 body fits f }

end_query_spelled : (body : List ℕ) → IsBytes body → fits_layout (Words 1) body ≡ true → IsSpelled END_QUERY body (end_query_of body)
end_query_spelled body fits f = record { kind_is = refl; body_is = words_fit 1 body fits f }

map_write_spelled : (body : List ℕ) → IsBytes body → fits_layout (Counted 3) body ≡ true → IsSpelled MAP_WRITE body (map_write_of body)
map_write_spelled body fits f =
    let h : Counts 3 body = counts 3 body f in
    record { kind_is = refl; body_is = ap (λ (w : ℕ). spell_words (word 0 body ∷ word 1 body ∷ word 2 body ∷ w ∷ []) ++ drop 16 body) h.size ∙ all_words 4 body fits h.long }

map_read_spelled : (body : List ℕ) → IsBytes body → fits_layout (Words 4) body ≡ true → IsSpelled MAP_READ body (map_read_of body)
map_read_spelled body fits f = record { kind_is = refl; body_is = words_fit 4 body fits f }

get_data_spelled : (body : List ℕ) → IsBytes body → fits_layout (Words 2) body ≡ true → IsSpelled GET_DATA body (get_data_of body)
get_data_spelled body fits f = record { kind_is = refl; body_is = words_fit 2 body fits f }

flush_spelled : (body : List ℕ) → IsBytes body → fits_layout (Words 0) body ≡ true → IsSpelled FLUSH body Flush
flush_spelled body fits f = record { kind_is = refl; body_is = words_fit 0 body fits f }

finish_list_spelled : (body : List ℕ) → IsBytes body → fits_layout (Words 1) body ≡ true → IsSpelled FINISH_LIST body (finish_list_of body)
finish_list_spelled body fits f = record { kind_is = refl; body_is = words_fit 1 body fits f }

execute_list_spelled : (body : List ℕ) → IsBytes body → fits_layout (Words 2) body ≡ true → IsSpelled EXECUTE_LIST body (execute_list_of body)
execute_list_spelled body fits f = record { kind_is = refl; body_is = words_fit 2 body fits f }

-- what the bodies of a kind spell
Spells : Kind → Type 0
Spells k = (body : List ℕ) → IsBytes body → fits_layout k.layout body ≡ true → IsSpelled k.number body (call_of k.number body)

draw_spelled : (kind : ℕ) (body : List ℕ) → IsSpelled kind body (Draw kind body)
unfolding spell_words
draw_spelled kind body = record { kind_is = refl; body_is = refl }

each_spells : AllByRecursion Spells kinds
unfolding Spells call_of
each_spells = (
  buffer_spelled,
  (
    view_spelled,
    (
      create_shader_spelled,
      (
        query_spelled,
        (
          destroy_spelled,
          (
            set_shader_spelled,
            (
              set_constant_spelled,
              (
                set_srv_spelled,
                (
                  set_uav_spelled,
                  (
                    clear_state_spelled,
                    (
                      dispatch_spelled,
                      (
                        dispatch_indirect_spelled,
                        (
                          copy_region_spelled,
                          (
                            copy_spelled,
                            (
                              update_spelled,
                              (
                                clear_uav_spelled,
                                (
                                  set_predication_spelled,
                                  (
                                    begin_spelled,
                                    (
                                      end_query_spelled,
                                      (
                                        map_write_spelled,
                                        (
                                          map_read_spelled,
                                          (
                                            get_data_spelled,
                                            (
                                              flush_spelled,
                                              (
                                                finish_list_spelled,
                                                (
                                                  execute_list_spelled,
                                                  (
                                                    λ body fits f. draw_spelled 64 body,
                                                    (
                                                      λ body fits f. draw_spelled 65 body,
                                                      (
                                                        λ body fits f. draw_spelled 66 body,
                                                        (
                                                          λ body fits f. draw_spelled 67 body,
                                                          (
                                                            λ body fits f. draw_spelled 68 body,
                                                            (
                                                              λ body fits f. draw_spelled 69 body,
                                                              (
                                                                λ body fits f. draw_spelled 70 body,
                                                                (
                                                                  λ body fits f. draw_spelled 71 body,
                                                                  (
                                                                    λ body fits f. draw_spelled 72 body,
                                                                    (
                                                                      λ body fits f. draw_spelled 73 body,
                                                                      (
                                                                        λ body fits f. draw_spelled 74 body,
                                                                        (
                                                                          λ body fits f. draw_spelled 75 body,
                                                                          (
                                                                            λ body fits f. draw_spelled 76 body,
                                                                            (
                                                                              λ body fits f. draw_spelled 77 body,
                                                                              (
                                                                                λ body fits f. draw_spelled 78 body,
                                                                                (
                                                                                  λ body fits f. draw_spelled 79 body,
                                                                                  tt,
                                                                                ),
                                                                              ),
                                                                            ),
                                                                          ),
                                                                        ),
                                                                      ),
                                                                    ),
                                                                  ),
                                                                ),
                                                              ),
                                                            ),
                                                          ),
                                                        ),
                                                      ),
                                                    ),
                                                  ),
                                                ),
                                              ),
                                            ),
                                          ),
                                        ),
                                      ),
                                    ),
                                  ),
                                ),
                              ),
                            ),
                          ),
                        ),
                      ),
                    ),
                  ),
                ),
              ),
            ),
          ),
        ),
      ),
    ),
  ),
)

spells_one : (n : ℕ) (j : Kind) (ks : List Kind) (b : Bool) (body : List ℕ) → (j.number == n) ≡ b → Spells j → (fits_known (option_map (λ k. k.layout) (kind_among n ks)) body ≡ true → IsSpelled n body (call_of n body)) → IsBytes body
    → fits_known (option_map (λ k. k.layout) (if b then Some j else kind_among n ks)) body ≡ true → IsSpelled n body (call_of n body)
unfolding Spells
spells_one n j ks true body is this others fits h = subst (λ (m : ℕ). IsSpelled m body (call_of m body)) (eqb-true _ _ is) (this body fits h)
spells_one n j ks false body is this others fits h = others h

spells_among : (n : ℕ) (ks : List Kind) (body : List ℕ) → AllByRecursion Spells ks → IsBytes body → fits_known (option_map (λ k. k.layout) (kind_among n ks)) body ≡ true → IsSpelled n body (call_of n body)
spells_among n [] body all fits h = absurd cc
spells_among n (k ∷ ks) body all fits h = spells_one n k ks (k.number == n) body refl all.0 (spells_among n ks body all.1 fits) fits h

all_spelled : (kind : ℕ) (body : List ℕ) → IsBytes body → fits kind body ≡ true → IsSpelled kind body (call_of kind body)
unfolding kind_numbered
all_spelled kind body fits h = spells_among kind kinds body each_spells fits h

pub frame_of-call_of : (f : Frame) → IsFrame f → AreBytes f.body → frame_of f.context (call_of f.kind f.body) ≡ f
frame_of-call_of f h are =
    let s : IsSpelled f.kind f.body (call_of f.kind f.body) = all_spelled f.kind f.body (all_bytes f.body are) h.whole in
    λ i. record { kind = s.kind_is i; context = f.context; body = s.body_is i }
