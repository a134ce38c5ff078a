-- The calls of a log that was read have bytes, as its records do.
use Rattle.std.proofs.Common.{◌≡◌, ℕ, zero, suc, ◌<◌, Bool, true, false, ◌==◌, List, [], ◌∷◌, ◌++◌, drop, ap}
use Rattle.std.proofs.Common.{◌∙◌, subst, append_assoc}
use Rattle.std.specs.Prelude.{if◌then◌else◌}
use Rattle.std.specs.List.{flat_map}
use Rattle.std.proofs.lemmas.List.Concat.{flat_map-cons}
use Rattle.std.proofs.lemmas.List.Elements.{recursion_from_All}
use Rattle.call_log.specs.declared.kinds.TheConstants.{BUFFER, VIEW, CREATE_SHADER, QUERY, DESTROY, SET_SHADER}
use Rattle.call_log.specs.declared.kinds.TheConstants.{SET_CONSTANT, SET_SRV, SET_UAV, CLEAR_STATE, DISPATCH}
use Rattle.call_log.specs.declared.kinds.TheConstants.{DISPATCH_INDIRECT, COPY_REGION, COPY, UPDATE, CLEAR_UAV}
use Rattle.call_log.specs.declared.kinds.TheConstants.{SET_PREDICATION, BEGIN, END_QUERY, MAP_WRITE, MAP_READ}
use Rattle.call_log.specs.declared.kinds.TheConstants.{GET_DATA, FLUSH, FINISH_LIST, EXECUTE_LIST}
use Rattle.call_log.specs.Body.{call_of}
use Rattle.call_log.specs.Call.{Call}
use Rattle.call_log.specs.Grammar as grammar
use Rattle.call_log.specs.Grammar.{Frame, IsLog, header, end_record, spell, calls_of}
use Rattle.base_lemmas.proofs.Lists.{all_front, all_back}
use Rattle.core_model.specs.HostBytes.{AreBytes}
use Rattle.log_script.specs.LogBytes.{CallHasBytes, LogHasBytes}

all_drop : (n : ℕ) (xs : List ℕ) → AreBytes xs → AreBytes (drop n xs)
all_drop zero xs h = h
all_drop (suc n) [] h = tt
all_drop (suc n) (x ∷ xs) h = all_drop n xs h.1

either : (b : Bool) (x y : Call) → CallHasBytes x → CallHasBytes y → CallHasBytes (if b then x else y)
either true x y h k = h
either false x y h k = k

call_small : (kind : ℕ) (body : List ℕ) → AreBytes body → CallHasBytes (call_of kind body)
unfolding call_of
call_small kind body h =
    either (kind == BUFFER) _ _ (all_drop 28 body h) (either (kind == VIEW) _ _ tt
    (either (kind == CREATE_SHADER) _ _ tt (either (kind == QUERY) _ _ tt (either (kind == DESTROY) _ _ tt
    (either (kind == SET_SHADER) _ _ tt (either (kind == SET_CONSTANT) _ _ tt (either (kind == SET_SRV) _ _ tt
    (either (kind == SET_UAV) _ _ tt (either (kind == CLEAR_STATE) _ _ tt (either (kind == DISPATCH) _ _ tt
    (either (kind == DISPATCH_INDIRECT) _ _ tt (either (kind == COPY_REGION) _ _ tt (either (kind == COPY) _ _ tt
    (either (kind == UPDATE) _ _ (all_drop 12 body h) (either (kind == CLEAR_UAV) _ _ tt
    (either (kind == SET_PREDICATION) _ _ tt (either (kind == BEGIN) _ _ tt (either (kind == END_QUERY) _ _ tt
    (either (kind == MAP_WRITE) _ _ (all_drop 16 body h) (either (kind == MAP_READ) _ _ tt
    (either (kind == GET_DATA) _ _ tt (either (kind == FLUSH) _ _ tt (either (kind == FINISH_LIST) _ _ tt
    (either (kind == EXECUTE_LIST) _ _ tt tt))))))))))))))))))))))))

frames_small : (fs : List Frame) (rest : List ℕ) → AreBytes (flat_map spell fs ++ rest) → LogHasBytes (calls_of fs)
frames_small [] rest h = tt
frames_small (f ∷ fs) rest h =
    let more = flat_map spell fs ++ rest in
    let split : flat_map spell (f ∷ fs) ++ rest ≡ spell f ++ more =
    ap (λ (l : List ℕ). l ++ rest) (flat_map-cons spell f fs) ∙ append_assoc (spell f) (flat_map spell fs) rest in
    let all : AreBytes (spell f ++ more) = subst AreBytes split h in
    let first : AreBytes (spell f) = all_front (λ b. b < 256) (spell f) more all in
    (call_small f.kind f.body first.1.1.1.1.1.1.1.1, frames_small fs rest (all_back (λ b. b < 256) (spell f) more all))

pub read_bytes : (bytes : List ℕ) (frames : List Frame) → IsLog bytes frames → grammar.AreBytes bytes
    → LogHasBytes (calls_of frames)
read_bytes bytes frames is are =
    let all : AreBytes (header ++ (flat_map spell frames ++ end_record)) = subst AreBytes is.spelled
    (recursion_from_All (λ b. b < 256) bytes are) in
    frames_small frames end_record (all_back (λ b. b < 256) header (flat_map spell frames ++ end_record) all)
