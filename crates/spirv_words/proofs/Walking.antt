-- Going through the instructions of a list of words.
use Rattle.std.proofs.Common.{◌≡◌, ℕ, suc, ◌+◌, ◌-◌, ◌<◌, ◌≤◌, List, [], ◌∷◌, length, map, take, drop, get_or, Bool, true, false, Option, Some, None, refl, ap, sym, subst, ◌∙◌, arith}
use Rattle.std.proofs.lemmas.List.{take_all}
use Rattle.spirv_words.specs.declared.end.ModuleEnd.{ModuleEnd}
use Rattle.spirv_words.specs.declared.end.ModuleEnd.TheVariants.{Bad, NoMemory}
use Rattle.spirv_model.specs.declared.fault.ModuleFault.{ModuleFault}
use Rattle.spirv_model.specs.declared.fault.ModuleKind.TheVariants as kind
use Rattle.spirv_model.specs.Op.{Op}
use Rattle.spirv_model.specs.History.{after}
use Rattle.spirv_model.specs.Words.{Instruction, BadCount, BadOpcode, front}
use Rattle.spirv_model.specs.Sections.{is_function_end}
use Rattle.spirv_words.specs.Latest.{latest}
use Rattle.spirv_model.specs.Operands.{Verdict, or_else, unless, operands}
use Rattle.spirv_model.specs.FirstBad.{Reading, read_more, reading, ops_fault, first_fault, first_word_rule, fault_at, word_count, total_words, ends_function, late_fault, body_fault}
use Rattle.spirv_words.specs.Reading.{reading_of, read_fault, instruction_fault, IfFault}
use Rattle.spirv_words.proofs.Cutting.{front_words, front_read, count_read, opcode_read}

-- What is left to read of all the words, at a place: its faults are those
-- of the whole, and the instructions known and those left are all of them.
pub record Left (bound : ℕ) (all : Reading) (h : List Op) (at : ℕ) (r : Reading) : Type 0 where
  pub fault : ops_fault bound h at r.ops ≡ ops_fault bound [] 5 all.ops
  pub stop : r.stop ≡ all.stop
  pub instructions : after r.ops h ≡ after all.ops []
  pub total : at + total_words r.ops ≡ 5 + total_words all.ops

module _ (bound : ℕ) (all : Reading) (h : List Op) (at : ℕ) where
  next : (o : Op) (r : Reading) → Left bound all h at (read_more o r) → instruction_fault bound h at o ≡ None → Left bound all (o ∷ h) (at + word_count o) r
  unfolding instruction_fault
  next o r left passes = record {
    fault = sym (ap (λ f. or_else f (ops_fault bound (o ∷ h) (at + word_count o) r.ops)) passes) ∙ left.fault;
    stop = left.stop;
    instructions = left.instructions;
    total = let t = left.total in omega arith;
  }

  -- one instruction more is read
  pub left_next : (w : ℕ) (ws : List ℕ) (o : Op) (rest : List ℕ) → front w ws ≡ Instruction o rest → Left bound all h at (reading_of (w ∷ ws)) → instruction_fault bound h at o ≡ None → Left bound all (o ∷ h) (at + word_count o) (reading_of rest)
  left_next w ws o rest e left passes = next o (reading_of rest) (subst (λ (r : Reading). Left bound all h at r) (front_read w ws o rest e) left) passes

  refused : (o : Op) (r : Reading) (f : ModuleFault) → Left bound all h at (read_more o r) → instruction_fault bound h at o ≡ Some f → read_fault bound all ≡ Some f
  unfolding instruction_fault
  refused o r f left e =
      ap (λ g. or_else g (fault_at (5 + total_words all.ops) all.stop)) (sym left.fault ∙ ap (λ g. or_else g (ops_fault bound (o ∷ h) (at + word_count o) r.ops)) e)

  -- an instruction is refused
  pub left_refused : (w : ℕ) (ws : List ℕ) (o : Op) (rest : List ℕ) (f : ModuleFault) → front w ws ≡ Instruction o rest → Left bound all h at (reading_of (w ∷ ws)) → instruction_fault bound h at o ≡ Some f → read_fault bound all ≡ Some f
  left_refused w ws o rest f e left bad = refused o (reading_of rest) f (subst (λ (r : Reading). Left bound all h at r) (front_read w ws o rest e) left) bad

  stopped : (v : Verdict) → Left bound all h at (record { ops = []; stop = v }) → read_fault bound all ≡ fault_at at v
  stopped v left =
      ap (λ g. or_else g (fault_at (5 + total_words all.ops) all.stop)) (sym left.fault)
      ∙ ap (fault_at (5 + total_words all.ops)) (sym left.stop)
      ∙ ap (λ n. fault_at n v) (let t = left.total in omega arith)

  -- a word begins no instruction
  pub left_count : (w : ℕ) (ws : List ℕ) → front w ws ≡ BadCount → Left bound all h at (reading_of (w ∷ ws)) → read_fault bound all ≡ Some (record { word = at; kind = kind.Count })
  left_count w ws e left = stopped (Some kind.Count) (subst (λ (r : Reading). Left bound all h at r) (count_read w ws e) left)

  pub left_opcode : (w : ℕ) (ws : List ℕ) → front w ws ≡ BadOpcode → Left bound all h at (reading_of (w ∷ ws)) → read_fault bound all ≡ Some (record { word = at; kind = kind.Opcode })
  left_opcode w ws e left = stopped (Some kind.Opcode) (subst (λ (r : Reading). Left bound all h at r) (opcode_read w ws e) left)

  ended : (r : Reading) → r ≡ record { ops = []; stop = None } → Left bound all h at r → (ops_fault bound [] 5 all.ops ≡ None) × (all.stop ≡ None) × (total_words all.ops + 5 ≡ at) × (h ≡ after all.ops [])
  ended r e left =
      let at_end = subst (λ (r : Reading). Left bound all h at r) e left in
      (sym at_end.fault, sym at_end.stop, (let t = at_end.total in omega arith), at_end.instructions)

  -- all the words are read
  pub left_done : Left bound all h at (reading_of []) → (ops_fault bound [] 5 all.ops ≡ None) × (all.stop ≡ None) × (total_words all.ops + 5 ≡ at) × (h ≡ after all.ops [])
  unfolding reading
  left_done left = ended (reading_of []) refl left

-- before the first instruction all is left
pub left_all : (bound : ℕ) (all : Reading) (h : List Op) → h ≡ [] → Left bound all h 5 all
left_all bound all h e = subst (λ (l : List Op). Left bound all l 5 all) (sym e) (record { fault = refl; stop = refl; instructions = refl; total = refl })

-- ## Behind the last instruction

-- whether the latest instruction is a function's end
abbrev pub is_end : Option Op → Bool
is_end None = false
is_end (Some o) = is_function_end o

pub ends_behind : (h : List Op) → ends_function h ≡ is_end (latest h)
ends_behind [] = refl
ends_behind (o ∷ h) = refl

-- a list turned over twice
turned : (xs h : List Op) → after (after xs h) [] ≡ after h xs
turned [] h = refl
turned (x ∷ xs) h = turned xs (x ∷ h)

pub same_after : (xs ys : List Op) → after xs [] ≡ after ys [] → xs ≡ ys
same_after xs ys e = sym (turned xs []) ∙ ap (λ l. after l []) e ∙ turned ys []

module _ (bound : ℕ) (r : Reading) (passes : ops_fault bound [] 5 r.ops ≡ None) (to_the_end : r.stop ≡ None) where
  rest_fault : body_fault bound r ≡ or_else (fault_at (5 + total_words r.ops - 1) (unless (ends_function (after r.ops [])) kind.Flow)) (late_fault (after r.ops []) 5 r.ops)
  rest_fault =
      let end : ℕ = 5 + total_words r.ops in
      ap (λ f. or_else f (or_else (fault_at end r.stop) (or_else (fault_at (end - 1) (unless (ends_function (after r.ops [])) kind.Flow)) (late_fault (after r.ops []) 5 r.ops)))) passes
      ∙ ap (λ v. or_else (fault_at end v) (or_else (fault_at (end - 1) (unless (ends_function (after r.ops [])) kind.Flow)) (late_fault (after r.ops []) 5 r.ops))) to_the_end

  -- the function has no end
  pub open_fault : (n : ℕ) → total_words r.ops ≡ n → ends_function (after r.ops []) ≡ false → body_fault bound r ≡ Some (record { word = 4 + n; kind = kind.Flow })
  open_fault n words e =
      rest_fault
      ∙ ap (λ b. or_else (fault_at (5 + total_words r.ops - 1) (unless b kind.Flow)) (late_fault (after r.ops []) 5 r.ops)) e
      ∙ ap (λ at. Some (record { word = at; kind = kind.Flow })) (omega arith)

  -- the function has an end
  pub late_rest : ends_function (after r.ops []) ≡ true → body_fault bound r ≡ late_fault (after r.ops []) 5 r.ops
  late_rest e = rest_fault ∙ ap (λ b. or_else (fault_at (5 + total_words r.ops - 1) (unless b kind.Flow)) (late_fault (after r.ops []) 5 r.ops)) e

-- where reading ends at a bad word, that is the first one
pub read_fault_first : (bound : ℕ) (r : Reading) (f : ModuleFault) → read_fault bound r ≡ Some f → body_fault bound r ≡ Some f
read_fault_first bound r f e = first (ops_fault bound [] 5 r.ops) (fault_at (5 + total_words r.ops) r.stop) _ f e
  where
    first : (a b c : Option ModuleFault) (f : ModuleFault) → or_else a b ≡ Some f → or_else a (or_else b c) ≡ Some f
    first None None c f e = cc
    first None (Some y) c f e = e
    first (Some x) b c f e = e

-- ## Lists of words

pub split_first : (ws : List ℕ) → 1 ≤ length ws → ws ≡ get_or ws 0 0 ∷ take (length ws - 1) (drop 1 ws)
split_first [] h = absurd (omega arith)
split_first (w ∷ ws) h = ap (λ t. w ∷ t) (sym (take_all (suc (length ws) - 1) ws (omega arith)))

pub no_words : (ws : List ℕ) → length ws < 1 → ws ≡ []
no_words [] h = refl
no_words (w ∷ ws) h = absurd (omega arith)

pub words_left : (w : ℕ) (ws : List ℕ) (o : Op) (behind rest : List ℕ) → front w ws ≡ Instruction o behind → rest ≡ w ∷ ws → word_count o + length behind ≡ length rest
words_left w ws o behind rest e all = front_words w ws o behind e ∙ sym (ap length all)

-- what holds of a bad word
pub fault_follows : (e : ModuleEnd) (P Q : ModuleFault → Type 0) → ((f : ModuleFault) → P f → Q f) → IfFault e P → IfFault e Q
fault_follows (Bad f) P Q h p = h f p
fault_follows NoMemory P Q h p = tt
