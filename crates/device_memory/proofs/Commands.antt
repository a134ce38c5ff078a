-- What a command that is not skipped does.
use Rattle.std.proofs.Common.{◌≡◌, ℕ, ◌/◌, ◌%◌, false, List, [], ◌∷◌, sym, ap, ◌∙◌, arith}
use mathlib.Core.Path.{fun_ext}
use Rattle.std.proofs.lemmas.Bool.{cond-false}
use Rattle.dx_types.specs.declared.range.Range.{Range}
use Rattle.vk_types.specs.declared.command.SlotRange.{SlotRange}
use Rattle.vk_types.specs.declared.command.Groups.{Groups}
use Rattle.vk_types.specs.declared.command.Work.{Work}
use Rattle.vk_types.specs.declared.command.Work.TheVariants as work
use Rattle.vk_types.specs.declared.command.Command.{Command}
use Rattle.vk_types.specs.Memory.{Memory, byte_in, number_at, put}
use Rattle.vk_types.specs.Effects.{Meaning, effect, group_counts, is_skipped, put_slots, slots_words, work_effect}
use Rattle.device_memory.specs.Meant.{module_meaning_of}

pub ran_work : (meaning : Meaning) (c : Command) (m x : Memory) (w : Work) → c.work ≡ w → is_skipped c.cond m ≡ false → x ≡ work_effect meaning w m → x ≡ effect meaning c m
ran_work meaning c m x w is runs e =
    e ∙ ap (λ (w : Work). work_effect meaning w m) (sym is) ∙ sym (cond-false (is_skipped c.cond m) m (work_effect meaning c.work m) runs)

-- a fill is a clear by one word
fill_byte : (word k : ℕ) → byte_in (number_at (word ∷ word ∷ word ∷ word ∷ []) (k / 4 % 1)) (k % 4) ≡ byte_in word (k % 4)
fill_byte word k =
    let first : k / 4 % 1 ≡ 0 = omega arith in
    ap (λ (i : ℕ). byte_in (number_at (word ∷ word ∷ word ∷ word ∷ []) i) (k % 4)) first

pub ran_fill : (meaning : Meaning) (c : Command) (m x : Memory) (target : Range) (word : ℕ) → c.work ≡ work.Fill target word → is_skipped c.cond m ≡ false
    → x ≡ put target (λ k. byte_in (number_at (word ∷ word ∷ word ∷ word ∷ []) (k / 4 % 1)) (k % 4)) m → x ≡ effect meaning c m
ran_fill meaning c m x target word is runs e =
    ran_work meaning c m x (work.Fill target word) is runs (e ∙ ap (λ (p : ℕ → ℕ). put target p m) (fun_ext (λ k. fill_byte word k)))

pub ran_dispatch : (c : Command) (m x : Memory) (code : List ℕ) (shader : ℕ) (groups : Groups) (slots ss : List SlotRange) → c.work ≡ work.Dispatch shader groups slots
    → is_skipped c.cond m ≡ false → ss ≡ slots → x ≡ put_slots ((module_meaning_of code).words 0 (group_counts m groups) (slots_words m ss)) ss m → x ≡ effect (module_meaning_of code) c m
ran_dispatch c m x code shader groups slots ss is runs same e =
    ran_work (module_meaning_of code) c m x (work.Dispatch shader groups slots) is runs
    (e ∙ ap (λ (l : List SlotRange). put_slots ((module_meaning_of code).words 0 (group_counts m groups) (slots_words m l)) l m) same)
