-- How long the block of a number is once more blocks came.
use Rattle.std.proofs.Common.{◌≡◌, ℕ, ◌+◌, ◌<◌, ◌≤◌, Bool, true, false, cond, List, [], ◌∷◌, ◌++◌, length, map, take, get_or, Option, Some, None, refl, sym, ap, ◌∙◌, arith}
use Rattle.std.specs.Prelude.{◌==◌}
use Rattle.std.proofs.lemmas.List.{take_more}
use Rattle.buffer_blocks.specs.declared.block.Block.{Block}
use Rattle.buffer_blocks.specs.Block.{bytes_of}
use Rattle.std.proofs.lemmas.List.{length-replicate}
use Rattle.device_memory.specs.Held.{HasPart}
use Rattle.vk_device.specs.Accepting.{Blocks, length_if, with_block, with_blocks, zeroed}

with_push : (bs : List Block) (b : Block) (held : Blocks) → with_blocks (bs ++ b ∷ []) held ≡ with_block b (with_blocks bs held)
with_push [] b held = refl
with_push (x ∷ xs) b held = with_push xs b (with_block x held)

one_length : (t : Bool) (b : Block) (o : Option Block) → length_if (cond t (Some b) o) ≡ cond t (Some (length (bytes_of b))) (length_if o)
one_length true b o = refl
one_length false b o = refl

-- what was found so far is the length with the blocks so far
abbrev pub FoundOn : Option ℕ → ℕ → List Block → ℕ → Option ℕ → Type 0
FoundOn before number bs i found = (held : Blocks) → before ≡ length_if (held number) → found ≡ length_if (with_blocks (take i bs) held number)

pub found_more : (before : Option ℕ) (number : ℕ) (bs : List Block) (i : ℕ) (d : Block) (found now : Option ℕ) → i < length bs
    → now ≡ cond (number == (get_or bs i d).number) (Some (length (bytes_of (get_or bs i d)))) found
    → FoundOn before number bs i found → FoundOn before number bs (i + 1) now
found_more before number bs i d found now lt is h = λ held e.
    let b = get_or bs i d in
    is ∙ ap (λ o. cond (number == b.number) (Some (length (bytes_of b))) o) (h held e)
    ∙ sym (one_length (number == b.number) b (with_blocks (take i bs) held number))
    ∙ ap (λ (f : Blocks). length_if (f number)) (sym (ap (λ l. with_blocks l held) (take_more bs i d lt) ∙ with_push (take i bs) b held))

-- setting blocks to 0 keeps their lengths
pub zeroed_length : (bs : List Block) (f g : Blocks) (n : ℕ) → length_if (f n) ≡ length_if (g n) → length_if (with_blocks bs f n) ≡ length_if (with_blocks (map zeroed bs) g n)
zeroed_length [] f g n e = e
zeroed_length (b ∷ bs) f g n e =
    zeroed_length bs (with_block b f) (with_block (zeroed b) g) n
    (one_length (n == b.number) b (f n) ∙ ap (λ o. cond (n == b.number) (Some (length (bytes_of b))) o) e
    ∙ ap (λ l. cond (n == b.number) (Some l) (length_if (g n))) (sym (length-replicate (length (bytes_of b)) 0))
    ∙ sym (one_length (n == b.number) (zeroed b) (g n)))

pub has_part : (o : Option Block) (len from to : ℕ) → Some len ≡ length_if o → from ≤ to → to ≤ len → HasPart o from to
has_part None len from to e le within = absurd (cc e)
has_part (Some b) len from to e le within = (le, (let same : len ≡ length (bytes_of b) = cc e in omega (arith, same, within)))
