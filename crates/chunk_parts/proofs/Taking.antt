-- One more entry is taken.
use Rattle.std.proofs.Common.{◌≡◌, ℕ, List, [], ◌∷◌, ◌++◌, map, Option, Some, None, refl, sym, ap, ◌∙◌}
use Rattle.std.specs.List.{filter_map}
use Rattle.std.specs.Option.{option_to_list}
use Rattle.std.proofs.lemmas.List.{map-append}
use Rattle.std.proofs.lemmas.List.Elements.{filter_map-append}
use Rattle.buffer_blocks.specs.declared.block.Block.{Block}
use Rattle.cs_chunk.specs.declared.entry.Entry.{Entry}
use Rattle.vk_types.specs.declared.message.Placed.{Placed}
use Rattle.core_model.specs.CoreState.{somes}
use Rattle.chunk_parts.specs.Chunks.{placed_of}

pub places_more : (entries : List Entry) (e : Entry) (old new : List Placed) → old ≡ map placed_of entries
    → new ≡ old ++ placed_of e ∷ [] → new ≡ map placed_of (entries ++ e ∷ [])
places_more entries e old new is pushed =
    pushed ∙ ap (λ (l : List Placed). l ++ placed_of e ∷ []) is ∙ sym (map-append placed_of entries (e ∷ []))

one_block : (e : Entry) (block : Option Block) → e.block ≡ block → option_to_list block ≡ filter_map (λ (x : Entry). x.block) (e ∷ [])
one_block e None is = rw is refl
one_block e (Some b) is = rw is refl

pub blocks_more : (entries : List Entry) (e : Entry) (old new : List Block) → old ≡ filter_map (λ (x : Entry). x.block) entries
    → new ≡ old ++ option_to_list e.block → new ≡ filter_map (λ (x : Entry). x.block) (entries ++ e ∷ [])
blocks_more entries e old new is pushed =
    pushed ∙ ap (λ (l : List Block). l ++ option_to_list e.block) is
    ∙ ap (λ (l : List Block). filter_map (λ (x : Entry). x.block) entries ++ l) (one_block e e.block refl)
    ∙ sym (filter_map-append (λ (x : Entry). x.block) entries (e ∷ []))

somes_more : (os : List (Option ℕ)) (o : Option ℕ) → somes os ++ option_to_list o ≡ somes (os ++ o ∷ [])
somes_more [] None = refl
somes_more [] (Some n) = refl
somes_more (None ∷ os) o = somes_more os o
somes_more (Some n ∷ os) o = ap (λ (l : List ℕ). n ∷ l) (somes_more os o)

pub marks_more : (placed new : List Placed) (p : Placed) (old marks : List ℕ) → old ≡ somes (map (λ (x : Placed). x.mark) placed)
    → new ≡ placed ++ p ∷ [] → marks ≡ old ++ option_to_list p.mark → marks ≡ somes (map (λ (x : Placed). x.mark) new)
marks_more placed new p old marks is added pushed =
    pushed ∙ ap (λ (l : List ℕ). l ++ option_to_list p.mark) is ∙ somes_more (map (λ (x : Placed). x.mark) placed) p.mark
    ∙ ap somes (sym (map-append (λ (x : Placed). x.mark) placed (p ∷ [])))
    ∙ ap (λ (l : List Placed). somes (map (λ (x : Placed). x.mark) l)) (sym added)
