-- The live buffers, as the recorder knows of them.
use Rattle.std.specs.Prelude.{ℕ, Bool, Option, refl}
use Rattle.std.specs.Coded.{Coded, code_by, coded×, coded_ℕ, coded_bool, coded_option}
use Rattle.base_lemmas.specs.IdMap as ids
use Rattle.base_lemmas.specs.IdMap.{IdMap}
use Rattle.immediate_ctx.specs.declared.buffers.Buffer.{Buffer}

-- each live buffer, by its id
abbrev pub Live : Type 0
Live = IdMap Buffer

abbrev pub buffer_code : Coded Buffer
buffer_code = code_by (ℕ × (ℕ × (Option ℕ × Bool)))
    (coded× coded_ℕ (coded× coded_ℕ (coded× (coded_option coded_ℕ) coded_bool)))
    (λ b. (b.block, (b.size, (b.class, b.is_staging))))
    (λ p. record { block = p.0; size = p.1.0; class = p.1.1.0; is_staging = p.1.1.1 })
    (λ b. refl)

abbrev pub live_code : Coded Live
live_code = ids.code buffer_code
