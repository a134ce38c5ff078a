-- A log as the core plays it: its script, and what its shaders mean.
use Rattle.std.specs.Prelude.{ℕ, zero, suc, List, [], ◌++◌, length, map, Option, None, Some, if◌then◌else◌}
use Rattle.dx_types.specs.declared.shape.Shape.{Shape}
use Rattle.dx_types.specs.declared.refusal.Refusal.{Refusal}
use Rattle.dx_types.specs.declared.limits.TheConstants.{CONSTANT_SLOTS, SRV_SLOTS, UAV_SLOTS}
use Rattle.call_log.specs.Call as calls
use Rattle.call_log.specs.Call.{Call, Issued}
use Rattle.shader_model.specs.Invocation.{Slots, words_in}
use Rattle.base_lemmas.specs.Lists.{numbers_from}
use Rattle.vk_types.specs.Effects.{Meaning, SlotWords}
use Rattle.d3d_model.specs.Resource.{usage_from, is_dynamic, is_staging, class_of, size_of, is_one}
use Rattle.d3d_model.specs.Shader.{ran_dispatch}
use Rattle.d3d_model.specs.InOrder.{State, verdict_in, before_call, call_at}
use Rattle.core_model.specs.Script.{Turn, Script}
use Rattle.log_script.specs.Turns.{turns_of}

-- ---- what the calls created

abbrev pub shape_by : Call → Option Shape
shape_by (calls.Buffer id size usage bind misc stride bytes) =
    Some (record { size = size; usage = usage_from usage; bind = bind; misc = misc; stride = stride })
shape_by _ = None

abbrev pub shape_unless : Call → Option Refusal → Option Shape
shape_unless c (Some why) = None
shape_unless c None = shape_by c

abbrev pub shape_in : State → Option Issued → Option Shape
shape_in s None = None
shape_in s (Some i) = shape_unless i.call (verdict_in s i)

-- the shape of the buffer that call n creates, if it is accepted and creates one
abbrev pub shape_made : List Issued → ℕ → Option Shape
shape_made log n = shape_in (before_call log n) (call_at log n)

-- a dynamic buffer's class
abbrev pub class_if : Option Shape → Option ℕ
class_if None = None
class_if (Some s) = if is_dynamic s.usage then Some (class_of s.size) else None

-- the token bytes of the shader that a call creates
abbrev pub words_by : Option Issued → List ℕ
words_by None = []
words_by (Some i) = by_kind i.call
  where
    by_kind : Call → List ℕ
    by_kind (calls.CreateShader id words) = words
    by_kind _ = []

-- ---- what shaders mean

-- the words of all slots, as an invocation has them
abbrev pub all_slots : SlotWords → Slots
all_slots s = record {
  constants = map s.constant (numbers_from 0 CONSTANT_SLOTS);
  reads = map s.srv (numbers_from 0 SRV_SLOTS);
  writes = map s.uav (numbers_from 0 UAV_SLOTS);
}

abbrev pub no_slots : Slots
no_slots = record { constants = []; reads = []; writes = [] }

-- a dispatch of the shader that a call creates leaves these words in each UAV slot, and runs so many invocations
abbrev pub meaning_of : List Issued → Meaning
meaning_of log = record {
  words = λ shader groups slots u. words_in (ran_dispatch (words_by (call_at log shader)) groups
      (all_slots slots)).slots.writes u;
  count = λ shader groups. (ran_dispatch (words_by (call_at log shader)) groups no_slots).count;
}

-- ---- the script

-- the turns of the first n calls
unfoldable pub turns_upto : List Issued → ℕ → List Turn
turns_upto log zero = []
turns_upto log (suc n) = turns_upto log n ++ turns_of log (suc n)

abbrev pub script_of : List Issued → Script
script_of log = record {
  turns = turns_upto log (length log);
  calls = length log;
  size = λ n. size_of (shape_made log n);
  class = λ n. class_if (shape_made log n);
  is_staging = λ n. is_one (shape_made log n) (λ s. is_staging s.usage);
}
