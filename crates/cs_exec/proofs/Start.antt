-- The command stream before the first chunk.
use Rattle.std.proofs.Common.{◌≡◌, ℕ, ◌<◌, List, [], Option, None, refl, sym, ap, ◌∙◌, arith}
use Rattle.call_log.specs.Call.{Issued}
use Rattle.base_lemmas.specs.IdMap as ids
use Rattle.base_lemmas.proofs.Maps.{get-empty}
use Rattle.d3d_model.specs.Binding.{Bindings}
use Rattle.d3d_model.specs.D3dState.{Objects, no_objects, bindings_of}
use Rattle.d3d_model.specs.InOrder.{after_calls}
use Rattle.d3d_state.specs.Meaning.{objects_of}
use Rattle.core_model.specs.Batching.{nothing_made}
use Rattle.core_model.specs.Spine.{made_of}
use Rattle.core_model.specs.Succession.{Log, turns_upto}
use Rattle.log_script.specs.LogScript as script
use Rattle.log_script.specs.Makers.{maker}
use Rattle.batch_make.specs.Making.{Continues}
use Rattle.item_work.specs.Placed.{IdBlocks}
use Rattle.cs_exec.specs.Position.{Position, objects_at, set_before}
use Rattle.cs_exec.specs.Standing.{LivesAlike, CsStands, requests_of}
use Rattle.cs_exec.specs.declared.part.CsPart.{CsPart}

at_start : (calls : List Issued) (log : Log) → Position calls (turns_upto log.script 0)
unfolding script.turns_upto
at_start calls log = record { before = 0; inside = 0; split = refl; partly = λ h. absurd (omega (arith, h)) }

none_live : (calls : List Issued) (o : Objects) → o ≡ no_objects → LivesAlike o (objects_at calls 0 0)
unfolding after_calls
none_live calls o e = record {
  buffers = ap (λ (x : Objects). x.buffers) e;
  views = ap (λ (x : Objects). x.views) e;
  shaders = ap (λ (x : Objects). x.shaders) e;
  queries = ap (λ (x : Objects). x.queries) e;
  set = ap (λ (x : Objects). bindings_of x 0) e;
}

pub start_stands : (calls : List Issued) (log : Log) (cs : CsPart) → objects_of cs.objects ≡ no_objects
    → cs.set_before ≡ None → cs.blocks ≡ ids.empty → Continues nothing_made cs.stream → cs.requests.items ≡ []
    → CsStands calls log [] cs
unfolding at_start
start_stands calls log cs objects set blocks stream requests = record {
  position = at_start calls log;
  goes_on = stream;
  named = λ id. ap (λ (m : IdBlocks). ids.get m id) blocks ∙ get-empty ℕ id;
  live = none_live calls (objects_of cs.objects) objects;
  before_list = set;
  requested = ([], sym requests);
}
