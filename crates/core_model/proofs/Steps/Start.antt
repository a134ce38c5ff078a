-- The invariant holds as a run begins.
use Rattle.std.proofs.Common.{refl, arith}
use Rattle.vk_types.specs.Effects.{Meaning}
use Rattle.core_model.specs.Script.{Script}
use Rattle.core_model.specs.CoreState.{start}
use Rattle.core_model.specs.Readings.{Reading}
use Rattle.core_model.specs.Invariant.{Good}

pub start_good : (meaning : Meaning) (reading : Reading) (script : Script) → Good meaning reading script (start script)
start_good meaning reading script = record {
  sound = record {
    position = refl;
    cut = refl;
    sizes = λ four. (omega arith, omega arith, omega arith, omega arith, omega arith, omega arith);
    bounded = λ many. omega arith;
    grows = record {
      closed = record { barriers = refl; numbers = tt; whole = tt };
      opened = record { barriers = refl; numbers = tt; whole = tt };
      none_begun = refl;
      ended = refl;
      next = refl;
      of_device = tt;
      since = refl;
      lists = refl;
      reads = tt;
      filled = refl;
      used = refl;
      entries = refl;
      works = refl;
    };
    counted = record { fence = refl; number = refl; epoch = refl };
    fence = omega arith;
    covered = tt;
    known = tt;
    since = λ b. tt;
    numbered = (tt, tt);
    shaped = ((tt, tt, tt), tt);
    binds = ((tt, λ b h. h), tt);
    filled = tt;
    within = tt;
    device = refl;
    whole = refl;
    order = tt;
    snaps = tt;
    copies = λ r b st is n i l. absurd (cc is);
    names = ((λ r b st is h. absurd (cc is)), tt);
    elsewhere = (tt, tt);
  };
  stands = record {
    has_block = λ r h. absurd (cc h);
    is_live = λ r b h. absurd (cc h);
    own = λ r s b h k. absurd (cc h);
    bytes = λ r b i h lt. absurd (cc h);
  };
  live = λ r b h. absurd (cc h);
  totals = record { total = refl; above = λ n l. refl };
  replies = tt;
}
