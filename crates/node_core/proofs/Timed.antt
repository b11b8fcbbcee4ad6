-- The reference of a node goes by the lengths of its profile.
use Rattle.std.proofs.Common.{◌≡◌, ℕ, sym, ◌∙◌, ap}
use Rattle.lwb_base.specs.Profile.{Numbers}
use Rattle.time_reference.specs.Reference.{RoundTimes, times_of, slot_time}
use Rattle.node_core.specs.Nodes.{opens_at}

pub timed_by : (p q : Numbers) (r : RoundTimes) (z : ℕ) → r ≡ times_of q z → q ≡ p → r ≡ times_of p r.zero
timed_by p q r z is same = is ∙ ap (λ (x : Numbers). times_of x z) same ∙ ap (times_of p) (sym (ap (λ (t : RoundTimes). t.zero) is))

pub opening_is : (p : Numbers) (r : RoundTimes) (j : ℕ) → r ≡ times_of p r.zero → slot_time r j ≡ opens_at p r.zero j
opening_is p r j is = ap (λ (t : RoundTimes). slot_time t j) is
