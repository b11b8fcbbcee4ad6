-- What the entries of a trail are like.
use Rattle.std.specs.Prelude.{◌≡◌, ℕ, ◌+◌, ◌<◌, ◌≤◌, length}
use Rattle.lwb_base.specs.Profile.{airtime}
use Rattle.radio_model.specs.declared.sending.Sending.{Sending}
use Rattle.radio_model.specs.OnAir.{Tuning}
use Rattle.scenario_text.specs.ScenarioParts.{ScenarioParts}

-- a transmission of v that begins before this tick and lasts its airtime
pub record IsSentBefore (s : ScenarioParts) (v t : ℕ) (x : Sending) : Type 0 where
  pub node : x.node ≡ v
  pub before : x.start < t
  pub lasts : x.end ≡ x.start + airtime s.profile (length x.packet)

-- a tuning of v that is not empty and has ended by this tick
pub record IsTunedBy (v t : ℕ) (e : Tuning) : Type 0 where
  pub node : e.node ≡ v
  pub some : e.start < e.end
  pub by : e.end ≤ t

abbrev pub StartsBefore : Sending → Sending → Type 0
StartsBefore x y = x.start < y.start

-- e, which is the later one, begins when d has ended, and later than that if both are of one rank
pub record FollowsOn (e d : Tuning) : Type 0 where
  pub after : d.end ≤ e.start
  pub apart : d.rank ≡ e.rank → d.end < e.start
