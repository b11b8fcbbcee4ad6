-- What is on the air: transmissions, who receives them, and tunings.
use Rattle.std.specs.Prelude.{ℕ, Bool, ◌==◌, ◌&&◌}
use Rattle.radio_model.specs.declared.sending.Sending.{Sending as Sent}

-- on the channel of a rank a node sends a packet, from its start to its end
abbrev pub Sending : Type 0
Sending = Sent

-- a node receives a transmission
pub record Hearing : Type 0 where
  pub node : ℕ
  pub sending : Sending

-- a node's radio is on at the channel of a rank
pub record Tuning : Type 0 where
  pub rank : ℕ
  pub node : ℕ
  pub start : ℕ
  pub end : ℕ

-- a tuning that begins at t on this channel goes on with the last one, which was of channel `rank` and ended at `until`: both are
-- one, which began when the first did
abbrev pub goes_on_with : ℕ → ℕ → ℕ → ℕ → Bool
goes_on_with rank until channel t = (rank == channel) && (until == t)
