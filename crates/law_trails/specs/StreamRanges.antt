-- The streams of a node in their ranges.
use Rattle.std.specs.Prelude.{◌≡◌, ℕ, ◌<◌, ◌≤◌, All, length}
use Rattle.lwb_base.specs.Profile.{Numbers}
use Rattle.bus_rules.specs.Streams.{WaitingPacket, Stream, Streams}

-- a packet that waits: its number is one of those given so far
pub record IsWaiting (p : Numbers) (next : ℕ) (w : WaitingPacket) : Type 0 where
  pub seq : w.seq < next
  pub payload : length w.payload ≤ p.payload_max

pub record IsStream (p : Numbers) (x : Stream) : Type 0 where
  pub wish : x.wish ≤ 120
  pub agreed : x.agreed ≤ 120
  pub few : length x.queue ≤ 16
  pub next : x.next ≤ 65535
  pub queue : All (IsWaiting p x.next) x.queue

pub record AreStreams (p : Numbers) (s : Streams) : Type 0 where
  pub four : length s.all ≡ 4
  pub each : All (IsStream p) s.all
  pub tries : s.tries ≤ 4
