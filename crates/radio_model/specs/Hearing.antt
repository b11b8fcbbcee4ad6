-- Who receives what. An interval of time contains its start and not its end.
use Rattle.std.specs.Prelude.{◌≡◌, ℕ, ◌+◌, ◌/◌, ◌<◌, ◌≤◌, ◌⊎◌, List, Contains, Bool, true, Option, Some, slice_index}
use Rattle.lwb_base.specs.Profile.{Numbers}
use Rattle.link_trace.specs.Passes.{Lines, passes, captured}
use Rattle.radio_model.specs.OnAir.{Sending, Tuning}

-- all that the rule asks: the transmissions, whether one comes to a node over the link from its sender, which sender the capture
-- line at a node names for one, and the greatest displacement at which equal packets are received as one
pub record Traffic : Type 0 where
  pub sendings : List Sending
  pub comes : Sending → ℕ → Bool
  pub names : Sending → ℕ → Option ℕ
  pub delta : ℕ

-- both are on the air at some tick
pub record Meets (x y : Sending) : Type 0 where
  pub before : x.start < y.end
  pub after : y.start < x.end

-- v sends nothing while x is sent
abbrev pub IsSilent : Traffic → ℕ → Sending → Type 0
IsSilent a v x = (y : Sending) → Contains a.sendings y → y.node ≡ v → Meets x y → ⊥

-- y comes to v on the channel of x while x is sent; if x comes to v, it is a rival of itself
pub record IsRival (a : Traffic) (v : ℕ) (x y : Sending) : Type 0 where
  pub sent : Contains a.sendings y
  pub channel : y.rank ≡ x.rank
  pub meets : Meets x y
  pub arrives : a.comes y v ≡ true

-- by start, and then by sender, x is y or comes before it
pub record Before (x y : Sending) : Type 0 where
  pub start : x.start ≤ y.start
  pub node : x.start ≡ y.start → x.node ≤ y.node

-- all rivals have the packet of x
abbrev pub IsAlone : Traffic → ℕ → Sending → Type 0
IsAlone a v x = (y : Sending) → IsRival a v x y → y.packet ≡ x.packet

-- the capture line at v names the sender of a rival with the packet of x
pub record IsCaptured (a : Traffic) (v : ℕ) (x : Sending) : Type 0 where
  pub winner : Sending
  pub rival : IsRival a v x winner
  pub same : winner.packet ≡ x.packet
  pub named : a.names x v ≡ Some winner.node

-- v receives x: this is the rule. `Tuned` says that a node is tuned to a transmission as long as it lasts
pub record Hears (a : Traffic) (Tuned : ℕ → Sending → Type 0) (v : ℕ) (x : Sending) : Type 0 where
  pub sent : Contains a.sendings x
  pub tuned : Tuned v x
  pub silent : IsSilent a v x
  pub arrives : a.comes x v ≡ true
  pub first : (y : Sending) → IsRival a v x y → y.packet ≡ x.packet → Before x y
  pub close : (y : Sending) → IsRival a v x y → y.packet ≡ x.packet → y.start ≤ x.start + a.delta
  pub chosen : IsAlone a v x ⊎ IsCaptured a v x

-- all transmissions and tunings, with the numbers of the profile and the lines of the trace
pub record Scene : Type 0 where
  pub numbers : Numbers
  pub lines : Lines
  pub sendings : List Sending
  pub tunings : List Tuning

-- the key of a transmission: the frame of its start, and the slot and counter of its packet
abbrev pub frame_of_sending : Numbers → Sending → ℕ
frame_of_sending p x = x.start / p.frame

abbrev pub slot_of_sending : Sending → ℕ
slot_of_sending x = slice_index x.packet 1

abbrev pub counter_of_sending : Sending → ℕ
counter_of_sending x = slice_index x.packet 2

-- v is tuned to the channel at this tick
pub record IsTuned (a : Scene) (v channel tick : ℕ) : Type 0 where
  pub tuning : Tuning
  pub there : Contains a.tunings tuning
  pub node : tuning.node ≡ v
  pub rank : tuning.rank ≡ channel
  pub since : tuning.start ≤ tick
  pub until : tick < tuning.end

-- v is tuned to the channel of x at each tick of x, so two tunings that meet at a tick are as one
abbrev pub TunedThrough : Scene → ℕ → Sending → Type 0
TunedThrough a v x = (t : ℕ) → x.start ≤ t → t < x.end → IsTuned a v x.rank t

-- what the rule asks of a scene
abbrev pub traffic_of_scene : Scene → Traffic
traffic_of_scene a = record {
  sendings = a.sendings;
  comes = λ y v. passes a.lines (frame_of_sending a.numbers y) (slot_of_sending y) (counter_of_sending y) y.node v;
  names = λ x v. captured a.lines (frame_of_sending a.numbers x) (slot_of_sending x) (counter_of_sending x) v;
  delta = a.numbers.delta;
}

-- the link to v passes at the key
abbrev pub Arrives : Scene → ℕ → Sending → Type 0
Arrives a v x = (traffic_of_scene a).comes x v ≡ true

abbrev pub Rival : Scene → ℕ → Sending → Sending → Type 0
Rival a v x y = IsRival (traffic_of_scene a) v x y

abbrev pub Captured : Scene → ℕ → Sending → Type 0
Captured a v x = IsCaptured (traffic_of_scene a) v x

-- v receives x
abbrev pub HearsInScene : Scene → ℕ → Sending → Type 0
HearsInScene a v x = Hears (traffic_of_scene a) (TunedThrough a) v x
