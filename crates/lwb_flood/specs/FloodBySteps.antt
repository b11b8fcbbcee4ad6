-- What the flood theorem says of a run: it is the flood by steps of its setting.
use Rattle.std.specs.Prelude.{◌≡◌, ℕ, ◌+◌, ◌*◌, ◌≤◌, ◌↔◌, List, Contains, true, false, Some}
use Rattle.lwb_base.specs.declared.limits.TheConstants.{LAST_STEP}
use Rattle.tick_clock.specs.Clocks.{Near}
use Rattle.glossy_relay.specs.FloodState.{FloodState}
use Rattle.glossy_relay.specs.Relaying.{fits, accepted_of}
use Rattle.bus_terms.specs.Flooding.{moment, has, Sends, Hears, Accepts, STEPS}
use Rattle.radio_model.specs.declared.sending.Sending.{Sending}
use Rattle.air_log.specs.NodeEvents.{Heard, flood_after_events, event_occasions}
use Rattle.lwb_flood.specs.FloodRun.{Run, initiates, IsParticipant, counter, packet, flood_at_beginning}

-- v sends o's packet with counter k
pub record SendsOnAir (r : Run) (v k o : ℕ) : Type 0 where
  pub sending : Sending
  pub sent : Contains r.sendings sending
  pub node : sending.node ≡ v
  pub packet : sending.packet ≡ packet r o k

-- v receives o's packet with counter k, and it fits v's flood at that time
pub record HearsOnAir (r : Run) (v k o : ℕ) : Type 0 where
  pub sending : Sending
  pub flood : FloodState
  pub occasion : Contains (event_occasions (flood_at_beginning r v) (r.events v)) (record { before = flood; event = Heard sending })
  pub fitting : fits flood sending.packet ≡ true
  pub packet : sending.packet ≡ packet r o k

-- v's flood after all of its events
abbrev pub flood_at_end : Run → ℕ → FloodState
flood_at_end r v = flood_after_events (flood_at_beginning r v) (r.events v)

pub record IsFloodBySteps (r : Run) : Type 0 where
  -- each transmission is an initiator's packet with a counter k up to LAST_STEP, and starts within k ticks of k steps after it
  pub spelled : (x : Sending) → Contains r.sendings x
      → (o : ℕ) × initiates r o × (counter x ≤ 11) × (x.packet ≡ packet r o (counter x))
      × Near x.start (r.starts o + counter x * (r.air + r.turn)) (counter x)
  pub sends : (v k o : ℕ) → initiates r o → k ≤ LAST_STEP → SendsOnAir r v k o ↔ Sends r.setting v k o
  pub sends_once : (x y : Sending) → Contains r.sendings x → Contains r.sendings y
      → x.node ≡ y.node → counter x ≡ counter y → x ≡ y
  pub hears_once : (v : ℕ) (x y : Sending) → IsParticipant r v → Contains (r.events v) (Heard x) → Contains (r.events v) (Heard y)
      → counter x ≡ counter y → x ≡ y
  pub hears : (v k o : ℕ) → IsParticipant r v → initiates r o → k ≤ LAST_STEP → HearsOnAir r v k o ↔ Hears r.setting v k o
  -- a listener's flood has accepted at the end what the node accepts by steps, and nothing else
  pub accepts : (v k o : ℕ) → IsParticipant r v → has r.setting.initiators v ≡ false → initiates r o
      → accepted_of (flood_at_end r v) ≡ Some (packet r o k, k) ↔ Accepts r.setting v o k
  pub accepts_only : (v : ℕ) (p : List ℕ) (k : ℕ) → IsParticipant r v → has r.setting.initiators v ≡ false
      → accepted_of (flood_at_end r v) ≡ Some (p, k) → (o : ℕ) × initiates r o × (p ≡ packet r o k) × Accepts r.setting v o k
  pub times : (v : ℕ) → IsParticipant r v → (flood_at_end r v).sent ≡ (moment r.setting STEPS).times v
