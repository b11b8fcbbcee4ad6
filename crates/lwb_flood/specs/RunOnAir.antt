-- A run as a part of all that is on the air.
use Rattle.std.specs.Prelude.{◌≡◌, ℕ, Contains}
use Rattle.link_trace.specs.Passes.{passes, captured}
use Rattle.radio_model.specs.declared.sending.Sending.{Sending}
use Rattle.radio_model.specs.Hearing.{Scene, frame_of_sending, slot_of_sending, counter_of_sending, Meets}
use Rattle.lwb_flood.specs.FloodRun.{Run, IsParticipant, counter}

-- the run's transmissions are on its channel, and nothing else that matters for them is on the air with one of them: neither
-- another transmission of the channel, nor one of a node that takes part. Links pass and capture lines are sorted by their counters
pub record IsPart (a : Scene) (r : Run) : Type 0 where
  pub delta : a.numbers.delta ≡ r.delta
  pub sent : (x : Sending) → Contains r.sendings x → Contains a.sendings x × (x.rank ≡ r.rank)
  pub channel : (x y : Sending) → Contains r.sendings x → Contains a.sendings y → y.rank ≡ r.rank → Meets x y
      → Contains r.sendings y
  pub own : (x y : Sending) → Contains r.sendings x → Contains a.sendings y → IsParticipant r y.node → Meets x y
      → Contains r.sendings y
  pub passes_by : (v : ℕ) (x : Sending) → Contains r.sendings x
      → passes a.lines (frame_of_sending a.numbers x) (slot_of_sending x) (counter_of_sending x) x.node v ≡ r.setting.passes (counter x) x.node v
  pub captured_by : (v : ℕ) (x : Sending) → Contains r.sendings x
      → captured a.lines (frame_of_sending a.numbers x) (slot_of_sending x) (counter_of_sending x) v ≡ r.setting.captured (counter x) v
