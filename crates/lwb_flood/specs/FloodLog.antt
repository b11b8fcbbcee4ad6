-- The log of one flood as a run, and what is read off it.
use Rattle.std.specs.Prelude.{◌≡◌, ◌≢◌, ◌⊎◌, ℕ, ◌+◌, ◌≤◌, List, Contains, Some, None, filter_map, true}
use Rattle.std.specs.declared.option.Option.{Option}
use Rattle.std.specs.Option.{option_map}
use Rattle.lwb_base.specs.declared.limits.TheConstants.{GREATEST_ID}
use Rattle.lwb_base.specs.Profile.{one}
use Rattle.tick_clock.specs.Clocks.{IsClock, due}
use Rattle.lwb_packets.specs.declared.kind.Kind.TheVariants.{Payload}
use Rattle.glossy_relay.specs.Relaying.{counter_of}
use Rattle.scenario_text.specs.FloodParts.{FloodParts, IsSound, knows}
use Rattle.bus_terms.specs.FloodOfText.{setting}
use Rattle.air_log.specs.declared.entry.Entry.{Entry}
use Rattle.radio_model.specs.declared.sending.Sending.{Sending}
use Rattle.air_log.specs.Entries.{sendings_of, hearings_of, HasHeardEntry}
use Rattle.air_log.specs.FloodLaw.{FloodLaw, START, first_packet}
use Rattle.lwb_flood.specs.FloodRun.{Run}

-- a flood text, and a clock for each of its nodes that keeps the drift law
pub record HasClocks (f : FloodParts) (clocks : ℕ → ℕ → ℕ) : Type 0 where
  pub sound : IsSound f
  pub start : (1 ≤ f.start) × (f.start ≤ GREATEST_ID)
  pub drift : (v : ℕ) → knows f.nodes v ≡ true → IsClock (clocks v)

-- the log as a run of the flood theorem: packets have 8 bytes, and there is one initiator
abbrev pub run_of : (f : FloodParts) (clocks : ℕ → ℕ → ℕ) (air : List Entry) → FloodLaw f clocks air → Run
run_of f clocks air law = record {
  setting = setting f;
  kind = Payload;
  slot = 1;
  rank = 0;
  message = λ o. first_packet f.start;
  starts = λ o. START;
  air = 32768;
  turn = one.turn;
  delta = one.delta;
  spread = 0;
  sendings = sendings_of air;
  hearings = hearings_of air;
  events = law.events;
  relay_start = λ v e. due (clocks v) (clocks v e + one.turn);
}

-- v has a Sent entry with counter k
pub record HasSentEntry (air : List Entry) (v k : ℕ) : Type 0 where
  pub sending : Sending
  pub there : Contains (sendings_of air) sending
  pub node : sending.node ≡ v
  pub counter : counter_of sending.packet ≡ k

-- v has a Heard entry with counter k
pub record HasHeard (air : List Entry) (v k : ℕ) : Type 0 where
  pub sending : Sending
  pub there : HasHeardEntry air v sending
  pub counter : counter_of sending.packet ≡ k

-- the Heard entry of v that ends first has counter k
pub record HeardFirst (air : List Entry) (v k : ℕ) : Type 0 where
  pub sending : Sending
  pub there : HasHeardEntry air v sending
  pub counter : counter_of sending.packet ≡ k
  pub first : (y : Sending) → HasHeardEntry air v y → sending.end ≤ y.end

-- the step at which v accepts: the counter of its first reception. The starting node accepts nothing
abbrev pub IsAcceptanceStep : FloodParts → List Entry → ℕ → Option ℕ → Type 0
IsAcceptanceStep f air v None = (v ≡ f.start) ⊎ ((x : Sending) → HasHeardEntry air v x → ⊥)
IsAcceptanceStep f air v (Some k) = (v ≢ f.start) × HeardFirst air v k

-- the nodes that accept, each with its step, in the order of these nodes
abbrev pub accepting : (ℕ → Option ℕ) → List ℕ → List (ℕ × ℕ)
accepting step nodes = filter_map (λ v. option_map {U = ℕ × ℕ} (λ k. (v, k)) (step v)) nodes
