-- A run of two nodes: node 1 initiates, and node 2 receives it and relays.
use Rattle.std.specs.Prelude.{ℕ, ◌+◌, List, [], ◌∷◌, Bool, true, ◌||◌, ◌==◌, None, if◌then◌else◌}
use Rattle.lwb_packets.specs.declared.kind.Kind.TheVariants.{Payload}
use Rattle.radio_model.specs.declared.sending.Sending.{Sending}
use Rattle.air_log.specs.NodeEvents.{Event, Heard, Ended}
use Rattle.lwb_flood.specs.FloodRun.{Run}

abbrev pub packet_of : ℕ → ℕ → List ℕ
packet_of start k = 2 ∷ 1 ∷ k ∷ start ∷ 1 ∷ 0 ∷ 0 ∷ 0 ∷ []

abbrev pub first_transmission : Sending
first_transmission = record { rank = 0; node = 1; start = 0; end = 32768; packet = packet_of 1 0 }

abbrev pub second_sending : Sending
second_sending = record { rank = 0; node = 2; start = 45056; end = 77824; packet = packet_of 1 1 }

abbrev pub two_events : ℕ → List Event
two_events v =
    if v == 1 then Ended first_transmission ∷ []
    else (if v == 2 then Heard first_transmission ∷ Ended second_sending ∷ [] else [])

abbrev pub two_node_run : Run
two_node_run = record {
  setting = record {
    limit = 1;
    passes = λ k u v. true;
    captured = λ k v. None;
    initiators = 1 ∷ [];
    everyone = 1 ∷ 2 ∷ [];
  };
  kind = Payload;
  slot = 1;
  rank = 0;
  message = λ o. packet_of o 0;
  starts = λ o. 0;
  air = 32768;
  turn = 12288;
  delta = 32;
  spread = 0;
  sendings = first_transmission ∷ second_sending ∷ [];
  hearings = record { node = 2; sending = first_transmission } ∷ [];
  events = two_events;
  relay_start = λ v e. e + 12288;
}

abbrev pub two_tuned : ℕ → Sending → Bool
two_tuned v x = (v == 2) || (x.start == 0)
