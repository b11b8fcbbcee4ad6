-- A flood over two nodes whose clocks keep true time, and its log: node 2 relays what node 1 sends. Each sends once.
use Rattle.std.specs.Prelude.{ℕ, List, [], ◌∷◌}
use Rattle.scenario_text.specs.FloodParts.{FloodParts}
use Rattle.air_log.specs.declared.entry.Entry.{Entry}
use Rattle.air_log.specs.declared.entry.Entry.TheVariants.{Sent, Heard, Tuned}

abbrev pub two_node_flood : FloodParts
two_node_flood = record {
  sends = 1;
  nodes = record { node = 1; offset = 0 } ∷ record { node = 2; offset = 0 } ∷ [];
  rates = [];
  trace = record {
    links = record { from = 1; to = 2 } ∷ record { from = 2; to = 1 } ∷ [];
    losses = [];
    cuts = [];
    captures = [];
  };
  start = 1;
}

abbrev pub true_time : ℕ → ℕ → ℕ
true_time v t = t

abbrev pub packet_with : ℕ → List ℕ
packet_with counter = 2 ∷ 1 ∷ counter ∷ 1 ∷ 1 ∷ 0 ∷ 0 ∷ 0 ∷ []

abbrev pub two_node_log : List Entry
two_node_log =
    Sent (record { rank = 0; node = 1; start = 1344064000; end = 1344096768; packet = packet_with 0 })
    ∷ Heard (record { rank = 0; node = 2; from = 1; start = 1344064000; end = 1344096768; packet = packet_with 0 })
    ∷ Sent (record { rank = 0; node = 2; start = 1344109056; end = 1344141824; packet = packet_with 1 })
    ∷ Tuned (record { rank = 0; node = 1; start = 1344000000; end = 1344096768 })
    ∷ Tuned (record { rank = 0; node = 2; start = 1344000000; end = 1344141824 })
    ∷ []
