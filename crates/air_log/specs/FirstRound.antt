-- Worked trails: node 1 hosts a first round for node 2, in the last of six frames, and their clocks keep true time. It
-- sends the opening in slot 0 and the closing in slot 2. Both are relayed by turns, twice by each node.
use Rattle.std.specs.Prelude.{◌≡◌, ℕ, List, [], ◌∷◌, ◌++◌, Some, map}
use Rattle.lwb_base.specs.Profile.{one}
use Rattle.scenario_text.specs.ScenarioParts.{ScenarioParts}
use Rattle.bus_rules.specs.declared.act.Act.TheVariants.{On}
use Rattle.radio_model.specs.declared.sending.Sending.{Sending}
use Rattle.radio_model.specs.OnAir.{Hearing, Tuning}
use Rattle.air_log.specs.declared.entry.Entry.{Entry}
use Rattle.air_log.specs.declared.entry.Entry.TheVariants.{Sent, Tuned}
use Rattle.air_log.specs.Entries.{heard_entry}
use Rattle.air_log.specs.Devices.{Device}
use Rattle.air_log.specs.Trails.{Reception, tune_of}
use Rattle.air_log.specs.Charges.{windows_charge}
use Rattle.bus_rules.specs.declared.tune.Tune.{Tune}

abbrev pub first_round : ScenarioParts
first_round = record {
  profile = one;
  frames = 6;
  sends = 2;
  nodes = record { node = 1; offset = 0 } ∷ record { node = 2; offset = 0 } ∷ [];
  rates = [];
  hosts = 1 ∷ [];
  trace = record {
    links = record { from = 1; to = 2 } ∷ record { from = 2; to = 1 } ∷ [];
    losses = [];
    cuts = [];
    captures = [];
  };
  script = record { frame = 0; node = 1; act = On } ∷ record { frame = 0; node = 2; act = On } ∷ [];
}

-- a schedule of boot 1 without owners: the opening, and the closing with gap 4
abbrev pub opening_with : ℕ → List ℕ
opening_with counter = 1 ∷ 0 ∷ counter ∷ 0 ∷ 1 ∷ 0 ∷ 0 ∷ 0 ∷ 0 ∷ 0 ∷ []

abbrev pub closing_with : ℕ → List ℕ
closing_with counter = 1 ∷ 2 ∷ counter ∷ 4 ∷ 1 ∷ 0 ∷ 0 ∷ 0 ∷ 0 ∷ 0 ∷ []

-- what each node receives is what the other one sends
abbrev pub first_round_heard_by_host : List Reception
first_round_heard_by_host = record { packet = opening_with 1; end = 1344150016 } ∷ record { packet = closing_with 1; end = 1348374016 } ∷ []

abbrev pub heard_by_other : List Reception
heard_by_other =
    record { packet = opening_with 0; end = 1344100864 }
    ∷ record { packet = opening_with 2; end = 1344199168 }
    ∷ record { packet = closing_with 0; end = 1348324864 }
    ∷ record { packet = closing_with 2; end = 1348423168 }
    ∷ []

abbrev pub sent_at : ℕ → ℕ → ℕ → List ℕ → Sending
sent_at v start end packet = record { rank = 0; node = v; start = start; end = end; packet = packet }

abbrev pub first_round_sent_by_host : List Sending
first_round_sent_by_host =
    sent_at 1 1344064000 1344100864 (opening_with 0)
    ∷ sent_at 1 1344162304 1344199168 (opening_with 2)
    ∷ sent_at 1 1348288000 1348324864 (closing_with 0)
    ∷ sent_at 1 1348386304 1348423168 (closing_with 2)
    ∷ []

abbrev pub sent_by_other : List Sending
sent_by_other =
    sent_at 2 1344113152 1344150016 (opening_with 1)
    ∷ sent_at 2 1344211456 1344248320 (opening_with 3)
    ∷ sent_at 2 1348337152 1348374016 (closing_with 1)
    ∷ sent_at 2 1348435456 1348472320 (closing_with 3)
    ∷ []

abbrev pub tuned_at : ℕ → ℕ → ℕ → Tuning
tuned_at v start end = record { rank = 0; node = v; start = start; end = end }

-- the last first
abbrev pub first_round_tuned_by_host : List Tuning
first_round_tuned_by_host =
    tuned_at 1 1348224000 1348423168 ∷ tuned_at 1 1346112000 1348208000 ∷ tuned_at 1 1344000000 1344199168 ∷ tuned_at 1 0 1228800000 ∷ []

abbrev pub tuned_by_other : List Tuning
tuned_by_other = tuned_at 2 1348224000 1348472320 ∷ tuned_at 2 1346112000 1348208000 ∷ tuned_at 2 0 1344248320 ∷ []

-- the entries of a trail, what its windows count, and its tune at the end
pub record IsWorked (s : ScenarioParts) (d : Device) (sent : List Sending) (tuned : List Tuning) (windows : ℕ) (tune : Tune) : Type 0 where
  pub sendings : d.made.sent ≡ sent
  pub tunings : d.made.tuned ≡ tuned
  pub charge : windows_charge s d ≡ windows
  pub last : tune_of d.power ≡ Some tune

-- the log of both nodes: transmissions as they begin
abbrev pub sent_in_round : List Sending
sent_in_round =
    sent_at 1 1344064000 1344100864 (opening_with 0)
    ∷ sent_at 2 1344113152 1344150016 (opening_with 1)
    ∷ sent_at 1 1344162304 1344199168 (opening_with 2)
    ∷ sent_at 2 1344211456 1344248320 (opening_with 3)
    ∷ sent_at 1 1348288000 1348324864 (closing_with 0)
    ∷ sent_at 2 1348337152 1348374016 (closing_with 1)
    ∷ sent_at 1 1348386304 1348423168 (closing_with 2)
    ∷ sent_at 2 1348435456 1348472320 (closing_with 3)
    ∷ []

abbrev pub heard_in_round : List Hearing
heard_in_round =
    record { node = 2; sending = sent_at 1 1344064000 1344100864 (opening_with 0) }
    ∷ record { node = 1; sending = sent_at 2 1344113152 1344150016 (opening_with 1) }
    ∷ record { node = 2; sending = sent_at 1 1344162304 1344199168 (opening_with 2) }
    ∷ record { node = 2; sending = sent_at 1 1348288000 1348324864 (closing_with 0) }
    ∷ record { node = 1; sending = sent_at 2 1348337152 1348374016 (closing_with 1) }
    ∷ record { node = 2; sending = sent_at 1 1348386304 1348423168 (closing_with 2) }
    ∷ []

abbrev pub entry_of_hearing : Hearing → Entry
entry_of_hearing h = heard_entry h.node h.sending

abbrev pub tuned_entry : Tuning → Entry
tuned_entry t = Tuned (record { rank = t.rank; node = t.node; start = t.start; end = t.end })

abbrev pub first_round_log : List Entry
first_round_log = map Sent sent_in_round ++ map entry_of_hearing heard_in_round ++ map tuned_entry (first_round_tuned_by_host ++ tuned_by_other)
