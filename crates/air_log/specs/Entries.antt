-- The transmissions, receptions and tunings of a log.
use Rattle.std.specs.Prelude.{ℕ, List, Option, Some, None, Contains, filter_map}
use Rattle.air_log.specs.declared.entry.Entry.{Entry}
use Rattle.air_log.specs.declared.entry.Entry.TheVariants.{Sent, Heard, Tuned}
use Rattle.radio_model.specs.declared.sending.Sending.{Sending}
use Rattle.radio_model.specs.OnAir.{Hearing, Tuning}

abbrev pub sending_in : Entry → Option Sending
sending_in (Sent x) = Some x
sending_in (Heard h) = None
sending_in (Tuned t) = None

abbrev pub hearing_in : Entry → Option Hearing
hearing_in (Sent x) = None
hearing_in (Heard h) = Some (record {
  node = h.node;
  sending = record { rank = h.rank; node = h.from; start = h.start; end = h.end; packet = h.packet };
})
hearing_in (Tuned t) = None

abbrev pub tuning_in : Entry → Option Tuning
tuning_in (Sent x) = None
tuning_in (Heard h) = None
tuning_in (Tuned t) = Some (record { rank = t.rank; node = t.node; start = t.start; end = t.end })

-- the entry of the reception of a transmission by v
abbrev pub heard_entry : ℕ → Sending → Entry
heard_entry v x = Heard (record { rank = x.rank; node = v; from = x.node; start = x.start; end = x.end; packet = x.packet })

abbrev pub sendings_of : List Entry → List Sending
sendings_of air = filter_map sending_in air

abbrev pub hearings_of : List Entry → List Hearing
hearings_of air = filter_map hearing_in air

-- v has a Heard entry of x
abbrev pub HasHeardEntry : List Entry → ℕ → Sending → Type 0
HasHeardEntry air v x = Contains (hearings_of air) (record { node = v; sending = x })

abbrev pub tunings_of : List Entry → List Tuning
tunings_of air = filter_map tuning_in air

abbrev pub node_of_entry : Entry → ℕ
node_of_entry (Sent x) = x.node
node_of_entry (Heard h) = h.node
node_of_entry (Tuned t) = t.node
