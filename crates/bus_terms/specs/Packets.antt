-- Packets on the bus: what the lines of the script put, and what is sent in the data slots.
use Rattle.std.specs.Prelude.{ℕ, List, [], Bool, ◌==◌, ◌&&◌, if◌then◌else◌, Some, None, take, filter_map, flat_map, option_and_then}
use Rattle.std.specs.declared.option.Option.{Option}
use Rattle.std.specs.Option.{option_map_or}
use Rattle.std.specs.List.{enumerate_from}
use Rattle.lwb_base.specs.Messages.{Plan, node_of}
use Rattle.scenario_text.specs.ScenarioParts.{ScenarioParts}
use Rattle.scenario_text.specs.declared.script.ScriptLine.{ScriptLine}
use Rattle.bus_rules.specs.declared.act.Act.{Act}
use Rattle.bus_rules.specs.declared.act.Act.TheVariants.{Put}
use Rattle.bus_rules.specs.declared.part.Part.{Part}
use Rattle.bus_rules.specs.declared.part.Part.TheVariants.{Data as DataSlot}
use Rattle.bus_rules.specs.Slots.{Data, Message, DataOf, Opened, part_of}
use Rattle.bus_rules.specs.States.{State, StateOff, StateOn}
use Rattle.bus_rules.specs.Streams.{drops, stream_at}
use Rattle.bus_terms.specs.Bus.{frames_of, ranks_of, state_at, state_before_line}
use Rattle.bus_terms.specs.Rounds.{message_said, round_plan, slot_at, slots_of}
use Rattle.bus_terms.specs.declared.packets.PacketId.{PacketId}
use Rattle.bus_terms.specs.declared.packets.PutLine.{PutLine}
use Rattle.bus_terms.specs.declared.packets.SentPacket.{SentPacket}

-- the packet that node v queues by a put to stream i in this state; None where it is dropped
abbrev pub queued_packet : ℕ → ℕ → State → Option PacketId
queued_packet v i (StateOff boots) = None
queued_packet v i (StateOn c) =
    if drops c.streams i then None else Some (record { node = v; boot = c.boot; stream = i; seq = (stream_at c.streams i).next })

-- what line l puts at its node in this state
abbrev pub put_by : ScriptLine → Act → State → Option PutLine
put_by l (Put i payload) x = Some (record { frame = l.frame; node = l.node; stream = i; packet = queued_packet l.node i x })
put_by l other x = None

-- what line l at place i of the script puts
abbrev pub put_at : ScenarioParts → ℕ × ScriptLine → Option PutLine
put_at s (i, l) = put_by l l.act (state_before_line s (take i s.script) l)

-- the put lines, in the order of the text
abbrev pub bus_puts : ScenarioParts → List PutLine
bus_puts s = filter_map (put_at s) (enumerate_from 0 s.script)

abbrev pub packet_of : Data → PacketId
packet_of d = record { node = d.node; boot = d.boot; stream = d.stream; seq = d.seq }

abbrev pub packet_said : ℕ → ℕ → ℕ → Message → Option SentPacket
packet_said rank f j (DataOf d) = Some (record { frame = f; rank = rank; slot = j; packet = packet_of d })
packet_said rank f j other = None

-- what the owner of a data slot sends in it
abbrev pub sent_by_owner : ℕ → ℕ → ℕ → Part → (ℕ → Option Opened) → Option SentPacket
sent_by_owner rank f j (DataSlot owner) window = option_and_then (packet_said rank f j) (message_said (window (node_of owner)))
sent_by_owner rank f j other window = None

-- what is sent in slot j of a round that began in these states
abbrev pub sent_in_slot : ScenarioParts → ℕ → ℕ → Plan → (ℕ → State) → ℕ → Option SentPacket
sent_in_slot s rank f p states j = sent_by_owner rank f j (part_of p j) (slot_at s rank f p states j).window

-- in a round, by slot
abbrev pub round_sent : ScenarioParts → ℕ → ℕ → (ℕ → State) → List SentPacket
round_sent s rank f states = option_map_or (λ p. filter_map (sent_in_slot s rank f p states) (slots_of p)) (round_plan s rank f states) []

-- by frame, rank and slot
abbrev pub bus_sent : ScenarioParts → List SentPacket
bus_sent s = flat_map (λ f. flat_map (λ rank. round_sent s rank f (state_at s f)) (ranks_of s)) (frames_of s)
