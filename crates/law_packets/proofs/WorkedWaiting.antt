-- Worked scenarios with packets that wait when they are over, and the queues in which they are, computed from the definitions.
use Rattle.std.proofs.Common.{◌≡◌, ℕ, List, [], ◌∷◌, Some, map, refl, true}
use Rattle.lwb_base.specs.Messages.{least_passing}
use Rattle.lwb_base.specs.Profile.{one}
use Rattle.scenario_text.specs.ScenarioParts.{ScenarioParts}
use Rattle.scenario_text.specs.declared.script.ScriptLine.{ScriptLine}
use Rattle.bus_rules.specs.declared.act.Act.TheVariants.{On, Off, Declare, Put}
use Rattle.bus_rules.specs.Granting.{plan_round}
use Rattle.bus_rules.specs.HostPlans.{host_plan}
use Rattle.bus_rules.specs.States.{State, StateOff, StateOn}
use Rattle.bus_rules.specs.Streams.{schedule_heard, stream_at}
use Rattle.bus_terms.specs.Bus.{before_frame}
use Rattle.bus_terms.specs.Fates.{bus_fates}
use Rattle.bus_terms.specs.Flooding.{moment}
use Rattle.bus_terms.specs.Rounds.{before_slot}
use Rattle.bus_terms.specs.declared.packets.Fate.{Fate}
use Rattle.bus_terms.specs.declared.packets.Fate.TheVariants.{Cleared, Sent, Waiting}
use Rattle.bus_terms.specs.declared.packets.PutFate.{PutFate}
use Rattle.bus_terms.proofs.WorkedBuses.{node, link, at}

-- host 1 and member 2, and nothing is lost
abbrev pair : ℕ → List ScriptLine → ScenarioParts
pair frames script = record {
  profile = one;
  frames = frames;
  sends = 2;
  nodes = node 1 ∷ node 2 ∷ [];
  rates = [];
  hosts = 1 ∷ [];
  trace = record { links = link 1 2 ∷ link 2 1 ∷ []; losses = []; cuts = []; captures = [] };
  script = at 0 1 On ∷ at 0 2 On ∷ script;
}

abbrev asked : ℕ → ScriptLine
asked f = at f 2 (Declare 0 4)

abbrev given : ℕ → ScriptLine
given f = at f 2 (Put 0 (0xaa ∷ []))

-- in stream 0 of node 2
abbrev put_in : ℕ → ℕ → ℕ → Fate → PutFate
put_in f boot seq fate = record {
  put = record { frame = f; node = 2; stream = 0; packet = Some (record { node = 2; boot = boot; stream = 0; seq = seq }) };
  fate = fate;
}

-- the boot of a node that is on, and the numbers that wait in its stream 0
abbrev queue_in : State → ℕ × List ℕ
queue_in (StateOff boots) = (0, [])
queue_in (StateOn c) = (c.boot, map (λ w. w.seq) (stream_at c.streams 0).queue)

-- the first packet is sent in frame 9, and the second, of frame 10, waits for the round of frame 13
abbrev one_sent : ScenarioParts
one_sent = pair 13 (asked 0 ∷ given 0 ∷ given 10 ∷ [])

the_second_waits : bus_fates one_sent ≡ put_in 0 1 0 (Sent 9 0 1 1 true) ∷ put_in 10 1 1 Waiting ∷ []
unfolding before_frame before_slot moment schedule_heard host_plan plan_round least_passing
the_second_waits = refl

it_is_queued : queue_in (before_frame one_sent 13 2) ≡ (1, 1 ∷ [])
unfolding before_frame before_slot moment schedule_heard host_plan plan_round least_passing
it_is_queued = refl

-- the first packet is cleared as the power goes off, and the second has its number in another boot
abbrev two_boots : ScenarioParts
two_boots = pair 4 (asked 0 ∷ given 0 ∷ at 2 2 Off ∷ at 3 2 On ∷ asked 3 ∷ given 3 ∷ [])

that_of_the_second_boot_waits : bus_fates two_boots ≡ put_in 0 1 0 (Cleared 2) ∷ put_in 3 2 0 Waiting ∷ []
unfolding before_frame before_slot moment schedule_heard host_plan plan_round least_passing
that_of_the_second_boot_waits = refl

and_is_queued : queue_in (before_frame two_boots 4 2) ≡ (2, 0 ∷ [])
unfolding before_frame before_slot moment schedule_heard host_plan plan_round least_passing
and_is_queued = refl
