-- Numbers of streams through slots, rounds and frames: what a boot has said is below all that it says later.
use Rattle.std.proofs.Common.{◌≡◌, ℕ, ◌+◌, ◌≤◌, List, [], ◌∷◌, Bool, true, false, ◌==◌, if◌then◌else◌, Option, Some, None, fold, refl, sym, ◌∙◌, arith}
use Rattle.lwb_base.specs.Messages.{Schedule, node_of, stream_of}
use Rattle.scenario_text.specs.ScenarioParts.{ScenarioParts}
use Rattle.bus_rules.specs.declared.act.Act.{Act}
use Rattle.scenario_text.specs.declared.script.ScriptLine.{ScriptLine}
use Rattle.bus_rules.specs.declared.part.Part.{Part}
use Rattle.bus_rules.specs.declared.part.Part.TheVariants.{Opening, Data as DataSlot, Contention, Closing}
use Rattle.bus_rules.specs.declared.tune.Tune.{Tune}
use Rattle.bus_rules.specs.Cores.{Core, Setup, booted, as_host, begins_host, frame_ended, schedule_accepted, opening_accepted, closing_accepted}
use Rattle.bus_rules.specs.Slots.{Message, ScheduleOf, DataOf, RequestOf, opened_slot, closed_slot, slot_heard, hosts_now, host_closes, silent, is_own}
use Rattle.bus_rules.specs.States.{State, StateOff, StateOn, at_core, core_after_act, state_after_act}
use Rattle.bus_rules.specs.Streams.{stream_at, after_taking, after_contention}
use Rattle.bus_rules.proofs.Switches.{acts_keep}
use Rattle.scenario_text.specs.Setups.{setup_of}
use Rattle.bus_terms.specs.ScriptedStates.{state_after_line, states_after_script, lines_of, states_after_end}
use Rattle.bus_terms.proofs.NumberedStreams.{IsNumbered, KeepsAll, told_keeps, taken_keeps}
use Rattle.bus_terms.proofs.NumberedStreams.{unbound_keeps, contention_keeps, heard_keeps, plan_keeps, cleared_is_numbered}

-- of boot b, the numbers of stream i are from low on; a later boot has others
abbrev pub IsPast : ℕ → ℕ → ℕ → State → Type 0
IsPast b i low (StateOff boots) = b ≤ boots
IsPast b i low (StateOn c) = (b ≤ c.boot) × (c.boot ≡ b → IsNumbered low (stream_at c.streams i))

abbrev pub IsWell : State → Type 0
IsWell (StateOff boots) = Unit {0}
IsWell (StateOn c) = (i : ℕ) → IsNumbered 0 (stream_at c.streams i)

-- a change that keeps both
pub record Keeps (x y : State) : Type 0 where
  pub past : (b i low : ℕ) → IsPast b i low x → IsPast b i low y
  pub well : IsWell x → IsWell y

pub keeps_same : (x : State) → Keeps x x
keeps_same x = record { past = λ b i low is. is; well = λ is. is }

pub keeps_both : (x y z : State) → Keeps x y → Keeps y z → Keeps x z
keeps_both x y z first second = record { past = λ b i low is. second.past b i low (first.past b i low is); well = λ is. second.well (first.well is) }

-- a change of a core
pub record KeepsCore (c d : Core) : Type 0 where
  pub boot : d.boot ≡ c.boot
  pub numbers : KeepsAll c.streams d.streams

pub core_same : (c : Core) → KeepsCore c c
core_same c = record { boot = refl; numbers = λ i low is. is }

pub core_both : (c d e : Core) → KeepsCore c d → KeepsCore d e → KeepsCore c e
core_both c d e first second = record { boot = second.boot ∙ first.boot; numbers = λ i low is. second.numbers i low (first.numbers i low is) }

pub on_keeps : (c d : Core) → KeepsCore c d → Keeps (StateOn c) (StateOn d)
on_keeps c d keeps = record {
  past = λ b i low is. (let same = keeps.boot in (omega (arith, same, is.0), λ at. keeps.numbers i low (is.1 (sym same ∙ at))));
  well = λ is i. keeps.numbers i 0 (is i);
}

at_core_keeps : (change : Core → Core) → ((c : Core) → KeepsCore c (change c)) → (x : State) → Keeps x (at_core change x)
at_core_keeps change keeps (StateOff boots) = keeps_same (StateOff boots)
at_core_keeps change keeps (StateOn c) = on_keeps c (change c) (keeps c)

-- script lines
boots_keep : (boots : ℕ) → Keeps (StateOff boots) (StateOn (booted (boots + 1)))
boots_keep boots = record { past = λ b i low is. (omega arith, λ at. absurd (omega arith)); well = λ is i. cleared_is_numbered i }

ends_keep : (c : Core) → Keeps (StateOn c) (StateOff c.boot)
ends_keep c = record { past = λ b i low is. is.0; well = λ is. tt }

streams_keep : (a : Act) (c : Core) → Keeps (StateOn c) (StateOn (core_after_act a c))
streams_keep a c = on_keeps c (core_after_act a c) (record { boot = refl; numbers = told_keeps a c.streams })

act_keeps : (a : Act) (x : State) → Keeps x (state_after_act a x)
act_keeps a x =
    acts_keep (Keeps x) (λ boots is. keeps_both x (StateOff boots) (StateOn (booted (boots + 1))) is (boots_keep boots))
    (λ c is. keeps_both x (StateOn c) (StateOff c.boot) is (ends_keep c))
    (λ a c is. keeps_both x (StateOn c) (StateOn (core_after_act a c)) is (streams_keep a c)) a x (keeps_same x)

pub lines_keep : (ls : List ScriptLine) (x : State) → Keeps x (fold state_after_line x ls)
lines_keep [] x = keeps_same x
lines_keep (l ∷ ls) x =
    keeps_both x (state_after_line x l) (fold state_after_line (state_after_line x l) ls) (act_keeps l.act x) (lines_keep ls (state_after_line x l))

pub script_keeps : (s : ScenarioParts) (f v : ℕ) (states : ℕ → State) → Keeps (states v) (states_after_script s f states v)
script_keeps s f v states = lines_keep (lines_of s f v) (states v)

-- the end of a frame
ended_core : (s : Setup) (f : ℕ) (c : Core) → KeepsCore c (frame_ended s f c)
ended_core s f c = by_host _ (begins_host c.tune _)
  where
    by_host : (t : Tune) (rank : Option ℕ) → KeepsCore c (as_host s.profile rank (record c { tune = t; own_slot = None }))
    by_host t None = record { boot = refl; numbers = λ i low is. is }
    by_host t (Some rank) = record { boot = refl; numbers = unbound_keeps c.streams }

pub ended_keeps : (s : ScenarioParts) (f v : ℕ) (states : ℕ → State) → Keeps (states v) (states_after_end s f states v)
ended_keeps s f v states = at_core_keeps _ (ended_core (setup_of s v) f) (states v)

-- a window opens
pub opened_core : (s : Setup) (f : ℕ) (part : Part) (c : Core) → KeepsCore c (opened_slot s f part c).core
opened_core s f Opening c = core_same c
opened_core s f (DataSlot owner) c = by_test (node_of owner == s.id)
  where
    by_test : (b : Bool) → KeepsCore c (record c { streams = if b then after_taking (stream_of owner) c.streams else c.streams })
    by_test true = record { boot = refl; numbers = taken_keeps (stream_of owner) c.streams }
    by_test false = core_same c
opened_core s f (Contention i) c = by_test (is_own c.own_slot i)
  where
    by_test : (b : Bool) → KeepsCore c (record c { streams = if b then after_contention s.id c.streams else c.streams })
    by_test true = record { boot = refl; numbers = contention_keeps s.id c.streams }
    by_test false = core_same c
opened_core s f Closing c = by_test (hosts_now f c)
  where
    by_test : (b : Bool) → KeepsCore c (if b then host_closes s f c else silent c).core
    by_test true = record { boot = refl; numbers = plan_keeps s.profile s.id c.boot _ f c.kept c.table c.streams }
    by_test false = core_same c

-- and closes
heard_core : (f : ℕ) (part : Part) (heard : Bool) (c : Core) → KeepsCore c (slot_heard f part heard c)
heard_core f Opening heard c = core_same c
heard_core f (DataSlot owner) heard c = record { boot = refl; numbers = λ i low is. is }
heard_core f (Contention i) heard c = core_same c
heard_core f Closing heard c = core_same c

accepted_core : (node f : ℕ) (x : Schedule) (c : Core) → KeepsCore c (schedule_accepted node f x c)
accepted_core node f x c = by_test (x.gap == 0)
  where
    by_test : (b : Bool) → KeepsCore c (if b then opening_accepted node f x c else closing_accepted node f x c)
    by_test true = record { boot = refl; numbers = heard_keeps node c.boot f x c.streams }
    by_test false = record { boot = refl; numbers = heard_keeps node c.boot f x c.streams }

pub closed_core : (s : Setup) (f : ℕ) (part : Part) (initiated : Bool) (c : Core) (m : Option Message) → KeepsCore c (closed_slot s f part initiated c m).core
closed_core s f part initiated c None = heard_core f part initiated c
closed_core s f part initiated c (Some (ScheduleOf x)) = accepted_core s.id f x c
closed_core s f part initiated c (Some (DataOf d)) = heard_core f part true c
closed_core s f part initiated c (Some (RequestOf a)) = record { boot = refl; numbers = λ i low is. is }
