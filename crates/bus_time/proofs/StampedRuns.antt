-- What is read in order may be stamped.
use Rattle.std.proofs.Common.{◌≡◌, ℕ, zero, suc, ◌<◌, List, [], ◌∷◌, map, length, get_or, Contains, refl, sym, ◌∙◌, ap, subst, arith}
use Rattle.std.proofs.lemmas.List.{length-map}
use Rattle.lwb_base.specs.Profile.{Numbers}
use Rattle.tick_clock.specs.ClockReadings.{segment_clock_reads}
use Rattle.tick_clock.specs.declared.segment_clock.SegmentClock.{SegmentClock}
use Rattle.scenario_clocks.specs.ClockLists.{clocks_by}
use Rattle.scenario_clocks.specs.StatedClocks.{scenario_clock, stated_by}
use Rattle.scenario_clocks.proofs.StatedDrift.{scenario_clocks_drift}
use Rattle.scenario_text.specs.ScenarioGrammar.{IsScenario}
use Rattle.scenario_text.specs.ScenarioParts.{ScenarioParts}
use Rattle.scenario_text.specs.declared.lines.NodeLine.{NodeLine}
use Rattle.scenario_text.specs.declared.lines.RateLine.{RateLine}
use Rattle.scenario_text.proofs.SoundScenarios.{sound}
use Rattle.scenario_clocks.proofs.StatedPlaces.{stated_place}
use Rattle.radio_model.specs.declared.sending.Sending.{Sending}
use Rattle.air_log.specs.declared.entry.Entry.{Entry}
use Rattle.air_log.specs.Lawful.{Lawful}
use Rattle.lwb_base.specs.Sorting.{in_order}
use Rattle.lwb_base.proofs.Elements.{contains_head, contains_tail}
use Rattle.law_safety.specs.Invariant.{IsDrivenWell}
use Rattle.bus_time.specs.Reading.{IsRead, beginning_of, starts_first}
use Rattle.bus_time.specs.Stamps.{stamped}
use Rattle.bus_time.specs.Stamping.{MayStamp}
use Rattle.bus_time.specs.declared.words.Words.{Words}
use Rattle.bus_time.specs.declared.beginning.Beginning.{Beginning}
use Rattle.bus_time.proofs.StampedLists.{sorted_all, stamped_begins}

pub record IsAt {X Y : Type 0} (g : X → Y) (xs : List X) (i : ℕ) (y : Y) : Type 0 where
  pub it : X
  pub place : it ≡ get_or xs i it
  pub image : get_or (map g xs) i y ≡ g it
  pub there : Contains xs it

found_at : {X Y : Type 0} (g : X → Y) (xs : List X) (i : ℕ) (y : Y) → i < length xs → IsAt g xs i y
found_at g [] i y less = absurd (omega (arith, less))
found_at g (x ∷ xs) zero y less = record { it = x; place = refl; image = refl; there = contains_head x xs }
found_at g (x ∷ xs) (suc i) y less =
    let rest = found_at g xs i y (omega (arith, less)) in
    record { it = rest.it; place = rest.place; image = rest.image; there = contains_tail x xs rest.it rest.there }

-- over the clocks that a scenario states
pub driven : (s : ScenarioParts) → IsScenario s → IsDrivenWell s (scenario_clock s)
driven s said = record { sound = sound s said; drift = λ v known. scenario_clocks_drift s said v known }

-- the clock at the place of a node reads what the scenario states for the node
pub clock_reads : (s : ScenarioParts) → IsScenario s → (ns : List NodeLine) (rates : List RateLine) (cs : List SegmentClock) → ns ≡ s.nodes
    → rates ≡ s.rates → length cs ≡ length ns → ((v : ℕ) → clocks_by segment_clock_reads ns cs v ≡ stated_by ns rates v)
    → (i v : ℕ) (c : SegmentClock) → i < length s.nodes → ((d : NodeLine) → (get_or s.nodes i d).node ≡ v) → c ≡ get_or cs i c
    → segment_clock_reads c ≡ scenario_clock s v
clock_reads s said ns rates cs same_nodes same_rates long stated i v c less at is =
    let line : NodeLine = record { node = 0; offset = 0 } in
    stated_place s ns rates cs (sound s said) same_nodes same_rates long stated i line c
    (subst (λ (l : List NodeLine). i < length l) (sym same_nodes) less) is
    ∙ ap (scenario_clock s) (ap (λ (l : List NodeLine). (get_or l i line).node) same_nodes ∙ at line)

module _ (s : ScenarioParts) (said : IsScenario s) (air : List Entry) (lawful : Lawful s (scenario_clock s) air) (p : Numbers) (own : p ≡ s.profile)
    (now ahead : Words) (bs sorted : List Beginning) (read : IsRead p air now ahead bs) (order : sorted ≡ in_order starts_first bs) where
  is_read : IsRead s.profile air now ahead bs
  is_read = subst (λ (q : Numbers). IsRead q air now ahead bs) own read

  sorted_is : sorted ≡ map (beginning_of s.profile) (stamped s.profile air)
  sorted_is = sorted_all s.profile air bs sorted is_read.beginnings_are order

  pub long : length sorted ≡ length (stamped s.profile air)
  long = ap (λ (l : List Beginning). length l) sorted_is ∙ length-map (stamped s.profile air) (beginning_of s.profile)

  pub record MayStampAt (i : ℕ) (b : Beginning) : Type 0 where
    pub it : Sending
    pub place : it ≡ get_or (stamped s.profile air) i it
    pub may : MayStamp s (scenario_clock s) now ahead b air it

  pub may_stamp : (i : ℕ) (b : Beginning) → i < length sorted → b ≡ get_or sorted i b → MayStampAt i b
  may_stamp i b less at =
      let many = long in
      let found = found_at (beginning_of s.profile) (stamped s.profile air) i b (omega (arith, less, many)) in
      let begins = stamped_begins s.profile air found.it found.there in
      record {
        it = found.it;
        place = found.place;
        may = record {
          driven = driven s said;
          lawful = lawful;
          now_is = is_read.now_is;
          ahead_is = is_read.ahead_is;
          there = begins.0;
          begins = begins.1;
          is = at ∙ ap (λ (l : List Beginning). get_or l i b) sorted_is ∙ found.image;
        };
      }
