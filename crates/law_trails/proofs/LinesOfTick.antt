-- What the script lines of a tick leave of a node.
use Rattle.std.proofs.Common.{◌≡◌, ◌≢◌, ℕ, ◌+◌, ◌≤◌, ◌↔◌, ◌⊎◌, inl, inr, List, [], ◌∷◌, Bool, ◌==◌, ◌&&◌, fold, Contains, Some, None, Option, refl}
use Rattle.std.proofs.Common.{sym, ◌∙◌, ap, subst, arith}
use Rattle.std.proofs.lemmas.Bool.{and_parts, and_from, eqb-true, eq-eqb}
use Rattle.scenario_text.specs.ScenarioParts.{ScenarioParts}
use Rattle.bus_rules.specs.declared.act.Act.{Act}
use Rattle.bus_rules.specs.declared.act.Act.TheVariants.{Off}
use Rattle.bus_rules.specs.declared.act.Switch.{Switch}
use Rattle.bus_rules.specs.declared.act.Switch.TheVariants as switch
use Rattle.bus_rules.specs.States.{switch_of}
use Rattle.bus_rules.proofs.Switches.{switches_off}
use Rattle.scenario_text.specs.declared.script.ScriptLine.{ScriptLine}
use Rattle.bus_rules.specs.Streams.{Streams, cleared, streams_after_act}
use Rattle.bus_rules.specs.Cores.{Core, Setup}
use Rattle.node_core.specs.Nodes.{Node, rebooted}
use Rattle.node_core.specs.Rows.{boots}
use Rattle.node_core.specs.Nodes.{with_streams}
use Rattle.air_log.specs.Devices.{Device, Power, PowerOff, PowerOn}
use Rattle.air_log.specs.ScriptedDevices.{device_after_act, device_after_line, device_after_on}
use Rattle.air_log.proofs.DeviceActs.{told, by_act}
use Rattle.scenario_text.specs.Setups.{setup_of}
use Rattle.air_log.specs.Trails.{frame_start, lines_at, device_after_script}
use Rattle.lwb_base.proofs.Elements.{not_in_none, contains_head, contains_tail, contains_cases, in_filtered, filtered}
use Rattle.law_trails.specs.Phases.{IsSilent, SilentBy}
use Rattle.law_trails.specs.TrailLinks.{IsLineOfTick, HasBooted, WentOff, WentOffBy, DeviceStaysOn, boots_of_power}
use Rattle.law_trails.proofs.RowsOfDevices.{switched_on_is}

module _ (clock : ℕ → ℕ) (s : Setup) (t before : ℕ) where
  -- no boot less than these, and silent where it is off
  abbrev CountsBy : Device → Power → Type 0
  CountsBy d p = SilentBy d p × (before ≤ boots_of_power p)

  abbrev Counts : Device → Type 0
  Counts d = CountsBy d d.power

  -- and after an off line
  abbrev GoneBy : Device → Power → Type 0
  GoneBy d p = SilentBy d p × WentOffBy clock s t before d p

  abbrev Gone : Device → Type 0
  Gone d = GoneBy d d.power

  on_again : (count : ℕ) (d : Device) → IsSilent d → before ≤ count → Gone (device_after_on clock s t count d)
  on_again count d silent fewer =
      let e = device_after_on clock s t count d in
      let is = switched_on_is clock s t count d in
      let n = (boots s (rebooted (count + 1)) (clock t)).node in
      let has : HasBooted clock s t n.core.boot e n = record {
        node = record { streams = cleared; core = refl; frame = refl; zero = refl; stage = refl };
        channel = is.channel;
        alarm = is.alarm;
        ordered = is.ordered ∙ silent.ordered;
      } in
      subst (GoneBy e) (sym is.power) (tt, (omega (arith, fewer), has))

  counted : (count : ℕ) (d : Device) → before ≤ count → Counts (device_after_on clock s t count d)
  counted count d fewer = subst (CountsBy (device_after_on clock s t count d)) (sym (switched_on_is clock s t count d).power) (tt, omega (arith, fewer))

  counts_on : (d : Device) (a : Act) (p : Power) → d.power ≡ p → CountsBy d p → Counts (device_after_act clock s t d a p)
  counts_on d a p at is =
      by_act clock s t d (λ b q e. d.power ≡ q → CountsBy d q → Counts e) (λ count at is. counted count d is.1) (λ n at is. subst (CountsBy d) (sym at) is)
      (λ count at is. subst (CountsBy d) (sym at) is) (λ n at is. (record { radio = refl; alarm = refl; ordered = refl }, is.1)) streams a p at is
    where
      streams : (b : Act) (q : Power) → switch_of b ≡ None → d.power ≡ q → CountsBy d q → Counts (told d b q)
      streams b (PowerOff count) none at is = subst (CountsBy d) (sym at) is
      streams b (PowerOn n) none at is = is

  goes_off : (d : Device) (p : Power) → d.power ≡ p → CountsBy d p → Gone (device_after_act clock s t d Off p)
  goes_off d (PowerOff count) at is = subst (GoneBy d) (sym at) is
  goes_off d (PowerOn n) at is = (record { radio = refl; alarm = refl; ordered = refl }, is.1)

  -- streams are given something
  other_streams : (d : Device) (n : Node) (streams : Streams) → WentOffBy clock s t before d (PowerOn n)
      → Gone (record d { power = PowerOn (with_streams n streams) })
  other_streams d n streams is =
      let was = is.1.node in (
        tt,
        (
          is.0,
          record {
            node = record {
              streams = streams;
              core = ap (λ (c : Core). record c { streams = streams }) was.core;
              frame = was.frame;
              zero = was.zero;
              stage = was.stage;
            };
            channel = is.1.channel;
            alarm = is.1.alarm;
            ordered = is.1.ordered;
          },
        ),
      )

  gone_on : (d : Device) (a : Act) (p : Power) → d.power ≡ p → GoneBy d p → Gone (device_after_act clock s t d a p)
  gone_on d a p at is =
      by_act clock s t d (λ b q e. d.power ≡ q → GoneBy d q → Gone e) (λ count at is. on_again count d is.0 is.1) (λ n at is. subst (GoneBy d) (sym at) is)
      (λ count at is. subst (GoneBy d) (sym at) is)
      (λ n at is. (record { radio = refl; alarm = refl; ordered = refl }, (let later = is.1.0 in omega (arith, later)))) streams a p at is
    where
      streams : (b : Act) (q : Power) → switch_of b ≡ None → d.power ≡ q → GoneBy d q → Gone (told d b q)
      streams b (PowerOff count) none at is = subst (GoneBy d) (sym at) is
      streams b (PowerOn n) none at is = other_streams d n (streams_after_act b n.core.streams) is.1

  gone_lines : (ls : List ScriptLine) (d : Device) → Gone d → Gone (fold (device_after_line clock s t) d ls)
  gone_lines [] d is = is
  gone_lines (l ∷ ls) d is = gone_lines ls (device_after_line clock s t d l) (gone_on d l.act d.power refl is)

  off_lines : (ls : List ScriptLine) (d : Device) → Counts d → (l : ScriptLine) → Contains ls l → l.act ≡ Off → Gone (fold (device_after_line clock s t) d ls)
  off_lines [] d is l there off = absurd (not_in_none l there)
  off_lines (x ∷ ls) d is l there off =
      elim (contains_cases x ls l there) [
        | inl same ↦
            let gone = goes_off d d.power refl is in
            let act : x.act ≡ Off = ap (λ (k : ScriptLine). k.act) same ∙ off in
            gone_lines ls (device_after_line clock s t d x) (subst (λ (a : Act). Gone (device_after_act clock s t d a d.power)) (sym act) gone)
        | inr later ↦ off_lines ls (device_after_line clock s t d x) (counts_on d x.act d.power refl is) l later off
      ]

-- no off line
module _ (clock : ℕ → ℕ) (s : Setup) (t : ℕ) (n : Node) (d : Device) where
  new_streams : (e : Device) (is : DeviceStaysOn n d e) (m : Node) (streams : Streams)
      → DeviceStaysOn n d (record e { power = PowerOn (with_streams n streams) })
  new_streams e is m streams = record {
    streams = streams;
    power = refl;
    listening = is.listening;
    alarm = is.alarm;
    ordered = is.ordered;
    sending = is.sending;
  }

  -- the node of e, with what is given
  stays : (e : Device) (a : Act) → a ≢ Off → DeviceStaysOn n d e → DeviceStaysOn n d (device_after_act clock s t e a e.power)
  stays e a other is =
      by_act clock s t e (λ b q f. b ≢ Off → q ≡ PowerOn m → DeviceStaysOn n d f) (λ boots differs on. cc) (λ k differs on. is) (λ boots differs on. cc)
      (λ k differs on. absurd (differs refl)) streams a e.power other is.power
    where
      m : Node
      m = with_streams n is.streams

      streams : (b : Act) (q : Power) → switch_of b ≡ None → b ≢ Off → q ≡ PowerOn m → DeviceStaysOn n d (told e b q)
      streams b q none differs on =
          subst (λ (r : Power). DeviceStaysOn n d (told e b r)) (sym on) (new_streams e is m (streams_after_act b is.streams))

  stays_lines : (ls : List ScriptLine) (e : Device) → DeviceStaysOn n d e → ((l : ScriptLine) → Contains ls l → l.act ≢ Off)
      → DeviceStaysOn n d (fold (device_after_line clock s t) e ls)
  stays_lines [] e is none = is
  stays_lines (l ∷ ls) e is none =
      let on = stays e l.act (none l (contains_head l ls)) is in
      stays_lines ls (device_after_line clock s t e l) on (λ k there. none k (contains_tail l ls k there))

pub off_or_none : (ls : List ScriptLine) → ((l : ScriptLine) × Contains ls l × (l.act ≡ Off)) ⊎ ((l : ScriptLine) → Contains ls l → l.act ≢ Off)
off_or_none [] = inr (λ l there. absurd (not_in_none l there))
off_or_none (x ∷ ls) = by_switch (switch_of x.act) refl (off_or_none ls)
  where
    other : x.act ≢ Off → ((l : ScriptLine) × Contains ls l × (l.act ≡ Off)) ⊎ ((l : ScriptLine) → Contains ls l → l.act ≢ Off)
        → ((l : ScriptLine) × Contains (x ∷ ls) l × (l.act ≡ Off)) ⊎ ((l : ScriptLine) → Contains (x ∷ ls) l → l.act ≢ Off)
    other differs rest =
        elim rest [
          | inl one ↦ inl (one.0, contains_tail x ls one.0 one.1, one.2)
          | inr none ↦ inr (λ l there off. elim (contains_cases x ls l there) [
            | inl same ↦ differs (ap (λ (k : ScriptLine). k.act) same ∙ off)
            | inr later ↦ none l later off
          ])
        ]

    by_switch : (w : Option Switch) → switch_of x.act ≡ w
        → ((l : ScriptLine) × Contains ls l × (l.act ≡ Off)) ⊎ ((l : ScriptLine) → Contains ls l → l.act ≢ Off)
        → ((l : ScriptLine) × Contains (x ∷ ls) l × (l.act ≡ Off)) ⊎ ((l : ScriptLine) → Contains (x ∷ ls) l → l.act ≢ Off)
    by_switch (Some switch.Off) is rest = inl (x, contains_head x ls, switches_off x.act is)
    by_switch (Some switch.On) is rest = other (λ off. let also = ap switch_of off in cc) rest
    by_switch None is rest = other (λ off. let also = ap switch_of off in cc) rest

pub went_off : (s : ScenarioParts) (v : ℕ) (clock : ℕ → ℕ) (t : ℕ) (d : Device) → SilentBy d d.power
    → (l : ScriptLine) → Contains (lines_at s v t) l → l.act ≡ Off → WentOff clock (setup_of s v) t (boots_of_power d.power) (device_after_script s v clock t d)
went_off s v clock t d silent l there off = (off_lines clock (setup_of s v) t (boots_of_power d.power) (lines_at s v t) d (silent, omega arith) l there off).1

pub stays_on : (s : ScenarioParts) (v : ℕ) (clock : ℕ → ℕ) (t : ℕ) (d : Device) (n : Node) → d.power ≡ PowerOn n
    → ((l : ScriptLine) → Contains (lines_at s v t) l → l.act ≢ Off) → DeviceStaysOn n d (device_after_script s v clock t d)
stays_on s v clock t d n on none =
    stays_lines clock (setup_of s v) t n d (lines_at s v t) d
    (record { streams = n.core.streams; power = on; listening = refl; alarm = refl; ordered = refl; sending = refl }) none

pub is_told : (s : ScenarioParts) (v t : ℕ) (l : ScriptLine) → Contains (lines_at s v t) l ↔ IsLineOfTick s v t l
is_told s v t l = (
  λ there.
      let both = filtered now s.script l there in
      let tests = and_parts (l.node == v) (frame_start s l.frame == t) both.1 in
      record { there = both.0; node = eqb-true l.node v tests.0; now = eqb-true (frame_start s l.frame) t tests.1 },
  λ told.
      let own = eq-eqb l.node v told.node in
      in_filtered now s.script l told.there (and_from (l.node == v) (frame_start s l.frame == t) own (eq-eqb (frame_start s l.frame) t told.now)),
)
  where
    now : ScriptLine → Bool
    now k = (k.node == v) && (frame_start s k.frame == t)
