-- The rows that go on: from phase to phase, with the script given, and to the next tick, where a frame may end.
use Rattle.std.proofs.Common.{◌≡◌, ℕ, suc, ◌+◌, ◌/◌, ◌<◌, ◌≤◌, ◌⊎◌, inl, inr, List, None, Option, IfSome, Contains, sym, ◌∙◌, ap, subst, arith}
use Rattle.std.proofs.lemmas.Bool.{cases_lt}
use Rattle.node_core.specs.declared.stage.Stage.{Stage}
use Rattle.node_core.specs.declared.stage.Stage.TheVariants.{Idle, Scanning, AwaitFrame, AwaitSlot, InWindow}
use Rattle.node_core.specs.Nodes.{Node}
use Rattle.scenario_text.specs.ScenarioParts.{ScenarioParts}
use Rattle.bus_rules.specs.declared.act.Act.TheVariants.{Off}
use Rattle.scenario_text.specs.declared.script.ScriptLine.{ScriptLine}
use Rattle.air_log.specs.declared.entry.Entry.{Entry}
use Rattle.air_log.specs.Devices.{Device, Power, PowerOff, PowerOn, OrderedPacket}
use Rattle.air_log.specs.Lawful.{heard_by}
use Rattle.scenario_text.specs.Setups.{setup_of}
use Rattle.air_log.specs.Trails.{frame_start, lines_at, device_after_script}
use Rattle.law_trails.specs.Lives.{Life}
use Rattle.law_trails.specs.Phases.{Phase, Lines, Hearings, End, Alarms, Start, Over, device_at, next_phase, NothingDue}
use Rattle.law_trails.specs.TrailLinks.{WentOff, WentOffBy, boots_of_power, device_in}
use Rattle.law_trails.proofs.LinesOfTick.{off_or_none, went_off, is_told}
use Rattle.law_safety.specs.CountedFrames.{BeganBy, InFrame, IsOver, frame_alarm_at}
use Rattle.law_safety.specs.KnownPlans.{PlanAt}
use Rattle.law_safety.specs.NodesInOrder.{IsOn, InOrderBy, IsInOrder, WindowAt}
use Rattle.law_safety.specs.QuietHosts.{LivesBy, IsOrderedBy, HostsInOrder}
use Rattle.law_safety.specs.Rows.{IsFine, AtTick, OnwardsRow, PassingRow}
use Rattle.law_safety.proofs.RunFacts.{frame_is, frame_in_run, frame_begins, frame_ends, frame_lasts}
use Rattle.law_safety.proofs.KeptPlans.{TellsOn}
use Rattle.law_safety.proofs.KeptDevices.{silent_of, power_kept, host_kept}
use Rattle.law_safety.proofs.FrameStarts.{rests_still}
use Rattle.law_safety.proofs.AlarmsInFrames.{alarm_in_frame}

-- ---- the script is given

-- a node that came on at this tick scans
scans_on : (s : ScenarioParts) (clocks : ℕ → ℕ → ℕ) (air : List Entry) (v t told later : ℕ) (d : Device) (n : Node) → n.stage ≡ Scanning
    → IsOn s clocks air v t told d n → IsOn s clocks air v t later d n
scans_on s clocks air v t told later d n scans is = record {
  frame = is.frame;
  alarm = is.alarm;
  tune = is.tune;
  radio = is.radio;
  begun = is.begun;
  plan = record { at = subst (λ (st : Stage). PlanAt s clocks air v later n st) (sym scans) tt };
  window = subst (λ (st : Stage). WindowAt s clocks air v later n d st) (sym scans) tt;
}

module _ (s : ScenarioParts) (clocks : ℕ → ℕ → ℕ) (air : List Entry) (v t : ℕ) where
  went_by : (before : ℕ) (d : Device) (p : Power) → WentOffBy (clocks v) (setup_of s v) t before d p
      → InOrderBy s clocks air v t t d p → InOrderBy s clocks air v t (suc t) d p
  went_by before d (PowerOff boots) went is = is
  went_by before d (PowerOn n) went is = scans_on s clocks air v t t (suc t) d n went.1.node.stage is

  -- no off line at this tick
  tells_on : ((l : ScriptLine) → Contains (lines_at s v t) l → l.act ≡ Off → ⊥) → TellsOn s v t (suc t)
  tells_on none = record {
    more = omega arith;
    stays = λ g is l there node later begun off. elim (cases_lt (frame_start s l.frame) t) [
      | inl before ↦ is l there node later before off
      | inr from ↦ none l ((is_told s v t l).1 (record { there = there; node = node; now = omega (arith, begun, from) })) off
    ];
  }

  all_told : AtTick s clocks air v t → (d : Device) → d ≡ device_after_script s v (clocks v) t (device_in s clocks air v t)
      → IsInOrder s clocks air v t t d → IsInOrder s clocks air v t (suc t) d
  all_told tick d enters is =
      let before : Device = device_in s clocks air v t in
      let silent = silent_of s clocks air v t t before (tick.before.nodes v tick.known) in
      elim (off_or_none (lines_at s v t)) [
        | inl one ↦
            let went : WentOff (clocks v) (setup_of s v) t (boots_of_power before.power) d =
            subst (λ (e : Device). WentOff (clocks v) (setup_of s v) t (boots_of_power before.power) e) (sym enters)
            (went_off s v (clocks v) t before silent one.0 one.1 one.2) in
            record { by_power = went_by (boots_of_power before.power) d d.power went is.by_power }
        | inr none ↦ record { by_power = power_kept s clocks air v t (suc t) (tells_on none) t d d.power is.by_power }
      ]

  onwards : AtTick s clocks air v t → (phase : Phase) (d : Device) → IsFine s clocks air v t phase d
      → d ≡ device_at s v (clocks v) (heard_by air v) t (next_phase phase) → IsFine s clocks air v t (next_phase phase) d
  onwards tick Lines d fine enters = record {
    node = all_told tick d enters fine.node;
    host = λ rank of. (let h = fine.host rank of in host_kept s rank t t (suc t) (omega arith) d d.power h h.lives);
    sent = fine.sent;
    before = fine.before;
  }
  onwards tick Hearings d fine enters = record { node = fine.node; host = fine.host; sent = fine.sent; before = fine.before }
  onwards tick End d fine enters = record { node = fine.node; host = fine.host; sent = fine.sent; before = fine.before }
  onwards tick Alarms d fine enters = record { node = fine.node; host = fine.host; sent = fine.sent; before = fine.before }
  onwards tick Start d fine enters = record {
    node = fine.node;
    host = fine.host;
    sent = fine.sent;
    before = λ x there. (let a = fine.before x there in omega (arith, a));
  }
  onwards tick Over d fine enters = record { node = fine.node; host = fine.host; sent = fine.sent; before = fine.before }

  -- ---- the next tick

  module _ (tick : AtTick s clocks air v t) where
    abbrev now : ℕ
    now = t / s.profile.frame

    abbrev soon : ℕ
    soon = suc t / s.profile.frame

    -- the frame goes on, or the next one begins
    goes_on : (soon ≡ now) ⊎ ((soon ≡ now + 1) × (frame_start s (now + 1) ≡ suc t))
    goes_on =
        let sound = tick.run.driven.sound in
        let begins = frame_begins s sound t in
        let ends = frame_ends s sound t in
        let lasts = frame_lasts s sound in
        elim (cases_lt (suc t) (frame_start s (now + 1))) [
          | inl within ↦ inl (frame_is s now (suc t) (later begins) within)
          | inr over ↦ (let at = meets (frame_start s (now + 1)) over ends in inr (next_frame now lasts at, at))
        ]
      where
        later : {a : ℕ} → a ≤ t → a ≤ suc t
        later below = omega (arith, below)

        meets : (a : ℕ) → a ≤ suc t → t < a → a ≡ suc t
        meets a over before = omega (arith, over, before)

        next_frame : (f : ℕ) → 1 ≤ s.profile.frame → frame_start s (f + 1) ≡ suc t → suc t / s.profile.frame ≡ f + 1
        next_frame f lasts at = frame_is s (f + 1) (suc t) (omega (arith, at)) (omega (arith, at, lasts))

    -- the frame of a node that counts the true one isn't over
    not_over : (d : Device) (n : Node) → IsOn s clocks air v t (suc t) d n → IfSome d.alarm (λ due. suc t ≤ due)
        → frame_start s (now + 1) ≡ suc t → n.frame ≡ now → ⊥
    not_over d n is ahead ends same =
        let early = frame_in_run s tick.run.driven.sound t tick.in_run in
        let drifts = tick.run.driven.drift v tick.known in
        let within = alarm_in_frame s clocks tick.run.driven air v drifts (suc t) n (omega (arith, same, early)) is.tune d is.alarm is.plan in
        let after : suc t ≤ is.alarm.alarm = subst (λ (o : Option ℕ). IfSome o (λ due. suc t ≤ due)) is.alarm.set ahead in
        let start : frame_start s (n.frame + 1) ≡ frame_start s (now + 1) = ap (λ (f : ℕ). frame_start s (f + 1)) same in
        omega (arith, within, after, start, ends)

    began_then : (n : Node) (st : Stage) → BeganBy s t n st → BeganBy s (suc t) n st
    began_then n Idle is = is
    began_then n Scanning is = is
    began_then n AwaitFrame is = is
    began_then n (AwaitSlot j) is = elim is [ inl first ↦ inl first | inr before ↦ inr (omega (arith, before)) ]
    began_then n (InWindow j w) is = omega (arith, is)

    over_then : (n : Node) → soon ≡ now → IsOver s clocks v t n → IsOver s clocks v (suc t) n
    over_then n same is = record {
      frame = (let a = is.frame in omega (arith, a, same));
      past =
          (let a = is.past in
          let at : frame_alarm_at s clocks v soon ≡ frame_alarm_at s clocks v now = ap (frame_alarm_at s clocks v) same in
          omega (arith, a, at));
      rests = is.rests;
    }

    frame_then : (d : Device) (n : Node) → IsOn s clocks air v t (suc t) d n → IfSome d.alarm (λ due. suc t ≤ due) → InFrame s clocks v (suc t) n
    frame_then d n is ahead = record {
      at = elim goes_on [
        | inl same ↦ elim is.frame.at [ inl counts ↦ inl (counts ∙ sym same) | inr over ↦ inr (over_then n same over) ]
        | inr ends ↦ elim is.frame.at [
          | inl counts ↦ absurd (not_over d n is ahead ends.1 counts)
          | inr over ↦ inl (over.frame ∙ sym ends.0)
        ]
      ];
      began = began_then n n.stage is.frame.began;
    }

    power_then : (d : Device) (p : Power) → IfSome d.alarm (λ due. suc t ≤ due)
        → InOrderBy s clocks air v t (suc t) d p → InOrderBy s clocks air v (suc t) (suc t) d p
    power_then d (PowerOff boots) ahead is = is
    power_then d (PowerOn n) ahead is = record {
      frame = frame_then d n is ahead;
      alarm = is.alarm;
      tune = is.tune;
      radio = is.radio;
      begun = is.begun;
      plan = is.plan;
      window = is.window;
    }

    -- where the frame ends nothing is ordered
    none_ordered : (d : Device) (p : Power) → IfSome d.alarm (λ due. suc t ≤ due)
        → frame_start s (now + 1) ≡ suc t → InOrderBy s clocks air v t (suc t) d p → d.ordered ≡ None
    none_ordered d (PowerOff boots) ahead ends is = is.0.still.ordered
    none_ordered d (PowerOn n) ahead ends is =
        elim is.frame.at [
          | inl counts ↦ absurd (not_over d n is ahead ends counts)
          | inr over ↦ (rests_still n d n.stage over.rests is.radio.at).ordered
        ]

    lives_then : (l : Life) (p : Power) → LivesBy l now p → LivesBy l soon p
    lives_then l (PowerOff boots) is =
        let behind = is.1 in
        let order : now ≤ soon = elim goes_on [ inl same ↦ omega (arith, same) | inr ends ↦ (let a = ends.0 in omega (arith, a)) ] in
        (is.0, omega (arith, behind, order))
    lives_then l (PowerOn n) is = is

    host_then : (rank : ℕ) (d : Device) → IfSome d.alarm (λ due. suc t ≤ due)
        → IsInOrder s clocks air v t (suc t) d → HostsInOrder s rank t (suc t) d → HostsInOrder s rank (suc t) (suc t) d
    host_then rank d ahead is h = record {
      life = h.life;
      quiet = h.quiet;
      lives = lives_then h.life d.power h.lives;
      opened = h.opened;
      closed = h.closed;
      sent = h.sent;
      ordered = elim goes_on [
        | inl same ↦ subst (λ (f : ℕ). IsOrderedBy h.life f d.ordered) (sym same) h.ordered
        | inr ends ↦ subst (λ (o : Option OrderedPacket). IsOrderedBy h.life soon o) (sym (none_ordered d d.power ahead ends.1 is.by_power)) tt
      ];
    }

    passes : (d : Device) → NothingDue t Over d → IsFine s clocks air v t Over d → IsFine s clocks air v (suc t) Lines d
    passes d known fine = record {
      node = record { by_power = power_then d d.power known.alarm fine.node.by_power };
      host = λ rank of. host_then rank d known.alarm fine.node (fine.host rank of);
      sent = fine.sent;
      before = fine.before;
    }

pub onwards_row : OnwardsRow
onwards_row s clocks air v t at phase d here enters known = onwards s clocks air v t at phase d here.holds enters

pub passing_row : PassingRow
passing_row s clocks air v t at d here is = passes s clocks air v t at d here.known here.holds
