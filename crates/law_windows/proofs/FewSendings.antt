-- In a window no more transmissions have ended than a node sends at most.
use Rattle.std.proofs.Common.{◌≡◌, ℕ, suc, ◌<◌, ◌≤◌, inl, inr, List, [], ◌∷◌, ◌++◌, true, length, filter_map, Contains, refl, sym, ◌∙◌, ap}
use Rattle.std.proofs.Common.{subst, arith, length-append, true≢false}
use Rattle.std.proofs.lemmas.Bool.{cases_eq, cond_both}
use Rattle.std.proofs.lemmas.List.Elements.{filter_map-append}
use Rattle.lwb_packets.specs.declared.kind.Kind as Kind
use Rattle.glossy_relay.specs.FloodState.{FloodState, listening}
use Rattle.glossy_relay.specs.Relaying.{after_heard, slot_of}
use Rattle.bus_rules.specs.Slots.{part_of, opened_slot}
use Rattle.bus_rules.specs.Tuning.{rank_of}
use Rattle.lwb_member.specs.Said.{message_of}
use Rattle.node_core.specs.declared.stage.Stage.{Stage}
use Rattle.node_core.specs.declared.stage.Stage.TheVariants.{InWindow}
use Rattle.node_core.specs.Windows.{Window}
use Rattle.node_core.specs.Nodes.{Node}
use Rattle.node_core.specs.Rows.{flood_by, is_foreign}
use Rattle.scenario_text.specs.FloodParts.{knows}
use Rattle.scenario_text.specs.ScenarioParts.{ScenarioParts}
use Rattle.air_log.specs.declared.entry.Entry.{Entry}
use Rattle.air_log.specs.Charges.{sent_in, sent_packets}
use Rattle.air_log.specs.Devices.{Device, PowerOn}
use Rattle.scenario_text.specs.Setups.{setup_of}
use Rattle.air_log.specs.Trails.{run_end}
use Rattle.air_log.specs.WindowLogs.{WindowLog, Happening, HeardAt, SentAt}
use Rattle.law_trails.specs.Phases.{End}
use Rattle.law_trails.specs.TrailLinks.{device_in}
use Rattle.law_safety.specs.Invariant.{IsObedientRun}
use Rattle.law_safety.specs.NodesInOrder.{InOpenWindow, WindowAt}
use Rattle.law_safety.specs.Rows.{IsFine}
use Rattle.law_safety.proofs.InvariantHolds.{all_rows}
use Rattle.law_safety.proofs.OpenedNodes.{flood_unsent}
use Rattle.law_windows.specs.WindowSteps.{KeepsWindows}
use Rattle.law_windows.proofs.WindowWalk.{on_in, windows_before}
use Rattle.law_windows.proofs.WindowRadios.{heard_sent}

-- the flood counts them
record SendsFew (s : ScenarioParts) (w : WindowLog) : Type 0 where
  counted : w.last.flood.sent ≡ length (sent_packets w)
  few : length (sent_packets w) ≤ s.sends

-- one happening more
more_heard : (es : List Happening) (t : ℕ) (p : List ℕ) → length (filter_map sent_in (es ++ HeardAt t p ∷ [])) ≡ length (filter_map sent_in es)
more_heard es t p =
    let all = ap (λ (ps : List (List ℕ)). length ps) (filter_map-append sent_in es (HeardAt t p ∷ [])) in
    let both = length-append (filter_map sent_in es) [] in
    omega (arith, all, both)

more_sent : (es : List Happening) (t : ℕ) (p : List ℕ) → length (filter_map sent_in (es ++ SentAt t p ∷ [])) ≡ suc (length (filter_map sent_in es))
more_sent es t p =
    let all = ap (λ (ps : List (List ℕ)). length ps) (filter_map-append sent_in es (SentAt t p ∷ [])) in
    let both = length-append (filter_map sent_in es) (p ∷ []) in
    omega (arith, all, both)

-- receptions do not count
taken_sent : (rank : ℕ) (w : Window) (p : List ℕ) → (flood_by rank w p).sent ≡ w.flood.sent
taken_sent rank w p =
    cond_both (is_foreign rank (message_of p)) w.flood (after_heard w.flood p) (λ (g : FloodState). g.sent ≡ w.flood.sent)
    (λ is. refl) (λ is. heard_sent w.flood p)

module _ (s : ScenarioParts) (clocks : ℕ → ℕ → ℕ) (air : List Entry) (v t : ℕ) where
  -- a flood that waits has not sent as often as it may
  may_send : (d : Device) (n : Node) (j : ℕ) (w : Window) → IsFine s clocks air v t End d → d.power ≡ PowerOn n → n.stage ≡ InWindow j w
      → w.flood.waiting ≡ true → w.flood.sent < s.sends
  may_send d n j w fine on stage waiting =
      let window : InOpenWindow s clocks air v (suc t) n d j w =
      subst (λ (st : Stage). WindowAt s clocks air v (suc t) n d st) stage (on_in s clocks air v t End d n fine on).window in
      let few = window.flood.few in
      elim (cases_eq w.flood.sent s.sends) [
        | inl all ↦ absurd (true≢false (sym waiting ∙ window.flood.spent all))
        | inr less ↦ omega (arith, few, less)
      ]

  few_steps : KeepsWindows s clocks air v (λ now taken w. SendsFew s w) t
  few_steps = record {
    begun = λ d n j fine due on stage.
        (let part = part_of n.core.plan j in
        record { counted = flood_unsent (setup_of s v) part j (opened_slot (setup_of s v) n.frame part n.core).message; few = omega arith });
    joined = λ d h n y fine next now on stage says rank.
        record { counted = heard_sent (listening Kind.TheVariants.Schedule (slot_of h.packet) s.sends) h.packet; few = omega arith };
    heard = λ d h n j w x fine next now on stage is in_it known.
        (let same = more_heard x.happenings t h.packet in
        let flood = taken_sent (rank_of n.core.tune) w h.packet in
        let last = ap (λ (u : Window). u.flood.sent) is.last in
        let had = known.counted in
        let few = known.few in
        record { counted = omega (arith, same, flood, last, had); few = omega (arith, same, few) });
    taken = λ d fine is before now x there. now.each x there;
    passed = λ x known. known;
    sent = λ d y n j w x fine enters own ends on stage waiting is in_it known.
        (let one = more_sent x.happenings t y.packet in
        let last = ap (λ (u : Window). u.flood.sent) is.last in
        let had = known.counted in
        let less = may_send d n j w fine on stage waiting in
        record { counted = omega (arith, one, last, had); few = omega (arith, one, last, had, less) });
    closed = λ d n j w x fine due on stage is known. record { counted = known.counted; few = known.few };
  }

pub few_sent : (s : ScenarioParts) (clocks : ℕ → ℕ → ℕ) (air : List Entry) → IsObedientRun s clocks air → (v : ℕ) → knows s.nodes v ≡ true
    → (t : ℕ) → t ≤ run_end s → (w : WindowLog) → Contains (device_in s clocks air v t).made.windows w → length (sent_packets w) ≤ s.sends
few_sent s clocks air run v known t within w there =
    ((windows_before s clocks air v (λ now taken x. SendsFew s x) all_rows run known (λ u at. few_steps s clocks air v u) t within).each w there).few
