-- The flood of each window is of the kind of the part that the window goes by.
use Rattle.std.proofs.Common.{◌≡◌, ℕ, List, refl, sym, ◌∙◌, ap, subst, nat_lt}
use Rattle.std.proofs.lemmas.Bool.{cond_both}
use Rattle.std.specs.Prelude.{slice_index}
use Rattle.lwb_base.specs.Messages.{Schedule}
use Rattle.lwb_packets.specs.declared.kind.Kind as Kind
use Rattle.glossy_relay.specs.FloodState.{FloodState, listening}
use Rattle.glossy_relay.specs.Relaying.{after_heard, counter_of, first_of, fits}
use Rattle.bus_rules.specs.Cores.{Setup}
use Rattle.bus_rules.specs.Tuning.{rank_of}
use Rattle.lwb_member.specs.Said.{message_of}
use Rattle.lwb_member.specs.Places.{kind_for}
use Rattle.node_core.specs.declared.stage.Stage.TheVariants.{AwaitSlot}
use Rattle.node_core.specs.Windows.{Window}
use Rattle.node_core.specs.Nodes.{Node}
use Rattle.node_core.specs.Rows.{flood_by, is_foreign}
use Rattle.node_core.proofs.WindowKinds.{schedule_kind}
use Rattle.scenario_text.specs.ScenarioParts.{ScenarioParts}
use Rattle.air_log.specs.declared.entry.Entry.{Entry}
use Rattle.air_log.specs.Devices.{Device, PowerOn}
use Rattle.air_log.specs.Lawful.{heard_by}
use Rattle.scenario_text.specs.Setups.{setup_of}
use Rattle.air_log.specs.WindowLogs.{WindowLog}
use Rattle.law_trails.specs.DeviceRanges.{IsPower}
use Rattle.law_trails.specs.NodeRanges.{IsNodeInRange, IsInStage, IsFloodOfSlot}
use Rattle.law_trails.specs.Phases.{Alarms, IsNextAlarm}
use Rattle.law_trails.proofs.WindowsInRange.{opens_is}
use Rattle.law_safety.specs.Rows.{IsFine, AtTick}
use Rattle.law_safety.proofs.AwaitedSlots.{Awaits, awaits}
use Rattle.law_safety.proofs.InvariantHolds.{all_rows}
use Rattle.law_safety.proofs.OpenedNodes.{is_set}
use Rattle.law_safety.proofs.WellSteps.{well_at_alarms}
use Rattle.law_windows.specs.SlotParts.{IsOfItsSlot}
use Rattle.law_windows.specs.WindowLaws.{FloodsAreOfTheirSlot}
use Rattle.law_windows.specs.WindowSteps.{KeepsWindows, begun_window}
use Rattle.law_windows.proofs.WindowWalk.{on_in, windows_before}

record IsLike (f g : FloodState) : Type 0 where
  kind : f.kind ≡ g.kind
  slot : f.slot ≡ g.slot
  limit : f.limit ≡ g.limit

heard_like : (f : FloodState) (p : List ℕ) → IsLike (after_heard f p) f
heard_like f p =
    cond_both (fits f p) (record f { waiting = nat_lt (counter_of p) 11; first = first_of f.first p }) f (λ (g : FloodState). IsLike g f)
    (λ is. record { kind = refl; slot = refl; limit = refl }) (λ is. record { kind = refl; slot = refl; limit = refl })

taken_like : (rank : ℕ) (w : Window) (p : List ℕ) → IsLike (flood_by rank w p) w.flood
taken_like rank w p =
    cond_both (is_foreign rank (message_of p)) w.flood (after_heard w.flood p) (λ (g : FloodState). IsLike g w.flood)
    (λ is. record { kind = refl; slot = refl; limit = refl }) (λ is. heard_like w.flood p)

module _ (s : ScenarioParts) where
  -- a window that goes on with a flood like its own
  goes_on : (x : WindowLog) (w : Window) (f : FloodState) → x.last ≡ w → IsLike f w.flood → IsOfItsSlot s x
      → (f.kind ≡ kind_for w.part) × (f.slot ≡ x.slot) × (f.limit ≡ s.sends)
  goes_on x w f is like known = (
    like.kind ∙ sym (ap (λ (u : Window). u.flood.kind) is) ∙ known.kind ∙ ap (λ (u : Window). kind_for u.part) is,
    like.slot ∙ sym (ap (λ (u : Window). u.flood.slot) is) ∙ known.slot,
    like.limit ∙ sym (ap (λ (u : Window). u.flood.limit) is) ∙ known.limit,
  )

module _ (s : ScenarioParts) (clocks : ℕ → ℕ → ℕ) (air : List Entry) (v t : ℕ) (at : AtTick s clocks air v t) where
  abbrev S : Setup
  S = setup_of s v

  opens_flood : (d : Device) (n : Node) (j : ℕ) → IsFine s clocks air v t Alarms d → IsNextAlarm s v (clocks v) (heard_by air v) t d
      → d.power ≡ PowerOn n → n.stage ≡ AwaitSlot j
      → IsFloodOfSlot S (kind_for (begun_window S n j).part) j (begun_window S n j).flood
  opens_flood d n j fine due on stage =
      let is : Awaits s clocks air v t d n j = awaits s clocks air v t d n j (on_in s clocks air v t Alarms d n fine on) stage due.due in
      let ranged : IsNodeInRange S n = subst (IsPower S) on (well_at_alarms s clocks air v t at d due).power in
      let own = (subst (IsInStage S n.frame n.core) stage ranged.stage).1 in
      (opens_is S (is_set s clocks air v t at) n.frame j n.core ranged.core is.member.slot own).flood

  flood_steps : KeepsWindows s clocks air v (λ now taken w. IsOfItsSlot s w) t
  flood_steps = record {
    begun = λ d n j fine due on stage.
        (let is = opens_flood d n j fine due on stage in
        record { kind = is.kind; slot = is.slot; limit = is.limit });
    joined = λ d h n y fine next now on stage says rank.
        (let like = heard_like (listening Kind.TheVariants.Schedule (slice_index h.packet 1) s.sends) h.packet in
        record { kind = like.kind ∙ schedule_kind y; slot = like.slot; limit = like.limit });
    heard = λ d h n j w x fine next now on stage is in_it known.
        (let on_ = goes_on s x w (flood_by (rank_of n.core.tune) w h.packet) is.last (taken_like (rank_of n.core.tune) w h.packet) known in
        record { kind = on_.0; slot = on_.1; limit = on_.2 });
    taken = λ d fine is before now x there. now.each x there;
    passed = λ x known. known;
    sent = λ d y n j w x fine enters own ends on stage waiting is in_it known.
        (let on_ = goes_on s x w w.flood is.last (record { kind = refl; slot = refl; limit = refl }) known in
        record { kind = on_.0; slot = on_.1; limit = on_.2 });
    closed = λ d n j w x fine due on stage is known. record { kind = known.kind; slot = known.slot; limit = known.limit };
  }

pub of_their_slot : FloodsAreOfTheirSlot
of_their_slot s clocks air run v known t within w there =
    (windows_before s clocks air v (λ now taken w. IsOfItsSlot s w) all_rows run known (λ u at. flood_steps s clocks air v u at) t within).each w there
