-- What a node receives in a window comes over its channel, and no schedule among it is of another rank.
use Rattle.std.proofs.Common.{◌≡◌, ℕ, suc, List, Bool, true, false, ◌==◌, nat_lt, Some, None, Option, refl, sym, ◌∙◌, ap, subst, arith, eq-eqb}
use Rattle.std.proofs.lemmas.Bool.{not_from_true}
use Rattle.bus_rules.specs.Slots.{Message, ScheduleOf, DataOf, RequestOf}
use Rattle.lwb_member.specs.Said.{message_of}
use Rattle.node_core.specs.declared.stage.Stage.TheVariants.{InWindow}
use Rattle.node_core.specs.Windows.{Window}
use Rattle.node_core.specs.Nodes.{Node}
use Rattle.node_core.specs.Rows.{is_foreign}
use Rattle.radio_model.specs.Hearing.{frame_of_sending, slot_of_sending}
use Rattle.scenario_text.specs.ScenarioParts.{ScenarioParts}
use Rattle.air_log.specs.declared.entry.Entry.{Entry}
use Rattle.air_log.specs.Devices.{Device, listens_to}
use Rattle.air_log.specs.Safe.{sender_hosts}
use Rattle.air_log.specs.Trails.{Reception}
use Rattle.law_trails.proofs.OtherCounters.{bodies_same}
use Rattle.law_safety.specs.Beginnings.{MaySay}
use Rattle.law_safety.specs.SetAlarms.{rank_at}
use Rattle.law_safety.specs.TunedNodes.{Either}
use Rattle.law_safety.specs.RadiosOn.{RadioFor}
use Rattle.law_safety.specs.NodesInOrder.{IsOn}
use Rattle.law_safety.specs.KnownInRows.{IsHeardNow}
use Rattle.law_safety.proofs.HeardPlaces.{listened, silent}

module _ (s : ScenarioParts) (clocks : ℕ → ℕ → ℕ) (air : List Entry) (v t : ℕ) (h : Reception) (d : Device) (now : IsHeardNow s clocks air v t h d)
    (n : Node) where
  pub own_channel : (j : ℕ) (w : Window) → IsOn s clocks air v t (suc t) d n → n.stage ≡ InWindow j w → now.sending.rank ≡ rank_at n
  own_channel j w on stage = by_radio (nat_lt w.flood.sent w.flood.limit) (subst (RadioFor n d) stage on.radio.at)
    where
      by_radio : (b : Bool) → Either b (listens_to (rank_at n) d.listening ≡ true) (d.listening ≡ None) → now.sending.rank ≡ rank_at n
      by_radio true is = listened d.listening (rank_at n) now.sending.rank now.channel is
      by_radio false is = absurd (silent d.listening now.sending.rank now.channel is)

  -- by what its flood began with
  of_own : (m : Message) (u rank f z j : ℕ) (hosting : Bool) → MaySay s clocks air u rank f z j hosting (Some m) → rank ≡ rank_at n
      → is_foreign (rank_at n) (Some m) ≡ false
  of_own (ScheduleOf y) u rank f z j hosting says own = not_from_true (y.plan.rank == rank_at n) (eq-eqb y.plan.rank (rank_at n) (says.fits.of_rank ∙ own))
  of_own (DataOf e) u rank f z j hosting says own = refl
  of_own (RequestOf a) u rank f z j hosting says own = refl

  not_foreign_by : (m : Option Message) (u rank f z j : ℕ) (hosting : Bool) → MaySay s clocks air u rank f z j hosting m → rank ≡ rank_at n
      → is_foreign (rank_at n) m ≡ false
  not_foreign_by None u rank f z j hosting says own = absurd says
  not_foreign_by (Some m) u rank f z j hosting says own = of_own m u rank f z j hosting says own

  pub not_foreign : now.sending.rank ≡ rank_at n → is_foreign (rank_at n) (message_of h.packet) ≡ false
  not_foreign own =
      let flood = now.of_flood in
      let o = flood.origin in
      let first = flood.begins.start.first in
      let same : message_of h.packet ≡ message_of o.packet =
      ap message_of now.packet ∙ bodies_same now.sending.packet o.packet flood.few (omega (arith, first)) flood.same in
      ap (is_foreign (rank_at n)) same
      ∙ not_foreign_by (message_of o.packet) o.node o.rank (frame_of_sending s.profile o) flood.zero (slot_of_sending o)
      (sender_hosts s clocks air o) flood.begins.start.says (sym flood.slot.channel ∙ own)
