-- A schedule that is received gives the node that receives it a reference for the round.
use Rattle.std.proofs.Common.{◌≡◌, ℕ, ◌/◌, List, Some, Contains, sym, ◌∙◌, ap, subst}
use Rattle.std.specs.Prelude.{slice_index}
use Rattle.lwb_base.specs.Messages.{Schedule}
use Rattle.bus_rules.specs.Slots.{ScheduleOf}
use Rattle.lwb_member.specs.Said.{message_of}
use Rattle.node_core.specs.Nodes.{zero_from}
use Rattle.scenario_text.specs.ScenarioParts.{ScenarioParts}
use Rattle.radio_model.specs.Hearing.{slot_of_sending}
use Rattle.air_log.specs.declared.entry.Entry.{Entry}
use Rattle.air_log.specs.Devices.{Device}
use Rattle.air_log.specs.Lawful.{heard_by}
use Rattle.air_log.specs.Trails.{Reception}
use Rattle.law_safety.specs.RoundZeros.{RefFor}
use Rattle.law_safety.specs.KnownInRows.{IsHeardNow}
use Rattle.law_safety.specs.Rows.{AtTick}
use Rattle.law_safety.proofs.HeardRelays.{was_sent}
use Rattle.law_safety.proofs.ScheduleReferences.{taken}

module _ (s : ScenarioParts) (clocks : ℕ → ℕ → ℕ) (air : List Entry) (v t : ℕ) (at : AtTick s clocks air v t) (h : Reception) (d : Device)
    (now : IsHeardNow s clocks air v t h d) (y : Schedule) (there : Contains (heard_by air v) h) (ended : h.end ≡ t)
    (says : message_of h.packet ≡ Some (ScheduleOf y)) where
  sending_says : message_of now.sending.packet ≡ Some (ScheduleOf y)
  sending_says = sym (ap message_of now.packet) ∙ says

  abbrev f : ℕ
  f = t / s.profile.frame

  pub reference : RefFor s clocks now.sending.rank v (zero_from s.profile (clocks v t) h.packet) (t / s.profile.frame) (t / s.profile.frame)
      (slice_index h.packet 1)
  reference =
      let x = now.sending in
      let was = taken s clocks air at.run x (was_sent s clocks air v t at h d now) now.of_flood y sending_says v at.known in
      subst (λ (q : List ℕ). RefFor s clocks x.rank v (zero_from s.profile (clocks v t) q) f f (slice_index q 1)) (sym now.packet)
      (subst (λ (e : ℕ). RefFor s clocks x.rank v (zero_from s.profile (clocks v e) x.packet) f f (slot_of_sending x)) now.end
      (subst (λ (g : ℕ). RefFor s clocks x.rank v (zero_from s.profile (clocks v x.end) x.packet) g g (slot_of_sending x)) now.frame was))
