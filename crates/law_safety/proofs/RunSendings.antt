-- What the invariant at the end of a run says of each transmission of its log.
use Rattle.std.proofs.Common.{◌≡◌, ℕ, List, true, Contains, refl, sym, subst, arith}
use Rattle.scenario_text.specs.ScenarioParts.{ScenarioParts}
use Rattle.scenario_text.specs.FloodParts.{knows}
use Rattle.radio_model.specs.declared.sending.Sending.{Sending}
use Rattle.radio_model.specs.Hearing.{counter_of_sending, frame_of_sending}
use Rattle.air_log.specs.declared.entry.Entry.{Entry}
use Rattle.air_log.specs.Entries.{sendings_of}
use Rattle.air_log.specs.Devices.{Device, Power, PowerOff, PowerOn}
use Rattle.air_log.specs.Safe.{SameSlot}
use Rattle.air_log.specs.Trails.{run_end}
use Rattle.law_trails.specs.TrailLinks.{device_in}
use Rattle.law_trails.proofs.SentInTrails.{sent_below, sent_known, sent_lasts}
use Rattle.law_safety.specs.BegunFloods.{BeganOnce}
use Rattle.law_safety.specs.FloodSendings.{BeginsFlood, IsOfFlood}
use Rattle.law_safety.specs.NodesInOrder.{InOrderBy}
use Rattle.law_safety.specs.Endings.{EndsInOrder}

once_by : (s : ScenarioParts) (clocks : ℕ → ℕ → ℕ) (air : List Entry) (v t : ℕ) (d : Device) (p : Power) → InOrderBy s clocks air v t t d p → BeganOnce s d
once_by s clocks air v t d (PowerOff boots) is = is.1
once_by s clocks air v t d (PowerOn n) is = is.begun.once

module _ (s : ScenarioParts) (clocks : ℕ → ℕ → ℕ) (air : List Entry) (whole : EndsInOrder s clocks air) where
  -- it is of its flood
  pub of_flood : (x : Sending) → Contains (sendings_of air) x → IsOfFlood s clocks air x
  of_flood x there = whole.ends.sendings x there (sent_lasts s clocks air whole.run.heedful.trails x there).0

  -- with counter 0 it begins its flood, when and as it may
  pub begins_flood : (x : Sending) (there : Contains (sendings_of air) x) → counter_of_sending x ≡ 0 → BeginsFlood s clocks air (of_flood x there).zero x
  begins_flood x there first =
      let is = of_flood x there in
      subst (λ (o : Sending). BeginsFlood s clocks air is.zero o) (is.itself first) is.begins

  -- it is in the trail of its node
  pub in_trail : (x : Sending) → Contains (sendings_of air) x → Contains (device_in s clocks air x.node (run_end s)).made.sent x
  in_trail x there =
      let follows = whole.run.heedful.trails in
      (sent_below s clocks air follows x.node (sent_known s clocks air follows x there) (run_end s) (omega arith) x).0
      (record { there = there; node = refl; below = (sent_lasts s clocks air follows x there).0 })

  -- a node begins the flood of a slot once
  pub begun_once : (zx zy : ℕ) (x y : Sending) → BeginsFlood s clocks air zx x → BeginsFlood s clocks air zy y → SameSlot s.profile x y
      → x.node ≡ y.node → x ≡ y
  begun_once zx zy x y first second same node =
      let v = x.node in
      let d = device_in s clocks air v (run_end s) in
      let known : knows s.nodes v ≡ true = sent_known s clocks air whole.run.heedful.trails x first.sent in
      let also : Contains d.made.sent y = subst (λ (u : ℕ). Contains (device_in s clocks air u (run_end s)).made.sent y) (sym node) (in_trail y second.sent) in
      once_by s clocks air v (run_end s) d d.power (whole.ends.nodes v known).by_power (frame_of_sending s.profile x) x y
      (record { sent = in_trail x first.sent; first = first.start.first; frame = refl })
      (record { sent = also; first = second.start.first; frame = sym same.frame })
      same.slot
