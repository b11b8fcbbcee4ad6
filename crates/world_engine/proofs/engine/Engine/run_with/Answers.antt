use Rattle.std.proofs.Common.{◌≡◌, ◌*◌, false, length, map, replicate, List, sym, ap, subst, ◌∙◌, refl, rules, arith}
use Rattle.std.proofs.lemmas.List.{length-map}
use Rattle.scenario_text.proofs.SoundOver.{over_sound}
use Rattle.event_calendar.specs.Orders.{nothing_due}
use Rattle.air_log.specs.Trails.{run_end}
use Rattle.air_log.specs.ClockLists.{clocks_by}
use Rattle.air_log.specs.DeviceStates.{core_in}
use Rattle.world_engine.specs.Counting.{scans_before, all_scans_before}
use Rattle.air_log.specs.Idling.{all_idle}
use Rattle.world_engine.specs.Moments.{Before}
use Rattle.world_engine.specs.Running.{IsRunning, setup_by}
use Rattle.world_engine.specs.Worlds.{WorldState, core_setup}
use Rattle.world_engine.proofs.ClocksAtPlaces.{all_drift}
use Rattle.world_engine.proofs.RunsBegin.{run_begins}
use Rattle.world_engine.proofs.WorldRuns.{run_left, charges_left, idle_left, cores_left, has_run, has_left}
use Rattle.world_engine.proofs.engine.Engine.run_with.Goals as goal

pub frames-requires-clause-sound : goal.frames-requires-clause-sound
frames-requires-clause-sound g c = over_sound c.self.inside.scenario c.profile-profile.ensures.said

pub frames-requires-clause-running : goal.frames-requires-clause-running
frames-requires-clause-running g c =
    let s = c.self.inside.scenario in
    let not_yet : c.self.inside.ran ≡ false = ap (λ (w : WorldState × List g.row.C.Denot). w.0.ran) c.self.view_is ∙ c.requires.first in
    let none : g.Q.Orders.map c.args.orders.now ≡ replicate (length s.nodes) nothing_due =
    c.requires.empty ∙ ap (λ (w : WorldState × List g.row.C.Denot). replicate (length w.0.scenario.nodes) nothing_due) (sym c.self.view_is) in
    run_begins s (clocks_by g.C.DriftClock.readings s.nodes c.as_slice-clocks.result.now) (over_sound s c.profile-profile.ensures.said) c.self.inside.field
    (g.Q.Orders.map c.args.orders.now)
    (c.self.invariant.first not_yet).0 none

pub returns-clause-run : goal.returns-clause-run
returns-clause-run g c =
    let s = c.self.inside.scenario in
    let cs = c.self.inside.clocks.items in
    let w = c.frames.new.self in
    let due = g.Q.Orders.map c.frames.new.orders in
    let run : IsRunning s (clocks_by g.C.DriftClock.readings s.nodes cs) s.script (run_end s) Before w due =
    subst (λ (l : List g.row.C.Denot). IsRunning s (clocks_by g.C.DriftClock.readings s.nodes l) s.script
    (run_end s) Before w due) c.as_slice-clocks.ensures.value c.in_ok-counts.ensures.running in
    let end : c.from.result * c.frame.result ≡ run_end s = search rules in
    let drifts = all_drift g.C.DriftClock.readings g.met.C.DriftClock.keeps_drift_law s.nodes cs in
    let left = run_left s (over_sound s c.profile-profile.ensures.said) (clocks_by g.C.DriftClock.readings s.nodes cs) w due run
    (c.from.result * c.frame.result) end c.close.new.self c.in_ok-close.ensures
    drifts c.take_deliveries.new.self c.take_deliveries.ensures.rest c.in_ok-deliveries.deliveries.items c.in_ok-deliveries.ensures.taken in
    let setups = cores_left s (over_sound s c.profile-profile.ensures.said) (clocks_by g.C.DriftClock.readings s.nodes cs) w due run
    (c.from.result * c.frame.result) end c.close.new.self c.in_ok-close.ensures
    c.take_deliveries.new.self c.take_deliveries.ensures.rest in
    let scanned : c.in_ok-counts.counts.scanned.items ≡ all_scans_before s (clocks_by g.C.DriftClock.readings s.nodes cs) w.air s.frames =
    subst (λ (l : List g.row.C.Denot). c.in_ok-counts.counts.scanned.items ≡ all_scans_before s
    (clocks_by g.C.DriftClock.readings s.nodes l) w.air s.frames) c.as_slice-clocks.ensures.value c.in_ok-counts.ensures.scanned in
    let charges = charges_left s (over_sound s c.profile-profile.ensures.said) (clocks_by g.C.DriftClock.readings s.nodes cs) w due run
    (c.from.result * c.frame.result) end c.close.new.self c.in_ok-close.ensures
    (all_drift g.C.DriftClock.readings g.met.C.DriftClock.keeps_drift_law s.nodes cs) c.take_deliveries.new.self c.take_deliveries.ensures.rest
    c.as_slice.result.now (c.as_slice.ensures.value ∙ scanned) c.in_ok-charges.charges.items c.in_ok-charges.ensures in
    let listed : c.in_ok-counts.counts.idle.items ≡ all_idle s (clocks_by g.C.DriftClock.readings s.nodes cs) w.air =
    subst (λ (l : List g.row.C.Denot). c.in_ok-counts.counts.idle.items ≡ all_idle s
    (clocks_by g.C.DriftClock.readings s.nodes l) w.air) c.as_slice-clocks.ensures.value c.in_ok-counts.ensures.idle in
    let idle = idle_left s (over_sound s c.profile-profile.ensures.said) (clocks_by g.C.DriftClock.readings s.nodes cs) w due run
    (c.from.result * c.frame.result) end c.close.new.self c.in_ok-close.ensures
    c.take_deliveries.new.self c.take_deliveries.ensures.rest c.in_ok-counts.counts.idle.items listed in
    has_run g.C.DriftClock.readings _ c.args.self.now c.self.view_is _
    (record { scenario = refl; ran = refl; run = left.0; charges = charges; idle = idle; setups = setups })

pub returns-clause-left : goal.returns-clause-left
returns-clause-left g c =
    let s = c.self.inside.scenario in
    let cs = c.self.inside.clocks.items in
    let w = c.frames.new.self in
    let due = g.Q.Orders.map c.frames.new.orders in
    let run : IsRunning s (clocks_by g.C.DriftClock.readings s.nodes cs) s.script (run_end s) Before w due =
    subst (λ (l : List g.row.C.Denot). IsRunning s (clocks_by g.C.DriftClock.readings s.nodes l) s.script
    (run_end s) Before w due) c.as_slice-clocks.ensures.value c.in_ok-counts.ensures.running in
    let end : c.from.result * c.frame.result ≡ run_end s = search rules in
    let drifts = all_drift g.C.DriftClock.readings g.met.C.DriftClock.keeps_drift_law s.nodes cs in
    let left = run_left s (over_sound s c.profile-profile.ensures.said) (clocks_by g.C.DriftClock.readings s.nodes cs) w due run
    (c.from.result * c.frame.result) end c.close.new.self c.in_ok-close.ensures
    drifts c.take_deliveries.new.self c.take_deliveries.ensures.rest c.in_ok-deliveries.deliveries.items c.in_ok-deliveries.ensures.taken in
    has_left g.C.DriftClock.readings _ c.args.self.now c.self.view_is c.take_deliveries.new.self.air due left.1

pub charges-requires : goal.charges-requires
charges-requires g c =
    let s = c.self.inside.scenario in
    let cs = c.self.inside.clocks.items in
    let w = c.frames.new.self in
    let due = g.Q.Orders.map c.frames.new.orders in
    let run : IsRunning s (clocks_by g.C.DriftClock.readings s.nodes cs) s.script (run_end s) Before w due =
    subst (λ (l : List g.row.C.Denot). IsRunning s (clocks_by g.C.DriftClock.readings s.nodes l) s.script
    (run_end s) Before w due) c.as_slice-clocks.ensures.value c.in_ok-counts.ensures.running in
    let end : c.from.result * c.frame.result ≡ run_end s = search rules in
    let setups = cores_left s (over_sound s c.profile-profile.ensures.said) (clocks_by g.C.DriftClock.readings s.nodes cs) w due run
    (c.from.result * c.frame.result) end c.close.new.self c.in_ok-close.ensures
    c.take_deliveries.new.self c.take_deliveries.ensures.rest in
    let places = c.take_deliveries.new.self.devices in
    let many = ap length c.as_slice.ensures.value in
    let long = ap length c.in_ok-counts.ensures.scanned in
    let as_nodes = length-map s.nodes (scans_before s (clocks_by g.C.DriftClock.readings s.nodes c.as_slice-clocks.result.now) w.air s.frames) in
    omega (
      arith,
      many,
      long,
      as_nodes,
      ap length setups,
      length-map (map core_in places) core_setup,
      length-map places core_in,
      length-map s.nodes (setup_by s),
    )
