-- What a node costs in a valid run is what it costs on the bus.
use Rattle.std.proofs.Common.{◌≡◌, ℕ, List, [], sum_by, sym, ◌∙◌, ap}
use Rattle.std.proofs.lemmas.Bool.{cond-true}
use Rattle.std.proofs.lemmas.List.Sorted.{sum_by-IsPermutation}
use Rattle.radio_model.specs.declared.sending.Sending.{Sending}
use Rattle.scenario_text.specs.FloodParts.{knows}
use Rattle.air_log.specs.Lawful.{sent_by, trail_in, trail_sent}
use Rattle.law_windows.proofs.WindowParts.{nodes_take_part}
use Rattle.air_log.specs.Energies.{energy_of, sending_time}
use Rattle.bus_terms.specs.Bus.{Cost}
use Rattle.law_terms.specs.RunLaws.{CostLaw}
use Rattle.law_bus.proofs.CoresOfWindows.{all_slots}
use Rattle.law_bus.proofs.RunsOfLogs.{known_by}
use Rattle.law_bus.proofs.SameScans.{scans_law}
use Rattle.law_bus.proofs.HeardSlots.{slots_heard}
use Rattle.law_bus.proofs.SlotsAreFloods.{slots_are_runs}
use Rattle.law_bus.specs.RunEnergies.{EnergyLaw, cost_in}
use Rattle.law_bus.specs.WindowSendings.{WindowSendingsLaw}
use Rattle.law_bus.proofs.SentPackets.{packets_same}
use Rattle.law_bus.proofs.SentTimes.{sent_same}
use Rattle.law_bus.proofs.WindowCharges.{windows_same}

pub window_sendings : WindowSendingsLaw
window_sendings s clocks air lawful rank f j v p round within w here =
    let start = (all_slots (slots_heard slots_are_runs) s clocks air lawful rank f j p round within).0 in
    let found = slots_are_runs s clocks air lawful rank f j p round within start in
    let part = nodes_take_part s clocks air (record { sound = lawful.sound; drift = lawful.drift }) lawful.lawful v
    (known_by s clocks air lawful v w here.there) w here.there in
    packets_same s clocks air lawful rank f p j found.0 found.1 found.2 v w here part.has

same_cost : (a b : Cost) → a.sent ≡ b.sent → a.windows ≡ b.windows → a.scanned ≡ b.scanned → a ≡ b
same_cost a b sent windows scanned =
    ap (λ (n : ℕ). record a { sent = n }) sent
    ∙ ap (λ (n : ℕ). record a { sent = b.sent; windows = n }) windows
    ∙ ap (λ (n : ℕ). record b { scanned = n }) scanned

pub costs : CostLaw
costs s clocks air lawful v known =
    same_cost _ _ (sent_same slots_are_runs s clocks air lawful v known) (windows_same slots_are_runs s clocks air lawful v known)
    (scans_law (slots_heard slots_are_runs) s clocks air lawful v known)

-- the log has the transmissions of each trail
pub energies : EnergyLaw
energies s clocks air lawful v known =
    let in_log : sum_by sending_time (sent_by air v) ≡ sum_by sending_time (trail_in s clocks air v).made.sent =
    sum_by-IsPermutation sending_time (trail_sent s clocks air v) (sent_by air v) (lawful.lawful.trails.sent v)
    ∙ ap (λ (xs : List Sending). sum_by sending_time xs) (cond-true (knows s.nodes v) (trail_in s clocks air v).made.sent [] known) in
    ap (λ (n : ℕ). record (cost_in (energy_of s clocks air v)) { sent = n }) in_log
    ∙ sym (costs s clocks air lawful v known)
