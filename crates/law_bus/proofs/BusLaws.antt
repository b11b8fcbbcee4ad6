-- The laws of the bus from those of slots, floods and rounds.
use Rattle.law_terms.specs.RunLaws.{AnyClocksLaw, DeliveriesLaw, DropsLaw, RunLaw}
use Rattle.law_terms.specs.SlotLaws.{CoresLaw, SentLaw, SlotLaw, WindowsLaw}
use Rattle.law_terms.specs.SlotSteps.{SlotHeardLaw}
use Rattle.law_bus.proofs.SlotsAreFloods.{slots_are_runs}
use Rattle.law_bus.proofs.HeardSlots.{slots_heard, slots_started}
use Rattle.law_bus.specs.AllSlots.{AllSlotsLaw}
use Rattle.law_bus.specs.ScannedFrames.{ScansLaw}
use Rattle.law_bus.proofs.CoresOfWindows.{all_slots, cores_law, run_law, windows_law}
use Rattle.law_bus.proofs.SameDeliveries.{any_clocks_law, deliveries_law, drops_law}
use Rattle.law_bus.proofs.SaidSendings.{sent_law}
use Rattle.law_bus.proofs.SameScans.{scans_law}

-- each slot is a run of the theorem on floods, so it gives on the air what it gives on the bus
heard : SlotHeardLaw
heard = slots_heard slots_are_runs

pub frames_begin : RunLaw
frames_begin = run_law heard

pub slots_go : AllSlotsLaw
slots_go = all_slots heard

-- before each slot the nodes are the bus's, so its flood is the bus's
pub slots_are_floods : SlotLaw
slots_are_floods s clocks air lawful rank f j p round within =
    slots_started slots_are_runs s clocks air lawful rank f j p round within (slots_go s clocks air lawful rank f j p round within).0

pub nothing_else : SentLaw
nothing_else = sent_law heard slots_are_runs

pub windows_open : WindowsLaw
windows_open = windows_law heard

pub cores_are : CoresLaw
cores_are = cores_law heard

pub delivered : DeliveriesLaw
delivered = deliveries_law heard

pub dropped : DropsLaw
dropped = drops_law heard

pub over_any_clocks : AnyClocksLaw
over_any_clocks = any_clocks_law heard

pub scanned : ScansLaw
scanned = scans_law heard
