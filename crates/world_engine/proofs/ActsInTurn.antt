-- A step at one device, as a change that comes to the same, or of a field that is seen as another.
use Rattle.std.proofs.Common.{◌≡◌, ℕ, List, [], ◌∷◌, map, refl, sym, ◌∙◌, ap, subst}
use Rattle.event_calendar.specs.Orders.{Due}
use Rattle.bus_rules.specs.Cores.{Setup}
use Rattle.bus_rules.specs.declared.delivery.DropLine.{DropLine}
use Rattle.radio_model.specs.declared.sending.Sending.{Sending}
use Rattle.air_log.specs.Devices.{Device}
use Rattle.air_log.specs.DeviceStates.{DeviceState}
use Rattle.world_engine.specs.Fields.{FieldState, FieldShows, setup_of_device, id_of, setups_of, ids_of}
use Rattle.world_engine.specs.FieldSteps.{Acts}
use Rattle.world_engine.proofs.GoesOn.{id_in}

-- devices of the same setups have the same ids
ids_by : (ds es : List DeviceState) → map setup_of_device ds ≡ map setup_of_device es → map id_of ds ≡ map id_of es
ids_by ds es same = by_setups ds ∙ ap (λ (l : List Setup). map id_in l) same ∙ sym (by_setups es)
  where
    by_setups : (ds : List DeviceState) → map id_of ds ≡ map id_in (map setup_of_device ds)
    by_setups [] = refl
    by_setups (d ∷ ds) = ap (λ (l : List ℕ). d.setup.id ∷ l) (by_setups ds)

pub same_ids : (v w : FieldState) → setups_of v ≡ setups_of w → ids_of v ≡ ids_of w
same_ids v w same = ids_by v.devices w.devices same

-- a change that comes to the same at the device that the place has
pub acts_as : (t p : ℕ) (f g : Setup → Device → Device) (xs : List Sending) (ks : List DropLine) (v w : FieldState) (dv dw : List Due)
    → ((s : Setup) (d : Device) → FieldShows s t v dv p d → f s d ≡ g s d) → Acts t p f xs ks v dv w dw → Acts t p g xs ks v dv w dw
acts_as t p f g xs ks v w dv dw same a = record {
  own = λ s d shows. subst (λ (e : Device). FieldShows s t w dw p e) (same s d shows) (a.own s d shows);
  others = a.others;
  hearings = a.hearings;
  sendings = a.sendings;
  drops = a.drops;
  air = a.air;
  same = a.same;
}

-- from a field that is seen as another
pub acts_seen : {t p : ℕ} {f : Setup → Device → Device} {xs : List Sending} {ks : List DropLine} {v w x : FieldState} {dv dx : List Due} → v ≡ w
    → Acts t p f xs ks v dv x dx → Acts t p f xs ks w dv x dx
acts_seen {t} {p} {f} {xs} {ks} {v} {w} {x} {dv} {dx} same a = subst (λ (z : FieldState). Acts t p f xs ks z dv x dx) same a
