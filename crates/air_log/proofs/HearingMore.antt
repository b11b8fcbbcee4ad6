-- One reception more after those of a list.
use Rattle.std.proofs.Common.{◌≡◌, ℕ, ◌≤◌, List, [], ◌∷◌, ◌++◌, Bool, false, ◌==◌, filter, fold, refl, ◌∙◌, ap, append-nil}
use Rattle.std.proofs.lemmas.Bool.{eq-eqb, le-ltb}
use Rattle.std.proofs.lemmas.List.Elements.{filter-append}
use Rattle.std.proofs.lemmas.List.Sums.{fold-append}
use Rattle.scenario_text.specs.ScenarioParts.{ScenarioParts}
use Rattle.bus_rules.specs.Cores.{Setup}
use Rattle.air_log.specs.Devices.{Device}
use Rattle.air_log.specs.Trails.{Reception, ending_at, device_after_reception, device_after_receptions, before_tick}
use Rattle.air_log.specs.QuietTicks.{ends_before}
use Rattle.air_log.proofs.QuietTicks.{prefix}

without : (p : Reception → Bool) (hs : List Reception) (h : Reception) → p h ≡ false → filter p (hs ++ h ∷ []) ≡ filter p hs
without p hs h fails =
    let none : filter p (h ∷ []) ≡ [] = rw fails refl in
    filter-append p hs (h ∷ []) ∙ ap (λ (l : List Reception). filter p hs ++ l) none ∙ append-nil (filter p hs)

pub earlier_stays : (s : ScenarioParts) (v : ℕ) (clock : ℕ → ℕ) (hs : List Reception) (h : Reception) (t : ℕ) → t ≤ h.end
    → before_tick s v clock (hs ++ h ∷ []) t ≡ before_tick s v clock hs t
earlier_stays s v clock hs h t later = prefix s v clock (hs ++ h ∷ []) hs t (without (ends_before t) hs h (le-ltb h.end t later))

pub heard_now : (clock : ℕ → ℕ) (s : Setup) (t : ℕ) (hs : List Reception) (h : Reception) (d : Device) → h.end ≡ t
    → device_after_receptions clock s t (hs ++ h ∷ []) d ≡ device_after_reception clock s t (device_after_receptions clock s t hs d) h
heard_now clock s t hs h d now =
    let one : ending_at t (h ∷ []) ≡ h ∷ [] = rw (eq-eqb h.end t now) refl in
    let with_it : ending_at t (hs ++ h ∷ []) ≡ ending_at t hs ++ h ∷ [] =
    filter-append (λ (g : Reception). g.end == t) hs (h ∷ []) ∙ ap (λ (l : List Reception). ending_at t hs ++ l) one in
    ap (λ (l : List Reception). fold (device_after_reception clock s t) d l) with_it
    ∙ fold-append (device_after_reception clock s t) d (ending_at t hs) (h ∷ [])
