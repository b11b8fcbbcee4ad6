-- A flood of some links over the lines of others, with the same nodes and captures.
use Rattle.std.proofs.Common.{◌≡◌, ℕ, List, refl, sym, ◌∙◌, subst}
use Rattle.link_trace.specs.Passes.{Lines}
use Rattle.bus_terms.specs.Flooding.{Moment, Setting}
use Rattle.plain_bus.specs.FloodMasks.{IsMaskedFlood, SendsForInitiators, traced}
use Rattle.plain_bus.specs.declared.station.Flood.{Flood}
use Rattle.drawn_bus.specs.KeptLosses.{flood_over}
use Rattle.drawn_losses.specs.StepLosses.{HaveSameCaptures}

pub over_base : (x : Setting) (base lines : Lines) (others nodes : List ℕ) (f : Flood) → others ≡ nodes → HaveSameCaptures base lines
    → IsMaskedFlood x (traced lines nodes) f → IsMaskedFlood (flood_over base f.frame f.slot x) (traced base others) f
over_base x base lines others nodes f same captures flood =
    subst (λ (l : List ℕ). IsMaskedFlood (flood_over base f.frame f.slot x) (traced base l) f) (sym same) (record {
      limit = flood.limit;
      links = λ k u v. refl;
      captures = λ k v. flood.captures k v ∙ sym (captures f.frame f.slot k v);
      initiators = flood.initiators;
      everyone = flood.everyone;
      here = flood.here;
      inside = flood.inside;
      lone = flood.lone;
    })

pub sends_over : (x : Setting) (base : Lines) (f j : ℕ) (m : Moment) → SendsForInitiators x m → SendsForInitiators (flood_over base f j x) m
sends_over x base f j m known = record { senders = known.senders; origins = known.origins }
