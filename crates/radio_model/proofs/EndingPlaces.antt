-- The station at a place, with its mark, next to a transmission that ends.
use Rattle.std.proofs.Common.{◌≡◌, ℕ, ◌<◌, ◌∙◌, List, length, get_or, sym, ap, arith}
use Rattle.std.proofs.lemmas.List.{get_or_default}
use Rattle.radio_model.specs.Endings.{IsEnding}
use Rattle.radio_model.specs.Marks.{IsAlike}
use Rattle.radio_model.specs.Stations.{on_air}
use Rattle.radio_model.specs.declared.ending.Ending.{Ending}
use Rattle.radio_model.specs.declared.mark.Mark.{Mark}
use Rattle.radio_model.specs.declared.station.Station.{Station}

-- it is the same, whatever the default
pub the_station : (sts : List Station) (i k : ℕ) (d e : Station) → i ≡ k → k < length sts → get_or sts i d ≡ get_or sts k e
the_station sts i k d e same below = ap (λ (n : ℕ). get_or sts n d) same ∙ get_or_default sts k d e below

pub alike_at : (nodes : List ℕ) (e : Ending) → IsEnding nodes e → (k : ℕ) (d : Station) (f : Mark) → k < length e.stations.now
    → IsAlike (on_air (get_or e.stations.now k d)) (get_or e.stations.now k d).node (get_or e.marks.now k f) e.origin e.x.now
alike_at nodes e is k d f below =
    let st = get_or e.stations.now k d in
    let mk = get_or e.marks.now k f in
    is.alike k st mk (record {
      below = below;
      station = sym (get_or_default e.stations.now k d st below);
      mark = sym (get_or_default e.marks.now k f mk (omega (arith, below, is.marks.one_each)));
    })
