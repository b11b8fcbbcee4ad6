-- A transmission that ends, with what the medium knows of it.
use Rattle.std.specs.Prelude.{◌≡◌, ℕ, ◌+◌, true, ◌<◌, ◌≤◌, ◌^◌, All, List, length, map, slice_index_or}
use Rattle.std.specs.Int.{bit_at}
use Rattle.std.specs.List.{list_any}
use Rattle.lwb_base.specs.declared.limits.TheConstants.{MOST_NODES}
use Rattle.radio_model.specs.Ages.{IsAged}
use Rattle.radio_model.specs.Marks.{AreMarks, AreAlikeTo, comes_close}
use Rattle.radio_model.specs.Meetings.{key_of, rivals_in, rivals_to, IsInOneFrame, IsPlaceOf}
use Rattle.radio_model.specs.Recent.{AreAmong}
use Rattle.radio_model.specs.Stations.{id_of_station, on_air, overlaps}
use Rattle.radio_model.specs.declared.ending.Ending.{Ending}
use Rattle.radio_model.specs.declared.mark.Mark.{Mark}
use Rattle.radio_model.specs.declared.rivals.Rival.{Rival}
use Rattle.radio_model.specs.declared.station.Station.{Station}

-- what this station sends next to x on its channel, and what all stations send so
abbrev pub rivals_at : Ending → Station → List Rival
rivals_at e st = rivals_in e.profile.now e.x.now st

abbrev pub rivals_of : Ending → List Rival
rivals_of e = rivals_to e.profile.now e.x.now e.stations.now

-- the transmission x ends over these nodes, and all that is said of it is so
pub record IsEnding (nodes : List ℕ) (e : Ending) : Type 0 where
  pub start : e.x.now.start ≤ 2 ^ 46
  pub end : e.x.now.end ≤ 2 ^ 46
  pub key : e.key ≡ key_of e.profile.now e.x.now
  pub opens : IsInOneFrame e.profile.now.frame e.x.now.start e.opens
  pub delta : (e.delta ≡ e.profile.now.delta) × (e.delta ≤ 2 ^ 32)
  -- the stations are those of the nodes, each at its place
  pub few : length e.stations.now ≤ MOST_NODES
  pub seal : nodes ≡ map id_of_station e.stations.now
  pub placed : All (λ st. IsPlaceOf nodes st.place st.node) e.stations.now
  pub in_order : (k : ℕ) (d : Station) → k < length e.stations.now → (slice_index_or e.stations.now k d).place ≡ k
  -- all that ended is over by the end of x, and marks and origins are right
  pub aged : All (λ st. IsAged e.x.now.end st.ended.items) e.stations.now
  pub marks : AreMarks e.stations.now e.marks.now
  pub alike : AreAlikeTo e.stations.now e.marks.now e.origin e.x.now
  -- those that it knows to be busy send next to x
  pub busy : (k : ℕ) (d : Station) → k < length e.stations.now → bit_at e.busy k ≡ 1
      → list_any (overlaps e.x.now) (on_air (slice_index_or e.stations.now k d)) ≡ true
  -- the rivals are at its places, and by their marks they come close, if that is said
  pub among : AreAmong e.profile.now e.x.now e.stations.now e.places
  pub close_by : e.close ≡ true → (k : ℕ) (d : Mark) → bit_at e.places k ≡ 1
      → comes_close e.opens (e.x.now.start + e.delta) e.x.now e.origin (slice_index_or e.marks.now k d) ≡ true
