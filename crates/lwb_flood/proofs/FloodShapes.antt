-- The medium and the nodes of a flood's world are of the same ids, and stay so.
use Rattle.std.proofs.Common.{◌≡◌, ℕ, map, Option, None, List, refl, sym, ◌∙◌, ap, subst}
use Rattle.air_log.specs.declared.entry.Entry.{Entry}
use Rattle.radio_model.specs.declared.sending.Sending.{Sending}
use Rattle.radio_model.specs.Stations.{IsMedium, nodes_of, medium_after_change, station_after_tuning, station_after_start, station_after_end}
use Rattle.radio_model.proofs.Places.{still_medium, Keeps}
use Rattle.radio_model.proofs.Changes.{retuned_keeps, started_keeps, finished_keeps}
use Rattle.radio_model.proofs.OneStation.{same_nodes}
use Rattle.lwb_flood.specs.declared.member.Member.{Member}
use Rattle.lwb_flood.specs.declared.member.Act.TheVariants.{Sends, Off}
use Rattle.lwb_flood.specs.FloodWorlds.{World, IsShape, node_of_member, with_change, member_with_act, world_after_start, gone, own_ended}
use Rattle.lwb_flood.specs.FloodWorlds.{world_after_reception, hearing_by, after_own}
use Rattle.lwb_flood.proofs.WorldLists.{nodes_kept}
use Rattle.radio_model.specs.declared.station.Station.{Station}

module _ (w : World) (is : IsShape w) where
  changed : (v t : ℕ) (f : Station → Station) → Keeps f → (change : Member → Member) → ((m : Member) → (change m).node ≡ m.node)
      → (map node_of_member (with_change v change w.members) ≡ nodes_of (medium_after_change t v f w.medium)) × IsMedium (medium_after_change t v f w.medium)
  changed v t f keeps change same =
      (nodes_kept v change same w.members ∙ is.nodes ∙ sym (same_nodes w.medium t v f keeps.node), still_medium f keeps v t w.medium is.medium)

  pub begun_shape : (x : Sending) → IsShape (world_after_start x w)
  begun_shape x =
      let both = changed x.node x.start (station_after_start w.medium.numbers x.start x.packet) (started_keeps w.medium.numbers x.start x.packet)
      (member_with_act (Sends x)) (λ m. refl) in record { nodes = both.0; medium = both.1 }

  pub gone_shape : (v t : ℕ) → IsShape (gone v t w)
  gone_shape v t =
      let none : Option ℕ = None in let both = changed v t (station_after_tuning none t) (retuned_keeps none t) (member_with_act Off) (λ m. refl) in record {
        nodes = both.0;
        medium = both.1;
      }

  pub own_ended_shape : (x : Sending) → IsShape (own_ended x w)
  own_ended_shape x = let both = changed x.node x.end station_after_end finished_keeps after_own (λ m. refl) in record { nodes = both.0; medium = both.1 }

  pub heard_shape : (clock : ℕ → ℕ) (x : Sending) (v : ℕ) → IsShape (world_after_reception clock x v w)
  heard_shape clock x v = record { nodes = nodes_kept v (hearing_by clock x) (λ m. refl) w.members ∙ is.nodes; medium = is.medium }

-- by what the code made of it
module _ (inside old new : World) (is : IsShape inside) (view : inside ≡ old) where
  pub begun_stays : (x : Sending) → new ≡ world_after_start x old → IsShape new
  begun_stays x same = subst IsShape (sym same) (begun_shape old (subst IsShape view is) x)

  pub gone_stays : (v t : ℕ) → new ≡ gone v t old → IsShape new
  gone_stays v t same = subst IsShape (sym same) (gone_shape old (subst IsShape view is) v t)

pub hearing_shape : (inside : World) → IsShape inside → (clock : ℕ → ℕ) (x : Sending) (v : ℕ) (members : List Member) (air : List Entry)
    → members ≡ with_change v (hearing_by clock x) inside.members
    → IsShape (record { medium = inside.medium; members = members; air = air })
hearing_shape inside is clock x v members air same =
    record { nodes = ap (map node_of_member) same ∙ (heard_shape inside is clock x v).nodes; medium = is.medium }
