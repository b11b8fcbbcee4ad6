-- Those that the medium names are those that receive.
use Rattle.std.proofs.Common.{◌≡◌, ℕ, ◌<◌, ◌≤◌, ◌↔◌, List, Option, Some, option_to_list, sym, ◌∙◌, ap, subst, arith, Contains, All, AllPairs, IfSome}
use Rattle.std.proofs.lemmas.List.Elements.{Contains-append_right}
use Rattle.link_trace.specs.Passes.{Lines}
use Rattle.radio_model.specs.OnAir.{Sending}
use Rattle.radio_model.specs.Hearing.{Scene, HearsInScene}
use Rattle.radio_model.specs.Stations.{MediumState, IsMedium, id_of_station, nodes_of, station_of, sending_of_station, Ends}
use Rattle.radio_model.specs.Meetings.{hearers_to, is_heard, key_of, rivals_to}
use Rattle.radio_model.specs.Holding.{Holds, as_it_stands}
use Rattle.lwb_base.proofs.Elements.{map_from, of_option}
use Rattle.radio_model.proofs.OneCall.{found_member}
use Rattle.radio_model.proofs.Heard.{hearers_are}
use Rattle.radio_model.proofs.HearersInOrder.{one_sender, by_hearer}

some_same : (w z : Sending) (o : Option Sending) → o ≡ Some w → o ≡ Some z → w ≡ z
some_same w z o is_w is_z = let both : Some w ≡ Some z = sym is_w ∙ is_z in cc

module _ (m : MediumState) (is : IsMedium m) (u t : ℕ) (ends : Ends m u t) (lines : Lines) (heard : List (ℕ × ℕ))
    (listed : IfSome (sending_of_station (station_of m u)) (λ x. heard ≡ hearers_to m.numbers lines u x m.stations)) where
  list_is : (x : Sending) → sending_of_station (station_of m u) ≡ Some x → heard ≡ hearers_to m.numbers lines u x m.stations
  list_is x runs = subst (λ (o : Option Sending). IfSome o (λ y. heard ≡ hearers_to m.numbers lines u y m.stations)) runs listed

  pub names_one_sender : All (λ (q : ℕ × ℕ). q.1 ≡ u) heard
  names_one_sender =
      let x = ends.sending in
      subst (All (λ (q : ℕ × ℕ). q.1 ≡ u)) (sym (list_is x ends.runs))
      (one_sender (is_heard lines u x (key_of m.numbers x) (rivals_to m.numbers x m.stations)) u m.stations)

  pub names_in_order : AllPairs (λ (q r : ℕ × ℕ). q.0 < r.0) heard
  names_in_order =
      let x = ends.sending in
      subst (AllPairs (λ (q r : ℕ × ℕ). q.0 < r.0)) (sym (list_is x ends.runs))
      (by_hearer (is_heard lines u x (key_of m.numbers x) (rivals_to m.numbers x m.stations)) u m.stations is.nodes.ascending)

  pub names_who_hears : Contains (nodes_of m) u → m.now ≤ t → (a : Scene) (x : Sending) → Holds m a → a.lines ≡ lines
      → sending_of_station (station_of m u) ≡ Some x → (v : ℕ) → Contains heard (v, u) ↔ (Contains (nodes_of m) v × HearsInScene (as_it_stands m t a) v x)
  names_who_hears member later a x h same runs v =
      let s = map_from id_of_station m.stations u member in
      let found : station_of m u ≡ Some s.0 = ap (station_of m) (sym s.2) ∙ found_member m.stations s.0 is.nodes.ascending s.1 in
      let sends : s.0.sending ≡ Some x = sym (ap sending_of_station found) ∙ runs in
      let until : x.end ≡ t = ap (λ (y : Sending). y.end) (some_same x ends.sending (sending_of_station (station_of m u)) runs ends.runs) ∙ ends.until in
      let are = hearers_are m is a h u s.0 s.1 s.2 x sends
      (Contains-append_right s.0.ended.items (option_to_list s.0.sending) x (of_option s.0.sending x sends)) (omega arith) v in
      let list : hearers_to m.numbers a.lines u x m.stations ≡ heard = ap (λ (l : Lines). hearers_to m.numbers l u x m.stations) same ∙ sym (list_is x runs) in
      subst (λ (n : ℕ). Contains heard (v, u) ↔ (Contains (nodes_of m) v × HearsInScene (as_it_stands m n a) v x)) until
      (subst (λ (l : List (ℕ × ℕ)). Contains l (v, u) ↔ (Contains (nodes_of m) v × HearsInScene (as_it_stands m x.end a) v x)) list are)
