-- A node more where a slot closes.
use Rattle.std.proofs.Common.{◌≡◌, ◌<◌, ◌+◌, ◌++◌, ℕ, List, true, Option, Some, length, map, take, get_or, set, filter_map, option_to_list, sym}
use Rattle.std.proofs.Common.{◌∙◌, ap, subst, append_assoc}
use Rattle.std.proofs.lemmas.List.{get_or-map, get_or_default, take_more_set}
use Rattle.lwb_base.proofs.Lists.{filter_map_more}
use Rattle.bus_rules.specs.Slots.{Message}
use Rattle.bus_rules.specs.declared.delivery.Delivery.{Delivery}
use Rattle.bus_rules.specs.declared.part.Part.{Part}
use Rattle.bus_terms.specs.Flooding.{has}
use Rattle.plain_bus.specs.BusNodes.{BusNode, MayAcceptIn}
use Rattle.plain_bus.specs.Closings.{Behind, IsBehind, AllMay, heard_in, heard_at, closed_node, delivers_node}
use Rattle.plain_bus.specs.SlotFloods.{Seen, seen_window, node_closed, node_delivers}
use Rattle.plain_bus.specs.declared.station.Station.{Station}
use Rattle.plain_bus.specs.declared.window.Window.{Window}
use Rattle.plain_bus.proofs.ListsInPlace.{one_more_mapped}
use Rattle.plain_bus.proofs.SaidBehind.{window_at, first_at, as_many}
use Rattle.plain_bus.proofs.TextFloods.{has_element}

module _ (b : Behind) (ids : List ℕ) (ws : List Window) (xs : List Station) (behind : IsBehind b ids ws xs) (same : length ws ≡ length xs)
    (n : ℕ → BusNode) (olds : List BusNode) (are : olds ≡ map n ids) (frame : ℕ) (may : AllMay frame b ids n)
    (i : ℕ) (here : i < length xs) (w : Window) (w_at : w ≡ get_or ws i w) (x : Station) (x_at : x ≡ get_or xs i x) (m : BusNode)
    (m_at : m ≡ get_or olds i m) where
  abbrev v : ℕ
  v = get_or ids i 0

  pub in_ids : i < length ids
  in_ids = subst (λ (k : ℕ). i < k) (as_many b ids ws xs behind) here

  pub origin_here : (o k : ℕ) → x.heard ≡ Some (o, k) → has ids o ≡ true
  origin_here o k is = behind.here v o k (sym (first_at b ids ws xs behind i x here x_at) ∙ is)

  node_is : m ≡ n v
  node_is = m_at ∙ ap (λ (l : List BusNode). get_or l i m) are ∙ get_or-map n ids i 0 m in_ids

  window_is : seen_window w ≡ b.window v
  window_is = window_at b ids ws xs behind i w (subst (λ (k : ℕ). i < k) (sym same) here) in_ids w_at

  module _ (h : Option Message) (heard : h ≡ heard_in b w.initiates x.heard) where
    heard_is : h ≡ heard_at b v
    heard_is =
        heard ∙ ap (λ (y : Seen). heard_in b y.initiates x.heard) window_is
        ∙ ap (heard_in b (b.window v).initiates) (first_at b ids ws xs behind i x here x_at)

    pub may_here : MayAcceptIn m.setup frame m.state h
    may_here = subst (λ (z : BusNode). MayAcceptIn z.setup frame z.state h) (sym node_is)
        (subst (λ (g : Option Message). MayAcceptIn (n v).setup frame (n v).state g) (sym heard_is) (may v (has_element ids i in_ids)))

    v_at : v ≡ get_or ids i v
    v_at = get_or_default ids i 0 v in_ids

    pub closed_more : (f : ℕ) (part : Part) (now : List BusNode) (y : BusNode) → i < length now → y ≡ node_closed f part (seen_window w) h m
        → take i now ≡ take i (map (closed_node b f part n) ids) → take (i + 1) (set now i y) ≡ take (i + 1) (map (closed_node b f part n) ids)
    closed_more f part now y there is done =
        take_more_set now i y there
        ∙ one_more_mapped (closed_node b f part n) ids i v (take i now) y in_ids v_at done
        (is ∙ ap (λ (s : Seen). node_closed f part s h m) window_is ∙ ap (λ (g : Option Message). node_closed f part (b.window v) g m) heard_is
        ∙ ap (node_closed f part (b.window v) (heard_at b v)) node_is)

    pub delivered_more : (rank f j : ℕ) (part : Part) (before old new : List Delivery)
        → old ≡ before ++ filter_map (delivers_node b rank f j part n) (take i ids)
        → new ≡ old ++ option_to_list (node_delivers rank f j part (seen_window w) h m)
        → new ≡ before ++ filter_map (delivers_node b rank f j part n) (take (i + 1) ids)
    delivered_more rank f j part before old new so_far more =
        let g = delivers_node b rank f j part n in
        let d : Option Delivery = node_delivers rank f j part (seen_window w) h m in
        let same_d : d ≡ g v = ap (λ (s : Seen). node_delivers rank f j part s h m) window_is
        ∙ ap (λ (k : Option Message). node_delivers rank f j part (b.window v) k m) heard_is
        ∙ ap (node_delivers rank f j part (b.window v) (heard_at b v)) node_is in
        more ∙ ap (λ (l : List Delivery). l ++ option_to_list d) so_far
        ∙ append_assoc before (filter_map g (take i ids)) (option_to_list d)
        ∙ ap (λ (l : List Delivery). before ++ l)
        (ap (λ (e : Option Delivery). filter_map g (take i ids) ++ option_to_list e) same_d ∙ sym (filter_map_more g ids i v in_ids v_at))
