-- What a node said, read off the windows and the stations after a flood.
use Rattle.std.proofs.Common.{◌≡◌, ◌<◌, ℕ, List, Option, None, sym, ◌∙◌, ap, length, map, get_or, subst}
use Rattle.std.proofs.lemmas.List.{get_or-map, length-map}
use Rattle.plain_bus.specs.Closings.{Behind, IsBehind}
use Rattle.plain_bus.specs.SlotFloods.{Seen, seen_window}
use Rattle.plain_bus.specs.declared.station.Station.{Station}
use Rattle.plain_bus.specs.declared.window.Window.{Window}

module _ (b : Behind) (ids : List ℕ) (ws : List Window) (xs : List Station) (behind : IsBehind b ids ws xs) where
  abbrev id_of : Station → ℕ
  id_of x = x.node

  pub as_many : length xs ≡ length ids
  as_many = sym (length-map xs id_of) ∙ ap length behind.ids

  pub id_at : (i : ℕ) (x : Station) → i < length xs → x ≡ get_or xs i x → get_or ids i 0 ≡ x.node
  id_at i x below at = ap (λ (l : List ℕ). get_or l i 0) (sym behind.ids) ∙ get_or-map id_of xs i x 0 below ∙ ap id_of (sym at)

  pub window_at : (i : ℕ) (w : Window) → i < length ws → i < length ids → w ≡ get_or ws i w → seen_window w ≡ b.window (get_or ids i 0)
  window_at i w below there at =
      ap seen_window at ∙ sym (get_or-map seen_window ws i w (seen_window w) below) ∙ ap (λ (l : List Seen). get_or l i (seen_window w)) behind.windows
      ∙ get_or-map b.window ids i 0 (seen_window w) there

  pub first_at : (i : ℕ) (x : Station) → i < length xs → x ≡ get_or xs i x → x.heard ≡ b.first (get_or ids i 0)
  first_at i x below at =
      let first_of : Station → Option (ℕ × ℕ) = λ y. y.heard in
      ap first_of at ∙ sym (get_or-map first_of xs i x None below) ∙ ap (λ (l : List (Option (ℕ × ℕ))). get_or l i None) behind.firsts
      ∙ get_or-map b.first ids i 0 None (subst (λ (n : ℕ). i < n) as_many below)

module _ (b : Behind) (ids : List ℕ) (ws : List Window) (are : map seen_window ws ≡ map b.window ids) where
  pub seen_there : (i origin : ℕ) (w : Window) → i < length ws → i < length ids → get_or ids i 0 ≡ origin → w ≡ get_or ws i w → seen_window w ≡ b.window origin
  seen_there i origin w below there is at =
      ap seen_window at ∙ sym (get_or-map seen_window ws i w (seen_window w) below) ∙ ap (λ (l : List Seen). get_or l i (seen_window w)) are
      ∙ get_or-map b.window ids i 0 (seen_window w) there ∙ ap b.window is
