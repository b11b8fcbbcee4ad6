-- Windows of nodes as the definitions have them, and the flood of a slot by masks.
use Rattle.std.proofs.Common.{◌≡◌, ◌<◌, ℕ, List, [], ◌∷◌, Bool, true, false, ◌&&◌, ◌||◌, ◌==◌, nat_lt, Option, Some, None, is_some, refl, sym, ◌∙◌, ap, length}
use Rattle.std.proofs.Common.{map, get_or, subst, if◌then◌else◌, inl, inr, arith}
use Rattle.std.specs.List.{filter}
use Rattle.std.proofs.lemmas.Bool.{false≢true, eqb-true, or_left, cases_lt, le-ltb}
use Rattle.std.proofs.lemmas.List.{get_or-map, length-map}
use Rattle.link_trace.specs.Masks.{IsMask}
use Rattle.link_trace.specs.Passes.{Lines, passes, captured}
use Rattle.link_trace.specs.Sealed.{Traced}
use Rattle.scenario_text.specs.FloodParts.{IsSealed}
use Rattle.scenario_text.specs.ScenarioParts.{ScenarioParts}
use Rattle.bus_rules.specs.Slots.{Message, Opened, opened_slot}
use Rattle.bus_rules.specs.Cores.{is_member}
use Rattle.bus_rules.specs.declared.part.Part.{Part}
use Rattle.bus_rules.specs.States.{State, StateOff, StateOn}
use Rattle.bus_terms.specs.Flooding.{has}
use Rattle.bus_terms.specs.FloodOfText.{ids}
use Rattle.bus_terms.specs.Rounds.{opened_at, message_said, takes_part, closed_slot_of, flood_in_slot}
use Rattle.scenario_text.specs.Setups.{setup_of}
use Rattle.plain_bus.specs.BusNodes.{window_of_state, state_opened, closed_of}
use Rattle.plain_bus.specs.SlotFloods.{AreWindows, Seen, seen_window, seen_by}
use Rattle.plain_bus.specs.declared.window.Window.{Window}
use Rattle.plain_bus.specs.FloodMasks.{IsMaskedFlood}
use Rattle.plain_bus.specs.declared.station.Flood.{Flood}
use Rattle.plain_bus.proofs.TextFloods.{has_element}

-- a node's window is that of its state
pub window_at : (s : ScenarioParts) (rank f : ℕ) (part : Part) (v : ℕ) (x : State) → window_of_state (setup_of s v) rank f part x ≡ opened_at s rank f part v x
window_at s rank f part v (StateOff boots) = refl
window_at s rank f part v (StateOn c) = refl

-- and so is its closing, from the state that its opening left
pub closing_at : (s : ScenarioParts) (rank f : ℕ) (part : Part) (v : ℕ) (x : State) (heard : Option Message)
    → closed_of (setup_of s v) f part (is_some (opened_at s rank f part v x)) (is_some (message_said (opened_at s rank f part v x))) heard
    (state_opened (setup_of s v) rank f part x)
    ≡ closed_slot_of s f part v (opened_at s rank f part v x) heard x
closing_at s rank f part v (StateOff boots) None = refl
closing_at s rank f part v (StateOff boots) (Some m) = refl
closing_at s rank f part v (StateOn c) heard = by_member (is_member rank f c) heard
  where
    by_member : (b : Bool) (heard : Option Message)
        → (let window : Option Opened = if b then Some (opened_slot (setup_of s v) f part c) else None in
        closed_of (setup_of s v) f part (is_some window) (is_some (message_said window)) heard
        (StateOn (if b then (opened_slot (setup_of s v) f part c).core else c))
        ≡ closed_slot_of s f part v window heard (StateOn c))
    by_member true heard = refl
    by_member false None = refl
    by_member false (Some m) = refl

-- who is one of the nodes that pass a test
pub has_filtered : (p : ℕ → Bool) (xs : List ℕ) (v : ℕ) → has (filter p xs) v ≡ (has xs v && p v)
has_filtered p [] v = refl
has_filtered p (x ∷ xs) v = by_test (p x) (x == v) refl refl (has_filtered p xs v)
  where
    none : (a b : Bool) → b ≡ false → (a && b) ≡ b
    none true b not = refl
    none false b not = sym not

    by_test : (b e : Bool) → p x ≡ b → (x == v) ≡ e → has (filter p xs) v ≡ (has xs v && p v) → has (if b then x ∷ filter p xs else filter p xs) v
        ≡ ((e || has xs v) && p v)
    by_test true true is same rest = or_left (x == v) (has (filter p xs) v) same ∙ sym (ap p (sym (eqb-true x v same)) ∙ is)
    by_test true false is other rest = ap (λ (e : Bool). e || has (filter p xs) v) other ∙ rest
    by_test false true is same rest = rest ∙ none (has xs v) (p v) (ap p (sym (eqb-true x v same)) ∙ is)
    by_test false false is other rest = rest

filtered_element : (p : ℕ → Bool) (xs : List ℕ) (i : ℕ) → i < length xs → has (filter p xs) (get_or xs i 0) ≡ p (get_or xs i 0)
filtered_element p xs i below = has_filtered p xs (get_or xs i 0) ∙ ap (λ (b : Bool). b && p (get_or xs i 0)) (has_element xs i below)

mask_of_filtered : (p : ℕ → Bool) (xs : List ℕ) (mask : ℕ) → IsMask p xs mask → IsMask (has (filter p xs)) xs mask
mask_of_filtered p xs mask is i = is i ∙ elim (cases_lt i (length xs)) [
  | inl below ↦ ap (λ (b : Bool). if nat_lt i (length xs) && b then 1 else 0) (sym (filtered_element p xs i below))
  | inr far ↦ rw (le-ltb i (length xs) far) refl
]

pub first_of : (a b : Bool) → (a && b) ≡ true → a ≡ true
first_of true b is = refl
first_of false b is = is

second_of : (a b : Bool) → (a && b) ≡ true → b ≡ true
second_of true b is = is
second_of false b is = absurd (false≢true is)

-- who says something takes part
saying : (rank : ℕ) (part : Part) (x : State) (window : Option Opened) → is_some (message_said window) ≡ true → takes_part rank part x window ≡ true
saying rank part x None is = absurd (false≢true is)
saying rank part x (Some o) is = refl

module _ (s : ScenarioParts) (t : Traced) (rank f j : ℕ) (part : Part) (states : ℕ → State) (x : Flood) where
  abbrev window : ℕ → Option Opened
  window v = opened_at s rank f part v (states v)

  abbrev says : ℕ → Bool
  says v = is_some (message_said (window v))

  abbrev joins : ℕ → Bool
  joins v = takes_part rank part (states v) (window v)

  pub flood_of_slot : t.lines ≡ s.trace → IsSealed t s.nodes
      → x ≡ record { frame = f; slot = j; limit = s.sends; initiators = x.initiators; everyone = x.everyone; lone = None }
      → IsMask says (ids s.nodes) x.initiators → IsMask joins (ids s.nodes) x.everyone → IsMaskedFlood (flood_in_slot s rank f j part states window) t x
  flood_of_slot lines sealed is initiators everyone = record {
    limit = sym (ap (λ (y : Flood). y.limit) is);
    links = λ k u v. ap (λ (l : Lines). passes l f j k u v) (sym lines) ∙ ap (λ (y : Flood). passes t.lines y.frame y.slot k u v) (sym is);
    captures = λ k v. ap (λ (l : Lines). captured l f j k v) (sym lines) ∙ ap (λ (y : Flood). captured t.lines y.frame y.slot k v) (sym is);
    initiators = subst (λ (ns : List ℕ). IsMask (has (filter says (ids s.nodes))) ns x.initiators) (sym sealed)
        (mask_of_filtered says (ids s.nodes) x.initiators initiators);
    everyone = subst (λ (ns : List ℕ). IsMask (has (filter joins (ids s.nodes))) ns x.everyone) (sym sealed)
        (mask_of_filtered joins (ids s.nodes) x.everyone everyone);
    here = λ v there. ap (λ (ns : List ℕ). has ns v) sealed ∙ first_of (has (ids s.nodes) v) (joins v) (sym (has_filtered joins (ids s.nodes) v) ∙ there);
    inside = λ v there.
        (let both : (has (ids s.nodes) v && says v) ≡ true = sym (has_filtered says (ids s.nodes) v) ∙ there in
        has_filtered joins (ids s.nodes) v
        ∙ ap (λ (b : Bool). b && joins v) (first_of (has (ids s.nodes) v) (says v) both)
        ∙ saying rank part (states v) (window v) (second_of (has (ids s.nodes) v) (says v) both));
    lone = λ o v at there. absurd (no_lone o (sym (ap (λ (y : Flood). y.lone) is) ∙ at));
  }
    where
      no_lone : (o : ℕ) → ◌≡◌ {A = Option ℕ} None (Some o) → ⊥
      no_lone o is = cc

-- one place more of two lists of tests
pub same_test : {W : Type 0} (g : W → Bool) (ws : List W) (test : ℕ → Bool) (nodes : List ℕ) (i : ℕ) (w : W) → map g ws ≡ map test nodes → i < length ws
    → w ≡ get_or ws i w → (i < length nodes) × (test (get_or nodes i 0) ≡ g w)
same_test g ws test nodes i w same below is =
    let size : length ws ≡ length nodes = sym (length-map ws g) ∙ ap length same ∙ length-map nodes test in
    let here : i < length nodes = omega (arith, below, size) in
    (here, sym (get_or-map test nodes i 0 false here) ∙ ap (λ (l : List Bool). get_or l i false) (sym same) ∙ get_or-map g ws i w false below ∙ ap g (sym is))

-- the windows of the nodes in these states
pub map_of_map : {X Y Z : Type 0} (g : Y → Z) (h : X → Y) (xs : List X) → map (λ x. g (h x)) xs ≡ map g (map h xs)
map_of_map g h [] = refl
map_of_map g h (x ∷ xs) = ap (λ (l : List _). g (h x) ∷ l) (map_of_map g h xs)

pub map_same : {X Y : Type 0} (g h : X → Y) → ((x : X) → g x ≡ h x) → (xs : List X) → map g xs ≡ map h xs
map_same g h same xs i = map (λ x. same x i) xs

module _ (s : ScenarioParts) (rank f : ℕ) (part : Part) (states : ℕ → State) (ws : List Window)
    (are : map seen_window ws ≡ map (λ v. seen_by rank part (states v) (opened_at s rank f part v (states v))) (ids s.nodes)) where
  told : (g : Seen → Bool) → map (λ w. g (seen_window w)) ws ≡ map (λ v. g (seen_by rank part (states v) (opened_at s rank f part v (states v)))) (ids s.nodes)
  told g = map_of_map g seen_window ws ∙ ap (map g) are
      ∙ sym (map_of_map g (λ (v : ℕ). seen_by rank part (states v) (opened_at s rank f part v (states v))) (ids s.nodes))

  pub windows_seen : AreWindows s rank f part states ws
  windows_seen = record {
    initiators = told (λ (x : Seen). x.initiates);
    takers = told (λ (x : Seen). x.takes_part);
  }
