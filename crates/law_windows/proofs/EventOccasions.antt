-- Events of a window, and what happened in it.
use Rattle.std.proofs.Common.{◌≡◌, inl, inr, List, [], ◌∷◌, ◌++◌, Contains, fold, map, refl, sym, ◌∙◌, ap}
use Rattle.glossy_relay.specs.FloodState.{FloodState}
use Rattle.air_log.specs.NodeEvents.{Event, Heard, Ended, EventOccasion, flood_after_event, flood_after_events, event_occasions}
use Rattle.lwb_base.proofs.Elements.{not_in_none, contains_head, contains_tail, contains_cases}
use Rattle.law_windows.specs.WindowEvents.{happening_of}
use Rattle.law_windows.specs.WindowFloods.{after_happening}
use Rattle.law_windows.proofs.ListEnds.{nothing_in}

-- where an element of a map comes from
pub record ComesFrom {X Y : Type 0} (f : X → Y) (xs : List X) (before : List Y) (y : Y) : Type 0 where
  pub first : List X
  pub at : X
  pub rest : List X
  pub is : xs ≡ first ++ at ∷ rest
  pub before_is : map f first ≡ before
  pub at_is : f at ≡ y

pub comes_from : {X Y : Type 0} (f : X → Y) (xs : List X) (before : List Y) (y : Y) (after : List Y) → map f xs ≡ before ++ y ∷ after → ComesFrom f xs before y
comes_from f [] before y after is = absurd (nothing_in y before after is)
comes_from f (x ∷ xs) [] y after is = let same : f x ≡ y = cc in record { first = []; at = x; rest = xs; is = refl; before_is = refl; at_is = same }
comes_from {X = X} {Y = Y} f (x ∷ xs) (b ∷ before) y after is =
    let same : f x ≡ b = cc in
    let later : map f xs ≡ before ++ y ∷ after = cc in
    let c = comes_from f xs before y after later in
    record {
      first = x ∷ c.first;
      at = c.at;
      rest = c.rest;
      is = ap (λ (l : List X). x ∷ l) c.is;
      before_is = ap (λ (u : Y). u ∷ map f c.first) same ∙ ap (λ (l : List Y). b ∷ l) c.before_is;
      at_is = c.at_is;
    }

pub map_parts : {X Y : Type 0} (f : X → Y) (xs : List X) (x : X) (ys : List X) → map f (xs ++ x ∷ ys) ≡ map f xs ++ f x ∷ map f ys
map_parts f [] x ys = refl
map_parts {Y = Y} f (z ∷ xs) x ys = ap (λ (l : List Y). f z ∷ l) (map_parts f xs x ys)

-- what events make of a flood, their happenings make of it
pub same_flood : (f : FloodState) (es : List Event) → flood_after_events f es ≡ fold after_happening f (map happening_of es)
same_flood f [] = refl
same_flood f (Heard x ∷ es) = same_flood (flood_after_event f (Heard x)) es
same_flood f (Ended x ∷ es) = same_flood (flood_after_event f (Ended x)) es

-- the occasion of an event among others
pub occasion_at : (f : FloodState) (first : List Event) (e : Event) (rest : List Event) → Contains (event_occasions f (first ++ e ∷ rest)) (record {
  before = flood_after_events f first;
  event = e;
})
occasion_at f [] e rest = contains_head (record { before = f; event = e }) (event_occasions (flood_after_event f e) rest)
occasion_at f (d ∷ first) e rest = contains_tail (record { before = f; event = d }) (event_occasions (flood_after_event f d) (first ++ e ∷ rest)) _
    (occasion_at (flood_after_event f d) first e rest)

pub record IsOccasion (f : FloodState) (es : List Event) (o : EventOccasion) : Type 0 where
  pub first : List Event
  pub rest : List Event
  pub is : es ≡ first ++ o.event ∷ rest
  pub before : o.before ≡ flood_after_events f first

pub occasion_of : (f : FloodState) (es : List Event) (o : EventOccasion) → Contains (event_occasions f es) o → IsOccasion f es o
occasion_of f [] o there = absurd (not_in_none o there)
occasion_of f (e ∷ es) o there = elim (contains_cases (record { before = f; event = e }) (event_occasions (flood_after_event f e) es) o there) [
  | inl same ↦ record { first = []; rest = es; is = ap (λ (p : EventOccasion). p.event ∷ es) same; before = sym (ap (λ (p : EventOccasion). p.before) same) }
  | inr later ↦ (let c = occasion_of (flood_after_event f e) es o later in record {
    first = e ∷ c.first;
    rest = c.rest;
    is = ap (λ (l : List Event). e ∷ l) c.is;
    before = c.before;
  })
]
